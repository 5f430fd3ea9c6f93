-- The words that the parser takes are those of a command.
use Rattle.std.proofs.Common.{◌≡◌, ◌⊎◌, ℕ, ◌<◌, arith, get_or, Bool, true, false, List, [], ◌∷◌, Option, Some, None, refl, sym, ap, ap₂, subst, ◌∙◌, inl, inr}
use Rattle.std.specs.Prelude.{if◌then◌else◌, ◌||◌, ◌==◌, not, decimal, Box, IfErr, IfOk, Result, Ok, Err, codes, find, fold, option_map}
use Rattle.std.specs.Box.{box_value}
use Rattle.std.specs.List.{list_any}
use Rattle.std.specs.Str.{bytes_eq}
use Rattle.std.proofs.lemmas.Bool.{or_parts}
use Rattle.std.proofs.lemmas.Bool.Decides.{nat_tests}
use Rattle.std.proofs.lemmas.Fmt.{first_decimal}
use Rattle.std.proofs.lemmas.Slice.Eq.{bytes_eq-Decides}
use Rattle.std.proofs.lemmas.Option.{same_Some}
use Rattle.clap.specs.Words.{App, Shape, Text, built, fault_of, is_simple, is_simple_and_free, subcommand_of, subcommand_rows, takes}
use Rattle.clap.specs.declared.parser.matches.SubCommand.{SubCommand}
use Rattle.clap.specs.declared.parser.matches.ArgMatches.TheViews.{out-SubCommand}
use Rattle.clap.specs.Walk.{Names, Walk, answers_to, nothing_held, walk_from, walked}
use Rattle.clap.specs.Simple.{built_leaf, inherited, names_of, new_shape}
use Rattle.clap.specs.Kinds.{Kinds, or_else}
use Rattle.clap.specs.Faults.{entered_fault, level_fault, stray_fault, turn_fault, walk_fault}
use Rattle.clap.specs.declared.error.kind.ErrorKind.TheVariants as kind
use Rattle.clap.proofs.WalkLemmas.{walk_stopped}
use Rattle.clap.proofs.FaultLemmas.{stopped_fault}
use Rattle.clap.proofs.OnLiterals.{clap_on_literals}
use Rattle.rd_cli.specs.declared.words.Command.{Command}
use Rattle.rd_cli.specs.declared.words.Command.TheVariants as command
use Rattle.rd_cli.specs.Shapes.{HasShape, IsAt, StopsForWords, is_flag, is_path}
use Rattle.rd_cli.specs.declared.stop.Stop.{Stop}
use Rattle.rd_cli.specs.declared.stop.Stop.TheVariants as stop
use Rattle.rd_cli.specs.Parser.{IsNameOf, commands}

-- ---- commands of one word
pub data Plain : Type 0 where
  both : Plain
  trace : Plain
  decode : Plain
  audit : Plain

abbrev pub name_of : Plain → Text
name_of both = codes "both"
name_of trace = codes "trace"
name_of decode = codes "decode"
name_of audit = codes "audit"

abbrev command_of : Plain → Command
command_of both = command.Both
command_of trace = command.Trace
command_of decode = command.Decode
command_of audit = command.Audit

-- ---- words that stray
-- A word that is neither a flag nor a command's name strays, where there are no arguments.
stray : (s : Shape) (names : Names) (word : Text) → is_flag word ≡ false → find (answers_to word) names ≡ None → turn_fault (record s { rules = [] }) names (walk_from nothing_held) word ≡ stray_fault s
stray s names [] plain none = rw none refl
stray s names (byte ∷ rest) plain none = rw (none, plain, plain) refl

-- which is a fault
some_stray : (is_leaf : Bool) → (if is_leaf then kind.UnknownArgument ∷ [] else kind.UnknownArgument ∷ kind.InvalidSubcommand ∷ []) ≡ [] → ⊥
some_stray true none = absurd (cc)
some_stray false none = absurd (cc)

-- where there is no fault, there is no first one
clear : (first others : Kinds) → or_else first others ≡ [] → first ≡ []
clear [] others none = refl
clear (kind ∷ kinds) others none = none

second_clear : (first second others : Kinds) → first ≡ [] → or_else first (or_else second others) ≡ [] → second ≡ []
second_clear first second others none faultless = clear second others (ap (λ (kinds : Kinds). or_else kinds (or_else second others)) (sym none) ∙ faultless)

-- so there is a fault where the first word strays
strays : (s : Shape) (names : Names) (word : Text) (next others : Kinds) → is_flag word ≡ false → find (answers_to word) names ≡ None
    → or_else (or_else (turn_fault (record s { rules = [] }) names (walk_from nothing_held) word) next) others ≡ [] → ⊥
strays s names word next others plain none faultless =
    some_stray s.is_leaf (sym (stray s names word plain none) ∙ clear (turn_fault (record s { rules = [] }) names (walk_from nothing_held) word) next (clear _ others faultless))

-- the names of the commands
abbrev names : Names
names = names_of (built commands)

-- The first word is one of the names, or none of them.
which : (word : Text) → ((c : Plain) × (word ≡ name_of c)) ⊎ (find (answers_to word) names ≡ None)
which word = go (is both) (is trace) (is decode) (is audit) refl refl refl refl
  where
    is : Plain → Bool
    is c = bytes_eq (name_of c) word

    named : (c : Plain) → is c ≡ true → ((c : Plain) × (word ≡ name_of c)) ⊎ (find (answers_to word) names ≡ None)
    named c holds = inl (c, sym ((bytes_eq-Decides (name_of c) word).0 holds))

    go : (is_both is_trace is_decode is_audit : Bool) → is both ≡ is_both → is trace ≡ is_trace → is decode ≡ is_decode → is audit ≡ is_audit → ((c : Plain) × (word ≡ name_of c)) ⊎ (find (answers_to word) names ≡ None)
    go true is_trace is_decode is_audit first second third fourth = named both first
    go false true is_decode is_audit first second third fourth = named trace second
    go false false true is_audit first second third fourth = named decode third
    go false false false true first second third fourth = named audit fourth
    go false false false false first second third fourth = inr (rw (first, second, third, fourth) refl)

-- ---- words that are taken
-- a command that takes nothing, as it is built
abbrev leaf : Text → Shape
leaf name = built_leaf (inherited (built commands).top (new_shape name))

-- and its walk after its name
abbrev met : Text → Walk
met name = record (walk_from nothing_held) { stopped = Some (name, []) }

-- It takes no further word.
more_strays : (name word : Text) (rest : List Text) (others : Kinds) → is_flag word ≡ false
    → entered_fault (built commands) (Some (name, word ∷ rest)) ≡ level_fault (leaf name) [] nothing_held (word ∷ rest) false []
    → or_else (walk_fault (built commands).top names (met name) (word ∷ rest)) (or_else (entered_fault (built commands) (fold (walked [] names) (met name) (word ∷ rest)).stopped) others) ≡ []
    → ⊥
unfolding walk_fault
more_strays name word rest others plain enters none =
    let first = stopped_fault (built commands).top names (walk_from nothing_held) (name, []) (word ∷ rest) in
    let entered = second_clear _ _ others first none in
    let stops = ap (λ (w : Walk). entered_fault (built commands) w.stopped) (walk_stopped [] names (walk_from nothing_held) name [] (word ∷ rest)) in
    strays (leaf name) [] word _ _ plain refl (sym enters ∙ stops ∙ entered)

-- A word after a command's name strays.
more : (c : Plain) (word : Text) (rest : List Text) → is_flag word ≡ false → fault_of commands (name_of c ∷ word ∷ rest) ≡ [] → ⊥
unfolding clap_on_literals
more both word rest plain fault = more_strays (codes "both") word rest _ plain refl fault
more trace word rest plain fault = more_strays (codes "trace") word rest _ plain refl fault
more decode word rest plain fault = more_strays (codes "decode") word rest _ plain refl fault
more audit word rest plain fault = more_strays (codes "audit") word rest _ plain refl fault

-- The words after the name are none.
alone : (c : Plain) (word : Text) (rest : List Text) → word ≡ name_of c → list_any is_flag rest ≡ false → fault_of commands (word ∷ rest) ≡ [] → word ∷ rest ≡ name_of c ∷ []
alone c word [] is plain fault = ap (λ w. w ∷ []) is
alone c word (next ∷ rest) is plain fault = absurd (more c next rest (or_parts _ _ plain).0 (subst (λ w. fault_of commands (w ∷ next ∷ rest) ≡ []) is fault))

-- Words that are taken are the name of a command.
taken : (words : List Text) → list_any is_flag words ≡ false → fault_of commands words ≡ [] → (c : Plain) × (words ≡ name_of c ∷ [])
unfolding clap_on_literals
taken [] plain fault = absurd (cc)
taken (word ∷ rest) plain fault =
    elim (which word) [
      | inl named ↦ (named.0, alone named.0 word rest named.1 (or_parts _ _ plain).1 fault)
      | inr none ↦ absurd (strays (built commands).top names word _ _ (or_parts _ _ plain).0 none fault)
    ]

-- and these words enter the command
enters : (c : Plain) → option_map (λ p. p.0) (subcommand_of commands (name_of c ∷ [])) ≡ Some (name_of c)
unfolding clap_on_literals
enters both = refl
enters trace = refl
enters decode = refl
enters audit = refl

-- Such words are taken.
takes_name : (c : Plain) → takes commands (name_of c ∷ []) ≡ true
unfolding clap_on_literals
takes_name both = refl
takes_name trace = refl
takes_name decode = refl
takes_name audit = refl

-- ---- words that are no flags

-- a word that begins with a digit above 0
digit_no_flag : (word : Text) → 48 < get_or word 0 0 → is_flag word ≡ false
digit_no_flag [] above = absurd (omega (arith, above))
digit_no_flag (byte ∷ word) above = grind (arith, nat_tests)

not_true : (b : Bool) → not b ≡ true → b ≡ false
not_true true is = absurd (cc)
not_true false is = refl

-- a path
path_no_flag : (word : Text) → is_path word ≡ true → is_flag word ≡ false
path_no_flag [] good = absurd (cc)
path_no_flag (byte ∷ word) good = not_true (byte == 45) good

-- Words of a command have no flag among them.
pub plain_words : (words : List Text) (c : Command) → HasShape words c → list_any is_flag words ≡ false
plain_words words command.Both is = ap (λ ws. list_any is_flag ws) is
plain_words words command.Trace is = ap (λ ws. list_any is_flag ws) is
plain_words words command.Decode is = ap (λ ws. list_any is_flag ws) is
plain_words words command.Audit is = ap (λ ws. list_any is_flag ws) is
plain_words words (command.Load number) (is, within) =
    let above : 48 < get_or (decimal number) 0 0 = first_decimal number (omega (arith, within.0)) (omega (arith, within.1)) in
    ap (λ ws. list_any is_flag ws) is ∙ ap (λ (b : Bool). b || false) (digit_no_flag (decimal number) above)
plain_words words (command.Client path) (is, good) = ap (λ ws. list_any is_flag ws) is ∙ ap (λ (b : Bool). b || false) (path_no_flag path.now good)
plain_words words (command.Host path) (is, good) = ap (λ ws. list_any is_flag ws) is ∙ ap (λ (b : Bool). b || false) (path_no_flag path.now good)

-- ---- what a parse gives
-- The subcommand's name is that of its rows.
pub name_of_rows : {Z : Type 0} (sub : Option (Box SubCommand Z)) → option_map (λ b. (out-SubCommand (box_value b)).name.now) sub ≡ option_map (λ p. p.0) (subcommand_rows sub)
name_of_rows None = refl
name_of_rows (Some b) = refl

-- the words are a command's, whose name was met
pub record Meets (words : List Text) (name : Option Text) : Type 0 where
  pub command : Plain
  pub words_are : words ≡ name_of command ∷ []
  pub named : name ≡ Some (name_of command)

-- An `Ok` meets a command.
pub meets : (app : App) (words : List Text) (name : Option Text) → app ≡ commands → list_any is_flag words ≡ false → (is_simple_and_free app ≡ true → fault_of app words ≡ [])
    → (is_simple app ≡ true → name ≡ option_map (λ p. p.0) (subcommand_of app words)) → Meets words name
unfolding clap_on_literals
meets app words name is plain faultless names_it =
    let t = taken words plain (subst (λ (a : App). fault_of a words ≡ []) is (faultless (ap is_simple_and_free is))) in
    record {
      command = t.0;
      words_are = t.1;
      named = names_it (ap is_simple is) ∙ ap₂ (λ (a : App) (ws : List Text). option_map (λ p. p.0) (subcommand_of a ws)) is t.1 ∙ enters t.0;
    }

-- the words are the one of this name
met_word : (words : List Text) (name : Option Text) (word : Text) → Meets words name → name ≡ Some word → words ≡ word ∷ []
met_word words name word meeting said = meeting.words_are ∙ ap (λ n. n ∷ []) (same_Some _ _ (sym meeting.named ∙ said))

pub met_shape : (words : List Text) (name : Option Text) (r : Result Command Stop) → Meets words name → IfOk r (IsNameOf name) → IfOk r (HasShape words)
met_shape words name (Ok command.Both) meeting said = met_word words name (codes "both") meeting said
met_shape words name (Ok command.Trace) meeting said = met_word words name (codes "trace") meeting said
met_shape words name (Ok command.Decode) meeting said = met_word words name (codes "decode") meeting said
met_shape words name (Ok command.Audit) meeting said = met_word words name (codes "audit") meeting said
met_shape words name (Ok (command.Load number)) meeting said = absurd said
met_shape words name (Ok (command.Client path)) meeting said = absurd said
met_shape words name (Ok (command.Host path)) meeting said = absurd said
met_shape words name (Err s) meeting said = tt

named : (name : Option Text) (c : Plain) → name ≡ Some (name_of c) → IsNameOf name (command_of c)
named name both is = is
named name trace is = is
named name decode is = is
named name audit is = is

pub met_none : (words : List Text) (name : Option Text) (r : Result Command Stop) → Meets words name → IfErr r (λ s. (s ≡ stop.Words) × ((c : Command) → ¬ (IsNameOf name c))) → IfErr r (StopsForWords words)
met_none words name (Ok c) meeting said = tt
met_none words name (Err s) meeting said = absurd (said.1 (command_of meeting.command) (named name meeting.command meeting.named))

-- An `Err` that isn't for memory is for words that are no command.
pub refused : (app : App) (words : List Text) (s : Stop) → app ≡ commands → ((path : List ℕ) → ¬ (IsAt (codes "client") words path)) → ((path : List ℕ) → ¬ (IsAt (codes "host") words path))
    → ((number : ℕ) → ¬ (HasShape words (command.Load number))) → (takes app words ≡ true → s ≡ stop.Memory) → (s ≡ stop.Words) ⊎ (s ≡ stop.Memory) → StopsForWords words s
refused app words s is no_client no_host no_load passes (inr memory) = subst (λ s. StopsForWords words s) (sym memory) tt
refused app words s is no_client no_host no_load passes (inl bad) = subst (λ s. StopsForWords words s) (sym bad) none
  where
    not_both : stop.Words ≡ stop.Memory → ⊥
    not_both is = absurd (cc)

    not_named : (c : Plain) → words ≡ name_of c ∷ [] → ⊥
    not_named c words_are = not_both (sym bad ∙ passes (ap₂ takes is words_are ∙ takes_name c))

    none : (c : Command) → ¬ (HasShape words c)
    none command.Both shape = not_named both shape
    none command.Trace shape = not_named trace shape
    none command.Decode shape = not_named decode shape
    none command.Audit shape = not_named audit shape
    none (command.Load number) shape = no_load number shape
    none (command.Client path) shape = no_client path.now shape
    none (command.Host path) shape = no_host path.now shape
