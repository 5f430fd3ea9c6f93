-- What a yes says of each part: nothing is found in it.
use Rattle.std.proofs.Common.{◌≡◌, ℕ, ◌+◌, Bool, true, false, List, [], ◌∷◌, ◌++◌, length, Option, None, Some, Result, Ok, Err, refl, sym, ap, subst, ◌∙◌}
use Rattle.std.specs.Prelude.{◌≢◌, ◌||◌, if◌then◌else◌, is_none, min, option_map, unwrap_or}
use Rattle.std.specs.List.{AllByRecursion}
use Rattle.std.specs.Option.{option_or}
use Rattle.rd_base.specs.declared.journal.Item.{Item}
use Rattle.rd_declared.specs.Devices.{Declared}
use Rattle.rd_audit_file.specs.declared.line.JournalLine.{JournalLine}
use Rattle.rd_audit_file.specs.declared.line.JournalLine.TheVariants.{Device, Entry}
use Rattle.rd_lawful.specs.declared.rule.Rule.{Rule}
use Rattle.rd_lawful.specs.Rules.{few_unsent, rule_broken, rule_number}
use Rattle.rd_recorded.specs.Channels.{ClientSaid, HeardChannel, HeardRequest, Saying, completes}
use Rattle.rd_audit.specs.declared.verdict.AuditWhy.{AuditWhy}
use Rattle.rd_audit.specs.declared.verdict.Verdict.{Verdict}
use Rattle.rd_audit.specs.declared.verdict.Verdict.TheVariants as verdict
use Rattle.rd_audit.specs.declared.verdict.Verdict.TheVariants.{Yes}
use Rattle.rd_audit.specs.Completions.{first_lacking, first_wrong, first_wrong_after, lacks_completion, lacks_from, wrong_said}
use Rattle.rd_audit.specs.Judged.{first_amiss, judged}
use Rattle.rd_audited.specs.Meaning.{HasNoStray, IsComplete}
use Rattle.rd_audit.specs.Lawful.{broken_at_end, entry_broken, first_unlawful}
use Rattle.rd_audit.specs.Replayed.{Account, DeviceSoFar, account_after, account_new, agrees, replayed, standing_after, standing_new}

-- what is found isn't yes
abbrev pub IsNoYes : Option Verdict → Type 0
IsNoYes None = Unit {0}
IsNoYes (Some v) = v ≢ Yes

either_no : (f g : Option Verdict) → IsNoYes f → IsNoYes g → IsNoYes (option_or f g)
either_no (Some v) g first second = first
either_no None g first second = second

-- so where a yes comes of it, nothing was found
found_none : (f : Option Verdict) → IsNoYes f → unwrap_or f Yes ≡ Yes → f ≡ None
found_none None fine is = refl
found_none (Some v) fine is = absurd (fine is)

parted_none : (f g : Option Verdict) → option_or f g ≡ None → (f ≡ None) × (g ≡ None)
parted_none None g is = (refl, is)
parted_none (Some v) g is = absurd cc

end_no : (device : ℕ) (items : List Item) → IsNoYes (broken_at_end device items)
end_no device items = go (few_unsent items)
  where
    go : (b : Bool) → IsNoYes (if b then None else Some (verdict.Item device (length items + 1) 7))
    go true = tt
    go false = λ is. cc is

entry_no : (device : ℕ) (items : List Item) (entry : Item) → IsNoYes (entry_broken device items entry)
entry_no device items entry = go (rule_broken items entry)
  where
    go : (r : Option Rule) → IsNoYes (option_map (λ (r : Rule). verdict.Item device (length items + 1) (rule_number r)) r)
    go (Some r) = λ is. cc is
    go None = tt

pub unlawful_no : (device : ℕ) (items : List Item) (lines : List JournalLine) → IsNoYes (first_unlawful device items lines)
unlawful_no device items [] = end_no device items
unlawful_no device items (Device id ∷ lines) = either_no (broken_at_end device items) (first_unlawful id [] lines) (end_no device items) (unlawful_no id [] lines)
unlawful_no device items (Entry entry ∷ lines) =
    either_no (entry_broken device items entry) (first_unlawful device (items ++ entry ∷ []) lines) (entry_no device items entry) (unlawful_no device (items ++ entry ∷ []) lines)

wrong_after_no : (r : Account) (number : ℕ) (requests : List HeardRequest) (before later : List Saying) → IsNoYes (first_wrong_after r number requests before later)
wrong_after_no r number requests before [] = tt
wrong_after_no r number requests before (s ∷ later) =
    either_no (option_map (λ reason. verdict.Entry s.entry reason) (wrong_said r number requests s.entry before s.said)) (first_wrong_after r number requests (s ∷ before) later)
    (go (wrong_said r number requests s.entry before s.said)) (wrong_after_no r number requests (s ∷ before) later)
  where
    go : (o : Option AuditWhy) → IsNoYes (option_map (λ (reason : AuditWhy). verdict.Entry s.entry reason) o)
    go None = tt
    go (Some reason) = λ is. cc is

wrong_no : (r : Account) (number : ℕ) (channels : List HeardChannel) → IsNoYes (first_wrong r number channels)
wrong_no r number [] = tt
wrong_no r number (c ∷ later) = either_no (first_wrong_after r number c.requests [] c.sayings) (first_wrong r (number + 1) later) (wrong_after_no r number c.requests [] c.sayings) (wrong_no r (number + 1) later)

lacking_no : (r : Account) (number : ℕ) (channels : List HeardChannel) → IsNoYes (first_lacking r number channels)
lacking_no r number [] = tt
lacking_no r number (c ∷ later) = go (lacks_completion r number c) (lacking_no r (number + 1) later)
  where
    go : (b : Bool) → IsNoYes (first_lacking r (number + 1) later) → IsNoYes (if b then Some (verdict.Open (min number 0xffff_ffff)) else first_lacking r (number + 1) later)
    go true rest = λ is. cc is
    go false rest = rest

-- a mark that is found
abbrev IsMark : Result Account Verdict → Type 0
IsMark (Ok r) = Unit {0}
IsMark (Err v) = v ≢ Yes

marks_no : (channels : List HeardChannel) (devices : List (ℕ × Declared)) (standing : Option DeviceSoFar) (r : Account) (lines : List JournalLine) → IsMark (replayed channels devices standing r lines)
marks_no channels devices standing r [] = tt
marks_no channels [] standing r (Device id ∷ lines) = marks_no channels [] None r lines
marks_no channels (d ∷ devices) standing r (Device id ∷ lines) = marks_no channels devices (Some (standing_new d)) r lines
marks_no channels [] None r (Entry entry ∷ lines) = marks_no channels [] None r lines
marks_no channels (e ∷ devices) None r (Entry entry ∷ lines) = marks_no channels (e ∷ devices) None r lines
marks_no channels [] (Some d) r (Entry entry ∷ lines) = go (agrees channels d entry) (marks_no channels [] (Some (standing_after channels d entry)) (account_after channels d entry r) lines)
  where
    go : (b : Bool) → IsMark (replayed channels [] (Some (standing_after channels d entry)) (account_after channels d entry r) lines)
        → IsMark (if b then replayed channels [] (Some (standing_after channels d entry)) (account_after channels d entry r) lines else Err (verdict.Mark d.device (d.count + 1)))
    go true rest = rest
    go false rest = λ is. cc is
marks_no channels (e ∷ devices) (Some d) r (Entry entry ∷ lines) = go (agrees channels d entry) (marks_no channels (e ∷ devices) (Some (standing_after channels d entry)) (account_after channels d entry r) lines)
  where
    go : (b : Bool) → IsMark (replayed channels (e ∷ devices) (Some (standing_after channels d entry)) (account_after channels d entry r) lines)
        → IsMark (if b then replayed channels (e ∷ devices) (Some (standing_after channels d entry)) (account_after channels d entry r) lines else Err (verdict.Mark d.device (d.count + 1)))
    go true rest = rest
    go false rest = λ is. cc is

-- What a yes says: the journals are lawful, each entry agrees with its device, and no completion is wrong or lacking.
pub record SaysYes (devices : List (ℕ × Declared)) (lines : List JournalLine) (channels : List HeardChannel) : Type 0 where
  pub lawful : first_unlawful 0 [] lines ≡ None
  pub account : Account
  pub replays : replayed channels devices None account_new lines ≡ Ok account
  pub right : first_wrong account 1 channels ≡ None
  pub whole : first_lacking account 1 channels ≡ None

amiss_no : (channels : List HeardChannel) (r : Result Account Verdict) → IsMark r → IsNoYes (first_amiss channels r)
amiss_no channels (Err v) mark = mark
amiss_no channels (Ok r) mark = either_no (first_wrong r 1 channels) (first_lacking r 1 channels) (wrong_no r 1 channels) (lacking_no r 1 channels)

pub says_yes : (devices : List (ℕ × Declared)) (lines : List JournalLine) (channels : List HeardChannel) → judged devices lines channels ≡ Yes → SaysYes devices lines channels
says_yes devices lines channels is =
    let r = replayed channels devices None account_new lines in
    let amiss = amiss_no channels r (marks_no channels devices None account_new lines) in
    let none = found_none (option_or (first_unlawful 0 [] lines) (first_amiss channels r)) (either_no (first_unlawful 0 [] lines) (first_amiss channels r) (unlawful_no 0 [] lines) amiss) is in
    let parts = parted_none (first_unlawful 0 [] lines) (first_amiss channels r) none in
    go r refl parts.0 parts.1
  where
    go : (r : Result Account Verdict) → replayed channels devices None account_new lines ≡ r → first_unlawful 0 [] lines ≡ None → first_amiss channels r ≡ None → SaysYes devices lines channels
    go (Err v) e lawful none = absurd cc
    go (Ok account) e lawful none =
        let both = parted_none (first_wrong account 1 channels) (first_lacking account 1 channels) none in
        record { lawful = lawful; account = account; replays = e; right = both.0; whole = both.1 }

-- ---- of channels

-- nothing that is said is a completion of no request
no_stray_after : (r : Account) (number : ℕ) (requests : List HeardRequest) (before later : List Saying) → first_wrong_after r number requests before later ≡ None
    → AllByRecursion (λ (s : Saying). (message : List ℕ) → s.said ≢ completes None message) later
no_stray_after r number requests before [] none = tt
no_stray_after r number requests before (s ∷ later) none =
    let parts = parted_none (option_map (λ reason. verdict.Entry s.entry reason) (wrong_said r number requests s.entry before s.said)) (first_wrong_after r number requests (s ∷ before) later) none in (
      λ message is. stray message is (subst (λ (said : ClientSaid). option_map (λ reason. verdict.Entry s.entry reason) (wrong_said r number requests s.entry before said) ≡ None) is parts.0),
      no_stray_after r number requests (s ∷ before) later parts.1,
    )
  where
    stray : (message : List ℕ) → s.said ≡ completes None message → option_map (λ (reason : AuditWhy). verdict.Entry s.entry reason) (wrong_said r number requests s.entry before (completes None message)) ≡ None → ⊥
    stray message is some = cc some

pub no_strays : (r : Account) (number : ℕ) (channels : List HeardChannel) → first_wrong r number channels ≡ None → AllByRecursion HasNoStray channels
no_strays r number [] none = tt
no_strays r number (c ∷ later) none =
    let parts = parted_none (first_wrong_after r number c.requests [] c.sayings) (first_wrong r (number + 1) later) none in
    (no_stray_after r number c.requests [] c.sayings parts.0, no_strays r (number + 1) later parts.1)

-- no completion is lacking
none_lacks : (r : Account) (number index : ℕ) (requests : List HeardRequest) → lacks_from r number false index requests ≡ false → AllByRecursion (λ (a : HeardRequest). a.completion ≢ None) requests
none_lacks r number index [] none = tt
none_lacks r number index (a ∷ later) none = (λ is. lacks is none, none_lacks r number (index + 1) later (rest (is_none a.completion) none))
  where
    lacks : a.completion ≡ None → (is_none a.completion || lacks_from r number false (index + 1) later) ≡ false → ⊥
    lacks is some = cc (ap (λ (o : Option ℕ). is_none o || lacks_from r number false (index + 1) later) (sym is) ∙ some)

    rest : (b : Bool) → (b || lacks_from r number false (index + 1) later) ≡ false → lacks_from r number false (index + 1) later ≡ false
    rest false is = is
    rest true is = absurd cc

pub all_complete : (r : Account) (number : ℕ) (channels : List HeardChannel) → first_lacking r number channels ≡ None → AllByRecursion IsComplete channels
all_complete r number [] none = tt
all_complete r number (c ∷ later) none = go (lacks_completion r number c) refl none (λ rest. all_complete r (number + 1) later rest)
  where
    go : (b : Bool) → lacks_completion r number c ≡ b → (if b then Some (verdict.Open (min number 0xffff_ffff)) else first_lacking r (number + 1) later) ≡ None
        → (first_lacking r (number + 1) later ≡ None → AllByRecursion IsComplete later) → AllByRecursion IsComplete (c ∷ later)
    go true e is others = absurd cc
    go false e is others = (λ lasts. none_lacks r number 0 c.requests (ap (λ (b : Bool). lacks_from r number b 0 c.requests) (sym lasts) ∙ e), others is)
