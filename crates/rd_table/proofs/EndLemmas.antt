-- The outcome of each request that a table accepted: what was handed out for it, and what there is of it once no channel is open.
use Rattle.std.proofs.Common.{◌≡◌, ◌∙◌, refl, sym, ap, subst, ℕ, suc, ◌+◌, false, true, List, [], ◌∷◌, ◌++◌, length, Some, None, Option, arith}
use Rattle.std.specs.Prelude.{Contains, MatchOption, slice_get}
use Rattle.std.specs.Option.{option_map, option_map_or}
use Rattle.std.proofs.lemmas.List.{length-append}
use Rattle.rd_pending.specs.declared.calls.Outcome.{Outcome}
use Rattle.rd_pending.specs.declared.calls.Taken.{Taken}
use Rattle.rd_pending.specs.History.{Call, accepted_in, outcome_in}
use Rattle.rd_pending.specs.Outcomes.{Accepted, Agrees}
use Rattle.rd_pending.specs.Table.{AreSlots, Fate, TableState, Untaken, awaited, awaits, fate_at, is_awaited, known, new_table, untaken_at}
use Rattle.rd_pending.proofs.AcceptedLemmas.{split_at}
use Rattle.rd_pending.proofs.Histories.{outcomes, sound}
use Rattle.rd_turn.specs.History.{Leads}
use Rattle.rd_table.specs.Calls.{PendingStep, table_calls}
use Rattle.rd_table.specs.Histories.{Accepts, HasOutcome, handed_in, table_history, taken_of}
use Rattle.rd_table.proofs.AcceptsLemmas.{accepted_by_one, accepts_numbered}
use Rattle.rd_table.proofs.HandedLemmas.{all_handed, handed_own}
use Rattle.rd_table.proofs.StepLemmas.{E, led_goes, led_steps}

-- of two places in a list before which there are as many
same_place : (xs ys zs ws : List Accepted) (a b : Accepted) → xs ++ a ∷ ys ≡ zs ++ b ∷ ws → length xs ≡ length zs → (xs ≡ zs) × (a ≡ b)
same_place [] ys [] ws a b is even = (refl, cc is)
same_place [] ys (z ∷ zs) ws a b is even = absurd (omega (arith, even))
same_place (x ∷ xs) ys [] ws a b is even = absurd (omega (arith, even))
same_place (x ∷ xs) ys (z ∷ zs) ws a b is even =
    let heads : x ≡ z = cc is in
    let rest = same_place xs ys zs ws a b (cc is) (omega (arith, even)) in
    (cc (heads, rest.0), rest.1)

-- what was handed out for a request is its outcome
pub own_outcome : (entries : List E) (t : TableState) (earlier later : List Accepted) (a : Accepted) (taken : Taken) → Leads PendingStep new_table entries t
    → accepted_in (table_history entries) ≡ earlier ++ a ∷ later → Contains (handed_in entries) (suc (length earlier), taken)
    → (outcome_in (table_history entries) earlier a ≡ Some taken.outcome) × (taken ≡ taken_of a taken.outcome)
own_outcome entries t earlier later a taken leads parts has =
    let own = handed_own (table_calls entries) t (suc (length earlier)) taken (led_steps new_table t entries leads) has in
    let came = own.1 in
    let numbered = own.2 in
    let even : length came.earlier ≡ length earlier = omega (arith, numbered) in
    let same = same_place came.earlier came.later earlier later own.0 a (sym came.accepted ∙ parts) even in
    let device : taken.device ≡ a.device = own.3 ∙ ap (λ (b : Accepted). b.device) same.1 in
    let life : taken.life ≡ a.life = own.4 ∙ ap (λ (b : Accepted). b.life) same.1 in
    let whole : record { device = taken.device; life = taken.life; outcome = taken.outcome } ≡ taken_of a taken.outcome = cc (device, life) in (
      ap (λ (xs : List Accepted). outcome_in (table_history entries) xs a) (sym same.0) ∙ (ap (outcome_in (table_history entries) came.earlier) (sym same.1) ∙ came.is),
      whole,
    )

pub accepts_own : (entries : List E) (t : TableState) (number : ℕ) (a : Accepted) (taken : Taken) → Leads PendingStep new_table entries t → (one : Accepts entries number a)
    → Contains (handed_in entries) (number, taken)
    → (outcome_in (table_history entries) (accepted_in (table_history one.before)) a ≡ Some taken.outcome) × (taken ≡ taken_of a taken.outcome)
accepts_own entries t number a taken leads one has =
    let numbered = accepts_numbered entries t number a leads one in
    own_outcome entries t (accepted_in (table_history one.before)) numbered.0 a taken leads numbered.1 (subst (λ (n : ℕ). Contains (handed_in entries) (n, taken)) numbered.2 has)

pub handed_accepted : (entries : List E) (t : TableState) (number : ℕ) (taken : Taken) → Leads PendingStep new_table entries t → Contains (handed_in entries) (number, taken)
    → (a : Accepted) × Accepts entries number a
handed_accepted entries t number taken leads has =
    let own = handed_own (table_calls entries) t number taken (led_steps new_table t entries leads) has in
    let came = own.1 in
    (own.0, subst (λ (n : ℕ). Accepts entries n own.0) (sym own.2) (accepted_by_one entries t came.earlier came.later own.0 leads came.accepted))

pub handed_if_gone : (entries : List E) (t : TableState) (earlier later : List Accepted) (a : Accepted) → Leads PendingStep new_table entries t
    → accepted_in (table_history entries) ≡ earlier ++ a ∷ later → untaken_at t (suc (length earlier)) ≡ None → (taken : Taken) × Contains (handed_in entries) (suc (length earlier), taken)
handed_if_gone entries t earlier later a leads parts none =
    let goes_there = led_goes entries t leads in
    let counted : t.count ≡ length (accepted_in (table_history entries)) = ap (λ (s : TableState). s.count) (sym goes_there.is) ∙ (sound (table_history entries) goes_there.holds).count in
    let long : length (accepted_in (table_history entries)) ≡ length (earlier ++ a ∷ later) = ap length parts in
    let more : length (earlier ++ a ∷ later) ≡ length earlier + suc (length later) = length-append earlier (a ∷ later) in
    all_handed (table_calls entries) t (suc (length earlier)) (omega arith) (omega (arith, counted, long, more)) none (led_steps new_table t entries leads)

-- ---- once no channel is open

pub ended : (entries : List E) (t : TableState) (earlier later : List Accepted) (a : Accepted) → Leads PendingStep new_table entries t → t.channel ≡ None
    → accepted_in (table_history entries) ≡ earlier ++ a ∷ later → HasOutcome entries t earlier a
ended entries t earlier later a leads shut parts = go (untaken_at t number) refl
  where
    number : ℕ
    number = suc (length earlier)

    h : List Call
    h = table_history entries

    agrees : Agrees (fate_at t number) (outcome_in h earlier a)
    agrees =
        let there = led_goes entries t leads in
        subst (λ (s : TableState). Agrees (fate_at s number) (outcome_in h earlier a)) there.is (outcomes h there.holds earlier a later parts)

    none_waits : awaits t number ≡ false
    none_waits =
        let there = led_goes entries t leads in
        let slots : AreSlots t = subst AreSlots there.is (sound h there.holds).slots in
        (slots.closed shut).3 number

    named : (u : Untaken) → untaken_at t number ≡ Some u → (u.device ≡ a.device) × (u.life ≡ a.life)
    named =
        let there = led_goes entries t leads in
        let at : slice_get (accepted_in h) (length earlier) ≡ Some a = ap (λ (xs : List Accepted). slice_get xs (length earlier)) parts ∙ (split_at earlier later a).0 in
        subst (λ (s : TableState). (u : Untaken) → untaken_at s number ≡ Some u → (u.device ≡ a.device) × (u.life ≡ a.life)) there.is ((sound h there.holds).requests (length earlier) a at).named

    place : Outcome → Option Untaken → Type 0
    place outcome o = MatchOption o (Contains (handed_in entries) (number, taken_of a outcome)) (λ u. u ≡ record { device = a.device; life = a.life; fate = known outcome })

    kept : (u : Untaken) → untaken_at t number ≡ Some u → (f : Fate) → u.fate ≡ f → HasOutcome entries t earlier a
    kept u e awaited fate =
        let waits : awaits t number ≡ true = ap (λ (o : Option Untaken). option_map_or is_awaited (option_map (λ (v : Untaken). v.fate) o) false) e ∙ ap is_awaited fate in
        absurd (cc (waits, none_waits))
    kept u e (known outcome) fate =
        let found : fate_at t number ≡ Some (known outcome) = ap (option_map (λ (v : Untaken). v.fate)) e ∙ ap Some fate in
        let own = named u e in
        let device = own.0 in
        let life = own.1 in
        let whole : record { device = u.device; life = u.life; fate = u.fate } ≡ record { device = a.device; life = a.life; fate = known outcome } = cc (device, life, fate) in
        record {
          outcome = outcome;
          came = subst (λ (f : Option Fate). Agrees f (outcome_in h earlier a)) found agrees;
          place = subst (place outcome) (sym e) whole;
        }

    go : (o : Option Untaken) → untaken_at t number ≡ o → HasOutcome entries t earlier a
    go None e =
        let handed = handed_if_gone entries t earlier later a leads parts e in
        let own = own_outcome entries t earlier later a handed.0 leads parts handed.1 in
        let outcome : Outcome = (handed.0).outcome in
        record {
          outcome = outcome;
          came = own.0;
          place = subst (place outcome) (sym e) (subst (λ (x : Taken). Contains (handed_in entries) (number, x)) own.1 handed.1);
        }
    go (Some u) e = kept u e u.fate refl
