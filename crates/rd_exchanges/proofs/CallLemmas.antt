-- Calls one after the other, where there are more; and the submissions and takes among them.
use Rattle.std.proofs.Common.{◌≡◌, ◌∙◌, refl, sym, ap, ℕ, true, List, [], ◌∷◌, ◌++◌, append_assoc, append-nil}
use Rattle.std.specs.List.{AllByRecursion}
use Rattle.std.specs.Ordering.{nat_cmp}
use Rattle.std.specs.Map.{remove_entry}
use Rattle.std.specs.BTreeMap.{is_at}
use Rattle.std.proofs.lemmas.List.Elements.{filter-append}
use Rattle.rd_pending.specs.declared.calls.Taken.{Taken}
use Rattle.rd_pending.specs.History.{Call, called, submits, takes}
use Rattle.rd_pending.specs.Outcomes.{Accepted}
use Rattle.rd_pending.specs.Table.{TableState}
use Rattle.rd_exchanges.specs.Exchanges.{AreAsks, MayGo, accepted_at, accepted_along, goes, handed_at, handed_along, is_submission, is_take, submissions_among, takes_among}

-- a table from which an outcome was handed out
abbrev pub taken_from : TableState → ℕ → TableState
taken_from t n = record t { untaken = remove_entry (is_at (nat_cmp n)) t.untaken }

pub goes_on : (t : TableState) (cs more : List Call) → goes t (cs ++ more) ≡ goes (goes t cs) more
goes_on t [] more = refl
goes_on t (c ∷ cs) more = goes_on (called t c) cs more

pub may_go_on : (t : TableState) (cs more : List Call) → MayGo t cs → MayGo (goes t cs) more → MayGo t (cs ++ more)
may_go_on t [] more may next = next
may_go_on t (c ∷ cs) more may next = (may.0, may_go_on (called t c) cs more may.1 next)

pub accepted_on : (t : TableState) (cs more : List Call) → accepted_along t (cs ++ more) ≡ accepted_along t cs ++ accepted_along (goes t cs) more
accepted_on t [] more = refl
accepted_on t (c ∷ cs) more =
    ap (λ (xs : List Accepted). accepted_at t c ++ xs) (accepted_on (called t c) cs more)
    ∙ sym (append_assoc (accepted_at t c) (accepted_along (called t c) cs) (accepted_along (goes t (c ∷ cs)) more))

pub handed_on : (t : TableState) (cs more : List Call) → handed_along t (cs ++ more) ≡ handed_along t cs ++ handed_along (goes t cs) more
handed_on t [] more = refl
handed_on t (c ∷ cs) more =
    ap (λ (xs : List (ℕ × Taken)). handed_at t c ++ xs) (handed_on (called t c) cs more)
    ∙ sym (append_assoc (handed_at t c) (handed_along (called t c) cs) (handed_along (goes t (c ∷ cs)) more))

-- ---- submissions, and takes

abbrev pub IsSubmission : Call → Type 0
IsSubmission c = is_submission c ≡ true

abbrev pub IsTake : Call → Type 0
IsTake c = is_take c ≡ true

pub are_submissions : (cs : List Call) → AllByRecursion IsSubmission (submissions_among cs)
are_submissions [] = tt
are_submissions (submits a n o ∷ cs) = (refl, are_submissions cs)
are_submissions (c ∷ cs) = are_submissions cs

pub are_takes : (cs : List Call) → AllByRecursion IsTake (takes_among cs)
are_takes [] = tt
are_takes (takes n ∷ cs) = (refl, are_takes cs)
are_takes (c ∷ cs) = are_takes cs

-- the submissions among submissions are these, and no take is among them
same_submissions : (cs : List Call) → submissions_among (submissions_among cs) ≡ submissions_among cs
same_submissions [] = refl
same_submissions (submits a n o ∷ cs) = ap (λ (xs : List Call). submits a n o ∷ xs) (same_submissions cs)
same_submissions (c ∷ cs) = same_submissions cs

no_takes : (cs : List Call) → takes_among (submissions_among cs) ≡ []
no_takes [] = refl
no_takes (submits a n o ∷ cs) = no_takes cs
no_takes (c ∷ cs) = no_takes cs

pub submissions_on : (cs more : List Call) → submissions_among (cs ++ submissions_among more) ≡ submissions_among (cs ++ more)
submissions_on cs more =
    filter-append is_submission cs (submissions_among more)
    ∙ ap (λ (xs : List Call). submissions_among cs ++ xs) (same_submissions more)
    ∙ sym (filter-append is_submission cs more)

pub takes_on : (cs more : List Call) → takes_among (cs ++ submissions_among more) ≡ takes_among cs
takes_on cs more =
    filter-append is_take cs (submissions_among more)
    ∙ ap (λ (xs : List Call). takes_among cs ++ xs) (no_takes more)
    ∙ append-nil (takes_among cs)

pub none_handed : (t : TableState) (cs : List Call) → handed_along t (submissions_among cs) ≡ []
none_handed t [] = refl
none_handed t (submits a n o ∷ cs) = none_handed (called t (submits a n o)) cs
none_handed t (c ∷ cs) = none_handed t cs

-- ---- what is asked

pub asks_on : (cs more : List Call) → AreAsks cs → AreAsks more → AreAsks (cs ++ more)
asks_on [] more asks next = next
asks_on (c ∷ cs) more asks next = (asks.0, asks_on cs more asks.1 next)

pub submissions_ask : (cs : List Call) → AreAsks (submissions_among cs)
submissions_ask [] = tt
submissions_ask (submits a n o ∷ cs) = (tt, submissions_ask cs)
submissions_ask (c ∷ cs) = submissions_ask cs
