-- Calls of a host's table, the oldest first; and calls by which devices begin lives, or are gone, with what applications ask of the table between them.
use Rattle.std.specs.Prelude.{◌≡◌, ℕ, Bool, true, false, List, [], ◌∷◌, ◌++◌, filter, map, Result, Ok, Err}
use Rattle.std.specs.List.{AllByRecursion, flat_map, fold}
use Rattle.rd_pending.specs.declared.calls.TakeNo.{TakeNo}
use Rattle.rd_pending.specs.declared.calls.Taken.{Taken}
use Rattle.rd_pending.specs.History.{Call, May, accepted_of, called, submits, takes}
use Rattle.rd_pending.specs.Outcomes.{Accepted}
use Rattle.rd_pending.specs.Table.{TableState, take}

-- ---- calls one after the other

-- the table after these calls
abbrev pub goes : TableState → List Call → TableState
goes t [] = t
goes t (c ∷ cs) = goes (called t c) cs

-- each of these calls does something
abbrev pub MayGo : TableState → List Call → Type 0
MayGo t [] = Unit {0}
MayGo t (c ∷ cs) = May t c × MayGo (called t c) cs

-- the request that a call has accepted
abbrev pub accepted_at : TableState → Call → List Accepted
accepted_at t (submits application named o) = accepted_of t application named o ∷ []
accepted_at t _ = []

-- the requests that these calls have accepted, in their order
abbrev pub accepted_along : TableState → List Call → List Accepted
accepted_along t [] = []
accepted_along t (c ∷ cs) = accepted_at t c ++ accepted_along (called t c) cs

-- a number, with what is handed out for it
abbrev pub handed_of : ℕ → Result Taken TakeNo → List (ℕ × Taken)
handed_of number (Ok taken) = (number, taken) ∷ []
handed_of number (Err cause) = []

-- the number whose outcome a call hands out, with what is handed out
abbrev pub handed_at : TableState → Call → List (ℕ × Taken)
handed_at t (takes number) = handed_of number (take t number).1
handed_at t _ = []

-- what these calls hand out, in their order
abbrev pub handed_along : TableState → List Call → List (ℕ × Taken)
handed_along t [] = []
handed_along t (c ∷ cs) = handed_at t c ++ handed_along (called t c) cs

-- ---- what applications ask

abbrev pub is_submission : Call → Bool
is_submission (submits application named o) = true
is_submission _ = false

abbrev pub is_take : Call → Bool
is_take (takes number) = true
is_take _ = false

-- An application asks: it submits a request, or takes an outcome.
abbrev pub IsAsk : Call → Type 0
IsAsk (submits application named o) = Unit {0}
IsAsk (takes number) = Unit {0}
IsAsk _ = ⊥

abbrev pub AreAsks : List Call → Type 0
AreAsks cs = AllByRecursion IsAsk cs

-- the submissions among these calls, and the takes, in their order
abbrev pub submissions_among : List Call → List Call
submissions_among cs = filter is_submission cs

abbrev pub takes_among : List Call → List Call
takes_among cs = filter is_take cs

-- ---- a step of each of several devices, as that it begins a life (`live`) or is gone (`remove`)

-- The steps of these devices one after the other: the table after them, and what they answer.
abbrev pub all_after : {A : Type 0} → (TableState → ℕ → TableState × A) → TableState → List ℕ → TableState
all_after step t devices = fold (λ u device. (step u device).0) t devices

abbrev pub answers_of : {A : Type 0} → (TableState → ℕ → TableState × A) → TableState → List ℕ → List A
answers_of step t [] = []
answers_of step t (device ∷ devices) = (step t device).1 ∷ answers_of step (step t device).0 devices

-- ---- the same with what applications ask behind the step of each device

-- the devices, and all that is asked, in the order in which it is
abbrev pub devices_in : List (ℕ × List Call) → List ℕ
devices_in more = map (λ e. e.0) more

abbrev pub asks_in : List (ℕ × List Call) → List Call
asks_in more = flat_map (λ e. e.1) more

abbrev pub AreAllAsks : List (ℕ × List Call) → Type 0
AreAllAsks more = AllByRecursion (λ e. AreAsks e.1) more

-- the table after all of it
abbrev pub goes_between : {A : Type 0} → (TableState → ℕ → TableState × A) → TableState → List (ℕ × List Call) → TableState
goes_between step t [] = t
goes_between step t (e ∷ more) = goes_between step (goes (step t e.0).0 e.1) more

-- each call of an application does something
abbrev pub MayGoBetween : {A : Type 0} → (TableState → ℕ → TableState × A) → TableState → List (ℕ × List Call) → Type 0
MayGoBetween step t [] = Unit {0}
MayGoBetween step t (e ∷ more) = MayGo (step t e.0).0 e.1 × MayGoBetween step (goes (step t e.0).0 e.1) more

-- what the steps answer, what is accepted, and what is handed out
abbrev pub answers_between : {A : Type 0} → (TableState → ℕ → TableState × A) → TableState → List (ℕ × List Call) → List A
answers_between step t [] = []
answers_between step t (e ∷ more) = (step t e.0).1 ∷ answers_between step (goes (step t e.0).0 e.1) more

abbrev pub accepted_between : {A : Type 0} → (TableState → ℕ → TableState × A) → TableState → List (ℕ × List Call) → List Accepted
accepted_between step t [] = []
accepted_between step t (e ∷ more) = accepted_along (step t e.0).0 e.1 ++ accepted_between step (goes (step t e.0).0 e.1) more

abbrev pub handed_between : {A : Type 0} → (TableState → ℕ → TableState × A) → TableState → List (ℕ × List Call) → List (ℕ × Taken)
handed_between step t [] = []
handed_between step t (e ∷ more) = handed_along (step t e.0).0 e.1 ++ handed_between step (goes (step t e.0).0 e.1) more

-- ---- calls that change places

-- All that is asked between the steps may be asked behind all of them, and all comes to the same: the table, what the steps answer, what is accepted and what is handed out.
pub record AsksFollow {A : Type 0} (step : TableState → ℕ → TableState × A) (t : TableState) (more : List (ℕ × List Call)) : Type 0 where
  pub may : MayGo (all_after step t (devices_in more)) (asks_in more)
  pub same : goes (all_after step t (devices_in more)) (asks_in more) ≡ goes_between step t more
  pub answers : answers_of step t (devices_in more) ≡ answers_between step t more
  pub accepted : accepted_along (all_after step t (devices_in more)) (asks_in more) ≡ accepted_between step t more
  pub handed : handed_along (all_after step t (devices_in more)) (asks_in more) ≡ handed_between step t more

-- Of what is asked between the steps all submissions may come before all of them, and all takes behind, and all comes to the same.
pub record AsksPart {A : Type 0} (step : TableState → ℕ → TableState × A) (t : TableState) (more : List (ℕ × List Call)) : Type 0 where
  pub may_submit : MayGo t (submissions_among (asks_in more))
  pub may_take : MayGo (all_after step (goes t (submissions_among (asks_in more))) (devices_in more)) (takes_among (asks_in more))
  pub same : goes (all_after step (goes t (submissions_among (asks_in more))) (devices_in more)) (takes_among (asks_in more)) ≡ goes_between step t more
  pub answers : answers_of step (goes t (submissions_among (asks_in more))) (devices_in more) ≡ answers_between step t more
  pub accepted : accepted_along t (submissions_among (asks_in more)) ≡ accepted_between step t more
  pub handed : handed_along (all_after step (goes t (submissions_among (asks_in more))) (devices_in more)) (takes_among (asks_in more)) ≡ handed_between step t more
