-- The rule of the turn: what holds of its two words, of the object's slot and of what all passes know, between any two steps.
use Rattle.std.specs.Prelude.{◌≡◌, ℕ, suc, ◌+◌, ◌==◌, ◌<◌, ◌≤◌, ◌⊎◌, Bool, true, false, List, [], ◌∷◌, length, All, Option, Some}
use mathlib.Core.List.{IsPrefix}
use mathlib.Core.Option as maybe
use mathlib.Core.Option.{some, none}
use lib.ListN.{get_elem?}
use Rattle.atomic_table.specs.Table.{State}
use Rattle.rd_turn.specs.declared.object.Entry.{Entry}
use Rattle.rd_turn.specs.declared.rule.Stage.{Stage}
use Rattle.rd_turn.specs.declared.rule.Stage.TheVariants.{Idle, Waiting, AtTurn, Spent}
use Rattle.rd_turn.specs.declared.rule.View.{View}
use Rattle.rd_turn.specs.History.{Leads}
use Rattle.rd_turn.specs.Pass.{max_made}

-- 2 ^ 62: a ticket of this number or more is never served
abbrev pub ticket_limit : ℕ
ticket_limit = 4611686018427387904

abbrev pub one_if : Bool → ℕ
one_if true = 1
one_if false = 0

-- how many calls the pass of this number made
abbrev pub count_of : {C R : Type 0} → ℕ → List (Entry C R) → ℕ
count_of number [] = 0
count_of number (e ∷ es) = one_if (e.by == number) + count_of number es

module _ {A : Type 0} (f : A → ℕ) where
  abbrev pub total : List A → ℕ
  total [] = 0
  total (x ∷ xs) = f x + total xs

-- Each of these is 1 or 0: what a stage says of its view.
module _ {C : Type 0} where
  abbrev pub is_live : Stage C → ℕ
  is_live Idle = 1
  is_live (Waiting t c) = 1
  is_live (AtTurn t c) = 1
  is_live Spent = 0

  abbrev pub has_ticket : Stage C → ℕ
  has_ticket Idle = 0
  has_ticket (Waiting t c) = 1
  has_ticket (AtTurn t c) = 1
  has_ticket Spent = 0

  abbrev pub holds_ticket : ℕ → Stage C → ℕ
  holds_ticket x Idle = 0
  holds_ticket x (Waiting t c) = one_if (t == x)
  holds_ticket x (AtTurn t c) = one_if (t == x)
  holds_ticket x Spent = 0

  abbrev pub is_at_turn : Stage C → ℕ
  is_at_turn Idle = 0
  is_at_turn (Waiting t c) = 0
  is_at_turn (AtTurn t c) = 1
  is_at_turn Spent = 0

module _ {C R : Type 0} where
  -- a view at turn has the ticket that is served, and has seen the whole history
  abbrev pub IsPlaced : List (Entry C R) → ℕ → List (Entry C R) → Stage C → Type 0
  IsPlaced log serving seen Idle = Unit {0}
  IsPlaced log serving seen (Waiting t c) = Unit {0}
  IsPlaced log serving seen (AtTurn t c) = (t ≡ serving) × (serving < ticket_limit) × (seen ≡ log)
  IsPlaced log serving seen Spent = Unit {0}

module _ {O C R : Type 0} where
  abbrev pub live : View O C R → ℕ
  live v = is_live v.stage

  abbrev pub waits : View O C R → ℕ
  waits v = has_ticket v.stage

  abbrev pub holds : ℕ → View O C R → ℕ
  holds x v = holds_ticket x v.stage

  abbrev pub at_turn : View O C R → ℕ
  at_turn v = is_at_turn v.stage

  -- the view of the pass that the turn is made with
  abbrev pub first_view : O → View O C R
  first_view o = record { opening = Some o; number = 0; made = 0; out = 0; joined = []; seen = []; shorter = []; calls = 0; stage = Idle }

  -- What holds of pass 0: its numbers are those of all views; the numbers joined to it are those of the spent ones, and neither the history
  -- nor its own list has another call of one of these than those that were counted at its join.
  pub record FitsFirst (log : List (Entry C R)) (views : List (View O C R)) (made out : ℕ) (joined : List (ℕ × ℕ)) (seen : List (Entry C R)) : Type 0 where
    pub made_is : length views ≡ suc made
    pub few : made ≤ max_made
    pub out_is : total live views ≡ suc out
    pub balance : length joined + out ≡ made
    pub spent_are : (k : ℕ) (x : View O C R) → get_elem? views k ≡ some x → live x ≡ 0 → (i : ℕ) × (n : ℕ) × (get_elem? joined i ≡ some (k, n))
    pub joined_are : (i k n : ℕ) → get_elem? joined i ≡ some (k, n)
        → (count_of k log ≡ n) × (count_of k seen ≡ n) × ((x : View O C R) × (get_elem? views k ≡ some x) × (live x ≡ 0))

  -- What holds of the view at k, if it is not spent: k is its number, its lists are prefixes of the history, and the history has no call of
  -- its pass but those that its own list has, which are as many as it counts.
  pub record Fits (opening : O) (log : List (Entry C R)) (serving : ℕ) (views : List (View O C R)) (k : ℕ) (v : View O C R) : Type 0 where
    pub number : v.number ≡ k
    pub opening_is : v.opening ≡ Some opening
    pub prefix : IsPrefix v.seen log
    pub shorter : IsPrefix v.shorter log
    pub own : count_of k v.seen ≡ v.calls
    pub all_own : count_of k log ≡ v.calls
    pub placed : IsPlaced log serving v.seen v.stage
    pub first : k ≡ 0 → FitsFirst log views v.made v.out v.joined v.seen

  -- a view that is not spent has seen all of the history
  abbrev pub IsSeenWhole : List (Entry C R) → List (View O C R) → Type 0
  IsSeenWhole log views = (k : ℕ) × (v : View O C R) × (get_elem? views k ≡ some v) × (live v ≡ 1) × (v.seen ≡ log)

  module _ (steps : O → C → R → O → Type 0) (opening : O) where
    -- no view is at turn: the slot is home and has the object, to which the history leads
    abbrev pub IsHome : List (Entry C R) → List (maybe.Option (Option O)) → List (View O C R) → Type 0
    IsHome log homes views = (total at_turn views ≡ 0) × ((o : O) × (homes ≡ some (Some o) ∷ []) × Leads steps opening log o)

    -- one view is at turn: the slot is out with its seat
    abbrev pub IsOut : List (maybe.Option (Option O)) → List (View O C R) → Type 0
    IsOut homes views = (total at_turn views ≡ 1) × (homes ≡ none ∷ [])

    -- The words are the next ticket and the ticket that is served. Each number from that one on, below the next, is the ticket of one view,
    -- and no other number is the ticket of any. The history, which is the longest list, has a call for each ticket that was served.
    pub record Rule (s : State (Option O) (View O C R)) : Type 0 where
      pub log : List (Entry C R)
      pub ticket : ℕ
      pub serving : ℕ
      pub words : s.words ≡ ticket ∷ serving ∷ []
      pub drawn : (x : ℕ) → serving ≤ x → x < ticket → total (holds x) s.views ≡ 1
      pub gone : (x : ℕ) → x < serving → total (holds x) s.views ≡ 0
      pub later : (x : ℕ) → ticket ≤ x → total (holds x) s.views ≡ 0
      pub waiting : serving + total waits s.views ≡ ticket
      pub served : length log ≡ serving
      pub low : serving ≤ ticket_limit
      pub place : IsHome log s.homes s.views ⊎ IsOut s.homes s.views
      pub longest : IsSeenWhole log s.views
      pub root : (v : View O C R) × (get_elem? s.views 0 ≡ some v) × (live v ≡ 1)
      pub each : (k : ℕ) (v : View O C R) → get_elem? s.views k ≡ some v → live v ≡ 1 → Fits opening log serving s.views k v
      pub numbers : All (λ e. e.by < length s.views) log
