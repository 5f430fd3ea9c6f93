-- What each step tells the pass that makes it, and how views are cut in two and joined.
use Rattle.std.specs.Prelude.{◌≡◌, ℕ, suc, ◌+◌, ◌-◌, ◌<◌, ◌≤◌, nat_lt, if◌then◌else◌, List, [], ◌∷◌, ◌++◌, length, All, Option, Some, None}
use mathlib.Core.List.{IsPrefix}
use mathlib.Core.Option.{some}
use lib.ListN.{get_elem?}
use Rattle.atomic_table.specs.Table.{Me, Step, rest}
use Rattle.rd_turn.specs.declared.object.Entry.{Entry}
use Rattle.rd_turn.specs.declared.rule.Stage.TheVariants.{Idle, Waiting, AtTurn, Spent}
use Rattle.rd_turn.specs.declared.rule.View.{View}
use Rattle.rd_turn.specs.History.{Leads, entry}
use Rattle.rd_turn.specs.Rule.{ticket_limit, count_of}

-- the serving word is this ticket, which is one that may be served
abbrev pub HasTurn : ℕ → ℕ → Type 0
HasTurn serving ticket = (serving ≡ ticket) × (serving < ticket_limit)

module _ {C R : Type 0} where
  abbrev pub longer_of : List (Entry C R) → List (Entry C R) → List (Entry C R)
  longer_of xs ys = if nat_lt (length xs) (length ys) then ys else xs

  abbrev pub shorter_of : List (Entry C R) → List (Entry C R) → List (Entry C R)
  shorter_of xs ys = if nat_lt (length xs) (length ys) then xs else ys

module _ {O C R : Type 0} where
  abbrev pub waiting_view : View O C R → ℕ → C → View O C R
  waiting_view v t c = record v { stage = Waiting t c }

  abbrev pub turn_view : View O C R → List (Entry C R) → ℕ → C → View O C R
  turn_view v seen t c = record v { seen = seen; stage = AtTurn t c }

  abbrev pub passed_view : View O C R → C → R → View O C R
  passed_view v c r = record v { seen = v.seen ++ entry v.number c r ∷ []; calls = suc v.calls; stage = Idle }

  abbrev pub kept_view : View O C R → View O C R
  kept_view v = record v { made = suc v.made; out = suc v.out }

  abbrev pub new_view : View O C R → View O C R
  new_view v = record { opening = v.opening; number = suc v.made; made = 0; out = 0; joined = []; seen = v.seen; shorter = []; calls = 0; stage = Idle }

  abbrev pub both_views : View O C R → View O C R → View O C R
  both_views v w = record v { out = v.out - 1; joined = (w.number, w.calls) ∷ v.joined; seen = longer_of v.seen w.seen; shorter = shorter_of v.seen w.seen }

  abbrev pub spent_view : View O C R
  spent_view = record { opening = None; number = 0; made = 0; out = 0; joined = []; seen = []; shorter = []; calls = 0; stage = Spent }

  -- What a view learns at its turn: these calls came after its own list. None has its number or one that was joined to it, and the numbers of
  -- all calls are of passes that pass 0 has made.
  pub record Grown (v : View O C R) (seen added : List (Entry C R)) : Type 0 where
    pub grown : seen ≡ v.seen ++ added
    pub not_own : count_of v.number added ≡ 0
    pub own : count_of v.number seen ≡ v.calls
    pub not_joined : v.number ≡ 0 → (i k n : ℕ) → get_elem? v.joined i ≡ some (k, n) → count_of k added ≡ 0
    pub numbers : v.number ≡ 0 → All (λ e. e.by ≤ v.made) seen

  -- draw: the view has the ticket that was found, for the call that is said
  abbrev pub Draws : Option C → Step (Option O) → Me (Option O) (View O C R) → ℕ → Me (Option O) (View O C R) → Type 0
  Draws said st m found m' = (c : C) × (said ≡ Some c) × (m' ≡ (waiting_view m.0 found c, m.1))

  module _ (steps : O → C → R → O → Type 0) where
    -- the seat comes to its turn: it has the slot with the object, and has seen the history that leads to it
    abbrev pub Comes : ℕ → C → Me (Option O) (View O C R) → Me (Option O) (View O C R) → Type 0
    Comes t c m m' = (first : O) × (o : O) × (seen : List (Entry C R)) × (added : List (Entry C R))
        × (m.0.opening ≡ Some first) × (m' ≡ (turn_view m.0 seen t c, (0, Some o) ∷ [])) × Leads steps first seen o × Grown m.0 seen added

    -- look: the view comes to its turn exactly where its ticket is served
    abbrev pub Looks : Step (Option O) → Me (Option O) (View O C R) → ℕ → Me (Option O) (View O C R) → Type 0
    Looks st m found m' = (t : ℕ) (c : C) → m.0.stage ≡ Waiting t c → (HasTurn found t → Comes t c m m') × (¬ HasTurn found t → m' ≡ m)

  -- pass on: the list ends with the view's call and the reply that is said, and the slot goes home
  abbrev pub PassesOn : Option R → Step (Option O) → Me (Option O) (View O C R) → ℕ → Me (Option O) (View O C R) → Type 0
  PassesOn said st m found m' = (t : ℕ) (c : C) → m.0.stage ≡ AtTurn t c → (reply : R) × (said ≡ Some reply) × (m' ≡ (passed_view m.0 c reply, rest m.1))

  -- what a view learns of its lists from the rule alone
  pub record Settled (v : View O C R) : Type 0 where
    pub prefix : length v.shorter ≤ length v.seen → IsPrefix v.shorter v.seen
    pub own : count_of v.number v.seen ≡ v.calls
    pub balance : v.number ≡ 0 → length v.joined + v.out ≡ v.made
    pub joined : v.number ≡ 0 → (i k n : ℕ) → get_elem? v.joined i ≡ some (k, n) → count_of k v.seen ≡ n
    pub numbers : v.number ≡ 0 → All (λ e. e.by ≤ v.made) v.seen

  -- a look at the next ticket, beside a split and a join: nothing changes
  abbrev pub Learns : Step (Option O) → Me (Option O) (View O C R) → ℕ → Me (Option O) (View O C R) → Type 0
  Learns st m found m' = (m' ≡ m) × Settled m.0
