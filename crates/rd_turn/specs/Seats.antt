-- What a seat of the table is to callers, and what holds of it between two calls and within one.
use Rattle.std.specs.Prelude.{◌≡◌, ℕ, ◌+◌, [], ◌∷◌, length, Option, Some}
use Rattle.atomic_table.specs.Table.{Me}
use Rattle.atomic_table.specs.declared.shared.Seat.{Seat}
use Rattle.rd_turn.specs.declared.rule.Stage.TheVariants.{Idle, AtTurn}
use Rattle.rd_turn.specs.declared.rule.View.{View}
use Rattle.rd_turn.specs.History.{Leads}
use Rattle.rd_turn.specs.Pass.{PassState}
use Rattle.rd_turn.specs.Rule.{count_of}

module _ {O C R : Type 0} where
  -- the pass that a seat stands for
  abbrev pub pass_of : Seat (Option O) (View O C R) → PassState O C R
  pass_of s = record { table = s.table_id; opening = s.me.0.opening; number = s.me.0.number; made = s.me.0.made; out = s.me.0.out; joined = s.me.0.joined; seen = s.me.0.seen }

  -- what holds of it between two calls
  pub record Rests (me : Me (Option O) (View O C R)) : Type 0 where
    pub holds_none : me.1 ≡ []
    pub idle : me.0.stage ≡ Idle
    pub balanced : length me.0.joined + me.0.out ≡ me.0.made
    pub own : count_of me.0.number me.0.seen ≡ me.0.calls

  module _ (steps : O → C → R → O → Type 0) where
    -- it is at turn, and its slot has the object as the call left it
    abbrev pub HasCalled : R → Me (Option O) (View O C R) → Type 0
    HasCalled reply me = (ticket : ℕ) × (call : C) × (first : O) × (before : O) × (after : O) × (me.0.stage ≡ AtTurn ticket call)
        × (me.0.opening ≡ Some first) × Leads steps first me.0.seen before × steps before call reply after × (me.1 ≡ (0, Some after) ∷ [])
