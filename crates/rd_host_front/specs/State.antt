-- What a host's front keeps: the host's core, and its pass of the table; and what its calls make of passes of the table.
use Rattle.std.specs.Prelude.{◌≡◌, ◌≢◌, ℕ, suc, Bool, [], ◌∷◌, length, Option, IsSomeAnd}
use Rattle.rd_host.specs.Core.{HostCoreState}
use Rattle.rd_pending.specs.Table.{TableState, new_table}
use Rattle.rd_table.specs.declared.calls.PendingCall.{PendingCall}
use Rattle.rd_table.specs.declared.calls.PendingReply.{PendingReply}
use Rattle.rd_table.specs.Calls.{PendingStep}
use Rattle.rd_turn.specs.History.{IsLegal, calls_of}
use Rattle.rd_turn.specs.Pass.{Belongs, Called, GoesOn, IsLongerOf, IsNumbered, IsSamePass, PassState, TurnId, after_split, new_pass}

-- a turn of the table, and a pass of it
abbrev pub TurnOfTable : Type 0
TurnOfTable = TurnId TableState

abbrev pub PassOfTable : Type 0
PassOfTable = PassState TableState PendingCall PendingReply

-- what stands for a turn where none was picked
abbrev pub no_turn : TurnOfTable
no_turn = record {
  table = record { words = 2; slots = 1; views_name = 0; atom = 0; block = 0; offset = 0; slot_names = [] };
  opening = new_table;
}

-- The turn of the table, and the front's pass of it.
pub record FrontPassState : Type 0 where
  pub turn : TurnOfTable
  pub pass : PassOfTable

-- What a host's front keeps.
pub record HostFrontState : Type 0 where
  pub core : HostCoreState
  pub table : FrontPassState
  -- the number of the channel that began last
  pub channel : ℕ
  -- whether it hasn't ended
  pub on : Bool
  -- at most so many messages stand in the core's outbox
  pub unsent : ℕ

-- ---- passes of the table

-- A pass calls the table: what it has seen ends with the call and its reply, and all of it is a legal history of the table.
pub record PassCalls (turn : TurnOfTable) (old : PassOfTable) (does : PendingCall) (back : PendingReply) (new : PassOfTable) : Type 0 where
  pub same : IsSamePass old new
  pub called : Called old does back new
  pub legal : IsLegal PendingStep turn.opening new.seen
  pub numbers : IsNumbered new

-- The same of the front's pass.
pub record FrontPassCalls (old : FrontPassState) (does : PendingCall) (back : PendingReply) (new : FrontPassState) : Type 0 where
  pub turn : new.turn ≡ old.turn
  pub calls : PassCalls old.turn old.pass does back new.pass

-- Pass 0 before another pass is joined to it, the other, and pass 0 after that.
pub record JoinsPass (old other new : PassOfTable) : Type 0 where
  pub number : new.number ≡ 0
  pub made : new.made ≡ old.made
  pub out : suc new.out ≡ old.out
  pub joined : new.joined ≡ (other.number, length (calls_of other.number other.seen)) ∷ old.joined
  pub longer : IsLongerOf old.seen other.seen new.seen
  pub other_calls : calls_of other.number new.seen ≡ calls_of other.number other.seen
  pub goes_on : GoesOn old new
  pub numbers : IsNumbered new

-- The front's pass is joined to pass 0, and a new one is split from that: the new one has seen all that both had, and made no call.
pub record Renews (first : PassOfTable) (old : FrontPassState) (first_then : PassOfTable) (new : FrontPassState) : Type 0 where
  pub both : PassOfTable
  pub joins : JoinsPass first old.pass both
  pub kept : first_then ≡ after_split both
  pub given : new ≡ record old { pass = new_pass both }
  pub fresh : calls_of (new.pass).number (new.pass).seen ≡ []

-- The same, and in between pass 0 calls the table: the new one has seen that call too.
pub record RenewsBy (does : PendingCall) (back : PendingReply) (first : PassOfTable) (old : FrontPassState) (first_then : PassOfTable) (new : FrontPassState) : Type 0 where
  pub both : PassOfTable
  pub joins : JoinsPass first old.pass both
  pub after : PassOfTable
  pub calls : PassCalls old.turn both does back after
  pub kept : first_then ≡ after_split after
  pub given : new ≡ record old { pass = new_pass after }
  pub fresh : calls_of (new.pass).number (new.pass).seen ≡ []

-- ---- what always holds

-- pass 0 of a turn
pub record IsFirstOf (turn : TurnOfTable) (p : PassOfTable) : Type 0 where
  pub own : Belongs turn p
  pub first : p.number ≡ 0

-- a pass of a turn that was split from pass 0
pub record IsSplitOf (turn : TurnOfTable) (p : PassOfTable) : Type 0 where
  pub own : Belongs turn p
  pub later : p.number ≢ 0

-- the turn is the one that was picked, and the pass is there, and was split from its pass 0
pub record HoldsPass (picked turn : TurnOfTable) (pass : Option PassOfTable) : Type 0 where
  pub same : turn ≡ picked
  pub there : IsSomeAnd pass (IsSplitOf turn)
