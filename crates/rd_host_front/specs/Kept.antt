-- What the calls of a host's front keep, and what they make of pass 0 of the table.
use Rattle.std.specs.Prelude.{◌≡◌, ◌≤◌, ◌+◌, Bool, true, [], length}
use mathlib.Core.List.{IsPrefix}
use Rattle.rd_turn.specs.History.{calls_of}
use Rattle.rd_host_front.specs.declared.calls.Came.{Came}
use Rattle.rd_host_front.specs.declared.calls.Came.TheVariants as came
use Rattle.rd_host_front.specs.declared.calls.HostFrontReply.{HostFrontReply}
use Rattle.rd_host_front.specs.declared.calls.HostFrontReply.TheVariants as reply
use Rattle.rd_host_front.specs.State.{FrontPassState, HostFrontState, PassOfTable}

-- no more messages stand in the core's outbox than are counted
abbrev pub CountsUnsent : HostFrontState → Type 0
CountsUnsent s = length ((s.core).core).outbox ≤ s.unsent

-- Pass 0 as it went in, and as it came back: at most two passes were split from it, and as many were joined to it. It has seen what it had.
pub record IsHandedBack (first last : PassOfTable) : Type 0 where
  pub number : last.number ≡ first.number
  pub least : first.made ≤ last.made
  pub most : last.made ≤ first.made + 2
  pub out : last.out ≡ first.out
  pub seen : IsPrefix first.seen last.seen

-- The front's pass was renewed: what came back has seen all that it had. The front's pass then has seen all that came back, in which it had made no call.
pub record IsBehind (old : FrontPassState) (last : PassOfTable) (new : FrontPassState) : Type 0 where
  pub before : IsPrefix (old.pass).seen last.seen
  pub after : IsPrefix last.seen (new.pass).seen
  pub fresh : calls_of (new.pass).number last.seen ≡ []

-- what the front's pass has seen goes on
abbrev pub SeesOn : FrontPassState → FrontPassState → Type 0
SeesOn old new = IsPrefix (old.pass).seen (new.pass).seen

-- The front's pass is renewed where the table was asked to begin the channel, and nothing happened to it else.
abbrev pub RenewsOnBegin : Came → FrontPassState → PassOfTable → FrontPassState → Type 0
RenewsOnBegin came.Done old last new = IsBehind old last new
RenewsOnBegin came.Unfit old last new = IsBehind old last new
RenewsOnBegin _ old last new = new ≡ old

-- It is renewed at the first try for a line, and where the channel has ended.
abbrev pub RenewsOnDrop : Bool → Came → FrontPassState → PassOfTable → FrontPassState → Type 0
RenewsOnDrop anew came.Done old last new = IsBehind old last new
RenewsOnDrop true came.NotYet old last new = IsBehind old last new
RenewsOnDrop _ _ old last new = SeesOn old new

-- What a call that pass 0 was handed with hands back.
pub record BeginsBack {W : Type 0} (first : PassOfTable) (old : HostFrontState) (back : HostFrontReply W) (new : HostFrontState) : Type 0 where
  pub last : PassOfTable
  pub what : Came
  pub is : back ≡ reply.First last what
  pub kept : IsHandedBack first last
  pub renews : RenewsOnBegin what old.table last new.table

pub record DropsBack {W : Type 0} (anew : Bool) (first : PassOfTable) (old : HostFrontState) (back : HostFrontReply W) (new : HostFrontState) : Type 0 where
  pub last : PassOfTable
  pub what : Came
  pub is : back ≡ reply.First last what
  pub kept : IsHandedBack first last
  pub renews : RenewsOnDrop anew what old.table last new.table
