-- A history of a table that two passes called, for worked cases.
use Rattle.std.specs.Prelude.{List, [], ◌∷◌, ◌++◌, true, Ok, Err}
use Rattle.rd_base.specs.declared.journal.Cause.TheVariants.{Removed}
use Rattle.rd_pending.specs.declared.calls.Outcome.TheVariants.{Lost}
use Rattle.rd_pending.specs.declared.calls.TakeNo.TheVariants.{NotYet}
use Rattle.rd_pending.specs.declared.calls.Taken.{Taken}
use Rattle.rd_pending.specs.declared.calls.Target.TheVariants as target
use Rattle.rd_pending.specs.Worked.{opening}
use Rattle.rd_turn.specs.declared.object.Entry.{Entry}
use Rattle.rd_turn.specs.History.{entry}
use Rattle.rd_table.specs.declared.calls.PendingCall.{PendingCall}
use Rattle.rd_table.specs.declared.calls.PendingCall.TheVariants as call
use Rattle.rd_table.specs.declared.calls.PendingReply.{PendingReply}
use Rattle.rd_table.specs.declared.calls.PendingReply.TheVariants as reply

-- device 1 was gone before the request's completion came
abbrev pub lost : Taken
lost = record { device = 1; life = 1; outcome = Lost Removed }

-- A channel begins, on which device 1 is there; pass 2 asks for its root, and looks for the outcome before and after the device is gone.
abbrev pub in_use : List (Entry PendingCall PendingReply)
in_use =
    entry 0 (call.Begin 1) (reply.Begun true)
    ∷ entry 1 (call.Live 1) (reply.Lives (Ok 1))
    ∷ entry 2 (call.Submit 1 (target.Device 1) opening) (reply.Submitted (Ok 1))
    ∷ entry 2 (call.Take 1) (reply.Taken (Err NotYet))
    ∷ entry 1 (call.Remove 1) (reply.Removed true)
    ∷ entry 2 (call.Take 1) (reply.Taken (Ok lost))
    ∷ []

-- what no table does: the outcome is handed out once more
abbrev pub lost_twice : List (Entry PendingCall PendingReply)
lost_twice = in_use ++ entry 3 (call.Take 1) (reply.Taken (Ok lost)) ∷ []
