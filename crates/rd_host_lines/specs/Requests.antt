-- Requests that a host's table accepted, and whether their messages have room for their numbers.
use Rattle.std.specs.Prelude.{List, Ok}
use Rattle.std.specs.List.{AllByRecursion}
use Rattle.rd_table.specs.declared.calls.PendingCall.{PendingCall}
use Rattle.rd_table.specs.declared.calls.PendingCall.TheVariants as call
use Rattle.rd_table.specs.declared.calls.PendingReply.{PendingReply}
use Rattle.rd_table.specs.declared.calls.PendingReply.TheVariants as reply
use Rattle.rd_turn.specs.declared.object.Entry.{Entry}
use Rattle.rd_deeds.specs.HostDeeds.{IsInRange}

-- a request that a table accepted has numbers that its message has room for
abbrev pub AcceptsCallInRange : PendingCall → PendingReply → Type 0
AcceptsCallInRange (call.Submit application named op) (reply.Submitted (Ok number)) = IsInRange named op
AcceptsCallInRange _ _ = Unit {0}

-- the same of a call of a history
abbrev pub AcceptsInRange : Entry PendingCall PendingReply → Type 0
AcceptsInRange e = AcceptsCallInRange e.call e.reply

-- and of each of these
abbrev pub AreInRange : List (Entry PendingCall PendingReply) → Type 0
AreInRange entries = AllByRecursion AcceptsInRange entries
