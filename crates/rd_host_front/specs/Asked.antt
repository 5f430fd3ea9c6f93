-- Which calls of the table a message of the client asks for.
use Rattle.std.specs.Prelude.{Bool, true, false, ℕ, List, [], ◌∷◌, filter, map, Result, Ok, Err}
use Rattle.rd_devices.specs.declared.list.Announce.{Announce}
use Rattle.rd_hello.specs.declared.end_fault.EndFault.{EndFault}
use Rattle.rd_host.specs.declared.act.Act.{Act}
use Rattle.rd_host.specs.declared.act.Act.TheVariants as act
use Rattle.rd_host.specs.Served.{is_served_type}
use Rattle.rd_table.specs.declared.calls.PendingCall.{PendingCall}
use Rattle.rd_table.specs.declared.calls.PendingCall.TheVariants as table
use Rattle.rd_table.specs.declared.calls.PendingReply.{PendingReply}
use Rattle.rd_host_front.specs.declared.calls.HostFrontReply.{HostFrontReply}
use Rattle.rd_host_front.specs.declared.calls.HostFrontReply.TheVariants as reply

-- a call of the table, with its reply
abbrev pub CallMade : Type 0
CallMade = PendingCall × PendingReply

-- whether a device that is announced may begin a life
abbrev pub is_served : Announce → Bool
is_served a = is_served_type a.kind

-- What a message asks of the table: a life for each device that is announced and whose type is served, in order; that a completion is taken; and that each
-- device is removed that is gone, in order.
abbrev pub asked_of : Act → List PendingCall
asked_of act.Nothing = []
asked_of (act.Complete head body) = table.Complete head body ∷ []
asked_of (act.Announced devices) = map (λ (a : Announce). table.Live a.id) (filter is_served devices)
asked_of (act.Removed ids) = map (λ (id : ℕ). table.Remove id) ids

abbrev pub asked_by_answer : Result Act EndFault → List PendingCall
asked_by_answer (Ok a) = asked_of a
asked_by_answer (Err fault) = []

-- no memory was found for all that was to be done
abbrev pub is_wanting : {W : Type 0} → HostFrontReply W → Bool
is_wanting reply.Memory = true
is_wanting _ = false
