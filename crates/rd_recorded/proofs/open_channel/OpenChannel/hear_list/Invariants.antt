use Rattle.std.proofs.Common.{◌≡◌, take, map}
use Rattle.rd_devices.specs.declared.list.Announce.{Announce}
use Rattle.rd_recorded.proofs.open_channel.OpenChannel.hear_list.Given as goal

-- the ids of the devices so far
abbrev pub invariant-loop-device : goal.invariant-loop-device
invariant-loop-device l = (l.ids.items ≡ map (λ (a : Announce). a.id) (take l.device-index l.device-items)) × (l.self ≡ l.fn.self)
