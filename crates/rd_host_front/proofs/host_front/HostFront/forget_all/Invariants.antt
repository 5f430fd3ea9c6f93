use Rattle.rd_host_front.proofs.ListedLemmas.{ForgetsOn}
use Rattle.rd_host_front.proofs.host_front.HostFront.forget_all.Given as goal

-- those that are left come to what all come to
abbrev pub invariant-loop-device : goal.invariant-loop-device
invariant-loop-device g l = ForgetsOn l.devices l.device-index l.fn.self l.self
