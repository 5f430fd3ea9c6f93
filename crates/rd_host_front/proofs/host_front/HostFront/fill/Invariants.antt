use Rattle.std.proofs.Common.{◌≡◌, ◌-◌, length}
use Rattle.rd_host_front.proofs.FillLemmas.{FillsOn}
use Rattle.rd_host_front.proofs.host_front.HostFront.fill.Given as goal

-- what comes after those in the room comes to what all come to
abbrev pub invariant-loop-self : goal.invariant-loop-self
invariant-loop-self g l = record {
  on : FillsOn l.fn.room.places l.fn.self l.self l.room.messages;
  places : l.room.places ≡ l.fn.room.places;
}

abbrev pub decreases-loop-self : goal.decreases-loop-self
decreases-loop-self g l = l.room.places - length l.room.messages
