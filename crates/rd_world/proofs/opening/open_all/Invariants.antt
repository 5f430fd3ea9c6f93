use Rattle.std.proofs.Common.{length}
use Rattle.rd_world.proofs.OpenedLemmas.{OpensSome}
use Rattle.rd_world.proofs.opening.open_all.Given as goal

-- those so far are opened
abbrev pub invariant-loop-id : goal.invariant-loop-id
invariant-loop-id l = OpensSome l.fn.devices.entries l.devices.entries l.opened.stations l.opened.announced.items l.opened.printers

abbrev pub decreases-loop-id : goal.decreases-loop-id
decreases-loop-id l = length l.devices.entries
