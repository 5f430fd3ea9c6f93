use Rattle.std.proofs.Common.{◌≡◌, ◌≤◌, ◌++◌, length, List}
use Rattle.std.specs.List.{AllZip}
use Rattle.rd_front.specs.State.{DeviceDeskState}
use Rattle.rd_workers.specs.Passes.{IsPassOf}
use Rattle.rd_workers.proofs.session.passes_of.Given as goal

abbrev pub invariant-loop-desk : goal.invariant-loop-desk
invariant-loop-desk g l = (done : List DeviceDeskState) × (l.fn.desks.items ≡ done ++ l.desk-iterator.rest.items) × AllZip IsPassOf done l.home.home × (length l.desk-iterator.rest.items ≤ l.home.to_come)
