use Rattle.std.proofs.Common.{◌≡◌, take, map}
use Rattle.rd_dirinfo.specs.Naming.{fold_unit}
use Rattle.rd_tree.proofs.keys.fold_into.Given as goal

abbrev pub invariant-loop-i : goal.invariant-loop-i
invariant-loop-i l = take l.i l.buffer ≡ map fold_unit (take l.i l.name)
