use Rattle.std.proofs.Common.{◌≡◌, length}
use Rattle.rd_dirinfo.specs.Naming.{name_cmp}
use Rattle.rd_dirinfo.proofs.naming.Naming.compare.Given as goal

abbrev pub invariant-loop-x : goal.invariant-loop-x
invariant-loop-x l = name_cmp l.self l.fn.a l.fn.b ≡ name_cmp l.self l.a l.b

abbrev pub decreases-loop-x : goal.decreases-loop-x
decreases-loop-x l = length l.a
