use Rattle.std.proofs.Common.{◌≡◌, length}
use Rattle.rd_dirinfo.specs.declared.naming.Naming.TheVariants.{Exact}
use Rattle.rd_dirinfo.specs.Paths.{path_cmp}
use Rattle.rd_folder_drive.proofs.paths.compare.Given as goal

abbrev pub invariant-loop-x : goal.invariant-loop-x
invariant-loop-x l = path_cmp Exact l.fn.a l.fn.b ≡ path_cmp Exact l.a l.b

abbrev pub decreases-loop-x : goal.decreases-loop-x
decreases-loop-x l = length l.a
