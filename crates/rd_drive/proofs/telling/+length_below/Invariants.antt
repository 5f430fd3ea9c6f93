use Rattle.std.proofs.Common.{length}
use Rattle.rd_tree.specs.Places.{own_path}
use Rattle.rd_drive.proofs.telling.+length_below.Given as goal

abbrev pub decreases-length_below : goal.decreases-length_below
decreases-length_below l = length (own_path l.tree.now l.parent.0)
