use Rattle.std.proofs.Common.{length}
use Rattle.rd_tree.specs.Places.{own_path}
use Rattle.rd_drive.proofs.telling.+put_below.Given as goal

abbrev pub decreases-put_below : goal.decreases-put_below
decreases-put_below l = length (own_path l.tree.now l.parent.0)
