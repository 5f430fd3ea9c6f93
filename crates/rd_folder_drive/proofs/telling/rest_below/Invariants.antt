use Rattle.std.proofs.Common.{◌≡◌, length}
use Rattle.rd_folder_drive.specs.Telling.{rest_below}
use Rattle.rd_folder_drive.proofs.telling.rest_below.Given as goal

abbrev pub invariant-loop-name : goal.invariant-loop-name
invariant-loop-name l = rest_below l.above l.rest ≡ rest_below l.folder l.path

abbrev pub decreases-loop-name : goal.decreases-loop-name
decreases-loop-name l = length l.above
