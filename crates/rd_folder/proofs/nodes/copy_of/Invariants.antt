use Rattle.std.proofs.Common.{◌≡◌, take}
use Rattle.rd_folder.proofs.nodes.copy_of.Given as goal

abbrev pub invariant-loop-name : goal.invariant-loop-name
invariant-loop-name l = l.names.items ≡ take l.name-index l.path
