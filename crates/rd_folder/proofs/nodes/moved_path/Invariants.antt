use Rattle.std.proofs.Common.{◌≡◌, ◌++◌, take}
use Rattle.rd_folder.proofs.nodes.moved_path.Given as goal

abbrev pub invariant-loop-name : goal.invariant-loop-name
invariant-loop-name l = l.names.items ≡ l.to ++ take l.name-index l.rest
