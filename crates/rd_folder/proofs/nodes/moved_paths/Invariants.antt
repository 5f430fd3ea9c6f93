use Rattle.std.proofs.Common.{◌≡◌, take, map}
use Rattle.rd_dirinfo.specs.declared.naming.Naming.TheVariants.{Exact}
use Rattle.rd_dirinfo.specs.Paths.{moved_path}
use Rattle.rd_drive.specs.DriveState.{Node}
use Rattle.rd_folder.specs.InMemory.{paths_of}
use Rattle.rd_folder.proofs.nodes.moved_paths.Given as goal

abbrev pub invariant-loop-node : goal.invariant-loop-node
invariant-loop-node l = paths_of l.paths.items ≡ map (λ (node : Node). moved_path Exact l.from l.to node.path) (take l.node-index l.nodes)
