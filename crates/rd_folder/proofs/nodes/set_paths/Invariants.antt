use Rattle.std.proofs.Common.{◌≡◌, ◌≤◌, ◌+◌, length, vec_capacity}
use Rattle.rd_dirinfo.specs.declared.naming.Naming.TheVariants.{Exact}
use Rattle.rd_drive.specs.DriveState.{in_order}
use Rattle.rd_folder.specs.InMemory.{carried, paths_of}
use Rattle.rd_folder.proofs.PutLemmas.{onto}
use Rattle.rd_folder.proofs.nodes.set_paths.Given as goal

abbrev pub invariant-loop-node : goal.invariant-loop-node
invariant-loop-node l = record {
  left : onto (carried l.nodes.items (paths_of l.paths.items)) l.into.items ≡ in_order Exact (carried l.fn.nodes.items (paths_of l.fn.paths.items));
  each : length l.paths.items ≡ length l.nodes.items;
  room : length l.into.items + length l.nodes.items ≤ vec_capacity l.into;
}

abbrev pub decreases-loop-node : goal.decreases-loop-node
decreases-loop-node l = length l.nodes.items
