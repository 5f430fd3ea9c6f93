use Rattle.std.proofs.Common.{◌≡◌, length}
use Rattle.rd_dirinfo.specs.Paths.{is_prefix}
use Rattle.rd_tree.specs.Places.{own_path, IsLive}
use Rattle.rd_drive.proofs.telling.is_above.Given as goal

abbrev pub invariant-loop-node : goal.invariant-loop-node
invariant-loop-node l = record {
  live : IsLive l.tree l.node.0;
  same : is_prefix l.tree.naming (own_path l.tree l.folder.0) (own_path l.tree l.node.0) ≡ is_prefix l.tree.naming (own_path l.tree l.folder.0) (own_path l.tree l.initial.node.0);
}

abbrev pub decreases-loop-node : goal.decreases-loop-node
decreases-loop-node l = length (own_path l.tree l.node.0)
