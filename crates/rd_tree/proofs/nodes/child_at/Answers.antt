use Rattle.std.proofs.Common.{rules}
use Rattle.rd_tree.specs.Nodes.{child_of}
use Rattle.rd_tree.proofs.nodes.child_at.Goals as goal

pub returns-in-Some : goal.returns-in-Some
unfolding child_of
returns-in-Some c = search rules

pub returns-in-None : goal.returns-in-None
unfolding child_of
returns-in-None c = search rules
