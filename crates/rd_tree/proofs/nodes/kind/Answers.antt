use Rattle.std.proofs.Common.{sym}
use Rattle.rd_tree.proofs.NodeLemmas.{kind_of-at, kind_of-none}
use Rattle.rd_tree.proofs.nodes.kind.Goals as goal

pub returns-in-Some : goal.returns-in-Some
returns-in-Some c = sym (kind_of-at c.args.nodes.now c.args.node c.in-Some.node.now (sym c.in-Some.ensures))

pub returns-in-None : goal.returns-in-None
returns-in-None c = sym (kind_of-none c.args.nodes.now c.args.node (sym c.in-None.ensures))
