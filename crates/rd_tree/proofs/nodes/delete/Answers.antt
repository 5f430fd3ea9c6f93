use Rattle.rd_tree.proofs.NodeLemmas.{child_of-none, child_of-same, link_of-none, link_of-same, file_of-none, file_of-same}
use Rattle.rd_tree.proofs.nodes.delete.Goals as goal

pub returns-clause-bare : goal.returns-clause-bare
returns-clause-bare c x = child_of-none c.try_remove.new.self c.args.node x c.try_remove.ensures.updates.changed

pub returns-clause-children : goal.returns-clause-children
returns-clause-children c n x not = child_of-same c.args.nodes.now c.try_remove.new.self n x (c.try_remove.ensures.updates.others n not)

pub returns-clause-link : goal.returns-clause-link
returns-clause-link c = link_of-none c.try_remove.new.self c.args.node c.try_remove.ensures.updates.changed

pub returns-clause-links : goal.returns-clause-links
returns-clause-links c n not = link_of-same c.args.nodes.now c.try_remove.new.self n (c.try_remove.ensures.updates.others n not)

pub returns-clause-file : goal.returns-clause-file
returns-clause-file c = file_of-none c.try_remove.new.self c.args.node c.try_remove.ensures.updates.changed

pub returns-clause-files : goal.returns-clause-files
returns-clause-files c n not = file_of-same c.args.nodes.now c.try_remove.new.self n (c.try_remove.ensures.updates.others n not)
