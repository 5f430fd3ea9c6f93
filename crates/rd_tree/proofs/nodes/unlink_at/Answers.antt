use Rattle.std.proofs.Common.{◌∙◌, refl, sym}
use Rattle.rd_tree.proofs.NodeLemmas.{exchanged_here, exchanged_child, exchanged_file, exchanged_link, other_keys, child_of-none}
use Rattle.rd_tree.proofs.nodes.unlink_at.Goals as goal

pub returns-in-Some-clause-gone : goal.returns-in-Some-clause-gone
returns-in-Some-clause-gone c =
    exchanged_here c.args.nodes.now c.args.folder c.in-Some.folder.now (record c.in-Some.folder.now { children = c.remove.new.self }) (sym c.in-Some.ensures.value) c.args.key.now ∙ c.remove.ensures.updates.1

pub returns-in-Some-clause-others : goal.returns-in-Some-clause-others
returns-in-Some-clause-others c n x not =
    exchanged_child c.args.nodes.now c.args.folder c.in-Some.folder.now (record c.in-Some.folder.now { children = c.remove.new.self }) (sym c.in-Some.ensures.value) n x
    (λ e. other_keys c.args.key.now c.in-Some.folder.now.children.entries c.remove.new.self.entries c.remove.ensures.updates.3 x (λ f. not (e, f)))

pub returns-in-Some-clause-links : goal.returns-in-Some-clause-links
returns-in-Some-clause-links c = exchanged_link c.args.nodes.now c.args.folder c.in-Some.folder.now (record c.in-Some.folder.now { children = c.remove.new.self }) (sym c.in-Some.ensures.value) refl refl

pub returns-in-Some-clause-files : goal.returns-in-Some-clause-files
returns-in-Some-clause-files c = exchanged_file c.args.nodes.now c.args.folder c.in-Some.folder.now (record c.in-Some.folder.now { children = c.remove.new.self }) (sym c.in-Some.ensures.value) refl

pub returns-in_default-clause-gone : goal.returns-in_default-clause-gone
returns-in_default-clause-gone c = child_of-none c.args.nodes.now c.args.folder c.args.key.now (sym c.in_default.ensures.value)
