use Rattle.std.proofs.Common.{◌∙◌, refl, sym, ap, Some}
use Rattle.rd_tree.proofs.NodeLemmas.{exchanged_child, exchanged_file, exchanged_link_here, exchanged_link_other, link_of-at, link_of-none, pair}
use Rattle.rd_tree.proofs.moving.place.Goals as goal

pub returns-in-Some-clause-from : goal.returns-in-Some-clause-from
returns-in-Some-clause-from c = ap Some (pair _ _ _ _ c.replace-was.ensures.value c.replace-old.ensures.value) ∙ sym (link_of-at c.args.nodes.now c.args.node c.in-Some.node.now c.requires.other (sym c.in-Some.ensures.value))

pub returns-in-Some-clause-to : goal.returns-in-Some-clause-to
returns-in-Some-clause-to c =
    exchanged_link_here c.args.nodes.now c.args.node c.in-Some.node.now (record c.in-Some.node.now { parent = c.replace-was.new.dest; name = c.replace-old.new.dest }) (sym c.in-Some.ensures.value) c.requires.other
    ∙ ap Some (pair _ _ _ _ c.replace-was.ensures.after c.replace-old.ensures.after)

pub returns-in-Some-clause-links : goal.returns-in-Some-clause-links
returns-in-Some-clause-links c = exchanged_link_other c.args.nodes.now c.args.node c.in-Some.node.now (record c.in-Some.node.now { parent = c.replace-was.new.dest; name = c.replace-old.new.dest }) (sym c.in-Some.ensures.value)

pub returns-in-Some-clause-children : goal.returns-in-Some-clause-children
returns-in-Some-clause-children c n x = exchanged_child c.args.nodes.now c.args.node c.in-Some.node.now (record c.in-Some.node.now { parent = c.replace-was.new.dest; name = c.replace-old.new.dest }) (sym c.in-Some.ensures.value) n x (λ e. refl)

pub returns-in-Some-clause-files : goal.returns-in-Some-clause-files
returns-in-Some-clause-files c = exchanged_file c.args.nodes.now c.args.node c.in-Some.node.now (record c.in-Some.node.now { parent = c.replace-was.new.dest; name = c.replace-old.new.dest }) (sym c.in-Some.ensures.value) refl

pub returns-in-None-clause-from : goal.returns-in-None-clause-from
returns-in-None-clause-from c = sym (link_of-none c.args.nodes.now c.args.node (sym c.in-None.ensures.value))
