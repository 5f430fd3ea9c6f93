use Rattle.std.proofs.Common.{◌∙◌, sym, ap}
use Rattle.std.specs.Option.{is_some}
use Rattle.rd_tree.specs.Nodes.{get_key}
use Rattle.rd_tree.proofs.NodeLemmas.{child_of-at, child_of-none, no_entries}
use Rattle.rd_tree.proofs.nodes.has_child.Goals as goal

pub returns-in-Some-first_key_value-clause-some : goal.returns-in-Some-first_key_value-clause-some
returns-in-Some-first_key_value-clause-some c e =
    let name = (c.in-Some-first_key_value.field-0).0.now.items in
    (name, ap is_some (child_of-at c.args.nodes.now c.args.node c.in-Some.folder.now name (sym c.in-Some.ensures) ∙ c.in-Some-first_key_value.ensures.value))

pub returns-in-None-first_key_value-clause-none : goal.returns-in-None-first_key_value-clause-none
returns-in-None-first_key_value-clause-none c e x =
    child_of-at c.args.nodes.now c.args.node c.in-Some.folder.now x (sym c.in-Some.ensures)
    ∙ ap (λ es. get_key es x) (no_entries c.in-Some.folder.now.children.entries c.in-None-first_key_value.ensures.variant.1)

pub returns-in-None-clause-none : goal.returns-in-None-clause-none
returns-in-None-clause-none c e x = child_of-none c.args.nodes.now c.args.node x (sym c.in-None.ensures)
