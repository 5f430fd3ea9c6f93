use Rattle.std.proofs.Common.{◌∙◌, refl, sym, ap}
use Rattle.std.specs.BTreeMap.{is_at}
use Rattle.std.specs.Map.{lookup}
use Rattle.rd_tree.specs.Nodes.{to_kept}
use Rattle.rd_tree.proofs.NodeLemmas.{exchanged_here, exchanged_child, exchanged_file, exchanged_link, other_keys, on_err}
use Rattle.rd_tree.proofs.nodes.link.Goals as goal

pub returns-in_ok-insert-in-Some-clause-here : goal.returns-in_ok-insert-in-Some-clause-here
returns-in_ok-insert-in-Some-clause-here c =
    exchanged_here c.args.nodes.now c.args.folder c.in-Some.folder.now (record c.in-Some.folder.now { children = c.insert.new.self }) (sym c.in-Some.ensures.value) c.args.key.items ∙ c.in_ok-insert-in-Some.ensures.updates.1

pub returns-in_ok-insert-in-Some-clause-others : goal.returns-in_ok-insert-in-Some-clause-others
returns-in_ok-insert-in-Some-clause-others c n x not =
    exchanged_child c.args.nodes.now c.args.folder c.in-Some.folder.now (record c.in-Some.folder.now { children = c.insert.new.self }) (sym c.in-Some.ensures.value) n x
    (λ e. other_keys c.args.key.items c.in-Some.folder.now.children.entries c.insert.new.self.entries c.in_ok-insert-in-Some.ensures.updates.3 x (λ f. not (e, f)))

pub returns-in_ok-insert-in-Some-clause-links : goal.returns-in_ok-insert-in-Some-clause-links
returns-in_ok-insert-in-Some-clause-links c = exchanged_link c.args.nodes.now c.args.folder c.in-Some.folder.now (record c.in-Some.folder.now { children = c.insert.new.self }) (sym c.in-Some.ensures.value) refl refl

pub returns-in_ok-insert-in-Some-clause-files : goal.returns-in_ok-insert-in-Some-clause-files
returns-in_ok-insert-in-Some-clause-files c = exchanged_file c.args.nodes.now c.args.folder c.in-Some.folder.now (record c.in-Some.folder.now { children = c.insert.new.self }) (sym c.in-Some.ensures.value) refl

pub returns-in_err-insert-in-Some-clause-others : goal.returns-in_err-insert-in-Some-clause-others
returns-in_err-insert-in-Some-clause-others c n x not =
    exchanged_child c.args.nodes.now c.args.folder c.in-Some.folder.now (record c.in-Some.folder.now { children = c.insert.new.self }) (sym c.in-Some.ensures.value) n x
    (λ e. ap (lookup (is_at (to_kept x))) c.in_err-insert-in-Some.ensures.err)

pub returns-in_err-insert-in-Some-clause-refused : goal.returns-in_err-insert-in-Some-clause-refused
returns-in_err-insert-in-Some-clause-refused c = on_err c.from_residual.result
    (λ n x. exchanged_child c.args.nodes.now c.args.folder c.in-Some.folder.now (record c.in-Some.folder.now { children = c.insert.new.self }) (sym c.in-Some.ensures.value) n x
    (λ e. ap (lookup (is_at (to_kept x))) c.in_err-insert-in-Some.ensures.err))

pub returns-in_err-insert-in-Some-clause-links : goal.returns-in_err-insert-in-Some-clause-links
returns-in_err-insert-in-Some-clause-links c = exchanged_link c.args.nodes.now c.args.folder c.in-Some.folder.now (record c.in-Some.folder.now { children = c.insert.new.self }) (sym c.in-Some.ensures.value) refl refl

pub returns-in_err-insert-in-Some-clause-files : goal.returns-in_err-insert-in-Some-clause-files
returns-in_err-insert-in-Some-clause-files c = exchanged_file c.args.nodes.now c.args.folder c.in-Some.folder.now (record c.in-Some.folder.now { children = c.insert.new.self }) (sym c.in-Some.ensures.value) refl
