use Rattle.std.proofs.Common.{◌∙◌, sym, ap, subst, length, ℕ, Some, None, cond}
use Rattle.std.specs.Option.{option_map, is_some}
use Rattle.rd_tree.specs.Places.{Places, IsLive, bytes_at, is_folder}
use Rattle.rd_tree.specs.Nodes.{kind_of}
use Rattle.rd_tree.proofs.TreeLemmas.{not_some}
use Rattle.rd_tree.proofs.NodeLemmas.{kind_of-at, kind_of-none}
use Rattle.rd_tree.proofs.PlaceLemmas.{folder_kind, live_place}
use Rattle.rd_tree.proofs.FileLemmas.{bytes_is, bytes_none}
use Rattle.rd_tree.proofs.tree.Tree.end.Goals as goal

pub returns-in_default-clause-end : goal.returns-in_default-clause-end
returns-in_default-clause-end c = sym (ap (option_map (length {A = ℕ})) (ap (λ (t : Places). bytes_at t c.args.node.0) (sym c.self.view_is) ∙ bytes_none c.self.inside.naming c.self.inside.nodes c.args.node.0 (sym c.in_default.ensures)))

pub returns-then-node-clause-end : goal.returns-then-node-clause-end
returns-then-node-clause-end c =
    let node = c.in-Some.node.now in
    sym (ap (option_map (length {A = ℕ})) (ap (λ (t : Places). bytes_at t c.args.node.0) (sym c.self.view_is) ∙ bytes_is c.self.inside.naming c.self.inside.nodes c.args.node.0 node (sym c.in-Some.ensures) ∙ ap (λ b. cond b None (Some node.contents)) c.if-node.true))

pub returns-clause-end : goal.returns-clause-end
returns-clause-end c =
    let node = c.in-Some.node.now in
    ap Some c.len.ensures.len ∙ sym (ap (option_map (length {A = ℕ})) (ap (λ (t : Places). bytes_at t c.args.node.0) (sym c.self.view_is) ∙ bytes_is c.self.inside.naming c.self.inside.nodes c.args.node.0 node (sym c.in-Some.ensures) ∙ ap (λ b. cond b None (Some node.contents)) c.if-node.false))

pub returns-clause-file : goal.returns-clause-file
returns-clause-file c =
    let node = c.in-Some.node.now in
    ap is_some (ap (λ (t : Places). bytes_at t c.args.node.0) (sym c.self.view_is) ∙ bytes_is c.self.inside.naming c.self.inside.nodes c.args.node.0 node (sym c.in-Some.ensures) ∙ ap (λ b. cond b None (Some node.contents)) c.if-node.false)

pub returns-in_default-clause-folder : goal.returns-in_default-clause-folder
returns-in_default-clause-folder c =
    let nodes = c.self.inside.nodes in
    absurd (not_some (kind_of nodes c.args.node.0) (kind_of-none nodes c.args.node.0 (sym c.in_default.ensures)) (live_place c.self.inside.naming nodes c.args.node.0 (subst (λ (t : Places). IsLive t c.args.node.0) (sym c.self.view_is) c.requires)))

pub returns-then-node-clause-folder : goal.returns-then-node-clause-folder
returns-then-node-clause-folder c =
    ap (λ (t : Places). is_folder t c.args.node.0) (sym c.self.view_is) ∙ folder_kind c.self.inside.naming c.self.inside.nodes c.args.node.0
    ∙ kind_of-at c.self.inside.nodes c.args.node.0 c.in-Some.node.now (sym c.in-Some.ensures) ∙ ap Some c.if-node.true
