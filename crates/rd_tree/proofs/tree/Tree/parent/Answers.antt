use Rattle.std.proofs.Common.{◌∙◌, ◌<◌, ◌^◌, sym, ap, subst, arith}
use Rattle.rd_dirinfo.specs.Paths.{parent}
use Rattle.rd_tree.specs.Places.{Places, IsLive, is_folder, own_path}
use Rattle.rd_tree.specs.Nodes.{kind_of}
use Rattle.rd_tree.proofs.TreeLemmas.{not_some}
use Rattle.rd_tree.proofs.NodeLemmas.{kind_of-none}
use Rattle.rd_tree.proofs.PlaceLemmas.{live_place}
use Rattle.rd_tree.proofs.AccessLemmas.{parent_seen, parent_live, parent_folder, parent_small}
use Rattle.rd_tree.proofs.tree.Tree.parent.Goals as goal

pub overflow_cast-result : goal.overflow_cast-result
overflow_cast-result c =
    let live = subst (λ (t : Places). IsLive t c.args.node.0) (sym c.self.view_is) c.requires.live in
    let small : c.in-Some.node.now.parent < 2 ^ 32 = c.self.invariant.small c.in-Some.node.now.parent (parent_small c.self.inside.naming c.self.inside.nodes c.self.invariant c.args.node.0 c.in-Some.node.now live c.requires.other (sym c.in-Some.ensures)) in
    omega arith

pub unreachable-requires : goal.unreachable-requires
unreachable-requires c =
    not_some (kind_of c.self.inside.nodes c.args.node.0) (kind_of-none c.self.inside.nodes c.args.node.0 (sym c.in-None.ensures))
    (live_place c.self.inside.naming c.self.inside.nodes c.args.node.0 (subst (λ (t : Places). IsLive t c.args.node.0) (sym c.self.view_is) c.requires.live))

pub returns-clause-above : goal.returns-clause-above
returns-clause-above c =
    let live = subst (λ (t : Places). IsLive t c.args.node.0) (sym c.self.view_is) c.requires.live in
    ap (λ (t : Places). own_path t c.in-Some.node.now.parent) (sym c.self.view_is)
    ∙ parent_seen c.self.inside.naming c.self.inside.nodes c.self.invariant c.args.node.0 c.in-Some.node.now live c.requires.other (sym c.in-Some.ensures)
    ∙ ap (λ (t : Places). parent (own_path t c.args.node.0)) c.self.view_is

pub returns-clause-live : goal.returns-clause-live
returns-clause-live c =
    let live = subst (λ (t : Places). IsLive t c.args.node.0) (sym c.self.view_is) c.requires.live in
    subst (λ (t : Places). IsLive t c.in-Some.node.now.parent) c.self.view_is
    (parent_live c.self.inside.naming c.self.inside.nodes c.self.invariant c.args.node.0 c.in-Some.node.now live c.requires.other (sym c.in-Some.ensures))

pub returns-clause-folder : goal.returns-clause-folder
returns-clause-folder c =
    let live = subst (λ (t : Places). IsLive t c.args.node.0) (sym c.self.view_is) c.requires.live in
    ap (λ (t : Places). is_folder t c.in-Some.node.now.parent) (sym c.self.view_is)
    ∙ parent_folder c.self.inside.naming c.self.inside.nodes c.self.invariant c.args.node.0 c.in-Some.node.now live c.requires.other (sym c.in-Some.ensures)
