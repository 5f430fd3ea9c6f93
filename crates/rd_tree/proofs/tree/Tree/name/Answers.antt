use Rattle.std.proofs.Common.{◌∙◌, sym, ap, subst}
use Rattle.rd_dirinfo.specs.Paths.{last_name}
use Rattle.rd_tree.specs.Places.{Places, IsLive, own_path}
use Rattle.rd_tree.specs.Nodes.{kind_of}
use Rattle.rd_tree.proofs.TreeLemmas.{not_some}
use Rattle.rd_tree.proofs.NodeLemmas.{kind_of-none}
use Rattle.rd_tree.proofs.PlaceLemmas.{live_place}
use Rattle.rd_tree.proofs.AccessLemmas.{name_seen, name_named}
use Rattle.rd_tree.proofs.tree.Tree.name.Goals as goal

pub unreachable-requires : goal.unreachable-requires
unreachable-requires c =
    not_some (kind_of c.self.inside.nodes c.args.node.0) (kind_of-none c.self.inside.nodes c.args.node.0 (sym c.in-None.ensures))
    (live_place c.self.inside.naming c.self.inside.nodes c.args.node.0 (subst (λ (t : Places). IsLive t c.args.node.0) (sym c.self.view_is) c.requires.live))

pub returns-clause-last : goal.returns-clause-last
returns-clause-last c =
    let live = subst (λ (t : Places). IsLive t c.args.node.0) (sym c.self.view_is) c.requires.live in
    name_seen c.self.inside.naming c.self.inside.nodes c.self.invariant c.args.node.0 c.in-Some.node.now live c.requires.other (sym c.in-Some.ensures)
    ∙ ap (λ (t : Places). last_name (own_path t c.args.node.0)) c.self.view_is

pub returns-clause-name : goal.returns-clause-name
returns-clause-name c =
    let live = subst (λ (t : Places). IsLive t c.args.node.0) (sym c.self.view_is) c.requires.live in
    name_named c.self.inside.naming c.self.inside.nodes c.self.invariant c.args.node.0 c.in-Some.node.now live c.requires.other (sym c.in-Some.ensures)
