use Rattle.std.proofs.Common.{◌∙◌, sym, ap, subst, None, Some, cond, Bool, Option, refl, ◌≡◌, true, false, not, List, ℕ}
use Rattle.std.specs.Option.{is_some}
use Rattle.rd_tree.specs.Places.{Places, IsLive, bytes_at, is_folder}
use Rattle.rd_tree.specs.Nodes.{kind_of}
use Rattle.rd_tree.proofs.TreeLemmas.{not_some}
use Rattle.rd_tree.proofs.NodeLemmas.{kind_of-at, kind_of-none}
use Rattle.rd_tree.proofs.PlaceLemmas.{folder_kind, live_place}
use Rattle.rd_tree.proofs.FileLemmas.{bytes_is}
use Rattle.rd_tree.proofs.tree.Tree.is_folder.Goals as goal

pub returns-clause-kind : goal.returns-clause-kind
returns-clause-kind c =
    ap (λ (t : Places). is_folder t c.args.node.0) (sym c.self.view_is) ∙ folder_kind c.self.inside.naming c.self.inside.nodes c.args.node.0
    ∙ kind_of-at c.self.inside.nodes c.args.node.0 c.in-Some.node.now (sym c.in-Some.ensures)

kind_told : (b : Bool) (contents : List ℕ) → b ≡ not (is_some (cond b None (Some contents)))
kind_told true contents = refl
kind_told false contents = refl

pub returns-clause-bytes : goal.returns-clause-bytes
returns-clause-bytes c =
    let node = c.in-Some.node.now in
    kind_told node.folder node.contents ∙ sym (ap (λ (o : Option (List ℕ)). not (is_some o)) (ap (λ (t : Places). bytes_at t c.args.node.0) (sym c.self.view_is) ∙ bytes_is c.self.inside.naming c.self.inside.nodes c.args.node.0 node (sym c.in-Some.ensures)))

pub unreachable-requires : goal.unreachable-requires
unreachable-requires c =
    let nodes = c.self.inside.nodes in
    not_some (kind_of nodes c.args.node.0) (kind_of-none nodes c.args.node.0 (sym c.in-None.ensures)) (live_place c.self.inside.naming nodes c.args.node.0 (subst (λ (t : Places). IsLive t c.args.node.0) (sym c.self.view_is) c.requires))
