use Rattle.std.proofs.Common.{ℕ, ◌≡◌, [], ◌∙◌, Some, ◌<◌, ◌^◌, sym, ap, subst}
use Rattle.rd_dirinfo.specs.Paths.{Names, seen_path}
use Rattle.rd_tree.specs.Walk.{down}
use Rattle.rd_tree.specs.Places.{Places, IsLive, node_at}
use Rattle.rd_tree.specs.Nodes.{child_of, up_of, kind_of}
use Rattle.rd_tree.proofs.NameLemmas.{path_names}
use Rattle.rd_tree.proofs.AccessLemmas.{if_some, if_numbered}
use Rattle.rd_tree.proofs.PlaceLemmas.{live_seen}
use Rattle.rd_tree.proofs.WayLemmas.{found_live, node_found}
use Rattle.rd_tree.proofs.WholeLemmas.{root_alone_at}
use Rattle.rd_tree.proofs.tree.Tree.find.Goals as goal

pub find-requires : goal.find-requires
find-requires c = path_names c.names.result.now c.args.path.now c.names.ensures.names c.names.ensures.within

pub numbered-requires : goal.numbered-requires
numbered-requires c =
    let nodes = c.self.inside.nodes in
    if_some (λ (n : ℕ). n < 2 ^ 32) c.find.result
    (λ n at. c.self.invariant.small n (found_live (child_of nodes) (up_of c.self.inside.naming nodes) (kind_of nodes) c.self.invariant.tree (seen_path c.self.inside.naming c.names.result.now) n (sym c.find.ensures ∙ at)))

pub returns-clause-found : goal.returns-clause-found
returns-clause-found c =
    c.numbered.ensures ∙ c.find.ensures ∙ ap (λ (p : Names). down (child_of c.self.inside.nodes) 0 (seen_path c.self.inside.naming p)) c.names.ensures.names
    ∙ sym (node_found c.self.inside.naming c.self.inside.nodes c.self.invariant c.args.path.now) ∙ ap (λ (t : Places). node_at t c.args.path.now) c.self.view_is

pub returns-clause-live : goal.returns-clause-live
returns-clause-live c =
    let nodes = c.self.inside.nodes in
    if_numbered (λ (n : ℕ). IsLive c.args.self.now n) c.find.result c.numbered.result c.numbered.ensures
    (λ n at. subst (λ (t : Places). IsLive t n) c.self.view_is
    (live_seen c.self.inside.naming nodes n (found_live (child_of nodes) (up_of c.self.inside.naming nodes) (kind_of nodes) c.self.invariant.tree (seen_path c.self.inside.naming c.names.result.now) n (sym c.find.ensures ∙ at))))

pub returns-clause-root : goal.returns-clause-root
returns-clause-root c =
    if_numbered (λ (n : ℕ). 0 ≡ n → c.args.path.now ≡ []) c.find.result c.numbered.result c.numbered.ensures
    (λ n at e. sym c.names.ensures.names ∙ root_alone_at c.self.inside.naming c.self.inside.nodes c.self.invariant c.names.result.now (sym c.find.ensures ∙ at ∙ ap (λ (k : ℕ). Some k) (sym e)))
