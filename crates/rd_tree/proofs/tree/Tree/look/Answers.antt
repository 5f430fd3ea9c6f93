use Rattle.std.proofs.Common.{◌≡◌, ◌∙◌, ◌<◌, ◌^◌, ℕ, [], length, sym, ap, subst, arith}
use Rattle.std.specs.Option.{is_some}
use Rattle.rd_tree.specs.Places.{Places, IsLive, add_refusal, folder_of, node_at}
use Rattle.rd_tree.proofs.NameLemmas.{path_names}
use Rattle.rd_tree.proofs.PlaceLemmas.{live_seen, located_node}
use Rattle.rd_tree.proofs.AccessLemmas.{folder_located, folder_lost, folder_root, if_some, if_numbered, no_names, node_live, node_lost}
use Rattle.rd_tree.proofs.AddLemmas.{above_zero, refused_lost}
use Rattle.rd_tree.proofs.WayLemmas.{node_found}
use Rattle.rd_tree.proofs.tree.Tree.look.Goals as goal

pub locate-requires : goal.locate-requires
locate-requires c = path_names c.names-names.result.now c.args.path.now c.names-names.ensures.names c.names-names.ensures.within

pub returns-then-is_empty-clause-folder : goal.returns-then-is_empty-clause-folder
returns-then-is_empty-clause-folder c =
    let none : c.args.path.now ≡ [] = sym c.names-names.ensures.names ∙ no_names c.names-names.result.now c.is_empty.result c.is_empty.ensures c.if-is_empty.true in
    sym (folder_root c.self.inside.naming c.self.inside.nodes c.self.invariant) ∙ ap (λ (t : Places). folder_of t []) c.self.view_is ∙ ap (folder_of c.args.self.now) (sym none)

pub returns-then-is_empty-clause-node : goal.returns-then-is_empty-clause-node
returns-then-is_empty-clause-node c =
    let none : c.args.path.now ≡ [] = sym c.names-names.ensures.names ∙ no_names c.names-names.result.now c.is_empty.result c.is_empty.ensures c.if-is_empty.true in
    sym (node_found c.self.inside.naming c.self.inside.nodes c.self.invariant []) ∙ ap (λ (t : Places). node_at t []) c.self.view_is ∙ ap (node_at c.args.self.now) (sym none)

pub returns-then-is_empty-clause-folder_live : goal.returns-then-is_empty-clause-folder_live
returns-then-is_empty-clause-folder_live c =
    subst (λ (t : Places). IsLive t 0) c.self.view_is (live_seen c.self.inside.naming c.self.inside.nodes 0 (ap is_some c.self.invariant.tree.root))

pub returns-then-is_empty-clause-node_live : goal.returns-then-is_empty-clause-node_live
returns-then-is_empty-clause-node_live c =
    subst (λ (t : Places). IsLive t 0) c.self.view_is (live_seen c.self.inside.naming c.self.inside.nodes 0 (ap is_some c.self.invariant.tree.root))

pub returns-in_default-clause-folder : goal.returns-in_default-clause-folder
returns-in_default-clause-folder c =
    sym (folder_lost c.self.inside.naming c.self.inside.nodes c.self.invariant c.names-names.result.now (c.in_default.ensures.lost (above_zero (length c.names-names.result.now) c.is_empty.result c.is_empty.ensures c.if-is_empty.false)))
    ∙ (λ i. folder_of (c.self.view_is i) (c.names-names.ensures.names i))

pub returns-in_default-clause-node : goal.returns-in_default-clause-node
returns-in_default-clause-node c =
    sym (node_lost c.self.inside.naming c.self.inside.nodes c.self.invariant c.names-names.result.now
    (above_zero (length c.names-names.result.now) c.is_empty.result c.is_empty.ensures c.if-is_empty.false)
    (c.in_default.ensures.lost (above_zero (length c.names-names.result.now) c.is_empty.result c.is_empty.ensures c.if-is_empty.false)))
    ∙ (λ i. node_at (c.self.view_is i) (c.names-names.ensures.names i))

pub returns-in_default-clause-lost : goal.returns-in_default-clause-lost
returns-in_default-clause-lost c =
    let some = above_zero (length c.names-names.result.now) c.is_empty.result c.is_empty.ensures c.if-is_empty.false in
    (λ i. add_refusal (sym c.self.view_is i) (sym c.names-names.ensures.names i)) ∙ refused_lost c.self.inside.naming c.self.inside.nodes c.self.invariant c.names-names.result.now some (c.in_default.ensures.lost some)

pub overflow_cast-result : goal.overflow_cast-result
overflow_cast-result c =
    let small : c.in-Some.folder < 2 ^ 32 = c.self.invariant.small c.in-Some.folder (ap is_some c.in-Some.ensures.located.is_folder) in
    omega arith

pub child-requires : goal.child-requires
child-requires c = c.in-Some.ensures.located.named

pub numbered-requires : goal.numbered-requires
numbered-requires c =
    if_some (λ (n : ℕ). n < 2 ^ 32) c.child.result
    (λ n at. c.self.invariant.small n (node_live c.self.inside.naming c.self.inside.nodes c.self.invariant c.names-names.result.now n
    (located_node c.self.inside.naming c.self.inside.nodes c.self.invariant c.names-names.result.now c.in-Some.folder c.in-Some.name.now c.in-Some.ensures.located ∙ sym c.child.ensures ∙ at)))

pub returns-clause-folder : goal.returns-clause-folder
returns-clause-folder c =
    sym (folder_located c.self.inside.naming c.self.inside.nodes c.self.invariant c.names-names.result.now c.in-Some.folder c.in-Some.name.now c.in-Some.ensures.located)
    ∙ (λ i. folder_of (c.self.view_is i) (c.names-names.ensures.names i))

pub returns-clause-node : goal.returns-clause-node
returns-clause-node c =
    c.numbered.ensures ∙ c.child.ensures ∙ sym (located_node c.self.inside.naming c.self.inside.nodes c.self.invariant c.names-names.result.now c.in-Some.folder c.in-Some.name.now c.in-Some.ensures.located)
    ∙ (λ i. node_at (c.self.view_is i) (c.names-names.ensures.names i))

pub returns-clause-folder_live : goal.returns-clause-folder_live
returns-clause-folder_live c =
    subst (λ (t : Places). IsLive t c.in-Some.folder) c.self.view_is (live_seen c.self.inside.naming c.self.inside.nodes c.in-Some.folder (ap is_some c.in-Some.ensures.located.is_folder))

pub returns-clause-node_live : goal.returns-clause-node_live
returns-clause-node_live c =
    if_numbered (λ (n : ℕ). IsLive c.args.self.now n) c.child.result c.numbered.result c.numbered.ensures
    (λ n at. subst (λ (t : Places). IsLive t n) c.self.view_is (live_seen c.self.inside.naming c.self.inside.nodes n (node_live c.self.inside.naming c.self.inside.nodes c.self.invariant c.names-names.result.now n
    (located_node c.self.inside.naming c.self.inside.nodes c.self.invariant c.names-names.result.now c.in-Some.folder c.in-Some.name.now c.in-Some.ensures.located ∙ sym c.child.ensures ∙ at))))
