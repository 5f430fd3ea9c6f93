use Rattle.std.proofs.Common.{◌∙◌, ◌∷◌, ◌++◌, [], ◌<◌, ◌^◌, sym, ap, subst, ℕ}
use Rattle.rd_tree.specs.Places.{Places, IsLive, is_folder, node_at, own_path}
use Rattle.rd_tree.proofs.PlaceLemmas.{live_seen}
use Rattle.rd_tree.proofs.AccessLemmas.{child_seen, child_live, if_some, if_numbered}
use Rattle.rd_tree.proofs.tree.Tree.child.Goals as goal

pub numbered-requires : goal.numbered-requires
numbered-requires c =
    let folder = ap (λ (t : Places). is_folder t c.args.folder.0) c.self.view_is ∙ c.requires.folder in
    if_some (λ (n : ℕ). n < 2 ^ 32) c.child.result
    (λ n at. c.self.invariant.small n (child_live c.self.inside.naming c.self.inside.nodes c.self.invariant c.args.folder.0 c.args.name.now folder c.requires.name n (sym c.child.ensures ∙ at)))

pub returns-clause-found : goal.returns-clause-found
returns-clause-found c =
    let folder = ap (λ (t : Places). is_folder t c.args.folder.0) c.self.view_is ∙ c.requires.folder in
    c.numbered.ensures ∙ c.child.ensures ∙ sym (child_seen c.self.inside.naming c.self.inside.nodes c.self.invariant c.args.folder.0 c.args.name.now folder c.requires.name)
    ∙ ap (λ (t : Places). node_at t (own_path t c.args.folder.0 ++ c.args.name.now ∷ [])) c.self.view_is

pub returns-clause-live : goal.returns-clause-live
returns-clause-live c =
    let folder = ap (λ (t : Places). is_folder t c.args.folder.0) c.self.view_is ∙ c.requires.folder in
    if_numbered (λ (n : ℕ). IsLive c.args.self.now n) c.child.result c.numbered.result c.numbered.ensures
    (λ n at. subst (λ (t : Places). IsLive t n) c.self.view_is
    (live_seen c.self.inside.naming c.self.inside.nodes n (child_live c.self.inside.naming c.self.inside.nodes c.self.invariant c.args.folder.0 c.args.name.now folder c.requires.name n (sym c.child.ensures ∙ at))))
