use Rattle.std.proofs.Common.{◌≡◌, ◌∙◌, refl, sym, ap, subst, ℕ, true}
use Rattle.rd_dirinfo.specs.Paths.{last_name}
use Rattle.rd_tree.specs.Walk.{path_of}
use Rattle.rd_tree.specs.Nodes.{link_of}
use Rattle.rd_tree.specs.Places.{Places, IsLive, has_child, own_path, without}
use Rattle.rd_tree.proofs.PlaceLemmas.{last_of, live_place}
use Rattle.rd_tree.proofs.WayLemmas.{way_step}
use Rattle.rd_tree.proofs.WholeLemmas.{own_seen, whole}
use Rattle.rd_tree.proofs.ParentLemmas.{childless, link_is, has_child_seen, seen_has_child}
use Rattle.rd_tree.proofs.RemoveLemmas.{sound_taken, removed_seen}
use Rattle.rd_tree.proofs.tree.Tree.remove.Goals as goal

pub take_out-requires : goal.take_out-requires
take_out-requires c = record {
  other = c.requires.other;
  live = live_place c.self.inside.naming c.self.inside.nodes c.args.node.0 (subst (λ (t : Places). IsLive t c.args.node.0) (sym c.self.view_is) c.requires.live);
  named = c.self.invariant.names c.args.node.0;
}

pub returns-then-has_child-clause-not_empty : goal.returns-then-has_child-clause-not_empty
returns-then-has_child-clause-not_empty c =
    let n : ℕ = c.args.node.0 in
    let live = live_place c.self.inside.naming c.self.inside.nodes n (subst (λ (t : Places). IsLive t n) (sym c.self.view_is) c.requires.live) in
    (λ e. ap (λ (t : Places). has_child t n) (sym c.self.view_is) ∙ has_child_seen c.self.inside.naming c.self.inside.nodes c.self.invariant n live (c.has_child.ensures.some c.if-has_child.true), λ h. refl)

pub returns-clause-not_empty : goal.returns-clause-not_empty
returns-clause-not_empty c =
    let n : ℕ = c.args.node.0 in
    let live = live_place c.self.inside.naming c.self.inside.nodes n (subst (λ (t : Places). IsLive t n) (sym c.self.view_is) c.requires.live) in
    let none = λ (h : has_child c.args.self.now n ≡ true). childless c.self.inside.nodes n (c.has_child.ensures.none c.if-has_child.false) (seen_has_child c.self.inside.naming c.self.inside.nodes c.self.invariant n live (ap (λ (t : Places). has_child t n) c.self.view_is ∙ h)) in
    (λ e. absurd (cc), λ h. absurd (none h))

pub invariant_of-self : goal.invariant_of-self
invariant_of-self c =
    let n : ℕ = c.args.node.0 in
    let live = live_place c.self.inside.naming c.self.inside.nodes n (subst (λ (t : Places). IsLive t n) (sym c.self.view_is) c.requires.live) in
    let l = link_is c.self.inside.naming c.self.inside.nodes c.self.invariant n live c.requires.other in
    sound_taken c.self.inside.naming c.self.inside.nodes c.take_out.new.nodes c.self.invariant n l.0 l.1 l.2 (c.has_child.ensures.none c.if-has_child.false) (c.take_out.ensures.removed l.0 l.1 l.2)

pub returns-clause-is_whole : goal.returns-clause-is_whole
returns-clause-is_whole c =
    let n : ℕ = c.args.node.0 in
    let live = live_place c.self.inside.naming c.self.inside.nodes n (subst (λ (t : Places). IsLive t n) (sym c.self.view_is) c.requires.live) in
    let l = link_is c.self.inside.naming c.self.inside.nodes c.self.invariant n live c.requires.other in
    whole c.self.inside.naming c.take_out.new.nodes
    (sound_taken c.self.inside.naming c.self.inside.nodes c.take_out.new.nodes c.self.invariant n l.0 l.1 l.2 (c.has_child.ensures.none c.if-has_child.false) (c.take_out.ensures.removed l.0 l.1 l.2))

pub returns-clause-removed : goal.returns-clause-removed
returns-clause-removed c =
    let n : ℕ = c.args.node.0 in
    let live = live_place c.self.inside.naming c.self.inside.nodes n (subst (λ (t : Places). IsLive t n) (sym c.self.view_is) c.requires.live) in
    let l = link_is c.self.inside.naming c.self.inside.nodes c.self.invariant n live c.requires.other in
    removed_seen c.self.inside.naming c.self.inside.nodes c.take_out.new.nodes c.self.invariant n l.0 l.1 l.2 (c.has_child.ensures.none c.if-has_child.false) (c.take_out.ensures.removed l.0 l.1 l.2)
    ∙ ap (λ (t : Places). without t n) c.self.view_is

pub returns-clause-name : goal.returns-clause-name
returns-clause-name c =
    let n : ℕ = c.args.node.0 in
    let live = live_place c.self.inside.naming c.self.inside.nodes n (subst (λ (t : Places). IsLive t n) (sym c.self.view_is) c.requires.live) in
    let l = link_is c.self.inside.naming c.self.inside.nodes c.self.invariant n live c.requires.other in
    c.take_out.ensures.name l.0 l.1 l.2 ∙ sym (ap last_name (own_seen c.self.inside.naming c.self.inside.nodes c.self.invariant n live ∙ way_step c.self.inside.naming c.self.inside.nodes c.self.invariant n l.0 l.1 l.2) ∙ last_of (path_of (link_of c.self.inside.nodes) l.0) l.1)
    ∙ ap (λ (t : Places). last_name (own_path t n)) c.self.view_is
