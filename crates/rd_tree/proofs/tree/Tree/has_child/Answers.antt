use Rattle.std.proofs.Common.{◌≡◌, ◌∙◌, true, false, Bool, refl, sym, ap, subst, ℕ}
use Rattle.rd_tree.specs.Places.{Places, IsLive, has_child}
use Rattle.rd_tree.proofs.PlaceLemmas.{live_place}
use Rattle.rd_tree.proofs.ParentLemmas.{childless, has_child_seen, seen_has_child}
use Rattle.rd_tree.proofs.tree.Tree.has_child.Goals as goal

-- a test that is true exactly where another is
alike : (a b : Bool) → (a ≡ true → b ≡ true) → (a ≡ false → b ≡ true → ⊥) → a ≡ b
alike true b h g = sym (h refl)
alike false true h g = absurd (g refl refl)
alike false false h g = refl

pub returns : goal.returns
returns c =
    let n : ℕ = c.args.node.0 in
    let live = live_place c.self.inside.naming c.self.inside.nodes n (subst (λ (t : Places). IsLive t n) (sym c.self.view_is) c.requires) in
    alike c.has_child.result (has_child c.args.self.now n)
    (λ e. ap (λ (t : Places). has_child t n) (sym c.self.view_is) ∙ has_child_seen c.self.inside.naming c.self.inside.nodes c.self.invariant n live (c.has_child.ensures.some e))
    (λ e h. childless c.self.inside.nodes n (c.has_child.ensures.none e) (seen_has_child c.self.inside.naming c.self.inside.nodes c.self.invariant n live (ap (λ (t : Places). has_child t n) c.self.view_is ∙ h)))
