use Rattle.std.proofs.Common.{◌≡◌, ◌∙◌, None, ap, rules}
use Rattle.std.specs.Prelude.{replicate}
use Rattle.rd_pending.specs.Slots.{held_from}
use Rattle.rd_pending.proofs.MarkLemmas.{none_marked}
use Rattle.rd_pending.proofs.PlaceLemmas.{none_held}
use Rattle.rd_pending.proofs.slots.Slots.clear.Goals as goal

pub returns : goal.returns
returns c =
    let is : c.fill.new.self.items ≡ replicate 1024 None = c.fill.ensures.items (λ y is. search rules) ∙ ap (λ n. replicate n None) (c.self.inside.places.ok.0 ∙ c.self.invariant.place_count) in
    ap (held_from 0) is ∙ none_held 0 1024

pub invariant_of-self : goal.invariant_of-self
invariant_of-self c =
    let is : c.fill.new.self.items ≡ replicate 1024 None = c.fill.ensures.items (λ y is. search rules) ∙ ap (λ n. replicate n None) (c.self.inside.places.ok.0 ∙ c.self.invariant.place_count) in
    rw is none_marked
