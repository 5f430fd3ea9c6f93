use Rattle.std.proofs.Common.{◌∙◌, ap, rules}
use Rattle.rd_pending.specs.Slots.{held_from}
use Rattle.rd_pending.proofs.MarkLemmas.{none_marked}
use Rattle.rd_pending.proofs.PlaceLemmas.{none_held}
use Rattle.rd_pending.proofs.slots.Slots.new.Goals as goal

pub returns : goal.returns
returns c = ap (held_from 0) (c.in_ok-vec.ensures.items_if_clones_equal (λ y is. search rules)) ∙ none_held 0 1024

pub invariant_of-result : goal.invariant_of-result
invariant_of-result c = rw (c.in_ok-vec.ensures.items_if_clones_equal (λ y is. search rules)) none_marked
