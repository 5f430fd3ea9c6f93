use Rattle.std.proofs.Common.{◌≡◌, ◌<◌, subst, length}
use Rattle.std.specs.Prelude.{MatchOption, List, ℕ}
use Rattle.rd_pending.specs.Table.{Slot, free_from, max_slots}
use Rattle.rd_pending.proofs.MarkLemmas.{least_answer}
use Rattle.rd_pending.proofs.slots.Slots.least_free.Goals as goal

pub returns : goal.returns
returns c =
    subst (λ (slots : List (ℕ × Slot)). MatchOption c.least_unmarked.result (length slots ≡ max_slots) (λ id. (id ≡ free_from 0 slots) × (id < max_slots) × (length slots < max_slots)))
    c.self.view_is (least_answer c.self.inside.marks c.self.inside.places.items c.least_unmarked.result c.self.invariant c.least_unmarked.ensures)
