use Rattle.std.proofs.Common.{◌≡◌, ◌∙◌, ap, arith, length, refl, nat_cmp}
use Rattle.std.specs.BTreeMap.{is_at}
use Rattle.std.specs.Map.{remove_entry}
use Rattle.rd_pending.proofs.MarkLemmas.{one_place}
use Rattle.rd_pending.proofs.PlaceLemmas.{none_freed, one_freed}
use Rattle.rd_pending.proofs.slots.Slots.free.Goals as goal

pub returns-then-id-lt-MAX_SLOTS : goal.returns-then-id-lt-MAX_SLOTS
returns-then-id-lt-MAX_SLOTS c =
    one_freed 0 c.args.id c.args.id c.self.inside.places.items (omega arith) ∙ ap (λ es. remove_entry (is_at (nat_cmp c.args.id)) es) c.self.view_is

pub returns-else-id-lt-MAX_SLOTS : goal.returns-else-id-lt-MAX_SLOTS
returns-else-id-lt-MAX_SLOTS c =
    let count : length c.self.inside.places.items ≡ 1024 = c.self.invariant.place_count in
    let same = none_freed 0 c.args.id c.self.inside.places.items (omega arith) in
    cc

pub invariant_of-self : goal.invariant_of-self
invariant_of-self c = one_place _ _ _ _ _ _ c.self.invariant c.if-id-lt-MAX_SLOTS.true c.unmark.array_long refl c.unmark.ensures
