use Rattle.std.proofs.Common.{◌≡◌, ◌∙◌, ap, arith, length, refl, nat_cmp}
use Rattle.std.specs.BTreeMap.{insert_entry}
use Rattle.rd_pending.specs.Slots.{slot_of}
use Rattle.rd_pending.proofs.MarkLemmas.{one_place}
use Rattle.rd_pending.proofs.PlaceLemmas.{one_held}
use Rattle.rd_pending.proofs.slots.Slots.hold.Goals as goal

pub returns : goal.returns
returns c =
    let count : length c.self.inside.places.items ≡ 1024 = c.self.invariant.place_count in
    one_held 0 c.args.id c.args.id c.args.held c.self.inside.places.items (omega arith) (omega arith)
    ∙ ap (λ es. insert_entry nat_cmp es c.args.id (slot_of c.args.held)) c.self.view_is

pub invariant_of-self : goal.invariant_of-self
invariant_of-self c = one_place _ _ _ _ _ _ c.self.invariant c.requires c.mark.array_long refl c.mark.ensures
