use Rattle.std.proofs.Common.{◌≡◌, ap, refl, arith, false, List, ℕ, ◌-◌, ◌<◌, length, set}
use Rattle.std.proofs.lemmas.List.{get_or-set_same}
use Rattle.rd_locks.specs.declared.slots.Slot.{Slot}
use Rattle.rd_locks.specs.Slots.{slot_at, no_slot, IsChained, Follows}
use Rattle.rd_locks.proofs.SlotLemmas.{each_set, leads_down, leads_still, chained_still, follows_both, follows_unlinked}
use Rattle.rd_locks.proofs.slots.unlink_to_standing.Goals as goal

pub loop-place-preserved : goal.loop-place-preserved
loop-place-preserved c =
    let k : ℕ = c.loop-place.place - 1 in
    let old : List Slot = c.loop-place.slots in
    let slot : Slot = record (slot_at old k) { linked = false } in
    let new : List Slot = set old k slot in
    let within : k < length old = omega arith in
    let here = get_or-set_same old k slot no_slot within in
    let follows : Follows old new = follows_unlinked old k within in
    let stands_not : (slot_at old k).stands ≡ false = cc in
    let chained : IsChained new =
    chained_still old new follows (each_set old k slot (λ i slot. slot.below ≡ (slot_at old i).below) within refl (λ i. refl))
    (each_set old k slot (λ i slot. slot.linked ≡ false → slot.stands ≡ false) within (λ _. stands_not) (λ i. c.loop-place.invariant.chained.kept i)) c.loop-place.invariant.chained in
    record {
      within = let e = ap (λ (slot : Slot). slot.below) here in let w = (c.loop-place.invariant.chained.links k within).within in omega arith;
      follows = follows_both c.args.slots.now old new c.loop-place.invariant.follows follows;
      stands = each_set old k slot (λ i slot. slot.stands ≡ (slot_at c.args.slots.now i).stands) within (c.loop-place.invariant.stands k) c.loop-place.invariant.stands;
      chained = chained;
      leads = λ node i leads. leads_down new node i c.loop-place.place chained (leads_still old new node i c.loop-place.place follows (c.loop-place.invariant.leads node i leads))
          (omega arith) (omega (arith, follows.long)) (ap (λ (slot : Slot). slot.linked) here);
    }
