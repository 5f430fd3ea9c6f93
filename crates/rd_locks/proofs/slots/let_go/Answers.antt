use Rattle.std.proofs.Common.{◌≡◌, ◌∙◌, sym, ap, refl, arith, true, false, List, ℕ, ◌-◌, ◌<◌, ◌==◌, length, set}
use Rattle.std.proofs.lemmas.Bool.{and_parts}
use Rattle.std.proofs.lemmas.Bool.Decides.{nat_tests}
use Rattle.std.proofs.lemmas.List.{get_or-set_same}
use Rattle.rd_locks.specs.declared.held.Held.{Held}
use Rattle.rd_locks.specs.declared.slots.Slot.{Slot}
use Rattle.rd_locks.specs.Slots.{slot_at, no_slot, IsChained, StaysLinked, Leads}
use Rattle.rd_locks.proofs.SlotLemmas.{each_set, by_place, leads_at, stays_chained, stays_both, stays_set}
use Rattle.rd_locks.proofs.StandingLemmas.{length-standing, length-gone_at}
use Rattle.rd_locks.proofs.slots.let_go.Goals as goal

pub overflow_add-count : goal.overflow_add-count
overflow_add-count c =
    let k : ℕ = c.loop-place.place - 1 in
    let stands : (slot_at c.loop-place.slots k).stands ≡ true = (and_parts _ _ (sym c.is_of.ensures ∙ c.if-is_of.true)).0 in
    omega (arith, length-standing c.args.slots.now, length-gone_at c.loop-place.slots k (omega arith) stands, c.loop-place.invariant.count)

pub loop-place-preserved-then-is_of : goal.loop-place-preserved-then-is_of
loop-place-preserved-then-is_of c =
    let k : ℕ = c.loop-place.place - 1 in
    let old : List Slot = c.loop-place.slots in
    let slot : Slot = record (slot_at old k) { stands = false } in
    let new : List Slot = set old k slot in
    let kept = c.loop-place.invariant in
    let within : k < length old = omega arith in
    let parts : ((slot_at old k).stands ≡ true) × (((slot_at old k).lock.file == c.args.file) ≡ true) = and_parts _ _ (sym c.is_of.ensures ∙ c.if-is_of.true) in
    let of_file : (slot_at old k).lock.file ≡ c.args.file = let e = parts.1 in grind (arith, nat_tests) in
    let file_was : (slot_at c.args.slots.now k).lock.file ≡ c.args.file = sym (ap (λ (lock : Held). lock.file) (kept.stays.lock k)) ∙ of_file in
    let node_was : (slot_at c.args.slots.now k).lock.node ≡ c.args.node = sym (ap (λ (lock : Held). lock.node) (kept.stays.lock k)) ∙ kept.same (omega arith) in
    let chained : IsChained old = stays_chained c.args.slots.now old kept.stays c.requires.chained in
    let link : Leads old c.args.node k (slot_at old k).below = leads_at old _ _ k _ _ (chained.links k within) (kept.same (omega arith)) refl in
    let stays : StaysLinked old new = stays_set old k false within chained (λ _. refl) in
    let all : StaysLinked c.args.slots.now new = stays_both c.args.slots.now old new kept.stays stays in
    record {
      within = omega (arith, link.within, stays.long);
      same = λ some. ap (λ (lock : Held). lock.node) (stays.lock ((slot_at old k).below - 1)) ∙ link.same some;
      stays = all;
      gone = λ i from e f. by_place (λ i. (slot_at c.args.slots.now i).lock.node ≡ c.args.node → (slot_at c.args.slots.now i).lock.file ≡ c.args.file → (slot_at new i).stands ≡ false) i k
          (λ lt e _. stays.kept i (stays.linked i ∙ link.passed i from lt (ap (λ (lock : Held). lock.node) (kept.stays.lock i) ∙ e)))
          (λ _ _. ap (λ (slot : Slot). slot.stands) (get_or-set_same old k slot no_slot within))
          (λ gt e f. each_set old k slot (λ i slot. (slot_at old i).stands ≡ false → slot.stands ≡ false) within (λ _. refl) (λ i h. h) i (kept.gone i (omega arith) e f)) e f;
      others = each_set old k slot (λ i slot. ((slot_at c.args.slots.now i).lock.file ≡ c.args.file → ⊥) → slot.stands ≡ (slot_at c.args.slots.now i).stands) within (λ ne. absurd (ne file_was)) kept.others;
      other_nodes = each_set old k slot (λ i slot. ((slot_at c.args.slots.now i).lock.node ≡ c.args.node → ⊥) → slot.stands ≡ (slot_at c.args.slots.now i).stands) within (λ ne. absurd (ne node_was)) kept.other_nodes;
      count = omega (arith, length-gone_at old k within parts.0, kept.count);
    }
