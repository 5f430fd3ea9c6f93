use Rattle.std.proofs.Common.{true, ◌≡◌, ◌∙◌, sym, ap, refl, arith, false, List, ℕ, suc, ◌<◌, length, set, drop, add-one, Bool}
use Rattle.std.proofs.Math.Seq.{drop-cons}
use Rattle.std.specs.Prelude.{is_some, slice_index_or}
use Rattle.rd_irp.specs.declared.op.Range.{Range}
use Rattle.rd_locks.specs.declared.held.Held.{Held}
use Rattle.rd_locks.specs.declared.slots.Slot.{Slot}
use Rattle.rd_locks.specs.Locks.{is_lock_of, unlocked}
use Rattle.rd_locks.specs.Slots.{slot_at, standing, StaysLinked}
use Rattle.rd_locks.proofs.SlotLemmas.{each_set, stays_chained, stays_both, stays_set, stays_equal, same_bool, by_equal, sought_node}
use Rattle.rd_locks.proofs.StandingLemmas.{any-find, find-standing, find-standing_none, without-standing, length-gone_at, unlocked_step, unlocked_missing}
use Rattle.std.proofs.lemmas.Bool.{and_parts}
use Rattle.rd_locks.specs.declared.slots.Aim.TheVariants as Aim
use Rattle.rd_locks.proofs.slots.take_all.Goals as goal

abbrev nowhere : Range
nowhere = record { offset = 0; length = 0 }

pub returns-then-found-slots-clause-missing : goal.returns-then-found-slots-clause-missing
returns-then-found-slots-clause-missing c =
    let range : Range = slice_index_or c.args.ranges.now c.loop-range.range-index nowhere in
    let test : Held → Bool = is_lock_of c.args.node c.args.file range in
    let locks : List Held = standing c.loop-range.slots in
    c.loop-range.invariant.unlocked
    ∙ ap (λ (ranges : List Range). unlocked c.args.node c.args.file locks ranges) (drop-cons c.args.ranges.now c.loop-range.range-index nowhere c.loop-range-test.true)
    ∙ unlocked_missing c.args.node c.args.file locks range (drop (suc c.loop-range.range-index) c.args.ranges.now)
    (any-find test locks ∙ ap is_some (find-standing_none test c.loop-range.slots (λ i lt. c.first-found.ensures.before i (omega arith))))

pub returns-then-found-slots-clause-err : goal.returns-then-found-slots-clause-err
returns-then-found-slots-clause-err c =
    let stays : StaysLinked c.args.slots.now c.stand_again.new.slots = stays_both c.args.slots.now c.loop-range.slots c.stand_again.new.slots c.loop-range.invariant.stays c.stand_again.ensures.stays in
    stays_equal c.args.slots.now c.stand_again.new.slots stays
    (λ i. by_equal ((slot_at c.stand_again.new.slots i).stands ≡ (slot_at c.args.slots.now i).stands) (slot_at c.args.slots.now i).lock.node c.args.node
    (λ e. c.stand_again.ensures.again i (ap (λ (lock : Held). lock.node) (c.loop-range.invariant.stays.lock i) ∙ e) ∙ c.loop-range.invariant.stays.linked i
    ∙ same_bool _ _ (c.requires.chained.kept i) (c.requires.settled i))
    (λ ne. c.stand_again.ensures.others i (λ e. ne (sym (ap (λ (lock : Held). lock.node) (c.loop-range.invariant.stays.lock i)) ∙ e)) ∙ c.loop-range.invariant.others i ne))

pub loop-range-preserved : goal.loop-range-preserved
loop-range-preserved c =
    let range : Range = slice_index_or c.args.ranges.now c.loop-range.range-index nowhere in
    let test : Held → Bool = is_lock_of c.args.node c.args.file range in
    let k : ℕ = c.first-found.result in
    let old : List Slot = c.loop-range.slots in
    let slot : Slot = record (slot_at old k) { stands = false } in
    let kept = c.loop-range.invariant in
    let within : k < length old = omega (arith, c.first-found.ensures.within, c.if-found-slots.false) in
    let found = c.first-found.ensures.found within in
    let chained = stays_chained c.args.slots.now old kept.stays c.requires.chained in
    let parts : ((slot_at old k).stands ≡ true) × (test (slot_at old k).lock ≡ true) = and_parts _ _ found in
    let on_node : (slot_at old k).lock.node ≡ c.args.node = sought_node Aim.Match (record { node = c.args.node; file = c.args.file; exclusive = false; range = range }) (slot_at old k).lock parts.1 in
    record {
      stays = stays_both c.args.slots.now old (set old k slot) kept.stays (stays_set old k false within chained (λ _. refl));
      unlocked = kept.unlocked
          ∙ ap (λ (ranges : List Range). unlocked c.args.node c.args.file (standing old) ranges) (drop-cons c.args.ranges.now c.loop-range.range-index nowhere c.loop-range-test.true)
          ∙ unlocked_step c.args.node c.args.file (standing old) (standing (set old k slot)) range (drop (suc c.loop-range.range-index) c.args.ranges.now)
          (any-find test (standing old) ∙ ap is_some (find-standing test old k within c.first-found.ensures.before found)) (without-standing test old k within c.first-found.ensures.before found)
          ∙ ap (λ (n : ℕ). unlocked c.args.node c.args.file (standing (set old k slot)) (drop n c.args.ranges.now)) (sym (add-one c.loop-range.range-index));
      count = omega (arith, length-gone_at old k within parts.0, kept.count);
      others = each_set old k slot (λ i slot. ((slot_at c.args.slots.now i).lock.node ≡ c.args.node → ⊥) → slot.stands ≡ (slot_at c.args.slots.now i).stands) within
          (λ ne. absurd (ne (sym (ap (λ (lock : Held). lock.node) (kept.stays.lock k)) ∙ on_node))) kept.others;
      fewer = each_set old k slot (λ i slot. (slot_at c.args.slots.now i).stands ≡ false → slot.stands ≡ false) within (λ _. refl) kept.fewer;
    }
