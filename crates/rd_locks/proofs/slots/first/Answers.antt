use Rattle.std.proofs.Common.{◌≡◌, ◌∙◌, sym, refl, subst, arith, true, false, ℕ, ◌-◌, ◌<◌}
use Rattle.rd_locks.specs.Slots.{slot_at, shows}
use Rattle.rd_locks.proofs.SlotLemmas.{by_place, passed_over, leaped_over, leads_at, leaps_at}
use Rattle.rd_locks.proofs.slots.first.Goals as goal
use Rattle.rd_locks.proofs.slots.first.Goals.{then-shows, else-shows}

pub loop-place-preserved : goal.loop-place-preserved
loop-place-preserved c =
    let k : ℕ = c.loop-place.place - 1 in
    let link = c.requires.chained.links k (omega arith) in
    let next = leads_at c.args.slots.now _ c.args.wanted.now.node _ _ _ link (c.loop-place.invariant.same (omega arith)) refl in
    elim c.if-shows.branch [
      | then-shows w ↦ record {
        within = omega (arith, link.within, w.first-is);
        first_within = omega arith;
        same = next.same;
        before = λ i from to. passed_over c.args.slots.now c.args.aim c.args.wanted.now k _ i c.requires.chained next from (omega (arith, w.first-is));
        found = λ _. subst (λ (n : ℕ). shows c.args.aim c.args.wanted.now (slot_at c.args.slots.now n) ≡ true) (sym w.first-is) (sym c.shows.ensures ∙ w.if-shows.true);
      }
      | else-shows w ↦ record {
        within = omega (arith, link.within, w.first-is);
        first_within = omega (arith, w.first-is);
        same = next.same;
        before = λ i from to. by_place (λ i. i < c.loop-place.first → shows c.args.aim c.args.wanted.now (slot_at c.args.slots.now i) ≡ false) i k
            (λ lt _. passed_over c.args.slots.now c.args.aim c.args.wanted.now _ _ i c.requires.chained next from lt)
            (λ _. sym c.shows.ensures ∙ w.if-shows.false)
            (λ gt to. c.loop-place.invariant.before i (omega arith) to) (omega (arith, w.first-is));
        found = λ lt. subst (λ (n : ℕ). shows c.args.aim c.args.wanted.now (slot_at c.args.slots.now n) ≡ true) (sym w.first-is) (c.loop-place.invariant.found (omega (arith, w.first-is)));
      }
    ]

pub loop-place-preserved-then-is_outside : goal.loop-place-preserved-then-is_outside
loop-place-preserved-then-is_outside c =
    let k : ℕ = c.loop-place.place - 1 in
    let leap = leaps_at c.args.slots.now _ c.args.wanted.now.node _ _ _ (c.requires.chained.leaps k (omega arith)) (c.loop-place.invariant.same (omega arith)) refl in
    record {
      within = omega (arith, leap.within);
      first_within = omega arith;
      same = leap.same;
      before = λ i from to. by_place (λ i. i < c.loop-place.first → shows c.args.aim c.args.wanted.now (slot_at c.args.slots.now i) ≡ false) i c.loop-place.place
          (λ lt _. leaped_over c.args.slots.now c.args.aim c.args.wanted.now k _ i c.requires.chained leap (c.is_outside.ensures.overlaps c.if-is_outside.true) (c.is_outside.ensures.other c.if-is_outside.true) from (omega arith))
          (c.loop-place.invariant.before c.loop-place.place (omega arith)) (λ gt. c.loop-place.invariant.before i (omega arith)) to;
      found = c.loop-place.invariant.found;
    }
