use Rattle.std.proofs.Common.{◌≡◌, ◌∙◌, sym, ap, refl, subst, arith, List, [], ◌∷◌, ◌++◌, ℕ, ◌<◌, ◌≤◌, ◌+◌, ◌-◌, length, length-append, true, false, nat_eq, vec_capacity, ◌==◌, if◌then◌else◌}
use Rattle.std.specs.HashMap.{get}
use Rattle.rd_locks.specs.declared.held.Held.{Held}
use Rattle.rd_locks.specs.declared.slots.Slot.{Slot}
use Rattle.rd_locks.specs.Locks.{LockList}
use Rattle.rd_locks.specs.Slots.{slot_at, standing, Leads, IsSpanned}
use Rattle.rd_locks.specs.Index.{end_of, IsHome, IsSoundIndex}
use Rattle.rd_locks.proofs.SlotLemmas.{each_push, chained_push, reached_push, leads_at, leaps_new, true_not_false}
use Rattle.rd_locks.proofs.StandingLemmas.{standing-push}
use Rattle.rd_locks.proofs.locks.Locks.put.Goals as goal

pub invariant_of-self : goal.invariant_of-self
invariant_of-self c =
    let old : List Slot = c.self.inside.slots.items in
    let slot : Slot = record { lock = c.args.lock; stands = true; linked = true; below = c.end_of-below.result; leap = c.leap_over.result } in
    let was = c.self.invariant in
    let some : 0 < c.self.inside.reserved = subst (λ (n : ℕ). 0 < n) (sym (ap (λ (l : LockList). l.reserved) c.self.view_is)) c.requires in
    let end : c.len-end.result ≡ length old + 1 = omega (arith, c.push_reserved.ensures.len, c.self.inside.slots.ok.0, c.len-end.ensures) in
    let taken : standing (old ++ slot ∷ []) ≡ standing old ++ c.args.lock ∷ [] = standing-push old slot refl in
    let leads : Leads old c.args.lock.node (length old) c.end_of-below.result = leads_at old _ _ _ _ _ (was.reached c.args.lock.node) refl (sym c.end_of-below.ensures) in
    let leap = c.leap_over.ensures in
    subst (λ (slots : List Slot). IsSoundIndex slots c.add_end.new.ends c.add_home.new.homes (c.self.inside.count + 1) (c.self.inside.reserved - 1) (vec_capacity c.push_reserved.new.self)) (sym c.push_reserved.ensures.items)
    (record {
      chained = chained_push old slot was.chained leads (leaps_new old slot leads leap.within
          (subst (λ (s : List Slot). 0 < c.leap_over.result.to → (slot_at s (c.leap_over.result.to - 1)).lock.node ≡ c.args.lock.node) c.as_slice.ensures.value leap.same) leap.own
          (subst (λ (s : List Slot). (j : ℕ) → c.leap_over.result.to ≤ j → j < c.end_of-below.result → (slot_at s j).lock.node ≡ c.args.lock.node → (slot_at s j).linked ≡ true → IsSpanned c.leap_over.result (slot_at s j).lock.range) c.as_slice.ensures.value leap.spans)) (λ e. absurd (true_not_false true refl e));
      reached = reached_push old slot (end_of c.self.inside.ends) (end_of c.add_end.new.ends) was.reached (λ node. c.add_end.ensures.ends node ∙ ap (λ (n : ℕ). if node == c.args.lock.node then n else end_of c.self.inside.ends node) end);
      settled = each_push old slot (λ i s. s.stands ≡ false → s.linked ≡ false) (λ e. absurd (true_not_false true refl e)) (λ i _. was.settled i);
      housed = each_push old slot (λ i s. s.stands ≡ true → IsHome (get nat_eq c.add_home.new.homes s.lock.file) s.lock.node) (λ _. c.add_home.ensures.here) (λ i _ stands. c.add_home.ensures.others _ _ (was.housed i stands));
      counted = omega (arith, ap length taken, length-append (standing old) (c.args.lock ∷ []), was.counted);
      few = omega (arith, was.few);
      room = omega (arith, was.room, c.push_reserved.ensures.capacity, length-append old (slot ∷ []));
      ends_room = omega (arith, was.ends_room, c.add_end.ensures.room);
      homes_room = omega (arith, was.homes_room, c.add_home.ensures.room);
    })

pub returns : goal.returns
returns c =
    let old : List Slot = c.self.inside.slots.items in
    let slot : Slot = record { lock = c.args.lock; stands = true; linked = true; below = c.end_of-below.result; leap = c.leap_over.result } in
    let taken : standing (old ++ slot ∷ []) ≡ standing old ++ c.args.lock ∷ [] = standing-push old slot refl in
    let locks : standing old ≡ c.args.self.now.locks = ap (λ (l : LockList). l.locks) c.self.view_is in
    let reserved : c.self.inside.reserved ≡ c.args.self.now.reserved = ap (λ (l : LockList). l.reserved) c.self.view_is in
    λ i. record {
      locks = (ap standing c.push_reserved.ensures.items ∙ taken ∙ ap (λ (l : List Held). l ++ c.args.lock ∷ []) locks) i;
      reserved = reserved i - 1;
    }
