-- What always holds of a table's slots goes on at each call.
use Rattle.std.proofs.Common.{◌≡◌, ◌≢◌, ◌⊎◌, ◌∙◌, refl, sym, ap, subst, inl, inr, ℕ, suc, ◌<◌, ◌≤◌, ◌==◌, Bool, true, false, cond, List, [], length, map, Some, None, Option, arith}
use Rattle.std.specs.Prelude.{All}
use Rattle.std.specs.Option.{option_map, unwrap_or}
use Rattle.std.specs.Ordering.{nat_cmp}
use Rattle.std.specs.List.Sorted.{IsStrictlySortedBy}
use Rattle.std.specs.Map.{keys_of, lookup, remove_entry, set_value}
use Rattle.std.specs.BTreeMap.{is_at}
use Rattle.std.proofs.lemmas.List.Elements.{All-nil, All-push}
use Rattle.std.proofs.lemmas.Map.{keys-set_value}
use Rattle.std.proofs.lemmas.Map.Made.{keys_of-map_values, lookup-map_values}
use Rattle.std.proofs.lemmas.Bool.{cases_eq}
use Rattle.rd_base.specs.declared.journal.Cause.{Cause}
use Rattle.rd_base.specs.declared.journal.Cause.TheVariants.{Removed, Dropped}
use Rattle.rd_base.specs.Limits.{max_devices}
use Rattle.rd_chunk.specs.Carrier.{IsMessage}
use Rattle.rd_irp.specs.declared.op.Op.{Op}
use Rattle.rd_irp.specs.Fits.{kind_of, Fits}
use Rattle.rd_pending.specs.declared.calls.Outcome.{Outcome}
use Rattle.rd_pending.specs.declared.calls.Outcome.TheVariants.{Done, Lost}
use Rattle.rd_pending.specs.declared.calls.Target.{Target}
use Rattle.rd_pending.specs.Table.{AreSlots, Fate, HasSlot, IsSlotIn, Slot, TableState, Untaken, accept, awaited, awaits, dead_of, device_in, drop_channel, fate_at, file_in, freed, is_awaited, known, life_of, losing, mark_of, max_slots, next_id, slot_for, untaken_at}
use Rattle.rd_pending.proofs.FateLemmas.{fate_of, is_waiting, kept_known, lost, lost_at, lost_keys, still_awaited}
use Rattle.rd_pending.proofs.MapLemmas.{beside, gone, inserted, kept, rises_with, rises_without, set_beside, set_here}
use Rattle.rd_pending.proofs.MessageLemmas.{request_message}

-- ---- what is there

pub some_of : {A B : Type 0} (f : A → B) (o : Option A) (y : B) → option_map f o ≡ Some y → (x : A) × (o ≡ Some x) × (f x ≡ y)
some_of f None y e = absurd (cc)
some_of f (Some x) y e = let same : f x ≡ y = cc in (x, refl, same)

-- a slot of a number that is awaited has its device
pub own_device : (t : TableState) (id : ℕ) (x : Slot) (u : Untaken) → AreSlots t → slot_for t id ≡ Some x → untaken_at t x.number ≡ Some u → is_awaited u.fate ≡ true → x.device ≡ u.device
own_device t id x u s held is none =
    let its = s.of_awaited x.number u is none in
    let slot : Slot = record { number = x.number; device = u.device; kind = its.kind; dead = false } in
    let here : id ≡ its.id = s.apart id its.id x slot held its.held refl in
    let same : x ≡ slot = cc (subst (λ (k : ℕ). slot_for t k ≡ Some x) here held, its.held) in
    ap (λ (y : Slot). y.device) same

-- ---- each call

-- what moves neither slots nor what waits
pub same_slots : (t new : TableState) → AreSlots t → new.slots ≡ t.slots → new.untaken ≡ t.untaken → new.count ≡ t.count → length new.lives ≤ max_devices → All IsMessage new.outbox
    → (new.channel ≡ None → (new.slots ≡ []) × (new.lives ≡ []) × (new.outbox ≡ []) × ((number : ℕ) → awaits new number ≡ false)) → AreSlots new
same_slots t new s slots untaken count few messages closed = record {
  rising = subst (λ (es : List (ℕ × Slot)). IsStrictlySortedBy nat_cmp (keys_of es)) (sym slots) s.rising;
  untaken_rising = subst (λ (es : List (ℕ × Untaken)). IsStrictlySortedBy nat_cmp (keys_of es)) (sym untaken) s.untaken_rising;
  few_lives = few;
  of_slot = λ id slot e.
      let old = s.of_slot id slot (at_slot id ∙ e) in
      record { low = old.low; given = (old.given.0, subst (λ (n : ℕ). slot.number ≤ n) (sym count) old.given.1); mark = ap (λ (o : Option Untaken). mark_of (option_map fate_of o)) (at_number slot.number) ∙ old.mark };
  apart = λ i j x y e e2. s.apart i j x y (at_slot i ∙ e) (at_slot j ∙ e2);
  numbers = λ n u e. let old = s.numbers n u (sym (at_number n) ∙ e) in (old.0, subst (λ (k : ℕ). n ≤ k) (sym count) old.1);
  of_awaited = λ n u e none. let old = s.of_awaited n u (sym (at_number n) ∙ e) none in record { id = old.id; kind = old.kind; held = sym (at_slot old.id) ∙ old.held };
  messages = messages;
  closed = closed;
}
  where
    at_slot : (id : ℕ) → slot_for t id ≡ slot_for new id
    at_slot id = ap (λ (es : List (ℕ × Slot)). lookup (is_at (nat_cmp id)) es) (sym slots)

    at_number : (n : ℕ) → untaken_at new n ≡ untaken_at t n
    at_number n = ap (λ (es : List (ℕ × Untaken)). lookup (is_at (nat_cmp n)) es) untaken

-- a number that wasn't given isn't there
pub none_given : (t : TableState) (n : ℕ) → AreSlots t → t.count < n → untaken_at t n ≡ None
none_given t n s above = go (untaken_at t n) refl
  where
    go : (o : Option Untaken) → untaken_at t n ≡ o → o ≡ None
    go None e = refl
    go (Some u) e = absurd (omega (arith, above, (s.numbers n u e).1))

-- a request is accepted
pub accepted_slots : (t : TableState) (named : Target) (o : Op) (c : ℕ) → AreSlots t → Fits o → t.channel ≡ Some c
    → lookup (is_at (nat_cmp (next_id t))) t.slots ≡ None → next_id t < max_slots → AreSlots (accept t named o)
accepted_slots t named o c s fits is_open is_free low = record {
  rising = rises_with id slot t.slots s.rising;
  untaken_rising = rises_with number own t.untaken s.untaken_rising;
  few_lives = s.few_lives;
  of_slot = λ j x e. placed j x e (cases_eq j id);
  apart = λ i j x y e e2 same. one_each i j x y e e2 same (cases_eq i id) (cases_eq j id);
  numbers = λ n u e. given n u e (cases_eq n number);
  of_awaited = λ n u e none. waited n u e none (cases_eq n number);
  messages = All-push IsMessage t.outbox _ s.messages (request_message (record { device = device_in named; file = file_in named; completion = id; op = o }) fits);
  closed = λ shut. absurd (cc (shut, is_open));
}
  where
    id : ℕ
    id = next_id t

    number : ℕ
    number = suc t.count

    slot : Slot
    slot = record { number = number; device = device_in named; kind = kind_of o; dead = false }

    own : Untaken
    own = record { device = device_in named; life = unwrap_or (life_of t (device_in named)) 0; fate = awaited }

    new : TableState
    new = accept t named o

    at_else : (n : ℕ) → n ≢ number → untaken_at new n ≡ untaken_at t n
    at_else n other = beside number own n other t.untaken

    at_own : untaken_at new number ≡ Some own
    at_own = inserted number own t.untaken

    slot_own : slot_for new id ≡ Some slot
    slot_own = inserted id slot t.slots

    slot_else : (j : ℕ) → j ≢ id → slot_for new j ≡ slot_for t j
    slot_else j other = beside id slot j other t.slots

    here : (j : ℕ) (x : Slot) → slot_for new j ≡ Some x → j ≡ id → slot ≡ x
    here j x e same = let at : slot_for new j ≡ Some slot = subst (λ (k : ℕ). slot_for new k ≡ Some slot) (sym same) slot_own in cc (at, e)

    placed : (j : ℕ) (x : Slot) → slot_for new j ≡ Some x → (j ≡ id) ⊎ (j ≢ id) → IsSlotIn new j x
    placed j x e (inl same) = subst (IsSlotIn new j) (here j x e same) (record {
      low = subst (λ (k : ℕ). k < max_slots) (sym same) low;
      given = (omega arith, omega arith);
      mark = ap (λ (o : Option Untaken). mark_of (option_map fate_of o)) at_own;
    })
    placed j x e (inr other) =
        let old = s.of_slot j x (sym (slot_else j other) ∙ e) in
        let most : x.number ≤ t.count = old.given.1 in
        record {
          low = old.low;
          given = (old.given.0, omega (arith, most));
          mark = ap (λ (o : Option Untaken). mark_of (option_map fate_of o)) (at_else x.number (λ same. omega (arith, most, same))) ∙ old.mark;
        }

    -- an earlier slot has an earlier number
    lower : (j : ℕ) (x : Slot) → slot_for new j ≡ Some x → j ≢ id → x.number ≤ t.count
    lower j x e other = (s.of_slot j x (sym (slot_else j other) ∙ e)).given.1

    one_each : (i j : ℕ) (x y : Slot) → slot_for new i ≡ Some x → slot_for new j ≡ Some y → x.number ≡ y.number → (i ≡ id) ⊎ (i ≢ id) → (j ≡ id) ⊎ (j ≢ id) → i ≡ j
    one_each i j x y e e2 same (inl p) (inl q) = p ∙ sym q
    one_each i j x y e e2 same (inl p) (inr q) =
        let first : number ≡ x.number = ap (λ (z : Slot). z.number) (here i x e p) in
        absurd (omega (arith, first, same, lower j y e2 q))
    one_each i j x y e e2 same (inr p) (inl q) =
        let first : number ≡ y.number = ap (λ (z : Slot). z.number) (here j y e2 q) in
        absurd (omega (arith, first, same, lower i x e p))
    one_each i j x y e e2 same (inr p) (inr q) = s.apart i j x y (sym (slot_else i p) ∙ e) (sym (slot_else j q) ∙ e2) same

    given : (n : ℕ) (u : Untaken) → untaken_at new n ≡ Some u → (n ≡ number) ⊎ (n ≢ number) → (1 ≤ n) × (n ≤ number)
    given n u e (inl same) = (omega (arith, same), omega (arith, same))
    given n u e (inr other) = let old = s.numbers n u (sym (at_else n other) ∙ e) in (old.0, omega (arith, old.1))

    waited : (n : ℕ) (u : Untaken) → untaken_at new n ≡ Some u → is_awaited u.fate ≡ true → (n ≡ number) ⊎ (n ≢ number) → HasSlot new n u
    waited n u e none (inl same) =
        let at : untaken_at new n ≡ Some own = subst (λ (k : ℕ). untaken_at new k ≡ Some own) (sym same) at_own in
        let is : own ≡ u = cc (at, e) in
        subst (λ (k : ℕ). HasSlot new k u) (sym same) (subst (HasSlot new number) is (record { id = id; kind = kind_of o; held = slot_own }))
    waited n u e none (inr other) =
        let old = s.of_awaited n u (sym (at_else n other) ∙ e) none in
        let elsewhere : old.id ≢ id = λ same. cc (subst (λ (k : ℕ). slot_for t k ≡ Some (record { number = n; device = u.device; kind = old.kind; dead = false })) same old.held, is_free) in
        record { id = old.id; kind = old.kind; held = slot_else old.id elsewhere ∙ old.held }

-- a slot becomes free, which is dead
pub freed_slots : (t : TableState) (id : ℕ) (slot : Slot) → AreSlots t → slot_for t id ≡ Some slot → slot.dead ≡ true → AreSlots (freed t id)
freed_slots t id slot s held dead = record {
  rising = rises_without (is_at (nat_cmp id)) t.slots s.rising;
  untaken_rising = s.untaken_rising;
  few_lives = s.few_lives;
  of_slot = λ j x e. let old = s.of_slot j x (before j x e) in record { low = old.low; given = old.given; mark = old.mark };
  apart = λ i j x y e e2. s.apart i j x y (before i x e) (before j y e2);
  numbers = s.numbers;
  of_awaited = λ n u e none.
      let old = s.of_awaited n u e none in
      let other : old.id ≢ id = λ same.
      let is : slot ≡ record { number = n; device = u.device; kind = old.kind; dead = false } = cc (subst (λ (k : ℕ). slot_for t k ≡ Some (record { number = n; device = u.device; kind = old.kind; dead = false })) same old.held, held) in
      cc (ap (λ (x : Slot). x.dead) is, dead) in
      record { id = old.id; kind = old.kind; held = kept id old.id other t.slots ∙ old.held };
  messages = s.messages;
  closed = λ shut. let was = s.closed shut in (ap (λ (es : List (ℕ × Slot)). remove_entry (is_at (nat_cmp id)) es) was.0, was.1, was.2, was.3);
}
  where
    before : (j : ℕ) (x : Slot) → slot_for (freed t id) j ≡ Some x → slot_for t j ≡ Some x
    before j x e = elim (cases_eq j id) [
      | inl same ↦ let none : slot_for (freed t id) j ≡ None = subst (λ (k : ℕ). slot_for (freed t id) k ≡ None) (sym same) (gone id t.slots s.rising) in absurd (cc (none, e))
      | inr other ↦ sym (kept id j other t.slots) ∙ e
    ]

-- a slot becomes free whose request is done
pub done_slots : (t : TableState) (id : ℕ) (slot : Slot) (u : Untaken) (o : Outcome) → AreSlots t → slot_for t id ≡ Some slot → untaken_at t slot.number ≡ Some u → u.fate ≡ awaited
    → AreSlots (record (freed t id) { untaken = set_value (is_at (nat_cmp slot.number)) t.untaken (record u { fate = known o }) })
done_slots t id slot u o s held waits fate = record {
  rising = rises_without (is_at (nat_cmp id)) t.slots s.rising;
  untaken_rising = subst (λ (ks : List ℕ). IsStrictlySortedBy nat_cmp ks) (sym (keys-set_value (is_at (nat_cmp slot.number)) t.untaken (record u { fate = known o }))) s.untaken_rising;
  few_lives = s.few_lives;
  of_slot = λ j x e. placed j x e;
  apart = λ i j x y e e2. s.apart i j x y (before i x e).0 (before j y e2).0;
  numbers = λ n v e. given n v e (cases_eq n slot.number);
  of_awaited = λ n v e none. waited n v e none (cases_eq n slot.number);
  messages = s.messages;
  closed = λ shut.
      let was = s.closed shut in
      let none : slot_for t id ≡ None = ap (λ (es : List (ℕ × Slot)). lookup (is_at (nat_cmp id)) es) was.0 in
      absurd (cc (none, held));
}
  where
    new : TableState
    new = record (freed t id) { untaken = set_value (is_at (nat_cmp slot.number)) t.untaken (record u { fate = known o }) }

    at_own : untaken_at new slot.number ≡ Some (record u { fate = known o })
    at_own = set_here slot.number (record u { fate = known o }) u t.untaken waits

    at_else : (n : ℕ) → n ≢ slot.number → untaken_at new n ≡ untaken_at t n
    at_else n other = set_beside slot.number n (record u { fate = known o }) other t.untaken

    before : (j : ℕ) (x : Slot) → slot_for new j ≡ Some x → (slot_for t j ≡ Some x) × (j ≢ id)
    before j x e = elim (cases_eq j id) [
      | inl same ↦ let none : slot_for new j ≡ None = subst (λ (k : ℕ). slot_for new k ≡ None) (sym same) (gone id t.slots s.rising) in absurd (cc (none, e))
      | inr other ↦ (sym (kept id j other t.slots) ∙ e, other)
    ]

    placed : (j : ℕ) (x : Slot) → slot_for new j ≡ Some x → IsSlotIn new j x
    placed j x e =
        let (was, other) = before j x e in
        let old = s.of_slot j x was in
        let elsewhere : x.number ≢ slot.number = λ same. other (s.apart j id x slot was held same) in
        record { low = old.low; given = old.given; mark = ap (λ (o : Option Untaken). mark_of (option_map fate_of o)) (at_else x.number elsewhere) ∙ old.mark }

    given : (n : ℕ) (v : Untaken) → untaken_at new n ≡ Some v → (n ≡ slot.number) ⊎ (n ≢ slot.number) → (1 ≤ n) × (n ≤ t.count)
    given n v e (inl same) = subst (λ (k : ℕ). (1 ≤ k) × (k ≤ t.count)) (sym same) (s.numbers slot.number u waits)
    given n v e (inr other) = s.numbers n v (sym (at_else n other) ∙ e)

    waited : (n : ℕ) (v : Untaken) → untaken_at new n ≡ Some v → is_awaited v.fate ≡ true → (n ≡ slot.number) ⊎ (n ≢ slot.number) → HasSlot new n v
    waited n v e none (inl same) =
        let at : untaken_at new n ≡ Some (record u { fate = known o }) = subst (λ (k : ℕ). untaken_at new k ≡ Some (record u { fate = known o })) (sym same) at_own in
        let is : record u { fate = known o } ≡ v = cc (at, e) in
        let over : is_awaited (known o) ≡ true = ap (λ (x : Untaken). is_awaited x.fate) is ∙ none in
        absurd (cc over)
    waited n v e none (inr other) =
        let old = s.of_awaited n v (sym (at_else n other) ∙ e) none in
        let apart : old.id ≢ id = λ same.
        let is : slot ≡ record { number = n; device = v.device; kind = old.kind; dead = false } = cc (subst (λ (k : ℕ). slot_for t k ≡ Some (record { number = n; device = v.device; kind = old.kind; dead = false })) same old.held, held) in
        other (sym (ap (λ (x : Slot). x.number) is)) in
        record { id = old.id; kind = old.kind; held = kept id old.id apart t.slots ∙ old.held }

-- ---- a removal, and the channel's end

-- what a removal does to a slot does to its number's mark
lost_mark : (device : ℕ) (o : Option Untaken) (x : Slot) → ((u : Untaken) → o ≡ Some u → is_awaited u.fate ≡ true → x.device ≡ u.device) → mark_of (option_map fate_of o) ≡ Some x.dead
    → mark_of (option_map fate_of (option_map (lost (λ (u : Untaken). u.device == device) Removed) o)) ≡ Some (cond (x.device == device) true x.dead)
lost_mark device None x named mark = go (x.device == device) (sym (let is : true ≡ x.dead = cc mark in is))
  where
    go : (b : Bool) → x.dead ≡ true → Some true ≡ Some (cond b true x.dead)
    go true is = refl
    go false is = ap Some (sym is)
lost_mark device (Some u) x named mark = go u.fate refl (x.device == device) refl
  where
    test : Untaken → Bool
    test v = v.device == device

    go : (f : Fate) → u.fate ≡ f → (b : Bool) → (x.device == device) ≡ b → mark_of (Some (lost test Removed u).fate) ≡ Some (cond b true x.dead)
    go awaited is b e = by b e (ap (λ (d : ℕ). d == device) (sym (named u refl (ap is_awaited is))) ∙ e)
      where
        by : (b : Bool) → (x.device == device) ≡ b → (u.device == device) ≡ b → mark_of (Some (lost test Removed u).fate) ≡ Some (cond b true x.dead)
        by true e e2 = rw (is, e2) refl
        by false e e2 = rw (is, e2) (sym (ap (λ (f : Fate). mark_of (Some f)) is) ∙ mark)
    go (known (Done reply)) is b e = absurd (cc (sym (ap (λ (f : Fate). mark_of (Some f)) is) ∙ mark))
    go (known (Lost cause)) is true e = rw is refl
    go (known (Lost cause)) is false e = rw is (sym (ap (λ (f : Fate). mark_of (Some f)) is) ∙ mark)

pub removed_slots : (t : TableState) (device : ℕ) (lives : List (ℕ × ℕ)) → AreSlots t → length lives ≤ max_devices → (t.channel ≡ None → lives ≡ [])
    → AreSlots (record t { lives = lives; slots = map (dead_of device) t.slots; untaken = losing (λ (u : Untaken). u.device == device) Removed t.untaken })
removed_slots t device lives s few shut_lives = record {
  rising = subst (λ (ks : List ℕ). IsStrictlySortedBy nat_cmp ks) (sym (keys_of-map_values marked t.slots)) s.rising;
  untaken_rising = subst (λ (ks : List ℕ). IsStrictlySortedBy nat_cmp ks) (sym (lost_keys test Removed t.untaken)) s.untaken_rising;
  few_lives = few;
  of_slot = placed;
  apart = λ i j x y e e2 same. let p = before i x e in let q = before j y e2 in s.apart i j p.0 q.0 p.1 q.1 (sym (number_kept p.0 x p.2) ∙ same ∙ number_kept q.0 y q.2);
  numbers = λ n u e. let was = some_of (lost test Removed) (untaken_at t n) u (sym (at_number n) ∙ e) in s.numbers n was.0 was.1;
  of_awaited = waited;
  messages = s.messages;
  closed = λ shut. let was = s.closed shut in (ap (λ (es : List (ℕ × Slot)). map (dead_of device) es) was.0, shut_lives shut, was.2, λ n. none_waits n (was.3 n));
}
  where
    test : Untaken → Bool
    test u = u.device == device

    new : TableState
    new = record t { lives = lives; slots = map (dead_of device) t.slots; untaken = losing (λ (u : Untaken). u.device == device) Removed t.untaken }

    marked : Slot → Slot
    marked x = cond (x.device == device) (record x { dead = true }) x

    at_slot : (id : ℕ) → slot_for new id ≡ option_map marked (slot_for t id)
    at_slot id = lookup-map_values marked (is_at (nat_cmp id)) t.slots

    at_number : (n : ℕ) → untaken_at new n ≡ option_map (lost test Removed) (untaken_at t n)
    at_number n = lost_at test Removed n t.untaken

    is_marked : (x : Slot) → marked x ≡ record { number = x.number; device = x.device; kind = x.kind; dead = cond (x.device == device) true x.dead }
    is_marked x = go (x.device == device)
      where
        go : (b : Bool) → cond b (record x { dead = true }) x ≡ record { number = x.number; device = x.device; kind = x.kind; dead = cond b true x.dead }
        go true = refl
        go false = refl

    before : (id : ℕ) (x : Slot) → slot_for new id ≡ Some x → (y : Slot) × (slot_for t id ≡ Some y) × (marked y ≡ x)
    before id x e = some_of marked (slot_for t id) x (sym (at_slot id) ∙ e)

    number_kept : (y x : Slot) → marked y ≡ x → x.number ≡ y.number
    number_kept y x is = ap (λ (z : Slot). z.number) (sym is ∙ is_marked y)

    placed : (id : ℕ) (slot : Slot) → slot_for new id ≡ Some slot → IsSlotIn new id slot
    placed id slot e =
        let was = before id slot e in
        let old = s.of_slot id was.0 was.1 in
        subst (IsSlotIn new id) (sym (is_marked was.0) ∙ was.2) (record {
          low = old.low;
          given = old.given;
          mark = ap (λ (o : Option Untaken). mark_of (option_map fate_of o)) (at_number was.0.number)
              ∙ lost_mark device (untaken_at t was.0.number) was.0 (λ u is none. own_device t id was.0 u s was.1 is none) old.mark;
        })

    waited : (n : ℕ) (u : Untaken) → untaken_at new n ≡ Some u → is_awaited u.fate ≡ true → HasSlot new n u
    waited n u e none =
        let was = some_of (lost test Removed) (untaken_at t n) u (sym (at_number n) ∙ e) in
        let still = still_awaited test Removed was.0 (ap (λ (v : Untaken). is_awaited v.fate) was.2 ∙ none) in
        let same : was.0 ≡ u = sym still.0 ∙ was.2 in
        let old = s.of_awaited n u (was.1 ∙ ap Some same) none in
        let elsewhere : (u.device == device) ≡ false = ap (λ (v : Untaken). v.device == device) (sym same) ∙ still.1 in
        let slot : Slot = record { number = n; device = u.device; kind = old.kind; dead = false } in
        record { id = old.id; kind = old.kind; held = at_slot old.id ∙ ap (option_map marked) old.held ∙ ap (λ (b : Bool). Some (cond b (record slot { dead = true }) slot)) elsewhere }

    none_waits : (n : ℕ) → awaits t n ≡ false → awaits new n ≡ false
    none_waits n none = ap (λ (o : Option Untaken). is_waiting (option_map fate_of o)) (at_number n) ∙ go (untaken_at t n) refl none
      where
        go : (o : Option Untaken) → untaken_at t n ≡ o → is_waiting (option_map fate_of o) ≡ false → is_waiting (option_map fate_of (option_map (lost test Removed) o)) ≡ false
        go None e over = refl
        go (Some u) e over = ap (λ (v : Untaken). is_awaited v.fate) (kept_known test Removed u over) ∙ over

-- nothing is awaited after the channel's end
pub lost_all : (cause : Cause) (u : Untaken) → is_awaited (lost (λ (v : Untaken). true) cause u).fate ≡ false
lost_all cause u = go u.fate refl
  where
    go : (f : Fate) → u.fate ≡ f → is_awaited (lost (λ (v : Untaken). true) cause u).fate ≡ false
    go awaited e = rw e refl
    go (known o) e = rw e refl

pub none_dropped : (t : TableState) (n : ℕ) → awaits (drop_channel t) n ≡ false
none_dropped t n = ap (λ (o : Option Untaken). is_waiting (option_map fate_of o)) (lost_at (λ (u : Untaken). true) Dropped n t.untaken) ∙ go (untaken_at t n)
  where
    go : (o : Option Untaken) → is_waiting (option_map fate_of (option_map (lost (λ (u : Untaken). true) Dropped) o)) ≡ false
    go None = refl
    go (Some u) = lost_all Dropped u

pub dropped_slots : (t : TableState) → AreSlots t → AreSlots (drop_channel t)
unfolding IsStrictlySortedBy
dropped_slots t s = record {
  rising = tt;
  untaken_rising = subst (λ (ks : List ℕ). IsStrictlySortedBy nat_cmp ks) (sym (lost_keys all Dropped t.untaken)) s.untaken_rising;
  few_lives = omega arith;
  of_slot = λ id slot e. absurd (cc e);
  apart = λ i j x y e. absurd (cc e);
  numbers = λ n u e. let was = some_of (lost all Dropped) (untaken_at t n) u (sym (lost_at all Dropped n t.untaken) ∙ e) in s.numbers n was.0 was.1;
  of_awaited = λ n u e none.
      let was = some_of (lost all Dropped) (untaken_at t n) u (sym (lost_at all Dropped n t.untaken) ∙ e) in
      absurd (cc (sym (ap (λ (v : Untaken). is_awaited v.fate) was.2) ∙ lost_all Dropped was.0, none));
  messages = All-nil IsMessage;
  closed = λ shut. (refl, refl, refl, none_dropped t);
}
  where
    all : Untaken → Bool
    all u = true

-- ---- an outcome is handed out

pub taken_slots : (t : TableState) (number : ℕ) (u : Untaken) (o : Outcome) → AreSlots t → untaken_at t number ≡ Some u → u.fate ≡ known o
    → AreSlots (record t { untaken = remove_entry (is_at (nat_cmp number)) t.untaken })
taken_slots t number u o s is fate = record {
  rising = s.rising;
  untaken_rising = rises_without (is_at (nat_cmp number)) t.untaken s.untaken_rising;
  few_lives = s.few_lives;
  of_slot = λ id x e. let old = s.of_slot id x e in record { low = old.low; given = old.given; mark = mark x old.mark (cases_eq x.number number) };
  apart = s.apart;
  numbers = λ n v e. s.numbers n v (before n v e).0;
  of_awaited = λ n v e none. let old = s.of_awaited n v (before n v e).0 none in record { id = old.id; kind = old.kind; held = old.held };
  messages = s.messages;
  closed = λ shut. let was = s.closed shut in (was.0, was.1, was.2, λ n. over n (was.3 n));
}
  where
    new : TableState
    new = record t { untaken = remove_entry (is_at (nat_cmp number)) t.untaken }

    at_own : untaken_at new number ≡ None
    at_own = gone number t.untaken s.untaken_rising

    at_else : (n : ℕ) → n ≢ number → untaken_at new n ≡ untaken_at t n
    at_else n other = kept number n other t.untaken

    before : (n : ℕ) (v : Untaken) → untaken_at new n ≡ Some v → (untaken_at t n ≡ Some v) × (n ≢ number)
    before n v e = elim (cases_eq n number) [
      | inl same ↦ let none : untaken_at new n ≡ None = subst (λ (k : ℕ). untaken_at new k ≡ None) (sym same) at_own in absurd (cc (none, e))
      | inr other ↦ (sym (at_else n other) ∙ e, other)
    ]

    mark : (x : Slot) → mark_of (fate_at t x.number) ≡ Some x.dead → (x.number ≡ number) ⊎ (x.number ≢ number) → mark_of (fate_at new x.number) ≡ Some x.dead
    mark x was (inr other) = ap (λ (p : Option Untaken). mark_of (option_map fate_of p)) (at_else x.number other) ∙ was
    mark x was (inl same) =
        ap (λ (p : Option Untaken). mark_of (option_map fate_of p)) (subst (λ (k : ℕ). untaken_at new k ≡ None) (sym same) at_own)
        ∙ by o (sym (ap (λ (p : Option Untaken). mark_of (option_map fate_of p)) (subst (λ (k : ℕ). untaken_at t k ≡ Some u) (sym same) is) ∙ ap (λ (f : Fate). mark_of (Some f)) fate) ∙ was)
      where
        by : (o : Outcome) → mark_of (Some (known o)) ≡ Some x.dead → Some true ≡ Some x.dead
        by (Done reply) m = absurd (cc m)
        by (Lost cause) m = m

    over : (n : ℕ) → awaits t n ≡ false → awaits new n ≡ false
    over n none = elim (cases_eq n number) [
      | inl same ↦ ap (λ (p : Option Untaken). is_waiting (option_map fate_of p)) (subst (λ (k : ℕ). untaken_at new k ≡ None) (sym same) at_own)
      | inr other ↦ ap (λ (p : Option Untaken). is_waiting (option_map fate_of p)) (at_else n other) ∙ none
    ]
