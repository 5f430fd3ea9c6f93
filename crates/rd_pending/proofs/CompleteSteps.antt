-- A completion that is taken keeps what holds of a table and its history.
use Rattle.std.proofs.Common.{◌≡◌, ◌≢◌, ◌⊎◌, ◌∙◌, refl, sym, ap, subst, inl, inr, ℕ, suc, ◌+◌, ◌==◌, ◌&&◌, Bool, true, false, cond, List, [], ◌∷◌, take, Some, None, Option, arith, eq-eqb, ne_eqb, eqb-true}
use Rattle.std.specs.Prelude.{slice_get, IsOk}
use Rattle.std.specs.Option.{option_map, option_or}
use Rattle.std.specs.Ordering.{nat_cmp}
use Rattle.std.specs.Map.{lookup, remove_entry, set_value}
use Rattle.std.specs.BTreeMap.{is_at}
use Rattle.std.proofs.lemmas.Bool.{cases_eq}
use Rattle.rd_irp.specs.declared.completion.Head.{Head}
use Rattle.rd_irp.specs.Fits.{kind_of}
use Rattle.rd_pending.specs.declared.calls.Outcome.{Outcome}
use Rattle.rd_pending.specs.declared.calls.Outcome.TheVariants.{Done}
use Rattle.rd_pending.specs.Outcomes as tidings
use Rattle.rd_pending.specs.Outcomes.{Accepted, Agrees, Course, ended_in, going_on, head_has_pair}
use Rattle.rd_pending.specs.Table.{Fate, Slot, TableState, Untaken, awaits, complete, fate_at, freed, is_awaited, known, slot_for, untaken_at, with_fate}
use Rattle.rd_pending.specs.History.{Call, accepted_in, after, completes}
use Rattle.rd_pending.proofs.CountLemmas.{pairs}
use Rattle.rd_pending.proofs.CourseLemmas.{heard_one, heard_pairs}
use Rattle.rd_pending.proofs.Effects as effects
use Rattle.rd_pending.proofs.Effects.{Completes, IsGiven}
use Rattle.rd_pending.proofs.FateLemmas.{Waits, fate_of, fate_set, is_waiting, live_waits, none_awaited}
use Rattle.rd_pending.proofs.MapLemmas.{gone, kept, set_beside, set_here}
use Rattle.rd_pending.proofs.SlotLemmas as slots
use Rattle.rd_pending.proofs.Sound.{IsSlotOf, IsTracked, IsWithin, Sound, alike_before, course, held, outcome_after, outcome_open, own_slot}
use Rattle.rd_pending.proofs.Steps.{course_open, not_open_heard, still_of, tracked_same}

within_completes : (head : Head) (bytes : List ℕ) (h : List Call) → IsWithin (completes head bytes) h
within_completes head bytes h = record { lives = λ c. refl; ended = λ c. refl }

module _ (head : Head) (bytes : List ℕ) (h : List Call) (s : Sound (after h) h) (c0 : ℕ) (is_open_one : (after h).channel ≡ Some c0) where
  on_completion : (c : ℕ) → (after h).channel ≡ Some c → course c (completes head bytes ∷ h) ≡ going_on (course c h) (tidings.completes head bytes)
  on_completion c e = course_open (completes head bytes) h c (within_completes head bytes h) e

  -- the slot is free, and its completion counts
  still_balanced : (slot : Slot) (new : TableState) → slot_for (after h) head.completion ≡ Some slot → slot.device ≡ head.device → new.slots ≡ remove_entry (is_at (nat_cmp head.completion)) (after h).slots
      → (c : ℕ) → (after h).channel ≡ Some c → (i j : ℕ) → pairs c i j (accepted_in h) ≡ heard_pairs i j (course c (completes head bytes ∷ h)) + held (slot_for new j) i
  still_balanced slot new found named freed_one c e i j =
      s.balanced c e i j
      ∙ go (cases_eq j head.completion)
      ∙ ap (λ (k : Course). heard_pairs i j k + held (slot_for new j) i) (sym (on_completion c e))
    where
      n : ℕ
      n = heard_pairs i j (course c h)

      one : heard_pairs i j (going_on (course c h) (tidings.completes head bytes)) ≡ n + cond (head_has_pair i j head) 1 0
      one = heard_one i j (course c h) head bytes

      at_new : slot_for new j ≡ lookup (is_at (nat_cmp j)) (remove_entry (is_at (nat_cmp head.completion)) (after h).slots)
      at_new = ap (λ (es : List (ℕ × Slot)). lookup (is_at (nat_cmp j)) es) freed_one

      go : (j ≡ head.completion) ⊎ (j ≢ head.completion)
          → n + held (slot_for (after h) j) i ≡ heard_pairs i j (going_on (course c h) (tidings.completes head bytes)) + held (slot_for new j) i
      go (inl same) =
          let before : slot_for (after h) j ≡ Some slot = subst (λ (x : ℕ). slot_for (after h) x ≡ Some slot) (sym same) found in
          let none : slot_for new j ≡ None = at_new ∙ subst (λ (x : ℕ). lookup (is_at (nat_cmp x)) (remove_entry (is_at (nat_cmp head.completion)) (after h).slots) ≡ None) (sym same) (gone head.completion (after h).slots s.slots.rising) in
          let test : head_has_pair i j head ≡ (slot.device == i) = rw (eq-eqb head.completion j (sym same), named) (both (head.device == i)) in
          rw (before, none, one, test) (sym (plus_none (n + cond (slot.device == i) 1 0)))
        where
          both : (b : Bool) → (b && true) ≡ b
          both true = refl
          both false = refl

          plus_none : (k : ℕ) → k + 0 ≡ k
          plus_none k = omega arith
      go (inr other) =
          let stays : slot_for new j ≡ slot_for (after h) j = at_new ∙ kept head.completion j other (after h).slots in
          let test : head_has_pair i j head ≡ false = rw (ne_eqb head.completion j (λ same. other (sym same))) (none (head.device == i)) in
          rw (stays, one, test) (plus_none n (held (slot_for (after h) j) i))
        where
          none : (b : Bool) → (b && false) ≡ false
          none true = refl
          none false = refl

          plus_none : (k l : ℕ) → k + l ≡ k + 0 + l
          plus_none k l = omega arith

  -- a completion with another pair ends nothing
  ends_no_other : (a : Accepted) (m : ℕ) → ¬ ((head.device ≡ a.device) × (head.completion ≡ a.id)) → ended_in a m (course a.channel h) (tidings.completes head bytes ∷ []) ≡ None
  ends_no_other a m apart = rw (go (head.device == a.device) refl (head.completion == a.id) refl) refl
    where
      go : (p : Bool) → (head.device == a.device) ≡ p → (q : Bool) → (head.completion == a.id) ≡ q → (p && q) ≡ false
      go true e true e2 = absurd (apart (eqb-true head.device a.device e, eqb-true head.completion a.id e2))
      go true e false e2 = refl
      go false e q e2 = refl

  -- the slot of a request that is awaited
  ends_no_awaited : (slot : Slot) → slot_for (after h) head.completion ≡ Some slot → (n : ℕ) (a : Accepted) → slice_get (accepted_in h) n ≡ Some a → awaits (after h) (suc n) ≡ true
      → ¬ ((slot.dead ≡ false) × (slot.number ≡ suc n)) → (m : ℕ) → ended_in a m (course a.channel h) (tidings.completes head bytes ∷ []) ≡ None
  ends_no_awaited slot found n a is none other m = ends_no_other a m (λ pair.
      let own = (own_slot (after h) h n a s is none).1 in
      let same : slot ≡ record { number = suc n; device = a.device; kind = kind_of a.op; dead = false } = cc (subst (λ (x : ℕ). slot_for (after h) x ≡ Some slot) pair.1 found, own) in
      other (ap (λ (x : Slot). x.dead) same, ap (λ (x : Slot). x.number) same))

  still_slots : (new : TableState) → new.slots ≡ remove_entry (is_at (nat_cmp head.completion)) (after h).slots → new.channel ≡ (after h).channel
      → (id : ℕ) (slot : Slot) → slot_for new id ≡ Some slot → IsSlotOf new (completes head bytes ∷ h) id slot
  still_slots new freed_one channel id slot e = elim (cases_eq id head.completion) [
    | inl same ↦
        let none : slot_for new id ≡ None = at_new ∙ subst (λ (x : ℕ). lookup (is_at (nat_cmp x)) (remove_entry (is_at (nat_cmp head.completion)) (after h).slots) ≡ None) (sym same) (gone head.completion (after h).slots s.slots.rising) in
        absurd (cc (none, e))
    | inr other ↦ still_of (completes head bytes) h new s.of_slot refl channel id slot (sym (kept head.completion id other (after h).slots) ∙ sym at_new ∙ e)
  ]
    where
      at_new : slot_for new id ≡ lookup (is_at (nat_cmp id)) (remove_entry (is_at (nat_cmp head.completion)) (after h).slots)
      at_new = ap (λ (es : List (ℕ × Slot)). lookup (is_at (nat_cmp id)) es) freed_one

  late_sound : (slot : Slot) → slot_for (after h) head.completion ≡ Some slot → slot.device ≡ head.device → slot.dead ≡ true → Sound (freed (after h) head.completion) (completes head bytes ∷ h)
  late_sound slot found named dead = record {
    slots = slots.freed_slots (after h) head.completion slot s.slots found dead;
    count = s.count;
    below = s.below;
    fresh = λ c le. let old = s.fresh c le in (not_open_heard (completes head bytes) h s c le ∙ old.0, old.1, old.2);
    shut = s.shut;
    lives = λ c e. let old = s.lives c e in (ap (λ (k : Course). k.lives) (on_completion c e) ∙ old.0, ap (λ (k : Course). k.given) (on_completion c e) ∙ old.1);
    balanced = still_balanced slot (freed (after h) head.completion) found named refl;
    of_slot = still_slots (freed (after h) head.completion) refl refl;
    requests = λ n a is. tracked_same (completes head bytes) h (freed (after h) head.completion) n a (within_completes head bytes h) s is refl refl refl
        (λ none m. ends_no_awaited slot found n a is none (λ both. cc (both.0, dead)) m) (s.requests n a is).alive;
  }

  given_sound : (slot : Slot) → slot_for (after h) head.completion ≡ Some slot → slot.device ≡ head.device → (effect : IsGiven (after h) head bytes slot)
      → Sound (with_fate (freed (after h) head.completion) slot.number (known (Done effect.reply))) (completes head bytes ∷ h)
  given_sound slot found named effect = subst (λ (y : TableState). Sound y (completes head bytes ∷ h)) (sym (fate_set (freed t head.completion) slot.number waits.one done waits.is)) (record {
    slots = slots.done_slots t head.completion slot waits.one (Done effect.reply) s.slots found waits.is waits.fate;
    count = s.count;
    below = s.below;
    fresh = λ c le. let old = s.fresh c le in (not_open_heard (completes head bytes) h s c le ∙ old.0, old.1, old.2);
    shut = s.shut;
    lives = λ c e. let old = s.lives c e in (ap (λ (k : Course). k.lives) (on_completion c e) ∙ old.0, ap (λ (k : Course). k.given) (on_completion c e) ∙ old.1);
    balanced = still_balanced slot new found named refl;
    of_slot = still_slots new refl refl;
    requests = tracked;
  })
    where
      t : TableState
      t = after h

      done : Fate
      done = known (Done effect.reply)

      own : IsSlotOf t h head.completion slot
      own = s.of_slot head.completion slot found

      waits : Waits (untaken_at t slot.number)
      waits = live_waits (untaken_at t slot.number) ((s.slots.of_slot head.completion slot found).mark ∙ ap Some effect.alive)

      new : TableState
      new = record (freed t head.completion) { untaken = set_value (is_at (nat_cmp slot.number)) t.untaken (record waits.one { fate = done }) }

      tracked : (n : ℕ) (a : Accepted) → slice_get (accepted_in h) n ≡ Some a → IsTracked new (completes head bytes ∷ h) n a
      tracked n a is = elim (cases_eq (suc n) slot.number) [
        | inl same ↦ done_one same
        | inr other ↦ tracked_same (completes head bytes) h new n a (within_completes head bytes h) s is refl refl (set_beside slot.number (suc n) (record waits.one { fate = done }) other t.untaken)
            (λ none m. ends_no_awaited slot found n a is none (λ both. other (sym both.1)) m) (s.requests n a is).alive
      ]
        where
          done_one : suc n ≡ slot.number → IsTracked new (completes head bytes ∷ h) n a
          done_one same =
              let was = s.requests n a is in
              let m : ℕ = alike_before (take n (accepted_in h)) a in
              let before : untaken_at t (suc n) ≡ Some waits.one = subst (λ (k : ℕ). untaken_at t k ≡ Some waits.one) (sym same) waits.is in
              let now : untaken_at new (suc n) ≡ Some (record waits.one { fate = done }) =
              subst (λ (k : ℕ). untaken_at new k ≡ Some (record waits.one { fate = done })) (sym same) (set_here slot.number (record waits.one { fate = done }) waits.one t.untaken waits.is) in
              let none : awaits t (suc n) ≡ true = ap (λ (o : Option Untaken). is_waiting (option_map fate_of o)) before ∙ ap is_awaited waits.fate in
              let over : awaits new (suc n) ≡ false = ap (λ (o : Option Untaken). is_waiting (option_map fate_of o)) now in
              let place : n ≡ own.before = cc (own.numbered) in
              let one : own.request ≡ a = cc (own.is, subst (λ (k : ℕ). slice_get (accepted_in h) k ≡ Some a) place is) in
              let device : a.device ≡ slot.device = ap (λ (b : Accepted). b.device) (sym one) ∙ own.device in
              let id : a.id ≡ head.completion = ap (λ (b : Accepted). b.id) (sym one) ∙ own.own_id in
              let kind : kind_of a.op ≡ slot.kind = ap (λ (b : Accepted). kind_of b.op) (sym one) ∙ own.kind in
              let its = own_slot t h n a s is none in
              let held_one : held (slot_for t a.id) a.device ≡ 1 = rw (its.1, eq-eqb a.device a.device refl) refl in
              let count : heard_pairs a.device a.id (course a.channel h) ≡ m = omega (arith, s.balanced a.channel its.0 a.device a.id, was.last none, held_one) in
              let pair : head_has_pair a.device a.id head ≡ true = rw (eq-eqb head.device a.device (sym named ∙ sym device), eq-eqb head.completion a.id (sym id)) refl in
              let ends : outcome_after m a (completes head bytes ∷ h) ≡ Some (Done effect.reply) =
              outcome_open (completes head bytes) h m a (within_completes head bytes h) its.0 (s.shut a.channel its.0)
              ∙ ap (λ (o : Option Outcome). option_or o (ended_in a m (course a.channel h) (tidings.completes head bytes ∷ []))) (none_awaited (fate_at t (suc n)) (outcome_after m a h) was.agrees none)
              ∙ rw (pair, eq-eqb (heard_pairs a.device a.id (course a.channel h)) m count) (ap (λ (o : Option Outcome). option_or o None) (effect.reads a kind)) in
              record {
                below = was.below;
                agrees = subst (λ (f : Option Fate). Agrees f (outcome_after m a (completes head bytes ∷ h))) (sym (ap (option_map fate_of) now)) ends;
                named = λ u e.
                    let is_new : record waits.one { fate = done } ≡ u = cc (now, e) in
                    let names = was.named waits.one before in
                    (ap (λ (v : Untaken). v.device) (sym is_new) ∙ names.0, ap (λ (v : Untaken). v.life) (sym is_new) ∙ names.1);
                alive = λ still. absurd (cc (over, still));
                last = λ still. absurd (cc (over, still));
              }

  pub completes_sound : IsOk (complete (after h) head bytes).1 → Sound (after (completes head bytes ∷ h)) (completes head bytes ∷ h)
  completes_sound ok = by (effects.completes (after h) head bytes ok)
    where
      by : Completes (after h) head bytes → Sound (after (completes head bytes ∷ h)) (completes head bytes ∷ h)
      by found = elim found.effect [
        | inl late ↦ subst (λ (y : TableState). Sound y (completes head bytes ∷ h)) (sym late.new) (late_sound found.slot found.held found.named late.dead)
        | inr given ↦ subst (λ (y : TableState). Sound y (completes head bytes ∷ h)) (sym given.new) (given_sound found.slot found.held found.named given)
      ]
