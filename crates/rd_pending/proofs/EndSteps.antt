-- What ends requests, and an outcome that is handed out, keep what holds of a table and its history.
use Rattle.std.proofs.Common.{◌≡◌, ◌∙◌, refl, sym, ap, subst, inl, inr, ℕ, suc, ◌+◌, ◌<◌, ◌≤◌, ◌==◌, ◌||◌, Bool, true, false, cond, List, [], ◌∷◌, length, map, take, Some, None, Option, arith, eq-eqb, ne_eqb, eqb-true}
use Rattle.std.specs.Prelude.{slice_get, IsOk}
use Rattle.std.specs.Option.{option_map, option_or}
use Rattle.std.specs.Ordering.{nat_cmp}
use Rattle.std.specs.Map.{lookup, remove_entry}
use Rattle.std.specs.BTreeMap.{is_at}
use Rattle.std.proofs.lemmas.Map.Made.{lookup-map_values}
use Rattle.std.proofs.lemmas.Bool.{cases_eq}
use Rattle.rd_base.specs.declared.journal.Cause.TheVariants.{Removed, Dropped}
use Rattle.rd_base.specs.Limits.{max_devices}
use Rattle.rd_pending.specs.declared.calls.Outcome.{Outcome}
use Rattle.rd_pending.specs.declared.calls.Outcome.TheVariants.{Lost}
use Rattle.rd_pending.specs.Outcomes as tidings
use Rattle.rd_pending.specs.Outcomes.{Accepted, Agrees, Course, course_from, ended_in, going_on, is_in_life}
use Rattle.rd_pending.specs.Table.{Fate, Slot, TableState, Untaken, awaits, dead_of, drop_channel, fate_at, is_awaited, known, life_of, losing, slot_for, take as take_outcome, untaken_at}
use Rattle.rd_pending.specs.History.{Call, accepted_in, after, drops, ended_on, heard_on, is_open_on, lives_before, removes, takes}
use Rattle.rd_pending.proofs.CourseLemmas.{heard_pairs}
use Rattle.rd_pending.proofs.Effects as effects
use Rattle.rd_pending.proofs.Effects.{Removes, Takes}
use Rattle.rd_pending.proofs.FateLemmas.{agrees_on, fate_of, is_lost, is_waiting, kept_known, lost, lost_at, lost_device, lost_life, none_awaited, not_lost}
use Rattle.rd_pending.proofs.MapLemmas.{gone, kept, none_removed, one_shorter}
use Rattle.rd_pending.proofs.SlotLemmas as slots
use Rattle.rd_pending.proofs.SlotLemmas.{lost_all, some_of}
use Rattle.rd_pending.proofs.Sound.{IsSlotOf, IsTracked, IsWithin, Sound, alike_before, course, heard_none, held, is_open, open_on, opens, outcome_after, outcome_open, outcome_quiet}
use Rattle.rd_pending.proofs.Steps.{course_open, not_open_heard, still_of, tracked_same}

-- ---- an outcome is handed out

pub takes_sound : (number : ℕ) (h : List Call) → Sound (after h) h → IsOk (take_outcome (after h) number).1 → Sound (after (takes number ∷ h)) (takes number ∷ h)
takes_sound number h s ok = subst (λ (y : TableState). Sound y (takes number ∷ h)) (sym effect.new) (record {
  slots = slots.taken_slots t number effect.request effect.outcome s.slots effect.is effect.fate;
  count = s.count;
  below = s.below;
  fresh = λ c le. let old = s.fresh c le in (same_heard c ∙ old.0, old.1, old.2);
  shut = s.shut;
  lives = λ c e. rw (same_heard c) (s.lives c e);
  balanced = λ c e d i. rw (same_heard c) (s.balanced c e d i);
  of_slot = still_of (takes number) h new s.of_slot refl refl;
  requests = tracked;
})
  where
    t : TableState
    t = after h

    effect : Takes t number
    effect = effects.takes t number ok

    new : TableState
    new = record t { untaken = remove_entry (is_at (nat_cmp number)) t.untaken }

    same_heard : (c : ℕ) → heard_on c (takes number ∷ h) ≡ heard_on c h
    same_heard c = heard_none (takes number) h c refl

    within : IsWithin (takes number) h
    within = record { lives = λ c. refl; ended = λ c. refl }

    tracked : (n : ℕ) (a : Accepted) → slice_get (accepted_in h) n ≡ Some a → IsTracked new (takes number ∷ h) n a
    tracked n a is = elim (cases_eq (suc n) number) [
      | inl same ↦
          let was = s.requests n a is in
          let m : ℕ = alike_before (take n (accepted_in h)) a in
          let none : untaken_at new (suc n) ≡ None = subst (λ (k : ℕ). untaken_at new k ≡ None) (sym same) (gone number t.untaken s.slots.untaken_rising) in
          let before : fate_at t (suc n) ≡ Some (known effect.outcome) = ap (option_map fate_of) (subst (λ (k : ℕ). untaken_at t k ≡ Some effect.request) (sym same) effect.is) ∙ ap Some effect.fate in
          let outcome : outcome_after m a h ≡ Some effect.outcome = subst (λ (f : Option Fate). Agrees f (outcome_after m a h)) before was.agrees in
          let over : awaits new (suc n) ≡ false = ap (λ (o : Option Untaken). is_waiting (option_map fate_of o)) none in
          record {
            below = was.below;
            agrees = subst (λ (f : Option Fate). Agrees f (outcome_after m a (takes number ∷ h))) (sym (ap (option_map fate_of) none)) (effect.outcome, outcome_quiet (takes number) h m a within refl ∙ outcome);
            named = λ u e. absurd (cc (none, e));
            alive = λ waits. absurd (cc (over, waits));
            last = λ waits. absurd (cc (over, waits));
          }
      | inr other ↦ tracked_same (takes number) h new n a within s is refl refl (kept number (suc n) other t.untaken) (λ none m. refl) (s.requests n a is).alive
    ]

-- ---- the channel ends

pub drops_sound : (c0 : ℕ) (h : List Call) → Sound (after h) h → (after h).channel ≡ Some c0 → Sound (after (drops ∷ h)) (drops ∷ h)
drops_sound c0 h s is_open_one = record {
  slots = slots.dropped_slots t s.slots;
  count = s.count;
  below = λ c e. absurd (cc e);
  fresh = λ c le. let old = s.fresh c le in (same_heard c ∙ old.0, rw (not_open c le, old.1) refl, old.2);
  shut = λ c e. absurd (cc e);
  lives = λ c e. absurd (cc e);
  balanced = λ c e. absurd (cc e);
  of_slot = λ id slot e. absurd (cc e);
  requests = tracked;
}
  where
    t : TableState
    t = after h

    all : Untaken → Bool
    all u = true

    new : TableState
    new = drop_channel t

    same_heard : (c : ℕ) → heard_on c (drops ∷ h) ≡ heard_on c h
    same_heard c = heard_none drops h c refl

    not_open : (c : ℕ) → t.below ≤ c → is_open_on t c ≡ false
    not_open c le = go (is_open_on t c) refl
      where
        go : (b : Bool) → is_open_on t c ≡ b → b ≡ false
        go true e = let under : c < t.below = s.below c (is_open t c e) in absurd (omega (arith, under, le))
        go false e = refl

    -- what ended before has its outcome, and what didn't is lost
    outcome_now : (m : ℕ) (a : Accepted) → outcome_after m a (drops ∷ h)
        ≡ option_or (ended_in a m (course_from (lives_before a.channel h)) (heard_on a.channel h)) (cond (is_open_on t a.channel || ended_on a.channel h) (Some (Lost Dropped)) None)
    outcome_now m a = rw (same_heard a.channel) refl

    stays : (m : ℕ) (a : Accepted) (o : Outcome) → outcome_after m a h ≡ Some o → outcome_after m a (drops ∷ h) ≡ Some o
    stays m a o e = outcome_now m a ∙ go (ended_in a m (course_from (lives_before a.channel h)) (heard_on a.channel h)) (is_open_on t a.channel) (ended_on a.channel h) e
      where
        go : (x : Option Outcome) (b w : Bool) → option_or x (cond w (Some (Lost Dropped)) None) ≡ Some o → option_or x (cond (b || w) (Some (Lost Dropped)) None) ≡ Some o
        go (Some y) b w e2 = e2
        go None true true e2 = e2
        go None true false e2 = absurd (cc e2)
        go None false w e2 = e2

    dropped : (m : ℕ) (a : Accepted) → t.channel ≡ Some a.channel → outcome_after m a h ≡ None → outcome_after m a (drops ∷ h) ≡ Some (Lost Dropped)
    dropped m a e none = outcome_now m a ∙ rw (open_on t a.channel e) (go (ended_in a m (course_from (lives_before a.channel h)) (heard_on a.channel h)) (cond (ended_on a.channel h) (Some (Lost Dropped)) None) none)
      where
        go : (x y : Option Outcome) → option_or x y ≡ None → option_or x (Some (Lost Dropped)) ≡ Some (Lost Dropped)
        go None y e2 = refl
        go (Some o) y e2 = absurd (cc e2)

    tracked : (n : ℕ) (a : Accepted) → slice_get (accepted_in h) n ≡ Some a → IsTracked new (drops ∷ h) n a
    tracked n a is = record {
      below = was.below;
      agrees = subst (λ (f : Option Fate). Agrees f (outcome_after m a (drops ∷ h))) (sym (ap (option_map fate_of) (lost_at all Dropped (suc n) t.untaken))) (go (untaken_at t (suc n)) refl);
      named = λ u e.
          let old = some_of (lost all Dropped) (untaken_at t (suc n)) u (sym (lost_at all Dropped (suc n) t.untaken) ∙ e) in
          let names = was.named old.0 old.1 in
          (ap (λ (v : Untaken). v.device) (sym old.2) ∙ lost_device all Dropped old.0 ∙ names.0, ap (λ (v : Untaken). v.life) (sym old.2) ∙ lost_life all Dropped old.0 ∙ names.1);
      alive = λ waits. absurd (cc (slots.none_dropped t (suc n), waits));
      last = λ waits. absurd (cc (slots.none_dropped t (suc n), waits));
    }
      where
        was : IsTracked t h n a
        was = s.requests n a is

        m : ℕ
        m = alike_before (take n (accepted_in h)) a

        go : (o : Option Untaken) → untaken_at t (suc n) ≡ o → Agrees (option_map fate_of (option_map (lost all Dropped) o)) (outcome_after m a (drops ∷ h))
        go None e =
            let agrees = subst (λ (o : Option Untaken). Agrees (option_map fate_of o) (outcome_after m a h)) e was.agrees in
            (agrees.0, stays m a agrees.0 agrees.1)
        go (Some u) e = by (is_awaited u.fate) refl
          where
            was_so : fate_at t (suc n) ≡ Some u.fate
            was_so = ap (option_map fate_of) e

            by : (w : Bool) → is_awaited u.fate ≡ w → Agrees (Some (lost all Dropped u).fate) (outcome_after m a (drops ∷ h))
            by true none =
                let waits : awaits t (suc n) ≡ true = ap is_waiting was_so ∙ none in
                let ends : outcome_after m a (drops ∷ h) ≡ Some (Lost Dropped) = dropped m a (opens t h n a s is waits) (none_awaited (fate_at t (suc n)) (outcome_after m a h) was.agrees waits) in
                subst (λ (v : Untaken). Agrees (Some v.fate) (outcome_after m a (drops ∷ h))) (sym (is_lost all Dropped u none refl)) ends
            by false over =
                subst (λ (v : Untaken). Agrees (Some v.fate) (outcome_after m a (drops ∷ h))) (sym (kept_known all Dropped u over))
                (agrees_on (Some u.fate) (outcome_after m a h) (outcome_after m a (drops ∷ h)) (λ x. stays m a x) over
                (subst (λ (f : Option Fate). Agrees f (outcome_after m a h)) was_so was.agrees))

-- ---- a device is gone

within_removes : (d : ℕ) (h : List Call) → IsWithin (removes d) h
within_removes d h = record { lives = λ c. refl; ended = λ c. refl }

-- what is heard of a device that isn't there ends nothing
absent_sound : (d : ℕ) (h : List Call) → Sound (after h) h → (c0 : ℕ) → (after h).channel ≡ Some c0 → life_of (after h) d ≡ None → Sound (after h) (removes d ∷ h)
absent_sound d h s c0 is_open_one absent = record {
  slots = s.slots;
  count = s.count;
  below = s.below;
  fresh = λ c le. let old = s.fresh c le in (not_open_heard (removes d) h s c le ∙ old.0, old.1, old.2);
  shut = s.shut;
  lives = λ c e.
      let old = s.lives c e in
      let none : lookup (is_at (nat_cmp d)) (course c h).lives ≡ None = ap (λ (es : List (ℕ × ℕ)). lookup (is_at (nat_cmp d)) es) old.0 ∙ absent in
      (ap (λ (k : Course). k.lives) (on_course c e) ∙ none_removed d (course c h).lives none ∙ old.0, ap (λ (k : Course). k.given) (on_course c e) ∙ old.1);
  balanced = λ c e i j. s.balanced c e i j ∙ ap (λ (k : Course). heard_pairs i j k + held (slot_for t j) i) (sym (on_course c e));
  of_slot = still_of (removes d) h t s.of_slot refl refl;
  requests = λ n a is. tracked_same (removes d) h t n a (within_removes d h) s is refl refl refl (λ none m. ends_none n a is none m) (s.requests n a is).alive;
}
  where
    t : TableState
    t = after h

    on_course : (c : ℕ) → t.channel ≡ Some c → course c (removes d ∷ h) ≡ going_on (course c h) (tidings.removes d)
    on_course c e = course_open (removes d) h c (within_removes d h) e

    ends_none : (n : ℕ) (a : Accepted) → slice_get (accepted_in h) n ≡ Some a → awaits t (suc n) ≡ true → (m : ℕ) → ended_in a m (course a.channel h) (tidings.removes d ∷ []) ≡ None
    ends_none n a is none m =
        let other : (d == a.device) ≡ false = ne_eqb d a.device (λ same. cc (subst (λ (x : ℕ). life_of t x ≡ None) same absent, (s.requests n a is).alive none)) in
        rw other refl

-- a device's requests are lost, and no other's
gone_sound : (d : ℕ) (h : List Call) → Sound (after h) h → (c0 : ℕ) → (after h).channel ≡ Some c0 → (effect : Removes (after h) d) → Sound (after (removes d ∷ h)) (removes d ∷ h)
gone_sound d h s c0 is_open_one effect = subst (λ (y : TableState). Sound y (removes d ∷ h)) (sym effect.new) (record {
  slots = slots.removed_slots t d (remove_entry (is_at (nat_cmp d)) t.lives) s.slots few (λ shut. absurd (cc (shut, is_open_one)));
  count = s.count;
  below = s.below;
  fresh = λ c le. let old = s.fresh c le in (not_open_heard (removes d) h s c le ∙ old.0, old.1, old.2);
  shut = s.shut;
  lives = λ c e.
      let old = s.lives c e in
      (ap (λ (k : Course). k.lives) (on_course c e) ∙ ap (λ (es : List (ℕ × ℕ)). remove_entry (is_at (nat_cmp d)) es) old.0, ap (λ (k : Course). k.given) (on_course c e) ∙ old.1);
  balanced = λ c e i j.
      s.balanced c e i j ∙ ap (λ (k : Course). heard_pairs i j k + held (slot_for t j) i) (sym (on_course c e))
      ∙ ap (λ (n : ℕ). heard_pairs i j (course c (removes d ∷ h)) + n) (sym (same_held i j));
  of_slot = placed;
  requests = tracked;
})
  where
    t : TableState
    t = after h

    test : Untaken → Bool
    test u = u.device == d

    new : TableState
    new = record t { lives = remove_entry (is_at (nat_cmp d)) t.lives; slots = map (dead_of d) t.slots; untaken = losing (λ (u : Untaken). u.device == d) Removed t.untaken }

    few : length (remove_entry (is_at (nat_cmp d)) t.lives) ≤ max_devices
    few = omega (arith, one_shorter (is_at (nat_cmp d)) t.lives, s.slots.few_lives)

    on_course : (c : ℕ) → t.channel ≡ Some c → course c (removes d ∷ h) ≡ going_on (course c h) (tidings.removes d)
    on_course c e = course_open (removes d) h c (within_removes d h) e

    marked : Slot → Slot
    marked x = cond (x.device == d) (record x { dead = true }) x

    same_held : (i j : ℕ) → held (slot_for new j) i ≡ held (slot_for t j) i
    same_held i j = ap (λ (o : Option Slot). held o i) (lookup-map_values marked (is_at (nat_cmp j)) t.slots) ∙ go (slot_for t j)
      where
        go : (o : Option Slot) → held (option_map marked o) i ≡ held o i
        go None = refl
        go (Some x) = by (x.device == d)
          where
            by : (b : Bool) → held (Some (cond b (record x { dead = true }) x)) i ≡ held (Some x) i
            by true = refl
            by false = refl

    placed : (id : ℕ) (slot : Slot) → slot_for new id ≡ Some slot → IsSlotOf new (removes d ∷ h) id slot
    placed id slot e =
        let (x, found, is) = some_of marked (slot_for t id) slot (sym (lookup-map_values marked (is_at (nat_cmp id)) t.slots) ∙ e) in
        subst (IsSlotOf new (removes d ∷ h) id) is (go x (s.of_slot id x found) (x.device == d))
      where
        go : (x : Slot) → IsSlotOf t h id x → (b : Bool) → IsSlotOf new (removes d ∷ h) id (cond b (record x { dead = true }) x)
        go x old true = record { before = old.before; numbered = old.numbered; request = old.request; is = old.is; channel = old.channel; device = old.device; own_id = old.own_id; kind = old.kind }
        go x old false = record { before = old.before; numbered = old.numbered; request = old.request; is = old.is; channel = old.channel; device = old.device; own_id = old.own_id; kind = old.kind }

    tracked : (n : ℕ) (a : Accepted) → slice_get (accepted_in h) n ≡ Some a → IsTracked new (removes d ∷ h) n a
    tracked n a at = go (untaken_at t (suc n)) refl
      where
        was : IsTracked t h n a
        was = s.requests n a at

        m : ℕ
        m = alike_before (take n (accepted_in h)) a

        now : (o : Option Untaken) → untaken_at t (suc n) ≡ o → untaken_at new (suc n) ≡ option_map (lost test Removed) o
        now o e = lost_at test Removed (suc n) t.untaken ∙ ap (option_map (lost test Removed)) e

        -- what isn't lost
        same : (o : Option Untaken) → untaken_at t (suc n) ≡ o → option_map (lost test Removed) o ≡ o → (awaits t (suc n) ≡ true → ¬ (a.device ≡ d)) → IsTracked new (removes d ∷ h) n a
        same o e stays other = tracked_same (removes d) h new n a (within_removes d h) s at refl refl (now o e ∙ stays ∙ sym e)
            (λ none k. rw (ne_eqb d a.device (λ here. other none (sym here))) refl)
            (λ none. kept d a.device (other none) t.lives ∙ was.alive none)

        go : (o : Option Untaken) → untaken_at t (suc n) ≡ o → IsTracked new (removes d ∷ h) n a
        go None e = same None e refl (λ none. absurd (cc (ap (λ (o : Option Untaken). is_waiting (option_map fate_of o)) e, none)))
        go (Some u) e = by (is_awaited u.fate) refl (u.device == d) refl
          where
            waits_as : awaits t (suc n) ≡ is_awaited u.fate
            waits_as = ap (λ (o : Option Untaken). is_waiting (option_map fate_of o)) e

            by : (w : Bool) → is_awaited u.fate ≡ w → (q : Bool) → (u.device == d) ≡ q → IsTracked new (removes d ∷ h) n a
            by false over q e2 = same (Some u) e (ap Some (kept_known test Removed u over)) (λ none. absurd (cc (waits_as, over, none)))
            by true none false other = same (Some u) e (ap Some (not_lost test Removed u other)) (λ waits here. cc (eq-eqb u.device d ((was.named u e).0 ∙ here), other))
            by true none true here =
                let waits : awaits t (suc n) ≡ true = waits_as ∙ none in
                let opened : t.channel ≡ Some a.channel = opens t h n a s at waits in
                let live : lookup (is_at (nat_cmp a.device)) (course a.channel h).lives ≡ Some a.life = ap (λ (es : List (ℕ × ℕ)). lookup (is_at (nat_cmp a.device)) es) (s.lives a.channel opened).0 ∙ was.alive waits in
                let d_is : (d == a.device) ≡ true = eq-eqb d a.device (sym (eqb-true u.device d here) ∙ (was.named u e).0) in
                let in_life : is_in_life (course a.channel h) a ≡ true = rw live (eq-eqb a.life a.life refl) in
                let gone_one : untaken_at new (suc n) ≡ Some (record u { fate = known (Lost Removed) }) = now (Some u) e ∙ ap Some (is_lost test Removed u none here) in
                let ends : outcome_after m a (removes d ∷ h) ≡ Some (Lost Removed) =
                outcome_open (removes d) h m a (within_removes d h) opened (s.shut a.channel opened)
                ∙ ap (λ (o : Option Outcome). option_or o (ended_in a m (course a.channel h) (tidings.removes d ∷ []))) (none_awaited (fate_at t (suc n)) (outcome_after m a h) was.agrees waits)
                ∙ rw (d_is, in_life) refl in
                let over : awaits new (suc n) ≡ false = ap (λ (o : Option Untaken). is_waiting (option_map fate_of o)) gone_one in
                record {
                  below = was.below;
                  agrees = subst (λ (f : Option Fate). Agrees f (outcome_after m a (removes d ∷ h))) (sym (ap (option_map fate_of) gone_one)) ends;
                  named = λ v e2. let is : record u { fate = known (Lost Removed) } ≡ v = cc (gone_one, e2) in (ap (λ (x : Untaken). x.device) (sym is) ∙ (was.named u e).0, ap (λ (x : Untaken). x.life) (sym is) ∙ (was.named u e).1);
                  alive = λ still. absurd (cc (over, still));
                  last = λ still. absurd (cc (over, still));
                }

pub removes_sound : (d : ℕ) (h : List Call) → Sound (after h) h → (c0 : ℕ) → (after h).channel ≡ Some c0 → Sound (after (removes d ∷ h)) (removes d ∷ h)
removes_sound d h s c0 is_open_one = elim (effects.removes (after h) d) [
  | inl none ↦ subst (λ (y : TableState). Sound y (removes d ∷ h)) (sym none.same) (absent_sound d h s c0 is_open_one none.absent)
  | inr effect ↦ gone_sound d h s c0 is_open_one effect
]
