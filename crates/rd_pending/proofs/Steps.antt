-- Each call keeps what holds of a table and its history.
use Rattle.std.proofs.Common.{◌≡◌, ◌≢◌, ◌∙◌, refl, sym, ap, subst, ℕ, suc, ◌+◌, ◌<◌, ◌≤◌, ◌==◌, Bool, true, false, List, ◌∷◌, length, take, Some, None, Option, arith, eq-eqb, ne_eqb, inl, inr}
use Rattle.std.specs.Prelude.{slice_get}
use Rattle.std.specs.Option.{option_map, option_or}
use Rattle.std.specs.Ordering.{nat_cmp}
use Rattle.std.specs.Map.{lookup}
use Rattle.std.specs.BTreeMap.{insert_entry, is_at}
use Rattle.std.proofs.lemmas.Bool.{cases_Bool}
use Rattle.rd_base.specs.Limits.{max_devices}
use Rattle.rd_pending.specs.declared.calls.Outcome.{Outcome}
use Rattle.rd_pending.specs.Outcomes as tidings
use Rattle.rd_pending.specs.Outcomes.{Accepted, Agrees, Course, course_from, ended_in, going_on}
use Rattle.rd_pending.specs.Table.{Fate, MayBegin, Slot, TableState, awaits, fate_at, life_of, live_refusal, slot_for, untaken_at}
use Rattle.rd_pending.specs.History.{Call, accepted_in, after, begins, ended_on, heard_by, heard_on, is_open_on, lives, lives_before}
use Rattle.rd_pending.proofs.CourseLemmas.{heard_pairs, through, through_more}
use Rattle.rd_pending.proofs.CountLemmas.{pairs}
use Rattle.rd_pending.proofs.Effects as effects
use Rattle.rd_pending.proofs.Effects.{Lives}
use Rattle.rd_pending.proofs.FateLemmas.{agrees_none, agrees_on, fate_of, is_waiting, none_awaited}
use Rattle.rd_pending.proofs.MapLemmas.{beside, one_longer}
use Rattle.rd_pending.proofs.SlotLemmas as slots
use Rattle.rd_pending.proofs.Sound.{IsSlotOf, IsTracked, IsWithin, Sound, alike_before, course, heard_else, heard_none, heard_open, held, is_open, opens, outcome_after, outcome_open, outcome_stays}

-- a course after a call on the open channel
pub course_open : (call : Call) (h : List Call) (c : ℕ) → IsWithin call h → (after h).channel ≡ Some c → course c (call ∷ h) ≡ through (course c h) (heard_by call)
course_open call h c within is_open_one =
    rw (within.lives c, heard_open call h c is_open_one) (through_more (course_from (lives_before c h)) (heard_on c h) (heard_by call))

-- ---- a request of whose outcome there is what there was

-- nothing that the request hangs on changed, and what is heard ends it nowhere
pub tracked_same : (call : Call) (h : List Call) (t : TableState) (n : ℕ) (a : Accepted) → IsWithin call h → Sound (after h) h → slice_get (accepted_in h) n ≡ Some a
    → accepted_in (call ∷ h) ≡ accepted_in h → t.below ≡ (after h).below → untaken_at t (suc n) ≡ untaken_at (after h) (suc n)
    → (awaits (after h) (suc n) ≡ true → (m : ℕ) → ended_in a m (course a.channel h) (heard_by call) ≡ None)
    → (awaits (after h) (suc n) ≡ true → life_of t a.device ≡ Some a.life)
    → IsTracked t (call ∷ h) n a
tracked_same call h t n a within sound at accepted below same ends_none life = record {
  below = rw below was.below;
  agrees = subst (λ (xs : List Accepted). Agrees (fate_at t (suc n)) (outcome_after (alike_before (take n xs) a) a (call ∷ h))) (sym accepted)
      (subst (λ (f : Option Fate). Agrees f (outcome_after m a (call ∷ h))) (sym same_fate) (go (awaits (after h) (suc n)) refl));
  named = λ u e. was.named u (sym same ∙ e);
  alive = λ none. life (sym same_waits ∙ none);
  last = λ none. subst (λ (xs : List Accepted). alike_before xs a ≡ suc (alike_before (take n xs) a)) (sym accepted) (was.last (sym same_waits ∙ none));
}
  where
    was : IsTracked (after h) h n a
    was = sound.requests n a at

    m : ℕ
    m = alike_before (take n (accepted_in h)) a

    same_fate : fate_at t (suc n) ≡ fate_at (after h) (suc n)
    same_fate = ap (option_map fate_of) same

    same_waits : awaits t (suc n) ≡ awaits (after h) (suc n)
    same_waits = ap is_waiting same_fate

    go : (w : Bool) → awaits (after h) (suc n) ≡ w → Agrees (fate_at (after h) (suc n)) (outcome_after m a (call ∷ h))
    go true none =
        let open_one = opens (after h) h n a sound at none in
        agrees_none (fate_at (after h) (suc n)) (outcome_after m a (call ∷ h)) none
        (outcome_open call h m a within open_one (sound.shut a.channel open_one)
        ∙ ap (λ (o : Option Outcome). option_or o (ended_in a m (course a.channel h) (heard_by call))) (none_awaited (fate_at (after h) (suc n)) (outcome_after m a h) was.agrees none)
        ∙ ends_none none m)
    go false over =
        agrees_on (fate_at (after h) (suc n)) (outcome_after m a h) (outcome_after m a (call ∷ h))
        (λ x e. outcome_stays call h m a x within (sound.shut a.channel) e) over was.agrees

-- slots that are of their requests stay so
pub still_of : (call : Call) (h : List Call) (t : TableState) → ((id : ℕ) (slot : Slot) → slot_for (after h) id ≡ Some slot → IsSlotOf (after h) h id slot)
    → accepted_in (call ∷ h) ≡ accepted_in h → t.channel ≡ (after h).channel → (id : ℕ) (slot : Slot) → slot_for (after h) id ≡ Some slot → IsSlotOf t (call ∷ h) id slot
still_of call h t own accepted channel id slot e =
    let old = own id slot e in
    record {
      before = old.before;
      numbered = old.numbered;
      request = old.request;
      is = subst (λ (xs : List Accepted). slice_get xs old.before ≡ Some old.request) (sym accepted) old.is;
      channel = channel ∙ old.channel;
      device = old.device;
      own_id = old.own_id;
      kind = old.kind;
    }

-- nothing is heard on a channel that didn't begin
pub not_open_heard : (call : Call) (h : List Call) → Sound (after h) h → (c : ℕ) → (after h).below ≤ c → heard_on c (call ∷ h) ≡ heard_on c h
not_open_heard call h s c le = elim (cases_Bool (is_open_on (after h) c)) [
  | inl e ↦ let low : c < (after h).below = s.below c (is_open (after h) c e) in absurd (omega (arith, low, le))
  | inr e ↦ heard_else call h c e
]

-- ---- a channel begins

pub begins_sound : (c' : ℕ) (h : List Call) → Sound (after h) h → (after h).channel ≡ None → MayBegin (after h) c' → Sound (after (begins c' ∷ h)) (begins c' ∷ h)
begins_sound c' h s closed above = subst (λ (x : TableState). Sound x (begins c' ∷ h)) (sym is_new) (record {
  slots = slots.same_slots t new s.slots refl refl refl s.slots.few_lives s.slots.messages (λ shut. absurd (cc shut));
  count = s.count;
  below = λ c e. let same : c' ≡ c = cc e in omega (arith, same);
  fresh = λ c le. let old = s.fresh c (omega (arith, le, above)) in (same_heard c ∙ old.0, old.1, old.2);
  shut = λ c e. let same : c' ≡ c = cc e in subst (λ (x : ℕ). ended_on x h ≡ false) same (s.fresh c' above).1;
  lives = λ c e. let same : c' ≡ c = cc e in subst (λ (x : ℕ). ((course x (begins c' ∷ h)).lives ≡ t.lives) × ((course x (begins c' ∷ h)).given ≡ t.given)) same (rw course_new (sym (s.slots.closed closed).1, refl));
  balanced = λ c e d i. let same : c' ≡ c = cc e in subst (λ (x : ℕ). pairs x d i (accepted_in h) ≡ heard_pairs d i (course x (begins c' ∷ h)) + held (slot_for t i) d) same (balanced_new d i);
  of_slot = λ id slot e. let none : slot_for t id ≡ None = ap (λ (es : List (ℕ × Slot)). lookup (is_at (nat_cmp id)) es) (s.slots.closed closed).0 in absurd (cc (none, e));
  requests = λ n a is. let was = s.requests n a is in record {
    below = let low : a.channel < t.below = was.below in omega (arith, low, above);
    agrees = subst (Agrees (fate_at t (suc n))) (sym (unchanged a (alike_before (take n (accepted_in h)) a) was.below)) was.agrees;
    named = was.named;
    alive = λ none. absurd (cc ((s.slots.closed closed).3 (suc n), none));
    last = was.last;
  };
})
  where
    t : TableState
    t = after h

    new : TableState
    new = record t { channel = Some c'; below = c' + 1; asked = 0; begun = 0 }

    is_new : after (begins c' ∷ h) ≡ new
    is_new = rw closed refl

    same_heard : (c : ℕ) → heard_on c (begins c' ∷ h) ≡ heard_on c h
    same_heard c = heard_none (begins c') h c refl

    course_new : course c' (begins c' ∷ h) ≡ course_from t.given
    course_new = rw (same_heard c', (s.fresh c' above).0, eq-eqb c' c' refl) refl

    balanced_new : (d i : ℕ) → pairs c' d i (accepted_in h) ≡ heard_pairs d i (course c' (begins c' ∷ h)) + held (slot_for t i) d
    balanced_new d i = rw ((s.fresh c' above).2 d i, course_new, (s.slots.closed closed).0) refl

    unchanged : (a : Accepted) (m : ℕ) → a.channel < t.below → outcome_after m a (begins c' ∷ h) ≡ outcome_after m a h
    unchanged a m low =
        let other : (c' == a.channel) ≡ false = ne_eqb c' a.channel (λ same. omega (arith, low, above, same)) in
        rw (other, same_heard a.channel) refl

-- ---- a device begins a life

within_lives : (d : ℕ) (h : List Call) → IsWithin (lives d) h
within_lives d h = record { lives = λ c. refl; ended = λ c. refl }

pub lives_sound : (d : ℕ) (h : List Call) → Sound (after h) h → live_refusal (after h) d ≡ None → Sound (after (lives d ∷ h)) (lives d ∷ h)
lives_sound d h s free_one = subst (λ (x : TableState). Sound x (lives d ∷ h)) (sym effect.new) (record {
  slots = slots.same_slots t new s.slots refl refl refl few s.slots.messages (λ shut. absurd (cc (effect.is_open, shut)));
  count = s.count;
  below = s.below;
  fresh = λ c le. let old = s.fresh c le in (else_heard c le ∙ old.0, old.1, old.2);
  shut = s.shut;
  lives = λ c e. let old = s.lives c e in (course_lives c e old, course_given c e old);
  balanced = λ c e i j. s.balanced c e i j ∙ ap (λ (k : Course). heard_pairs i j k + held (slot_for t j) i) (sym (course_same c e));
  of_slot = still_of (lives d) h new s.of_slot refl refl;
  requests = λ n a is. tracked_same (lives d) h new n a (within_lives d h) s is refl refl refl (λ none m. refl) (life_same n a is);
})
  where
    t : TableState
    t = after h

    effect : Lives t d
    effect = effects.lives t d free_one

    new : TableState
    new = record t { lives = insert_entry nat_cmp t.lives d (t.given + 1); given = t.given + 1; begun = t.begun + 1 }

    longer : (es : List (ℕ × ℕ)) → length (insert_entry nat_cmp es d (t.given + 1)) ≤ length es + 1
    longer es = one_longer d (t.given + 1) es

    few : length (insert_entry nat_cmp t.lives d (t.given + 1)) ≤ max_devices
    few = omega (arith, longer t.lives, effect.few)

    else_heard : (c : ℕ) → t.below ≤ c → heard_on c (lives d ∷ h) ≡ heard_on c h
    else_heard c le = not_open_heard (lives d) h s c le

    -- the course goes on by the new life
    on_course : (c : ℕ) → t.channel ≡ Some c → course c (lives d ∷ h) ≡ going_on (course c h) (tidings.begins d)
    on_course c e = course_open (lives d) h c (within_lives d h) e

    course_lives : (c : ℕ) → t.channel ≡ Some c → ((course c h).lives ≡ t.lives) × ((course c h).given ≡ t.given) → (course c (lives d ∷ h)).lives ≡ new.lives
    course_lives c e old = ap (λ (k : Course). k.lives) (on_course c e) ∙ rw (old.0, old.1) refl

    course_given : (c : ℕ) → t.channel ≡ Some c → ((course c h).lives ≡ t.lives) × ((course c h).given ≡ t.given) → (course c (lives d ∷ h)).given ≡ new.given
    course_given c e old = ap (λ (k : Course). k.given) (on_course c e) ∙ rw (old.1) refl

    -- its heads are as they were
    course_same : (c : ℕ) → t.channel ≡ Some c → course c (lives d ∷ h) ≡ record (course c h) { lives = insert_entry nat_cmp (course c h).lives d ((course c h).given + 1); given = (course c h).given + 1 }
    course_same c e = on_course c e

    life_same : (n : ℕ) (a : Accepted) → slice_get (accepted_in h) n ≡ Some a → awaits t (suc n) ≡ true → life_of new a.device ≡ Some a.life
    life_same n a is none =
        let was = (s.requests n a is).alive none in
        let other : a.device ≢ d = λ same. cc (subst (λ (x : ℕ). life_of t x ≡ Some a.life) same was, effect.absent) in
        beside d (t.given + 1) a.device other t.lives ∙ was
