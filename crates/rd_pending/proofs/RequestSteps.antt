-- A request that is accepted, and a message that is handed out, keep what holds of a table and its history.
use Rattle.std.proofs.Common.{◌≡◌, ◌≢◌, ◌⊎◌, ◌∙◌, refl, sym, ap, subst, inl, inr, ℕ, suc, ◌+◌, ◌<◌, ◌≤◌, ◌==◌, ◌&&◌, Bool, true, false, cond, List, [], ◌∷◌, ◌++◌, length, take, Some, None, Option, arith, eq-eqb, length-append, ne_eqb}
use Rattle.std.specs.Prelude.{slice_get, All}
use Rattle.std.specs.List.{AllByRecursion}
use Rattle.std.specs.Option.{option_map, unwrap_or}
use Rattle.std.specs.Ordering.{nat_cmp}
use Rattle.std.specs.Map.{keys_of, lookup}
use Rattle.std.specs.BTreeMap.{insert_entry, is_at}
use Rattle.std.proofs.lemmas.List.Elements.{All-nil, All-rest}
use Rattle.std.proofs.lemmas.Option.{slice_get_within}
use Rattle.std.proofs.lemmas.Bool.{cases_eq}
use Rattle.rd_chunk.specs.Carrier.{IsMessage}
use Rattle.rd_irp.specs.declared.op.Op.{Op}
use Rattle.rd_irp.specs.Fits.{kind_of, Fits}
use Rattle.rd_pending.specs.declared.calls.Target.{Target}
use Rattle.rd_pending.specs.Outcomes.{Accepted, Agrees, course_from, ended_in, is_accepted_as}
use Rattle.rd_pending.specs.Table.{Fate, Slot, TableState, Untaken, accept, awaited, awaits, device_in, fate_at, max_slots, next_id, slot_for, submit_refusal, untaken_at}
use Rattle.rd_pending.specs.History.{Call, accepted_in, accepted_of, after, heard_on, lives_before, sends, submits}
use Rattle.rd_pending.proofs.CountLemmas.{more_pairs, pairs}
use Rattle.rd_pending.proofs.CourseLemmas.{course_begins, heard_pairs, none_yet}
use Rattle.rd_pending.proofs.Effects as effects
use Rattle.rd_pending.proofs.Effects.{Submits}
use Rattle.rd_pending.proofs.FateLemmas.{fate_of, is_waiting}
use Rattle.rd_pending.proofs.MapLemmas.{beside, free, free_within, inserted}
use Rattle.rd_pending.proofs.SlotLemmas as slots
use Rattle.rd_pending.proofs.AcceptedLemmas.{got_before, got_cases, got_last, take_more, take_own}
use Rattle.rd_pending.proofs.Sound.{IsSlotOf, IsTracked, IsWithin, Sound, alike_before, course, heard_none, held, outcome_after, outcome_quiet, own_slot}
use Rattle.rd_pending.proofs.Steps.{still_of, tracked_same}

within_submits : (x : ℕ) (named : Target) (o : Op) (h : List Call) → IsWithin (submits x named o) h
within_submits x named o h = record { lives = λ c. refl; ended = λ c. refl }

pub all_above : (es : List (ℕ × Slot)) → AllByRecursion (λ (k : ℕ). 0 ≤ k) (keys_of es)
all_above [] = tt
all_above (e ∷ es) = (omega arith, all_above es)

pub submits_sound : (x : ℕ) (named : Target) (o : Op) (h : List Call) → Sound (after h) h → Fits o → submit_refusal (after h) named ≡ None
    → Sound (after (submits x named o ∷ h)) (submits x named o ∷ h)
submits_sound x named o h s fits free_one = subst (λ (y : TableState). Sound y (submits x named o ∷ h)) (sym effect.new) (record {
  slots = slots.accepted_slots t named o c0 s.slots fits effect.is_open is_free low;
  count = omega (arith, s.count, length-append {A = Accepted} (accepted_in h) (own ∷ []));
  below = s.below;
  fresh = λ c le. let old = s.fresh c le in (same_heard c ∙ old.0, old.1, λ d i. more c d i ∙ ap (λ (b : Bool). pairs c d i (accepted_in h) + cond b 1 0) (other_channel c d i le) ∙ zero_more (pairs c d i (accepted_in h)) (old.2 d i));
  shut = s.shut;
  lives = λ c e. let old = s.lives c e in rw (same_heard c) old;
  balanced = λ c e d i. more c d i ∙ balanced_new c e d i;
  of_slot = λ j y e. placed j y e (cases_eq j id);
  requests = λ n a is. elim (got_cases (accepted_in h) n own a is) [
    | inl old ↦ tracked_old n a old
    | inr (last, same) ↦ subst (λ (m : ℕ). IsTracked new (submits x named o ∷ h) m a) (sym last) (subst (IsTracked new (submits x named o ∷ h) (length (accepted_in h))) (sym same) tracked_new)
  ];
})
  where
    t : TableState
    t = after h

    effect : Submits t x named o
    effect = effects.submits t x named o free_one

    c0 : ℕ
    c0 = effect.channel

    id : ℕ
    id = next_id t

    free_both : (lookup (is_at (nat_cmp id)) t.slots ≡ None) × (0 ≤ id)
    free_both = free 0 t.slots s.slots.rising (all_above t.slots)

    is_free : lookup (is_at (nat_cmp id)) t.slots ≡ None
    is_free = free_both.0

    low : id < max_slots
    low = omega (arith, free_within 0 t.slots, effect.few)

    slot : Slot
    slot = record { number = suc t.count; device = device_in named; kind = kind_of o; dead = false }

    own : Accepted
    own = accepted_of t x named o

    kept_own : Untaken
    kept_own = record { device = own.device; life = own.life; fate = awaited }

    new : TableState
    new = accept t named o

    at_own : untaken_at new (suc t.count) ≡ Some kept_own
    at_own = inserted (suc t.count) kept_own t.untaken

    at_else : (n : ℕ) → n ≢ suc t.count → untaken_at new n ≡ untaken_at t n
    at_else n other = beside (suc t.count) kept_own n other t.untaken

    own_channel : own.channel ≡ c0
    own_channel = ap (λ (y : Option ℕ). unwrap_or y 0) effect.is_open

    own_open : t.channel ≡ Some own.channel
    own_open = effect.is_open ∙ ap Some (sym own_channel)

    own_life : own.life ≡ effect.life
    own_life = ap (λ (y : Option ℕ). unwrap_or y 0) effect.present

    same_heard : (c : ℕ) → heard_on c (submits x named o ∷ h) ≡ heard_on c h
    same_heard c = heard_none (submits x named o) h c refl

    more : (c d i : ℕ) → pairs c d i (accepted_in h ++ own ∷ []) ≡ pairs c d i (accepted_in h) + cond (is_accepted_as c d i own) 1 0
    more c d i = more_pairs c d i (accepted_in h) own

    zero_more : (n : ℕ) → n ≡ 0 → n + 0 ≡ 0
    zero_more n e = omega (arith, e)

    placed : (j : ℕ) (y : Slot) → slot_for new j ≡ Some y → (j ≡ id) ⊎ (j ≢ id) → IsSlotOf new (submits x named o ∷ h) j y
    placed j y e (inl same) =
        let at : slot_for new j ≡ Some slot = subst (λ (k : ℕ). slot_for new k ≡ Some slot) (sym same) (inserted id slot t.slots) in
        let is : slot ≡ y = cc (at, e) in
        subst (IsSlotOf new (submits x named o ∷ h) j) is (record {
          before = length (accepted_in h);
          numbered = ap suc s.count;
          request = own;
          is = got_last (accepted_in h) own;
          channel = own_open;
          device = refl;
          own_id = sym same;
          kind = refl;
        })
    placed j y e (inr other) =
        let old = s.of_slot j y (sym (beside id slot j other t.slots) ∙ e) in
        record { before = old.before; numbered = old.numbered; request = old.request; is = got_before (accepted_in h) (own ∷ []) old.before old.request old.is; channel = old.channel; device = old.device; own_id = old.own_id; kind = old.kind }

    other_channel : (c d i : ℕ) → t.below ≤ c → is_accepted_as c d i own ≡ false
    other_channel c d i le =
        let under : c0 < t.below = s.below c0 effect.is_open in
        let apart : (own.channel == c) ≡ false = ne_eqb own.channel c (λ same. omega (arith, under, le, same, own_channel)) in
        rw apart refl

    balanced_new : (c : ℕ) → t.channel ≡ Some c → (d i : ℕ) → pairs c d i (accepted_in h) + cond (is_accepted_as c d i own) 1 0 ≡ heard_pairs d i (course c (submits x named o ∷ h)) + held (slot_for new i) d
    balanced_new c e d i = rw (same_heard c, s.balanced c e d i) (elim (cases_eq i id) [
      | inl same ↦
          let there : slot_for new i ≡ Some slot = subst (λ (k : ℕ). lookup (is_at (nat_cmp k)) (insert_entry nat_cmp t.slots id slot) ≡ Some slot) (sym same) (inserted id slot t.slots) in
          let none : slot_for t i ≡ None = subst (λ (k : ℕ). lookup (is_at (nat_cmp k)) t.slots ≡ None) (sym same) is_free in
          rw (there, none, test_here c e d i same) (go (device_in named == d) (heard_pairs d i (course c h)))
      | inr other ↦ rw (beside id slot i other t.slots, test_else c d i other) (omega arith)
    ])
      where
        go : (b : Bool) (n : ℕ) → n + 0 + cond b 1 0 ≡ n + cond b 1 0
        go true n = omega arith
        go false n = omega arith

        test_here : (c : ℕ) → t.channel ≡ Some c → (d i : ℕ) → i ≡ id → is_accepted_as c d i own ≡ (device_in named == d)
        test_here c e d i same =
            let channels : c0 ≡ c = cc (effect.is_open, e) in
            rw (eq-eqb own.channel c (own_channel ∙ channels), eq-eqb id i (sym same)) (both (device_in named == d))
          where
            both : (b : Bool) → (true && (b && true)) ≡ b
            both true = refl
            both false = refl

        test_else : (c d i : ℕ) → i ≢ id → is_accepted_as c d i own ≡ false
        test_else c d i other = rw (ne_eqb id i (λ same. other (sym same))) (none (own.channel == c) (device_in named == d))
          where
            none : (a b : Bool) → (a && (b && false)) ≡ false
            none true true = refl
            none true false = refl
            none false b = refl

    -- an earlier request
    tracked_old : (n : ℕ) (a : Accepted) → slice_get (accepted_in h) n ≡ Some a → IsTracked new (submits x named o ∷ h) n a
    tracked_old n a is =
        let was = s.requests n a is in
        let m_same : alike_before (take n (accepted_in h ++ own ∷ [])) a ≡ alike_before (take n (accepted_in h)) a = ap (λ (xs : List Accepted). alike_before xs a) (take_more n (accepted_in h) (own ∷ []) a is) in
        let same : untaken_at new (suc n) ≡ untaken_at t (suc n) = at_else (suc n) (λ there. omega (arith, there, s.count, slice_get_within (accepted_in h) n a is)) in
        let same_waits : awaits new (suc n) ≡ awaits t (suc n) = ap (λ (u : Option Untaken). is_waiting (option_map fate_of u)) same in
        record {
          below = was.below;
          agrees = subst (λ (m : ℕ). Agrees (fate_at new (suc n)) (outcome_after m a (submits x named o ∷ h))) (sym m_same)
              (subst (λ (f : Option Fate). Agrees f (outcome_after (alike_before (take n (accepted_in h)) a) a (submits x named o ∷ h))) (sym (ap (option_map fate_of) same))
              (subst (Agrees (fate_at t (suc n))) (sym (outcome_quiet (submits x named o) h (alike_before (take n (accepted_in h)) a) a (within_submits x named o h) refl)) was.agrees));
          named = λ u e. was.named u (sym same ∙ e);
          alive = λ none. was.alive (sym same_waits ∙ none);
          last = λ none.
              let waits : awaits t (suc n) ≡ true = sym same_waits ∙ none in
              let other : a.id ≢ id = λ there. cc (subst (λ (k : ℕ). lookup (is_at (nat_cmp k)) t.slots ≡ Some (record { number = suc n; device = a.device; kind = kind_of a.op; dead = false })) there (own_slot t h n a s is waits).1, is_free) in
              let apart : is_accepted_as a.channel a.device a.id own ≡ false = rw (ne_eqb id a.id (λ there. other (sym there))) (no_pair (own.channel == a.channel) (device_in named == a.device)) in
              more a.channel a.device a.id ∙ ap (λ (b : Bool). alike_before (accepted_in h) a + cond b 1 0) apart ∙ plus_none (alike_before (accepted_in h) a) ∙ was.last waits ∙ ap suc (sym m_same);
        }
      where
        no_pair : (a b : Bool) → (a && (b && false)) ≡ false
        no_pair true true = refl
        no_pair true false = refl
        no_pair false b = refl

        plus_none : (n : ℕ) → n + 0 ≡ n
        plus_none n = omega arith

    -- the request itself: nothing that was heard before ends it
    tracked_new : IsTracked new (submits x named o ∷ h) (length (accepted_in h)) own
    tracked_new = record {
      below = let under : c0 < t.below = s.below c0 effect.is_open in omega (arith, under, own_channel);
      agrees = subst (λ (f : Option Fate). Agrees f (outcome_after (alike_before (take (length (accepted_in h)) (accepted_in h ++ own ∷ [])) own) own (submits x named o ∷ h))) (sym (ap (option_map fate_of) at_place))
          (subst (λ (m : ℕ). outcome_after m own (submits x named o ∷ h) ≡ None) (sym m_is) (quiet ∙ nothing));
      named = λ u e. let is : kept_own ≡ u = cc (at_place, e) in (ap (λ (v : Untaken). v.device) (sym is), ap (λ (v : Untaken). v.life) (sym is));
      alive = λ none. effect.present ∙ ap Some (sym own_life);
      last = λ none. more own.channel own.device own.id ∙ ap (λ (b : Bool). m + cond b 1 0) own_pair ∙ plus_one m ∙ ap suc (sym m_is);
    }
      where
        at_place : untaken_at new (suc (length (accepted_in h))) ≡ Some kept_own
        at_place = subst (λ (k : ℕ). untaken_at new (suc k) ≡ Some kept_own) s.count at_own

        m : ℕ
        m = alike_before (accepted_in h) own

        m_is : alike_before (take (length (accepted_in h)) (accepted_in h ++ own ∷ [])) own ≡ m
        m_is = ap (λ (xs : List Accepted). alike_before xs own) (take_own (accepted_in h) own)

        plus_one : (n : ℕ) → n + 1 ≡ suc n
        plus_one n = omega arith

        own_pair : is_accepted_as own.channel own.device own.id own ≡ true
        own_pair = rw (eq-eqb own.channel own.channel refl, eq-eqb own.device own.device refl, eq-eqb id id refl) refl

        quiet : outcome_after m own (submits x named o ∷ h) ≡ outcome_after m own h
        quiet = outcome_quiet (submits x named o) h m own (within_submits x named o h) refl

        few : heard_pairs own.device own.id (course own.channel h) ≤ m
        few =
            let even : m ≡ heard_pairs own.device own.id (course own.channel h) + held (slot_for t id) own.device = s.balanced own.channel own_open own.device own.id in
            let none : held (slot_for t id) own.device ≡ 0 = rw is_free refl in
            omega (arith, even, none)

        goes_on : lookup (is_at (nat_cmp own.device)) (course own.channel h).lives ≡ Some own.life
        goes_on = ap (λ (es : List (ℕ × ℕ)). lookup (is_at (nat_cmp own.device)) es) (s.lives own.channel own_open).0 ∙ effect.present ∙ ap Some (sym own_life)

        ends_none : ended_in own m (course_from (lives_before own.channel h)) (heard_on own.channel h) ≡ None
        ends_none = none_yet own m (course_from (lives_before own.channel h)) (heard_on own.channel h) (course_begins (lives_before own.channel h)) few goes_on

        nothing : outcome_after m own h ≡ None
        nothing = rw (ends_none, s.shut own.channel own_open) refl

-- ---- a message is handed out

pub sends_sound : (h : List Call) → Sound (after h) h → Sound (after (sends ∷ h)) (sends ∷ h)
sends_sound h s = go t.outbox refl
  where
    t : TableState
    t = after h

    same_heard : (c : ℕ) → heard_on c (sends ∷ h) ≡ heard_on c h
    same_heard c = heard_none sends h c refl

    within_sends : IsWithin sends h
    within_sends = record { lives = λ c. refl; ended = λ c. refl }

    sent : (messages : List (List ℕ)) → All IsMessage messages → (t.channel ≡ None → messages ≡ []) → Sound (record t { outbox = messages }) (sends ∷ h)
    sent messages fit shut = record {
      slots = slots.same_slots t (record t { outbox = messages }) s.slots refl refl refl s.slots.few_lives fit (λ closed. let was = s.slots.closed closed in (was.0, was.1, shut closed, was.3));
      count = s.count;
      below = s.below;
      fresh = λ c le. let old = s.fresh c le in (same_heard c ∙ old.0, old.1, old.2);
      shut = s.shut;
      lives = λ c e. rw (same_heard c) (s.lives c e);
      balanced = λ c e d i. rw (same_heard c) (s.balanced c e d i);
      of_slot = still_of sends h (record t { outbox = messages }) s.of_slot refl refl;
      requests = λ n a is. tracked_same sends h (record t { outbox = messages }) n a within_sends s is refl refl refl (λ none m. refl) (s.requests n a is).alive;
    }

    go : (outbox : List (List ℕ)) → t.outbox ≡ outbox → Sound (after (sends ∷ h)) (sends ∷ h)
    go [] e = subst (λ (y : TableState). Sound y (sends ∷ h)) (sym none) (sent [] (All-nil IsMessage) (λ closed. refl))
      where
        none : after (sends ∷ h) ≡ record t { outbox = [] }
        none = rw e refl
    go (message ∷ messages) e = subst (λ (y : TableState). Sound y (sends ∷ h)) (sym one) (sent messages (All-rest IsMessage message messages t.outbox e s.slots.messages) (λ closed. absurd (cc (e, (s.slots.closed closed).2))))
      where
        one : after (sends ∷ h) ≡ record t { outbox = messages }
        one = rw e refl
