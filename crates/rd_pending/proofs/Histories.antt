-- A table's history says what came of each request.
use Rattle.std.proofs.Common.{◌≡◌, ◌≢◌, ◌∙◌, refl, sym, ap, subst, ℕ, suc, ◌+◌, ◌≤◌, ◌==◌, Bool, true, false, cond, List, [], ◌∷◌, length, take, Some, None, Option, arith, ne_eqb}
use Rattle.std.specs.Prelude.{slice_get}
use Rattle.std.specs.Option.{unwrap_or}
use Rattle.rd_pending.specs.Outcomes.{Accepted, Agrees}
use Rattle.rd_pending.specs.Table.{Slot, TableState, fate_at, new_table, slot_for}
use Rattle.rd_pending.specs.History.{AreOutcomes, Call, Holds, May, accepted_in, after, begins, completes, drops, is_open_on, lives, removes, sends, submits, takes}
use Rattle.rd_pending.proofs.AcceptedLemmas.{split_at}
use Rattle.rd_pending.proofs.CountLemmas.{more_pairs, pairs}
use Rattle.rd_pending.proofs.CourseLemmas.{heard_pairs}
use Rattle.rd_pending.proofs.Effects as effects
use Rattle.rd_pending.proofs.CompleteSteps.{completes_sound}
use Rattle.rd_pending.proofs.EndSteps.{drops_sound, removes_sound, takes_sound}
use Rattle.rd_pending.proofs.Neutral.{channel_kept}
use Rattle.rd_pending.proofs.RequestSteps.{sends_sound, submits_sound}
use Rattle.rd_pending.proofs.Sound.{Sound, alike_before, course, heard_else, heard_none, held, is_open, open_on, outcome_after}
use Rattle.rd_pending.proofs.StepSlots.{new_slots}
use Rattle.rd_pending.proofs.Steps.{begins_sound, lives_sound}

new_sound : Sound new_table []
new_sound = record {
  slots = new_slots;
  count = refl;
  below = λ c e. absurd (cc e);
  fresh = λ c le. (refl, refl, λ d i. refl);
  shut = λ c e. absurd (cc e);
  lives = λ c e. absurd (cc e);
  balanced = λ c e. absurd (cc e);
  of_slot = λ id slot e. absurd (cc e);
  requests = λ n a e. absurd (cc e);
}

pub sound : (h : List Call) → Holds h → Sound (after h) h
sound [] holds = new_sound
sound (begins c ∷ h) holds = begins_sound c h (sound h holds.1) holds.0.0 holds.0.1
sound (lives d ∷ h) holds = lives_sound d h (sound h holds.1) holds.0
sound (removes d ∷ h) holds = removes_sound d h (sound h holds.1) holds.0.0 holds.0.1
sound (takes number ∷ h) holds = takes_sound number h (sound h holds.1) holds.0
sound (submits x named o ∷ h) holds = submits_sound x named o h (sound h holds.1) holds.0.0.fits holds.0.1
sound (completes head bytes ∷ h) holds = completes_sound head bytes h (sound h holds.1) holds.0.0 holds.0.1 holds.0.2
sound (sends ∷ h) holds = sends_sound h (sound h holds.1)
sound (drops ∷ h) holds = drops_sound holds.0.0 h (sound h holds.1) holds.0.1

pub outcomes : (h : List Call) → Holds h → AreOutcomes h
outcomes h holds earlier a later parts =
    let s = sound h holds in
    let at = split_at earlier later a in
    let is : slice_get (accepted_in h) (length earlier) ≡ Some a = ap (λ (xs : List Accepted). slice_get xs (length earlier)) parts ∙ at.0 in
    let before : take (length earlier) (accepted_in h) ≡ earlier = ap (λ (xs : List Accepted). take (length earlier) xs) parts ∙ at.1 in
    subst (λ (xs : List Accepted). Agrees (fate_at (after h) (suc (length earlier))) (outcome_after (alike_before xs a) a h)) before (s.requests (length earlier) a is).agrees

-- ---- channels that aren't open

not_on : (t : TableState) (c : ℕ) → t.channel ≢ Some c → is_open_on t c ≡ false
not_on t c shut = go (is_open_on t c) refl
  where
    go : (b : Bool) → is_open_on t c ≡ b → b ≡ false
    go true e = absurd (shut (is_open t c e))
    go false e = refl

-- the requests and the course of a channel that isn't open stay
stays_shut : (call : Call) (h : List Call) → May (after h) call → (c : ℕ) → (after (call ∷ h)).channel ≢ Some c → (d i : ℕ)
    → (pairs c d i (accepted_in (call ∷ h)) ≡ pairs c d i (accepted_in h)) × (course c (call ∷ h) ≡ course c h)
stays_shut (begins c') h may c shut d i =
    let new : (after (begins c' ∷ h)).channel ≡ Some c' = rw may.0 refl in
    let other : (c' == c) ≡ false = ne_eqb c' c (λ same. shut (new ∙ ap Some same)) in
    (refl, rw (other, heard_none (begins c') h c refl) refl)
stays_shut (lives e) h may c shut d i = (refl, rw (heard_else (lives e) h c (not_on (after h) c (λ is. shut (channel_kept (lives e) tt (after h) ∙ is)))) refl)
stays_shut (removes e) h may c shut d i = (refl, rw (heard_else (removes e) h c (not_on (after h) c (λ is. shut (channel_kept (removes e) tt (after h) ∙ is)))) refl)
stays_shut (takes number) h may c shut d i = (refl, rw (heard_none (takes number) h c refl) refl)
stays_shut (submits x named o) h may c shut d i =
    let effect = effects.submits (after h) x named o may.1 in
    let new : (after (submits x named o ∷ h)).channel ≡ Some effect.channel = ap (λ (t : TableState). t.channel) effect.new ∙ effect.is_open in
    let other : effect.channel ≢ c = λ same. shut (new ∙ ap Some same) in
    let apart : ((unwrap_or (after h).channel 0) == c) ≡ false = ne_eqb (unwrap_or (after h).channel 0) c (λ same. other (sym (ap (λ (y : Option ℕ). unwrap_or y 0) effect.is_open) ∙ same)) in
    (more_pairs c d i (accepted_in h) _ ∙ rw apart (plus_none (pairs c d i (accepted_in h))), rw (heard_none (submits x named o) h c refl) refl)
  where
    plus_none : (n : ℕ) → n + 0 ≡ n
    plus_none n = omega arith
stays_shut (completes head bytes) h may c shut d i =
    (refl, rw (heard_else (completes head bytes) h c (not_on (after h) c (λ is. shut (channel_kept (completes head bytes) tt (after h) ∙ is)))) refl)
stays_shut sends h may c shut d i = (refl, rw (heard_none sends h c refl) refl)
stays_shut drops h may c shut d i = (refl, rw (heard_none drops h c refl) refl)

-- On any channel the requests with a pair are at most one more than the completions heard with it.
pub past : (h : List Call) → Holds h → (c d i : ℕ) → pairs c d i (accepted_in h) ≤ heard_pairs d i (course c h) + 1
past [] holds c d i = omega arith
past (call ∷ h) holds c d i = go (past h holds.1 c d i) (is_open_on (after (call ∷ h)) c) refl
  where
    one : (o : Option Slot) → held o d ≤ 1
    one None = omega arith
    one (Some x) = by (x.device == d)
      where
        by : (b : Bool) → cond b 1 0 ≤ 1
        by true = omega arith
        by false = omega arith

    go : pairs c d i (accepted_in h) ≤ heard_pairs d i (course c h) + 1 → (b : Bool) → is_open_on (after (call ∷ h)) c ≡ b
        → pairs c d i (accepted_in (call ∷ h)) ≤ heard_pairs d i (course c (call ∷ h)) + 1
    go old true e =
        let even = (sound (call ∷ h) holds).balanced c (is_open (after (call ∷ h)) c e) d i in
        omega (arith, even, one (slot_for (after (call ∷ h)) i))
    go old false e =
        let same = stays_shut call h holds.0 c (λ is. cc (open_on (after (call ∷ h)) c is, e)) d i in
        rw (same.0, same.1) old
