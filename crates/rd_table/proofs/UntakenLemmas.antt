-- What the calls of a table make of the requests whose outcomes weren't handed out.
use Rattle.std.proofs.Common.{◌≡◌, ◌∙◌, ◌⊎◌, refl, sym, ap, subst, inl, inr, ℕ, suc, ◌+◌, ◌<◌, ◌≤◌, ◌==◌, Bool, true, false, List, [], ◌∷◌, ◌++◌, length, Some, None, Option, arith, eqb-true}
use Rattle.std.specs.Prelude.{is_some}
use Rattle.std.specs.Option.{option_map}
use Rattle.std.specs.Ordering.{nat_cmp}
use Rattle.std.specs.Map.{lookup, set_value}
use Rattle.std.specs.BTreeMap.{is_at}
use Rattle.std.proofs.lemmas.Bool.{cases_Bool, eqb-false}
use Rattle.std.proofs.lemmas.List.{length-append}
use Rattle.rd_base.specs.declared.journal.Cause.{Cause}
use Rattle.rd_base.specs.declared.journal.Cause.TheVariants.{Dropped, Removed}
use Rattle.rd_pending.specs.History.{Call, Holds, accepted_in, after, begins, completes, drops, lives, removes, sends, submits, takes}
use Rattle.rd_pending.specs.Table.{Fate, TableState, Untaken, freed, losing, send, untaken_at, with_fate}
use Rattle.rd_pending.proofs.AcceptedLemmas.{accepted_since}
use Rattle.rd_pending.proofs.Effects as effects
use Rattle.rd_pending.proofs.FateLemmas.{fate_set, lost, lost_at}
use Rattle.rd_pending.proofs.Histories.{sound}
use Rattle.rd_pending.proofs.MapLemmas.{beside, gone, inserted, kept, set_beside, set_here}

none_is : (o : Option Untaken) → is_some o ≡ false → o ≡ None
none_is None e = refl
none_is (Some u) e = absurd (cc e)

-- whether the table has a request that wasn't handed out
abbrev pub has : TableState → ℕ → Bool
has t n = is_some (untaken_at t n)

pub has_none : (t : TableState) (n : ℕ) → has t n ≡ false → untaken_at t n ≡ None
has_none t n e = none_is (untaken_at t n) e

lost_has : (test : Untaken → Bool) (cause : Cause) (n : ℕ) (es : List (ℕ × Untaken))
    → is_some (lookup (is_at (nat_cmp n)) (losing test cause es)) ≡ is_some (lookup (is_at (nat_cmp n)) es)
lost_has test cause n es = ap is_some (lost_at test cause n es) ∙ go (lookup (is_at (nat_cmp n)) es)
  where
    go : (o : Option Untaken) → is_some (option_map (lost test cause) o) ≡ is_some o
    go None = refl
    go (Some u) = refl

fated_has : (t : TableState) (number n : ℕ) (f : Fate) → has (with_fate t number f) n ≡ has t n
fated_has t number n f = go (untaken_at t number) refl
  where
    here : (u : Untaken) → untaken_at t number ≡ Some u → (b : Bool) → (n == number) ≡ b
        → is_some (lookup (is_at (nat_cmp n)) (set_value (is_at (nat_cmp number)) t.untaken (record u { fate = f }))) ≡ has t n
    here u e true same =
        let is : n ≡ number = eqb-true n number same in
        subst (λ (k : ℕ). is_some (lookup (is_at (nat_cmp k)) (set_value (is_at (nat_cmp number)) t.untaken (record u { fate = f }))) ≡ has t k) (sym is)
        (ap is_some (set_here number (record u { fate = f }) u t.untaken e) ∙ sym (ap is_some e))
    here u e false other = ap is_some (set_beside number n (record u { fate = f }) (λ same. eqb-false n number other same) t.untaken)

    go : (o : Option Untaken) → untaken_at t number ≡ o → has (with_fate t number f) n ≡ has t n
    go None e = rw e refl
    go (Some u) e = ap (λ (s : TableState). has s n) (fate_set t number u f e) ∙ here u e (n == number) refl

sent_has : (t : TableState) (n : ℕ) → has (send t).0 n ≡ has t n
sent_has t n = go t.outbox refl
  where
    go : (o : List (List ℕ)) → t.outbox ≡ o → has (send t).0 n ≡ has t n
    go [] e = rw e refl
    go (message ∷ messages) e = rw e refl

-- A call keeps each number that was accepted as it is, there or handed out, but for a `take` that hands it out.
abbrev pub KeepsOrHands : Call → List Call → ℕ → Type 0
KeepsOrHands call h n = (has (after (call ∷ h)) n ≡ has (after h) n) ⊎ ((call ≡ takes n) × (untaken_at (after (call ∷ h)) n ≡ None))

pub keeps_or_hands : (call : Call) (h : List Call) (n : ℕ) → Holds (call ∷ h) → n ≤ (after h).count → KeepsOrHands call h n
keeps_or_hands (begins c) h n holds low = inl (rw holds.0.0 refl)
keeps_or_hands (lives d) h n holds low = inl (ap (λ (t : TableState). has t n) (effects.lives (after h) d holds.0).new)
keeps_or_hands (removes d) h n holds low = elim (effects.removes (after h) d) [
  | inl absent ↦ inl (ap (λ (t : TableState). has t n) absent.same)
  | inr removed ↦ inl (ap (λ (t : TableState). has t n) removed.new ∙ lost_has (λ (u : Untaken). u.device == d) Removed n (after h).untaken)
]
keeps_or_hands (takes k) h n holds low =
    let effect = effects.takes (after h) k holds.0 in
    let s = sound h holds.1 in
    elim (cases_Bool (n == k)) [
      | inl same ↦
          let is : n ≡ k = eqb-true n k same in
          inr (ap takes (sym is), subst (λ (j : ℕ). untaken_at (after (takes k ∷ h)) j ≡ None) (sym is) (ap (λ (t : TableState). untaken_at t k) effect.new ∙ gone k (after h).untaken s.slots.untaken_rising))
      | inr other ↦ inl (ap (λ (t : TableState). has t n) effect.new ∙ ap is_some (kept k n (λ same. eqb-false n k other same) (after h).untaken))
    ]
keeps_or_hands (submits x named o) h n holds low =
    let effect = effects.submits (after h) x named o holds.0.1 in
    inl (ap (λ (t : TableState). has t n) effect.new ∙ ap is_some (beside (suc (after h).count) _ n (λ same. omega (arith, low, same)) (after h).untaken))
keeps_or_hands (completes head bytes) h n holds low =
    let effect = effects.completes (after h) head bytes holds.0.2 in
    elim effect.effect [
      | inl late ↦ inl (ap (λ (t : TableState). has t n) late.new)
      | inr given ↦ inl (ap (λ (t : TableState). has t n) given.new ∙ fated_has (freed (after h) head.completion) effect.slot.number n _)
    ]
keeps_or_hands sends h n holds low = inl (sent_has (after h) n)
keeps_or_hands drops h n holds low = inl (lost_has (λ (u : Untaken). true) Dropped n (after h).untaken)

-- ---- how many were accepted

pub count_grows : (later h : List Call) → Holds (later ++ h) → Holds h → (after h).count ≤ (after (later ++ h)).count
count_grows later h all holds =
    let (new, since) = accepted_since later h in
    let more : length (accepted_in (later ++ h)) ≡ length (accepted_in h) + length new = ap length since ∙ length-append (accepted_in h) new in
    omega (arith, (sound h holds).count, (sound (later ++ h) all).count, more)

-- a number that a call accepts is there
pub accepted_has : (call : Call) (h : List Call) (n : ℕ) → Holds (call ∷ h) → (after h).count < n → n ≤ (after (call ∷ h)).count → has (after (call ∷ h)) n ≡ true
accepted_has (submits x named o) h n holds over low =
    let effect = effects.submits (after h) x named o holds.0.1 in
    let one : (after (submits x named o ∷ h)).count ≡ suc (after h).count = ap (λ (t : TableState). t.count) effect.new in
    let is : n ≡ suc (after h).count = omega (arith, over, low, one) in
    subst (λ (k : ℕ). has (after (submits x named o ∷ h)) k ≡ true) (sym is)
    (ap (λ (t : TableState). has t (suc (after h).count)) effect.new ∙ ap is_some (inserted (suc (after h).count) _ (after h).untaken))
accepted_has call h n holds over low = absurd (omega (arith, over, low, (sound h holds.1).count, (sound (call ∷ h) holds).count))
