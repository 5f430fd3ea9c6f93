-- The requests of a channel have their places there as indices.
use Rattle.std.proofs.Common.{◌≡◌, ◌∙◌, refl, sym, ap, subst, ℕ, ◌+◌, ◌<◌, ◌==◌, Bool, true, false, cond, List, [], ◌∷◌, ◌++◌, length, take, Some, Option, arith, eq-eqb, ne_eqb, eqb-true}
use Rattle.std.specs.Prelude.{slice_get}
use Rattle.std.specs.Option.{unwrap_or}
use Rattle.rd_pending.specs.Outcomes.{Accepted}
use Rattle.rd_pending.specs.Table.{TableState}
use Rattle.rd_pending.specs.History.{Call, Holds, accepted_in, accepted_of, after, begins, completes, drops, lives, removes, sends, submits, takes}
use Rattle.rd_pending.proofs.AcceptedLemmas.{split_of}
use Rattle.rd_pending.proofs.Effects as effects
use Rattle.rd_pending.proofs.Histories.{sound}
use Rattle.rd_pending.proofs.Sound.{Sound}
use Rattle.rd_pending.proofs.Tame.{Tame, newest, newest_more, newest_none, newest_split, tame_one}

-- each has as its index how many are before it
abbrev pub Indexed : List Accepted → Type 0
Indexed [] = Unit {0}
Indexed (a ∷ others) = (a.index ≡ length others) × Indexed others

-- and the next one on the open channel has how many there are
pub record IsIndexed (h : List Call) (c : ℕ) : Type 0 where
  pub indexed : Indexed (newest c (accepted_in h))
  pub count : (after h).channel ≡ Some c → (after h).asked ≡ length (newest c (accepted_in h))

-- no request was accepted on a channel that didn't begin
pub none_before : (t : TableState) (h : List Call) (c : ℕ) → Sound t h → (t.below < c + 1) → newest c (accepted_in h) ≡ []
none_before t h c s above = newest_none c (accepted_in h) (λ n a e.
    let low : a.channel < t.below = (s.requests n a e).below in
    ne_eqb a.channel c (λ is. omega (arith, low, above, is)))

tamed : (x : Call) (h : List Call) (c : ℕ) → Tame (after h) (after (x ∷ h)) × (accepted_in (x ∷ h) ≡ accepted_in h) → IsIndexed h c → IsIndexed (x ∷ h) c
tamed x h c (tame, same) old = record {
  indexed = subst (λ (xs : List Accepted). Indexed (newest c xs)) (sym same) old.indexed;
  count = λ e. tame.asked ∙ old.count (sym tame.channel ∙ e) ∙ ap (λ (xs : List Accepted). length (newest c xs)) (sym same);
}

submitted : (x : Call) (h : List Call) (c : ℕ) (own : Accepted) (channel : ℕ) → (after h).channel ≡ Some channel → own.channel ≡ channel → own.index ≡ (after h).asked
    → (after (x ∷ h)).channel ≡ (after h).channel → (after (x ∷ h)).asked ≡ (after h).asked + 1 → accepted_in (x ∷ h) ≡ accepted_in h ++ own ∷ [] → IsIndexed h c → IsIndexed (x ∷ h) c
submitted x h c own channel is_open own_channel index same_channel asked more old = go (own.channel == c) refl
  where
    there : (b : Bool) → (own.channel == c) ≡ b → newest c (accepted_in (x ∷ h)) ≡ cond b (own ∷ []) [] ++ newest c (accepted_in h)
    there b e = ap (newest c) more ∙ newest_more c (accepted_in h) own ∙ ap (λ (b : Bool). cond b (own ∷ []) [] ++ newest c (accepted_in h)) e

    go : (b : Bool) → (own.channel == c) ≡ b → IsIndexed (x ∷ h) c
    go false e = record {
      indexed = rw (there false e) old.indexed;
      count = λ is. let same : channel ≡ c = cc (same_channel, is_open, is) in absurd (cc (e, eq-eqb own.channel c (own_channel ∙ same)));
    }
    go true e =
        let here : (after h).channel ≡ Some c = is_open ∙ ap Some (sym own_channel ∙ eqb-true own.channel c e) in
        record {
          indexed = rw (there true e) (index ∙ old.count here, old.indexed);
          count = λ is. let n : (after h).asked ≡ length (newest c (accepted_in h)) = old.count here in rw (there true e) (omega (arith, asked, n));
        }

sent : (h : List Call) (c : ℕ) → IsIndexed h c → IsIndexed (sends ∷ h) c
sent h c old = go (after h).outbox refl
  where
    go : (o : List (List ℕ)) → (after h).outbox ≡ o → IsIndexed (sends ∷ h) c
    go [] e = record { indexed = old.indexed; count = rw e old.count }
    go (m ∷ ms) e = record { indexed = old.indexed; count = rw e old.count }

pub indexed : (h : List Call) → Holds h → (c : ℕ) → IsIndexed h c
indexed [] holds c = record { indexed = tt; count = λ e. absurd (cc e) }
indexed (begins c' ∷ h) holds c = record {
  indexed = (indexed h holds.1 c).indexed;
  count = λ e.
      let new : (after (begins c' ∷ h)).channel ≡ Some c' = rw holds.0.0 refl in
      let same : c' ≡ c = cc (new, e) in
      let none : newest c (accepted_in h) ≡ [] = none_before (after h) h c (sound h holds.1) (omega (arith, holds.0.1, same)) in
      let zero_asked : (after (begins c' ∷ h)).asked ≡ 0 = rw holds.0.0 refl in
      zero_asked ∙ sym (ap length none);
}
indexed (lives d ∷ h) holds c = tamed (lives d) h c (tame_one (lives d) h tt) (indexed h holds.1 c)
indexed (removes d ∷ h) holds c = tamed (removes d) h c (tame_one (removes d) h tt) (indexed h holds.1 c)
indexed (takes number ∷ h) holds c = tamed (takes number) h c (tame_one (takes number) h tt) (indexed h holds.1 c)
indexed (completes head bytes ∷ h) holds c = tamed (completes head bytes) h c (tame_one (completes head bytes) h tt) (indexed h holds.1 c)
indexed (submits x named o ∷ h) holds c =
    let effect = effects.submits (after h) x named o holds.0.1 in
    submitted (submits x named o) h c (accepted_of (after h) x named o) effect.channel effect.is_open (ap (λ (y : Option ℕ). unwrap_or y 0) effect.is_open) refl
    (ap (λ (t : TableState). t.channel) effect.new) (ap (λ (t : TableState). t.asked) effect.new) refl (indexed h holds.1 c)
indexed (sends ∷ h) holds c = sent h c (indexed h holds.1 c)
indexed (drops ∷ h) holds c = record { indexed = (indexed h holds.1 c).indexed; count = λ e. absurd (cc e) }

-- ---- one of them

indexed_end : (prefix : List Accepted) (a : Accepted) (rest : List Accepted) → Indexed (prefix ++ a ∷ rest) → a.index ≡ length rest
indexed_end [] a rest all = all.0
indexed_end (x ∷ prefix) a rest all = indexed_end prefix a rest all.1

-- a request has as its index how many stand before it on its channel
pub own_place : (h : List Call) → Holds h → (n : ℕ) (a : Accepted) → slice_get (accepted_in h) n ≡ Some a → a.index ≡ length (newest a.channel (take n (accepted_in h)))
own_place h holds n a at =
    let (later, parts) = split_of n (accepted_in h) a at in
    let (prefix, split) = newest_split (take n (accepted_in h)) later a in
    indexed_end prefix a (newest a.channel (take n (accepted_in h))) (subst Indexed (ap (newest a.channel) parts ∙ split) (indexed h holds a.channel).indexed)
