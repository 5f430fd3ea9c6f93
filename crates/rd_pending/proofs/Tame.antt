-- Calls that accept no request and send none.
use Rattle.std.proofs.Common.{◌≡◌, ◌∙◌, refl, sym, ap, subst, inl, inr, ℕ, suc, ◌+◌, ◌==◌, ◌&&◌, Bool, true, false, cond, List, [], ◌∷◌, ◌++◌, length, Some, None, Option, arith, append_assoc, eq-eqb, length-append}
use Rattle.std.specs.Prelude.{Result, Ok, Err, filter, slice_get}
use Rattle.std.proofs.lemmas.List.Elements.{filter-append}
use Rattle.rd_base.specs.declared.bad.Bad.{Bad}
use Rattle.rd_base.specs.Layout.{met}
use Rattle.rd_base.specs.Position.{Position, at_start}
use Rattle.rd_irp.specs.declared.completion.Body.{Body}
use Rattle.rd_irp.specs.declared.completion.Head.{Head}
use Rattle.rd_irp.specs.Completion.{completion_body}
use Rattle.rd_pending.specs.declared.calls.LiveNo.{LiveNo}
use Rattle.rd_pending.specs.History as call
use Rattle.rd_pending.specs.History.{Call, accepted_in, after}
use Rattle.rd_pending.specs.Outcomes.{Accepted, is_accepted_as}
use Rattle.rd_pending.specs.Table as table
use Rattle.rd_pending.specs.Table.{Fate, Slot, TableState, Untaken, awaited, freed, known, live_refusal, slot_for, untaken_at, with_fate}
use Rattle.rd_pending.proofs.CountLemmas.{pairs}
use Rattle.rd_pending.proofs.Effects as effects

pub record Tame (t new : TableState) : Type 0 where
  pub outbox : new.outbox ≡ t.outbox
  pub asked : new.asked ≡ t.asked
  pub channel : new.channel ≡ t.channel

pub tame_same : (t : TableState) → Tame t t
tame_same t = record { outbox = refl; asked = refl; channel = refl }

pub tame_then : (t u v : TableState) → Tame t u → Tame u v → Tame t v
tame_then t u v p q = record { outbox = q.outbox ∙ p.outbox; asked = q.asked ∙ p.asked; channel = q.channel ∙ p.channel }

tame_fate : (t : TableState) (n : ℕ) (f : Fate) → Tame t (with_fate t n f)
tame_fate t n f = go (untaken_at t n) refl
  where
    go : (o : Option Untaken) → untaken_at t n ≡ o → Tame t (with_fate t n f)
    go None e = rw e (tame_same t)
    go (Some u) e = rw e (record { outbox = refl; asked = refl; channel = refl })

pub tame_live : (t : TableState) (d : ℕ) → Tame t (table.live t d).0
tame_live t d = go (live_refusal t d) refl
  where
    go : (o : Option LiveNo) → live_refusal t d ≡ o → Tame t (table.live t d).0
    go None e = rw e (record { outbox = refl; asked = refl; channel = refl })
    go (Some cause) e = rw e (record { outbox = refl; asked = refl; channel = refl })

pub tame_remove : (t : TableState) (d : ℕ) → Tame t (table.remove t d).0
tame_remove t d = elim (effects.removes t d) [
  | inl none ↦ subst (Tame t) (sym none.same) (tame_same t)
  | inr effect ↦ subst (Tame t) (sym effect.new) (record { outbox = refl; asked = refl; channel = refl })
]

pub tame_take : (t : TableState) (n : ℕ) → Tame t (table.take t n).0
tame_take t n = go (untaken_at t n) refl
  where
    by_fate : (u : Untaken) → untaken_at t n ≡ Some u → (f : Fate) → u.fate ≡ f → Tame t (table.take t n).0
    by_fate u e awaited e2 = rw (e, e2) (tame_same t)
    by_fate u e (known o) e2 = rw (e, e2) (record { outbox = refl; asked = refl; channel = refl })

    go : (o : Option Untaken) → untaken_at t n ≡ o → Tame t (table.take t n).0
    go None e = rw e (tame_same t)
    go (Some u) e = by_fate u e u.fate refl

pub tame_complete : (t : TableState) (head : Head) (bytes : List ℕ) → Tame t (table.complete t head bytes).0
tame_complete t head bytes = go (slot_for t head.completion) refl
  where
    free_one : Tame t (freed t head.completion)
    free_one = record { outbox = refl; asked = refl; channel = refl }

    reads : (slot : Slot) → slot_for t head.completion ≡ Some slot → (slot.device == head.device) ≡ true → slot.dead ≡ false → (r : Result (Body × Position) Bad)
        → met (completion_body slot.kind head.status) (at_start bytes) ≡ r → Tame t (table.complete t head bytes).0
    reads slot e same alive (Err bad) e2 = rw (e, same, alive, e2) (tame_same t)
    reads slot e same alive (Ok read) e2 = rw (e, same, alive, e2) (tame_then t (freed t head.completion) _ free_one (tame_fate (freed t head.completion) slot.number _))

    by_mark : (slot : Slot) → slot_for t head.completion ≡ Some slot → (slot.device == head.device) ≡ true → (b : Bool) → slot.dead ≡ b → Tame t (table.complete t head bytes).0
    by_mark slot e same true dead = rw (e, same, dead) free_one
    by_mark slot e same false alive = reads slot e same alive (met (completion_body slot.kind head.status) (at_start bytes)) refl

    by_device : (slot : Slot) → slot_for t head.completion ≡ Some slot → (b : Bool) → (slot.device == head.device) ≡ b → Tame t (table.complete t head bytes).0
    by_device slot e false other = rw (e, other) (tame_same t)
    by_device slot e true same = by_mark slot e same slot.dead refl

    go : (o : Option Slot) → slot_for t head.completion ≡ o → Tame t (table.complete t head bytes).0
    go None e = rw e (tame_same t)
    go (Some slot) e = by_device slot e (slot.device == head.device) refl

-- ---- calls

abbrev pub IsTame : Call → Type 0
IsTame (call.lives d) = Unit {0}
IsTame (call.removes d) = Unit {0}
IsTame (call.takes number) = Unit {0}
IsTame (call.completes head bytes) = Unit {0}
IsTame _ = ⊥

abbrev pub AreTame : List Call → Type 0
AreTame [] = Unit {0}
AreTame (x ∷ xs) = IsTame x × AreTame xs

pub tame_more : (xs ys : List Call) → AreTame xs → AreTame ys → AreTame (xs ++ ys)
tame_more [] ys all others = others
tame_more (x ∷ xs) ys all others = (all.0, tame_more xs ys all.1 others)

pub tame_one : (x : Call) (h : List Call) → IsTame x → Tame (after h) (after (x ∷ h)) × (accepted_in (x ∷ h) ≡ accepted_in h)
tame_one (call.begins c) h is = absurd is
tame_one (call.lives d) h is = (tame_live (after h) d, refl)
tame_one (call.removes d) h is = (tame_remove (after h) d, refl)
tame_one (call.takes number) h is = (tame_take (after h) number, refl)
tame_one (call.submits x named o) h is = absurd is
tame_one (call.completes head bytes) h is = (tame_complete (after h) head bytes, refl)
tame_one call.sends h is = absurd is
tame_one call.drops h is = absurd is

pub tame_all : (xs h : List Call) → AreTame xs → Tame (after h) (after (xs ++ h)) × (accepted_in (xs ++ h) ≡ accepted_in h)
tame_all [] h all = (tame_same (after h), refl)
tame_all (x ∷ xs) h all =
    let rest = tame_all xs h all.1 in
    let one = tame_one x (xs ++ h) all.0 in
    (tame_then (after h) (after (xs ++ h)) (after (x ∷ xs ++ h)) rest.0 one.0, one.1 ∙ rest.1)

-- ---- the requests of a channel, the newest first

abbrev pub newest : ℕ → List Accepted → List Accepted
newest c [] = []
newest c (a ∷ xs) = newest c xs ++ cond (a.channel == c) (a ∷ []) []

pub newest_more : (c : ℕ) (xs : List Accepted) (a : Accepted) → newest c (xs ++ a ∷ []) ≡ cond (a.channel == c) (a ∷ []) [] ++ newest c xs
newest_more c [] a = go (a.channel == c)
  where
    go : (b : Bool) → cond {A = List Accepted} b (a ∷ []) [] ≡ cond b (a ∷ []) [] ++ []
    go true = refl
    go false = refl
newest_more c (x ∷ xs) a =
    ap (λ (ys : List Accepted). ys ++ cond (x.channel == c) (x ∷ []) []) (newest_more c xs a)
    ∙ append_assoc (cond (a.channel == c) (a ∷ []) []) (newest c xs) (cond (x.channel == c) (x ∷ []) [])

pub newest_none : (c : ℕ) (xs : List Accepted) → ((n : ℕ) (a : Accepted) → slice_get xs n ≡ Some a → (a.channel == c) ≡ false) → newest c xs ≡ []
newest_none c [] other = refl
newest_none c (x ∷ xs) other = rw (other 0 x refl, newest_none c xs (λ n a e. other (suc n) a e)) refl

-- with a pair
abbrev pub with_pair : ℕ → ℕ → Accepted → Bool
with_pair d i a = a.device == d && a.id == i

pub newest_pairs : (c d i : ℕ) (xs : List Accepted) → length (filter (with_pair d i) (newest c xs)) ≡ pairs c d i xs
newest_pairs c d i [] = refl
newest_pairs c d i (x ∷ xs) =
    ap length (filter-append (with_pair d i) (newest c xs) (cond (x.channel == c) (x ∷ []) []))
    ∙ length-append {A = Accepted} (filter (with_pair d i) (newest c xs)) (filter (with_pair d i) (cond (x.channel == c) (x ∷ []) []))
    ∙ ap (λ (n : ℕ). n + length (filter (with_pair d i) (cond (x.channel == c) (x ∷ []) []))) (newest_pairs c d i xs)
    ∙ go (x.channel == c) (with_pair d i x)
  where
    go : (p q : Bool) → pairs c d i xs + length (filter (with_pair d i) (cond p (x ∷ []) [])) ≡ length (cond (p && with_pair d i x) (x ∷ filter (is_accepted_as c d i) xs) (filter (is_accepted_as c d i) xs))
    go true q = by (with_pair d i x)
      where
        by : (b : Bool) → pairs c d i xs + length (cond b (x ∷ []) []) ≡ length (cond b (x ∷ filter (is_accepted_as c d i) xs) (filter (is_accepted_as c d i) xs))
        by true = omega arith
        by false = omega arith
    go false q = omega arith

-- a request is among those of its channel, and what stands after it there has its earlier ones
pub newest_split : (earlier later : List Accepted) (a : Accepted) → (prefix : List Accepted) × (newest a.channel (earlier ++ a ∷ later) ≡ prefix ++ a ∷ newest a.channel earlier)
newest_split [] later a = (newest a.channel later, ap (λ (b : Bool). newest a.channel later ++ cond b (a ∷ []) []) (itself a.channel))
  where
    itself : (n : ℕ) → (n == n) ≡ true
    itself n = eq-eqb n n refl
newest_split (x ∷ earlier) later a =
    let rest = newest_split earlier later a in
    (rest.0, ap (λ (ys : List Accepted). ys ++ cond (x.channel == a.channel) (x ∷ []) []) rest.1 ∙ append_assoc rest.0 (a ∷ newest a.channel earlier) (cond (x.channel == a.channel) (x ∷ []) []))
