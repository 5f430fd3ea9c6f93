-- The requests that a host accepted stay, whatever comes of them.
use Rattle.std.proofs.Common.{◌≡◌, ◌∙◌, sym, ap, inl, inr, ℕ, zero, suc, ◌<◌, ◌≤◌, ◌==◌, Bool, true, false, cond, List, [], ◌∷◌, ◌++◌, length, take, Some, arith, length-append}
use Rattle.std.specs.Prelude.{filter, slice_get}
use Rattle.std.proofs.lemmas.List.{take-append-le, take_all}
use Rattle.std.proofs.lemmas.Bool.{cases_lt}
use Rattle.rd_pending.specs.History.{accepted_in}
use Rattle.rd_pending.specs.Outcomes.{Accepted, is_accepted_as}
use Rattle.rd_pending.proofs.AcceptedLemmas.{accepted_since}
use Rattle.rd_pending.proofs.CountLemmas.{pairs}
use Rattle.rd_pending.proofs.Tame.{newest}
use Rattle.rd_deeds.specs.HostDeeds.{calls_of}
use Rattle.rd_deeds.specs.Joining.{accepted}
use Rattle.rd_deeds.specs.Talk.{Deed}
use Rattle.rd_deeds.proofs.Calls.{calls_since}

-- those of the one list are the first of the other
abbrev pub Kept : List Accepted → List Accepted → Type 0
Kept xs new = (more : List Accepted) × (new ≡ xs ++ more)

pub kept_long : (xs new : List Accepted) → Kept xs new → length xs ≤ length new
kept_long xs new (more, e) = omega (arith, ap length e, length-append {A = Accepted} xs more)

pub kept_since : (client : ℕ) (late early : List Deed) → Kept (accepted client early) (accepted client (late ++ early))
kept_since client late early =
    let (later, e) = calls_since client late early in
    let (new, since) = accepted_since later (calls_of client early) in
    (new, ap accepted_in e ∙ since)

pub kept_by : (client : ℕ) (before : List Deed) (deed : Deed) → Kept (accepted client before) (accepted client (deed ∷ before))
kept_by client before deed = kept_since client (deed ∷ []) before

-- ---- one of them

got_first : (n : ℕ) (xs more : List Accepted) (a : Accepted) → n < length xs → slice_get (xs ++ more) n ≡ Some a → slice_get xs n ≡ Some a
got_first n [] more a low at = absurd (omega (arith, low))
got_first zero (x ∷ xs) more a low at = at
got_first (suc n) (x ∷ xs) more a low at = got_first n xs more a (omega (arith, low)) at

-- one that is among the first was there, with the same ones before it
pub record Was (xs new : List Accepted) (n : ℕ) (a : Accepted) : Type 0 where
  pub at : slice_get xs n ≡ Some a
  pub earlier : take n new ≡ take n xs

pub was : (xs new : List Accepted) (n : ℕ) (a : Accepted) → Kept xs new → n < length xs → slice_get new n ≡ Some a → Was xs new n a
was xs new n a (more, e) low at = record {
  at = got_first n xs more a low (ap (λ (ys : List Accepted). slice_get ys n) (sym e) ∙ at);
  earlier = ap (take n) e ∙ take-append-le n xs more (omega (arith, low));
}

-- ---- places

pairs_taken : (c d i n k : ℕ) (xs : List Accepted) → n ≤ k → pairs c d i (take n xs) ≤ pairs c d i (take k xs)
pairs_taken c d i zero k xs low = omega arith
pairs_taken c d i (suc n) zero xs low = absurd (omega (arith, low))
pairs_taken c d i (suc n) (suc k) [] low = omega arith
pairs_taken c d i (suc n) (suc k) (x ∷ xs) low = by (is_accepted_as c d i x) (pairs_taken c d i n k xs (omega (arith, low)))
  where
    by : (b : Bool) → pairs c d i (take n xs) ≤ pairs c d i (take k xs)
        → length (cond b (x ∷ filter (is_accepted_as c d i) (take n xs)) (filter (is_accepted_as c d i) (take n xs))) ≤ length (cond b (x ∷ filter (is_accepted_as c d i) (take k xs)) (filter (is_accepted_as c d i) (take k xs)))
    by true old = omega (arith, old)
    by false old = old

newest_taken : (c n k : ℕ) (xs : List Accepted) → n ≤ k → length (newest c (take n xs)) ≤ length (newest c (take k xs))
newest_taken c zero k xs low = omega arith
newest_taken c (suc n) zero xs low = absurd (omega (arith, low))
newest_taken c (suc n) (suc k) [] low = omega arith
newest_taken c (suc n) (suc k) (x ∷ xs) low =
    let own : List Accepted = cond (x.channel == c) (x ∷ []) [] in
    omega (arith, newest_taken c n k xs (omega (arith, low)), length-append {A = Accepted} (newest c (take n xs)) own, length-append {A = Accepted} (newest c (take k xs)) own)

-- the first ones of the longer list are the shorter one
all_first : (xs new : List Accepted) → Kept xs new → take (length xs) new ≡ xs
all_first xs new (more, e) = ap (take (length xs)) e ∙ take-append-le (length xs) xs more (omega arith) ∙ take_all (length xs) xs (omega arith)

-- one before which fewer have the pair than all of the first ones is among them
pub placed_by_pair : (xs new : List Accepted) (c d i n : ℕ) → Kept xs new → pairs c d i (take n new) < pairs c d i xs → n < length xs
placed_by_pair xs new c d i n kept fewer = elim (cases_lt n (length xs)) [
  | inl low ↦ low
  | inr high ↦ absurd (omega (arith, fewer, ap (pairs c d i) (all_first xs new kept), pairs_taken c d i (length xs) n new high))
]

-- and so is one before which fewer are of a channel
pub placed_by_channel : (xs new : List Accepted) (c n : ℕ) → Kept xs new → length (newest c (take n new)) < length (newest c xs) → n < length xs
placed_by_channel xs new c n kept fewer = elim (cases_lt n (length xs)) [
  | inl low ↦ low
  | inr high ↦ absurd (omega (arith, fewer, ap (λ (ys : List Accepted). length (newest c ys)) (all_first xs new kept), newest_taken c (length xs) n new high))
]
