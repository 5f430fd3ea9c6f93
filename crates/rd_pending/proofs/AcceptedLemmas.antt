-- The requests that a history accepted: what is called later adds to them, and changes none.
use Rattle.std.proofs.Common.{◌≡◌, ◌⊎◌, ◌∙◌, refl, sym, ap, inl, inr, ℕ, zero, suc, List, [], ◌∷◌, ◌++◌, length, take, Some, append_assoc, append-nil}
use Rattle.std.specs.Prelude.{slice_get}
use Rattle.rd_pending.specs.History.{Call, accepted_in, accepted_of, after, begins, completes, drops, lives, removes, sends, submits, takes}
use Rattle.rd_pending.specs.Outcomes.{Accepted}

-- ---- what a call accepts

abbrev pub accepted_by : Call → List Call → List Accepted
accepted_by (submits application named o) h = accepted_of (after h) application named o ∷ []
accepted_by call h = []

pub accepted_more : (call : Call) (h : List Call) → accepted_in (call ∷ h) ≡ accepted_in h ++ accepted_by call h
accepted_more (begins c) h = sym (append-nil (accepted_in h))
accepted_more (lives d) h = sym (append-nil (accepted_in h))
accepted_more (removes d) h = sym (append-nil (accepted_in h))
accepted_more (takes number) h = sym (append-nil (accepted_in h))
accepted_more (submits x named o) h = refl
accepted_more (completes head bytes) h = sym (append-nil (accepted_in h))
accepted_more sends h = sym (append-nil (accepted_in h))
accepted_more drops h = sym (append-nil (accepted_in h))

-- what was accepted since
pub accepted_since : (later h : List Call) → (new : List Accepted) × (accepted_in (later ++ h) ≡ accepted_in h ++ new)
accepted_since [] h = ([], sym (append-nil (accepted_in h)))
accepted_since (call ∷ later) h =
    let (new, since) = accepted_since later h in
    (new ++ accepted_by call (later ++ h), accepted_more call (later ++ h) ∙ ap (λ (xs : List Accepted). xs ++ accepted_by call (later ++ h)) since ∙ append_assoc (accepted_in h) new (accepted_by call (later ++ h)))

-- ---- places

pub got_before : (xs ys : List Accepted) (n : ℕ) (a : Accepted) → slice_get xs n ≡ Some a → slice_get (xs ++ ys) n ≡ Some a
got_before [] ys n a e = absurd (cc)
got_before (x ∷ xs) ys zero a e = e
got_before (x ∷ xs) ys (suc n) a e = got_before xs ys n a e

pub got_last : (xs : List Accepted) (a : Accepted) → slice_get (xs ++ a ∷ []) (length xs) ≡ Some a
got_last [] a = refl
got_last (x ∷ xs) a = got_last xs a

pub got_cases : (xs : List Accepted) (n : ℕ) (new a : Accepted) → slice_get (xs ++ new ∷ []) n ≡ Some a → (slice_get xs n ≡ Some a) ⊎ ((n ≡ length xs) × (a ≡ new))
got_cases [] zero new a e = let same : new ≡ a = cc in inr (refl, sym same)
got_cases [] (suc n) new a e = absurd (cc)
got_cases (x ∷ xs) zero new a e = inl e
got_cases (x ∷ xs) (suc n) new a e =
    elim (got_cases xs n new a e) [ inl old ↦ inl old | inr (last, same) ↦ inr (ap suc last, same) ]

-- ---- what stands before a request

pub take_more : (n : ℕ) (xs ys : List Accepted) (a : Accepted) → slice_get xs n ≡ Some a → take n (xs ++ ys) ≡ take n xs
take_more n [] ys a e = absurd (cc e)
take_more zero (x ∷ xs) ys a e = refl
take_more (suc n) (x ∷ xs) ys a e = ap (λ (zs : List Accepted). x ∷ zs) (take_more n xs ys a e)

pub take_own : (xs : List Accepted) (a : Accepted) → take (length xs) (xs ++ a ∷ []) ≡ xs
take_own [] a = refl
take_own (x ∷ xs) a = ap (λ (zs : List Accepted). x ∷ zs) (take_own xs a)

pub split_at : (earlier later : List Accepted) (a : Accepted) → (slice_get (earlier ++ a ∷ later) (length earlier) ≡ Some a) × (take (length earlier) (earlier ++ a ∷ later) ≡ earlier)
split_at [] later a = (refl, refl)
split_at (x ∷ earlier) later a = let rest = split_at earlier later a in (rest.0, ap (λ (zs : List Accepted). x ∷ zs) rest.1)

-- a request with what was accepted before it and later
pub split_of : (n : ℕ) (xs : List Accepted) (a : Accepted) → slice_get xs n ≡ Some a → (later : List Accepted) × (xs ≡ take n xs ++ a ∷ later)
split_of n [] a e = absurd (cc e)
split_of zero (x ∷ xs) a e = let same : x ≡ a = cc e in (xs, ap (λ (y : Accepted). y ∷ xs) same)
split_of (suc n) (x ∷ xs) a e = let (later, parts) = split_of n xs a e in (later, ap (λ (zs : List Accepted). x ∷ zs) parts)
