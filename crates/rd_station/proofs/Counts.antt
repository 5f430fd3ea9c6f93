-- How many of a list pass a test: where some are taken out, and where each is among others.
use Rattle.std.proofs.Common.{◌≡◌, ◌⊎◌, ◌∙◌, refl, sym, ap, inl, inr, ℕ, ◌≤◌, ◌+◌, ◌&&◌, Bool, true, false, cond, not, List, [], ◌∷◌, ◌++◌, length, map, arith}
use Rattle.std.specs.Prelude.{count_by, filter}
use Rattle.std.proofs.lemmas.List.Recursion.{is_count_by}
use Rattle.rd_station.proofs.Members.{Has}

pub cnt : {A : Type 0} → (A → Bool) → List A → ℕ
cnt p [] = 0
cnt p (x ∷ xs) = cond (p x) 1 0 + cnt p xs

pub cnt_append : {A : Type 0} (p : A → Bool) (xs ys : List A) → cnt p (xs ++ ys) ≡ cnt p xs + cnt p ys
unfolding cnt
cnt_append p [] ys = omega arith
cnt_append p (x ∷ xs) ys = let later = cnt_append p xs ys in omega (arith, later)

pub cnt_map : {A B : Type 0} (p : B → Bool) (f : A → B) (xs : List A) → cnt p (map f xs) ≡ cnt (λ x. p (f x)) xs
unfolding cnt
cnt_map p f [] = refl
cnt_map p f (x ∷ xs) = ap (λ n. cond (p (f x)) 1 0 + n) (cnt_map p f xs)

pub cnt_all : {A : Type 0} (xs : List A) → cnt (λ x. true) xs ≡ length xs
unfolding cnt
cnt_all [] = refl
cnt_all (x ∷ xs) = let later = cnt_all xs in omega (arith, later)

pub cnt_one : {A : Type 0} (p : A → Bool) (x : A) → cnt p (x ∷ []) ≡ cond (p x) 1 0
unfolding cnt
cnt_one p x = omega arith

pub cnt_nil : {A : Type 0} (p : A → Bool) → cnt p [] ≡ 0
unfolding cnt
cnt_nil p = refl

pub cnt_cons : {A : Type 0} (p : A → Bool) (x : A) (xs : List A) → cnt p (x ∷ xs) ≡ cond (p x) 1 0 + cnt p xs
unfolding cnt
cnt_cons p x xs = refl

-- none passes
pub cnt_none : {A : Type 0} (p : A → Bool) (xs : List A) → ((x : A) → Has x xs → p x ≡ false) → cnt p xs ≡ 0
unfolding cnt
cnt_none p [] none = refl
cnt_none p (x ∷ xs) none =
    let later = cnt_none p xs (λ y has. none y (inr has)) in
    let here : cond {A = ℕ} (p x) 1 0 ≡ 0 = ap (λ b. cond {A = ℕ} b 1 0) (none x (inl refl)) in
    omega (arith, later, here)

-- one passes at least
pub cnt_some : {A : Type 0} (p : A → Bool) (x : A) (xs : List A) → Has x xs → p x ≡ true → 1 ≤ cnt p xs
unfolding cnt
cnt_some p x [] has e = absurd has
cnt_some {A} p x (y ∷ xs) has e = go (p y) refl has (λ h. cnt_some p x xs h e)
  where
    go : (b : Bool) → p y ≡ b → (x ≡ y) ⊎ Has x xs → (Has x xs → 1 ≤ cnt p xs) → 1 ≤ cond b 1 0 + cnt p xs
    go true f has later = omega arith
    go false f has later = elim has [ inl same ↦ absurd (cc (ap p same, e, f)) | inr h ↦ omega (arith, later h) ]

pub fewer : {A : Type 0} (p q : A → Bool) (xs : List A) → cnt p (filter q xs) ≤ cnt p xs
unfolding cnt
fewer p q [] = omega arith
fewer {A} p q (x ∷ xs) = go (q x) (fewer p q xs)
  where
    go : (b : Bool) → cnt p (filter q xs) ≤ cnt p xs → cnt p (cond b (x ∷ filter q xs) (filter q xs)) ≤ cond (p x) 1 0 + cnt p xs
    go true later = omega (arith, later)
    go false later = omega (arith, later)

-- one member is taken out
pub one_gone : {A : Type 0} (p q : A → Bool) (x : A) → q x ≡ false → (xs : List A) → Has x xs → cnt p (filter q xs) + cond (p x) 1 0 ≤ cnt p xs
unfolding cnt
one_gone p q x fails [] has = absurd has
one_gone {A} p q x fails (y ∷ xs) has = go (q y) refl has (λ h. one_gone p q x fails xs h) (fewer p q xs)
  where
    go : (b : Bool) → q y ≡ b → (x ≡ y) ⊎ Has x xs → (Has x xs → cnt p (filter q xs) + cond (p x) 1 0 ≤ cnt p xs) → cnt p (filter q xs) ≤ cnt p xs
        → cnt p (cond b (y ∷ filter q xs) (filter q xs)) + cond (p x) 1 0 ≤ cond (p y) 1 0 + cnt p xs
    go true e has later less = elim has [ inl same ↦ absurd (cc (ap q same, fails, e)) | inr h ↦ omega (arith, later h) ]
    go false e has later less = elim has [
      | inl same ↦ let alike : cond {A = ℕ} (p x) 1 0 ≡ cond (p y) 1 0 = ap (λ (z : A). cond {A = ℕ} (p z) 1 0) same in omega (arith, less, alike)
      | inr h ↦ omega (arith, later h)
    ]

pub has_filter : {A : Type 0} (p : A → Bool) (x : A) (xs : List A) → Has x xs → p x ≡ true → Has x (filter p xs)
has_filter p x [] has e = absurd has
has_filter {A} p x (y ∷ xs) has e = go (p y) refl has (λ h. has_filter p x xs h e)
  where
    go : (b : Bool) → p y ≡ b → (x ≡ y) ⊎ Has x xs → (Has x xs → Has x (filter p xs)) → Has x (cond b (y ∷ filter p xs) (filter p xs))
    go true f has later = elim has [ inl same ↦ inl same | inr h ↦ inr (later h) ]
    go false f has later = elim has [ inl same ↦ absurd (cc (ap p same, e, f)) | inr h ↦ later h ]

-- tests that agree on the members
pub filter_same : {A : Type 0} (p q : A → Bool) (xs : List A) → ((x : A) → Has x xs → p x ≡ q x) → filter p xs ≡ filter q xs
filter_same p q [] same = refl
filter_same {A} p q (x ∷ xs) same = ap (λ b. cond b (x ∷ filter p xs) (filter p xs)) (same x (inl refl)) ∙ ap (λ (ys : List A). cond (q x) (x ∷ ys) ys) (filter_same p q xs (λ y has. same y (inr has)))

pub filter_twice : {A : Type 0} (p q r : A → Bool) → ((x : A) → r x ≡ (p x && q x)) → (xs : List A) → filter r xs ≡ filter q (filter p xs)
filter_twice p q r both [] = refl
filter_twice {A} p q r both (x ∷ xs) = ap (λ b. cond b (x ∷ filter r xs) (filter r xs)) (both x) ∙ go (p x) (filter_twice p q r both xs)
  where
    go : (b : Bool) → filter r xs ≡ filter q (filter p xs) → cond (b && q x) (x ∷ filter r xs) (filter r xs) ≡ filter q (cond b (x ∷ filter p xs) (filter p xs))
    go true later = ap (λ (ys : List A). cond (q x) (x ∷ ys) ys) later
    go false later = later

-- those that fail, and how many pass
pub cnt_others : {A : Type 0} (p : A → Bool) (xs : List A) → length (filter (λ x. not (p x)) xs) + cnt p xs ≡ length xs
unfolding cnt
cnt_others p [] = omega arith
cnt_others p (x ∷ xs) = by (p x) (cnt_others p xs)
  where
    by : (b : Bool) → length (filter (λ y. not (p y)) xs) + cnt p xs ≡ length xs
        → length (cond (not b) (x ∷ filter (λ y. not (p y)) xs) (filter (λ y. not (p y)) xs)) + (cond b 1 0 + cnt p xs) ≡ length (x ∷ xs)
    by true later = omega (arith, later)
    by false later = omega (arith, later)

-- no more pass a test that is no milder
pub cnt_less : {A : Type 0} (p q : A → Bool) → ((x : A) → q x ≡ true → p x ≡ true) → (xs : List A) → cnt q xs ≤ cnt p xs
unfolding cnt
cnt_less p q milder [] = omega arith
cnt_less p q milder (x ∷ xs) = by (p x) (q x) (milder x) (cnt_less p q milder xs)
  where
    by : (a b : Bool) → (b ≡ true → a ≡ true) → cnt q xs ≤ cnt p xs → cond b 1 0 + cnt q xs ≤ cond a 1 0 + cnt p xs
    by true true so later = omega (arith, later)
    by true false so later = omega (arith, later)
    by false true so later = absurd (cc (so refl))
    by false false so later = omega (arith, later)

-- and fewer where a member passes the one and not the other
pub cnt_fewer : {A : Type 0} (p q : A → Bool) → ((x : A) → q x ≡ true → p x ≡ true) → (y : A) → p y ≡ true → q y ≡ false → (xs : List A) → Has y xs → cnt q xs + 1 ≤ cnt p xs
unfolding cnt
cnt_fewer p q milder y passes fails [] none = absurd none
cnt_fewer p q milder y passes fails (x ∷ xs) (inl here) =
    let one : cond {A = ℕ} (p x) 1 0 ≡ 1 = ap (λ b. cond {A = ℕ} b 1 0) (ap p (sym here) ∙ passes) in
    let zero : cond {A = ℕ} (q x) 1 0 ≡ 0 = ap (λ b. cond {A = ℕ} b 1 0) (ap q (sym here) ∙ fails) in
    omega (arith, one, zero, cnt_less p q milder xs)
cnt_fewer p q milder y passes fails (x ∷ xs) (inr among) = by (p x) (q x) (milder x) (cnt_fewer p q milder y passes fails xs among)
  where
    by : (a b : Bool) → (b ≡ true → a ≡ true) → cnt q xs + 1 ≤ cnt p xs → cond b 1 0 + cnt q xs + 1 ≤ cond a 1 0 + cnt p xs
    by true true so later = omega (arith, later)
    by true false so later = omega (arith, later)
    by false true so later = absurd (cc (so refl))
    by false false so later = omega (arith, later)

-- where none passes, a member fails
pub cnt_zero : {A : Type 0} (p : A → Bool) (xs : List A) → cnt p xs ≡ 0 → (x : A) → Has x xs → p x ≡ false
cnt_zero p xs none x has = by (p x) refl
  where
    by : (b : Bool) → p x ≡ b → b ≡ false
    by true e = absurd (omega (arith, none, cnt_some p x xs has e))
    by false e = refl

pub cnt_is : {A : Type 0} (p : A → Bool) (xs : List A) → count_by p xs ≡ cnt p xs
unfolding cnt
cnt_is p xs = sym (is_count_by (cnt p) p refl (λ x ys. by (p x) (cnt p ys)) xs)
  where
    by : (b : Bool) (n : ℕ) → cond b 1 0 + n ≡ cond b (1 + n) n
    by true n = refl
    by false n = omega arith
