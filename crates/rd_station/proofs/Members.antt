-- Members of lists, by recursion; and keys of which no two are the same.
use Rattle.std.proofs.Common.{◌≡◌, ◌≢◌, ◌⊎◌, ◌∙◌, refl, sym, ap, ap₂, inl, inr, zero, suc, ◌&&◌, ◌==◌, Bool, true, false, cond, List, [], ◌∷◌, ◌++◌, map, arith, eqb-true, eq-eqb}
use Rattle.std.specs.Prelude.{ℕ, All, Contains, Some, filter, find}
use Rattle.std.proofs.lemmas.List.Elements.{All-contains_itself, All-weaker}
use Rattle.rd_base.specs.declared.journal.Key.{Key}
use Rattle.rd_station.specs.Station.{is_key}

-- x is among them
abbrev pub Has : {A : Type 0} → A → List A → Type 0
Has x [] = ⊥
Has x (y ∷ ys) = (x ≡ y) ⊎ Has x ys

pub from_contains : {A : Type 0} (xs : List A) (x : A) → Contains xs x → Has x xs
from_contains [] x (k, below, is) = absurd (omega (arith, below))
from_contains (y ∷ ys) x (zero, below, is) = inl (sym is)
from_contains (y ∷ ys) x (suc k, below, is) = inr (from_contains ys x (k, omega (arith, below), is))

pub to_contains : {A : Type 0} (xs : List A) (x : A) → Has x xs → Contains xs x
to_contains [] x none = absurd none
to_contains (y ∷ ys) x (inl here) = (0, omega arith, sym here)
to_contains (y ∷ ys) x (inr later) = let (k, below, is) = to_contains ys x later in (suc k, omega (arith, below), is)

pub all_of : {A : Type 0} (P : A → Type 0) (xs : List A) → ((x : A) → Has x xs → P x) → All P xs
all_of P xs each = All-weaker (Contains xs) P (λ x has. each x (from_contains xs x has)) xs (All-contains_itself xs)

-- ---- lists that are made of others

pub has_append : {A : Type 0} (x : A) (xs ys : List A) → Has x (xs ++ ys) → Has x xs ⊎ Has x ys
has_append x [] ys has = inr has
has_append x (z ∷ xs) ys (inl here) = inl (inl here)
has_append x (z ∷ xs) ys (inr later) = elim (has_append x xs ys later) [ inl left ↦ inl (inr left) | inr right ↦ inr right ]

pub has_left : {A : Type 0} (x : A) (xs ys : List A) → Has x xs → Has x (xs ++ ys)
has_left x [] ys none = absurd none
has_left x (z ∷ xs) ys (inl here) = inl here
has_left x (z ∷ xs) ys (inr later) = inr (has_left x xs ys later)

pub has_right : {A : Type 0} (x : A) (xs ys : List A) → Has x ys → Has x (xs ++ ys)
has_right x [] ys has = has
has_right x (z ∷ xs) ys has = inr (has_right x xs ys has)

pub has_map : {A B : Type 0} (f : A → B) (x : A) (xs : List A) → Has x xs → Has (f x) (map f xs)
has_map f x [] none = absurd none
has_map f x (y ∷ xs) (inl here) = inl (ap f here)
has_map f x (y ∷ xs) (inr later) = inr (has_map f x xs later)

pub map_has : {A B : Type 0} (f : A → B) (y : B) (xs : List A) → Has y (map f xs) → (x : A) × Has x xs × (y ≡ f x)
map_has f y [] none = absurd none
map_has f y (x ∷ xs) (inl here) = (x, inl refl, here)
map_has f y (x ∷ xs) (inr later) = let (z, has, is) = map_has f y xs later in (z, inr has, is)

-- what stands in a list with one more before it where a test passes
pub with_one_before : {A : Type 0} (b : Bool) (y x : A) (xs : List A) → Has x (cond b (y ∷ xs) xs) → ((x ≡ y) × (b ≡ true)) ⊎ Has x xs
with_one_before true y x xs (inl here) = inl (here, refl)
with_one_before true y x xs (inr later) = inr later
with_one_before false y x xs has = inr has

pub filter_has : {A : Type 0} (p : A → Bool) (x : A) (xs : List A) → Has x (filter p xs) → Has x xs × (p x ≡ true)
filter_has p x [] none = absurd none
filter_has p x (y ∷ xs) has = elim (with_one_before (p y) y x (filter p xs) has) [
  | inl here ↦ (inl here.0, ap p here.0 ∙ here.1)
  | inr later ↦ let (among, passes) = filter_has p x xs later in (inr among, passes)
]

pub find_has : {A : Type 0} (p : A → Bool) (x : A) (xs : List A) → find p xs ≡ Some x → Has x xs × (p x ≡ true)
find_has p x [] e = absurd (cc)
find_has {A} p x (y ∷ xs) e = by (p y) refl e (find_has p x xs)
  where
    by : (b : Bool) → p y ≡ b → cond b (Some y) (find p xs) ≡ Some x → (find p xs ≡ Some x → Has x xs × (p x ≡ true)) → Has x (y ∷ xs) × (p x ≡ true)
    by true passes is later = let same : x ≡ y = cc in (inl same, ap p same ∙ passes)
    by false passes is later = let (among, here) = later is in (inr among, here)

-- ---- keys

pub same_key : (k l : Key) → is_key k l ≡ true → k ≡ l
same_key k l e = by (k.channel == l.channel) (k.index == l.index) refl refl e
  where
    made : ℕ → ℕ → Key
    made channel index = record { channel = channel; index = index }

    by : (a b : Bool) → (k.channel == l.channel) ≡ a → (k.index == l.index) ≡ b → (a && b) ≡ true → k ≡ l
    by true true channel index e = ap₂ made (eqb-true k.channel l.channel channel) (eqb-true k.index l.index index)
    by true false channel index e = absurd (cc)
    by false b channel index e = absurd (cc)

pub key_self : (k : Key) → is_key k k ≡ true
key_self k = rw (eq-eqb k.channel k.channel refl, eq-eqb k.index k.index refl) refl

pub other_key : (k l : Key) → is_key k l ≡ false → k ≢ l
other_key k l e same = absurd (cc (key_self l, ap (λ (x : Key). is_key x l) same, e))

pub apart_key : (k l : Key) → k ≢ l → is_key k l ≡ false
apart_key k l apart = by (is_key k l) refl
  where
    by : (b : Bool) → is_key k l ≡ b → b ≡ false
    by true e = absurd (apart (same_key k l e))
    by false e = refl

abbrev pub AreApart : List Key → Type 0
AreApart [] = Unit {0}
AreApart (k ∷ ks) = (¬ (Has k ks)) × AreApart ks
