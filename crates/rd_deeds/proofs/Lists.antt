-- Lists in parts, and what holds of their members.
use Rattle.std.proofs.Common.{◌≡◌, ◌⊎◌, ◌∙◌, refl, sym, ap, subst, inl, inr, ℕ, ◌+◌, ◌≤◌, Bool, List, [], ◌∷◌, ◌++◌, length, Some, None, Option, arith, length-append}
use Rattle.std.specs.Prelude.{filter, filter_map}
use Rattle.std.specs.List.{AllByRecursion, cons_option}
use Rattle.std.proofs.lemmas.List.Elements.{filter-append}
use Rattle.rd_deeds.specs.Talk.{AtEachPoint, Deed, EachAfter, EndsWith, Has}

-- what holds of all of two lists
pub all_more : {A : Type 0} (P : A → Type 0) (xs ys : List A) → AllByRecursion P xs → AllByRecursion P ys → AllByRecursion P (xs ++ ys)
all_more P [] ys all others = others
all_more P (x ∷ xs) ys all others = (all.0, all_more P xs ys all.1 others)

-- a member of a list in two parts stands in the second part, or in the first
pub split_cases : {A : Type 0} (a b xs : List A) (x : A) (ys : List A) → a ++ b ≡ xs ++ x ∷ ys
    → ((zs : List A) × (xs ≡ a ++ zs) × (b ≡ zs ++ x ∷ ys)) ⊎ ((zs : List A) × (a ≡ xs ++ x ∷ zs) × (ys ≡ zs ++ b))
split_cases [] b xs x ys e = inl (xs, refl, e)
split_cases {A} (y ∷ a) b [] x ys e = let same : y ≡ x = cc e in inr (a, ap (λ (z : A). z ∷ a) same, sym (cc e))
split_cases {A} (y ∷ a) b (z ∷ xs) x ys e =
    let same : y ≡ z = cc e in
    elim (split_cases a b xs x ys (cc e)) [
      | inl (zs, h, g) ↦ inl (zs, rw (same, h) refl, g)
      | inr (zs, g, h) ↦ inr (zs, rw (same, g) refl, h)
    ]

pub has_later : {A : Type 0} (x : A) (xs ys : List A) → Has x ys → Has x (xs ++ ys)
has_later x [] ys has = has
has_later x (y ∷ xs) ys has = inr (has_later x xs ys has)

pub has_split : {A : Type 0} (x : A) (xs ys : List A) → Has x (xs ++ x ∷ ys)
has_split x xs ys = has_later x xs (x ∷ ys) (inl refl)

-- two ends of a list that are as long are one
pub same_end : {A : Type 0} (a b c d : List A) → a ++ b ≡ c ++ d → length b ≡ length d → b ≡ d
same_end [] b [] d e long = e
same_end {A} [] b (y ∷ c) d e long = absurd (omega (arith, ap length e, length-append {A = A} c d, long))
same_end {A} (x ∷ a) b [] d e long = absurd (omega (arith, ap length e, length-append {A = A} a b, long))
same_end (x ∷ a) b (y ∷ c) d e long = same_end a b c d (cc e) long

-- of two ends of a list one is an end of the other
pub ends_either : {A : Type 0} (a x b y : List A) → a ++ x ≡ b ++ y → EndsWith x y ⊎ EndsWith y x
ends_either [] x b y e = inl (b, e)
ends_either (z ∷ a) x [] y e = inr (z ∷ a, sym e)
ends_either (z ∷ a) x (w ∷ b) y e = ends_either a x b y (cc e)

-- a member of what was picked, and the one that it was picked from
pub filter_split : {A B : Type 0} (f : A → Option B) (xs : List A) (a : List B) (y : B) (b : List B) → filter_map f xs ≡ a ++ y ∷ b
    → (u : List A) × (x : A) × (v : List A) × (xs ≡ u ++ x ∷ v) × (f x ≡ Some y) × (filter_map f v ≡ b)
filter_split f [] [] y b e = absurd (cc e)
filter_split f [] (z ∷ a) y b e = absurd (cc e)
filter_split {A} {B} f (x ∷ xs) a y b e = go (f x) refl a e (filter_split f xs)
  where
    go : (o : Option B) → f x ≡ o → (a : List B) → cons_option o (filter_map f xs) ≡ a ++ y ∷ b
        → ((a : List B) (y : B) (b : List B) → filter_map f xs ≡ a ++ y ∷ b → (u : List A) × (w : A) × (v : List A) × (xs ≡ u ++ w ∷ v) × (f w ≡ Some y) × (filter_map f v ≡ b))
        → (u : List A) × (w : A) × (v : List A) × (x ∷ xs ≡ u ++ w ∷ v) × (f w ≡ Some y) × (filter_map f v ≡ b)
    go None is a e rest = let (u, w, v, e1, e2, e3) = rest a y b e in (x ∷ u, w, v, ap (λ (l : List A). x ∷ l) e1, e2, e3)
    go (Some z) is [] e rest = let same : z ≡ y = cc e in ([], x, xs, refl, is ∙ ap Some same, cc e)
    go (Some z) is (_ ∷ a) e rest = let (u, w, v, e1, e2, e3) = rest a y b (cc e) in (x ∷ u, w, v, ap (λ (l : List A). x ∷ l) e1, e2, e3)

-- an end has no more of them than the whole
pub fewer_in_end : {A : Type 0} (p : A → Bool) (whole part : List A) → EndsWith whole part → length (filter p part) ≤ length (filter p whole)
fewer_in_end {A} p whole part ends =
    rw (ends.1, filter-append p ends.0 part, length-append {A = A} (filter p ends.0) (filter p part)) (omega arith)

-- what is in a list, and not in its end, is the first, where that is short
pub is_first : (whole part : List ℕ) (k : ℕ) → EndsWith whole part → length whole ≤ length part + 1 → Has k whole → ¬ (Has k part) → whole ≡ k ∷ part
is_first whole part k ([], e) short has hasnt = absurd (hasnt (subst (Has k) e has))
is_first whole part k (x ∷ [], e) short has hasnt =
    elim (subst (Has k) e has) [ inl same ↦ rw (same) e | inr h ↦ absurd (hasnt h) ]
is_first whole part k (x ∷ y ∷ zs, e) short has hasnt = absurd (omega (arith, ap length e, length-append {A = ℕ} zs part))

-- no end is as long but the whole
pub all_of : {A : Type 0} (whole part : List A) → EndsWith whole part → length whole ≤ length part → whole ≡ part
all_of whole part ([], e) short = e
all_of {A} whole part (x ∷ xs, e) short = absurd (omega (arith, ap length e, length-append {A = A} xs part))

-- what holds of each member and those after it holds of them in an end
pub each_end : {A : Type 0} (P : List A → A → Type 0) (xs ys : List A) → EachAfter P (xs ++ ys) → EachAfter P ys
each_end P [] ys each = each
each_end P (x ∷ xs) ys each = each_end P xs ys each.1

pub each_weaker : {A : Type 0} (P Q : List A → A → Type 0) → ((before : List A) (x : A) → P before x → Q before x) → (xs : List A) → EachAfter P xs → EachAfter Q xs
each_weaker P Q weaker [] each = tt
each_weaker P Q weaker (x ∷ before) each = (weaker before x each.0, each_weaker P Q weaker before each.1)

-- what holds at each point holds at those of an end
pub point_end : (P : List Deed → Type 0) (xs ys : List Deed) → AtEachPoint P (xs ++ ys) → AtEachPoint P ys
point_end P [] ys each = each
point_end P (x ∷ xs) ys each = point_end P xs ys each.1
