-- What holds of all elements of a list holds of those of its parts.
use Rattle.std.proofs.Common.{◌≡◌, ◌∙◌, sym, subst, ℕ, ◌<◌, List, [], ◌∷◌, ◌++◌, length, take, drop, get_or, suc, zero, arith}
use Rattle.std.specs.List.{AllByRecursion}

-- of two lists
pub all_append : {X : Type 0} (P : X → Type 0) (xs ys : List X) → AllByRecursion P xs → AllByRecursion P ys → AllByRecursion P (xs ++ ys)
all_append P [] ys first second = second
all_append P (x ∷ xs) ys first second = (first.0, all_append P xs ys first.1 second)

-- of less
pub all_weaker : {X : Type 0} (P Q : X → Type 0) → ((x : X) → P x → Q x) → (l : List X) → AllByRecursion P l → AllByRecursion Q l
all_weaker P Q f [] all = tt
all_weaker P Q f (x ∷ xs) all = (f x all.0, all_weaker P Q f xs all.1)

-- of those before a place
pub all_take : {X : Type 0} (P : X → Type 0) (i : ℕ) (xs : List X) → AllByRecursion P xs → AllByRecursion P (take i xs)
all_take P zero xs all = tt
all_take P (suc i) [] all = tt
all_take P (suc i) (x ∷ xs) all = (all.0, all_take P i xs all.1)

-- of those from a place on
pub all_drop : {X : Type 0} (P : X → Type 0) (i : ℕ) (xs : List X) → AllByRecursion P xs → AllByRecursion P (drop i xs)
all_drop P zero xs all = all
all_drop P (suc i) [] all = tt
all_drop P (suc i) (x ∷ xs) all = all_drop P i xs all.1

-- of the one at a place
pub all_at : {X : Type 0} (P : X → Type 0) (i : ℕ) (xs rest : List X) (x : X) → drop i xs ≡ x ∷ rest → AllByRecursion P xs → P x
all_at P i xs rest x e all = (subst (AllByRecursion P) e (all_drop P i xs all)).0

-- of two properties of all, where the first holds the second is left
pub all_both : {X : Type 0} (P Q R : X → Type 0) (xs : List X) → ((x : X) → P x → Q x → R x) → AllByRecursion P xs → AllByRecursion Q xs → AllByRecursion R xs
all_both P Q R [] f first second = tt
all_both P Q R (x ∷ xs) f first second = (f x first.0 second.0, all_both P Q R xs f first.1 second.1)

-- one item, read more than once
pub same_item : {X : Type 0} (xs : List X) (i : ℕ) (x y : X) → i < length xs → x ≡ get_or xs i x → y ≡ get_or xs i y → x ≡ y
same_item [] i x y within first second = absurd (omega arith)
same_item (z ∷ xs) zero x y within first second = first ∙ sym second
same_item (z ∷ xs) (suc i) x y within first second = same_item xs i x y (omega arith) first second
