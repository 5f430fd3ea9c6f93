-- The numbers of lines, which rise, and of those that did nothing.
use Rattle.std.proofs.Common.{◌≡◌, ◌∙◌, refl, sym, ap, subst, inl, inr, ℕ, ◌==◌, ◌&&◌, ◌||◌, Bool, true, false, List, [], ◌∷◌, ◌++◌, map, reverse, Some, None, Option, append_assoc, append-nil, arith}
use Rattle.std.specs.Prelude.{filter_map}
use Rattle.std.specs.List.{AllByRecursion, cons_option}
use Rattle.std.specs.List.Sorted.{IsStrictlySortedBy}
use Rattle.std.specs.Ordering.{nat_cmp}
use Rattle.std.specs.declared.cmp.Ordering.TheVariants.{Less}
use Rattle.std.proofs.lemmas.Bool.Decides.{nat_tests}
use Rattle.std.proofs.lemmas.List.{reverse-append}
use Rattle.std.proofs.lemmas.List.Elements.{filter_map-append}
use Rattle.rd_script.specs.declared.line.NumberedLine.{NumberedLine}
use Rattle.rd_world.specs.Acts.{is_errand, is_errand_at}
use Rattle.rd_deeds.specs.Talk.{Has}

abbrev pub numbers : List NumberedLine → List ℕ
numbers ls = map (λ (l : NumberedLine). l.number) ls

abbrev pub Rise : List ℕ → Type 0
Rise ns = IsStrictlySortedBy nat_cmp ns

-- ---- lists that rise

less_without : (P : ℕ → Type 0) (xs : List ℕ) (n : ℕ) (ys : List ℕ) → AllByRecursion P (xs ++ n ∷ ys) → AllByRecursion P (xs ++ ys)
less_without P [] n ys all = all.1
less_without P (x ∷ xs) n ys all = (all.0, less_without P xs n ys all.1)

pub rise_without : (xs : List ℕ) (n : ℕ) (ys : List ℕ) → Rise (xs ++ n ∷ ys) → Rise (xs ++ ys)
unfolding IsStrictlySortedBy
rise_without [] n ys rise = rise.1
rise_without (x ∷ xs) n ys rise = (less_without (λ y. nat_cmp x y ≡ Less) xs n ys rise.0, rise_without xs n ys rise.1)

pub rise_with : (xs : List ℕ) (n : ℕ) (ys : List ℕ) → Rise (xs ++ n ∷ ys) → Rise ((xs ++ n ∷ []) ++ ys)
rise_with xs n ys rise = subst Rise (sym (append_assoc xs (n ∷ []) ys)) rise

-- ---- which lines are `do` lines

and_none : (a b : Bool) → b ≡ false → (a && b) ≡ false
and_none true b e = e
and_none false b e = refl

or_both : (a b : Bool) → a ≡ false → b ≡ false → (a || b) ≡ false
or_both true b e f = absurd cc
or_both false b e f = f

other_number : (m n : ℕ) (b : Bool) → nat_cmp m n ≡ Less → ((n == m) && b) ≡ false
other_number m n b less = by (n == m) refl
  where
    by : (x : Bool) → (n == m) ≡ x → (x && b) ≡ false
    by true e = absurd (grind (arith, nat_tests, e, less))
    by false e = refl

earlier_number : (m n : ℕ) (b : Bool) → nat_cmp m n ≡ Less → ((m == n) && b) ≡ false
earlier_number m n b less = by (m == n) refl
  where
    by : (x : Bool) → (m == n) ≡ x → (x && b) ≡ false
    by true e = absurd (grind (arith, nat_tests, e, less))
    by false e = refl

none_later : (m : ℕ) (ls : List NumberedLine) → AllByRecursion (λ y. nat_cmp m y ≡ Less) (numbers ls) → is_errand_at ls m ≡ false
none_later m [] all = refl
none_later m (x ∷ ls) all = or_both _ _ (other_number m x.number (is_errand x.line) all.0) (none_later m ls all.1)

number_has : (P : ℕ → Type 0) (ls : List NumberedLine) (l : NumberedLine) → Has l ls → AllByRecursion P (numbers ls) → P l.number
number_has P [] l has all = absurd has
number_has P (x ∷ ls) l (inl e) all = subst (λ (y : NumberedLine). P y.number) (sym e) all.0
number_has P (x ∷ ls) l (inr has) all = number_has P ls l has all.1

-- another line's number is no `do` line's
pub no_errand : (ls : List NumberedLine) (l : NumberedLine) → Rise (numbers ls) → Has l ls → is_errand l.line ≡ false → is_errand_at ls l.number ≡ false
unfolding IsStrictlySortedBy
no_errand [] l rise has off = absurd has
no_errand (x ∷ ls) l rise (inl e) off =
    let same : is_errand x.line ≡ false = ap (λ (y : NumberedLine). is_errand y.line) (sym e) ∙ off in
    or_both _ _ (and_none (x.number == l.number) (is_errand x.line) same)
    (none_later l.number ls (subst (λ (y : NumberedLine). AllByRecursion (λ n. nat_cmp y.number n ≡ Less) (numbers ls)) (sym e) rise.0))
no_errand (x ∷ ls) l rise (inr has) off =
    or_both _ _ (earlier_number x.number l.number (is_errand x.line) (number_has (λ n. nat_cmp x.number n ≡ Less) ls l has rise.0)) (no_errand ls l rise.1 has off)

own_number : (n : ℕ) (b : Bool) → b ≡ true → ((n == n) && b) ≡ true
own_number n b e = by (n == n) refl
  where
    by : (x : Bool) → (n == n) ≡ x → (x && b) ≡ true
    by true is = e
    by false is = absurd (grind (arith, nat_tests, is))

or_first : (a b : Bool) → a ≡ true → (a || b) ≡ true
or_first true b e = refl
or_first false b e = absurd cc

or_second : (a b : Bool) → b ≡ true → (a || b) ≡ true
or_second true b e = refl
or_second false b e = e

pub an_errand : (ls : List NumberedLine) (l : NumberedLine) → Has l ls → is_errand l.line ≡ true → is_errand_at ls l.number ≡ true
an_errand [] l has on = absurd has
an_errand (x ∷ ls) l (inl e) on = or_first _ _ (subst (λ (y : NumberedLine). ((y.number == l.number) && is_errand y.line) ≡ true) e (own_number l.number (is_errand l.line) on))
an_errand (x ∷ ls) l (inr has) on = or_second _ _ (an_errand ls l has on)

-- ---- what was picked, in the other order

pub reverse_cons : {A : Type 0} (x : A) (xs : List A) → reverse (x ∷ xs) ≡ reverse xs ++ x ∷ []
reverse_cons x xs = reverse-append (x ∷ []) xs

pub picked_reverse : {A B : Type 0} (f : A → Option B) (xs : List A) → filter_map f (reverse xs) ≡ reverse (filter_map f xs)
picked_reverse f [] = refl
picked_reverse {A} {B} f (x ∷ xs) =
    ap (λ (l : List A). filter_map f l) (reverse_cons x xs) ∙ filter_map-append f (reverse xs) (x ∷ []) ∙ by (f x) (picked_reverse f xs)
  where
    by : (o : Option B) → filter_map f (reverse xs) ≡ reverse (filter_map f xs) → filter_map f (reverse xs) ++ cons_option o [] ≡ reverse (cons_option o (filter_map f xs))
    by None same = append-nil (filter_map f (reverse xs)) ∙ same
    by (Some y) same = ap (λ (ys : List B). ys ++ y ∷ []) same ∙ sym (reverse_cons y (filter_map f xs))
