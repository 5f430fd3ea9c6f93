-- Places that are overwritten.
use Rattle.std.proofs.Common.{◌≡◌, ◌∙◌, sym, ap, ℕ, ◌+◌, ◌-◌, ◌<◌, ◌≤◌, ◌++◌, cond, ◌&&◌, List, length, take, drop, arith, ltb, leb, get_or, ⊎_elim}
use Rattle.std.proofs.lemmas.Bool.{cases_lt, lt-ltb, le-ltb}
use Rattle.std.proofs.lemmas.Bool.Decides.{nat_tests}
use Rattle.std.proofs.lemmas.List.{get_or-take, get_or-drop, get_or_append_left, get_or-append_right, length-take-le}
use Rattle.rd_contents.specs.Pages.{over}

pub over_before : (start count : ℕ) (bytes : List ℕ) (f : ℕ → ℕ) (i : ℕ) → i < start → over start count bytes f i ≡ f i
unfolding over
over_before start count bytes f i h = grind (arith, nat_tests)

pub over_past : (start count : ℕ) (bytes : List ℕ) (f : ℕ → ℕ) (i : ℕ) → start + count ≤ i → over start count bytes f i ≡ f i
unfolding over
over_past start count bytes f i h = grind (arith, nat_tests)

pub over_at : (start count : ℕ) (bytes : List ℕ) (f : ℕ → ℕ) (i : ℕ) → start ≤ i → i < start + count → over start count bytes f i ≡ get_or bytes (i - start) 0
unfolding over
over_at start count bytes f i from to = grind (arith, nat_tests)

-- where a number stands: before another, or not
pub before_or_past : {P : Type 0} (i n : ℕ) → (i < n → P) → (n ≤ i → P) → P
before_or_past i n before past = ⊎_elim before past (cases_lt i n)

-- what is chosen by it
pub cond_before : {X : Type 0} (x y : X) (i n : ℕ) → i < n → cond (ltb i n) x y ≡ x
cond_before x y i n h = ap (λ b. cond b x y) (lt-ltb i n h)

pub cond_past : {X : Type 0} (x y : X) (i n : ℕ) → n ≤ i → cond (ltb i n) x y ≡ y
cond_past x y i n h = ap (λ b. cond b x y) (le-ltb i n h)

-- before some places, at them, or past them
pub around : {P : Type 0} (i start count : ℕ) → (i < start → P) → (start ≤ i → i < start + count → P) → (start + count ≤ i → P) → P
around i start count before at past = before_or_past i start before (λ from. before_or_past i (start + count) (at from) past)

-- one piece more
pub over_more : (n f : ℕ → ℕ) (start done count : ℕ) (bytes : List ℕ) (i : ℕ)
    → n i ≡ over (start + done) count (take count (drop done bytes)) (over start done bytes f) i → n i ≡ over start (done + count) bytes f i
over_more n f start done count bytes i is = is ∙ around i (start + done) count
    (λ h. over_before (start + done) count _ _ i h ∙ around i start done
    (λ k. over_before start done bytes f i k ∙ sym (over_before start (done + count) bytes f i k))
    (λ k l. over_at start done bytes f i k l ∙ sym (over_at start (done + count) bytes f i k (omega arith)))
    (λ k. absurd (omega arith)))
    (λ h k. over_at (start + done) count _ _ i h k ∙ get_or-take count (drop done bytes) (i - (start + done)) 0 (omega arith) ∙ get_or-drop done bytes (i - (start + done)) 0 ∙ ap (λ j. get_or bytes j 0) (omega arith) ∙ sym (over_at start (done + count) bytes f i (omega arith) (omega arith)))
    (λ h. over_past (start + done) count _ _ i h ∙ over_past start done bytes f i (omega arith) ∙ sym (over_past start (done + count) bytes f i (omega arith)))

-- a part of a list is overwritten
pub put_mid-over : (xs ys : List ℕ) (a k i : ℕ) → length ys ≡ k → a + k ≤ length xs → get_or (take a xs ++ (ys ++ drop k (drop a xs))) i 0 ≡ over a k ys (λ n. get_or xs n 0) i
put_mid-over xs ys a k i long fits =
    let long_enough : length (take a xs) ≡ a = length-take-le a xs (omega arith) in
    around i a k
    (λ h. get_or_append_left (take a xs) (ys ++ drop k (drop a xs)) 0 i (omega arith) ∙ get_or-take a xs i 0 h ∙ sym (over_before a k ys (λ n. get_or xs n 0) i h))
    (λ h l. get_or-append_right (take a xs) (ys ++ drop k (drop a xs)) a i 0 long_enough h ∙ get_or_append_left ys (drop k (drop a xs)) 0 (i - a) (omega arith) ∙ sym (over_at a k ys (λ n. get_or xs n 0) i h l))
    (λ h. get_or-append_right (take a xs) (ys ++ drop k (drop a xs)) a i 0 long_enough (omega arith) ∙ get_or-append_right ys (drop k (drop a xs)) k (i - a) 0 long (omega arith) ∙ get_or-drop k (drop a xs) (i - a - k) 0 ∙ get_or-drop a xs (k + (i - a - k)) 0 ∙ ap (λ n. get_or xs n 0) (omega arith) ∙ sym (over_past a k ys (λ n. get_or xs n 0) i h))

pub over_none : (start count : ℕ) (bytes : List ℕ) (f : ℕ → ℕ) (i : ℕ) → count ≡ 0 → over start count bytes f i ≡ f i
over_none start count bytes f i none = around i start count (over_before start count bytes f i) (λ h l. absurd (omega arith)) (over_past start count bytes f i)

pub over_same : (start count : ℕ) (bytes : List ℕ) (f g : ℕ → ℕ) (i : ℕ) → ((j : ℕ) → f j ≡ g j) → over start count bytes f i ≡ over start count bytes g i
unfolding over
over_same start count bytes f g i same = ap (λ (n : ℕ). cond (leb start i && ltb i (start + count)) (get_or bytes (i - start) 0) n) (same i)
