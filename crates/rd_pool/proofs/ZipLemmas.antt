-- Lists place by place, as a loop goes through them.
use Rattle.std.proofs.Common.{◌≡◌, ◌∙◌, refl, sym, ap, subst, ℕ, zero, suc, ◌+◌, ◌<◌, List, [], ◌∷◌, ◌++◌, append_assoc, append-nil, length, get_or, set, drop, map, arith}
use Rattle.std.specs.Prelude.{All}
use Rattle.std.specs.List.{AllZip, zip}
use Rattle.std.proofs.lemmas.List.{map-append}
use Rattle.std.proofs.lemmas.List.Elements.{All-push, All-same}

-- Where what is left goes with a list, the whole goes with what is done and then that list.
abbrev pub ZipsOn : {A B : Type 0} → (A → B → Type 0) → List A → List A → List B → Type 0
ZipsOn {A} {B} R all left done = (later : List B) → AllZip R left later → AllZip R all (done ++ later)

pub zips_none : {A B : Type 0} (R : A → B → Type 0) (all : List A) (done : List B) → done ≡ [] → ZipsOn R all all done
zips_none {A} {B} R all done none later zips = subst (λ (l : List B). AllZip R all (l ++ later)) (sym none) zips

pub zips_next : {A B : Type 0} (R : A → B → Type 0) (all left rest : List A) (done next : List B) (x : A) (y : B) → left ≡ x ∷ rest → next ≡ done ++ y ∷ [] → R x y → ZipsOn R all left done → ZipsOn R all rest next
zips_next {A} {B} R all left rest done next x y is more holds on later zips =
    subst (λ (l : List B). AllZip R all (l ++ later)) (sym more)
    (subst (λ (l : List B). AllZip R all l) (sym (append_assoc done (y ∷ []) later))
    (on (y ∷ later) (subst (λ (l : List A). AllZip R l (y ∷ later)) (sym is) (holds, zips))))

pub zips_all : {A B : Type 0} (R : A → B → Type 0) (all left : List A) (done : List B) → left ≡ [] → ZipsOn R all left done → AllZip R all done
zips_all {A} {B} R all left done none on = subst (λ (l : List B). AllZip R all l) (append-nil done) (on [] (subst (λ (l : List A). AllZip R l []) (sym none) tt))

-- a list that goes with one that isn't empty goes on at its place
pub zip_within : {A B : Type 0} (R : A → B → Type 0) (xs : List A) (at : ℕ) (y : B) (ys left : List B) → left ≡ y ∷ ys → AllZip R (drop at xs) left → at < length xs
zip_within {A} {B} R xs at y ys left is zips = by xs at (subst (λ (l : List B). AllZip R (drop at xs) l) is zips)
  where
    by : (xs : List A) (at : ℕ) → AllZip R (drop at xs) (y ∷ ys) → at < length xs
    by [] zero zips = absurd zips
    by [] (suc at) zips = absurd zips
    by (x ∷ xs) zero zips = omega arith
    by (x ∷ xs) (suc at) zips = let within = by xs at zips in omega arith

pub zip_here : {A B : Type 0} (R : A → B → Type 0) (xs : List A) (at : ℕ) (d : A) (y : B) (ys left : List B) → left ≡ y ∷ ys → AllZip R (drop at xs) left → R (get_or xs at d) y × AllZip R (drop (at + 1) xs) ys
zip_here {A} {B} R xs at d y ys left is zips =
    let more : suc at ≡ at + 1 = omega arith in
    subst (λ (n : ℕ). R (get_or xs at d) y × AllZip R (drop n xs) ys) more (by xs at (subst (λ (l : List B). AllZip R (drop at xs) l) is zips))
  where
    by : (xs : List A) (at : ℕ) → AllZip R (drop at xs) (y ∷ ys) → R (get_or xs at d) y × AllZip R (drop (suc at) xs) ys
    by [] zero zips = absurd zips
    by [] (suc at) zips = absurd zips
    by (x ∷ xs) zero zips = zips
    by (x ∷ xs) (suc at) zips = by xs at zips

-- a list that goes with the rest of another is as long
pub zip_none : {A B : Type 0} (R : A → B → Type 0) (xs : List A) (ys : List B) → ys ≡ [] → AllZip R xs ys → xs ≡ []
zip_none R [] ys none zips = refl
zip_none {A} {B} R (x ∷ xs) ys none zips = absurd (subst (λ (l : List B). AllZip R (x ∷ xs) l) none zips)

pub zip_some : {A B : Type 0} (R : A → B → Type 0) (x : A) (xs left : List A) (ys : List B) → left ≡ x ∷ xs → AllZip R left ys → ys ≡ [] → ⊥
zip_some {A} {B} R x xs left ys is zips none = subst (λ (l : List B). AllZip R (x ∷ xs) l) none (subst (λ (l : List A). AllZip R l ys) is zips)

-- two lists that go with the same third one end together
pub both_some : {A B C : Type 0} (R : A → B → Type 0) (Q : A → C → Type 0) (xs : List A) (y : B) (ys : List B) (left : List B) (zs : List C) → left ≡ y ∷ ys → AllZip R xs left → AllZip Q xs zs → zs ≡ [] → ⊥
both_some {A} {B} {C} R Q [] y ys left zs is r q none = subst (λ (l : List B). AllZip R [] l) is r
both_some {A} {B} {C} R Q (x ∷ xs) y ys left zs is r q none = subst (λ (l : List C). AllZip Q (x ∷ xs) l) none q

-- the values of what is left come after what is done
pub map_next : {A B : Type 0} (f : A → B) (all left rest : List A) (done next : List B) (x : A) (y : B) → left ≡ x ∷ rest → next ≡ done ++ y ∷ [] → y ≡ f x → done ++ map f left ≡ map f all → next ++ map f rest ≡ map f all
map_next {A} {B} f all left rest done next x y is more here on =
    ap (λ (l : List B). l ++ map f rest) more ∙ (append_assoc done (y ∷ []) (map f rest) ∙ (ap (λ (z : B). done ++ z ∷ map f rest) here ∙ (ap (λ (l : List A). done ++ map f l) (sym is) ∙ on)))

pub map_all : {A B : Type 0} (f : A → B) (all left : List A) (done : List B) → left ≡ [] → done ++ map f left ≡ map f all → done ≡ map f all
map_all {A} {B} f all left done none on = sym (append-nil done) ∙ (ap (λ (l : List A). done ++ map f l) (sym none) ∙ on)

-- what is left comes after the values of what is done
pub mapped_next : {A B : Type 0} (f : A → B) (all left rest : List B) (done next : List A) (x : A) (y : B) → left ≡ y ∷ rest → next ≡ done ++ x ∷ [] → f x ≡ y → map f done ++ left ≡ all → map f next ++ rest ≡ all
mapped_next {A} {B} f all left rest done next x y is more here on =
    ap (λ (l : List A). map f l ++ rest) more ∙ (ap (λ (l : List B). l ++ rest) (map-append f done (x ∷ []))
    ∙ (append_assoc (map f done) (f x ∷ []) rest ∙ (ap (λ (z : B). map f done ++ z ∷ rest) here ∙ (ap (λ (l : List B). map f done ++ l) (sym is) ∙ on))))

pub mapped_all : {A B : Type 0} (f : A → B) (all left : List B) (done : List A) → left ≡ [] → map f done ++ left ≡ all → map f done ≡ all
mapped_all {A} {B} f all left done none on = sym (append-nil (map f done)) ∙ (ap (λ (l : List B). map f done ++ l) (sym none) ∙ on)

pub all_next : {A : Type 0} (P : A → Type 0) (done next : List A) (y : A) → next ≡ done ++ y ∷ [] → P y → All P done → All P next
all_next P done next y more holds all = All-same P next (done ++ y ∷ []) more (All-push P done y all holds)

-- ---- two lists side by side

pub zip_cons : {A B : Type 0} (x : A) (xs left : List A) (y : B) (ys right : List B) → left ≡ x ∷ xs → right ≡ y ∷ ys → zip left right ≡ (x, y) ∷ zip xs ys
zip_cons {A} {B} x xs left y ys right l r = ap (λ (a : List A). zip a right) l ∙ ap (λ (b : List B). zip (x ∷ xs) b) r

pub zip_nothing : {A B : Type 0} (left : List A) (right : List B) → left ≡ [] → zip left right ≡ []
zip_nothing {A} {B} left right none = ap (λ (a : List A). zip a right) none

pub zip_first : {A B : Type 0} (R : A → B → Type 0) (x : A) (xs left : List A) (y : B) (ys right : List B) → left ≡ x ∷ xs → right ≡ y ∷ ys → AllZip R left right → R x y × AllZip R xs ys
zip_first {A} {B} R x xs left y ys right l r zips = subst (λ (b : List B). AllZip R (x ∷ xs) b) r (subst (λ (a : List A). AllZip R a right) l zips)

-- one is put in the place of another with the same value
pub map_set : {A B : Type 0} (f : A → B) (xs : List A) (at : ℕ) (d y : A) → f y ≡ f (get_or xs at d) → map f (set xs at y) ≡ map f xs
map_set f [] at d y same = refl
map_set f (x ∷ xs) zero d y same = ap (λ z. z ∷ map f xs) same
map_set f (x ∷ xs) (suc at) d y same = ap (λ l. f x ∷ l) (map_set f xs at d y same)

-- what goes with the item at a place, and another that goes with it
pub zip_get : {A B : Type 0} (R : A → B → Type 0) (xs : List A) (ys : List B) (at : ℕ) (d : A) (e : B) → at < length xs → AllZip R xs ys → R (get_or xs at d) (get_or ys at e)
zip_get R [] ys at d e within zips = absurd (omega (arith, within))
zip_get R (x ∷ xs) [] at d e within zips = absurd zips
zip_get R (x ∷ xs) (y ∷ ys) zero d e within zips = zips.0
zip_get R (x ∷ xs) (y ∷ ys) (suc at) d e within zips = zip_get R xs ys at d e (omega (arith, within)) zips.1

pub zip_set : {A B : Type 0} (R : A → B → Type 0) (xs : List A) (ys : List B) (at : ℕ) (d : A) (y : B) → R (get_or xs at d) y → AllZip R xs ys → AllZip R xs (set ys at y)
zip_set R [] [] at d y holds zips = tt
zip_set R [] (z ∷ ys) at d y holds zips = absurd zips
zip_set R (x ∷ xs) [] at d y holds zips = absurd zips
zip_set R (x ∷ xs) (z ∷ ys) zero d y holds zips = (holds, zips.1)
zip_set R (x ∷ xs) (z ∷ ys) (suc at) d y holds zips = (zips.0, zip_set R xs ys at d y holds zips.1)
