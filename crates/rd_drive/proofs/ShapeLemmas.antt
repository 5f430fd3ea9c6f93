-- What a layout says of a value that it met, whatever the bytes are.
use Rattle.std.proofs.Common.{◌≡◌, refl, sym, ap, subst, ℕ, zero, suc, ◌-◌, ◌/◌, ◌≤◌, Bool, true, false, cond, List, length, Result, Ok, Err, Some, arith, ltb}
use Rattle.std.specs.Prelude.{IsTrue}
use Rattle.std.proofs.lemmas.Bool.{leb-true}
use Rattle.rd_base.specs.declared.bad.Bad.{Bad}
use Rattle.rd_base.specs.declared.bad.Why.TheVariants.{Short}
use Rattle.rd_base.specs.Position.{Position}
use Rattle.rd_base.specs.Layout.{Layout, done, number, any_bytes, bytes_left, test, within, ◌>>=◌, bad_at, field_of, met, past}
use Rattle.rd_base.specs.Fields.{number16, times}
use Rattle.rd_base.proofs.ResultLemmas.{and_then_ok, ok_one}
use Rattle.rd_fileinfo.specs.Label.{label_set}
use Rattle.rd_drive.specs.SetVolume.{label_of, label_read}
use Rattle.rd_drive.proofs.LabelLemmas.{shorter}

-- what holds of the values of a layout, its bytes apart
abbrev Shaped : {A : Type 0} → Layout A → A → Type 0
Shaped (done x) a = a ≡ x
Shaped (number s) n = Unit {0}
Shaped (any_bytes count) xs = Unit {0}
Shaped bytes_left n = Unit {0}
Shaped (test holds back why) u = IsTrue holds
Shaped (within count l) a = Shaped l a
Shaped (◌>>=◌ {A = A} l next) b = (a : A) × Shaped l a × Shaped (next a) b

field_is : {A : Type 0} (n : ℕ) (p : Position) (r : Result A Bad) (y : A) → field_of n p r ≡ Ok y → r ≡ Ok y
field_is {A} n p r y e = by (ltb (length p.left) n) e
  where
    by : (b : Bool) → cond b (Err (bad_at p.at Short)) r ≡ Ok y → r ≡ Ok y
    by true h = absurd cc
    by false h = h

shaped : {A : Type 0} (l : Layout A) (p : Position) (a : A) (q : Position) → met l p ≡ Ok (a, q) → Shaped l a
shaped (done {A = A} x) p a q e = sym (ap (λ (y : A × Position). y.0) (ok_one (Ok (x, p)) (x, p) (a, q) refl e))
shaped (number s) p a q e = tt
shaped (any_bytes count) p a q e = tt
shaped bytes_left p a q e = tt
shaped (test holds back why) p a q e = by holds e
  where
    by : (b : Bool) → cond {A = Result (Unit {0} × Position) Bad} b (Ok (tt, p)) (Err (bad_at (p.at - back) why)) ≡ Ok (a, q) → IsTrue b
    by true h = refl
    by false h = absurd cc
shaped (within {A = A} count l) p a q e =
    let inner = and_then_ok (met l _) _ (a, q) (field_is count p _ (a, q) e) in
    let same : (inner.0).0 ≡ a = ap (λ (y : A × Position). y.0) (ok_one (Ok ((inner.0).0, past count p)) ((inner.0).0, past count p) (a, q) refl inner.2) in
    subst (Shaped l) same (shaped l _ (inner.0).0 (inner.0).1 inner.1)
shaped (◌>>=◌ {A = A} l next) p b q e =
    let first = and_then_ok (met l p) _ (b, q) e in
    ((first.0).0, shaped l p (first.0).0 (first.0).1 first.1, shaped (next (first.0).0) (first.0).1 b q first.2)

so_many : (count : ℕ) (units : List ℕ) → Shaped (times count number16) units → length units ≡ count
so_many zero units s = ap (length {A = ℕ}) s
so_many (suc count) units s =
    let more = so_many count s.2.0 s.2.1 in
    let is : length units ≡ suc (length s.2.0) = ap (length {A = ℕ}) s.2.2 in
    omega (arith, is, more)

label_shaped : (label : List ℕ) → Shaped label_set label → length label ≤ 32
unfolding label_set
label_shaped label s =
    let few : s.0 ≤ 64 = leb-true s.0 64 s.2.1 in
    let units = s.2.2.2 in
    let many : length units.0 ≡ s.0 / 2 = so_many (s.0 / 2) units.0 units.1 in
    let cut : length label ≤ length units.0 = subst (λ (l : List ℕ). length l ≤ length units.0) (sym units.2) (shorter units.0) in
    omega (arith, few, many, cut)

-- a label that is read has at most 32 units
pub label_few : (buffer units : List ℕ) → label_of buffer ≡ Some units → length units ≤ 32
label_few buffer units e = by (met label_set (record { at = 0; left = buffer })) refl e
  where
    by : (r : Result (List ℕ × Position) Bad) → met label_set (record { at = 0; left = buffer }) ≡ r → label_read r ≡ Some units → length units ≤ 32
    by (Ok x) m h = let same : x.0 ≡ units = cc in subst (λ (l : List ℕ). length l ≤ 32) same (label_shaped x.0 (shaped label_set _ x.0 x.1 m))
    by (Err bad) m h = absurd cc
