-- Going over a body without its value being made: what is left is what its layout leaves.
use Rattle.std.proofs.lemmas.List.{drop-drop, length-append, length-drop}
use Rattle.std.specs.Int.{w64, from_le_bytes}
use Rattle.std.proofs.Common.{take, lt-ltb, ltb, true, ◌≡◌, ℕ, zero, suc, ◌+◌, ◌-◌, ◌*◌, ◌<◌, ◌≤◌, List, ◌∷◌, length, drop, Result, Ok, Err, refl, sym, ap, subst, ◌∙◌, inl, inr, arith}
use Rattle.std.specs.Prelude.{IsErr}
use Rattle.std.proofs.lemmas.Bool.{cases_lt}
use Rattle.rd_base.specs.declared.bad.Bad.{Bad}
use Rattle.rd_base.specs.Position.{Position, at_start}
use Rattle.rd_base.specs.Layout.{Layout, any_bytes, and_then, field_of, met, past}
use Rattle.rd_base.specs.Fields.{number64, path, times}
use Rattle.rd_base.proofs.LayoutLemmas.{field_enough, found}
use Rattle.rd_base.proofs.NumberLemmas.{IsBytes}
use Rattle.rd_base.proofs.ResultLemmas.{ok_one}
use Rattle.rd_base.proofs.TextLemmas.{path_met}
use Rattle.rd_irp.specs.Measure.{left_after, measure_of, tail_of}
use Rattle.rd_irp.specs.Request.{body_after, request_head}
use Rattle.rd_irp.specs.declared.op.Op.{Op}
use Rattle.rd_irp.specs.declared.request.RequestHead.{RequestHead}
use Rattle.rd_irp.specs.Op.{range}
use Rattle.rd_irp.specs.declared.op.Range.{Range}

-- what is left after a value
abbrev pub rest : {A : Type 0} → Result (A × Position) Bad → Result Position Bad
rest r = and_then r (λ x. Ok x.1)

-- a path takes the bytes that its count says
pub path_passed : (count : ℕ) (p : Position) (field : List ℕ) (q : Position) → met (any_bytes count) p ≡ Ok (field, q) → rest (met (path count) p) ≡ Ok q
path_passed count p field q e = ap rest (path_met count p field q _ e refl)

-- two fields, one after the other
past_both : (m n : ℕ) (p : Position) → past n (past m p) ≡ past (m + n) p
past_both m n p =
    let at : p.at + m + n ≡ p.at + (m + n) = omega arith in
    let left : drop n (drop m p.left) ≡ drop (m + n) p.left = drop-drop n m p.left in
    rw (at, left) refl

enough_after : (m n : ℕ) (p : Position) → m + n ≤ length p.left → n ≤ length (past m p).left
enough_after m n p enough = let len : length (drop m p.left) ≡ length p.left - m = length-drop m p.left in rw len (omega (arith, enough))

-- a range takes sixteen bytes
range_passed : (p : Position) → 16 ≤ length p.left → rest (met range p) ≡ Ok (past 16 p)
unfolding range
range_passed p enough =
    let first : met number64 p ≡ Ok (from_le_bytes w64 (take 8 p.left), past 8 p) = field_enough 8 p _ (omega (arith, enough)) in
    let second : met number64 (past 8 p) ≡ Ok (from_le_bytes w64 (take 8 (past 8 p).left), past 8 (past 8 p)) = field_enough 8 (past 8 p) _ (enough_after 8 8 p enough) in
    rw (first, second) (ap (λ (q : Position). Ok q) (past_both 8 8 p))

-- what is left after a value that is put before others
rest_same : (r : Range) (rs : Result (List Range × Position) Bad) → rest (and_then rs (λ x. Ok (r ∷ x.0, x.1))) ≡ rest rs
rest_same r (Ok x) = refl
rest_same r (Err bad) = refl

-- so many ranges take as many times sixteen bytes
ranges_rest : (count : ℕ) (p : Position) → 16 * count ≤ length p.left → rest (met (times count range) p) ≡ Ok (past (16 * count) p)
ranges_rest zero p enough = let at : p.at + 0 ≡ p.at = omega arith in rw at refl
ranges_rest (suc count) p enough =
    go (ranges_rest count (past 16 p) (enough_after 16 (16 * count) p (omega (arith, enough)))) (met range p) refl (range_passed p (omega (arith, enough)))
  where
    go : rest (met (times count range) (past 16 p)) ≡ Ok (past (16 * count) (past 16 p)) → (r : Result (Range × Position) Bad) → met range p ≡ r → rest r ≡ Ok (past 16 p) → rest (met (times (suc count) range) p) ≡ Ok (past (16 * suc count) p)
    go others (Err bad) is passed = absurd cc
    go others (Ok x) is passed =
        let q_is : x.1 ≡ past 16 p = cc in
        let n : 16 + 16 * count ≡ 16 * suc count = omega arith in
        rw is (rest_same x.0 (met (times count range) x.1) ∙ ap (λ (q : Position). rest (met (times count range) q)) q_is ∙ others ∙ ap (λ (q : Position). Ok q) (past_both 16 (16 * count) p) ∙ ap (λ (m : ℕ). Ok (past m p)) n)

-- ---- faults
fails_then : {A B : Type 0} (r : Result A Bad) (f : A → Result B Bad) → IsErr r → IsErr (and_then r f)
fails_then (Ok a) f fails = absurd cc
fails_then (Err bad) f fails = fails

field_fails : {A : Type 0} (n : ℕ) (p : Position) (r : Result A Bad) → length p.left < n → IsErr (field_of n p r)
field_fails n p r few = let e : ltb (length p.left) n ≡ true = lt-ltb _ _ few in rw e refl

-- where fewer than sixteen bytes are left, a range is a fault
range_fails : (p : Position) → length p.left < 16 → IsErr (met range p)
unfolding range
range_fails p few = elim (cases_lt (length p.left) 8) [
  | inl less ↦ fails_then (met number64 p) _ (field_fails 8 p _ less)
  | inr more ↦
      let first : met number64 p ≡ Ok (from_le_bytes w64 (take 8 p.left), past 8 p) = field_enough 8 p _ more in
      let len : length (drop 8 p.left) ≡ length p.left - 8 = length-drop 8 p.left in
      rw first (fails_then (met number64 (past 8 p)) _ (field_fails 8 (past 8 p) _ (rw len (omega (arith, few, more)))))
]

-- where fewer bytes are left than the ranges have, there is a fault
ranges_fail : (count : ℕ) (p : Position) → length p.left < 16 * count → IsErr (met (times count range) p)
ranges_fail zero p few = absurd (omega (arith, few))
ranges_fail (suc count) p few = elim (cases_lt (length p.left) 16) [
  | inl less ↦ fails_then (met range p) _ (range_fails p less)
  | inr more ↦
      let len : length (drop 16 p.left) ≡ length p.left - 16 = length-drop 16 p.left in
      go (ranges_fail count (past 16 p) (rw len (omega (arith, few, more)))) (met range p) refl (range_passed p more)
]
  where
    go : IsErr (met (times count range) (past 16 p)) → (r : Result (Range × Position) Bad) → met range p ≡ r → rest r ≡ Ok (past 16 p) → IsErr (met (times (suc count) range) p)
    go others (Err bad) is passed = absurd cc
    go others (Ok x) is passed =
        let q_is : x.1 ≡ past 16 p = cc in
        rw is (fails_then (met (times count range) x.1) _ (subst (λ (q : Position). IsErr (met (times count range) q)) (sym q_is) others))

-- ---- what a reader of the bytes shows
-- the bytes of so many ranges
pub ranges_passed : (count : ℕ) (p : Position) (field : List ℕ) (q : Position) → met (any_bytes (count * 16)) p ≡ Ok (field, q) → rest (met (times count range) p) ≡ Ok q
ranges_passed count p field q e = elim (cases_lt (length p.left) (count * 16)) [
  | inl few ↦ absurd (fails_ok (field_fails (count * 16) p _ few) e)
  | inr enough ↦
      let read : met (any_bytes (count * 16)) p ≡ Ok (take (count * 16) p.left, past (count * 16) p) = field_enough (count * 16) p _ enough in
      let q_is : past (count * 16) p ≡ q = second_is (sym read ∙ e) in
      let n : 16 * count ≡ count * 16 = omega arith in
      ranges_rest count p (omega (arith, enough)) ∙ ap (λ (m : ℕ). Ok (past m p)) n ∙ ap (λ (x : Position). Ok x) q_is
]
  where
    fails_ok : {r : Result (List ℕ × Position) Bad} {x : List ℕ × Position} → IsErr r → r ≡ Ok x → ⊥
    fails_ok fails is = absurd cc

    second_is : {x y : List ℕ × Position} → ◌≡◌ {A = Result (List ℕ × Position) Bad} (Ok x) (Ok y) → x.1 ≡ y.1
    second_is is = cc

-- or a fault
pub ranges_failed : (count : ℕ) (p : Position) (bad : Bad) → met (any_bytes (count * 16)) p ≡ Err bad → IsErr (met (times count range) p)
ranges_failed count p bad e = elim (cases_lt (length p.left) (count * 16)) [
  | inl few ↦ ranges_fail count p (omega (arith, few))
  | inr enough ↦
      let read : met (any_bytes (count * 16)) p ≡ Ok (take (count * 16) p.left, past (count * 16) p) = field_enough (count * 16) p _ enough in
      absurd (differ (sym read ∙ e))
]
  where
    differ : {x : List ℕ × Position} → ◌≡◌ {A = Result (List ℕ × Position) Bad} (Ok x) (Err bad) → ⊥
    differ is = absurd cc

-- ---- no more bytes are left than there are
-- after a value
left_short : {A : Type 0} (l : Layout A) (p : Position) (a : A) (q : Position) → IsBytes p.left → met l p ≡ Ok (a, q) → (length q.left ≤ length p.left) × IsBytes q.left
left_short l p a q fits e =
    let t = found l p a q fits e in
    let parts : length p.left ≡ length t.field + length q.left = ap length t.parts ∙ length-append t.field q.left in
    (omega (arith, parts), t.rest_fits)

pub tail_short : {A : Type 0} (l : Layout A) (bytes : List ℕ) (tail : ℕ) → IsBytes bytes → tail_of l bytes ≡ Ok tail → tail ≤ length bytes
tail_short {A = A} l bytes tail fits e = go (met l (at_start bytes)) refl e
  where
    go : (r : Result (A × Position) Bad) → met l (at_start bytes) ≡ r → and_then r (λ x. Ok (length x.1.left)) ≡ Ok tail → tail ≤ length bytes
    go (Ok x) is got = let same : length x.1.left ≡ tail = cc in omega (arith, (left_short l (at_start bytes) x.0 x.1 fits is).0, same)
    go (Err bad) is got = absurd cc

pub measure_short : (bytes : List ℕ) (head : RequestHead) (tail : ℕ) → IsBytes bytes → measure_of bytes ≡ Ok (head, tail) → tail ≤ length bytes
measure_short bytes head tail fits e = go (met request_head (at_start bytes)) refl e
  where
    after : (x : RequestHead × Position) → met request_head (at_start bytes) ≡ Ok x → (r : Result (Op × Position) Bad) → met (body_after x.0) x.1 ≡ r → left_after (length x.1.left) r ≤ length bytes
    after x is (Ok y) body_is =
        let first = left_short request_head (at_start bytes) x.0 x.1 fits is in
        omega (arith, first.0, (left_short (body_after x.0) x.1 y.0 y.1 first.1 body_is).0)
    after x is (Err bad) body_is = (left_short request_head (at_start bytes) x.0 x.1 fits is).0

    tail_is : (x : RequestHead × ℕ) → ◌≡◌ {A = Result (RequestHead × ℕ) Bad} (Ok x) (Ok (head, tail)) → x.1 ≡ tail
    tail_is x is = ap (λ (y : RequestHead × ℕ). y.1) (ok_one (Ok x) x (head, tail) refl is)

    go : (r : Result (RequestHead × Position) Bad) → met request_head (at_start bytes) ≡ r → and_then {B = RequestHead × ℕ} r (λ x. Ok (x.0, left_after (length x.1.left) (met (body_after x.0) x.1))) ≡ Ok (head, tail) → tail ≤ length bytes
    go (Ok x) is got =
        let same : left_after (length x.1.left) (met (body_after x.0) x.1) ≡ tail = tail_is _ got in
        omega (arith, after x is (met (body_after x.0) x.1) refl, same)
    go (Err bad) is got = absurd cc
