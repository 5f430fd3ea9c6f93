-- The parts of an audit file: where each begins, by the parts before it.
use Rattle.std.proofs.Common.{◌≡◌, ℕ, ◌+◌, ◌-◌, ◌≤◌, Bool, true, false, List, length, take, drop, Result, Ok, Err, refl, sym, ap, ◌∙◌, arith}
use Rattle.std.specs.Prelude.{nat_eq, nat_lt, if◌then◌else◌}
use Rattle.std.specs.Int.{w32, from_le_bytes}
use Rattle.std.specs.List.{starts_with}
use Rattle.std.specs.Result.{result_unwrap_or}
use Rattle.std.proofs.lemmas.Bool.{ltb-false}
use Rattle.std.proofs.lemmas.List.{length-drop, length-take-le}
use Rattle.rd_base.specs.declared.bad.Why.TheVariants.{Short, Value}
use Rattle.rd_base.specs.Layout.{past}
use Rattle.rd_base.specs.Position.{Position, at_start}
use Rattle.rd_audit_file.specs.declared.fault.FieldFault.{FieldFault}
use Rattle.rd_audit_file.specs.File.{audit_magic, behind_magic, counted_at, part_at}

-- A position goes on from another one, behind so many bytes and a field.
pub record GoesOn (p : Position) (skipped : ℕ) (field : List ℕ) (q : Position) : Type 0 where
  pub whole : q.at + length q.left ≡ p.at + length p.left
  pub place : q.at ≡ p.at + skipped + length field
  pub within : skipped + length field ≤ length p.left

part_goes : (count : ℕ) (p q : Position) (field : List ℕ) → part_at count p ≡ Ok (field, q) → GoesOn p 0 field q
part_goes count p q field is = go (nat_lt (length p.left) count) refl is
  where
    go : (b : Bool) → nat_lt (length p.left) count ≡ b → if◌then◌else◌ {A = Result (List ℕ × Position) FieldFault} b (Err (record { at = p.at; why = Short })) (Ok (take count p.left, past count p)) ≡ Ok (field, q) → GoesOn p 0 field q
    go true e found = absurd cc
    go false e found =
        let same : (take count p.left, past count p) ≡ (field, q) = ap (λ (r : Result (List ℕ × Position) FieldFault). result_unwrap_or r (field, q)) found in
        let enough : count ≤ length p.left = ltb-false (length p.left) count e in
        let len : length field ≡ count = ap length (sym (ap (λ (x : List ℕ × Position). x.0) same)) ∙ length-take-le count p.left enough in
        let at : q.at ≡ p.at + count = sym (ap (λ (x : List ℕ × Position). (x.1).at) same) in
        let left : length q.left ≡ length p.left - count = ap length (sym (ap (λ (x : List ℕ × Position). (x.1).left) same)) ∙ length-drop count p.left in
        record { whole = omega (arith, at, left, enough); place = omega (arith, at, len); within = omega (arith, len, enough) }

pub counted_goes : (p q : Position) (field : List ℕ) → counted_at p ≡ Ok (field, q) → GoesOn p 4 field q
counted_goes p q field is = go (nat_lt (length p.left) 4) refl is
  where
    go : (b : Bool) → nat_lt (length p.left) 4 ≡ b → if◌then◌else◌ {A = Result (List ℕ × Position) FieldFault} b (Err (record { at = p.at; why = Short })) (part_at (from_le_bytes w32 (take 4 p.left)) (past 4 p)) ≡ Ok (field, q) → GoesOn p 4 field q
    go true e found = absurd cc
    go false e found =
        let part = part_goes (from_le_bytes w32 (take 4 p.left)) (past 4 p) q field found in
        let four : 4 ≤ length p.left = ltb-false (length p.left) 4 e in
        let left : length (drop 4 p.left) ≡ length p.left - 4 = length-drop 4 p.left in
        record { whole = omega (arith, part.whole, four, left); place = omega (arith, part.place); within = omega (arith, part.within, four, left) }

-- behind the magic nothing but the magic is gone
pub file_goes : (bytes : List ℕ) (p : Position) → behind_magic bytes ≡ Ok p → p.at + length p.left ≡ length bytes
file_goes bytes p is = go (nat_lt (length bytes) 8) refl (starts_with nat_eq bytes audit_magic) is
  where
    go : (b : Bool) → nat_lt (length bytes) 8 ≡ b → (m : Bool) → if◌then◌else◌ {A = Result Position FieldFault} b (Err (record { at = 0; why = Short })) (if◌then◌else◌ {A = Result Position FieldFault} m (Ok (past 8 (at_start bytes))) (Err (record { at = 0; why = Value }))) ≡ Ok p → p.at + length p.left ≡ length bytes
    go true e m found = absurd cc
    go false e false found = absurd cc
    go false e true found =
        let same : past 8 (at_start bytes) ≡ p = ap (λ (r : Result Position FieldFault). result_unwrap_or r p) found in
        let eight : 8 ≤ length bytes = ltb-false (length bytes) 8 e in
        let at : p.at ≡ 8 = sym (ap (λ (x : Position). x.at) same) in
        let left : length p.left ≡ length bytes - 8 = ap length (sym (ap (λ (x : Position). x.left) same)) ∙ length-drop 8 bytes in
        omega (arith, at, left, eight)
