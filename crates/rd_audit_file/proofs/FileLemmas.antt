-- Audit files: what is written is read back.
use Rattle.std.proofs.Common.{◌≡◌, refl, ◌∙◌, ap, ap₂, ℕ, ◌+◌, ◌^◌, ◌<◌, arith, List, ◌++◌, length, take, drop, false, append_assoc}
use Rattle.std.specs.Prelude.{nat_lt, Ok}
use Rattle.std.specs.Int.{w32, from_le_bytes, to_le_bytes}
use Rattle.std.proofs.Math.Seq.{take-append_seam, drop-append_seam}
use Rattle.std.proofs.lemmas.Bool.Decides.{nat_tests}
use Rattle.std.proofs.lemmas.List.{length-append}
use Rattle.std.proofs.lemmas.Nat.{from_le_bytes-to_le_bytes_4}
use Rattle.rd_base.specs.Counted.{bytes_and_count}
use Rattle.rd_audit_file.specs.File.{audit_magic, behind_magic, counted_at, part_at, IsReadBack}

enough : (xs ys : List ℕ) → nat_lt (length (xs ++ ys)) (length xs) ≡ false
enough xs ys = let lengths : length (xs ++ ys) ≡ length xs + length ys = length-append xs ys in grind (arith, nat_tests)

-- bytes that are there are read
part_at-append : (at : ℕ) (xs rest : List ℕ) → part_at (length xs) (record { at = at; left = xs ++ rest }) ≡ Ok (xs, record { at = at + length xs; left = rest })
part_at-append at xs rest = rw (enough xs rest) (ap₂ (λ (field left : List ℕ). Ok (field, record { at = at + length xs; left = left })) (take-append_seam xs rest) (drop-append_seam xs rest))

counted : (at count : ℕ) (field others : List ℕ) → length field ≡ 4 → from_le_bytes w32 field ≡ count → counted_at (record { at = at; left = field ++ others }) ≡ part_at count (record { at = at + 4; left = others })
counted at count field others four is =
    let test : nat_lt (length (field ++ others)) 4 ≡ false = rw (← four) (enough field others) in
    let first : take 4 (field ++ others) ≡ field = rw (← four) (take-append_seam field others) in
    let second : drop 4 (field ++ others) ≡ others = rw (← four) (drop-append_seam field others) in
    rw (test, first, second, is) refl

-- Bytes after the count of them are read.
pub counted_at-append : (at : ℕ) (xs rest : List ℕ) → length xs < 2 ^ 32 → counted_at (record { at = at; left = bytes_and_count xs ++ rest }) ≡ Ok (xs, record { at = at + 4 + length xs; left = rest })
counted_at-append at xs rest small =
    ap (λ (left : List ℕ). counted_at (record { at = at; left = left })) (append_assoc (to_le_bytes w32 (length xs)) xs rest)
    ∙ counted at (length xs) (to_le_bytes w32 (length xs)) (xs ++ rest) refl (from_le_bytes-to_le_bytes_4 (length xs) small)
    ∙ part_at-append (at + 4) xs rest

behind_magic-append : (rest : List ℕ) → behind_magic (audit_magic ++ rest) ≡ Ok (record { at = 8; left = rest })
behind_magic-append rest = let test : nat_lt (length (audit_magic ++ rest)) 8 ≡ false = enough audit_magic rest in rw test refl

pub read_back : (script text recording : List ℕ) → length script < 2 ^ 32 → length text < 2 ^ 32 → IsReadBack script text recording
read_back script text recording script_fits text_fits = record {
  begins = behind_magic-append (bytes_and_count script ++ (bytes_and_count text ++ recording));
  first = counted_at-append 8 script (bytes_and_count text ++ recording) script_fits;
  second = counted_at-append (12 + length script) text recording text_fits;
}
