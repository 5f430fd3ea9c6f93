-- The fields of a head, and what the table of faults says of them.
use Rattle.std.proofs.Common.{◌≡◌, ◌≢◌, ℕ, ◌+◌, ◌-◌, ◌<◌, ◌≤◌, List, [], ◌∷◌, ◌++◌, length, get_or, take, drop, refl, ◌∙◌, ap, arith, false, not, bit_and}
use Rattle.std.specs.Prelude.{◌==◌, None}
use Rattle.std.proofs.lemmas.List.{get_or-drop, get_or-take, length-drop, take-append-le, drop-append-le}
use Rattle.std.proofs.lemmas.Bool.Decides.{nat_tests}
use Rattle.std.specs.Int.{w32, from_le_bytes}
use Rattle.std.proofs.Common.{add-zero, zero, suc}
use Rattle.rd_chunk.specs.Frames.{size_of, length_of, flags_of}
use Rattle.rd_chunk.specs.Faults.{fields_fault, size_fault}

-- a byte of a field of a head
field_at : (xs : List ℕ) (have k i : ℕ) → i < 4 → k + i < have → get_or (take 4 (drop k (take have xs))) i 0 ≡ get_or xs (k + i) 0
field_at xs have k i h r = get_or-take 4 (drop k (take have xs)) i 0 h ∙ get_or-drop k (take have xs) i 0 ∙ get_or-take have xs (k + i) 0 r

-- the number of four bytes that are the same is the same
four_same : (xs ys : List ℕ) → ((i : ℕ) → i < 4 → get_or xs i 0 ≡ get_or ys i 0) → from_le_bytes w32 xs ≡ from_le_bytes w32 ys
four_same xs ys h =
    let h0 : get_or xs 0 0 ≡ get_or ys 0 0 = h 0 (omega arith) in
    let h1 : get_or xs 1 0 ≡ get_or ys 1 0 = h 1 (omega arith) in
    let h2 : get_or xs 2 0 ≡ get_or ys 2 0 = h 2 (omega arith) in
    let h3 : get_or xs 3 0 ≡ get_or ys 3 0 = h 3 (omega arith) in
    cc

bytes_at : List ℕ → ℕ → List ℕ
bytes_at xs k = get_or xs k 0 ∷ get_or xs (k + 1) 0 ∷ get_or xs (k + 2) 0 ∷ get_or xs (k + 3) 0 ∷ []

at_bytes : (xs : List ℕ) (k i : ℕ) → i < 4 → get_or xs (k + i) 0 ≡ get_or (bytes_at xs k) i 0
unfolding bytes_at
at_bytes xs k zero h = rw add-zero refl
at_bytes xs k (suc zero) h = refl
at_bytes xs k (suc (suc zero)) h = refl
at_bytes xs k (suc (suc (suc zero))) h = refl
at_bytes xs k (suc (suc (suc (suc i)))) h = absurd (omega arith)

pub size_at : (xs : List ℕ) (have : ℕ) → 4 ≤ have → size_of (take have xs) ≡ from_le_bytes w32 (get_or xs 0 0 ∷ get_or xs 1 0 ∷ get_or xs 2 0 ∷ get_or xs 3 0 ∷ [])
unfolding size_of bytes_at
size_at xs have h = four_same (take 4 (take have xs)) (bytes_at xs 0) (λ i r. field_at xs have 0 i r (omega arith) ∙ at_bytes xs 0 i r)

pub length_at : (xs : List ℕ) → length_of (take 12 xs) ≡ from_le_bytes w32 (get_or xs 4 0 ∷ get_or xs 5 0 ∷ get_or xs 6 0 ∷ get_or xs 7 0 ∷ [])
unfolding length_of bytes_at
length_at xs = four_same (take 4 (drop 4 (take 12 xs))) (bytes_at xs 4) (λ i r. field_at xs 12 4 i r (omega arith) ∙ at_bytes xs 4 i r)

pub flags_at : (xs : List ℕ) → flags_of (take 12 xs) ≡ from_le_bytes w32 (get_or xs 8 0 ∷ get_or xs 9 0 ∷ get_or xs 10 0 ∷ get_or xs 11 0 ∷ [])
unfolding flags_of bytes_at
flags_at xs = four_same (take 4 (drop 8 (take 12 xs))) (bytes_at xs 8) (λ i r. field_at xs 12 8 i r (omega arith) ∙ at_bytes xs 8 i r)

-- four bytes from a place on are those of whatever begins with them
four-append : (k : ℕ) (xs ys : List ℕ) → k + 4 ≤ length xs → take 4 (drop k (xs ++ ys)) ≡ take 4 (drop k xs)
four-append k xs ys h =
    let long : 4 ≤ length (drop k xs) = omega (arith, length-drop k xs) in
    let inside : k ≤ length xs = omega arith in
    ap (take 4) (drop-append-le k xs ys inside) ∙ take-append-le 4 (drop k xs) ys long

-- the fields of a head are those of whatever begins with it
pub size_of-append : (xs ys : List ℕ) → 4 ≤ length xs → size_of (xs ++ ys) ≡ size_of xs
unfolding size_of
size_of-append xs ys h = ap (from_le_bytes w32) (take-append-le 4 xs ys h)

pub length_of-append : (xs ys : List ℕ) → 8 ≤ length xs → length_of (xs ++ ys) ≡ length_of xs
unfolding length_of
length_of-append xs ys h = ap (from_le_bytes w32) (four-append 4 xs ys h)

pub flags_of-append : (xs ys : List ℕ) → 12 ≤ length xs → flags_of (xs ++ ys) ≡ flags_of xs
unfolding flags_of
flags_of-append xs ys h = ap (from_le_bytes w32) (four-append 8 xs ys h)

-- a size that no row fits
pub good_size : (n : ℕ) → size_fault n ≡ None → (9 ≤ n) × (n ≤ 16392)
good_size n h = grind (arith, nat_tests, h)

pub size_good : (n : ℕ) → 9 ≤ n → n ≤ 16392 → size_fault n ≡ None
size_good n low high = grind (arith, nat_tests)

-- what holds of a head that no row of the table fits
pub record IsGood (n before size len flags : ℕ) : Type 0 where
  pub plain : not (bit_and flags 0x200000 == 0) ≡ false
  pub first : not (bit_and flags 0x1 == 0) ≡ (before == 0)
  pub most : len ≤ 1052672
  pub same : before ≢ 0 → len ≡ n
  pub within : before + (size - 8) ≤ len
  pub last : not (bit_and flags 0x2 == 0) ≡ (before + (size - 8) == len)

pub good_from_none : (n before size len flags : ℕ) → fields_fault n before size len flags ≡ None → IsGood n before size len flags
unfolding fields_fault
good_from_none n before size len flags h = record {
  plain = grind (arith, nat_tests, h);
  first = grind (arith, nat_tests, h);
  most = grind (arith, nat_tests, h);
  same = grind (arith, nat_tests, h);
  within = grind (arith, nat_tests, h);
  last = grind (arith, nat_tests, h);
}

pub none_from_good : (n before size len flags : ℕ) → IsGood n before size len flags → fields_fault n before size len flags ≡ None
unfolding fields_fault
none_from_good n before size len flags g = grind (arith, nat_tests, g.plain, g.first, g.most, g.same, g.within, g.last)
