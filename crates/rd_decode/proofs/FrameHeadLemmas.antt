-- The head of the frame with which bytes begin.
use Rattle.std.proofs.Common.{◌≡◌, ◌≤◌, ℕ, List, [], ◌∷◌, length, take, drop, get_or, sym, ap, ◌∙◌, arith}
use Rattle.std.specs.Int.{w32, from_le_bytes}
use Rattle.std.proofs.Math.Seq.{take-length}
use Rattle.std.proofs.lemmas.List.{length-take-le, take-append-drop}
use Rattle.rd_chunk.specs.Frames.{flags_of, length_of, size_of}
use Rattle.rd_chunk.proofs.HeadLemmas.{flags_at, flags_of-append, length_at, length_of-append, size_at}

pub size_there : (xs : List ℕ) → 4 ≤ length xs → size_of xs ≡ from_le_bytes w32 (get_or xs 0 0 ∷ get_or xs 1 0 ∷ get_or xs 2 0 ∷ get_or xs 3 0 ∷ [])
size_there xs there = ap size_of (sym (take-length xs)) ∙ size_at xs (length xs) there

pub length_there : (xs : List ℕ) → 12 ≤ length xs → length_of xs ≡ from_le_bytes w32 (get_or xs 4 0 ∷ get_or xs 5 0 ∷ get_or xs 6 0 ∷ get_or xs 7 0 ∷ [])
length_there xs there =
    let len : length (take 12 xs) ≡ 12 = length-take-le 12 xs there in
    ap length_of (sym (take-append-drop 12 xs)) ∙ length_of-append (take 12 xs) (drop 12 xs) (omega (arith, len)) ∙ length_at xs

pub flags_there : (xs : List ℕ) → 12 ≤ length xs → flags_of xs ≡ from_le_bytes w32 (get_or xs 8 0 ∷ get_or xs 9 0 ∷ get_or xs 10 0 ∷ get_or xs 11 0 ∷ [])
flags_there xs there =
    let len : length (take 12 xs) ≡ 12 = length-take-le 12 xs there in
    ap flags_of (sym (take-append-drop 12 xs)) ∙ flags_of-append (take 12 xs) (drop 12 xs) (omega (arith, len)) ∙ flags_at xs
