-- A frame of a recording that is all there.
use Rattle.std.proofs.Common.{◌≡◌, ℕ, ◌+◌, ◌-◌, ◌≤◌, false, List, length, take, drop, Option, None, Result, refl, sym, ap, subst, ◌∙◌, arith}
use Rattle.std.specs.Prelude.{nat_lt}
use Rattle.std.proofs.lemmas.Bool.{le-ltb}
use Rattle.std.proofs.lemmas.List.{drop-take, length-drop, length-take-le, take-append-drop}
use Rattle.rd_chunk.specs.Frames.{length_of, size_of}
use Rattle.rd_chunk.specs.Faults.{head_fault, size_fault}
use Rattle.rd_chunk.proofs.HeadLemmas.{length_of-append}
use Rattle.rd_decode.specs.declared.side.Side.{Side}
use Rattle.rd_decode.specs.declared.fault.LineNo.{LineNo}
use Rattle.rd_recorded.specs.Channels.{Open}
use Rattle.rd_recorded.specs.Entries.{NextHeard, heard_data, heard_frame, frame_heard, open_under_way}
use Rattle.rd_recorded.specs.Kept.{HearsEntry}

-- a frame that is all there, of which no row of the table holds
pub whole_frame : (number : ℕ) (side : Side) (o : Open) (bytes : List ℕ) → size_fault (size_of bytes) ≡ None → head_fault (open_under_way side o).whole (length (open_under_way side o).joined) bytes ≡ None → 12 ≤ length bytes → size_of bytes + 4 ≤ length bytes
    → frame_heard number side o bytes ≡ heard_frame number side o (take (size_of bytes + 4) bytes)
whole_frame number side o bytes size head twelve all =
    let four : nat_lt (length bytes) 4 ≡ false = le-ltb (length bytes) 4 (omega (arith, twelve)) in
    let there : nat_lt (length bytes) 12 ≡ false = le-ltb (length bytes) 12 twelve in
    let whole : nat_lt (length bytes) (size_of bytes + 4) ≡ false = le-ltb (length bytes) (size_of bytes + 4) all in
    rw (four, size, there, head, whole) refl

-- its data
pub frame_data : (number : ℕ) (side : Side) (o : Open) (bytes : List ℕ) (n : ℕ) → 12 ≤ n → n ≤ length bytes
    → heard_frame number side o (take n bytes) ≡ heard_data (13 + length (take (n - 12) (drop 12 bytes))) number side o (length_of bytes) (take (n - 12) (drop 12 bytes))
frame_data number side o bytes n twelve all =
    let len : length (take n bytes) ≡ n = length-take-le n bytes all in
    let n_is : 12 + (n - 12) ≡ n = omega (arith, twelve) in
    let part : drop 12 (take n bytes) ≡ take (n - 12) (drop 12 bytes) = ap (λ (k : ℕ). drop 12 (take k bytes)) (sym n_is) ∙ drop-take 12 (n - 12) bytes in
    let whole : length_of (take n bytes) ≡ length_of bytes = sym (length_of-append (take n bytes) (drop n bytes) (omega (arith, len, twelve))) ∙ ap length_of (take-append-drop n bytes) in
    let rest : length (drop 12 bytes) ≡ length bytes - 12 = length-drop 12 bytes in
    let part_len : length (take (n - 12) (drop 12 bytes)) ≡ n - 12 = length-take-le (n - 12) (drop 12 bytes) (omega (arith, rest, all)) in
    let size : 1 + length (take n bytes) ≡ 13 + length (take (n - 12) (drop 12 bytes)) = omega (arith, len, part_len, twelve) in
    rw (whole, part, size) refl

-- what takes an entry takes that which it is
pub takes_same : {S : Type 0} (next other : NextHeard S) (new : S) (result : Result (Option ℕ) LineNo) → next ≡ other → HearsEntry other new result → HearsEntry next new result
takes_same {S} next other new result same takes = subst (λ (x : NextHeard S). HearsEntry x new result) (sym same) takes
