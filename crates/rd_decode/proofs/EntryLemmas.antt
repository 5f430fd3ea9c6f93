-- Entries of a recording: what a frame that is all there comes to.
use Rattle.std.proofs.Common.{◌≡◌, ℕ, ◌+◌, ◌-◌, ◌≤◌, true, false, List, [], ◌++◌, length, take, drop, Option, Some, None, Result, Ok, Err, refl, sym, ap, subst, ◌∙◌, arith}
use Rattle.std.specs.Prelude.{◌==◌, nat_lt}
use Rattle.std.proofs.lemmas.Bool.{le-ltb}
use Rattle.std.proofs.lemmas.List.{length-drop, length-take-le, take-append-drop}
use Rattle.std.proofs.lemmas.List.{drop-take}
use Rattle.rd_chunk.specs.Sizes.{max_message}
use Rattle.rd_chunk.specs.Frames.{length_of, size_of}
use Rattle.rd_chunk.specs.Faults.{fields_fault, head_fault, size_fault}
use Rattle.rd_chunk.proofs.HeadLemmas.{good_from_none, good_size, length_of-append}
use Rattle.rd_decode.specs.declared.side.Side.{Side}
use Rattle.rd_decode.specs.declared.side.Side.TheVariants.{Host, Client}
use Rattle.rd_decode.specs.declared.fault.EntryFault.{EntryFault}
use Rattle.rd_decode.specs.declared.fault.LineNo.{LineNo}
use Rattle.rd_decode.specs.Messages.{Printed, message_line}
use Rattle.rd_decode.specs.Kept.{TakesEntry}
use Rattle.rd_decode.specs.Entries.{Channel, Next, after_data, after_frame, entry, frame_entry, nothing_under_way, under_way, with_under_way, wrong}

-- the channel in which more data of a side's message came
abbrev pub with_data : Side → Channel → ℕ → List ℕ → Channel
with_data side c whole part = with_under_way side (record { whole = whole; joined = (under_way side c).joined ++ part }) c

-- the message isn't whole
pub part_goes_on : (size : ℕ) (side : Side) (c : Channel) (whole : ℕ) (part : List ℕ) → (length ((under_way side c).joined ++ part) == whole) ≡ false → after_data size side c whole part ≡ entry size (Some (with_data side c whole part)) []
part_goes_on size side c whole part is = rw is refl

-- it is whole, and has a line
pub part_ends : (size : ℕ) (side : Side) (c next : Channel) (whole : ℕ) (part : List ℕ) (p : Printed) → (length ((under_way side c).joined ++ part) == whole) ≡ true
    → message_line side (with_data side c whole part).awaited (under_way side (with_data side c whole part)).joined ≡ Ok p → next ≡ with_under_way side nothing_under_way (record (with_data side c whole part) { awaited = p.awaited })
    → after_data size side c whole part ≡ entry size (Some next) p.text
part_ends size Host c next whole part p is e same = rw (is, e, same) refl
part_ends size Client c next whole part p is e same = rw (is, e, same) refl

-- it is whole, and has a fault
pub part_fails : (size : ℕ) (side : Side) (c : Channel) (whole : ℕ) (part : List ℕ) (f : EntryFault) → (length ((under_way side c).joined ++ part) == whole) ≡ true
    → message_line side (with_data side c whole part).awaited (under_way side (with_data side c whole part)).joined ≡ Err f → after_data size side c whole part ≡ wrong f.offset f.why
part_fails size Host c whole part f is e = rw (is, e) refl
part_fails size Client c whole part f is e = rw (is, e) refl

-- a frame that is all there, of which no row of the table holds
pub whole_frame : (side : Side) (c : Channel) (bytes : List ℕ) → size_fault (size_of bytes) ≡ None → head_fault (under_way side c).whole (length (under_way side c).joined) bytes ≡ None → 12 ≤ length bytes → size_of bytes + 4 ≤ length bytes
    → frame_entry side c bytes ≡ after_frame side c (take (size_of bytes + 4) bytes)
whole_frame side c bytes size head twelve all =
    let four : nat_lt (length bytes) 4 ≡ false = le-ltb (length bytes) 4 (omega (arith, twelve)) in
    let there : nat_lt (length bytes) 12 ≡ false = le-ltb (length bytes) 12 twelve in
    let whole : nat_lt (length bytes) (size_of bytes + 4) ≡ false = le-ltb (length bytes) (size_of bytes + 4) all in
    rw (four, size, there, head, whole) refl

-- its data
pub frame_data : (side : Side) (c : Channel) (bytes : List ℕ) (n : ℕ) → 12 ≤ n → n ≤ length bytes → after_frame side c (take n bytes) ≡ after_data (13 + length (take (n - 12) (drop 12 bytes))) side c (length_of bytes) (take (n - 12) (drop 12 bytes))
frame_data side c bytes n twelve all =
    let len : length (take n bytes) ≡ n = length-take-le n bytes all in
    let n_is : 12 + (n - 12) ≡ n = omega (arith, twelve) in
    let part : drop 12 (take n bytes) ≡ take (n - 12) (drop 12 bytes) = ap (λ (k : ℕ). drop 12 (take k bytes)) (sym n_is) ∙ drop-take 12 (n - 12) bytes in
    let whole : length_of (take n bytes) ≡ length_of bytes = sym (length_of-append (take n bytes) (drop n bytes) (omega (arith, len, twelve))) ∙ ap length_of (take-append-drop n bytes) in
    let rest : length (drop 12 bytes) ≡ length bytes - 12 = length-drop 12 bytes in
    let part_len : length (take (n - 12) (drop 12 bytes)) ≡ n - 12 = length-take-le (n - 12) (drop 12 bytes) (omega (arith, rest, all)) in
    let size : 1 + length (take n bytes) ≡ 13 + length (take (n - 12) (drop 12 bytes)) = omega (arith, len, part_len, twelve) in
    rw (whole, part, size) refl

-- as many data as no row of the table refuses
pub enough_room : (n before size len flags : ℕ) (bytes : List ℕ) → fields_fault n before size len flags ≡ None → size_fault size ≡ None → size + 4 ≤ length bytes → before + length (take (size + 4 - 12) (drop 12 bytes)) ≤ max_message
enough_room n before size len flags bytes none good all =
    let g = good_from_none n before size len flags none in
    let s = good_size size good in
    let rest : length (drop 12 bytes) ≡ length bytes - 12 = length-drop 12 bytes in
    let part_len : length (take (size + 4 - 12) (drop 12 bytes)) ≡ size + 4 - 12 = length-take-le (size + 4 - 12) (drop 12 bytes) (omega (arith, rest, all)) in
    omega (arith, part_len, g.most, g.within, s)

-- what takes an entry takes that which it is
pub takes_same : (next other : Next) (channel after : Option Channel) (before text : List ℕ) (result : Result (Option ℕ) LineNo) → next ≡ other → TakesEntry other channel after before text result → TakesEntry next channel after before text result
takes_same next other channel after before text result same takes = subst (λ (x : Next). TakesEntry x channel after before text result) (sym same) takes
