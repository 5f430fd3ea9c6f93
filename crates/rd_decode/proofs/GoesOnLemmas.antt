-- Entries one after another: what bytes come to that go on.
use Rattle.std.proofs.Common.{◌≡◌, ℕ, zero, suc, ◌+◌, ◌-◌, ◌≤◌, Bool, true, false, List, [], ◌∷◌, ◌++◌, length, take, drop, Option, Some, None, Result, Ok, Err, refl, sym, ap, subst, ◌∙◌, append_assoc, length-append, arith}
use Rattle.std.specs.Prelude.{◌==◌, if◌then◌else◌, nat_lt}
use Rattle.std.proofs.lemmas.List.{drop-append-le, length-drop}
use Rattle.rd_chunk.specs.declared.head.RowFault.{RowFault}
use Rattle.rd_chunk.specs.Faults.{head_fault, size_fault}
use Rattle.rd_chunk.specs.Frames.{data_of, length_of, size_of}
use Rattle.rd_base.specs.declared.bad.Why.TheVariants as why
use Rattle.rd_decode.specs.declared.side.Side.{Side}
use Rattle.rd_decode.specs.declared.side.Side.TheVariants.{Host, Client}
use Rattle.rd_decode.specs.declared.fault.EntryFault.{EntryFault}
use Rattle.rd_decode.specs.declared.fault.FaultWhy.{FaultWhy}
use Rattle.rd_decode.specs.declared.fault.FaultWhy.TheVariants as fault
use Rattle.rd_decode.specs.Messages.{Printed, message_line}
use Rattle.rd_decode.specs.Entries.{Channel, Next, after_message, begins, cut, ended, entry, frame_entry, next_entry, side_mark, under_way, unless_row, wrong}
use Rattle.rd_decode.specs.Recording.{Decoded, decoded_from, faulty, good, text_before, unfinished, with_others}
use Rattle.rd_decode.specs.Kept.{GoesOn}
use Rattle.rd_decode.proofs.MoreBytes.{Stays, next_stays}

-- ---- an entry has a byte at least
abbrev Sized : Next → Type 0
Sized (entry size channel text) = 1 ≤ size
Sized other = Unit {0}

either_sized : (b : Bool) (one other : Next) → Sized one → Sized other → Sized (if b then one else other)
either_sized true one other first second = first
either_sized false one other first second = second

row_sized : (row : Option RowFault) (next : Next) → Sized next → Sized (unless_row row next)
row_sized (Some row) next sized = tt
row_sized None next sized = sized

message_sized : (size : ℕ) (side : Side) (c : Channel) (r : Result Printed EntryFault) → 1 ≤ size → Sized (after_message size side c r)
message_sized size side c (Ok p) some = some
message_sized size side c (Err f) some = tt

frame_sized : (side : Side) (c : Channel) (bytes : List ℕ) → Sized (frame_entry side c bytes)
frame_sized side c bytes =
    let frame = take (size_of bytes + 4) bytes in
    let joined = (under_way side c).joined ++ data_of frame in
    let some : 1 ≤ 1 + length frame = omega arith in
    either_sized (nat_lt (length bytes) 4) _ _ tt
    (row_sized (size_fault (size_of bytes)) _
    (either_sized (nat_lt (length bytes) 12) _ _ tt
    (row_sized (head_fault (under_way side c).whole (length (under_way side c).joined) bytes) _
    (either_sized (nat_lt (length bytes) (size_of bytes + 4)) _ _ tt
    (either_sized (length joined == length_of frame) _ _ (message_sized (1 + length frame) side c (message_line side c.awaited joined) some) some)))))

next_sized : (channel : Option Channel) (bytes : List ℕ) → Sized (next_entry channel bytes)
next_sized channel [] = tt
next_sized None (byte ∷ rest) = either_sized (byte == begins) _ _ (omega arith) tt
next_sized (Some c) (byte ∷ rest) = either_sized (byte == ended) _ _ (omega arith) (either_sized (byte == side_mark Host) _ _ (frame_sized Host c rest) (either_sized (byte == side_mark Client) _ _ (frame_sized Client c rest) tt))

-- ---- what comes next, whatever comes after the bytes
pub entry_stays : (channel : Option Channel) (bytes more : List ℕ) (size : ℕ) (next : Option Channel) (text : List ℕ) → next_entry channel bytes ≡ entry size next text
    → (next_entry channel (bytes ++ more) ≡ entry size next text) × (size ≤ length bytes) × (1 ≤ size)
entry_stays channel bytes more size next text is =
    let stays = subst (λ (n : Next). Stays n (next_entry channel (bytes ++ more)) (length bytes)) is (next_stays channel bytes more) in
    (stays.0, stays.1, subst Sized is (next_sized channel bytes))

pub wrong_stays : (channel : Option Channel) (bytes more : List ℕ) (offset : ℕ) (w : FaultWhy) → next_entry channel bytes ≡ wrong offset w → next_entry channel (bytes ++ more) ≡ wrong offset w
wrong_stays channel bytes more offset w is = subst (λ (n : Next). Stays n (next_entry channel (bytes ++ more)) (length bytes)) is (next_stays channel bytes more)

-- ---- what bytes come to that have a first byte
-- by what comes next
pub one_entry : (most at : ℕ) (channel : Option Channel) (bytes : List ℕ) (size : ℕ) (next : Option Channel) (text : List ℕ) → length bytes ≤ most → next_entry channel bytes ≡ entry size next text
    → (fewer : ℕ) × (most ≡ suc fewer) × (decoded_from most at channel bytes ≡ text_before text (decoded_from fewer (at + size) next (drop size bytes)))
one_entry most at channel [] size next text enough is = absurd (cc)
one_entry zero at channel (byte ∷ rest) size next text enough is = absurd (omega (arith, enough))
one_entry (suc most) at channel (byte ∷ rest) size next text enough is =
    (most, refl, ap (with_others (λ n c. decoded_from most (at + n) c (drop n (byte ∷ rest))) at) is)

pub one_fault : (most at : ℕ) (channel : Option Channel) (bytes : List ℕ) (offset : ℕ) (w : FaultWhy) → length bytes ≤ most → next_entry channel bytes ≡ wrong offset w
    → decoded_from most at channel bytes ≡ faulty (record { at = at + offset; why = w })
one_fault most at channel [] offset w enough is = absurd (cc)
one_fault zero at channel (byte ∷ rest) offset w enough is = absurd (omega (arith, enough))
one_fault (suc most) at channel (byte ∷ rest) offset w enough is = ap (with_others (λ n c. decoded_from most (at + n) c (drop n (byte ∷ rest))) at) is

pub one_cut : (most at : ℕ) (channel : Option Channel) (byte : ℕ) (rest : List ℕ) → length (byte ∷ rest) ≤ most → next_entry channel (byte ∷ rest) ≡ cut
    → decoded_from most at channel (byte ∷ rest) ≡ unfinished (record { at = at + 1; why = fault.Field why.Short })
one_cut zero at channel byte rest enough is = absurd (omega (arith, enough))
one_cut (suc most) at channel byte rest enough is = ap (with_others (λ n c. decoded_from most (at + n) c (drop n (byte ∷ rest))) at) is

pub no_bytes : (most at : ℕ) (channel : Option Channel) → decoded_from most at channel [] ≡ good
no_bytes zero at channel = refl
no_bytes (suc most) at channel = refl

-- ---- bytes that go on
-- lines after lines
pub after_both : (first second : List ℕ) (d : Decoded) → text_before first (text_before second d) ≡ text_before (first ++ second) d
after_both first second d = ap (λ (t : List ℕ). record d { text = t }) (sym (append_assoc first second d.text))

pub goes_nowhere : (at : ℕ) (channel : Option Channel) (bytes : List ℕ) → GoesOn at channel bytes [] at channel bytes
goes_nowhere at channel bytes = record { place = refl; on = λ more most enough. (most, enough, refl) }

-- an entry further
pub goes_further : (at : ℕ) (channel : Option Channel) (bytes shown : List ℕ) (place : ℕ) (middle : Option Channel) (rest : List ℕ) (size : ℕ) (next : Option Channel) (text : List ℕ)
    → GoesOn at channel bytes shown place middle rest → next_entry middle rest ≡ entry size next text → GoesOn at channel bytes (shown ++ text) (place + size) next (drop size rest)
goes_further at channel bytes shown place middle rest size next text g is =
    let own = entry_stays middle rest [] size next text is in
    let len : length (drop size rest) ≡ length rest - size = length-drop size rest in
    record {
      place = omega (arith, g.place, len, own.1);
      on = λ more most enough.
          let before = g.on more most enough in
          let stays = entry_stays middle rest more size next text is in
          let one = one_entry before.0 place middle (rest ++ more) size next text before.1 stays.0 in
          let left : drop size (rest ++ more) ≡ drop size rest ++ more = drop-append-le size rest more own.1 in
          let all : length (rest ++ more) ≡ length rest + length more = length-append rest more in
          let others : length (drop size rest ++ more) ≡ length (drop size rest) + length more = length-append (drop size rest) more in (
            one.0,
            omega (arith, one.1, before.1, all, others, len, own.1, own.2),
            before.2 ∙ ap (text_before shown) (one.2 ∙ ap (λ (xs : List ℕ). text_before text (decoded_from one.0 (place + size) next xs)) left) ∙ after_both shown text (decoded_from one.0 (place + size) next (drop size rest ++ more)),
          );
    }
