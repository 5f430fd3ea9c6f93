-- What further bytes change of what bytes come to: of a first fault and what is printed before it, nothing.
use Rattle.std.proofs.Common.{◌≡◌, ◌≤◌, ◌+◌, ℕ, zero, suc, Bool, true, false, List, [], ◌∷◌, ◌++◌, length, take, drop, Option, Some, None, refl, sym, ap, ap₂, subst, ◌∙◌, length-append, arith}
use Rattle.std.specs.Prelude.{◌==◌, if◌then◌else◌, nat_lt, nat_eq, Result, Ok, Err}
use Rattle.std.specs.List.{starts_with}
use Rattle.std.proofs.lemmas.Bool.{le-ltb, ltb-false}
use Rattle.std.proofs.lemmas.List.{drop-append-le, length-take-le, take-append-le}
use Rattle.std.proofs.lemmas.Option.{none-some}
use Rattle.rd_chunk.specs.declared.head.RowFault.{RowFault}
use Rattle.rd_chunk.specs.Frames.{size_of, length_of, data_of}
use Rattle.rd_chunk.specs.Faults.{size_fault}
use Rattle.rd_chunk.proofs.FrameLemmas.{fields_same}
use Rattle.rd_chunk.proofs.HeadLemmas.{flags_of-append, length_of-append, size_of-append}
use Rattle.rd_decode.specs.declared.side.Side.{Side}
use Rattle.rd_decode.specs.declared.side.Side.TheVariants.{Host, Client}
use Rattle.rd_decode.specs.declared.fault.Fault.{Fault}
use Rattle.rd_decode.specs.declared.fault.EntryFault.{EntryFault}
use Rattle.rd_decode.specs.Messages.{Printed, message_line}
use Rattle.rd_decode.specs.Entries.{Channel, Next, after_frame, after_message, begins, cut, ended, entry, frame_entry, next_entry, side_mark, under_way, unless_row, wrong}
use Rattle.rd_decode.specs.Recording.{Decoded, decoded, decoded_from, faulty, magic, no_magic, unfinished, with_others}

-- ---- an entry
-- What comes next of bytes that have more after them is what comes next of them, of which an entry has at most n, unless they cut it.
abbrev pub Stays : Next → Next → ℕ → Type 0
Stays cut longer n = Unit {0}
Stays (entry size channel text) longer n = (longer ≡ entry size channel text) × (size ≤ n)
Stays (wrong offset w) longer n = longer ≡ wrong offset w

-- what a frame comes to, by what is there of it
abbrev by_bytes : (short headless partial : Bool) → (size_row head_row : Option RowFault) → Next → Next
by_bytes short headless partial size_row head_row done =
    if short then cut else unless_row size_row (if headless then cut else unless_row head_row (if partial then cut else done))

by_bytes_stays : (short headless partial short' headless' partial' : Bool) (size_row head_row size_row' head_row' : Option RowFault) (done done' : Next) (n : ℕ)
    → (short ≡ false → (short' ≡ false) × (size_row' ≡ size_row)) → (headless ≡ false → (headless' ≡ false) × (head_row' ≡ head_row)) → (partial ≡ false → (partial' ≡ false) × Stays done done' n)
    → Stays (by_bytes short headless partial size_row head_row done) (by_bytes short' headless' partial' size_row' head_row' done') n
by_bytes_stays true headless partial short' headless' partial' size_row head_row size_row' head_row' done done' n size head whole = tt
by_bytes_stays false headless partial short' headless' partial' (Some row) head_row size_row' head_row' done done' n size head whole =
    let there = size refl in ap₂ (λ (a : Bool) (r : Option RowFault). by_bytes a headless' partial' r head_row' done') there.0 there.1
by_bytes_stays false true partial short' headless' partial' None head_row size_row' head_row' done done' n size head whole = tt
by_bytes_stays false false partial short' headless' partial' None (Some row) size_row' head_row' done done' n size head whole =
    let there = size refl in
    let heads = head refl in
    ap₂ (λ (a : Bool) (r : Option RowFault). by_bytes a headless' partial' r head_row' done') there.0 there.1
    ∙ ap₂ (λ (b : Bool) (r : Option RowFault). by_bytes false b partial' None r done') heads.0 heads.1
by_bytes_stays false false true short' headless' partial' None None size_row' head_row' done done' n size head whole = tt
by_bytes_stays false false false short' headless' partial' None None size_row' head_row' done done' n size head whole =
    let there = size refl in
    let heads = head refl in
    let is = ap₂ (λ (a : Bool) (r : Option RowFault). by_bytes a headless' partial' r head_row' done') there.0 there.1
    ∙ ap₂ (λ (b : Bool) (r : Option RowFault). by_bytes false b partial' None r done') heads.0 heads.1
    ∙ ap (λ (d : Bool). by_bytes false false d None None done') (whole refl).0 in
    subst (λ (longer : Next). Stays done longer n) (sym is) (whole refl).1

-- a whole frame's entry has its bytes and the one before
message_stays : (size : ℕ) (side : Side) (c : Channel) (r : Result Printed EntryFault) (n : ℕ) → size ≤ n → Stays (after_message size side c r) (after_message size side c r) n
message_stays size side c (Ok p) n fits = (refl, fits)
message_stays size side c (Err f) n fits = refl

either_stays : (b : Bool) (one other one' other' : Next) (n : ℕ) → Stays one one' n → Stays other other' n → Stays (if b then one else other) (if b then one' else other') n
either_stays true one other one' other' n first second = first
either_stays false one other one' other' n first second = second

after_frame_stays : (side : Side) (c : Channel) (frame : List ℕ) (n : ℕ) → 1 + length frame ≤ n → Stays (after_frame side c frame) (after_frame side c frame) n
after_frame_stays side c frame n fits =
    let joined = (under_way side c).joined ++ data_of frame in
    either_stays (length joined == length_of frame) _ _ _ _ n (message_stays (1 + length frame) side c (message_line side c.awaited joined) n fits) (refl, fits)

-- of a side's bytes
frame_stays : (side : Side) (c : Channel) (bytes more : List ℕ) → Stays (frame_entry side c bytes) (frame_entry side c (bytes ++ more)) (1 + length bytes)
frame_stays side c bytes more =
    by_bytes_stays (nat_lt (length bytes) 4) (nat_lt (length bytes) 12) (nat_lt (length bytes) (size_of bytes + 4)) _ _ _ _ _ _ _ _ _ (1 + length bytes)
    (λ four. let least = ltb-false (length bytes) 4 four in (le-ltb (length (bytes ++ more)) 4 (omega (arith, least, longer)), ap size_fault (size_of-append bytes more least)))
    (λ twelve.
    let least = ltb-false (length bytes) 12 twelve in (
      le-ltb (length (bytes ++ more)) 12 (omega (arith, least, longer)),
      fields_same _ _ _ _ _ (λ _. refl) (size_of-append bytes more (omega (arith, least))) (length_of-append bytes more (omega (arith, least))) (flags_of-append bytes more least),
    ))
    (λ whole.
    let least = ltb-false (length bytes) (size_of bytes + 4) whole in
    let same = size_of-append bytes more (omega (arith, least)) in
    let frame_same = ap (λ k. take (k + 4) (bytes ++ more)) same ∙ take-append-le (size_of bytes + 4) bytes more least in (
      le-ltb (length (bytes ++ more)) (size_of (bytes ++ more) + 4) (omega (arith, least, longer, same)),
      subst (λ (f : List ℕ). Stays (after_frame side c (take (size_of bytes + 4) bytes)) (after_frame side c f) (1 + length bytes)) (sym frame_same)
          (after_frame_stays side c (take (size_of bytes + 4) bytes) (1 + length bytes) (omega (arith, length-take-le (size_of bytes + 4) bytes least, least))),
    ))
  where
    longer : length (bytes ++ more) ≡ length bytes + length more
    longer = length-append bytes more

-- of any bytes
pub next_stays : (channel : Option Channel) (bytes more : List ℕ) → Stays (next_entry channel bytes) (next_entry channel (bytes ++ more)) (length bytes)
next_stays channel [] more = tt
next_stays None (byte ∷ rest) more = either_stays (byte == begins) _ _ _ _ (length (byte ∷ rest)) (refl, omega arith) refl
next_stays (Some c) (byte ∷ rest) more =
    let n : 1 + length rest ≡ length (byte ∷ rest) = omega arith in
    either_stays (byte == ended) _ _ _ _ (length (byte ∷ rest)) (refl, omega arith)
    (either_stays (byte == side_mark Host) _ _ _ _ (length (byte ∷ rest)) (subst (λ k. Stays (frame_entry Host c rest) (frame_entry Host c (rest ++ more)) k) n (frame_stays Host c rest more))
    (either_stays (byte == side_mark Client) _ _ _ _ (length (byte ∷ rest)) (subst (λ k. Stays (frame_entry Client c rest) (frame_entry Client c (rest ++ more)) k) n (frame_stays Client c rest more)) refl))

-- ---- a recording
-- what the bytes come to has this first fault, and so has what the longer ones come to, with the same lines before it
pub record SameFault (f : Fault) (longer shorter : Decoded) : Type 0 where
  pub fault : longer.fault ≡ Some f
  pub whole : longer.whole_fault ≡ Some f
  pub text : longer.text ≡ shorter.text

step : (others others' : ℕ → Option Channel → Decoded) (at : ℕ) (f : Fault) (n : ℕ) (next next' : Next) → Stays next next' n
    → ((size : ℕ) (channel : Option Channel) → size ≤ n → (others size channel).fault ≡ Some f → SameFault f (others' size channel) (others size channel))
    → (with_others others at next).fault ≡ Some f → SameFault f (with_others others' at next') (with_others others at next)
step others others' at f n cut next' stays go fault = absurd (none-some f fault)
step others others' at f n (wrong offset w) next' stays go fault =
    subst (λ (x : Next). SameFault f (with_others others' at x) (with_others others at (wrong offset w))) (sym stays) (record { fault = fault; whole = fault; text = refl })
step others others' at f n (entry size channel text) next' stays go fault =
    let same = go size channel stays.1 fault in
    subst (λ (x : Next). SameFault f (with_others others' at x) (with_others others at (entry size channel text))) (sym stays.0)
    (record { fault = same.fault; whole = same.whole; text = ap (λ (t : List ℕ). text ++ t) same.text })

from_more : (most most' at : ℕ) (channel : Option Channel) (bytes more : List ℕ) (f : Fault) → most ≤ most' → (decoded_from most at channel bytes).fault ≡ Some f
    → SameFault f (decoded_from most' at channel (bytes ++ more)) (decoded_from most at channel bytes)
from_more zero most' at channel bytes more f less fault = absurd (none-some f fault)
from_more (suc most) most' at channel [] more f less fault = absurd (none-some f fault)
from_more (suc most) zero at channel (byte ∷ rest) more f less fault = absurd (omega (arith, less))
from_more (suc most) (suc most') at channel (byte ∷ rest) more f less fault =
    step _ _ at f (length (byte ∷ rest)) _ _ (next_stays channel (byte ∷ rest) more)
    (λ size next fits bad.
    subst (λ (left : List ℕ). SameFault f (decoded_from most' (at + size) next left) (decoded_from most (at + size) next (drop size (byte ∷ rest)))) (sym (drop-append-le size (byte ∷ rest) more fits))
    (from_more most most' (at + size) next (drop size (byte ∷ rest)) more f (omega (arith, less)) bad))
    fault

-- what bytes come to, by how they begin
abbrev by_start : (short good : Bool) → Decoded → Decoded
by_start short good d = if short then unfinished no_magic else (if good then d else faulty no_magic)

by_start_more : (short good short' good' : Bool) (d d' : Decoded) (f : Fault) → (short ≡ false → (short' ≡ false) × (good' ≡ good) × (d.fault ≡ Some f → SameFault f d' d))
    → (by_start short good d).fault ≡ Some f → SameFault f (by_start short' good' d') (by_start short good d)
by_start_more true good short' good' d d' f long fault = absurd (none-some f fault)
by_start_more false true short' good' d d' f long fault =
    let there = long refl in
    subst (λ (x : Decoded). SameFault f x d) (sym (ap₂ (λ (a b : Bool). by_start a b d') there.0 there.1)) (there.2 fault)
by_start_more false false short' good' d d' f long fault =
    let there = long refl in
    subst (λ (x : Decoded). SameFault f x (faulty no_magic)) (sym (ap₂ (λ (a b : Bool). by_start a b d') there.0 there.1)) (record { fault = fault; whole = fault; text = refl })

-- The first fault of bytes is that of all bytes that begin with them, and the lines before it are the same.
pub more_bytes : (bytes more : List ℕ) (f : Fault) → (decoded bytes).fault ≡ Some f → SameFault f (decoded (bytes ++ more)) (decoded bytes)
more_bytes bytes more f fault =
    by_start_more (nat_lt (length bytes) 8) (starts_with nat_eq bytes magic) (nat_lt (length (bytes ++ more)) 8) (starts_with nat_eq (bytes ++ more) magic)
    (decoded_from (length bytes) 8 None (drop 8 bytes)) (decoded_from (length (bytes ++ more)) 8 None (drop 8 (bytes ++ more))) f
    (λ eight.
    let least = ltb-false (length bytes) 8 eight in (
      le-ltb (length (bytes ++ more)) 8 (omega (arith, least, length-append bytes more)),
      rw (take-append-le 8 bytes more least) refl,
      λ bad. subst (λ (left : List ℕ). SameFault f (decoded_from (length (bytes ++ more)) 8 None left) (decoded_from (length bytes) 8 None (drop 8 bytes))) (sym (drop-append-le 8 bytes more least))
          (from_more (length bytes) (length (bytes ++ more)) 8 None (drop 8 bytes) more f (omega (arith, length-append bytes more)) bad),
    ))
    fault
