-- Entries one after another: how long each is, and what is heard of them.
use Rattle.std.proofs.Common.{◌≡◌, ℕ, zero, suc, ◌+◌, ◌≤◌, Bool, true, false, List, [], ◌∷◌, ◌++◌, length, take, drop, Option, Some, None, Result, Ok, Err, refl, ap, subst, arith}
use Rattle.std.specs.Prelude.{◌==◌, if◌then◌else◌, nat_eq, nat_lt}
use Rattle.std.specs.List.{starts_with}
use Rattle.std.proofs.lemmas.Bool.{le-ltb, ltb-false}
use Rattle.std.proofs.lemmas.List.{length-take-le}
use Rattle.rd_base.specs.declared.bad.Why.TheVariants as why
use Rattle.rd_chunk.specs.declared.head.RowFault.{RowFault}
use Rattle.rd_chunk.specs.Faults.{head_fault, size_fault}
use Rattle.rd_chunk.specs.Frames.{data_of, length_of, size_of}
use Rattle.rd_decode.specs.declared.side.Side.{Side}
use Rattle.rd_decode.specs.declared.side.Side.TheVariants.{Host, Client}
use Rattle.rd_decode.specs.declared.fault.EntryFault.{EntryFault}
use Rattle.rd_decode.specs.declared.fault.FaultWhy.{FaultWhy}
use Rattle.rd_decode.specs.declared.fault.FaultWhy.TheVariants as fault
use Rattle.rd_decode.specs.Entries.{begins, ended, nothing_under_way, side_mark}
use Rattle.rd_decode.specs.Recording.{magic}
use Rattle.rd_recorded.specs.Channels.{Open}
use Rattle.rd_recorded.specs.Entries.{Hearing, NextHeard, after_heard, all_channels, recorded_channels, cut, entry, frame_heard, heard_from, next_heard, no_recording, silence, open_under_way, unless_chunk_row, with_open, with_others_heard, open_with, wrong}
use Rattle.rd_recorded.specs.Messages.{message_heard}

-- ---- an entry has a byte at least, and no more than there are
abbrev Sized : ℕ → NextHeard Open → Type 0
Sized n (entry size o) = (1 ≤ size) × (size ≤ n)
Sized n other = Unit {0}

either_sized : (n : ℕ) (b : Bool) (one other : NextHeard Open) → (b ≡ true → Sized n one) → (b ≡ false → Sized n other) → Sized n (if b then one else other)
either_sized n true one other first second = first refl
either_sized n false one other first second = second refl

row_sized : (n : ℕ) (row : Option RowFault) (next : NextHeard Open) → Sized n next → Sized n (unless_chunk_row row next)
row_sized n (Some row) next sized = tt
row_sized n None next sized = sized

message_sized : (n size : ℕ) (r : Result Open EntryFault) → 1 ≤ size → size ≤ n → Sized n (after_heard size r)
message_sized n size (Ok o) some most = (some, most)
message_sized n size (Err f) some most = tt

frame_sized : (number : ℕ) (side : Side) (o : Open) (bytes : List ℕ) → Sized (1 + length bytes) (frame_heard number side o bytes)
frame_sized number side o bytes =
    let n = 1 + length bytes in
    let frame = take (size_of bytes + 4) bytes in
    let joined = (open_under_way side o).joined ++ data_of frame in
    let some : 1 ≤ 1 + length frame = omega arith in
    either_sized n (nat_lt (length bytes) 4) _ _ (λ _. tt) (λ _.
    row_sized n (size_fault (size_of bytes)) _
    (either_sized n (nat_lt (length bytes) 12) _ _ (λ _. tt) (λ _.
    row_sized n (head_fault (open_under_way side o).whole (length (open_under_way side o).joined) bytes) _
    (either_sized n (nat_lt (length bytes) (size_of bytes + 4)) _ _ (λ _. tt) (λ all.
    let len = length-take-le (size_of bytes + 4) bytes (ltb-false (length bytes) (size_of bytes + 4) all) in
    let most : 1 + length frame ≤ n = omega (arith, len, ltb-false (length bytes) (size_of bytes + 4) all) in
    either_sized n (length joined == length_of frame) _ _ (λ _. message_sized n (1 + length frame) (message_heard number side joined (open_with side nothing_under_way o)) some most) (λ _. (some, most)))))))

-- the same of what is heard, which is of one entry more
abbrev Follows : Hearing → ℕ → NextHeard Hearing → Type 0
Follows h n (entry size next) = (1 ≤ size) × (size ≤ n) × (next.entries ≡ suc h.entries)
Follows h n other = Unit {0}

open_follows : (h : Hearing) (n : ℕ) (next : NextHeard Open) → Sized n next → Follows h n (with_open h next)
open_follows h n (entry size o) sized = (sized.0, sized.1, refl)
open_follows h n (wrong offset w) sized = tt
open_follows h n cut sized = tt

either_follows : (h : Hearing) (n : ℕ) (b : Bool) (one other : NextHeard Hearing) → Follows h n one → Follows h n other → Follows h n (if b then one else other)
either_follows h n true one other first second = first
either_follows h n false one other first second = second

next_follows : (h : Hearing) (current : Option Open) (bytes : List ℕ) → Follows h (length bytes) (next_heard h current bytes)
next_follows h current [] = tt
next_follows h None (byte ∷ rest) = either_follows h (length (byte ∷ rest)) (byte == begins) _ _ (omega arith, omega arith, refl) tt
next_follows h (Some o) (byte ∷ rest) =
    let n = length (byte ∷ rest) in
    let n_is : 1 + length rest ≡ n = omega arith in
    either_follows h n (byte == ended) _ _ (omega arith, omega arith, refl)
    (either_follows h n (byte == side_mark Host) _ _ (open_follows h n _ (subst (λ (k : ℕ). Sized k (frame_heard (suc h.entries) Host o rest)) n_is (frame_sized (suc h.entries) Host o rest)))
    (either_follows h n (byte == side_mark Client) _ _ (open_follows h n _ (subst (λ (k : ℕ). Sized k (frame_heard (suc h.entries) Client o rest)) n_is (frame_sized (suc h.entries) Client o rest))) tt))

pub entry_follows : (h : Hearing) (bytes : List ℕ) (size : ℕ) (next : Hearing) → next_heard h h.current bytes ≡ entry size next → (1 ≤ size) × (size ≤ length bytes) × (next.entries ≡ suc h.entries)
entry_follows h bytes size next is = subst (Follows h (length bytes)) is (next_follows h h.current bytes)

-- ---- what is heard of bytes that have a first one, by what comes next
pub one_entry : (most at : ℕ) (h : Hearing) (bytes : List ℕ) (size : ℕ) (next : Hearing) → length bytes ≤ most → next_heard h h.current bytes ≡ entry size next
    → (fewer : ℕ) × (most ≡ suc fewer) × (heard_from most at h bytes ≡ heard_from fewer (at + size) next (drop size bytes))
one_entry most at h [] size next enough is = absurd (cc)
one_entry zero at h (byte ∷ rest) size next enough is = absurd (omega (arith, enough))
one_entry (suc most) at h (byte ∷ rest) size next enough is = (most, refl, ap (with_others_heard (λ n g. heard_from most (at + n) g (drop n (byte ∷ rest))) at) is)

pub one_fault : (most at : ℕ) (h : Hearing) (bytes : List ℕ) (offset : ℕ) (w : FaultWhy) → length bytes ≤ most → next_heard h h.current bytes ≡ wrong offset w → heard_from most at h bytes ≡ Err (record { at = at + offset; why = w })
one_fault most at h [] offset w enough is = absurd (cc)
one_fault zero at h (byte ∷ rest) offset w enough is = absurd (omega (arith, enough))
one_fault (suc most) at h (byte ∷ rest) offset w enough is = ap (with_others_heard (λ n g. heard_from most (at + n) g (drop n (byte ∷ rest))) at) is

pub one_cut : (most at : ℕ) (h : Hearing) (bytes : List ℕ) → 1 ≤ length bytes → length bytes ≤ most → next_heard h h.current bytes ≡ cut → heard_from most at h bytes ≡ Err (record { at = at + 1; why = fault.Field why.Short })
one_cut most at h [] some enough is = absurd (omega (arith, some))
one_cut zero at h (byte ∷ rest) some enough is = absurd (omega (arith, enough))
one_cut (suc most) at h (byte ∷ rest) some enough is = ap (with_others_heard (λ n g. heard_from most (at + n) g (drop n (byte ∷ rest))) at) is

pub no_bytes : (most at : ℕ) (h : Hearing) → heard_from most at h [] ≡ Ok (all_channels h)
no_bytes zero at h = refl
no_bytes (suc most) at h = refl

-- ---- a recording
pub begun : (at : ℕ) (bytes : List ℕ) → 8 ≤ length bytes → starts_with nat_eq bytes magic ≡ true → recorded_channels at bytes ≡ heard_from (length bytes) (at + 8) silence (drop 8 bytes)
begun at bytes eight is = rw (le-ltb (length bytes) 8 eight, is) refl

pub not_begun : (at : ℕ) (bytes : List ℕ) → (8 ≤ length bytes → starts_with nat_eq bytes magic ≡ false) → recorded_channels at bytes ≡ Err (no_recording at)
not_begun at bytes is = go (nat_lt (length bytes) 8) refl
  where
    go : (b : Bool) → nat_lt (length bytes) 8 ≡ b → recorded_channels at bytes ≡ Err (no_recording at)
    go true short = rw short refl
    go false long = rw (long, is (ltb-false (length bytes) 8 long)) refl
