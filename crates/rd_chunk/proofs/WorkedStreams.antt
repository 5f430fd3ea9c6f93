-- Streams worked by hand: what they carry, and their faults.
use Rattle.std.proofs.Common.{◌≡◌, ℕ, ◌+◌, arith, ◌++◌, ◌∷◌, [], length, refl, List, inl, inr}
use Rattle.rd_chunk.specs.declared.fault.ChunkWhy.{ChunkWhy}
use Rattle.rd_chunk.specs.declared.fault.ChunkWhy.TheVariants as why
use Rattle.rd_chunk.specs.Frames.{size_of, length_of, flags_of, IsFrame, One, Begun}
use Rattle.rd_chunk.specs.Faults.{fields_fault, ShowsFault, ChunkFault}
use Rattle.rd_chunk.specs.Carrier.{carrier_of, carrier_frame}
use Rattle.rd_chunk.specs.Worked as worked

pub written : carrier_of worked.announce ≡ worked.announce_frame
unfolding carrier_frame
written = refl

announce_frame : IsFrame 12 0 worked.announce_frame
unfolding size_of length_of flags_of
announce_frame = record { size = refl; some = omega arith; most = omega arith; plain = refl; whole = refl; within = omega arith; first = refl; last = refl }

pub read : One worked.announce worked.announce_frame
read = record { frames = worked.announce_frame ∷ []; are = (announce_frame, tt); joined = refl; bytes_are = refl; some = omega arith; most = omega arith }

longest_frame : IsFrame 1052672 0 worked.longest
unfolding size_of length_of flags_of
longest_frame = record { size = refl; some = omega arith; most = omega arith; plain = refl; whole = refl; within = omega arith; first = refl; last = refl }

pub longest : Begun 1052672 (0x61 ∷ []) worked.longest
longest = record { frames = worked.longest ∷ []; are = (longest_frame, tt); joined_are = refl; bytes_are = refl; short = omega arith; most = omega arith }

opening_frame : IsFrame 2 0 worked.opening
unfolding size_of length_of flags_of
opening_frame = record { size = refl; some = omega arith; most = omega arith; plain = refl; whole = refl; within = omega arith; first = refl; last = refl }

opening : Begun 2 (0x61 ∷ []) worked.opening
opening = record { frames = worked.opening ∷ []; are = (opening_frame, tt); joined_are = refl; bytes_are = refl; short = omega arith; most = omega arith }

nothing : Begun 1 [] []
nothing = record { frames = []; are = tt; joined_are = refl; bytes_are = refl; short = omega arith; most = omega arith }

-- a fault after the frames that begin a message
fault_in : (n : ℕ) (joined begun : List ℕ) → Begun n joined begun → (head : List ℕ) (offset : ℕ) (why : ChunkWhy) → ShowsFault n (length joined) head (record { offset = offset; why = why }) → ChunkFault (begun ++ head) (length begun + offset) why
fault_in n joined begun are head offset why has = record {
  messages = [];
  whole = [];
  n = n;
  joined = joined;
  begun = begun;
  head = head;
  fault = record { offset = offset; why = why };
  are_whole = refl;
  are_begun = are;
  bytes_are = refl;
  has = has;
  place_is = omega arith;
  why_is = refl;
}

-- a fault of the first frame
fresh : (head : List ℕ) (offset : ℕ) (why : ChunkWhy) → ShowsFault 1 0 head (record { offset = offset; why = why }) → ChunkFault head (0 + offset) why
fresh head offset why has = fault_in 1 [] [] nothing head offset why has

-- a fault of the second frame
second : (head : List ℕ) (offset : ℕ) (why : ChunkWhy) → ShowsFault 2 1 head (record { offset = offset; why = why }) → ChunkFault (worked.opening ++ head) (13 + offset) why
second head offset why has = fault_in 2 (0x61 ∷ []) worked.opening opening head offset why has

pub empty : ChunkFault worked.empty 0 why.Empty
unfolding size_of
empty = fresh worked.empty 0 why.Empty (record { holds = inl (refl, refl) })

pub too_small : ChunkFault worked.too_small 0 why.Size
unfolding size_of
too_small = fresh worked.too_small 0 why.Size (record { holds = inl (refl, refl) })

pub compressed : ChunkFault worked.compressed 8 why.Compressed
unfolding size_of length_of flags_of fields_fault
compressed = fresh worked.compressed 8 why.Compressed (record { holds = inr (refl, refl, refl) })

pub no_first : ChunkFault worked.no_first 8 why.NoFirst
unfolding size_of length_of flags_of fields_fault
no_first = fresh worked.no_first 8 why.NoFirst (record { holds = inr (refl, refl, refl) })

pub too_long : ChunkFault worked.too_long 4 why.TooLong
unfolding size_of length_of flags_of fields_fault
too_long = fresh worked.too_long 4 why.TooLong (record { holds = inr (refl, refl, refl) })

pub last_early : ChunkFault worked.last_early 8 why.LastEarly
unfolding size_of length_of flags_of fields_fault
last_early = fresh worked.last_early 8 why.LastEarly (record { holds = inr (refl, refl, refl) })

pub second_first : ChunkFault worked.second_first 21 why.SecondFirst
unfolding size_of length_of flags_of fields_fault
second_first = second (9 ∷ 0 ∷ 0 ∷ 0 ∷ 2 ∷ 0 ∷ 0 ∷ 0 ∷ 3 ∷ 0 ∷ 0 ∷ 0 ∷ []) 8 why.SecondFirst (record { holds = inr (refl, refl, refl) })

pub length_changed : ChunkFault worked.length_changed 17 why.LengthChanged
unfolding size_of length_of flags_of fields_fault
length_changed = second (9 ∷ 0 ∷ 0 ∷ 0 ∷ 3 ∷ 0 ∷ 0 ∷ 0 ∷ 2 ∷ 0 ∷ 0 ∷ 0 ∷ []) 4 why.LengthChanged (record { holds = inr (refl, refl, refl) })

pub overrun : ChunkFault worked.overrun 25 why.Overrun
unfolding size_of length_of flags_of fields_fault
overrun = second (0x0a ∷ 0 ∷ 0 ∷ 0 ∷ 2 ∷ 0 ∷ 0 ∷ 0 ∷ 2 ∷ 0 ∷ 0 ∷ 0 ∷ []) 12 why.Overrun (record { holds = inr (refl, refl, refl) })

pub not_last : ChunkFault worked.not_last 21 why.NotLast
unfolding size_of length_of flags_of fields_fault
not_last = second (9 ∷ 0 ∷ 0 ∷ 0 ∷ 2 ∷ 0 ∷ 0 ∷ 0 ∷ 0 ∷ 0 ∷ 0 ∷ 0 ∷ []) 8 why.NotLast (record { holds = inr (refl, refl, refl) })
