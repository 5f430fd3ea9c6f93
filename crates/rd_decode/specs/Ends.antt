-- How the printing of a recording ends, and what it has done by then.
use Rattle.std.specs.Prelude.{◌≡◌, ℕ, ◌<◌, ◌≤◌, ◌^◌, ◌⊎◌, List, length, Some, None, Result, Ok, Err}
use Rattle.std.specs.Io.KnownBytes.{Consumes, IsAtEnd}
use Rattle.rd_base.specs.Prefixes.{AppendsPrefix}
use Rattle.rd_decode.specs.declared.fault.Fault.{Fault}
use Rattle.rd_decode.specs.declared.fault.DecodeNo.{DecodeNo}
use Rattle.rd_decode.specs.declared.fault.DecodeNo.TheVariants as no
use Rattle.rd_decode.specs.Recording.{decoded}
use Rattle.rd_decode.specs.Streams.{FailedToWrite, HasOneFault, IsFaultless, Read, ReadToEnd, Stream, Wrote}

-- as many bytes are read of a recording at most
abbrev pub limit : ℕ
limit = 2 ^ 40

-- The input was read to its end. It is a recording below the limit, and its lines were printed.
pub record PrintedAll {S K : Type 0} (input input_after : Stream S) (output output_after : Stream K) : Type 0 where
  pub recording : List ℕ
  pub read : ReadToEnd input input_after recording
  pub good : (decoded recording).whole_fault ≡ None
  pub short : length recording < limit
  pub printed : Wrote output output_after (decoded recording).text

-- This is the first fault of a recording that these bytes begin, whatever comes after them; or of these bytes, which are fewer than the limit and
-- after which the input has ended.
abbrev pub EndsInFault : {S : Type 0} → Stream S → List ℕ → Fault → Type 0
EndsInFault input bytes fault = ((decoded bytes).fault ≡ Some fault) ⊎ (IsAtEnd input.bytes × (length bytes < limit) × ((decoded bytes).whole_fault ≡ Some fault))

-- The input has this first fault. The lines before it were printed.
pub record PrintedToFault {S K : Type 0} (fault : Fault) (input input_after : Stream S) (output output_after : Stream K) : Type 0 where
  pub bytes : List ℕ
  pub read : Read input input_after bytes
  pub short : length bytes ≤ limit
  pub faulty : EndsInFault input_after bytes fault
  pub printed : Wrote output output_after (decoded bytes).text

-- As many bytes as the limit were read, which begin a recording, and its lines so far were printed.
pub record PrintedToLimit {S K : Type 0} (input input_after : Stream S) (output output_after : Stream K) : Type 0 where
  pub bytes : List ℕ
  pub read : Read input input_after bytes
  pub full : length bytes ≡ limit
  pub good : (decoded bytes).fault ≡ None
  pub printed : Wrote output output_after (decoded bytes).text

-- A read failed. The lines of what had been read, which begins a recording, were printed, unless that failed too.
pub record FailedToRead {S K : Type 0} (input input_after : Stream S) (output output_after : Stream K) : Type 0 where
  pub bytes : List ℕ
  pub taken : Consumes input.bytes input_after.bytes bytes
  pub fault : HasOneFault input input_after
  pub good : (decoded bytes).fault ≡ None
  pub printed : Wrote output output_after (decoded bytes).text ⊎ FailedToWrite output output_after (decoded bytes).text

-- A write failed: a prefix of the lines of what had been read was printed.
pub record FailedToPrint {S K : Type 0} (input input_after : Stream S) (output output_after : Stream K) : Type 0 where
  pub bytes : List ℕ
  pub read : Read input input_after bytes
  pub failed : FailedToWrite output output_after (decoded bytes).text

-- Memory ran out: a prefix of the lines of what had been read was printed, and nothing had failed.
pub record RanOut {S K : Type 0} (input input_after : Stream S) (output output_after : Stream K) : Type 0 where
  pub bytes : List ℕ
  pub read : Read input input_after bytes
  pub prefix : AppendsPrefix output.bytes output_after.bytes (decoded bytes).text
  pub faultless : IsFaultless output output_after

-- how the printing of a recording ended: it came to the input's end, or the first event that stopped it did
abbrev pub EndsDecode : {S K : Type 0} → (input input_after : Stream S) → (output output_after : Stream K) → Result (Unit {0}) DecodeNo → Type 0
EndsDecode input input_after output output_after (Ok done) = PrintedAll input input_after output output_after
EndsDecode input input_after output output_after (Err (no.Bad fault)) = PrintedToFault fault input input_after output output_after
EndsDecode input input_after output output_after (Err no.Long) = PrintedToLimit input input_after output output_after
EndsDecode input input_after output output_after (Err no.Input) = FailedToRead input input_after output output_after
EndsDecode input input_after output output_after (Err no.Output) = FailedToPrint input input_after output output_after
EndsDecode input input_after output output_after (Err no.Memory) = RanOut input input_after output output_after
