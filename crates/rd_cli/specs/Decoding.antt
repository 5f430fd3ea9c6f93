-- How the command `decode` ends: with which status, what it has printed by then, and which event, the first, gave the status.
use Rattle.std.specs.Prelude.{◌≡◌, ℕ, ◌<◌, ◌⊎◌, List, [], length, Option, Some, None}
use Rattle.rd_decode.specs.declared.fault.Fault.{Fault}
use Rattle.rd_decode.specs.declared.fault.DecodeNo.{DecodeNo}
use Rattle.rd_decode.specs.declared.fault.DecodeNo.TheVariants as no
use Rattle.rd_decode.specs.Recording.{decoded}
use Rattle.rd_decode.specs.Ends.{FailedToPrint, FailedToRead, PrintedAll, PrintedToFault, PrintedToLimit, RanOut, limit}
use Rattle.rd_cli.specs.Outside.{Stream, Wrote}
use Rattle.rd_cli.specs.Stops.{Says, fault_line, long_line}
use Rattle.rd_cli.specs.declared.stop.Stop.{Stop}
use Rattle.rd_cli.specs.declared.stop.Stop.TheVariants as stop

-- what the command stops for, by why the printing did
abbrev pub stop_for : DecodeNo → Stop
stop_for no.Input = stop.Input
stop_for no.Output = stop.Output
stop_for (no.Bad fault) = stop.Fault fault
stop_for no.Long = stop.Long
stop_for no.Memory = stop.Memory

-- The input has this first fault: the lines before it were printed, and then the fault was said.
pub record SaysFault {S K : Type 0} (fault : Fault) (input input_after : Stream S) (output output_after : Stream K) : Type 0 where
  pub lines : Stream K
  pub printed : PrintedToFault fault input input_after output lines
  pub says : Says (fault_line fault) lines output_after

-- The input is too long: the lines of as much as is read were printed, and then that was said.
pub record SaysLong {S K : Type 0} (input input_after : Stream S) (output output_after : Stream K) : Type 0 where
  pub lines : Stream K
  pub printed : PrintedToLimit input input_after output lines
  pub says : Says long_line lines output_after

-- What the input has left can be told, and is these bytes, below the limit.
abbrev pub Gives : Option (List ℕ) → List ℕ → Type 0
Gives left bytes = (left ≡ Some bytes) × (length bytes < limit)

-- How the command ends with a status. The first fault of the outside, the recording's own first fault, its length, or want of memory ends
-- it, and nothing else gives its status; what was printed by then, the fields say.
pub record IsEndOfDecode {S K : Type 0} (input input_after : Stream S) (output output_after : Stream K) (status : ℕ) : Type 0 where
  pub known : (status ≡ 0) ⊎ ((status ≡ 2) ⊎ ((status ≡ 3) ⊎ ((status ≡ 4) ⊎ ((status ≡ 6) ⊎ (status ≡ 7)))))
  -- 0: the input is a recording, and its lines were printed, with no fault
  pub printed : status ≡ 0 → PrintedAll input input_after output output_after
  -- 2: a read failed
  pub unread : status ≡ 2 → FailedToRead input input_after output output_after
  -- 3: a write failed, and no read had
  pub unwritten : status ≡ 3 → FailedToPrint input input_after output output_after
  -- 4: the recording's first fault was said, after the lines before it
  pub faulty : status ≡ 4 → (fault : Fault) × SaysFault fault input input_after output output_after
  -- 6: memory ran out before anything failed
  pub starved : status ≡ 6 → RanOut input input_after output output_after
  -- 7: as many bytes as the limit were read
  pub long : status ≡ 7 → SaysLong input input_after output output_after
  -- A recording comes to 0, unless a read or a write fails or memory runs out.
  pub completes : (bytes : List ℕ) → Gives input.bytes bytes → (decoded bytes).whole_fault ≡ None → (status ≡ 0) ⊎ ((status ≡ 2) ⊎ ((status ≡ 3) ⊎ (status ≡ 6)))
  -- Bytes that are none come to 4 with their first fault, unless a read or a write fails or memory runs out.
  pub names : (bytes : List ℕ) (fault : Fault) → Gives input.bytes bytes → (decoded bytes).whole_fault ≡ Some fault
      → ((status ≡ 4) × SaysFault fault input input_after output output_after) ⊎ ((status ≡ 2) ⊎ ((status ≡ 3) ⊎ (status ≡ 6)))

-- ---- what a session recorded

-- The input has what was written to a recording that was empty before, which can be told and is below the limit.
pub record HasRecording {R S : Type 0} (before after : Stream R) (input : Stream S) : Type 0 where
  pub empty : before.bytes ≡ Some []
  pub same : input.bytes ≡ after.bytes
  pub short : (bytes : List ℕ) → after.bytes ≡ Some bytes → length bytes < limit

-- The command prints these lines and no more, and ends with 0, unless a read or a write fails or memory runs out.
abbrev pub PrintsJust : {K : Type 0} → List ℕ → (output output_after : Stream K) → ℕ → Type 0
PrintsJust lines output output_after status = ((status ≡ 0) × Wrote output output_after lines) ⊎ ((status ≡ 2) ⊎ ((status ≡ 3) ⊎ (status ≡ 6)))
