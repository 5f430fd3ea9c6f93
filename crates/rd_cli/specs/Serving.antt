-- How a command ends that serves the script of its input on channels: with which status, what it has done by then, and which event, the first, gave the status. What a session of a script comes to,
-- each such command says of its own sessions: `Session` holds of a script, of what its session came to, and of the text that tells of it.
use Rattle.std.specs.Prelude.{◌≡◌, ℕ, ◌≤◌, ◌⊎◌, List, [], ◌++◌, Option, Some, None}
use Rattle.std.specs.Option.{unwrap_or}
use Rattle.rd_carry.specs.declared.ended.EndWhy.{EndWhy}
use Rattle.rd_carry.specs.declared.ended.Ended.{Ended}
use Rattle.rd_carry.specs.declared.ended.Ended.TheVariants as ended
use Rattle.rd_script.specs.declared.keyword.Mode.{Mode}
use Rattle.rd_script.specs.declared.script.Script.{Script}
use Rattle.rd_script.specs.Script.{BadLine}
use Rattle.rd_cli.specs.Outside.{FailedToWrite, HasOneFault, IsFaultless, Stream, Wrote}
use Rattle.rd_cli.specs.Reading.{GivesBadLine, GivesScript, ReadsBadLine, ReadsScript}
use Rattle.rd_cli.specs.Stops.{Says, StopsWith, channel_line, last_line, long_line, status_of}
use Rattle.rd_cli.specs.declared.stop.Stop.{Stop}
use Rattle.rd_cli.specs.declared.stop.Stop.TheVariants as stop

-- ---- what ends the command after a session

-- what ends it, if not its end
abbrev pub stop_after : Ended → Option Stop
stop_after ended.Over = None
stop_after (ended.Channel channel at message why) = Some (stop.Channel channel at message why)
stop_after ended.Link = Some stop.Link
stop_after ended.Memory = Some stop.Memory
stop_after ended.Long = Some stop.Long

-- the last line then, or nothing
abbrev pub line_after : Option Stop → List ℕ
line_after None = []
line_after (Some s) = unwrap_or (last_line s) []

-- the status where all was written
abbrev pub own_status : Option Stop → ℕ
own_status None = 0
own_status (Some s) = status_of s

-- the status where a write failed
abbrev pub failed_status : Option Stop → ℕ
failed_status None = 3
failed_status (Some stop.Link) = 3
failed_status (Some s) = status_of s

-- This text was written, with one status, or the first fault ended that, with another; or memory ran out before, and the output wasn't touched.
abbrev pub EndsPrinted : {K : Type 0} → List ℕ → (own failed : ℕ) → (before after : Stream K) → ℕ → Type 0
EndsPrinted text own failed before after status =
    ((status ≡ own) × Wrote before after text) ⊎ (((status ≡ failed) × FailedToWrite before after text) ⊎ ((status ≡ 6) × (after ≡ before)))

-- How the command ends after a session with this end, of which this text tells: it is printed, and behind it the last line. Where memory ran out nothing is.
abbrev pub EndsServed : {K : Type 0} → List ℕ → Ended → (before after : Stream K) → ℕ → Type 0
EndsServed text ended.Memory before after status = (status ≡ 6) × (after ≡ before)
EndsServed text e before after status = EndsPrinted (text ++ line_after (stop_after e)) (own_status (stop_after e)) (failed_status (stop_after e)) before after status

-- ---- a session

-- The input was read to its end and is a script of this mode, whose session came to this end.
pub record ServedScript {S : Type 0} (m : Mode) (Session : Script → Ended → List ℕ → Type 0) (input input_after : Stream S) (e : Ended) : Type 0 where
  pub script : Script
  pub reads : ReadsScript m input input_after script
  -- what tells of the session
  pub text : List ℕ
  pub session : Session script e text

module _ {S K : Type 0} (m : Mode) (Session : Script → Ended → List ℕ → Type 0) (input input_after : Stream S) (output output_after : Stream K) where
  -- A script was served to this end, and what tells of it was printed, and this line behind it, as far as the output took them.
  pub record ServedAndSaid (line : List ℕ) (e : Ended) : Type 0 where
    pub session : ServedScript m Session input input_after e
    pub says : Says (session.text ++ line) output output_after

  -- A script was served to this end, and what tells of it was printed whole.
  pub record ServedAndPrinted (e : Ended) : Type 0 where
    pub session : ServedScript m Session input input_after e
    pub printed : Wrote output output_after session.text

  -- A script was served to this end, and the output failed: a prefix of what tells of it was printed.
  pub record FailedToTell (e : Ended) : Type 0 where
    pub session : ServedScript m Session input input_after e
    pub failed : FailedToWrite output output_after session.text

  -- What came on a channel is wrong.
  pub record SaysChannel : Type 0 where
    pub channel : ℕ
    pub at : ℕ
    pub message : ℕ
    pub why : EndWhy
    pub said : ServedAndSaid (channel_line channel at message why) (ended.Channel channel at message why)

-- ---- the end

-- The script was refused for a line, and nothing was served. The output says so, unless the write of that failed.
pub record RefusesServing {S K : Type 0} (m : Mode) (Untouched : Type 0) (input input_after : Stream S) (output output_after : Stream K) : Type 0 where
  pub bad : BadLine
  pub reads : ReadsBadLine m input input_after bad
  pub says : StopsWith (stop.Line bad.line bad.why) output output_after 1
  pub unserved : Untouched

-- The input failed, and nothing else was done.
pub record FailedToReadServing {S K : Type 0} (Untouched : Type 0) (input input_after : Stream S) (output output_after : Stream K) : Type 0 where
  pub fault : HasOneFault input input_after
  pub unprinted : output_after ≡ output
  pub unserved : Untouched

-- Memory ran out, and nothing was printed: before anything was served, or after the script was read, in its session or behind it.
pub record StarvedServing {S K : Type 0} (m : Mode) (Session : Script → Ended → List ℕ → Type 0) (Untouched : Type 0) (input input_after : Stream S) (output output_after : Stream K) : Type 0 where
  pub faultless : IsFaultless input input_after
  pub unprinted : output_after ≡ output
  pub session : Untouched ⊎ ((e : Ended) × ServedScript m Session input input_after e)

-- The script was read, and a folder that it names couldn't be opened: nothing was printed or served.
pub record UnopenedServing {S K : Type 0} (m : Mode) (Unopened : Script → Type 0) (input input_after : Stream S) (output output_after : Stream K) : Type 0 where
  pub script : Script
  pub reads : ReadsScript m input input_after script
  pub unprinted : output_after ≡ output
  pub unserved : Unopened script

-- How the command ends with a status, where `Untouched` says that nothing was served, and `Unopened` the same of a script of which a folder couldn't be opened. The first of these events ends it, and nothing else
-- gives its status.
pub record IsEndOfServing {S K : Type 0} (m : Mode) (Session : Script → Ended → List ℕ → Type 0) (Untouched : Type 0) (Unopened : Script → Type 0) (input input_after : Stream S) (output output_after : Stream K) (status : ℕ) : Type 0 where
  pub known : status ≤ 8
  -- 0: the session came to its end, with no fault of the linker's
  pub served : status ≡ 0 → ServedAndPrinted m Session input input_after output output_after ended.Over
  -- 1: a line of the script was refused
  pub refused : status ≡ 1 → RefusesServing m Untouched input input_after output output_after
  -- 2: the input failed, and nothing was served
  pub unread : status ≡ 2 → FailedToReadServing Untouched input input_after output output_after
  -- 3: the output failed, where it would have been 0 or 5
  pub unwritten : status ≡ 3 → FailedToTell m Session input input_after output output_after ended.Over ⊎ FailedToTell m Session input input_after output output_after ended.Link
  -- 4: what came on a channel is wrong
  pub faulty : status ≡ 4 → SaysChannel m Session input input_after output output_after
  -- 5: a channel couldn't be had, or failed
  pub unlinked : status ≡ 5 → ServedAndPrinted m Session input input_after output output_after ended.Link
  -- 6: memory ran out
  pub starved : status ≡ 6 → StarvedServing m Session Untouched input input_after output output_after
  -- 7: so much came on a channel as is read at most
  pub long : status ≡ 7 → ServedAndSaid m Session input input_after output output_after long_line ended.Long
  -- 8: a folder couldn't be opened, and nothing was served
  pub unopened : status ≡ 8 → UnopenedServing m Unopened input input_after output output_after
  -- A bad line is refused, unless a read fails or memory runs out.
  pub refuses : (bad : BadLine) → GivesBadLine m input.bytes bad → (status ≡ 1) ⊎ ((status ≡ 2) ⊎ (status ≡ 6))
  -- A script is never refused.
  pub takes : GivesScript m input.bytes → ¬ (status ≡ 1)
