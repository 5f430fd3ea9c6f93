-- How the command `audit` ends: with which status, what it has printed by then, and which event, the first, gave the status.
use Rattle.std.specs.Prelude.{◌≡◌, ◌≢◌, ℕ, ◌<◌, ◌≤◌, ◌^◌, ◌⊎◌, List, length, Some, Result, Ok, Err}
use Rattle.rd_audit.specs.Audit.{Audits}
use Rattle.rd_audit.specs.declared.no.AuditNo.{AuditNo}
use Rattle.rd_audit.specs.declared.no.AuditNo.TheVariants as no
use Rattle.rd_audit.specs.declared.verdict.Verdict.{Verdict}
use Rattle.rd_audit.specs.declared.verdict.Verdict.TheVariants as verdict
use Rattle.rd_decode.specs.declared.fault.Fault.{Fault}
use Rattle.rd_script.specs.declared.why.LineWhy.{LineWhy}
use Rattle.rd_cli.specs.Outside.{FailedToWrite, HasOneFault, IsFaultless, Read, ReadToEnd, Stream, Wrote}
use Rattle.rd_cli.specs.Stops.{Says, long_line, refused_line, fault_line, verdict_line}
use Rattle.rd_cli.specs.declared.stop.Stop.{Stop}
use Rattle.rd_cli.specs.declared.stop.Stop.TheVariants as stop

-- the most bytes of an audit file
abbrev pub max_file : ℕ
max_file = 2 ^ 30

-- what the command stops for, by why the file couldn't be judged
abbrev pub audit_stop : AuditNo → Stop
audit_stop (no.Line line why) = stop.Line line why
audit_stop (no.Bad fault) = stop.Fault fault
audit_stop no.Memory = stop.Memory

-- The input was read to its end, isn't too long, and this is what came of its judgement.
pub record IsJudged {S : Type 0} (input input_after : Stream S) (result : Result Verdict AuditNo) : Type 0 where
  pub bytes : List ℕ
  pub read : ReadToEnd input input_after bytes
  pub short : length bytes ≤ max_file
  pub judged : Audits bytes result

-- More bytes of the input were read than an audit file has.
pub record IsTooLong {S : Type 0} (input input_after : Stream S) : Type 0 where
  pub bytes : List ℕ
  pub read : Read input input_after bytes
  pub long : max_file < length bytes

-- All belongs together, and `yes` was written.
abbrev pub SaysYes : {S K : Type 0} → (input input_after : Stream S) → (output output_after : Stream K) → Type 0
SaysYes input input_after output output_after = IsJudged input input_after (Ok verdict.Yes) × Wrote output output_after (verdict_line verdict.Yes)

-- All belongs together, and the output failed: a prefix of `yes` was written.
abbrev pub FailedToSayYes : {S K : Type 0} → (input input_after : Stream S) → (output output_after : Stream K) → Type 0
FailedToSayYes input input_after output output_after = IsJudged input input_after (Ok verdict.Yes) × FailedToWrite output output_after (verdict_line verdict.Yes)

-- This doesn't belong, and comes first.
abbrev pub HasFirst : {S : Type 0} → (input input_after : Stream S) → Verdict → Type 0
HasFirst input input_after found = (found ≢ verdict.Yes) × IsJudged input input_after (Ok found)

-- What the command has done when it stopped, before a last line says so: the first event that stops it ends it.
abbrev pub StoppedAuditing : {S K : Type 0} → (input input_after : Stream S) → (output output_after : Stream K) → Stop → Type 0
StoppedAuditing input input_after output output_after (stop.Line line why) = IsJudged input input_after (Err (no.Line line why)) × (output_after ≡ output)
StoppedAuditing input input_after output output_after stop.Input = HasOneFault input input_after × (output_after ≡ output)
StoppedAuditing input input_after output output_after stop.Output = FailedToSayYes input input_after output output_after
StoppedAuditing input input_after output output_after (stop.Fault fault) = IsJudged input input_after (Err (no.Bad fault)) × (output_after ≡ output)
StoppedAuditing input input_after output output_after stop.Memory = IsFaultless input input_after × (output_after ≡ output)
StoppedAuditing input input_after output output_after stop.Long = IsTooLong input input_after × (output_after ≡ output)
StoppedAuditing input input_after output output_after (stop.No found) = HasFirst input input_after found × (output_after ≡ output)
StoppedAuditing input input_after output output_after _ = ⊥

-- How the command came out, before a last line: it said `yes`, or it stopped.
abbrev pub ComesOutOfAudit : {T S K : Type 0} → (input input_after : Stream S) → (output output_after : Stream K) → Result T Stop → Type 0
ComesOutOfAudit input input_after output output_after (Ok done) = SaysYes input input_after output output_after
ComesOutOfAudit input input_after output output_after (Err s) = StoppedAuditing input input_after output output_after s

-- How the command ends with a status. The first fault of the outside, the input's length, what came of the judgement of the file that it is, or want of memory ends it, and nothing else gives its status. A last
-- line is written, or the first fault ends that.
pub record IsEndOfAudit {S K : Type 0} (input input_after : Stream S) (output output_after : Stream K) (status : ℕ) : Type 0 where
  pub known : (status ≡ 0) ⊎ ((status ≡ 1) ⊎ ((status ≡ 2) ⊎ ((status ≡ 3) ⊎ ((status ≡ 4) ⊎ ((status ≡ 6) ⊎ ((status ≡ 7) ⊎ (status ≡ 9)))))))
  -- 0: all belongs together, which was said, with no fault
  pub belongs : status ≡ 0 → SaysYes input input_after output output_after
  -- 1: this line of the script is the first that is refused
  pub refused : status ≡ 1 → (line : ℕ) × (why : LineWhy) × IsJudged input input_after (Err (no.Line line why)) × Says (refused_line line why) output output_after
  -- 2: a read failed, and nothing was printed
  pub unread : status ≡ 2 → HasOneFault input input_after × (output_after ≡ output)
  -- 3: all belongs together, and the output failed
  pub unwritten : status ≡ 3 → FailedToSayYes input input_after output output_after
  -- 4: this is the first fault of the file
  pub faulty : status ≡ 4 → (fault : Fault) × IsJudged input input_after (Err (no.Bad fault)) × Says (fault_line fault) output output_after
  -- 6: memory ran out before any fault, and nothing was printed
  pub starved : status ≡ 6 → IsFaultless input input_after × (output_after ≡ output)
  -- 7: the input is too long
  pub long : status ≡ 7 → IsTooLong input input_after × Says long_line output output_after
  -- 9: something doesn't belong, of which this is the first
  pub apart : status ≡ 9 → (found : Verdict) × HasFirst input input_after found × Says (verdict_line found) output output_after
  -- An input that can be told and is too long comes to 7, unless a read fails or memory runs out. One that isn't never does.
  pub too_long : (bytes : List ℕ) → input.bytes ≡ Some bytes → max_file < length bytes → (status ≡ 7) ⊎ ((status ≡ 2) ⊎ (status ≡ 6))
  pub not_long : (bytes : List ℕ) → input.bytes ≡ Some bytes → length bytes ≤ max_file → ¬ (status ≡ 7)
