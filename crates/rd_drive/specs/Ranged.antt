-- Replies whose numbers are in the ranges of their fields, so that they can be written.
use Rattle.std.specs.Prelude.{◌<◌, ◌^◌, List, length}
use Rattle.std.specs.List.{AllByRecursion}
use Rattle.rd_irp.specs.declared.op.Op.{Op}
use Rattle.rd_irp.specs.declared.op.Op.TheVariants as op
use Rattle.rd_irp.specs.declared.completion.Reply.{Reply}
use Rattle.rd_irp.specs.Written.{IsBodyInRange}
use Rattle.rd_drive.specs.declared.step.Step.{Step}
use Rattle.rd_drive.specs.declared.step.Step.TheVariants as step
use Rattle.rd_drive.specs.declared.step.End.{End}
use Rattle.rd_drive.specs.Stepped.{Stepped}

-- the bytes that an operation sets can be counted in 32 bits
abbrev pub SetsFew : Op → Type 0
SetsFew (op.Write offset bytes) = length bytes < 2 ^ 32
SetsFew (op.SetFile class bytes) = length bytes < 2 ^ 32
SetsFew (op.SetVolume class bytes) = length bytes < 2 ^ 32
SetsFew _ = Unit {0}

-- the status and the numbers of a reply are in the ranges of their fields
abbrev pub IsReplyInRange : Reply → Type 0
IsReplyInRange reply = (reply.status.0 < 2 ^ 32) × IsBodyInRange reply.body

-- the same of an answer, where it is a reply
abbrev pub IsAnswerInRange : Step → Type 0
IsAnswerInRange (step.Reply reply) = IsReplyInRange reply
IsAnswerInRange step.Parked = Unit {0}

-- the same of each end
abbrev pub AreEndsInRange : List End → Type 0
AreEndsInRange ends = AllByRecursion (λ (ended : End). IsReplyInRange ended.reply) ends

-- the same of all that comes of a request
abbrev pub IsSteppedInRange : {S : Type 0} → Stepped S → Type 0
IsSteppedInRange came = IsAnswerInRange came.answer × AreEndsInRange came.ends
