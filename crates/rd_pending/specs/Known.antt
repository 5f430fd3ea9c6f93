-- What an outcome is, and how the body of a completion is read.
use Rattle.std.specs.Prelude.{◌≡◌, ◌==◌, ℕ, List, MatchBool, Option, Some, None, Result, Ok, Err, IsOk}
use Rattle.rd_base.specs.declared.status.Status.{Status}
use Rattle.rd_base.specs.Layout.{met}
use Rattle.rd_base.specs.Position.{Position, at_start}
use Rattle.rd_irp.specs.declared.completion.Body.TheVariants.{Fault}
use Rattle.rd_irp.specs.declared.completion.Kind.{Kind}
use Rattle.rd_irp.specs.declared.completion.Reply.{Reply}
use Rattle.rd_irp.specs.Completion.{KeepsBytes, completion_body}
use Rattle.rd_irp.specs.Fits.{BodyFits, IsOfKind}
use Rattle.rd_pending.specs.declared.calls.CompleteNo.{CompleteNo}
use Rattle.rd_pending.specs.declared.calls.CompleteNo.TheVariants as no
use Rattle.rd_pending.specs.declared.calls.Outcome.{Outcome}
use Rattle.rd_pending.specs.declared.calls.Outcome.TheVariants.{Done, Lost}
use Rattle.rd_pending.specs.Table.{Fate, awaited, known}

-- A reply is one that completes some request: its body is that of a success of some layout, or of a fault, as its status says.
abbrev pub IsKnown : Outcome → Type 0
IsKnown (Done reply) = (kind : Kind) × BodyFits kind reply.status reply.body
IsKnown (Lost cause) = Unit {0}

-- A reply to a request whose completion has this layout: a success has the body of the layout, and everything else has none.
abbrev pub IsReplyOf : Kind → Reply → Type 0
IsReplyOf kind reply = MatchBool (reply.status.0 == 0) (IsOfKind kind reply.body) (reply.body ≡ Fault)

-- what there is of an outcome
abbrev pub fate_of : Option Outcome → Fate
fate_of None = awaited
fate_of (Some outcome) = known outcome

-- The bytes after a head of this status are read as the body of a completion of this layout. Memory runs out where the body reads, and its bytes are kept.
abbrev pub ReadsReply : Kind → Status → List ℕ → Result Reply CompleteNo → Type 0
ReadsReply kind status bytes (Ok reply) = (reply.status ≡ status) × (rest : Position) × (met (completion_body kind status) (at_start bytes) ≡ Ok (reply.body, rest))
ReadsReply kind status bytes (Err (no.BodyBad bad)) = met (completion_body kind status) (at_start bytes) ≡ Err bad
ReadsReply kind status bytes (Err no.Memory) = IsOk (met (completion_body kind status) (at_start bytes)) × KeepsBytes kind status
ReadsReply kind status bytes (Err (no.Stray device id)) = ⊥
