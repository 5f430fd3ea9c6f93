-- What a completion says, and whether that is a reply.
use Rattle.std.specs.Prelude.{ℕ, ◌==◌, ◌&&◌, Bool, true, false, List, bytes_eq, drop, Option, Some, None, Result, Ok, Err, option_and_then}
use Rattle.std.specs.Option.{option_map_or}
use Rattle.rd_base.specs.declared.bad.Bad.{Bad}
use Rattle.rd_base.specs.declared.status.Status.{Status}
use Rattle.rd_base.specs.Layout.{met}
use Rattle.rd_base.specs.Position.{Position, at_start}
use Rattle.rd_irp.specs.declared.completion.Body.{Body}
use Rattle.rd_irp.specs.declared.completion.Body.TheVariants as body
use Rattle.rd_irp.specs.declared.completion.Head.{Head}
use Rattle.rd_irp.specs.declared.completion.Kind.{Kind}
use Rattle.rd_irp.specs.declared.completion.Reply.{Reply}
use Rattle.rd_irp.specs.Completion.{completion_body}
use Rattle.rd_deeds.specs.Talk.{head_in}

-- the status that a completion has
abbrev pub status_in : List ℕ → ℕ
status_in message = option_map_or (λ (h : Head). (h.status).0) (head_in message) 0

-- the reply that a completion of this layout has, if it spells one; bytes that mean nothing are no part of it
abbrev pub reply_spelled : Kind → List ℕ → Option Reply
reply_spelled kind message = option_and_then (λ (h : Head). by h.status (met (completion_body kind h.status) (at_start (drop 16 message)))) (head_in message)
  where
    by : Status → Result (Body × Position) Bad → Option Reply
    by status (Ok read) = Some (record { status = status; body = read.0 })
    by status (Err bad) = None

-- whether bodies are the same, and replies
abbrev pub same_body : Body → Body → Bool
same_body (body.Created file information) (body.Created other more) = file == other && information == more
same_body body.Closed body.Closed = true
same_body (body.Count count) (body.Count other) = count == other
same_body (body.Buffer bytes) (body.Buffer others) = bytes_eq bytes others
same_body body.Locked body.Locked = true
same_body body.Fault body.Fault = true
same_body said other = false

abbrev pub same_reply : Reply → Reply → Bool
same_reply said reply = (said.status).0 == (reply.status).0 && same_body said.body reply.body

-- whether a completion of this layout has this reply
abbrev pub says : Kind → List ℕ → Reply → Bool
says kind message reply = option_map_or (λ (said : Reply). same_reply said reply) (reply_spelled kind message) false
