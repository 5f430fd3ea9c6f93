-- How completions are written.
use Rattle.std.specs.Prelude.{◌≡◌, ℕ, List, Some}
use Rattle.rd_base.specs.declared.journal.Key.{Key}
use Rattle.rd_client.specs.Core.{Outgoing}
use Rattle.rd_irp.specs.declared.completion.Reply.{Reply}
use Rattle.rd_irp.specs.declared.request.Request.{Request}
use Rattle.rd_irp.specs.Fits.{kind_of}
use Rattle.rd_irp.specs.Written.{completion_bytes}
use Rattle.rd_deeds.specs.Talk.{Deed, EachAfter, Has, client_read, completes, request_at}
use Rattle.rd_deeds.specs.Told.{CompletesWith}
use Rattle.rd_world.specs.World.{WorldState}

-- The message is what a writer makes of a reply to the request of the key, which was read.
pub record IsMade (deeds : List Deed) (key : Key) (message : List ℕ) : Type 0 where
  pub request : Request
  pub reply : Reply
  pub read : request_at (client_read key.channel deeds) key.index ≡ Some request
  pub completes : CompletesWith request reply message
  pub written : message ≡ completion_bytes (kind_of request.op) (record { device = request.device; completion = request.completion; status = reply.status }) reply.body

-- each completion was made so
abbrev pub CompletesPlainly : List Deed → Deed → Type 0
CompletesPlainly before (completes key message) = IsMade before key message
CompletesPlainly before _ = Unit {0}

-- so is what was written, and what is to be written
pub record ArePlain (outbox : List Outgoing) (deeds : List Deed) : Type 0 where
  pub out : (o : Outgoing) → Has o outbox → (key : Key) → o.answers ≡ Some key → IsMade deeds key o.message
  pub each : EachAfter CompletesPlainly deeds

abbrev pub ArePlainOut : WorldState → Type 0
ArePlainOut w = ArePlain ((w.client).core).outbox w.deeds
