-- A completion spells its reply.
use Rattle.std.proofs.Common.{◌≡◌, refl, sym, ap, subst, ℕ, ◌+◌, ◌≤◌, ◌<◌, ◌^◌, false, List, ◌++◌, drop, length, length-append, arith}
use Rattle.std.specs.Prelude.{◌==◌}
use Rattle.rd_base.specs.declared.status.Status.{Status}
use Rattle.rd_chunk.specs.Carrier.{IsMessage}
use Rattle.rd_drive.proofs.AnswerLemmas.{fault_answers}
use Rattle.rd_drive.specs.Outcome.{fault}
use Rattle.rd_irp.proofs.WrittenLemmas.{body_after_head, body_spelled, head_spelled, length-body_bytes}
use Rattle.rd_irp.specs.Completion.{SpellsBody}
use Rattle.rd_irp.specs.Fits.{IsSendable, body_length, fault_length, kind_of, max_buffer}
use Rattle.rd_irp.specs.Written.{body_bytes, body_tail, head_bytes}
use Rattle.rd_irp.specs.declared.completion.Body.{Body}
use Rattle.rd_irp.specs.declared.completion.Body.TheVariants as body
use Rattle.rd_irp.specs.declared.completion.Head.{Head}
use Rattle.rd_irp.specs.declared.completion.Kind.{Kind}
use Rattle.rd_irp.specs.declared.completion.Kind.TheVariants as kind
use Rattle.rd_irp.specs.declared.completion.Reply.{Reply}
use Rattle.rd_irp.specs.declared.op.Op.{Op}
use Rattle.rd_irp.specs.declared.request.Request.{Request}
use Rattle.rd_ranges.specs.Ranges.{IsFullReply, completion_with}
use Rattle.rd_deeds.specs.Told.{CompletesWith}

pub completes : (r : Request) (reply : Reply) → IsFullReply r.op reply → r.device < 2 ^ 32 → r.completion < 2 ^ 32 → CompletesWith r reply (completion_with r reply)
completes r reply full device id =
    let head : Head = record { device = r.device; completion = r.completion; status = reply.status } in
    let field : List ℕ = body_bytes (kind_of r.op) reply.body in
    let after : drop 16 (head_bytes head ++ field) ≡ field = body_after_head head field in
    record {
      head = head_spelled head field (length (drop 16 (head_bytes head ++ field))) (sym (ap length after)) device id (full.range).0;
      tail = body_tail (kind_of r.op) reply.body;
      body = subst (λ (bytes : List ℕ). SpellsBody (kind_of r.op) reply.status reply.body (body_tail (kind_of r.op) reply.body) bytes) (sym after)
          (body_spelled (kind_of r.op) reply.status reply.body (full.replies).0 (full.range).1);
    }

few_zeros : (k : Kind) → fault_length k ≤ 5
few_zeros kind.Create = omega arith
few_zeros kind.Close = omega arith
few_zeros kind.Count = omega arith
few_zeros kind.Buffer = omega arith
few_zeros kind.Lock = omega arith

short_body : (k : Kind) (b : Body) → IsSendable b → body_length k b ≤ max_buffer + 5
short_body k (body.Created file information) few = omega arith
short_body k body.Closed few = omega arith
short_body k (body.Count count) few = omega arith
short_body k (body.Buffer bytes) few = omega (arith, few)
short_body k body.Locked few = omega arith
short_body k body.Fault few = omega (arith, few_zeros k)

pub is_message : (r : Request) (reply : Reply) → IsSendable reply.body → IsMessage (completion_with r reply)
is_message r reply few =
    let head : Head = record { device = r.device; completion = r.completion; status = reply.status } in
    let field : List ℕ = body_bytes (kind_of r.op) reply.body in
    let first : length (head_bytes head) ≡ 16 = refl in
    let all = length-append (head_bytes head) field in
    let body : length field ≡ body_length (kind_of r.op) reply.body = length-body_bytes (kind_of r.op) reply.body in
    (omega (arith, all, first), omega (arith, all, first, body, short_body (kind_of r.op) reply.body few))

pub fault_full : (o : Op) (st : Status) → (st.0 == 0) ≡ false → st.0 < 2 ^ 32 → IsFullReply o (fault st)
fault_full o st failed low = record { replies = fault_answers o st failed; range = (low, tt) }
