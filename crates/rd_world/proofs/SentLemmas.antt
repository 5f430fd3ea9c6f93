-- A completion that can be sent is a message.
use Rattle.std.proofs.Common.{◌≡◌, ◌≤◌, ℕ, ◌+◌, ◌++◌, length, ap, ◌∙◌, arith}
use Rattle.std.proofs.lemmas.List.{length-append}
use Rattle.rd_chunk.specs.Carrier.{IsMessage}
use Rattle.rd_irp.specs.declared.completion.Body.{Body}
use Rattle.rd_irp.specs.declared.completion.Body.TheVariants as body
use Rattle.rd_irp.specs.declared.completion.Head.{Head}
use Rattle.rd_irp.specs.declared.completion.Kind.{Kind}
use Rattle.rd_irp.specs.declared.completion.Kind.TheVariants as kind
use Rattle.rd_irp.specs.Fits.{IsSendable, body_length, fault_length}
use Rattle.rd_irp.specs.Written.{body_bytes, completion_bytes, head_bytes}
use Rattle.rd_irp.proofs.WrittenLemmas.{length-body_bytes}

fault_short : (k : Kind) → fault_length k ≤ 5
fault_short kind.Create = omega arith
fault_short kind.Close = omega arith
fault_short kind.Count = omega arith
fault_short kind.Buffer = omega arith
fault_short kind.Lock = omega arith

body_short : (k : Kind) (b : Body) → IsSendable b → body_length k b ≤ 1048580
body_short k (body.Created file information) sendable = omega arith
body_short k body.Closed sendable = omega arith
body_short k (body.Count count) sendable = omega arith
body_short k (body.Buffer bytes) sendable = omega (arith, sendable)
body_short k body.Locked sendable = omega arith
body_short k body.Fault sendable = omega (arith, fault_short k)

pub completion_is_message : (head : Head) (k : Kind) (b : Body) → IsSendable b → IsMessage (completion_bytes k head b)
completion_is_message head k b sendable =
    let long : length (head_bytes head ++ body_bytes k b) ≡ 16 + body_length k b = length-append (head_bytes head) (body_bytes k b) ∙ ap (λ (n : ℕ). 16 + n) (length-body_bytes k b) in
    (omega (arith, long), omega (arith, long, body_short k b sendable))
