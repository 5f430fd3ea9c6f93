use Rattle.std.proofs.Common.{◌≡◌, ◌+◌, ℕ, List, length, drop, length-drop, arith, sym, subst, ap, ◌∙◌}
use Rattle.std.specs.Prelude.{IfOk, Result}
use Rattle.std.specs.declared.alloc.AllocError.{AllocError}
use Rattle.rd_irp.specs.declared.completion.Head.{Head}
use Rattle.rd_irp.specs.Completion.{SpellsBody, SpellsHead}
use Rattle.rd_irp.specs.Fits.{body_length}
use Rattle.rd_irp.specs.Written.{body_tail, completion_bytes}
use Rattle.rd_front.specs.Front.{SpellsCompletion}
use Rattle.rd_front.proofs.next.written.Goals as goal

pub returns-in-Ok : goal.returns-in-Ok
returns-in-Ok c =
    let made = c.write_completion.ensures in
    let head : Head = record { device = c.args.device; completion = c.args.completion.completion; status = c.args.completion.reply.status } in
    let kind = c.args.completion.kind in
    let body = c.args.completion.reply.body in
    let of_message : (P : List ℕ → Type 0) → IfOk c.write_completion.result P → P c.in-Ok.message =
    λ P is. subst (λ (r : Result (List ℕ) AllocError). IfOk r P) c.in-Ok.is is in
    let whole : length c.in-Ok.message ≡ 16 + body_length kind body = of_message (λ m. length m ≡ 16 + body_length kind body) made.length in
    let rest : length (drop 16 c.in-Ok.message) ≡ body_length kind body = omega (arith, length-drop 16 c.in-Ok.message, whole) in
    let spelled : SpellsCompletion c.args.device c.args.completion c.in-Ok.message = (
      subst (λ (tail : ℕ). SpellsHead head tail c.in-Ok.message) (sym rest) (of_message (λ m. SpellsHead head (body_length kind body) m) made.head),
      (body_tail kind body, of_message (λ m. SpellsBody kind head.status body (body_tail kind body) (drop 16 m)) made.body),
    ) in
    (of_message (λ m. m ≡ completion_bytes kind head body) made.written, spelled)
