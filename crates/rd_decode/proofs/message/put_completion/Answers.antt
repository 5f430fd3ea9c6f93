use Rattle.std.proofs.Common.{◌≡◌, ℕ, List, subst, Ok, None, refl, sym, ◌∙◌, rules}
use Rattle.rd_decode.specs.Kept.{awaited_of}
use Rattle.rd_irp.specs.Completion.{completion_body, FirstFaultOfBody}
use Rattle.rd_irp.specs.Measure.{tail_of}
use Rattle.rd_base.specs.Reading.{WithTail}
use Rattle.rd_decode.proofs.MessageLemmas.{body_faulty, body_found, body_measured, head_found, is_stray, prints_fault, slice_from}
use Rattle.rd_decode.proofs.message.put_completion.Goals as goal

-- src/message.rt:86:9
pub returns-in_default : goal.returns-in_default
returns-in_default c =
    let head = c.in_ok-head.head in
    let before = awaited_of c.args.requests.now in
    let read = head_found c.args.side before c.args.message.now head _ c.in_ok-head.ensures.spelled in
    let none : None ≡ _ = sym c.in_default.is ∙ c.in_ok-kind.ensures.first in
    (read ∙ is_stray c.args.side before c.args.message.now head (before head.device head.completion) none, refl)

-- src/message.rt:91:16
pub returns-in_err-tail : goal.returns-in_err-tail
returns-in_err-tail c =
    let head = c.in_ok-head.head in
    let before = awaited_of c.args.requests.now in
    let read = head_found c.args.side before c.args.message.now head _ c.in_ok-head.ensures.spelled in
    let faulty = body_faulty c.args.side before c.args.message.now head (before head.device head.completion) c.in-Some.kind c.in_err-tail.field-0.0 (sym c.in-Some.is ∙ c.in_ok-kind.ensures.first) (subst (λ (bytes : List ℕ). FirstFaultOfBody c.in-Some.kind head.status bytes c.in_err-tail.field-0.0) (slice_from 16 c.args.message.now) c.in_err-tail.ensures.refused) in
    prints_fault _ _ _ _ c.in_err-tail.field-0.0 (search rules) (read ∙ faulty)

-- src/message.rt:70:1
pub returns : goal.returns
returns c =
    let head = c.in_ok-head.head in
    let before = awaited_of c.args.requests.now in
    let read = head_found c.args.side before c.args.message.now head _ c.in_ok-head.ensures.spelled in
    let tail = body_measured (completion_body c.in-Some.kind head.status) c.args.message.now c.in_ok-tail.tail c.type_inv.message c.requires (subst (λ (bytes : List ℕ). WithTail c.in_ok-tail.tail (λ tail. tail_of (completion_body c.in-Some.kind head.status) bytes ≡ Ok tail)) (slice_from 16 c.args.message.now) c.in_ok-tail.ensures.measured) in
    let found = body_found c.args.side before c.args.message.now head (before head.device head.completion) _ _ (sym c.in-Some.is ∙ c.in_ok-kind.ensures.first) tail in
    (_, read ∙ found, c.in_ok-put_completion_line.ensures, c.in_ok-kind.ensures.others)
