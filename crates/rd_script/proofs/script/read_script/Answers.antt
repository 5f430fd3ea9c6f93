use Rattle.std.proofs.Common.{◌≡◌, ◌∙◌, sym, ap, subst, ℕ, List, Option}
use Rattle.std.specs.Borrow.{Bor}
use Rattle.rd_script.specs.Row.{parts_left}
use Rattle.rd_script.specs.Script.{lines_from, lines_of, read_all, reading_at_start, step}
use Rattle.rd_script.proofs.ScriptLemmas.{read_next, bad_case, err_same}
use Rattle.rd_script.proofs.script.read_script.Goals as goal

pub returns-in_err-step-clause-bad : goal.returns-in_err-step-clause-bad
returns-in_err-step-clause-bad c =
    let left = subst (λ (left : Option (Bor (List ℕ))). read_all (lines_from (parts_left 0x0a left)) c.loop-left.reader ≡ read_all (lines_of c.args.bytes.now) (reading_at_start c.args.mode)) c.in-Some.is c.loop-left.invariant in
    let bad = bad_case c.args.mode c.args.bytes.now c.in-Some.text.now c.cut_line.result.0.now c.cut_line.result.1 c.loop-left.reader c.step.new.self c.size_of-size.result c.in_err-step.field-0.0 c.cut_line.ensures.parts (sym c.is_end.ensures ∙ c.if-is_end.false) c.size_of-size.ensures c.in_err-step.ensures left in
    err_same _ c.from_residual.result c.in_err-step.field-0.0 c.from_residual.ensures.1 bad

pub loop-left-preserved : goal.loop-left-preserved
loop-left-preserved c =
    let left = subst (λ (left : Option (Bor (List ℕ))). read_all (lines_from (parts_left 0x0a left)) c.loop-left.reader ≡ read_all (lines_of c.args.bytes.now) (reading_at_start c.args.mode)) c.in-Some.is c.loop-left.invariant in
    read_next c.in-Some.text.now c.cut_line.result.0.now c.cut_line.result.1 c.loop-left.reader c.step.new.self _ c.cut_line.ensures.parts (sym c.is_end.ensures ∙ c.if-is_end.false)
    (ap (λ (n : ℕ). step c.loop-left.reader (record { text = c.cut_line.result.0.now; size = n })) (sym c.size_of-size.ensures) ∙ c.in_ok-step.ensures)
    left
