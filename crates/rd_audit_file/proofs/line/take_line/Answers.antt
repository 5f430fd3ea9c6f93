use Rattle.std.proofs.Common.{sym, arith, subst}
use Rattle.rd_audit_file.specs.Lines.{TakesLine}
use Rattle.rd_audit_file.proofs.LineLemmas.{line_length, takes_none, takes_some}
use Rattle.rd_audit_file.proofs.line.take_line.Goals as goal

pub returns-in_err-line : goal.returns-in_err-line
returns-in_err-line c = subst (λ r. TakesLine c.args.text.now r) (sym c.from_residual.ensures) (takes_none c.args.text.now (sym c.in_err-line.ensures))

pub overflow_sub-result : goal.overflow_sub-result
overflow_sub-result c =
    let lengths = line_length c.args.text.now c.in_ok-line.line c.in_ok-line.rest (sym c.in_ok-line.ensures) in
    omega (arith, lengths)

pub returns : goal.returns
returns c = takes_some c.args.text.now c.in_ok-line.line c.in_ok-line.rest (sym c.in_ok-line.ensures)
