use Rattle.std.proofs.Common.{◌≡◌, true}
use Rattle.rd_issuer.specs.Issues.{Goes}
use Rattle.rd_issuer.proofs.issues.issue_lines.Given as goal

abbrev pub invariant-loop : goal.invariant-loop
invariant-loop g l = (l.table.turn.now ≡ l.fn.table.turn.now) × Goes l.number true l.fn.application l.application l.fn.table.pass l.table.pass
