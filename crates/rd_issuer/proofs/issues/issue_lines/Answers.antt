use Rattle.std.proofs.Common.{◌∙◌, true, refl, rules}
use Rattle.std.specs.Prelude.{is_ok}
use Rattle.rd_issuer.proofs.IssueLemmas.{goes_none, goes_step}
use Rattle.rd_issuer.proofs.issues.issue_lines.Goals as goal

pub loop-init : goal.loop-init
loop-init g c = (refl, goes_none c.args.number c.args.application.now c.args.table.now.pass)

pub loop-preserved : goal.loop-preserved
loop-preserved g c = (
  c.issue_or_take.ensures.turn ∙ c.loop.invariant.0,
  goes_step c.args.number c.issue_or_take.result true c.args.application.now c.loop.application c.issue_or_take.new.application c.args.table.now.pass c.loop.table.pass c.issue_or_take.new.table.pass (search rules) c.loop.invariant.1 c.issue_or_take.ensures.goes,
)

pub returns-in_err-issue_or_take-clause-turn : goal.returns-in_err-issue_or_take-clause-turn
returns-in_err-issue_or_take-clause-turn g c = c.issue_or_take.ensures.turn ∙ c.loop.invariant.0

pub returns-in_err-issue_or_take-clause-goes : goal.returns-in_err-issue_or_take-clause-goes
returns-in_err-issue_or_take-clause-goes g c =
    goes_step c.args.number c.issue_or_take.result (is_ok c.from_residual.result) c.args.application.now c.loop.application c.issue_or_take.new.application c.args.table.now.pass c.loop.table.pass c.issue_or_take.new.table.pass (search rules) c.loop.invariant.1
    c.issue_or_take.ensures.goes

pub returns-then-not-branch-clause-turn : goal.returns-then-not-branch-clause-turn
returns-then-not-branch-clause-turn g c = c.issue_or_take.ensures.turn ∙ c.loop.invariant.0

pub returns-then-not-branch-clause-goes : goal.returns-then-not-branch-clause-goes
returns-then-not-branch-clause-goes g c =
    goes_step c.args.number c.issue_or_take.result true c.args.application.now c.loop.application c.issue_or_take.new.application c.args.table.now.pass c.loop.table.pass c.issue_or_take.new.table.pass (search rules) c.loop.invariant.1
    c.issue_or_take.ensures.goes
