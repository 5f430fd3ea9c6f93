use Rattle.std.proofs.Common.{length}
use Rattle.rd_carry_tests.specs.Echo.{Echoes}
use Rattle.rd_carry_tests.proofs.echo.put_all.Given as goal

-- what was handed out was put
abbrev pub invariant-loop-message : goal.invariant-loop-message
invariant-loop-message g l = record { echoes : Echoes l.fn.input l.input l.fn.output l.output }

abbrev pub decreases-loop-message : goal.decreases-loop-message
decreases-loop-message g l = length l.input.unhandled
