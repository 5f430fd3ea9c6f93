use Rattle.std.specs.Io.KnownBytes.{Consumes}
use Rattle.rd_carry.specs.Outgoing.{HasWritten}
use Rattle.rd_carry_tests.proofs.echo.echo_all.Given as goal

-- the messages that came in so far went out
abbrev pub invariant-loop : goal.invariant-loop
invariant-loop g l = record {
  consumed : Consumes l.fn.input.left l.input.left l.input.read;
  wrote : HasWritten l.fn.output.held l.input.messages l.output;
}
