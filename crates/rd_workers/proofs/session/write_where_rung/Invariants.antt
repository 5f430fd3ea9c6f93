use Rattle.rd_turn.specs.History.{calls_of}
use Rattle.rd_workers.specs.Logs.{AllWrite}
use Rattle.rd_workers.specs.Passes.{ComesBack}
use Rattle.rd_workers.proofs.session.write_where_rung.Given as goal

abbrev pub invariant-loop : goal.invariant-loop
invariant-loop g l = ComesBack l.fn.writer.turn.now l.fn.writer.pass l.writer.pass × AllWrite (calls_of l.writer.pass.number l.writer.pass.seen)
