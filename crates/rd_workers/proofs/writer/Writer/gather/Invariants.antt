use Rattle.rd_workers.specs.Writing.{TakesMore}
use Rattle.rd_workers.proofs.writer.Writer.gather.Given as goal

abbrev pub invariant-loop : goal.invariant-loop
invariant-loop g l = TakesMore l.fn.self l.fn.output l.output l.self
