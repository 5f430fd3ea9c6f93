use Rattle.std.proofs.Common.{refl}
use Rattle.rd_workers.proofs.WritingLemmas.{takes_none, unflushed}
use Rattle.rd_workers.proofs.writer.Writer.gather_more.Goals as goal

pub returns-then-self : goal.returns-then-self
returns-then-self g c = takes_none c.args.self.now c.args.self.now c.args.output.now c.args.output.now (unflushed c.args.output.now c.args.output.now refl) refl (λ was. was)
