use Rattle.std.proofs.Common.{refl, subst, sym}
use Rattle.rd_carry.specs.Outgoing.{OutgoingState}
use Rattle.rd_workers.specs.Passes.{WriterState}
use Rattle.rd_workers.specs.Writing.{TakesMore}
use Rattle.rd_workers.proofs.WritingLemmas.{takes_none, takes_then, unflushed}
use Rattle.rd_workers.proofs.writer.Writer.gather.Goals as goal
use Rattle.rd_workers.proofs.writer.Writer.gather.Goals.{in-None, in-Some+then-not-gather_more}

pub loop-init : goal.loop-init
loop-init g c = takes_none c.args.self.now c.args.self.now c.args.output.now c.args.output.now (unflushed c.args.output.now c.args.output.now refl) refl (λ was. was)

pub loop-preserved : goal.loop-preserved
loop-preserved g c = takes_then c.args.self.now c.loop.self c.gather_more.new.self c.args.output.now c.loop.output c.gather_more.new.output c.loop.invariant c.gather_more.ensures

pub returns : goal.returns
returns g c = elim c.match-next.branch [
  | in-None w ↦
      subst (λ (o : OutgoingState). TakesMore c.args.self.now c.args.output.now o c.match-next.self) (sym w.output-is)
      (subst (λ (s : WriterState g.row.F.Denot). TakesMore c.args.self.now c.args.output.now c.loop.output s) (sym w.self-is) c.loop.invariant)
  | in-Some+then-not-gather_more w ↦
      subst (λ (o : OutgoingState). TakesMore c.args.self.now c.args.output.now o c.match-next.self) (sym w.output-is)
      (subst (λ (s : WriterState g.row.F.Denot). TakesMore c.args.self.now c.args.output.now w.gather_more.new.output s) (sym w.self-is)
      (takes_then c.args.self.now c.loop.self w.gather_more.new.self c.args.output.now c.loop.output w.gather_more.new.output c.loop.invariant w.gather_more.ensures))
]
