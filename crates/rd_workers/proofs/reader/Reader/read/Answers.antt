use Rattle.std.proofs.Common.{None, Some}
use Rattle.rd_workers.proofs.ReadingLemmas.{reads_first, reads_then}
use Rattle.rd_workers.proofs.reader.Reader.read.Goals as goal

pub loop-init : goal.loop-init
loop-init g c = reads_first c.args.channel c.args.due.now c.args.self.now c.args.incoming.now

pub loop-preserved : goal.loop-preserved
loop-preserved g c =
    reads_then c.args.channel None c.args.due.now c.loop.due c.step.new.due c.args.self.now c.loop.self c.step.new.self c.args.incoming.now c.loop.incoming c.step.new.incoming c.loop.invariant c.in_default.ensures

pub returns-in-Some-step : goal.returns-in-Some-step
returns-in-Some-step g c =
    reads_then c.args.channel (Some c.in-Some-step.ending) c.args.due.now c.loop.due c.step.new.due c.args.self.now c.loop.self c.step.new.self c.args.incoming.now c.loop.incoming c.step.new.incoming c.loop.invariant c.in-Some-step.ensures
