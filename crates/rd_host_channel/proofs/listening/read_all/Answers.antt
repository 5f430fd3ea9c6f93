use Rattle.std.proofs.Common.{◌∙◌, refl, None, Some}
use Rattle.rd_host_channel.proofs.ReadingLemmas.{more_first, more_then}
use Rattle.rd_host_channel.proofs.listening.read_all.Goals as goal

pub loop-init : goal.loop-init
loop-init g c = record { turn = refl; reads = more_first c.args.channel c.args.front.now.pass c.args.incoming.now }

pub returns-in-Some-step-clause-reads : goal.returns-in-Some-step-clause-reads
returns-in-Some-step-clause-reads g c =
    more_then c.args.channel (Some c.in-Some-step.ending) c.args.front.now.pass c.loop.front.pass c.step.new.front.pass c.args.incoming.now c.loop.incoming c.step.new.incoming c.loop.invariant.reads c.in-Some-step.ensures.reads

pub loop-preserved : goal.loop-preserved
loop-preserved g c = record {
  turn = c.in_default.ensures.turn ∙ c.loop.invariant.turn;
  reads = more_then c.args.channel None c.args.front.now.pass c.loop.front.pass c.step.new.front.pass c.args.incoming.now c.loop.incoming c.step.new.incoming c.loop.invariant.reads c.in_default.ensures.reads;
}
