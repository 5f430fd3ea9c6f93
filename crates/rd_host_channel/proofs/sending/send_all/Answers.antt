use Rattle.std.proofs.Common.{◌∙◌, refl, false, true}
use Rattle.rd_host_channel.proofs.PuttingLemmas.{flushed}
use Rattle.rd_host_channel.proofs.SendingLemmas.{takes_and, takes_none, takes_then}
use Rattle.rd_host_channel.proofs.sending.send_all.Goals as goal

pub loop-init : goal.loop-init
loop-init g c = record { turn = refl; takes = takes_none c.args.channel c.args.starved.now c.args.front.now.pass c.args.output.now }

pub returns-in_default-clause-takes : goal.returns-in_default-clause-takes
returns-in_default-clause-takes g c =
    takes_then c.args.channel true c.args.starved.now c.loop.starved c.take_all.new.starved c.args.front.now.pass c.loop.front.pass c.take_all.new.front.pass c.args.output.now c.loop.output c.take_all.new.output c.loop.invariant.takes c.in_default.ensures.takes

pub loop-preserved : goal.loop-preserved
loop-preserved g c = record {
  turn = c.in-Some-take_all.ensures.turn ∙ c.loop.invariant.turn;
  takes = takes_and c.args.channel false c.args.starved.now c.take_all.new.starved c.args.front.now.pass c.take_all.new.front.pass c.args.output.now c.take_all.new.output c.flush.new.self
      (takes_then c.args.channel false c.args.starved.now c.loop.starved c.take_all.new.starved c.args.front.now.pass c.loop.front.pass c.take_all.new.front.pass c.args.output.now c.loop.output c.take_all.new.output c.loop.invariant.takes c.in-Some-take_all.ensures.takes)
      (flushed c.take_all.new.output c.flush.new.self c.flush.ensures.since c.flush.ensures.over);
}
