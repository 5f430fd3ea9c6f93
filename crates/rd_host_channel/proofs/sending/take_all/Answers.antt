use Rattle.std.proofs.Common.{◌∙◌, refl, false, true}
use Rattle.rd_host_channel.proofs.SendingLemmas.{takes_none, takes_then}
use Rattle.rd_host_channel.proofs.sending.take_all.Goals as goal

pub loop-init : goal.loop-init
loop-init g c = record { turn = refl; takes = takes_none c.args.channel c.args.starved.now c.args.front.now.pass c.args.output.now }

pub loop-preserved : goal.loop-preserved
loop-preserved g c = record {
  turn = c.in-More.ensures.turn ∙ c.loop.invariant.turn;
  takes = takes_then c.args.channel false c.args.starved.now c.loop.starved c.take.new.starved c.args.front.now.pass c.loop.front.pass c.take.new.front.pass c.args.output.now c.loop.output c.take.new.output c.loop.invariant.takes c.in-More.ensures.takes;
}

pub returns-in-Empty-clause-takes : goal.returns-in-Empty-clause-takes
returns-in-Empty-clause-takes g c =
    takes_then c.args.channel false c.args.starved.now c.loop.starved c.take.new.starved c.args.front.now.pass c.loop.front.pass c.take.new.front.pass c.args.output.now c.loop.output c.take.new.output c.loop.invariant.takes c.in-Empty.ensures.takes

pub returns-in-Over-clause-takes : goal.returns-in-Over-clause-takes
returns-in-Over-clause-takes g c =
    takes_then c.args.channel true c.args.starved.now c.loop.starved c.take.new.starved c.args.front.now.pass c.loop.front.pass c.take.new.front.pass c.args.output.now c.loop.output c.take.new.output c.loop.invariant.takes c.in-Over.ensures.takes
