use Rattle.std.proofs.Common.{◌∙◌}
use Rattle.rd_host_channel.proofs.GivenLemmas.{gives_last, gives_taken, waits_again}
use Rattle.rd_host_channel.proofs.listening.hear.Goals as goal

pub returns-in-Taken-clause-gives : goal.returns-in-Taken-clause-gives
returns-in-Taken-clause-gives g c =
    gives_taken c.args.channel c.args.message c.loop.message c.args.heard c.args.front.now.pass c.loop.front.pass c.hear_once.new.front.pass c.loop.invariant.waits c.in-Taken.ensures.calls

pub loop-preserved : goal.loop-preserved
loop-preserved g c = record {
  turn = c.in-Again.ensures.turn ∙ c.loop.invariant.turn;
  waits = waits_again c.args.channel c.args.message c.loop.message c.in-Again.back c.args.heard c.args.front.now.pass c.loop.front.pass c.hear_once.new.front.pass c.loop.invariant.waits c.in-Again.ensures.calls;
}

pub returns-in-Last-clause-gives : goal.returns-in-Last-clause-gives
returns-in-Last-clause-gives g c =
    gives_last c.args.channel c.args.message c.loop.message c.args.heard c.in-Last.ending c.args.front.now.pass c.loop.front.pass c.hear_once.new.front.pass c.loop.invariant.waits c.in-Last.ensures.calls
