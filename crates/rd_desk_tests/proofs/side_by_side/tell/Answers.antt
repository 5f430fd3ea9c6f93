use Rattle.rd_desk.proofs.OwnLemmas.{call_idle}
use Rattle.rd_desk_tests.proofs.side_by_side.tell.Goals as goal

pub returns-clause-gives : goal.returns-clause-gives
returns-clause-gives g c = call_idle c.args.pass.now c.call.new.pass c.args.call c.call.result c.call.ensures.same.0 c.call.ensures.own_calls c.requires.idle
