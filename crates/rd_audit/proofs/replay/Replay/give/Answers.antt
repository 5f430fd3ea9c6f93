use Rattle.rd_audit.proofs.ReplayLemmas.{gives_one}
use Rattle.rd_audit.proofs.replay.Replay.give.Goals as goal

pub returns : goal.returns
returns c =
    gives_one c.args.channels.now c.args.self.now.count c.in_ok-same.same c.args.cut c.args.key c.args.reply.now c.args.courses.now c.give.new.self c.in_ok-same.ensures c.give.ensures
