use Rattle.std.proofs.Common.{refl}
use Rattle.rd_audit.proofs.ReplayLemmas.{takes_cut}
use Rattle.rd_audit.proofs.replay.Replay.cut.Goals as goal

pub returns-clause-taken : goal.returns-clause-taken
returns-clause-taken c d cause stands =
    takes_cut c.args.channels.now d cause c.args.self.now _ c.args.courses.now c.cancel_waiting.new.courses stands refl refl refl refl c.clear.ensures.items c.cut.ensures.cuts c.cut.ensures.none
    c.in_ok-cancel_waiting.ensures
