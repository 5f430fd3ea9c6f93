use Rattle.std.proofs.Common.{length}
use Rattle.rd_audit.proofs.ReplayLemmas.{EndsTo}
use Rattle.rd_audit.proofs.replay.Replay.end.Given as goal

-- those that ended so far are given their replies and wait no more
abbrev pub invariant-loop-end : goal.invariant-loop-end
invariant-loop-end l = EndsTo l.channels l.fn.self l.self l.fn.courses l.courses

abbrev pub decreases-loop-end : goal.decreases-loop-end
decreases-loop-end l = length l.self.ends
