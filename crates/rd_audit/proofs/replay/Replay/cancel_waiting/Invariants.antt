use Rattle.std.proofs.Common.{map, take, true}
use Rattle.rd_base.specs.declared.journal.Key.{Key}
use Rattle.rd_drive.specs.Replies.{cancellation}
use Rattle.rd_audit.specs.Kept.{GivesReplies}
use Rattle.rd_audit.proofs.replay.Replay.cancel_waiting.Given as goal

-- those so far are given theirs
abbrev pub invariant-loop-key : goal.invariant-loop-key
invariant-loop-key l = GivesReplies l.channels l.fn.self.count true (map (λ (k : Key). (k, cancellation)) (take l.key-index l.fn.self.waiting.items)) l.fn.courses l.courses
