use Rattle.std.proofs.Common.{length}
use Rattle.rd_audit.proofs.WalkLemmas.{IsWalkedTo}
use Rattle.rd_audit.proofs.journals.replay_journals.Given as goal

-- the lines up to a place were gone over
abbrev pub invariant-loop-line : goal.invariant-loop-line
invariant-loop-line l = IsWalkedTo l.fn.channels l.fn.devices.entries l.fn.text l.walk l.lines.left

abbrev pub decreases-loop-line : goal.decreases-loop-line
decreases-loop-line l = length l.lines.left
