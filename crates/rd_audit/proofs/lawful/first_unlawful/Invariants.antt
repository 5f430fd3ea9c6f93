use Rattle.std.proofs.Common.{length}
use Rattle.rd_audit.proofs.LineLemmas.{IsJudgedTo}
use Rattle.rd_audit.proofs.lawful.first_unlawful.Given as goal

-- the lines up to a place were judged
abbrev pub invariant-loop-line : goal.invariant-loop-line
invariant-loop-line l = IsJudgedTo l.fn.text l.judged l.lines.left

abbrev pub decreases-loop-line : goal.decreases-loop-line
decreases-loop-line l = length l.lines.left
