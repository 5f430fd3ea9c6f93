use Rattle.std.proofs.Common.{◌≡◌, length}
use Rattle.rd_workers.specs.Lines.{at_lines, lines_from_on}
use Rattle.rd_workers.proofs.due.Due.first.Given as goal

abbrev pub invariant-loop-self : goal.invariant-loop-self
invariant-loop-self l = lines_from_on l.channel (at_lines l.self-inside.lines.now) ≡ lines_from_on l.channel l.fn.self

abbrev pub decreases-loop-self : goal.decreases-loop-self
decreases-loop-self l = length l.self-inside.lines.now
