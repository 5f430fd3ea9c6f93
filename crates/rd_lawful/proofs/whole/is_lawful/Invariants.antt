use Rattle.std.proofs.Common.{take}
use Rattle.rd_lawful.specs.Judged.{HasTaken}
use Rattle.rd_lawful.proofs.whole.is_lawful.Given as goal

abbrev pub invariant-loop-entry : goal.invariant-loop-entry
invariant-loop-entry l = HasTaken l.judge (take l.entry-index l.entries)
