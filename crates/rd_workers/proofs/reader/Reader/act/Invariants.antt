use Rattle.std.proofs.Common.{ℕ, None}
use Rattle.rd_workers.specs.Reading.{GoesOn}
use Rattle.rd_workers.proofs.LineLemmas.{AreActing}
use Rattle.rd_workers.proofs.reader.Reader.act.Given as goal

abbrev pub invariant-loop : goal.invariant-loop
invariant-loop g l = (count : ℕ) → GoesOn (AreActing l.channel l.asked l.fn.due l.due) None count l.fn.self l.self
