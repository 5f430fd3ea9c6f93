use Rattle.std.proofs.Common.{None}
use Rattle.rd_workers.specs.Lines.{KeepsToLines}
use Rattle.rd_workers.specs.Reading.{HearsOn}
use Rattle.rd_workers.proofs.reader.Reader.read.Given as goal

abbrev pub invariant-loop : goal.invariant-loop
invariant-loop g l = HearsOn (KeepsToLines l.channel None l.fn.due l.due) None l.fn.self l.self l.fn.incoming l.incoming
