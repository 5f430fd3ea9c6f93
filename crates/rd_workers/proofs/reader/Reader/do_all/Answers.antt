use Rattle.std.proofs.Common.{◌∙◌, ap, false}
use Rattle.rd_workers.specs.Reading.{having_written}
use Rattle.rd_workers.proofs.reader.Reader.do_all.Goals as goal

pub returns-then-not-write : goal.returns-then-not-write
returns-then-not-write g c = c.if-not-write.ensures ∙ ap (having_written false) (c.self-in-loop-2.view_is ∙ c.loop-2.invariant)
