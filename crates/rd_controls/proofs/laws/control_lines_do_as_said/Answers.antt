use Rattle.rd_controls.proofs.Leading.{does_as_said}
use Rattle.rd_controls.proofs.laws.control_lines_do_as_said.Goals as goal

pub returns : goal.returns
returns c = does_as_said
