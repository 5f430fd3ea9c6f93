use Rattle.std.proofs.Common.{◌∙◌, sym, ap}
use Rattle.rd_lawful.specs.Memory.{broken_by}
use Rattle.rd_lawful.proofs.memory.Memory.broken_by.Goals as goal

pub returns-in-Ran : goal.returns-in-Ran
returns-in-Ran c = c.broken_by_running.ensures c.in-Ran.moment c.in-Ran.starved c.in-Ran.parked ∙ sym (ap (broken_by c.args.self.now) c.in-Ran.is)

pub returns-in-Cut : goal.returns-in-Cut
returns-in-Cut c = c.broken_by_cutting.ensures c.in-Cut.field-0 ∙ sym (ap (broken_by c.args.self.now) c.in-Cut.is)
