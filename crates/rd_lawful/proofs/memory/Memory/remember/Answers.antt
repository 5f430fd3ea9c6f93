use Rattle.std.proofs.Common.{◌∙◌, sym, ap}
use Rattle.rd_lawful.specs.Memory.{remember}
use Rattle.rd_lawful.proofs.memory.Memory.remember.Goals as goal

pub returns-in-Ran-clause-ok : goal.returns-in-Ran-clause-ok
returns-in-Ran-clause-ok c = c.run.ensures c.in-Ran.moment c.in-Ran.starved ∙ sym (ap (remember c.args.self.now) c.in-Ran.is)
