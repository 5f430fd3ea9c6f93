use Rattle.std.proofs.Common.{sym, arith}
use Rattle.rd_world.proofs.ChoicesLemmas.{length_takes, takes_few}
use Rattle.rd_world.proofs.choices.Choices.takes.Goals as goal

pub overflow_mul-result : goal.overflow_mul-result
overflow_mul-result c = rw (c.count.ensures, c.count-2.ensures, ← length_takes c.args.self.now) (omega (arith, takes_few c.args.self.now))

pub returns : goal.returns
returns c = rw (c.count.ensures, c.count-2.ensures) (sym (length_takes c.args.self.now))
