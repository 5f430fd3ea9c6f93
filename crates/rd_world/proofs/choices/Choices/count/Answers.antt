use Rattle.std.proofs.Common.{arith}
use Rattle.rd_world.proofs.ChoicesLemmas.{length_listed, listed_few}
use Rattle.rd_world.proofs.choices.Choices.count.Goals as goal

pub overflow_add-result : goal.overflow_add-result
overflow_add-result c =
    omega (arith, length_listed c.args.self.now, listed_few c.args.self.now, c.from.ensures, c.from-2.ensures, c.from-3.ensures, c.from-4.ensures, c.count.ensures)

pub overflow_add-result-2 : goal.overflow_add-result-2
overflow_add-result-2 c =
    omega (arith, length_listed c.args.self.now, listed_few c.args.self.now, c.from.ensures, c.from-2.ensures, c.from-3.ensures, c.from-4.ensures, c.count.ensures, c.count-2.ensures)

pub overflow_add-result-3 : goal.overflow_add-result-3
overflow_add-result-3 c =
    omega (arith, length_listed c.args.self.now, listed_few c.args.self.now, c.from.ensures, c.from-2.ensures, c.from-3.ensures, c.from-4.ensures, c.count.ensures, c.count-2.ensures, c.takes.ensures)

pub overflow_add-result-4 : goal.overflow_add-result-4
overflow_add-result-4 c =
    omega (arith, length_listed c.args.self.now, listed_few c.args.self.now, c.from.ensures, c.from-2.ensures, c.from-3.ensures, c.from-4.ensures, c.count.ensures, c.count-2.ensures, c.takes.ensures, c.count-3.ensures)

pub returns : goal.returns
returns c =
    omega (arith, length_listed c.args.self.now, listed_few c.args.self.now, c.from.ensures, c.from-2.ensures, c.from-3.ensures, c.from-4.ensures, c.count.ensures, c.count-2.ensures, c.takes.ensures, c.count-3.ensures)
