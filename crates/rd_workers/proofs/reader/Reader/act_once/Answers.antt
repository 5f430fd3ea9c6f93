use Rattle.std.proofs.Common.{Some, subst, sym}
use Rattle.rd_workers.specs.Lines.{DoesAct}
use Rattle.rd_workers.specs.Reading.{GoesOn}
use Rattle.rd_workers.specs.declared.due.Act.{Act}
use Rattle.rd_workers.specs.declared.reader.Ending.TheVariants as ending
use Rattle.rd_workers.proofs.ReadingLemmas.{goes_dropped}
use Rattle.rd_workers.proofs.reader.Reader.act_once.Goals as goal

pub returns-in-Remove : goal.returns-in-Remove
returns-in-Remove g c = λ count. subst (λ (a : Act). GoesOn (DoesAct a c.tell.result) c.tell.result count c.args.self.now c.tell.new.self) (sym c.in-Remove.is) (c.tell.ensures count)

pub returns-in-Add : goal.returns-in-Add
returns-in-Add g c = λ count. subst (λ (a : Act). GoesOn (DoesAct a c.tell-in-Add.result) c.tell-in-Add.result count c.args.self.now c.tell-in-Add.new.self) (sym c.in-Add.is) (c.tell-in-Add.ensures count)

pub returns-in-Drop : goal.returns-in-Drop
returns-in-Drop g c = λ count. subst (λ (a : Act). GoesOn (DoesAct a (Some ending.Dropped)) (Some ending.Dropped) count c.args.self.now c.args.self.now) (sym c.in-Drop.is) (goes_dropped count c.args.self.now)
