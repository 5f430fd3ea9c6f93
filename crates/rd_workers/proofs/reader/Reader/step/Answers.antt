use Rattle.std.proofs.Common.{length, subst, ℕ}
use Rattle.rd_workers.specs.Lines.{StartsOnce}
use Rattle.rd_workers.specs.Reading.{GoesOn}
use Rattle.rd_workers.proofs.ReadingLemmas.{steps_acted, steps_heard, steps_tried}
use Rattle.rd_workers.proofs.reader.Reader.step.Goals as goal

pub returns-in-Some : goal.returns-in-Some
returns-in-Some g c = steps_acted c.args.channel c.in-Some.ending c.args.due.now c.act.new.due c.args.self.now c.act.new.self c.args.incoming.now (c.in-Some.ensures (length c.args.incoming.now.messages))

pub returns-then-self : goal.returns-then-self
returns-then-self g c =
    steps_tried c.args.channel c.retry.result c.args.due.now c.act.new.due c.args.self.now c.act.new.self c.retry.new.self c.args.incoming.now (c.in_default.ensures (length c.args.incoming.now.messages))
    (subst (λ (k : ℕ). GoesOn (StartsOnce c.retry.result) c.retry.result k c.act.new.self c.retry.new.self) c.heard.ensures c.retry.ensures)

pub returns : goal.returns
returns g c =
    steps_heard c.args.channel c.hear.result c.args.due.now c.act.new.due c.args.self.now c.act.new.self c.hear.new.self c.args.incoming.now c.hear.new.incoming (c.in_default.ensures (length c.args.incoming.now.messages)) c.hear.ensures
