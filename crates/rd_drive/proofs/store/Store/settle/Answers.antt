use Rattle.std.proofs.Common.{◌∙◌, ap, length, arith}
use Rattle.rd_drive.specs.declared.store.Store.{Store}
use Rattle.rd_drive.proofs.SettleLemmas.{all_open}
use Rattle.rd_drive.proofs.store.Store.settle.Goals as goal

pub loop-at-preserved : goal.loop-at-preserved
loop-at-preserved c = record {
  halfway = c.in-None.ensures.1;
  same = c.in-None.ensures.2 c.loop-at.ends ∙ c.loop-at.invariant.same;
  few = omega (arith, ap (λ (s : Store). length s.waiting.items) c.in-None.ensures.0);
  within = omega (arith, ap (λ (s : Store). length s.waiting.items) c.in-None.ensures.0);
}

pub returns-clause-sound : goal.returns-clause-sound
returns-clause-sound c = all_open c.loop-at.self c.args.news.now c.loop-at.at (omega arith) c.loop-at.invariant.halfway
