use Rattle.std.proofs.Common.{◌∙◌, sym, ap, subst, [], length, arith}
use Rattle.rd_folder_drive.specs.declared.table.Table.{Table}
use Rattle.rd_folder_drive.specs.Settling.{IsBeside}
use Rattle.rd_folder_drive.proofs.EndLemmas.{news_ends}
use Rattle.rd_folder_drive.proofs.SettleLemmas.{all_open, all_settled}
use Rattle.rd_folder_drive.proofs.table.Table.settle.Goals as goal

pub loop-at-preserved : goal.loop-at-preserved
loop-at-preserved c = record {
  halfway = c.in-None.ensures.1;
  others = subst (IsBeside c.args.self.now) (sym c.in-None.ensures.0) c.loop-at.invariant.others;
  same = λ nodes. c.in-None.ensures.2 nodes c.loop-at.ends ∙ c.loop-at.invariant.same nodes;
  few = omega (arith, ap (λ (t : Table). length t.waiting.items) c.in-None.ensures.0);
  within = omega (arith, ap (λ (t : Table). length t.waiting.items) c.in-None.ensures.0);
}

pub returns-clause-sound : goal.returns-clause-sound
returns-clause-sound c = all_open c.loop-at.self c.args.news.now c.loop-at.at (omega arith) c.loop-at.invariant.halfway

pub returns-clause-parks : goal.returns-clause-parks
returns-clause-parks c =
    news_ends c.args.self.now c.requires.sound c.args.news.now c.requires.heard c.loop-at.self c.loop-at.ends
    (sym (c.loop-at.invariant.same []) ∙ all_settled c.loop-at.self c.args.news.now c.loop-at.at (omega arith) [] c.loop-at.ends)
