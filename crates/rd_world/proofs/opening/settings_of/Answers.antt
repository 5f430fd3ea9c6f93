use Rattle.std.proofs.Common.{◌∙◌, subst, arith}
use Rattle.std.specs.Prelude.{fold}
use Rattle.std.proofs.lemmas.List.{at_drop_all}
use Rattle.rd_world.specs.Opening.{BeginsBy, with_line_setting}
use Rattle.rd_world.specs.Run.{world_of}
use Rattle.rd_world.proofs.OpeningLemmas.{lines_begin}
use Rattle.rd_world.proofs.opening.settings_of.Goals as goal

pub returns-clause-begins : goal.returns-clause-begins
returns-clause-begins c =
    subst (BeginsBy (world_of c.args.lines.now))
    (c.loop-line.invariant.same ∙ at_drop_all (fold with_line_setting c.loop-line.settings) c.args.lines.now c.loop-line.line-index (omega arith))
    (lines_begin c.args.lines.now)
