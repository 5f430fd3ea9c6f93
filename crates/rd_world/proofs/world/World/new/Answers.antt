use Rattle.std.proofs.Common.{arith}
use Rattle.std.proofs.lemmas.Grind.{common_steps}
use Rattle.rd_world.proofs.BeginningLemmas.{begun_by}
use Rattle.rd_world.proofs.world.World.new.Goals as goal

pub returns-clause-begun : goal.returns-clause-begun
returns-clause-begun c =
    let begun = begun_by c.args.lines.now c.settings_of-settings.result c.settings_of-settings.ensures.begins in
    grind (arith, common_steps)
