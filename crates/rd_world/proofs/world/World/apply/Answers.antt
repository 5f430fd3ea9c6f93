use Rattle.std.proofs.Common.{rules}
use Rattle.rd_world.specs.Keys.{station_journals}
use Rattle.rd_world.specs.World.{starved_in}
use Rattle.rd_world.proofs.KeysLemmas.{marks_agree}
use Rattle.rd_world.proofs.StepLemmas.{applied_to}
use Rattle.rd_world.proofs.world.World.apply.Goals as goal

pub returns-clause-applied : goal.returns-clause-applied
returns-clause-applied c = λ starves agrees.
    applied_to _ _ c.in-Some.device c.in-Some-place_of.place c.args.hand c.in-Some.job _ _ _ _ _ _ c.self.view_is c.in-Some-place_of.ensures.place c.apply.ensures.step c.prepare-plan.ensures.job c.in-Some.ensures.held c.journal_at-count.ensures
    (search rules) (search rules) starves agrees

pub returns-clause-marked : goal.returns-clause-marked
returns-clause-marked c = returns-clause-applied c (starved_in (station_journals c.apply.new.self)) (marks_agree c.apply.new.self c.apply.ensures.kept)
