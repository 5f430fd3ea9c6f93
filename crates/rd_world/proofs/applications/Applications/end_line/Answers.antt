use Rattle.std.proofs.Common.{◌∙◌}
use Rattle.std.specs.Option.{option_map_or}
use Rattle.rd_world.specs.Applications.{IsNumber}
use Rattle.rd_world.specs.Hearing.{next_asked, with_outcome}
use Rattle.rd_world.specs.World.{ApplicationState, Asked}
use Rattle.rd_world.proofs.ApplicationsLemmas.{keeps_put, key_there, put_back, put_choice}
use Rattle.rd_world.proofs.StationsLemmas.{on_ok}
use Rattle.rd_world.proofs.applications.Applications.end_line.Goals as goal

pub mark-requires : goal.mark-requires
mark-requires c = key_there IsNumber _ _ c.self.invariant.are.numbers (rw c.self.view_is c.requires.there)

pub invariant_of-self : goal.invariant_of-self
invariant_of-self c =
    rw ((c.get_mut.follows.holds c.end_line-answer.new.self).0) (keeps_put _ _ _ _ _ _ _ c.self.invariant (rw c.self.view_is c.requires.there) c.mark.ensures.issuing c.mark.ensures.awaiting)

pub returns-clause-ended : goal.returns-clause-ended
returns-clause-ended c =
    on_ok _ _ _ (λ is.
    (c.get_mut.follows.holds c.end_line-answer.new.self).0
    ∙ put_back _ _ _ (λ (x : ApplicationState). option_map_or (λ (asked : Asked). with_outcome x c.args.outcome c.args.given asked) (next_asked x) x) _ _ _ _ c.self.invariant c.self.view_is
    c.requires.there c.in-Some.ensures.value is
    ∙ put_choice _ _ _ _ (rw c.self.view_is at c.self.invariant.are) c.requires.there) c.end_line-answer.ensures
