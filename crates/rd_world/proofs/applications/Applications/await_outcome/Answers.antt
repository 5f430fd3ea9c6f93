use Rattle.std.proofs.Common.{◌∙◌, Some}
use Rattle.rd_world.specs.Applications.{IsNumber}
use Rattle.rd_world.specs.World.{ApplicationState}
use Rattle.rd_world.proofs.ApplicationsLemmas.{keeps_put, key_there, put_back}
use Rattle.rd_world.proofs.applications.Applications.await_outcome.Goals as goal

pub mark-requires : goal.mark-requires
mark-requires c = key_there IsNumber _ _ c.self.invariant.are.numbers (rw c.self.view_is c.requires.there)

pub invariant_of-self : goal.invariant_of-self
invariant_of-self c =
    rw ((c.get_mut.follows.holds c.await_outcome.new.self).0) (keeps_put _ _ _ _ _ _ _ c.self.invariant (rw c.self.view_is c.requires.there) c.mark.ensures.issuing c.mark.ensures.awaiting)

pub returns-clause-awaits : goal.returns-clause-awaits
returns-clause-awaits c =
    (c.get_mut.follows.holds c.await_outcome.new.self).0
    ∙ put_back _ _ _ (λ (x : ApplicationState). record x { awaits = Some c.args.request }) _ _ _ _ c.self.invariant c.self.view_is c.requires.there c.in-Some.ensures.value c.await_outcome.ensures
