use Rattle.std.proofs.Common.{◌∙◌, ◌+◌}
use Rattle.rd_world.specs.Applications.{IsNumber}
use Rattle.rd_world.specs.World.{ApplicationState}
use Rattle.rd_world.proofs.ApplicationsLemmas.{keeps_put, key_there, put_back}
use Rattle.rd_world.proofs.applications.Applications.queue.Goals as goal

pub mark-requires : goal.mark-requires
mark-requires c = key_there IsNumber _ _ c.self.invariant.are.numbers (rw c.self.view_is c.requires.there)

pub invariant_of-self : goal.invariant_of-self
invariant_of-self c =
    rw ((c.get_mut.follows.holds c.queue.new.self).0) (keeps_put _ _ _ _ _ _ _ c.self.invariant (rw c.self.view_is c.requires.there) c.mark.ensures.issuing c.mark.ensures.awaiting)

pub returns-clause-queued : goal.returns-clause-queued
returns-clause-queued c =
    (c.get_mut.follows.holds c.queue.new.self).0
    ∙ put_back _ _ _ (λ (x : ApplicationState). record x { queued = x.queued + 1 }) _ _ _ _ c.self.invariant c.self.view_is c.requires.there c.in-Some.ensures.value c.queue.ensures
