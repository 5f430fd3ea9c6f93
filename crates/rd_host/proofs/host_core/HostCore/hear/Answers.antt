use Rattle.rd_host.proofs.HearLemmas.{copied_heard, end_held}
use Rattle.rd_host.proofs.KeptLemmas.{end_heard_kept}
use Rattle.rd_host.proofs.host_core.HostCore.hear.Goals as goal

pub invariant_of-self : goal.invariant_of-self
invariant_of-self c = end_heard_kept _ _ _ _ c.self.invariant c.listen.ensures.step

pub returns-in-Err-clause-kept : goal.returns-in-Err-clause-kept
returns-in-Err-clause-kept c = end_heard_kept _ _ _ _ c.self.invariant c.listen.ensures.step

pub returns-in-Err-clause-held : goal.returns-in-Err-clause-held
returns-in-Err-clause-held c = rw (← c.self.view_is) (end_held _ _ _ _ c.in-Err.ensures.step)

pub invariant_of-self-2 : goal.invariant_of-self-2
invariant_of-self-2 c = end_heard_kept _ _ _ _ c.self.invariant c.listen.ensures.step

pub returns-clause-step : goal.returns-clause-step
returns-clause-step c = rw (← c.self.view_is) (copied_heard _ _ _ c.in-Ok.heard c.copied.result c.in-Ok.ensures.step c.in-Ok.ensures.lacking c.copied.ensures.copied c.copied.ensures.wanting c.self.inside.client)

pub returns-clause-kept : goal.returns-clause-kept
returns-clause-kept c = end_heard_kept _ _ _ _ c.self.invariant c.listen.ensures.step

pub returns-clause-held : goal.returns-clause-held
returns-clause-held c =
    rw (← c.self.view_is) (end_held _ _ _ _ (copied_heard _ _ _ c.in-Ok.heard c.copied.result c.in-Ok.ensures.step c.in-Ok.ensures.lacking c.copied.ensures.copied c.copied.ensures.wanting))
