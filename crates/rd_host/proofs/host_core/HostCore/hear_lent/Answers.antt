use Rattle.rd_host.proofs.HearLemmas.{lent_held}
use Rattle.rd_host.proofs.KeptLemmas.{end_heard_kept}
use Rattle.rd_host.proofs.host_core.HostCore.hear_lent.Goals as goal

pub invariant_of-self : goal.invariant_of-self
invariant_of-self c = end_heard_kept _ _ _ _ c.self.invariant c.listen.ensures.step

pub returns-clause-kept : goal.returns-clause-kept
returns-clause-kept c = end_heard_kept _ _ _ _ c.self.invariant c.listen.ensures.step

pub returns-clause-held : goal.returns-clause-held
returns-clause-held c = rw (← c.self.view_is) (lent_held _ _ _ c.listen.result c.listen.ensures.step)
