use Rattle.rd_world.proofs.FinishingLemmas.{told_more}
use Rattle.rd_host_player.proofs.telling.tell.Goals as goal

pub loop-outcome-preserved-in_ok-insert : goal.loop-outcome-preserved-in_ok-insert
loop-outcome-preserved-in_ok-insert c = told_more _ _ _ _ _ _ _ _ _ c.requires.after c.loop-outcome.invariant c.in-Some.ensures.steps.0 c.in_ok-insert.ensures.entries

pub loop-outcome-preserved-in_ok-insert-2 : goal.loop-outcome-preserved-in_ok-insert-2
loop-outcome-preserved-in_ok-insert-2 c = told_more _ _ _ _ _ _ _ _ _ c.requires.after c.loop-outcome.invariant c.in-Some.ensures.steps.0 c.in_ok-insert.ensures.entries

pub loop-outcome-preserved-in_ok-insert-3 : goal.loop-outcome-preserved-in_ok-insert-3
loop-outcome-preserved-in_ok-insert-3 c = told_more _ _ _ _ _ _ _ _ _ c.requires.after c.loop-outcome.invariant c.in-Some.ensures.steps.0 c.in_ok-insert.ensures.entries

pub loop-outcome-preserved : goal.loop-outcome-preserved
loop-outcome-preserved c = told_more _ _ _ _ _ _ _ _ _ c.requires.after c.loop-outcome.invariant c.in-Some.ensures.steps.0 c.in_ok-insert.ensures.entries
