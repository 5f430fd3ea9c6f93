use Rattle.rd_world.proofs.FinishingLemmas.{AreTold}
use Rattle.rd_host_player.proofs.telling.tell.Given as goal

-- the outcomes so far come after those that were told before
abbrev pub invariant-loop-outcome : goal.invariant-loop-outcome
invariant-loop-outcome l = AreTold l.fn.told.entries l.fn.number l.fn.outcomes.items l.outcome-iterator.rest.items l.line l.told.entries
