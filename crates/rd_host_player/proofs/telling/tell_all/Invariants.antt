use Rattle.rd_script.specs.Report.{AreCountable}
use Rattle.rd_world.proofs.FinishingLemmas.{AreToldOf}
use Rattle.rd_host_player.proofs.telling.tell_all.Given as goal

-- the outcomes of the applications so far were told
abbrev pub invariant-loop-number : goal.invariant-loop-number
invariant-loop-number l = record {
  told : AreToldOf l.initial.number-iterator l.number-iterator l.told.entries;
  countable : AreCountable l.told.entries;
}
