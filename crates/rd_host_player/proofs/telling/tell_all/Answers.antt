use Rattle.rd_world.proofs.FinishingLemmas.{before_next, countable_more, told_of_more}
use Rattle.rd_host_player.proofs.telling.tell_all.Goals as goal

pub tell-requires-clause-after : goal.tell-requires-clause-after
tell-requires-clause-after c =
    let gives = c.into_iter-number-iterator.ensures.into_iter_gives in
    before_next _ _ _ _ _ _ (rw (← gives.0) at gives.5) c.loop-number.invariant.told c.in-Some.ensures.steps

pub loop-number-preserved : goal.loop-number-preserved
loop-number-preserved c = record {
  told = told_of_more _ _ _ _ _ _ _ _ c.loop-number.invariant.told c.in-Some.ensures.steps c.finish.ensures.outcomes c.in_ok-tell.ensures;
  countable = countable_more _ _ _ _ c.loop-number.invariant.countable c.finish.ensures.countable c.in_ok-tell.ensures;
}
