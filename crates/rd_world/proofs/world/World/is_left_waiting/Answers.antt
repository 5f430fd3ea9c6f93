use Rattle.std.proofs.Common.{arith, rules}
use Rattle.rd_world.proofs.LeftLemmas.{left_there, still_none}
use Rattle.rd_world.proofs.world.World.is_left_waiting.Goals as goal

pub returns-then-branch : goal.returns-then-branch
returns-then-branch c =
    left_there _ _ c.self.view_is c.loop-place.place c.journal_at.result.now _ (omega (arith, c.len-place-end.ensures.count)) c.journal_at.ensures c.in_ok-is_some_left.ensures c.if-branch.true (search rules)

pub loop-place-preserved : goal.loop-place-preserved
loop-place-preserved c =
    still_none _ _ c.self.view_is c.loop-place.place c.journal_at.result.now _ (omega (arith, c.len-place-end.ensures.count)) c.journal_at.ensures c.in_ok-is_some_left.ensures c.if-branch.false c.loop-place.invariant
