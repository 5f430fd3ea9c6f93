use Rattle.std.proofs.Common.{rules}
use Rattle.rd_world.proofs.world.World.put.Goals as goal

pub put-requires-clause-below : goal.put-requires-clause-below
put-requires-clause-below c = (c.may_put.ensures (search rules)).1
