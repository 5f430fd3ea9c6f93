use Rattle.std.proofs.Common.{arith}
use Rattle.rd_irp.proofs.OpLemmas.{length-ranges, ranges_low}
use Rattle.rd_irp.proofs.lock.put_lock.Goals as goal

pub returns-clause-in_range : goal.returns-clause-in_range
returns-clause-in_range c = (omega arith, ranges_low c.args.ranges.now _ c.put_all.ensures.spelled)

pub put_all-requires-clause-room : goal.put_all-requires-clause-room
put_all-requires-clause-room c = omega (arith, length-ranges c.args.ranges.now)
