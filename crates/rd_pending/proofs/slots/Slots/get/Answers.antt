use Rattle.std.proofs.Common.{arith}
use Rattle.rd_pending.proofs.PlaceLemmas.{held_at}
use Rattle.rd_pending.proofs.slots.Slots.get.Goals as goal

pub returns : goal.returns
returns c = let there = held_at 0 c.args.id c.args.id c.self.inside.places.items (omega arith) in cc
