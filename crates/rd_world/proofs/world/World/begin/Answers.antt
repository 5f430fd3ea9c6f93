use Rattle.std.proofs.lemmas.Result.{on_ok_weaker}
use Rattle.rd_world.proofs.PlayingLemmas.{begins_on}
use Rattle.rd_world.proofs.world.World.begin.Goals as goal

pub returns-clause-begun : goal.returns-clause-begun
returns-clause-begun c = on_ok_weaker c.connect_on.result (λ begun. begins_on c.args.self.now c.connect_on.new.self begun) c.connect_on.ensures.connected
