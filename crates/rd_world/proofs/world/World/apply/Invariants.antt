use Rattle.rd_world.proofs.StepLemmas.{stored_since}
use Rattle.rd_world.proofs.world.World.apply.Given as goal

-- that the job was run is stored, where it was
abbrev pub ghost-becoming : goal.ghost-becoming
ghost-becoming a = stored_since a.from.now.0 a.from.now.1 a.from.now.2.now a.self.now.items
