use Rattle.std.specs.Prelude.{◌∷◌}
use Rattle.rd_base.specs.declared.journal.Item.TheVariants.{Came}
use Rattle.rd_deeds.specs.Talk.{stores}
use Rattle.rd_world.proofs.world.World.put.Given as goal

-- that it came was stored
abbrev pub ghost-becoming : goal.ghost-becoming
ghost-becoming a = stores a.from.now.0 (Came a.from.now.1) ∷ a.self.now.items
