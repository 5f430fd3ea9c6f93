use Rattle.std.specs.Prelude.{◌∷◌}
use Rattle.rd_base.specs.declared.journal.Item.TheVariants.{Sent}
use Rattle.rd_deeds.specs.Talk.{completes, stores}
use Rattle.rd_world.proofs.world.World.send_completion.Given as goal

-- the completion was handed out, and written
abbrev pub ghost-becoming : goal.ghost-becoming
ghost-becoming a = completes a.from.now.1 a.from.now.2.now ∷ stores a.from.now.0 (Sent a.from.now.1) ∷ a.self.now.items
