use Rattle.std.proofs.Common.{rules}
use Rattle.rd_world.proofs.CutLemmas.{cut_to}
use Rattle.rd_world.proofs.world.World.cut_channel.Goals as goal

pub returns : goal.returns
returns c = cut_to _ _ _ _ _ _ _ _ c.self.view_is c.drop_all.ensures.kept c.drop_all.ensures.dropped (search rules) (search rules) (search rules) (search rules) (search rules)
