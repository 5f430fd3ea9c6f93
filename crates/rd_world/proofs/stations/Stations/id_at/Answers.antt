use Rattle.std.proofs.Common.{◌∙◌, sym, ◌<◌, length, arith}
use Rattle.std.proofs.lemmas.Grind.{get_or_default_zero}
use Rattle.rd_world.proofs.StationsLemmas.{id_seen, within}
use Rattle.rd_world.proofs.stations.Stations.id_at.Goals as goal

pub index-requires : goal.index-requires
index-requires c = omega (arith, within _ _ _ _ _ _ _ c.self.invariant c.self.view_is c.requires, c.self.invariant.same, c.self.inside.ids.ok.0)

pub returns : goal.returns
returns c =
    let there : c.args.place < length c.self.inside.ids.items = omega (arith, within _ _ _ _ _ _ _ c.self.invariant c.self.view_is c.requires, c.self.invariant.same) in
    id_seen _ _ _ _ _ _ _ _ c.self.invariant c.self.view_is c.requires (sym (c.index.ensures ∙ get_or_default_zero c.self.inside.ids.items c.args.place c.index.result.now there))
