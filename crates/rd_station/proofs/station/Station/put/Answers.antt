use Rattle.std.proofs.Common.{◌∙◌, sym, ap, subst, ℕ, ◌+◌, List, [], ◌∷◌, ◌++◌}
use Rattle.std.specs.Prelude.{max}
use Rattle.rd_base.specs.declared.journal.Item.{Item}
use Rattle.rd_base.specs.declared.journal.Item.TheVariants.{Came}
use Rattle.rd_station.specs.Station.{MayPut, StationState, put_refusal, reserved}
use Rattle.rd_station.proofs.Parts.{put_parts}
use Rattle.rd_station.proofs.station.Station.put.Goals as goal

pub invariant_of-self-in-Ok-put : goal.invariant_of-self-in-Ok-put
invariant_of-self-in-Ok-put g c =
    let places = c.places-places.ensures.count ∙ sym (ap (λ (s : StationState _). reserved s) c.self.view_is) in
    let may = subst (λ (s : StationState _). MayPut s c.args.job.key) (sym c.self.view_is) c.requires in
    let free = ap (λ (s : StationState _). put_refusal s c.args.job) c.self.view_is ∙ sym c.refusal.ensures ∙ c.in_default.is in (
      put_parts _ _ _ _ _ _ _ _ _ _ c.self.invariant.0 c.args.job c.put.new.self c.add.new.self.items c.reserve.new.self.spare c.add.new.self.spare may free c.in-Ok-put.ensures.ok c.in-Ok-put.ensures.keys (c.add.ensures.items ∙ ap (λ (js : List Item). js ++ Came c.args.job.key ∷ []) c.reserve.ensures.items)
          (c.in-Ok.ensures.ok ∙ ap (λ (n : ℕ). max c.self.inside.journal.spare (n + 3)) places) c.add.ensures.spare c.come.new.self c.come.ensures,
      c.self.invariant.1,
    )

pub returns-in-Ok-put-clause-reached : goal.returns-in-Ok-put-clause-reached
returns-in-Ok-put-clause-reached g c = (invariant_of-self-in-Ok-put g c).0.reached
