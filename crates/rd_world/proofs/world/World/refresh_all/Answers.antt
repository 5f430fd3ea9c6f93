use Rattle.std.proofs.Common.{◌≡◌, ◌∙◌, ◌<◌, ℕ, ap, subst, length, List}
use Rattle.std.specs.Prelude.{map, slice_get, IfSome}
use Rattle.rd_declared.specs.Devices.{PrinterNames}
use Rattle.rd_world.specs.Events.{refreshing}
use Rattle.rd_world.specs.World.{WorldState}
use Rattle.rd_world.proofs.FoldLemmas.{fold_there}
use Rattle.rd_world.proofs.RefreshLemmas.{printer_there, refreshing_printers}
use Rattle.rd_world.proofs.world.World.refresh_all.Goals as goal

-- the printers are what they were
printers : (c : goal.In_ok-refresh) → c.self-in-loop-place.inside.printers ≡ c.args.self.now.printers
printers c = ap (λ (w : WorldState). w.printers) c.self-in-loop-place.view_is ∙ c.loop-place.invariant.printers

within : (c : goal.In_ok-refresh) → c.loop-place.place < length c.args.self.now.printers
within c =
    subst (λ (w : WorldState). c.loop-place.place < length w.printers) c.self.view_is (subst (λ (n : ℕ). c.loop-place.place < n) c.len-place-end.ensures c.loop-place-test.true)

pub loop-place-preserved : goal.loop-place-preserved
loop-place-preserved c =
    let place : ℕ = c.loop-place.place in
    let device : ℕ = c.id_at-device.result in
    let ids = map (λ (e : ℕ × PrinterNames). e.0) c.args.self.now.printers in
    let there = printer_there c.args.self.now.printers place device (within c)
    (subst (λ (l : List (ℕ × PrinterNames)). IfSome (slice_get l place) (λ (e : ℕ × PrinterNames). e.0 ≡ device)) (printers c) c.id_at-device.ensures) in
    record {
      reached = rw c.in_ok-refresh.ensures (fold_there refreshing ids place device c.loop-place.self _ there c.loop-place.invariant.reached);
      printers = ap (λ (w : WorldState). w.printers) c.in_ok-refresh.ensures ∙ refreshing_printers c.loop-place.self device ∙ c.loop-place.invariant.printers;
    }
