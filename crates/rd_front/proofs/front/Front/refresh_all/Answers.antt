use Rattle.std.proofs.Common.{◌≡◌, ◌∙◌, ◌<◌, ℕ, Bool, subst, length, slice_get}
use Rattle.std.specs.Prelude.{IfSome, List}
use Rattle.rd_declared.specs.Devices.{PrinterNames}
use Rattle.rd_front.specs.Front.{RefreshesOne}
use Rattle.rd_front.specs.State.{FrontState}
use Rattle.rd_front.proofs.EachLemmas.{each_next, each_stops}
use Rattle.rd_front.proofs.front.Front.refresh_all.Goals as goal

-- the printer at a place of those that there were gets its data
one : (printers : List (ℕ × PrinterNames)) (here next : FrontState) (place : ℕ) (result found : Bool) → result ≡ found → here.printers ≡ printers
    → IfSome (slice_get here.printers place) (λ p. RefreshesOne p here result next) → IfSome (slice_get printers place) (λ p. RefreshesOne p here found next)
one printers here next place result found is same did =
    subst (λ (l : List (ℕ × PrinterNames)). IfSome (slice_get l place) (λ p. RefreshesOne p here found next)) same
    (subst (λ (b : Bool). IfSome (slice_get here.printers place) (λ p. RefreshesOne p here b next)) is did)

pub returns-then-not-refresh_at : goal.returns-then-not-refresh_at
returns-then-not-refresh_at g c =
    let first : FrontState = c.args.self.now in
    let within : c.loop-place.place < length first.printers =
    subst (λ (s : FrontState). c.loop-place.place < length s.printers) c.self.view_is (subst (λ (n : ℕ). c.loop-place.place < n) c.len-place-end.ensures c.loop-place-test.true) in
    each_stops RefreshesOne first.printers c.loop-place.place first c.loop-place.self c.refresh_at.new.self within
    (one first.printers c.loop-place.self c.refresh_at.new.self c.loop-place.place c.refresh_at.result _ c.if-not-refresh_at.true c.loop-place.invariant.printers c.refresh_at.ensures.refreshed)
    c.loop-place.invariant.on

pub loop-place-preserved : goal.loop-place-preserved
loop-place-preserved g c =
    let first : FrontState = c.args.self.now in
    let within : c.loop-place.place < length first.printers =
    subst (λ (s : FrontState). c.loop-place.place < length s.printers) c.self.view_is (subst (λ (n : ℕ). c.loop-place.place < n) c.len-place-end.ensures c.loop-place-test.true) in
    record {
      on = each_next RefreshesOne first.printers c.loop-place.place first c.loop-place.self c.refresh_at.new.self within
          (one first.printers c.loop-place.self c.refresh_at.new.self c.loop-place.place c.refresh_at.result _ c.if-not-refresh_at.false c.loop-place.invariant.printers c.refresh_at.ensures.refreshed)
          c.loop-place.invariant.on;
      printers = c.refresh_at.ensures.printers ∙ c.loop-place.invariant.printers;
    }
