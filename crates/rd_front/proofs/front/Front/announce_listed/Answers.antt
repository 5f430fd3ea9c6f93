use Rattle.std.proofs.Common.{◌≡◌, ◌∙◌, ◌<◌, ℕ, Bool, subst, length, slice_get}
use Rattle.std.specs.Prelude.{IfSome}
use Rattle.rd_client.specs.Core.{ClientCoreState}
use Rattle.rd_front.specs.Front.{AnnouncesOne}
use Rattle.rd_front.specs.State.{FrontState}
use Rattle.rd_front.proofs.EachLemmas.{each_next, each_stops}
use Rattle.rd_front.proofs.front.Front.announce_listed.Goals as goal

-- the device at a place of those that there were is announced
one : (client : ClientCoreState) (here next : FrontState) (place : ℕ) (result found : Bool) → result ≡ found → here.client ≡ client
    → IfSome (slice_get (here.client).devices place) (λ d. AnnouncesOne d here result next) → IfSome (slice_get client.devices place) (λ d. AnnouncesOne d here found next)
one client here next place result found is same did =
    subst (λ (k : ClientCoreState). IfSome (slice_get k.devices place) (λ d. AnnouncesOne d here found next)) same
    (subst (λ (b : Bool). IfSome (slice_get (here.client).devices place) (λ d. AnnouncesOne d here b next)) is did)

pub returns-then-not-announce_at : goal.returns-then-not-announce_at
returns-then-not-announce_at g c =
    let first : FrontState = c.args.self.now in
    let within : c.loop-place.place < length (first.client).devices =
    subst (λ (s : FrontState). c.loop-place.place < length (s.client).devices) c.self.view_is (subst (λ (n : ℕ). c.loop-place.place < n) c.len-place-end.ensures c.loop-place-test.true) in
    each_stops AnnouncesOne (first.client).devices c.loop-place.place first c.loop-place.self c.announce_at.new.self within
    (one first.client c.loop-place.self c.announce_at.new.self c.loop-place.place c.announce_at.result _ c.if-not-announce_at.true c.loop-place.invariant.client c.announce_at.ensures.announced)
    c.loop-place.invariant.on

pub loop-place-preserved : goal.loop-place-preserved
loop-place-preserved g c =
    let first : FrontState = c.args.self.now in
    let within : c.loop-place.place < length (first.client).devices =
    subst (λ (s : FrontState). c.loop-place.place < length (s.client).devices) c.self.view_is (subst (λ (n : ℕ). c.loop-place.place < n) c.len-place-end.ensures c.loop-place-test.true) in
    record {
      on = each_next AnnouncesOne (first.client).devices c.loop-place.place first c.loop-place.self c.announce_at.new.self within
          (one first.client c.loop-place.self c.announce_at.new.self c.loop-place.place c.announce_at.result _ c.if-not-announce_at.false c.loop-place.invariant.client c.announce_at.ensures.announced)
          c.loop-place.invariant.on;
      client = c.announce_at.ensures.client ∙ c.loop-place.invariant.client;
    }
