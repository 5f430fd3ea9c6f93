use Rattle.std.proofs.Common.{◌≡◌, ◌∙◌, sym, ap, subst, ℕ, suc, ◌+◌, Some, List, ◌++◌, map, take, drop, slice_get, arith}
use Rattle.std.proofs.lemmas.Option.{get_or_from_slice_get}
use Rattle.rd_station.specs.declared.held.InHand.{InHand}
use Rattle.rd_station.specs.Queues.{AreRising, Queues}
use Rattle.rd_station.specs.Station.{without_taken}
use Rattle.rd_station.proofs.Rising.{hand_key, without_at}
use Rattle.rd_station.proofs.held.Held.take_back.Goals as goal

pub returns-clause-some : goal.returns-clause-some
returns-clause-some c =
    let ts = c.self.inside.taken.items in
    let i = c.in_ok-place.place in
    let found = c.in_ok-place.ensures.some in
    let at : slice_get ts i ≡ Some found.0 = subst (λ (us : List InHand). slice_get us i ≡ Some found.0) c.as_slice.ensures.value found.1 in
    let same : c.remove.result ≡ found.0 = c.remove.ensures.value ∙ get_or_from_slice_get ts i found.0 c.remove.result at in
    let rising = subst (λ (q : Queues). AreRising (map hand_key q.taken)) (sym c.self.view_is) c.requires in
    let next : i + 1 ≡ suc i = omega arith in
    let gone = c.remove.ensures.by_index.2 ∙ ap (λ (n : ℕ). take i ts ++ drop n ts) next ∙ sym (without_at ts i found.0 rising at) ∙ ap (λ (t : InHand). without_taken t.key ts) (sym same) in
    subst (λ (q : Queues). record { waiting = c.self.inside.waiting.items; taken = c.remove.new.self.items; parked = c.self.inside.parked.items; ready = c.self.inside.ready.items; keys = c.self.inside.keys.entries }
    ≡ record q { taken = without_taken c.remove.result.key q.taken }) c.self.view_is
    (ap (λ (us : List InHand). record { waiting = c.self.inside.waiting.items; taken = us; parked = c.self.inside.parked.items; ready = c.self.inside.ready.items; keys = c.self.inside.keys.entries }) gone)
