use Rattle.std.proofs.Common.{rules, ◌≡◌, subst, sym, [], ◌∷◌}
use Rattle.std.specs.List.{zip}
use Rattle.std.proofs.lemmas.List.Elements.{All-same, All-tail}
use Rattle.rd_station.specs.Station.{StationState}
use Rattle.rd_turn.specs.History.{Leads}
use Rattle.rd_desk.specs.Desk.{DeskStep}
use Rattle.rd_pool.specs.Desks.{DeskPass, IsClosed, IsFirst}
use Rattle.rd_pool.proofs.DeskLemmas.{all_give}
use Rattle.rd_pool.proofs.ZipLemmas.{zip_cons, zip_first, zip_nothing, zip_some, zips_all, zips_next}
use Rattle.rd_pool.proofs.desks.close_all.Goals as goal

pub unreachable-requires : goal.unreachable-requires
unreachable-requires g c =
    let turns : c.loop-turn.turns.items ≡ c.in-Some.turn ∷ c.pop_front.new.self.items = c.in-Some.ensures.items in
    let none : c.loop-turn.passes.items ≡ [] = search rules in
    zip_some IsFirst c.in-Some.turn c.pop_front.new.self.items c.loop-turn.turns.items c.loop-turn.passes.items turns c.loop-turn.invariant.first none

pub loop-turn-preserved : goal.loop-turn-preserved
loop-turn-preserved g c =
    let kept = c.loop-turn.invariant in
    let t = c.in-Some.turn in
    let ts = c.pop_front.new.self.items in
    let p = c.in-Some-pop_front.pass in
    let ps = c.pop_front-in-Some.new.self.items in
    let turns : c.loop-turn.turns.items ≡ t ∷ ts = c.in-Some.ensures.items in
    let passes : c.loop-turn.passes.items ≡ p ∷ ps = c.in-Some-pop_front.ensures.items in
    let first = zip_first IsFirst t ts c.loop-turn.turns.items p ps c.loop-turn.passes.items turns passes kept.first in
    let steps = DeskStep g.D.Device.runs g.D.Device.parked g.D.Device.cuts in
    let leads = subst (λ (s : StationState g.row.D.Denot). Leads steps t.opening p.seen s) (sym c.into_station.ensures) c.close.ensures.leads in
    record {
      closed = zips_next (IsClosed g.D.Device.runs g.D.Device.parked g.D.Device.cuts) (zip c.args.turns.items c.args.passes.items) (zip c.loop-turn.turns.items c.loop-turn.passes.items) (zip ts ps) c.loop-turn.stations.items c.push_back_reserved.new.self.items
          (t, p) c.into_station.result (zip_cons t ts c.loop-turn.turns.items p ps c.loop-turn.passes.items turns passes) c.push_back_reserved.ensures.items
          (record { number = first.0.number; leads = leads; all = c.close.ensures.all; numbers = c.close.ensures.numbers first.0.number; gives = all_give t p first.0 c.close.ensures.all }) kept.closed;
      first = first.1;
      home = All-tail (λ (q : DeskPass g.row.D.Denot). q.out ≡ 0) p ps (All-same (λ (q : DeskPass g.row.D.Denot). q.out ≡ 0) (p ∷ ps) c.loop-turn.passes.items (sym passes) kept.home);
      room = search rules;
    }

pub returns : goal.returns
returns g c =
    let none : c.loop-turn.turns.items ≡ [] = search rules in
    zips_all (IsClosed g.D.Device.runs g.D.Device.parked g.D.Device.cuts) (zip c.args.turns.items c.args.passes.items) (zip c.loop-turn.turns.items c.loop-turn.passes.items) c.loop-turn.stations.items (zip_nothing c.loop-turn.turns.items c.loop-turn.passes.items none) c.loop-turn.invariant.closed
