use Rattle.std.proofs.Common.{subst, Some}
use Rattle.rd_station.specs.Station.{StationState}
use Rattle.rd_station.proofs.Calls.{reached_kept}
use Rattle.rd_turn.specs.History.{Leads}
use Rattle.rd_desk.specs.Desk.{DeskStep}
use Rattle.rd_desk.proofs.StepLemmas.{led_reached, led_steps}
use Rattle.rd_desk.proofs.RunLemmas.{history_own, history_then, history_tied}
use Rattle.rd_pool.specs.Desks.{GivesThen}
use Rattle.rd_pool.proofs.CallsLemmas.{all_hold}
use Rattle.rd_pool.proofs.laws.stations_are_as_their_calls_left_them.Goals as goal

pub returns-clause-steps : goal.returns-clause-steps
returns-clause-steps g c turn p s is = led_steps g.D.Device.runs g.D.Device.parked g.D.Device.cuts turn.opening s p.seen is.leads

pub returns-clause-reached : goal.returns-clause-reached
returns-clause-reached g c turn p s reached is = led_reached g.D.Device.runs g.D.Device.parked g.D.Device.cuts turn.opening s p.seen reached is.leads

pub returns-clause-kept : goal.returns-clause-kept
returns-clause-kept g c turn p s reached is = reached_kept g.D.Device.runs g.D.Device.parked g.D.Device.cuts s (led_reached g.D.Device.runs g.D.Device.parked g.D.Device.cuts turn.opening s p.seen reached is.leads)

pub returns-clause-own : goal.returns-clause-own
returns-clause-own g c requests turn p s is waiting puts = history_own g.D.Device.runs g.D.Device.parked g.D.Device.cuts requests turn.opening s p.seen p.made is.leads is.numbers is.gives waiting puts

pub returns-clause-tied : goal.returns-clause-tied
returns-clause-tied g c step cut device turn p s by none opened is =
    history_tied g.D.Device.runs g.D.Device.parked g.D.Device.cuts step cut device s p.seen p.made by none
    (subst (λ (o : StationState g.row.D.Denot). Leads (DeskStep g.D.Device.runs g.D.Device.parked g.D.Device.cuts) o p.seen s) opened is.leads) is.numbers is.gives

pub returns-clause-moments : goal.returns-clause-moments
returns-clause-moments g c told turn p s is keeps = history_then told g.D.Device.runs g.D.Device.parked g.D.Device.cuts turn.opening s p.seen p.made is.leads is.numbers (all_hold (GivesThen (Some told)) p is.number keeps is.all)
