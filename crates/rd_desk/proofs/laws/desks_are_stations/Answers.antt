use Rattle.rd_desk.proofs.StepLemmas.{led_reached, led_steps}
use Rattle.rd_station.proofs.Calls.{reached_kept}
use Rattle.rd_desk.proofs.laws.desks_are_stations.Goals as goal

pub returns-clause-steps : goal.returns-clause-steps
returns-clause-steps g c s t entries = led_steps g.D.Device.runs g.D.Device.parked g.D.Device.cuts s t entries

pub returns-clause-reached : goal.returns-clause-reached
returns-clause-reached g c s t entries = led_reached g.D.Device.runs g.D.Device.parked g.D.Device.cuts s t entries

pub returns-clause-kept : goal.returns-clause-kept
returns-clause-kept g c s t entries reached leads = reached_kept g.D.Device.runs g.D.Device.parked g.D.Device.cuts t (led_reached g.D.Device.runs g.D.Device.parked g.D.Device.cuts s t entries reached leads)
