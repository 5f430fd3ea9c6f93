use Rattle.rd_declared.specs.Declaring.{bare_lines, declared_devices}
use Rattle.rd_declared.proofs.DeclaringLemmas.{declared_openable}
use Rattle.rd_sharing.proofs.DevicesLemmas.{keeps_made, opens_quiet}
use Rattle.rd_sharing.proofs.ClosingLemmas.{made_faultless}
use Rattle.rd_sharing.proofs.opening.open_made.Goals as goal

pub made-requires : goal.made-requires
made-requires g c = opens_quiet (declared_devices (bare_lines c.args.lines.now)) _ (declared_openable c.args.lines.now c.requires).each c.in_ok-stations.ensures.stations_are

pub returns-clause-kept : goal.returns-clause-kept
returns-clause-kept g c = keeps_made (declared_devices (bare_lines c.args.lines.now)) _ _ _ _ (declared_openable c.args.lines.now c.requires) c.in_ok-stations.ensures c.in_ok-served.ensures

pub returns-clause-calm : goal.returns-clause-calm
returns-clause-calm g c = made_faultless _ _ _ c.in_ok-served.ensures
