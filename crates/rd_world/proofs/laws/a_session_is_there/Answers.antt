use Rattle.std.proofs.Common.{ℕ, List, subst}
use Rattle.rd_world.specs.Control.{Telling}
use Rattle.rd_world.specs.Session.{AllTold, replies_in}
use Rattle.rd_world.specs.Found.{found_deeds, found_devices}
use Rattle.rd_world.proofs.FoundLines as lines
use Rattle.rd_world.proofs.FoundSides as sides
use Rattle.rd_world.proofs.laws.a_session_is_there.Goals as goal

pub returns : goal.returns
returns c = λ told found. record {
  deeds = found_deeds;
  devices = found_devices;
  devices_are = sides.devices_are;
  wire = sides.wire;
  journals = sides.journals;
  joined = sides.joined;
  joins = sides.joins;
  outcomes = lines.outcomes told found;
  report = lines.report told found;
  control_lines = lines.control_lines told found;
  at_end = lines.at_end;
  settles = lines.settles;
  tells = subst (λ (said : List (ℕ × Telling)). AllTold found_devices said (replies_in found_devices found_deeds) found_deeds) (lines.told_is told found)
      (sides.tells (lines.controls_done).told lines.first_told);
  run = lines.run told found;
}
