-- What the order of messages takes of lines, and where both ends of the open channel stand in it.
use Rattle.std.specs.Prelude.{◌≡◌, ℕ, List, [], Some, None}
use Rattle.rd_client.specs.Events.{AreWritable, ClientStandsAt}
use Rattle.rd_client.specs.Order.{ClientStanding}
use Rattle.rd_host.specs.Events.{HostStandsAt}
use Rattle.rd_host.specs.Order.{HostStanding, Replying}
use Rattle.rd_script.specs.declared.line.NumberedLine.{NumberedLine}
use Rattle.rd_declared.specs.Devices.{Declared}
use Rattle.rd_declared.specs.Declaring.{bare_lines, declared_devices}
use Rattle.rd_world.specs.Recording.{announced_of, client_stand, host_stand, is_gone_at}
use Rattle.rd_world.specs.World.{WorldState}

-- the numbers of the devices that lines declare have room in their fields, and their names fill theirs
abbrev pub DeclaresWritable : List NumberedLine → Type 0
DeclaresWritable lines = AreWritable (announced_of (declared_devices (bare_lines lines)))

-- The client stands where what it read and wrote on the open channel leads, and what waits to be sent may be written next.
pub record ClientStandsIn (devices : List (ℕ × Declared)) (w : WorldState) : Type 0 where
  pub stand : ClientStanding
  pub is : client_stand devices w.deeds w.channels ≡ Some stand
  pub at : ClientStandsAt (announced_of devices) (is_gone_at w.channels w.deeds) stand w.client

-- So does the host, and no more replies are due by what was called than it has to send.
pub record HostStandsIn (w : WorldState) : Type 0 where
  pub stand : HostStanding
  pub replying : Replying
  pub is : host_stand w.deeds w.channels ≡ Some stand
  pub at : HostStandsAt stand replying (w.side).core
  pub none_due : replying.due ≡ []

-- Nothing was wrong with a message that either end read.
pub record IsFine (w : WorldState) : Type 0 where
  pub client : ((w.client).core).fault ≡ None
  pub host : (((w.side).core).core).fault ≡ None
