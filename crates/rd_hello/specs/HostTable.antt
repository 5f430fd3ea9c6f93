-- The host while a channel opens (MS-RDPEFS 3.3.5).
use Rattle.std.specs.Prelude.{ℕ, if◌then◌else◌, Option}
use Rattle.rd_hello.specs.declared.hello.Hello.{Hello}
use Rattle.rd_hello.specs.declared.hello.Hello.TheVariants.{Confirm, Name, ClientCaps, LoggedOn}
use Rattle.rd_hello.specs.declared.host.HostState.{HostState}
use Rattle.rd_hello.specs.declared.host.HostState.TheVariants.{Start, Confirmed, Offered, Ready}
use Rattle.rd_hello.specs.Own.{host_sets, tell_log_on}
use Rattle.rd_hello.specs.Rows.{OrderRow, writes_nothing, writes_one, writes_both, out_of_order}

-- the ClientId that the host announces, and its state
pub record HostStand : Type 0 where
  pub client : ℕ
  pub state : HostState

-- the number of a state
abbrev pub host_number : HostState → ℕ
host_number Start = 0
host_number (Confirmed _) = 1
host_number Offered = 2
host_number Ready = 3

-- In a state the host reads a message: what it writes, and its next state.
abbrev pub host_step : HostState → Hello → Option (OrderRow HostState)
host_step Start (Confirm client) = writes_nothing (Confirmed client)
host_step (Confirmed client) (Name _ _ _) = writes_both host_sets (Confirm client) Offered
host_step Offered (ClientCaps caps) = if tell_log_on caps then writes_one LoggedOn Ready else writes_nothing Ready
host_step _ _ = out_of_order
