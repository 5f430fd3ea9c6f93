-- The client while a channel opens (MS-RDPEFS 3.2.5).
use Rattle.std.specs.Prelude.{ℕ, Bool, if◌then◌else◌, Option}
use Rattle.rd_hello.specs.declared.hello.Hello.{Hello}
use Rattle.rd_hello.specs.declared.hello.Hello.TheVariants.{Announce, Confirm, ServerCaps, LoggedOn}
use Rattle.rd_hello.specs.declared.client.ClientState.{ClientState}
use Rattle.rd_hello.specs.declared.client.ClientState.TheVariants.{Start, Named, Confirmed, Offered, Waiting, Ready}
use Rattle.rd_hello.specs.Own.{client_confirm, client_name, client_sets, tell_log_on}
use Rattle.rd_hello.specs.Rows.{OrderRow, writes_nothing, writes_one, writes_both, out_of_order}

-- the number of a state
abbrev pub client_number : ClientState → ℕ
client_number Start = 0
client_number Named = 1
client_number Confirmed = 2
client_number (Offered _) = 3
client_number Waiting = 4
client_number Ready = 5

-- the state after the client's sets: it waits for the log-on where the host's sets tell of it
abbrev pub after_sets : Bool → ClientState
after_sets tells = if tells then Waiting else Ready

-- In a state the client reads a message: what it writes, and its next state.
abbrev pub client_step : ClientState → Hello → Option (OrderRow ClientState)
client_step Start (Announce host) = writes_both (client_confirm host) client_name Named
client_step Named (Confirm _) = writes_nothing Confirmed
client_step Named (ServerCaps caps) = writes_nothing (Offered (tell_log_on caps))
client_step Confirmed (ServerCaps caps) = writes_one client_sets (after_sets (tell_log_on caps))
client_step (Offered tells) (Confirm _) = writes_one client_sets (after_sets tells)
client_step Waiting LoggedOn = writes_nothing Ready
client_step Ready LoggedOn = writes_nothing Ready
client_step _ _ = out_of_order
