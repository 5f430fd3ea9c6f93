-- A client that is ready stays so, whatever it hears.
use Rattle.std.proofs.Common.{◌≡◌, refl, ℕ, Bool, true, false, List, Some, None, Option, Result, Ok, Err}
use Rattle.std.specs.Prelude.{if◌then◌else◌}
use Rattle.std.specs.Option.{IfSome}
use Rattle.rd_base.specs.Header.{any_header}
use Rattle.rd_base.specs.Layout.{met}
use Rattle.rd_base.specs.Position.{Position, at_start}
use Rattle.rd_base.specs.declared.bad.Bad.{Bad}
use Rattle.rd_base.specs.declared.packet.Packet.{Packet}
use Rattle.rd_client.specs.Core.{ClientCoreState, HostSays, Outgoing, becomes_ready, client_hear, client_hear_made, client_opened, client_side, hear_says, listed, notices, plain, replies, requests, with_outgoing}
use Rattle.rd_client.specs.Order.{is_client_ready}
use Rattle.rd_core.specs.Core.{CoreState}
use Rattle.rd_core.specs.Hearing.{Meaning, Side, by_row, from_header, from_hello, from_own, from_packet, hear, hear_said, hear_unless, is_hello, is_read_in, nothing, opens, said, says, wrong}
use Rattle.rd_devices.specs.DeviceList.{list_bytes}
use Rattle.rd_hello.specs.Hello.{hello}
use Rattle.rd_hello.specs.Rows.{OrderRow}
use Rattle.rd_hello.specs.declared.client.ClientState.{ClientState}
use Rattle.rd_hello.specs.declared.client.ClientState.TheVariants as client_state
use Rattle.rd_hello.specs.declared.end_fault.EndFault.{EndFault}
use Rattle.rd_hello.specs.declared.hello.Hello.{Hello}
use Rattle.rd_hello.specs.declared.hello.Hello.TheVariants as greeting

module _ {S M A : Type 0} (side : Side S M A) (ready : S → Bool) (rows : (state : S) (greets : Hello) → ready state ≡ true → IfSome (side.row state greets) (λ row. ready row.next ≡ true)) where
  abbrev LeadsReady : Meaning S A → Type 0
  LeadsReady (opens row) = ready row.next ≡ true
  LeadsReady _ = Unit {0}

  said_leads : (state : S) (bytes : List ℕ) → ready state ≡ true → LeadsReady (said side state bytes)
  said_leads state bytes is = by_header (met any_header (at_start bytes))
    where
      row_leads : (o : Option (OrderRow S)) → IfSome o (λ row. ready row.next ≡ true) → LeadsReady (by_row side o)
      row_leads None own = tt
      row_leads (Some row) own = own

      by_hello : (r : Result (Hello × Position) Bad) → LeadsReady (from_hello side state r)
      by_hello (Err bad) = tt
      by_hello (Ok read) = row_leads (side.row state read.0) (rows state read.0 is)

      by_own : (r : Result A Bad) → LeadsReady (from_own side r)
      by_own (Err bad) = tt
      by_own (Ok a) = tt

      by_packet : (p : Packet) (b : Bool) → LeadsReady (if b then from_hello side state (met hello (at_start bytes)) else from_own side (side.own p bytes))
      by_packet p true = by_hello (met hello (at_start bytes))
      by_packet p false = by_own (side.own p bytes)

      by_known : (p : Packet) (b : Bool) (fault : EndFault) → LeadsReady (if b then from_packet side state p bytes else wrong fault)
      by_known p true fault = by_packet p (is_hello p)
      by_known p false fault = tt

      by_header : (r : Result (Option Packet × Position) Bad) → LeadsReady (from_header side state bytes r)
      by_header (Err bad) = tt
      by_header (Ok (None, rest)) = tt
      by_header (Ok (Some p, rest)) = by_known p (is_read_in side state p) _

  pub hear_ready : (e : CoreState S M) (bytes : List ℕ) → ready e.shake ≡ true → ready ((hear side e bytes).0).shake ≡ true
  hear_ready e bytes is = by_fault e.fault
    where
      by_meaning : (m : Meaning S A) → LeadsReady m → ready ((hear_said side e m).0).shake ≡ true
      by_meaning (wrong fault) own = is
      by_meaning nothing own = is
      by_meaning (opens row) own = own
      by_meaning (says a) own = is

      by_fault : (o : Option EndFault) → ready ((hear_unless side e bytes o).0).shake ≡ true
      by_fault (Some fault) = is
      by_fault None = by_meaning (said side e.shake bytes) (said_leads e.shake bytes is)

-- ---- the client

client_rows : (state : ClientState) (greets : Hello) → is_client_ready state ≡ true → IfSome (client_side.row state greets) (λ row. is_client_ready row.next ≡ true)
client_rows client_state.Ready greeting.LoggedOn is = refl
client_rows client_state.Ready _ is = tt
client_rows client_state.Start greets is = absurd cc
client_rows client_state.Named greets is = absurd cc
client_rows client_state.Confirmed greets is = absurd cc
client_rows (client_state.Offered tells) greets is = absurd cc
client_rows client_state.Waiting greets is = absurd cc

-- what a client hears leaves its devices, and where it was ready leaves it so
pub record KeepsClient (c d : ClientCoreState) : Type 0 where
  pub devices : d.devices ≡ c.devices
  pub ready : is_client_ready (c.core).shake ≡ true → is_client_ready (d.core).shake ≡ true

pub client_kept : (c : ClientCoreState) (message : List ℕ) → KeepsClient c (client_hear c message).0
client_kept c message = by_made (hear client_side c.core message) (λ is. hear_ready client_side is_client_ready client_rows c.core message is)
  where
    opened : (after : CoreState ClientState Outgoing) → (is_client_ready (c.core).shake ≡ true → is_client_ready after.shake ≡ true) → KeepsClient c (client_opened c after)
    opened after own = by (becomes_ready (c.core).shake after.shake)
      where
        by : (b : Bool) → KeepsClient c (if b then with_outgoing (record c { core = after }) (plain (list_bytes (listed c))) else record c { core = after })
        by true = record { devices = refl; ready = own }
        by false = record { devices = refl; ready = own }

    by_says : (after : CoreState ClientState Outgoing) (s : HostSays) → (is_client_ready (c.core).shake ≡ true → is_client_ready after.shake ≡ true) → KeepsClient c (hear_says (record c { core = after }) s).0
    by_says after (requests r) own = record { devices = refl; ready = own }
    by_says after (replies r) own = record { devices = refl; ready = own }
    by_says after (notices n) own = record { devices = refl; ready = own }

    by_made : (r : CoreState ClientState Outgoing × Result (Option HostSays) EndFault) → (is_client_ready (c.core).shake ≡ true → is_client_ready (r.0).shake ≡ true) → KeepsClient c (client_hear_made c r).0
    by_made (after, Err fault) own = record { devices = refl; ready = own }
    by_made (after, Ok None) own = opened after own
    by_made (after, Ok (Some s)) own = by_says after s own
