-- What the header of a message says to an end: of which packet it is, and whether that packet is read in the end's state.
use Rattle.std.specs.Prelude.{◌≡◌, ◌≤◌, ℕ, List, Some, None, IsTrue, IsFalse, Result, Ok, Err}
use Rattle.rd_base.specs.declared.bad.Bad.{Bad}
use Rattle.rd_base.specs.declared.packet.Packet.{Packet}
use Rattle.rd_base.specs.declared.packet.Packet.TheVariants as packet
use Rattle.rd_base.specs.Header.{FirstFaultOfHeader, packet_id}
use Rattle.rd_base.specs.Layout.{Layout, met}
use Rattle.rd_base.specs.Position.{Position}
use Rattle.rd_hello.specs.declared.end_fault.EndFault.{EndFault}
use Rattle.rd_hello.specs.declared.end_fault.EndFault.TheVariants.{Order, Grammar, Memory}
use Rattle.rd_hello.specs.Moves.{packet_in}
use Rattle.rd_core.specs.Core.{CoreState}
use Rattle.rd_core.specs.Hearing.{Side, is_one_of, is_read_in}

-- What comes of the header of a message in the state with this number, in which these packets are read: its packet, or what is wrong.
abbrev pub IsExpected : ℕ → List Packet → List ℕ → Result Packet EndFault → Type 0
IsExpected number wanted bytes (Ok p) = (packet_in bytes ≡ Some p) × IsTrue (is_one_of wanted p)
IsExpected number wanted bytes (Err (Order state id)) =
    (p : Packet) × (packet_in bytes ≡ Some p) × IsFalse (is_one_of wanted p) × (state ≡ number) × (id ≡ packet_id p)
IsExpected number wanted bytes (Err (Grammar bad)) = FirstFaultOfHeader bytes bad
IsExpected number wanted bytes (Err Memory) = ⊥

-- An end that met no fault hears a message of this packet, which is read in its state.
pub record IsComing {S M A : Type 0} (side : Side S M A) (e : CoreState S M) (bytes : List ℕ) (p : Packet) : Type 0 where
  pub sound : e.fault ≡ None
  pub named : packet_in bytes ≡ Some p
  pub read : IsTrue (is_read_in side e.shake p)

-- Where memory is asked for while a message of the opening is read, or for what is to be written after it.
abbrev pub opening_asks_at : Packet → ℕ
opening_asks_at packet.ServerAnnounce = 12
opening_asks_at packet.ClientIdConfirm = 12
opening_asks_at packet.ClientName = 16
opening_asks_at packet.UserLoggedOn = 4
opening_asks_at _ = 8

-- What stands before a place was read: nothing is wrong there, or this is the first fault.
abbrev pub ReadsBefore : {A : Type 0} → ℕ → Layout A → Position → Result (Unit {0}) Bad → Type 0
ReadsBefore place l from (Ok u) = (bad : Bad) → met l from ≡ Err bad → place ≤ bad.at
ReadsBefore place l from (Err bad) = met l from ≡ Err bad
