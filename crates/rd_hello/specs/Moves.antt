-- What an end does on a channel, and which packets its messages are.
use Rattle.std.specs.Prelude.{ℕ, ◌==◌, Bool, false, List, Option, Some, None, Result, Ok, Err}
use Rattle.std.specs.Option.{option_map_or}
use Rattle.rd_base.specs.declared.bad.Bad.{Bad}
use Rattle.rd_base.specs.declared.packet.Packet.{Packet}
use Rattle.rd_base.specs.Header.{any_header, packet_id}
use Rattle.rd_base.specs.Layout.{met}
use Rattle.rd_base.specs.Position.{Position, at_start}

-- what an end does on a channel: it reads or writes a message
pub data Move : Type 0 where
  reads writes : List ℕ → Move

-- the packet that a message's header names, if it names one
abbrev pub packet_in : List ℕ → Option Packet
packet_in bytes = by (met any_header (at_start bytes))
  where
    by : Result (Option Packet × Position) Bad → Option Packet
    by (Ok read) = read.0
    by (Err bad) = None

-- whether a message is of a packet
abbrev pub is_of : Packet → List ℕ → Bool
is_of p bytes = option_map_or (λ q. packet_id q == packet_id p) (packet_in bytes) false
