-- The host's reply to a device that was announced (MS-RDPEFS 2.2.2.1, DR_CORE_DEVICE_ANNOUNCE_RSP).
use Rattle.std.specs.Prelude.{ℕ, List, ◌++◌}
use Rattle.std.specs.Int.{w32, to_le_bytes}
use Rattle.rd_base.specs.declared.bad.Bad.{Bad}
use Rattle.rd_base.specs.declared.packet.Packet.TheVariants as packet
use Rattle.rd_base.specs.Layout.{Layout, done, ◌>>=◌, ◌>>◌, Spells, FirstFault}
use Rattle.rd_base.specs.Fields.{number32}
use Rattle.rd_base.specs.Header.{header, header_bytes}
use Rattle.rd_devices.specs.declared.reply.DeviceReply.{DeviceReply}

-- the whole message
unfoldable pub device_reply : Layout DeviceReply
device_reply = do
  header packet.DeviceReply
  id ← number32
  code ← number32
  done (record { id = id; code = record { 0 = code } })

-- The bytes begin with a spelling of this reply, and so many more stand after it.
abbrev pub SpellsReply : DeviceReply → ℕ → List ℕ → Type 0
SpellsReply reply tail bytes = Spells device_reply reply tail bytes

-- what goes wrong first in bytes that are no reply
abbrev pub FirstFaultOfReply : List ℕ → Bad → Type 0
FirstFaultOfReply bytes bad = FirstFault device_reply bytes bad

-- the bytes of a reply
abbrev pub reply_bytes : DeviceReply → List ℕ
reply_bytes reply = header_bytes packet.DeviceReply ++ to_le_bytes w32 reply.id ++ to_le_bytes w32 (reply.code).0
