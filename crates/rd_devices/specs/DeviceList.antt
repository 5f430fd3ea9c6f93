-- The list of a client's devices (MS-RDPEFS 2.2.2.9, DR_CORE_DEVICELIST_ANNOUNCE_REQ).
use Rattle.std.specs.Prelude.{ℕ, ◌<◌, ◌≤◌, ◌^◌, List, ◌++◌, length, All}
use Rattle.std.specs.Int.{w32, to_le_bytes}
use Rattle.rd_base.specs.declared.bad.Bad.{Bad}
use Rattle.rd_base.specs.declared.packet.Packet.TheVariants.{DeviceListAnnounce}
use Rattle.rd_base.specs.Layout.{Layout, done, any_bytes, four_bytes, ◌>>=◌, ◌>>◌, Spells, FirstFault}
use Rattle.rd_base.specs.Fields.{number32}
use Rattle.rd_base.specs.Counted.{counted, counted_bytes, bytes_and_count, items_and_count}
use Rattle.rd_base.specs.Header.{header, header_bytes}
use Rattle.rd_base.specs.Limits.{max_devices}
use Rattle.rd_devices.specs.declared.list.Announce.{Announce}

-- DEVICE_ANNOUNCE, one device (2.2.1.3); what its data says depends on its kind
unfoldable pub announce : Layout Announce
announce = do
  kind ← number32
  id ← number32
  dos ← any_bytes 8
  body ← counted_bytes
  done (record { kind = kind; id = id; dos = dos; body = body })

-- the whole message
unfoldable pub device_list : Layout (List Announce)
device_list = do
  header DeviceListAnnounce
  counted four_bytes max_devices announce

-- The bytes begin with a spelling of this list, and so many more stand after it.
abbrev pub SpellsList : List Announce → ℕ → List ℕ → Type 0
SpellsList list tail bytes = Spells device_list list tail bytes

-- what goes wrong first in bytes that are no list of devices
abbrev pub FirstFaultOfList : List ℕ → Bad → Type 0
FirstFaultOfList bytes bad = FirstFault device_list bytes bad

-- the bytes of one device
abbrev pub announce_bytes : Announce → List ℕ
announce_bytes a = to_le_bytes w32 a.kind ++ to_le_bytes w32 a.id ++ a.dos ++ bytes_and_count a.body

-- the bytes of a list
abbrev pub list_bytes : List Announce → List ℕ
list_bytes list = header_bytes DeviceListAnnounce ++ items_and_count announce_bytes list

-- a device whose data can be counted
abbrev pub HasCountableBody : Announce → Type 0
HasCountableBody a = length a.body < 2 ^ 32

-- a list that can be written
abbrev pub IsWritableList : List Announce → Type 0
IsWritableList list = (length list ≤ max_devices) × All HasCountableBody list
