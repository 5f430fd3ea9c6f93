-- The removal of devices (MS-RDPEFS 2.2.3.2, DR_DEVICELIST_REMOVE).
use Rattle.std.specs.Prelude.{ℕ, ◌≤◌, List, ◌++◌, length}
use Rattle.std.specs.Int.{w32, to_le_bytes}
use Rattle.rd_base.specs.declared.bad.Bad.{Bad}
use Rattle.rd_base.specs.declared.packet.Packet.TheVariants.{DeviceListRemove}
use Rattle.rd_base.specs.Layout.{Layout, four_bytes, ◌>>◌, Spells, FirstFault}
use Rattle.rd_base.specs.Fields.{number32}
use Rattle.rd_base.specs.Counted.{counted, items_and_count}
use Rattle.rd_base.specs.Header.{header, header_bytes}
use Rattle.rd_base.specs.Limits.{max_devices}

-- the whole message: the ids of the devices
unfoldable pub removal : Layout (List ℕ)
removal = do
  header DeviceListRemove
  counted four_bytes max_devices number32

-- The bytes begin with a spelling of this removal, and so many more stand after it.
abbrev pub SpellsRemoval : List ℕ → ℕ → List ℕ → Type 0
SpellsRemoval ids tail bytes = Spells removal ids tail bytes

-- what goes wrong first in bytes that are no removal
abbrev pub FirstFaultOfRemoval : List ℕ → Bad → Type 0
FirstFaultOfRemoval bytes bad = FirstFault removal bytes bad

-- the bytes of a removal
abbrev pub removal_bytes : List ℕ → List ℕ
removal_bytes ids = header_bytes DeviceListRemove ++ items_and_count (to_le_bytes w32) ids

-- a removal that can be written
abbrev pub IsWritableRemoval : List ℕ → Type 0
IsWritableRemoval ids = length ids ≤ max_devices
