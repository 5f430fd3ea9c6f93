-- What the host tells of printers (MS-RDPEPC 2.2.2.2 to 2.2.2.6).
use Rattle.std.specs.Prelude.{◌≡◌, ℕ, ◌<◌, ◌^◌, ◌==◌, ◌&&◌, nat_le, List, [], ◌∷◌, ◌++◌, length, Option, Some}
use Rattle.std.specs.Int.{w32, to_le_bytes}
use Rattle.rd_base.specs.declared.bad.Bad.{Bad}
use Rattle.rd_base.specs.declared.bad.Why.TheVariants as why
use Rattle.rd_base.specs.declared.packet.Packet.{Packet}
use Rattle.rd_base.specs.declared.packet.Packet.TheVariants.{PrinterCacheData, PrinterUsingXps}
use Rattle.rd_base.specs.Layout.{Layout, done, any_bytes, test, ◌>>=◌, ◌>>◌, choose, Spells, FirstFault}
use Rattle.rd_base.specs.Fields.{number32}
use Rattle.rd_base.specs.Counted.{counted_bytes, bytes_and_count, two_fields, two_fields_bytes, four_fields, four_fields_bytes}
use Rattle.rd_base.specs.Header.{header_among, header_bytes}
use Rattle.rd_printer.specs.declared.notice.Notice.{Notice}
use Rattle.rd_printer.specs.declared.notice.Notice.TheVariants.{Add, Update, Delete, Rename, UsingXps}

-- DR_PRN_ADD_CACHEDATA after its EventId (2.2.2.3)
unfoldable pub add_event : Layout Notice
add_event = do
  port ← any_bytes 8
  fields ← four_fields
  done (Add port fields.0 fields.1 fields.2 fields.3)

-- DR_PRN_UPDATE_CACHEDATA after its EventId (2.2.2.4)
unfoldable pub update_event : Layout Notice
update_event = do
  fields ← two_fields
  done (Update fields.0 fields.1)

-- DR_PRN_DELETE_CACHEDATA after its EventId (2.2.2.5)
unfoldable pub delete_event : Layout Notice
delete_event = do
  name ← counted_bytes
  done (Delete name)

-- DR_PRN_RENAME_CACHEDATA after its EventId (2.2.2.6)
unfoldable pub rename_event : Layout Notice
rename_event = do
  fields ← two_fields
  done (Rename fields.0 fields.1)

-- what stands after each EventId: 1 adds, 2 updates, 3 deletes, 4 renames
unfoldable pub event_body : ℕ → Layout Notice
event_body event = choose (event == 1) add_event (choose (event == 2) update_event (choose (event == 3) delete_event rename_event))

-- EventId, which is one of the four, and what stands after it
unfoldable pub cache_data : Layout Notice
cache_data = do
  event ← number32
  test (nat_le 1 event && nat_le event 4) 4 why.Value
  event_body event

-- DR_PRN_USING_XPS after its header (2.2.2.2)
unfoldable pub using_xps : Layout Notice
using_xps = do
  printer ← number32
  flags ← number32
  done (UsingXps printer flags)

-- the packets of notices
abbrev pub notices : List Packet
notices = PrinterCacheData ∷ PrinterUsingXps ∷ []

-- what stands after the header of each
abbrev pub notice_body : Option Packet → Layout Notice
notice_body (Some PrinterUsingXps) = using_xps
notice_body _ = cache_data

-- the whole message
unfoldable pub notice : Layout Notice
notice = do
  packet ← header_among notices
  notice_body packet

-- The bytes begin with a spelling of this notice, and so many more stand after it.
abbrev pub SpellsNotice : Notice → ℕ → List ℕ → Type 0
SpellsNotice n tail bytes = Spells notice n tail bytes

-- what goes wrong first in bytes that are no notice
abbrev pub FirstFaultOfNotice : List ℕ → Bad → Type 0
FirstFaultOfNotice bytes bad = FirstFault notice bytes bad

-- the header and the EventId of a change of the cache
abbrev pub event_bytes : ℕ → List ℕ
event_bytes event = header_bytes PrinterCacheData ++ to_le_bytes w32 event

-- the bytes of a notice
abbrev pub notice_bytes : Notice → List ℕ
notice_bytes (Add port pnp driver name config) = event_bytes 1 ++ port ++ four_fields_bytes pnp driver name config
notice_bytes (Update name config) = event_bytes 2 ++ two_fields_bytes name config
notice_bytes (Delete name) = event_bytes 3 ++ bytes_and_count name
notice_bytes (Rename old new) = event_bytes 4 ++ two_fields_bytes old new
notice_bytes (UsingXps printer flags) = header_bytes PrinterUsingXps ++ to_le_bytes w32 printer ++ to_le_bytes w32 flags

-- bytes that a length of 32 bits can count
abbrev pub IsCountable : List ℕ → Type 0
IsCountable bytes = length bytes < 2 ^ 32

-- a notice whose byte fields can be counted
abbrev pub IsWritableNotice : Notice → Type 0
IsWritableNotice (Add port pnp driver name config) = IsCountable pnp × IsCountable driver × IsCountable name × IsCountable config
IsWritableNotice (Update name config) = IsCountable name × IsCountable config
IsWritableNotice (Delete name) = IsCountable name
IsWritableNotice (Rename old new) = IsCountable old × IsCountable new
IsWritableNotice (UsingXps printer flags) = Unit {0}

-- the name of the port, where there is one, has its eight bytes
abbrev pub HasWholePort : Notice → Type 0
HasWholePort (Add port pnp driver name config) = length port ≡ 8
HasWholePort _ = Unit {0}
