-- The data of a printer's announcement (MS-RDPEPC 2.2.2.1, DR_PRN_DEVICE_ANNOUNCE after the fields of every device).
use Rattle.std.specs.Prelude.{ℕ, ◌<◌, ◌^◌, List, ◌++◌, length}
use Rattle.std.specs.Int.{w32, to_le_bytes}
use Rattle.rd_base.specs.declared.bad.Bad.{Bad}
use Rattle.rd_base.specs.Layout.{Layout, done, ◌>>=◌, Spells, FirstFault}
use Rattle.rd_base.specs.Fields.{number32}
use Rattle.rd_base.specs.Counted.{four_fields, four_fields_bytes}
use Rattle.rd_devices.specs.declared.printer.PrinterInfo.{PrinterInfo}

-- Flags and CodePage, and the names and the configuration after their four counts
unfoldable pub printer_info : Layout PrinterInfo
printer_info = do
  flags ← number32
  page ← number32
  fields ← four_fields
  done (record { flags = flags; page = page; pnp = fields.0; driver = fields.1; name = fields.2; config = fields.3 })

-- The bytes begin with a spelling of this data, and so many more stand after it.
abbrev pub SpellsPrinter : PrinterInfo → ℕ → List ℕ → Type 0
SpellsPrinter info tail bytes = Spells printer_info info tail bytes

-- what goes wrong first in bytes that are no such data
abbrev pub FirstFaultOfPrinter : List ℕ → Bad → Type 0
FirstFaultOfPrinter bytes bad = FirstFault printer_info bytes bad

-- the bytes of a printer's data
abbrev pub printer_bytes : PrinterInfo → List ℕ
printer_bytes info = to_le_bytes w32 info.flags ++ to_le_bytes w32 info.page ++ four_fields_bytes info.pnp info.driver info.name info.config

-- data whose four fields can be counted
pub record IsWritablePrinter (info : PrinterInfo) : Type 0 where
  pub pnp : length info.pnp < 2 ^ 32
  pub driver : length info.driver < 2 ^ 32
  pub name : length info.name < 2 ^ 32
  pub config : length info.config < 2 ^ 32
