-- Messages worked by hand.
use Rattle.std.specs.Prelude.{ℕ, List, [], ◌∷◌, replicate}
use Rattle.rd_devices.specs.declared.list.Announce.{Announce}
use Rattle.rd_devices.specs.declared.reply.DeviceReply.{DeviceReply}
use Rattle.rd_devices.specs.declared.printer.PrinterInfo.{PrinterInfo}

-- a drive with the id 1 and the DOS name DATA
abbrev pub drive : Announce
drive = record { kind = 8; id = 1; dos = 0x44 ∷ 0x41 ∷ 0x54 ∷ 0x41 ∷ 0 ∷ 0 ∷ 0 ∷ 0 ∷ []; body = [] }

-- the list of this drive
abbrev pub drive_list : List ℕ
drive_list =
    0x72 ∷ 0x44 ∷ 0x41 ∷ 0x44 ∷ 1 ∷ 0 ∷ 0 ∷ 0
    ∷ 8 ∷ 0 ∷ 0 ∷ 0 ∷ 1 ∷ 0 ∷ 0 ∷ 0 ∷ 0x44 ∷ 0x41 ∷ 0x54 ∷ 0x41 ∷ 0 ∷ 0 ∷ 0 ∷ 0 ∷ 0 ∷ 0 ∷ 0 ∷ 0 ∷ []

-- a list that says 257 devices
abbrev pub long_list : List ℕ
long_list = 0x72 ∷ 0x44 ∷ 0x41 ∷ 0x44 ∷ 1 ∷ 1 ∷ 0 ∷ 0 ∷ []

-- a list of a device whose data ends a byte early
abbrev pub cut_list : List ℕ
cut_list =
    0x72 ∷ 0x44 ∷ 0x41 ∷ 0x44 ∷ 1 ∷ 0 ∷ 0 ∷ 0
    ∷ 8 ∷ 0 ∷ 0 ∷ 0 ∷ 1 ∷ 0 ∷ 0 ∷ 0 ∷ 0x44 ∷ 0x41 ∷ 0x54 ∷ 0x41 ∷ 0 ∷ 0 ∷ 0 ∷ 0 ∷ 2 ∷ 0 ∷ 0 ∷ 0 ∷ 0x61 ∷ []

-- the removal of the drive
abbrev pub drive_removal : List ℕ
drive_removal = 0x72 ∷ 0x44 ∷ 0x4d ∷ 0x44 ∷ 1 ∷ 0 ∷ 0 ∷ 0 ∷ 1 ∷ 0 ∷ 0 ∷ 0 ∷ []

-- the host takes the drive
abbrev pub taken : DeviceReply
taken = record { id = 1; code = record { 0 = 0 } }

abbrev pub taken_reply : List ℕ
taken_reply = 0x72 ∷ 0x44 ∷ 0x72 ∷ 0x64 ∷ 1 ∷ 0 ∷ 0 ∷ 0 ∷ 0 ∷ 0 ∷ 0 ∷ 0 ∷ []

-- a default printer with the driver ab, the name cd and the configuration e
abbrev pub office : PrinterInfo
office = record { flags = 2; page = 0; pnp = []; driver = 0x61 ∷ 0x62 ∷ []; name = 0x63 ∷ 0x64 ∷ []; config = 0x65 ∷ [] }

abbrev pub office_data : List ℕ
office_data =
    2 ∷ 0 ∷ 0 ∷ 0 ∷ 0 ∷ 0 ∷ 0 ∷ 0 ∷ 0 ∷ 0 ∷ 0 ∷ 0 ∷ 2 ∷ 0 ∷ 0 ∷ 0 ∷ 2 ∷ 0 ∷ 0 ∷ 0 ∷ 1 ∷ 0 ∷ 0 ∷ 0
    ∷ 0x61 ∷ 0x62 ∷ 0x63 ∷ 0x64 ∷ 0x65 ∷ []

-- a printer's data that ends a byte early
abbrev pub cut_printer : List ℕ
cut_printer = replicate 23 0
