-- How long the data of a session's printers may be.
use Rattle.std.specs.Prelude.{ℕ, ◌≤◌, nat_le, if◌then◌else◌, List, [], length}
use Rattle.std.specs.Option.{option_map_or}
use Rattle.rd_printer.specs.Cache.{CacheState, kept_for}
use Rattle.rd_declared.specs.Devices.{PrinterNames, max_config}

-- the most units of the name of a printer or a driver
abbrev pub max_printer_units : ℕ
max_printer_units = 255

-- the most bytes of a printer's data: the fields before its texts, a driver and a name of most units with a zero unit each, and a configuration
abbrev pub max_printer_data : ℕ
max_printer_data = 17432

-- names that are no longer than a script may give them
pub record AreShortNames (names : PrinterNames) : Type 0 where
  pub driver : length names.driver ≤ max_printer_units
  pub printer : length names.printer ≤ max_printer_units

-- the configuration that is kept for the bytes of a name, where it isn't too long
abbrev pub kept_config : CacheState → List ℕ → List ℕ
kept_config cache name = option_map_or (λ (bytes : List ℕ). if nat_le (length bytes) max_config then bytes else []) (kept_for cache name) []
