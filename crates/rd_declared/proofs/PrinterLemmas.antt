-- How long the data of a printer is.
use Rattle.std.proofs.Common.{◌≡◌, ℕ, ◌+◌, ◌≤◌, List, ◌++◌, length, length-append, Result, Ok, Err, arith}
use Rattle.std.specs.Prelude.{IfOk}
use Rattle.rd_base.specs.Counted.{four_fields_bytes}
use Rattle.rd_devices.specs.declared.printer.PrinterInfo.{PrinterInfo}
use Rattle.rd_devices.specs.PrinterInfo.{printer_bytes}
use Rattle.rd_declared.specs.Devices.{max_config}
use Rattle.rd_declared.specs.Printers.{max_printer_data}

-- The bytes of it.
pub info_length : (info : PrinterInfo) → length (printer_bytes info) ≡ 24 + length info.pnp + length info.driver + length info.name + length info.config
unfolding four_fields_bytes
info_length info =
    omega (arith, length-append info.pnp info.driver, length-append (info.pnp ++ info.driver) info.name, length-append (info.pnp ++ info.driver ++ info.name) info.config)

-- What is written of a printer without a PnP name.
pub written_few : {E : Type 0} (r : Result (List ℕ) E) (info : PrinterInfo) → length info.pnp ≡ 0 → length info.driver ≤ 512 → length info.name ≤ 512 → length info.config ≤ max_config
    → IfOk r (λ (bytes : List ℕ). bytes ≡ printer_bytes info) → IfOk r (λ (bytes : List ℕ). length bytes ≤ max_printer_data)
written_few (Ok bytes) info none driver name config written =
    let long : length (printer_bytes info) ≡ 24 + length info.pnp + length info.driver + length info.name + length info.config = info_length info in
    rw written (omega (arith, long, none, driver, name, config))
written_few (Err e) info none driver name config written = tt
