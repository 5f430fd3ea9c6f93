-- That the bytes of a printer's data spell it.
use Rattle.std.proofs.Common.{◌<◌, ◌^◌}
use Rattle.rd_base.specs.Counted.{four_fields_bytes}
use Rattle.rd_base.specs.Spelling.{IsSpelling}
use Rattle.rd_base.proofs.WrittenLemmas.{done_last, number_then}
use Rattle.rd_base.proofs.SpellingLemmas.{written}
use Rattle.rd_base.proofs.CountedLemmas.{four_fields_spelled, spelling_last}
use Rattle.rd_devices.specs.declared.printer.PrinterInfo.{PrinterInfo}
use Rattle.rd_devices.specs.PrinterInfo.{printer_info, printer_bytes, IsWritablePrinter}

pub printer_spelled : (info : PrinterInfo) → info.flags < 2 ^ 32 → info.page < 2 ^ 32 → IsWritablePrinter info → IsSpelling printer_info info (printer_bytes info)
unfolding printer_info
printer_spelled info flags page fits = written printer_info info (printer_bytes info) λ after.
    number_then info.flags flags
    (number_then info.page page
    (spelling_last (info.pnp, info.driver, info.name, info.config) (four_fields_bytes info.pnp info.driver info.name info.config) (four_fields_spelled info.pnp info.driver info.name info.config fits.pnp fits.driver fits.name fits.config)
    (done_last info after)))
