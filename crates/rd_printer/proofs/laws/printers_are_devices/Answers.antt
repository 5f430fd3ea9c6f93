use Rattle.std.proofs.Common.{refl}
use Rattle.rd_printer.proofs.PrinterLemmas.{printer_applies, printers_step}
use Rattle.rd_printer.proofs.laws.printers_are_devices.Goals as goal

pub returns : goal.returns
returns c = record {
  applies = printer_applies;
  cuts = λ old new cut. record { cuts = cut; none = refl };
  steps = printers_step;
}
