use Rattle.rd_printer.proofs.PrinterLemmas.{printed_range}
use Rattle.rd_printer.proofs.laws.printer_replies_are_in_range.Goals as goal

pub returns : goal.returns
returns c = record { step = printed_range; cut = λ s. tt }
