use Rattle.rd_printer.proofs.PrinterLemmas.{printers_once}
use Rattle.rd_printer.proofs.laws.printer_requests_have_one_reply.Goals as goal

pub returns : goal.returns
returns c = printers_once
