use Rattle.std.proofs.Common.{◌∙◌, ap, length}
use Rattle.rd_declared.proofs.PrinterLemmas.{written_few}
use Rattle.rd_declared.proofs.printers.PrinterNames.data.Goals as goal

pub returns-clause-few : goal.returns-clause-few
returns-clause-few c =
    written_few _ (record { flags = 0; page = 0; pnp = c.of.result; driver = c.in_ok-driver.driver; name = c.in_ok-name.name; config = c.in_ok-config.config })
    (ap length (c.of.ensures ∙ c.new.ensures.items)) c.in_ok-driver.ensures.few c.in_ok-name.ensures.few c.in_ok-config.ensures.few c.write_printer.ensures.written
