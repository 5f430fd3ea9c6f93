use Rattle.std.proofs.Common.{◌∙◌, sym}
use Rattle.std.specs.String.{string_bytes}
use Rattle.rd_script.proofs.ReportLemmas.{not_listed}
use Rattle.rd_script.proofs.report_text.put_device.Goals as goal

pub returns-then-not-is_listed : goal.returns-then-not-is_listed
returns-then-not-is_listed c = not_listed (string_bytes c.args.text.now) c.args.devices.now c.args.device c.args.journal.now (sym c.is_listed.ensures ∙ c.if-not-is_listed.true)
