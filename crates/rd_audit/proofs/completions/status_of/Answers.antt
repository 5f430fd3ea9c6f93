use Rattle.std.proofs.Common.{◌-◌, length}
use Rattle.rd_audit.proofs.TellingLemmas.{status_read}
use Rattle.rd_audit.proofs.completions.status_of.Goals as goal

-- src/completions.rt:67:1
pub returns-in-Ok : goal.returns-in-Ok
returns-in-Ok c = status_read c.args.message.now c.in-Ok.head (length c.args.message.now - 16) c.in-Ok.ensures.spelled
