use Rattle.rd_cli.proofs.AuditingLemmas.{stopped_end, yes_end}
use Rattle.rd_cli.proofs.auditing.audit.Goals as goal

pub returns-in-Ok : goal.returns-in-Ok
returns-in-Ok g c = yes_end _ _ _ _ c.in-Ok.ensures

pub returns-in-Err : goal.returns-in-Err
returns-in-Err g c = stopped_end _ _ _ _ _ c.in-Err.stop _ c.in-Err.ensures c.end.ensures
