use Rattle.rd_issuer.proofs.IssueLemmas.{replied_step}
use Rattle.rd_issuer.proofs.issues.call_table.Goals as goal

pub returns-clause-replied : goal.returns-clause-replied
returns-clause-replied g c = replied_step _ c.args.table.now.pass c.call.new.self.pass c.args.call c.call.result c.call.ensures.called c.call.ensures.legal
