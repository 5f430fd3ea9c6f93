use Rattle.std.proofs.Common.{rules}
use Rattle.rd_irp.proofs.request.written_in.Goals as goal

pub returns-clause-written : goal.returns-clause-written
returns-clause-written c = search rules

pub returns-clause-spelled : goal.returns-clause-spelled
returns-clause-spelled c = rw (returns-clause-written c) c.append.ensures.spelled

pub returns-clause-length : goal.returns-clause-length
returns-clause-length c = rw (returns-clause-written c) c.append.ensures.length
