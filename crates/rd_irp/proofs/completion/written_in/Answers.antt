use Rattle.std.proofs.Common.{rules}
use Rattle.rd_irp.proofs.WrittenLemmas.{body_after_head}
use Rattle.rd_irp.proofs.completion.written_in.Goals as goal

pub returns-clause-written : goal.returns-clause-written
returns-clause-written c = search rules

pub returns-clause-head : goal.returns-clause-head
returns-clause-head c = rw (returns-clause-written c) c.append.ensures.head

pub returns-clause-body : goal.returns-clause-body
returns-clause-body c = rw (returns-clause-written c, body_after_head) c.append.ensures.body

pub returns-clause-length : goal.returns-clause-length
returns-clause-length c = rw (returns-clause-written c) c.append.ensures.length
