use Rattle.std.proofs.Common.{rules}
use Rattle.rd_irp.proofs.WrittenLemmas.{body_spelled}
use Rattle.rd_irp.proofs.completion.write_body.Goals as goal

pub returns-clause-written : goal.returns-clause-written
returns-clause-written c = search rules

pub returns-clause-spelled : goal.returns-clause-spelled
returns-clause-spelled c = λ status fits. rw (returns-clause-written c) (body_spelled c.args.kind status c.args.body.now fits c.append_body.ensures.in_range)
