use Rattle.std.proofs.Common.{None}
use Rattle.rd_decode.proofs.AwaitedLemmas.{changed}
use Rattle.rd_decode.proofs.awaited.Requests.take_out.Goals as goal

-- src/awaited.rt:65:5
pub returns-in-Some-clause-none : goal.returns-in-Some-clause-none
returns-in-Some-clause-none g c = changed (c.args.self.now.queues).entries (c.remove.new.self).entries c.args.pair None (c.remove.ensures.updates.0)
