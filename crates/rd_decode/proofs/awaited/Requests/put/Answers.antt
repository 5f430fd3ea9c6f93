use Rattle.std.proofs.Common.{Some}
use Rattle.rd_decode.proofs.AwaitedLemmas.{changed}
use Rattle.rd_decode.proofs.awaited.Requests.put.Goals as goal

-- src/awaited.rt:76:5
pub returns : goal.returns
returns g c = changed (c.args.self.now.queues).entries (c.insert.new.self).entries c.args.pair (Some c.args.queue) (c.in_ok-insert.ensures.updates.0)
