use Rattle.std.proofs.Common.{refl}
use Rattle.rd_turn.specs.History.{entry}
use Rattle.rd_front.specs.declared.calls.FrontCall.TheVariants as call
use Rattle.rd_workers.proofs.LogLemmas.{ends_calls}
use Rattle.rd_workers.proofs.reader.Reader.end_session.Goals as goal

pub returns : goal.returns
returns g c = ends_calls c.args.self.now c.call_front.new.self (entry c.args.self.now.front.number call.EndSession c.call_front.result) refl c.call_front.ensures
