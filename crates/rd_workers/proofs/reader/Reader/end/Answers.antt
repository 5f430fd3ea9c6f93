use Rattle.std.proofs.Common.{refl}
use Rattle.rd_turn.specs.History.{entry}
use Rattle.rd_front.specs.declared.calls.FrontCall.TheVariants as call
use Rattle.rd_workers.proofs.LogLemmas.{ends_channel}
use Rattle.rd_workers.proofs.reader.Reader.end.Goals as goal

pub returns : goal.returns
returns g c =
    ends_channel g.row.K.Denot c.args.self.now c.call_front.new.self c.call_writer.new.self (entry c.args.self.now.front.number call.EndChannel c.call_front.result) c.in-Finished.output c.in-Finished.starved refl c.call_front.ensures
    c.in-Finished.ensures.called
