use Rattle.std.proofs.Common.{◌∙◌, ◌++◌, ◌∷◌, [], ap, refl}
use Rattle.rd_front.specs.declared.calls.FrontCall.TheVariants as call
use Rattle.rd_turn.specs.History.{entry}
use Rattle.rd_workers.specs.Passes.{ReaderState}
use Rattle.rd_workers.proofs.LogLemmas.{begins_channel}
use Rattle.rd_workers.proofs.reader.Reader.begin.Goals as goal

pub returns-in-Done-call_writer-clause-begun : goal.returns-in-Done-call_writer-clause-begun
returns-in-Done-call_writer-clause-begun g c =
    begins_channel g.row.K.Denot c.args.channel c.args.self.now c.call_front.new.self c.call_writer.new.self (entry c.args.self.now.front.number (call.Begin c.args.channel) c.call_front.result) c.args.output c.in-Done.at c.in-Done.full
    c.in-Done-call_writer.going refl c.in-Done.is
    (c.call_front.ensures ∙ ap (λ (s : ReaderState g.row.F.Denot). record s { own = s.own ++ entry s.front.number (call.Begin c.args.channel) c.call_front.result ∷ [] }) c.self.view_is)
    c.in-Done-call_writer.ensures.called
