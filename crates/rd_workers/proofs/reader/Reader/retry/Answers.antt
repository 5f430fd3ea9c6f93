use Rattle.std.proofs.Common.{◌∙◌, ◌++◌, ◌∷◌, [], ap, refl, Some}
use Rattle.rd_front.specs.declared.calls.FrontCall.TheVariants as call
use Rattle.rd_turn.specs.History.{entry}
use Rattle.rd_workers.specs.Passes.{ReaderState}
use Rattle.rd_workers.proofs.ReadingLemmas.{retries, retries_not}
use Rattle.rd_workers.proofs.reader.Reader.retry.Goals as goal

pub returns-in-Some : goal.returns-in-Some
returns-in-Some g c = retries_not (Some c.in-Some.ending) c.args.heard c.args.self.now c.relieve.new.self c.in-Some.ensures

pub returns : goal.returns
returns g c =
    retries c.follow.result c.args.heard c.args.self.now c.call_front-reply.new.self c.follow.new.self (entry c.args.self.now.front.number call.Retry c.call_front-reply.result) refl
    (c.call_front-reply.ensures
    ∙ ap (λ (s : ReaderState g.row.F.Denot). record s { own = s.own ++ entry s.front.number call.Retry c.call_front-reply.result ∷ [] }) (c.self.view_is ∙ c.in_default.ensures)) c.follow.ensures
