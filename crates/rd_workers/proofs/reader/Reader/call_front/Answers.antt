use Rattle.std.proofs.Common.{refl}
use Rattle.rd_workers.proofs.LogLemmas.{caller_same, own_called, reader_called}
use Rattle.rd_workers.proofs.reader.Reader.call_front.Goals as goal

pub returns : goal.returns
returns g c =
    reader_called c.args.self.now _ _ c.args.call c.call.result c.self.view_is
    (caller_same c.self.inside.front.turn.now c.call.new.self.turn.now c.self.inside.front.pass c.call.new.self.pass c.call.ensures.turn c.call.ensures.same)
    (own_called c.self.inside.front.pass c.call.new.self.pass c.args.call c.call.result c.call.ensures.same c.call.ensures.own_calls) refl refl refl refl
