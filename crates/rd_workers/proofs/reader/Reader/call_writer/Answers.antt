use Rattle.std.proofs.Common.{refl}
use Rattle.rd_workers.specs.Writing.{WriterStep}
use Rattle.rd_workers.proofs.LogLemmas.{called_step, caller_same, reader_wrote, writes_called}
use Rattle.rd_workers.proofs.reader.Reader.call_writer.Goals as goal

pub returns-clause-called : goal.returns-clause-called
returns-clause-called g c =
    reader_wrote c.args.self.now _ _ c.args.call c.call.result c.self.view_is refl refl
    (caller_same c.self.inside.writer.turn.now c.call.new.self.turn.now c.self.inside.writer.pass c.call.new.self.pass c.call.ensures.turn c.call.ensures.same)
    (writes_called c.self.inside.writer.pass c.call.new.self.pass c.args.call c.call.result c.call.ensures.same c.call.ensures.own_calls) refl refl

pub returns-clause-replied : goal.returns-clause-replied
returns-clause-replied g c = called_step WriterStep _ c.self.inside.writer.pass c.call.new.self.pass c.args.call c.call.result c.call.ensures.called c.call.ensures.legal
