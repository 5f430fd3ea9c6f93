use Rattle.std.proofs.Common.{◌∙◌, ap}
use Rattle.rd_host_session.proofs.PassLemmas.{comes_back_as}
use Rattle.rd_host_session.proofs.channels.write_beside.Goals as goal

pub spawn_with-requires-clause-keeps : goal.spawn_with-requires-clause-keeps
spawn_with-requires-clause-keeps g c κs within = λ r e. rw (c.of.ensures, c.of-2.ensures) e

pub returns-in-Ok-clause-reader : goal.returns-in-Ok-clause-reader
returns-in-Ok-clause-reader g c = comes_back_as _ _ _ c.into_callers-reader.ensures.reader.1 c.read_beside.ensures.reader c.args.passes.front.now c.args.passes.own.0

pub returns-in-Ok-clause-writer : goal.returns-in-Ok-clause-writer
returns-in-Ok-clause-writer g c =
    comes_back_as _ _ _ (ap (λ p. p.pass.value) c.in-Ok.ensures.ok ∙ c.of.ensures ∙ c.into_callers-reader.ensures.writer.1) c.read_beside.ensures.writer c.args.passes.front.now c.args.passes.own.1

pub returns-in-Err-clause-reader : goal.returns-in-Err-clause-reader
returns-in-Err-clause-reader g c = comes_back_as _ _ _ c.into_callers-reader.ensures.reader.1 c.read_half-read.ensures.back c.args.passes.front.now c.args.passes.own.0

pub returns-in-Err-clause-writer : goal.returns-in-Err-clause-writer
returns-in-Err-clause-writer g c =
    comes_back_as _ _ _ (ap (λ f. f.3.pass) c.in-Err.ensures.err ∙ c.into_callers-reader.ensures.writer.1) c.spawn_with-written.ensures.back c.args.passes.front.now c.args.passes.own.1
