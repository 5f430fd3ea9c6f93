use Rattle.rd_cli.proofs.ReadingLemmas.{text_read}
use Rattle.rd_cli.proofs.input.input_text.Goals as goal

pub returns-clause-script : goal.returns-clause-script
returns-clause-script g c = text_read _ _ _ _ _ _ c.in_ok-text.ensures.read c.in_ok-text.ensures.whole c.as_slice.ensures.value c.in_ok-script.ensures.script
