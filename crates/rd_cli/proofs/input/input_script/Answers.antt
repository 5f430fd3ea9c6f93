use Rattle.rd_cli.proofs.ReadingLemmas.{script_read}
use Rattle.rd_cli.proofs.input.input_script.Goals as goal

pub returns-clause-script : goal.returns-clause-script
returns-clause-script g c = script_read _ _ _ _ _ c.in_ok-script.ensures.script
