use Rattle.rd_answered.proofs.WritableLemmas.{scripts_writable}
use Rattle.rd_answered.proofs.laws.scripts_declare_writable.Goals as goal

pub returns : goal.returns
returns c m text script is = scripts_writable m text script is
