use Rattle.rd_table.proofs.EndLemmas.{ended}
use Rattle.rd_table.proofs.laws.ended_tables_have_all_outcomes.Goals as goal

pub returns : goal.returns
returns c = ended
