use Rattle.rd_told.proofs.OpenLemmas.{stored_open}
use Rattle.rd_told.proofs.laws.entries_are_stored_open.Goals as goal

pub returns : goal.returns
returns c lines starves w premises reached = stored_open lines starves premises w reached
