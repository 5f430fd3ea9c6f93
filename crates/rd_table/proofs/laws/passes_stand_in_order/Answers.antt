use Rattle.rd_table.proofs.PlaceLemmas.{stands_behind, stands_within}
use Rattle.rd_table.proofs.laws.passes_stand_in_order.Goals as goal

pub returns-clause-behind : goal.returns-clause-behind
returns-clause-behind c = stands_behind

pub returns-clause-within : goal.returns-clause-within
returns-clause-within c = stands_within
