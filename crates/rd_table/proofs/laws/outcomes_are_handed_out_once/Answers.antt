use Rattle.std.proofs.Common.{[]}
use Rattle.rd_pending.specs.Table.{new_table}
use Rattle.rd_table.specs.Calls.{table_calls}
use Rattle.rd_table.proofs.EndLemmas.{accepts_own, handed_accepted, handed_if_gone}
use Rattle.rd_table.proofs.HandedLemmas.{all_apart}
use Rattle.rd_table.proofs.StepLemmas.{led_steps}
use Rattle.rd_table.proofs.laws.outcomes_are_handed_out_once.Goals as goal

pub returns-clause-once : goal.returns-clause-once
returns-clause-once c entries t leads = all_apart (table_calls entries) [] t tt (led_steps new_table t entries leads)

pub returns-clause-own : goal.returns-clause-own
returns-clause-own c = accepts_own

pub returns-clause-accepted : goal.returns-clause-accepted
returns-clause-accepted c = handed_accepted

pub returns-clause-all : goal.returns-clause-all
returns-clause-all c = handed_if_gone
