use Rattle.rd_table.proofs.StepLemmas.{history_grows, led_goes, led_reached}
use Rattle.rd_table.proofs.laws.tables_go_by_their_calls.Goals as goal

pub returns-clause-history : goal.returns-clause-history
returns-clause-history c entries t leads = let goes = led_goes entries t leads in (goes.holds, goes.is)

pub returns-clause-reached : goal.returns-clause-reached
returns-clause-reached c = led_reached

pub returns-clause-grows : goal.returns-clause-grows
returns-clause-grows c = history_grows
