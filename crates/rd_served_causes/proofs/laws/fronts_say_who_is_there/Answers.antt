use Rattle.std.proofs.Common.{[]}
use Rattle.rd_served_order.specs.ServedDeeds.{deeds_of_calls}
use Rattle.rd_served_replies.proofs.ReadLemmas.{all_fine, history_bytes}
use Rattle.rd_served_causes.proofs.CallLemmas.{all_said}
use Rattle.rd_served_causes.proofs.laws.fronts_say_who_is_there.Goals as goal

pub returns-clause-said : goal.returns-clause-said
returns-clause-said c devices old new entries parts begins have goes bytes unhindered on =
    ((all_said devices old new entries parts begins have goes (all_fine (deeds_of_calls parts []) (history_bytes entries parts old new [] goes bytes tt)) unhindered).0).marks on

pub returns-clause-open : goal.returns-clause-open
returns-clause-open c devices old new entries parts begins have goes bytes unhindered is =
    (all_said devices old new entries parts begins have goes (all_fine (deeds_of_calls parts []) (history_bytes entries parts old new [] goes bytes tt)) unhindered).2 is
