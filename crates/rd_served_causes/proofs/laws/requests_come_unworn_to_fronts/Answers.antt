use Rattle.std.proofs.Common.{[]}
use Rattle.rd_served_order.specs.ServedDeeds.{deeds_of_calls}
use Rattle.rd_served_replies.proofs.ReadLemmas.{all_fine, history_bytes}
use Rattle.rd_served_causes.proofs.CallLemmas.{all_said}
use Rattle.rd_served_causes.proofs.laws.requests_come_unworn_to_fronts.Goals as goal

pub returns : goal.returns
returns c devices old new entries parts begins have goes bytes unhindered =
    ((all_said devices old new entries parts begins have goes (all_fine (deeds_of_calls parts []) (history_bytes entries parts old new [] goes bytes tt)) unhindered).1).comes
