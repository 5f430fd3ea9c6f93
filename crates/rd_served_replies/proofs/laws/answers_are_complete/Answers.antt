use Rattle.std.proofs.Common.{[]}
use Rattle.rd_refused.proofs.AnswerLemmas.{all_answer}
use Rattle.rd_served.specs.Deeds.{deeds_of_calls}
use Rattle.rd_served_replies.specs.Given.{replies_served}
use Rattle.rd_served_replies.proofs.EachLemmas.{all_answered}
use Rattle.rd_served_replies.proofs.ReadLemmas.{history_bytes}
use Rattle.rd_served_replies.proofs.laws.answers_are_complete.Goals as goal

pub returns : goal.returns
returns c calm devices old new entries parts begins opened goes gives quiet bytes refuses =
    all_answer (replies_served calm devices parts (deeds_of_calls parts [])) (deeds_of_calls parts []) refuses
    (all_answered calm devices old new entries parts begins opened goes gives quiet (history_bytes entries parts old new [] goes bytes tt))
