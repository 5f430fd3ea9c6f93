use Rattle.std.proofs.Common.{[], refl}
use Rattle.rd_served_order.proofs.RefusedAnswerLemmas.{all_answer}
use Rattle.rd_served_order.proofs.ServedStandingLemmas.{begins_known, history_known}
use Rattle.rd_served_order.specs.ServedDeeds.{deeds_of_calls}
use Rattle.rd_served_refusals.specs.Heeding.{left_by}
use Rattle.rd_served_replies.specs.Given.{replies_served}
use Rattle.rd_served_replies.proofs.EachLemmas.{all_answered, replied_then}
use Rattle.rd_served_replies.proofs.ReadLemmas.{all_fine, history_bytes}
use Rattle.rd_served_causes.proofs.CallLemmas.{all_said}
use Rattle.rd_served_causes.proofs.RestLemmas.{rest_answers, rest_refuses}
use Rattle.rd_served_causes.proofs.laws.fronts_answer.Goals as goal

pub returns-clause-written : goal.returns-clause-written
returns-clause-written c calm announced devices old new entries parts begins have opened goes gives quiet bytes unhindered =
    let read = history_bytes entries parts old new [] goes bytes tt in
    all_answer (replies_served calm devices parts (deeds_of_calls parts [])) (deeds_of_calls parts [])
    ((all_said announced old new entries parts begins have goes (all_fine (deeds_of_calls parts []) read) unhindered).0).each
    (all_answered calm devices old new entries parts begins.new opened goes gives quiet read)

pub returns-clause-left : goal.returns-clause-left
returns-clause-left c calm announced devices old new entries parts begins have opened goes gives quiet bytes unhindered =
    let deeds = deeds_of_calls parts [] in
    let read = history_bytes entries parts old new [] goes bytes tt in
    let said = (all_said announced old new entries parts begins have goes (all_fine deeds read) unhindered).0 in
    let known = history_known entries parts old new [] goes (begins_known old begins.new.new begins.new.apart begins.new.stationed begins.new.idle_is) in
    rest_answers (replies_served calm devices parts deeds) (left_by new.front) deeds
    (rest_refuses new deeds known (new.front).channel (((new.front).client).core).outbox [] (λ x. refl) (λ d. refl) said.out (known.standing).out (replied_then calm devices old new entries parts begins.new opened goes gives quiet read).out tt)
    (all_answer (replies_served calm devices parts deeds) deeds said.each (all_answered calm devices old new entries parts begins.new opened goes gives quiet read))
