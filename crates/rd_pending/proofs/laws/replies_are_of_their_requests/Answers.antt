use Rattle.rd_pending.specs.History.{ended_on, heard_on, lives_before}
use Rattle.rd_pending.specs.Outcomes.{course_from, pairs_before}
use Rattle.rd_pending.proofs.ReplyLemmas.{of_request}
use Rattle.rd_pending.proofs.laws.replies_are_of_their_requests.Goals as goal

pub returns : goal.returns
returns c h earlier a reply came = of_request a (pairs_before earlier a) (course_from (lives_before a.channel h)) (heard_on a.channel h) (ended_on a.channel h) reply came
