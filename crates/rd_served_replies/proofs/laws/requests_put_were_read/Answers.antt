use Rattle.std.proofs.Common.{[], ◌++◌, ap}
use Rattle.rd_desk.specs.Desk.{told_calls}
use Rattle.rd_desk.proofs.StepLemmas.{led_steps}
use Rattle.rd_front.specs.State.{SessionStation}
use Rattle.rd_refused.specs.JournalsJobs.{IsJobOf}
use Rattle.rd_served.specs.Deeds.{deeds_of_calls}
use Rattle.rd_served.proofs.CauseLemmas.{AnyRequest}
use Rattle.rd_served_replies.proofs.BeginLemmas.{IsNewStation, first_new, known_first}
use Rattle.rd_served_replies.proofs.FollowLemmas.{history_followed}
use Rattle.rd_served_replies.proofs.JobLemmas.{later_put}
use Rattle.rd_served_replies.proofs.PutLemmas.{put_as_read}
use Rattle.rd_served_replies.proofs.laws.requests_put_were_read.Goals as goal
use Rattle.rd_served.specs.ServedDevices.{served_cuts, served_parked, served_runs}

pub returns : goal.returns
returns c old new entries parts begins goes place d there later s none leads key came =
    let is = history_followed IsNewStation entries parts old new [] goes (known_first old begins) (first_new old begins) in
    put_as_read AnyRequest (deeds_of_calls parts []) d.id (told_calls ((d.pass).seen ++ later)) (d.turn).opening s
    (led_steps served_runs served_parked served_cuts (d.turn).opening s ((d.pass).seen ++ later) leads) (ap (λ (o : SessionStation). o.journal) (is.opened place d there).is)
    (later_put (IsJobOf AnyRequest (deeds_of_calls parts []) d.id) (d.pass).seen later (is.puts place d there) none) key came
