use Rattle.std.proofs.Common.{[], ◌++◌, subst}
use Rattle.rd_desk.specs.Desk.{told_calls}
use Rattle.rd_front.specs.State.{SessionDeskStep, SessionStation}
use Rattle.rd_refused.specs.JournalsJobs.{IsJobOf}
use Rattle.rd_refused.proofs.JournalsWorkLemmas.{grown_more}
use Rattle.rd_turn.specs.History.{Leads}
use Rattle.rd_served.specs.Deeds.{deeds_of_calls}
use Rattle.rd_served.proofs.CauseLemmas.{AnyRequest}
use Rattle.rd_served_replies.proofs.BeginLemmas.{IsNewStation, first_new, known_first}
use Rattle.rd_served_replies.proofs.FollowLemmas.{history_followed}
use Rattle.rd_served_replies.proofs.JobLemmas.{all_own, later_put}
use Rattle.rd_served_replies.proofs.LedLemmas.{led_runs}
use Rattle.rd_served_replies.proofs.laws.jobs_come_as_read.Goals as goal

pub returns-clause-put : goal.returns-clause-put
returns-clause-put c old new entries parts begins goes place d there =
    all_own AnyRequest (deeds_of_calls parts []) d.id (told_calls (d.pass).seen)
    ((history_followed IsNewStation entries parts old new [] goes (known_first old begins) (first_new old begins)).puts place d there)

pub returns-clause-later : goal.returns-clause-later
returns-clause-later c old new entries parts begins goes place d there later none =
    all_own AnyRequest (deeds_of_calls parts []) d.id (told_calls ((d.pass).seen ++ later))
    (later_put (IsJobOf AnyRequest (deeds_of_calls parts []) d.id) (d.pass).seen later
    ((history_followed IsNewStation entries parts old new [] goes (known_first old begins) (first_new old begins)).puts place d there) none)

pub returns-clause-run : goal.returns-clause-run
returns-clause-run c old new entries parts begins goes gives place d s there has =
    let is = history_followed IsNewStation entries parts old new [] goes (known_first old begins) (first_new old begins) in
    let opens_so = is.opened place d there in
    led_runs AnyRequest (deeds_of_calls parts []) (deeds_of_calls parts []) (grown_more [] (deeds_of_calls parts [])) d.id opens_so.opening (d.pass).seen s
    (subst (λ (o : SessionStation). Leads SessionDeskStep o (d.pass).seen s) opens_so.is (is.stationed place d s (there, has)).leads) (gives place d there) (is.puts place d there)
