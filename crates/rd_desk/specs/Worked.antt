-- Worked cases of a desk, over the station whose device counts its turns.
use Rattle.std.specs.Prelude.{ℕ, false, List, [], ◌∷◌}
use Rattle.rd_drive.specs.declared.plan.Job.{Job}
use Rattle.rd_station.specs.Station.{StationState, apply}
use Rattle.rd_station.specs.Worked.{close, closes, closes_to, told, with_jobs, with_taken}
use Rattle.rd_turn.specs.declared.object.Entry.{Entry}
use Rattle.rd_turn.specs.History.{entry}
use Rattle.rd_desk.specs.declared.batch.Run.{Run}
use Rattle.rd_desk.specs.declared.calls.DeskCall.{DeskCall}
use Rattle.rd_desk.specs.declared.calls.DeskCall.TheVariants as call
use Rattle.rd_desk.specs.declared.calls.DeskReply.{DeskReply}
use Rattle.rd_desk.specs.declared.calls.DeskReply.TheVariants as reply
use Rattle.rd_desk.specs.Batch.{WorkedState}

-- the plan of a job, to be run at moment 5
abbrev pub run : Job → Run
run job = record { plan = record { job = job; starved = false }; moment = 5 }

-- a hand is given these jobs, and nothing is left
abbrev pub given : List Job → WorkedState
given jobs = record { applied = []; jobs = jobs; left = false; ready = false; over = false }

-- the pass of this number gives back nothing and takes these jobs, or gives back the job and takes none
abbrev pub took : ℕ → List Job → Entry DeskCall DeskReply
took by jobs = entry by (call.Work []) (reply.Worked (given jobs))

abbrev pub gave : ℕ → Job → Entry DeskCall DeskReply
gave by job = entry by (call.Work (run job ∷ [])) (reply.Worked (given []))

-- a station that the host was told of, one with five closes, one with a close, one where it was taken, and one where it was run
abbrev pub none_wait : StationState ℕ
none_wait = told

abbrev pub five_wait : StationState ℕ
five_wait = with_jobs told (closes_to 5)

abbrev pub one_waits : StationState ℕ
one_waits = with_jobs told (close 0 7 ∷ [])

abbrev pub one_taken : StationState ℕ
one_taken = with_taken 1 one_waits

abbrev pub one_ran : StationState ℕ
one_ran = (apply one_taken (close 0 7) 5 (closes 1 [])).0
