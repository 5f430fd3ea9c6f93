-- The jobs that came to desks, by the requests that were read.
use Rattle.std.proofs.Common.{◌≡◌, ◌∙◌, sym, ap, subst, ℕ, List, [], ◌∷◌, ◌++◌, Some, Option}
use Rattle.std.specs.Prelude.{All, None}
use Rattle.std.specs.List.{AllByRecursion}
use Rattle.std.specs.Option.{unwrap_or}
use Rattle.std.proofs.lemmas.List.Elements.{All-head, All-tail}
use Rattle.rd_desk.specs.Desk.{job_put, told_by, told_calls}
use Rattle.rd_desk.specs.Own.{IsOwnJob, PutsOwn}
use Rattle.rd_desk.specs.declared.calls.DeskCall.{DeskCall}
use Rattle.rd_desk.specs.declared.calls.DeskReply.{DeskReply}
use Rattle.rd_drive.proofs.AllLemmas.{all_append, all_weaker}
use Rattle.rd_drive.specs.declared.plan.Job.{Job}
use Rattle.rd_irp.specs.declared.request.Request.{Request}
use Rattle.rd_refused.specs.JournalsJobs.{IsJobOf}
use Rattle.rd_station.specs.Station.{StationCall, announces, applies, collects, drops, ends, puts, puts_unfit, removes, takes}
use Rattle.rd_station.proofs.Members.{Has}
use Rattle.rd_turn.specs.declared.object.Entry.{Entry}
use Rattle.rd_declared.specs.Replies.{no_request, request_read}
use Rattle.rd_deeds.specs.Talk.{Deed}
use Rattle.rd_served_replies.proofs.GivenLemmas.{PutOf, told_append, told_puts}

abbrev E : Type 0
E = Entry DeskCall DeskReply

pub job_own : (Fine : Request → Type 0) (deeds : List Deed) (device : ℕ) (job : Job) → IsJobOf Fine deeds device job → IsOwnJob (request_read deeds) job
job_own Fine deeds device job is =
    let same : request_read deeds job.key ≡ is.request = ap (λ (o : Option Request). unwrap_or o no_request) is.read in
    (ap (λ (j : Job). j.file) is.job_is ∙ ap (λ (r : Request). r.file) (sym same), ap (λ (j : Job). j.op) is.job_is ∙ ap (λ (r : Request). r.op) (sym same))

put_own : (Fine : Request → Type 0) (deeds : List Deed) (device : ℕ) (c : StationCall) → PutOf (IsJobOf Fine deeds device) c → PutsOwn (request_read deeds) c
put_own Fine deeds device (puts job None) is = job_own Fine deeds device job is
put_own Fine deeds device (puts job (Some refusal)) is = tt
put_own Fine deeds device (announces r) is = tt
put_own Fine deeds device (puts_unfit j back) is = tt
put_own Fine deeds device (takes r) is = tt
put_own Fine deeds device (applies p moment r) is = tt
put_own Fine deeds device (collects r) is = tt
put_own Fine deeds device (removes r) is = tt
put_own Fine deeds device drops is = tt
put_own Fine deeds device ends is = tt

pub all_own : (Fine : Request → Type 0) (deeds : List Deed) (device : ℕ) (calls : List StationCall) → AllByRecursion (PutOf (IsJobOf Fine deeds device)) calls → AllByRecursion (PutsOwn (request_read deeds)) calls
all_own Fine deeds device calls put = all_weaker (PutOf (IsJobOf Fine deeds device)) (PutsOwn (request_read deeds)) (put_own Fine deeds device) calls put

-- calls by which no job comes
none_put : (J : Job → Type 0) (entries : List E) → All (λ (e : E). job_put e.call ≡ []) entries → AllByRecursion (PutOf J) (told_calls entries)
none_put J [] none = tt
none_put J (e ∷ entries) none = all_append (PutOf J) (told_by e.call e.reply) (told_calls entries)
    (told_puts J e.call e.reply (λ done is job has. absurd (subst (Has job) (All-head (λ (x : E). job_put x.call ≡ []) e entries none) has)))
    (none_put J entries (All-tail (λ (x : E). job_put x.call ≡ []) e entries none))

pub later_put : (J : Job → Type 0) (entries later : List E) → AllByRecursion (PutOf J) (told_calls entries) → All (λ (e : E). job_put e.call ≡ []) later → AllByRecursion (PutOf J) (told_calls (entries ++ later))
later_put J entries later put none = subst (AllByRecursion (PutOf J)) (sym (told_append entries later)) (all_append (PutOf J) (told_calls entries) (told_calls later) put (none_put J later none))
