-- The requests of the jobs that were put at a desk are those that were read, for each key that came there.
use Rattle.std.proofs.Common.{◌≡◌, ◌⊎◌, ◌∙◌, refl, sym, ap, subst, inl, inr, ℕ, Bool, true, false, cond, List, [], ◌∷◌}
use Rattle.std.specs.Prelude.{None, Some, find}
use Rattle.std.specs.List.{AllByRecursion, flat_map}
use Rattle.std.specs.Option.{option_map_or}
use Rattle.rd_base.specs.declared.journal.Item.TheVariants.{Came}
use Rattle.rd_base.specs.declared.journal.Key.{Key}
use Rattle.rd_desk.specs.Own.{IsOwnJob, job_come, job_request, no_job_request, request_put}
use Rattle.rd_drive.specs.declared.plan.Job.{Job}
use Rattle.rd_front.specs.State.{SessionStation}
use Rattle.rd_irp.specs.declared.request.Request.{Request}
use Rattle.rd_refused.specs.JournalsJobs.{IsJobOf}
use Rattle.rd_station.specs.Station.{StationCall, announces, applies, collects, drops, ends, is_key, puts, puts_unfit, removes, takes}
use Rattle.rd_station.proofs.Members.{Has, has_append, has_left, has_right, key_self, same_key}
use Rattle.rd_declared.specs.Replies.{request_read}
use Rattle.rd_deeds.specs.Talk.{Deed}
use Rattle.rd_world.proofs.KeysLemmas.{Comes}
use Rattle.rd_served.specs.ServedDevices.{served_cuts, served_parked, served_runs}
use Rattle.rd_served.proofs.StoreLemmas.{come_by, step_stores}
use Rattle.rd_served.proofs.WorkLemmas.{Steps}
use Rattle.rd_served_replies.specs.Premises.{NamesAlike}
use Rattle.rd_served_replies.proofs.GivenLemmas.{PutOf, comes_of}
use Rattle.rd_served_replies.proofs.JobLemmas.{job_own}

abbrev Of : Type 0
Of = SessionStation

-- ---- a key that came is that of a job that was put

abbrev IsPut : Key → List StationCall → Type 0
IsPut key calls = (job : Job) × Has job (flat_map job_come calls) × (key ≡ job.key)

put_by : (key : Key) (c : StationCall) (calls : List StationCall) → Comes c key → IsPut key (c ∷ calls)
put_by key (puts job None) calls same = (job, has_left job (job ∷ []) (flat_map job_come calls) (inl refl), same)
put_by key (puts job (Some refusal)) calls none = absurd none
put_by key (announces r) calls none = absurd none
put_by key (puts_unfit j back) calls none = absurd none
put_by key (takes r) calls none = absurd none
put_by key (applies p moment r) calls none = absurd none
put_by key (collects r) calls none = absurd none
put_by key (removes r) calls none = absurd none
put_by key drops calls none = absurd none
put_by key ends calls none = absurd none

steps_put : (key : Key) (calls : List StationCall) (old new : Of) → Steps old calls new → Has (Came key) new.journal → Has (Came key) old.journal ⊎ IsPut key calls
steps_put key [] old new e has = inl (subst (λ (s : Of). Has (Came key) s.journal) e has)
steps_put key (c ∷ calls) old new e has = elim (steps_put key calls e.0 new e.2 has) [
  | inl before ↦
      let stores = step_stores served_runs served_parked served_cuts old e.0 c e.1 in
      elim (has_append (Came key) old.journal stores.more (subst (Has (Came key)) stores.longer before)) [
        | inl was ↦ inl was
        | inr now ↦ inr (put_by key c calls (come_by c stores.more stores.each key now))
      ]
  | inr (job, there, same) ↦ inr (job, has_right job (job_come c) (flat_map job_come calls) there, same)
]

-- ---- the first job under a key

come_of : (J : Job → Type 0) (calls : List StationCall) → AllByRecursion (PutOf J) calls → (job : Job) → Has job (flat_map job_come calls) → J job
come_of J [] put job none = absurd none
come_of J (c ∷ calls) put job has = elim (has_append job (job_come c) (flat_map job_come calls) has) [
  | inl here ↦ comes_of J c put.0 job here
  | inr later ↦ come_of J calls put.1 job later
]

abbrev IsLike : Request → Request → Type 0
IsLike r q = (r.file ≡ q.file) × (r.op ≡ q.op)

first_put : (requests : Key → Request) (key : Key) (jobs : List Job) → ((job : Job) → Has job jobs → IsOwnJob requests job) → (job : Job) → Has job jobs → key ≡ job.key
    → IsLike (option_map_or job_request (find (λ (j : Job). is_key j.key key) jobs) no_job_request) (requests key)
first_put requests key [] own job none same = absurd none
first_put requests key (j ∷ jobs) own job has same = by (is_key j.key key) refl (λ later. first_put requests key jobs (λ k there. own k (inr there)) job later same)
  where
    mine : is_key j.key key ≡ true → IsLike (job_request j) (requests key)
    mine e =
        let at : j.key ≡ key = same_key j.key key e in
        let is = own j (inl refl) in
        (is.0 ∙ ap (λ (k : Key). (requests k).file) at, is.1 ∙ ap (λ (k : Key). (requests k).op) at)

    by : (b : Bool) → is_key j.key key ≡ b → (Has job jobs → IsLike (option_map_or job_request (find (λ (x : Job). is_key x.key key) jobs) no_job_request) (requests key))
        → IsLike (option_map_or job_request (cond b (Some j) (find (λ (x : Job). is_key x.key key) jobs)) no_job_request) (requests key)
    by true e rest = mine e
    by false e rest = elim has [
      | inl first ↦
          let at : key ≡ j.key = same ∙ ap (λ (x : Job). x.key) first in
          let yes : is_key j.key key ≡ true = subst (λ (k : Key). is_key j.key k ≡ true) (sym at) (key_self j.key) in
          absurd (cc (yes, e))
      | inr later ↦ rest later
    ]

-- So the requests of jobs that were put are those that were read.
pub put_as_read : (Fine : Request → Type 0) (deeds : List Deed) (device : ℕ) (calls : List StationCall) (old new : Of) → Steps old calls new → old.journal ≡ [] → AllByRecursion (PutOf (IsJobOf Fine deeds device)) calls → (key : Key) → Has (Came key) new.journal
    → NamesAlike (request_put calls) (request_read deeds) key
put_as_read Fine deeds device calls old new steps empty put key has = elim (steps_put key calls old new steps has) [
  | inl none ↦ absurd (subst (Has (Came key)) empty none)
  | inr (job, there, same) ↦ first_put (request_read deeds) key (flat_map job_come calls) (λ j among. job_own Fine deeds device j (come_of (IsJobOf Fine deeds device) calls put j among)) job there same
]
