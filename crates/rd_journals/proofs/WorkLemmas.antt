-- Each part keeps jobs those of their keys' requests, and so stations tied to their journals.
use Rattle.std.proofs.Common.{◌≡◌, ◌⊎◌, ◌∙◌, refl, sym, ap, subst, inl, inr, ℕ, zero, suc, ◌==◌, ◌+◌, ◌-◌, ◌&&◌, Bool, true, false, cond, List, [], ◌∷◌, ◌++◌, map, reverse, arith}
use Rattle.std.specs.Prelude.{Some, None, Option, Result, Ok, Err, fold, take, drop, if◌then◌else◌, replicate, slice_get}
use Rattle.std.specs.List.{AllByRecursion}
use Rattle.std.specs.Map.{lookup}
use Rattle.std.specs.Option.{option_map_or, unwrap_or}
use Rattle.std.specs.Ordering.{nat_cmp}
use Rattle.std.specs.BTreeMap.{is_at}
use Rattle.std.proofs.lemmas.List.{take-append-drop}
use Rattle.rd_base.specs.declared.journal.Cause.TheVariants.{Dropped}
use Rattle.rd_base.specs.declared.journal.Item.{Item}
use Rattle.rd_base.specs.declared.journal.Item.TheVariants.{Cut}
use Rattle.rd_base.specs.declared.journal.Key.{Key}
use Rattle.rd_client.specs.Core as client
use Rattle.rd_client.specs.Core.{ClientCoreState, Outgoing, client_hear, job_of, listed}
use Rattle.rd_client.specs.declared.heard.Heard.{Heard}
use Rattle.rd_client.specs.declared.heard.Heard.TheVariants as heard
use Rattle.rd_devices.specs.declared.list.Announce.{Announce}
use Rattle.rd_drive.proofs.AllLemmas.{all_append}
use Rattle.rd_drive.proofs.BoundedLemmas.{cut_cancels}
use Rattle.rd_drive.specs.Promise.{Cancels}
use Rattle.rd_drive.specs.Planned.{Planned}
use Rattle.rd_drive.specs.Replies.{cancellation}
use Rattle.rd_drive.specs.Stepped.{Stepped}
use Rattle.rd_drive.specs.declared.plan.Job.{Job}
use Rattle.rd_irp.specs.Fits.{kind_of}
use Rattle.rd_irp.specs.declared.completion.Reply.{Reply}
use Rattle.rd_station.specs.declared.held.InHand.{InHand}
use Rattle.rd_station.specs.declared.held.ParkedJob.{ParkedJob}
use Rattle.rd_hello.specs.declared.client.ClientState.{ClientState}
use Rattle.rd_hello.specs.declared.end_fault.EndFault.{EndFault}
use Rattle.rd_irp.specs.declared.request.Request.{Request}
use Rattle.rd_script.specs.declared.line.NumberedLine.{NumberedLine}
use Rattle.rd_station.specs.Station as station
use Rattle.rd_station.specs.Station.{StationCall, StationState, StationStep, StationSteps, applies, drops, new_station, put_refusal, put_unless}
use Rattle.rd_station.specs.Tied.{IsRunBy, RunsOwn}
use Rattle.rd_station.proofs.Tying.{all_tied}
use Rattle.rd_station.proofs.Members.{has_append, has_left, has_right}
use Rattle.rd_station.specs.declared.answers.Completion.{Completion}
use Rattle.rd_station.specs.declared.answers.Given.{Given}
use Rattle.rd_station.specs.declared.answers.Given.TheVariants as given
use Rattle.rd_station.specs.declared.refusals.PutWhy.{PutWhy}
use Rattle.rd_station.specs.declared.refusals.PutWhy.TheVariants as why
use Rattle.rd_runs.proofs.Insides.{IsInside, added_inside, all_dropped_inside, all_refreshed_inside, applied_inside, hears_inside, put_inside, removed_inside, stationed}
use Rattle.rd_runs.proofs.Parts.{IsBehind, MayBe, Part, accepts, adds_one, announced_by, applies_one, begins, by_parts, client_gets, client_hears_one, client_keeps_part, client_sends_one, collects_one, cut_by, done, draws_one, ends, hands_out, host_gets, host_hears_one, host_keeps_part, host_sends_one, idle_one, queues_one, refreshed_by, refuses, removes_one, takes_one, tells_one, told_added, told_removed, tries_one}
use Rattle.rd_declared.specs.Devices.{Declared, PrinterNames, device_cut, device_cuts, device_parked, device_runs, device_step}
use Rattle.rd_world.specs.Events.{came_of, completion_message, deed_on, dropping, hand_at, is_channel_open, refreshing}
use Rattle.rd_world.specs.Hearing.{after_opening, announcing, heard_by_client, client_hears, put_at, put_by, putting}
use Rattle.rd_declared.specs.Declaring.{bare_lines, declared_devices}
use Rattle.rd_declared.specs.Replies.{no_request, request_read}
use Rattle.rd_world.specs.Run.{station_of, world_of}
use Rattle.rd_deeds.specs.Talk as deed
use Rattle.rd_deeds.specs.Talk.{Deed, Has, client_read, client_reads, request_at, stores}
use Rattle.rd_world.specs.World.{WorldState, handling_by, station_at, with_station, with_deed}
use Rattle.rd_declared.specs.declared.device.SessionDevice.{SessionDevice}
use Rattle.rd_declared.specs.declared.device.SessionDevice.TheVariants as session
use Rattle.rd_world.proofs.BeginningLemmas.{begun_by}
use Rattle.rd_world.proofs.OpeningLemmas.{lines_begin}
use Rattle.rd_world.proofs.KeysLemmas.{Stores, step_stores}
use Rattle.rd_deeds.proofs.Telling.{request_later}
use Rattle.rd_journals.specs.Jobs.{AreFine, AreWorking, IsIdOf, IsJobOf, IsKindOf, OwnsAll, IsLed, IsTiedTo, RunsRead}
use Rattle.rd_journals.specs.Orderly.{HasStation, IsNext, Orderly, OrderlyOn}
use Rattle.rd_journals.specs.Stations.{AreFit, IsFit}
use Rattle.rd_journals.proofs.CallLemmas.{Goes, NoKey, OfJob, announced, came, collected, may_put, removed, taken}
use Rattle.rd_journals.proofs.AskingLemmas.{HeardAs, hears}
use Rattle.rd_journals.proofs.ChannelLemmas.{all_refreshed, begun_on}
use Rattle.rd_journals.proofs.ClientLemmas.{announcing_orderly, channel_of, channel_open, counted_one, counted_other, given_back, next_job, open_or_shut, read_by, read_orderly}
use Rattle.rd_journals.proofs.DeviceLemmas.{cut_fits, cuts_off}
use Rattle.rd_journals.proofs.OwnLemmas.{IsGood, owns_call}
use Rattle.rd_journals.proofs.OrderlyLemmas.{beside_open, while_open}
use Rattle.rd_journals.proofs.ServingLemmas.{all_dropped}
use Rattle.rd_journals.proofs.StandingLemmas.{still_not}
use Rattle.rd_journals.proofs.ReplyLemmas.{fit_at}
use Rattle.rd_journals.proofs.RunLemmas.{IsHandledIn, behind_orderly, hears_open, left, opened}
use Rattle.rd_journals.proofs.HeldLemmas.{found_then, stored_deeds, stored_unread}

abbrev Of : Type 0
Of = StationState SessionDevice

-- ---- more is read

abbrev pub Grown : List Deed → List Deed → Type 0
Grown deeds deeds' = (c k : ℕ) (r : Request) → request_at (client_read c deeds) k ≡ Some r → request_at (client_read c deeds') k ≡ Some r

pub grown_deed : (y : Deed) (deeds : List Deed) → Grown deeds (y ∷ deeds)
grown_deed (client_reads c m) deeds x k r read = request_later (c == x) m r (client_read x deeds) k read
grown_deed y deeds x k r read = read

grown_not : (deeds : List Deed) → Grown deeds deeds
grown_not deeds x k r read = read

pub grown_more : (more deeds : List Deed) → Grown deeds (more ++ deeds)
grown_more [] deeds x k r read = read
grown_more (y ∷ more) deeds x k r read = grown_deed y (more ++ deeds) x k r (grown_more more deeds x k r read)

pub grown_inside : (w v : WorldState) → IsInside w v → Grown w.deeds v.deeds
grown_inside w v inside x k r read = subst (λ (ds : List Deed). request_at (client_read x ds) k ≡ Some r) (sym inside.deeds) (grown_more inside.more w.deeds x k r read)

grown_station : (w : WorldState) (d : ℕ) (old new : Of) → station_at w d ≡ Some old → (more : List Item) → new.journal ≡ old.journal ++ more → Grown w.deeds (with_station w d new).deeds
grown_station w d old new there more longer c k r read =
    ap (λ (ms : List (List ℕ)). request_at ms k) (ap (client_read c) (stored_deeds w d old new there more longer) ∙ stored_unread d c (reverse more) w.deeds) ∙ read

job_grown : (Fine : Request → Type 0) (deeds deeds' : List Deed) → Grown deeds deeds' → (d : ℕ) (job : Job) → IsJobOf Fine deeds d job → IsJobOf Fine deeds' d job
job_grown Fine deeds deeds' grown d job is = record { request = is.request; read = grown job.key.channel job.key.index is.request is.read; device = is.device; job_is = is.job_is; fine = is.fine }

abbrev id_grown : (Fine : Request → Type 0) (deeds deeds' : List Deed) → Grown deeds deeds' → (d : ℕ) (key : Key) (completion : ℕ) → IsIdOf Fine deeds d key completion → IsIdOf Fine deeds' d key completion
id_grown Fine deeds deeds' grown d key completion is = record { request = is.request; read = grown key.channel key.index is.request is.read; device = is.device; id = is.id; fine = is.fine }

owned_grown : (Fine : Request → Type 0) (Good : Reply → Type 0) (deeds deeds' : List Deed) → Grown deeds deeds' → (d : ℕ) (ts : List InHand) (ps : List ParkedJob) (rs : List Completion)
    → OwnsAll (IsIdOf Fine deeds d) (IsKindOf Fine deeds d) Good ts ps rs → OwnsAll (IsIdOf Fine deeds' d) (IsKindOf Fine deeds' d) Good ts ps rs
owned_grown Fine Good deeds deeds' grown d ts ps rs is = record {
  taken = λ t has. id_grown Fine deeds deeds' grown d t.key t.completion (is.taken t has);
  parked = λ p has. let k = is.parked p has in record { of = id_grown Fine deeds deeds' grown d p.key p.completion k.of; layout = k.layout };
  ready = λ x has. let (k, good) = is.ready x has in (record { of = id_grown Fine deeds deeds' grown d x.key x.completion k.of; layout = k.layout }, good);
}

call_grown : (deeds deeds' : List Deed) → Grown deeds deeds' → (call : StationCall) → RunsRead deeds call → RunsRead deeds' call
call_grown deeds deeds' grown (applies planned moment answer) (r, read, file, o) = (r, grown planned.job.key.channel planned.job.key.index r read, file, o)
call_grown deeds deeds' grown call is = tt

calls_grown : (deeds deeds' : List Deed) → Grown deeds deeds' → (calls : List StationCall) → AllByRecursion (RunsRead deeds) calls → AllByRecursion (RunsRead deeds') calls
calls_grown deeds deeds' grown [] all = tt
calls_grown deeds deeds' grown (call ∷ calls) all = (call_grown deeds deeds' grown call all.0, calls_grown deeds deeds' grown calls all.1)

led_grown : (deeds deeds' : List Deed) → Grown deeds deeds' → (opening : SessionDevice) (s : Of) → IsLed deeds opening s → IsLed deeds' opening s
led_grown deeds deeds' grown opening s is = record { calls = is.calls; steps = is.steps; own = calls_grown deeds deeds' grown is.calls is.own }

module _ (Fine : Request → Type 0) (Good : Reply → Type 0) (lost : Good cancellation)
    (good : (r : Request) (s : SessionDevice) (planned : Planned) (moment : ℕ) (came : Stepped SessionDevice) → Fine r → planned.job.op ≡ r.op → device_runs s planned moment came.answer came.ends came.state → IsGood Good came)
    (devices : List (ℕ × Declared)) where
  working_grown : (stations : List (ℕ × Of)) (hands : List (Option (ℕ × Job))) (deeds deeds' : List Deed) → Grown deeds deeds' → AreWorking Fine Good devices stations hands deeds → AreWorking Fine Good devices stations hands deeds'
  working_grown stations hands deeds deeds' grown is = record {
    led = λ d s has. let (x, at, led) = is.led d s has in (x, at, led_grown deeds deeds' grown x.state s led);
    waiting = λ d s has job among. job_grown Fine deeds deeds' grown d job (is.waiting d s has job among);
    owned = λ d s has. owned_grown Fine Good deeds deeds' grown d s.taken s.parked s.ready (is.owned d s has);
    held = λ d job among. job_grown Fine deeds deeds' grown d job (is.held d job among);
  }

  working_deed : {stations : List (ℕ × Of)} {hands : List (Option (ℕ × Job))} {deeds : List Deed} (y : Deed) → AreWorking Fine Good devices stations hands deeds → AreWorking Fine Good devices stations hands (y ∷ deeds)
  working_deed {stations} {hands} {deeds} y is = working_grown stations hands deeds (y ∷ deeds) (grown_deed y deeds) is

  -- ---- a station goes on

  steps_more : (calls : List StationCall) (old mid new : Of) (call : StationCall) → StationSteps device_runs device_parked device_cuts old calls mid → StationStep device_runs device_parked device_cuts mid call new
      → StationSteps device_runs device_parked device_cuts old (calls ++ call ∷ []) new
  steps_more [] old mid new call e step = (new, subst (λ (s : Of). StationStep device_runs device_parked device_cuts s call new) e step, refl)
  steps_more (first ∷ calls) old mid new call (s, one, rest) step = (s, one, steps_more calls s mid new call rest step)

  runs_read : (deeds : List Deed) (d : ℕ) (call : StationCall) → OfJob (IsJobOf Fine deeds d) call → RunsRead deeds call
  runs_read deeds d (applies planned moment answer) is = (is.request, is.read, ap (λ (j : Job). j.file) is.job_is, ap (λ (j : Job). j.op) is.job_is)
  runs_read deeds d call is = tt

  -- a station does a call with a job of its own, or nothing
  record Works (deeds : List Deed) (d : ℕ) (old new : Of) : Type 0 where
    more : List Item
    longer : new.journal ≡ old.journal ++ more
    did : (new ≡ old) ⊎ ((call : StationCall) × StationStep device_runs device_parked device_cuts old call new × OfJob (IsJobOf Fine deeds d) call)
    waits : (job : Job) → Has job new.waiting → Has job old.waiting ⊎ IsJobOf Fine deeds d job

  works_by : (deeds : List Deed) (d : ℕ) (New : Key → Type 0) (c : ℕ) (old new : Of) → Goes New (IsJobOf Fine deeds d) c old new → Works deeds d old new
  works_by deeds d New c old new goes = record { more = goes.more; longer = goes.longer; did = goes.did; waits = goes.waits }

  working_station : (hands : List (Option (ℕ × Job))) (w : WorldState) (d : ℕ) (old new : Of) → station_at w d ≡ Some old → Works w.deeds d old new → AreWorking Fine Good devices w.stations hands w.deeds
      → AreWorking Fine Good devices (with_station w d new).stations hands (with_station w d new).deeds
  working_station hands w d old new there works is = working_grown (with_station w d new).stations hands w.deeds (with_station w d new).deeds (grown_station w d old new there works.more works.longer) so
    where
      led_new : (x : Declared) × (lookup (is_at (nat_cmp d)) devices ≡ Some x) × IsLed w.deeds x.state new
      led_new =
          let (x, at, led) = is.led d old there in (
            x,
            at,
            elim works.did [
              | inl same ↦ subst (IsLed w.deeds x.state) (sym same) led
              | inr (call, step, of) ↦ record { calls = led.calls ++ call ∷ []; steps = steps_more led.calls (new_station x.state) old new call led.steps step; own = all_append (RunsRead w.deeds) led.calls (call ∷ []) led.own (runs_read w.deeds d call of, tt) }
            ],
          )

      Owned : ℕ → Of → Type 0
      Owned n s = OwnsAll (IsIdOf Fine w.deeds n) (IsKindOf Fine w.deeds n) Good s.taken s.parked s.ready

      same_read : (ms : List (List ℕ)) (k : ℕ) {r q : Request} → request_at ms k ≡ Some r → request_at ms k ≡ Some q → r ≡ q
      same_read ms k {r = r} {q = q} one other = let both : Some r ≡ Some q = sym one ∙ other in cc

      so : AreWorking Fine Good devices (with_station w d new).stations hands w.deeds
      so = record {
        led = λ q s has. elim (found_then w.stations d new q s has) [
          | inl (here, equal) ↦ subst (λ (n : ℕ). (x : Declared) × (lookup (is_at (nat_cmp n)) devices ≡ Some x) × IsLed w.deeds x.state s) (sym here) (subst (λ (y : Of). (x : Declared) × (lookup (is_at (nat_cmp d)) devices ≡ Some x) × IsLed w.deeds x.state y) (sym equal) led_new)
          | inr (apart, was) ↦ is.led q s was
        ];
        waiting = λ q s has job among. elim (found_then w.stations d new q s has) [
          | inl (here, equal) ↦ subst (λ (n : ℕ). IsJobOf Fine w.deeds n job) (sym here) (elim (works.waits job (subst (λ (y : Of). Has job y.waiting) equal among)) [ inl was ↦ is.waiting d old there job was | inr own ↦ own ])
          | inr (apart, was) ↦ is.waiting q s was job among
        ];
        owned = λ q s has. elim (found_then w.stations d new q s has) [
          | inl (here, equal) ↦ subst (λ (n : ℕ). Owned n s) (sym here) (subst (Owned d) (sym equal) (elim works.did [
            | inl same ↦ subst (Owned d) (sym same) (is.owned d old there)
            | inr (call, step, of) ↦ owns_call (IsIdOf Fine w.deeds d) (IsKindOf Fine w.deeds d) Good (IsJobOf Fine w.deeds d) lost
                (λ job completion own id. record { of = id; layout = ap kind_of (ap (λ (j : Job). j.op) own.job_is ∙ ap (λ (r : Request). r.op) (same_read (client_read job.key.channel w.deeds) job.key.index own.read id.read)) })
                (λ job own. record { request = own.request; read = own.read; device = own.device; id = ap (λ (j : Job). j.completion) own.job_is; fine = own.fine })
                (λ s planned moment came own runs. good own.request s planned moment came own.fine (ap (λ (j : Job). j.op) own.job_is) runs)
                old new (λ job among. is.waiting d old there job among) (is.owned d old there) call step of
          ]))
          | inr (apart, was) ↦ is.owned q s was
        ];
        held = is.held;
      }

  abbrev IsWorking : WorldState → Type 0
  IsWorking w = AreWorking Fine Good devices w.stations w.hands w.deeds

  -- ---- what a client hears

  next_is_job : {stations : List (ℕ × Of)} {channels asked d : ℕ} {deeds : List Deed} {job : Job} → AreFine Fine deeds → IsNext stations channels asked deeds d job → IsJobOf Fine deeds d job
  next_is_job {channels = channels} {deeds = deeds} {job = job} fines next = record {
    request = next.request;
    read = ap (λ (c : ℕ). request_at (client_read c deeds) job.key.index) next.channel ∙ next.read;
    device = sym next.device_is;
    job_is = next.job_is ∙ ap (λ (c : ℕ). job_of next.request c job.key.index) (sym next.channel);
    fine = fines channels job.key.index next.request next.read;
  }

  putting_works : (c : ℕ) (w : WorldState) (d : ℕ) (job : Job) → AreFine Fine w.deeds → OrderlyOn c w → IsNext w.stations w.channels (w.client).asked w.deeds d job → IsWorking w → IsWorking (putting w d job)
  putting_works c w d job fines (ordered, opened) next is = at (station_at w d) refl
    where
      here : (s : Of) → station_at w d ≡ Some s → (refusal : Option PutWhy) → put_refusal s job ≡ refusal → IsWorking (put_by w d job (put_unless s job refusal))
      here s there None none =
          let on = (ordered.held).on d s there in
          let same : job.key.channel ≡ channel_of w = next.channel ∙ sym (channel_open w c opened) in
          let own : IsJobOf Fine w.deeds d job = next_is_job fines next in
          working_station w.hands w d s (put_unless s job None).0 there
          (works_by w.deeds d (λ key. key ≡ job.key) (channel_of w) s (put_unless s job None).0 (came (IsJobOf Fine w.deeds d) (channel_of w) s on job own (may_put (channel_of w) s job.key on same (next.above d s there)) same none)) is
      here s there (Some why.Gone) none = is
      here s there (Some (why.Full count)) none = is
      here s there (Some (why.Worn count)) none = is
      here s there (Some (why.Duplicate key)) none = is
      here s there (Some why.Memory) none = is

      at : (o : Option Of) → station_at w d ≡ o → IsWorking (put_at w d job o)
      at None there = is
      at (Some s) there = here s there (put_refusal s job) refl

  announced_works : (w : WorldState) (d : ℕ) (o : Option Of) → station_at w d ≡ o → Orderly w → IsWorking w → IsWorking (announced_by w d o)
  announced_works w d None there ordered is = is
  announced_works w d (Some s) there ordered is =
      working_station w.hands w d s (station.announce s).0 there (works_by w.deeds d NoKey (channel_of w) s (station.announce s).0 (announced (IsJobOf Fine w.deeds d) (channel_of w) s ((ordered.held).on d s there))) is

  all_announced : (announces : List Announce) (w : WorldState) → Orderly w → IsWorking w → IsWorking (fold (λ x (a : Announce). announcing x a.id) w announces)
  all_announced [] w ordered is = is
  all_announced (a ∷ announces) w ordered is = all_announced announces (announcing w a.id) (announcing_orderly w a.id ordered) (announced_works w a.id (station_at w a.id) refl ordered is)

  hears_works : (c : ℕ) (w : WorldState) (m : List ℕ) (ordered : Orderly w) (opened : ((w.side).table).channel ≡ Some c) (free : w.kept ≡ None) → AreFine Fine (client_reads w.channels m ∷ w.deeds) → IsWorking w → IsWorking (client_hears w m)
  hears_works c w m ordered opened free fines is = by (client_hear w.client m) (hears w.client m)
    where
      opening : (shake : ClientState) (x : WorldState) → Orderly x → IsWorking x → IsWorking (after_opening shake x)
      opening shake x so works = go (client.becomes_ready shake ((x.client).core).shake)
        where
          go : (b : Bool) → IsWorking (if b then fold (λ y (a : Announce). announcing y a.id) x (listed x.client) else x)
          go true = all_announced (listed x.client) x so works
          go false = works

      by : (r : ClientCoreState × Result Heard EndFault) → HeardAs w.client m r → IsWorking (heard_by_client ((w.client).core).shake (read_by c w m ordered opened free r.0) r.1)
      by (x, Err fault) h = working_deed (client_reads w.channels m) is
      by (x, Ok (heard.Print n)) h = working_deed (client_reads w.channels m) is
      by (x, Ok heard.Nothing) (same, asked, other, fault) =
          opening ((w.client).core).shake (read_by c w m ordered opened free x) (read_orderly c w m ordered opened free x same (omega (arith, asked)) (λ fine. counted_other c w m ordered opened free other (sym fault ∙ fine) ∙ sym asked)).0
          (working_deed (client_reads w.channels m) is)
      by (x, Ok (heard.Ask device job)) (same, asked, one, fault, fine, r, spelled, named, is_job) =
          let so = read_orderly c w m ordered opened free x same (omega (arith, asked)) (λ f. counted_one c w m ordered opened free one fine ∙ sym asked) in
          let next : IsNext w.stations w.channels x.asked (client_reads w.channels m ∷ w.deeds) device job =
          subst (λ (y : ℕ × Job). IsNext w.stations w.channels x.asked (client_reads w.channels m ∷ w.deeds) y.0 y.1) (λ i. (sym named i, sym is_job i)) (next_job c w m ordered opened free x r asked spelled one fine) in
          putting_works c (read_by c w m ordered opened free x) device job fines so next (working_deed (client_reads w.channels m) is)

  -- ---- hands

  has_take : {A : Type 0} (x : A) (n : ℕ) (xs : List A) → Has x (take n xs) → Has x xs
  has_take x n xs has = subst (Has x) (take-append-drop n xs) (has_left x (take n xs) (drop n xs) has)

  has_drop : {A : Type 0} (x : A) (n : ℕ) (xs : List A) → Has x (drop n xs) → Has x xs
  has_drop x n xs has = subst (Has x) (take-append-drop n xs) (has_right x (take n xs) (drop n xs) has)

  handed : (stations : List (ℕ × Of)) (hands : List (Option (ℕ × Job))) (deeds : List Deed) (n k : ℕ) (held : Option (ℕ × Job)) → ((d : ℕ) (job : Job) → Some (d, job) ≡ held → IsJobOf Fine deeds d job) → AreWorking Fine Good devices stations hands deeds
      → AreWorking Fine Good devices stations (take n hands ++ held ∷ drop k hands) deeds
  handed stations hands deeds n k held own is = record {
    led = is.led;
    waiting = is.waiting;
    owned = is.owned;
    held = λ d job among. elim (has_append (Some (d, job)) (take n hands) (held ∷ drop k hands) among) [
      | inl before ↦ is.held d job (has_take (Some (d, job)) n hands before)
      | inr later ↦ elim later [ inl same ↦ own d job same | inr after ↦ is.held d job (has_drop (Some (d, job)) k hands after) ]
    ];
  }

  has_got : {A : Type 0} (x : A) (xs : List A) (n : ℕ) → slice_get xs n ≡ Some x → Has x xs
  has_got x [] n e = absurd (cc (e))
  has_got x (y ∷ xs) zero e = let same : y ≡ x = cc in inl (sym same)
  has_got x (y ∷ xs) (suc n) e = inr (has_got x xs n e)

  in_hand : (w : WorldState) (hand d : ℕ) (job : Job) → hand_at w hand ≡ Some (Some (d, job)) → Has (Some (d, job)) w.hands
  in_hand w hand d job e = by (hand == 0) e
    where
      by : (b : Bool) → (if b then None else slice_get w.hands (hand - 1)) ≡ Some (Some (d, job)) → Has (Some (d, job)) w.hands
      by true e = absurd (cc (e))
      by false e = has_got (Some (d, job)) w.hands (hand - 1) e

  -- ---- a channel ends

  record Cuts (hands : List (Option (ℕ × Job))) (x : WorldState) : Type 0 where
    working : AreWorking Fine Good devices x.stations hands x.deeds
    fit : (d : ℕ) (s : Of) → HasStation x.stations d s → IsFit s.device

  one_cut : (hands : List (Option (ℕ × Job))) (x : WorldState) (d : ℕ) → Cuts hands x → Cuts hands (dropping x d)
  one_cut hands x d is = by (station_at x d) refl
    where
      by : (o : Option Of) → station_at x d ≡ o → Cuts hands (option_map_or (λ (s : Of). with_station x d (station.drop_channel s (device_cut s.device).state)) o x)
      by None there = is
      by (Some s) there = record {
        working = working_station hands x d s new there (record { more = stores.more; longer = stores.longer; did = inr (drops, step, tt); waits = λ job has. absurd (none s.live job has) }) is.working;
        fit = λ q t has. elim (found_then x.stations d new q t has) [ inl (here, equal) ↦ subst (λ (y : Of). IsFit y.device) (sym equal) (fits s.live) | inr (apart, was) ↦ is.fit q t was ];
      }
        where
          cut : SessionDevice
          cut = (device_cut s.device).state

          new : Of
          new = station.drop_channel s cut

          step : StationStep device_runs device_parked device_cuts s drops new
          step = (cut, refl, λ live. cuts_off s.device (is.fit d s there))

          stores : Stores drops s.journal new.journal
          stores = step_stores s new drops step

          left : Bool → Of
          left b = cond b (record (station.emptied s) { device = cut; live = false; journal = s.journal ++ Cut Dropped ∷ [] }) (station.emptied s)

          none : (b : Bool) (job : Job) → Has job (left b).waiting → ⊥
          none true job has = has
          none false job has = has

          fits : (b : Bool) → IsFit (left b).device
          fits true = cut_fits s.device (is.fit d s there)
          fits false = is.fit d s there

  all_cut : (ds : List ℕ) (hands : List (Option (ℕ × Job))) (x : WorldState) → Cuts hands x → Cuts hands (fold dropping x ds)
  all_cut [] hands x is = is
  all_cut (d ∷ ds) hands x is = all_cut ds hands (dropping x d) (one_cut hands x d is)

  removes_works : (c : ℕ) (w : WorldState) (d : ℕ) → OrderlyOn c w → IsWorking w → (o : Option Of) → station_at w d ≡ o → IsWorking (cut_by (told_removed w d) d o)
  removes_works c w d (ordered, at) is o there = by o there
    where
      told : WorldState
      told = told_removed w d

      so : Orderly told
      so = beside_open ordered at (deed.removes d) (λ q. refl) (λ q. refl) tt

      by : (o : Option Of) → station_at told d ≡ o → IsWorking (cut_by told d o)
      by None there = working_deed (deed.removes d) is
      by (Some s) there =
          let on = (so.held).on d s there in
          let new : Of = (station.remove s (device_cut s.device).state).0 in
          working_station told.hands told d s new there
          (works_by told.deeds d NoKey (channel_of told) s new (removed (IsJobOf Fine told.deeds d) (channel_of told) s on (device_cut s.device).state (cuts_off s.device on.fit) (cut_fits s.device on.fit)))
          (working_deed (deed.removes d) is)

  took : (s after : Of) (job : Job) → station.take s ≡ (after, given.Job job) → Has job s.waiting
  took s after job made = by s.ended s.waiting refl made
    where
      by : (b : Bool) (jobs : List Job) → s.waiting ≡ jobs → (if b then (s, given.Over) else station.take_first s jobs) ≡ (after, given.Job job) → Has job s.waiting
      by true jobs e made = let over : given.Over ≡ given.Job job = ap (λ (r : Of × Given). r.1) made in absurd (cc (over))
      by false [] e made = let nothing : given.Nothing ≡ given.Job job = ap (λ (r : Of × Given). r.1) made in absurd (cc (nothing))
      by false (j ∷ jobs) e made =
          let one : given.Job j ≡ given.Job job = ap (λ (r : Of × Given). r.1) made in
          let same : j ≡ job = cc in
          subst (λ (ws : List Job). Has job ws) (sym e) (inl (sym same))

  -- ---- each part, and every run

  module _ (lines : List NumberedLine) (starves : Key → Bool) where
    -- what was read before a part, and by a message that it hears, is read still
    abbrev read_before : WorldState → Part → List Deed
    read_before w (client_hears_one m rest) = client_reads w.channels m ∷ w.deeds
    read_before w p = w.deeds

    part_grown : (w : WorldState) (p : Part) → Grown (read_before w p) (done starves w p).deeds
    part_grown w (accepts a asked named t number) = grown_deed (deed.submits a named asked.op) w.deeds
    part_grown w (refuses a asked cause) = grown_not w.deeds
    part_grown w (hands_out a number t gave None) = grown_deed (deed.takes number) w.deeds
    part_grown w (hands_out a number t gave (Some asked)) = grown_deed (deed.takes number) w.deeds
    part_grown w (host_sends_one m) = grown_deed (deed.host_writes w.channels m) w.deeds
    part_grown w (host_gets n) = grown_not w.deeds
    part_grown w host_keeps_part = grown_not w.deeds
    part_grown w (host_hears_one m rest) = grown_deed (deed.host_reads w.channels m) w.deeds
    part_grown w (tells_one n) = grown_deed (deed.tells n) w.deeds
    part_grown w begins = λ c k r read. grown_deed (deed.host_begins (w.channels + 1)) (fold refreshing w (map (λ (e : ℕ × PrinterNames). e.0) w.printers)).deeds c k r (grown_inside w _ (all_refreshed_inside (map (λ (e : ℕ × PrinterNames). e.0) w.printers) w) c k r read)
    part_grown w ends = λ c k r read. grown_inside w _ (all_dropped_inside (map (λ (e : ℕ × Of). e.0) w.stations) w) c k r read
    part_grown w (client_sends_one x o) = grown_deed (deed_on w.channels o) w.deeds
    part_grown w (client_gets n) = grown_not w.deeds
    part_grown w client_keeps_part = grown_not w.deeds
    part_grown w (client_hears_one m rest) =
        let x : WorldState = record w { to_client = (handling_by w.to_client (Some (m, rest))).0 } in grown_inside (with_deed x (client_reads w.channels m)) (client_hears x m) (hears_inside x m)
    part_grown w (tries_one k) = grown_inside (record w { kept = None }) _ (put_inside (record w { kept = None }) k.device k.job)
    part_grown w (collects_one d s after x) = grown_inside w _ (stationed w d after)
    part_grown w (takes_one d hand s after job) = grown_inside w _ (stationed w d after)
    part_grown w (applies_one hand d job o) = grown_inside w _ (applied_inside starves w hand d job o)
    part_grown w (removes_one d o) = grown_inside w _ (removed_inside w d o)
    part_grown w (adds_one d names o) = grown_inside w _ (added_inside w d names o)
    part_grown w (queues_one a) = grown_not w.deeds
    part_grown w (idle_one number) = grown_not w.deeds
    part_grown w draws_one = grown_not w.deeds

    -- so what is read after a part was, or is then
    part_later : (w : WorldState) (p : Part) → Grown w.deeds (done starves w p).deeds
    part_later w (client_hears_one m rest) = λ c k r read. part_grown w (client_hears_one m rest) c k r (grown_deed (client_reads w.channels m) w.deeds c k r read)
    part_later w p = part_grown w p

    part_works : (w : WorldState) (p : Part) → MayBe lines starves w p → Orderly w → IsHandledIn w → AreFine Fine (done starves w p).deeds → IsWorking w → IsWorking (done starves w p)
    part_works w (accepts a asked named t number) may ordered handled fines is = working_deed (deed.submits a named asked.op) is
    part_works w (refuses a asked cause) may ordered handled fines is = is
    part_works w (hands_out a number t gave None) may ordered handled fines is = working_deed (deed.takes number) is
    part_works w (hands_out a number t gave (Some asked)) may ordered handled fines is = working_deed (deed.takes number) is
    part_works w (host_sends_one m) some ordered handled fines is = working_deed (deed.host_writes w.channels m) is
    part_works w (host_gets n) can ordered handled fines is = is
    part_works w host_keeps_part none ordered handled fines is = is
    part_works w (host_hears_one m rest) some ordered handled fines is = working_deed (deed.host_reads w.channels m) is
    part_works w (tells_one n) may ordered handled fines is = working_deed (deed.tells n) is
    part_works w begins can ordered handled fines is =
        let ids : List ℕ = map (λ (e : ℕ × PrinterNames). e.0) w.printers in
        subst (λ (x : WorldState). IsWorking (begun_on w x)) (sym (all_refreshed ids w)) (working_deed (deed.host_begins (w.channels + 1)) is)
    part_works w ends can ordered handled fines is =
        let ids : List ℕ = map (λ (e : ℕ × Of). e.0) w.stations in
        let cut : WorldState = fold dropping w ids in
        let first : Cuts w.hands w = record { working = is; fit = λ d s has. ((ordered.held).on d s has).fit } in
        let hands : cut.hands ≡ w.hands = ap (λ (x : WorldState). x.hands) (all_dropped ids w w (record { alone = refl; still = still_not w.stations w.deeds })).alone in
        subst (λ (hs : List (Option (ℕ × Job))). AreWorking Fine Good devices cut.stations hs (deed.host_ends cut.channels ∷ cut.deeds)) (sym hands) (working_deed (deed.host_ends cut.channels) (all_cut ids w.hands w first).working)
    part_works w (client_sends_one x o) made ordered handled fines is = working_deed (deed_on w.channels o) is
    part_works w (client_gets n) may ordered handled fines is = is
    part_works w client_keeps_part none ordered handled fines is = is
    part_works w (client_hears_one m rest) (kept, some) ordered handled fines is =
        let (c, at) = hears_open w ordered handled m rest some in hears_works c (record w { to_client = (handling_by w.to_client (Some (m, rest))).0 }) m ordered at kept (λ x k r read. fines x k r (part_grown w (client_hears_one m rest) x k r read)) is
    part_works w (tries_one k) some ordered handled fines is =
        let (c, at) = open_or_shut ((w.side).table).channel (λ none. cc ((ordered.shut none).kept_none, some)) in
        putting_works c (record w { kept = None }) k.device k.job (λ x i r read. fines x i r (part_grown w (tries_one k) x i r read)) (while_open ordered at (λ l none. absurd (cc (none))), at) (ordered.kept_next k some) is
    part_works w (collects_one d s after x) (reached, idle, there, made) ordered handled fines is =
        working_deed (deed.completes x.key (completion_message d x)) (working_station w.hands w d s after there (works_by w.deeds d NoKey (channel_of w) s after (subst (λ (r : Of × Option Completion). Goes NoKey (IsJobOf Fine w.deeds d) (channel_of w) s r.0) made (collected (IsJobOf Fine w.deeds d) (channel_of w) s ((ordered.held).on d s there)))) is)
    part_works w (takes_one d hand s after job) (free, there, made) ordered handled fines is =
        let goes : Goes NoKey (IsJobOf Fine w.deeds d) (channel_of w) s after = subst (λ (r : Of × Given). Goes NoKey (IsJobOf Fine w.deeds d) (channel_of w) s r.0) made (taken (IsJobOf Fine w.deeds d) (channel_of w) s ((ordered.held).on d s there)) in
        let left : WorldState = with_station w d after in
        let own : IsJobOf Fine left.deeds d job = job_grown Fine w.deeds left.deeds (grown_station w d s after there goes.more goes.longer) d job (is.waiting d s there job (took s after job made)) in
        handed left.stations w.hands left.deeds (hand - 1) hand (Some (d, job)) (λ q j e. subst (λ (x : ℕ × Job). IsJobOf Fine left.deeds x.0 x.1) (let same : (d, job) ≡ (q, j) = cc in same) own)
        (working_station w.hands w d s after there (works_by w.deeds d NoKey (channel_of w) s after goes) is)
    part_works w (applies_one hand d job None) (holds, there) ordered handled fines is = handed w.stations w.hands w.deeds (hand - 1) hand None (λ q j e. absurd (cc (e))) is
    part_works w (applies_one hand d job (Some s)) (holds, there) ordered handled fines is =
        let new : Of = (station.apply s job w.moment (came_of starves w job s.device)).0 in
        let goes : Goes NoKey (IsJobOf Fine w.deeds d) (channel_of w) s new = given_back (IsJobOf Fine w.deeds d) starves w s job (is.held d job (in_hand w hand d job holds)) ((ordered.held).on d s there) in
        let left : WorldState = with_station w d new in
        handed left.stations w.hands left.deeds (hand - 1) hand None (λ q j e. absurd (cc (e))) (working_station w.hands w d s new there (works_by w.deeds d NoKey (channel_of w) s new goes) is)
    part_works w (removes_one d o) (can, there) ordered handled fines is =
        let (c, at) = opened ((w.side).table).channel (left (is_channel_open w) _ (left (is_channel_open w && _) _ can)) in removes_works c w d (ordered, at) is o there
    part_works w (adds_one d None o) (can, printers, there) ordered handled fines is =
        let (c, at) = opened ((w.side).table).channel (left (is_channel_open w) _ (left (is_channel_open w && _) _ can)) in
        announced_works (told_added w d) d o there (beside_open ordered at (deed.adds d) (λ q. refl) (λ q. refl) tt) (working_deed (deed.adds d) is)
    part_works w (adds_one d (Some names) o) (can, printers, there) ordered handled fines is =
        let (c, at) = opened ((w.side).table).channel (left (is_channel_open w) _ (left (is_channel_open w && _) _ can)) in
        announced_works (told_added (refreshed_by w d (Some names)) d) d o there (beside_open ordered at (deed.adds d) (λ q. refl) (λ q. refl) tt) (working_deed (deed.adds d) is)
    part_works w (queues_one a) may ordered handled fines is = is
    part_works w (idle_one number) may ordered handled fines is = is
    part_works w draws_one may ordered handled fines is = is

-- ---- the beginning

declared_at : (es : List (ℕ × Declared)) (d : ℕ) (s : Of) → lookup (is_at (nat_cmp d)) (map station_of es) ≡ Some s → (x : Declared) × (lookup (is_at (nat_cmp d)) es ≡ Some x) × (s ≡ new_station x.state)
declared_at [] d s has = absurd (cc (has))
declared_at (e ∷ es) d s has = by (is_at (nat_cmp d) e.0) has (declared_at es d s)
  where
    by : (b : Bool) → cond b (Some (new_station (e.1).state)) (lookup (is_at (nat_cmp d)) (map station_of es)) ≡ Some s
        → (lookup (is_at (nat_cmp d)) (map station_of es) ≡ Some s → (x : Declared) × (lookup (is_at (nat_cmp d)) es ≡ Some x) × (s ≡ new_station x.state))
        → (x : Declared) × (cond b (Some e.1) (lookup (is_at (nat_cmp d)) es) ≡ Some x) × (s ≡ new_station x.state)
    by true has later = let same : new_station (e.1).state ≡ s = cc in (e.1, refl, sym same)
    by false has later = later has

no_hand : (n d : ℕ) (job : Job) → Has {A = Option (ℕ × Job)} (Some (d, job)) (replicate n None) → ⊥
no_hand zero d job has = has
no_hand (suc n) d job (inl same) = cc (same)
no_hand (suc n) d job (inr there) = no_hand n d job there

module _ (Fine : Request → Type 0) (Good : Reply → Type 0) (lost : Good cancellation)
    (good : (r : Request) (s : SessionDevice) (planned : Planned) (moment : ℕ) (came : Stepped SessionDevice) → Fine r → planned.job.op ≡ r.op → device_runs s planned moment came.answer came.ends came.state → IsGood Good came)
    (lines : List NumberedLine) where
  abbrev devices : List (ℕ × Declared)
  devices = declared_devices (bare_lines lines)

  begins_working : IsWorking Fine Good lost good devices (world_of lines)
  begins_working = subst (IsWorking Fine Good lost good devices) (sym (begun_by lines _ (lines_begin lines))) (record {
    led = λ d s has. let (x, at, same) = declared_at devices d s has in (x, at, record { calls = []; steps = same; own = tt });
    waiting = λ d s has job among. let (x, at, same) = declared_at devices d s has in absurd (subst (λ (y : Of). Has job y.waiting) same among);
    owned = λ d s has. let (x, at, same) = declared_at devices d s has in subst (λ (y : Of). OwnsAll (IsIdOf Fine [] d) (IsKindOf Fine [] d) Good y.taken y.parked y.ready) (sym same)
        (record { taken = λ t none. absurd none; parked = λ p none. absurd none; ready = λ y none. absurd none });
    held = λ d job among. absurd (no_hand _ d job among);
  })

  pub behind_working : (starves : Key → Bool) (w : WorldState) → AreFit devices → IsBehind lines starves w → AreFine Fine w.deeds → IsWorking Fine Good lost good devices w
  behind_working starves w fit behind =
      by_parts lines starves (λ x. AreFine Fine x.deeds → IsWorking Fine Good lost good devices x) (λ fines. begins_working)
      (λ x p before after may is fines. let both = behind_orderly lines starves x fit before in
      part_works Fine Good lost good devices lines starves x p may both.0 both.1 fines (is (λ c k r read. fines c k r (part_later Fine Good lost good devices lines starves x p c k r read)))) w behind

-- ---- so each station is tied to its journal

by_step : IsRunBy device_step device_cut device_runs device_parked device_cuts
by_step = record { runs = λ old planned moment answer ends new did. did; cuts = λ old new did. did; cancels = cancels }
  where
    cancels : (s : SessionDevice) → Cancels device_step device_cut device_parked s
    cancels (session.Drive s) = let is = cut_cancels s in record { ends = is.ends; none = is.none }
    cancels (session.Printer s) = record { ends = refl; none = refl }

runs_own : (deeds : List Deed) (calls : List StationCall) → AllByRecursion (RunsRead deeds) calls → AllByRecursion (RunsOwn (request_read deeds)) calls
runs_own deeds [] all = tt
runs_own deeds (call ∷ calls) all = (one call all.0, runs_own deeds calls all.1)
  where
    one : (c : StationCall) → RunsRead deeds c → RunsOwn (request_read deeds) c
    one (applies planned moment answer) (r, read, file, o) = λ did.
        let same : request_read deeds planned.job.key ≡ r = ap (λ (x : Option Request). unwrap_or x no_request) read in
        (file ∙ ap (λ (x : Request). x.file) (sym same), o ∙ ap (λ (x : Request). x.op) (sym same))
    one c is = tt

pub station_tied : (Fine : Request → Type 0) (Good : Reply → Type 0) (devices : List (ℕ × Declared)) (w : WorldState) → AreFit devices → AreWorking Fine Good devices w.stations w.hands w.deeds → (d : ℕ) (s : Of) → station_at w d ≡ Some s
    → (x : Declared) × (lookup (is_at (nat_cmp d)) devices ≡ Some x) × IsTiedTo w.deeds x s
station_tied Fine Good devices w fit is d s there =
    let (x, at, led) = is.led d s there in
    (x, at, all_tied device_step device_cut (request_read w.deeds) device_runs device_parked device_cuts by_step x.state led.calls s (fit_at devices d x fit at).1 (runs_own w.deeds led.calls led.own) led.steps)
