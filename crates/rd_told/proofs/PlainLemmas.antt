-- Each completion that a client wrote, or is to write, is what a writer makes of its reply.
use Rattle.std.proofs.Common.{eq-eqb, cond, Bool, List, [], ap, false, inl, inr, map, refl, reverse, subst, sym, true, ℕ, ◌++◌, ◌+◌, ◌<◌, ◌∙◌, ◌∷◌, ◌≡◌, ◌⊎◌}
use Rattle.std.specs.Prelude.{Contains, Err, None, Ok, Option, Result, Some, fold, if◌then◌else◌}
use Rattle.std.specs.Option.{option_map_or}
use Rattle.rd_client.specs.Core as client
use Rattle.rd_client.specs.declared.heard.Heard.TheVariants as heard
use Rattle.rd_core.specs.Core as core
use Rattle.rd_station.specs.Station as station
use Rattle.rd_station.specs.declared.refusals.PutWhy.TheVariants as why
use Rattle.rd_deeds.specs.Talk as deed
use Rattle.rd_base.specs.Statuses.{insufficient_resources, no_such_device}
use Rattle.rd_base.specs.declared.journal.Item.{Item}
use Rattle.rd_base.specs.declared.journal.Item.TheVariants.{Cancelled, Sent}
use Rattle.rd_base.specs.declared.journal.Key.{Key}
use Rattle.rd_base.specs.declared.status.Status.{Status}
use Rattle.rd_client.specs.Core.{ClientCoreState, Outgoing, client_begin, client_hear, job_of, listed, listed_one, plain}
use Rattle.rd_client.specs.declared.heard.Heard.{Heard}
use Rattle.rd_devices.specs.DeviceList.{list_bytes}
use Rattle.rd_devices.specs.Removal.{removal_bytes}
use Rattle.rd_devices.specs.declared.list.Announce.{Announce}
use Rattle.rd_drive.specs.declared.plan.Job.{Job}
use Rattle.rd_hello.specs.declared.client.ClientState.{ClientState}
use Rattle.rd_hello.specs.declared.end_fault.EndFault.{EndFault}
use Rattle.rd_irp.specs.declared.request.Request.{Request}
use Rattle.rd_joined.proofs.JournalsAskingLemmas.{HeardAs, hears}
use Rattle.rd_joined.proofs.JournalsChannelLemmas.{all_refreshed, begun_on}
use Rattle.rd_joined.proofs.JournalsClientLemmas.{next_job, read_by}
use Rattle.rd_joined.proofs.JournalsRunLemmas.{IsHandledIn, behind_orderly, hears_open, opened}
use Rattle.rd_joined.proofs.JournalsWritingLemmas.{AddsOwn, adds_own, hear_adds, list_own, removal_own}
use Rattle.rd_joined.specs.JournalsOrderly.{IsNext, Orderly}
use Rattle.rd_joined.specs.JournalsStanding.{IsOut, IsStanding, IsUnserved, pending_of}
use Rattle.rd_joined.specs.JournalsStations.{AreFit}
use Rattle.rd_joined.proofs.RunsParts.{IsBehind, MayBe, Part, accepts, adds_one, announced_by, applies_one, begins, by_parts, client_gets, client_hears_one, client_keeps_part, client_sends_one, collects_one, cut_by, done, draws_one, ends, hands_out, host_gets, host_hears_one, host_keeps_part, host_sends_one, idle_one, queues_one, reached_behind, refreshed_by, refuses, removes_one, takes_one, tells_one, told_added, told_removed, tries_one}
use Rattle.rd_joined.specs.RunsMoves.{Reached}
use Rattle.rd_script.specs.declared.line.NumberedLine.{NumberedLine}
use Rattle.rd_station.proofs.Members.{has_append, to_contains}
use Rattle.rd_station.specs.Station.{StationState, collect_first, held, new_station, put_refusal, put_unless}
use Rattle.rd_station.specs.declared.answers.Completion.{Completion}
use Rattle.rd_station.specs.declared.answers.Given.{Given}
use Rattle.rd_station.specs.declared.refusals.PutWhy.{PutWhy}
use Rattle.rd_world.proofs.BeginningLemmas.{begun_by}
use Rattle.rd_deeds.proofs.Journals.{contains_has}
use Rattle.rd_world.proofs.OpeningLemmas.{lines_begin}
use Rattle.rd_declared.specs.Devices.{Declared, PrinterNames, device_cut, printer_data}
use Rattle.rd_world.specs.Events.{came_of, client_sends_first, client_sends_next, completion_message, connects, cutting, dropping}
use Rattle.rd_world.specs.Hearing.{after_opening, announcing, answers_directly, client_hears, heard_by_client, is_device_told, put_at, put_by, putting}
use Rattle.rd_declared.specs.Declaring.{bare_lines, declared_devices}
use Rattle.rd_world.specs.Run.{applications_of, new_world, world_of}
use Rattle.rd_deeds.specs.Talk.{Deed, EachAfter, Has, client_read, client_reads, completes, is_completion_of, is_request, journal, request_at, tells, stores, removes, adds, submits, takes, host_begins, host_ends, host_writes, host_reads, client_writes}
use Rattle.rd_world.specs.World.{ApplicationState, WorldState, client_sends, handling_by, station_at, with_station}
use Rattle.rd_declared.specs.declared.device.SessionDevice.{SessionDevice}
use Rattle.std.specs.List.{cons_option}
use Rattle.rd_drive.specs.Ranged.{IsReplyInRange}
use Rattle.rd_station.specs.Station.{is_key}
use Rattle.rd_joined.specs.RunsPremises.{RunPremises}
use Rattle.rd_deeds.specs.Told.{came}
use Rattle.rd_joined.proofs.JournalsHeldLemmas.{stored_deeds}
use Rattle.rd_joined.specs.JournalsJobs.{AreFine, FitsCompletion}
use Rattle.rd_drive.specs.Outcome.{fault}
use Rattle.std.proofs.Common.{lit<, ◌^◌}
use Rattle.std.proofs.lemmas.List.{reverse-append}
use Rattle.std.specs.Option.{unwrap_or}
use Rattle.std.specs.Map.{lookup}
use Rattle.std.specs.Ordering.{nat_cmp}
use Rattle.std.specs.BTreeMap.{is_at}
use Rattle.std.proofs.lemmas.List.Elements.{All-contains}
use Rattle.rd_drive.specs.Replies.{IsAnswer, KeyedReply, cancellation, replies_by}
use Rattle.rd_irp.specs.declared.completion.Reply.{Reply}
use Rattle.rd_irp.specs.Fits.{BodyFits, kind_of}
use Rattle.rd_joined.proofs.RunsInsides.{AreOwn, IsInside, IsOwn, all_dropped_inside, hears_inside, stationed}
use Rattle.rd_declared.specs.Devices.{device_step}
use Rattle.rd_declared.specs.Replies.{no_request, replies_read, request_read}
use Rattle.rd_deeds.specs.Told.{CompletesWith}
use Rattle.rd_joined.specs.JournalsJobs.{AreWorking, IsCompletionOf}
use Rattle.rd_told.specs.Plain.{ArePlain, ArePlainOut, CompletesPlainly, IsMade}
use Rattle.rd_irp.specs.Written.{completion_bytes}
use Rattle.rd_deeds.proofs.TestedAnswers.{same_reply}
use Rattle.rd_world.specs.Session.{IsPlain}
use Rattle.rd_joined.proofs.JournalsCameLemmas.{fines, never_came, was_ready}
use Rattle.rd_joined.proofs.JournalsCompletionLemmas.{completes as completes_with, lost_ranged, ready_completes, runs_good}
use Rattle.rd_joined.proofs.JournalsServingLemmas.{behind_standing, came_is_named}
use Rattle.rd_joined.proofs.JournalsWorkLemmas.{Grown, behind_working, grown_deed, grown_inside, grown_more, station_tied}

abbrev Of : Type 0
Of = StationState SessionDevice

-- ---- what keeps it

made_grown : (deeds deeds' : List Deed) → Grown deeds deeds' → (key : Key) (m : List ℕ) → IsMade deeds key m → IsMade deeds' key m
made_grown deeds deeds' grown key m is = record { request = is.request; reply = is.reply; read = grown key.channel key.index is.request is.read; completes = is.completes; written = is.written }

module _ {outbox : List Outgoing} {deeds : List Deed} (is : ArePlain outbox deeds) where
  plain_deed : (y : Deed) → CompletesPlainly deeds y → ArePlain outbox (y ∷ deeds)
  plain_deed y own = record { out = λ o has key e. made_grown deeds (y ∷ deeds) (grown_deed y deeds) key o.message (is.out o has key e); each = (own, is.each) }

  plain_more : (o : Outgoing) → ((key : Key) → o.answers ≡ Some key → IsMade deeds key o.message) → ArePlain (outbox ++ o ∷ []) deeds
  plain_more o own = record {
    out = λ x has key e. elim (has_append x outbox (o ∷ []) has) [
      | inl before ↦ is.out x before key e
      | inr last ↦ elim last [ inl same ↦ subst (λ (y : Outgoing). IsMade deeds key y.message) (sym same) (own key (ap (λ (y : Outgoing). y.answers) (sym same) ∙ e)) | inr none ↦ absurd none ]
    ];
    each = is.each;
  }

  plain_own : {grown : List Outgoing} → AddsOwn outbox grown → ArePlain grown deeds
  plain_own (more, same, own) = record {
    out = λ x has key e. elim (has_append x outbox more (subst (Has x) same has)) [ inl before ↦ is.out x before key e | inr later ↦ absurd (cc ((own x later).0, e)) ];
    each = is.each;
  }

  plain_fewer : (fewer : List Outgoing) → ((o : Outgoing) → Has o fewer → Has o outbox) → ArePlain fewer deeds
  plain_fewer fewer less = record { out = λ o has. is.out o (less o has); each = is.each }

own_says : (deeds : List Deed) (y : Deed) → IsOwn y → CompletesPlainly deeds y
own_says deeds (stores d x) own = tt
own_says deeds (removes d) own = tt
own_says deeds (adds d) own = tt
own_says deeds (submits a n o) own = absurd own
own_says deeds (takes n) own = absurd own
own_says deeds (tells n) own = absurd own
own_says deeds (host_begins c) own = absurd own
own_says deeds (host_ends c) own = absurd own
own_says deeds (host_writes c m) own = absurd own
own_says deeds (host_reads c m) own = absurd own
own_says deeds (client_reads c m) own = absurd own
own_says deeds (client_writes c m) own = absurd own
own_says deeds (completes k m) own = absurd own

plain_deeds : {outbox : List Outgoing} (more deeds : List Deed) → AreOwn more → ArePlain outbox deeds → ArePlain outbox (more ++ deeds)
plain_deeds [] deeds own is = is
plain_deeds (y ∷ more) deeds own is = plain_deed (plain_deeds more deeds own.1 is) y (own_says (more ++ deeds) y own.0)

plain_inside : {outbox : List Outgoing} (w v : WorldState) → IsInside w v → ArePlain outbox w.deeds → ArePlain outbox v.deeds
plain_inside {outbox = out} w v inside is = subst (ArePlain out) (sym inside.deeds) (plain_deeds inside.more w.deeds inside.own is)

module _ where
  -- ---- a job comes

  directly : (r : Request) (st : Status) → FitsCompletion r → st.0 < 2 ^ 32 → BodyFits (kind_of r.op) st (fault st).body → (d : ℕ) (job : Job) (c index : ℕ) → d ≡ r.device → job ≡ job_of r c index → CompletesWith r (fault st) (client.direct_bytes job d st)
  directly r st room small fits d job c index device is =
      subst (λ (x : ℕ × Job). CompletesWith r (fault st) (client.direct_bytes x.1 x.0 st)) (λ i. (sym device i, sym is i)) (completes_with r (fault st) room (small, tt) fits)

  direct_plain : (w : WorldState) (d : ℕ) (job : Job) (st : Status) → st.0 < 2 ^ 32 → ((r : Request) → BodyFits (kind_of r.op) st (fault st).body) → AreFine FitsCompletion w.deeds → IsNext w.stations w.channels (w.client).asked w.deeds d job → ArePlainOut w
      → ArePlainOut (answers_directly w d job st)
  direct_plain w d job st small fits fines next is =
      plain_more is (record { message = client.direct_bytes job d st; answers = Some job.key }) (λ key e. let same : job.key ≡ key = cc in subst (λ (k : Key). IsMade w.deeds k (client.direct_bytes job d st)) same (record {
        request = next.request;
        reply = fault st;
        read = ap (λ (n : ℕ). request_at (client_read n w.deeds) job.key.index) next.channel ∙ next.read;
        completes = directly next.request st (fines w.channels job.key.index next.request next.read) small (fits next.request) d job w.channels job.key.index next.device_is next.job_is;
        written = made next.request d job w.channels job.key.index next.device_is next.job_is;
      }))
    where
      made : (r : Request) (d : ℕ) (job : Job) (c index : ℕ) → d ≡ r.device → job ≡ job_of r c index
          → client.direct_bytes job d st ≡ completion_bytes (kind_of r.op) (record { device = r.device; completion = r.completion; status = st }) (fault st).body
      made r d job c index device is = λ i. client.direct_bytes (is i) (device i) st

  putting_plain : (w : WorldState) (d : ℕ) (job : Job) → AreFine FitsCompletion w.deeds → IsNext w.stations w.channels (w.client).asked w.deeds d job → ArePlainOut w → ArePlainOut (putting w d job)
  putting_plain w d job fines next is = at (station_at w d)
    where
      gone : ArePlainOut (answers_directly w d job no_such_device)
      gone = direct_plain w d job no_such_device (lit< tt) (λ r. (refl, tt)) fines next is

      short : ArePlainOut (answers_directly w d job insufficient_resources)
      short = direct_plain w d job insufficient_resources (lit< tt) (λ r. (refl, tt)) fines next is

      told : (b : Bool) → ArePlainOut (answers_directly w d job (if b then insufficient_resources else no_such_device))
      told true = short
      told false = gone

      here : (s : Of) (refusal : Option PutWhy) → ArePlainOut (put_by w d job (put_unless s job refusal))
      here s None = plain_inside w (with_station w d (put_unless s job None).0) (stationed w d (put_unless s job None).0) is
      here s (Some why.Gone) = told (is_device_told w d)
      here s (Some (why.Full count)) = is
      here s (Some (why.Worn count)) = short
      here s (Some (why.Duplicate key)) = is
      here s (Some why.Memory) = is

      at : (o : Option Of) → ArePlainOut (put_at w d job o)
      at None = gone
      at (Some s) = here s (put_refusal s job)

  -- ---- a message is heard

  announced_plain : (w : WorldState) (d : ℕ) (o : Option Of) → ArePlainOut w → ArePlainOut (announced_by w d o)
  announced_plain w d None is = is
  announced_plain w d (Some s) is = plain_inside w (with_station w d (station.announce s).0) (stationed w d (station.announce s).0) is

  all_announced : (list : List Announce) (w : WorldState) → ArePlainOut w → ArePlainOut (fold (λ x (a : Announce). announcing x a.id) w list)
  all_announced [] w is = is
  all_announced (a ∷ list) w is = all_announced list (announcing w a.id) (announced_plain w a.id (station_at w a.id) is)

  hears_plain : (c : ℕ) (w : WorldState) (m : List ℕ) → Orderly w → ((w.side).table).channel ≡ Some c → w.kept ≡ None → AreFine FitsCompletion (client_reads w.channels m ∷ w.deeds) → ArePlainOut w → ArePlainOut (client_hears w m)
  hears_plain c w m ordered opened free fines is = by (client_hear w.client m) (hears w.client m) (hear_adds w.client m)
    where
      read : (x : ClientCoreState) → AddsOwn ((w.client).core).outbox (x.core).outbox → ArePlainOut (read_by c w m ordered opened free x)
      read x grew = plain_own (plain_deed is (client_reads w.channels m) tt) grew

      opening : (shake : ClientState) (x : WorldState) → ArePlainOut x → ArePlainOut (after_opening shake x)
      opening shake x spelled = go (client.becomes_ready shake ((x.client).core).shake)
        where
          go : (b : Bool) → ArePlainOut (if b then fold (λ y (a : Announce). announcing y a.id) x (listed x.client) else x)
          go true = all_announced (listed x.client) x spelled
          go false = spelled

      by : (r : ClientCoreState × Result Heard EndFault) → HeardAs w.client m r → AddsOwn ((w.client).core).outbox ((r.0).core).outbox → ArePlainOut (heard_by_client ((w.client).core).shake (read_by c w m ordered opened free r.0) r.1)
      by (x, Err wrong) heard grew = read x grew
      by (x, Ok (heard.Print n)) heard grew = read x grew
      by (x, Ok heard.Nothing) heard grew = opening ((w.client).core).shake (read_by c w m ordered opened free x) (read x grew)
      by (x, Ok (heard.Ask device job)) (same, asked, one, faulty, fine, r, spelled, named, is_job) grew =
          let next : IsNext w.stations w.channels x.asked (client_reads w.channels m ∷ w.deeds) device job =
          subst (λ (y : ℕ × Job). IsNext w.stations w.channels x.asked (client_reads w.channels m ∷ w.deeds) y.0 y.1) (λ i. (sym named i, sym is_job i)) (next_job c w m ordered opened free x r asked spelled one fine) in
          putting_plain (read_by c w m ordered opened free x) device job fines next (read x grew)

  -- ---- channels

  connects_plain : (w : WorldState) → ArePlainOut w → ArePlainOut (connects w)
  connects_plain w is = subst (λ (x : WorldState). ArePlainOut (begun_on w x)) (sym (all_refreshed (map (λ (e : ℕ × PrinterNames). e.0) w.printers) w)) so
    where
      so : ArePlain [] (deed.host_begins (w.channels + 1) ∷ w.deeds)
      so = plain_deed (plain_fewer is [] (λ o has. absurd has)) (deed.host_begins (w.channels + 1)) tt

  cutting_plain : (w : WorldState) → ArePlainOut w → ArePlainOut (cutting w)
  cutting_plain w is =
      let cut : WorldState = fold dropping w (map (λ (e : ℕ × Of). e.0) w.stations) in
      plain_deed (plain_inside w cut (all_dropped_inside (map (λ (e : ℕ × Of). e.0) w.stations) w) (plain_fewer is [] (λ o has. absurd has))) (deed.host_ends cut.channels) tt

  -- ---- a client sends

  client_sends_plain : (w : WorldState) → ArePlainOut w → ArePlainOut (client_sends_next w)
  client_sends_plain w is = by ((w.client).core).outbox refl
    where
      sent : (o : Outgoing) (others : List Outgoing) → ((w.client).core).outbox ≡ o ∷ others → (answers : Option Key) → o.answers ≡ answers
          → ArePlain others (option_map_or (λ key. deed.completes key o.message) answers (deed.client_writes w.channels o.message) ∷ w.deeds)
      sent o others e answers a = by answers a
        where
          less : ArePlain others w.deeds
          less = plain_fewer is others (λ x has. subst (Has x) (sym e) (inr has))

          by : (x : Option Key) → o.answers ≡ x → ArePlain others (option_map_or (λ key. deed.completes key o.message) x (deed.client_writes w.channels o.message) ∷ w.deeds)
          by None same = plain_deed less (deed.client_writes w.channels o.message) tt
          by (Some key) same = plain_deed less (deed.completes key o.message) (is.out o (subst (Has o) (sym e) (inl refl)) key same)

      by : (messages : List Outgoing) → ((w.client).core).outbox ≡ messages → let r = core.send_from (w.client).core messages in ArePlainOut (client_sends_first w (record w.client { core = r.0 }, r.1))
      by [] e = is
      by (o ∷ others) e = sent o others e o.answers refl

  collects_plain : (w : WorldState) (d : ℕ) (s after : Of) (x : Completion) → IsMade w.deeds x.key (completion_message d x) → ArePlainOut w
      → ArePlainOut (client_sends (with_station w d after) (completes x.key (completion_message d x)) (completion_message d x))
  collects_plain w d s after x made is =
      let left : WorldState = with_station w d after in
      let inside = stationed w d after in
      plain_deed (plain_inside w left inside is) (completes x.key (completion_message d x)) (made_grown w.deeds left.deeds (grown_inside w left inside) x.key (completion_message d x) made)

  -- ---- devices go and come

  removes_plain : (w : WorldState) (d : ℕ) (o : Option Of) → ArePlainOut w → ArePlainOut (cut_by (told_removed w d) d o)
  removes_plain w d o is = by o
    where
      told : ArePlainOut (told_removed w d)
      told = plain_own (plain_deed is (deed.removes d) tt) (adds_own ((w.client).core).outbox (removal_bytes (d ∷ [])) (removal_own (d ∷ [])))

      by : (o : Option Of) → ArePlainOut (cut_by (told_removed w d) d o)
      by None = told
      by (Some s) = let new : Of = (station.remove s (device_cut s.device).state).0 in plain_inside (told_removed w d) (with_station (told_removed w d) d new) (stationed (told_removed w d) d new) told

  adds_plain : (w : WorldState) (d : ℕ) (names : Option PrinterNames) (o : Option Of) → ArePlainOut w → ArePlainOut (announced_by (told_added (refreshed_by w d names) d) d o)
  adds_plain w d None o is =
      announced_plain (told_added w d) d o (plain_own (plain_deed is (deed.adds d) tt) (adds_own ((w.client).core).outbox (list_bytes (listed_one w.client d)) (list_own (listed_one w.client d))))
  adds_plain w d (Some names) o is =
      let fresh : ClientCoreState = client.refresh w.client d (printer_data w.cache names) in
      announced_plain (told_added (refreshed_by w d (Some names)) d) d o
      (plain_own (plain_deed is (deed.adds d) tt) (adds_own ((w.client).core).outbox (list_bytes (listed_one fresh d)) (list_own (listed_one fresh d))))

-- ---- what is ready

ready_made : (devices : List (ℕ × Declared)) (w : WorldState) → Orderly w → AreWorking FitsCompletion IsReplyInRange devices w.stations w.hands w.deeds → (d : ℕ) (s : Of) → station_at w d ≡ Some s
    → (x : Completion) → Has x s.ready → IsMade w.deeds x.key (completion_message d x)
ready_made devices w ordered is d s there x has =
    let k = ((is.owned d s there).ready x has).0 in
    let done = ready_completes devices w ordered is d s there x has in
    let r : Request = k.of.request in
    let same : r ≡ done.request = (let both : Some r ≡ Some done.request = sym k.of.read ∙ done.read in cc) in
    record {
      request = r;
      reply = x.reply;
      read = k.of.read;
      completes = subst (λ (q : Request). CompletesWith q x.reply (completion_message d x)) (sym same) done.completes;
      written = λ i. completion_bytes (k.layout i) (record { device = sym k.of.device i; completion = k.of.id i; status = x.reply.status }) x.reply.body;
    }

-- ---- each part, and every run

module _ (lines : List NumberedLine) (starves : Key → Bool) (fit : AreFit (declared_devices (bare_lines lines))) (premises : RunPremises lines) where
  part_plain : (w : WorldState) (p : Part) → MayBe lines starves w p → IsBehind lines starves w → IsBehind lines starves (done starves w p) → Orderly w → IsHandledIn w → ArePlainOut w → ArePlainOut (done starves w p)
  part_plain w (accepts a asked named t number) may before after ordered handled is = plain_deed is (deed.submits a named asked.op) tt
  part_plain w (refuses a asked cause) may before after ordered handled is = is
  part_plain w (hands_out a number t had None) may before after ordered handled is = plain_deed is (deed.takes number) tt
  part_plain w (hands_out a number t had (Some asked)) may before after ordered handled is = plain_deed is (deed.takes number) tt
  part_plain w (host_sends_one m) may before after ordered handled is = plain_deed is (deed.host_writes w.channels m) tt
  part_plain w (host_gets n) may before after ordered handled is = is
  part_plain w host_keeps_part may before after ordered handled is = is
  part_plain w (host_hears_one m rest) may before after ordered handled is = plain_deed is (deed.host_reads w.channels m) tt
  part_plain w (tells_one n) may before after ordered handled is = plain_deed is (deed.tells n) tt
  part_plain w begins may before after ordered handled is = connects_plain w is
  part_plain w ends may before after ordered handled is = cutting_plain w is
  part_plain w (client_sends_one x o) made before after ordered handled is = subst (λ (r : ClientCoreState × Option Outgoing). ArePlainOut (client_sends_first w r)) made (client_sends_plain w is)
  part_plain w (client_gets n) may before after ordered handled is = is
  part_plain w client_keeps_part may before after ordered handled is = is
  part_plain w (client_hears_one m rest) (kept, some) before after ordered handled is =
      let (c, at) = hears_open w ordered handled m rest some in
      let x : WorldState = record w { to_client = (handling_by w.to_client (Some (m, rest))).0 } in
      let inside = hears_inside x m in
      let read : List Deed = client_reads w.channels m ∷ w.deeds in
      hears_plain c x m ordered at kept (λ n k r e. fines lines starves premises (done starves w (client_hears_one m rest)) after n k r
      (subst (λ (ds : List Deed). request_at (client_read n ds) k ≡ Some r) (sym inside.deeds) (grown_more inside.more read n k r e))) is
  part_plain w (tries_one k) some before after ordered handled is = putting_plain (record w { kept = None }) k.device k.job (fines lines starves premises w before) (ordered.kept_next k some) is
  part_plain w (collects_one d s after_it x) (reached, idle, there, made) before after ordered handled is =
      collects_plain w d s after_it x (ready_made (declared_devices (bare_lines lines)) w ordered (behind_working FitsCompletion IsReplyInRange lost_ranged runs_good lines starves w fit before (fines lines starves premises w before)) d s there x (was_ready s after_it x made)) is
  part_plain w (takes_one d hand s after_it job) may before after ordered handled is = plain_inside w (with_station w d after_it) (stationed w d after_it) is
  part_plain w (applies_one hand d job None) may before after ordered handled is = is
  part_plain w (applies_one hand d job (Some s)) may before after ordered handled is =
      let new : Of = (station.apply s job w.moment (came_of starves w job s.device)).0 in plain_inside w (with_station w d new) (stationed w d new) is
  part_plain w (removes_one d o) may before after ordered handled is = removes_plain w d o is
  part_plain w (adds_one d names o) may before after ordered handled is = adds_plain w d names o is
  part_plain w (queues_one a) may before after ordered handled is = is
  part_plain w (idle_one number) may before after ordered handled is = is
  part_plain w draws_one may before after ordered handled is = is

  begins_plain : ArePlainOut (world_of lines)
  begins_plain = subst (ArePlainOut) (sym (begun_by lines _ (lines_begin lines))) (first (declared_devices (bare_lines lines)) (applications_of (bare_lines lines)))
    where
      first : (es : List (ℕ × Declared)) (applications : List (ℕ × ApplicationState)) → ArePlainOut (new_world es applications)
      first es applications = record { out = λ o has. absurd has; each = tt }

  pub reached_plain : (w : WorldState) → Reached lines starves w → ArePlainOut w
  reached_plain w reached =
      by_parts lines starves (ArePlainOut) begins_plain
      (λ x p before after may is. let both = behind_orderly lines starves x fit before in part_plain x p may before after both.0 both.1 is) w (reached_behind lines starves w reached)

-- what was made for a request with one reply is what is made for it with each reply that it completes it with
plain_one : (deeds : List Deed) (y : Deed) → CompletesPlainly deeds y → IsPlain deeds y
plain_one deeds (completes key m) made = λ r reply read completed.
    let same : made.request ≡ r = (let both : Some made.request ≡ Some r = sym made.read ∙ read in cc) in
    let own : CompletesWith r made.reply m = subst (λ (q : Request). CompletesWith q made.reply m) same made.completes in
    let replied : reply ≡ made.reply = same_reply r made.reply reply m own completed in
    made.written ∙ λ i. completion_bytes (kind_of (same i).op) (record { device = (same i).device; completion = (same i).completion; status = (sym replied i).status }) (sym replied i).body
plain_one deeds (stores d x) made = tt
plain_one deeds (removes d) made = tt
plain_one deeds (adds d) made = tt
plain_one deeds (submits a n o) made = tt
plain_one deeds (takes n) made = tt
plain_one deeds (tells n) made = tt
plain_one deeds (host_begins c) made = tt
plain_one deeds (host_ends c) made = tt
plain_one deeds (host_writes c m) made = tt
plain_one deeds (host_reads c m) made = tt
plain_one deeds (client_reads c m) made = tt
plain_one deeds (client_writes c m) made = tt

all_plain : (deeds : List Deed) → EachAfter CompletesPlainly deeds → EachAfter IsPlain deeds
all_plain [] all = tt
all_plain (y ∷ deeds) all = (plain_one deeds y all.0, all_plain deeds all.1)

pub written_plainly : (lines : List NumberedLine) (starves : Key → Bool) → AreFit (declared_devices (bare_lines lines)) → RunPremises lines → (w : WorldState) → Reached lines starves w → EachAfter IsPlain w.deeds
written_plainly lines starves fit premises w reached = all_plain w.deeds (reached_plain lines starves fit premises w reached).each
