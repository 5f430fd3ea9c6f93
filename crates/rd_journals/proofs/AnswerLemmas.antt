-- Each completion that a client wrote, or is to write, completes the request of its key.
use Rattle.std.proofs.Common.{eq-eqb, cond, Bool, List, [], ap, false, inl, inr, map, refl, reverse, subst, sym, true, ℕ, ◌++◌, ◌+◌, ◌<◌, ◌∙◌, ◌∷◌, ◌≡◌, ◌⊎◌}
use Rattle.std.specs.Prelude.{Contains, Err, None, Ok, Option, Result, Some, fold, if◌then◌else◌}
use Rattle.std.specs.Option.{option_map_or}
use Rattle.rd_client.specs.Core as client
use Rattle.rd_client.specs.declared.heard.Heard.TheVariants as heard
use Rattle.rd_core.specs.Core as core
use Rattle.rd_station.specs.Station as station
use Rattle.rd_station.specs.declared.refusals.PutWhy.TheVariants as why
use Rattle.rd_deeds.specs.Talk as deed
use Rattle.rd_base.specs.Statuses.{insufficient_resources, no_such_device}
use Rattle.rd_base.specs.declared.journal.Item.{Item}
use Rattle.rd_base.specs.declared.journal.Item.TheVariants.{Cancelled, Sent}
use Rattle.rd_base.specs.declared.journal.Key.{Key}
use Rattle.rd_base.specs.declared.status.Status.{Status}
use Rattle.rd_client.specs.Core.{ClientCoreState, Outgoing, client_begin, client_hear, job_of, listed, listed_one, plain}
use Rattle.rd_client.specs.declared.heard.Heard.{Heard}
use Rattle.rd_devices.specs.DeviceList.{list_bytes}
use Rattle.rd_devices.specs.Removal.{removal_bytes}
use Rattle.rd_devices.specs.declared.list.Announce.{Announce}
use Rattle.rd_drive.specs.declared.plan.Job.{Job}
use Rattle.rd_hello.specs.declared.client.ClientState.{ClientState}
use Rattle.rd_hello.specs.declared.end_fault.EndFault.{EndFault}
use Rattle.rd_irp.specs.declared.request.Request.{Request}
use Rattle.rd_journals.proofs.AskingLemmas.{HeardAs, hears}
use Rattle.rd_journals.proofs.ChannelLemmas.{all_refreshed, begun_on}
use Rattle.rd_journals.proofs.ClientLemmas.{next_job, read_by}
use Rattle.rd_journals.proofs.RunLemmas.{IsHandledIn, behind_orderly, hears_open, opened}
use Rattle.rd_journals.proofs.WritingLemmas.{AddsOwn, adds_own, hear_adds, list_own, removal_own}
use Rattle.rd_journals.specs.Orderly.{IsNext, Orderly}
use Rattle.rd_journals.specs.Standing.{IsOut, IsStanding, IsUnserved, pending_of}
use Rattle.rd_journals.specs.Stations.{AreFit}
use Rattle.rd_runs.proofs.Parts.{IsBehind, MayBe, Part, accepts, adds_one, announced_by, applies_one, begins, by_parts, client_gets, client_hears_one, client_keeps_part, client_sends_one, collects_one, cut_by, done, draws_one, ends, hands_out, host_gets, host_hears_one, host_keeps_part, host_sends_one, idle_one, queues_one, reached_behind, refreshed_by, refuses, removes_one, takes_one, tells_one, told_added, told_removed, tries_one}
use Rattle.rd_runs.specs.Moves.{Reached}
use Rattle.rd_script.specs.declared.line.NumberedLine.{NumberedLine}
use Rattle.rd_station.proofs.Members.{has_append, to_contains}
use Rattle.rd_station.specs.Station.{StationState, collect_first, held, new_station, put_refusal, put_unless}
use Rattle.rd_station.specs.declared.answers.Completion.{Completion}
use Rattle.rd_station.specs.declared.answers.Given.{Given}
use Rattle.rd_station.specs.declared.refusals.PutWhy.{PutWhy}
use Rattle.rd_world.proofs.BeginningLemmas.{begun_by}
use Rattle.rd_deeds.proofs.Journals.{contains_has}
use Rattle.rd_world.proofs.OpeningLemmas.{lines_begin}
use Rattle.rd_declared.specs.Devices.{Declared, PrinterNames, device_cut, printer_data}
use Rattle.rd_world.specs.Events.{came_of, client_sends_first, client_sends_next, completion_message, connects, cutting, dropping}
use Rattle.rd_world.specs.Hearing.{after_opening, announcing, answers_directly, client_hears, heard_by_client, is_device_told, put_at, put_by, putting}
use Rattle.rd_declared.specs.Declaring.{bare_lines, declared_devices}
use Rattle.rd_world.specs.Run.{applications_of, new_world, world_of}
use Rattle.rd_deeds.specs.Talk.{Deed, EachAfter, Has, client_read, client_reads, completes, is_completion_of, is_request, journal, request_at, tells, stores, removes, adds, submits, takes, host_begins, host_ends, host_writes, host_reads, client_writes}
use Rattle.rd_world.specs.World.{ApplicationState, WorldState, client_sends, handling_by, station_at, with_station}
use Rattle.rd_declared.specs.declared.device.SessionDevice.{SessionDevice}
use Rattle.std.specs.List.{cons_option}
use Rattle.rd_drive.specs.Ranged.{IsReplyInRange}
use Rattle.rd_station.specs.Station.{is_key}
use Rattle.rd_runs.specs.Premises.{RunPremises}
use Rattle.rd_deeds.specs.Told.{came}
use Rattle.rd_journals.proofs.HeldLemmas.{stored_deeds}
use Rattle.rd_journals.specs.Jobs.{AreFine, FitsCompletion}
use Rattle.rd_drive.specs.Outcome.{fault}
use Rattle.std.proofs.Common.{lit<, ◌^◌}
use Rattle.std.proofs.lemmas.List.{reverse-append}
use Rattle.std.specs.Option.{unwrap_or}
use Rattle.std.specs.Map.{lookup}
use Rattle.std.specs.Ordering.{nat_cmp}
use Rattle.std.specs.BTreeMap.{is_at}
use Rattle.std.proofs.lemmas.List.Elements.{All-contains}
use Rattle.rd_drive.specs.Replies.{IsAnswer, KeyedReply, cancellation, replies_by}
use Rattle.rd_irp.specs.declared.completion.Reply.{Reply}
use Rattle.rd_irp.specs.Fits.{BodyFits, kind_of}
use Rattle.rd_runs.proofs.Insides.{AreOwn, IsInside, IsOwn, all_dropped_inside, hears_inside, stationed}
use Rattle.rd_declared.specs.Devices.{device_step}
use Rattle.rd_declared.specs.Replies.{no_request, replies_read, request_read}
use Rattle.rd_deeds.specs.Told.{CompletesWith}
use Rattle.rd_journals.specs.Jobs.{AnswersRead, AreSpelled, IsAnswerOf, IsCompletionOf, IsRefusalOf, IsSent, IsSource, IsSpelledOut, IsTiedTo}
use Rattle.rd_journals.proofs.CameLemmas.{fines, never_came, was_ready}
use Rattle.rd_journals.proofs.CompletionLemmas.{completes as completes_with, lost_ranged, ready_completes, runs_good}
use Rattle.rd_journals.proofs.ServingLemmas.{behind_standing, came_is_named}
use Rattle.rd_journals.proofs.WorkLemmas.{Grown, behind_working, grown_deed, grown_inside, grown_more, station_tied}

abbrev Of : Type 0
Of = StationState SessionDevice

-- ---- what keeps it

answer_grown : (Given : Request → Reply → Type 0) (deeds deeds' : List Deed) → Grown deeds deeds' → (key : Key) (m : List ℕ) → IsAnswerOf Given deeds key m → IsAnswerOf Given deeds' key m
answer_grown Given deeds deeds' grown key m is = record { request = is.request; reply = is.reply; read = grown key.channel key.index is.request is.read; completes = is.completes; given = is.given }

module _ {devices : List (ℕ × Declared)} {outbox : List Outgoing} {deeds : List Deed} (is : AreSpelled devices outbox deeds) where
  spelled_deed : (y : Deed) → AnswersRead devices deeds y → AreSpelled devices outbox (y ∷ deeds)
  spelled_deed y own = record { out = λ o has key e. answer_grown IsRefusalOf deeds (y ∷ deeds) (grown_deed y deeds) key o.message (is.out o has key e); each = (own, is.each) }

  spelled_more : (o : Outgoing) → ((key : Key) → o.answers ≡ Some key → IsAnswerOf IsRefusalOf deeds key o.message) → AreSpelled devices (outbox ++ o ∷ []) deeds
  spelled_more o own = record {
    out = λ x has key e. elim (has_append x outbox (o ∷ []) has) [
      | inl before ↦ is.out x before key e
      | inr last ↦ elim last [ inl same ↦ subst (λ (y : Outgoing). IsAnswerOf IsRefusalOf deeds key y.message) (sym same) (own key (ap (λ (y : Outgoing). y.answers) (sym same) ∙ e)) | inr none ↦ absurd none ]
    ];
    each = is.each;
  }

  spelled_own : {grown : List Outgoing} → AddsOwn outbox grown → AreSpelled devices grown deeds
  spelled_own (more, same, own) = record {
    out = λ x has key e. elim (has_append x outbox more (subst (Has x) same has)) [ inl before ↦ is.out x before key e | inr later ↦ absurd (cc ((own x later).0, e)) ];
    each = is.each;
  }

  spelled_fewer : (fewer : List Outgoing) → ((o : Outgoing) → Has o fewer → Has o outbox) → AreSpelled devices fewer deeds
  spelled_fewer fewer less = record { out = λ o has. is.out o (less o has); each = is.each }

own_says : (devices : List (ℕ × Declared)) (deeds : List Deed) (y : Deed) → IsOwn y → AnswersRead devices deeds y
own_says devices deeds (stores d x) own = tt
own_says devices deeds (removes d) own = tt
own_says devices deeds (adds d) own = tt
own_says devices deeds (submits a n o) own = absurd own
own_says devices deeds (takes n) own = absurd own
own_says devices deeds (tells n) own = absurd own
own_says devices deeds (host_begins c) own = absurd own
own_says devices deeds (host_ends c) own = absurd own
own_says devices deeds (host_writes c m) own = absurd own
own_says devices deeds (host_reads c m) own = absurd own
own_says devices deeds (client_reads c m) own = absurd own
own_says devices deeds (client_writes c m) own = absurd own
own_says devices deeds (completes k m) own = absurd own

spelled_deeds : {devices : List (ℕ × Declared)} {outbox : List Outgoing} (more deeds : List Deed) → AreOwn more → AreSpelled devices outbox deeds → AreSpelled devices outbox (more ++ deeds)
spelled_deeds [] deeds own is = is
spelled_deeds {devices = devices} (y ∷ more) deeds own is = spelled_deed (spelled_deeds more deeds own.1 is) y (own_says devices (more ++ deeds) y own.0)

spelled_inside : {devices : List (ℕ × Declared)} {outbox : List Outgoing} (w v : WorldState) → IsInside w v → AreSpelled devices outbox w.deeds → AreSpelled devices outbox v.deeds
spelled_inside {devices = devices} {outbox = out} w v inside is = subst (AreSpelled devices out) (sym inside.deeds) (spelled_deeds inside.more w.deeds inside.own is)

module _ (devices : List (ℕ × Declared)) where
  -- ---- a job comes

  directly : (r : Request) (st : Status) → FitsCompletion r → st.0 < 2 ^ 32 → BodyFits (kind_of r.op) st (fault st).body → (d : ℕ) (job : Job) (c index : ℕ) → d ≡ r.device → job ≡ job_of r c index → CompletesWith r (fault st) (client.direct_bytes job d st)
  directly r st room small fits d job c index device is =
      subst (λ (x : ℕ × Job). CompletesWith r (fault st) (client.direct_bytes x.1 x.0 st)) (λ i. (sym device i, sym is i)) (completes_with r (fault st) room (small, tt) fits)

  direct_spelled : (w : WorldState) (d : ℕ) (job : Job) (st : Status) → st.0 < 2 ^ 32 → ((r : Request) → BodyFits (kind_of r.op) st (fault st).body) → ((r : Request) → IsRefusalOf r (fault st)) → AreFine FitsCompletion w.deeds → IsNext w.stations w.channels (w.client).asked w.deeds d job → IsSpelledOut devices w
      → IsSpelledOut devices (answers_directly w d job st)
  direct_spelled w d job st small fits refusal fines next is =
      spelled_more is (record { message = client.direct_bytes job d st; answers = Some job.key }) (λ key e. let same : job.key ≡ key = cc in subst (λ (k : Key). IsAnswerOf IsRefusalOf w.deeds k (client.direct_bytes job d st)) same (record {
        request = next.request;
        reply = fault st;
        read = ap (λ (n : ℕ). request_at (client_read n w.deeds) job.key.index) next.channel ∙ next.read;
        completes = directly next.request st (fines w.channels job.key.index next.request next.read) small (fits next.request) d job w.channels job.key.index next.device_is next.job_is;
        given = refusal next.request;
      }))

  putting_spelled : (w : WorldState) (d : ℕ) (job : Job) → AreFine FitsCompletion w.deeds → IsNext w.stations w.channels (w.client).asked w.deeds d job → IsSpelledOut devices w → IsSpelledOut devices (putting w d job)
  putting_spelled w d job fines next is = at (station_at w d)
    where
      gone : IsSpelledOut devices (answers_directly w d job no_such_device)
      gone = direct_spelled w d job no_such_device (lit< tt) (λ r. (refl, tt)) (λ r. inl refl) fines next is

      short : IsSpelledOut devices (answers_directly w d job insufficient_resources)
      short = direct_spelled w d job insufficient_resources (lit< tt) (λ r. (refl, tt)) (λ r. inr refl) fines next is

      told : (b : Bool) → IsSpelledOut devices (answers_directly w d job (if b then insufficient_resources else no_such_device))
      told true = short
      told false = gone

      here : (s : Of) (refusal : Option PutWhy) → IsSpelledOut devices (put_by w d job (put_unless s job refusal))
      here s None = spelled_inside w (with_station w d (put_unless s job None).0) (stationed w d (put_unless s job None).0) is
      here s (Some why.Gone) = told (is_device_told w d)
      here s (Some (why.Full count)) = is
      here s (Some (why.Worn count)) = short
      here s (Some (why.Duplicate key)) = is
      here s (Some why.Memory) = is

      at : (o : Option Of) → IsSpelledOut devices (put_at w d job o)
      at None = gone
      at (Some s) = here s (put_refusal s job)

  -- ---- a message is heard

  announced_spelled : (w : WorldState) (d : ℕ) (o : Option Of) → IsSpelledOut devices w → IsSpelledOut devices (announced_by w d o)
  announced_spelled w d None is = is
  announced_spelled w d (Some s) is = spelled_inside w (with_station w d (station.announce s).0) (stationed w d (station.announce s).0) is

  all_announced : (list : List Announce) (w : WorldState) → IsSpelledOut devices w → IsSpelledOut devices (fold (λ x (a : Announce). announcing x a.id) w list)
  all_announced [] w is = is
  all_announced (a ∷ list) w is = all_announced list (announcing w a.id) (announced_spelled w a.id (station_at w a.id) is)

  hears_spelled : (c : ℕ) (w : WorldState) (m : List ℕ) → Orderly w → ((w.side).table).channel ≡ Some c → w.kept ≡ None → AreFine FitsCompletion (client_reads w.channels m ∷ w.deeds) → IsSpelledOut devices w → IsSpelledOut devices (client_hears w m)
  hears_spelled c w m ordered opened free fines is = by (client_hear w.client m) (hears w.client m) (hear_adds w.client m)
    where
      read : (x : ClientCoreState) → AddsOwn ((w.client).core).outbox (x.core).outbox → IsSpelledOut devices (read_by c w m ordered opened free x)
      read x grew = spelled_own (spelled_deed is (client_reads w.channels m) tt) grew

      opening : (shake : ClientState) (x : WorldState) → IsSpelledOut devices x → IsSpelledOut devices (after_opening shake x)
      opening shake x spelled = go (client.becomes_ready shake ((x.client).core).shake)
        where
          go : (b : Bool) → IsSpelledOut devices (if b then fold (λ y (a : Announce). announcing y a.id) x (listed x.client) else x)
          go true = all_announced (listed x.client) x spelled
          go false = spelled

      by : (r : ClientCoreState × Result Heard EndFault) → HeardAs w.client m r → AddsOwn ((w.client).core).outbox ((r.0).core).outbox → IsSpelledOut devices (heard_by_client ((w.client).core).shake (read_by c w m ordered opened free r.0) r.1)
      by (x, Err wrong) heard grew = read x grew
      by (x, Ok (heard.Print n)) heard grew = read x grew
      by (x, Ok heard.Nothing) heard grew = opening ((w.client).core).shake (read_by c w m ordered opened free x) (read x grew)
      by (x, Ok (heard.Ask device job)) (same, asked, one, faulty, fine, r, spelled, named, is_job) grew =
          let next : IsNext w.stations w.channels x.asked (client_reads w.channels m ∷ w.deeds) device job =
          subst (λ (y : ℕ × Job). IsNext w.stations w.channels x.asked (client_reads w.channels m ∷ w.deeds) y.0 y.1) (λ i. (sym named i, sym is_job i)) (next_job c w m ordered opened free x r asked spelled one fine) in
          putting_spelled (read_by c w m ordered opened free x) device job fines next (read x grew)

  -- ---- channels

  connects_spelled : (w : WorldState) → IsSpelledOut devices w → IsSpelledOut devices (connects w)
  connects_spelled w is = subst (λ (x : WorldState). IsSpelledOut devices (begun_on w x)) (sym (all_refreshed (map (λ (e : ℕ × PrinterNames). e.0) w.printers) w)) so
    where
      so : AreSpelled devices [] (deed.host_begins (w.channels + 1) ∷ w.deeds)
      so = spelled_deed (spelled_fewer is [] (λ o has. absurd has)) (deed.host_begins (w.channels + 1)) tt

  cutting_spelled : (w : WorldState) → IsSpelledOut devices w → IsSpelledOut devices (cutting w)
  cutting_spelled w is =
      let cut : WorldState = fold dropping w (map (λ (e : ℕ × Of). e.0) w.stations) in
      spelled_deed (spelled_inside w cut (all_dropped_inside (map (λ (e : ℕ × Of). e.0) w.stations) w) (spelled_fewer is [] (λ o has. absurd has))) (deed.host_ends cut.channels) tt

  -- ---- a client sends

  client_sends_spelled : (w : WorldState) → Orderly w → IsStanding w → IsSpelledOut devices w → IsSpelledOut devices (client_sends_next w)
  client_sends_spelled w ordered stands is = by ((w.client).core).outbox refl
    where
      sent : (o : Outgoing) (others : List Outgoing) → ((w.client).core).outbox ≡ o ∷ others → (answers : Option Key) → o.answers ≡ answers
          → AreSpelled devices others (option_map_or (λ key. deed.completes key o.message) answers (deed.client_writes w.channels o.message) ∷ w.deeds)
      sent o others e answers a = by answers a
        where
          less : AreSpelled devices others w.deeds
          less = spelled_fewer is others (λ x has. subst (Has x) (sym e) (inr has))

          unserved : (key : Key) → IsUnserved w.channels (w.client).asked w.stations (pending_of w.kept) key → IsAnswerOf IsRefusalOf w.deeds key o.message → IsAnswerOf (IsSource devices w.deeds key) w.deeds key o.message
          unserved key u own = record {
            request = own.request;
            reply = own.reply;
            read = own.read;
            completes = own.completes;
            given = inr (inr (never_came key (journal (own.request).device w.deeds) (λ has. u.unnamed (came_is_named w ordered (own.request).device key has)), own.given));
          }

          by : (x : Option Key) → o.answers ≡ x → AreSpelled devices others (option_map_or (λ key. deed.completes key o.message) x (deed.client_writes w.channels o.message) ∷ w.deeds)
          by None same = spelled_deed less (deed.client_writes w.channels o.message) tt
          by (Some key) same = spelled_deed less (deed.completes key o.message) (unserved key (subst (λ (y : Option Key). IsOut (IsUnserved w.channels (w.client).asked w.stations (pending_of w.kept)) y o.message) same (stands.out o (subst (Has o) (sym e) (inl refl)))) (is.out o (subst (Has o) (sym e) (inl refl)) key same))

      by : (messages : List Outgoing) → ((w.client).core).outbox ≡ messages → let r = core.send_from (w.client).core messages in IsSpelledOut devices (client_sends_first w (record w.client { core = r.0 }, r.1))
      by [] e = is
      by (o ∷ others) e = sent o others e o.answers refl

  collects_spelled : (w : WorldState) (d : ℕ) (s after : Of) (x : Completion) → station_at w d ≡ Some s → station.collect s ≡ (after, Some x) → Orderly w → IsCompletionOf w.deeds d x
      → (y : Declared) × (lookup (is_at (nat_cmp d)) devices ≡ Some y) × IsTiedTo w.deeds y s → IsSpelledOut devices w
      → IsSpelledOut devices (client_sends (with_station w d after) (completes x.key (completion_message d x)) (completion_message d x))
  collects_spelled w d s after x there made ordered of (y, at, tied) is =
      spelled_deed (spelled_inside w left (stationed w d after) is) (completes x.key (completion_message d x)) (record {
        request = of.request;
        reply = x.reply;
        read = grown_inside w left (stationed w d after) (x.key).channel (x.key).index of.request of.read;
        completes = of.completes;
        given = subst (λ (n : ℕ). IsSent devices n x.key x.reply left.deeds ⊎ ((Has (Cancelled x.key) (journal n left.deeds) × (x.reply ≡ cancellation)) ⊎ ((came (x.key).channel (journal n left.deeds) (x.key).index ≡ false) × IsRefusalOf of.request x.reply)))
            (sym of.device) (by (All-contains (λ (c : Completion). IsAnswer (replies_by device_step device_cut (request_read w.deeds) y.state s.journal) s.journal c.key c.reply) s.ready x tied.ready (to_contains s.ready x (was_ready s after x made))));
      })
    where
      left : WorldState
      left = with_station w d after

      longer : after.journal ≡ s.journal ++ Sent x.key ∷ []
      longer = first s.ready made
        where
          first : (cs : List Completion) → collect_first s cs ≡ (after, Some x) → after.journal ≡ s.journal ++ Sent x.key ∷ []
          first [] same = let nothing : None ≡ Some x = ap (λ (r : Of × Option Completion). r.1) same in absurd (cc (nothing))
          first (z ∷ zs) same =
              let one : Some z ≡ Some x = ap (λ (r : Of × Option Completion). r.1) same in
              let equal : z ≡ x = cc in
              ap (λ (r : Of × Option Completion). (r.0).journal) (sym same) ∙ ap (λ (z : Completion). s.journal ++ Sent z.key ∷ []) equal

      stored : left.deeds ≡ stores d (Sent x.key) ∷ w.deeds
      stored = stored_deeds w d s after there (Sent x.key ∷ []) longer

      requests : request_read left.deeds ≡ request_read w.deeds
      requests = λ i key. unwrap_or (request_at (client_read key.channel (stored i)) key.index) no_request

      own : journal d left.deeds ≡ Sent x.key ∷ journal d w.deeds
      own = ap (journal d) stored ∙ ap (λ (b : Bool). cons_option (cond b (Some (Sent x.key)) None) (journal d w.deeds)) (eq-eqb d d refl)

      told : reverse (journal d w.deeds) ≡ s.journal
      told = (ordered.held).tied d s there

      all : reverse (journal d left.deeds) ≡ s.journal ++ Sent x.key ∷ []
      all = ap reverse own ∙ reverse-append (Sent x.key ∷ []) (journal d w.deeds) ∙ ap (λ (js : List Item). js ++ Sent x.key ∷ []) told

      gives : replies_read devices left.deeds d s.journal ≡ replies_by device_step device_cut (request_read w.deeds) y.state s.journal
      gives = ap (λ (o : Option Declared). option_map_or (λ (z : Declared). replies_by device_step device_cut (request_read left.deeds) z.state s.journal) o []) at
          ∙ ap (λ (f : Key → Request). replies_by device_step device_cut f y.state s.journal) requests

      by : IsAnswer (replies_by device_step device_cut (request_read w.deeds) y.state s.journal) s.journal x.key x.reply
          → IsSent devices d x.key x.reply left.deeds ⊎ ((Has (Cancelled x.key) (journal d left.deeds) × (x.reply ≡ cancellation)) ⊎ ((came (x.key).channel (journal d left.deeds) (x.key).index ≡ false) × IsRefusalOf of.request x.reply))
      by (inl given) = inl (record { earlier = s.journal; later = []; stands = all; given = subst (λ (rs : List KeyedReply). Contains rs (x.key, x.reply)) (sym gives) given })
      by (inr (cancelled, same)) = inr (inl (
        subst (λ (js : List Item). Has (Cancelled x.key) js) (sym own) (inr (contains_has (Cancelled x.key) (journal d w.deeds) (subst (λ (js : List Item). Contains js (Cancelled x.key)) (sym told) cancelled))),
        same,
      ))

  -- ---- devices go and come

  removes_spelled : (w : WorldState) (d : ℕ) (o : Option Of) → IsSpelledOut devices w → IsSpelledOut devices (cut_by (told_removed w d) d o)
  removes_spelled w d o is = by o
    where
      told : IsSpelledOut devices (told_removed w d)
      told = spelled_own (spelled_deed is (deed.removes d) tt) (adds_own ((w.client).core).outbox (removal_bytes (d ∷ [])) (removal_own (d ∷ [])))

      by : (o : Option Of) → IsSpelledOut devices (cut_by (told_removed w d) d o)
      by None = told
      by (Some s) = let new : Of = (station.remove s (device_cut s.device).state).0 in spelled_inside (told_removed w d) (with_station (told_removed w d) d new) (stationed (told_removed w d) d new) told

  adds_spelled : (w : WorldState) (d : ℕ) (names : Option PrinterNames) (o : Option Of) → IsSpelledOut devices w → IsSpelledOut devices (announced_by (told_added (refreshed_by w d names) d) d o)
  adds_spelled w d None o is =
      announced_spelled (told_added w d) d o (spelled_own (spelled_deed is (deed.adds d) tt) (adds_own ((w.client).core).outbox (list_bytes (listed_one w.client d)) (list_own (listed_one w.client d))))
  adds_spelled w d (Some names) o is =
      let fresh : ClientCoreState = client.refresh w.client d (printer_data w.cache names) in
      announced_spelled (told_added (refreshed_by w d (Some names)) d) d o
      (spelled_own (spelled_deed is (deed.adds d) tt) (adds_own ((w.client).core).outbox (list_bytes (listed_one fresh d)) (list_own (listed_one fresh d))))

-- ---- each part, and every run

module _ (lines : List NumberedLine) (starves : Key → Bool) (fit : AreFit (declared_devices (bare_lines lines))) (premises : RunPremises lines) where
  abbrev devs : List (ℕ × Declared)
  devs = declared_devices (bare_lines lines)

  part_spelled : (w : WorldState) (p : Part) → MayBe lines starves w p → IsBehind lines starves w → IsBehind lines starves (done starves w p) → Orderly w → IsHandledIn w → IsSpelledOut (declared_devices (bare_lines lines)) w → IsSpelledOut (declared_devices (bare_lines lines)) (done starves w p)
  part_spelled w (accepts a asked named t number) may before after ordered handled is = spelled_deed is (deed.submits a named asked.op) tt
  part_spelled w (refuses a asked cause) may before after ordered handled is = is
  part_spelled w (hands_out a number t had None) may before after ordered handled is = spelled_deed is (deed.takes number) tt
  part_spelled w (hands_out a number t had (Some asked)) may before after ordered handled is = spelled_deed is (deed.takes number) tt
  part_spelled w (host_sends_one m) may before after ordered handled is = spelled_deed is (deed.host_writes w.channels m) tt
  part_spelled w (host_gets n) may before after ordered handled is = is
  part_spelled w host_keeps_part may before after ordered handled is = is
  part_spelled w (host_hears_one m rest) may before after ordered handled is = spelled_deed is (deed.host_reads w.channels m) tt
  part_spelled w (tells_one n) may before after ordered handled is = spelled_deed is (deed.tells n) tt
  part_spelled w begins may before after ordered handled is = connects_spelled devs w is
  part_spelled w ends may before after ordered handled is = cutting_spelled devs w is
  part_spelled w (client_sends_one x o) made before after ordered handled is = subst (λ (r : ClientCoreState × Option Outgoing). IsSpelledOut (declared_devices (bare_lines lines)) (client_sends_first w r)) made (client_sends_spelled devs w ordered (behind_standing lines starves w fit before) is)
  part_spelled w (client_gets n) may before after ordered handled is = is
  part_spelled w client_keeps_part may before after ordered handled is = is
  part_spelled w (client_hears_one m rest) (kept, some) before after ordered handled is =
      let (c, at) = hears_open w ordered handled m rest some in
      let x : WorldState = record w { to_client = (handling_by w.to_client (Some (m, rest))).0 } in
      let inside = hears_inside x m in
      let read : List Deed = client_reads w.channels m ∷ w.deeds in
      hears_spelled devs c x m ordered at kept (λ n k r e. fines lines starves premises (done starves w (client_hears_one m rest)) after n k r
      (subst (λ (ds : List Deed). request_at (client_read n ds) k ≡ Some r) (sym inside.deeds) (grown_more inside.more read n k r e))) is
  part_spelled w (tries_one k) some before after ordered handled is = putting_spelled devs (record w { kept = None }) k.device k.job (fines lines starves premises w before) (ordered.kept_next k some) is
  part_spelled w (collects_one d s after_it x) (reached, idle, there, made) before after ordered handled is =
      collects_spelled devs w d s after_it x there made ordered (ready_completes (declared_devices (bare_lines lines)) w ordered (behind_working FitsCompletion IsReplyInRange lost_ranged runs_good lines starves w fit before (fines lines starves premises w before)) d s there x (was_ready s after_it x made))
      (station_tied FitsCompletion IsReplyInRange devs w fit (behind_working FitsCompletion IsReplyInRange lost_ranged runs_good lines starves w fit before (fines lines starves premises w before)) d s there) is
  part_spelled w (takes_one d hand s after_it job) may before after ordered handled is = spelled_inside w (with_station w d after_it) (stationed w d after_it) is
  part_spelled w (applies_one hand d job None) may before after ordered handled is = is
  part_spelled w (applies_one hand d job (Some s)) may before after ordered handled is =
      let new : Of = (station.apply s job w.moment (came_of starves w job s.device)).0 in spelled_inside w (with_station w d new) (stationed w d new) is
  part_spelled w (removes_one d o) may before after ordered handled is = removes_spelled devs w d o is
  part_spelled w (adds_one d names o) may before after ordered handled is = adds_spelled devs w d names o is
  part_spelled w (queues_one a) may before after ordered handled is = is
  part_spelled w (idle_one number) may before after ordered handled is = is
  part_spelled w draws_one may before after ordered handled is = is

  begins_spelled : IsSpelledOut (declared_devices (bare_lines lines)) (world_of lines)
  begins_spelled = subst (IsSpelledOut devs) (sym (begun_by lines _ (lines_begin lines))) (first (declared_devices (bare_lines lines)) (applications_of (bare_lines lines)))
    where
      first : (es : List (ℕ × Declared)) (applications : List (ℕ × ApplicationState)) → IsSpelledOut (declared_devices (bare_lines lines)) (new_world es applications)
      first es applications = record { out = λ o has. absurd has; each = tt }

  pub reached_spelled : (w : WorldState) → Reached lines starves w → IsSpelledOut (declared_devices (bare_lines lines)) w
  reached_spelled w reached =
      by_parts lines starves (IsSpelledOut devs) begins_spelled
      (λ x p before after may is. let both = behind_orderly lines starves x fit before in part_spelled x p may before after both.0 both.1 is) w (reached_behind lines starves w reached)
