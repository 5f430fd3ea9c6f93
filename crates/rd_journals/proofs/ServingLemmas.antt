-- Each part keeps completions where they stand.
use Rattle.std.proofs.Common.{Bool, List, [], ap, arith, false, inl, inr, length, map, refl, reverse, subst, sym, true, ℕ, ◌&&◌, ◌++◌, ◌+◌, ◌<◌, ◌∙◌, ◌∷◌, ◌≡◌, ◌≢◌, ◌⊎◌}
use Rattle.std.specs.Prelude.{Contains, Err, None, Ok, Option, Result, Some, filter, fold, if◌then◌else◌}
use Rattle.std.specs.Option.{option_map_or}
use Rattle.std.proofs.lemmas.List.Elements.{Contains-append_left}
use Rattle.rd_client.specs.Core as client
use Rattle.rd_client.specs.declared.heard.Heard.TheVariants as heard
use Rattle.rd_core.specs.Core as core
use Rattle.rd_station.specs.Station as station
use Rattle.rd_station.specs.declared.refusals.PutWhy.TheVariants as why
use Rattle.rd_deeds.specs.Talk as deed
use Rattle.rd_base.specs.Lawful.{IsBelow, named_key}
use Rattle.rd_base.specs.Statuses.{insufficient_resources, no_such_device}
use Rattle.rd_base.specs.declared.journal.Item.{Item}
use Rattle.rd_base.specs.declared.journal.Item.TheVariants.{Came, Sent}
use Rattle.rd_base.specs.declared.journal.Key.{Key}
use Rattle.rd_base.specs.declared.status.Status.{Status}
use Rattle.rd_client.specs.Core.{ClientCoreState, Outgoing, client_begin, client_hear, job_of, listed, listed_one, plain}
use Rattle.rd_client.specs.declared.heard.Heard.{Heard}
use Rattle.rd_devices.specs.DeviceList.{list_bytes}
use Rattle.rd_devices.specs.Removal.{removal_bytes}
use Rattle.rd_devices.specs.declared.list.Announce.{Announce}
use Rattle.rd_drive.specs.declared.plan.Job.{Job}
use Rattle.rd_hello.specs.declared.client.ClientState.{ClientState}
use Rattle.rd_hello.specs.declared.end_fault.EndFault.{EndFault}
use Rattle.rd_irp.specs.declared.request.Request.{Request}
use Rattle.rd_journals.proofs.AskingLemmas.{HeardAs, hears}
use Rattle.rd_journals.proofs.CallLemmas.{AnyJob, Goes, NoKey, announced, collected, removed, taken}
use Rattle.rd_journals.proofs.ChannelLemmas.{all_refreshed, begun_on, ended_with}
use Rattle.rd_journals.proofs.ClientLemmas.{announcing_orderly, channel_of, counted_one, counted_other, given_back, next_job, open_or_shut, read_by, read_orderly}
use Rattle.rd_journals.proofs.DeviceLemmas.{cut_fits, cuts_off}
use Rattle.rd_journals.proofs.HeldLemmas.{has_here}
use Rattle.rd_journals.proofs.OrderlyLemmas.{beside_open, ready_came, still_orderly, while_open}
use Rattle.rd_journals.proofs.RunLemmas.{IsHandledIn, behind_orderly, hears_open, left, opened}
use Rattle.rd_journals.proofs.ShortLemmas.{came_read}
use Rattle.rd_journals.proofs.StandingLemmas.{Still, stands_as, stands_beside, stands_come, stands_done, stands_fewer, stands_more, stands_own, stands_still, still_dropped, still_goes, still_not, still_then}
use Rattle.rd_journals.proofs.WritingLemmas.{AddsOwn, adds_own, hear_adds, list_own, removal_own}
use Rattle.rd_journals.specs.Orderly.{IsNext, Orderly, OrderlyOn}
use Rattle.rd_journals.specs.Reads.{IsGiven}
use Rattle.rd_journals.specs.Standing.{AreStanding, IsNamed, IsOut, IsStanding, IsUnserved, pending_of}
use Rattle.rd_journals.specs.Stations.{AreFit}
use Rattle.rd_runs.proofs.Parts.{IsBehind, MayBe, Part, accepts, adds_one, announced_by, applies_one, begins, by_parts, client_gets, client_hears_one, client_keeps_part, client_sends_one, collects_one, cut_by, done, draws_one, ends, hands_out, host_gets, host_hears_one, host_keeps_part, host_sends_one, idle_one, queues_one, reached_behind, refreshed_by, refuses, removes_one, takes_one, tells_one, told_added, told_removed, tries_one}
use Rattle.rd_runs.specs.Moves.{Reached}
use Rattle.rd_script.specs.declared.line.NumberedLine.{NumberedLine}
use Rattle.rd_station.proofs.Members.{has_append, has_right, to_contains}
use Rattle.rd_station.proofs.Remembering.{any_has, came_named, has_any}
use Rattle.rd_station.specs.Memory.{NamesKey}
use Rattle.rd_station.specs.Station.{StationState, collect_first, held, new_station, put_refusal, put_unless}
use Rattle.rd_station.specs.declared.answers.Completion.{Completion}
use Rattle.rd_station.specs.declared.answers.Given.{Given}
use Rattle.rd_station.specs.declared.refusals.PutWhy.{PutWhy}
use Rattle.rd_world.proofs.BeginningLemmas.{begun_by}
use Rattle.rd_deeds.proofs.Journals.{contains_has, has_contains}
use Rattle.rd_world.proofs.OpeningLemmas.{lines_begin}
use Rattle.rd_declared.specs.Devices.{Declared, PrinterNames, device_cut, printer_data}
use Rattle.rd_world.specs.Events.{came_of, client_sends_first, client_sends_next, completion_message, connects, cutting, dropping, is_channel_open}
use Rattle.rd_world.specs.Hearing.{after_opening, announcing, answers_directly, client_hears, heard_by_client, is_device_told, put_at, put_by, putting}
use Rattle.rd_deeds.specs.Joining.{Stands}
use Rattle.rd_declared.specs.Declaring.{bare_lines, declared_devices}
use Rattle.rd_world.specs.Run.{applications_of, new_world, world_of}
use Rattle.rd_deeds.specs.Talk.{Deed, EachAfter, Has, client_read, client_reads, completes, is_request, journal, request_at, tells}
use Rattle.rd_world.specs.World.{ApplicationState, Kept, WorldState, client_sends, handling_by, station_at, with_station}
use Rattle.rd_declared.specs.declared.device.SessionDevice.{SessionDevice}

abbrev Of : Type 0
Of = StationState SessionDevice

-- the world stands, with a job on its way
abbrev pub StandsWith : WorldState → Option Key → Type 0
StandsWith w pending = AreStanding w.channels (w.client).asked w.stations pending ((w.client).core).outbox w.deeds

not_below : (key : Key) → IsBelow key key → ⊥
not_below key (inl less) = omega (arith, less)
not_below key (inr less) = omega (arith, less.1)

-- a key that came is named
pub came_is_named : (w : WorldState) → Orderly w → (q : ℕ) (key : Key) → Has (Came key) (journal q w.deeds) → IsNamed w.stations key
came_is_named w is q key has = by (station_at w q) refl
  where
    by : (o : Option Of) → station_at w q ≡ o → IsNamed w.stations key
    by None there = absurd (subst (λ (js : List Item). Has (Came key) js) ((is.held).none q there) has)
    by (Some s) there = (q, s, there, came_named s.journal key (subst (λ (js : List Item). Contains js (Came key)) ((is.held).tied q s there) (has_contains (Came key) (journal q w.deeds) has)))

came_last : (j : List Item) (key k : Key) → NamesKey (j ++ Came key ∷ []) k → NamesKey j k ⊎ (k ≡ key)
came_last j key k names =
    let (x, has, is) = any_has (λ entry. named_key entry ≡ Some k) (j ++ Came key ∷ []) names in
    elim (has_append x j (Came key ∷ []) has) [
      | inl before ↦ inl (has_any (λ entry. named_key entry ≡ Some k) j x before is)
      | inr last ↦ elim last [ inl same ↦ inr (let named : Some key ≡ Some k = ap named_key (sym same) ∙ is in cc) | inr none ↦ absurd none ]
    ]

-- ---- a job comes

direct_stands : (w : WorldState) (d : ℕ) (job : Job) (st : Status) → w.kept ≡ None → IsGiven w.channels (w.client).asked job.key → (¬ (IsNamed w.stations job.key)) → StandsWith w (Some job.key) → IsStanding (answers_directly w d job st)
direct_stands w d job st free given unnamed is =
    subst (λ (k : Option Kept). AreStanding w.channels (w.client).asked w.stations (pending_of k) ((answers_directly w d job st).client.core).outbox w.deeds) (sym free)
    (stands_more {pending = None} (stands_as is (λ key u. record { given = u.given; unnamed = u.unnamed; other = λ e. cc (e) }))
    (record { message = client.direct_bytes job d st; answers = Some job.key }) (record { given = given; unnamed = unnamed; other = λ e. cc (e) }))

pub putting_stands : (c : ℕ) (w : WorldState) (d : ℕ) (job : Job) → OrderlyOn c w → w.kept ≡ None → IsNext w.stations w.channels (w.client).asked w.deeds d job → StandsWith w (Some job.key) → IsStanding (putting w d job)
putting_stands c w d job (ordered, opened) free next is = at (station_at w d) refl
  where
    unnamed : ¬ (IsNamed w.stations job.key)
    unnamed (q, s, has, names) = not_below job.key (next.above q s has job.key names)

    given : IsGiven w.channels (w.client).asked job.key
    given = inr (next.channel, next.index)

    unheld : IsStanding w
    unheld = subst (λ (k : Option Kept). StandsWith w (pending_of k)) (sym free) (stands_as is (λ key u. record { given = u.given; unnamed = u.unnamed; other = λ e. cc (e) }))

    direct : (st : Status) → IsStanding (answers_directly w d job st)
    direct st = direct_stands w d job st free given unnamed is

    here : (s : Of) → station_at w d ≡ Some s → (refusal : Option PutWhy) → put_refusal s job ≡ refusal → IsStanding (put_by w d job (put_unless s job refusal))
    here s there None none = subst (λ (k : Option Kept). AreStanding w.channels (w.client).asked (with_station w d (put_unless s job None).0).stations (pending_of k) ((w.client).core).outbox (with_station w d (put_unless s job None).0).deeds) (sym free)
        (stands_come w.channels (w.client).asked ((w.client).core).outbox w d s (put_unless s job None).0 job.key there refl (came_last s.journal job.key)
        (next.request, ap (λ (n : ℕ). request_at (client_read n w.deeds) job.key.index) next.channel ∙ next.read, sym next.device_is) unnamed is)
    here s there (Some why.Gone) none = direct (if is_device_told w d then insufficient_resources else no_such_device)
    here s there (Some (why.Full count)) none = is
    here s there (Some (why.Worn count)) none = direct insufficient_resources
    here s there (Some (why.Duplicate key)) none = unheld
    here s there (Some why.Memory) none = unheld

    at : (o : Option Of) → station_at w d ≡ o → IsStanding (put_at w d job o)
    at None there = direct no_such_device
    at (Some s) there = here s there (put_refusal s job) refl

-- ---- a message is heard

announced_stands : (w : WorldState) (d : ℕ) (o : Option Of) → station_at w d ≡ o → Orderly w → IsStanding w → IsStanding (announced_by w d o)
announced_stands w d None there ordered is = is
announced_stands w d (Some s) there ordered is = stands_still is (still_goes w d (channel_of w) s (station.announce s).0 there (announced AnyJob (channel_of w) s ((ordered.held).on d s there)))

all_announced : (devices : List Announce) (w : WorldState) → Orderly w → IsStanding w → IsStanding (fold (λ x (a : Announce). announcing x a.id) w devices)
all_announced [] w ordered is = is
all_announced (a ∷ devices) w ordered is = all_announced devices (announcing w a.id) (announcing_orderly w a.id ordered) (announced_stands w a.id (station_at w a.id) refl ordered is)

module _ (c : ℕ) (w : WorldState) (m : List ℕ) (ordered : Orderly w) (opened : ((w.side).table).channel ≡ Some c) (free : w.kept ≡ None) (is : IsStanding w) where
  -- the client has read the message
  read_stands : (x : ClientCoreState) (pending : Option Key) → AddsOwn ((w.client).core).outbox (x.core).outbox → ((key : Key) → IsGiven w.channels (w.client).asked key → IsGiven w.channels x.asked key × (pending ≢ Some key))
      → AreStanding w.channels x.asked w.stations pending (x.core).outbox (client_reads w.channels m ∷ w.deeds)
  read_stands x pending adds given =
      stands_own (stands_beside (stands_as is (λ key u. record { given = (given key u.given).0; unnamed = u.unnamed; other = (given key u.given).1 })) (client_reads w.channels m) tt (λ key. refl)) adds

  -- no job is on its way then
  plain_read : (x : ClientCoreState) → AddsOwn ((w.client).core).outbox (x.core).outbox → x.asked ≡ (w.client).asked → IsStanding (read_by c w m ordered opened free x)
  plain_read x adds same =
      subst (λ (k : Option Kept). AreStanding w.channels x.asked w.stations (pending_of k) (x.core).outbox (client_reads w.channels m ∷ w.deeds)) (sym free)
      (read_stands x None adds (λ key given. (subst (λ (n : ℕ). IsGiven w.channels n key) (sym same) given, λ e. cc (e))))

  pub hears_stands : IsStanding (client_hears w m)
  hears_stands = by (client_hear w.client m) (hears w.client m) (hear_adds w.client m)
    where
      opening : (shake : ClientState) (x : WorldState) → Orderly x → IsStanding x → IsStanding (after_opening shake x)
      opening shake x so stands = go (client.becomes_ready shake ((x.client).core).shake)
        where
          go : (b : Bool) → IsStanding (if b then fold (λ y (a : Announce). announcing y a.id) x (listed x.client) else x)
          go true = all_announced (listed x.client) x so stands
          go false = stands

      ordered_then : (x : ClientCoreState) → x.channel ≡ (w.client).channel → (w.client).asked < x.asked + 1 → ((x.core).fault ≡ None → length (filter is_request (m ∷ client_read w.channels w.deeds)) ≡ x.asked) → OrderlyOn c (read_by c w m ordered opened free x)
      ordered_then x same less counts = read_orderly c w m ordered opened free x same less counts

      by : (r : ClientCoreState × Result Heard EndFault) → HeardAs w.client m r → AddsOwn ((w.client).core).outbox ((r.0).core).outbox → IsStanding (heard_by_client ((w.client).core).shake (read_by c w m ordered opened free r.0) r.1)
      by (x, Err fault) (same, asked, wrong) adds = plain_read x adds asked
      by (x, Ok (heard.Print n)) (same, asked, other, fault) adds = plain_read x adds asked
      by (x, Ok heard.Nothing) (same, asked, other, fault) adds =
          opening ((w.client).core).shake (read_by c w m ordered opened free x) (ordered_then x same (omega (arith, asked)) (λ fine. counted_other c w m ordered opened free other (sym fault ∙ fine) ∙ sym asked)).0 (plain_read x adds asked)
      by (x, Ok (heard.Ask device job)) (same, asked, one, fault, fine, r, spelled, named, is_job) adds =
          let so = ordered_then x same (omega (arith, asked)) (λ f. counted_one c w m ordered opened free one fine ∙ sym asked) in
          let next : IsNext w.stations w.channels x.asked (client_reads w.channels m ∷ w.deeds) device job =
          subst (λ (y : ℕ × Job). IsNext w.stations w.channels x.asked (client_reads w.channels m ∷ w.deeds) y.0 y.1) (λ i. (sym named i, sym is_job i)) (next_job c w m ordered opened free x r asked spelled one fine) in
          let own : job.key ≡ record { channel = (w.client).channel; index = (w.client).asked } = ap (λ (j : Job). j.key) is_job in
          let index : job.key.index ≡ (w.client).asked = ap (λ (k : Key). k.index) own in
          putting_stands c (read_by c w m ordered opened free x) device job so free next (read_stands x (Some job.key) adds (λ key given. elim given [
            | inl less ↦ (inl less, λ e. let at : job.key ≡ key = cc in omega (arith, less, next.channel, ap (λ (k : Key). k.channel) at))
            | inr here ↦ (inr (here.0, omega (arith, here.1, asked)), λ e. let at : job.key ≡ key = cc in omega (arith, here.1, index, ap (λ (k : Key). k.index) at))
          ]))

-- ---- a channel begins, and ends

connects_stands : (w : WorldState) → IsStanding w → IsStanding (connects w)
connects_stands w is = subst (λ (x : WorldState). IsStanding (begun_on w x)) (sym (all_refreshed ids w)) so
  where
    ids : List ℕ
    ids = map (λ (e : ℕ × PrinterNames). e.0) w.printers

    later : (key : Key) → IsUnserved w.channels (w.client).asked w.stations (pending_of w.kept) key → IsUnserved (w.channels + 1) 0 w.stations (pending_of w.kept) key
    later key u = record { given = elim u.given [ inl less ↦ inl (omega (arith, less)) | inr here ↦ inl (omega (arith, here.0)) ]; unnamed = u.unnamed; other = u.other }

    so : AreStanding (w.channels + 1) 0 w.stations (pending_of w.kept) [] (deed.host_begins (w.channels + 1) ∷ w.deeds)
    so = stands_fewer (stands_beside (stands_as is later) (deed.host_begins (w.channels + 1)) tt (λ key. refl)) [] (λ o has. absurd has)

-- some stations were dropped
pub record Dropped (w x : WorldState) : Type 0 where
  pub alone : x ≡ record w { stations = x.stations; deeds = x.deeds }
  pub still : Still w.stations w.deeds x.stations x.deeds

one_dropped : (w x : WorldState) (d : ℕ) → Dropped w x → Dropped w (dropping x d)
one_dropped w x d is = by (station_at x d) refl
  where
    by : (o : Option Of) → station_at x d ≡ o → Dropped w (option_map_or (λ (s : Of). with_station x d (station.drop_channel s (device_cut s.device).state)) o x)
    by None there = is
    by (Some s) there =
        let new : Of = station.drop_channel s (device_cut s.device).state in record {
          alone = ap (λ (y : WorldState). record y { stations = (with_station x d new).stations; deeds = (with_station x d new).deeds }) is.alone;
          still = still_then is.still (still_dropped x d s there (device_cut s.device).state);
        }

pub all_dropped : (ds : List ℕ) (w x : WorldState) → Dropped w x → Dropped w (fold dropping x ds)
all_dropped [] w x is = is
all_dropped (d ∷ ds) w x is = all_dropped ds w (dropping x d) (one_dropped w x d is)

cutting_stands : (w : WorldState) → IsStanding w → IsStanding (cutting w)
cutting_stands w is = subst (λ (x : WorldState). IsStanding (ended_with x)) (sym all.alone) so
  where
    cut : WorldState
    cut = fold dropping w (map (λ (e : ℕ × Of). e.0) w.stations)

    all : Dropped w cut
    all = all_dropped (map (λ (e : ℕ × Of). e.0) w.stations) w w (record { alone = refl; still = still_not w.stations w.deeds })

    unheld : (key : Key) → IsUnserved w.channels (w.client).asked w.stations (pending_of w.kept) key → IsUnserved w.channels (w.client).asked w.stations None key
    unheld key u = record { given = u.given; unnamed = u.unnamed; other = λ e. cc (e) }

    so : AreStanding w.channels (w.client).asked cut.stations None [] (deed.host_ends w.channels ∷ cut.deeds)
    so = stands_fewer (stands_beside (stands_still (stands_as is unheld) all.still) (deed.host_ends w.channels) tt (λ key. refl)) [] (λ o has. absurd has)

-- ---- a client sends a message of its own

client_sends_stands : (w : WorldState) → Orderly w → IsStanding w → IsStanding (client_sends_next w)
client_sends_stands w ordered is = by ((w.client).core).outbox refl
  where
    sent : (o : Outgoing) (others : List Outgoing) → ((w.client).core).outbox ≡ o ∷ others → (answers : Option Key) → o.answers ≡ answers
        → AreStanding w.channels (w.client).asked w.stations (pending_of w.kept) others (option_map_or (λ key. deed.completes key o.message) answers (deed.client_writes w.channels o.message) ∷ w.deeds)
    sent o others e answers a = by answers (subst (λ (x : Option Key). IsOut (IsUnserved w.channels (w.client).asked w.stations (pending_of w.kept)) x o.message) a (is.out o (subst (Has o) (sym e) (inl refl))))
      where
        less : AreStanding w.channels (w.client).asked w.stations (pending_of w.kept) others w.deeds
        less = stands_fewer is others (λ x has. subst (Has x) (sym e) (inr has))

        by : (x : Option Key) → IsOut (IsUnserved w.channels (w.client).asked w.stations (pending_of w.kept)) x o.message
            → AreStanding w.channels (w.client).asked w.stations (pending_of w.kept) others (option_map_or (λ key. deed.completes key o.message) x (deed.client_writes w.channels o.message) ∷ w.deeds)
        by None out = stands_beside less (deed.client_writes w.channels o.message) out (λ key. refl)
        by (Some key) out = stands_done less key o.message (λ q has. absurd (out.unnamed (came_is_named w ordered q key has))) (inl out)

    by : (messages : List Outgoing) → ((w.client).core).outbox ≡ messages → let r = core.send_from (w.client).core messages in IsStanding (client_sends_first w (record w.client { core = r.0 }, r.1))
    by [] e = is
    by (o ∷ others) e = sent o others e o.answers refl

-- ---- each part, and every run

collects_stands : (w : WorldState) (d : ℕ) (s after : Of) (x : Completion) → station_at w d ≡ Some s → station.collect s ≡ (after, Some x) → Orderly w → IsStanding w
    → IsStanding (client_sends (with_station w d after) (completes x.key (completion_message d x)) (completion_message d x))
collects_stands w d s after x there made ordered is = stands_done stands x.key m own (inr (came_is_named left so d x.key came))
  where
    left : WorldState
    left = with_station w d after

    m : List ℕ
    m = completion_message d x

    goes : Goes NoKey AnyJob (channel_of w) s after
    goes = subst (λ (r : Of × Option Completion). Goes NoKey AnyJob (channel_of w) s r.0) made (collected AnyJob (channel_of w) s ((ordered.held).on d s there))

    so : Orderly left
    so = still_orderly w d s after ordered there goes

    stands : AreStanding w.channels (w.client).asked left.stations (pending_of w.kept) ((w.client).core).outbox left.deeds
    stands = stands_still is (still_goes w d (channel_of w) s after there goes)

    first : (cs : List Completion) → s.ready ≡ cs → collect_first s cs ≡ (after, Some x) → Contains s.journal (Came x.key) × (after.journal ≡ s.journal ++ Sent x.key ∷ [])
    first [] e same = let nothing : None ≡ Some x = ap (λ (r : Of × Option Completion). r.1) same in absurd (cc (nothing))
    first (y ∷ ys) e same =
        let one : Some y ≡ Some x = ap (λ (r : Of × Option Completion). r.1) same in
        let equal : y ≡ x = cc in (
          subst (λ (z : Completion). Contains s.journal (Came z.key)) equal (ready_came (channel_of w) s ((ordered.held).on d s there) y ys e),
          ap (λ (r : Of × Option Completion). (r.0).journal) (sym same) ∙ ap (λ (z : Completion). s.journal ++ Sent z.key ∷ []) equal,
        )

    told : reverse (journal d left.deeds) ≡ s.journal ++ Sent x.key ∷ []
    told = (so.held).tied d after (has_here w.stations d after) ∙ (first s.ready refl made).1

    came : Has (Came x.key) (journal d left.deeds)
    came = contains_has (Came x.key) (journal d left.deeds) (subst (λ (js : List Item). Contains js (Came x.key)) (sym told) (Contains-append_left s.journal (Sent x.key ∷ []) (Came x.key) (first s.ready refl made).0))

    sent : Has (Sent x.key) (journal d left.deeds)
    sent = contains_has (Sent x.key) (journal d left.deeds) (subst (λ (js : List Item). Contains js (Sent x.key)) (sym told) (to_contains (s.journal ++ Sent x.key ∷ []) (Sent x.key) (has_right (Sent x.key) s.journal (Sent x.key ∷ []) (inl refl))))

    own : Stands left.deeds (completes x.key m)
    own q has =
        let (r, read, at_d) = came_read d x.key left.deeds (so.held).reads came in
        let (r', read', at_q) = came_read q x.key left.deeds (so.held).reads has in
        let both : Some r ≡ Some r' = sym read ∙ read' in
        let same : r ≡ r' = cc in
        subst (λ (y : ℕ). Has (Sent x.key) (journal y left.deeds)) (sym at_d ∙ ap (λ (y : Request). y.device) same ∙ at_q) sent

removes_stands : (c : ℕ) (w : WorldState) (d : ℕ) → OrderlyOn c w → IsStanding w → (o : Option Of) → station_at w d ≡ o → IsStanding (cut_by (told_removed w d) d o)
removes_stands c w d (ordered, at) is o there = by o there
  where
    told : WorldState
    told = told_removed w d

    so : Orderly told
    so = beside_open ordered at (deed.removes d) (λ q. refl) (λ q. refl) tt

    stands : IsStanding told
    stands = stands_own (stands_beside is (deed.removes d) tt (λ key. refl)) (adds_own ((w.client).core).outbox (removal_bytes (d ∷ [])) (removal_own (d ∷ [])))

    by : (o : Option Of) → station_at told d ≡ o → IsStanding (cut_by told d o)
    by None there = stands
    by (Some s) there =
        let on = (so.held).on d s there in
        stands_still stands (still_goes told d (channel_of told) s (station.remove s (device_cut s.device).state).0 there (removed AnyJob (channel_of told) s on (device_cut s.device).state (cuts_off s.device on.fit) (cut_fits s.device on.fit)))

adds_stands : (c : ℕ) (w : WorldState) (d : ℕ) → OrderlyOn c w → IsStanding w → (names : Option PrinterNames) (o : Option Of) → station_at w d ≡ o → IsStanding (announced_by (told_added (refreshed_by w d names) d) d o)
adds_stands c w d (ordered, at) is None o there =
    announced_stands (told_added w d) d o there (beside_open ordered at (deed.adds d) (λ q. refl) (λ q. refl) tt)
    (stands_own (stands_beside is (deed.adds d) tt (λ key. refl)) (adds_own ((w.client).core).outbox (list_bytes (listed_one w.client d)) (list_own (listed_one w.client d))))
adds_stands c w d (ordered, at) is (Some names) o there =
    let fresh : ClientCoreState = client.refresh w.client d (printer_data w.cache names) in
    announced_stands (told_added (refreshed_by w d (Some names)) d) d o there (beside_open ordered at (deed.adds d) (λ q. refl) (λ q. refl) tt)
    (stands_own (stands_beside is (deed.adds d) tt (λ key. refl)) (adds_own ((w.client).core).outbox (list_bytes (listed_one fresh d)) (list_own (listed_one fresh d))))

module _ (lines : List NumberedLine) (starves : Key → Bool) where
  part_stands : (w : WorldState) (p : Part) → MayBe lines starves w p → Orderly w → IsHandledIn w → IsStanding w → IsStanding (done starves w p)
  part_stands w (accepts a asked named t number) may ordered handled is = stands_beside is (deed.submits a named asked.op) tt (λ key. refl)
  part_stands w (refuses a asked cause) may ordered handled is = is
  part_stands w (hands_out a number t taken None) may ordered handled is = stands_beside is (deed.takes number) tt (λ key. refl)
  part_stands w (hands_out a number t taken (Some asked)) may ordered handled is = stands_beside is (deed.takes number) tt (λ key. refl)
  part_stands w (host_sends_one m) some ordered handled is = stands_beside is (deed.host_writes w.channels m) tt (λ key. refl)
  part_stands w (host_gets n) can ordered handled is = is
  part_stands w host_keeps_part none ordered handled is = is
  part_stands w (host_hears_one m rest) some ordered handled is = stands_beside is (deed.host_reads w.channels m) tt (λ key. refl)
  part_stands w (tells_one n) may ordered handled is = stands_beside is (deed.tells n) tt (λ key. refl)
  part_stands w begins can ordered handled is = connects_stands w is
  part_stands w ends can ordered handled is = cutting_stands w is
  part_stands w (client_sends_one x o) made ordered handled is = subst (λ (r : ClientCoreState × Option Outgoing). IsStanding (client_sends_first w r)) made (client_sends_stands w ordered is)
  part_stands w (client_gets n) may ordered handled is = is
  part_stands w client_keeps_part none ordered handled is = is
  part_stands w (client_hears_one m rest) (kept, some) ordered handled is =
      let (c, at) = hears_open w ordered handled m rest some in hears_stands c (record w { to_client = (handling_by w.to_client (Some (m, rest))).0 }) m ordered at kept is
  part_stands w (tries_one k) some ordered handled is =
      let (c, at) = open_or_shut ((w.side).table).channel (λ none. cc ((ordered.shut none).kept_none, some)) in
      let x : WorldState = record w { kept = None } in
      putting_stands c x k.device k.job (while_open ordered at (λ l none. absurd (cc (none))), at) refl (ordered.kept_next k some) (subst (λ (o : Option Kept). StandsWith w (pending_of o)) some is)
  part_stands w (collects_one d s after x) (reached, idle, there, made) ordered handled is = collects_stands w d s after x there made ordered is
  part_stands w (takes_one d hand s after job) (free, there, made) ordered handled is =
      stands_still is (still_goes w d (channel_of w) s after there (subst (λ (r : Of × Given). Goes NoKey AnyJob (channel_of w) s r.0) made (taken AnyJob (channel_of w) s ((ordered.held).on d s there))))
  part_stands w (applies_one hand d job None) may ordered handled is = is
  part_stands w (applies_one hand d job (Some s)) (holds, there) ordered handled is =
      stands_still is (still_goes w d (channel_of w) s (station.apply s job w.moment (came_of starves w job s.device)).0 there (given_back AnyJob starves w s job tt ((ordered.held).on d s there)))
  part_stands w (removes_one d o) (can, there) ordered handled is =
      let (c, at) = opened ((w.side).table).channel (left (is_channel_open w) _ (left (is_channel_open w && _) _ can)) in removes_stands c w d (ordered, at) is o there
  part_stands w (adds_one d names o) (can, printers, there) ordered handled is =
      let (c, at) = opened ((w.side).table).channel (left (is_channel_open w) _ (left (is_channel_open w && _) _ can)) in adds_stands c w d (ordered, at) is names o there
  part_stands w (queues_one a) may ordered handled is = is
  part_stands w (idle_one number) may ordered handled is = is
  part_stands w draws_one may ordered handled is = is

begins_standing : (lines : List NumberedLine) → IsStanding (world_of lines)
begins_standing lines = subst IsStanding (sym (begun_by lines _ (lines_begin lines))) (first (declared_devices (bare_lines lines)) (applications_of (bare_lines lines)))
  where
    first : (es : List (ℕ × Declared)) (applications : List (ℕ × ApplicationState)) → IsStanding (new_world es applications)
    first es applications = record { stand = tt; out = λ o has. absurd has; closed = λ key done. absurd (cc (done)) }

pub behind_standing : (lines : List NumberedLine) (starves : Key → Bool) (w : WorldState) → AreFit (declared_devices (bare_lines lines)) → IsBehind lines starves w → IsStanding w
behind_standing lines starves w fit behind =
    by_parts lines starves IsStanding (begins_standing lines)
    (λ x p before after may is. let both = behind_orderly lines starves x fit before in part_stands lines starves x p may both.0 both.1 is) w behind

pub reached_standing : (lines : List NumberedLine) (starves : Key → Bool) (w : WorldState) → AreFit (declared_devices (bare_lines lines)) → Reached lines starves w → IsStanding w
reached_standing lines starves w fit reached = behind_standing lines starves w fit (reached_behind lines starves w reached)
