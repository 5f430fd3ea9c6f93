-- What each part of a move leaves in turn, and so every run.
use Rattle.std.proofs.Common.{◌==◌, eqb-true, cond, Bool, List, [], ap, arith, false, inl, inr, map, refl, reverse, subst, sym, true, ℕ, ◌+◌, ◌-◌, ◌&&◌, ◌++◌, ◌<◌, ◌∙◌, ◌∷◌, ◌≡◌, lit<, ◌^◌}
use Rattle.std.specs.Prelude.{Contains, find, nat_le, nat_lt, not, Err, None, Ok, Option, Result, Some, filter, fold, length, if◌then◌else◌, is_some}
use Rattle.std.specs.List.{cons_option}
use Rattle.std.specs.Option.{option_map_or}
use Rattle.rd_base.specs.Statuses.{insufficient_resources, no_such_device}
use Rattle.rd_base.specs.declared.journal.Item.{Item}
use Rattle.rd_base.specs.declared.journal.Item.TheVariants.{Came, Sent}
use Rattle.rd_base.specs.declared.journal.Key.{Key}
use Rattle.rd_base.specs.declared.status.Status.{Status}
use Rattle.rd_client.specs.Core as client
use Rattle.rd_client.specs.Core.{ClientCoreState, Outgoing, client_hear, job_of, listed, listed_one}
use Rattle.rd_client.specs.declared.heard.Heard.{Heard}
use Rattle.rd_client.specs.declared.heard.Heard.TheVariants as heard
use Rattle.rd_core.specs.Core as core
use Rattle.rd_devices.specs.DeviceList.{list_bytes}
use Rattle.rd_devices.specs.Removal.{removal_bytes}
use Rattle.rd_devices.specs.declared.list.Announce.{Announce}
use Rattle.rd_drive.specs.Outcome.{fault}
use Rattle.rd_drive.specs.Ranged.{IsReplyInRange}
use Rattle.rd_drive.specs.declared.plan.Job.{Job}
use Rattle.rd_hello.specs.declared.client.ClientState.{ClientState}
use Rattle.rd_hello.specs.declared.end_fault.EndFault.{EndFault}
use Rattle.rd_irp.specs.Fits.{BodyFits, kind_of}
use Rattle.rd_irp.specs.declared.completion.Head.{Head}
use Rattle.rd_irp.specs.declared.completion.Reply.{Reply}
use Rattle.rd_irp.specs.declared.request.Request.{Request}
use Rattle.rd_journals.proofs.AskingLemmas.{HeardAs, hears}
use Rattle.rd_journals.proofs.CameLemmas.{came_true, fines, was_ready}
use Rattle.rd_journals.proofs.ChannelLemmas.{all_refreshed, begun_on, connects_orderly}
use Rattle.rd_journals.proofs.ClientLemmas.{channel_of, next_job, read_by}
use Rattle.rd_journals.proofs.CompletionLemmas.{completes as completes_with, lost_ranged, ready_completes, runs_good}
use Rattle.rd_journals.proofs.HeldLemmas.{stored_deeds}
use Rattle.rd_journals.proofs.HostLemmas.{hears_same, sends_same}
use Rattle.rd_journals.proofs.OrderlyLemmas.{ready_came}
use Rattle.rd_journals.proofs.RunLemmas.{IsHandledIn, behind_orderly, hears_open, not_opened}
use Rattle.rd_journals.proofs.WorkLemmas.{behind_working, grown_more}
use Rattle.rd_journals.proofs.WritingLemmas.{AddsOwn, adds_own, hear_adds, list_own, removal_own}
use Rattle.rd_journals.specs.Jobs.{AreFine, FitsCompletion, IsCompletionOf}
use Rattle.rd_journals.specs.Orderly.{IsNext, Orderly}
use Rattle.rd_journals.specs.Stations.{AreFit}
use Rattle.rd_pending.proofs.Neutral.{channel_kept}
use Rattle.rd_pending.specs.History as call
use Rattle.rd_pending.specs.Table.{TableState}
use Rattle.rd_pending.specs.declared.calls.SubmitNo.{SubmitNo}
use Rattle.rd_pending.specs.declared.calls.TakeNo.{TakeNo}
use Rattle.rd_pending.specs.declared.calls.Taken.{Taken}
use Rattle.rd_journals.proofs.RunsInsides.{all_dropped_inside, hears_inside, stationed}
use Rattle.rd_journals.proofs.RunsParts.{IsBehind, MayBe, Part, accepts, adds_one, announced_by, applies_one, begins, by_parts, client_gets, client_hears_one, client_keeps_part, client_sends_one, collects_one, cut_by, done, draws_one, ends, hands_out, host_gets, host_hears_one, host_keeps_part, host_sends_one, idle_one, queues_one, reached_behind, refreshed_by, refuses, removes_one, takes_one, tells_one, told_added, told_removed, tries_one}
use Rattle.rd_journals.specs.RunsMoves.{Reached}
use Rattle.rd_journals.specs.RunsPremises.{RunPremises}
use Rattle.rd_script.specs.declared.line.NumberedLine.{NumberedLine}
use Rattle.rd_station.specs.Station as station
use Rattle.rd_station.specs.Station.{StationState, collect_first, held, put_refusal, put_unless}
use Rattle.rd_station.specs.declared.answers.Completion.{Completion}
use Rattle.rd_station.specs.declared.refusals.PutWhy.{PutWhy}
use Rattle.rd_station.specs.declared.refusals.PutWhy.TheVariants as why
use Rattle.rd_world.proofs.BeginningLemmas.{begun_by}
use Rattle.rd_deeds.proofs.Journals.{contains_has}
use Rattle.rd_deeds.proofs.Messages.{head_read}
use Rattle.rd_world.proofs.OpeningLemmas.{lines_begin}
use Rattle.rd_declared.specs.Devices.{Declared, PrinterNames, device_cut, printer_data}
use Rattle.rd_world.specs.Events.{came_of, client_has_message, client_sends_first, client_sends_next, completion_message, connects, cutting, dropping, is_empty}
use Rattle.rd_world.specs.Hearing.{after_opening, announcing, answers_directly, client_hears, heard_by_client, is_device_told, put_at, put_by, putting}
use Rattle.rd_declared.specs.Declaring.{bare_lines, declared_devices}
use Rattle.rd_world.specs.Run.{world_of}
use Rattle.rd_deeds.specs.Talk as deed
use Rattle.rd_deeds.specs.Talk.{Deed, EndsWith, Has, client_read, client_reads, client_writes, completes, head_in, is_request, journal, request_at, request_in, stores}
use Rattle.rd_deeds.specs.Told.{CompletesWith, came, is_of_device, requests_to, told, told_at, unserved}
use Rattle.rd_world.specs.World.{Kept, WorldState, client_sends, handling_by, station_at, with_station}
use Rattle.rd_declared.specs.declared.device.SessionDevice.{SessionDevice}
use Rattle.rd_directs.proofs.TurnLemmas.{none_before, said_ends, turn_left, turns_asks, turns_came, turns_direct, turns_inside, turns_other, turns_own, turns_said, turns_wrong}
use Rattle.rd_directs.specs.Turns.{InTurn, MeetNone, MeetsNone, NoneHeld, DirectTurn, TurnIn, Turns, kept_at, never, said}

abbrev Of : Type 0
Of = StationState SessionDevice

abbrev now : WorldState → Option ℕ
now w = ((w.side).table).channel

-- ---- why a job can't come

abbrev IsOdd : PutWhy → Type 0
IsOdd (why.Duplicate key) = Unit {0}
IsOdd why.Memory = Unit {0}
IsOdd _ = ⊥

found : (id : ℕ) (xs : List (Key × ℕ)) (x : Key × ℕ) → find (λ (other : Key × ℕ). other.1 == id) xs ≡ Some x → Has x xs × (x.1 ≡ id)
found id [] x e = absurd (cc e)
found id (y ∷ ys) x e = by (y.1 == id) refl e (λ e. found id ys x e)
  where
    by : (b : Bool) → (y.1 == id) ≡ b → cond b (Some y) (find (λ (other : Key × ℕ). other.1 == id) ys) ≡ Some x → (find (λ (other : Key × ℕ). other.1 == id) ys ≡ Some x → Has x ys × (x.1 ≡ id)) → Has x (y ∷ ys) × (x.1 ≡ id)
    by true f e later = let same : y ≡ x = cc in (inl (sym same), ap (λ (z : Key × ℕ). z.1) (sym same) ∙ eqb-true y.1 id f)
    by false f e later = let so = later e in (inr so.0, so.1)

not_odd : (s : Of) (job : Job) → ((x : Key × ℕ) → Has x (held s) → x.1 ≡ job.completion → ⊥) → (cause : PutWhy) → put_refusal s job ≡ Some cause → IsOdd cause → ⊥
not_odd s job none cause e odd = by (not s.live) (find (λ (other : Key × ℕ). other.1 == job.completion) (held s)) refl (nat_le station.max_held (length (held s))) (nat_lt (station.max_entries - 3) (station.entry_count s)) e
  where
    by : (a : Bool) (o : Option (Key × ℕ)) → find (λ (other : Key × ℕ). other.1 == job.completion) (held s) ≡ o → (b c : Bool)
        → cond a (Some why.Gone) (option_map_or (λ (other : Key × ℕ). Some (why.Duplicate other.0)) o (cond b (Some (why.Full (length (held s)))) (cond c (Some (why.Worn (station.entry_count s))) None))) ≡ Some cause → ⊥
    by true o f b c e = let same : cause ≡ why.Gone = cc in subst IsOdd same odd
    by false (Some x) f b c e = let at = found job.completion (held s) x f in none x at.0 at.1
    by false None f true c e = let same : cause ≡ why.Full (length (held s)) = cc in subst IsOdd same odd
    by false None f false true e = let same : cause ≡ why.Worn (station.entry_count s) = cc in subst IsOdd same odd
    by false None f false false e = cc e

-- ---- a job comes

direct_device : (r : Request) (reply : Reply) (m : List ℕ) → CompletesWith r reply m → (q : ℕ) → is_of_device q m ≡ (r.device == q)
direct_device r reply m done q =
    let h : Head = record { device = r.device; completion = r.completion; status = reply.status } in
    let read = head_read h m done.head in
    let is_head : head_in m ≡ Some h = rw read.1 refl in
    ap (λ (o : Option Head). option_map_or (λ (h : Head). h.device == q) o false) is_head

directly : (r : Request) (st : Status) → FitsCompletion r → st.0 < 2 ^ 32 → BodyFits (kind_of r.op) st (fault st).body → (d : ℕ) (job : Job) (c index : ℕ) → d ≡ r.device → job ≡ job_of r c index → CompletesWith r (fault st) (client.direct_bytes job d st)
directly r st room small fits d job c index device is =
    subst (λ (x : ℕ × Job). CompletesWith r (fault st) (client.direct_bytes x.1 x.0 st)) (λ i. (sym device i, sym is i)) (completes_with r (fault st) room (small, tt) fits)

putting_turns : (w : WorldState) (d : ℕ) (job : Job) → w.kept ≡ None → AreFine FitsCompletion w.deeds → IsNext w.stations w.channels (w.client).asked w.deeds d job → NoneHeld w d job.completion
    → Turns (Some (record { device = d; job = job })) ((w.client).core).outbox w.deeds ((w.client).core).fault (now w) → InTurn (putting w d job)
putting_turns w d job free fines next none is = at (station_at w d) refl
  where
    k : Kept
    k = record { device = d; job = job }

    answered : (st : Status) → st.0 < 2 ^ 32 → ((r : Request) → BodyFits (kind_of r.op) st (fault st).body) → InTurn (answers_directly w d job st)
    answered st small fits =
        let r : Request = next.request in
        let m : List ℕ = client.direct_bytes job d st in
        let done : CompletesWith r (fault st) m = directly r st (fines w.channels job.key.index r next.read) small (fits r) d job w.channels job.key.index next.device_is next.job_is in
        subst (λ (x : Option Kept). Turns x (((w.client).core).outbox ++ record { message = m; answers = Some job.key } ∷ []) w.deeds ((w.client).core).fault (now w)) (sym free)
        (turns_direct k m (λ q. direct_device r (fault st) m done q ∙ ap (λ (n : ℕ). n == q) (sym next.device_is)) is)

    gone : InTurn (answers_directly w d job no_such_device)
    gone = answered no_such_device (lit< tt) (λ r. (refl, tt))

    short : InTurn (answers_directly w d job insufficient_resources)
    short = answered insufficient_resources (lit< tt) (λ r. (refl, tt))

    told_gone : (b : Bool) → InTurn (answers_directly w d job (if b then insufficient_resources else no_such_device))
    told_gone true = short
    told_gone false = gone

    here : (s : Of) → station_at w d ≡ Some s → (refusal : Option PutWhy) → put_refusal s job ≡ refusal → InTurn (put_by w d job (put_unless s job refusal))
    here s there None e =
        let stored = stored_deeds w d s (put_unless s job None).0 there (Came job.key ∷ []) refl in
        subst (λ (ds : List Deed). Turns w.kept ((w.client).core).outbox ds ((w.client).core).fault (now w)) (sym stored)
        (subst (λ (x : Option Kept). Turns x ((w.client).core).outbox (stores d (Came job.key) ∷ w.deeds) ((w.client).core).fault (now w)) (sym free) (turns_came k is))
    here s there (Some why.Gone) e = told_gone (is_device_told w d)
    here s there (Some (why.Full count)) e = is
    here s there (Some (why.Worn count)) e = short
    here s there (Some (why.Duplicate key)) e = absurd (not_odd s job (none s there) (why.Duplicate key) e tt)
    here s there (Some why.Memory) e = absurd (not_odd s job (none s there) why.Memory e tt)

    at : (o : Option Of) → station_at w d ≡ o → InTurn (put_at w d job o)
    at None there = gone
    at (Some s) there = here s there (put_refusal s job) refl

-- ---- a message is heard

announced_turns : (w : WorldState) (d : ℕ) (o : Option Of) → InTurn w → InTurn (announced_by w d o)
announced_turns w d None is = is
announced_turns w d (Some s) is = turns_inside w (with_station w d (station.announce s).0) (stationed w d (station.announce s).0) is

all_announced : (list : List Announce) (w : WorldState) → InTurn w → InTurn (fold (λ x (a : Announce). announcing x a.id) w list)
all_announced [] w is = is
all_announced (a ∷ list) w is = all_announced list (announcing w a.id) (announced_turns w a.id (station_at w a.id) is)

hears_turns : (c : ℕ) (w : WorldState) (m : List ℕ) → Orderly w → now w ≡ Some c → w.kept ≡ None → AreFine FitsCompletion (client_reads w.channels m ∷ w.deeds) → ((r : Request) → request_in m ≡ Some r → NoneHeld w r.device r.completion)
    → InTurn w → InTurn (client_hears w m)
hears_turns c w m ordered opened free fines none is = by (client_hear w.client m) (hears w.client m) (hear_adds w.client m)
  where
    read : ClientCoreState → WorldState
    read x = read_by c w m ordered opened free x

    before : Turns None ((w.client).core).outbox w.deeds ((w.client).core).fault (now w)
    before = subst (λ (k : Option Kept). Turns k ((w.client).core).outbox w.deeds ((w.client).core).fault (now w)) free is

    grown : (x : ClientCoreState) (k : Option Kept) (f : Option EndFault) → AddsOwn ((w.client).core).outbox (x.core).outbox → (x.core).fault ≡ f → Turns k ((w.client).core).outbox (client_reads w.channels m ∷ w.deeds) f (now w)
        → Turns k (x.core).outbox (client_reads w.channels m ∷ w.deeds) (x.core).fault (now w)
    grown x k f (more, same, own) e t =
        subst (λ (g : Option EndFault). Turns k (x.core).outbox (client_reads w.channels m ∷ w.deeds) g (now w)) (sym e) (turns_said (x.core).outbox more same (λ o has. (own o has).0) t)

    kept : (x : ClientCoreState) → Turns None (x.core).outbox (client_reads w.channels m ∷ w.deeds) (x.core).fault (now w) → InTurn (read x)
    kept x t = subst (λ (k : Option Kept). Turns k (x.core).outbox (client_reads w.channels m ∷ w.deeds) (x.core).fault (now w)) (sym free) t

    opening : (shake : ClientState) (x : WorldState) → InTurn x → InTurn (after_opening shake x)
    opening shake x so = go (client.becomes_ready shake ((x.client).core).shake)
      where
        go : (b : Bool) → InTurn (if b then fold (λ y (a : Announce). announcing y a.id) x (listed x.client) else x)
        go true = all_announced (listed x.client) x so
        go false = so

    by : (r : ClientCoreState × Result Heard EndFault) → HeardAs w.client m r → AddsOwn ((w.client).core).outbox ((r.0).core).outbox → InTurn (heard_by_client ((w.client).core).shake (read r.0) r.1)
    by (x, Err wrong) (same, asked, faulty) grew = kept x (grown x None (x.core).fault grew refl (turns_wrong w.channels m before (x.core).fault (λ fine. cc (faulty, ap is_some fine))))
    by (x, Ok (heard.Print n)) (same, asked, other, fault) grew = let t = kept x (grown x None ((w.client).core).fault grew fault (turns_other w.channels m before other)) in record { at = t.at }
    by (x, Ok heard.Nothing) (same, asked, other, fault) grew = opening ((w.client).core).shake (read x) (kept x (grown x None ((w.client).core).fault grew fault (turns_other w.channels m before other)))
    by (x, Ok (heard.Ask device job)) (same, asked, one, faulty, fine, r, spelled, named, is_job) grew =
        let next : IsNext w.stations w.channels x.asked (client_reads w.channels m ∷ w.deeds) device job =
        subst (λ (y : ℕ × Job). IsNext w.stations w.channels x.asked (client_reads w.channels m ∷ w.deeds) y.0 y.1) (λ i. (sym named i, sym is_job i)) (next_job c w m ordered opened free x r asked spelled one fine) in
        let k : Kept = record { device = device; job = job } in
        let t : Turns (Some k) ((w.client).core).outbox (client_reads w.channels m ∷ w.deeds) ((w.client).core).fault (now w) =
        turns_asks w.channels m before k r fine (opened ∙ ap (λ (n : ℕ). Some n) (ordered.same_opened c opened)) one spelled named (ap (λ (j : Job). j.key.channel) is_job ∙ ordered.same_channel) (ordered.counted fine ∙ ap (λ (j : Job). j.key.index) (sym is_job)) in
        putting_turns (read x) device job free fines next
        (λ s there y has e. none r spelled s (ap (λ (n : ℕ). station_at w n) (sym named) ∙ there) y has (e ∙ ap (λ (j : Job). j.completion) is_job))
        (grown x (Some k) ((w.client).core).fault grew faulty t)

-- ---- channels

connects_turns : (w : WorldState) → Orderly w → now w ≡ None → InTurn w → InTurn (connects w)
connects_turns w ordered none is = subst (λ (x : WorldState). InTurn (begun_on w x)) (sym (all_refreshed (map (λ (e : ℕ × PrinterNames). e.0) w.printers) w)) (record { at = so })
  where
    after : Orderly (connects w)
    after = connects_orderly w ordered none

    empty : Turns w.kept [] w.deeds ((w.client).core).fault (now w)
    empty = subst (λ (os : List Outgoing). Turns w.kept os w.deeds ((w.client).core).fault (now w)) (ordered.shut none).answers_none is

    so : (c d : ℕ) → TurnIn w.kept [] (deed.host_begins (w.channels + 1) ∷ w.deeds) None (now (connects w)) c d
    so c d =
        let t = empty.at c d in
        let line : List ℕ = cons_option (kept_at c d w.kept) (told c d w.deeds) in
        record {
          others = t.others;
          stands = t.stands;
          all = λ fine opens.
              let at : c ≡ w.channels + 1 = after.same_opened c opens in
              none_before t.others (never c (journal d w.deeds) line) (sym t.stands ∙ ap (λ (ms : List (List ℕ)). never c (journal d w.deeds) (requests_to d ms)) (ordered.unread c (omega (arith, at))));
        }

left_over : (c d : ℕ) (k : Option ℕ) (os : List Outgoing) (line : List ℕ) → EndsWith (cons_option k (said c d os line)) line
left_over c d None os line = said_ends c d os line
left_over c d (Some n) os line = let (first, same) = said_ends c d os line in (n ∷ first, ap (λ (xs : List ℕ). n ∷ xs) same)

cutting_turns : (w : WorldState) → InTurn w → InTurn (cutting w)
cutting_turns w is = record { at = so }
  where
    cut : WorldState
    cut = fold dropping w (map (λ (e : ℕ × Of). e.0) w.stations)

    dropped : Turns w.kept ((w.client).core).outbox cut.deeds ((w.client).core).fault (now w)
    dropped = turns_inside w cut (all_dropped_inside (map (λ (e : ℕ × Of). e.0) w.stations) w) is

    so : (c d : ℕ) → TurnIn None [] (deed.host_ends cut.channels ∷ cut.deeds) ((cut.client).core).fault None c d
    so c d =
        let (first, same) = left_over c d (kept_at c d w.kept) ((w.client).core).outbox (told c d cut.deeds) in
        turn_left first (told c d cut.deeds) same (λ fine opens. cc opens) (dropped.at c d)

-- ---- a client sends

sent_one : {k : Option Kept} {os : List Outgoing} {deeds : List Deed} {f : Option EndFault} {o : Option ℕ} (channel : ℕ) (m : List ℕ) (answers : Option Key)
    → ((c d : ℕ) → DirectTurn c (journal d deeds) (requests_to d (client_read c deeds)) (cons_option (kept_at c d k) (said c d os (cons_option (told_at c d (option_map_or (λ key. completes key m) answers (client_writes c m))) (told c d deeds)))) f o)
    → Turns k os (option_map_or (λ key. completes key m) answers (client_writes channel m) ∷ deeds) f o
sent_one channel m None is = record { at = is }
sent_one channel m (Some key) is = record { at = is }

client_sends_turns : (w : WorldState) → InTurn w → InTurn (client_sends_next w)
client_sends_turns w is = by ((w.client).core).outbox refl
  where
    first : (o : Outgoing) (others : List Outgoing) → ((w.client).core).outbox ≡ o ∷ others
        → Turns w.kept others (option_map_or (λ key. completes key o.message) o.answers (client_writes w.channels o.message) ∷ w.deeds) ((w.client).core).fault (now w)
    first o others e = let t : Turns w.kept (o ∷ others) w.deeds ((w.client).core).fault (now w) = subst (λ (os : List Outgoing). Turns w.kept os w.deeds ((w.client).core).fault (now w)) e is in sent_one w.channels o.message o.answers t.at

    by : (messages : List Outgoing) → ((w.client).core).outbox ≡ messages → let r = core.send_from (w.client).core messages in InTurn (client_sends_first w (record w.client { core = r.0 }, r.1))
    by [] e = is
    by (o ∷ others) e = first o others e

no_message : (os : List Outgoing) → not (is_empty os) ≡ false → os ≡ []
no_message [] e = refl
no_message (o ∷ os) e = absurd (cc e)

collects_turns : (w : WorldState) (d : ℕ) (s after : Of) (x : Completion) → station_at w d ≡ Some s → station.collect s ≡ (after, Some x) → client_has_message w ≡ false → Orderly w → IsCompletionOf w.deeds d x → InTurn w
    → InTurn (client_sends (with_station w d after) (completes x.key (completion_message d x)) (completion_message d x))
collects_turns w d s after x there made idle ordered of is =
    subst (λ (os : List Outgoing). Turns w.kept os (completes x.key m ∷ left.deeds) ((w.client).core).fault (now w)) (sym (no_message ((w.client).core).outbox idle)) (record { at = so })
  where
    m : List ℕ
    m = completion_message d x

    left : WorldState
    left = with_station w d after

    first : (cs : List Completion) → s.ready ≡ cs → collect_first s cs ≡ (after, Some x) → Contains s.journal (Came x.key) × (after.journal ≡ s.journal ++ Sent x.key ∷ [])
    first [] e same = let nothing : None ≡ Some x = ap (λ (r : Of × Option Completion). r.1) same in absurd (cc (nothing))
    first (y ∷ ys) e same =
        let one : Some y ≡ Some x = ap (λ (r : Of × Option Completion). r.1) same in
        let equal : y ≡ x = cc in (
          subst (λ (z : Completion). Contains s.journal (Came z.key)) equal (ready_came (channel_of w) s ((ordered.held).on d s there) y ys e),
          ap (λ (r : Of × Option Completion). (r.0).journal) (sym same) ∙ ap (λ (z : Completion). s.journal ++ Sent z.key ∷ []) equal,
        )

    stored : left.deeds ≡ stores d (Sent x.key) ∷ w.deeds
    stored = stored_deeds w d s after there (Sent x.key ∷ []) (first s.ready refl made).1

    came_w : came (x.key).channel (journal d w.deeds) (x.key).index ≡ true
    came_w = came_true x.key (journal d w.deeds) (contains_has (Came x.key) (journal d w.deeds) (subst (λ (js : List Item). Contains js (Came x.key)) (sym ((ordered.held).tied d s there)) (first s.ready refl made).0))

    came_left : came (x.key).channel (journal d left.deeds) (x.key).index ≡ true
    came_left = subst (λ (ds : List Deed). came (x.key).channel (journal d ds) (x.key).index ≡ true) (sym stored) (by (d == d))
      where
        by : (b : Bool) → came (x.key).channel (cons_option (cond b (Some (Sent x.key)) None) (journal d w.deeds)) (x.key).index ≡ true
        by true = came_w
        by false = came_w

    own : (q : ℕ) → is_of_device q m ≡ (d == q)
    own q = direct_device of.request x.reply m of.completes q ∙ ap (λ (n : ℕ). n == q) of.device

    before : Turns w.kept [] left.deeds ((w.client).core).fault (now w)
    before = subst (λ (os : List Outgoing). Turns w.kept os left.deeds ((w.client).core).fault (now w)) (no_message ((w.client).core).outbox idle) (turns_inside w left (stationed w d after) is)

    dropped : (c : ℕ) (j : List Item) (k : Option ℕ) (n : ℕ) (line : List ℕ) → came c j n ≡ true → never c j (cons_option k (n ∷ line)) ≡ never c j (cons_option k line)
    dropped c j None n line e = ap (λ (b : Bool). cond (not b) (n ∷ never c j line) (never c j line)) e
    dropped c j (Some i) n line e = ap (λ (b : Bool). cond (not (came c j i)) (i ∷ cond (not b) (n ∷ never c j line) (never c j line)) (cond (not b) (n ∷ never c j line) (never c j line))) e

    so : (c q : ℕ) → TurnIn w.kept [] (completes x.key m ∷ left.deeds) ((w.client).core).fault (now w) c q
    so c q = by ((x.key).channel == c) refl (is_of_device q m) (own q)
      where
        there_now : ((x.key).channel == c) ≡ true → (d == q) ≡ true → came c (journal q left.deeds) (x.key).index ≡ true
        there_now f g = subst (λ (y : ℕ). came y (journal q left.deeds) (x.key).index ≡ true) (eqb-true (x.key).channel c f) (subst (λ (y : ℕ). came (x.key).channel (journal y left.deeds) (x.key).index ≡ true) (eqb-true d q g) came_left)

        by : (a : Bool) → ((x.key).channel == c) ≡ a → (b : Bool) → b ≡ (d == q)
            → DirectTurn c (journal q left.deeds) (requests_to q (client_read c left.deeds)) (cons_option (kept_at c q w.kept) (cons_option (cond (a && b) (Some (x.key).index) None) (told c q left.deeds))) ((w.client).core).fault (now w)
        by true f true g =
            let t = before.at c q in
            record { others = t.others; stands = t.stands ∙ ap (λ (zs : List ℕ). t.others ++ zs) (sym (dropped c (journal q left.deeds) (kept_at c q w.kept) (x.key).index (told c q left.deeds) (there_now f (sym g)))); all = t.all }
        by true f false g = before.at c q
        by false f b g = before.at c q

-- ---- devices go and come

removes_turns : (w : WorldState) (d : ℕ) (o : Option Of) → InTurn w → InTurn (cut_by (told_removed w d) d o)
removes_turns w d o is = by o
  where
    told_it : InTurn (told_removed w d)
    told_it = let (more, same, own) = adds_own ((w.client).core).outbox (removal_bytes (d ∷ [])) (removal_own (d ∷ [])) in turns_said _ more same (λ x has. (own x has).0) (turns_own w.deeds (deed.removes d) tt is)

    by : (o : Option Of) → InTurn (cut_by (told_removed w d) d o)
    by None = told_it
    by (Some s) = let new : Of = (station.remove s (device_cut s.device).state).0 in turns_inside (told_removed w d) (with_station (told_removed w d) d new) (stationed (told_removed w d) d new) told_it

adds_turns : (w : WorldState) (d : ℕ) (names : Option PrinterNames) (o : Option Of) → InTurn w → InTurn (announced_by (told_added (refreshed_by w d names) d) d o)
adds_turns w d None o is =
    let (more, same, own) = adds_own ((w.client).core).outbox (list_bytes (listed_one w.client d)) (list_own (listed_one w.client d)) in
    announced_turns (told_added w d) d o (turns_said _ more same (λ x has. (own x has).0) (turns_own w.deeds (deed.adds d) tt is))
adds_turns w d (Some names) o is =
    let fresh : ClientCoreState = client.refresh w.client d (printer_data w.cache names) in
    let (more, same, own) = adds_own ((w.client).core).outbox (list_bytes (listed_one fresh d)) (list_own (listed_one fresh d)) in
    announced_turns (told_added (refreshed_by w d (Some names)) d) d o (turns_said _ more same (λ x has. (own x has).0) (turns_own w.deeds (deed.adds d) tt is))

-- ---- each part, and every run

opened_as : {k : Option Kept} {os : List Outgoing} {deeds : List Deed} {f : Option EndFault} {o o' : Option ℕ} → o ≡ o' → Turns k os deeds f o → Turns k os deeds f o'
opened_as {k = k} {os = os} {deeds = deeds} {f = f} same is = subst (λ (x : Option ℕ). Turns k os deeds f x) same is

module _ (lines : List NumberedLine) (starves : Key → Bool) (fit : AreFit (declared_devices (bare_lines lines))) (premises : RunPremises lines) where
  pub part_turns : (w : WorldState) (p : Part) → MayBe lines starves w p → IsBehind lines starves w → IsBehind lines starves (done starves w p) → Orderly w → IsHandledIn w → MeetsNone w p → InTurn w → InTurn (done starves w p)
  part_turns w (accepts a asked named t number) (reached, may, next, target, made) before after ordered handled none is =
      let so = opened_as (sym (channel_kept (call.submits a named asked.op) tt (w.side).table) ∙ ap (λ (r : TableState × Result ℕ SubmitNo). (r.0).channel) made) is in record { at = so.at }
  part_turns w (refuses a asked cause) may before after ordered handled none is = is
  part_turns w (hands_out a number t taken next) (waits, nexts, made) before after ordered handled none is = by next
    where
      so : Turns w.kept ((w.client).core).outbox w.deeds ((w.client).core).fault t.channel
      so = opened_as (sym (channel_kept (call.takes number) tt (w.side).table) ∙ ap (λ (r : TableState × Result Taken TakeNo). (r.0).channel) made) is

      by : (x : Option _) → InTurn (done starves w (hands_out a number t taken x))
      by None = record { at = so.at }
      by (Some asked) = record { at = so.at }
  part_turns w (host_sends_one m) may before after ordered handled none is = let so = opened_as (sym (sends_same w.side)) is in record { at = so.at }
  part_turns w (host_gets n) may before after ordered handled none is = is
  part_turns w host_keeps_part may before after ordered handled none is = is
  part_turns w (host_hears_one m rest) may before after ordered handled none is = let so = opened_as (sym (hears_same w.side m)) is in record { at = so.at }
  part_turns w (tells_one n) may before after ordered handled none is = record { at = is.at }
  part_turns w begins can before after ordered handled none is = connects_turns w ordered (not_opened (now w) can) is
  part_turns w ends may before after ordered handled none is = cutting_turns w is
  part_turns w (client_sends_one x o) made before after ordered handled none is = subst (λ (r : ClientCoreState × Option Outgoing). InTurn (client_sends_first w r)) made (client_sends_turns w is)
  part_turns w (client_gets n) may before after ordered handled none is = is
  part_turns w client_keeps_part may before after ordered handled none is = is
  part_turns w (client_hears_one m rest) (kept, some) before after ordered handled none is =
      let (c, at) = hears_open w ordered handled m rest some in
      let x : WorldState = record w { to_client = (handling_by w.to_client (Some (m, rest))).0 } in
      let inside = hears_inside x m in
      let read : List Deed = client_reads w.channels m ∷ w.deeds in
      hears_turns c x m ordered at kept (λ n k r e. fines lines starves premises (done starves w (client_hears_one m rest)) after n k r
      (subst (λ (ds : List Deed). request_at (client_read n ds) k ≡ Some r) (sym inside.deeds) (grown_more inside.more read n k r e))) none is
  part_turns w (tries_one k) some before after ordered handled none is =
      putting_turns (record w { kept = None }) k.device k.job refl (fines lines starves premises w before) (ordered.kept_next k some) none
      (subst (λ (x : Option Kept). Turns x ((w.client).core).outbox w.deeds ((w.client).core).fault (now w)) some is)
  part_turns w (collects_one d s after_it x) (reached, idle, there, made) before after ordered handled none is =
      collects_turns w d s after_it x there made idle ordered
      (ready_completes (declared_devices (bare_lines lines)) w ordered (behind_working FitsCompletion IsReplyInRange lost_ranged runs_good lines starves w fit before (fines lines starves premises w before)) d s there x (was_ready s after_it x made)) is
  part_turns w (takes_one d hand s after_it job) may before after ordered handled none is = turns_inside w (with_station w d after_it) (stationed w d after_it) is
  part_turns w (applies_one hand d job None) may before after ordered handled none is = is
  part_turns w (applies_one hand d job (Some s)) may before after ordered handled none is =
      let new : Of = (station.apply s job w.moment (came_of starves w job s.device)).0 in turns_inside w (with_station w d new) (stationed w d new) is
  part_turns w (removes_one d o) may before after ordered handled none is = removes_turns w d o is
  part_turns w (adds_one d names o) may before after ordered handled none is = adds_turns w d names o is
  part_turns w (queues_one a) may before after ordered handled none is = is
  part_turns w (idle_one number) may before after ordered handled none is = is
  part_turns w draws_one may before after ordered handled none is = is

pub begins_turns : (lines : List NumberedLine) → InTurn (world_of lines)
begins_turns lines = subst InTurn (sym (begun_by lines _ (lines_begin lines))) (record { at = λ c d. record { others = []; stands = refl; all = λ fine opens. refl } })

-- where a world is in turn, answers are in order
pub turns_end : (w : WorldState) → InTurn w → (c d : ℕ) → EndsWith (unserved c d w.deeds (requests_to d (client_read c w.deeds))) (unserved c d w.deeds (told c d w.deeds))
turns_end w is c d =
    let (first, same) = left_over c d (kept_at c d w.kept) ((w.client).core).outbox (told c d w.deeds) in
    let shut : DirectTurn c (journal d w.deeds) (requests_to d (client_read c w.deeds)) (told c d w.deeds) None None = turn_left first (told c d w.deeds) same (λ fine opens. cc opens) (is.at c d) in
    (shut.others, shut.stands)

pub reached_ends : (lines : List NumberedLine) (starves : Key → Bool) → AreFit (declared_devices (bare_lines lines)) → RunPremises lines → MeetNone lines starves → (w : WorldState) → Reached lines starves w
    → (c d : ℕ) → EndsWith (unserved c d w.deeds (requests_to d (client_read c w.deeds))) (unserved c d w.deeds (told c d w.deeds))
reached_ends lines starves fit premises meet w reached =
    turns_end w (by_parts lines starves InTurn (begins_turns lines)
    (λ x p before after may is. let both = behind_orderly lines starves x fit before in part_turns lines starves fit premises x p may before after both.0 both.1 (meet x p may before) is) w (reached_behind lines starves w reached))
