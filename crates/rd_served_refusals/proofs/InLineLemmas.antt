-- Each part of a history leaves requests in line, and so does each history.
use Rattle.std.proofs.Common.{◌≡◌, ◌∙◌, ◌⊎◌, refl, sym, ap, subst, inl, inr, ℕ, ◌<◌, ◌^◌, Bool, true, false, eqb-true, List, [], ◌∷◌, ◌++◌, map, reverse, Option, Some, None}
use Rattle.std.specs.Prelude.{Result, Ok, Err, filter_map}
use Rattle.std.specs.declared.alloc.AllocError.{AllocError}
use Rattle.std.specs.List.{AllByRecursion, cons_option}
use Rattle.std.proofs.lemmas.List.Elements.{All-nil}
use Rattle.rd_base.specs.declared.journal.Item.{Item}
use Rattle.rd_base.specs.declared.journal.Item.TheVariants.{Came}
use Rattle.rd_base.specs.declared.status.Status.{Status}
use Rattle.rd_client.specs.Core as client
use Rattle.rd_client.specs.Core.{ClientCoreState, Outgoing, client_hear, client_side, job_of, plain}
use Rattle.rd_client.specs.declared.heard.Heard.{Heard}
use Rattle.rd_client.specs.declared.heard.Heard.TheVariants.{Nothing, Ask, Print}
use Rattle.rd_core.specs.Hearing as hearing
use Rattle.rd_desk.specs.declared.calls.DeskCall.{DeskCall}
use Rattle.rd_desk.specs.declared.calls.DeskCall.TheVariants as desk
use Rattle.rd_desk.specs.declared.calls.DeskReply.{DeskReply}
use Rattle.rd_desk.specs.declared.calls.DeskReply.TheVariants as replied
use Rattle.rd_devices.specs.DeviceList.{list_bytes}
use Rattle.rd_devices.specs.Removal.{removal_bytes}
use Rattle.rd_drive.specs.declared.plan.Job.{Job}
use Rattle.rd_front.specs.Front.{with_new_data}
use Rattle.rd_front.specs.State.{FrontState, SessionStation}
use Rattle.rd_front.specs.declared.calls.FrontCall.{FrontCall}
use Rattle.rd_front.specs.declared.calls.FrontCall.TheVariants as call
use Rattle.rd_front.specs.declared.calls.FrontReply.{FrontReply}
use Rattle.rd_front.specs.declared.calls.FrontReply.TheVariants as reply
use Rattle.rd_hello.specs.declared.end_fault.EndFault.{EndFault}
use Rattle.rd_hello.specs.declared.end_fault.EndFault.TheVariants as fault
use Rattle.rd_irp.specs.Fits.{kind_of}
use Rattle.rd_irp.specs.declared.completion.Body.TheVariants.{Fault}
use Rattle.rd_irp.specs.declared.request.Request.{Request}
use Rattle.rd_served.proofs.JournalsAskingLemmas.{HeardAs, hears}
use Rattle.rd_served.proofs.JournalsCameLemmas.{came_true}
use Rattle.rd_served.proofs.JournalsShortLemmas.{came_read}
use Rattle.rd_served.proofs.JournalsWritingLemmas.{AddsOwn, hear_adds}
use Rattle.rd_served.specs.JournalsJobs.{IsJobOf}
use Rattle.rd_served.proofs.RunsInsides.{AreOwn}
use Rattle.rd_station.specs.Station as station
use Rattle.rd_station.specs.Station.{put_refusal, put_unless}
use Rattle.rd_station.specs.declared.answers.Completion.{Completion}
use Rattle.rd_station.specs.declared.refusals.PutWhy.{PutWhy}
use Rattle.rd_station.proofs.Members.{has_right}
use Rattle.rd_turn.specs.declared.object.Entry.{Entry}
use Rattle.rd_world.specs.Events.{completion_message}
use Rattle.rd_deeds.specs.Talk.{Deed, Has, adds, client_reads, completes, is_request, journal, removes, stores}
use Rattle.rd_deeds.specs.Told.{IsLeft, came, told_at}
use Rattle.rd_world.specs.World.{Kept}
use Rattle.rd_served.proofs.CauseLemmas.{AnyRequest, IsTold, job_told, tied_then, to_turned}
use Rattle.rd_served.proofs.KeyLemmas.{IsKeyed, IsUnder, both_true, ended_is, none_of, refreshed_calm}
use Rattle.rd_served.proofs.StandingLemmas.{IsKnownAt, direct_under, ended_outbox, part_known, parts_known, refreshed_more, sent_first, sent_none}
use Rattle.rd_served.specs.Deeds.{deeds_after, deeds_of, deeds_of_calls, stored, stored_each}
use Rattle.rd_served.specs.Histories.{HearBefore, HearsAs, HearsBefore, HistoryGoes, IsHeardBy, IsNewFront, stopped_by}
use Rattle.rd_served.specs.Parts.{AsksBy, CallsAt, Comes, FrontPart, PartGoes, PartsGo, asking_by, begins, calls, directs, ended_front, ends, forgets, heard_in, keeps, learns, misplaces, refreshes, sends, tells_gone, tells_there, tries, unwritten, writes}
use Rattle.rd_served.specs.Parts as part
use Rattle.rd_served.specs.Served.{Asking, Served, asks, hands, idle, refused}
use Rattle.rd_served_refusals.proofs.BytesLemmas.{is_of_own}
use Rattle.rd_served_refusals.proofs.LineLemmas.{past_owns, told_some}
use Rattle.rd_served_refusals.proofs.PointLemmas.{Lines, Point, lines_asks, lines_begun, lines_came, lines_direct, lines_ended, lines_lost, lines_other, lines_own, lines_owns, lines_said, lines_sent, lines_stopped, lines_written, lines_wrong, passes_now}
use Rattle.rd_served_refusals.specs.Heeding.{CallsHearBefore, EachEndsHeeded, EndsHeeded, HearInRoom, HearsInRoom, NamesInRoom, PartsEndHeeded, once_written, stopped_after}

abbrev Of : Type 0
Of = SessionStation

-- ---- points

-- the job that is under way, or else the one that is kept back
abbrev pub in_wait : Asking → Option Kept → Option Kept
in_wait idle kept = kept
in_wait (asks k) kept = Some k
in_wait (refused k cause) kept = Some k
in_wait (hands device c) kept = kept

abbrev outbox_of : Served → List Outgoing
outbox_of p = (((p.front).client).core).outbox

abbrev pub point_of : Served → Point
point_of p = record { kept = in_wait p.asking (p.front).kept; outbox = (((p.front).client).core).outbox; on = (p.front).on; channel = (p.front).channel }

abbrev pub IsInLine : Bool → Served → List Deed → Type 0
IsInLine s p deeds = Lines s (point_of p) deeds

under_waits : (a : Asking) (kept : Option Kept) (k : Kept) → IsUnder a k → in_wait a kept ≡ Some k
under_waits idle kept k none = absurd none
under_waits (asks other) kept k is = ap Some is
under_waits (refused other cause) kept k is = ap Some is
under_waits (hands device c) kept k none = absurd none

-- a point with these
at_point : (s : Bool) (q : Served) (k : Option Kept) (os : List Outgoing) (on : Bool) (channel : ℕ) (deeds : List Deed) → in_wait q.asking (q.front).kept ≡ k → outbox_of q ≡ os → (q.front).on ≡ on → (q.front).channel ≡ channel
    → Lines s (record { kept = k; outbox = os; on = on; channel = channel }) deeds → IsInLine s q deeds
at_point s q k os on channel deeds kept out is_on is_channel is =
    subst (λ (x : Point). Lines s x deeds) (λ i. record { kept = sym kept i; outbox = sym out i; on = sym is_on i; channel = sym is_channel i }) is

-- nothing of it changes
at_same : (s : Bool) (p q : Served) (deeds : List Deed) → in_wait q.asking (q.front).kept ≡ in_wait p.asking (p.front).kept → outbox_of q ≡ outbox_of p → (q.front).on ≡ (p.front).on → (q.front).channel ≡ (p.front).channel → IsInLine s p deeds → IsInLine s q deeds
at_same s p q deeds kept out on channel is = at_point s q (in_wait p.asking (p.front).kept) (outbox_of p) (p.front).on (p.front).channel deeds kept out on channel is

-- the same with another name for the job that waits
lines_as : (s : Bool) (x : Point) (k : Option Kept) (deeds : List Deed) → x.kept ≡ k → Lines s x deeds → Lines s (record x { kept = k }) deeds
lines_as s x k deeds same is = subst (λ (a : Option Kept). Lines s (record x { kept = a }) deeds) same is

-- ---- a client that did something, in a front

abbrev IsClientsOf : Served → Served → ℕ → Type 0
IsClientsOf p q unsent = q.front ≡ record p.front { client = (q.front).client; unsent = unsent }

record ClientLeft (p q : Served) : Type 0 where
  kept : (q.front).kept ≡ (p.front).kept
  on : (q.front).on ≡ (p.front).on
  channel : (q.front).channel ≡ (p.front).channel

client_left : (p q : Served) (unsent : ℕ) → IsClientsOf p q unsent → ClientLeft p q
client_left p q unsent is = record { kept = ap (λ (s : FrontState). s.kept) is; on = ap (λ (s : FrontState). s.on) is; channel = ap (λ (s : FrontState). s.channel) is }

waits_same : (p q : Served) → q.asking ≡ p.asking → (q.front).kept ≡ (p.front).kept → in_wait q.asking (q.front).kept ≡ in_wait p.asking (p.front).kept
waits_same p q asking kept = λ i. in_wait (asking i) (kept i)

-- the client did the same that it had done
client_same : (s : Bool) (p q : Served) (deeds : List Deed) (unsent : ℕ) → IsClientsOf p q unsent → q.asking ≡ p.asking → outbox_of q ≡ outbox_of p → IsInLine s p deeds → IsInLine s q deeds
client_same s p q deeds unsent client_is asking out is =
    let left = client_left p q unsent client_is in at_same s p q deeds (waits_same p q asking left.kept) out left.on left.channel is

-- it has more to write, that answers nothing
client_said : (s : Bool) (p q : Served) (deeds : List Deed) (unsent : ℕ) (m : List ℕ) → IsClientsOf p q unsent → q.asking ≡ p.asking → outbox_of q ≡ outbox_of p ++ plain m ∷ [] → IsInLine s p deeds → IsInLine s q deeds
client_said s p q deeds unsent m client_is asking out is =
    let left = client_left p q unsent client_is in
    at_point s q (in_wait p.asking (p.front).kept) (outbox_of p ++ plain m ∷ []) (p.front).on (p.front).channel deeds (waits_same p q asking left.kept) out left.on left.channel
    (lines_said s (point_of p) deeds (plain m ∷ []) (λ o has. elim has [ inl same ↦ ap (λ (x : Outgoing). x.answers) same | inr none ↦ absurd none ]) is)

-- ---- a message is heard

abbrev PartInRoom : FrontPart → Type 0
PartInRoom x = (m : List ℕ) → heard_in x ≡ Some m → NamesInRoom m

module _ (s : Bool) (p q : Served) (deeds : List Deed) (m : List ℕ) (room : NamesInRoom m) (going : s ≡ false) (keyed : IsKeyed p) (told : IsTold p deeds) (is : IsInLine s p deeds) (unsent : ℕ) (client_is : IsClientsOf p q unsent)
    (none : p.asking ≡ idle) (kept : (p.front).kept ≡ None) (on : (p.front).on ≡ true) where
  abbrev read : List Deed
  read = client_reads (p.front).channel m ∷ deeds

  free : in_wait p.asking (p.front).kept ≡ None
  free = λ i. in_wait (none i) (kept i)

  -- what was to be written, and own messages after it
  grown : (t : Bool) (k : Option Kept) → in_wait q.asking (q.front).kept ≡ k → AddsOwn (outbox_of p) (outbox_of q) → Lines t (record (point_of p) { kept = k }) (client_reads (p.front).channel m ∷ deeds) → IsInLine t q (client_reads (p.front).channel m ∷ deeds)
  grown t k waits (more, same, own) so =
      let left = client_left p q unsent client_is in
      at_point t q k (outbox_of p ++ more) (p.front).on (p.front).channel read waits same left.on left.channel
      (lines_said t (record (point_of p) { kept = k }) read more (λ o has. (own o has).0) so)

  waits_idle : q.asking ≡ idle → in_wait q.asking (q.front).kept ≡ None
  waits_idle asking = λ i. in_wait (asking i) (((client_left p q unsent client_is).kept ∙ kept) i)

  wrong_line : EndFault → AddsOwn (outbox_of p) (outbox_of q) → q.asking ≡ idle → IsInLine true q (client_reads (p.front).channel m ∷ deeds)
  wrong_line cause more asking = grown true None (waits_idle asking) more (lines_as true (point_of p) None read free (lines_wrong s (point_of p) deeds m room free on is going cause))

  other_line : is_request m ≡ false → AddsOwn (outbox_of p) (outbox_of q) → q.asking ≡ idle → IsInLine s q (client_reads (p.front).channel m ∷ deeds)
  other_line other more asking = grown s None (waits_idle asking) more (lines_as s (point_of p) None read free (lines_other s (point_of p) deeds m room free on is going other))

  asks_line : (device : ℕ) (job : Job) → HeardAs (p.front).client m ((q.front).client, Ok (Ask device job)) → AddsOwn (outbox_of p) (outbox_of q) → q.asking ≡ asks (record { device = device; job = job }) → IsInLine s q (client_reads (p.front).channel m ∷ deeds)
  asks_line device job (same, asked, one, faulty, fine, r, spelled, named, is_job) more asking =
      let k : Kept = record { device = device; job = job } in
      grown s (Some k) (ap (λ (a : Asking). in_wait a (q.front).kept) asking) more
      (lines_asks s (point_of p) deeds m room free on is going k r one spelled named (ap (λ (j : Job). j.key.channel) is_job ∙ keyed.same on) (told.counted on fine ∙ ap (λ (j : Job). j.key.index) (sym is_job)))

hears_line : (s : Bool) (p q : Served) (deeds : List Deed) (channel : ℕ) (m : List ℕ) (answer : Result Heard EndFault) → PartGoes p (part.hears channel m answer) q → IsKnownAt p deeds → HearsBefore s (part.hears channel m answer) → PartInRoom (part.hears channel m answer) → IsInLine s p deeds
    → IsInLine (stopped_by s (part.hears channel m answer)) q (deeds_of (part.hears channel m answer) ++ deeds)
hears_line s p q deeds channel m answer goes known before room is = by answer ((goes.3).0).1 goes.4 before room
  where
    on : (p.front).on ≡ true
    on = (both_true (p.front).on _ goes.2).0

    kept : (p.front).kept ≡ None
    kept = none_of (p.front).kept (both_true _ _ (both_true (p.front).on _ goes.2).1).0

    told_as : (a : Result Heard EndFault) → client_hear (p.front).client m ≡ ((q.front).client, a) → HeardAs (p.front).client m ((q.front).client, a)
    told_as a e = subst (HeardAs (p.front).client m) e (hears (p.front).client m)

    more : (a : Result Heard EndFault) → client_hear (p.front).client m ≡ ((q.front).client, a) → AddsOwn (outbox_of p) (outbox_of q)
    more a e = subst (λ (r : ClientCoreState × Result Heard EndFault). AddsOwn (outbox_of p) ((r.0).core).outbox) e (hear_adds (p.front).client m)

    here : (t : Bool) → IsInLine t q (client_reads (p.front).channel m ∷ deeds) → IsInLine t q (client_reads channel m ∷ deeds)
    here t so = subst (λ (c : ℕ). IsInLine t q (client_reads c m ∷ deeds)) (sym goes.0) so

    by : (a : Result Heard EndFault) → hearing.Hears client_side (λ (c : ClientCoreState). c.core) client_hear (p.front).client m a (q.front).client → q.asking ≡ asking_by a → HearsBefore s (part.hears channel m a) → PartInRoom (part.hears channel m a)
        → IsInLine (stopped_by s (part.hears channel m a)) q (deeds_of (part.hears channel m a) ++ deeds)
    by (Err fault.Memory) did asking going roomy = client_same s p q deeds _ (goes.3).1 (asking ∙ sym goes.1) (ap (λ (c : ClientCoreState). (c.core).outbox) did.1) is
    by (Err (fault.Order state packet)) did asking going roomy =
        here true (wrong_line s p q deeds m (roomy m refl) going known.keyed known.told is _ (goes.3).1 goes.1 kept on (fault.Order state packet) (more (Err (fault.Order state packet)) did) asking)
    by (Err (fault.Grammar bad)) did asking going roomy =
        here true (wrong_line s p q deeds m (roomy m refl) going known.keyed known.told is _ (goes.3).1 goes.1 kept on (fault.Grammar bad) (more (Err (fault.Grammar bad)) did) asking)
    by (Ok Nothing) did asking going roomy =
        let (same, asked, other, faulty) = told_as (Ok Nothing) did in
        here s (other_line s p q deeds m (roomy m refl) going known.keyed known.told is _ (goes.3).1 goes.1 kept on other (more (Ok Nothing) did) asking)
    by (Ok (Print n)) did asking going roomy =
        let (same, asked, other, faulty) = told_as (Ok (Print n)) did in
        here s (other_line s p q deeds m (roomy m refl) going known.keyed known.told is _ (goes.3).1 goes.1 kept on other (more (Ok (Print n)) did) asking)
    by (Ok (Ask device job)) did asking going roomy =
        here s (asks_line s p q deeds m (roomy m refl) going known.keyed known.told is _ (goes.3).1 goes.1 kept on device job (told_as (Ok (Ask device job)) did) (more (Ok (Ask device job)) did) asking)

-- ---- a desk is called

stored_own : (device : ℕ) (items : List Item) → AreOwn (map (stores device) items)
stored_own device [] = tt
stored_own device (x ∷ items) = (tt, stored_own device items)

both_own : (xs ys : List Deed) → AreOwn xs → AreOwn ys → AreOwn (xs ++ ys)
both_own [] ys first second = second
both_own (x ∷ xs) ys first second = (first.0, both_own xs ys first.1 second)

each_own : (told : List (ℕ × List Item)) → AreOwn (stored_each told)
each_own [] = tt
each_own (t ∷ told) = both_own (stored_each told) (stored t.0 t.1) (each_own told) (stored_own t.0 (reverse t.1))

-- a job that a station takes comes to its journal
put_came : (old new : Of) (job : Job) → station.put old job ≡ (new, None) → new.journal ≡ old.journal ++ Came job.key ∷ []
put_came old new job is = by (put_refusal old job) is
  where
    by : (found : Option PutWhy) → put_unless old job found ≡ (new, None) → new.journal ≡ old.journal ++ Came job.key ∷ []
    by None e = sym (ap (λ (r : Of × Option PutWhy). (r.0).journal) e)
    by (Some cause) e = absurd (let f : Some cause ≡ None = ap (λ (r : Of × Option PutWhy). r.1) e in cc (f))

module _ (s : Bool) (p q : Served) (place id : ℕ) (does : DeskCall) (back : DeskReply) (items : List Item) (deeds : List Deed) (known : IsKnownAt p deeds) (at : CallsAt p place id does back items q) (is : IsInLine s p deeds) where
  abbrev stored_now : List Deed
  stored_now = stored id items ++ deeds

  after : IsInLine s p (stored id items ++ deeds)
  after = lines_owns s (point_of p) (stored id items) deeds (stored_own id (reverse items)) is

  core_same : outbox_of q ≡ outbox_of p
  core_same = ap (λ (f : FrontState). ((f.client).core).outbox) at.front_is

  waits_on : in_wait q.asking (q.front).kept ≡ in_wait p.asking (p.front).kept → IsInLine s q (stored id items ++ deeds)
  waits_on waits = at_same s p q stored_now waits core_same (ap (λ (f : FrontState). f.on) at.front_is) (ap (λ (f : FrontState). f.channel) at.front_is) after

  kept_same : (q.front).kept ≡ (p.front).kept
  kept_same = ap (λ (f : FrontState). f.kept) at.front_is

  asks_on : q.asking ≡ p.asking → IsInLine s q (stored id items ++ deeds)
  asks_on asking = waits_on (waits_same p q asking kept_same)

  stops_on : q.asking ≡ p.asking → IsInLine true q (stored id items ++ deeds)
  stops_on asking = lines_stopped s (point_of q) stored_now (asks_on asking)

  -- the job isn't under way any more
  none_waits : (t : Bool) (k : Kept) → IsUnder p.asking k → q.asking ≡ idle → Lines t (record (point_of p) { kept = None }) (stored id items ++ deeds) → IsInLine t q (stored id items ++ deeds)
  none_waits t k way asking so = at_point t q None (outbox_of p) (p.front).on (p.front).channel stored_now (λ i. in_wait (asking i) ((kept_same ∙ known.keyed.alone k way) i)) core_same (ap (λ (f : FrontState). f.on) at.front_is) (ap (λ (f : FrontState). f.channel) at.front_is) so

  way_of : (job : Job) (c : Comes p place job) → IsUnder p.asking c.kept
  way_of job c = subst (λ (a : Asking). IsUnder a c.kept) (sym c.asked) refl

  -- the device of the job that comes is that of the desk
  own_device : (job : Job) (c : Comes p place job) → id ≡ c.kept.device
  own_device job c =
      let own = job_told p q place id does back items deeds known.keyed known.told at job c in
      let other : IsJobOf AnyRequest deeds c.kept.device job = subst (λ (j : Job). IsJobOf AnyRequest deeds c.kept.device j) (sym c.job_is) (known.told.asking c.kept (way_of job c)) in
      let both : Some own.request ≡ Some other.request = sym own.read ∙ other.read in
      let equal : own.request ≡ other.request = cc (both) in
      sym own.device ∙ ap (λ (r : Request). r.device) equal ∙ other.device

  came_line : (job : Job) (c : Comes p place job) → (at.last).journal ≡ ((at.called).middle).journal ++ Came job.key ∷ [] → q.asking ≡ idle → IsInLine s q (stored id items ++ deeds)
  came_line job c longer asking = none_waits s c.kept (way_of job c) asking (lines_came s (point_of p) stored_now c.kept (ap (λ (a : Asking). in_wait a (p.front).kept) c.asked) has after)
    where
      here : Has (Came job.key) (journal id (stored id items ++ deeds))
      here = subst (Has (Came job.key)) (sym (tied_then p q place id does back items deeds known.keyed known.told at))
          (to_turned (Came job.key) (at.last).journal (subst (Has (Came job.key)) (sym longer) (has_right (Came job.key) ((at.called).middle).journal (Came job.key ∷ []) (inl refl))))

      has : Has (Came c.kept.job.key) (journal c.kept.device (stored id items ++ deeds))
      has = subst (λ (n : ℕ). Has (Came c.kept.job.key) (journal n (stored id items ++ deeds))) (own_device job c) (subst (λ (j : Job). Has (Came j.key) (journal id (stored id items ++ deeds))) c.job_is here)

calls_line : (s : Bool) (p q : Served) (place id : ℕ) (does : DeskCall) (back : DeskReply) (items : List Item) (deeds : List Deed) → IsKnownAt p deeds → CallsAt p place id does back items q → IsInLine s p deeds → IsInLine (stopped_by s (calls place id does back items)) q (stored id items ++ deeds)
calls_line s p q place id desk.Announce (replied.Unfit job) items deeds known at is = stops_on s p q place id desk.Announce (replied.Unfit job) items deeds known at is at.asking_is
calls_line s p q place id desk.Announce back items deeds known at is = asks_on s p q place id desk.Announce back items deeds known at is at.asking_is
calls_line s p q place id desk.Remove (replied.Unfit job) items deeds known at is = stops_on s p q place id desk.Remove (replied.Unfit job) items deeds known at is at.asking_is
calls_line s p q place id desk.Remove back items deeds known at is = asks_on s p q place id desk.Remove back items deeds known at is at.asking_is
calls_line s p q place id desk.Collect (replied.Unfit job) items deeds known at is = stops_on s p q place id desk.Collect (replied.Unfit job) items deeds known at is at.asking_is
calls_line s p q place id desk.Collect (replied.Collected (Some c)) items deeds known at is =
    waits_on s p q place id desk.Collect (replied.Collected (Some c)) items deeds known at is
    (ap (λ (a : Asking). in_wait a (q.front).kept) (at.asking_is).1 ∙ ap (λ (f : FrontState). f.kept) at.front_is ∙ sym (ap (λ (a : Asking). in_wait a (p.front).kept) (at.asking_is).0))
calls_line s p q place id desk.Collect back items deeds known at is = asks_on s p q place id desk.Collect back items deeds known at is at.asking_is
calls_line s p q place id (desk.Put job) (replied.Put (Ok done)) items deeds known at is =
    let step = ((at.called).step).0 in
    came_line s p q place id (desk.Put job) (replied.Put (Ok done)) items deeds known at is job (at.asking_is).0
    (ap (λ (x : Of). x.journal) step.2 ∙ put_came (at.called).middle step.0 job (step.1).1) (at.asking_is).1
calls_line s p q place id (desk.Put job) (replied.Put (Err refusal)) items deeds known at is =
    waits_on s p q place id (desk.Put job) (replied.Put (Err refusal)) items deeds known at is
    (ap (λ (a : Asking). in_wait a (q.front).kept) (at.asking_is).1 ∙ sym (ap (λ (a : Asking). in_wait a (p.front).kept) ((at.asking_is).0).asked))
calls_line s p q place id (desk.Put job) (replied.Unfit back) items deeds known at is =
    none_waits s p q place id (desk.Put job) (replied.Unfit back) items deeds known at is true ((at.asking_is).0).kept (way_of s p q place id (desk.Put job) (replied.Unfit back) items deeds known at is job (at.asking_is).0) (at.asking_is).1
    (lines_lost s (point_of p) (stored id items ++ deeds) (after s p q place id (desk.Put job) (replied.Unfit back) items deeds known at is))
calls_line s p q place id (desk.Put job) back items deeds known at is = absurd (at.asking_is).1
calls_line s p q place id (desk.Work runs) back items deeds known at is = absurd at.own
calls_line s p q place id desk.DropChannel back items deeds known at is = absurd at.own
calls_line s p q place id desk.End back items deeds known at is = absurd at.own

-- ---- each part

-- a job that is under way is given up, or answered
module _ (s : Bool) (p q : Served) (deeds : List Deed) (known : IsKnownAt p deeds) (is : IsInLine s p deeds) (k : Kept) (way : IsUnder p.asking k) where
  waits_for : in_wait p.asking (p.front).kept ≡ Some k
  waits_for = under_waits p.asking (p.front).kept k way

  waits_none : q.asking ≡ idle → (q.front).kept ≡ (p.front).kept → in_wait q.asking (q.front).kept ≡ None
  waits_none asking kept = λ i. in_wait (asking i) ((kept ∙ known.keyed.alone k way) i)

  lost_line : q.asking ≡ idle → (q.front).kept ≡ (p.front).kept → outbox_of q ≡ outbox_of p → (q.front).on ≡ (p.front).on → (q.front).channel ≡ (p.front).channel → IsInLine true q deeds
  lost_line asking kept out on channel = at_point true q None (outbox_of p) (p.front).on (p.front).channel deeds (waits_none asking kept) out on channel (lines_lost s (point_of p) deeds is)

  device_room : k.device < 2 ^ 32
  device_room =
      let job = known.told.asking k way in
      subst (λ (n : ℕ). n < 2 ^ 32) job.device (is.fine k.job.key.channel k.job.key.index job.request job.read)

  direct_line : (st : Status) (unsent : ℕ) → IsClientsOf p q unsent → q.asking ≡ idle → outbox_of q ≡ outbox_of p ++ record { message = client.direct_bytes k.job k.device st; answers = Some k.job.key } ∷ [] → IsInLine s q deeds
  direct_line st unsent client_is asking out =
      let left = client_left p q unsent client_is in
      let next = known.keyed.asking k way in
      at_point s q None (outbox_of p ++ record { message = client.direct_bytes k.job k.device st; answers = Some k.job.key } ∷ []) (p.front).on (p.front).channel deeds (waits_none asking left.kept) out left.on left.channel
      (lines_direct s (point_of p) deeds k (client.direct_bytes k.job k.device st) waits_for next.channel next.on
      (is_of_own (kind_of k.job.op) (record { device = k.device; completion = k.job.completion; status = st }) Fault device_room) is)

directs_line : (s : Bool) (p q : Served) (st : Status) (answer : Result (Unit {0}) AllocError) (deeds : List Deed) → PartGoes p (directs st answer) q → IsKnownAt p deeds → IsInLine s p deeds → IsInLine (stopped_by s (directs st answer)) q deeds
directs_line s p q st (Ok done) deeds goes known is =
    direct_line s p q deeds known is goes.0 (direct_under p goes.0 st goes.1) st _ (goes.2).1 goes.3 (ap (λ (c : ClientCoreState). (c.core).outbox) (((goes.2).0).1))
directs_line s p q st (Err error) deeds goes known is =
    let left = client_left p q _ (goes.2).1 in
    lost_line s p q deeds known is goes.0 (direct_under p goes.0 st goes.1) goes.3 left.kept (ap (λ (c : ClientCoreState). (c.core).outbox) (((goes.2).0).1)) left.on left.channel

-- a completion is written of a key that came to its device
writes_line : (s : Bool) (p : Served) (deeds : List Deed) (device : ℕ) (c : Completion) → IsKnownAt p deeds → p.asking ≡ hands device c → IsInLine s p deeds → IsInLine s (record p { asking = idle }) (completes c.key (completion_message device c) ∷ deeds)
writes_line s p deeds device c known asking is =
    lines_written s (point_of (record p { asking = idle })) deeds c.key (completion_message device c) there
    (at_same s p (record p { asking = idle }) deeds (λ i. in_wait (sym asking i) (p.front).kept) refl refl refl is)
  where
    has : Has (Came c.key) (journal device deeds)
    has = (known.standing.handing device c asking).1

    room : device < 2 ^ 32
    room = let (r, read, named) = came_read device c.key deeds known.read has in subst (λ (n : ℕ). n < 2 ^ 32) named (is.fine (c.key).channel (c.key).index r read)

    there : (x d n : ℕ) → told_at x d (completes c.key (completion_message device c)) ≡ Some n → came x (journal d deeds) n ≡ true
    there x d n e =
        let (here, of, index) = told_some x d c.key (completion_message device c) n e in
        let same : device ≡ d = eqb-true device d (sym (is_of_own c.kind (record { device = device; completion = c.completion; status = (c.reply).status }) (c.reply).body room d) ∙ of) in
        subst (λ (i : ℕ). came x (journal d deeds) i ≡ true) index
        (subst (λ (y : ℕ). came y (journal d deeds) (c.key).index ≡ true) here
        (came_true c.key (journal d deeds) (subst (λ (y : ℕ). Has (Came c.key) (journal y deeds)) same has)))

begins_line : (s : Bool) (p q : Served) (channel : ℕ) (deeds : List Deed) → PartGoes p (begins channel) q → IsKnownAt p deeds → IsInLine s p deeds → IsInLine false q deeds
begins_line s p q channel deeds goes known is =
    at_point false q None [] true channel deeds (ap (λ (x : Served). in_wait x.asking (x.front).kept) goes.3 ∙ free) (ap outbox_of goes.3) (ap (λ (x : Served). (x.front).on) goes.3) (ap (λ (x : Served). (x.front).channel) goes.3)
    (lines_begun s (point_of p) deeds channel free goes.1 (known.told.unread channel goes.2) is)
  where
    kept_none : (k : Option Kept) → (p.front).kept ≡ k → k ≡ None
    kept_none None e = refl
    kept_none (Some k) e = absurd (let on = (known.keyed.kept k e).on in let off = goes.1 in cc (on, off))

    free : in_wait p.asking (p.front).kept ≡ None
    free = λ i. in_wait (goes.0 i) (kept_none (p.front).kept refl i)

ends_line : (s : Bool) (p q : Served) (over : Bool) (told : List (ℕ × List Item)) (deeds : List Deed) → PartGoes p (ends over told) q → IsInLine s p deeds → IsInLine s q (stored_each told ++ deeds)
ends_line s p q over told deeds goes is =
    at_point s q None [] false (p.front).channel (stored_each told ++ deeds) (λ i. in_wait (goes.3 i) ((ap (λ (f : FrontState). f.kept) goes.2 ∙ ended.3) i)) (ap (λ (f : FrontState). ((f.client).core).outbox) goes.2 ∙ ended_outbox over p.front (q.front).desks)
    (ap (λ (f : FrontState). f.on) goes.2 ∙ ended.0) (ap (λ (f : FrontState). f.channel) goes.2 ∙ ended.1)
    (lines_ended s (point_of p) (stored_each told ++ deeds) (λ on. past_owns (p.front).channel (stored_each told) deeds own (once_written (p.front).channel (outbox_of p) [], passes_now s (point_of p) deeds on is)) (lines_owns s (point_of p) (stored_each told) deeds own is))
  where
    own : AreOwn (stored_each told)
    own = each_own told

    ended : let t = ended_front over p.front (q.front).desks in (t.on ≡ false) × (t.channel ≡ (p.front).channel) × ((t.client).asked ≡ ((p.front).client).asked) × (t.kept ≡ None)
    ended = ended_is over p.front (q.front).desks

pub part_line : (s : Bool) (p q : Served) (x : FrontPart) (deeds : List Deed) → PartGoes p x q → IsKnownAt p deeds → HearsBefore s x → PartInRoom x → IsInLine s p deeds → IsInLine (stopped_by s x) q (deeds_of x ++ deeds)
part_line s p q (part.hears channel m answer) deeds goes known before room is = hears_line s p q deeds channel m answer goes known before room is
part_line s p q tries deeds goes known before room is = subst (λ (v : Served). IsInLine s v deeds) (sym goes.4)
    (lines_as s (point_of p) (Some goes.0) deeds (λ i. in_wait (goes.2 i) (goes.1 i)) is)
part_line s p q keeps deeds goes known before room is = subst (λ (v : Served). IsInLine s v deeds) (sym goes.3)
    (lines_as s (point_of p) (Some goes.0) deeds (ap (λ (a : Asking). in_wait a (p.front).kept) goes.2) is)
part_line s p q forgets deeds goes known before room is =
    lost_line s p q deeds known is goes.0 (subst (λ (a : Asking). IsUnder a goes.0) (sym goes.2) refl) (ap (λ (v : Served). v.asking) goes.4) (ap (λ (v : Served). (v.front).kept) goes.4) (ap outbox_of goes.4) (ap (λ (v : Served). (v.front).on) goes.4) (ap (λ (v : Served). (v.front).channel) goes.4)
part_line s p q misplaces deeds goes known before room is =
    lost_line s p q deeds known is goes.0 (subst (λ (a : Asking). IsUnder a goes.0) (sym goes.1) refl) (ap (λ (v : Served). v.asking) goes.3) (ap (λ (v : Served). (v.front).kept) goes.3) (ap outbox_of goes.3) (ap (λ (v : Served). (v.front).on) goes.3) (ap (λ (v : Served). (v.front).channel) goes.3)
part_line s p q (directs st answer) deeds goes known before room is = directs_line s p q st answer deeds goes known is
part_line s p q (calls place id does back items) deeds goes known before room is = calls_line s p q place id does back items deeds known goes is
part_line s p q (tells_gone device (Ok done)) deeds goes known before room is =
    lines_own s (point_of q) deeds (removes device) tt (client_said s p q deeds _ (removal_bytes (device ∷ [])) (goes.0).1 goes.1 (ap (λ (c : ClientCoreState). (c.core).outbox) (((goes.0).0).1)) is)
part_line s p q (tells_gone device (Err error)) deeds goes known before room is = client_same s p q deeds _ (goes.0).1 goes.1 (ap (λ (c : ClientCoreState). (c.core).outbox) (((goes.0).0).1)) is
part_line s p q (tells_there device (Ok done)) deeds goes known before room is =
    lines_own s (point_of q) deeds (adds device) tt (client_said s p q deeds _ (list_bytes (client.listed_one (p.front).client device)) (goes.0).1 goes.1 (ap (λ (c : ClientCoreState). (c.core).outbox) (((goes.0).0).1)) is)
part_line s p q (tells_there device (Err error)) deeds goes known before room is = client_same s p q deeds _ (goes.0).1 goes.1 (ap (λ (c : ClientCoreState). (c.core).outbox) (((goes.0).0).1)) is
part_line s p q (sends channel None) deeds goes known before room is = client_same s p q deeds _ (goes.1).1 goes.2 (sent_none (p.front).client (q.front).client (goes.1).0) is
part_line s p q (sends channel (Some o)) deeds goes known before room is =
    let (rest, first, then) = sent_first (p.front).client (q.front).client o (goes.1).0 in
    let left = client_left p q _ (goes.1).1 in
    at_point s q (in_wait p.asking (p.front).kept) rest (p.front).on (p.front).channel (deeds_of (sends channel (Some o)) ++ deeds) (waits_same p q goes.2 left.kept) then left.on left.channel
    (lines_sent s (point_of p) deeds channel o rest first is)
part_line s p q (writes device c) deeds goes known before room is =
    subst (λ (v : Served). IsInLine s v (completes c.key (completion_message device c) ∷ deeds)) (sym goes.1) (writes_line s p deeds device c known goes.0 is)
part_line s p q (unwritten device c) deeds goes known before room is = subst (λ (v : Served). IsInLine s v deeds) (sym goes.1)
    (at_same s p (record p { asking = idle }) deeds (λ i. in_wait (sym goes.0 i) (p.front).kept) refl refl refl is)
part_line s p q (learns n answer) deeds goes known before room is = subst (λ (v : Served). IsInLine s v deeds) (sym goes.1) is
part_line s p q (refreshes device) deeds goes known before room is =
    let more = refreshed_more p.front device in
    let calm = refreshed_calm p.front device in
    subst (λ (v : Served). IsInLine s v deeds) (sym goes)
    (at_same s p (record p { front = with_new_data p.front device }) deeds (ap (in_wait p.asking) calm.1) (ap (λ c. c.outbox) more.1) calm.0.on calm.0.channel is)
part_line s p q (begins channel) deeds goes known before room is = begins_line s p q channel deeds goes known is
part_line s p q (ends over told) deeds goes known before room is = ends_line s p q over told deeds goes is

-- ---- histories

pub parts_line : (ps : List FrontPart) (s : Bool) (p q : Served) (deeds : List Deed) → PartsGo p ps q → IsKnownAt p deeds → HearBefore s ps → AllByRecursion PartInRoom ps → IsInLine s p deeds → IsInLine (stopped_after s ps) q (deeds_after ps deeds)
parts_line [] s p q deeds goes known before room is = subst (λ (v : Served). IsInLine s v deeds) (sym goes) is
parts_line (x ∷ ps) s p q deeds goes known before room is =
    parts_line ps (stopped_by s x) goes.0 q (deeds_of x ++ deeds) goes.2 (part_known p goes.0 x deeds goes.1 known) before.1 room.1 (part_line s p goes.0 x deeds goes.1 known before.0 room.0 is)

-- a channel that ends passed over none
part_heeded : (s : Bool) (p : Served) (x : FrontPart) (deeds : List Deed) → IsInLine s p deeds → EndsHeeded p deeds x
part_heeded s p (ends over told) deeds is = λ on. passes_now s (point_of p) deeds on is
part_heeded s p _ deeds is = tt

parts_heeded : (ps : List FrontPart) (s : Bool) (p q : Served) (deeds : List Deed) (goes : PartsGo p ps q) → IsKnownAt p deeds → HearBefore s ps → AllByRecursion PartInRoom ps → IsInLine s p deeds → PartsEndHeeded p deeds ps q goes
parts_heeded [] s p q deeds goes known before room is = tt
parts_heeded (x ∷ ps) s p q deeds goes known before room is = (
  part_heeded s p x deeds is,
  parts_heeded ps (stopped_by s x) goes.0 q (deeds_of x ++ deeds) goes.2 (part_known p goes.0 x deeds goes.1 known) before.1 room.1 (part_line s p goes.0 x deeds goes.1 known before.0 room.0 is),
)

-- what is heard is the call's message
rooms : (ps : List FrontPart) → ((m : List ℕ) → Has m (filter_map heard_in ps) → NamesInRoom m) → AllByRecursion PartInRoom ps
rooms [] room = tt
rooms (x ∷ ps) room = (λ m is. by (heard_in x) m is room, rooms ps (λ m has. later (heard_in x) m has room))
  where
    by : (o : Option (List ℕ)) (m : List ℕ) → o ≡ Some m → ((y : List ℕ) → Has y (cons_option o (filter_map heard_in ps)) → NamesInRoom y) → NamesInRoom m
    by None m e all = absurd (cc (e))
    by (Some y) m e all = all m (inl (let same : y ≡ m = cc (e) in sym same))

    later : (o : Option (List ℕ)) (m : List ℕ) → Has m (filter_map heard_in ps) → ((y : List ℕ) → Has y (cons_option o (filter_map heard_in ps)) → NamesInRoom y) → NamesInRoom m
    later None m has all = all m has
    later (Some y) m has all = all m (inr has)

one_room : (message : List ℕ) (h : List (List ℕ)) → NamesInRoom message → (h ≡ []) ⊎ (h ≡ message ∷ []) → (m : List ℕ) → Has m h → NamesInRoom m
one_room message h room (inl none) m has = absurd (subst (Has m) none has)
one_room message h room (inr one) m has = elim (subst (Has m) one has) [ inl same ↦ subst NamesInRoom (sym same) room | inr never ↦ absurd never ]

heard_one : (message : List ℕ) (back : FrontReply) (h : List (List ℕ)) → IsHeardBy message back h → (h ≡ []) ⊎ (h ≡ message ∷ [])
heard_one message reply.Refused h is = inl is
heard_one message reply.Full h is = inl is
heard_one message reply.Memory h is = is
heard_one message back h is = inr is

call_rooms : (does : FrontCall) (back : FrontReply) (h : List (List ℕ)) → HearsInRoom does → HearsAs does back h → (m : List ℕ) → Has m h → NamesInRoom m
call_rooms (call.Hear message) back h room is m has = one_room message h room (heard_one message back h is) m has
call_rooms does back h room none m has = absurd (subst (Has m) none has)

pub history_line : (entries : List (Entry FrontCall FrontReply)) (parts : List (List FrontPart)) (s : Bool) (p q : Served) (deeds : List Deed) → HistoryGoes p entries parts q → IsKnownAt p deeds → HearInRoom entries → CallsHearBefore s parts → IsInLine s p deeds
    → (t : Bool) × IsInLine t q (deeds_of_calls parts deeds)
history_line [] [] s p q deeds goes known room before is = (s, subst (λ (v : Served). IsInLine s v deeds) (sym goes) is)
history_line [] (ps ∷ parts) s p q deeds goes known room before is = absurd goes
history_line (e ∷ entries) [] s p q deeds goes known room before is = absurd goes
history_line (e ∷ entries) (ps ∷ parts) s p q deeds goes known room before is =
    history_line entries parts (stopped_after s ps) goes.0 q (deeds_after ps deeds) goes.2 (parts_known ps p goes.0 deeds (goes.1).goes known) room.1 before.1
    (parts_line ps s p goes.0 deeds (goes.1).goes known before.0 (rooms ps (call_rooms e.call e.reply (filter_map heard_in ps) room.0 (goes.1).heard)) is)

pub history_heeded : (entries : List (Entry FrontCall FrontReply)) (parts : List (List FrontPart)) (s : Bool) (p q : Served) (deeds : List Deed) (goes : HistoryGoes p entries parts q) → IsKnownAt p deeds → HearInRoom entries → CallsHearBefore s parts → IsInLine s p deeds → EachEndsHeeded p deeds entries parts q goes
history_heeded [] [] s p q deeds goes known room before is = tt
history_heeded [] (ps ∷ parts) s p q deeds goes known room before is = absurd goes
history_heeded (e ∷ entries) [] s p q deeds goes known room before is = absurd goes
history_heeded (e ∷ entries) (ps ∷ parts) s p q deeds goes known room before is =
    let rooms_in : AllByRecursion PartInRoom ps = rooms ps (call_rooms e.call e.reply (filter_map heard_in ps) room.0 (goes.1).heard) in (
      parts_heeded ps s p goes.0 deeds (goes.1).goes known before.0 rooms_in is,
      history_heeded entries parts (stopped_after s ps) goes.0 q (deeds_after ps deeds) goes.2 (parts_known ps p goes.0 deeds (goes.1).goes known) room.1 before.1 (parts_line ps s p goes.0 deeds (goes.1).goes known before.0 rooms_in is),
    )

-- ---- the beginning

pub begins_line_all : (p : Served) → IsNewFront p.front → p.asking ≡ idle → IsInLine false p []
begins_line_all p new none =
    at_point false p None [] false (p.front).channel [] (λ i. in_wait (none i) (new.kept i)) new.nothing new.off refl (record {
      fine = λ c k r read. absurd (cc (read));
      turns = record { at = λ c d. record { others = []; stands = refl; all = λ fine opens. refl } };
      out = λ o no. absurd no;
      heeds = λ on. absurd (cc (on));
      past = λ c other. ([], record { left = All-nil (IsLeft c); each = λ d. ([], refl) });
    })
