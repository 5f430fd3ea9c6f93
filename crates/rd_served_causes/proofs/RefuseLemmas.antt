-- Each part of a call leaves what is said as it is to be, and each refusal with its cause.
use Rattle.std.proofs.Common.{◌≡◌, ◌⊎◌, ◌∙◌, refl, sym, ap, subst, inl, inr, ℕ, ◌+◌, ◌<◌, ◌≤◌, ◌^◌, ◌==◌, ◌&&◌, ◌||◌, Bool, true, false, cond, not, List, [], ◌∷◌, ◌++◌, map, reverse, length, Option, Some, None, Result, Ok, Err, slice_get, arith, eq-eqb, eqb-true, lit<, append_assoc}
use Rattle.std.specs.declared.alloc.AllocError.{AllocError}
use Rattle.std.specs.List.{AllByRecursion, cons_option, list_any}
use Rattle.std.specs.Map.{lookup}
use Rattle.std.specs.Option.{option_map_or}
use Rattle.std.specs.Ordering.{nat_cmp}
use Rattle.std.specs.BTreeMap.{is_at}
use Rattle.std.proofs.lemmas.List.{length-append, length-reverse}
use Rattle.std.proofs.lemmas.List.Elements.{All-head, All-tail}
use Rattle.rd_served_order.proofs.AnsweredListedLemmas.{room_of, spells, told_refreshed}
use Rattle.rd_served_order.proofs.AnsweredReadyLemmas.{client_kept}
use Rattle.rd_served_order.proofs.AnsweredSayingLemmas.{hear_marks, hear_on, then_more}
use Rattle.rd_served_order.specs.AnsweredRefusing.{HasRoomToAnnounce, SaysMarks, is_told_by, written_then}
use Rattle.rd_base.specs.Statuses.{insufficient_resources, no_such_device}
use Rattle.rd_base.specs.declared.journal.Item.{Item}
use Rattle.rd_base.specs.declared.journal.Item.TheVariants.{Came, Cancelled, Cut, Ran, Sent}
use Rattle.rd_base.specs.declared.journal.Key.{Key}
use Rattle.rd_base.specs.declared.status.Status.{Status}
use Rattle.rd_client.specs.Core as client
use Rattle.rd_client.specs.Core.{ClientCoreState, ClientDevice, Outgoing, announce_in, announces, client_hear, client_side, has_device, is_device, is_gone, job_of, listed_one, plain, tell_added, tell_removed}
use Rattle.rd_client.specs.Events.{AreWritable, IsWritableDevice, without_data}
use Rattle.rd_client.specs.Order.{is_client_ready}
use Rattle.rd_client.specs.declared.heard.Heard.{Heard}
use Rattle.rd_core.specs.Hearing as hearing
use Rattle.rd_desk.specs.Desk.{told_by}
use Rattle.rd_desk.specs.declared.calls.DeskCall.{DeskCall}
use Rattle.rd_desk.specs.declared.calls.DeskCall.TheVariants as desk
use Rattle.rd_desk.specs.declared.calls.DeskReply.{DeskReply}
use Rattle.rd_desk.specs.declared.calls.DeskReply.TheVariants as replied
use Rattle.rd_devices.specs.DeviceList.{list_bytes}
use Rattle.rd_devices.specs.Removal.{removal_bytes}
use Rattle.rd_devices.specs.declared.list.Announce.{Announce}
use Rattle.rd_drive.specs.Outcome.{fault}
use Rattle.rd_drive.specs.declared.plan.Job.{Job}
use Rattle.rd_front.specs.Front.{desk_place, is_told_there, with_new_data}
use Rattle.rd_front.specs.State.{DeviceDeskState, FrontState, SessionDeskStep, SessionStation}
use Rattle.rd_hello.specs.declared.end_fault.EndFault.{EndFault}
use Rattle.rd_hello.specs.declared.end_fault.EndFault.TheVariants as end_fault
use Rattle.rd_irp.specs.Fits.{BodyFits, kind_of}
use Rattle.rd_irp.specs.declared.completion.Body.TheVariants.{Fault}
use Rattle.rd_irp.specs.declared.request.Request.{Request}
use Rattle.rd_served_order.proofs.JournalsCameLemmas.{came_true}
use Rattle.rd_served_order.proofs.JournalsCompletionLemmas.{completes as completes_with}
use Rattle.rd_served_order.proofs.JournalsHeldLemmas.{turned_has}
use Rattle.rd_served_order.proofs.JournalsShortLemmas.{came_read}
use Rattle.rd_served_order.proofs.JournalsWritingLemmas.{hear_adds}
use Rattle.rd_served_order.specs.JournalsJobs.{AreFine, FitsCompletion}
use Rattle.rd_served_order.proofs.RefusedMarkLemmas.{addition_marks, removal_marks}
use Rattle.rd_served_order.proofs.RefusedSaidLemmas.{completion_says}
use Rattle.rd_served_order.specs.RefusedRefused.{MarksSay, RefusesDirectly}
use Rattle.rd_station.proofs.Calls.{reached_kept}
use Rattle.rd_station.proofs.Members.{has_append, to_contains}
use Rattle.rd_station.proofs.Remembering.{came_named}
use Rattle.rd_station.specs.declared.answers.Completion.{Completion}
use Rattle.rd_deeds.proofs.Messages.{head_read}
use Rattle.rd_declared.specs.Devices.{PrinterNames, printer_data}
use Rattle.rd_world.specs.Events.{completion_message}
use Rattle.rd_deeds.specs.Talk.{Deed, EachAfter, Has, adds, client_reads, client_writes, client_wrote, completes, head_in, journal, on, removes, stores}
use Rattle.rd_deeds.specs.Told.{CompletesWith, came, came_as, is_said_gone, worn_entries}
use Rattle.rd_world.specs.World.{Kept}
use Rattle.rd_served_order.proofs.ServedCauseLemmas.{IsJobAt, found, some_same, stored_elsewhere, stored_here}
use Rattle.rd_served_order.proofs.ServedComesLemmas.{ComesBy, called_comes}
use Rattle.rd_served_order.proofs.ServedKeyLemmas.{IsNextJob, IsUnder, has_at}
use Rattle.rd_served_order.proofs.ServedStandingLemmas.{IsKnownAt, came_here, direct_under, ended_outbox, sent_first, sent_none}
use Rattle.rd_served_order.specs.ServedDeeds.{deeds_of, sent_by, stored, stored_each}
use Rattle.rd_served_order.specs.ServedParts.{CallsAt, FrontPart, MayBeDirect, PartGoes, begins, directs, ended_front, ends, forgets, hears, keeps, learns, misplaces, refreshes, sends, tells_gone, tells_there, tries, unwritten, writes}
use Rattle.rd_served_order.specs.ServedParts as part
use Rattle.rd_served_order.specs.ServedServed.{Served, hands, idle}
use Rattle.rd_served_order.proofs.OwnLemmas.{IsOwn, each_keeps, stored_keeps}
use Rattle.rd_served_causes.proofs.DeskLemmas.{put_came}
use Rattle.rd_served_causes.proofs.OpenLemmas.{StaysHere, call_grows, ended_on, reached_at, worked, worn_still}
use Rattle.rd_served_causes.proofs.PlaceLemmas.{ids_of, none_by}
use Rattle.rd_served_causes.proofs.SayLemmas.{AllRight, AreSaid, IsWornFor, RightAt, SaySame, all_right, own_right, right_more, right_so, then_same}
use Rattle.rd_served_causes.proofs.StepLemmas.{sent_told}
use Rattle.rd_served_causes.proofs.WayLemmas.{IsWayFit}
use Rattle.rd_served_causes.proofs.WornLemmas.{worn_entries_of}
use Rattle.rd_served_causes.specs.Causes.{HaveDesks}
use Rattle.rd_served_causes.specs.Open.{IsDeskAt, IsOpen, Never}
use Rattle.rd_served_causes.specs.Worn.{IsWorn}
use Rattle.rd_served_order.specs.ServedDevices.{served_cuts, served_parked, served_runs}

abbrev Of : Type 0
Of = SessionStation

abbrev Messages : Type 0
Messages = List (List ℕ)

abbrev outbox_of : Served → List Outgoing
outbox_of p = (((p.front).client).core).outbox

-- ---- devices by lists

lists_room : (xs ys : List Announce) → map without_data xs ≡ map without_data ys → AreWritable ys → AllByRecursion HasRoomToAnnounce xs
lists_room [] ys same all = tt
lists_room (x ∷ xs) [] same all = absurd (cc (same))
lists_room (x ∷ xs) (y ∷ ys) same all =
    let head : without_data x ≡ without_data y = cc (same) in
    let tail : map without_data xs ≡ map without_data ys = cc (same) in
    let fits = All-head IsWritableDevice y ys all in (
      (subst (λ (n : ℕ). n < 2 ^ 32) (ap (λ (a : Announce). a.kind) (sym head)) fits.0, subst (λ (n : ℕ). n < 2 ^ 32) (ap (λ (a : Announce). a.id) (sym head)) fits.1),
      lists_room xs ys tail (All-tail IsWritableDevice y ys all),
    )

-- a device that a client has is announced, so it has a desk
lists_desk : (desks : List DeviceDeskState) (n : ℕ) (ds : List ClientDevice) (list : List Announce) → map without_data (map announce_in ds) ≡ map without_data list → HaveDesks list desks → list_any (is_device n) ds ≡ true → (place : ℕ) × (desk_place desks n ≡ Some place)
lists_desk desks n [] list same have has = absurd (cc (has))
lists_desk desks n (x ∷ ds) [] same have has = absurd (cc (same))
lists_desk desks n (x ∷ ds) (y ∷ list) same have has = by (is_device n x) refl has (λ tail some. lists_desk desks n ds list tail have.1 some)
  where
    by : (b : Bool) → is_device n x ≡ b → (b || list_any (is_device n) ds) ≡ true → (map without_data (map announce_in ds) ≡ map without_data list → list_any (is_device n) ds ≡ true → (place : ℕ) × (desk_place desks n ≡ Some place)) → (place : ℕ) × (desk_place desks n ≡ Some place)
    by true is some later =
        let head : without_data (x.announce) ≡ without_data y = cc (same) in
        let id : y.id ≡ n = ap (λ (a : Announce). a.id) (sym head) ∙ eqb-true (x.announce).id n is in
        ((have.0).0, subst (λ (k : ℕ). desk_place desks k ≡ Some (have.0).0) id (have.0).1)
    by false is some later = let tail : map without_data (map announce_in ds) ≡ map without_data list = cc (same) in later tail some

has_of : (r h g : Bool) → (r && (h && not g)) ≡ true → h ≡ true
has_of true true g e = refl
has_of true false g e = absurd (cc (e))
has_of false h g e = absurd (cc (e))

-- ---- keys that came

pub came_has : (c : ℕ) (items : List Item) (index : ℕ) → came c items index ≡ true → (key : Key) × Has (Came key) items × (key.channel ≡ c) × (key.index ≡ index)
came_has c [] index is = absurd (cc (is))
came_has c (x ∷ items) index is = by x is (came_has c items index)
  where
    later : ((key : Key) × Has (Came key) items × (key.channel ≡ c) × (key.index ≡ index)) → (key : Key) × Has (Came key) (x ∷ items) × (key.channel ≡ c) × (key.index ≡ index)
    later (key, has, channel, same) = (key, inr has, channel, same)

    at : (key : Key) (a b : Bool) → (key.channel == c) ≡ a → (key.index == index) ≡ b → Came key ≡ x → ((a && b) || came c items index) ≡ true → (came c items index ≡ true → (k : Key) × Has (Came k) items × (k.channel ≡ c) × (k.index ≡ index))
        → (k : Key) × Has (Came k) (x ∷ items) × (k.channel ≡ c) × (k.index ≡ index)
    at key true true e f here some rest = (key, inl here, eqb-true key.channel c e, eqb-true key.index index f)
    at key true false e f here some rest = later (rest some)
    at key false b e f here some rest = later (rest some)

    by : (y : Item) → (came_as c index x || came c items index) ≡ true → (came c items index ≡ true → (k : Key) × Has (Came k) items × (k.channel ≡ c) × (k.index ≡ index)) → (k : Key) × Has (Came k) (x ∷ items) × (k.channel ≡ c) × (k.index ≡ index)
    by y some rest = go x refl some
      where
        go : (z : Item) → z ≡ x → (came_as c index z || came c items index) ≡ true → (k : Key) × Has (Came k) (x ∷ items) × (k.channel ≡ c) × (k.index ≡ index)
        go (Came key) here some = at key (key.channel == c) (key.index == index) refl refl here some rest
        go (Ran key moment starved parked) here some = later (rest some)
        go (Cancelled key) here some = later (rest some)
        go (Sent key) here some = later (rest some)
        go (Cut cause) here some = later (rest some)

came_more : (c : ℕ) (xs ys : List Item) (index : ℕ) → came c (xs ++ ys) index ≡ true → ((key : Key) × Has (Came key) xs × (key.channel ≡ c) × (key.index ≡ index)) ⊎ (came c ys index ≡ true)
came_more c xs ys index is =
    let (key, has, channel, same) = came_has c (xs ++ ys) index is in
    elim (has_append (Came key) xs ys has) [
      | inl first ↦ inl (key, first, channel, same)
      | inr second ↦ inr (subst (λ (n : ℕ). came c ys n ≡ true) same (subst (λ (n : ℕ). came n ys key.index ≡ true) channel (came_true key ys second)))
    ]

-- ---- a worn journal goes on

pub worn_same : (p q : Served) (deeds more : List Deed) → (q.front).desks ≡ (p.front).desks → q.stations ≡ p.stations → ((d : ℕ) → journal d more ≡ journal d deeds) → (device : ℕ) (key : Key) → IsWornFor p deeds device key → IsWornFor q more device key
worn_same p q deeds more desks stations same device key is = record {
  entries = subst (λ (j : List Item). worn_entries ≤ length j) (sym (same device)) is.entries;
  later = λ index here. is.later index (sym (ap (λ (j : List Item). came key.channel j index) (same device)) ∙ here);
  worn = λ place d s here id. is.worn place d s (ap (λ (ds : List DeviceDeskState). slice_get ds place) (sym desks) ∙ here.0, ap (λ (ss : List Of). slice_get ss place) (sym stations) ∙ here.1) id;
}

module _ (p q : Served) (place id : ℕ) (does : DeskCall) (back : DeskReply) (items : List Item) (deeds : List Deed) (known : IsKnownAt p deeds) (at : CallsAt p place id does back items q) where
  -- where the journal is worn no job comes
  pub none_comes : IsWorn at.first → (key : Key) → ComesBy (told_by does back) key → ⊥
  none_comes worn key comes = by does back at.own (at.called).step comes
    where
      work : StaysHere at.first (at.called).middle
      work = worked p q place id does back items known.keyed at

      middle : IsWorn (at.called).middle
      middle = worn_still at.first (at.called).middle work.grows worn

      by : (d : DeskCall) (r : DeskReply) → part.IsOpenCall d → SessionDeskStep (at.called).middle d r at.last → ComesBy (told_by d r) key → ⊥
      by (desk.Put job) (replied.Put (Ok done)) own step come = (put_came served_runs served_parked served_cuts (at.called).middle at.last work.reached job step).0 middle
      by (desk.Put job) (replied.Put (Err refusal)) own step (inl none) = none
      by (desk.Put job) (replied.Put (Err refusal)) own step (inr none) = none
      by (desk.Put job) (replied.Unfit back) own step (inl none) = none
      by (desk.Put job) (replied.Unfit back) own step (inr none) = none
      by (desk.Put job) (replied.Announced answer) own step come = step.1
      by (desk.Put job) (replied.Worked w) own step come = step.1
      by (desk.Put job) (replied.Collected answer) own step come = step.1
      by (desk.Put job) (replied.Removed answer) own step come = step.1
      by (desk.Put job) replied.Dropped own step come = step.1
      by (desk.Put job) replied.Ended own step come = step.1
      by desk.Collect (replied.Collected answer) own step (inl none) = none
      by desk.Collect (replied.Collected answer) own step (inr none) = none
      by desk.Collect (replied.Announced answer) own step come = step.1
      by desk.Collect (replied.Put answer) own step come = step.1
      by desk.Collect (replied.Unfit job) own step come = step.1
      by desk.Collect (replied.Worked w) own step come = step.1
      by desk.Collect (replied.Removed answer) own step come = step.1
      by desk.Collect replied.Dropped own step come = step.1
      by desk.Collect replied.Ended own step come = step.1
      by desk.Announce (replied.Announced answer) own step (inl none) = none
      by desk.Announce (replied.Announced answer) own step (inr none) = none
      by desk.Announce (replied.Put answer) own step come = step.1
      by desk.Announce (replied.Unfit job) own step come = step.1
      by desk.Announce (replied.Worked w) own step come = step.1
      by desk.Announce (replied.Collected answer) own step come = step.1
      by desk.Announce (replied.Removed answer) own step come = step.1
      by desk.Announce replied.Dropped own step come = step.1
      by desk.Announce replied.Ended own step come = step.1
      by desk.Remove (replied.Removed answer) own step (inl none) = none
      by desk.Remove (replied.Removed answer) own step (inr none) = none
      by desk.Remove (replied.Announced answer) own step come = step.1
      by desk.Remove (replied.Put answer) own step come = step.1
      by desk.Remove (replied.Unfit job) own step come = step.1
      by desk.Remove (replied.Worked w) own step come = step.1
      by desk.Remove (replied.Collected answer) own step come = step.1
      by desk.Remove replied.Dropped own step come = step.1
      by desk.Remove replied.Ended own step come = step.1
      by (desk.Work runs) r own step come = own
      by desk.DropChannel r own step come = own
      by desk.End r own step come = own

  worn_call : (device : ℕ) (key : Key) → IsWornFor p deeds device key → IsWornFor q (stored id items ++ deeds) device key
  worn_call device key is = record {
    entries = many (id == device) refl;
    later = λ index here. less index (id == device) refl here;
    worn = λ k d s here same. elim (found p q place id does back items deeds known.keyed known.told at k d s here) [
      | inl (this, own, station) ↦ subst IsWorn (sym station) (call_grows p q place id does back items known.keyed at (first (sym own ∙ same)))
      | inr (other, was) ↦ is.worn k d s was same
    ];
  }
    where
      first : id ≡ device → IsWorn at.first
      first same = is.worn place at.before at.first (at.there, at.has) (at.id_is ∙ same)

      here_is : (id == device) ≡ true → journal device (stored id items ++ deeds) ≡ reverse items ++ journal device deeds
      here_is e = subst (λ (n : ℕ). journal n (stored id items ++ deeds) ≡ reverse items ++ journal n deeds) (eqb-true id device e) (stored_here id (reverse items) deeds)

      many : (b : Bool) → (id == device) ≡ b → worn_entries ≤ length (journal device (stored id items ++ deeds))
      many true e =
          let longer : length (journal device (stored id items ++ deeds)) ≡ length (reverse items) + length (journal device deeds) = ap length (here_is e) ∙ length-append (reverse items) (journal device deeds) in
          let was = is.entries in
          omega (arith, longer, was)
      many false e = subst (λ (j : List Item). worn_entries ≤ length j) (sym (stored_elsewhere id device (reverse items) deeds e)) is.entries

      less : (index : ℕ) (b : Bool) → (id == device) ≡ b → came key.channel (journal device (stored id items ++ deeds)) index ≡ true → index < key.index
      less index true e here = elim (came_more key.channel (reverse items) (journal device deeds) index (sym (ap (λ (j : List Item). came key.channel j index) (here_is e)) ∙ here)) [
        | inl (k, has, channel, same) ↦ absurd (none_comes (first (eqb-true id device e)) k (called_comes at.before at.after at.first at.last does back items at.called k (turned_has (Came k) items has)))
        | inr was ↦ is.later index was
      ]
      less index false e here = is.later index (sym (ap (λ (j : List Item). came key.channel j index) (stored_elsewhere id device (reverse items) deeds e)) ∙ here)

-- ---- a job is answered without its device

directly : (r : Request) (st : Status) → FitsCompletion r → st.0 < 2 ^ 32 → BodyFits (kind_of r.op) st (fault st).body → (d : ℕ) (job : Job) (c index : ℕ) → d ≡ r.device → job ≡ job_of r c index → CompletesWith r (fault st) (client.direct_bytes job d st)
directly r st room small fits d job c index device is =
    subst (λ (x : ℕ × Job). CompletesWith r (fault st) (client.direct_bytes x.1 x.0 st)) (λ i. (sym device i, sym is i)) (completes_with r (fault st) room (small, tt) fits)

module _ (devices : List Announce) (desks : List DeviceDeskState) (have : HaveDesks devices desks) (writable : AreWritable devices) where
  -- what is known at a point beside what is said
  pub record IsAt (p : Served) (deeds : List Deed) : Type 0 where
    pub known : IsKnownAt p deeds
    pub own : IsOwn devices p deeds
    pub ids : ids_of (p.front).desks ≡ ids_of desks
    pub fine : AreFine FitsCompletion deeds
    pub way : IsWayFit p
    pub open_way : (k : Kept) → IsUnder p.asking k → IsOpen p

  module _ (p : Served) (deeds : List Deed) (at : IsAt p deeds) where
    pub room : AllByRecursion HasRoomToAnnounce (announces (p.front).client)
    room = lists_room (announces (p.front).client) devices ((at.own).fine).same writable

    -- a device that the host is told of has a desk
    told_desk : (n : ℕ) → is_told_there p.front n ≡ true → desk_place (p.front).desks n ≡ None → ⊥
    told_desk n told none =
        let has = has_of (is_client_ready (((p.front).client).core).shake) (has_device (p.front).client n) (is_gone (p.front).client n) told in
        let some = lists_desk desks n ((p.front).client).devices devices ((at.own).fine).same have has in
        let first = none_by (p.front).desks desks n at.ids none in
        let there = some.1 in cc (first, there)

    -- the station of a job's device, where its journal is worn
    worn_for : (k : Kept) → IsUnder p.asking k → (place : ℕ) (d : DeviceDeskState) (s : Of) → IsDeskAt p place d s → d.id ≡ k.device → IsWorn s → IsWornFor p deeds k.device k.job.key
    worn_for k way place d s here id worn = record {
      entries =
          let few = (reached_kept served_runs served_parked served_cuts s (reached_at p place s (at.known).keyed here.1)).few in
          let many = worn_entries_of s few worn in
          let size : length (journal k.device deeds) ≡ length s.journal = ap length own ∙ length-reverse s.journal in
          omega (arith, many, size);
      later = λ index there. below index (came_has k.job.key.channel (journal k.device deeds) index there);
      worn = λ pl e t one same.
          let equal : pl ≡ place = ((at.known).told).apart pl place e d one.0 here.0 (same ∙ sym id) in
          let station : t ≡ s = some_same t s (slice_get p.stations pl) one.1 (ap (slice_get p.stations) equal ∙ here.1) in
          subst IsWorn (sym station) worn;
    }
      where
        own : journal k.device deeds ≡ reverse s.journal
        own = ap (λ (n : ℕ). journal n deeds) (sym id) ∙ ((at.known).told).tied place d s here

        below : (index : ℕ) → (key : Key) × Has (Came key) (journal k.device deeds) × (key.channel ≡ k.job.key.channel) × (key.index ≡ index) → index < k.job.key.index
        below index (key, has, channel, same) =
            let there : Has (Came key) s.journal = turned_has (Came key) s.journal (subst (Has (Came key)) own has) in
            elim ((((at.known).keyed).asking k way).above s (has_at p.stations place s here.1) key (came_named s.journal key (to_contains s.journal (Came key) there))) [
              | inl less ↦ absurd (omega (arith, less, channel))
              | inr low ↦ (let less = low.1 in omega (arith, less, same))
            ]

  -- ---- the refusal

  module _ (p : Served) (deeds : List Deed) (at : IsAt p deeds) (said : AreSaid p deeds) (k : Kept) (way : IsUnder p.asking k) where
    abbrev older : Messages
    older = written_then (outbox_of p) (client_wrote (p.front).channel deeds)

    abbrev Right : Status → Type 0
    Right st = RightAt (IsWornFor p deeds) (p.front).channel (Some k.job.key) (client.direct_bytes k.job k.device st) older

    job_told : IsJobAt deeds k
    job_told = ((at.known).told).asking k way

    next : IsNextJob p.front p.stations k
    next = ((at.known).keyed).asking k way

    -- a completion that refuses it, by its head
    head_of : (st : Status) → st.0 < 2 ^ 32 → BodyFits (kind_of (job_told.request).op) st (fault st).body → head_in (client.direct_bytes k.job k.device st) ≡ Some (record { device = (job_told.request).device; completion = (job_told.request).completion; status = st })
    head_of st small fits =
        let r = job_told.request in
        let m : List ℕ = client.direct_bytes k.job k.device st in
        let done : CompletesWith r (fault st) m = directly r st (at.fine k.job.key.channel k.job.key.index r job_told.read) small fits k.device k.job k.job.key.channel k.job.key.index (sym job_told.device) job_told.job_is in
        rw (head_read (record { device = r.device; completion = r.completion; status = st }) m done.head).1 refl

    gone_right : is_told_there p.front k.device ≡ false → Right no_such_device
    gone_right off = (
      record { device = (job_told.request).device; completion = (job_told.request).completion; status = no_such_device },
      head_of no_such_device (lit< tt) (refl, tt),
      next.channel,
      inl (refl, subst (λ (n : ℕ). is_said_gone n older ≡ true) (sym job_told.device) (said.marks next.on k.device ∙ ap not off)),
    )

    worn_right : is_told_there p.front k.device ≡ true → (place : ℕ) (d : DeviceDeskState) (s : Of) → IsDeskAt p place d s → d.id ≡ k.device → IsWorn s → Right insufficient_resources
    worn_right told place d s here id worn = (
      record { device = (job_told.request).device; completion = (job_told.request).completion; status = insufficient_resources },
      head_of insufficient_resources (lit< tt) (refl, tt),
      next.channel,
      inr (
        refl,
        subst (λ (n : ℕ). is_said_gone n older ≡ false) (sym job_told.device) (said.marks next.on k.device ∙ ap not told),
        subst (λ (n : ℕ). IsWornFor p deeds n k.job.key) (sym job_told.device) (worn_for p deeds at k way place d s here id worn),
      ),
    )

    -- by its cause
    direct_right : (st : Status) → MayBeDirect p k st → Right st
    direct_right st (inl absent) = subst Right (sym absent.2) (by (is_told_there p.front k.device) refl)
      where
        by : (b : Bool) → is_told_there p.front k.device ≡ b → Right no_such_device
        by true told = absurd (told_desk p deeds at k.device told absent.1)
        by false off = gone_right off
    direct_right st (inr (inl gone)) = subst Right (sym gone.1) (by (is_told_there p.front k.device) refl)
      where
        by : (b : Bool) → is_told_there p.front k.device ≡ b → Right (cond b insufficient_resources no_such_device)
        by false off = gone_right off
        by true told =
            let (place, d, s, here, id, off) = (at.way).gone k gone.0 in
            elim ((at.open_way k way).told place d s here next.on (subst (λ (n : ℕ). is_told_there p.front n ≡ true) (sym id) told)) [
              | inl so ↦ elim so [ inl live ↦ absurd (cc (live, off)) | inr worn ↦ worn_right told place d s here id worn ]
              | inr never ↦ absurd never
            ]
    direct_right st (inr (inr (count, worn, is))) =
        let (place, d, s, here, id, so) = (at.way).worn k count worn in
        let lives = (at.open_way k way).live place d s here so.0 in
        subst Right (sym is) (elim lives.1 [ inl told ↦ worn_right (subst (λ (n : ℕ). is_told_there p.front n ≡ true) id told) place d s here id so.1 | inr never ↦ absurd never ])

  -- ---- each part

  wrote_one : (c x : ℕ) (m : List ℕ) (ms : Messages) → ((x == c) ≡ false) → cons_option (on c x m) ms ≡ ms
  wrote_one c x m ms other = ap (λ (b : Bool). cons_option (cond b (Some m) None) ms) other

  wrote_here : (c x : ℕ) (m : List ℕ) (ms : Messages) → x ≡ c → cons_option (on c x m) ms ≡ m ∷ ms
  wrote_here c x m ms same = ap (λ (b : Bool). cons_option (cond b (Some m) None) ms) (eq-eqb x c same)

  apart_of : (a b : ℕ) → a < b → (a == b) ≡ false
  apart_of a b less = by (a == b) refl
    where
      by : (e : Bool) → (a == b) ≡ e → e ≡ false
      by true is = absurd (let same = eqb-true a b is in omega (arith, less, same))
      by false is = refl

  -- where the client, the desks and the channel are the same, and what is done writes nothing
  said_same : (p q : Served) (deeds more : List Deed) → (q.front).client ≡ (p.front).client → (q.front).on ≡ (p.front).on → (q.front).channel ≡ (p.front).channel → ((c : ℕ) → client_wrote c more ≡ client_wrote c deeds) → ((device : ℕ) (key : Key) → IsWornFor p deeds device key → IsWornFor q more device key)
      → EachAfter RefusesDirectly more → AreSaid p deeds → AreSaid q more
  said_same p q deeds more same on_is channel wrote worn each said = record {
    marks = λ now. subst (λ (c : ClientCoreState). SaysMarks c (written_then (c.core).outbox (client_wrote (q.front).channel more))) (sym same) (subst (λ (ms : Messages). SaysMarks (p.front).client (written_then (outbox_of p) ms)) (sym moved) (said.marks (sym on_is ∙ now)));
    out = subst (λ (n : ℕ). AllRight (IsWornFor q more) n (outbox_of q) (client_wrote (q.front).channel more)) (sym channel)
        (subst (λ (os : List Outgoing). AllRight (IsWornFor q more) (p.front).channel os (client_wrote (q.front).channel more)) (sym (ap (λ (c : ClientCoreState). (c.core).outbox) same))
        (subst (λ (ms : Messages). AllRight (IsWornFor q more) (p.front).channel (outbox_of p) ms) (sym moved) (all_right (IsWornFor p deeds) (IsWornFor q more) (p.front).channel worn (outbox_of p) (client_wrote (p.front).channel deeds) (client_wrote (p.front).channel deeds) (λ d. refl) said.out)));
    later = λ c above. wrote c ∙ said.later c (subst (λ (n : ℕ). n < c) channel above);
    each = each;
  }
    where
      moved : client_wrote (q.front).channel more ≡ client_wrote (p.front).channel deeds
      moved = wrote (q.front).channel ∙ ap (λ (n : ℕ). client_wrote n deeds) channel

  -- nothing is done
  said_idle : (p q : Served) (deeds : List Deed) → (q.front).client ≡ (p.front).client → (q.front).on ≡ (p.front).on → (q.front).channel ≡ (p.front).channel → (q.front).desks ≡ (p.front).desks → q.stations ≡ p.stations → AreSaid p deeds → AreSaid q deeds
  said_idle p q deeds same on_is channel desks_are stations said = said_same p q deeds deeds same on_is channel (λ c. refl) (worn_same p q deeds deeds desks_are stations (λ d. refl)) said.each said

  -- the client says more, which answers nothing or a request rightly
  said_more : (p q : Served) (deeds more : List Deed) (ys : List Outgoing) → outbox_of q ≡ outbox_of p ++ ys → (q.front).on ≡ (p.front).on → (q.front).channel ≡ (p.front).channel → (q.front).desks ≡ (p.front).desks → q.stations ≡ p.stations
      → ((c : ℕ) → client_wrote c more ≡ client_wrote c deeds) → ((d : ℕ) → journal d more ≡ journal d deeds) → EachAfter RefusesDirectly more
      → ((p.front).on ≡ true → SaysMarks (q.front).client (written_then ys (written_then (outbox_of p) (client_wrote (p.front).channel deeds)))) → AllRight (IsWornFor p deeds) (p.front).channel ys (written_then (outbox_of p) (client_wrote (p.front).channel deeds))
      → AreSaid p deeds → AreSaid q more
  said_more p q deeds more ys grown on_is channel desks_are stations wrote same each marks right said = record {
    marks = λ now. subst (λ (ms : Messages). SaysMarks (q.front).client ms) (sym (then_is)) (marks (sym on_is ∙ now));
    out = subst (λ (n : ℕ). AllRight (IsWornFor q more) n (outbox_of q) (client_wrote (q.front).channel more)) (sym channel)
        (subst (λ (os : List Outgoing). AllRight (IsWornFor q more) (p.front).channel os (client_wrote (q.front).channel more)) (sym grown)
        (subst (λ (ms : Messages). AllRight (IsWornFor q more) (p.front).channel (outbox_of p ++ ys) ms) (sym moved)
        (all_right (IsWornFor p deeds) (IsWornFor q more) (p.front).channel (worn_same p q deeds more desks_are stations same) (outbox_of p ++ ys) wrote_now wrote_now (λ d. refl) (right_more (IsWornFor p deeds) (p.front).channel (outbox_of p) ys wrote_now said.out right))));
    later = λ c above. wrote c ∙ said.later c (subst (λ (n : ℕ). n < c) channel above);
    each = each;
  }
    where
      wrote_now : Messages
      wrote_now = client_wrote (p.front).channel deeds

      moved : client_wrote (q.front).channel more ≡ client_wrote (p.front).channel deeds
      moved = wrote (q.front).channel ∙ ap (λ (n : ℕ). client_wrote n deeds) channel

      then_is : written_then (outbox_of q) (client_wrote (q.front).channel more) ≡ written_then ys (written_then (outbox_of p) (client_wrote (p.front).channel deeds))
      then_is = (λ i. written_then (grown i) (moved i)) ∙ then_more (outbox_of p) ys (client_wrote (p.front).channel deeds)

  -- ---- marks

  module _ (c : ClientCoreState) (ms : Messages) (ready : is_client_ready (c.core).shake ≡ true) where
    to_marks : SaysMarks c ms → MarksSay c ms
    to_marks say d = say d ∙ ap (λ (r : Bool). not (r && (has_device c d && not (is_gone c d)))) ready

    of_marks : MarksSay c ms → SaysMarks c ms
    of_marks say d = say d ∙ ap (λ (r : Bool). not (r && (has_device c d && not (is_gone c d)))) (sym ready)

  -- ---- what is stored

  stored_refuse : (device : ℕ) (items : List Item) (deeds : List Deed) → EachAfter RefusesDirectly deeds → EachAfter RefusesDirectly (map (stores device) items ++ deeds)
  stored_refuse device [] deeds each = each
  stored_refuse device (x ∷ items) deeds each = (tt, stored_refuse device items deeds each)

  each_refuse : (told : List (ℕ × List Item)) (deeds : List Deed) → EachAfter RefusesDirectly deeds → EachAfter RefusesDirectly (stored_each told ++ deeds)
  each_refuse [] deeds each = each
  each_refuse (t ∷ told) deeds each = subst (EachAfter RefusesDirectly) (sym (append_assoc (stored_each told) (stored t.0 t.1) deeds)) (each_refuse told (stored t.0 t.1 ++ deeds) (stored_refuse t.0 (reverse t.1) deeds each))

  -- ---- the parts

  hears_said : (p q : Served) (deeds : List Deed) (channel : ℕ) (m : List ℕ) (answer : Result Heard EndFault) → PartGoes p (hears channel m answer) q → IsAt p deeds → AreSaid p deeds → AreSaid q (deeds_of (hears channel m answer) ++ deeds)
  hears_said p q deeds channel m answer goes at said = by answer ((goes.3).0).1
    where
      on_is : (q.front).on ≡ (p.front).on
      on_is = ap (λ (s : FrontState). s.on) (goes.3).1

      channel_is : (q.front).channel ≡ (p.front).channel
      channel_is = ap (λ (s : FrontState). s.channel) (goes.3).1

      desks_are : (q.front).desks ≡ (p.front).desks
      desks_are = ap (λ (s : FrontState). s.desks) (goes.3).1

      heard : (a : Result Heard EndFault) → client_hear (p.front).client m ≡ ((q.front).client, a) → AreSaid q (client_reads channel m ∷ deeds)
      heard a e =
          let (more, same, own) = hear_adds (p.front).client m in
          let client_is = ap (λ (r : ClientCoreState × Result Heard EndFault). r.0) e in
          let wrote : Messages = client_wrote (p.front).channel deeds in
          said_more p q deeds (client_reads channel m ∷ deeds) more (sym (ap (λ (c : ClientCoreState). (c.core).outbox) client_is) ∙ same) on_is channel_is desks_are goes.5 (λ c. refl) (λ d. refl) (tt, said.each)
          (λ now. subst (λ (c : ClientCoreState). SaysMarks c (written_then more (written_then (outbox_of p) wrote))) client_is
          (subst (λ (ms : Messages). SaysMarks (client_hear (p.front).client m).0 ms) ((λ i. written_then (same i) wrote) ∙ then_more (outbox_of p) more wrote)
          (hear_marks (p.front).client (client_hear (p.front).client m) wrote (hear_on (p.front).client m) (client_kept (p.front).client m).ready (((at.own).fine).fits).kept.devices (((at.own).fine).fits).short (room p deeds at) (said.marks now))))
          (own_right (IsWornFor p deeds) (p.front).channel more (written_then (outbox_of p) wrote) own) said

      by : (a : Result Heard EndFault) → hearing.Hears client_side (λ (c : ClientCoreState). c.core) client_hear (p.front).client m a (q.front).client → AreSaid q (deeds_of (hears channel m a) ++ deeds)
      by (Err end_fault.Memory) did = said_idle p q deeds did.1 on_is channel_is desks_are goes.5 said
      by (Err (end_fault.Order state packet)) did = heard _ did
      by (Err (end_fault.Grammar bad)) did = heard _ did
      by (Ok h) did = heard _ did

  directs_said : (p q : Served) (deeds : List Deed) (st : Status) (answer : Result (Unit {0}) AllocError) → PartGoes p (directs st answer) q → IsAt p deeds → AreSaid p deeds → AreSaid q deeds
  directs_said p q deeds st (Err error) goes at said =
      said_idle p q deeds ((goes.2).0).1 (ap (λ (s : FrontState). s.on) (goes.2).1) (ap (λ (s : FrontState). s.channel) (goes.2).1) (ap (λ (s : FrontState). s.desks) (goes.2).1) goes.4 said
  directs_said p q deeds st (Ok done) goes at said =
      let k = goes.0 in
      let m : List ℕ = client.direct_bytes k.job k.device st in
      let own : Outgoing = record { message = m; answers = Some k.job.key } in
      let older_now : Messages = written_then (outbox_of p) (client_wrote (p.front).channel deeds) in
      said_more p q deeds deeds (own ∷ []) (ap (λ (c : ClientCoreState). (c.core).outbox) ((goes.2).0).1) (ap (λ (s : FrontState). s.on) (goes.2).1) (ap (λ (s : FrontState). s.channel) (goes.2).1) (ap (λ (s : FrontState). s.desks) (goes.2).1) goes.4 (λ c. refl) (λ d. refl) said.each
      (λ now. subst (λ (c : ClientCoreState). SaysMarks c (m ∷ older_now)) (sym ((goes.2).0).1) (λ d. completion_says d (kind_of k.job.op) (record { device = k.device; completion = k.job.completion; status = st }) Fault older_now ∙ said.marks now d))
      (direct_right p deeds at said k (direct_under p k st goes.1) st goes.1, tt) said

  sends_said : (p q : Served) (deeds : List Deed) (channel : ℕ) (sent : Option Outgoing) → PartGoes p (sends channel sent) q → AreSaid p deeds → AreSaid q (deeds_of (sends channel sent) ++ deeds)
  sends_said p q deeds channel None goes said = record {
    marks = λ now d. ap (λ (os : List Outgoing). is_said_gone d (written_then os (client_wrote (q.front).channel deeds))) out_is ∙ ap (λ (n : ℕ). is_said_gone d (written_then (outbox_of p) (client_wrote n deeds))) channel_is ∙ said.marks (sym on_is ∙ now) d ∙ ap not (sym (told_is d));
    out = subst (λ (n : ℕ). AllRight (IsWornFor q deeds) n (outbox_of q) (client_wrote n deeds)) (sym channel_is) (subst (λ (os : List Outgoing). AllRight (IsWornFor q deeds) (p.front).channel os (client_wrote (p.front).channel deeds)) (sym out_is)
        (all_right (IsWornFor p deeds) (IsWornFor q deeds) (p.front).channel (worn_same p q deeds deeds (ap (λ (s : FrontState). s.desks) (goes.1).1) goes.3 (λ d. refl)) (outbox_of p) (client_wrote (p.front).channel deeds) (client_wrote (p.front).channel deeds) (λ d. refl) said.out));
    later = λ c above. said.later c (subst (λ (n : ℕ). n < c) channel_is above);
    each = said.each;
  }
    where
      on_is : (q.front).on ≡ (p.front).on
      on_is = ap (λ (s : FrontState). s.on) (goes.1).1

      channel_is : (q.front).channel ≡ (p.front).channel
      channel_is = ap (λ (s : FrontState). s.channel) (goes.1).1

      out_is : outbox_of q ≡ outbox_of p
      out_is = sent_none (p.front).client (q.front).client (goes.1).0

      told_is : (d : ℕ) → is_told_by (q.front).client d ≡ is_told_by (p.front).client d
      told_is = sent_told Never Never Never Never (p.front).client (q.front).client None (goes.1).0
  sends_said p q deeds channel (Some o) goes said = by o.answers refl
    where
      found_rest : (rest : List Outgoing) × (outbox_of p ≡ o ∷ rest) × (outbox_of q ≡ rest)
      found_rest = sent_first (p.front).client (q.front).client o (goes.1).0

      on_is : (q.front).on ≡ (p.front).on
      on_is = ap (λ (s : FrontState). s.on) (goes.1).1

      channel_is : (q.front).channel ≡ (p.front).channel
      channel_is = ap (λ (s : FrontState). s.channel) (goes.1).1

      wrote : Messages
      wrote = client_wrote (p.front).channel deeds

      told_is : (d : ℕ) → is_told_by (q.front).client d ≡ is_told_by (p.front).client d
      told_is = sent_told Never Never Never Never (p.front).client (q.front).client (Some o) (goes.1).0

      all : RightAt (IsWornFor p deeds) (p.front).channel o.answers o.message wrote × AllRight (IsWornFor p deeds) (p.front).channel found_rest.0 (o.message ∷ wrote)
      all = subst (λ (os : List Outgoing). AllRight (IsWornFor p deeds) (p.front).channel os wrote) found_rest.1 said.out

      moved : (y : Deed) → ((d : ℕ) → journal d (y ∷ deeds) ≡ journal d deeds) → client_wrote (p.front).channel (y ∷ deeds) ≡ o.message ∷ wrote → ((c : ℕ) → (p.front).channel < c → client_wrote c (y ∷ deeds) ≡ client_wrote c deeds) → RefusesDirectly deeds y → AreSaid q (y ∷ deeds)
      moved y journals grown others refuses = record {
        marks = λ now d. (λ i. is_said_gone d (written_then (found_rest.2 i) (client_wrote (channel_is i) (y ∷ deeds)))) ∙ ap (λ (ms : Messages). is_said_gone d (written_then found_rest.0 ms)) grown
            ∙ ap (λ (os : List Outgoing). is_said_gone d (written_then os wrote)) (sym found_rest.1) ∙ said.marks (sym on_is ∙ now) d ∙ ap not (sym (told_is d));
        out = subst (λ (n : ℕ). AllRight (IsWornFor q (y ∷ deeds)) n (outbox_of q) (client_wrote n (y ∷ deeds))) (sym channel_is)
            (subst (λ (os : List Outgoing). AllRight (IsWornFor q (y ∷ deeds)) (p.front).channel os (client_wrote (p.front).channel (y ∷ deeds))) (sym found_rest.2)
            (subst (λ (ms : Messages). AllRight (IsWornFor q (y ∷ deeds)) (p.front).channel found_rest.0 ms) (sym grown)
            (all_right (IsWornFor p deeds) (IsWornFor q (y ∷ deeds)) (p.front).channel (worn_same p q deeds (y ∷ deeds) (ap (λ (s : FrontState). s.desks) (goes.1).1) goes.3 journals) found_rest.0 (o.message ∷ wrote) (o.message ∷ wrote) (λ d. refl) all.1)));
        later = λ c above. let less = subst (λ (n : ℕ). n < c) channel_is above in others c less ∙ said.later c less;
        each = (refuses, said.each);
      }

      by : (a : Option Key) → o.answers ≡ a → AreSaid q (sent_by channel o.message a ++ deeds)
      by None is = moved (client_writes channel o.message) (λ d. refl) (wrote_here (p.front).channel channel o.message wrote goes.0)
          (λ c less. wrote_one c channel o.message (client_wrote c deeds) (apart_of channel c (let e = goes.0 in omega (arith, less, e)))) tt
      by (Some key) is =
          let right : RightAt (IsWornFor p deeds) (p.front).channel (Some key) o.message wrote = subst (λ (x : Option Key). RightAt (IsWornFor p deeds) (p.front).channel x o.message wrote) is all.0 in
          let here : key.channel ≡ (p.front).channel = right.2 in
          moved (completes key o.message) (λ d. refl) (wrote_here (p.front).channel key.channel o.message wrote here)
          (λ c less. wrote_one c key.channel o.message (client_wrote c deeds) (apart_of key.channel c (omega (arith, less, here))))
          (right_so p (p.front).channel key o.message deeds (subst (λ (n : ℕ). RightAt (IsWornFor p deeds) (p.front).channel (Some key) o.message (client_wrote n deeds)) (sym here) right))

  writes_said : (p : Served) (deeds : List Deed) (device : ℕ) (c : Completion) → p.asking ≡ hands device c → IsAt p deeds → AreSaid p deeds → AreSaid (record p { asking = idle }) (completes c.key (completion_message device c) ∷ deeds)
  writes_said p deeds device c asking at said = record {
    marks = λ now d. then_same (outbox_of p) wrote (cons_option (on (p.front).channel (c.key).channel m) wrote) (says ((c.key).channel == (p.front).channel)) d ∙ said.marks now d;
    out = all_right (IsWornFor p deeds) (IsWornFor (record p { asking = idle }) (completes c.key m ∷ deeds)) (p.front).channel (worn_same p (record p { asking = idle }) deeds (completes c.key m ∷ deeds) refl refl (λ d. refl)) (outbox_of p) wrote (cons_option (on (p.front).channel (c.key).channel m) wrote)
        (says ((c.key).channel == (p.front).channel)) said.out;
    later = λ x above. wrote_one x (c.key).channel m (client_wrote x deeds) (apart_of (c.key).channel x (omega (arith, low, above))) ∙ said.later x above;
    each = (own, said.each);
  }
    where
      m : List ℕ
      m = completion_message device c

      wrote : Messages
      wrote = client_wrote (p.front).channel deeds

      says : (b : Bool) → SaySame wrote (cons_option (cond b (Some m) None) wrote)
      says true d = completion_says d c.kind (record { device = device; completion = c.completion; status = (c.reply).status }) (c.reply).body wrote
      says false d = refl

      has : Has (Came c.key) (journal device deeds)
      has = (((at.known).standing).handing device c asking).1

      low : (c.key).channel ≤ (p.front).channel
      low =
          let (place, s, there, names) = came_here p deeds (at.known).told (at.known).standing device c.key has in
          elim (((at.known).keyed).named s (has_at p.stations place s there) c.key names) [ inl less ↦ omega (arith, less) | inr here ↦ (let e = here.0 in omega (arith, e)) ]

      own : RefusesDirectly deeds (completes c.key m)
      own r reply read done never refusal =
          let (t, found_read, named) = came_read device c.key deeds (at.known).read has in
          let both : Some r ≡ Some t = sym read ∙ found_read in
          let same : r ≡ t = cc (both) in
          let there : came (c.key).channel (journal device deeds) (c.key).index ≡ true = came_true c.key (journal device deeds) has in
          let none : came (c.key).channel (journal device deeds) (c.key).index ≡ false = subst (λ (n : ℕ). came (c.key).channel (journal n deeds) (c.key).index ≡ false) (ap (λ (x : Request). x.device) same ∙ named) never in
          absurd (cc (there, none))

  gone_said : (p q : Served) (deeds : List Deed) (device : ℕ) → PartGoes p (tells_gone device (Ok tt)) q → IsAt p deeds → AreSaid p deeds → AreSaid q (removes device ∷ deeds)
  gone_said p q deeds device goes at said =
      let c : ClientCoreState = (p.front).client in
      let older_now : Messages = written_then (outbox_of p) (client_wrote (p.front).channel deeds) in
      let ready : is_client_ready (c.core).shake ≡ true = ap is_client_ready (((goes.0).0).0).0 in
      let has : has_device c device ≡ true = (((goes.0).0).0).1 in
      said_more p q deeds (removes device ∷ deeds) (plain (removal_bytes (device ∷ [])) ∷ []) (ap (λ (x : ClientCoreState). (x.core).outbox) ((goes.0).0).1) (ap (λ (s : FrontState). s.on) (goes.0).1) (ap (λ (s : FrontState). s.channel) (goes.0).1) (ap (λ (s : FrontState). s.desks) (goes.0).1) goes.2
      (λ x. refl) (λ d. refl) (tt, said.each)
      (λ now. subst (λ (x : ClientCoreState). SaysMarks x (removal_bytes (device ∷ []) ∷ older_now)) (sym ((goes.0).0).1)
      (of_marks (tell_removed c device) (removal_bytes (device ∷ []) ∷ older_now) ready (removal_marks c device older_now (room_of device c.devices (room p deeds at) has) (to_marks c older_now ready (said.marks now)))))
      (tt, tt) said

  there_said : (p q : Served) (deeds : List Deed) (device : ℕ) → PartGoes p (tells_there device (Ok tt)) q → IsAt p deeds → AreSaid p deeds → AreSaid q (adds device ∷ deeds)
  there_said p q deeds device goes at said =
      let c : ClientCoreState = (p.front).client in
      let list : List ℕ = list_bytes (listed_one c device) in
      let older_now : Messages = written_then (outbox_of p) (client_wrote (p.front).channel deeds) in
      let ready : is_client_ready (c.core).shake ≡ true = ap is_client_ready (((goes.0).0).0).0 in
      said_more p q deeds (adds device ∷ deeds) (plain list ∷ []) (ap (λ (x : ClientCoreState). (x.core).outbox) ((goes.0).0).1) (ap (λ (s : FrontState). s.on) (goes.0).1) (ap (λ (s : FrontState). s.channel) (goes.0).1) (ap (λ (s : FrontState). s.desks) (goes.0).1) goes.2
      (λ x. refl) (λ d. refl) (tt, said.each)
      (λ now. subst (λ (x : ClientCoreState). SaysMarks x (list ∷ older_now)) (sym ((goes.0).0).1)
      (of_marks (tell_added c device) (list ∷ older_now) ready (addition_marks c device older_now (spells (is_device device) c (((at.own).fine).fits).short (room p deeds at)) (to_marks c older_now ready (said.marks now)))))
      (tt, tt) said

  refreshed_said : (p : Served) (device : ℕ) (deeds : List Deed) → AreSaid p deeds → AreSaid (record p { front = with_new_data p.front device }) deeds
  refreshed_said p device deeds said = by (lookup (is_at (nat_cmp device)) (p.front).printers)
    where
      by : (o : Option PrinterNames) → AreSaid (record p { front = option_map_or (λ (names : PrinterNames). record p.front { client = client.refresh (p.front).client device (printer_data (p.front).cache names) }) o p.front }) deeds
      by None = said
      by (Some names) =
          let q : Served = record p { front = record p.front { client = client.refresh (p.front).client device (printer_data (p.front).cache names) } } in
          record {
            marks = λ now d. said.marks now d ∙ ap not (sym (told_refreshed (p.front).client device d (printer_data (p.front).cache names)));
            out = all_right (IsWornFor p deeds) (IsWornFor q deeds) (p.front).channel (worn_same p q deeds deeds refl refl (λ d. refl)) (outbox_of p) (client_wrote (p.front).channel deeds) (client_wrote (p.front).channel deeds) (λ d. refl) said.out;
            later = said.later;
            each = said.each;
          }

  ends_said : (p q : Served) (over : Bool) (told : List (ℕ × List Item)) (deeds : List Deed) → PartGoes p (ends over told) q → AreSaid p deeds → AreSaid q (stored_each told ++ deeds)
  ends_said p q over told deeds goes said = record {
    marks = λ now. absurd (let off = ap (λ (f : FrontState). f.on) goes.2 ∙ ended_on over p.front (q.front).desks in cc (now, off));
    out = subst (λ (os : List Outgoing). AllRight (IsWornFor q (stored_each told ++ deeds)) (q.front).channel os (client_wrote (q.front).channel (stored_each told ++ deeds))) (sym (ap (λ (f : FrontState). ((f.client).core).outbox) goes.2 ∙ ended_outbox over p.front (q.front).desks)) tt;
    later = λ c above. each_keeps (client_wrote c) (λ d x ds. refl) told deeds ∙ said.later c (subst (λ (n : ℕ). n < c) channel_is above);
    each = each_refuse told deeds said.each;
  }
    where
      channel_by : (b : Bool) → (ended_front b p.front (q.front).desks).channel ≡ (p.front).channel
      channel_by true = refl
      channel_by false = refl

      channel_is : (q.front).channel ≡ (p.front).channel
      channel_is = ap (λ (f : FrontState). f.channel) goes.2 ∙ channel_by over

  pub part_said : (p q : Served) (x : FrontPart) (deeds : List Deed) → PartGoes p x q → IsAt p deeds → AreSaid p deeds → AreSaid q (deeds_of x ++ deeds)
  part_said p q (hears channel m answer) deeds goes at said = hears_said p q deeds channel m answer goes at said
  part_said p q tries deeds goes at said = subst (λ (v : Served). AreSaid v deeds) (sym goes.4) (said_idle p _ deeds refl refl refl refl refl said)
  part_said p q keeps deeds goes at said = subst (λ (v : Served). AreSaid v deeds) (sym goes.3) (said_idle p _ deeds refl refl refl refl refl said)
  part_said p q forgets deeds goes at said = subst (λ (v : Served). AreSaid v deeds) (sym goes.4) (said_idle p _ deeds refl refl refl refl refl said)
  part_said p q misplaces deeds goes at said = subst (λ (v : Served). AreSaid v deeds) (sym goes.3) (said_idle p _ deeds refl refl refl refl refl said)
  part_said p q (directs st answer) deeds goes at said = directs_said p q deeds st answer goes at said
  part_said p q (part.calls place id does back items) deeds goes at said =
      said_same p q deeds (stored id items ++ deeds) (ap (λ (f : FrontState). f.client) goes.front_is) (ap (λ (f : FrontState). f.on) goes.front_is) (ap (λ (f : FrontState). f.channel) goes.front_is)
      (λ c. stored_keeps (client_wrote c) (λ d y ds. refl) id (reverse items) deeds) (worn_call p q place id does back items deeds at.known goes) (stored_refuse id (reverse items) deeds said.each) said
  part_said p q (tells_gone device (Ok done)) deeds goes at said = gone_said p q deeds device goes at said
  part_said p q (tells_gone device (Err error)) deeds goes at said =
      said_idle p q deeds ((goes.0).0).1 (ap (λ (s : FrontState). s.on) (goes.0).1) (ap (λ (s : FrontState). s.channel) (goes.0).1) (ap (λ (s : FrontState). s.desks) (goes.0).1) goes.2 said
  part_said p q (tells_there device (Ok done)) deeds goes at said = there_said p q deeds device goes at said
  part_said p q (tells_there device (Err error)) deeds goes at said =
      said_idle p q deeds ((goes.0).0).1 (ap (λ (s : FrontState). s.on) (goes.0).1) (ap (λ (s : FrontState). s.channel) (goes.0).1) (ap (λ (s : FrontState). s.desks) (goes.0).1) goes.2 said
  part_said p q (sends channel sent) deeds goes at said = sends_said p q deeds channel sent goes said
  part_said p q (writes device c) deeds goes at said = subst (λ (v : Served). AreSaid v (completes c.key (completion_message device c) ∷ deeds)) (sym goes.1) (writes_said p deeds device c goes.0 at said)
  part_said p q (unwritten device c) deeds goes at said = subst (λ (v : Served). AreSaid v deeds) (sym goes.1) (said_idle p _ deeds refl refl refl refl refl said)
  part_said p q (learns n answer) deeds goes at said = subst (λ (v : Served). AreSaid v deeds) (sym goes.1) (said_idle p _ deeds refl refl refl refl refl said)
  part_said p q (refreshes device) deeds goes at said = subst (λ (v : Served). AreSaid v deeds) (sym goes) (refreshed_said p device deeds said)
  part_said p q (begins channel) deeds goes at said = subst (λ (v : Served). AreSaid v deeds) (sym goes.3) (record {
    marks = λ now d. ap (is_said_gone d) (said.later channel goes.2);
    out = tt;
    later = λ c above. said.later c (let less = goes.2 in omega (arith, less, above));
    each = said.each;
  })
  part_said p q (ends over told) deeds goes at said = ends_said p q over told deeds goes said
