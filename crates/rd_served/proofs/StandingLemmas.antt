-- Where completions stand: a key comes before its completion, which is written after the key was sent; nothing else that is written is a completion.
use Rattle.std.proofs.Common.{◌≡◌, ◌≢◌, ◌⊎◌, ◌∙◌, refl, sym, ap, subst, inl, inr, ℕ, zero, suc, ◌≤◌, ◌+◌, ◌==◌, Bool, true, false, cond, List, [], ◌∷◌, ◌++◌, map, reverse, Option, Some, None, slice_get, slice_set, arith, append_assoc, append-nil, eq-eqb, eqb-true}
use Rattle.std.specs.Prelude.{◌||◌, Result, Ok, Err}
use Rattle.std.specs.declared.alloc.AllocError.{AllocError}
use Rattle.std.specs.List.{cons_option, list_any}
use Rattle.std.specs.Map.{lookup}
use Rattle.std.specs.Option.{option_map_or}
use Rattle.std.specs.Ordering.{nat_cmp}
use Rattle.std.specs.BTreeMap.{is_at}
use Rattle.rd_base.specs.Lawful.{IsBelow}
use Rattle.rd_base.specs.declared.journal.Item.{Item}
use Rattle.rd_base.specs.declared.journal.Item.TheVariants.{Came, Cancelled, Cut, Ran, Sent}
use Rattle.rd_base.specs.declared.journal.Key.{Key}
use Rattle.rd_base.specs.declared.packet.Packet.TheVariants.{IoCompletion}
use Rattle.rd_base.specs.declared.status.Status.{Status}
use Rattle.rd_client.specs.Core as client
use Rattle.rd_client.specs.Core.{ClientCoreState, Outgoing, client_hear, client_side}
use Rattle.rd_client.specs.declared.heard.Heard.{Heard}
use Rattle.rd_client.specs.declared.heard.Heard.TheVariants.{Nothing, Ask, Print}
use Rattle.rd_core.specs.Core as core
use Rattle.rd_core.specs.Hearing as hearing
use Rattle.rd_desk.specs.Desk.{told_by}
use Rattle.rd_desk.specs.declared.calls.DeskCall.{DeskCall}
use Rattle.rd_desk.specs.declared.calls.DeskCall.TheVariants as desk
use Rattle.rd_desk.specs.declared.calls.DeskReply.{DeskReply}
use Rattle.rd_desk.specs.declared.calls.DeskReply.TheVariants as replied
use Rattle.rd_devices.specs.DeviceList.{list_bytes}
use Rattle.rd_devices.specs.Removal.{removal_bytes}
use Rattle.rd_drive.specs.declared.plan.Job.{Job}
use Rattle.rd_front.specs.Front.{end_call, one_if_done, with_new_data}
use Rattle.rd_front.specs.State.{DeviceDeskState, FrontState, SessionStation}
use Rattle.rd_front.specs.declared.calls.FrontCall.{FrontCall}
use Rattle.rd_front.specs.declared.calls.FrontReply.{FrontReply}
use Rattle.rd_hello.specs.Moves.{is_of}
use Rattle.rd_hello.specs.declared.end_fault.EndFault.{EndFault}
use Rattle.rd_hello.specs.declared.end_fault.EndFault.TheVariants as fault
use Rattle.rd_irp.specs.declared.request.Request.{Request}
use Rattle.rd_station.specs.Memory.{NamesKey}
use Rattle.rd_station.specs.Station as station
use Rattle.rd_station.specs.Station.{is_key}
use Rattle.rd_station.specs.declared.answers.Completion.{Completion}
use Rattle.rd_station.proofs.Members.{has_append, has_left, has_right, same_key, to_contains}
use Rattle.rd_station.proofs.Remembering.{came_named, names_left}
use Rattle.rd_turn.specs.declared.object.Entry.{Entry}
use Rattle.rd_declared.specs.Devices.{PrinterNames, printer_data}
use Rattle.rd_world.specs.Events.{completion_message}
use Rattle.rd_deeds.specs.Joining.{Stands}
use Rattle.rd_deeds.specs.Talk.{Deed, EachAfter, Has, adds, client_reads, client_writes, completes, is_completion_of, journal, removes, request_at, stores}
use Rattle.rd_world.specs.World.{Kept}
use Rattle.rd_journals.specs.Reads.{ComesRead, IsGiven, IsRead}
use Rattle.rd_journals.specs.Standing.{IsOut}
use Rattle.rd_journals.proofs.HeldLemmas.{stored_unread, turned_has}
use Rattle.rd_journals.proofs.WorkLemmas.{grown_more}
use Rattle.rd_journals.proofs.WritingLemmas.{AddsOwn, adds_own, hear_adds, list_own, removal_own}
use Rattle.rd_served.specs.Deeds.{deeds_after, deeds_of, deeds_of_calls, sent_by, stored, stored_each}
use Rattle.rd_served.specs.Histories.{AreApart, AreStationed, HistoryGoes, IsNewFront}
use Rattle.rd_served.specs.Parts.{AsksBy, CallsAt, Comes, EndsEach, FrontPart, PartGoes, PartsGo, asking_by, begins, calls, directs, ended_front, ends, forgets, keeps, learns, misplaces, refreshes, sends, tells_gone, tells_there, tries, unwritten, writes}
use Rattle.rd_served.specs.Parts as part
use Rattle.rd_served.specs.Served.{Asking, CallsDesk, Served, asks, hands, idle}
use Rattle.rd_served.proofs.CauseLemmas.{At, IsTold, begins_told_well, get_set, part_told, stored_elsewhere, stored_here, tied_then, to_turned}
use Rattle.rd_served.proofs.ComesLemmas.{ComesBy, called_comes, calls_read, end_comes_none, part_read}
use Rattle.rd_served.proofs.HeldLemmas.{held_came, ready_held}
use Rattle.rd_served.proofs.StationLemmas.{put_stays}
use Rattle.rd_served.proofs.KeyLemmas.{AskedAs, HeardFacts, IsKeyed, IsNextJob, IsUnder, begins_at, both_true, current, desk_stays, ended_is, given_more, has_at, heard_facts, none_of, one_over, part_keyed, refreshed_calm, sent_calm, worked}

abbrev Of : Type 0
Of = SessionStation

-- a station's journal names the key
abbrev pub IsNamedAt : Served → Key → Type 0
IsNamedAt p key = (place : ℕ) × (s : Of) × (slice_get p.stations place ≡ Some s) × NamesKey s.journal key

-- the job is under way, or kept back
abbrev IsPending : Served → Kept → Type 0
IsPending p k = IsUnder p.asking k ⊎ ((p.front).kept ≡ Some k)

-- The key is of a request that was read, and no journal names it; nor is it that of the job that is still to come to its desk.
pub record IsUnserved (p : Served) (key : Key) : Type 0 where
  pub given : IsGiven (p.front).channel ((p.front).client).asked key
  pub unnamed : ¬ (IsNamedAt p key)
  pub other : (k : Kept) → IsPending p k → k.job.key ≢ key

abbrev outbox_of : Served → List Outgoing
outbox_of p = (((p.front).client).core).outbox

-- a desk of this device
abbrev HasDesk : Served → ℕ → Type 0
HasDesk p device = (place : ℕ) × (d : DeviceDeskState) × (s : Of) × At p place d s × (d.id ≡ device)

pub record AreStanding (p : Served) (deeds : List Deed) : Type 0 where
  pub stand : EachAfter Stands deeds
  pub out : (o : Outgoing) → Has o (outbox_of p) → IsOut (IsUnserved p) o.answers o.message
  pub closed : (key : Key) → list_any (is_completion_of key) deeds ≡ true → IsUnserved p key ⊎ IsNamedAt p key
  pub owned : (device : ℕ) (x : Item) → Has x (journal device deeds) → HasDesk p device
  pub handing : (device : ℕ) (c : Completion) → p.asking ≡ hands device c → Has (Sent c.key) (journal device deeds) × Has (Came c.key) (journal device deeds)

-- all that is known of a point
pub record IsKnownAt (p : Served) (deeds : List Deed) : Type 0 where
  pub keyed : IsKeyed p
  pub told : IsTold p deeds
  pub read : EachAfter ComesRead deeds
  pub standing : AreStanding p deeds

as_out : (p q : Served) → ((key : Key) → IsUnserved p key → IsUnserved q key) → (answers : Option Key) (m : List ℕ) → IsOut (IsUnserved p) answers m → IsOut (IsUnserved q) answers m
as_out p q on None m out = out
as_out p q on (Some key) m out = on key out

-- ---- what the journals that the deeds tell name

pub came_here : (p : Served) (deeds : List Deed) → IsTold p deeds → AreStanding p deeds → (device : ℕ) (key : Key) → Has (Came key) (journal device deeds) → IsNamedAt p key
came_here p deeds told is device key came =
    let (place, d, s, at, id) = is.owned device (Came key) came in
    let there : Has (Came key) (reverse s.journal) = subst (Has (Came key)) (ap (λ (n : ℕ). journal n deeds) (sym id) ∙ told.tied place d s at) came in
    (place, s, at.1, came_named s.journal key (to_contains s.journal (Came key) (turned_has (Came key) s.journal there)))

one_read : (x : Deed) (deeds : List Deed) → ComesRead deeds x → (device : ℕ) (key : Key) → (Has (Came key) (journal device deeds) → IsRead device key deeds) → Has (Came key) (journal device (x ∷ deeds)) → IsRead device key (x ∷ deeds)
one_read x deeds comes device key later has = by x comes has
  where
    grown : (y : Deed) → IsRead device key deeds → IsRead device key (y ∷ deeds)
    grown y (r, read, is) = (r, grown_more (y ∷ []) deeds key.channel key.index r read, is)

    at : (d : ℕ) (item : Item) (b : Bool) → (d == device) ≡ b → ComesRead deeds (stores d item) → Has (Came key) (cons_option (cond b (Some item) None) (journal device deeds)) → IsRead device key (stores d item ∷ deeds)
    at d item false other comes has = grown (stores d item) (later has)
    at d item true same comes (inr has) = grown (stores d item) (later has)
    at d item true same comes (inl here) =
        let read : IsRead d key deeds = subst (λ (i : Item). ComesRead deeds (stores d i)) (sym here) comes in
        grown (stores d item) (subst (λ (n : ℕ). IsRead n key deeds) (eqb-true d device same) read)

    by : (y : Deed) → ComesRead deeds y → Has (Came key) (journal device (y ∷ deeds)) → IsRead device key (y ∷ deeds)
    by (stores d item) comes has = at d item (d == device) refl comes has
    by y comes has = grown y (later has)

-- a key that came was read
came_read : (deeds : List Deed) → EachAfter ComesRead deeds → (device : ℕ) (key : Key) → Has (Came key) (journal device deeds) → IsRead device key deeds
came_read [] each device key none = absurd none
came_read (x ∷ deeds) each device key came = one_read x deeds each.0 device key (λ has. came_read deeds each.1 device key has) came

-- the device of a key that came is one
pub one_device : (deeds : List Deed) → EachAfter ComesRead deeds → (key : Key) (a b : ℕ) → Has (Came key) (journal a deeds) → Has (Came key) (journal b deeds) → a ≡ b
one_device deeds each key a b one two =
    let (r, read, is) = came_read deeds each a key one in
    let (q, read_too, is_too) = came_read deeds each b key two in
    let same : Some r ≡ Some q = sym read ∙ read_too in
    let equal : r ≡ q = cc (same) in
    sym is ∙ ap (λ (x : Request). x.device) equal ∙ is_too

-- ---- what is stored

pub stored_same : (key : Key) (device : ℕ) (items : List Item) (deeds : List Deed) → list_any (is_completion_of key) (map (stores device) items ++ deeds) ≡ list_any (is_completion_of key) deeds
stored_same key device [] deeds = refl
stored_same key device (x ∷ items) deeds = stored_same key device items deeds

stored_stand : (device : ℕ) (items : List Item) (deeds : List Deed) → ((key : Key) → Has (Came key) items → IsRead device key deeds × (list_any (is_completion_of key) deeds ≡ false)) → EachAfter Stands deeds → EachAfter Stands (map (stores device) items ++ deeds)
stored_stand device [] deeds came each = each
stored_stand device (x ∷ items) deeds came each = (one x (λ key same. came key (inl same)), stored_stand device items deeds (λ key has. came key (inr has)) each)
  where
    one : (y : Item) → ((key : Key) → Came key ≡ y → IsRead device key deeds × (list_any (is_completion_of key) deeds ≡ false)) → Stands (map (stores device) items ++ deeds) (stores device y)
    one (Came key) is =
        let ((r, read, named), none) = is key refl in
        (r, ap (λ (ms : List (List ℕ)). request_at ms key.index) (stored_unread device key.channel items deeds) ∙ read, named, stored_same key device items deeds ∙ none)
    one (Ran key moment starved parked) is = tt
    one (Cancelled key) is = tt
    one (Sent key) is = tt
    one (Cut cause) is = tt

pub each_same : (key : Key) (told : List (ℕ × List Item)) (deeds : List Deed) → list_any (is_completion_of key) (stored_each told ++ deeds) ≡ list_any (is_completion_of key) deeds
each_same key [] deeds = refl
each_same key (t ∷ told) deeds = ap (list_any (is_completion_of key)) (append_assoc (stored_each told) (stored t.0 t.1) deeds) ∙ each_same key told (stored t.0 t.1 ++ deeds) ∙ stored_same key t.0 (reverse t.1) deeds

-- where an entry of a journal is from
stored_from : (id device : ℕ) (items : List Item) (deeds : List Deed) (x : Item) → Has x (journal device (stored id items ++ deeds)) → (id ≡ device) ⊎ Has x (journal device deeds)
stored_from id device items deeds x has = by (id == device) refl
  where
    by : (b : Bool) → (id == device) ≡ b → (id ≡ device) ⊎ Has x (journal device deeds)
    by true is = inl (eqb-true id device is)
    by false is = inr (subst (Has x) (stored_elsewhere id device (reverse items) deeds is) has)

each_from : (told : List (ℕ × List Item)) (device : ℕ) (deeds : List Deed) (x : Item) → Has x (journal device (stored_each told ++ deeds)) → ((i : ℕ) × (t : ℕ × List Item) × (slice_get told i ≡ Some t) × (t.0 ≡ device)) ⊎ Has x (journal device deeds)
each_from [] device deeds x has = inr has
each_from (t ∷ told) device deeds x has = elim (each_from told device (stored t.0 t.1 ++ deeds) x (subst (Has x) (ap (journal device) (append_assoc (stored_each told) (stored t.0 t.1) deeds)) has)) [
  | inl (i, u, at, same) ↦ inl (suc i, u, at, same)
  | inr first ↦ elim (stored_from t.0 device t.1 deeds x first) [ inl same ↦ inl (0, t, refl, same) | inr was ↦ inr was ]
]

-- ---- parts that leave the stations

-- desks and stations are the same
moved_same : (p q : Served) → (q.front).desks ≡ (p.front).desks → q.stations ≡ p.stations → (device : ℕ) → HasDesk p device → HasDesk q device
moved_same p q desks stations device (place, d, s, at, id) = (place, d, s, (ap (λ (ds : List DeviceDeskState). slice_get ds place) desks ∙ at.0, ap (λ (ss : List Of). slice_get ss place) stations ∙ at.1), id)

named_same : (p q : Served) → q.stations ≡ p.stations → (key : Key) → IsNamedAt q key → IsNamedAt p key
named_same p q stations key (place, s, at, names) = (place, s, ap (λ (ss : List Of). slice_get ss place) (sym stations) ∙ at, names)

-- what is unserved is so still
unserved_same : (p q : Served) → (q.front).channel ≡ (p.front).channel → ((p.front).client).asked ≤ ((q.front).client).asked → q.stations ≡ p.stations → (key : Key) → ((k : Kept) → IsPending q k → k.job.key ≢ key) → IsUnserved p key → IsUnserved q key
unserved_same p q channel asked stations key other is = record {
  given = subst (λ (n : ℕ). IsGiven n ((q.front).client).asked key) (sym channel) (given_more (p.front).channel ((p.front).client).asked ((q.front).client).asked key asked is.given);
  unnamed = λ named. is.unnamed (named_same p q stations key named);
  other = other;
}

-- nothing is done, and what is to be written was
standing_silent : (p q : Served) (deeds : List Deed) → AreStanding p deeds → (q.front).desks ≡ (p.front).desks → q.stations ≡ p.stations → ((key : Key) → IsUnserved p key → IsUnserved q key) → ((o : Outgoing) → Has o (outbox_of q) → IsOut (IsUnserved q) o.answers o.message)
    → ((device : ℕ) (c : Completion) → q.asking ≡ hands device c → ⊥) → AreStanding q deeds
standing_silent p q deeds is desks stations on out none = record {
  stand = is.stand;
  out = out;
  closed = λ key done. elim (is.closed key done) [ inl unserved ↦ inl (on key unserved) | inr named ↦ inr (named_same q p (sym stations) key named) ];
  owned = λ device x has. moved_same p q desks stations device (is.owned device x has);
  handing = λ device c same. absurd (none device c same);
}

-- one deed, that stores nothing
standing_beside : (p q : Served) (deed : Deed) (deeds : List Deed) → AreStanding q deeds → Stands deeds deed → ((device : ℕ) → journal device (deed ∷ deeds) ≡ journal device deeds) → ((key : Key) → is_completion_of key deed ≡ true → IsUnserved q key ⊎ IsNamedAt q key) → AreStanding q (deed ∷ deeds)
standing_beside p q deed deeds is stand same done = record {
  stand = (stand, is.stand);
  out = is.out;
  closed = λ key some. by key (is_completion_of key deed) refl some;
  owned = λ device x has. is.owned device x (subst (Has x) (same device) has);
  handing = λ device c at. let (sent, came) = is.handing device c at in (subst (Has (Sent c.key)) (sym (same device)) sent, subst (Has (Came c.key)) (sym (same device)) came);
}
  where
    by : (key : Key) (b : Bool) → is_completion_of key deed ≡ b → (b || list_any (is_completion_of key) deeds) ≡ true → IsUnserved q key ⊎ IsNamedAt q key
    by key true e some = done key e
    by key false e some = is.closed key some

-- ---- what the core does

-- it has the same to write
out_same : (p q : Served) → ((key : Key) → IsUnserved p key → IsUnserved q key) → outbox_of q ≡ outbox_of p → ((o : Outgoing) → Has o (outbox_of p) → IsOut (IsUnserved p) o.answers o.message) → (o : Outgoing) → Has o (outbox_of q) → IsOut (IsUnserved q) o.answers o.message
out_same p q on same out o has = as_out p q on o.answers o.message (out o (subst (Has o) same has))

-- own messages more
out_own : (p q : Served) → ((key : Key) → IsUnserved p key → IsUnserved q key) → AddsOwn (outbox_of p) (outbox_of q) → ((o : Outgoing) → Has o (outbox_of p) → IsOut (IsUnserved p) o.answers o.message) → (o : Outgoing) → Has o (outbox_of q) → IsOut (IsUnserved q) o.answers o.message
out_own p q on (more, same, own) out o has = elim (has_append o (outbox_of p) more (subst (Has o) same has)) [
  | inl before ↦ as_out p q on o.answers o.message (out o before)
  | inr later ↦ by o.answers o.message (own o later)
]
  where
    by : (answers : Option Key) (m : List ℕ) → (answers ≡ None) × (is_of IoCompletion m ≡ false) → IsOut (IsUnserved q) answers m
    by None m is = is.1
    by (Some key) m is = absurd (cc (is.0))

-- a client that did something, in a front
abbrev IsClientsOf : Served → Served → ℕ → Type 0
IsClientsOf p q unsent = q.front ≡ record p.front { client = (q.front).client; unsent = unsent }

client_front : (p q : Served) (unsent : ℕ) → IsClientsOf p q unsent → ((q.front).desks ≡ (p.front).desks) × ((q.front).channel ≡ (p.front).channel) × ((q.front).kept ≡ (p.front).kept)
client_front p q unsent is = (ap (λ (s : FrontState). s.desks) is, ap (λ (s : FrontState). s.channel) is, ap (λ (s : FrontState). s.kept) is)

-- ---- a message is heard

-- a request that is asked for is none that was given
asked_other : (p q : Served) (answer : Result Heard EndFault) → IsKeyed p → (p.front).on ≡ true → AskedAs (p.front).client (q.front).client answer → q.asking ≡ asking_by answer → (key : Key) → IsGiven (p.front).channel ((p.front).client).asked key → (k : Kept) → IsUnder q.asking k → k.job.key ≢ key
asked_other p q answer keyed on is asking key given k under = by answer is (subst (λ (a : Asking). IsUnder a k) asking under)
  where
    differs : (job : Job) → job.key.channel ≡ ((p.front).client).channel → job.key.index ≡ ((p.front).client).asked → job.key ≢ key
    differs job channel index same =
        let c = ap (λ (x : Key). x.channel) same in
        let i = ap (λ (x : Key). x.index) same in
        elim given [ inl less ↦ omega (arith, c, channel, keyed.same on, less) | inr here ↦ omega (arith, i, index, here.1) ]

    by : (a : Result Heard EndFault) → AskedAs (p.front).client (q.front).client a → IsUnder (asking_by a) k → k.job.key ≢ key
    by (Ok (Ask device job)) (more, channel, index, may) same = subst (λ (x : Kept). x.job.key ≢ key) same (differs job channel index)
    by (Ok Nothing) is none = absurd none
    by (Ok (Print n)) is none = absurd none
    by (Err cause) is none = absurd none

hears_standing : (p q : Served) (deeds : List Deed) (channel : ℕ) (m : List ℕ) (answer : Result Heard EndFault) → PartGoes p (part.hears channel m answer) q → IsKeyed p → AreStanding p deeds → AreStanding q (deeds_of (part.hears channel m answer) ++ deeds)
hears_standing p q deeds channel m answer goes keyed is = by answer ((goes.3).0).1
  where
    on : (p.front).on ≡ true
    on = (both_true (p.front).on _ goes.2).0

    front : ((q.front).desks ≡ (p.front).desks) × ((q.front).channel ≡ (p.front).channel) × ((q.front).kept ≡ (p.front).kept)
    front = client_front p q _ (goes.3).1

    kept_none : (q.front).kept ≡ None
    kept_none = front.2 ∙ none_of (p.front).kept (both_true _ _ (both_true (p.front).on _ goes.2).1).0

    facts : HeardFacts (p.front).client (q.front).client answer
    facts = heard_facts (p.front).client (q.front).client m answer ((goes.3).0).1

    unserved : (key : Key) → IsUnserved p key → IsUnserved q key
    unserved key was = unserved_same p q front.1 facts.1 goes.5 key (λ k pending. elim pending [
      | inl under ↦ asked_other p q answer keyed on facts.2 goes.4 key was.given k under
      | inr some ↦ absurd (cc (kept_none, some))
    ]) was

    none : (device : ℕ) (c : Completion) → q.asking ≡ hands device c → ⊥
    none device c same = never answer (sym goes.4 ∙ same)
      where
        never : (a : Result Heard EndFault) → asking_by a ≡ hands device c → ⊥
        never (Ok (Ask d job)) e = cc (e)
        never (Ok Nothing) e = cc (e)
        never (Ok (Print n)) e = cc (e)
        never (Err cause) e = cc (e)

    silent : ((o : Outgoing) → Has o (outbox_of q) → IsOut (IsUnserved q) o.answers o.message) → AreStanding q deeds
    silent out = standing_silent p q deeds is front.0 goes.5 unserved out none

    heard : (a : Result Heard EndFault) → client_hear (p.front).client m ≡ ((q.front).client, a) → AreStanding q (client_reads channel m ∷ deeds)
    heard a e = standing_beside p q (client_reads channel m) deeds
        (silent (out_own p q unserved (subst (λ (r : ClientCoreState × Result Heard EndFault). AddsOwn (outbox_of p) ((r.0).core).outbox) e (hear_adds (p.front).client m)) is.out)) tt (λ device. refl) (λ key no. absurd (cc (no)))

    by : (a : Result Heard EndFault) → hearing.Hears client_side (λ (c : ClientCoreState). c.core) client_hear (p.front).client m a (q.front).client → AreStanding q (deeds_of (part.hears channel m a) ++ deeds)
    by (Err fault.Memory) did = silent (out_same p q unserved (ap (λ (c : ClientCoreState). (c.core).outbox) did.1) is.out)
    by (Err (fault.Order state packet)) did = heard (Err (fault.Order state packet)) did
    by (Err (fault.Grammar bad)) did = heard (Err (fault.Grammar bad)) did
    by (Ok h) did = heard (Ok h) did

-- ---- parts that do no more than change what is under way

-- the same front but for what is kept back
light_standing : (p q : Served) (deeds : List Deed) → AreStanding p deeds → (q.front).desks ≡ (p.front).desks → (q.front).channel ≡ (p.front).channel → (q.front).client ≡ (p.front).client → q.stations ≡ p.stations
    → ((k : Kept) → IsPending q k → IsPending p k) → ((device : ℕ) (c : Completion) → q.asking ≡ hands device c → ⊥) → AreStanding q deeds
light_standing p q deeds is desks channel same stations pending none =
    standing_silent p q deeds is desks stations unserved (out_same p q unserved (ap (λ (c : ClientCoreState). (c.core).outbox) same) is.out) none
  where
    unserved : (key : Key) → IsUnserved p key → IsUnserved q key
    unserved key was = unserved_same p q channel (let e = ap (λ (c : ClientCoreState). c.asked) same in omega (arith, e)) stations key (λ k under. was.other k (pending k under)) was

-- a client that says something of its own
own_standing : (p q : Served) (deeds : List Deed) (unsent : ℕ) → AreStanding p deeds → IsClientsOf p q unsent → ((q.front).client).asked ≡ ((p.front).client).asked → AddsOwn (outbox_of p) (outbox_of q) → q.stations ≡ p.stations → q.asking ≡ p.asking
    → AreStanding q deeds
own_standing p q deeds unsent is client_is asked adds_it stations asking =
    record {
      stand = is.stand;
      out = out_own p q unserved adds_it is.out;
      closed = λ key done. elim (is.closed key done) [ inl was ↦ inl (unserved key was) | inr named ↦ inr (named_same q p (sym stations) key named) ];
      owned = λ device x has. moved_same p q front.0 stations device (is.owned device x has);
      handing = λ device c same. is.handing device c (sym asking ∙ same);
    }
  where
    front : ((q.front).desks ≡ (p.front).desks) × ((q.front).channel ≡ (p.front).channel) × ((q.front).kept ≡ (p.front).kept)
    front = client_front p q unsent client_is

    unserved : (key : Key) → IsUnserved p key → IsUnserved q key
    unserved key was = unserved_same p q front.1 (omega (arith, asked)) stations key
        (λ k pending. elim pending [ inl under ↦ was.other k (inl (subst (λ (a : Asking). IsUnder a k) asking under)) | inr some ↦ was.other k (inr (sym front.2 ∙ some)) ]) was

-- ---- a job is answered without its device

not_below : (k : Key) → IsBelow k k → ⊥
not_below k (inl less) = omega (arith, less)
not_below k (inr less) = omega (arith, less.1)

-- the key of the next job is named by none
next_unnamed : (p : Served) (k : Kept) → IsNextJob p.front p.stations k → IsNamedAt p k.job.key → ⊥
next_unnamed p k next (place, s, at, names) = not_below k.job.key (next.above s (has_at p.stations place s at) k.job.key names)

directs_standing : (p q : Served) (deeds : List Deed) (k : Kept) (more : List Outgoing) (unsent : ℕ) → IsKeyed p → AreStanding p deeds → IsUnder p.asking k → IsClientsOf p q unsent → ((q.front).client).asked ≡ ((p.front).client).asked → outbox_of q ≡ outbox_of p ++ more
    → ((o : Outgoing) → Has o more → o.answers ≡ Some k.job.key) → q.stations ≡ p.stations → q.asking ≡ idle → AreStanding q deeds
directs_standing p q deeds k more unsent keyed is under client_is asked grown own stations asking =
    standing_silent p q deeds is front.0 stations unserved out (λ device c same. cc (asking, same))
  where
    front : ((q.front).desks ≡ (p.front).desks) × ((q.front).channel ≡ (p.front).channel) × ((q.front).kept ≡ (p.front).kept)
    front = client_front p q unsent client_is

    pending_none : (l : Kept) → IsPending q l → ⊥
    pending_none l (inl way) = subst (λ (a : Asking). IsUnder a l) asking way
    pending_none l (inr some) = let none = keyed.alone k under in cc (front.2, none, some)

    unserved : (key : Key) → IsUnserved p key → IsUnserved q key
    unserved key was = unserved_same p q front.1 (omega (arith, asked)) stations key (λ l pending. absurd (pending_none l pending)) was

    mine : IsUnserved q k.job.key
    mine = let next = keyed.asking k under in record {
      given = subst (λ (n : ℕ). IsGiven n ((q.front).client).asked k.job.key) (sym front.1) (subst (λ (n : ℕ). IsGiven (p.front).channel n k.job.key) (sym asked) (inr (next.channel, next.index)));
      unnamed = λ named. next_unnamed p k next (named_same p q stations k.job.key named);
      other = λ l pending. absurd (pending_none l pending);
    }

    out : (o : Outgoing) → Has o (outbox_of q) → IsOut (IsUnserved q) o.answers o.message
    out o has = elim (has_append o (outbox_of p) more (subst (Has o) grown has)) [
      | inl before ↦ as_out p q unserved o.answers o.message (is.out o before)
      | inr later ↦ subst (λ (a : Option Key). IsOut (IsUnserved q) a o.message) (sym (own o later)) mine
    ]

-- ---- the core's first message is handed out

sends_standing : (p q : Served) (deeds : List Deed) (o : Outgoing) (rest : List Outgoing) (unsent channel : ℕ) → IsTold p deeds → AreStanding p deeds → outbox_of p ≡ o ∷ rest → outbox_of q ≡ rest → IsClientsOf p q unsent → ((q.front).client).asked ≡ ((p.front).client).asked → q.stations ≡ p.stations → q.asking ≡ p.asking
    → AreStanding q (sent_by channel o.message o.answers ++ deeds)
sends_standing p q deeds o rest unsent channel told is first then client_is asked stations asking = by o.answers (is.out o (subst (Has o) (sym first) (inl refl)))
  where
    front : ((q.front).desks ≡ (p.front).desks) × ((q.front).channel ≡ (p.front).channel) × ((q.front).kept ≡ (p.front).kept)
    front = client_front p q unsent client_is

    unserved : (key : Key) → IsUnserved p key → IsUnserved q key
    unserved key was = unserved_same p q front.1 (omega (arith, asked)) stations key
        (λ k pending. elim pending [ inl under ↦ was.other k (inl (subst (λ (a : Asking). IsUnder a k) asking under)) | inr some ↦ was.other k (inr (sym front.2 ∙ some)) ]) was

    so : AreStanding q deeds
    so = record {
      stand = is.stand;
      out = λ x has. as_out p q unserved x.answers x.message (is.out x (subst (Has x) (sym first) (inr (subst (Has x) then has))));
      closed = λ key done. elim (is.closed key done) [ inl was ↦ inl (unserved key was) | inr named ↦ inr (named_same q p (sym stations) key named) ];
      owned = λ device x has. moved_same p q front.0 stations device (is.owned device x has);
      handing = λ device c same. is.handing device c (sym asking ∙ same);
    }

    by : (answers : Option Key) → IsOut (IsUnserved p) answers o.message → AreStanding q (sent_by channel o.message answers ++ deeds)
    by None other = standing_beside p q (client_writes channel o.message) deeds so other (λ device. refl) (λ key no. absurd (cc (no)))
    by (Some key) mine = standing_beside p q (completes key o.message) deeds so (λ device came. absurd (mine.unnamed (came_here p deeds told is device key came))) (λ device. refl)
        (λ other same. inl (subst (IsUnserved q) (same_key key other same) (unserved key mine)))

-- ---- a completion that a desk handed out is handed out

writes_standing : (p : Served) (deeds : List Deed) (device : ℕ) (c : Completion) (m : List ℕ) → IsTold p deeds → EachAfter ComesRead deeds → AreStanding p deeds → p.asking ≡ hands device c → AreStanding (record p { asking = idle }) (completes c.key m ∷ deeds)
writes_standing p deeds device c m told read is asking =
    let (sent, came) = is.handing device c asking in
    standing_beside p (record p { asking = idle }) (completes c.key m) deeds
    (light_standing p (record p { asking = idle }) deeds is refl refl refl refl (λ k pending. elim pending [ inl none ↦ absurd none | inr some ↦ inr some ]) (λ d x same. cc (same)))
    (λ other here. subst (λ (n : ℕ). Has (Sent c.key) (journal n deeds)) (one_device deeds read c.key device other came here) sent) (λ d. refl)
    (λ key same. inr (subst (IsNamedAt (record p { asking = idle })) (same_key c.key key same) (came_here p deeds told is device c.key came)))

-- ---- a channel begins

begins_standing : (p q : Served) (deeds : List Deed) (channel : ℕ) → IsKeyed p → AreStanding p deeds → PartGoes p (begins channel) q → AreStanding q deeds
begins_standing p q deeds channel keyed is goes = subst (λ (s : Served). AreStanding s deeds) (sym goes.3) (record {
  stand = is.stand;
  out = λ o has. absurd has;
  closed = λ key done. elim (is.closed key done) [
    | inl was ↦ inl (record {
      given = inl (elim was.given [ inl less ↦ omega (arith, less, goes.2) | inr here ↦ omega (arith, here.0, goes.2) ]);
      unnamed = was.unnamed;
      other = was.other;
    })
    | inr named ↦ inr named
  ];
  owned = is.owned;
  handing = is.handing;
})

-- ---- lists

set_here : {A : Type 0} (xs : List A) (place : ℕ) (x y : A) → slice_get xs place ≡ Some x → slice_get (slice_set xs place y) place ≡ Some y
set_here [] place x y is = absurd (cc (is))
set_here (z ∷ zs) zero x y is = refl
set_here (z ∷ zs) (suc place) x y is = set_here zs place x y is

set_there : {A : Type 0} (xs : List A) (place k : ℕ) (y : A) → k ≢ place → slice_get (slice_set xs place y) k ≡ slice_get xs k
set_there [] place k y other = refl
set_there (z ∷ zs) zero zero y other = absurd (other refl)
set_there (z ∷ zs) zero (suc k) y other = refl
set_there (z ∷ zs) (suc place) zero y other = refl
set_there (z ∷ zs) (suc place) (suc k) y other = set_there zs place k y (λ e. other (omega (arith, e)))

-- ---- a desk is called

abbrev NoneNew : Key → Type 0
NoneNew key = ⊥

module _ (p q : Served) (place id : ℕ) (does : DeskCall) (back : DeskReply) (items : List Item) (deeds : List Deed) (known : IsKnownAt p deeds) (at : CallsAt p place id does back items q) (New : Key → Type 0)
    (names : (key : Key) → NamesKey (at.last).journal key → NamesKey (at.first).journal key ⊎ New key) (fresh : (key : Key) → New key → (IsUnserved p key → ⊥) × (IsNamedAt p key → ⊥))
    (comes : (key : Key) → ComesBy (told_by does back) key → New key) (under : (k : Kept) → IsUnder q.asking k → IsUnder p.asking k) where
  kept_same : (q.front).kept ≡ (p.front).kept
  kept_same = ap (λ (s : FrontState). s.kept) at.front_is

  moved : (device : ℕ) → HasDesk p device → HasDesk q device
  moved device (k, d, s, here, same) = by (k == place) refl
    where
      desks_at : (e : DeviceDeskState) → slice_get (slice_set (p.front).desks place at.after) k ≡ Some e → slice_get (q.front).desks k ≡ Some e
      desks_at e is = ap (λ (f : FrontState). slice_get f.desks k) at.front_is ∙ is

      by : (b : Bool) → (k == place) ≡ b → HasDesk q device
      by true is =
          let e : k ≡ place = eqb-true k place is in
          let before : d ≡ at.before = (let both : Some d ≡ Some at.before = sym here.0 ∙ ap (slice_get (p.front).desks) e ∙ at.there in cc (both)) in (
            place,
            at.after,
            at.last,
            (ap (λ (f : FrontState). slice_get f.desks place) at.front_is ∙ set_here (p.front).desks place at.before at.after at.there, ap (λ (ss : List Of). slice_get ss place) at.stations_are ∙ set_here p.stations place at.first at.last at.has),
            (at.called).id ∙ ap (λ (x : DeviceDeskState). x.id) (sym before) ∙ same,
          )
      by false is =
          let other : k ≢ place = λ e. let t = eq-eqb k place e in cc (t, is) in
          (k, d, s, (desks_at d (set_there (p.front).desks place k at.after other ∙ here.0), ap (λ (ss : List Of). slice_get ss k) at.stations_are ∙ set_there p.stations place k at.last other ∙ here.1), same)

  named_on : (key : Key) → IsNamedAt p key → IsNamedAt q key
  named_on key (k, s, here, named) = by (k == place) refl
    where
      by : (b : Bool) → (k == place) ≡ b → IsNamedAt q key
      by true is =
          let e : k ≡ place = eqb-true k place is in
          let same : s ≡ at.first = (let both : Some s ≡ Some at.first = sym here ∙ ap (slice_get p.stations) e ∙ at.has in cc (both)) in (
            place,
            at.last,
            ap (λ (ss : List Of). slice_get ss place) at.stations_are ∙ set_here p.stations place at.first at.last at.has,
            subst (λ (j : List Item). NamesKey j key) (sym (at.called).stored) (names_left (at.first).journal items key (subst (λ (x : Of). NamesKey x.journal key) same named)),
          )
      by false is =
          let other : k ≢ place = λ e. let t = eq-eqb k place e in cc (t, is) in
          (k, s, ap (λ (ss : List Of). slice_get ss k) at.stations_are ∙ set_there p.stations place k at.last other ∙ here, named)

  named_back : (key : Key) → IsNamedAt q key → IsNamedAt p key ⊎ New key
  named_back key (k, s, here, named) = elim (get_set p.stations place k at.last s (ap (λ (ss : List Of). slice_get ss k) (sym at.stations_are) ∙ here)) [
    | inl this ↦ elim (names key (subst (λ (x : Of). NamesKey x.journal key) this.1 named)) [ inl before ↦ inl (place, at.first, at.has, before) | inr new ↦ inr new ]
    | inr that ↦ inl (k, s, that.1, named)
  ]

  unserved_on : (key : Key) → IsUnserved p key → IsUnserved q key
  unserved_on key was = record {
    given = subst (λ (s : FrontState). IsGiven s.channel (s.client).asked key) (sym at.front_is) was.given;
    unnamed = λ named. elim (named_back key named) [ inl before ↦ was.unnamed before | inr new ↦ (fresh key new).0 was ];
    other = λ k pending. elim pending [ inl way ↦ was.other k (inl (under k way)) | inr some ↦ was.other k (inr (sym kept_same ∙ some)) ];
  }

  calls_standing : ((device : ℕ) (c : Completion) → q.asking ≡ hands device c → Has (Sent c.key) (journal device (stored id items ++ deeds)) × Has (Came c.key) (journal device (stored id items ++ deeds))) → AreStanding q (stored id items ++ deeds)
  calls_standing handing = record {
    stand = stored_stand id (reverse items) deeds (λ key has.
        let by = called_comes at.before at.after at.first at.last does back items at.called key (turned_has (Came key) items has) in
        (calls_read p q place id does back items deeds known.keyed known.told at key by, undone key (fresh key (comes key by)) (list_any (is_completion_of key) deeds) refl)) known.standing.stand;
    out = λ o has. as_out p q unserved_on o.answers o.message (known.standing.out o (subst (Has o) (ap (λ (s : FrontState). ((s.client).core).outbox) at.front_is) has));
    closed = λ key done. elim (known.standing.closed key (sym (stored_same key id (reverse items) deeds) ∙ done)) [ inl was ↦ inl (unserved_on key was) | inr named ↦ inr (named_on key named) ];
    owned = λ device x has. elim (stored_from id device items deeds x has) [
      | inl same ↦ moved device (place, at.before, at.first, (at.there, at.has), at.id_is ∙ same)
      | inr was ↦ moved device (known.standing.owned device x was)
    ];
    handing = handing;
  }
    where
      undone : (key : Key) → (IsUnserved p key → ⊥) × (IsNamedAt p key → ⊥) → (b : Bool) → list_any (is_completion_of key) deeds ≡ b → b ≡ false
      undone key none false e = refl
      undone key none true e = elim (known.standing.closed key e) [ inl was ↦ absurd (none.0 was) | inr named ↦ absurd (none.1 named) ]

-- ---- each call of a desk

-- what a journal has stays
stored_more : (id device : ℕ) (items : List Item) (deeds : List Deed) (x : Item) → Has x (journal device deeds) → Has x (journal device (stored id items ++ deeds))
stored_more id device items deeds x has = by (id == device) refl
  where
    by : (b : Bool) → (id == device) ≡ b → Has x (journal device (stored id items ++ deeds))
    by true is =
        let same : id ≡ device = eqb-true id device is in
        subst (λ (n : ℕ). Has x (journal n (stored id items ++ deeds))) same (subst (Has x) (sym (stored_here id (reverse items) deeds)) (has_right x (reverse items) (journal id deeds) (subst (λ (n : ℕ). Has x (journal n deeds)) (sym same) has)))
    by false is = subst (Has x) (sym (stored_elsewhere id device (reverse items) deeds is)) has

none_new : (p q : Served) (place id : ℕ) (does : DeskCall) (back : DeskReply) (items : List Item) (deeds : List Deed) → IsKnownAt p deeds → (at : CallsAt p place id does back items q) → ((job : Job) → does ≡ desk.Put job → back ≡ replied.Put (Ok tt) → ⊥)
    → ((key : Key) → ComesBy (told_by does back) key → ⊥) → ((k : Kept) → IsUnder q.asking k → IsUnder p.asking k)
    → ((device : ℕ) (c : Completion) → q.asking ≡ hands device c → Has (Sent c.key) (journal device (stored id items ++ deeds)) × Has (Came c.key) (journal device (stored id items ++ deeds))) → AreStanding q (stored id items ++ deeds)
none_new p q place id does back items deeds known at other none under handing =
    let work = worked p q place id does back items known.keyed at in
    let own = desk_stays (current (p.front).on (p.front).channel) (at.called).middle at.last does back at.own other work.on (at.called).step in
    calls_standing p q place id does back items deeds known at NoneNew
    (λ key names. elim (own.names key names) [ inl middle ↦ elim (work.names key middle) [ inl before ↦ inl before | inr never ↦ inr never ] | inr never ↦ inr never ])
    (λ key never. absurd never) none under handing

-- a completion that was handed out is one that was ready
pub collected_ready : (middle between : Of) (c : Completion) → station.collect middle ≡ (between, Some c) → Has c middle.ready × (between.journal ≡ middle.journal ++ Sent c.key ∷ [])
collected_ready middle between c is = by middle.ready refl is
  where
    by : (cs : List Completion) → middle.ready ≡ cs → station.collect_first middle cs ≡ (between, Some c) → Has c middle.ready × (between.journal ≡ middle.journal ++ Sent c.key ∷ [])
    by [] e f = absurd (let g : None ≡ Some c = ap (λ (r : Of × Option Completion). r.1) f in cc (g))
    by (x ∷ xs) e f =
        let g : Some x ≡ Some c = ap (λ (r : Of × Option Completion). r.1) f in
        let same : x ≡ c = cc (g) in
        (subst (λ (cs : List Completion). Has c cs) (sym e) (inl (sym same)), sym (ap (λ (r : Of × Option Completion). (r.0).journal) f) ∙ ap (λ (y : Completion). middle.journal ++ Sent y.key ∷ []) same)

-- what is under way stays, so a completion that is handed out stays
still_handing : (p q : Served) (place id : ℕ) (does : DeskCall) (back : DeskReply) (items : List Item) (deeds : List Deed) → IsKnownAt p deeds → CallsAt p place id does back items q → q.asking ≡ p.asking
    → (device : ℕ) (c : Completion) → q.asking ≡ hands device c → Has (Sent c.key) (journal device (stored id items ++ deeds)) × Has (Came c.key) (journal device (stored id items ++ deeds))
still_handing p q place id does back items deeds known at same device c is =
    let (sent, came) = known.standing.handing device c (sym same ∙ is) in
    (stored_more id device items deeds (Sent c.key) sent, stored_more id device items deeds (Came c.key) came)

called_standing : (p q : Served) (place id : ℕ) (does : DeskCall) (back : DeskReply) (items : List Item) (deeds : List Deed) → IsKnownAt p deeds → CallsAt p place id does back items q → AreStanding q (stored id items ++ deeds)
called_standing p q place id desk.Announce (replied.Announced answer) items deeds known at =
    none_new p q place id desk.Announce (replied.Announced answer) items deeds known at (λ job e f. cc (e)) (λ key one. elim one [ inl none ↦ none | inr none ↦ none ]) (λ k. subst (λ (a : Asking). IsUnder a k) at.asking_is) (still_handing p q place id desk.Announce (replied.Announced answer) items deeds known at at.asking_is)
called_standing p q place id desk.Remove (replied.Removed answer) items deeds known at =
    none_new p q place id desk.Remove (replied.Removed answer) items deeds known at (λ job e f. cc (e)) (λ key one. elim one [ inl none ↦ none | inr none ↦ none ]) (λ k. subst (λ (a : Asking). IsUnder a k) at.asking_is) (still_handing p q place id desk.Remove (replied.Removed answer) items deeds known at at.asking_is)
called_standing p q place id desk.Collect (replied.Collected None) items deeds known at =
    none_new p q place id desk.Collect (replied.Collected None) items deeds known at (λ job e f. cc (e)) (λ key one. elim one [ inl none ↦ none | inr none ↦ none ]) (λ k. subst (λ (a : Asking). IsUnder a k) at.asking_is) (still_handing p q place id desk.Collect (replied.Collected None) items deeds known at at.asking_is)
called_standing p q place id desk.Collect (replied.Collected (Some c)) items deeds known at =
    none_new p q place id desk.Collect (replied.Collected (Some c)) items deeds known at (λ job e f. cc (e)) (λ key one. elim one [ inl none ↦ none | inr none ↦ none ]) (λ k way. absurd (subst (λ (a : Asking). IsUnder a k) (at.asking_is).1 way)) (λ device x same. handed device x same)
  where
    middle : Of
    middle = (at.called).middle

    step : Has c ((at.called).middle).ready × ((((at.called).step).0).0.journal ≡ ((at.called).middle).journal ++ Sent c.key ∷ [])
    step = collected_ready (at.called).middle (((at.called).step).0).0 c (((at.called).step).0).1

    last_is : (at.last).journal ≡ ((at.called).middle).journal ++ Sent c.key ∷ []
    last_is = ap (λ (s : Of). s.journal) (((at.called).step).0).2 ∙ step.1

    journal_is : journal id (stored id items ++ deeds) ≡ reverse (at.last).journal
    journal_is = tied_then p q place id desk.Collect (replied.Collected (Some c)) items deeds known.keyed known.told at

    in_journal : (x : Item) → Has x (((at.called).middle).journal ++ Sent c.key ∷ []) → Has x (journal id (stored id items ++ deeds))
    in_journal x has = subst (Has x) (sym journal_is) (to_turned x (at.last).journal (subst (Has x) (sym last_is) has))

    came : Has (Came c.key) ((at.called).middle).journal
    came = held_came (at.called).middle (worked p q place id desk.Collect (replied.Collected (Some c)) items known.keyed at).on.sound.reached (c.key, c.completion) (ready_held (at.called).middle c step.0)

    handed : (device : ℕ) (x : Completion) → q.asking ≡ hands device x → Has (Sent x.key) (journal device (stored id items ++ deeds)) × Has (Came x.key) (journal device (stored id items ++ deeds))
    handed device x same =
        let both : hands id c ≡ hands device x = sym (at.asking_is).1 ∙ same in
        let device_is : id ≡ device = cc (both) in
        let c_is : c ≡ x = cc (both) in
        subst (λ (n : ℕ). Has (Sent x.key) (journal n (stored id items ++ deeds)) × Has (Came x.key) (journal n (stored id items ++ deeds))) device_is
        (subst (λ (y : Completion). Has (Sent y.key) (journal id (stored id items ++ deeds)) × Has (Came y.key) (journal id (stored id items ++ deeds))) c_is
        (in_journal (Sent c.key) (has_right (Sent c.key) ((at.called).middle).journal (Sent c.key ∷ []) (inl refl)), in_journal (Came c.key) (has_left (Came c.key) ((at.called).middle).journal (Sent c.key ∷ []) came)))
called_standing p q place id (desk.Put job) (replied.Put (Err refusal)) items deeds known at =
    none_new p q place id (desk.Put job) (replied.Put (Err refusal)) items deeds known at (λ j e f. cc (f)) (λ key one. elim one [ inl none ↦ none | inr none ↦ none ])
    (λ k way. subst (λ (a : Asking). IsUnder a k) (sym ((at.asking_is).0).asked) (subst (λ (a : Asking). IsUnder a k) (at.asking_is).1 way)) (λ device c same. absurd (let e = (at.asking_is).1 in cc (e, same)))
called_standing p q place id (desk.Put job) (replied.Unfit back) items deeds known at =
    none_new p q place id (desk.Put job) (replied.Unfit back) items deeds known at (λ j e f. cc (f)) (λ key one. elim one [ inl none ↦ none | inr none ↦ none ])
    (λ k way. absurd (subst (λ (a : Asking). IsUnder a k) (at.asking_is).1 way)) (λ device c same. absurd (let e = (at.asking_is).1 in cc (e, same)))
called_standing p q place id (desk.Put job) (replied.Put (Ok done)) items deeds known at =
    let c = (at.asking_is).0 in
    let way : IsUnder p.asking c.kept = subst (λ (a : Asking). IsUnder a c.kept) (sym c.asked) refl in
    let next = known.keyed.asking c.kept way in
    let key_is : job.key ≡ c.kept.job.key = ap (λ (j : Job). j.key) c.job_is in
    let here : job.key.channel ≡ current (p.front).on (p.front).channel = ap (λ (k : Key). k.channel) key_is ∙ next.channel ∙ sym (ap (λ (b : Bool). current b (p.front).channel) next.on) in
    let work = worked p q place id (desk.Put job) (replied.Put (Ok done)) items known.keyed at in
    let step = ((at.called).step).0 in
    let put = put_stays (current (p.front).on (p.front).channel) (at.called).middle step.0 work.on job (step.1).0 here (step.1).1 in
    calls_standing p q place id (desk.Put job) (replied.Put (Ok done)) items deeds known at (λ key. key ≡ job.key)
    (λ key names. elim (put.names key (subst (λ (s : Of). NamesKey s.journal key) step.2 names)) [ inl middle ↦ elim (work.names key middle) [ inl before ↦ inl before | inr never ↦ absurd never ] | inr same ↦ inr same ])
    (λ key same. (λ was. was.other c.kept (inl way) (sym (same ∙ key_is)), λ named. next_unnamed p c.kept next (subst (IsNamedAt p) (same ∙ key_is) named)))
    (λ key one. elim one [ inl same ↦ same | inr none ↦ absurd none ])
    (λ k other. absurd (subst (λ (a : Asking). IsUnder a k) (at.asking_is).1 other)) (λ device x same. absurd (let e = (at.asking_is).1 in cc (e, same)))
called_standing p q place id (desk.Put job) (replied.Announced answer) items deeds known at = absurd (at.asking_is).1
called_standing p q place id (desk.Put job) (replied.Worked w) items deeds known at = absurd (at.asking_is).1
called_standing p q place id (desk.Put job) (replied.Collected answer) items deeds known at = absurd (at.asking_is).1
called_standing p q place id (desk.Put job) (replied.Removed answer) items deeds known at = absurd (at.asking_is).1
called_standing p q place id (desk.Put job) replied.Dropped items deeds known at = absurd (at.asking_is).1
called_standing p q place id (desk.Put job) replied.Ended items deeds known at = absurd (at.asking_is).1
called_standing p q place id desk.Announce (replied.Put answer) items deeds known at = absurd ((at.called).step).1
called_standing p q place id desk.Announce (replied.Unfit job) items deeds known at = absurd ((at.called).step).1
called_standing p q place id desk.Announce (replied.Worked w) items deeds known at = absurd ((at.called).step).1
called_standing p q place id desk.Announce (replied.Collected answer) items deeds known at = absurd ((at.called).step).1
called_standing p q place id desk.Announce (replied.Removed answer) items deeds known at = absurd ((at.called).step).1
called_standing p q place id desk.Announce replied.Dropped items deeds known at = absurd ((at.called).step).1
called_standing p q place id desk.Announce replied.Ended items deeds known at = absurd ((at.called).step).1
called_standing p q place id desk.Remove (replied.Announced answer) items deeds known at = absurd ((at.called).step).1
called_standing p q place id desk.Remove (replied.Put answer) items deeds known at = absurd ((at.called).step).1
called_standing p q place id desk.Remove (replied.Unfit job) items deeds known at = absurd ((at.called).step).1
called_standing p q place id desk.Remove (replied.Worked w) items deeds known at = absurd ((at.called).step).1
called_standing p q place id desk.Remove (replied.Collected answer) items deeds known at = absurd ((at.called).step).1
called_standing p q place id desk.Remove replied.Dropped items deeds known at = absurd ((at.called).step).1
called_standing p q place id desk.Remove replied.Ended items deeds known at = absurd ((at.called).step).1
called_standing p q place id desk.Collect (replied.Announced answer) items deeds known at = absurd ((at.called).step).1
called_standing p q place id desk.Collect (replied.Put answer) items deeds known at = absurd ((at.called).step).1
called_standing p q place id desk.Collect (replied.Unfit job) items deeds known at = absurd ((at.called).step).1
called_standing p q place id desk.Collect (replied.Worked w) items deeds known at = absurd ((at.called).step).1
called_standing p q place id desk.Collect (replied.Removed answer) items deeds known at = absurd ((at.called).step).1
called_standing p q place id desk.Collect replied.Dropped items deeds known at = absurd ((at.called).step).1
called_standing p q place id desk.Collect replied.Ended items deeds known at = absurd ((at.called).step).1
called_standing p q place id (desk.Work runs) back items deeds known at = absurd at.own
called_standing p q place id desk.DropChannel back items deeds known at = absurd at.own
called_standing p q place id desk.End back items deeds known at = absurd at.own

-- ---- a channel ends

-- a desk and its station, before and after
pub record EndedPair (over : Bool) (ds : List DeviceDeskState) (ss : List Of) (ts : List (ℕ × List Item)) (es : List DeviceDeskState) (us : List Of) (place : ℕ) (s u : Of) : Type 0 where
  desk_before : DeviceDeskState
  desk_after : DeviceDeskState
  told : ℕ × List Item
  back : DeskReply
  before_at : slice_get ds place ≡ Some desk_before
  after_at : slice_get es place ≡ Some desk_after
  told_at : slice_get ts place ≡ Some told
  first_at : slice_get ss place ≡ Some s
  last_at : slice_get us place ≡ Some u
  device : told.0 ≡ desk_before.id
  called : CallsDesk desk_before desk_after s (end_call over) back told.1 u

abbrev later_pair : (over : Bool) (d : DeviceDeskState) (ds : List DeviceDeskState) (r : Of) (ss : List Of) (t : ℕ × List Item) (ts : List (ℕ × List Item)) (e : DeviceDeskState) (es : List DeviceDeskState) (v : Of) (us : List Of) (place : ℕ) (s u : Of)
    → EndedPair over ds ss ts es us place s u → EndedPair over (d ∷ ds) (r ∷ ss) (t ∷ ts) (e ∷ es) (v ∷ us) (suc place) s u
later_pair over d ds r ss t ts e es v us place s u pair = record {
  desk_before = pair.desk_before;
  desk_after = pair.desk_after;
  told = pair.told;
  back = pair.back;
  before_at = pair.before_at;
  after_at = pair.after_at;
  told_at = pair.told_at;
  first_at = pair.first_at;
  last_at = pair.last_at;
  device = pair.device;
  called = pair.called;
}

-- of each station before
pair_of : (over : Bool) (ds : List DeviceDeskState) (ss : List Of) (ts : List (ℕ × List Item)) (es : List DeviceDeskState) (us : List Of) → EndsEach over ds ss ts es us → (place : ℕ) (s : Of) → slice_get ss place ≡ Some s → (u : Of) × EndedPair over ds ss ts es us place s u
pair_of over [] [] [] [] [] ended place s at = absurd (cc (at))
pair_of over (d ∷ ds) (r ∷ ss) (t ∷ ts) (e ∷ es) (v ∷ us) ended zero s at =
    let same : r ≡ s = cc (at) in (
      v,
      record {
        desk_before = d;
        desk_after = e;
        told = t;
        back = ended.0;
        before_at = refl;
        after_at = refl;
        told_at = refl;
        first_at = ap Some same;
        last_at = refl;
        device = ended.1;
        called = subst (λ (x : Of). CallsDesk d e x (end_call over) ended.0 t.1 v) same ended.2;
      },
    )
pair_of over (d ∷ ds) (r ∷ ss) (t ∷ ts) (e ∷ es) (v ∷ us) ended (suc place) s at = let (u, pair) = pair_of over ds ss ts es us ended.3 place s at in (u, later_pair over d ds r ss t ts e es v us place s u pair)
pair_of over ds ss ts es us ended place s at = absurd ended

-- and after
pair_to : (over : Bool) (ds : List DeviceDeskState) (ss : List Of) (ts : List (ℕ × List Item)) (es : List DeviceDeskState) (us : List Of) → EndsEach over ds ss ts es us → (place : ℕ) (u : Of) → slice_get us place ≡ Some u → (s : Of) × EndedPair over ds ss ts es us place s u
pair_to over [] [] [] [] [] ended place u at = absurd (cc (at))
pair_to over (d ∷ ds) (r ∷ ss) (t ∷ ts) (e ∷ es) (v ∷ us) ended zero u at =
    let same : v ≡ u = cc (at) in (
      r,
      record {
        desk_before = d;
        desk_after = e;
        told = t;
        back = ended.0;
        before_at = refl;
        after_at = refl;
        told_at = refl;
        first_at = refl;
        last_at = ap Some same;
        device = ended.1;
        called = subst (λ (x : Of). CallsDesk d e r (end_call over) ended.0 t.1 x) same ended.2;
      },
    )
pair_to over (d ∷ ds) (r ∷ ss) (t ∷ ts) (e ∷ es) (v ∷ us) ended (suc place) u at = let (s, pair) = pair_to over ds ss ts es us ended.3 place u at in (s, later_pair over d ds r ss t ts e es v us place s u pair)
pair_to over ds ss ts es us ended place u at = absurd ended

each_stand : (told : List (ℕ × List Item)) (deeds : List Deed) → ((i : ℕ) (t : ℕ × List Item) → slice_get told i ≡ Some t → (key : Key) → Has (Came key) t.1 → ⊥) → EachAfter Stands deeds → EachAfter Stands (stored_each told ++ deeds)
each_stand [] deeds none each = each
each_stand (t ∷ told) deeds none each =
    subst (EachAfter Stands) (sym (append_assoc (stored_each told) (stored t.0 t.1) deeds))
    (each_stand told (stored t.0 t.1 ++ deeds) (λ i u at. none (suc i) u at) (stored_stand t.0 (reverse t.1) deeds (λ key has. absurd (none 0 t refl key (turned_has (Came key) t.1 has))) each))

-- what was told of a place is of a desk there
pub told_station : (over : Bool) (ds : List DeviceDeskState) (ss : List Of) (ts : List (ℕ × List Item)) (es : List DeviceDeskState) (us : List Of) → EndsEach over ds ss ts es us → (place : ℕ) (t : ℕ × List Item) → slice_get ts place ≡ Some t → (s : Of) × (u : Of) × (pair : EndedPair over ds ss ts es us place s u) × (pair.told ≡ t)
told_station over [] [] [] [] [] ended place t at = absurd (cc (at))
told_station over (d ∷ ds) (r ∷ ss) (x ∷ ts) (e ∷ es) (v ∷ us) ended zero t at = (
  r,
  v,
  record {
    desk_before = d;
    desk_after = e;
    told = x;
    back = ended.0;
    before_at = refl;
    after_at = refl;
    told_at = refl;
    first_at = refl;
    last_at = refl;
    device = ended.1;
    called = ended.2;
  },
  (let same : x ≡ t = cc (at) in same),
)
told_station over (d ∷ ds) (r ∷ ss) (x ∷ ts) (e ∷ es) (v ∷ us) ended (suc place) t at = let (s, u, pair, same) = told_station over ds ss ts es us ended.3 place t at in (s, u, later_pair over d ds r ss x ts e es v us place s u pair, same)
told_station over ds ss ts es us ended place t at = absurd ended

current_less : (on : Bool) (channel : ℕ) → current on channel ≤ suc channel
current_less true channel = omega arith
current_less false channel = omega arith

pub ended_outbox : (over : Bool) (s : FrontState) (desks : List DeviceDeskState) → (((ended_front over s desks).client).core).outbox ≡ []
ended_outbox true s desks = refl
ended_outbox false s desks = refl

ends_standing : (p q : Served) (deeds : List Deed) (over : Bool) (told_each : List (ℕ × List Item)) → IsKnownAt p deeds → PartGoes p (ends over told_each) q → AreStanding q (stored_each told_each ++ deeds)
ends_standing p q deeds over told_each known goes = record {
  stand = each_stand told_each deeds (λ i t at key has. let (s, u, pair, same) = told_station over (p.front).desks p.stations told_each (q.front).desks q.stations goes.1 i t at in
      end_comes_none over pair.back (pair.called).middle u (pair.called).step key (called_comes pair.desk_before pair.desk_after s u (end_call over) pair.back (pair.told).1 pair.called key (subst (λ (x : ℕ × List Item). Has (Came key) x.1) (sym same) has))) known.standing.stand;
  out = λ o has. absurd (subst (Has o) (ap (λ (s : FrontState). ((s.client).core).outbox) goes.2 ∙ ended_outbox over p.front (q.front).desks) has);
  closed = λ key done. elim (known.standing.closed key (sym (each_same key told_each deeds) ∙ done)) [ inl was ↦ inl (unserved key was) | inr named ↦ inr (named_on key named) ];
  owned = λ device x has. elim (each_from told_each device deeds x has) [
    | inl (i, t, at, same) ↦
        let (s, u, pair, same_told) = told_station over (p.front).desks p.stations told_each (q.front).desks q.stations goes.1 i t at in
        moved device (i, pair.desk_before, s, (pair.before_at, pair.first_at), sym pair.device ∙ ap (λ (y : ℕ × List Item). y.0) same_told ∙ same)
    | inr was ↦ moved device (known.standing.owned device x was)
  ];
  handing = λ device c same. absurd (let none = goes.3 in cc (none, same));
}
  where
    front_is : let t = ended_front over p.front (q.front).desks in (t.on ≡ false) × (t.channel ≡ (p.front).channel) × ((t.client).asked ≡ ((p.front).client).asked) × (t.kept ≡ None)
    front_is = ended_is over p.front (q.front).desks

    moved : (device : ℕ) → HasDesk p device → HasDesk q device
    moved device (place, d, s, at, id) =
        let (u, pair) = pair_of over (p.front).desks p.stations told_each (q.front).desks q.stations goes.1 place s at.1 in
        let same : pair.desk_before ≡ d = (let both : Some pair.desk_before ≡ Some d = sym pair.before_at ∙ at.0 in cc (both)) in
        (place, pair.desk_after, u, (pair.after_at, pair.last_at), (pair.called).id ∙ ap (λ (x : DeviceDeskState). x.id) same ∙ id)

    named_on : (key : Key) → IsNamedAt p key → IsNamedAt q key
    named_on key (place, s, at, named) =
        let (u, pair) = pair_of over (p.front).desks p.stations told_each (q.front).desks q.stations goes.1 place s at in
        (place, u, pair.last_at, subst (λ (j : List Item). NamesKey j key) (sym (pair.called).stored) (names_left s.journal (pair.told).1 key named))

    named_back : (key : Key) → IsNamedAt q key → IsNamedAt p key
    named_back key (place, u, at, named) =
        let (s, pair) = pair_to over (p.front).desks p.stations told_each (q.front).desks q.stations goes.1 place u at in
        let has = has_at p.stations place s pair.first_at in
        let stays = one_over over (current (p.front).on (p.front).channel) (p.front).channel ((p.front).client).asked pair.desk_before pair.desk_after s u pair.back (pair.told).1 (current_less (p.front).on (p.front).channel)
        (known.keyed.on s has) (known.keyed.named s has) pair.called in
        (place, s, pair.first_at, elim (stays.names key named) [ inl before ↦ before | inr none ↦ absurd none ])

    unserved : (key : Key) → IsUnserved p key → IsUnserved q key
    unserved key was = record {
      given = subst (λ (n : ℕ). IsGiven n ((q.front).client).asked key) (sym (ap (λ (s : FrontState). s.channel) goes.2 ∙ front_is.1))
          (subst (λ (n : ℕ). IsGiven (p.front).channel n key) (sym (ap (λ (s : FrontState). (s.client).asked) goes.2 ∙ front_is.2)) was.given);
      unnamed = λ named. was.unnamed (named_back key named);
      other = λ k pending. elim pending [
        | inl way ↦ absurd (subst (λ (a : Asking). IsUnder a k) goes.3 way)
        | inr some ↦ absurd (let none = ap (λ (s : FrontState). s.kept) goes.2 ∙ front_is.3 in cc (none, some))
      ];
    }

-- ---- each part

pub sent_first : (c new : ClientCoreState) (o : Outgoing) → client.client_send c ≡ (new, Some o) → (rest : List Outgoing) × ((c.core).outbox ≡ o ∷ rest) × ((new.core).outbox ≡ rest)
sent_first c new o is = by (c.core).outbox refl is
  where
    by : (outbox : List Outgoing) → (c.core).outbox ≡ outbox → ◌≡◌ {A = ClientCoreState × Option Outgoing} (let r = core.send_from c.core outbox in (record c { core = r.0 }, r.1)) (new, Some o) → (rest : List Outgoing) × ((c.core).outbox ≡ o ∷ rest) × ((new.core).outbox ≡ rest)
    by [] e f = absurd (let g : None ≡ Some o = ap (λ (r : ClientCoreState × Option Outgoing). r.1) f in cc (g))
    by (x ∷ rest) e f =
        let g : Some x ≡ Some o = ap (λ (r : ClientCoreState × Option Outgoing). r.1) f in
        let same : x ≡ o = cc (g) in
        (rest, e ∙ ap (λ (y : Outgoing). y ∷ rest) same, sym (ap (λ (r : ClientCoreState × Option Outgoing). ((r.0).core).outbox) f))

pub sent_none : (c new : ClientCoreState) → client.client_send c ≡ (new, None) → (new.core).outbox ≡ (c.core).outbox
sent_none c new is = by (c.core).outbox refl is
  where
    by : (outbox : List Outgoing) → (c.core).outbox ≡ outbox → ◌≡◌ {A = ClientCoreState × Option Outgoing} (let r = core.send_from c.core outbox in (record c { core = r.0 }, r.1)) (new, None) → (new.core).outbox ≡ (c.core).outbox
    by [] e f = sym (ap (λ (r : ClientCoreState × Option Outgoing). ((r.0).core).outbox) f)
    by (x ∷ rest) e f = absurd (let g : Some x ≡ None = ap (λ (r : ClientCoreState × Option Outgoing). r.1) f in cc (g))

-- a job that is answered without its device is under way
pub direct_under : (p : Served) (k : Kept) (st : Status) → part.MayBeDirect p k st → IsUnder p.asking k
direct_under p k st (inl absent) = subst (λ (a : Asking). IsUnder a k) (sym absent.0) refl
direct_under p k st (inr (inl gone)) = subst (λ (a : Asking). IsUnder a k) (sym gone.0) refl
direct_under p k st (inr (inr worn)) = subst (λ (a : Asking). IsUnder a k) (sym worn.1) refl

pub refreshed_more : (s : FrontState) (device : ℕ) → let t = with_new_data s device in (t.desks ≡ s.desks) × (((t.client).core) ≡ ((s.client).core))
refreshed_more s device = go (lookup (is_at (nat_cmp device)) s.printers)
  where
    go : (o : Option PrinterNames) → let t = option_map_or (λ (names : PrinterNames). record s { client = client.refresh s.client device (printer_data s.cache names) }) o s in (t.desks ≡ s.desks) × (((t.client).core) ≡ ((s.client).core))
    go None = (refl, refl)
    go (Some names) = (refl, refl)

pub part_standing : (p q : Served) (x : FrontPart) (deeds : List Deed) → PartGoes p x q → IsKnownAt p deeds → AreStanding q (deeds_of x ++ deeds)
part_standing p q (part.hears channel m answer) deeds goes known = hears_standing p q deeds channel m answer goes known.keyed known.standing
part_standing p q tries deeds goes known = subst (λ (s : Served). AreStanding s deeds) (sym goes.4)
    (light_standing p (record p { front = record p.front { kept = None }; asking = asks goes.0 }) deeds known.standing refl refl refl refl
    (λ k pending. elim pending [ inl same ↦ inr (goes.1 ∙ ap Some same) | inr some ↦ absurd (cc (some)) ]) (λ d c same. cc (same)))
part_standing p q keeps deeds goes known = subst (λ (s : Served). AreStanding s deeds) (sym goes.3)
    (light_standing p (record p { front = record p.front { kept = Some goes.0 }; asking = idle }) deeds known.standing refl refl refl refl
    (λ k pending. elim pending [ inl none ↦ absurd none | inr some ↦ inl (subst (λ (a : Asking). IsUnder a k) (sym goes.2) (let same : goes.0 ≡ k = cc (some) in same)) ]) (λ d c same. cc (same)))
part_standing p q forgets deeds goes known = subst (λ (s : Served). AreStanding s deeds) (sym goes.4)
    (light_standing p (record p { asking = idle }) deeds known.standing refl refl refl refl (λ k pending. elim pending [ inl none ↦ absurd none | inr some ↦ inr some ]) (λ d c same. cc (same)))
part_standing p q misplaces deeds goes known = subst (λ (s : Served). AreStanding s deeds) (sym goes.3)
    (light_standing p (record p { asking = idle }) deeds known.standing refl refl refl refl (λ k pending. elim pending [ inl none ↦ absurd none | inr some ↦ inr some ]) (λ d c same. cc (same)))
part_standing p q (unwritten device c) deeds goes known = subst (λ (s : Served). AreStanding s deeds) (sym goes.1)
    (light_standing p (record p { asking = idle }) deeds known.standing refl refl refl refl (λ k pending. elim pending [ inl none ↦ absurd none | inr some ↦ inr some ]) (λ d x same. cc (same)))
part_standing p q (writes device c) deeds goes known =
    subst (λ (s : Served). AreStanding s (deeds_of (writes device c) ++ deeds)) (sym goes.1) (writes_standing p deeds device c (completion_message device c) known.told known.read known.standing goes.0)
part_standing p q (directs st answer) deeds goes known = by answer ((goes.2).0).1 ((goes.2).1)
  where
    k : Kept
    k = goes.0

    under : IsUnder p.asking goes.0
    under = direct_under p goes.0 st goes.1

    by : (a : Result (Unit {0}) AllocError) → core.Did a (client.direct (p.front).client (goes.0).job (goes.0).device st) (p.front).client (q.front).client → q.front ≡ record p.front { client = (q.front).client; unsent = (p.front).unsent + one_if_done a } → AreStanding q deeds
    by (Ok done) did front = directs_standing p q deeds goes.0 (record { message = client.direct_bytes (goes.0).job (goes.0).device st; answers = Some (goes.0).job.key } ∷ []) _ known.keyed known.standing under front
        (ap (λ (c : ClientCoreState). c.asked) did) (ap (λ (c : ClientCoreState). (c.core).outbox) did) (λ o has. elim has [ inl same ↦ ap (λ (x : Outgoing). x.answers) same | inr none ↦ absurd none ]) goes.4 goes.3
    by (Err error) did front = directs_standing p q deeds goes.0 [] _ known.keyed known.standing under front
        (ap (λ (c : ClientCoreState). c.asked) did) (ap (λ (c : ClientCoreState). (c.core).outbox) did ∙ sym (append-nil (outbox_of p))) (λ o none. absurd none) goes.4 goes.3
part_standing p q (calls place id does back items) deeds goes known = called_standing p q place id does back items deeds known goes
part_standing p q (tells_gone device answer) deeds goes known = by answer ((goes.0).0).1 (goes.0).1
  where
    by : (a : Result (Unit {0}) AllocError) → core.Did a (client.tell_removed (p.front).client device) (p.front).client (q.front).client → q.front ≡ record p.front { client = (q.front).client; unsent = (p.front).unsent + one_if_done a } → AreStanding q (deeds_of (tells_gone device a) ++ deeds)
    by (Ok done) did front = standing_beside p q (removes device) deeds (own_standing p q deeds _ known.standing front (ap (λ (c : ClientCoreState). c.asked) did)
        (subst (AddsOwn (outbox_of p)) (sym (ap (λ (c : ClientCoreState). (c.core).outbox) did)) (adds_own (outbox_of p) (removal_bytes (device ∷ [])) (removal_own (device ∷ [])))) goes.2 goes.1) tt (λ d. refl) (λ key no. absurd (cc (no)))
    by (Err error) did front = own_standing p q deeds _ known.standing front (ap (λ (c : ClientCoreState). c.asked) did)
        ([], ap (λ (c : ClientCoreState). (c.core).outbox) did ∙ sym (append-nil (outbox_of p)), λ o none. absurd none) goes.2 goes.1
part_standing p q (tells_there device answer) deeds goes known = by answer ((goes.0).0).1 (goes.0).1
  where
    by : (a : Result (Unit {0}) AllocError) → core.Did a (client.tell_added (p.front).client device) (p.front).client (q.front).client → q.front ≡ record p.front { client = (q.front).client; unsent = (p.front).unsent + one_if_done a } → AreStanding q (deeds_of (tells_there device a) ++ deeds)
    by (Ok done) did front = standing_beside p q (adds device) deeds (own_standing p q deeds _ known.standing front (ap (λ (c : ClientCoreState). c.asked) did)
        (subst (AddsOwn (outbox_of p)) (sym (ap (λ (c : ClientCoreState). (c.core).outbox) did)) (adds_own (outbox_of p) (list_bytes (client.listed_one (p.front).client device)) (list_own (client.listed_one (p.front).client device)))) goes.2 goes.1) tt (λ d. refl) (λ key no. absurd (cc (no)))
    by (Err error) did front = own_standing p q deeds _ known.standing front (ap (λ (c : ClientCoreState). c.asked) did)
        ([], ap (λ (c : ClientCoreState). (c.core).outbox) did ∙ sym (append-nil (outbox_of p)), λ o none. absurd none) goes.2 goes.1
part_standing p q (sends channel None) deeds goes known =
    own_standing p q deeds _ known.standing (goes.1).1 (sent_calm (p.front).client (q.front).client None (goes.1).0).1
    ([], sent_none (p.front).client (q.front).client (goes.1).0 ∙ sym (append-nil (outbox_of p)), λ o none. absurd none) goes.3 goes.2
part_standing p q (sends channel (Some o)) deeds goes known =
    let (rest, first, then) = sent_first (p.front).client (q.front).client o (goes.1).0 in
    sends_standing p q deeds o rest _ channel known.told known.standing first then (goes.1).1 (sent_calm (p.front).client (q.front).client (Some o) (goes.1).0).1 goes.3 goes.2
part_standing p q (learns n answer) deeds goes known = subst (λ (s : Served). AreStanding s deeds) (sym goes.1) (record {
  stand = known.standing.stand;
  out = λ o has. as_out p (record p { front = record p.front { cache = (q.front).cache } }) (λ key was. record { given = was.given; unnamed = was.unnamed; other = was.other }) o.answers o.message (known.standing.out o has);
  closed = λ key done. elim (known.standing.closed key done) [ inl was ↦ inl (record { given = was.given; unnamed = was.unnamed; other = was.other }) | inr named ↦ inr named ];
  owned = known.standing.owned;
  handing = known.standing.handing;
})
part_standing p q (refreshes device) deeds goes known =
    let more = refreshed_more p.front device in
    let calm = refreshed_calm p.front device in
    let then : Served = record p { front = with_new_data p.front device } in
    let on : (key : Key) → IsUnserved p key → IsUnserved then key = λ key was. unserved_same p then calm.0.channel (let e = calm.0.asked in omega (arith, e)) refl key
    (λ k pending. elim pending [ inl way ↦ was.other k (inl way) | inr some ↦ was.other k (inr (sym calm.1 ∙ some)) ]) was in
    subst (λ (s : Served). AreStanding s deeds) (sym goes) (record {
      stand = known.standing.stand;
      out = out_same p then on (ap (λ c. c.outbox) more.1) known.standing.out;
      closed = λ key done. elim (known.standing.closed key done) [ inl was ↦ inl (on key was) | inr named ↦ inr named ];
      owned = λ d x has. moved_same p then more.0 refl d (known.standing.owned d x has);
      handing = known.standing.handing;
    })
part_standing p q (begins channel) deeds goes known = begins_standing p q deeds channel known.keyed known.standing goes
part_standing p q (ends over told_each) deeds goes known = ends_standing p q deeds over told_each known goes

pub part_known : (p q : Served) (x : FrontPart) (deeds : List Deed) → PartGoes p x q → IsKnownAt p deeds → IsKnownAt q (deeds_of x ++ deeds)
part_known p q x deeds goes known = record {
  keyed = part_keyed p q x goes known.keyed;
  told = part_told p q x deeds goes known.keyed known.told;
  read = part_read p q x deeds goes known.keyed known.told known.read;
  standing = part_standing p q x deeds goes known;
}

pub parts_known : (ps : List FrontPart) (p q : Served) (deeds : List Deed) → PartsGo p ps q → IsKnownAt p deeds → IsKnownAt q (deeds_after ps deeds)
parts_known [] p q deeds is known = subst (λ (s : Served). IsKnownAt s deeds) (sym is) known
parts_known (x ∷ ps) p q deeds goes known = parts_known ps goes.0 q (deeds_of x ++ deeds) goes.2 (part_known p goes.0 x deeds goes.1 known)

pub history_known : (entries : List (Entry FrontCall FrontReply)) (parts : List (List FrontPart)) (p q : Served) (deeds : List Deed) → HistoryGoes p entries parts q → IsKnownAt p deeds → IsKnownAt q (deeds_of_calls parts deeds)
history_known [] [] p q deeds goes known = subst (λ (s : Served). IsKnownAt s deeds) (sym goes) known
history_known [] (ps ∷ parts) p q deeds goes known = absurd goes
history_known (e ∷ entries) [] p q deeds goes known = absurd goes
history_known (e ∷ entries) (ps ∷ parts) p q deeds goes known = history_known entries parts goes.0 q (deeds_after ps deeds) goes.2 (parts_known ps p goes.0 deeds (goes.1).goes known)

-- ---- the beginning

pub begins_known : (p : Served) → IsNewFront p.front → AreApart (p.front).desks → AreStationed (p.front).desks p.stations → p.asking ≡ idle → IsKnownAt p []
begins_known p is apart at none = record {
  keyed = begins_at p is at none;
  told = begins_told_well p is apart at none;
  read = tt;
  standing = record {
    stand = tt;
    out = λ o has. absurd (subst (Has o) is.nothing has);
    closed = λ key done. absurd (cc (done));
    owned = λ device x has. absurd has;
    handing = λ device c same. absurd (cc (none, same));
  };
}
