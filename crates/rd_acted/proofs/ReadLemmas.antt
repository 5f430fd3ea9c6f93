-- Where nothing that a client read was wrong, its state is that of what it read on the channel, and what it keeps for printers is what it read of them.
use Rattle.std.proofs.Common.{◌≡◌, ◌∙◌, refl, sym, ap, subst, ℕ, ◌+◌, ◌==◌, Bool, true, false, cond, arith, eq-eqb, List, [], ◌∷◌, ◌++◌, length, map, reverse, drop, fold, Some, None, Option, Result, Ok, Err, append_assoc}
use Rattle.std.specs.Prelude.{IsSome, filter_map, if◌then◌else◌}
use Rattle.std.specs.List.{AllByRecursion, cons_option}
use Rattle.std.specs.Option.{option_and_then, option_map_or}
use Rattle.rd_base.specs.declared.journal.Item.{Item}
use Rattle.rd_base.specs.declared.journal.Key.{Key}
use Rattle.rd_client.specs.Core as client
use Rattle.rd_client.specs.Core.{ClientCoreState, HostSays, Outgoing, client_begin, client_hear, client_hear_made, client_opened, client_side, listed, plain}
use Rattle.rd_client.specs.Order.{is_client_ready}
use Rattle.rd_client.specs.declared.heard.Heard.{Heard}
use Rattle.rd_client.specs.declared.heard.Heard.TheVariants.{Nothing, Ask, Print}
use Rattle.rd_rest.proofs.ControlsNumbers.{picked_reverse, reverse_cons}
use Rattle.rd_core.specs.Core.{CoreState}
use Rattle.rd_core.specs.Hearing as hearing
use Rattle.rd_core.specs.Hearing.{Meaning, nothing, opens, said, says, wrong}
use Rattle.rd_devices.specs.DeviceList.{list_bytes}
use Rattle.rd_devices.specs.declared.list.Announce.{Announce}
use Rattle.rd_drive.proofs.AllLemmas.{all_append}
use Rattle.rd_drive.specs.declared.plan.Job.{Job}
use Rattle.rd_hello.specs.declared.client.ClientState.{ClientState}
use Rattle.rd_hello.specs.declared.end_fault.EndFault.{EndFault}
use Rattle.rd_rest.proofs.JournalsChannelLemmas.{all_refreshed, begun_on}
use Rattle.rd_rest.proofs.JournalsRunLemmas.{behind_orderly}
use Rattle.rd_rest.specs.JournalsOrderly.{Orderly}
use Rattle.rd_rest.specs.JournalsStations.{AreFit, IsFit}
use Rattle.rd_printer.specs.Cache as cache
use Rattle.rd_printer.specs.Cache.{CacheState, heard_all}
use Rattle.rd_printer.specs.declared.notice.Notice.{Notice}
use Rattle.rd_rest.specs.RunsPremises.{DeviceFits, RunPremises}
use Rattle.rd_rest.proofs.RunsParts.{IsBehind, MayBe, by_parts, Part, accepts, adds_one, announced_by, applies_one, begins, client_gets, client_hears_one, client_keeps_part, client_sends_one, collects_one, done, draws_one, ends, hands_out, host_gets, host_hears_one, host_keeps_part, host_sends_one, idle_one, queues_one, refreshed_by, refuses, removes_one, takes_one, tells_one, told_added, told_removed, tries_one}
use Rattle.rd_script.specs.declared.line.NumberedLine.{NumberedLine}
use Rattle.rd_station.specs.Station as station
use Rattle.rd_station.specs.Station.{StationState}
use Rattle.rd_station.specs.declared.refusals.PutWhy.{PutWhy}
use Rattle.rd_station.specs.declared.refusals.PutWhy.TheVariants as why
use Rattle.rd_world.specs.Acts.{cache_after, notice_read}
use Rattle.rd_world.proofs.BeginningLemmas.{begun_by}
use Rattle.rd_declared.proofs.DeclaringLemmas.{declared_openable}
use Rattle.rd_world.proofs.OpeningLemmas.{lines_begin}
use Rattle.rd_declared.specs.Declaring.{IsOpenable, bare_lines, declared_devices}
use Rattle.rd_declared.specs.declared.device.SessionDevice.TheVariants as session
use Rattle.rd_declared.specs.Devices.{Declared, PrinterNames, device_cut, printer_data}
use Rattle.rd_world.specs.Events.{came_of, completion_message, connects, deed_on, dropping}
use Rattle.rd_world.specs.Hearing.{after_opening, announcing, client_hears, heard_by_client, put_at, put_by, putting, refused_put, with_client}
use Rattle.rd_deeds.specs.Talk.{Deed, adds, client_read, client_reads, client_writes, completes, host_begins, host_ends, host_reads, host_writes, notice_in, removes, stores, submits, takes, tells}
use Rattle.rd_world.specs.World.{WorldState, station_at, stored_beyond, with_station}
use Rattle.rd_declared.specs.declared.device.SessionDevice.{SessionDevice}
use Rattle.rd_acted.proofs.NoticeLemmas.{heard_notice, noticed}
use Rattle.rd_acted.proofs.QuietLemmas.{read_by}
use Rattle.rd_acted.specs.Acted.{AreReadWell, state_heard, state_read}

-- ---- what passes without that a client reads

abbrev IsUnread : Deed → Type 0
IsUnread (client_reads channel message) = ⊥
IsUnread deed = Unit {0}

abbrev AreUnread : List Deed → Type 0
AreUnread deeds = AllByRecursion IsUnread deeds

unread_stores : (device : ℕ) (items : List Item) → AreUnread (map (stores device) items)
unread_stores device [] = tt
unread_stores device (item ∷ items) = (tt, unread_stores device items)

-- The second world is what is left of the first without that a client reads.
record Unheard (w v : WorldState) : Type 0 where
  more : List Deed
  unread : AreUnread more
  deeds : v.deeds ≡ more ++ w.deeds
  shake : ((v.client).core).shake ≡ ((w.client).core).shake
  fault : ((v.client).core).fault ≡ ((w.client).core).fault
  kept : v.cache ≡ w.cache
  channels : v.channels ≡ w.channels

unheard_none : (w : WorldState) → Unheard w w
unheard_none w = record { more = []; unread = tt; deeds = refl; shake = refl; fault = refl; kept = refl; channels = refl }

unheard_by : (w x y : WorldState) → Unheard w x → Unheard x y → Unheard w y
unheard_by w x y one two = record {
  more = two.more ++ one.more;
  unread = all_append IsUnread two.more one.more two.unread one.unread;
  deeds = two.deeds ∙ ap (λ (ds : List Deed). two.more ++ ds) one.deeds ∙ sym (append_assoc two.more one.more w.deeds);
  shake = two.shake ∙ one.shake;
  fault = two.fault ∙ one.fault;
  kept = two.kept ∙ one.kept;
  channels = two.channels ∙ one.channels;
}

option_unheard : {X : Type 0} (w : WorldState) (f : X → WorldState) (o : Option X) → ((x : X) → Unheard w (f x)) → Unheard w (option_map_or f o w)
option_unheard w f None each = unheard_none w
option_unheard w f (Some x) each = each x

stationed : (w : WorldState) (device : ℕ) (s : StationState SessionDevice) → Unheard w (with_station w device s)
stationed w device s =
    let count : ℕ = option_map_or (λ (old : StationState SessionDevice). length old.journal) (station_at w device) 0 in
    record { more = stored_beyond count device s; unread = unread_stores device (reverse (drop count s.journal)); deeds = refl; shake = refl; fault = refl; kept = refl; channels = refl }

announced : (w : WorldState) (device : ℕ) (o : Option (StationState SessionDevice)) → Unheard w (announced_by w device o)
announced w device o = option_unheard w (λ (s : StationState SessionDevice). with_station w device (station.announce s).0) o (λ s. stationed w device (station.announce s).0)

all_announced : (devices : List Announce) (w : WorldState) → Unheard w (fold (λ x (a : Announce). announcing x a.id) w devices)
all_announced [] w = unheard_none w
all_announced (a ∷ devices) w = unheard_by w (announcing w a.id) _ (announced w a.id (station_at w a.id)) (all_announced devices (announcing w a.id))

-- its client has something more to write
outgoing : (w v : WorldState) → v.deeds ≡ w.deeds → ((v.client).core).shake ≡ ((w.client).core).shake → ((v.client).core).fault ≡ ((w.client).core).fault → v.cache ≡ w.cache → v.channels ≡ w.channels → Unheard w v
outgoing w v deeds shake fault kept channels = record { more = []; unread = tt; deeds = deeds; shake = shake; fault = fault; kept = kept; channels = channels }

one_deed : (w v : WorldState) (x : Deed) → IsUnread x → v.deeds ≡ x ∷ w.deeds → ((v.client).core).shake ≡ ((w.client).core).shake → ((v.client).core).fault ≡ ((w.client).core).fault → v.cache ≡ w.cache → v.channels ≡ w.channels
    → Unheard w v
one_deed w v x unread deeds shake fault kept channels = record { more = x ∷ []; unread = (unread, tt); deeds = deeds; shake = shake; fault = fault; kept = kept; channels = channels }

put : (w : WorldState) (device : ℕ) (job : Job) → Unheard w (putting w device job)
put w device job = at (station_at w device)
  where
    refused : (cause : PutWhy) → Unheard w (refused_put w device job cause)
    refused why.Gone = outgoing w _ refl refl refl refl refl
    refused (why.Full held) = outgoing w _ refl refl refl refl refl
    refused (why.Worn count) = outgoing w _ refl refl refl refl refl
    refused (why.Duplicate key) = unheard_none w
    refused why.Memory = unheard_none w

    by : (r : StationState SessionDevice × Option PutWhy) → Unheard w (put_by w device job r)
    by (s, None) = stationed w device s
    by (s, Some cause) = refused cause

    at : (o : Option (StationState SessionDevice)) → Unheard w (put_at w device job o)
    at None = outgoing w _ refl refl refl refl refl
    at (Some s) = by (station.put s job)

dropped : (devices : List ℕ) (w : WorldState) → Unheard w (fold dropping w devices)
dropped [] w = unheard_none w
dropped (device ∷ devices) w =
    unheard_by w (dropping w device) _
    (option_unheard w (λ (s : StationState SessionDevice). with_station w device (station.drop_channel s (device_cut s.device).state)) (station_at w device)
    (λ s. stationed w device (station.drop_channel s (device_cut s.device).state))) (dropped devices (dropping w device))

refreshed : (w : WorldState) (device : ℕ) (o : Option PrinterNames) → Unheard w (refreshed_by w device o)
refreshed w device o = option_unheard w (λ (n : PrinterNames). with_client w (client.refresh w.client device (printer_data w.cache n))) o (λ n. outgoing w _ refl refl refl refl refl)

-- ---- parts

abbrev Hears : Part → Type 0
Hears (client_hears_one message rest) = Unit {0}
Hears begins = Unit {0}
Hears p = ⊥

sent_core : (c d : ClientCoreState) (o : Outgoing) → client.client_send c ≡ (d, Some o) → ((d.core).shake ≡ (c.core).shake) × ((d.core).fault ≡ (c.core).fault)
sent_core c d o made = by (c.core).outbox refl
  where
    by : (os : List Outgoing) → (c.core).outbox ≡ os → ((d.core).shake ≡ (c.core).shake) × ((d.core).fault ≡ (c.core).fault)
    by [] e = let none : (client.client_send c).1 ≡ None = rw e refl in absurd (cc (none, ap (λ (r : ClientCoreState × Option Outgoing). r.1) made))
    by (x ∷ xs) e =
        let is : (client.client_send c).0 ≡ record c { core = record c.core { outbox = xs } } = rw e refl in
        let same : d ≡ record c { core = record c.core { outbox = xs } } = sym (ap (λ (r : ClientCoreState × Option Outgoing). r.0) made) ∙ is in
        (ap (λ (y : ClientCoreState). (y.core).shake) same, ap (λ (y : ClientCoreState). (y.core).fault) same)

sent_unread : (c : ℕ) (o : Outgoing) → IsUnread (deed_on c o)
sent_unread c o = by o.answers
  where
    by : (key : Option Key) → IsUnread (option_map_or (λ k. completes k o.message) key (client_writes c o.message))
    by None = tt
    by (Some k) = tt

module _ (lines : List NumberedLine) (starves : Key → Bool) where
  unheard : (w : WorldState) (p : Part) → MayBe lines starves w p → (Hears p → ⊥) → Unheard w (done starves w p)
  unheard w (accepts a asked named t number) may off = one_deed w _ (submits a named _) tt refl refl refl refl refl
  unheard w (refuses a asked cause) may off = outgoing w _ refl refl refl refl refl
  unheard w (hands_out a number t taken None) may off = one_deed w _ (takes number) tt refl refl refl refl refl
  unheard w (hands_out a number t taken (Some asked)) may off = one_deed w _ (takes number) tt refl refl refl refl refl
  unheard w (host_sends_one message) may off = one_deed w _ (host_writes w.channels message) tt refl refl refl refl refl
  unheard w (host_gets n) may off = outgoing w _ refl refl refl refl refl
  unheard w host_keeps_part may off = outgoing w _ refl refl refl refl refl
  unheard w (host_hears_one message rest) may off = one_deed w _ (host_reads w.channels message) tt refl refl refl refl refl
  unheard w (tells_one n) may off = one_deed w _ (tells n) tt refl refl refl refl refl
  unheard w begins may off = absurd (off tt)
  unheard w ends may off =
      let cut : WorldState = fold dropping w (map (λ (e : ℕ × StationState SessionDevice). e.0) w.stations) in
      unheard_by w cut _ (dropped (map (λ (e : ℕ × StationState SessionDevice). e.0) w.stations) w) (one_deed cut _ (host_ends cut.channels) tt refl refl refl refl refl)
  unheard w (client_sends_one c o) made off =
      let (shake, fault) = sent_core w.client c o made in
      one_deed w (done starves w (client_sends_one c o)) (deed_on w.channels o) (sent_unread w.channels o) refl shake fault refl refl
  unheard w (client_gets n) may off = outgoing w _ refl refl refl refl refl
  unheard w client_keeps_part may off = outgoing w _ refl refl refl refl refl
  unheard w (client_hears_one message rest) may off = absurd (off tt)
  unheard w (tries_one k) may off =
      let x : WorldState = record w { kept = None } in
      unheard_by w x _ (outgoing w x refl refl refl refl refl) (put x k.device k.job)
  unheard w (collects_one device s after c) may off =
      let x : WorldState = with_station w device after in
      unheard_by w x _ (stationed w device after) (one_deed x _ (completes c.key (completion_message device c)) tt refl refl refl refl refl)
  unheard w (takes_one device hand s after job) may off = unheard_by w (with_station w device after) _ (stationed w device after) (outgoing (with_station w device after) _ refl refl refl refl refl)
  unheard w (applies_one hand device job None) may off = outgoing w _ refl refl refl refl refl
  unheard w (applies_one hand device job (Some s)) may off =
      let x : WorldState = with_station w device (station.apply s job w.moment (came_of starves w job s.device)).0 in
      unheard_by w x _ (stationed w device (station.apply s job w.moment (came_of starves w job s.device)).0) (outgoing x _ refl refl refl refl refl)
  unheard w (removes_one device o) may off =
      let told : WorldState = told_removed w device in
      unheard_by w told _ (one_deed w told (removes device) tt refl refl refl refl refl)
      (option_unheard told (λ (s : StationState SessionDevice). with_station told device (station.remove s (device_cut s.device).state).0) o (λ s. stationed told device (station.remove s (device_cut s.device).state).0))
  unheard w (adds_one device names o) may off =
      let fresh : WorldState = refreshed_by w device names in
      let told : WorldState = told_added fresh device in
      unheard_by w fresh _ (refreshed w device names) (unheard_by fresh told _ (one_deed fresh told (adds device) tt refl refl refl refl refl) (announced told device o))
  unheard w (queues_one a) may off = outgoing w _ refl refl refl refl refl
  unheard w (idle_one number) may off = outgoing w _ refl refl refl refl refl
  unheard w draws_one may off = outgoing w _ refl refl refl refl refl

-- ---- what was read

unread_one : (x : Deed) (deeds : List Deed) → IsUnread x → ((c : ℕ) → client_read c (x ∷ deeds) ≡ client_read c deeds) × (filter_map notice_read (x ∷ deeds) ≡ filter_map notice_read deeds)
unread_one (client_reads channel message) deeds off = absurd off
unread_one x deeds off = (λ c. refl, refl)

unread_all : (more deeds : List Deed) → AreUnread more → ((c : ℕ) → client_read c (more ++ deeds) ≡ client_read c deeds) × (filter_map notice_read (more ++ deeds) ≡ filter_map notice_read deeds)
unread_all [] deeds off = (λ c. refl, refl)
unread_all (x ∷ more) deeds off =
    let one = unread_one x (more ++ deeds) off.0 in
    let all = unread_all more deeds off.1 in
    (λ c. one.0 c ∙ all.0 c, one.1 ∙ all.1)

cache_is : (deeds : List Deed) → cache_after deeds ≡ heard_all [] (reverse (filter_map notice_read deeds))
cache_is deeds = ap (heard_all []) (picked_reverse notice_read deeds)

heard_last : (state : CacheState) (ns : List Notice) (n : Notice) → heard_all state (ns ++ n ∷ []) ≡ cache.heard (heard_all state ns) n
heard_last state [] n = refl
heard_last state (m ∷ ns) n = heard_last (cache.heard state m) ns n

abbrev cached : CacheState → Option Notice → CacheState
cached state o = option_map_or (cache.heard state) o state

cache_more : (c : ℕ) (m : List ℕ) (deeds : List Deed) → cache_after (client_reads c m ∷ deeds) ≡ cached (cache_after deeds) (notice_in m)
cache_more c m deeds = cache_is (client_reads c m ∷ deeds) ∙ by (notice_in m) ∙ ap (λ (k : CacheState). cached k (notice_in m)) (sym (cache_is deeds))
  where
    by : (o : Option Notice) → heard_all [] (reverse (cons_option o (filter_map notice_read deeds))) ≡ cached (heard_all [] (reverse (filter_map notice_read deeds))) o
    by None = refl
    by (Some n) = ap (heard_all []) (reverse_cons n (filter_map notice_read deeds)) ∙ heard_last [] (reverse (filter_map notice_read deeds)) n

-- what is read so far was read well, where what was read in all was
fewer : (x : Deed) (deeds : List Deed) → AreReadWell (x ∷ deeds) → AreReadWell deeds
fewer (client_reads channel message) deeds well c = by (channel == c) (well c)
  where
    earlier : (o : Option ClientState) → IsSome (option_and_then (λ state. state_heard state (said client_side state message)) o) → IsSome o
    earlier None is = is
    earlier (Some state) is = refl

    by : (b : Bool) → IsSome (state_read (cons_option (cond b (Some message) None) (client_read c deeds))) → IsSome (state_read (client_read c deeds))
    by true is = earlier (state_read (client_read c deeds)) is
    by false is = is
fewer x deeds well c = well c

pub fewer_read : (more deeds : List Deed) → AreReadWell (more ++ deeds) → AreReadWell deeds
fewer_read [] deeds well = well
fewer_read (x ∷ more) deeds well = fewer_read more deeds (fewer x (more ++ deeds) well)

-- ---- a client's state, and what it keeps

abbrev pub IsReadAs : WorldState → Type 0
IsReadAs w = (state_read (client_read w.channels w.deeds) ≡ Some ((w.client).core).shake) × (((w.client).core).fault ≡ None) × (w.cache ≡ cache_after w.deeds)

unheard_as : (w v : WorldState) → Unheard w v → IsReadAs w → IsReadAs v
unheard_as w v u (was, fine, kept) =
    let all = unread_all u.more w.deeds u.unread in
    let read : client_read v.channels v.deeds ≡ client_read w.channels w.deeds = ap (λ (c : ℕ). client_read c v.deeds) u.channels ∙ ap (client_read w.channels) u.deeds ∙ all.0 w.channels in
    let noted : cache_after v.deeds ≡ cache_after w.deeds =
    ap cache_after u.deeds ∙ cache_is (u.more ++ w.deeds) ∙ ap (λ (ns : List Notice). heard_all [] (reverse ns)) all.1 ∙ sym (cache_is w.deeds) in (
      ap state_read read ∙ was ∙ ap (λ (s : ClientState). Some s) (sym u.shake),
      u.fault ∙ fine,
      u.kept ∙ kept ∙ sym noted,
    )

unheard_well : (w v : WorldState) → Unheard w v → AreReadWell v.deeds → AreReadWell w.deeds
unheard_well w v u well = fewer_read u.more w.deeds (subst AreReadWell u.deeds well)

opened_core : (c : ClientCoreState) (after : CoreState ClientState Outgoing) → (((client_opened c after).core).shake ≡ after.shake) × (((client_opened c after).core).fault ≡ after.fault)
opened_core c after = by (client.becomes_ready (c.core).shake after.shake)
  where
    next : ClientCoreState
    next = record c { core = after }

    by : (b : Bool) → let d = if b then client.with_outgoing next (plain (list_bytes (listed c))) else next in ((d.core).shake ≡ after.shake) × ((d.core).fault ≡ after.fault)
    by true = (refl, refl)
    by false = (refl, refl)

abbrev made : ClientCoreState → Meaning ClientState HostSays → ClientCoreState × Result Heard EndFault
made c s = client_hear_made c (hearing.hear_said client_side c.core s)

listening : (c : ClientCoreState) (m : List ℕ) → (c.core).fault ≡ None → client_hear c m ≡ made c (said client_side (c.core).shake m)
listening c m e = rw e refl

opening_unheard : (shake : ClientState) (w : WorldState) → Unheard w (after_opening shake w)
opening_unheard shake w = by (client.becomes_ready shake ((w.client).core).shake)
  where
    by : (b : Bool) → Unheard w (if b then fold (λ x (a : Announce). announcing x a.id) w (listed w.client) else w)
    by true = all_announced (listed w.client) w
    by false = unheard_none w

module _ (w : WorldState) (m : List ℕ) (is : IsReadAs w) where
  abbrev shake : ClientState
  shake = ((w.client).core).shake

  read_state : state_read (client_read w.channels (client_reads w.channels m ∷ w.deeds)) ≡ state_heard shake (said client_side shake m)
  read_state =
      ap (λ (b : Bool). state_read (cons_option (cond b (Some m) None) (client_read w.channels w.deeds))) (eq-eqb w.channels w.channels refl)
      ∙ ap (λ (o : Option ClientState). option_and_then (λ state. state_heard state (said client_side state m)) o) is.0

  -- a client after the message, with what it keeps then
  after_message : (d : ClientCoreState) (s : Meaning ClientState HostSays) (kept : CacheState) → said client_side shake m ≡ s → state_heard shake s ≡ Some (d.core).shake → (d.core).fault ≡ None
      → kept ≡ cached w.cache (noticed s) → IsReadAs (record (read_by w m d) { cache = kept })
  after_message d s kept meant state fine held =
      let right : (fault : EndFault) → s ≡ wrong fault → ⊥ = λ fault e.
      let none : state_heard shake s ≡ None = ap (state_heard shake) e in
      absurd (cc (none, state)) in
      let spells : notice_in m ≡ noticed s = heard_notice shake m s meant right in (
        read_state ∙ ap (state_heard shake) meant ∙ state,
        fine,
        held ∙ ap (λ (k : CacheState). cached k (noticed s)) is.2 ∙ ap (λ (o : Option Notice). cached (cache_after w.deeds) o) (sym spells) ∙ sym (cache_more w.channels m w.deeds),
      )

  by_meaning : (s : Meaning ClientState HostSays) → said client_side shake m ≡ s → IsSome (state_heard shake s) → IsReadAs (heard_by_client shake (read_by w m (made w.client s).0) (made w.client s).1)
  by_meaning (wrong fault) meant some = absurd cc
  by_meaning nothing meant some =
      let d : ClientCoreState = client_opened w.client (w.client).core in
      let (same, fine) = opened_core w.client (w.client).core in
      unheard_as (read_by w m d) _ (opening_unheard shake (read_by w m d)) (after_message d nothing w.cache meant (ap (λ (s : ClientState). Some s) (sym same)) (fine ∙ is.1) refl)
  by_meaning (opens row) meant some =
      let after : CoreState ClientState Outgoing = hearing.after_row client_side (w.client).core row in
      let d : ClientCoreState = client_opened w.client after in
      let (same, fine) = opened_core w.client after in
      unheard_as (read_by w m d) _ (opening_unheard shake (read_by w m d)) (after_message d (opens row) w.cache meant (ap (λ (s : ClientState). Some s) (sym same)) (fine ∙ is.1) refl)
  by_meaning (says (client.requests r)) meant some =
      let d : ClientCoreState = (made w.client (says (client.requests r))).0 in
      unheard_as (read_by w m d) _ (put (read_by w m d) r.device (client.job_of r (w.client).channel (w.client).asked)) (after_message d (says (client.requests r)) w.cache meant refl is.1 refl)
  by_meaning (says (client.replies r)) meant some =
      let d : ClientCoreState = (made w.client (says (client.replies r))).0 in
      unheard_as (read_by w m d) _ (opening_unheard shake (read_by w m d)) (after_message d (says (client.replies r)) w.cache meant refl is.1 refl)
  by_meaning (says (client.notices n)) meant some = after_message (made w.client (says (client.notices n))).0 (says (client.notices n)) (cache.heard w.cache n) meant refl is.1 refl

  hears_as : IsSome (state_read (client_read w.channels (client_reads w.channels m ∷ w.deeds))) → IsReadAs (client_hears w m)
  hears_as well =
      subst (λ (r : ClientCoreState × Result Heard EndFault). IsReadAs (heard_by_client shake (read_by w m r.0) r.1)) (sym (listening w.client m is.1))
      (by_meaning (said client_side shake m) refl (subst IsSome read_state well))

-- a message is heard, and read
hears_grows : (w : WorldState) (m : List ℕ) → (more : List Deed) × ((client_hears w m).deeds ≡ more ++ client_reads w.channels m ∷ w.deeds)
hears_grows w m = by (client_hear w.client m)
  where
    by : (r : ClientCoreState × Result Heard EndFault) → (more : List Deed) × ((heard_by_client ((w.client).core).shake (read_by w m r.0) r.1).deeds ≡ more ++ client_reads w.channels m ∷ w.deeds)
    by (d, Err fault) = ([], refl)
    by (d, Ok Nothing) = let u = opening_unheard ((w.client).core).shake (read_by w m d) in (u.more, u.deeds)
    by (d, Ok (Ask device job)) = let u = put (read_by w m d) device job in (u.more, u.deeds)
    by (d, Ok (Print n)) = ([], refl)

pub hears_read_as : (w : WorldState) (m : List ℕ) → AreReadWell (client_hears w m).deeds → IsReadAs w → IsReadAs (client_hears w m)
hears_read_as w m well is =
    let g = hears_grows w m in
    hears_as w m is (fewer_read g.0 (client_reads w.channels m ∷ w.deeds) (subst AreReadWell g.1 well) w.channels)

begins_read_as : (w : WorldState) → client_read (w.channels + 1) w.deeds ≡ [] → w.cache ≡ cache_after w.deeds → IsReadAs (connects w)
begins_read_as w none kept =
    subst (λ (x : WorldState). IsReadAs (begun_on w x)) (sym (all_refreshed (map (λ (e : ℕ × PrinterNames). e.0) w.printers) w)) (
      ap state_read none,
      refl,
      kept ∙ cache_is w.deeds ∙ sym (cache_is (host_begins (w.channels + 1) ∷ w.deeds)),
    )

-- what was read before a part
pub part_well : (lines : List NumberedLine) (starves : Key → Bool) (w : WorldState) (p : Part) → MayBe lines starves w p → AreReadWell (done starves w p).deeds → AreReadWell w.deeds
part_well lines starves w begins may well =
    fewer (host_begins (w.channels + 1)) w.deeds
    (subst (λ (x : WorldState). AreReadWell (begun_on w x).deeds) (all_refreshed (map (λ (e : ℕ × PrinterNames). e.0) w.printers) w) well)
part_well lines starves w (client_hears_one message rest) may well =
    let x : WorldState = record w { to_client = record w.to_client { part = []; taken = _; unhandled = rest } } in
    let g = hears_grows x message in
    fewer (client_reads w.channels message) w.deeds (fewer_read g.0 (client_reads w.channels message ∷ w.deeds) (subst AreReadWell g.1 well))
part_well lines starves w p may well = unheard_well w (done starves w p) (unheard lines starves w p may (λ (hears : Hears p). hears)) well

-- ---- every world

fits_as : (s : SessionDevice) → DeviceFits s → IsFit s
fits_as (session.Drive s) fits = fits
fits_as (session.Printer s) fits = tt

-- devices that lines declare are fit
pub premises_fit : (lines : List NumberedLine) → RunPremises lines → AreFit (declared_devices (bare_lines lines))
premises_fit lines premises = go (declared_devices (bare_lines lines)) premises.bounded (declared_openable lines premises.declared).each
  where
    go : (es : List (ℕ × Declared)) → AllByRecursion (λ (e : ℕ × Declared). DeviceFits (e.1).state) es → AllByRecursion IsOpenable es → AreFit es
    go [] bounded openable = tt
    go (e ∷ es) bounded openable = ((fits_as (e.1).state bounded.0, (openable.0).quiet), go es bounded.1 openable.1)

module _ (lines : List NumberedLine) (starves : Key → Bool) (premises : RunPremises lines) where
  -- what a client read well until then it has the state of, and keeps
  pub behind_read_as : (w : WorldState) → IsBehind lines starves w → AreReadWell w.deeds → IsReadAs w
  behind_read_as =
      by_parts lines starves (λ w. AreReadWell w.deeds → IsReadAs w) (λ well. subst IsReadAs (sym (begun_by lines _ (lines_begin lines))) (refl, refl, refl))
      (λ w p before after may is well. step w p (behind_orderly lines starves w (premises_fit lines premises) before).0 may well (is (part_well lines starves w p may well)))
    where
      step : (w : WorldState) (p : Part) → Orderly w → MayBe lines starves w p → AreReadWell (done starves w p).deeds → IsReadAs w → IsReadAs (done starves w p)
      step w begins ordered may well is = begins_read_as w (ordered.unread (w.channels + 1) (omega arith)) is.2
      step w (client_hears_one message rest) ordered may well is = hears_read_as (record w { to_client = record w.to_client { part = []; taken = _; unhandled = rest } }) message well is
      step w p ordered may well is = unheard_as w (done starves w p) (unheard lines starves w p may (λ (hears : Hears p). hears)) is

-- ---- what is done stays done

pub part_grows : (lines : List NumberedLine) (starves : Key → Bool) (w : WorldState) (p : Part) → MayBe lines starves w p → (more : List Deed) × ((done starves w p).deeds ≡ more ++ w.deeds)
part_grows lines starves w begins may =
    (host_begins (w.channels + 1) ∷ [], ap (λ (x : WorldState). (begun_on w x).deeds) (all_refreshed (map (λ (e : ℕ × PrinterNames). e.0) w.printers) w))
part_grows lines starves w (client_hears_one message rest) may =
    let x : WorldState = record w { to_client = record w.to_client { part = []; taken = _; unhandled = rest } } in
    let g = hears_grows x message in
    (g.0 ++ client_reads w.channels message ∷ [], g.1 ∙ sym (append_assoc g.0 (client_reads w.channels message ∷ []) w.deeds))
part_grows lines starves w p may = let u = unheard lines starves w p may (λ (hears : Hears p). hears) in (u.more, u.deeds)

-- the client became ready by a message that asks for nothing
pub ready_by : (c : ClientCoreState) (m : List ℕ) → is_client_ready (c.core).shake ≡ false → is_client_ready (((client_hear c m).0).core).shake ≡ true → (client_hear c m).1 ≡ Ok Nothing
ready_by c m was is = by (c.core).fault refl
  where
    meaning : (s : Meaning ClientState HostSays) → is_client_ready (((made c s).0).core).shake ≡ true → (made c s).1 ≡ Ok Nothing
    meaning (wrong fault) ready = absurd (cc (was, ready))
    meaning nothing ready = refl
    meaning (opens row) ready = refl
    meaning (says (client.requests r)) ready = absurd (cc (was, ready))
    meaning (says (client.replies r)) ready = refl
    meaning (says (client.notices n)) ready = absurd (cc (was, ready))

    by : (f : Option EndFault) → (c.core).fault ≡ f → (client_hear c m).1 ≡ Ok Nothing
    by (Some fault) e =
        let deaf : client_hear c m ≡ (c, Err fault) = rw e refl in
        let ready : is_client_ready (c.core).shake ≡ true = sym (ap (λ (r : ClientCoreState × Result Heard EndFault). is_client_ready ((r.0).core).shake) deaf) ∙ is in
        absurd (cc (was, ready))
    by None e =
        let heard = listening c m e in
        ap (λ (r : ClientCoreState × Result Heard EndFault). r.1) heard
        ∙ meaning (said client_side (c.core).shake m) (sym (ap (λ (r : ClientCoreState × Result Heard EndFault). is_client_ready ((r.0).core).shake) heard) ∙ is)
