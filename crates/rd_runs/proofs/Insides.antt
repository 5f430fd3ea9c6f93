-- What a client does by itself: it leaves the host, the ways and the applications as they are.
use Rattle.std.proofs.Common.{◌≡◌, ◌∙◌, refl, sym, ap, ℕ, Bool, true, false, List, [], ◌∷◌, ◌++◌, length, map, reverse, drop, fold, Some, None, Option, Result, Ok, Err, append_assoc}
use Rattle.std.specs.Prelude.{if◌then◌else◌}
use Rattle.std.specs.Map.{lookup}
use Rattle.std.specs.Ordering.{nat_cmp}
use Rattle.std.specs.BTreeMap.{is_at}
use Rattle.std.specs.Option.{option_map_or}
use Rattle.rd_base.specs.declared.journal.Item.{Item}
use Rattle.rd_base.specs.declared.journal.Key.{Key}
use Rattle.rd_client.specs.Core as client
use Rattle.rd_client.specs.Core.{client_hear, listed}
use Rattle.rd_client.specs.declared.heard.Heard.{Heard}
use Rattle.rd_client.specs.declared.heard.Heard.TheVariants.{Nothing, Ask, Print}
use Rattle.rd_devices.specs.declared.list.Announce.{Announce}
use Rattle.rd_drive.specs.declared.plan.Job.{Job}
use Rattle.rd_hello.specs.declared.client.ClientState.{ClientState}
use Rattle.rd_hello.specs.declared.end_fault.EndFault.{EndFault}
use Rattle.rd_station.specs.declared.refusals.PutWhy.{PutWhy}
use Rattle.rd_station.specs.declared.refusals.PutWhy.TheVariants as why
use Rattle.rd_station.specs.Station as station
use Rattle.rd_station.specs.Station.{StationState}
use Rattle.rd_declared.specs.declared.device.SessionDevice.{SessionDevice}
use Rattle.rd_declared.specs.Devices.{PrinterNames, device_cut, printer_data}
use Rattle.rd_world.specs.Events.{applies_at, came_of, dropping, refreshing}
use Rattle.rd_world.specs.Hearing.{after_opening, announcing, client_hears, heard_by_client, put_at, put_by, putting, refused_put, with_client}
use Rattle.rd_deeds.specs.Host.{HostSide}
use Rattle.rd_deeds.specs.Talk.{Deed, adds, client_reads, removes, stores}
use Rattle.rd_world.specs.World.{ApplicationState, WayState, WorldState, station_at, stored_beyond, with_deed, with_station}
use Rattle.rd_runs.proofs.Parts.{announced_by, cut_by, refreshed_by, told_added, told_removed}

-- ---- deeds that are no message

-- what a client stored, removed and added
abbrev pub IsOwn : Deed → Type 0
IsOwn (stores device item) = Unit {0}
IsOwn (removes device) = Unit {0}
IsOwn (adds device) = Unit {0}
IsOwn deed = ⊥

abbrev pub AreOwn : List Deed → Type 0
AreOwn [] = Unit {0}
AreOwn (deed ∷ deeds) = IsOwn deed × AreOwn deeds

own_more : (more deeds : List Deed) → AreOwn more → AreOwn deeds → AreOwn (more ++ deeds)
own_more [] deeds own others = others
own_more (deed ∷ more) deeds own others = (own.0, own_more more deeds own.1 others)

own_stores : (device : ℕ) (items : List Item) → AreOwn (map (stores device) items)
own_stores device [] = tt
own_stores device (item ∷ items) = (tt, own_stores device items)

-- ---- what is left as it is

pub record Outside : Type 0 where
  pub side : HostSide
  pub channels : ℕ
  pub to_client : WayState
  pub to_host : WayState
  pub applications : List (ℕ × ApplicationState)
  pub printers : List (ℕ × PrinterNames)

abbrev pub outside : WorldState → Outside
outside w = record { side = w.side; channels = w.channels; to_client = w.to_client; to_host = w.to_host; applications = w.applications; printers = w.printers }

-- The second world is what is left of the first by what a client did by itself.
pub record IsInside (w v : WorldState) : Type 0 where
  pub same : outside v ≡ outside w
  pub more : List Deed
  pub own : AreOwn more
  pub deeds : v.deeds ≡ more ++ w.deeds

pub inside_none : {w v : WorldState} → outside v ≡ outside w → v.deeds ≡ w.deeds → IsInside w v
inside_none same deeds = record { same = same; more = []; own = tt; deeds = deeds }

pub inside_one : {w v : WorldState} (deed : Deed) → IsOwn deed → outside v ≡ outside w → v.deeds ≡ deed ∷ w.deeds → IsInside w v
inside_one deed own same deeds = record { same = same; more = deed ∷ []; own = (own, tt); deeds = deeds }

-- by way of a third
pub inside_by : {w y : WorldState} (x : WorldState) → IsInside w x → IsInside x y → IsInside w y
inside_by {w} {y} x first second = record {
  same = second.same ∙ first.same;
  more = second.more ++ first.more;
  own = own_more second.more first.more second.own first.own;
  deeds = second.deeds ∙ ap (λ (ds : List Deed). second.more ++ ds) first.deeds ∙ sym (append_assoc second.more first.more w.deeds);
}

inside_option : {X : Type 0} (w : WorldState) (f : X → WorldState) (o : Option X) → ((x : X) → IsInside w (f x)) → IsInside w (option_map_or f o w)
inside_option w f None inside = inside_none refl refl
inside_option w f (Some x) inside = inside x

-- ---- stations and printers

pub stationed : (w : WorldState) (device : ℕ) (s : StationState SessionDevice) → IsInside w (with_station w device s)
stationed w device s =
    let count : ℕ = option_map_or (λ (old : StationState SessionDevice). length old.journal) (station_at w device) 0 in
    record { same = refl; more = stored_beyond count device s; own = own_stores device (reverse (drop count s.journal)); deeds = refl }

pub announced_inside : (w : WorldState) (device : ℕ) (o : Option (StationState SessionDevice)) → IsInside w (announced_by w device o)
announced_inside w device o = inside_option w (λ (s : StationState SessionDevice). with_station w device (station.announce s).0) o (λ s. stationed w device (station.announce s).0)

all_announced : (devices : List Announce) (w : WorldState) → IsInside w (fold (λ x (a : Announce). announcing x a.id) w devices)
all_announced [] w = inside_none refl refl
all_announced (a ∷ devices) w = inside_by (announcing w a.id) (announced_inside w a.id (station_at w a.id)) (all_announced devices (announcing w a.id))

pub cut_inside : (w : WorldState) (device : ℕ) (o : Option (StationState SessionDevice)) → IsInside w (cut_by w device o)
cut_inside w device o =
    inside_option w (λ (s : StationState SessionDevice). with_station w device (station.remove s (device_cut s.device).state).0) o
    (λ s. stationed w device (station.remove s (device_cut s.device).state).0)

dropped_inside : (w : WorldState) (device : ℕ) → IsInside w (dropping w device)
dropped_inside w device =
    inside_option w (λ (s : StationState SessionDevice). with_station w device (station.drop_channel s (device_cut s.device).state)) (station_at w device)
    (λ s. stationed w device (station.drop_channel s (device_cut s.device).state))

pub all_dropped_inside : (devices : List ℕ) (w : WorldState) → IsInside w (fold dropping w devices)
all_dropped_inside [] w = inside_none refl refl
all_dropped_inside (device ∷ devices) w = inside_by (dropping w device) (dropped_inside w device) (all_dropped_inside devices (dropping w device))

pub refreshed_inside : (w : WorldState) (device : ℕ) (o : Option PrinterNames) → IsInside w (refreshed_by w device o)
refreshed_inside w device o =
    inside_option w (λ (n : PrinterNames). with_client w (client.refresh w.client device (printer_data w.cache n))) o (λ n. inside_none refl refl)

pub all_refreshed_inside : (devices : List ℕ) (w : WorldState) → IsInside w (fold refreshing w devices)
all_refreshed_inside [] w = inside_none refl refl
all_refreshed_inside (device ∷ devices) w =
    inside_by (refreshing w device) (refreshed_inside w device (lookup (is_at (nat_cmp device)) w.printers)) (all_refreshed_inside devices (refreshing w device))

pub removed_inside : (w : WorldState) (device : ℕ) (o : Option (StationState SessionDevice)) → IsInside w (cut_by (told_removed w device) device o)
removed_inside w device o = inside_by (told_removed w device) (inside_one (removes device) tt refl refl) (cut_inside (told_removed w device) device o)

pub added_inside : (w : WorldState) (device : ℕ) (names : Option PrinterNames) (o : Option (StationState SessionDevice))
    → IsInside w (announced_by (told_added (refreshed_by w device names) device) device o)
added_inside w device names o =
    let fresh : WorldState = refreshed_by w device names in
    inside_by fresh (refreshed_inside w device names)
    (inside_by (told_added fresh device) (inside_one (adds device) tt refl refl) (announced_inside (told_added fresh device) device o))

-- ---- jobs

refused_inside : (w : WorldState) (device : ℕ) (job : Job) (cause : PutWhy) → IsInside w (refused_put w device job cause)
refused_inside w device job why.Gone = inside_none refl refl
refused_inside w device job (why.Full held) = inside_none refl refl
refused_inside w device job (why.Worn count) = inside_none refl refl
refused_inside w device job (why.Duplicate key) = inside_none refl refl
refused_inside w device job why.Memory = inside_none refl refl

pub put_inside : (w : WorldState) (device : ℕ) (job : Job) → IsInside w (putting w device job)
put_inside w device job = at (station_at w device)
  where
    by : (r : StationState SessionDevice × Option PutWhy) → IsInside w (put_by w device job r)
    by (s, None) = stationed w device s
    by (s, Some cause) = refused_inside w device job cause

    at : (o : Option (StationState SessionDevice)) → IsInside w (put_at w device job o)
    at None = inside_none refl refl
    at (Some s) = by (station.put s job)

pub applied_inside : (starves : Key → Bool) (w : WorldState) (hand device : ℕ) (job : Job) (o : Option (StationState SessionDevice)) → IsInside w (applies_at starves w hand device job o)
applied_inside starves w hand device job None = inside_none refl refl
applied_inside starves w hand device job (Some s) =
    let x : WorldState = with_station w device (station.apply s job w.moment (came_of starves w job s.device)).0 in
    inside_by x (stationed w device (station.apply s job w.moment (came_of starves w job s.device)).0) (inside_none refl refl)

-- ---- what a client hears

opened_inside : (shake : ClientState) (w : WorldState) → IsInside w (after_opening shake w)
opened_inside shake w = by (client.becomes_ready shake ((w.client).core).shake)
  where
    by : (b : Bool) → IsInside w (if b then fold (λ x (a : Announce). announcing x a.id) w (listed w.client) else w)
    by true = all_announced (listed w.client) w
    by false = inside_none refl refl

heard_inside : (shake : ClientState) (w : WorldState) (r : Result Heard EndFault) → IsInside w (heard_by_client shake w r)
heard_inside shake w (Err fault) = inside_none refl refl
heard_inside shake w (Ok Nothing) = opened_inside shake w
heard_inside shake w (Ok (Ask device job)) = put_inside w device job
heard_inside shake w (Ok (Print n)) = inside_none refl refl

-- it reads a message, and then does something by itself
pub hears_inside : (w : WorldState) (message : List ℕ) → IsInside (with_deed w (client_reads w.channels message)) (client_hears w message)
hears_inside w message =
    let heard = client_hear w.client message in
    inside_by (with_deed (with_client w heard.0) (client_reads w.channels message)) (inside_none refl refl)
    (heard_inside ((w.client).core).shake (with_deed (with_client w heard.0) (client_reads w.channels message)) heard.1)
