-- In each world that lines come to, all that was written is of a message's size, where what devices complete is.
use Rattle.std.proofs.Common.{◌≡◌, ◌∙◌, refl, sym, subst, ℕ, ◌+◌, Bool, true, false, List, [], ◌∷◌, ◌++◌, map, fold, Some, None, Option, Result, Ok, Err, All, append-nil}
use Rattle.std.specs.Prelude.{if◌then◌else◌}
use Rattle.std.specs.List.{AllByRecursion, cons_option}
use Rattle.std.specs.Map.{lookup}
use Rattle.std.specs.Ordering.{nat_cmp}
use Rattle.std.specs.BTreeMap.{is_at}
use Rattle.std.specs.Option.{IfSome, option_map, option_map_or}
use Rattle.std.proofs.lemmas.List.Elements.{All-head, All-nil}
use Rattle.rd_base.specs.declared.journal.Key.{Key}
use Rattle.rd_base.specs.Statuses as status
use Rattle.rd_base.specs.Statuses.{no_such_device}
use Rattle.rd_chunk.specs.Carrier.{IsMessage}
use Rattle.rd_client.specs.Core as client
use Rattle.rd_client.specs.Core.{ClientCoreState, Outgoing, announces, client_begin, client_hear, listed, new_client}
use Rattle.rd_client.specs.declared.heard.Heard.{Heard}
use Rattle.rd_client.specs.declared.heard.Heard.TheVariants.{Nothing, Ask, Print}
use Rattle.rd_core.proofs.KeptLemmas.{kept_message, kept_new, kept_send}
use Rattle.rd_devices.specs.declared.list.Announce.{Announce}
use Rattle.rd_drive.specs.declared.plan.Job.{Job}
use Rattle.rd_hello.specs.declared.client.ClientState.{ClientState}
use Rattle.rd_hello.specs.declared.client.ClientState.TheVariants as client_state
use Rattle.rd_hello.specs.declared.end_fault.EndFault.{EndFault}
use Rattle.rd_hello.specs.declared.host.HostState.TheVariants as host_state
use Rattle.rd_host.specs.Core as host
use Rattle.rd_host.specs.Core.{HostCoreState, IsHostKept, as_it_is, host_begin}
use Rattle.rd_host.proofs.KeptLemmas.{host_kept}
use Rattle.rd_script.specs.declared.line.NumberedLine.{NumberedLine}
use Rattle.rd_runs.specs.Moves.{Reached}
use Rattle.rd_station.specs.declared.answers.Completion.{Completion}
use Rattle.rd_station.specs.declared.refusals.PutWhy.{PutWhy}
use Rattle.rd_station.specs.declared.refusals.PutWhy.TheVariants as why
use Rattle.rd_station.specs.Station as station
use Rattle.rd_station.specs.Station.{StationState}
use Rattle.rd_runs.proofs.BeginningLemmas.{Unset, begins_as, unset}
use Rattle.rd_runs.proofs.Carrying.{AreFit, IsFit}
use Rattle.rd_runs.proofs.HostLemmas.{IsHostOf}
use Rattle.rd_runs.proofs.Insides.{AreOwn, IsInside, Outside, added_inside, all_dropped_inside, all_refreshed_inside, applied_inside, hears_inside, put_inside, removed_inside, stationed}
use Rattle.rd_runs.proofs.KeysOn.{all_dropped_client}
use Rattle.rd_runs.proofs.Parts.{MayBe, Part, accepts, adds_one, announced_by, applies_one, begins, client_gets, client_hears_one, client_keeps_part, client_sends_one, collects_one, cut_by, done, draws_one, ends, hands_out, host_gets, host_hears_one, host_keeps_part, host_sends_one, idle_one, queues_one, refreshed_by, refuses, removes_one, takes_one, tells_one, told_added, told_removed, tries_one}
use Rattle.rd_runs.proofs.SizeLemmas.{ClientFits, added_fits, begun_fits, data_few, direct_fits, emptied_fits, heard_fits, refreshed_fits, removed_fits, sent_fits, side_heard_kept}
use Rattle.rd_runs.proofs.Standing.{AreTellable, Stands}
use Rattle.rd_world.proofs.OpenedLemmas.{opens_all}
use Rattle.rd_declared.proofs.DeclaringLemmas.{declared_openable}
use Rattle.rd_world.proofs.ShortLemmas.{announces_first}
use Rattle.rd_deeds.proofs.Written.{sound_side}
use Rattle.rd_declared.specs.declared.device.SessionDevice.{SessionDevice}
use Rattle.rd_declared.specs.Devices.{Declared, PrinterNames, announce_of, printer_data}
use Rattle.rd_world.specs.Events.{completion_message, deed_on, dropping, refreshing}
use Rattle.rd_world.specs.Hearing.{after_opening, announcing, client_hears, heard_by_client, is_device_told, put_at, put_by, putting, refused_put, with_client}
use Rattle.rd_deeds.specs.Host.{HostSide, next_message, sent_from, side_sends}
use Rattle.rd_declared.specs.Declaring.{AreDeclared, AreOpenable, IsOpenable, bare_lines, declared_devices}
use Rattle.rd_world.specs.Opening.{AreShort}
use Rattle.rd_declared.specs.Printers.{AreShortNames}
use Rattle.rd_world.specs.Recording.{client_id}
use Rattle.rd_world.specs.Run.{printers_of, station_of, world_of}
use Rattle.rd_deeds.specs.Talk.{Deed, adds, client_reads, client_writes, completes, removes, stores}
use Rattle.rd_world.specs.World.{WorldState, station_at, with_deed, with_station}

abbrev AreShortPrinters : List (ℕ × PrinterNames) → Type 0
AreShortPrinters printers = AllByRecursion (λ (e : ℕ × PrinterNames). AreShortNames e.1) printers

pub record FitsAs (w : Unset) : Type 0 where
  pub deeds : AreFit w.deeds
  pub host : IsHostKept (w.side).core
  pub ends : ClientFits w.client
  pub names : AreShortPrinters w.printers

abbrev pub Fits : WorldState → Type 0
Fits w = FitsAs (unset w)

-- ---- what is written next

next_fits : (s : HostSide) (c : ℕ) (deeds : List Deed) (m : List ℕ) → IsHostOf s c deeds → IsHostKept s.core → next_message s ≡ Some m → IsMessage m
next_fits s c deeds m h kept next = own ((s.core).core).outbox refl
  where
    requests : All IsMessage (s.table).outbox
    requests = subst (λ (x : HostSide). All IsMessage (x.table).outbox) h.is (sound_side client_id deeds h.may).slots.messages

    table : (o : List (List ℕ)) → (s.table).outbox ≡ o → ((s.core).core).outbox ≡ [] → IsMessage m
    table [] is none = let nothing : next_message s ≡ None = rw (none, is) refl in absurd (cc (nothing, next))
    table (x ∷ xs) is none =
        let first : next_message s ≡ Some x = rw (none, is) refl in
        let same : x ≡ m = cc (first, next) in
        subst IsMessage same (All-head IsMessage x xs (subst (All IsMessage) is requests))

    own : (o : List (List ℕ)) → ((s.core).core).outbox ≡ o → IsMessage m
    own [] is = table (s.table).outbox refl is
    own (x ∷ xs) is =
        let first : next_message s ≡ Some x = rw is refl in
        let same : x ≡ m = cc (first, next) in
        subst IsMessage same (All-head IsMessage x xs (subst (All IsMessage) is kept.fit))

sent_kept : (s : HostSide) → IsHostKept s.core → IsHostKept (side_sends s).core
sent_kept s kept = by ((s.core).core).outbox
  where
    by : (o : List (List ℕ)) → IsHostKept (sent_from s o).core
    by [] = kept
    by (m ∷ ms) = kept_send as_it_is (s.core).core kept

-- ---- what a client does by itself

own_fit : (more deeds : List Deed) → AreOwn more → AreFit deeds → AreFit (more ++ deeds)
own_fit [] deeds own fit = fit
own_fit (stores device item ∷ more) deeds own fit = (tt, own_fit more deeds own.1 fit)
own_fit (removes device ∷ more) deeds own fit = (tt, own_fit more deeds own.1 fit)
own_fit (adds device ∷ more) deeds own fit = (tt, own_fit more deeds own.1 fit)
own_fit (deed ∷ more) deeds own fit = absurd own.0

inside_fits : (w v : WorldState) → IsInside w v → Fits w → ClientFits v.client → Fits v
inside_fits w v i f clt = record {
  deeds = subst AreFit (sym i.deeds) (own_fit i.more w.deeds i.own f.deeds);
  host = subst (λ (o : Outside). IsHostKept (o.side).core) (sym i.same) f.host;
  ends = clt;
  names = subst (λ (o : Outside). AreShortPrinters o.printers) (sym i.same) f.names;
}

announced_client : (w : WorldState) (d : ℕ) (o : Option (StationState SessionDevice)) → (announced_by w d o).client ≡ w.client
announced_client w d None = refl
announced_client w d (Some s) = refl

all_announced_client : (devices : List Announce) (w : WorldState) → (fold (λ x (a : Announce). announcing x a.id) w devices).client ≡ w.client
all_announced_client [] w = refl
all_announced_client (a ∷ devices) w = all_announced_client devices (announcing w a.id) ∙ announced_client w a.id (station_at w a.id)

cut_client : (w : WorldState) (d : ℕ) (o : Option (StationState SessionDevice)) → (cut_by w d o).client ≡ w.client
cut_client w d None = refl
cut_client w d (Some s) = refl

put_client : (w : WorldState) (d : ℕ) (job : Job) → ClientFits w.client → ClientFits (putting w d job).client
put_client w d job f = at (station_at w d)
  where
    refused : (cause : PutWhy) → ClientFits (refused_put w d job cause).client
    refused why.Gone = direct_fits w.client f job d (if is_device_told w d then status.insufficient_resources else no_such_device)
    refused (why.Full held) = f
    refused (why.Worn count) = direct_fits w.client f job d status.insufficient_resources
    refused (why.Duplicate key) = f
    refused why.Memory = f

    by : (r : StationState SessionDevice × Option PutWhy) → ClientFits (put_by w d job r).client
    by (s, None) = f
    by (s, Some cause) = refused cause

    at : (o : Option (StationState SessionDevice)) → ClientFits (put_at w d job o).client
    at None = direct_fits w.client f job d no_such_device
    at (Some s) = by (station.put s job)

opening_client : (shake : ClientState) (w : WorldState) → ClientFits w.client → ClientFits (after_opening shake w).client
opening_client shake w f = by (client.becomes_ready shake ((w.client).core).shake)
  where
    by : (b : Bool) → ClientFits (if b then fold (λ x (a : Announce). announcing x a.id) w (listed w.client) else w).client
    by true = subst ClientFits (sym (all_announced_client (listed w.client) w)) f
    by false = f

heard_client : (shake : ClientState) (w : WorldState) (r : Result Heard EndFault) → ClientFits w.client → ClientFits (heard_by_client shake w r).client
heard_client shake w (Err fault) f = f
heard_client shake w (Ok Nothing) f = opening_client shake w f
heard_client shake w (Ok (Ask d job)) f = put_client w d job f
heard_client shake w (Ok (Print n)) f = f

hears_client : (w : WorldState) (m : List ℕ) → ClientFits w.client → ClientFits (client_hears w m).client
hears_client w m f =
    let heard = client_hear w.client m in
    heard_client ((w.client).core).shake (with_deed (with_client w heard.0) (client_reads w.channels m)) heard.1 (heard_fits w.client f m)

found_short : (printers : List (ℕ × PrinterNames)) (d : ℕ) → AreShortPrinters printers → IfSome (lookup (is_at (nat_cmp d)) printers) AreShortNames
found_short [] d all = tt
found_short (e ∷ printers) d all = by (is_at (nat_cmp d) e.0) (found_short printers d all.1)
  where
    by : (b : Bool) → IfSome (lookup (is_at (nat_cmp d)) printers) AreShortNames → IfSome (if b then Some e.1 else lookup (is_at (nat_cmp d)) printers) AreShortNames
    by true later = all.0
    by false later = later

refreshed_client : (w : WorldState) (d : ℕ) (o : Option PrinterNames) → IfSome o AreShortNames → ClientFits w.client → ClientFits (refreshed_by w d o).client
refreshed_client w d None short f = f
refreshed_client w d (Some names) short f = refreshed_fits w.client f d (printer_data w.cache names) (data_few w.cache names short)

all_refreshed_client : (devices : List ℕ) (w : WorldState) → AreShortPrinters w.printers → ClientFits w.client → ClientFits (fold refreshing w devices).client
all_refreshed_client [] w short f = f
all_refreshed_client (d ∷ devices) w short f =
    let o : Option PrinterNames = lookup (is_at (nat_cmp d)) w.printers in
    all_refreshed_client devices (refreshing w d) (same o) (refreshed_client w d o (found_short w.printers d short) f)
  where
    same : (o : Option PrinterNames) → AreShortPrinters (refreshed_by w d o).printers
    same None = short
    same (Some names) = short

-- ---- the beginning

short_printers : (devices : List (ℕ × Declared)) → AllByRecursion IsOpenable devices → AreShortPrinters (printers_of devices)
short_printers [] all = tt
short_printers (e ∷ devices) all = by (e.1).printer (all.0).names (short_printers devices all.1)
  where
    by : (o : Option PrinterNames) → IfSome o AreShortNames → AreShortPrinters (printers_of devices) → AreShortPrinters (cons_option (option_map (λ names. (e.0, names)) o) (printers_of devices))
    by None short later = later
    by (Some names) short later = (short, later)

first_client : (devices : List (ℕ × Declared)) → AreOpenable devices → ClientFits (new_client (map (λ (e : ℕ × Declared). announce_of [] e.1) devices))
first_client devices are =
    let list : List Announce = map (λ (e : ℕ × Declared). announce_of [] e.1) devices in
    let opened = opens_all devices (map station_of devices) list (printers_of devices) are (record {
      stations_are = append-nil (map station_of devices);
      announced_are = append-nil list;
      printers_are = append-nil (printers_of devices);
      rest = tt;
    }) in
    record {
      kept = record { core = kept_new (λ (o : Outgoing). o.message) client_state.Start; devices = subst client.AreDevices (sym (announces_first list)) opened.are_devices };
      short = subst AreShort (sym (announces_first list)) opened.short;
    }

-- Each completion that can be collected in a world that lines come to is of a message's size.
abbrev pub AreCompletionsFit : List NumberedLine → (Key → Bool) → Type 0
AreCompletionsFit lines starves =
    (w : WorldState) → Reached lines starves w → (device : ℕ) (s after : StationState SessionDevice) (c : Completion) → station_at w device ≡ Some s → station.collect s ≡ (after, Some c)
    → IsMessage (completion_message device c)

module _ (lines : List NumberedLine) (starves : Key → Bool) (told : AreTellable lines) (declared : AreDeclared lines) (completions : AreCompletionsFit lines starves) where
  pub fits_first : Fits (world_of lines)
  fits_first =
      let devices : List (ℕ × Declared) = declared_devices (bare_lines lines) in
      let are : AreOpenable devices = declared_openable lines declared in
      begins_as lines FitsAs (record { deeds = tt; host = kept_new as_it_is host_state.Start; ends = first_client devices are; names = short_printers devices are.each })

  pub fits_step : (w : WorldState) (p : Part) → Stands w → MayBe lines starves w p → Fits w → Fits (done starves w p)
  fits_step w (accepts a asked named t number) stand may f = record { deeds = (tt, f.deeds); host = f.host; ends = f.ends; names = f.names }
  fits_step w (refuses a asked cause) stand may f = record { deeds = f.deeds; host = f.host; ends = f.ends; names = f.names }
  fits_step w (hands_out a number t taken None) stand may f = record { deeds = (tt, f.deeds); host = f.host; ends = f.ends; names = f.names }
  fits_step w (hands_out a number t taken (Some asked)) stand may f = record { deeds = (tt, f.deeds); host = f.host; ends = f.ends; names = f.names }
  fits_step w (host_sends_one message) stand next f = record {
    deeds = (next_fits w.side w.channels w.deeds message stand.host f.host next, f.deeds);
    host = sent_kept w.side f.host;
    ends = f.ends;
    names = f.names;
  }
  fits_step w (host_gets n) stand may f = record { deeds = f.deeds; host = f.host; ends = f.ends; names = f.names }
  fits_step w host_keeps_part stand may f = record { deeds = f.deeds; host = f.host; ends = f.ends; names = f.names }
  fits_step w (host_hears_one message rest) stand may f = record { deeds = (tt, f.deeds); host = side_heard_kept w.side message f.host; ends = f.ends; names = f.names }
  fits_step w (tells_one n) stand ((l, has, says), can) f =
      record { deeds = (tt, f.deeds); host = kept_message as_it_is ((w.side).core).core _ f.host (told l n has says).fit; ends = f.ends; names = f.names }
  fits_step w begins stand may f =
      let devices : List ℕ = map (λ (e : ℕ × PrinterNames). e.0) w.printers in
      let fresh : WorldState = fold refreshing w devices in
      let clt = all_refreshed_client devices w f.names f.ends in
      let g : Fits fresh = inside_fits w fresh (all_refreshed_inside devices w) f clt in
      record {
        deeds = (tt, g.deeds);
        host = host_kept (w.side).core (host_begin (w.side).core) (host.begins (Ok tt)) f.host refl;
        ends = begun_fits fresh.client clt (w.channels + 1);
        names = g.names;
      }
  fits_step w ends stand may f =
      let devices : List ℕ = map (λ (e : ℕ × StationState SessionDevice). e.0) w.stations in
      let cut : WorldState = fold dropping w devices in
      let clt = subst ClientFits (sym (all_dropped_client devices w)) f.ends in
      let g : Fits cut = inside_fits w cut (all_dropped_inside devices w) f clt in
      record {
        deeds = (tt, g.deeds);
        host = record { fit = All-nil (λ (m : List ℕ). IsMessage m); wrong = g.host.wrong };
        ends = emptied_fits cut.client clt;
        names = g.names;
      }
  fits_step w (client_sends_one after o) stand made f =
      let sent = sent_fits w.client f.ends after o made in
      record { deeds = (written_on w.channels o sent.0, f.deeds); host = f.host; ends = sent.1; names = f.names }
    where
      written_on : (channel : ℕ) (o : Outgoing) → IsMessage o.message → IsFit (deed_on channel o)
      written_on channel o fits = by o.answers
        where
          by : (a : Option Key) → IsFit (option_map_or (λ key. completes key o.message) a (client_writes channel o.message))
          by None = fits
          by (Some key) = fits
  fits_step w (client_gets n) stand may f = record { deeds = f.deeds; host = f.host; ends = f.ends; names = f.names }
  fits_step w client_keeps_part stand may f = record { deeds = f.deeds; host = f.host; ends = f.ends; names = f.names }
  fits_step w (client_hears_one message rest) stand may f =
      let x : WorldState = record w { to_client = record w.to_client { part = []; taken = _; unhandled = rest } } in
      inside_fits (with_deed x (client_reads w.channels message)) (done starves w (client_hears_one message rest)) (hears_inside x message)
      (record { deeds = (tt, f.deeds); host = f.host; ends = f.ends; names = f.names }) (hears_client x message f.ends)
  fits_step w (tries_one k) stand may f =
      let x : WorldState = record w { kept = None } in
      inside_fits x (done starves w (tries_one k)) (put_inside x k.device k.job) (record { deeds = f.deeds; host = f.host; ends = f.ends; names = f.names }) (put_client x k.device k.job f.ends)
  fits_step w (collects_one device s after c) stand (reached, quiet, there, made) f =
      let y : WorldState = with_station w device after in
      let g : Fits y = inside_fits w y (stationed w device after) f f.ends in
      record { deeds = (completions w reached device s after c there made, g.deeds); host = g.host; ends = g.ends; names = g.names }
  fits_step w (takes_one device hand s after job) stand may f =
      let y : WorldState = with_station w device after in
      let g : Fits y = inside_fits w y (stationed w device after) f f.ends in
      record { deeds = g.deeds; host = g.host; ends = g.ends; names = g.names }
  fits_step w (applies_one hand device job None) stand may f = record { deeds = f.deeds; host = f.host; ends = f.ends; names = f.names }
  fits_step w (applies_one hand device job (Some s)) stand may f =
      inside_fits w (done starves w (applies_one hand device job (Some s))) (applied_inside starves w hand device job (Some s)) f f.ends
  fits_step w (removes_one device o) stand may f =
      inside_fits w (done starves w (removes_one device o)) (removed_inside w device o) f
      (subst ClientFits (sym (cut_client (told_removed w device) device o)) (removed_fits w.client f.ends device))
  fits_step w (adds_one device names o) stand (can, printer, there) f =
      let fresh : WorldState = refreshed_by w device names in
      let clt = refreshed_client w device names (subst (λ (o : Option PrinterNames). IfSome o AreShortNames) printer (found_short w.printers device f.names)) f.ends in
      inside_fits w (done starves w (adds_one device names o)) (added_inside w device names o) f
      (subst ClientFits (sym (announced_client (told_added fresh device) device o)) (added_fits fresh.client clt device))
  fits_step w (queues_one a) stand may f = record { deeds = f.deeds; host = f.host; ends = f.ends; names = f.names }
  fits_step w (idle_one number) stand may f = record { deeds = f.deeds; host = f.host; ends = f.ends; names = f.names }
  fits_step w draws_one stand may f = record { deeds = f.deeds; host = f.host; ends = f.ends; names = f.names }
