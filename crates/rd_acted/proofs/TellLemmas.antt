-- What a client told and what waits to be told say, in order, what is due on each channel.
use Rattle.std.proofs.Common.{◌≡◌, ◌⊎◌, ◌∙◌, refl, sym, ap, subst, inl, inr, ℕ, ◌+◌, ◌<◌, ◌==◌, Bool, true, false, arith, eq-eqb, eqb-true, List, [], ◌∷◌, ◌++◌, length, map, fold, Some, None, Option, append-nil, append_assoc, length-append}
use Rattle.std.specs.Prelude.{filter, if◌then◌else◌}
use Rattle.std.specs.List.{AllByRecursion, AllZip, cons_option}
use Rattle.std.specs.Option.{IfSome, option_map_or}
use Rattle.std.proofs.lemmas.List.Elements.{filter-append}
use Rattle.std.proofs.lemmas.List.{map-append}
use Rattle.rd_base.specs.declared.journal.Key.{Key}
use Rattle.rd_base.specs.declared.packet.Packet.TheVariants as packet
use Rattle.rd_client.specs.Core as client
use Rattle.rd_client.specs.Core.{ClientCoreState, ClientDevice, Outgoing, client_begin, client_hear, device_marked, listed, listed_one, plain}
use Rattle.rd_client.specs.Order.{is_client_ready}
use Rattle.rd_rest.proofs.ControlsUnseen.{client_ready}
use Rattle.rd_core.specs.Core.{CoreState}
use Rattle.rd_devices.specs.DeviceList.{list_bytes}
use Rattle.rd_devices.specs.Removal.{removal_bytes}
use Rattle.rd_drive.proofs.AllLemmas.{all_append}
use Rattle.rd_hello.specs.declared.client.ClientState.{ClientState}
use Rattle.rd_rest.proofs.JournalsChannelLemmas.{all_refreshed, begun_on}
use Rattle.rd_printer.specs.Cache.{CacheState}
use Rattle.rd_rest.proofs.RunsParts.{IsBehind, MayBe, Part, adds_one, announced_by, begins, by_parts, client_hears_one, client_sends_one, done, ends, refreshed_by, removes_one, told_added, told_removed}
use Rattle.rd_rest.proofs.RunsReaching.{both}
use Rattle.rd_rest.proofs.RunsStanding.{Stands, needs_open}
use Rattle.rd_rest.proofs.RunsTogether.{knows}
use Rattle.rd_rest.specs.RunsPremises.{RunPremises}
use Rattle.rd_script.specs.declared.line.NumberedLine.{NumberedLine}
use Rattle.rd_station.specs.Station as station
use Rattle.rd_station.specs.Station.{StationState}
use Rattle.rd_world.proofs.BeginningLemmas.{begun_by}
use Rattle.rd_deeds.proofs.Messages.{packet_is, written_packet}
use Rattle.rd_declared.proofs.DeclaringLemmas.{declared_openable}
use Rattle.rd_world.proofs.OpeningLemmas.{lines_begin}
use Rattle.rd_world.specs.Acts.{Tells, cache_after, is_add, is_telling, list_of, tellings_on}
use Rattle.rd_world.specs.Control.{Telling, addition, lists, removal}
use Rattle.rd_declared.specs.Devices.{Declared, PrinterNames, device_cut, printer_data}
use Rattle.rd_world.specs.Events.{connects, cutting, deed_on, dropping, is_channel_open, is_ready, refreshing}
use Rattle.rd_world.specs.Hearing.{client_hears, with_client}
use Rattle.rd_declared.specs.Declaring.{bare_lines, declared_devices}
use Rattle.rd_world.specs.Run.{world_of}
use Rattle.rd_deeds.specs.Talk.{Deed, adds, client_reads, client_writes, completes, host_begins, host_ends, is_open_at, is_removed, open_channel, removes, until_begin}
use Rattle.rd_world.specs.World.{WorldState, client_sends, with_station}
use Rattle.rd_declared.specs.declared.device.SessionDevice.{SessionDevice}
use Rattle.rd_acted.proofs.DataLemmas.{HasBody, IsShaped, added_shaped, fresh_all, fresh_one, removed_shaped, shaped_more, zip_as, zip_map}
use Rattle.rd_acted.proofs.ListLemmas.{first_list, first_shaped, one_list}
use Rattle.rd_acted.proofs.PassingLemmas.{Left, all_dropped_unspoken, left_unspoken, quiet_unspoken}
use Rattle.rd_acted.proofs.QuietLemmas.{AreUntold, HearsTo, Unspoken, hears_to, hears_unspoken, option_unspoken, read_by, stationed_unspoken, unspoken_deeds}
use Rattle.rd_acted.proofs.ReadLemmas.{behind_read_as, part_well}
use Rattle.rd_acted.proofs.SayingLemmas.{completes_tell, say_as, say_both, say_fewer, say_more, say_none, writes_tell}
use Rattle.rd_acted.specs.Acted.{AreReadWell, SayFirst, due_on, there_of}
use Rattle.rd_acted.specs.Waiting.{tellings_waiting}

-- a message that answers a request tells nothing of devices
abbrev pub AnswersUntold : Outgoing → Type 0
AnswersUntold o = IfSome o.answers (λ (key : Key). is_telling o.message ≡ false)

-- the devices by their ids
abbrev pub ids_in : List (ℕ × Declared) → List ℕ
ids_in devices = map (λ (d : ℕ × Declared). d.0) devices

-- The client's devices are those that were declared, and while it isn't ready they have the data that was kept for them as the channel began. What it told on a channel says what was due there first. On the channel that began last that and what waits
-- does; all that is due there, while the channel is open and the client ready; and before it is ready it told nothing, and the first list is due.
pub record TellsAs (devices : List (ℕ × Declared)) (w : WorldState) : Type 0 where
  pub shaped : AllZip (IsShaped (ids_in devices) w.printers w.deeds) devices (w.client).devices
  pub bodies : open_channel w.deeds ≡ Some w.channels → client_ready w ≡ false → AllZip (HasBody (cache_after (until_begin w.channels w.deeds))) devices (w.client).devices
  pub each : (c : ℕ) → SayFirst (Tells devices w.deeds c) (tellings_on c w.deeds) (due_on (ids_in devices) c w.deeds)
  pub now : SayFirst (Tells devices w.deeds w.channels) (tellings_on w.channels w.deeds ++ tellings_waiting ((w.client).core).outbox) (due_on (ids_in devices) w.channels w.deeds)
  pub all : open_channel w.deeds ≡ Some w.channels → client_ready w ≡ true
      → length (tellings_on w.channels w.deeds ++ tellings_waiting ((w.client).core).outbox) ≡ length (due_on (ids_in devices) w.channels w.deeds)
  pub first : open_channel w.deeds ≡ Some w.channels → client_ready w ≡ false
      → (tellings_on w.channels w.deeds ++ tellings_waiting ((w.client).core).outbox ≡ []) × (due_on (ids_in devices) w.channels w.deeds ≡ lists (there_of (ids_in devices) w.deeds) ∷ [])
  pub above : (c : ℕ) → w.channels < c → due_on (ids_in devices) c w.deeds ≡ []
  pub answers : AllByRecursion AnswersUntold ((w.client).core).outbox

-- ---- what is told stays told

tells_later : (devices : List (ℕ × Declared)) (c : ℕ) (more old new : List Deed) → new ≡ more ++ old → until_begin c new ≡ until_begin c old → (t : Telling) (m : List ℕ) → Tells devices old c t m → Tells devices new c t m
tells_later devices c more old new is same (lists ids) m told = told ∙ sym (ap (λ (ds : List Deed). list_of devices (cache_after ds) ids) same)
tells_later devices c more old new is same (removal device) m told = told
tells_later devices c more old new is same (addition device count) m (since, before, parts, many, told) =
    (more ++ since, before, is ∙ ap (λ (ds : List Deed). more ++ ds) parts ∙ sym (append_assoc more since (adds device ∷ before)), many, told)

waiting_untold : (os more : List Outgoing) → AreUntold more → tellings_waiting (os ++ more) ≡ tellings_waiting os
waiting_untold os more untold =
    ap (filter is_telling) (map-append (λ (o : Outgoing). o.message) os more) ∙ filter-append is_telling (map (λ (o : Outgoing). o.message) os) (map (λ (o : Outgoing). o.message) more)
    ∙ ap (λ (ms : List (List ℕ)). tellings_waiting os ++ ms) (none more untold) ∙ append-nil (tellings_waiting os)
  where
    none : (xs : List Outgoing) → AreUntold xs → tellings_waiting xs ≡ []
    none [] all = refl
    none (x ∷ xs) all = rw (all.0) (none xs all.1)

waiting_told : (os : List Outgoing) (m : List ℕ) → is_telling m ≡ true → tellings_waiting (os ++ plain m ∷ []) ≡ tellings_waiting os ++ m ∷ []
waiting_told os m told =
    ap (filter is_telling) (map-append (λ (o : Outgoing). o.message) os (plain m ∷ [])) ∙ filter-append is_telling (map (λ (o : Outgoing). o.message) os) (m ∷ [])
    ∙ ap (λ (b : Bool). tellings_waiting os ++ (if b then m ∷ [] else [])) told

answers_untold : (os : List Outgoing) → AreUntold os → AllByRecursion AnswersUntold os
answers_untold [] all = tt
answers_untold (o ∷ os) all = (by o.answers, answers_untold os all.1)
  where
    by : (key : Option Key) → IfSome key (λ (k : Key). is_telling o.message ≡ false)
    by None = tt
    by (Some k) = all.0

unspoken_tells : (devices : List (ℕ × Declared)) (w v : WorldState) → Unspoken w v → TellsAs devices w → TellsAs devices v
unspoken_tells devices w v u t = record {
  shaped = subst (λ (ds : List ClientDevice). AllZip (IsShaped ids v.printers v.deeds) devices ds) (sym u.devices)
      (zip_as (IsShaped ids w.printers w.deeds) (IsShaped ids v.printers v.deeds)
      (λ d x own. subst (λ (ps : List (ℕ × PrinterNames)). IsShaped ids ps v.deeds d x) (sym u.printers) (shaped_more ids w.printers w.deeds v.deeds left.removed d x own)) devices (w.client).devices t.shaped);
  bodies = λ opened unready.
      subst (λ (ds : List ClientDevice). AllZip (HasBody (cache_after (until_begin v.channels v.deeds))) devices ds) (sym u.devices)
      (subst (λ (ds : List Deed). AllZip (HasBody (cache_after ds)) devices (w.client).devices) (sym until_same) (t.bodies (open_same opened) (sym u.ready ∙ unready)));
  each = λ c. later c (subst (λ (ms : List (List ℕ)). SayFirst (Tells devices w.deeds c) ms (due_on ids c v.deeds)) (sym (left.told c)) (subst (λ (ts : List Telling). SayFirst (Tells devices w.deeds c) (tellings_on c w.deeds) ts) (sym (left.due ids c)) (t.each c)));
  now = subst (λ (n : ℕ). SayFirst (Tells devices v.deeds n) (tellings_on n v.deeds ++ tellings_waiting ((v.client).core).outbox) (due_on ids n v.deeds)) (sym u.channels)
      (later_now (subst (λ (ms : List (List ℕ)). SayFirst (Tells devices w.deeds w.channels) ms (due_on ids w.channels v.deeds)) (sym now_same)
      (subst (λ (ts : List Telling). SayFirst (Tells devices w.deeds w.channels) (tellings_on w.channels w.deeds ++ tellings_waiting ((w.client).core).outbox) ts) (sym (left.due ids w.channels)) t.now)));
  all = λ opened ready. ap length now_at ∙ t.all (open_same opened) (sym u.ready ∙ ready) ∙ ap length (sym due_at);
  first = λ opened unready.
      let (none, due) = t.first (open_same opened) (sym u.ready ∙ unready) in
      (now_at ∙ none, due_at ∙ due ∙ ap (λ (xs : List ℕ). lists xs ∷ []) (sym there_same));
  above = λ c over. left.due ids c ∙ t.above c (subst (λ (n : ℕ). n < c) u.channels over);
  answers = subst (λ (os : List Outgoing). AllByRecursion AnswersUntold os) (sym u.outbox) (all_append AnswersUntold ((w.client).core).outbox u.others t.answers (answers_untold u.others u.untold));
}
  where
    ids : List ℕ
    ids = ids_in devices

    left : Left w.deeds v.deeds
    left = left_unspoken w v u

    until_same : until_begin v.channels v.deeds ≡ until_begin w.channels w.deeds
    until_same = ap (λ (n : ℕ). until_begin n v.deeds) u.channels ∙ left.begun w.channels

    open_same : open_channel v.deeds ≡ Some v.channels → open_channel w.deeds ≡ Some w.channels
    open_same opened = sym left.opened ∙ opened ∙ ap (λ (n : ℕ). Some n) u.channels

    later : (c : ℕ) → SayFirst (Tells devices w.deeds c) (tellings_on c v.deeds) (due_on ids c v.deeds) → SayFirst (Tells devices v.deeds c) (tellings_on c v.deeds) (due_on ids c v.deeds)
    later c is = say_as (Tells devices w.deeds c) (Tells devices v.deeds c) (tells_later devices c u.more w.deeds v.deeds u.deeds (left.begun c)) (tellings_on c v.deeds) (due_on ids c v.deeds) is

    now_same : tellings_on w.channels v.deeds ++ tellings_waiting ((v.client).core).outbox ≡ tellings_on w.channels w.deeds ++ tellings_waiting ((w.client).core).outbox
    now_same =
        ap (λ (ms : List (List ℕ)). ms ++ tellings_waiting ((v.client).core).outbox) (left.told w.channels)
        ∙ ap (λ (os : List Outgoing). tellings_on w.channels w.deeds ++ tellings_waiting os) u.outbox
        ∙ ap (λ (ms : List (List ℕ)). tellings_on w.channels w.deeds ++ ms) (waiting_untold ((w.client).core).outbox u.others u.untold)

    now_at : tellings_on v.channels v.deeds ++ tellings_waiting ((v.client).core).outbox ≡ tellings_on w.channels w.deeds ++ tellings_waiting ((w.client).core).outbox
    now_at = ap (λ (n : ℕ). tellings_on n v.deeds ++ tellings_waiting ((v.client).core).outbox) u.channels ∙ now_same

    due_at : due_on ids v.channels v.deeds ≡ due_on ids w.channels w.deeds
    due_at = ap (λ (n : ℕ). due_on ids n v.deeds) u.channels ∙ left.due ids w.channels

    later_now : SayFirst (Tells devices w.deeds w.channels) (tellings_on w.channels v.deeds ++ tellings_waiting ((v.client).core).outbox) (due_on ids w.channels v.deeds)
        → SayFirst (Tells devices v.deeds w.channels) (tellings_on w.channels v.deeds ++ tellings_waiting ((v.client).core).outbox) (due_on ids w.channels v.deeds)
    later_now is =
        say_as (Tells devices w.deeds w.channels) (Tells devices v.deeds w.channels) (tells_later devices w.channels u.more w.deeds v.deeds u.deeds (left.begun w.channels))
        (tellings_on w.channels v.deeds ++ tellings_waiting ((v.client).core).outbox) (due_on ids w.channels v.deeds) is

    there_same : there_of ids v.deeds ≡ there_of ids w.deeds
    there_same = go ids
      where
        go : (xs : List ℕ) → there_of xs v.deeds ≡ there_of xs w.deeds
        go [] = refl
        go (x ∷ xs) = rw (left.removed x, go xs) refl

-- ---- a message of its own is written

pub sent_is : (c d : ClientCoreState) (o : Outgoing) → client.client_send c ≡ (d, Some o) → (rest : List Outgoing) × ((c.core).outbox ≡ o ∷ rest) × (d ≡ record c { core = record c.core { outbox = rest } })
sent_is c d o made = by (c.core).outbox refl
  where
    by : (os : List Outgoing) → (c.core).outbox ≡ os → (rest : List Outgoing) × ((c.core).outbox ≡ o ∷ rest) × (d ≡ record c { core = record c.core { outbox = rest } })
    by [] e = let none : (client.client_send c).1 ≡ None = rw e refl in absurd (cc (none, ap (λ (r : ClientCoreState × Option Outgoing). r.1) made))
    by (x ∷ xs) e =
        let is : (client.client_send c).0 ≡ record c { core = record c.core { outbox = xs } } = rw e refl in
        let one : (client.client_send c).1 ≡ Some x = rw e refl in
        let same : Some x ≡ Some o = sym one ∙ ap (λ (r : ClientCoreState × Option Outgoing). r.1) made in
        let equal : x ≡ o = cc in
        (xs, e ∙ ap (λ (y : Outgoing). y ∷ xs) equal, sym (ap (λ (r : ClientCoreState × Option Outgoing). r.0) made) ∙ is)

-- by a deed that writes the message, and moves it from what waits to what was told
moved_tells : (devices : List (ℕ × Declared)) (w v : WorldState) (x : Deed) (o : Outgoing) (rest : List Outgoing) → v.deeds ≡ x ∷ w.deeds → ((w.client).core).outbox ≡ o ∷ rest → ((v.client).core).outbox ≡ rest
    → ((v.client).core).shake ≡ ((w.client).core).shake → (v.client).devices ≡ (w.client).devices → v.printers ≡ w.printers → v.channels ≡ w.channels
    → ((d : ℕ) → is_removed d (x ∷ w.deeds) ≡ is_removed d w.deeds) → ((c : ℕ) → until_begin c (x ∷ w.deeds) ≡ until_begin c w.deeds) → open_channel (x ∷ w.deeds) ≡ open_channel w.deeds
    → ((ids : List ℕ) (c : ℕ) → due_on ids c (x ∷ w.deeds) ≡ due_on ids c w.deeds)
    → ((c : ℕ) → (tellings_on c (x ∷ w.deeds) ≡ tellings_on c w.deeds) ⊎ ((c ≡ w.channels) × ((more : List (List ℕ)) × (tellings_on w.channels w.deeds ++ tellings_waiting ((w.client).core).outbox ≡ tellings_on c (x ∷ w.deeds) ++ more))))
    → tellings_on w.channels (x ∷ w.deeds) ++ tellings_waiting rest ≡ tellings_on w.channels w.deeds ++ tellings_waiting (o ∷ rest) → TellsAs devices w → TellsAs devices v
moved_tells devices w v x o rest deeds outbox left_over shake same_devices printers channels removed begun opened due told moved t = record {
  shaped = subst (λ (ds : List ClientDevice). AllZip (IsShaped ids v.printers v.deeds) devices ds) (sym same_devices)
      (zip_as (IsShaped ids w.printers w.deeds) (IsShaped ids v.printers v.deeds)
      (λ d y own. subst (λ (ps : List (ℕ × PrinterNames)). IsShaped ids ps v.deeds d y) (sym printers) (shaped_more ids w.printers w.deeds v.deeds (λ k. ap (is_removed k) deeds ∙ removed k) d y own)) devices (w.client).devices t.shaped);
  bodies = λ is_open unready.
      subst (λ (ds : List ClientDevice). AllZip (HasBody (cache_after (until_begin v.channels v.deeds))) devices ds) (sym same_devices)
      (subst (λ (ds : List Deed). AllZip (HasBody (cache_after ds)) devices (w.client).devices) (sym until_same) (t.bodies (open_same is_open) (sym ready_same ∙ unready)));
  each = λ c. subst (λ (ds : List Deed). SayFirst (Tells devices ds c) (tellings_on c ds) (due_on ids c ds)) (sym deeds) (each_one c);
  now = subst (λ (n : ℕ). SayFirst (Tells devices v.deeds n) (tellings_on n v.deeds ++ tellings_waiting ((v.client).core).outbox) (due_on ids n v.deeds)) (sym channels)
      (subst (λ (ms : List (List ℕ)). SayFirst (Tells devices v.deeds w.channels) ms (due_on ids w.channels v.deeds)) (sym now_same)
      (subst (λ (ts : List Telling). SayFirst (Tells devices v.deeds w.channels) (tellings_on w.channels w.deeds ++ tellings_waiting ((w.client).core).outbox) ts) (sym due_same)
      (say_as (Tells devices w.deeds w.channels) (Tells devices v.deeds w.channels) (tells_later devices w.channels (x ∷ []) w.deeds v.deeds deeds (ap (until_begin w.channels) deeds ∙ begun w.channels))
      (tellings_on w.channels w.deeds ++ tellings_waiting ((w.client).core).outbox) (due_on ids w.channels w.deeds) t.now)));
  all = λ is_open ready. ap length now_at ∙ t.all (open_same is_open) (sym ready_same ∙ ready) ∙ ap length (sym due_at);
  first = λ is_open unready.
      let (none, due_first) = t.first (open_same is_open) (sym ready_same ∙ unready) in
      (now_at ∙ none, due_at ∙ due_first ∙ ap (λ (xs : List ℕ). lists xs ∷ []) (sym there_same));
  above = λ c over. ap (due_on ids c) deeds ∙ due ids c ∙ t.above c (subst (λ (n : ℕ). n < c) channels over);
  answers = subst (λ (os : List Outgoing). AllByRecursion AnswersUntold os) (sym left_over) (subst (λ (os : List Outgoing). AllByRecursion AnswersUntold os) outbox t.answers).1;
}
  where
    ids : List ℕ
    ids = ids_in devices

    ready_same : client_ready v ≡ client_ready w
    ready_same = ap is_client_ready shake

    until_same : until_begin v.channels v.deeds ≡ until_begin w.channels w.deeds
    until_same = ap (λ (n : ℕ). until_begin n v.deeds) channels ∙ ap (until_begin w.channels) deeds ∙ begun w.channels

    open_same : open_channel v.deeds ≡ Some v.channels → open_channel w.deeds ≡ Some w.channels
    open_same is_open = sym (ap open_channel deeds ∙ opened) ∙ is_open ∙ ap (λ (n : ℕ). Some n) channels

    now_same : tellings_on w.channels v.deeds ++ tellings_waiting ((v.client).core).outbox ≡ tellings_on w.channels w.deeds ++ tellings_waiting ((w.client).core).outbox
    now_same =
        ap (λ (os : List Outgoing). tellings_on w.channels v.deeds ++ tellings_waiting os) left_over ∙ ap (λ (ds : List Deed). tellings_on w.channels ds ++ tellings_waiting rest) deeds ∙ moved
        ∙ ap (λ (os : List Outgoing). tellings_on w.channels w.deeds ++ tellings_waiting os) (sym outbox)

    now_at : tellings_on v.channels v.deeds ++ tellings_waiting ((v.client).core).outbox ≡ tellings_on w.channels w.deeds ++ tellings_waiting ((w.client).core).outbox
    now_at = ap (λ (n : ℕ). tellings_on n v.deeds ++ tellings_waiting ((v.client).core).outbox) channels ∙ now_same

    due_same : due_on ids w.channels v.deeds ≡ due_on ids w.channels w.deeds
    due_same = ap (due_on ids w.channels) deeds ∙ due ids w.channels

    due_at : due_on ids v.channels v.deeds ≡ due_on ids w.channels w.deeds
    due_at = ap (λ (n : ℕ). due_on ids n v.deeds) channels ∙ due_same

    there_same : there_of ids v.deeds ≡ there_of ids w.deeds
    there_same = go ids
      where
        go : (xs : List ℕ) → there_of xs v.deeds ≡ there_of xs w.deeds
        go [] = refl
        go (k ∷ xs) = rw (ap (is_removed k) deeds ∙ removed k, go xs) refl

    each_one : (c : ℕ) → SayFirst (Tells devices (x ∷ w.deeds) c) (tellings_on c (x ∷ w.deeds)) (due_on ids c (x ∷ w.deeds))
    each_one c =
        say_as (Tells devices w.deeds c) (Tells devices (x ∷ w.deeds) c) (tells_later devices c (x ∷ []) w.deeds (x ∷ w.deeds) refl (begun c)) (tellings_on c (x ∷ w.deeds)) (due_on ids c (x ∷ w.deeds))
        (subst (λ (ts : List Telling). SayFirst (Tells devices w.deeds c) (tellings_on c (x ∷ w.deeds)) ts) (sym (due ids c)) (elim (told c) [
          | inl same ↦ subst (λ (ms : List (List ℕ)). SayFirst (Tells devices w.deeds c) ms (due_on ids c w.deeds)) (sym same) (t.each c)
          | inr own ↦
              let here : c ≡ w.channels = own.0 in
              let (more, is) = own.1 in
              say_fewer (Tells devices w.deeds c) (tellings_on c (x ∷ w.deeds)) more (due_on ids c w.deeds)
              (subst (λ (ms : List (List ℕ)). SayFirst (Tells devices w.deeds c) ms (due_on ids c w.deeds)) is
              (subst (λ (n : ℕ). SayFirst (Tells devices w.deeds n) (tellings_on w.channels w.deeds ++ tellings_waiting ((w.client).core).outbox) (due_on ids n w.deeds)) (sym here) t.now))
        ]))

sends_tells : (devices : List (ℕ × Declared)) (w : WorldState) (d : ClientCoreState) (o : Outgoing) → client.client_send w.client ≡ (d, Some o) → TellsAs devices w
    → TellsAs devices (client_sends (with_client w d) (deed_on w.channels o) o.message)
sends_tells devices w d o made t =
    let (rest, outbox, is) = sent_is w.client d o made in
    subst (λ (c : ClientCoreState). TellsAs devices (client_sends (with_client w c) (deed_on w.channels o) o.message)) (sym is) (by rest outbox o.answers refl)
  where
    by : (rest : List Outgoing) → ((w.client).core).outbox ≡ o ∷ rest → (key : Option Key) → o.answers ≡ key
        → TellsAs devices (client_sends (with_client w (record w.client { core = record (w.client).core { outbox = rest } })) (option_map_or (λ k. completes k o.message) key (client_writes w.channels o.message)) o.message)
    by rest outbox None e =
        moved_tells devices w _ (client_writes w.channels o.message) o rest refl outbox refl refl refl refl refl (λ k. refl) (λ c. refl) refl (λ ids c. refl) told moved t
      where
        here : tellings_on w.channels (client_writes w.channels o.message ∷ w.deeds) ≡ tellings_on w.channels w.deeds ++ filter is_telling (o.message ∷ [])
        here = writes_tell w.channels w.channels o.message w.deeds
            ∙ ap (λ (b : Bool). tellings_on w.channels w.deeds ++ filter is_telling (cons_option (if b then Some o.message else None) [])) (eq-eqb w.channels w.channels refl)

        joined : tellings_waiting (o ∷ rest) ≡ filter is_telling (o.message ∷ []) ++ tellings_waiting rest
        joined = filter-append is_telling (o.message ∷ []) (map (λ (x : Outgoing). x.message) rest)

        moved : tellings_on w.channels (client_writes w.channels o.message ∷ w.deeds) ++ tellings_waiting rest ≡ tellings_on w.channels w.deeds ++ tellings_waiting (o ∷ rest)
        moved = ap (λ (ms : List (List ℕ)). ms ++ tellings_waiting rest) here ∙ append_assoc (tellings_on w.channels w.deeds) (filter is_telling (o.message ∷ [])) (tellings_waiting rest) ∙ ap (λ (ms : List (List ℕ)). tellings_on w.channels w.deeds ++ ms) (sym joined)

        told : (c : ℕ) → (tellings_on c (client_writes w.channels o.message ∷ w.deeds) ≡ tellings_on c w.deeds)
            ⊎ ((c ≡ w.channels) × ((more : List (List ℕ)) × (tellings_on w.channels w.deeds ++ tellings_waiting ((w.client).core).outbox ≡ tellings_on c (client_writes w.channels o.message ∷ w.deeds) ++ more)))
        told c = at (w.channels == c) refl
          where
            at : (b : Bool) → (w.channels == c) ≡ b → (tellings_on c (client_writes w.channels o.message ∷ w.deeds) ≡ tellings_on c w.deeds)
                ⊎ ((c ≡ w.channels) × ((more : List (List ℕ)) × (tellings_on w.channels w.deeds ++ tellings_waiting ((w.client).core).outbox ≡ tellings_on c (client_writes w.channels o.message ∷ w.deeds) ++ more)))
            at true f =
                let same : w.channels ≡ c = eqb-true w.channels c f in
                inr (
                  sym same,
                  (
                    tellings_waiting rest,
                    ap (λ (os : List Outgoing). tellings_on w.channels w.deeds ++ tellings_waiting os) outbox ∙ sym moved
                        ∙ ap (λ (n : ℕ). tellings_on n (client_writes w.channels o.message ∷ w.deeds) ++ tellings_waiting rest) same,
                  ),
                )
            at false f =
                inl (writes_tell c w.channels o.message w.deeds ∙ ap (λ (b : Bool). tellings_on c w.deeds ++ filter is_telling (cons_option (if b then Some o.message else None) [])) f
                ∙ append-nil (tellings_on c w.deeds))
    by rest outbox (Some key) e =
        moved_tells devices w _ (completes key o.message) o rest refl outbox refl refl refl refl refl (λ k. refl) (λ c. refl) refl (λ ids c. refl) (λ c. inl (completes_tell c key o.message w.deeds none))
        (ap (λ (ms : List (List ℕ)). ms ++ tellings_waiting rest) (completes_tell w.channels key o.message w.deeds none)
        ∙ ap (λ (b : Bool). tellings_on w.channels w.deeds ++ (if b then o.message ∷ tellings_waiting rest else tellings_waiting rest)) (sym none)) t
      where
        none : is_telling o.message ≡ false
        none = subst (λ (k : Option Key). IfSome k (λ (i : Key). is_telling o.message ≡ false)) e (subst (λ (os : List Outgoing). AllByRecursion AnswersUntold os) outbox t.answers).0

-- ---- a message is heard

telling_list : (list : List ℕ) → is_telling list ≡ true → (os more : List Outgoing) → AreUntold more → tellings_waiting ((os ++ more) ++ plain list ∷ []) ≡ tellings_waiting os ++ list ∷ []
telling_list list told os more untold = waiting_told (os ++ more) list told ∙ ap (λ (ms : List (List ℕ)). ms ++ list ∷ []) (waiting_untold os more untold)

pub list_is_telling : (c : ClientCoreState) → is_telling (list_bytes (listed c)) ≡ true
list_is_telling c = rw (packet_is packet.DeviceListAnnounce packet.DeviceListAnnounce (list_bytes (listed c)) (written_packet packet.DeviceListAnnounce _)) refl

one_is_telling : (c : ClientCoreState) (device : ℕ) → is_telling (list_bytes (listed_one c device)) ≡ true
one_is_telling c device = rw (packet_is packet.DeviceListAnnounce packet.DeviceListAnnounce (list_bytes (listed_one c device)) (written_packet packet.DeviceListAnnounce _)) refl

removal_is_telling : (device : ℕ) → is_telling (removal_bytes (device ∷ [])) ≡ true
removal_is_telling device =
    rw (packet_is packet.DeviceListRemove packet.DeviceListAnnounce (removal_bytes (device ∷ [])) (written_packet packet.DeviceListRemove _), packet_is packet.DeviceListRemove packet.DeviceListRemove (removal_bytes (device ∷ [])) (written_packet packet.DeviceListRemove _)) refl

read_tells : (devices : List (ℕ × Declared)) (w : WorldState) (m : List ℕ) (d : ClientCoreState) → open_channel w.deeds ≡ Some w.channels → HearsTo w.client d → TellsAs devices w → TellsAs devices (read_by w m d)
read_tells devices w m d opened h t = elim h.either [ inl kept ↦ quietly kept | inr becomes ↦ opening becomes ]
  where
    quietly : (is_client_ready (d.core).shake ≡ is_client_ready ((w.client).core).shake) × ((d.core).outbox ≡ ((w.client).core).outbox ++ h.more) → TellsAs devices (read_by w m d)
    quietly (ready, outbox) =
        unspoken_tells devices w (read_by w m d) (record {
          more = client_reads w.channels m ∷ [];
          silent = (tt, tt);
          deeds = refl;
          others = h.more;
          untold = h.untold;
          outbox = outbox;
          ready = ready;
          devices = h.devices;
          channels = refl;
          printers = refl;
        }) t

    opening : (is_client_ready ((w.client).core).shake ≡ false) × (is_client_ready (d.core).shake ≡ true) × ((d.core).outbox ≡ (((w.client).core).outbox ++ h.more) ++ plain (list_bytes (listed w.client)) ∷ []) → TellsAs devices (read_by w m d)
    opening (was, is, outbox) =
        let (none, due) = t.first opened was in
        let now_is : tellings_on w.channels w.deeds ++ tellings_waiting (d.core).outbox ≡ list_bytes (listed w.client) ∷ [] =
        ap (λ (os : List Outgoing). tellings_on w.channels w.deeds ++ tellings_waiting os) outbox
        ∙ ap (λ (ms : List (List ℕ)). tellings_on w.channels w.deeds ++ ms) (telling_list (list_bytes (listed w.client)) (list_is_telling w.client) ((w.client).core).outbox h.more h.untold)
        ∙ sym (append_assoc (tellings_on w.channels w.deeds) (tellings_waiting ((w.client).core).outbox) (list_bytes (listed w.client) ∷ []))
        ∙ ap (λ (ms : List (List ℕ)). ms ++ list_bytes (listed w.client) ∷ []) none in
        record {
          shaped = subst (λ (ds : List ClientDevice). AllZip (IsShaped (ids_in devices) w.printers (client_reads w.channels m ∷ w.deeds)) devices ds) (sym h.devices)
              (zip_as (IsShaped (ids_in devices) w.printers w.deeds) (IsShaped (ids_in devices) w.printers (client_reads w.channels m ∷ w.deeds))
              (shaped_more (ids_in devices) w.printers w.deeds (client_reads w.channels m ∷ w.deeds) (λ k. refl)) devices (w.client).devices t.shaped);
          bodies = λ is_open unready. absurd (cc (is, unready));
          each = λ c.
              say_as (Tells devices w.deeds c) (Tells devices (client_reads w.channels m ∷ w.deeds) c) (tells_later devices c (client_reads w.channels m ∷ []) w.deeds (client_reads w.channels m ∷ w.deeds) refl refl)
              (tellings_on c w.deeds) (due_on (ids_in devices) c w.deeds) (t.each c);
          now = subst (λ (ms : List (List ℕ)). SayFirst (Tells devices (client_reads w.channels m ∷ w.deeds) w.channels) ms (due_on (ids_in devices) w.channels w.deeds)) (sym now_is)
              (subst (λ (ts : List Telling). SayFirst (Tells devices (client_reads w.channels m ∷ w.deeds) w.channels) (list_bytes (listed w.client) ∷ []) ts) (sym due)
              (first_list (ids_in devices) w.printers w.deeds devices (cache_after (until_begin w.channels w.deeds)) w.client t.shaped (t.bodies opened was), tt));
          all = λ is_open ready. ap length now_is ∙ ap length (sym due);
          first = λ is_open unready. absurd (cc (is, unready));
          above = t.above;
          answers = subst (λ (os : List Outgoing). AllByRecursion AnswersUntold os) (sym outbox)
              (all_append AnswersUntold (((w.client).core).outbox ++ h.more) (plain (list_bytes (listed w.client)) ∷ [])
              (all_append AnswersUntold ((w.client).core).outbox h.more t.answers (answers_untold h.more h.untold)) (tt, tt));
        }

hears_tells : (devices : List (ℕ × Declared)) (w : WorldState) (m : List ℕ) → open_channel w.deeds ≡ Some w.channels → TellsAs devices w → TellsAs devices (client_hears w m)
hears_tells devices w m opened t =
    unspoken_tells devices (read_by w m (client_hear w.client m).0) (client_hears w m) (hears_unspoken w m) (read_tells devices w m (client_hear w.client m).0 opened (hears_to w.client m) t)

-- ---- a device is removed, and added

open_at : (c n : ℕ) (deeds : List Deed) → open_channel deeds ≡ Some n → is_open_at c deeds ≡ (n == c)
open_at c n deeds opened = ap (λ (o : Option ℕ). option_map_or (λ channel. channel == c) o false) opened

own_open : (n : ℕ) (deeds : List Deed) → open_channel deeds ≡ Some n → is_open_at n deeds ≡ true
own_open n deeds opened = open_at n n deeds opened ∙ eq-eqb n n refl

over_open : (c n : ℕ) (deeds : List Deed) → open_channel deeds ≡ Some n → n < c → is_open_at c deeds ≡ false
over_open c n deeds opened over = open_at c n deeds opened ∙ by (n == c) refl
  where
    by : (b : Bool) → (n == c) ≡ b → b ≡ false
    by true e = let same : n ≡ c = eqb-true n c e in absurd (omega (arith, over, same))
    by false e = refl

-- by a deed by which one thing more is due on the open channel, and a message that says it
one_more : (devices : List (ℕ × Declared)) (w v : WorldState) (x : Deed) (m : List ℕ) (thing : Telling) → v.deeds ≡ x ∷ w.deeds → ((v.client).core).outbox ≡ ((w.client).core).outbox ++ plain m ∷ []
    → client_ready v ≡ true → client_ready w ≡ true → v.channels ≡ w.channels → open_channel w.deeds ≡ Some w.channels
    → AllZip (IsShaped (ids_in devices) v.printers v.deeds) devices (v.client).devices
    → ((c : ℕ) → until_begin c (x ∷ w.deeds) ≡ until_begin c w.deeds) → ((c : ℕ) → tellings_on c (x ∷ w.deeds) ≡ tellings_on c w.deeds)
    → ((c : ℕ) → due_on (ids_in devices) c (x ∷ w.deeds) ≡ due_on (ids_in devices) c w.deeds ++ (if is_open_at c w.deeds then thing ∷ [] else []))
    → is_telling m ≡ true → Tells devices (x ∷ w.deeds) w.channels thing m → TellsAs devices w → TellsAs devices v
one_more devices w v x m thing deeds outbox ready was_ready channels opened shaped begun told due telling says t = record {
  shaped = shaped;
  bodies = λ is_open unready. absurd (cc (ready, unready));
  each = λ c. subst (λ (ds : List Deed). SayFirst (Tells devices ds c) (tellings_on c ds) (due_on ids c ds)) (sym deeds)
      (subst (λ (ms : List (List ℕ)). SayFirst (Tells devices (x ∷ w.deeds) c) ms (due_on ids c (x ∷ w.deeds))) (sym (told c))
      (subst (λ (ts : List Telling). SayFirst (Tells devices (x ∷ w.deeds) c) (tellings_on c w.deeds) ts) (sym (due c))
      (say_more (Tells devices (x ∷ w.deeds) c) (tellings_on c w.deeds) (due_on ids c w.deeds) (if is_open_at c w.deeds then thing ∷ [] else []) (later c (tellings_on c w.deeds) (due_on ids c w.deeds) (t.each c)))));
  now = subst (λ (n : ℕ). SayFirst (Tells devices v.deeds n) (tellings_on n v.deeds ++ tellings_waiting ((v.client).core).outbox) (due_on ids n v.deeds)) (sym channels)
      (subst (λ (ds : List Deed). SayFirst (Tells devices ds w.channels) (tellings_on w.channels v.deeds ++ tellings_waiting ((v.client).core).outbox) (due_on ids w.channels v.deeds)) (sym deeds)
      (subst (λ (ms : List (List ℕ)). SayFirst (Tells devices (x ∷ w.deeds) w.channels) ms (due_on ids w.channels v.deeds)) (sym now_same)
      (subst (λ (ts : List Telling). SayFirst (Tells devices (x ∷ w.deeds) w.channels) ((tellings_on w.channels w.deeds ++ tellings_waiting ((w.client).core).outbox) ++ m ∷ []) ts) (sym due_same)
      (say_both (Tells devices (x ∷ w.deeds) w.channels) (tellings_on w.channels w.deeds ++ tellings_waiting ((w.client).core).outbox) (due_on ids w.channels w.deeds) m thing (t.all opened was_ready) says
      (later w.channels (tellings_on w.channels w.deeds ++ tellings_waiting ((w.client).core).outbox) (due_on ids w.channels w.deeds) t.now)))));
  all = λ is_open is_ready.
      let at_now = ap (λ (n : ℕ). length (tellings_on n v.deeds ++ tellings_waiting ((v.client).core).outbox)) channels ∙ ap length now_same in
      let at_due = ap (λ (n : ℕ). length (due_on ids n v.deeds)) channels ∙ ap length due_same in
      at_now ∙ length-append (tellings_on w.channels w.deeds ++ tellings_waiting ((w.client).core).outbox) (m ∷ []) ∙ ap (λ (k : ℕ). k + 1) (t.all opened was_ready)
      ∙ sym (length-append (due_on ids w.channels w.deeds) (thing ∷ [])) ∙ sym at_due;
  first = λ is_open unready. absurd (cc (ready, unready));
  above = λ c over.
      let higher : w.channels < c = subst (λ (n : ℕ). n < c) channels over in
      ap (due_on ids c) deeds ∙ due c ∙ ap (λ (b : Bool). due_on ids c w.deeds ++ (if b then thing ∷ [] else [])) (over_open c w.channels w.deeds opened higher)
      ∙ append-nil (due_on ids c w.deeds) ∙ t.above c higher;
  answers = subst (λ (os : List Outgoing). AllByRecursion AnswersUntold os) (sym outbox) (all_append AnswersUntold ((w.client).core).outbox (plain m ∷ []) t.answers (tt, tt));
}
  where
    ids : List ℕ
    ids = ids_in devices

    later : (c : ℕ) (ms : List (List ℕ)) (ts : List Telling) → SayFirst (Tells devices w.deeds c) ms ts → SayFirst (Tells devices (x ∷ w.deeds) c) ms ts
    later c ms ts is = say_as (Tells devices w.deeds c) (Tells devices (x ∷ w.deeds) c) (tells_later devices c (x ∷ []) w.deeds (x ∷ w.deeds) refl (begun c)) ms ts is

    now_same : tellings_on w.channels v.deeds ++ tellings_waiting ((v.client).core).outbox ≡ (tellings_on w.channels w.deeds ++ tellings_waiting ((w.client).core).outbox) ++ m ∷ []
    now_same =
        ap (λ (ds : List Deed). tellings_on w.channels ds ++ tellings_waiting ((v.client).core).outbox) deeds ∙ ap (λ (ms : List (List ℕ)). ms ++ tellings_waiting ((v.client).core).outbox) (told w.channels)
        ∙ ap (λ (os : List Outgoing). tellings_on w.channels w.deeds ++ tellings_waiting os) outbox ∙ ap (λ (ms : List (List ℕ)). tellings_on w.channels w.deeds ++ ms) (waiting_told ((w.client).core).outbox m telling)
        ∙ sym (append_assoc (tellings_on w.channels w.deeds) (tellings_waiting ((w.client).core).outbox) (m ∷ []))

    due_same : due_on ids w.channels v.deeds ≡ due_on ids w.channels w.deeds ++ thing ∷ []
    due_same = ap (due_on ids w.channels) deeds ∙ due w.channels ∙ ap (λ (b : Bool). due_on ids w.channels w.deeds ++ (if b then thing ∷ [] else [])) (own_open w.channels w.deeds opened)

removed_tells : (devices : List (ℕ × Declared)) (w : WorldState) (device : ℕ) → open_channel w.deeds ≡ Some w.channels → client_ready w ≡ true → TellsAs devices w → TellsAs devices (told_removed w device)
removed_tells devices w device opened ready t =
    one_more devices w (told_removed w device) (removes device) (removal_bytes (device ∷ [])) (removal device) refl refl ready ready refl opened
    (zip_map (IsShaped (ids_in devices) w.printers w.deeds) (IsShaped (ids_in devices) w.printers (removes device ∷ w.deeds)) (device_marked device true) (removed_shaped (ids_in devices) w.printers w.deeds device)
    devices (w.client).devices t.shaped) (λ c. refl) (λ c. refl) (λ c. refl) (removal_is_telling device) refl t

added_tells : (devices : List (ℕ × Declared)) (w : WorldState) (c : ClientCoreState) (device : ℕ) → open_channel w.deeds ≡ Some w.channels → client_ready w ≡ true → c.core ≡ (w.client).core → w.cache ≡ cache_after w.deeds
    → AllZip (IsShaped (ids_in devices) w.printers w.deeds) devices c.devices → AllZip (λ (d : ℕ × Declared) x. (d.0 == device) ≡ true → HasBody w.cache d x) devices c.devices → TellsAs devices w
    → TellsAs devices (told_added (with_client w c) device)
added_tells devices w c device opened ready core kept shaped bodies t =
    one_more devices w (told_added (with_client w c) device) (adds device) (list_bytes (listed_one c device)) (addition device (length (filter (is_add device) w.deeds))) refl
    (ap (λ (k : CoreState ClientState Outgoing). k.outbox ++ plain (list_bytes (listed_one c device)) ∷ []) core)
    (ap (λ (k : CoreState ClientState Outgoing). is_client_ready k.shake) core ∙ ready) ready refl opened
    (zip_map (IsShaped (ids_in devices) w.printers w.deeds) (IsShaped (ids_in devices) w.printers (adds device ∷ w.deeds)) (device_marked device false) (added_shaped (ids_in devices) w.printers w.deeds device)
    devices c.devices shaped) (λ c. refl) (λ c. refl) (λ c. refl) (one_is_telling c device)
    ([], w.deeds, refl, refl, one_list (ids_in devices) w.printers w.deeds devices w.cache c shaped device bodies ∙ ap (λ (k : CacheState). list_of devices k (device ∷ [])) kept) t

-- ---- a channel begins, and ends

begun_tells : (devices : List (ℕ × Declared)) (w : WorldState) (c : ClientCoreState) → w.cache ≡ cache_after w.deeds
    → AllZip (IsShaped (ids_in devices) w.printers w.deeds) devices c.devices → AllZip (HasBody w.cache) devices c.devices → TellsAs devices w → TellsAs devices (begun_on w (with_client w c))
begun_tells devices w c kept shaped bodies t = record {
  shaped = zip_as (IsShaped ids w.printers w.deeds) (IsShaped ids w.printers (host_begins n ∷ w.deeds)) (shaped_more ids w.printers w.deeds (host_begins n ∷ w.deeds) (λ k. refl)) devices c.devices shaped;
  bodies = λ is_open unready. subst (λ (k : CacheState). AllZip (HasBody k) devices c.devices) (kept ∙ ap cache_after (sym own_begin)) bodies;
  each = each_one;
  now = subst (λ (ms : List (List ℕ)). SayFirst (Tells devices (host_begins n ∷ w.deeds) n) ms (due_on ids n (host_begins n ∷ w.deeds))) (sym none_now) tt;
  all = λ is_open ready. absurd cc;
  first = λ is_open unready. (
    none_now,
    ap (λ (b : Bool). due_on ids n w.deeds ++ (if b then lists (there_of ids w.deeds) ∷ [] else [])) (eq-eqb n n refl)
        ∙ ap (λ (ts : List Telling). ts ++ lists (there_of ids w.deeds) ∷ []) (t.above n (omega arith)),
  );
  above = λ k over.
      ap (λ (b : Bool). due_on ids k w.deeds ++ (if b then lists (there_of ids w.deeds) ∷ [] else [])) (apart n k over) ∙ append-nil (due_on ids k w.deeds) ∙ t.above k (omega (arith, over));
  answers = tt;
}
  where
    ids : List ℕ
    ids = ids_in devices

    n : ℕ
    n = w.channels + 1

    own_begin : until_begin (w.channels + 1) (host_begins (w.channels + 1) ∷ w.deeds) ≡ w.deeds
    own_begin = ap (λ (b : Bool). if b then w.deeds else until_begin (w.channels + 1) w.deeds) (eq-eqb (w.channels + 1) (w.channels + 1) refl)

    apart : (a k : ℕ) → a < k → (a == k) ≡ false
    apart a k over = by (a == k) refl
      where
        by : (b : Bool) → (a == k) ≡ b → b ≡ false
        by true e = let same : a ≡ k = eqb-true a k e in absurd (omega (arith, over, same))
        by false e = refl

    untold : tellings_on (w.channels + 1) w.deeds ≡ []
    untold =
        say_none (Tells devices w.deeds (w.channels + 1)) (tellings_on (w.channels + 1) w.deeds)
        (subst (λ (ts : List Telling). SayFirst (Tells devices w.deeds (w.channels + 1)) (tellings_on (w.channels + 1) w.deeds) ts) (t.above (w.channels + 1) (omega arith)) (t.each (w.channels + 1)))

    none_now : tellings_on (w.channels + 1) w.deeds ++ [] ≡ []
    none_now = append-nil (tellings_on (w.channels + 1) w.deeds) ∙ untold

    each_one : (k : ℕ) → SayFirst (Tells devices (host_begins (w.channels + 1) ∷ w.deeds) k) (tellings_on k w.deeds) (due_on (ids_in devices) k w.deeds ++ (if (w.channels + 1) == k then lists (there_of (ids_in devices) w.deeds) ∷ [] else []))
    each_one k = by (w.channels + 1 == k) refl
      where
        by : (b : Bool) → (w.channels + 1 == k) ≡ b
            → SayFirst (Tells devices (host_begins (w.channels + 1) ∷ w.deeds) k) (tellings_on k w.deeds) (due_on (ids_in devices) k w.deeds ++ (if b then lists (there_of (ids_in devices) w.deeds) ∷ [] else []))
        by true e =
            let same : w.channels + 1 ≡ k = eqb-true (w.channels + 1) k e in
            let none : tellings_on k w.deeds ≡ [] = subst (λ (i : ℕ). tellings_on i w.deeds ≡ []) same untold in
            subst (λ (ms : List (List ℕ)). SayFirst (Tells devices (host_begins (w.channels + 1) ∷ w.deeds) k) ms (due_on (ids_in devices) k w.deeds ++ lists (there_of (ids_in devices) w.deeds) ∷ [])) (sym none) tt
        by false e =
            say_more (Tells devices (host_begins (w.channels + 1) ∷ w.deeds) k) (tellings_on k w.deeds) (due_on (ids_in devices) k w.deeds) []
            (say_as (Tells devices w.deeds k) (Tells devices (host_begins (w.channels + 1) ∷ w.deeds) k)
            (tells_later devices k (host_begins (w.channels + 1) ∷ []) w.deeds (host_begins (w.channels + 1) ∷ w.deeds) refl (ap (λ (b : Bool). if b then w.deeds else until_begin k w.deeds) e))
            (tellings_on k w.deeds) (due_on (ids_in devices) k w.deeds) (t.each k))

connects_tells : (devices : List (ℕ × Declared)) (w : WorldState) → w.cache ≡ cache_after w.deeds → TellsAs devices w → TellsAs devices (connects w)
connects_tells devices w kept t =
    let fresh : WorldState = fold refreshing w (map (λ (e : ℕ × PrinterNames). e.0) w.printers) in
    let (shaped, bodies) = fresh_all (ids_in devices) w.printers w.deeds devices w.cache w refl refl t.shaped in
    subst (λ (x : WorldState). TellsAs devices (begun_on w x)) (sym (all_refreshed (map (λ (e : ℕ × PrinterNames). e.0) w.printers) w))
    (begun_tells devices w fresh.client kept shaped bodies t)

ended_tells : (devices : List (ℕ × Declared)) (w : WorldState) → TellsAs devices w → TellsAs devices (cutting w)
ended_tells devices w t = over (unspoken_tells devices w (fold dropping w stations) (all_dropped_unspoken stations w) t)
  where
    stations : List ℕ
    stations = map (λ (e : ℕ × StationState SessionDevice). e.0) w.stations

    over : TellsAs devices (fold dropping w (map (λ (e : ℕ × StationState SessionDevice). e.0) w.stations)) → TellsAs devices (cutting w)
    over u =
        let cut : WorldState = fold dropping w (map (λ (e : ℕ × StationState SessionDevice). e.0) w.stations) in
        let ids : List ℕ = ids_in devices in
        let later : (c : ℕ) → SayFirst (Tells devices (host_ends cut.channels ∷ cut.deeds) c) (tellings_on c cut.deeds) (due_on ids c cut.deeds) =
        λ c.
        say_as (Tells devices cut.deeds c) (Tells devices (host_ends cut.channels ∷ cut.deeds) c) (tells_later devices c (host_ends cut.channels ∷ []) cut.deeds (host_ends cut.channels ∷ cut.deeds) refl refl)
        (tellings_on c cut.deeds) (due_on ids c cut.deeds) (u.each c) in
        record {
          shaped = zip_as (IsShaped ids cut.printers cut.deeds) (IsShaped ids cut.printers (host_ends cut.channels ∷ cut.deeds)) (shaped_more ids cut.printers cut.deeds (host_ends cut.channels ∷ cut.deeds) (λ k. refl)) devices
              (cut.client).devices u.shaped;
          bodies = λ is_open unready. absurd (cc is_open);
          each = later;
          now = subst (λ (ms : List (List ℕ)). SayFirst (Tells devices (host_ends cut.channels ∷ cut.deeds) cut.channels) ms (due_on ids cut.channels cut.deeds)) (sym (append-nil (tellings_on cut.channels cut.deeds))) (later cut.channels);
          all = λ is_open ready. absurd (cc is_open);
          first = λ is_open unready. absurd (cc is_open);
          above = u.above;
          answers = tt;
        }

-- ---- every world

module _ (lines : List NumberedLine) (starves : Key → Bool) (premises : RunPremises lines) where
  abbrev devices : List (ℕ × Declared)
  devices = declared_devices (bare_lines lines)

  first_tells : TellsAs devices (world_of lines)
  first_tells = subst (TellsAs devices) (sym (begun_by lines _ (lines_begin lines))) (record {
    shaped = first_shaped devices (declared_openable lines premises.declared);
    bodies = λ is_open unready. absurd (cc is_open);
    each = λ c. tt;
    now = tt;
    all = λ is_open ready. absurd (cc is_open);
    first = λ is_open unready. absurd (cc is_open);
    above = λ c over. refl;
    answers = tt;
  })

  part_tells : (w : WorldState) (p : Part) → MayBe lines starves w p → Stands w → w.cache ≡ cache_after w.deeds → TellsAs devices w → TellsAs devices (done starves w p)
  part_tells w begins may stands kept t = connects_tells devices w kept t
  part_tells w ends may stands kept t = ended_tells devices w t
  part_tells w (client_sends_one c o) may stands kept t = sends_tells devices w c o may t
  part_tells w (client_hears_one message rest) may stands kept t =
      let x : WorldState = record w { to_client = record w.to_client { part = []; taken = _; unhandled = rest } } in
      hears_tells devices x message (needs_open lines starves w (client_hears_one message rest) may tt stands)
      (unspoken_tells devices w x (unspoken_deeds [] tt refl refl refl refl) t)
  part_tells w (removes_one device o) (can, there) stands kept t =
      let opened = needs_open lines starves w (removes_one device o) (can, there) tt stands in
      let ready = (both (is_channel_open w) (client_ready w) (both (is_ready w) _ can).0).1 in
      let told : WorldState = told_removed w device in
      unspoken_tells devices told _ (option_unspoken told (λ (s : StationState SessionDevice). with_station told device (station.remove s (device_cut s.device).state).0) o
      (λ s. stationed_unspoken told device (station.remove s (device_cut s.device).state).0)) (removed_tells devices w device opened ready t)
  part_tells w (adds_one device names o) (can, named, there) stands kept t =
      let opened = needs_open lines starves w (adds_one device names o) (can, named, there) tt stands in
      let ready = (both (is_channel_open w) (client_ready w) (both (is_ready w) _ can).0).1 in
      let (shaped, bodies) = fresh_one (ids_in devices) w.printers w.deeds devices w.cache w device names named refl refl t.shaped in
      announced (told_added (refreshed_by w device names) device) device o (adding names shaped bodies opened ready)
    where
      announced : (x : WorldState) (k : ℕ) (s : Option (StationState SessionDevice)) → TellsAs (declared_devices (bare_lines lines)) x → TellsAs (declared_devices (bare_lines lines)) (announced_by x k s)
      announced x k s own = unspoken_tells (declared_devices (bare_lines lines)) x _ (option_unspoken x (λ (y : StationState SessionDevice). with_station x k (station.announce y).0) s (λ y. stationed_unspoken x k (station.announce y).0)) own

      adding : (n : Option PrinterNames) → AllZip (IsShaped (ids_in devices) w.printers w.deeds) devices ((refreshed_by w device n).client).devices
          → AllZip (λ (d : ℕ × Declared) x. (d.0 == device) ≡ true → HasBody w.cache d x) devices ((refreshed_by w device n).client).devices → open_channel w.deeds ≡ Some w.channels → client_ready w ≡ true
          → TellsAs devices (told_added (refreshed_by w device n) device)
      adding None shaped bodies opened ready = added_tells devices w w.client device opened ready refl kept shaped bodies t
      adding (Some found) shaped bodies opened ready = added_tells devices w (client.refresh w.client device (printer_data w.cache found)) device opened ready refl kept shaped bodies t
  part_tells w p may stands kept t = unspoken_tells devices w (done starves w p) (quiet_unspoken starves w p tt) t

  -- Where nothing that a client read was wrong it tells what is due.
  pub behind_tells : (w : WorldState) → IsBehind lines starves w → AreReadWell w.deeds → TellsAs devices w
  behind_tells =
      by_parts lines starves (λ w. AreReadWell w.deeds → TellsAs devices w) (λ well. first_tells)
      (λ w p before after may is well.
      let earlier = part_well lines starves w p may well in
      part_tells w p may (knows lines starves premises w before).stands (behind_read_as lines starves premises w before earlier).2 (is earlier))
