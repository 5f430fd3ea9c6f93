-- What a client announces, and what of it waits to be written, is of the devices that were declared.
use Rattle.std.proofs.Common.{◌≡◌, ◌∙◌, refl, sym, ap, subst, inl, inr, ℕ, ◌==◌, Bool, true, false, List, [], ◌∷◌, ◌++◌, map, reverse, Option, Some, None, append_assoc, eqb-true}
use Rattle.std.specs.Prelude.{Result, Ok, Err, filter, if◌then◌else◌}
use Rattle.std.specs.declared.alloc.AllocError.{AllocError}
use Rattle.std.specs.List.{AllByRecursion, AllZip}
use Rattle.std.specs.Map.{lookup}
use Rattle.std.specs.Option.{option_map_or}
use Rattle.std.specs.Ordering.{nat_cmp}
use Rattle.std.specs.BTreeMap.{is_at}
use Rattle.rd_served_causes.proofs.ActedDataLemmas.{IsShaped}
use Rattle.rd_served_causes.proofs.ActedListLemmas.{first_shaped}
use Rattle.rd_served_causes.proofs.ActedQuietLemmas.{AreUntold, HearsTo, completion_untold, hears_to}
use Rattle.rd_base.specs.declared.journal.Item.{Item}
use Rattle.rd_base.specs.declared.journal.Key.{Key}
use Rattle.rd_client.specs.Core as client
use Rattle.rd_client.specs.Core.{ClientCoreState, ClientDevice, Outgoing, announce_in, client_hear, client_side, device_marked, is_device, is_present, listed, listed_one, new_client, plain, present_device, refreshed}
use Rattle.rd_client.specs.declared.heard.Heard.{Heard}
use Rattle.rd_core.specs.Core as core
use Rattle.rd_core.specs.Hearing as hearing
use Rattle.rd_devices.specs.declared.list.Announce.{Announce}
use Rattle.rd_devices.specs.DeviceList.{list_bytes}
use Rattle.rd_devices.specs.Removal.{removal_bytes}
use Rattle.rd_drive.proofs.AllLemmas.{all_append}
use Rattle.rd_front.specs.Calls.{FrontEntry}
use Rattle.rd_front.specs.Front.{with_new_data}
use Rattle.rd_front.specs.State.{DeviceDeskState, FrontState}
use Rattle.rd_hello.specs.declared.end_fault.EndFault.{EndFault}
use Rattle.rd_hello.specs.declared.end_fault.EndFault.TheVariants as fault
use Rattle.rd_irp.specs.declared.completion.Body.TheVariants.{Fault}
use Rattle.rd_irp.specs.Fits.{kind_of}
use Rattle.rd_printer.specs.Cache.{CacheState}
use Rattle.rd_declared.specs.Devices.{Declared, PrinterNames, announce_of, printer_data}
use Rattle.rd_declared.specs.Declaring.{AreOpenable}
use Rattle.rd_world.specs.Run.{printers_of}
use Rattle.rd_deeds.specs.Talk.{Deed, Has, stores}
use Rattle.rd_served_causes.proofs.ServedStandingLemmas.{sent_first, sent_none}
use Rattle.rd_served_causes.specs.ServedDeeds.{deeds_after, deeds_of, deeds_of_calls, sent_by, stored, stored_each}
use Rattle.rd_served_causes.specs.ServedHistories.{HistoryGoes}
use Rattle.rd_served_causes.specs.ServedParts.{FrontPart, PartGoes, PartsGo, begins, calls, directs, ends, forgets, keeps, learns, misplaces, refreshes, sends, tells_gone, tells_there, tries, unwritten, writes}
use Rattle.rd_served_causes.specs.ServedParts as part
use Rattle.rd_served_causes.specs.ServedServed.{Served}
use Rattle.rd_served_sessions.specs.Announcing.{AnnouncesOwn, IsAnnounceOf, TellsOwn}

abbrev outbox_of : Served → List Outgoing
outbox_of p = (((p.front).client).core).outbox

ended_as : (over : Bool) (s : FrontState) (desks : List DeviceDeskState) → let t = part.ended_front over s desks in (t.client ≡ record s.client { core = record (s.client).core { outbox = [] } }) × (t.printers ≡ s.printers)
ended_as true s desks = (refl, refl)
ended_as false s desks = (refl, refl)

module _ (devices : List (ℕ × Declared)) where
  -- ---- a client's devices

  -- A client's device is announced as one of these, and its printer is found under its id.
  pub record IsOurs (printers : List (ℕ × PrinterNames)) (x : ClientDevice) : Type 0 where
    pub device : ℕ × Declared
    pub is_one : Has device devices
    pub own : (device.1).id ≡ device.0
    pub found : lookup (is_at (nat_cmp device.0)) printers ≡ (device.1).printer
    pub data_of : CacheState
    pub announce_is : x.announce ≡ announce_of data_of device.1

  abbrev AreOurs : List (ℕ × PrinterNames) → List ClientDevice → Type 0
  AreOurs printers xs = AllByRecursion (IsOurs printers) xs

  marked_ours : (printers : List (ℕ × PrinterNames)) (device : ℕ) (gone : Bool) (xs : List ClientDevice) → AreOurs printers xs → AreOurs printers (map (device_marked device gone) xs)
  marked_ours printers device gone [] all = tt
  marked_ours printers device gone (x ∷ xs) all = (by (is_device device x), marked_ours printers device gone xs all.1)
    where
      by : (b : Bool) → IsOurs printers (if b then record x { removed = gone } else x)
      by true = record { device = (all.0).device; is_one = (all.0).is_one; own = (all.0).own; found = (all.0).found; data_of = (all.0).data_of; announce_is = (all.0).announce_is }
      by false = all.0

  -- a printer gets other data
  renewed : (printers : List (ℕ × PrinterNames)) (device : ℕ) (names : PrinterNames) (cache : CacheState) → lookup (is_at (nat_cmp device)) printers ≡ Some names → (x : ClientDevice) → IsOurs printers x → IsOurs printers (refreshed device (printer_data cache names) x)
  renewed printers device names cache named x now = by ((x.announce).id == device) refl
    where
      by : (b : Bool) → ((x.announce).id == device) ≡ b → IsOurs printers (if b then record x { announce = record x.announce { body = printer_data cache names } } else x)
      by true e =
          let here : (now.device).0 ≡ device = eqb-true (now.device).0 device (ap (λ (k : ℕ). k == device) (sym (ap (λ (a : Announce). a.id) now.announce_is ∙ now.own)) ∙ e) in
          let printer : ((now.device).1).printer ≡ Some names = sym now.found ∙ subst (λ (k : ℕ). lookup (is_at (nat_cmp k)) printers ≡ Some names) (sym here) named in
          record {
            device = now.device;
            is_one = now.is_one;
            own = now.own;
            found = now.found;
            data_of = cache;
            announce_is = ap (λ (a : Announce). record a { body = printer_data cache names }) now.announce_is
                ∙ ap (λ (o : Option PrinterNames). record (announce_of [] (now.device).1) { body = option_map_or (printer_data cache) o [] }) (sym printer);
          }
      by false e = now

  refreshed_ours : (printers : List (ℕ × PrinterNames)) (device : ℕ) (names : PrinterNames) (cache : CacheState) → lookup (is_at (nat_cmp device)) printers ≡ Some names → (xs : List ClientDevice) → AreOurs printers xs
      → AreOurs printers (map (refreshed device (printer_data cache names)) xs)
  refreshed_ours printers device names cache named [] all = tt
  refreshed_ours printers device names cache named (x ∷ xs) all = (renewed printers device names cache named x all.0, refreshed_ours printers device names cache named xs all.1)

  listed_ours : (printers : List (ℕ × PrinterNames)) (p : ClientDevice → Bool) (xs : List ClientDevice) → AreOurs printers xs → AllByRecursion (IsAnnounceOf devices) (map announce_in (filter p xs))
  listed_ours printers p [] all = tt
  listed_ours printers p (x ∷ xs) all = by (p x) (listed_ours printers p xs all.1)
    where
      by : (b : Bool) → AllByRecursion (IsAnnounceOf devices) (map announce_in (filter p xs)) → AllByRecursion (IsAnnounceOf devices) (map announce_in (if b then x ∷ filter p xs else filter p xs))
      by true rest = (((all.0).device, (all.0).data_of, (all.0).is_one, (all.0).announce_is), rest)
      by false rest = rest

  -- ---- what waits

  abbrev AreWaiting : List Outgoing → Type 0
  AreWaiting os = AllByRecursion (λ (o : Outgoing). TellsOwn devices o.message) os

  untold_waiting : (os : List Outgoing) → AreUntold os → AreWaiting os
  untold_waiting [] all = tt
  untold_waiting (o ∷ os) all = (λ told. absurd (let none = all.0 in cc (none, told)), untold_waiting os all.1)

  one_more : (os : List Outgoing) (o : Outgoing) → AreWaiting os → TellsOwn devices o.message → AreWaiting (os ++ o ∷ [])
  one_more os o all one = all_append (λ (x : Outgoing). TellsOwn devices x.message) os (o ∷ []) all (one, tt)

  -- A front's client has these devices, and what it has to write tells of them.
  pub record AreKept (p : Served) : Type 0 where
    pub each : AreOurs (p.front).printers ((p.front).client).devices
    pub waits : AreWaiting (outbox_of p)

  kept_with : (p q : Served) → (q.front).printers ≡ (p.front).printers → AreOurs (p.front).printers ((q.front).client).devices → AreWaiting (outbox_of q) → AreKept q
  kept_with p q printers each waits = record { each = subst (λ (ps : List (ℕ × PrinterNames)). AreOurs ps ((q.front).client).devices) (sym printers) each; waits = waits }

  kept_same : (p q : Served) → (q.front).client ≡ (p.front).client → (q.front).printers ≡ (p.front).printers → AreKept p → AreKept q
  kept_same p q same printers is =
      kept_with p q printers (subst (λ (c : ClientCoreState). AreOurs (p.front).printers c.devices) (sym same) is.each) (subst (λ (c : ClientCoreState). AreWaiting (c.core).outbox) (sym same) is.waits)

  -- the core did something, or found no memory for it
  kept_did : (p q : Served) (answer : Result (Unit {0}) AllocError) (done : ClientCoreState) → core.Did answer done (p.front).client (q.front).client → (q.front).printers ≡ (p.front).printers
      → AreOurs (p.front).printers done.devices → AreWaiting (done.core).outbox → AreKept p → AreKept q
  kept_did p q (Ok u) done did printers each waits is =
      kept_with p q printers (subst (λ (c : ClientCoreState). AreOurs (p.front).printers c.devices) (sym did) each) (subst (λ (c : ClientCoreState). AreWaiting (c.core).outbox) (sym did) waits)
  kept_did p q (Err error) done did printers each waits is = kept_same p q did printers is

  heard_kept : (p q : Served) → HearsTo (p.front).client (q.front).client → (q.front).printers ≡ (p.front).printers → AreKept p → AreKept q
  heard_kept p q to printers is = kept_with p q printers (subst (λ (ds : List ClientDevice). AreOurs (p.front).printers ds) (sym to.devices) is.each)
      (elim to.either [
        | inl same ↦ subst AreWaiting (sym same.1) more
        | inr ready ↦ subst AreWaiting (sym ready.2)
            (one_more (outbox_of p ++ to.more) (plain (list_bytes (listed (p.front).client))) more (λ told. inr (listed (p.front).client, refl, listed_ours (p.front).printers is_present ((p.front).client).devices is.each)))
      ])
    where
      more : AreWaiting (outbox_of p ++ to.more)
      more = all_append (λ (o : Outgoing). TellsOwn devices o.message) (outbox_of p) to.more is.waits (untold_waiting to.more to.untold)

  refreshed_kept : (p : Served) (device : ℕ) → AreKept p → AreKept (record p { front = with_new_data p.front device })
  refreshed_kept p device is = by (lookup (is_at (nat_cmp device)) (p.front).printers) refl
    where
      by : (o : Option PrinterNames) → lookup (is_at (nat_cmp device)) (p.front).printers ≡ o
          → AreKept (record p { front = option_map_or (λ (names : PrinterNames). record p.front { client = client.refresh (p.front).client device (printer_data (p.front).cache names) }) o p.front })
      by None e = is
      by (Some names) e = record { each = refreshed_ours (p.front).printers device names (p.front).cache e ((p.front).client).devices is.each; waits = is.waits }

  -- ---- parts

  pub part_kept : (p q : Served) (x : FrontPart) → PartGoes p x q → AreKept p → AreKept q
  part_kept p q (part.hears channel m answer) goes is = by answer ((goes.3).0).1
    where
      printers : (q.front).printers ≡ (p.front).printers
      printers = ap (λ (s : FrontState). s.printers) (goes.3).1

      read : (a : Result Heard EndFault) → client_hear (p.front).client m ≡ ((q.front).client, a) → AreKept q
      read a e = heard_kept p q (subst (λ (r : ClientCoreState × Result Heard EndFault). HearsTo (p.front).client r.0) e (hears_to (p.front).client m)) printers is

      by : (a : Result Heard EndFault) → hearing.Hears client_side (λ (c : ClientCoreState). c.core) client_hear (p.front).client m a (q.front).client → AreKept q
      by (Err fault.Memory) did = kept_same p q did.1 printers is
      by (Err (fault.Order state packet)) did = read _ did
      by (Err (fault.Grammar bad)) did = read _ did
      by (Ok h) did = read _ did
  part_kept p q tries goes is = kept_same p q (ap (λ (s : Served). (s.front).client) goes.4) (ap (λ (s : Served). (s.front).printers) goes.4) is
  part_kept p q keeps goes is = kept_same p q (ap (λ (s : Served). (s.front).client) goes.3) (ap (λ (s : Served). (s.front).printers) goes.3) is
  part_kept p q forgets goes is = kept_same p q (ap (λ (s : Served). (s.front).client) goes.4) (ap (λ (s : Served). (s.front).printers) goes.4) is
  part_kept p q misplaces goes is = kept_same p q (ap (λ (s : Served). (s.front).client) goes.3) (ap (λ (s : Served). (s.front).printers) goes.3) is
  part_kept p q (directs st answer) goes is =
      kept_did p q answer (client.direct (p.front).client (goes.0).job (goes.0).device st) ((goes.2).0).1 (ap (λ (s : FrontState). s.printers) (goes.2).1) is.each
      (one_more (outbox_of p) (record { message = client.direct_bytes (goes.0).job (goes.0).device st; answers = Some (goes.0).job.key }) is.waits
      (λ told. absurd (let none = completion_untold (kind_of (goes.0).job.op) (record { device = (goes.0).device; completion = (goes.0).job.completion; status = st }) Fault in cc (none, told)))) is
  part_kept p q (calls place id does back items) goes is = kept_same p q (ap (λ (s : FrontState). s.client) goes.front_is) (ap (λ (s : FrontState). s.printers) goes.front_is) is
  part_kept p q (tells_gone device answer) goes is =
      kept_did p q answer (client.tell_removed (p.front).client device) ((goes.0).0).1 (ap (λ (s : FrontState). s.printers) (goes.0).1)
      (marked_ours (p.front).printers device true ((p.front).client).devices is.each) (one_more (outbox_of p) (plain (removal_bytes (device ∷ []))) is.waits (λ told. inl (device, refl))) is
  part_kept p q (tells_there device answer) goes is =
      kept_did p q answer (client.tell_added (p.front).client device) ((goes.0).0).1 (ap (λ (s : FrontState). s.printers) (goes.0).1)
      (marked_ours (p.front).printers device false ((p.front).client).devices is.each)
      (one_more (outbox_of p) (plain (list_bytes (listed_one (p.front).client device))) is.waits
      (λ told. inr (listed_one (p.front).client device, refl, listed_ours (p.front).printers (is_device device) ((p.front).client).devices is.each))) is
  part_kept p q (sends channel sent) goes is =
      kept_with p q (ap (λ (s : FrontState). s.printers) (goes.1).1)
      (subst (λ (ds : List ClientDevice). AreOurs (p.front).printers ds) (ap (λ (r : ClientCoreState × Option Outgoing). (r.0).devices) (goes.1).0) is.each) (by sent (goes.1).0)
    where
      by : (o : Option Outgoing) → client.client_send (p.front).client ≡ ((q.front).client, o) → AreWaiting (outbox_of q)
      by None made = subst AreWaiting (sym (sent_none (p.front).client (q.front).client made)) is.waits
      by (Some o) made = let (rest, first, left) = sent_first (p.front).client (q.front).client o made in subst AreWaiting (sym left) (subst AreWaiting first is.waits).1
  part_kept p q (writes device c) goes is = kept_same p q (ap (λ (s : Served). (s.front).client) goes.1) (ap (λ (s : Served). (s.front).printers) goes.1) is
  part_kept p q (unwritten device c) goes is = kept_same p q (ap (λ (s : Served). (s.front).client) goes.1) (ap (λ (s : Served). (s.front).printers) goes.1) is
  part_kept p q (learns n answer) goes is = kept_same p q (ap (λ (s : Served). (s.front).client) goes.1) (ap (λ (s : Served). (s.front).printers) goes.1) is
  part_kept p q (refreshes device) goes is = subst AreKept (sym goes) (refreshed_kept p device is)
  part_kept p q (begins channel) goes is = subst AreKept (sym goes.3) (record { each = is.each; waits = tt })
  part_kept p q (ends over told) goes is =
      let made = ended_as over p.front (q.front).desks in
      let same = ap (λ (s : FrontState). s.client) goes.2 ∙ made.0 in
      kept_with p q (ap (λ (s : FrontState). s.printers) goes.2 ∙ made.1) (subst (λ (c : ClientCoreState). AreOurs (p.front).printers c.devices) (sym same) is.each) (subst (λ (c : ClientCoreState). AreWaiting (c.core).outbox) (sym same) tt)

  -- ---- what is written

  abbrev AllAnnounce : List Deed → Type 0
  AllAnnounce deeds = AllByRecursion (AnnouncesOwn devices) deeds

  stored_plain : (device : ℕ) (items : List Item) (deeds : List Deed) → AllAnnounce deeds → AllAnnounce (map (stores device) items ++ deeds)
  stored_plain device [] deeds all = all
  stored_plain device (x ∷ items) deeds all = (tt, stored_plain device items deeds all)

  each_plain : (told : List (ℕ × List Item)) (deeds : List Deed) → AllAnnounce deeds → AllAnnounce (stored_each told ++ deeds)
  each_plain [] deeds all = all
  each_plain (t ∷ told) deeds all =
      subst AllAnnounce (sym (append_assoc (stored_each told) (stored t.0 t.1) deeds)) (each_plain told (stored t.0 t.1 ++ deeds) (stored_plain t.0 (reverse t.1) deeds all))

  part_announces : (p q : Served) (x : FrontPart) → PartGoes p x q → AreKept p → (deeds : List Deed) → AllAnnounce deeds → AllAnnounce (deeds_of x ++ deeds)
  part_announces p q (part.hears channel m (Err fault.Memory)) goes is deeds all = all
  part_announces p q (part.hears channel m (Err (fault.Order state packet))) goes is deeds all = (tt, all)
  part_announces p q (part.hears channel m (Err (fault.Grammar bad))) goes is deeds all = (tt, all)
  part_announces p q (part.hears channel m (Ok h)) goes is deeds all = (tt, all)
  part_announces p q tries goes is deeds all = all
  part_announces p q keeps goes is deeds all = all
  part_announces p q forgets goes is deeds all = all
  part_announces p q misplaces goes is deeds all = all
  part_announces p q (directs st answer) goes is deeds all = all
  part_announces p q (calls place id does back items) goes is deeds all = stored_plain id (reverse items) deeds all
  part_announces p q (tells_gone device (Ok done)) goes is deeds all = (tt, all)
  part_announces p q (tells_gone device (Err error)) goes is deeds all = all
  part_announces p q (tells_there device (Ok done)) goes is deeds all = (tt, all)
  part_announces p q (tells_there device (Err error)) goes is deeds all = all
  part_announces p q (sends channel None) goes is deeds all = all
  part_announces p q (sends channel (Some o)) goes is deeds all = let (rest, first, left) = sent_first (p.front).client (q.front).client o (goes.1).0 in by o.answers (subst AreWaiting first is.waits).0
    where
      by : (answers : Option Key) → TellsOwn devices o.message → AllAnnounce (sent_by channel o.message answers ++ deeds)
      by None tells = (tells, all)
      by (Some key) tells = (tt, all)
  part_announces p q (writes device c) goes is deeds all = (tt, all)
  part_announces p q (unwritten device c) goes is deeds all = all
  part_announces p q (learns n answer) goes is deeds all = all
  part_announces p q (refreshes device) goes is deeds all = all
  part_announces p q (begins channel) goes is deeds all = all
  part_announces p q (ends over told) goes is deeds all = each_plain told deeds all

  parts_announce : (ps : List FrontPart) (p q : Served) → PartsGo p ps q → AreKept p → (deeds : List Deed) → AllAnnounce deeds → AreKept q × AllAnnounce (deeds_after ps deeds)
  parts_announce [] p q goes is deeds all = (subst AreKept (sym goes) is, all)
  parts_announce (x ∷ ps) p q goes is deeds all = parts_announce ps goes.0 q goes.2 (part_kept p goes.0 x goes.1 is) (deeds_of x ++ deeds) (part_announces p goes.0 x goes.1 is deeds all)

  -- What the calls of a history announce is of these devices.
  pub all_announce : (entries : List FrontEntry) (parts : List (List FrontPart)) (p q : Served) → HistoryGoes p entries parts q → AreKept p → (deeds : List Deed) → AllAnnounce deeds → AllAnnounce (deeds_of_calls parts deeds)
  all_announce [] [] p q goes is deeds all = all
  all_announce [] (ps ∷ parts) p q goes is deeds all = absurd goes
  all_announce (e ∷ entries) [] p q goes is deeds all = absurd goes
  all_announce (e ∷ entries) (ps ∷ parts) p q goes is deeds all =
      let after = parts_announce ps p goes.0 (goes.1).goes is deeds all in
      all_announce entries parts goes.0 q goes.2 after.0 (deeds_after ps deeds) after.1

  -- as a session begins
  first_ours : AreOpenable devices → AreOurs (printers_of devices) (map present_device (map (λ (d : ℕ × Declared). announce_of [] d.1) devices))
  first_ours openable = go devices (λ d has. has) (first_shaped devices openable)
    where
      go : (es : List (ℕ × Declared)) → ((d : ℕ × Declared) → Has d es → Has d devices)
          → AllZip (IsShaped (map (λ (d : ℕ × Declared). d.0) devices) (printers_of devices) []) es (map present_device (map (λ (d : ℕ × Declared). announce_of [] d.1) es))
          → AreOurs (printers_of devices) (map present_device (map (λ (d : ℕ × Declared). announce_of [] d.1) es))
      go [] has all = tt
      go (e ∷ es) has all =
          (record { device = e; is_one = has e (inl refl); own = (all.0).own; found = (all.0).found; data_of = []; announce_is = refl }, go es (λ d there. has d (inr there)) all.1)

  pub first_kept : AreOpenable devices → (p : Served) → (p.front).client ≡ new_client (map (λ (d : ℕ × Declared). announce_of [] d.1) devices) → (p.front).printers ≡ printers_of devices → AreKept p
  first_kept openable p same printers = record {
    each = subst (λ (c : ClientCoreState). AreOurs (p.front).printers c.devices) (sym same) (subst (λ (ps : List (ℕ × PrinterNames)). AreOurs ps (map present_device (map (λ (d : ℕ × Declared). announce_of [] d.1) devices))) (sym printers) (first_ours openable));
    waits = subst (λ (c : ClientCoreState). AreWaiting (c.core).outbox) (sym same) tt;
  }
