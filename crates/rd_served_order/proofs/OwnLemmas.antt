-- What holds of a front's client beside the order of its messages: its devices, its marks, and when it may be asked.
use Rattle.std.proofs.Common.{◌≡◌, ◌∙◌, refl, sym, ap, subst, inl, inr, ℕ, ◌<◌, ◌==◌, ◌||◌, ◌&&◌, Bool, true, false, not, List, [], ◌∷◌, ◌++◌, map, reverse, Option, Some, None, arith, append_assoc}
use Rattle.std.specs.Prelude.{◌⊎◌, Result, Ok, Err, if◌then◌else◌}
use Rattle.std.specs.declared.alloc.AllocError.{AllocError}
use Rattle.std.specs.List.{AllByRecursion}
use Rattle.std.specs.Map.{lookup}
use Rattle.std.specs.Option.{IfSome, option_map_or}
use Rattle.std.specs.Ordering.{nat_cmp}
use Rattle.std.specs.BTreeMap.{is_at}
use Rattle.std.proofs.lemmas.Bool.Decides.{nat_tests}
use Rattle.rd_base.specs.declared.journal.Item.{Item}
use Rattle.rd_base.specs.declared.journal.Key.{Key}
use Rattle.rd_client.specs.Core as client
use Rattle.rd_client.specs.Core.{AreDevices, ClientCoreState, ClientDevice, ClientStep, HostSays, Outgoing, announces, becomes_ready, client_hear, client_hear_made, client_opened, client_side, device_marked, hear_says, listed, may_be_asked, notices, plain, present_device, refresh, refreshed, replies, requests, with_outgoing}
use Rattle.rd_client.specs.declared.heard.Heard.{Heard}
use Rattle.rd_client.specs.declared.heard.Heard.TheVariants.{Nothing, Ask, Print}
use Rattle.rd_client.specs.Events.{without_data}
use Rattle.rd_client.proofs.KeptLemmas.{same_announces}
use Rattle.rd_client.proofs.TellingLemmas.{each_refreshed, refreshed_same}
use Rattle.rd_core.specs.Core as core
use Rattle.rd_core.specs.Core.{CoreState}
use Rattle.rd_core.specs.Hearing as hearing
use Rattle.rd_core.proofs.KeptLemmas.{kept_new}
use Rattle.rd_acted.proofs.ControlsReadyLemmas as ready
use Rattle.rd_acted.proofs.ControlsReadyLemmas.{hear_ready}
use Rattle.rd_desk.specs.declared.calls.DeskCall.{DeskCall}
use Rattle.rd_desk.specs.declared.calls.DeskCall.TheVariants as desk
use Rattle.rd_desk.specs.declared.calls.DeskReply.{DeskReply}
use Rattle.rd_desk.specs.declared.calls.DeskReply.TheVariants as replied
use Rattle.rd_devices.specs.declared.list.Announce.{Announce}
use Rattle.rd_devices.specs.DeviceList.{list_bytes}
use Rattle.rd_front.specs.Front.{with_new_data}
use Rattle.rd_front.specs.State.{DeviceDeskState, FrontState, SessionStation}
use Rattle.rd_hello.specs.declared.client.ClientState.{ClientState}
use Rattle.rd_hello.specs.declared.client.ClientState.TheVariants as client_state
use Rattle.rd_hello.specs.declared.end_fault.EndFault.{EndFault}
use Rattle.rd_hello.specs.declared.end_fault.EndFault.TheVariants as fault
use Rattle.rd_hello.specs.declared.hello.Hello.{Hello}
use Rattle.rd_hello.specs.declared.hello.Hello.TheVariants as greeting
use Rattle.rd_served.proofs.JournalsAskingLemmas as asking
use Rattle.rd_served.proofs.JournalsAskingLemmas.{HeardAs}
use Rattle.rd_served.specs.JournalsReads.{IsGiven}
use Rattle.rd_served.specs.OnChannel.{IsServedOn}
use Rattle.rd_served.proofs.CallLemmas.{some_held}
use Rattle.rd_served.proofs.RunsSizeLemmas.{ClientFits, added_fits, begun_fits, data_few, direct_fits, emptied_fits, heard_fits, refreshed_fits, removed_fits, sent_fits}
use Rattle.rd_station.specs.Memory.{NamesKey}
use Rattle.rd_station.specs.Station.{held}
use Rattle.rd_station.specs.declared.answers.Completion.{Completion}
use Rattle.rd_station.proofs.Members.{to_contains}
use Rattle.rd_declared.specs.Devices.{PrinterNames, printer_data}
use Rattle.rd_world.specs.Opening.{AreShort}
use Rattle.rd_declared.specs.Printers.{AreShortNames}
use Rattle.rd_deeds.specs.Talk.{Deed, adds, client_reads, is_removed, removes, stores}
use Rattle.rd_served.specs.Deeds.{deeds_of, sent_by, stored, stored_each}
use Rattle.rd_served.specs.Parts.{AsksBy, CallsAt, Comes, FrontPart, PartGoes, asking_by, begins, calls, directs, ended_front, ends, forgets, keeps, learns, misplaces, refreshes, sends, tells_gone, tells_there, tries, unwritten, writes}
use Rattle.rd_served.specs.Parts as part
use Rattle.rd_served.specs.Served.{Asking, Served, asks, hands, idle}
use Rattle.rd_served.proofs.AskedLemmas.{asked_may}
use Rattle.rd_served.proofs.HeldLemmas.{HeldIn, ready_held}
use Rattle.rd_served.proofs.KeyLemmas.{IsKeyed, current, did_calm, ended_is, has_at, middle_named, sent_calm, worked}
use Rattle.rd_served.proofs.StandingLemmas.{collected_ready}
use Rattle.rd_served_order.specs.Orders.{BeginsWith}

abbrev Of : Type 0
Of = SessionStation

-- ---- what is stored leaves the rest

pub stored_keeps : {X : Type 0} (F : List Deed → X) → ((device : ℕ) (x : Item) (deeds : List Deed) → F (stores device x ∷ deeds) ≡ F deeds) → (device : ℕ) (items : List Item) (deeds : List Deed) → F (map (stores device) items ++ deeds) ≡ F deeds
stored_keeps F keep device [] deeds = refl
stored_keeps F keep device (x ∷ items) deeds = keep device x (map (stores device) items ++ deeds) ∙ stored_keeps F keep device items deeds

pub each_keeps : {X : Type 0} (F : List Deed → X) → ((device : ℕ) (x : Item) (deeds : List Deed) → F (stores device x ∷ deeds) ≡ F deeds) → (told : List (ℕ × List Item)) (deeds : List Deed) → F (stored_each told ++ deeds) ≡ F deeds
each_keeps F keep [] deeds = refl
each_keeps F keep (t ∷ told) deeds =
    ap F (append_assoc (stored_each told) (stored t.0 t.1) deeds) ∙ each_keeps F keep told (stored t.0 t.1 ++ deeds) ∙ stored_keeps F keep t.0 (reverse t.1) deeds

-- ---- marks

-- each device of a client is marked as removed that was removed and not added since
abbrev pub MarksAre : List Deed → List ClientDevice → Type 0
MarksAre deeds ds = AllByRecursion (λ (d : ClientDevice). d.removed ≡ is_removed (d.announce).id deeds) ds

turned : (a b : ℕ) → (a == b) ≡ (b == a)
turned a b = by (a == b) refl (b == a) refl
  where
    by : (x : Bool) → (a == b) ≡ x → (y : Bool) → (b == a) ≡ y → x ≡ y
    by true e true f = refl
    by true e false f = grind (arith, nat_tests, e, f)
    by false e true f = grind (arith, nat_tests, e, f)
    by false e false f = refl

marks_same : (deeds more : List Deed) → ((device : ℕ) → is_removed device more ≡ is_removed device deeds) → (ds : List ClientDevice) → MarksAre deeds ds → MarksAre more ds
marks_same deeds more same [] all = tt
marks_same deeds more same (d ∷ ds) all = (all.0 ∙ sym (same (d.announce).id), marks_same deeds more same ds all.1)

marks_removed : (device : ℕ) (deeds : List Deed) (ds : List ClientDevice) → MarksAre deeds ds → MarksAre (removes device ∷ deeds) (map (device_marked device true) ds)
marks_removed device deeds [] all = tt
marks_removed device deeds (d ∷ ds) all = (by ((d.announce).id == device) refl, marks_removed device deeds ds all.1)
  where
    by : (b : Bool) → ((d.announce).id == device) ≡ b → let x = if b then record d { removed = true } else d in x.removed ≡ (device == (x.announce).id || is_removed (x.announce).id deeds)
    by true e = rw (turned device (d.announce).id, e) refl
    by false e = rw (turned device (d.announce).id, e) all.0

marks_added : (device : ℕ) (deeds : List Deed) (ds : List ClientDevice) → MarksAre deeds ds → MarksAre (adds device ∷ deeds) (map (device_marked device false) ds)
marks_added device deeds [] all = tt
marks_added device deeds (d ∷ ds) all = (by ((d.announce).id == device) refl, marks_added device deeds ds all.1)
  where
    by : (b : Bool) → ((d.announce).id == device) ≡ b → let x = if b then record d { removed = false } else d in x.removed ≡ (not (device == (x.announce).id) && is_removed (x.announce).id deeds)
    by true e = rw (turned device (d.announce).id, e) refl
    by false e = rw (turned device (d.announce).id, e) all.0

none_marked : (devices : List Announce) → MarksAre [] (map present_device devices)
none_marked [] = tt
none_marked (a ∷ devices) = (refl, none_marked devices)

-- ---- a client

-- Its devices are those that it was made with, but for their data; what it has to send fits; and it has those marked that were removed and not added since.
pub record IsFine (devices : List Announce) (c : ClientCoreState) (deeds : List Deed) : Type 0 where
  pub fits : ClientFits c
  pub same : map without_data (announces c) ≡ map without_data devices
  pub marks : MarksAre deeds c.devices

module _ (devices : List Announce) where
  -- the devices are the same
  fine_with : (c d : ClientCoreState) (deeds : List Deed) → d.devices ≡ c.devices → ClientFits d → IsFine devices c deeds → IsFine devices d deeds
  fine_with c d deeds same fits is = record {
    fits = fits;
    same = ap (λ (ds : List ClientDevice). map without_data (map client.announce_in ds)) same ∙ is.same;
    marks = subst (MarksAre deeds) (sym same) is.marks;
  }

  fine_heard : (c d : ClientCoreState) (m : List ℕ) (a : Result Heard EndFault) (deeds : List Deed) → hearing.Hears client_side (λ (x : ClientCoreState). x.core) client_hear c m a d → IsFine devices c deeds → IsFine devices d deeds
  fine_heard c d m a deeds did is = by a did
    where
      heard : (x : Result Heard EndFault) → client_hear c m ≡ (d, x) → IsFine devices d deeds
      heard x e =
          subst (λ (y : ClientCoreState). IsFine devices y deeds) (ap (λ (r : ClientCoreState × Result Heard EndFault). r.0) e)
          (fine_with c (client_hear c m).0 deeds (ready.client_kept c m).devices (heard_fits c is.fits m) is)

      by : (x : Result Heard EndFault) → hearing.Hears client_side (λ (y : ClientCoreState). y.core) client_hear c m x d → IsFine devices d deeds
      by (Err fault.Memory) did = subst (λ (y : ClientCoreState). IsFine devices y deeds) (sym did.1) is
      by (Err (fault.Order state packet)) did = heard _ did
      by (Err (fault.Grammar bad)) did = heard _ did
      by (Ok h) did = heard _ did

  fine_removed : (c : ClientCoreState) (device : ℕ) (deeds : List Deed) → IsFine devices c deeds → IsFine devices (client.tell_removed c device) (removes device ∷ deeds)
  fine_removed c device deeds is = record {
    fits = removed_fits c is.fits device;
    same = ap (map without_data) (same_announces device true c.devices) ∙ is.same;
    marks = marks_removed device deeds c.devices is.marks;
  }

  fine_added : (c : ClientCoreState) (device : ℕ) (deeds : List Deed) → IsFine devices c deeds → IsFine devices (client.tell_added c device) (adds device ∷ deeds)
  fine_added c device deeds is = record {
    fits = added_fits c is.fits device;
    same = ap (map without_data) (same_announces device false c.devices) ∙ is.same;
    marks = marks_added device deeds c.devices is.marks;
  }

  fine_refreshed : (c : ClientCoreState) (device : ℕ) (body : List ℕ) (deeds : List Deed) → ClientFits (refresh c device body) → IsFine devices c deeds → IsFine devices (refresh c device body) deeds
  fine_refreshed c device body deeds fits is = record {
    fits = fits;
    same = refreshed_same device body c.devices ∙ is.same;
    marks = each_refreshed (λ (id : ℕ) (removed : Bool). removed ≡ is_removed id deeds) device body c.devices is.marks;
  }

-- ---- when a client may be asked

may_rows : (state : ClientState) (greets : Hello) → may_be_asked state ≡ true → IfSome (client_side.row state greets) (λ row. may_be_asked row.next ≡ true)
may_rows client_state.Waiting greeting.LoggedOn is = refl
may_rows client_state.Waiting _ is = tt
may_rows client_state.Ready greeting.LoggedOn is = refl
may_rows client_state.Ready _ is = tt
may_rows client_state.Start greets is = absurd (cc (is))
may_rows client_state.Named greets is = absurd (cc (is))
may_rows client_state.Confirmed greets is = absurd (cc (is))
may_rows (client_state.Offered tells) greets is = absurd (cc (is))

may_heard : (c : ClientCoreState) (m : List ℕ) → may_be_asked (c.core).shake ≡ true → may_be_asked (((client_hear c m).0).core).shake ≡ true
may_heard c m may = by_made (hearing.hear client_side c.core m) (hear_ready client_side may_be_asked may_rows c.core m may)
  where
    opened : (after : CoreState ClientState Outgoing) → may_be_asked after.shake ≡ true → may_be_asked ((client_opened c after).core).shake ≡ true
    opened after own = by (becomes_ready (c.core).shake after.shake)
      where
        by : (b : Bool) → let x = if b then with_outgoing (record c { core = after }) (plain (list_bytes (listed c))) else record c { core = after } in may_be_asked (x.core).shake ≡ true
        by true = own
        by false = own

    by_made : (r : CoreState ClientState Outgoing × Result (Option HostSays) EndFault) → may_be_asked (r.0).shake ≡ true → may_be_asked (((client_hear_made c r).0).core).shake ≡ true
    by_made (after, Err cause) own = own
    by_made (after, Ok None) own = opened after own
    by_made (after, Ok (Some (requests r))) own = own
    by_made (after, Ok (Some (replies r))) own = own
    by_made (after, Ok (Some (notices n))) own = own

-- a client that heard a request may be asked
abbrev pub MayAsked : ClientCoreState → Type 0
MayAsked c = 0 < c.asked → may_be_asked (c.core).shake ≡ true

asked_heard : (c d : ClientCoreState) (m : List ℕ) (a : Result Heard EndFault) → hearing.Hears client_side (λ (x : ClientCoreState). x.core) client_hear c m a d → MayAsked c → MayAsked d
asked_heard c d m a did may = by a did
  where
    stays : (a : Result Heard EndFault) → client_hear c m ≡ (d, a) → d.asked ≡ c.asked → MayAsked d
    stays a e same = λ some. subst (λ (x : ClientCoreState). may_be_asked (x.core).shake ≡ true) (ap (λ (r : ClientCoreState × Result Heard EndFault). r.0) e) (may_heard c m (may (omega (arith, same, some))))

    heard : (a : Result Heard EndFault) → client_hear c m ≡ (d, a) → HeardAs c m (d, a) → MayAsked d
    heard (Err cause) e so = stays (Err cause) e so.1
    heard (Ok Nothing) e so = stays (Ok Nothing) e so.1
    heard (Ok (Print n)) e so = stays (Ok (Print n)) e so.1
    heard (Ok (Ask device job)) e so = λ some. asked_may c d m device job e

    by : (x : Result Heard EndFault) → hearing.Hears client_side (λ (y : ClientCoreState). y.core) client_hear c m x d → MayAsked d
    by (Err fault.Memory) did = subst MayAsked (sym did.1) may
    by (Err (fault.Order state packet)) did = heard _ did (subst (HeardAs c m) did (asking.hears c m))
    by (Err (fault.Grammar bad)) did = heard _ did (subst (HeardAs c m) did (asking.hears c m))
    by (Ok h) did = heard _ did (subst (HeardAs c m) did (asking.hears c m))

asked_calm : (c d : ClientCoreState) → (d.channel ≡ c.channel) × (d.asked ≡ c.asked) × ((d.core).shake ≡ (c.core).shake) → MayAsked c → MayAsked d
asked_calm c d same may = λ some. ap may_be_asked same.2 ∙ may (let e = same.1 in omega (arith, e, some))

-- ---- a completion that a desk hands out

-- something is held only while a channel is on
held_on : (on : Bool) (channel count : ℕ) (s : Of) → IsServedOn (current on channel) s → ((key : Key) → NamesKey s.journal key → IsGiven channel count key) → (x : Key × ℕ) → HeldIn s x → on ≡ true
held_on on channel count s at given x has =
    let (last, is, same) = at.sound.remembers.channel x (to_contains (held s) x has) in
    elim (at.last last is) [ inl here ↦ by on here (given last (at.sound.remembers.named last is)) | inr idle_so ↦ absurd (some_held s idle_so x has) ]
  where
    by : (b : Bool) {last : Key} → last.channel ≡ current b channel → IsGiven channel count last → b ≡ true
    by true here is = refl
    by false here (inl less) = absurd (omega (arith, here, less))
    by false here (inr is) = absurd (let e = is.0 in omega (arith, here, e))

collects_on : (p q : Served) (place id : ℕ) (x : Completion) (items : List Item) → CallsAt p place id desk.Collect (replied.Collected (Some x)) items q → IsKeyed p → (p.front).on ≡ true
collects_on p q place id x items at keyed =
    let middle : Of = (at.called).middle in
    let work = worked p q place id desk.Collect (replied.Collected (Some x)) items keyed at in
    let made = collected_ready middle (((at.called).step).0).0 x (((at.called).step).0).1 in
    held_on (p.front).on (p.front).channel ((p.front).client).asked middle work.on
    (λ key names. keyed.named at.first (has_at p.stations place at.first at.has) key (middle_named p q place id desk.Collect (replied.Collected (Some x)) items keyed at key names)) (x.key, x.completion) (ready_held middle x made.0)

-- where a completion comes from that is handed out
pub hands_from : (p : Served) (place id : ℕ) (does : DeskCall) (back : DeskReply) (after : Asking) → AsksBy p place id does back after → (device : ℕ) (x : Completion) → after ≡ hands device x
    → (p.asking ≡ hands device x) ⊎ ((does ≡ desk.Collect) × (back ≡ replied.Collected (Some x)))
hands_from p place id desk.Collect (replied.Collected (Some c)) after is device x e = let both : hands id c ≡ hands device x = sym is.1 ∙ e in let same : c ≡ x = cc (both) in inr (refl, ap (λ (y : Completion). replied.Collected (Some y)) same)
hands_from p place id desk.Collect (replied.Collected None) after is device x e = inl (sym is ∙ e)
hands_from p place id desk.Collect (replied.Announced answer) after is device x e = inl (sym is ∙ e)
hands_from p place id desk.Collect (replied.Put answer) after is device x e = inl (sym is ∙ e)
hands_from p place id desk.Collect (replied.Unfit job) after is device x e = inl (sym is ∙ e)
hands_from p place id desk.Collect (replied.Worked w) after is device x e = inl (sym is ∙ e)
hands_from p place id desk.Collect (replied.Removed answer) after is device x e = inl (sym is ∙ e)
hands_from p place id desk.Collect replied.Dropped after is device x e = inl (sym is ∙ e)
hands_from p place id desk.Collect replied.Ended after is device x e = inl (sym is ∙ e)
hands_from p place id (desk.Put job) (replied.Put (Ok done)) after is device x e = absurd (let i = is.1 in cc (i, e))
hands_from p place id (desk.Put job) (replied.Put (Err refusal)) after is device x e = absurd (let i = is.1 in cc (i, e))
hands_from p place id (desk.Put job) (replied.Unfit back) after is device x e = absurd (let i = is.1 in cc (i, e))
hands_from p place id (desk.Put job) (replied.Announced answer) after is device x e = absurd is.1
hands_from p place id (desk.Put job) (replied.Worked w) after is device x e = absurd is.1
hands_from p place id (desk.Put job) (replied.Collected answer) after is device x e = absurd is.1
hands_from p place id (desk.Put job) (replied.Removed answer) after is device x e = absurd is.1
hands_from p place id (desk.Put job) replied.Dropped after is device x e = absurd is.1
hands_from p place id (desk.Put job) replied.Ended after is device x e = absurd is.1
hands_from p place id desk.Announce back after is device x e = inl (sym is ∙ e)
hands_from p place id desk.Remove back after is device x e = inl (sym is ∙ e)
hands_from p place id (desk.Work runs) back after is device x e = inl (sym is ∙ e)
hands_from p place id desk.DropChannel back after is device x e = inl (sym is ∙ e)
hands_from p place id desk.End back after is device x e = inl (sym is ∙ e)

pub call_as : (p q : Served) (place id : ℕ) (does other : DeskCall) (back said : DeskReply) (items : List Item) → does ≡ other → back ≡ said → CallsAt p place id does back items q → CallsAt p place id other said items q
call_as p q place id does other back said items same same_too at =
    subst (λ (w : DeskCall). CallsAt p place id w said items q) same (subst (λ (b : DeskReply). CallsAt p place id does b items q) same_too at)

pub asked_never : (a : Result Heard EndFault) (device : ℕ) (c : Completion) → asking_by a ≡ hands device c → ⊥
asked_never (Ok (Ask d job)) device c e = cc (e)
asked_never (Ok Nothing) device c e = cc (e)
asked_never (Ok (Print n)) device c e = cc (e)
asked_never (Err cause) device c e = cc (e)

pub never_by : (a b : Asking) → a ≡ b → ((device : ℕ) (x : Completion) → b ≡ hands device x → ⊥) → (device : ℕ) (x : Completion) → a ≡ hands device x → ⊥
never_by a b is never device x e = never device x (sym is ∙ e)

pub idle_never : (device : ℕ) (x : Completion) → idle ≡ hands device x → ⊥
idle_never device x e = cc (e)

-- ---- a front's client

abbrev pub AreShortAll : List (ℕ × PrinterNames) → Type 0
AreShortAll printers = AllByRecursion (λ (p : ℕ × PrinterNames). AreShortNames p.1) printers

-- The client is fine, a printer's names are short, a client that heard a request on the channel may be asked, and a completion is handed out while a channel is on.
pub record IsOwn (devices : List Announce) (p : Served) (deeds : List Deed) : Type 0 where
  pub fine : IsFine devices (p.front).client deeds
  pub names : AreShortAll (p.front).printers
  pub asked : (p.front).on ≡ true → MayAsked (p.front).client
  pub handing : (device : ℕ) (x : Completion) → p.asking ≡ hands device x → (p.front).on ≡ true

pub named_one : (device : ℕ) (es : List (ℕ × PrinterNames)) → AreShortAll es → IfSome (lookup (is_at (nat_cmp device)) es) AreShortNames
named_one device [] all = tt
named_one device (e ∷ es) all = by (is_at (nat_cmp device) e.0) (named_one device es all.1)
  where
    by : (b : Bool) → IfSome (lookup (is_at (nat_cmp device)) es) AreShortNames → IfSome (if b then Some e.1 else lookup (is_at (nat_cmp device)) es) AreShortNames
    by true later = all.0
    by false later = later

module _ (devices : List Announce) where
  -- a front with this client, and the rest as it was
  own_with : (p q : Served) (deeds : List Deed) → IsFine devices (q.front).client deeds → (q.front).printers ≡ (p.front).printers → ((q.front).on ≡ true → MayAsked (q.front).client)
      → ((device : ℕ) (x : Completion) → q.asking ≡ hands device x → (q.front).on ≡ true) → AreShortAll (p.front).printers → IsOwn devices q deeds
  own_with p q deeds fine printers asked handing names = record { fine = fine; names = subst AreShortAll (sym printers) names; asked = asked; handing = handing }

  -- nothing is done, by the client and by others
  own_same : (p q : Served) (deeds : List Deed) → (q.front).client ≡ (p.front).client → (q.front).printers ≡ (p.front).printers → (q.front).on ≡ (p.front).on
      → ((device : ℕ) (x : Completion) → q.asking ≡ hands device x → (p.front).on ≡ true) → IsOwn devices p deeds → IsOwn devices q deeds
  own_same p q deeds same printers on handing is =
      own_with p q deeds (subst (λ (c : ClientCoreState). IsFine devices c deeds) (sym same) is.fine) printers
      (λ now. subst MayAsked (sym same) (is.asked (sym on ∙ now))) (λ device x e. on ∙ handing device x e) is.names

  own_stored : (p : Served) (deeds more : List Deed) → ((device : ℕ) → is_removed device more ≡ is_removed device deeds) → IsOwn devices p deeds → IsOwn devices p more
  own_stored p deeds more same is = record {
    fine = record { fits = is.fine.fits; same = is.fine.same; marks = marks_same deeds more same ((p.front).client).devices is.fine.marks };
    names = is.names;
    asked = is.asked;
    handing = is.handing;
  }

  kept_removed : (device e : ℕ) (x : Item) (deeds : List Deed) → is_removed device (stores e x ∷ deeds) ≡ is_removed device deeds
  kept_removed device e x deeds = refl

  -- the core did something, or found no memory for it
  own_did : (p q : Served) (deeds : List Deed) (unsent : ℕ) (answer : Result (Unit {0}) AllocError) (done : ClientCoreState) → core.Did answer done (p.front).client (q.front).client
      → q.front ≡ record p.front { client = (q.front).client; unsent = unsent } → done.channel ≡ ((p.front).client).channel → done.asked ≡ ((p.front).client).asked → (done.core).shake ≡ (((p.front).client).core).shake
      → IsFine devices (q.front).client deeds → ((device : ℕ) (x : Completion) → q.asking ≡ hands device x → p.asking ≡ hands device x) → (was : List Deed) → IsOwn devices p was → IsOwn devices q deeds
  own_did p q deeds unsent answer done did front channel asked shake fine handing was is =
      let on = ap (λ (s : FrontState). s.on) front in
      own_with p q deeds fine (ap (λ (s : FrontState). s.printers) front)
      (λ now. asked_calm (p.front).client (q.front).client (did_calm answer done (p.front).client (q.front).client did channel asked shake) (is.asked (sym on ∙ now)))
      (λ device x e. on ∙ is.handing device x (handing device x e)) is.names

  fine_did : (c d done : ClientCoreState) (deeds : List Deed) (answer : Result (Unit {0}) AllocError) → core.Did answer done c d → IsFine devices done deeds → IsFine devices c deeds → IsFine devices d deeds
  fine_did c d done deeds (Ok u) did after before = subst (λ (x : ClientCoreState). IsFine devices x deeds) (sym did) after
  fine_did c d done deeds (Err error) did after before = subst (λ (x : ClientCoreState). IsFine devices x deeds) (sym did) before

  refreshed_own : (p : Served) (device : ℕ) (deeds : List Deed) → IsOwn devices p deeds → IsOwn devices (record p { front = with_new_data p.front device }) deeds
  refreshed_own p device deeds is = by (lookup (is_at (nat_cmp device)) (p.front).printers) (named_one device (p.front).printers is.names)
    where
      by : (o : Option PrinterNames) → IfSome o AreShortNames → IsOwn devices (record p { front = option_map_or (λ (names : PrinterNames). record p.front { client = client.refresh (p.front).client device (printer_data (p.front).cache names) }) o p.front }) deeds
      by None short = is
      by (Some names) short = record {
        fine = fine_refreshed devices (p.front).client device (printer_data (p.front).cache names) deeds
            (refreshed_fits (p.front).client is.fine.fits device (printer_data (p.front).cache names) (data_few (p.front).cache names short)) is.fine;
        names = is.names;
        asked = is.asked;
        handing = is.handing;
      }

  sent_fine : (c d : ClientCoreState) (o : Option Outgoing) (deeds : List Deed) → client.client_send c ≡ (d, o) → IsFine devices c deeds → IsFine devices d deeds
  sent_fine c d None deeds made is = by (c.core).outbox refl made
    where
      by : (os : List Outgoing) → (c.core).outbox ≡ os → ◌≡◌ {A = ClientCoreState × Option Outgoing} (let r = core.send_from c.core os in (record c { core = r.0 }, r.1)) (d, None) → IsFine devices d deeds
      by [] e f = subst (λ (x : ClientCoreState). IsFine devices x deeds) (ap (λ (r : ClientCoreState × Option Outgoing). r.0) f) is
      by (o ∷ os) e f = absurd (let g : Some o ≡ None = ap (λ (r : ClientCoreState × Option Outgoing). r.1) f in cc (g))
  sent_fine c d (Some o) deeds made is =
      fine_with devices c d deeds (sym (ap (λ (r : ClientCoreState × Option Outgoing). (r.0).devices) made)) (sent_fits c is.fits d o made).1 is

  ended_front_is : (over : Bool) (s : FrontState) (desks : List DeviceDeskState) → let t = ended_front over s desks in (t.client ≡ record s.client { core = record (s.client).core { outbox = [] } }) × (t.printers ≡ s.printers)
  ended_front_is true s desks = (refl, refl)
  ended_front_is false s desks = (refl, refl)

  pub part_own : (p q : Served) (x : FrontPart) (deeds : List Deed) → PartGoes p x q → IsKeyed p → IsOwn devices p deeds → IsOwn devices q (deeds_of x ++ deeds)
  part_own p q (part.hears channel m answer) deeds goes keyed is = by answer
    where
      on : (q.front).on ≡ (p.front).on
      on = ap (λ (s : FrontState). s.on) (goes.3).1

      so : IsOwn devices q deeds
      so = own_with p q deeds (fine_heard devices (p.front).client (q.front).client m answer deeds ((goes.3).0).1 is.fine) (ap (λ (s : FrontState). s.printers) (goes.3).1)
          (λ now. asked_heard (p.front).client (q.front).client m answer ((goes.3).0).1 (is.asked (sym on ∙ now)))
          (λ device x e. absurd (never_by q.asking (asking_by answer) goes.4 (asked_never answer) device x e)) is.names

      by : (a : Result Heard EndFault) → IsOwn devices q (deeds_of (part.hears channel m a) ++ deeds)
      by (Err fault.Memory) = so
      by (Err (fault.Order state packet)) = own_stored q deeds (client_reads channel m ∷ deeds) (λ device. refl) so
      by (Err (fault.Grammar bad)) = own_stored q deeds (client_reads channel m ∷ deeds) (λ device. refl) so
      by (Ok h) = own_stored q deeds (client_reads channel m ∷ deeds) (λ device. refl) so
  part_own p q tries deeds goes keyed is =
      own_same p q deeds (ap (λ (s : Served). (s.front).client) goes.4) (ap (λ (s : Served). (s.front).printers) goes.4) (ap (λ (s : Served). (s.front).on) goes.4)
      (λ device x e. absurd (never_by q.asking (asks goes.0) (ap (λ (s : Served). s.asking) goes.4) (λ d y f. cc (f)) device x e)) is
  part_own p q keeps deeds goes keyed is =
      own_same p q deeds (ap (λ (s : Served). (s.front).client) goes.3) (ap (λ (s : Served). (s.front).printers) goes.3) (ap (λ (s : Served). (s.front).on) goes.3)
      (λ device x e. absurd (never_by q.asking idle (ap (λ (s : Served). s.asking) goes.3) idle_never device x e)) is
  part_own p q forgets deeds goes keyed is =
      own_same p q deeds (ap (λ (s : Served). (s.front).client) goes.4) (ap (λ (s : Served). (s.front).printers) goes.4) (ap (λ (s : Served). (s.front).on) goes.4)
      (λ device x e. absurd (never_by q.asking idle (ap (λ (s : Served). s.asking) goes.4) idle_never device x e)) is
  part_own p q misplaces deeds goes keyed is =
      own_same p q deeds (ap (λ (s : Served). (s.front).client) goes.3) (ap (λ (s : Served). (s.front).printers) goes.3) (ap (λ (s : Served). (s.front).on) goes.3)
      (λ device x e. absurd (never_by q.asking idle (ap (λ (s : Served). s.asking) goes.3) idle_never device x e)) is
  part_own p q (directs st answer) deeds goes keyed is =
      own_did p q deeds _ answer (client.direct (p.front).client (goes.0).job (goes.0).device st) ((goes.2).0).1 (goes.2).1 refl refl refl
      (fine_did (p.front).client (q.front).client (client.direct (p.front).client (goes.0).job (goes.0).device st) deeds answer ((goes.2).0).1
      (fine_with devices (p.front).client (client.direct (p.front).client (goes.0).job (goes.0).device st) deeds refl (direct_fits (p.front).client is.fine.fits (goes.0).job (goes.0).device st) is.fine) is.fine)
      (λ device x e. absurd (never_by q.asking idle goes.3 idle_never device x e)) deeds is
  part_own p q (calls place id does back items) deeds goes keyed is =
      own_stored q deeds (stored id items ++ deeds) (λ device. stored_keeps (is_removed device) (kept_removed device) id (reverse items) deeds)
      (own_same p q deeds (ap (λ (s : FrontState). s.client) goes.front_is) (ap (λ (s : FrontState). s.printers) goes.front_is) (ap (λ (s : FrontState). s.on) goes.front_is)
      (λ device x e. elim (hands_from p place id does back q.asking goes.asking_is device x e) [
        | inl was ↦ is.handing device x was
        | inr here ↦ collects_on p q place id x items (call_as p q place id does desk.Collect back (replied.Collected (Some x)) items here.0 here.1 goes) keyed
      ]) is)
  part_own p q (tells_gone device (Ok done)) deeds goes keyed is =
      own_did p q (removes device ∷ deeds) _ (Ok done) (client.tell_removed (p.front).client device) ((goes.0).0).1 (goes.0).1 refl refl refl
      (subst (λ (c : ClientCoreState). IsFine devices c (removes device ∷ deeds)) (sym ((goes.0).0).1) (fine_removed devices (p.front).client device deeds is.fine)) (λ d x e. sym goes.1 ∙ e) deeds is
  part_own p q (tells_gone device (Err error)) deeds goes keyed is =
      own_did p q deeds _ (Err error) (client.tell_removed (p.front).client device) ((goes.0).0).1 (goes.0).1 refl refl refl
      (subst (λ (c : ClientCoreState). IsFine devices c deeds) (sym ((goes.0).0).1) is.fine) (λ d x e. sym goes.1 ∙ e) deeds is
  part_own p q (tells_there device (Ok done)) deeds goes keyed is =
      own_did p q (adds device ∷ deeds) _ (Ok done) (client.tell_added (p.front).client device) ((goes.0).0).1 (goes.0).1 refl refl refl
      (subst (λ (c : ClientCoreState). IsFine devices c (adds device ∷ deeds)) (sym ((goes.0).0).1) (fine_added devices (p.front).client device deeds is.fine)) (λ d x e. sym goes.1 ∙ e) deeds is
  part_own p q (tells_there device (Err error)) deeds goes keyed is =
      own_did p q deeds _ (Err error) (client.tell_added (p.front).client device) ((goes.0).0).1 (goes.0).1 refl refl refl
      (subst (λ (c : ClientCoreState). IsFine devices c deeds) (sym ((goes.0).0).1) is.fine) (λ d x e. sym goes.1 ∙ e) deeds is
  part_own p q (sends channel sent) deeds goes keyed is = by sent
    where
      on : (q.front).on ≡ (p.front).on
      on = ap (λ (s : FrontState). s.on) (goes.1).1

      so : IsOwn devices q deeds
      so = own_with p q deeds (sent_fine (p.front).client (q.front).client sent deeds (goes.1).0 is.fine) (ap (λ (s : FrontState). s.printers) (goes.1).1)
          (λ now. asked_calm (p.front).client (q.front).client (sent_calm (p.front).client (q.front).client sent (goes.1).0) (is.asked (sym on ∙ now)))
          (λ device x e. on ∙ is.handing device x (sym goes.2 ∙ e)) is.names

      written : (channel : ℕ) (m : List ℕ) (answers : Option Key) → IsOwn devices q (sent_by channel m answers ++ deeds)
      written channel m None = own_stored q deeds (sent_by channel m None ++ deeds) (λ device. refl) so
      written channel m (Some key) = own_stored q deeds (sent_by channel m (Some key) ++ deeds) (λ device. refl) so

      by : (o : Option Outgoing) → IsOwn devices q (deeds_of (sends channel o) ++ deeds)
      by None = so
      by (Some o) = written channel o.message o.answers
  part_own p q (writes device c) deeds goes keyed is =
      own_stored q deeds (deeds_of (writes device c) ++ deeds) (λ device. refl)
      (own_same p q deeds (ap (λ (s : Served). (s.front).client) goes.1) (ap (λ (s : Served). (s.front).printers) goes.1) (ap (λ (s : Served). (s.front).on) goes.1)
      (λ device x e. absurd (never_by q.asking idle (ap (λ (s : Served). s.asking) goes.1) idle_never device x e)) is)
  part_own p q (unwritten device c) deeds goes keyed is =
      own_same p q deeds (ap (λ (s : Served). (s.front).client) goes.1) (ap (λ (s : Served). (s.front).printers) goes.1) (ap (λ (s : Served). (s.front).on) goes.1)
      (λ device x e. absurd (never_by q.asking idle (ap (λ (s : Served). s.asking) goes.1) idle_never device x e)) is
  part_own p q (learns n answer) deeds goes keyed is =
      own_same p q deeds (ap (λ (s : Served). (s.front).client) goes.1) (ap (λ (s : Served). (s.front).printers) goes.1) (ap (λ (s : Served). (s.front).on) goes.1)
      (λ device x e. is.handing device x (sym (ap (λ (s : Served). s.asking) goes.1) ∙ e)) is
  part_own p q (refreshes device) deeds goes keyed is = subst (λ (s : Served). IsOwn devices s deeds) (sym goes) (refreshed_own p device deeds is)
  part_own p q (begins channel) deeds goes keyed is = subst (λ (s : Served). IsOwn devices s deeds) (sym goes.3) (record {
    fine = fine_with devices (p.front).client (client.client_begin (p.front).client channel) deeds refl (begun_fits (p.front).client is.fine.fits channel) is.fine;
    names = is.names;
    asked = λ now none. absurd (omega (arith, none));
    handing = λ device x e. refl;
  })
  part_own p q (ends over told) deeds goes keyed is =
      let made = ended_front_is over p.front (q.front).desks in
      let state = ended_is over p.front (q.front).desks in
      let off : (q.front).on ≡ false = ap (λ (s : FrontState). s.on) goes.2 ∙ state.0 in
      own_stored q deeds (stored_each told ++ deeds) (λ device. each_keeps (is_removed device) (kept_removed device) told deeds)
      (own_with p q deeds
      (subst (λ (c : ClientCoreState). IsFine devices c deeds) (sym (ap (λ (s : FrontState). s.client) goes.2 ∙ made.0))
      (fine_with devices (p.front).client (record (p.front).client { core = record ((p.front).client).core { outbox = [] } }) deeds refl (emptied_fits (p.front).client is.fine.fits) is.fine))
      (ap (λ (s : FrontState). s.printers) goes.2 ∙ made.1) (λ now. absurd (cc (off, now)))
      (λ device x e. absurd (never_by q.asking idle goes.3 idle_never device x e)) is.names)

  new_announces : (list : List Announce) → map client.announce_in (map present_device list) ≡ list
  new_announces [] = refl
  new_announces (a ∷ list) = ap (λ (others : List Announce). a ∷ others) (new_announces list)

  new_fits : AreDevices devices → AreShort devices → ClientFits (client.new_client devices)
  new_fits are short = record {
    kept = record { core = kept_new (λ (o : Outgoing). o.message) client_state.Start; devices = subst AreDevices (sym (new_announces devices)) are };
    short = subst AreShort (sym (new_announces devices)) short;
  }

  pub begins_own : (p : Served) → BeginsWith devices p → IsOwn devices p []
  begins_own p start = record {
    fine = subst (λ (c : ClientCoreState). IsFine devices c []) (sym start.client)
        (record { fits = new_fits start.are start.short; same = ap (map without_data) (new_announces devices); marks = none_marked devices });
    names = start.names;
    asked = λ now. absurd (let off = start.new.new.off in cc (off, now));
    handing = λ device x e. absurd (never_by p.asking idle start.new.idle_is idle_never device x e);
  }
