-- What is seen of a control line's event, and what follows from it.
use Rattle.std.proofs.Common.{◌≡◌, ◌∙◌, refl, sym, ap, subst, ℕ, ◌+◌, Bool, true, false, List, [], ◌∷◌, ◌++◌, map, fold, reverse, Some, None, Option, append-nil}
use Rattle.std.specs.Prelude.{filter, filter_map, if◌then◌else◌, is_some, not}
use Rattle.std.specs.Map.{lookup}
use Rattle.std.specs.Ordering.{nat_cmp}
use Rattle.std.specs.BTreeMap.{is_at}
use Rattle.std.specs.Option.{IfSome}
use Rattle.std.proofs.lemmas.List.Elements.{filter-append}
use Rattle.rd_client.specs.Core as client
use Rattle.rd_client.specs.Core.{device_marked}
use Rattle.rd_controls.proofs.Marks.{added_marks, marked_by, refresh_marks, removed_marks}
use Rattle.rd_controls.proofs.Numbers.{Rise, numbers, reverse_cons, rise_with, rise_without}
use Rattle.rd_controls.proofs.Unseen.{Seen, Unseen, all_take_unseen, announced, option_unseen, seen, stationed, tries_unseen, unseen_by, unseen_none}
use Rattle.rd_pending.specs.Table as table
use Rattle.rd_pending.specs.Table.{TableState}
use Rattle.rd_printer.specs.declared.notice.Notice.{Notice}
use Rattle.rd_script.specs.declared.line.NumberedLine.{NumberedLine}
use Rattle.rd_station.specs.Station as station
use Rattle.rd_station.specs.Station.{StationState}
use Rattle.rd_world.specs.Acts.{act_by, is_errand_at}
use Rattle.rd_world.specs.Control as control
use Rattle.rd_world.specs.Control.{Control, added_at, connected, dropped_at, idled, noticed_at, removed_at}
use Rattle.rd_declared.specs.Devices.{PrinterNames, device_cut, printer_data}
use Rattle.rd_world.specs.Events.{adds_device, connects, cutting, dropping, drops, refreshing, removes_device, removing, telling_of}
use Rattle.rd_world.specs.Hearing.{with_client}
use Rattle.rd_world.specs.Run.{idles}
use Rattle.rd_deeds.specs.Talk.{adds, removes}
use Rattle.rd_world.specs.World.{WorldState, station_at, with_deed, with_station}
use Rattle.rd_declared.specs.declared.device.SessionDevice.{SessionDevice}

module _ (ids : List ℕ) (lines : List NumberedLine) where
  -- What is seen of a world is what control lines did, with these lines still to come.
  pub record SeenAs (c : Control) (ls : List NumberedLine) (s : Seen) : Type 0 where
    pub number : s.number ≡ 1
    pub channel : s.channel ≡ c.current
    pub channels : s.channels ≡ c.channels
    pub last : IfSome c.current (λ x. x ≡ c.channels)
    pub marks : s.marks ≡ marked_by c.absent ids
    pub acts : reverse s.acts ≡ c.acts
    pub idle : filter (λ number. not (is_errand_at lines number)) s.idle ≡ c.idle
    pub rises : Rise (s.idle ++ numbers ls)

  -- ---- lines that do nothing

  pub passed : (c : Control) (l : NumberedLine) (ls : List NumberedLine) (s : Seen) → SeenAs c (l ∷ ls) s → SeenAs c ls s
  passed c l ls s sees = record {
    number = sees.number;
    channel = sees.channel;
    channels = sees.channels;
    last = sees.last;
    marks = sees.marks;
    acts = sees.acts;
    idle = sees.idle;
    rises = rise_without s.idle l.number (numbers ls) sees.rises;
  }

  -- one that did nothing and is no `do` line
  pub idled_as : (c : Control) (l : NumberedLine) (ls : List NumberedLine) (w : WorldState) → is_errand_at lines l.number ≡ false → SeenAs c (l ∷ ls) (seen w)
      → SeenAs (idled c l.number) ls (seen (idles w l.number))
  idled_as c l ls w off sees = record {
    number = sees.number;
    channel = sees.channel;
    channels = sees.channels;
    last = sees.last;
    marks = sees.marks;
    acts = sees.acts;
    idle = filter-append (λ number. not (is_errand_at lines number)) w.idle (l.number ∷ []) ∙ ap (λ (b : Bool). filter (λ number. not (is_errand_at lines number)) w.idle ++ (if not b then l.number ∷ [] else [])) off
        ∙ ap (λ (ns : List ℕ). ns ++ l.number ∷ []) sees.idle;
    rises = rise_with w.idle l.number (numbers ls) sees.rises;
  }

  -- a `do` line that did nothing
  pub errand_idled : (c : Control) (l : NumberedLine) (ls : List NumberedLine) (w : WorldState) → is_errand_at lines l.number ≡ true → SeenAs c (l ∷ ls) (seen w)
      → SeenAs c ls (seen (idles w l.number))
  errand_idled c l ls w on sees = record {
    number = sees.number;
    channel = sees.channel;
    channels = sees.channels;
    last = sees.last;
    marks = sees.marks;
    acts = sees.acts;
    idle = filter-append (λ number. not (is_errand_at lines number)) w.idle (l.number ∷ []) ∙ ap (λ (b : Bool). filter (λ number. not (is_errand_at lines number)) w.idle ++ (if not b then l.number ∷ [] else [])) on
        ∙ append-nil (filter (λ number. not (is_errand_at lines number)) w.idle) ∙ sees.idle;
    rises = rise_with w.idle l.number (numbers ls) sees.rises;
  }

  -- ---- events

  one_more : (a : control.Act) (acts : List control.Act) (said : List control.Act) → reverse acts ≡ said → reverse (a ∷ acts) ≡ said ++ a ∷ []
  one_more a acts said same = reverse_cons a acts ∙ ap (λ (more : List control.Act). more ++ a ∷ []) same

  pub told_as : (c : Control) (ls : List NumberedLine) (w : WorldState) (n : Notice) (x : ℕ) → SeenAs c ls (seen w) → SeenAs (noticed_at c n x) ls (seen (telling_of w n))
  told_as c ls w n x sees = record {
    number = sees.number;
    channel = sees.channel;
    channels = sees.channels;
    last = sees.last;
    marks = sees.marks;
    acts = one_more (control.noticed n) (filter_map act_by w.deeds) c.acts sees.acts;
    idle = sees.idle;
    rises = sees.rises;
  }

  -- a channel ends

  pub all_dropped : (devices : List ℕ) (w : WorldState) → Unseen w (fold dropping w devices)
  all_dropped [] w = unseen_none w
  all_dropped (device ∷ devices) w = unseen_by w (dropping w device) _ one (all_dropped devices (dropping w device))
    where
      one : Unseen w (dropping w device)
      one = option_unseen w (λ (s : StationState SessionDevice). with_station w device (station.drop_channel s (device_cut s.device).state)) (station_at w device)
          (λ s. stationed w device (station.drop_channel s (device_cut s.device).state))

  cut_seen : (w : WorldState) → seen (drops w) ≡ record (seen w) { channel = None; acts = control.ended w.channels ∷ filter_map act_by w.deeds }
  cut_seen w =
      (all_take_unseen (cutting w)).same
      ∙ ap (λ (s : Seen). record s { channel = None; acts = control.ended s.channels ∷ s.acts }) (all_dropped (map (λ (e : ℕ × StationState SessionDevice). e.0) w.stations) w).same

  pub dropped_as : (c : Control) (ls : List NumberedLine) (w : WorldState) (x : ℕ) → c.current ≡ Some x → SeenAs c ls (seen w) → SeenAs (dropped_at c x) ls (seen (drops w))
  dropped_as c ls w x open_is sees =
      let last : x ≡ c.channels = subst (λ (o : Option ℕ). IfSome o (λ y. y ≡ c.channels)) open_is sees.last in
      let own : control.ended w.channels ≡ control.ended x = ap control.ended (sees.channels ∙ sym last) in
      subst (SeenAs (dropped_at c x) ls) (sym (cut_seen w)) (record {
        number = sees.number;
        channel = refl;
        channels = sees.channels;
        last = tt;
        marks = sees.marks;
        acts = one_more (control.ended w.channels) (filter_map act_by w.deeds) c.acts sees.acts ∙ ap (λ (a : control.Act). c.acts ++ a ∷ []) own;
        idle = sees.idle;
        rises = sees.rises;
      })

  -- a channel begins

  pub refreshed_unseen : (w : WorldState) (device : ℕ) → Unseen w (refreshing w device)
  refreshed_unseen w device =
      option_unseen w (λ (names : PrinterNames). with_client w (client.refresh w.client device (printer_data w.cache names))) (lookup (is_at (nat_cmp device)) w.printers)
      (λ names. record {
        same = ap (λ (ms : List (ℕ × Bool)). record (seen w) { marks = ms }) (refresh_marks w.client device (printer_data w.cache names));
        grows = ([], refl);
        client = λ is. is;
        host = λ is. is;
      })

  pub all_refreshed : (devices : List ℕ) (w : WorldState) → Unseen w (fold refreshing w devices)
  all_refreshed [] w = unseen_none w
  all_refreshed (device ∷ devices) w = unseen_by w (refreshing w device) _ (refreshed_unseen w device) (all_refreshed devices (refreshing w device))

  begun_channel : (t : TableState) (channel : ℕ) → t.channel ≡ None → ((table.begin t channel).0).channel ≡ Some channel
  begun_channel t channel none = by (is_some t.channel) (ap is_some none)
    where
      by : (b : Bool) → b ≡ false
          → ((if◌then◌else◌ {A = TableState × Bool} b (t, false) (record t { channel = Some channel; below = channel + 1; asked = 0; begun = 0 }, true)).0).channel ≡ Some channel
      by true e = absurd cc
      by false e = refl

  pub begun_as : (c : Control) (ls : List NumberedLine) (w : WorldState) → SeenAs c ls (seen w) → ((w.side).table).channel ≡ None → SeenAs (connected c) ls (seen (connects w))
  begun_as c ls w sees none =
      let u = all_refreshed (map (λ (e : ℕ × PrinterNames). e.0) w.printers) w in
      let channel = w.channels + 1 in
      let all : seen (connects w) ≡ record (seen w) { channel = Some channel; channels = channel; acts = control.begun channel ∷ filter_map act_by w.deeds } =
      λ i. record {
        number = ((w.side).core).client;
        channel = begun_channel (w.side).table channel none i;
        channels = channel;
        idle = (u.same i).idle;
        marks = (u.same i).marks;
        acts = control.begun channel ∷ (u.same i).acts;
      } in
      let own : channel ≡ c.channels + 1 = ap (λ (k : ℕ). k + 1) sees.channels in
      subst (SeenAs (connected c) ls) (sym all) (record {
        number = sees.number;
        channel = ap (λ (k : ℕ). Some k) own;
        channels = own;
        last = refl;
        marks = sees.marks;
        acts = one_more (control.begun channel) (filter_map act_by w.deeds) c.acts sees.acts ∙ ap (λ (k : ℕ). c.acts ++ control.begun k ∷ []) own;
        idle = sees.idle;
        rises = sees.rises;
      })

  -- a device is removed, and added

  pub removed_unseen : (w : WorldState) (device : ℕ) → Unseen (with_deed (with_client w (client.tell_removed w.client device)) (removes device)) (removes_device w device)
  removed_unseen w device =
      let told : WorldState = with_deed (with_client w (client.tell_removed w.client device)) (removes device) in
      unseen_by told (removing w device) _
      (option_unseen told (λ (s : StationState SessionDevice). with_station told device (station.remove s (device_cut s.device).state).0) (station_at told device)
      (λ s. stationed told device (station.remove s (device_cut s.device).state).0))
      (tries_unseen (removing w device) device)

  pub removed_as : (c : Control) (ls : List NumberedLine) (w : WorldState) (device x : ℕ) → SeenAs c ls (seen w) → SeenAs (removed_at c device x) ls (seen (removes_device w device))
  removed_as c ls w device x sees = subst (SeenAs (removed_at c device x) ls) (sym (removed_unseen w device).same) (record {
    number = sees.number;
    channel = sees.channel;
    channels = sees.channels;
    last = sees.last;
    marks = removed_marks (w.client).devices device c.absent ids sees.marks;
    acts = one_more (control.removed device) (filter_map act_by w.deeds) c.acts sees.acts;
    idle = sees.idle;
    rises = sees.rises;
  })

  pub added_unseen : (w : WorldState) (device : ℕ)
      → let fresh = refreshing w device in Unseen (with_deed (with_client fresh (client.tell_added fresh.client device)) (adds device)) (adds_device w device)
  added_unseen w device = let fresh = refreshing w device in announced (with_deed (with_client fresh (client.tell_added fresh.client device)) (adds device)) device

  pub added_as : (c : Control) (ls : List NumberedLine) (w : WorldState) (device x : ℕ) → SeenAs c ls (seen w) → SeenAs (added_at c device x) ls (seen (adds_device w device))
  added_as c ls w device x sees =
      let fresh : WorldState = refreshing w device in
      let fresh_sees : SeenAs c ls (seen fresh) = subst (SeenAs c ls) (sym (refreshed_unseen w device).same) sees in
      subst (SeenAs (added_at c device x) ls) (sym (added_unseen w device).same) (record {
        number = fresh_sees.number;
        channel = fresh_sees.channel;
        channels = fresh_sees.channels;
        last = fresh_sees.last;
        marks = added_marks (fresh.client).devices device c.absent ids fresh_sees.marks;
        acts = one_more (control.added device) (filter_map act_by fresh.deeds) c.acts fresh_sees.acts;
        idle = fresh_sees.idle;
        rises = fresh_sees.rises;
      })
