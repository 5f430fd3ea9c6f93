-- Where a client's session begins that serves the devices of a script: its front is new, over desks of these devices.
use Rattle.std.proofs.Common.{◌≡◌, ◌≢◌, ◌∙◌, ◌<◌, ◌^◌, refl, sym, ap, subst, ℕ, zero, suc, true, false, List, [], ◌∷◌, map, Option, Some, None, slice_get, arith}
use Rattle.std.specs.Prelude.{IfSome}
use Rattle.std.specs.List.{AllByRecursion, cons_option, zip}
use Rattle.std.specs.List.Sorted.{IsStrictlySortedBy}
use Rattle.std.specs.Map.{keys_of, lookup}
use Rattle.std.specs.Option.{option_map}
use Rattle.std.specs.Ordering.{match_ordering, nat_cmp}
use Rattle.std.specs.declared.cmp.Ordering.{Ordering}
use Rattle.std.specs.declared.cmp.Ordering.TheVariants.{Equal, Greater, Less}
use Rattle.std.specs.BTreeMap.{insert_entry, is_at}
use Rattle.std.proofs.lemmas.Bool.Decides.{nat_tests}
use Rattle.std.proofs.lemmas.List.Elements.{recursion_from_All}
use Rattle.rd_client.specs.Core.{new_client}
use Rattle.rd_client.specs.Events.{IsWritableDevice}
use Rattle.rd_devices.specs.declared.list.Announce.{Announce}
use Rattle.rd_drive.specs.Answered.{drive_parked}
use Rattle.rd_drive.specs.DriveState.{DriveState, Node}
use Rattle.rd_folder.specs.FolderLaws.{no_faults}
use Rattle.rd_folder_drive.specs.FolderDrive.{FolderDriveState, new_drive, opened_over}
use Rattle.rd_folder_drive.specs.Served.{Seen}
use Rattle.rd_front.specs.Front.{desk_place}
use Rattle.rd_front.specs.State.{DeviceDeskState, FrontState, SessionStation}
use Rattle.rd_pool.specs.Desks.{DeskTurn}
use Rattle.rd_script.specs.declared.line.Line.{Line}
use Rattle.rd_sharing.specs.FolderLines.{folder_devices}
use Rattle.rd_sharing.specs.ServedOpening.{AreServedDevices, FoldersTold, OpenInTurn, OpensServed, ServedDeclared, as_made, served_station, shown_of, with_folders}
use Rattle.rd_world.proofs.ApplicationsLemmas.{apart_at, below_of}
use Rattle.rd_declared.specs.Devices.{Declared, PrinterNames}
use Rattle.rd_declared.specs.Declaring.{IsOpenable, declared_devices}
use Rattle.rd_declared.specs.Printers.{AreShortNames}
use Rattle.rd_world.specs.Run.{printers_of, station_of}
use Rattle.rd_workers.specs.Served.{IsFrontOf}
use Rattle.rd_served_causes.specs.ServedDevices as served
use Rattle.rd_served_causes.specs.ServedDevices.{ServedDeviceState, served_parked}
use Rattle.rd_served_causes.specs.ServedHistories.{AreApart, AreStationed, IsNewDesk, IsNewFront}
use Rattle.rd_served_causes.specs.ServedServed.{Served, idle}
use Rattle.rd_served_causes.proofs.PlaceLemmas.{has_place}
use Rattle.rd_served_causes.specs.Causes.{HaveDesks}
use Rattle.rd_served_causes.specs.ServedOrderOrders.{BeginsWith}
use Rattle.rd_served_causes.specs.ServedOrderSent.{HaveRoom}
use Rattle.rd_served_causes.specs.ServedRepliesPremises.{AreOpened, IsFitServed}
use Rattle.rd_served_sessions.specs.Sessions.{device_states}

-- ---- lists place by place

-- what stands at a place of one list stands at the same place of another that says the same
pub at_same : {A B C : Type 0} (f : A → C) (g : B → C) (xs : List A) (ys : List B) → map f xs ≡ map g ys → (i : ℕ) (x : A) → slice_get xs i ≡ Some x → (y : B) × (slice_get ys i ≡ Some y) × (g y ≡ f x)
at_same f g [] ys same i x there = absurd (cc (there))
at_same f g (a ∷ xs) [] same i x there = absurd (cc (same))
at_same f g (a ∷ xs) (b ∷ ys) same zero x there = let here : f a ≡ g b = cc (same) in let is : a ≡ x = cc (there) in (b, refl, sym here ∙ ap f is)
at_same f g (a ∷ xs) (b ∷ ys) same (suc i) x there = at_same f g xs ys (cc (same)) i x there

pub all_at : {A : Type 0} (P : A → Type 0) (xs : List A) → ((i : ℕ) (x : A) → slice_get xs i ≡ Some x → P x) → AllByRecursion P xs
all_at P [] each = tt
all_at P (x ∷ xs) each = (each zero x refl, all_at P xs (λ i y there. each (suc i) y there))

one_at : {A : Type 0} (P : A → Type 0) (xs : List A) → AllByRecursion P xs → (i : ℕ) (x : A) → slice_get xs i ≡ Some x → P x
one_at P [] all i x there = absurd (cc (there))
one_at P (y ∷ xs) all zero x there = let is : y ≡ x = cc (there) in subst P is all.0
one_at P (y ∷ xs) all (suc i) x there = one_at P xs all.1 i x there

-- ---- ids that rise

own_at : (k l : ℕ) → k ≡ l → is_at (nat_cmp k) l ≡ true
own_at k l e = grind (arith, nat_tests)

above_at : (n : ℕ) (ids : List ℕ) → AllByRecursion (λ (k : ℕ). nat_cmp n k ≡ Less) ids → (i k : ℕ) → slice_get ids i ≡ Some k → n < k
above_at n ids above i k there = below_of n k (one_at (λ (x : ℕ). nat_cmp n x ≡ Less) ids above i k there)

rising_apart : (ids : List ℕ) → IsStrictlySortedBy nat_cmp ids → (i j k : ℕ) → slice_get ids i ≡ Some k → slice_get ids j ≡ Some k → i ≡ j
unfolding IsStrictlySortedBy
rising_apart [] rise i j k first second = absurd (cc (first))
rising_apart (n ∷ ids) rise zero zero k first second = refl
rising_apart (n ∷ ids) rise zero (suc j) k first second = let is : n ≡ k = cc (first) in let less = above_at n ids rise.0 j k second in absurd (omega (arith, is, less))
rising_apart (n ∷ ids) rise (suc i) zero k first second = let is : n ≡ k = cc (second) in let less = above_at n ids rise.0 i k first in absurd (omega (arith, is, less))
rising_apart (n ∷ ids) rise (suc i) (suc j) k first second = ap suc (rising_apart ids rise.1 i j k first second)

key_at : {X : Type 0} (es : List (ℕ × X)) (i : ℕ) (e : ℕ × X) → slice_get es i ≡ Some e → slice_get (keys_of es) i ≡ Some e.0
key_at {X} [] i e there = absurd (cc (there))
key_at {X} (x ∷ es) zero e there = let is : x ≡ e = cc (there) in ap (λ (y : ℕ × X). Some y.0) is
key_at (x ∷ es) (suc i) e there = key_at es i e there

pub found_at : {X : Type 0} (es : List (ℕ × X)) → IsStrictlySortedBy nat_cmp (keys_of es) → (i : ℕ) (e : ℕ × X) → slice_get es i ≡ Some e → lookup (is_at (nat_cmp e.0)) es ≡ Some e.1
unfolding IsStrictlySortedBy
found_at [] rise i e there = absurd (cc (there))
found_at {X} (x ∷ es) rise zero e there = let is : x ≡ e = cc (there) in rw (own_at e.0 x.0 (ap (λ (y : ℕ × X). y.0) (sym is))) (ap (λ (y : ℕ × X). Some y.1) is)
found_at {X} (x ∷ es) rise (suc i) e there =
    let less : x.0 < e.0 = above_at x.0 (keys_of es) rise.0 i e.0 (key_at es i e there) in
    let apart : e.0 ≢ x.0 = λ (same : e.0 ≡ x.0). omega (arith, same, less) in
    rw (apart_at e.0 x.0 apart) (found_at es rise.1 i e there)

-- ---- desks and devices

-- a desk's device with the station that its turn opened with
abbrev opening_of : DeviceDeskState → ℕ × SessionStation
opening_of d = (d.id, (d.turn).opening)

zip_maps : (ds : List DeviceDeskState) → zip (map (λ (d : DeviceDeskState). d.id) ds) (map (λ (t : DeskTurn ServedDeviceState). t.opening) (map (λ (d : DeviceDeskState). d.turn) ds)) ≡ map opening_of ds
zip_maps [] = refl
zip_maps (d ∷ ds) = ap (λ (l : List (ℕ × SessionStation)). opening_of d ∷ l) (zip_maps ds)

ids_opened : (ds : List DeviceDeskState) → keys_of (map opening_of ds) ≡ map (λ (d : DeviceDeskState). d.id) ds
ids_opened [] = refl
ids_opened (d ∷ ds) = ap (λ (l : List ℕ). d.id ∷ l) (ids_opened ds)

-- devices, their stations, what is announced of them, and how they begin, have the same ids
pub same_keys : {X Y : Type 0} (f : ℕ × X → ℕ × Y) → ((e : ℕ × X) → (f e).0 ≡ e.0) → (es : List (ℕ × X)) → keys_of (map f es) ≡ keys_of es
same_keys f same [] = refl
same_keys f same (e ∷ es) = λ i. same e i ∷ same_keys f same es i

pub keys_shown : (devices : List (ℕ × ServedDeclared)) → keys_of (map shown_of devices) ≡ keys_of devices
keys_shown devices = same_keys shown_of (λ e. refl) devices

pub keys_states : (devices : List (ℕ × ServedDeclared)) → keys_of (device_states devices) ≡ keys_of devices
keys_states devices = same_keys (λ (d : ℕ × ServedDeclared). (d.0, (d.1).state)) (λ e. refl) devices

pub state_at : (devices : List (ℕ × ServedDeclared)) (i : ℕ) (e : ℕ × ServedDeclared) → slice_get devices i ≡ Some e → slice_get (device_states devices) i ≡ Some (e.0, (e.1).state)
state_at [] i e there = absurd (cc (there))
state_at (d ∷ devices) zero e there = let is : d ≡ e = cc (there) in ap (λ (x : ℕ × ServedDeclared). Some (x.0, (x.1).state)) is
state_at (d ∷ devices) (suc i) e there = state_at devices i e there

-- ---- drives over folders begin fit

opened_fit : (over : Seen) (label : List ℕ) → IsFitServed (served.over (opened_over over label))
opened_fit over label = by over.told
  where
    by : (told : Option (List Node)) → IfSome (option_map (new_drive label) told) (λ (s : DriveState). [] ≡ drive_parked s)
    by None = tt
    by (Some nodes) = refl

inserted_fit : (devices : List (ℕ × ServedDeclared)) (id : ℕ) (x : ServedDeclared) → AllByRecursion (λ (d : ℕ × ServedDeclared). IsFitServed (d.1).state) devices → IsFitServed x.state
    → AllByRecursion (λ (d : ℕ × ServedDeclared). IsFitServed (d.1).state) (insert_entry nat_cmp devices id x)
inserted_fit [] id x all own = (own, tt)
inserted_fit (d ∷ devices) id x all own = by (nat_cmp id d.0) (inserted_fit devices id x all.1 own)
  where
    by : (o : Ordering) → AllByRecursion (λ (y : ℕ × ServedDeclared). IsFitServed (y.1).state) (insert_entry nat_cmp devices id x)
        → AllByRecursion (λ (y : ℕ × ServedDeclared). IsFitServed (y.1).state) (match_ordering o ((id, x) ∷ d ∷ devices) ((d.0, x) ∷ devices) (d ∷ insert_entry nat_cmp devices id x))
    by Less later = (own, all)
    by Equal later = (own, all.1)
    by Greater later = (all.0, later)

folders_fit : (devices : List (ℕ × ServedDeclared)) (drives : List (ℕ × Declared)) (before after : FoldersTold) (folders : List FolderDriveState) → OpenInTurn drives before folders after
    → AllByRecursion (λ (d : ℕ × ServedDeclared). IsFitServed (d.1).state) devices → AllByRecursion (λ (d : ℕ × ServedDeclared). IsFitServed (d.1).state) (with_folders devices drives folders)
folders_fit devices [] before after [] opens all = all
folders_fit devices [] before after (s ∷ folders) opens all = absurd opens
folders_fit devices (f ∷ drives) before after [] opens all = absurd opens
folders_fit devices (f ∷ drives) before after (s ∷ folders) opens all =
    folders_fit (insert_entry nat_cmp devices f.0 (record { shown = f.1; state = served.over s })) drives opens.0 after folders opens.2
    (inserted_fit devices f.0 (record { shown = f.1; state = served.over s }) all (subst (λ (d : FolderDriveState). IsFitServed (served.over d)) (sym (opens.1).over) (opened_fit (record { told = (opens.1).nodes; faults = no_faults }) (f.1).name)))

made_fit : (declared : List (ℕ × Declared)) → AllByRecursion (λ (d : ℕ × ServedDeclared). IsFitServed (d.1).state) (map as_made declared)
made_fit [] = tt
made_fit (e ∷ declared) = (tt, made_fit declared)

pub served_fit : (lines : List Line) (before after : FoldersTold) (devices : List (ℕ × ServedDeclared)) → AreServedDevices lines before after devices → AllByRecursion (λ (d : ℕ × ServedDeclared). IsFitServed (d.1).state) devices
served_fit lines before after devices are = subst (AllByRecursion (λ (d : ℕ × ServedDeclared). IsFitServed (d.1).state)) (sym are.are)
    (folders_fit (map as_made (declared_devices lines)) (folder_devices lines) before after are.folders are.opens (made_fit (declared_devices lines)))

states_fit : (devices : List (ℕ × ServedDeclared)) → AllByRecursion (λ (d : ℕ × ServedDeclared). IsFitServed (d.1).state) devices → AllByRecursion (λ (e : ℕ × ServedDeviceState). IsFitServed e.1) (device_states devices)
states_fit [] all = tt
states_fit (d ∷ devices) all = (all.0, states_fit devices all.1)

-- ---- where a session begins

short_names : (devices : List (ℕ × Declared)) → AllByRecursion IsOpenable devices → AllByRecursion (λ (p : ℕ × PrinterNames). AreShortNames p.1) (printers_of devices)
short_names [] all = tt
short_names (e ∷ devices) all = by (short_names devices all.1) (e.1).printer (all.0).names
  where
    by : AllByRecursion (λ (p : ℕ × PrinterNames). AreShortNames p.1) (printers_of devices) → (o : Option PrinterNames) → IfSome o AreShortNames
        → AllByRecursion (λ (p : ℕ × PrinterNames). AreShortNames p.1) (cons_option (option_map (λ (names : PrinterNames). (e.0, names)) o) (printers_of devices))
    by more None short = more
    by more (Some names) short = (short, more)

-- What is known of where a session begins.
pub record IsBegun (devices : List (ℕ × ServedDeclared)) (announced : List Announce) (old : Served) : Type 0 where
  pub begins : BeginsWith announced old
  pub have : HaveDesks announced (old.front).desks
  pub opened : AreOpened (device_states devices) (old.front).desks
  pub room : HaveRoom (old.front).desks
  pub ids : map (λ (d : DeviceDeskState). d.id) (old.front).desks ≡ keys_of devices
  pub fresh : (old.front).over ≡ false
  pub first : (old.front).channel ≡ 0
  pub off : (old.front).on ≡ false
  pub unasked : ((old.front).client).asked ≡ 0

module _ (devices : List (ℕ × ServedDeclared)) (fit : AllByRecursion (λ (d : ℕ × ServedDeclared). IsFitServed (d.1).state) devices) (announced : List Announce) (printers : List (ℕ × PrinterNames)) (ids : List ℕ) (turns : List (DeskTurn ServedDeviceState))
    (opens : OpensServed devices (zip ids (map (λ (t : DeskTurn ServedDeviceState). t.opening) turns)) announced printers) (s : FrontState) (is : IsFrontOf (new_client announced) printers ids turns s)
  where
    abbrev Ids : List ℕ
    Ids = map (λ (d : DeviceDeskState). d.id) s.desks

    -- each desk is of the device at its place
    desks_are : map opening_of s.desks ≡ map served_station devices
    desks_are = sym (zip_maps s.desks) ∙ (λ i. zip (is.ids_are i) (map (λ (t : DeskTurn ServedDeviceState). t.opening) (is.turns_are i))) ∙ opens.stations_are

    their_ids : Ids ≡ keys_of devices
    their_ids = sym (ids_opened s.desks) ∙ ap keys_of desks_are ∙ same_keys served_station (λ e. refl) devices

    announced_ids : map (λ (a : Announce). a.id) announced ≡ Ids
    announced_ids = (opens.shown).same_ids ∙ same_keys station_of (λ e. refl) (map shown_of devices) ∙ keys_shown devices ∙ sym their_ids

    -- the device of a desk
    device_of : (i : ℕ) (d : DeviceDeskState) → slice_get s.desks i ≡ Some d → (e : ℕ × ServedDeclared) × (slice_get devices i ≡ Some e) × (served_station e ≡ opening_of d)
    device_of i d there = at_same opening_of served_station s.desks devices desks_are i d there

    desk_new : (i : ℕ) (d : DeviceDeskState) → slice_get s.desks i ≡ Some d → ((d.pass).seen ≡ []) → IsNewDesk d
    desk_new i d there unseen =
        let (e, at, same) = device_of i d there in
        let quiet = one_at (λ (x : ℕ × ServedDeclared). served_parked (x.1).state ≡ []) devices opens.quiet i e at in
        record { device = (e.1).state; nothing = quiet; opening = sym (ap (λ (x : ℕ × SessionStation). x.1) same); unseen = unseen }

    unseen_at : AllByRecursion (λ (d : DeviceDeskState). (d.pass).seen ≡ []) s.desks
    unseen_at = recursion_from_All (λ (d : DeviceDeskState). (d.pass).seen ≡ []) s.desks is.unseen

    new_front : IsNewFront s
    new_front = record {
      desks = all_at IsNewDesk s.desks (λ i d there. desk_new i d there (one_at (λ (x : DeviceDeskState). (x.pass).seen ≡ []) s.desks unseen_at i d there));
      kept = ap (λ (x : FrontState). x.kept) is.is;
      off = ap (λ (x : FrontState). x.on) is.is;
      nothing = ap (λ (x : FrontState). ((x.client).core).outbox) is.is;
    }

    rise : IsStrictlySortedBy nat_cmp (keys_of devices)
    rise = subst (IsStrictlySortedBy nat_cmp) (keys_shown devices) (opens.openable).rise

    apart : AreApart s.desks
    apart i j d e first second same =
        let (x, at, is_x) = device_of i d first in
        let (y, also, is_y) = device_of j e second in
        let one : slice_get (keys_of devices) i ≡ Some d.id = key_at devices i x at ∙ ap (λ (p : ℕ × SessionStation). Some p.0) is_x in
        let two : slice_get (keys_of devices) j ≡ Some d.id = key_at devices j y also ∙ ap (λ (p : ℕ × SessionStation). Some p.0) is_y ∙ ap Some (sym same) in
        rising_apart (keys_of devices) rise i j d.id one two

    have_desks : HaveDesks announced s.desks
    have_desks = all_at (λ (a : Announce). (place : ℕ) × (desk_place s.desks a.id ≡ Some place)) announced (λ i a there. by i a there (desk_place s.desks a.id) refl)
      where
        by : (i : ℕ) (a : Announce) → slice_get announced i ≡ Some a → (o : Option ℕ) → desk_place s.desks a.id ≡ o → (place : ℕ) × (desk_place s.desks a.id ≡ Some place)
        by i a there (Some place) found = (place, found)
        by i a there None none =
            let (d, at, same) = at_same (λ (x : Announce). x.id) (λ (x : DeviceDeskState). x.id) announced s.desks announced_ids i a there in absurd (has_place s.desks i d a.id at same none)

    opened : AreOpened (device_states devices) s.desks
    opened = record {
      fit = states_fit devices fit;
      each = λ place d there.
          let (e, at, same) = device_of place d there in
          let found = found_at (device_states devices) (subst (IsStrictlySortedBy nat_cmp) (sym (keys_states devices)) rise) place (e.0, (e.1).state) (state_at devices place e at) in
          ((e.1).state, subst (λ (n : ℕ). lookup (is_at (nat_cmp n)) (device_states devices) ≡ Some (e.1).state) (ap (λ (p : ℕ × SessionStation). p.0) same) found, sym (ap (λ (p : ℕ × SessionStation). p.1) same));
    }

    have_room : HaveRoom s.desks
    have_room = all_at (λ (d : DeviceDeskState). d.id < 2 ^ 32) s.desks (λ i d there.
        let (a, at, same) = at_same (λ (x : DeviceDeskState). x.id) (λ (x : Announce). x.id) s.desks announced (sym announced_ids) i d there in
        let fields : IsWritableDevice a = one_at IsWritableDevice announced (recursion_from_All IsWritableDevice announced opens.writable) i a at in
        subst (λ (n : ℕ). n < 2 ^ 32) same fields.1)

    -- A session of these devices begins so.
    pub session_begun : (stations : List SessionStation) → AreStationed s.desks stations → IsBegun devices announced (record { front = s; asking = idle; stations = stations })
    session_begun stations at = record {
      begins = record {
        new = record { new = new_front; apart = apart; stationed = at; idle_is = refl };
        client = ap (λ (x : FrontState). x.client) is.is;
        are = (opens.shown).are_devices;
        short = (opens.shown).short;
        writable = opens.writable;
        names = subst (AllByRecursion (λ (p : ℕ × PrinterNames). AreShortNames p.1)) (sym (ap (λ (x : FrontState). x.printers) is.is ∙ (opens.shown).printers_are)) (short_names (map shown_of devices) (opens.openable).each);
      };
      have = have_desks;
      opened = opened;
      room = have_room;
      ids = their_ids;
      fresh = ap (λ (x : FrontState). x.over) is.is;
      first = ap (λ (x : FrontState). x.channel) is.is;
      off = ap (λ (x : FrontState). x.on) is.is;
      unasked = ap (λ (x : FrontState). (x.client).asked) is.is;
    }
