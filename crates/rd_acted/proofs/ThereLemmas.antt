-- A station is live just while its device is there and told of; so a device is cut off as it is removed, and those that are there as their channel ends.
use Rattle.std.proofs.Common.{◌≡◌, ◌∙◌, refl, sym, ap, subst, inl, inr, ℕ, ◌<◌, ◌≤◌, ◌==◌, ◌&&◌, ◌||◌, Bool, true, false, cond, not, arith, eq-eqb, eqb-true, List, [], ◌∷◌, ◌++◌, length, map, reverse, fold, Some, None, Option, Result, Ok, Err, append-nil, is_some}
use Rattle.std.specs.Prelude.{filter, find, if◌then◌else◌, nat_le}
use Rattle.std.specs.List.{AllZip, list_any}
use Rattle.std.specs.List.Sorted.{IsStrictlySortedBy}
use Rattle.std.specs.Map.{lookup}
use Rattle.std.specs.Option.{option_map_or}
use Rattle.std.specs.Ordering.{nat_cmp}
use Rattle.std.specs.BTreeMap.{is_at}
use Rattle.std.proofs.lemmas.Bool.Decides.{nat_tests}
use Rattle.std.proofs.lemmas.List.{length-reverse}
use Rattle.rd_base.specs.declared.journal.Item.{Item}
use Rattle.rd_base.specs.declared.journal.Item.TheVariants.{Came, Cancelled, Ran, Sent}
use Rattle.rd_client.specs.Core.{ClientDevice, announce_in, is_present}
use Rattle.rd_rest.proofs.ControlsUnseen.{client_ready}
use Rattle.rd_devices.specs.declared.list.Announce.{Announce}
use Rattle.rd_drive.specs.Device.{is_parked, is_starved}
use Rattle.rd_drive.specs.Stepped.{Stepped}
use Rattle.rd_drive.specs.declared.plan.Job.{Job}
use Rattle.rd_irp.specs.Fits.{kind_of}
use Rattle.rd_rest.proofs.JournalsHeldLemmas.{found_then, stored_deeds, turned_has}
use Rattle.rd_rest.specs.JournalsOrderly.{Orderly}
use Rattle.rd_station.proofs.Soundness.{few}
use Rattle.rd_station.specs.Station as station
use Rattle.rd_station.specs.Station.{StationState, entry_count, held, is_key, max_entries, put_refusal, put_unless}
use Rattle.rd_station.specs.declared.answers.Applied.{Applied}
use Rattle.rd_station.specs.declared.answers.Applied.TheVariants as applied
use Rattle.rd_station.specs.declared.answers.Completion.{Completion}
use Rattle.rd_station.specs.declared.answers.Given.{Given}
use Rattle.rd_station.specs.declared.answers.Given.TheVariants as given
use Rattle.rd_station.specs.declared.held.InHand.{InHand}
use Rattle.rd_station.specs.declared.refusals.AnnounceNo.{AnnounceNo}
use Rattle.rd_station.specs.declared.refusals.AnnounceNo.TheVariants as no
use Rattle.rd_station.specs.declared.refusals.PutWhy.{PutWhy}
use Rattle.rd_station.specs.declared.refusals.PutWhy.TheVariants as why
use Rattle.rd_station.proofs.Holding.{size_held}
use Rattle.rd_declared.specs.Devices.{Declared, PrinterNames, device_cuts, device_parked, device_runs}
use Rattle.rd_world.specs.Hearing.{announcing, put_at, put_by, putting}
use Rattle.rd_deeds.specs.Talk.{Deed, Has, is_removed, journal, open_channel}
use Rattle.rd_deeds.specs.Told.{worn_entries}
use Rattle.rd_world.specs.World.{WorldState, station_at, with_station}
use Rattle.rd_declared.specs.declared.device.SessionDevice.{SessionDevice}
use Rattle.rd_acted.proofs.CuttingLemmas.{AreCut, IsPlainItem, Of, came_cut, plain_stores, same_keys}
use Rattle.rd_acted.proofs.DataLemmas.{IsShaped, id_is}
use Rattle.rd_acted.proofs.PassingLemmas.{left_unspoken}
use Rattle.rd_acted.proofs.QuietLemmas.{Unspoken, stationed_unspoken}
use Rattle.rd_acted.proofs.TellLemmas.{ids_in}

-- whether a device is there, and told of on the channel that is open
abbrev pub is_told_there : WorldState → ℕ → Bool
is_told_there w d = is_some (open_channel w.deeds) && (client_ready w && not (is_removed d w.deeds))

pub record IsThere (devices : List (ℕ × Declared)) (w : WorldState) : Type 0 where
  pub keyed : map (λ (e : ℕ × Of). e.0) w.stations ≡ ids_in devices
  pub live : (d : ℕ) (s : Of) → station_at w d ≡ Some s → s.live ≡ is_told_there w d
  pub cut : AreCut devices w.deeds

-- ---- room

-- it may be announced: its journal has room
abbrev pub HasRoom : Of → Type 0
HasRoom s = nat_le max_entries (entry_count (record s { live = false })) ≡ false

abbrev pub AreShort : List Deed → Type 0
AreShort deeds = (d : ℕ) → length (journal d deeds) < worn_entries

pub room_in : (w : WorldState) → Orderly w → AreShort w.deeds → (d : ℕ) (s : Of) → station_at w d ≡ Some s → HasRoom s
room_in w ordered short d s there =
    let on = (ordered.held).on d s there in
    let tied : length s.journal ≡ length (journal d w.deeds) = sym (ap length ((ordered.held).tied d s there)) ∙ length-reverse (journal d w.deeds) in
    let most : length (held s) ≤ 128 = few device_runs device_parked device_cuts s on.keys on.spare on.memory on.sound in
    let less : entry_count (record s { live = false }) < 16777216 = omega (arith, tied, short d, most, size_held s) in
    grind (arith, nat_tests, less)

pub announced_live : (s : Of) → HasRoom s → (station.announce s).0.live ≡ true
announced_live s room = by s.live refl
  where
    by : (b : Bool) → s.live ≡ b → (station.announce s).0.live ≡ true
    by true e = rw e refl
    by false e = rw (e, room) refl

announced_room : (s : Of) → HasRoom s → HasRoom (station.announce s).0
announced_room s room = by s.live (nat_le max_entries (entry_count s))
  where
    by : (a b : Bool) → HasRoom (if◌then◌else◌ {A = Of × Result (Unit {0}) AnnounceNo} a (s, Err no.Live) (if b then (s, Err (no.Worn (entry_count s))) else (record s { live = true }, Ok tt))).0
    by true b = room
    by false true = room
    by false false = room

pub announced_silent : (s : Of) → (station.announce s).0.journal ≡ s.journal ++ []
announced_silent s = by s.live (nat_le max_entries (entry_count s)) ∙ sym (append-nil s.journal)
  where
    by : (a b : Bool) → (let t = (if◌then◌else◌ {A = Of × Result (Unit {0}) AnnounceNo} a (s, Err no.Live) (if b then (s, Err (no.Worn (entry_count s))) else (record s { live = true }, Ok tt))).0 in t.journal) ≡ s.journal
    by true b = refl
    by false true = refl
    by false false = refl

-- ---- what leaves stations as they are

pub told_there_same : (w v : WorldState) → Unspoken w v → (d : ℕ) → is_told_there v d ≡ is_told_there w d
told_there_same w v u d =
    let left = left_unspoken w v u in
    ap (λ (o : Option ℕ). is_some o && (client_ready v && not (is_removed d v.deeds))) left.opened
    ∙ ap (λ (b : Bool). is_some (open_channel w.deeds) && (b && not (is_removed d v.deeds))) u.ready
    ∙ ap (λ (b : Bool). is_some (open_channel w.deeds) && (client_ready w && not b)) (left.removed d)

module _ (devices : List (ℕ × Declared)) (rise : IsStrictlySortedBy nat_cmp (ids_in devices)) where
  pub aside_there : (w v : WorldState) → v.stations ≡ w.stations → ((d : ℕ) → is_told_there v d ≡ is_told_there w d) → AreCut devices v.deeds → IsThere devices w → IsThere devices v
  aside_there w v same told cut is = record {
    keyed = ap (λ (es : List (ℕ × Of)). map (λ (e : ℕ × Of). e.0) es) same ∙ is.keyed;
    live = λ d s there. is.live d s (subst (λ (es : List (ℕ × Of)). lookup (is_at (nat_cmp d)) es ≡ Some s) same there) ∙ sym (told d);
    cut = cut;
  }

  pub quiet_there : (w v : WorldState) → Unspoken w v → v.stations ≡ w.stations → AreCut devices v.deeds → IsThere devices w → IsThere devices v
  quiet_there w v u same cut is = aside_there w v same (told_there_same w v u) cut is

  -- one station goes on
  pub station_keyed : (w : WorldState) (d : ℕ) (old new : Of) → station_at w d ≡ Some old → map (λ (e : ℕ × Of). e.0) w.stations ≡ ids_in devices → map (λ (e : ℕ × Of). e.0) (with_station w d new).stations ≡ ids_in devices
  station_keyed w d old new there keyed =
      same_keys w.stations d old new (subst (λ (ks : List ℕ). IsStrictlySortedBy nat_cmp ks) (sym keyed) rise) there ∙ keyed

  pub station_there : (w : WorldState) (d : ℕ) (old new : Of) → station_at w d ≡ Some old → new.live ≡ old.live → AreCut devices (with_station w d new).deeds → IsThere devices w → IsThere devices (with_station w d new)
  station_there w d old new there same cut is = record {
    keyed = station_keyed w d old new there is.keyed;
    live = λ q s has. elim (found_then w.stations d new q s has) [
      | inl here ↦
          ap (λ (t : Of). t.live) here.1 ∙ same ∙ is.live d old there ∙ ap (is_told_there w) (sym here.0)
          ∙ sym (told_there_same w (with_station w d new) (stationed_unspoken w d new) q)
      | inr other ↦ is.live q s other.1 ∙ sym (told_there_same w (with_station w d new) (stationed_unspoken w d new) q)
    ];
    cut = cut;
  }

  -- it stores no cut, and no key that came
  pub mild_cut : (w : WorldState) (d : ℕ) (old new : Of) → station_at w d ≡ Some old → (more : List Item) → new.journal ≡ old.journal ++ more → ((x : Item) → Has x more → IsPlainItem x) → AreCut devices w.deeds
      → AreCut devices (with_station w d new).deeds
  mild_cut w d old new there more longer plain is =
      subst (AreCut devices) (sym (stored_deeds w d old new there more longer)) (plain_stores devices d (reverse more) w.deeds (λ x has. plain x (turned_has x more has)) is)

  one_plain : (y : Item) → IsPlainItem y → (x : Item) → Has x (y ∷ []) → IsPlainItem x
  one_plain y plain x (inl same) = subst IsPlainItem (sym same) plain
  one_plain y plain x (inr none) = absurd none

  none_plain : (x : Item) → Has x [] → IsPlainItem x
  none_plain x none = absurd none

  pub taken_there : (w : WorldState) (d : ℕ) (s new : Of) (g : Given) → station_at w d ≡ Some s → station.take s ≡ (new, g) → IsThere devices w → IsThere devices (with_station w d new)
  taken_there w d s new g there made is =
      station_there w d s new there (subst (λ (r : Of × Given). r.0.live ≡ s.live) made (by s.ended s.waiting).0)
      (mild_cut w d s new there [] (subst (λ (r : Of × Given). r.0.journal ≡ s.journal ++ []) made ((by s.ended s.waiting).1 ∙ sym (append-nil s.journal))) none_plain is.cut) is
    where
      by : (b : Bool) (jobs : List Job) → let t = (cond {A = Of × Given} b (s, given.Over) (station.take_first s jobs)).0 in (t.live ≡ s.live) × (t.journal ≡ s.journal)
      by true jobs = (refl, refl)
      by false [] = (refl, refl)
      by false (job ∷ jobs) = (refl, refl)

  pub collected_there : (w : WorldState) (d : ℕ) (s new : Of) (c : Completion) → station_at w d ≡ Some s → station.collect s ≡ (new, Some c) → IsThere devices w → IsThere devices (with_station w d new)
  collected_there w d s new c there made is = by s.ready made
    where
      by : (cs : List Completion) → station.collect_first s cs ≡ (new, Some c) → IsThere devices (with_station w d new)
      by [] e = absurd (cc (ap (λ (r : Of × Option Completion). r.1) e))
      by (x ∷ cs) e =
          let after : record s { ready = cs; journal = s.journal ++ Sent x.key ∷ [] } ≡ new = ap (λ (r : Of × Option Completion). r.0) e in
          station_there w d s new there (sym (ap (λ (t : Of). t.live) after))
          (mild_cut w d s new there (Sent x.key ∷ []) (sym (ap (λ (t : Of). t.journal) after)) (one_plain (Sent x.key) tt) is.cut) is

  pub applied_there : (w : WorldState) (d : ℕ) (s : Of) (job : Job) (moment : ℕ) (come : Stepped SessionDevice) → station_at w d ≡ Some s → IsThere devices w → IsThere devices (with_station w d (station.apply s job moment come).0)
  applied_there w d s job moment come there is = by (find (λ (t : InHand). is_key t.key job.key) s.taken)
    where
      hand : (t : InHand) (b : Bool)
          → IsThere devices (with_station w d (cond {A = Of × Applied} b (station.cancelled_in_hand s t (kind_of job.op), applied.Cancelled) (station.ran s t (kind_of job.op) moment come, cond (is_parked come.answer) applied.Parked applied.Ran)).0)
      hand t true = station_there w d s _ there refl (mild_cut w d s (station.cancelled_in_hand s t (kind_of job.op)) there (Cancelled t.key ∷ []) refl (one_plain (Cancelled t.key) tt) is.cut) is
      hand t false =
          station_there w d s _ there refl
          (mild_cut w d s (station.ran s t (kind_of job.op) moment come) there (Ran t.key moment (is_starved come.answer) (is_parked come.answer) ∷ []) refl (one_plain (Ran t.key moment (is_starved come.answer) (is_parked come.answer)) tt) is.cut) is

      by : (o : Option InHand) → IsThere devices (with_station w d (station.apply_from s job moment come o).0)
      by None = station_there w d s s there refl (mild_cut w d s s there [] (sym (append-nil s.journal)) none_plain is.cut) is
      by (Some t) = hand t t.removed

  -- ---- a job comes

  free_live : (s : Of) (job : Job) → put_refusal s job ≡ None → s.live ≡ true
  free_live s job none = by s.live refl
    where
      by : (b : Bool) → s.live ≡ b → b ≡ true
      by true e = refl
      by false e = let gone : put_refusal s job ≡ Some why.Gone = rw e refl in absurd (cc (none, gone))

  there_not_removed : (w : WorldState) (d : ℕ) → is_told_there w d ≡ true → is_removed d w.deeds ≡ false
  there_not_removed w d is = by (is_some (open_channel w.deeds)) (client_ready w) (is_removed d w.deeds) is
    where
      by : (a b c : Bool) → (a && (b && not c)) ≡ true → c ≡ false
      by true true false e = refl
      by true true true e = absurd (cc e)
      by true false c e = absurd (cc e)
      by false b c e = absurd (cc e)

  pub put_there : (w : WorldState) (d : ℕ) (job : Job) → IsThere devices w → IsThere devices (putting w d job)
  put_there w d job is = at (station_at w d) refl
    where
      here : (s : Of) → station_at w d ≡ Some s → (refusal : Option PutWhy) → put_refusal s job ≡ refusal → IsThere devices (put_by w d job (put_unless s job refusal))
      here s there None free =
          let kept : is_removed d w.deeds ≡ false = there_not_removed w d (sym (is.live d s there) ∙ free_live s job free) in
          let new : Of = (put_unless s job None).0 in
          station_there w d s new there refl
          (subst (AreCut devices) (sym (stored_deeds w d s new there (Came job.key ∷ []) refl)) (came_cut devices d job.key w.deeds kept is.cut)) is
      here s there (Some why.Gone) free = aside_there w _ refl (λ q. refl) is.cut is
      here s there (Some (why.Full count)) free = aside_there w _ refl (λ q. refl) is.cut is
      here s there (Some (why.Worn count)) free = aside_there w _ refl (λ q. refl) is.cut is
      here s there (Some (why.Duplicate key)) free = is
      here s there (Some why.Memory) free = is

      at : (o : Option Of) → station_at w d ≡ o → IsThere devices (put_at w d job o)
      at None there = aside_there w _ refl (λ q. refl) is.cut is
      at (Some s) there = here s there (put_refusal s job) refl

  -- ---- stations are announced

  abbrev pub also : (ℕ → Bool) → ℕ → ℕ → Bool
  also done d q = done q || (q == d)

  -- the stations of some devices are live, and no others
  pub record AreAnnounced (deeds : List Deed) (done : ℕ → Bool) (w : WorldState) : Type 0 where
    pub keyed : map (λ (e : ℕ × Of). e.0) w.stations ≡ ids_in devices
    pub live : (d : ℕ) (s : Of) → station_at w d ≡ Some s → (s.live ≡ done d) × HasRoom s
    pub same : w.deeds ≡ deeds

  announced_one : (deeds : List Deed) (done : ℕ → Bool) (w : WorldState) (d : ℕ) → AreAnnounced deeds done w → AreAnnounced deeds (also done d) (announcing w d)
  announced_one deeds done w d is = by (station_at w d) refl
    where
      one_more : (q : ℕ) → (q == d) ≡ false → also done d q ≡ done q
      one_more q apart = ap (λ (b : Bool). done q || b) apart ∙ off (done q)
        where
          off : (b : Bool) → (b || false) ≡ b
          off true = refl
          off false = refl

      by : (o : Option Of) → station_at w d ≡ o → AreAnnounced deeds (also done d) (option_map_or (λ (s : Of). with_station w d (station.announce s).0) o w)
      by None there = record {
        keyed = is.keyed;
        live = λ q s has.
            let apart : (q == d) ≡ false = other q s has (q == d) refl in
            ((is.live q s has).0 ∙ sym (one_more q apart), (is.live q s has).1);
        same = is.same;
      }
        where
          other : (q : ℕ) (s : Of) → station_at w q ≡ Some s → (b : Bool) → (q == d) ≡ b → b ≡ false
          other q s has true e = absurd (cc (subst (λ (k : ℕ). station_at w k ≡ Some s) (eqb-true q d e) has, there))
          other q s has false e = refl
      by (Some s) there =
          let new : Of = (station.announce s).0 in
          let room : HasRoom s = (is.live d s there).1 in
          record {
            keyed = station_keyed w d s new there is.keyed;
            live = λ q t has. elim (found_then w.stations d new q t has) [
              | inl here ↦ (
                ap (λ (x : Of). x.live) here.1 ∙ announced_live s room ∙ sym (ap (λ (b : Bool). done q || b) (eq-eqb q d here.0) ∙ on (done q)),
                subst HasRoom (sym here.1) (announced_room s room),
              )
              | inr other ↦ ((is.live q t other.1).0 ∙ sym (one_more q other.0), (is.live q t other.1).1)
            ];
            same = stored_deeds w d s new there [] (announced_silent s) ∙ is.same;
          }
        where
          on : (b : Bool) → (b || true) ≡ true
          on true = refl
          on false = refl

  pub announced_all : (deeds : List Deed) (list : List Announce) (done : ℕ → Bool) (w : WorldState) → AreAnnounced deeds done w
      → AreAnnounced deeds (fold also done (map (λ (a : Announce). a.id) list)) (fold (λ x (a : Announce). announcing x a.id) w list)
  announced_all deeds [] done w is = is
  announced_all deeds (a ∷ list) done w is = announced_all deeds list (also done a.id) (announcing w a.id) (announced_one deeds done w a.id is)

  pub done_among : (ks : List ℕ) (done : ℕ → Bool) (q : ℕ) → fold also done ks q ≡ (done q || list_any (λ k. q == k) ks)
  done_among [] done q = sym (off (done q))
    where
      off : (b : Bool) → (b || false) ≡ b
      off true = refl
      off false = refl
  done_among (k ∷ ks) done q = done_among ks (also done k) q ∙ assoc (done q) (q == k) (list_any (λ j. q == j) ks)
    where
      assoc : (a b c : Bool) → ((a || b) || c) ≡ (a || (b || c))
      assoc true b c = refl
      assoc false b c = refl

-- ---- who is listed

pub among_listed : (ids : List ℕ) (deeds : List Deed) (printers : List (ℕ × PrinterNames)) (q : ℕ) (es : List (ℕ × Declared)) (ds : List ClientDevice) → AllZip (IsShaped ids printers deeds) es ds
    → list_any (λ k. q == k) (map (λ (a : Announce). a.id) (map announce_in (filter is_present ds))) ≡ (list_any (λ k. k == q) (ids_in es) && not (is_removed q deeds))
among_listed ids deeds printers q [] [] is = refl
among_listed ids deeds printers q [] (x ∷ ds) is = absurd is
among_listed ids deeds printers q (e ∷ es) [] is = absurd is
among_listed ids deeds printers q (e ∷ es) (x ∷ ds) is = by x.removed refl (e.0 == q) refl (among_listed ids deeds printers q es ds is.1)
  where
    rest : Bool
    rest = list_any (λ k. q == k) (map (λ (a : Announce). a.id) (map announce_in (filter is_present ds)))

    own : (x.announce).id ≡ e.0
    own = id_is ids printers deeds e x is.0

    here : (b : Bool) → (e.0 == q) ≡ b → (q == (x.announce).id) ≡ b
    here true f = eq-eqb q (x.announce).id (sym (own ∙ eqb-true e.0 q f))
    here false f = off (q == (x.announce).id) refl
      where
        off : (b : Bool) → (q == (x.announce).id) ≡ b → b ≡ false
        off true g = absurd (cc (eq-eqb e.0 q (sym own ∙ sym (eqb-true q (x.announce).id g)), f))
        off false g = refl

    gone : (b : Bool) → x.removed ≡ b → (e.0 == q) ≡ true → is_removed q deeds ≡ b
    gone b f g = ap (λ (k : ℕ). is_removed k deeds) (sym (eqb-true e.0 q g)) ∙ sym (is.0).removed_is ∙ f

    none : (b : Bool) → false ≡ (b && false)
    none true = refl
    none false = refl

    by : (a : Bool) → x.removed ≡ a → (b : Bool) → (e.0 == q) ≡ b
        → list_any (λ k. q == k) (map (λ (y : Announce). y.id) (map announce_in (filter is_present ds))) ≡ (list_any (λ k. k == q) (ids_in es) && not (is_removed q deeds))
        → list_any (λ k. q == k) (map (λ (y : Announce). y.id) (map announce_in (if not a then x ∷ filter is_present ds else filter is_present ds))) ≡ ((b || list_any (λ k. k == q) (ids_in es)) && not (is_removed q deeds))
    by true f true g before = before ∙ rw (gone true f g) (sym (none (list_any (λ k. k == q) (ids_in es))))
    by true f false g before = before
    by false f true g before = rw (here true g, gone false f g) refl
    by false f false g before = rw (here false g) before
