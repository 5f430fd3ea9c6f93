-- In each world that lines come to no key is named at two stations, so what its journals say of a key's run is what the run was.
use Rattle.std.proofs.Common.{◌≡◌, ◌∙◌, refl, sym, ap, subst, inl, inr, ℕ, zero, suc, ◌<◌, ◌≤◌, arith, Bool, List, [], ◌∷◌, length, reverse, Some, Option}
use Rattle.std.specs.Prelude.{All, Contains, slice_get}
use Rattle.std.specs.List.{AllByRecursion}
use Rattle.std.specs.List.Sorted.{IsStrictlySortedBy}
use Rattle.std.specs.Map.{keys_of, lookup}
use Rattle.std.specs.Ordering.{nat_cmp}
use Rattle.std.specs.declared.cmp.Ordering.TheVariants.{Less}
use Rattle.std.specs.BTreeMap.{is_at}
use Rattle.std.specs.Option.{IfSome}
use Rattle.std.proofs.lemmas.Bool.Decides.{nat_tests}
use Rattle.std.proofs.lemmas.List.{length-map}
use Rattle.std.proofs.lemmas.List.Elements.{All-from_recursion, All-head, All-tail}
use Rattle.rd_base.specs.declared.journal.Item.{Item}
use Rattle.rd_base.specs.declared.journal.Key.{Key}
use Rattle.rd_told.proofs.JoinedBookLemmas.{named}
use Rattle.rd_told.proofs.JoinedJournalLemmas.{each_found}
use Rattle.rd_told.proofs.JournalsDeclaredLemmas.{bounded_fit}
use Rattle.rd_told.proofs.JournalsRunLemmas.{reached_orderly}
use Rattle.rd_told.specs.JournalsOrderly.{Orderly}
use Rattle.rd_irp.specs.declared.request.Request.{Request}
use Rattle.rd_told.specs.RunsMoves.{Reached}
use Rattle.rd_told.specs.RunsPremises.{RunPremises}
use Rattle.rd_script.specs.declared.line.NumberedLine.{NumberedLine}
use Rattle.rd_station.specs.Memory.{NamesKey}
use Rattle.rd_station.specs.Station.{StationState}
use Rattle.rd_told.proofs.PrintedLemmas.{keyed}
use Rattle.rd_deeds.proofs.Journals.{contains_has}
use Rattle.rd_world.proofs.KeysLemmas.{marks_agree}
use Rattle.rd_declared.proofs.DeclaringLemmas.{declared_openable}
use Rattle.rd_declared.specs.declared.device.SessionDevice.{SessionDevice}
use Rattle.rd_declared.specs.Devices.{Declared}
use Rattle.rd_declared.specs.Marks.{MarksAgree}
use Rattle.rd_world.specs.Keys.{KeysApart}
use Rattle.rd_declared.specs.Declaring.{bare_lines, declared_devices, max_session_devices}
use Rattle.rd_world.specs.Session.{IsOfDevice}
use Rattle.rd_world.specs.Stations.{AreStations, IsReachedBy}
use Rattle.rd_deeds.specs.Talk.{Has, host_wrote, journal, request_at}
use Rattle.rd_world.specs.World.{WorldState, journals_in, marks_of}

abbrev Of : Type 0
Of = StationState SessionDevice

all_has : {X : Type 0} (P : X → Type 0) (x : X) (xs : List X) → All P xs → Has x xs → P x
all_has P x [] all has = absurd has
all_has P x (y ∷ ys) all (inl same) = subst P (sym same) (All-head P y ys all)
all_has P x (y ∷ ys) all (inr later) = all_has P x ys (All-tail P y ys all) later

-- ---- stations whose ids rise

above_key : (k : ℕ) (es : List (ℕ × Of)) (i : ℕ) (e : ℕ × Of) → slice_get es i ≡ Some e → AllByRecursion (λ (l : ℕ). nat_cmp k l ≡ Less) (keys_of es) → k < e.0
above_key k [] i e is all = absurd (cc is)
above_key k (x ∷ es) zero e is all =
    let same : x ≡ e = cc is in
    let under : nat_cmp k e.0 ≡ Less = subst (λ (y : ℕ × Of). nat_cmp k y.0 ≡ Less) same all.0 in
    grind (arith, nat_tests, under)
above_key k (x ∷ es) (suc i) e is all = above_key k es i e is all.1

one_place : (es : List (ℕ × Of)) (i j : ℕ) (e f : ℕ × Of) → IsStrictlySortedBy nat_cmp (keys_of es) → slice_get es i ≡ Some e → slice_get es j ≡ Some f → e.0 ≡ f.0 → i ≡ j
unfolding IsStrictlySortedBy
one_place [] i j e f rise at_i at_j same = absurd (cc at_i)
one_place (x ∷ es) zero zero e f rise at_i at_j same = refl
one_place (x ∷ es) zero (suc j) e f rise at_i at_j same =
    let first : x ≡ e = cc at_i in
    let above : x.0 < f.0 = above_key x.0 es j f at_j rise.0 in
    let ids : x.0 ≡ e.0 = ap (λ (y : ℕ × Of). y.0) first in
    absurd (omega (arith, above, ids, same))
one_place (x ∷ es) (suc i) zero e f rise at_i at_j same =
    let first : x ≡ f = cc at_j in
    let above : x.0 < e.0 = above_key x.0 es i e at_i rise.0 in
    let ids : x.0 ≡ f.0 = ap (λ (y : ℕ × Of). y.0) first in
    absurd (omega (arith, above, ids, same))
one_place (x ∷ es) (suc i) (suc j) e f rise at_i at_j same = ap suc (one_place es i j e f rise.1 at_i at_j same)

at_place : (P : ℕ × Of → Type 0) (es : List (ℕ × Of)) (i : ℕ) (e : ℕ × Of) → AllByRecursion P es → slice_get es i ≡ Some e → P e
at_place P [] i e all is = absurd (cc is)
at_place P (x ∷ es) zero e all is = let same : x ≡ e = cc is in subst P same all.0
at_place P (x ∷ es) (suc i) e all is = at_place P es i e all.1 is

-- ---- worlds

module _ (lines : List NumberedLine) (starves : Key → Bool) (premises : RunPremises lines) (w : WorldState) (r : Reached lines starves w) where
  abbrev devices : List (ℕ × Declared)
  devices = declared_devices (bare_lines lines)

  orderly : Orderly w
  orderly = reached_orderly lines starves w (bounded_fit lines premises.bounded) r

  pub ids_rise : IsStrictlySortedBy nat_cmp (keys_of w.stations)
  ids_rise = subst (λ (ks : List ℕ). IsStrictlySortedBy nat_cmp ks) (sym (keyed lines starves premises w r)) (declared_openable lines premises.declared).rise

  -- the request of a key that a station names is of its device
  abbrev IsNamed : ℕ × Of → Type 0
  IsNamed e = (key : Key) → NamesKey (e.1).journal key → (q : Request) × (request_at (host_wrote key.channel w.deeds) key.index ≡ Some q) × (q.device ≡ e.0)

  all_named : AllByRecursion IsNamed w.stations
  all_named = each_found w.stations ids_rise (λ d s. IsNamed (d, s)) one
    where
      one : (d : ℕ) (s : Of) → lookup (is_at (nat_cmp d)) w.stations ≡ Some s → IsNamed (d, s)
      one d s there key (i, entry, below, is, names) =
          let same : reverse (journal d w.deeds) ≡ s.journal = (orderly.held).tied d s there in
          let has : Has entry (journal d w.deeds) = contains_has entry (journal d w.deeds) (subst (λ (items : List Item). Contains items entry) (sym same) (i, below, is)) in
          let of_device : IsOfDevice w.deeds d entry = all_has (IsOfDevice w.deeds d) entry (journal d w.deeds) (named lines starves premises (bounded_fit lines premises.bounded) w r d) has in
          subst (λ (o : Option Key). IfSome o (λ (k : Key). (q : Request) × (request_at (host_wrote k.channel w.deeds) k.index ≡ Some q) × (q.device ≡ d))) names of_device

  apart : KeysApart w.stations
  apart key i j (e, at_i, names_e) (f, at_j, names_f) =
      let (q, found_q, q_is) = at_place IsNamed w.stations i e all_named at_i key names_e in
      let (p, found_p, p_is) = at_place IsNamed w.stations j f all_named at_j key names_f in
      let one : q ≡ p = (let both : Some q ≡ Some p = sym found_q ∙ found_p in cc both) in
      one_place w.stations i j e f ids_rise at_i at_j (sym q_is ∙ ap (λ (x : Request). x.device) one ∙ p_is)

  pub stations_stand : AreStations w.stations
  stations_stand = record {
    rise = ids_rise;
    few =
        (let same : length (keys_of w.stations) ≡ length (keys_of devices) = ap length (keyed lines starves premises w r) in
        let many : length (keys_of w.stations) ≡ length w.stations = length-map w.stations (λ (e : ℕ × Of). e.0) in
        let declared : length (keys_of devices) ≡ length devices = length-map devices (λ (e : ℕ × Declared). e.0) in
        let few : length devices ≤ max_session_devices = (premises.declared).few in
        omega (arith, same, many, declared, few));
    reached = All-from_recursion (λ (e : ℕ × Of). IsReachedBy e.1) w.stations
        (each_found w.stations ids_rise (λ d s. IsReachedBy s) (λ d s there. ((orderly.held).on d s there).sound.reached));
    apart = apart;
  }

  -- the runs of the world found no memory of which its journals say so
  pub own_marks : MarksAgree (marks_of w) (journals_in w)
  own_marks = marks_agree w.stations stations_stand
