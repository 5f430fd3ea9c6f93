-- No more is told on a channel than is due, at each point; and on each channel that didn't end, and isn't open, nothing is due.
use Rattle.std.proofs.Common.{◌≡◌, ◌⊎◌, ◌∙◌, refl, sym, ap, subst, inl, inr, ℕ, ◌+◌, ◌≤◌, ◌==◌, ◌||◌, Bool, true, false, arith, eq-eqb, eqb-true, List, [], ◌∷◌, ◌++◌, length, map, fold, Some, None, Option, append-nil, length-append}
use Rattle.std.specs.Prelude.{filter, if◌then◌else◌, not}
use Rattle.std.specs.Option.{option_map_or}
use Rattle.rd_base.specs.declared.journal.Key.{Key}
use Rattle.rd_rest.proofs.JournalsChannelLemmas.{all_refreshed, begun_on}
use Rattle.rd_rest.proofs.RunsParts.{IsBehind, MayBe, Part, adds_one, announced_by, begins, by_parts, client_hears_one, client_sends_one, done, ends, refreshed_by, removes_one, told_added, told_removed}
use Rattle.rd_rest.proofs.RunsStanding.{Stands, needs_open, shut_now}
use Rattle.rd_rest.proofs.RunsTogether.{knows}
use Rattle.rd_rest.specs.RunsPremises.{RunPremises}
use Rattle.rd_script.specs.declared.line.NumberedLine.{NumberedLine}
use Rattle.rd_station.specs.Station as station
use Rattle.rd_station.specs.Station.{StationState}
use Rattle.rd_world.proofs.BeginningLemmas.{begun_by}
use Rattle.rd_world.proofs.OpeningLemmas.{lines_begin}
use Rattle.rd_world.specs.Acts.{IsToldInTime, Tells, is_add, tellings_due, tellings_on}
use Rattle.rd_world.specs.Control.{Telling, addition, lists, removal}
use Rattle.rd_declared.specs.Devices.{Declared, PrinterNames, device_cut}
use Rattle.rd_world.specs.Events.{deed_on, dropping, is_channel_open}
use Rattle.rd_declared.specs.Declaring.{bare_lines, declared_devices}
use Rattle.rd_deeds.specs.Talk.{AtEachPoint, Deed, adds, client_reads, client_writes, completes, has_ended, host_begins, host_ends, is_open_at, open_channel, removes}
use Rattle.rd_world.specs.World.{WorldState, with_station}
use Rattle.rd_declared.specs.declared.device.SessionDevice.{SessionDevice}
use Rattle.rd_acted.proofs.PassingLemmas.{all_dropped_unspoken, left_one, left_unspoken, quiet_unspoken}
use Rattle.rd_acted.proofs.QuietLemmas.{AreSilent, IsSilent, Unspoken, hears_unspoken, option_unspoken, stationed_unspoken}
use Rattle.rd_acted.proofs.ReadLemmas.{part_well}
use Rattle.rd_acted.proofs.SayingLemmas.{say_few, say_none}
use Rattle.rd_acted.proofs.TellLemmas.{TellsAs, behind_tells, ids_in}
use Rattle.rd_acted.specs.Acted.{AreReadWell, SayFirst, due_on, there_of}

pub record AreInTime (ids : List ℕ) (deeds : List Deed) : Type 0 where
  pub points : AtEachPoint IsToldInTime deeds
  pub counted : (c : ℕ) → length (due_on ids c deeds) ≡ tellings_due c deeds
  pub over : (c : ℕ) → (due_on ids c deeds ≡ []) ⊎ ((has_ended c deeds ≡ true) ⊎ (open_channel deeds ≡ Some c))

point_now : {A : Type 0} (P : List A → Type 0) (xs : List A) → AtEachPoint P xs → P xs
point_now P [] is = is
point_now P (x ∷ xs) is = is.0

silent_one : (ids : List ℕ) (x : Deed) (deeds : List Deed) → IsSilent x → AreInTime ids deeds → AreInTime ids (x ∷ deeds)
silent_one ids x deeds silent is =
    let left = left_one x deeds silent in
    record {
      points = (λ c. subst (λ (ms : List (List ℕ)). length ms ≤ tellings_due c (x ∷ deeds)) (sym (left.told c)) (subst (λ (n : ℕ). length (tellings_on c deeds) ≤ n) (sym (left.count c)) (point_now IsToldInTime deeds is.points c)), is.points);
      counted = λ c. ap length (left.due ids c) ∙ is.counted c ∙ sym (left.count c);
      over = λ c. elim (is.over c) [
        | inl none ↦ inl (left.due ids c ∙ none)
        | inr (inl ended) ↦ inr (inl (left.ended c ∙ ended))
        | inr (inr opened) ↦ inr (inr (left.opened ∙ opened))
      ];
    }

silent_all : (ids : List ℕ) (more deeds : List Deed) → AreSilent more → AreInTime ids deeds → AreInTime ids (more ++ deeds)
silent_all ids [] deeds silent is = is
silent_all ids (x ∷ more) deeds silent is = silent_one ids x (more ++ deeds) silent.0 (silent_all ids more deeds silent.1 is)

quiet_in_time : (ids : List ℕ) (w v : WorldState) → Unspoken w v → AreInTime ids w.deeds → AreInTime ids v.deeds
quiet_in_time ids w v u is = subst (AreInTime ids) (sym u.deeds) (silent_all ids u.more w.deeds u.silent is)

-- one thing more is due on the channel that is open
more_due : (ids : List ℕ) (x : Deed) (thing : Telling) (deeds : List Deed) → ((c : ℕ) → tellings_on c (x ∷ deeds) ≡ tellings_on c deeds) → ((c : ℕ) → has_ended c (x ∷ deeds) ≡ has_ended c deeds) → open_channel (x ∷ deeds) ≡ open_channel deeds
    → ((c : ℕ) → due_on ids c (x ∷ deeds) ≡ due_on ids c deeds ++ (if is_open_at c deeds then thing ∷ [] else []))
    → ((c : ℕ) → tellings_due c (x ∷ deeds) ≡ tellings_due c deeds + (if is_open_at c deeds then 1 else 0)) → AreInTime ids deeds → AreInTime ids (x ∷ deeds)
more_due ids x thing deeds told ended opened due count is = record {
  points = (
    λ c.
        let few : length (tellings_on c deeds) ≤ tellings_due c deeds = point_now IsToldInTime deeds is.points c in
        let same : length (tellings_on c (x ∷ deeds)) ≡ length (tellings_on c deeds) = ap length (told c) in
        omega (arith, few, same, count c),
    is.points,
  );
  counted = λ c.
      let longer : length (due_on ids c (x ∷ deeds)) ≡ length (due_on ids c deeds) + length (if is_open_at c deeds then thing ∷ [] else []) = ap length (due c) ∙ length-append (due_on ids c deeds) (if is_open_at c deeds then thing ∷ [] else []) in
      omega (arith, longer, one (is_open_at c deeds), is.counted c, count c);
  over = λ c. by c (is_open_at c deeds) refl (is.over c);
}
  where
    one : (b : Bool) → length (if b then thing ∷ [] else []) ≡ (if b then 1 else 0)
    one true = refl
    one false = refl

    at_open : (c : ℕ) (o : Option ℕ) → option_map_or (λ channel. channel == c) o false ≡ true → o ≡ Some c
    at_open c None e = absurd cc
    at_open c (Some n) e = ap (λ (k : ℕ). Some k) (eqb-true n c e)

    by : (c : ℕ) (b : Bool) → is_open_at c deeds ≡ b → (due_on ids c deeds ≡ []) ⊎ ((has_ended c deeds ≡ true) ⊎ (open_channel deeds ≡ Some c))
        → (due_on ids c (x ∷ deeds) ≡ []) ⊎ ((has_ended c (x ∷ deeds) ≡ true) ⊎ (open_channel (x ∷ deeds) ≡ Some c))
    by c true e before = inr (inr (opened ∙ at_open c (open_channel deeds) e))
    by c false e (inl none) = inl (due c ∙ ap (λ (b : Bool). due_on ids c deeds ++ (if b then thing ∷ [] else [])) e ∙ append-nil (due_on ids c deeds) ∙ none)
    by c false e (inr (inl over)) = inr (inl (ended c ∙ over))
    by c false e (inr (inr there)) = inr (inr (opened ∙ there))

begun_in_time : (ids : List ℕ) (n : ℕ) (deeds : List Deed) → open_channel deeds ≡ None → due_on ids n deeds ≡ [] → tellings_on n deeds ≡ [] → AreInTime ids deeds → AreInTime ids (host_begins n ∷ deeds)
begun_in_time ids n deeds shut none untold is = record {
  points = (λ c. few c (n == c) refl, is.points);
  counted = λ c. count c (n == c) refl;
  over = λ c. by c (n == c) refl (is.over c);
}
  where
    few : (c : ℕ) (b : Bool) → (n == c) ≡ b → length (tellings_on c deeds) ≤ (if b then 1 else tellings_due c deeds)
    few c true e =
        let same : n ≡ c = eqb-true n c e in
        let nothing : length (tellings_on c deeds) ≡ 0 = ap length (subst (λ (k : ℕ). tellings_on k deeds ≡ []) same untold) in
        omega (arith, nothing)
    few c false e = point_now IsToldInTime deeds is.points c

    count : (c : ℕ) (b : Bool) → (n == c) ≡ b → length (due_on ids c deeds ++ (if b then lists (there_of ids deeds) ∷ [] else [])) ≡ (if b then 1 else tellings_due c deeds)
    count c true e =
        let same : n ≡ c = eqb-true n c e in
        ap (λ (ts : List Telling). length (ts ++ lists (there_of ids deeds) ∷ [])) (subst (λ (k : ℕ). due_on ids k deeds ≡ []) same none)
    count c false e = ap length (append-nil (due_on ids c deeds)) ∙ is.counted c

    by : (c : ℕ) (b : Bool) → (n == c) ≡ b → (due_on ids c deeds ≡ []) ⊎ ((has_ended c deeds ≡ true) ⊎ (open_channel deeds ≡ Some c))
        → (due_on ids c deeds ++ (if b then lists (there_of ids deeds) ∷ [] else []) ≡ []) ⊎ ((has_ended c deeds ≡ true) ⊎ (◌≡◌ {A = Option ℕ} (Some n) (Some c)))
    by c true e before = inr (inr (ap (λ (k : ℕ). Some k) (eqb-true n c e)))
    by c false e (inl nothing) = inl (append-nil (due_on ids c deeds) ∙ nothing)
    by c false e (inr (inl over)) = inr (inl over)
    by c false e (inr (inr there)) = absurd (cc (shut, there))

ended_in_time : (ids : List ℕ) (n : ℕ) (deeds : List Deed) → open_channel deeds ≡ Some n → AreInTime ids deeds → AreInTime ids (host_ends n ∷ deeds)
ended_in_time ids n deeds opened is = record { points = (point_now IsToldInTime deeds is.points, is.points); counted = is.counted; over = λ c. by c (n == c) refl (is.over c) }
  where
    by : (c : ℕ) (b : Bool) → (n == c) ≡ b → (due_on ids c deeds ≡ []) ⊎ ((has_ended c deeds ≡ true) ⊎ (open_channel deeds ≡ Some c))
        → (due_on ids c deeds ≡ []) ⊎ (((n == c || has_ended c deeds) ≡ true) ⊎ (◌≡◌ {A = Option ℕ} None (Some c)))
    by c true e before = inr (inl (ap (λ (b : Bool). b || has_ended c deeds) e))
    by c false e (inl nothing) = inl nothing
    by c false e (inr (inl over)) = inr (inl (ap (λ (b : Bool). b || has_ended c deeds) e ∙ over))
    by c false e (inr (inr there)) =
        let same : n ≡ c = cc (opened, there) in
        absurd (cc (eq-eqb n c same, e))

-- what is written is told in time
sent_in_time : (ids : List ℕ) (x : Deed) (deeds : List Deed) → ((c : ℕ) → tellings_due c (x ∷ deeds) ≡ tellings_due c deeds) → ((c : ℕ) → due_on ids c (x ∷ deeds) ≡ due_on ids c deeds) → ((c : ℕ) → has_ended c (x ∷ deeds) ≡ has_ended c deeds)
    → open_channel (x ∷ deeds) ≡ open_channel deeds → ((c : ℕ) → length (tellings_on c (x ∷ deeds)) ≤ length (due_on ids c (x ∷ deeds))) → AreInTime ids deeds → AreInTime ids (x ∷ deeds)
sent_in_time ids x deeds count due ended opened few is = record {
  points = (
    λ c.
        let same : length (due_on ids c (x ∷ deeds)) ≡ length (due_on ids c deeds) = ap length (due c) in
        omega (arith, few c, same, is.counted c, count c),
    is.points,
  );
  counted = λ c. ap length (due c) ∙ is.counted c ∙ sym (count c);
  over = λ c. elim (is.over c) [
    | inl none ↦ inl (due c ∙ none)
    | inr (inl over) ↦ inr (inl (ended c ∙ over))
    | inr (inr there) ↦ inr (inr (opened ∙ there))
  ];
}

module _ (lines : List NumberedLine) (starves : Key → Bool) (premises : RunPremises lines) where
  abbrev devices : List (ℕ × Declared)
  devices = declared_devices (bare_lines lines)

  abbrev ids : List ℕ
  ids = ids_in devices

  part_in_time : (w : WorldState) (p : Part) → MayBe lines starves w p → Stands w → TellsAs devices w → TellsAs devices (done starves w p) → AreInTime ids w.deeds → AreInTime ids (done starves w p).deeds
  part_in_time w begins may stands t after is =
      let shut : open_channel w.deeds ≡ None = shut_now w stands (off (is_channel_open w) may) in
      let none : due_on ids (w.channels + 1) w.deeds ≡ [] = t.above (w.channels + 1) (omega arith) in
      let untold : tellings_on (w.channels + 1) w.deeds ≡ [] =
      say_none (Tells devices w.deeds (w.channels + 1)) (tellings_on (w.channels + 1) w.deeds)
      (subst (λ (ts : List Telling). SayFirst (Tells devices w.deeds (w.channels + 1)) (tellings_on (w.channels + 1) w.deeds) ts) none (t.each (w.channels + 1))) in
      subst (λ (x : WorldState). AreInTime ids (begun_on w x).deeds) (sym (all_refreshed (map (λ (e : ℕ × PrinterNames). e.0) w.printers) w))
      (begun_in_time ids (w.channels + 1) w.deeds shut none untold is)
    where
      off : (b : Bool) → not b ≡ true → b ≡ false
      off true e = absurd cc
      off false e = refl
  part_in_time w ends may stands t after is =
      let stations : List ℕ = map (λ (e : ℕ × StationState SessionDevice). e.0) w.stations in
      let u = all_dropped_unspoken stations w in
      let cut : WorldState = fold dropping w stations in
      let opened : open_channel w.deeds ≡ Some w.channels = needs_open lines starves w ends may tt stands in
      ended_in_time ids cut.channels cut.deeds (open_left w cut u opened) (quiet_in_time ids w cut u is)
    where
      open_left : (x y : WorldState) → Unspoken x y → open_channel x.deeds ≡ Some x.channels → open_channel y.deeds ≡ Some y.channels
      open_left x y u opened = (left_unspoken x y u).opened ∙ opened ∙ ap (λ (n : ℕ). Some n) (sym u.channels)
  part_in_time w (client_sends_one c o) may stands t after is = by o.answers refl (λ k. say_few (Tells devices (deed_on w.channels o ∷ w.deeds) k) (tellings_on k (deed_on w.channels o ∷ w.deeds)) (due_on ids k (deed_on w.channels o ∷ w.deeds)) (after.each k))
    where
      by : (key : Option Key) → o.answers ≡ key
          → ((k : ℕ) → let x = option_map_or (λ i. completes i o.message) key (client_writes w.channels o.message) in length (tellings_on k (x ∷ w.deeds)) ≤ length (due_on ids k (x ∷ w.deeds)))
          → AreInTime ids (option_map_or (λ i. completes i o.message) key (client_writes w.channels o.message) ∷ w.deeds)
      by None e few = sent_in_time ids (client_writes w.channels o.message) w.deeds (λ k. refl) (λ k. refl) (λ k. refl) refl few is
      by (Some key) e few = sent_in_time ids (completes key o.message) w.deeds (λ k. refl) (λ k. refl) (λ k. refl) refl few is
  part_in_time w (client_hears_one message rest) may stands t after is =
      let x : WorldState = record w { to_client = record w.to_client { part = []; taken = _; unhandled = rest } } in
      let u = hears_unspoken x message in
      subst (AreInTime ids) (sym u.deeds) (silent_all ids u.more (client_reads w.channels message ∷ w.deeds) u.silent (silent_one ids (client_reads w.channels message) w.deeds tt is))
  part_in_time w (removes_one device o) may stands t after is =
      let told : WorldState = told_removed w device in
      quiet_in_time ids told _ (option_unspoken told (λ (s : StationState SessionDevice). with_station told device (station.remove s (device_cut s.device).state).0) o
      (λ s. stationed_unspoken told device (station.remove s (device_cut s.device).state).0))
      (more_due ids (removes device) (removal device) w.deeds (λ c. refl) (λ c. refl) refl (λ c. refl) (λ c. refl) is)
  part_in_time w (adds_one device names o) may stands t after is = adding names
    where
      announced : (x : WorldState) → AreInTime (ids_in (declared_devices (bare_lines lines))) x.deeds → AreInTime (ids_in (declared_devices (bare_lines lines))) (announced_by x device o).deeds
      announced x own = quiet_in_time (ids_in (declared_devices (bare_lines lines))) x _ (option_unspoken x (λ (y : StationState SessionDevice). with_station x device (station.announce y).0) o (λ y. stationed_unspoken x device (station.announce y).0)) own

      added : AreInTime (ids_in (declared_devices (bare_lines lines))) (adds device ∷ w.deeds)
      added = more_due ids (adds device) (addition device (length (filter (is_add device) w.deeds))) w.deeds (λ c. refl) (λ c. refl) refl (λ c. refl) (λ c. refl) is

      adding : (n : Option PrinterNames) → AreInTime (ids_in (declared_devices (bare_lines lines))) (announced_by (told_added (refreshed_by w device n) device) device o).deeds
      adding None = announced (told_added w device) added
      adding (Some found) = announced (told_added (refreshed_by w device (Some found)) device) added
  part_in_time w p may stands t after is = quiet_in_time ids w (done starves w p) (quiet_unspoken starves w p tt) is

  -- Where nothing that a client read was wrong no more is told than is due.
  pub behind_in_time : (w : WorldState) → IsBehind lines starves w → AreReadWell w.deeds → AreInTime ids w.deeds
  behind_in_time =
      by_parts lines starves (λ w. AreReadWell w.deeds → AreInTime ids w.deeds)
      (λ well. subst (λ (x : WorldState). AreInTime ids x.deeds) (sym (begun_by lines _ (lines_begin lines))) (record { points = λ c. omega arith; counted = λ c. refl; over = λ c. inl refl }))
      (λ w p before after may is well.
      let earlier = part_well lines starves w p may well in
      part_in_time w p may (knows lines starves premises w before).stands (behind_tells lines starves premises w before earlier) (behind_tells lines starves premises (done starves w p) after well) (is earlier))
