-- Where nothing can happen by itself, a request of the open channel is left waiting by the journals where one waits in a device.
use Rattle.std.proofs.Common.{◌≡◌, ◌≢◌, ◌∙◌, refl, sym, ap, subst, inl, inr, ℕ, ◌==◌, ◌&&◌, ◌||◌, not, Bool, true, false, arith, List, [], ◌∷◌, ◌++◌, map, reverse, Some, Option, eqb-true, eq-eqb}
use Rattle.std.specs.Prelude.{All, Contains}
use Rattle.std.specs.List.{AllByRecursion, flat_map, list_any}
use Rattle.std.specs.List.Sorted.{IsStrictlySortedBy}
use Rattle.std.specs.Map.{keys_of, lookup}
use Rattle.std.specs.Ordering.{nat_cmp}
use Rattle.std.specs.BTreeMap.{is_at}
use Rattle.std.proofs.lemmas.List.{reverse-append}
use Rattle.std.proofs.lemmas.List.Elements.{All-contains}
use Rattle.rd_base.specs.Lawful.{named_key, sends}
use Rattle.rd_base.specs.declared.journal.Cause.TheVariants.{Dropped}
use Rattle.rd_base.specs.declared.journal.Item.{Item}
use Rattle.rd_base.specs.declared.journal.Item.TheVariants.{Came, Cancelled, Cut, Ran, Sent}
use Rattle.rd_base.specs.declared.journal.Key.{Key}
use Rattle.rd_drive.specs.Device.{Parked}
use Rattle.rd_drive.specs.Replies.{last_state_by}
use Rattle.rd_answered.proofs.JoinedJournalLemmas.{each_found}
use Rattle.rd_answered.proofs.JournalsDeclaredLemmas.{bounded_fit}
use Rattle.rd_answered.proofs.JournalsHeldLemmas.{turned_has}
use Rattle.rd_answered.proofs.JournalsReplyLemmas.{fit_at}
use Rattle.rd_answered.specs.JournalsOrderly.{current}
use Rattle.rd_rest.proofs.CompletedLemmas.{any_true, end_cases, entry_has, keeps_at, named_waits, not_over, ordered, parked_waits, waits_as}
use Rattle.rd_rest.proofs.OverLemmas.{reached_over}
use Rattle.rd_rest.proofs.ParkedLemmas.{reached_left_parked}
use Rattle.rd_rest.proofs.WaitingLemmas.{waits_run}
use Rattle.rd_answered.specs.RunsMoves.{Reached}
use Rattle.rd_answered.specs.RunsPremises.{RunPremises}
use Rattle.rd_script.specs.declared.line.NumberedLine.{NumberedLine}
use Rattle.rd_station.proofs.Members.{from_contains, has_append, has_map, key_self, map_has, to_contains}
use Rattle.rd_station.proofs.Members.{same_key as one_key}
use Rattle.rd_station.proofs.Remembering.{has_any}
use Rattle.rd_station.specs.Memory.{NamesKey}
use Rattle.rd_station.specs.Station.{StationState}
use Rattle.rd_station.specs.Tied.{as_parked}
use Rattle.rd_station.specs.declared.held.ParkedJob.{ParkedJob}
use Rattle.rd_told.proofs.PrintedLemmas.{keyed}
use Rattle.rd_deeds.proofs.Journals.{has_contains}
use Rattle.rd_declared.proofs.DeclaringLemmas.{declared_openable}
use Rattle.rd_world.specs.Acts.{before_end, some_wait, waiting_in, waiting_keys}
use Rattle.rd_declared.specs.Devices.{Declared, device_cut, device_parked, device_step}
use Rattle.rd_world.specs.Recording.{request_of}
use Rattle.rd_declared.specs.Declaring.{bare_lines, declared_devices}
use Rattle.rd_world.specs.Run.{choices, is_left_parked, some_left}
use Rattle.rd_deeds.specs.Talk.{Has, journal, open_channel}
use Rattle.rd_world.specs.World.{WorldState, station_at}
use Rattle.rd_declared.specs.declared.device.SessionDevice.{SessionDevice}

abbrev Of : Type 0
Of = StationState SessionDevice

-- ---- tests

pub same_tests : (a b : Bool) → (a ≡ true → b ≡ true) → (b ≡ true → a ≡ true) → a ≡ b
same_tests true b on off = sym (on refl)
same_tests false true on off = off refl
same_tests false false on off = refl

all_three : (a b c : Bool) → (a && (b && c)) ≡ true → (a ≡ true) × (b ≡ true) × (c ≡ true)
all_three true true true e = (refl, refl, refl)
all_three true true false e = absurd (cc e)
all_three true false c e = absurd (cc e)
all_three false b c e = absurd (cc e)

pub any_of : {A : Type 0} (p : A → Bool) (xs : List A) (x : A) → Has x xs → p x ≡ true → list_any p xs ≡ true
any_of p [] x has e = absurd has
any_of p (y ∷ xs) x (inl here) e = ap (λ (b : Bool). b || list_any p xs) (sym (ap p here) ∙ e)
any_of {A} p (y ∷ xs) x (inr later) e = by (p y) (any_of p xs x later e)
  where
    by : (b : Bool) → list_any p xs ≡ true → (b || list_any p xs) ≡ true
    by true e = refl
    by false e = e

pub flat_in : {A B : Type 0} (f : A → List B) (xs : List A) (y : B) → Has y (flat_map f xs) → (x : A) × Has x xs × Has y (f x)
flat_in f [] y has = absurd has
flat_in f (x ∷ xs) y has = elim (has_append y (f x) (flat_map f xs) has) [ inl here ↦ (x, inl refl, here) | inr later ↦ let (z, among, there) = flat_in f xs y later in (z, inr among, there) ]

all_has : {A : Type 0} (P : A → Type 0) (xs : List A) → AllByRecursion P xs → (x : A) → Has x xs → P x
all_has P [] all x has = absurd has
all_has P (y ∷ xs) all x (inl here) = subst P (sym here) all.0
all_has P (y ∷ xs) all x (inr later) = all_has P xs all.1 x later

-- an entry is found under its key
pub found_of : {X : Type 0} (es : List (ℕ × X)) → IsStrictlySortedBy nat_cmp (keys_of es) → (e : ℕ × X) → Has e es → lookup (is_at (nat_cmp e.0)) es ≡ Some e.1
found_of es rise e has = all_has (λ x. lookup (is_at (nat_cmp x.0)) es ≡ Some x.1) es (each_found es rise (λ k s. lookup (is_at (nat_cmp k)) es ≡ Some s) (λ k s there. there)) e has

pub key_has : {X : Type 0} (es : List (ℕ × X)) (k : ℕ) → Has k (keys_of es) → (x : X) × Has (k, x) es
key_has es k has = let (e, among, same) = map_has (λ e. e.0) k es has in (e.1, subst (λ (n : ℕ). Has (n, e.1) es) (sym same) among)

module _ (lines : List NumberedLine) (starves : Key → Bool) (premises : RunPremises lines) (w : WorldState) (reached : Reached lines starves w) (none : choices w ≡ [])
    (is : open_channel w.deeds ≡ Some w.channels) where
  abbrev pub own : List (ℕ × Declared)
  own = declared_devices (bare_lines lines)

  pub rising : IsStrictlySortedBy nat_cmp (keys_of own)
  rising = (declared_openable lines premises.declared).rise

  stations_rise : IsStrictlySortedBy nat_cmp (keys_of w.stations)
  stations_rise = subst (λ (ks : List ℕ). IsStrictlySortedBy nat_cmp ks) (sym (keyed lines starves premises w reached)) rising

  -- each device has a station
  pub station_of_device : (e : ℕ × Declared) → Has e own → (s : Of) × (station_at w e.0 ≡ Some s)
  station_of_device e has =
      let (s, among) = key_has w.stations e.0 (subst (Has e.0) (sym (keyed lines starves premises w reached)) (has_map (λ (x : ℕ × Declared). x.0) e own has)) in
      (s, found_of w.stations stations_rise (e.0, s) among)

  -- ---- what is left waiting waits

  left_is_waiting : some_left w ≡ true → some_wait own w.deeds w.channels ≡ true
  left_is_waiting left =
      let (e, among, inside) = any_true (λ (e : ℕ × Of). let s = e.1 in list_any (is_left_parked s.journal w.channels) s.journal) w.stations left in
      let s : Of = e.1 in
      let (x, has, test) = any_true (is_left_parked s.journal w.channels) s.journal inside in
      by e.0 s (found_of w.stations stations_rise e among) x has test
    where
      at_key : (d : ℕ) (s : Of) → station_at w d ≡ Some s → (key : Key) → NamesKey s.journal key → key.channel ≡ w.channels → list_any (sends key) s.journal ≡ false
          → some_wait own w.deeds w.channels ≡ true
      at_key d s there key names here unsent = elim (named_waits lines starves premises w reached none is d s there key names here) [
        | inl (p, parked, same) ↦
            any_of (λ (k : Key). k.channel == w.channels) (waiting_keys own w.deeds) p.key
            (parked_waits lines starves premises w reached none is d s there p parked (not_over lines starves premises w reached none is d s there key names here))
            (eq-eqb (p.key).channel w.channels (ap (λ (k : Key). k.channel) same ∙ here))
        | inr sent ↦
            let on : list_any (sends key) s.journal ≡ true = any_of (sends key) s.journal (Sent key) (from_contains s.journal (Sent key) sent) (key_self key) in
            absurd (cc (unsent, on))
      ]

      is_off : (b : Bool) → not b ≡ true → b ≡ false
      is_off true e = absurd (cc e)
      is_off false e = refl

      by : (d : ℕ) (s : Of) → station_at w d ≡ Some s → (x : Item) → Has x s.journal → is_left_parked s.journal w.channels x ≡ true → some_wait own w.deeds w.channels ≡ true
      by d s there (Ran key moment starved parked) has test =
          let (p, c, u) = all_three parked (key.channel == w.channels) (not (list_any (sends key) s.journal)) test in
          at_key d s there key (has_any (λ entry. named_key entry ≡ Some key) s.journal (Ran key moment starved parked) has refl) (eqb-true key.channel w.channels c) (is_off (list_any (sends key) s.journal) u)
      by d s there (Came key) has test = absurd (cc test)
      by d s there (Cancelled key) has test = absurd (cc test)
      by d s there (Sent key) has test = absurd (cc test)
      by d s there (Cut cause) has test = absurd (cc test)

  -- ---- what waits is left waiting

  parked_is_left : (d : ℕ) (s : Of) → station_at w d ≡ Some s → (q : ParkedJob) → Has q s.parked → (q.key).channel ≡ w.channels → some_left w ≡ true
  parked_is_left d s there q has here =
      let (moment, starved, ran) = reached_left_parked lines starves w reached d s there q has in
      let unsent = ((keeps_at lines starves premises w reached none is d s there).1.parked_run q has).1.unsent in
      let test : is_left_parked s.journal w.channels (Ran q.key moment starved true) ≡ true =
      ap (λ (b : Bool). b && not (list_any (sends q.key) s.journal)) (eq-eqb (q.key).channel w.channels here) ∙ ap not (not_sent (list_any (sends q.key) s.journal) refl unsent) in
      any_of (λ (e : ℕ × Of). let t = e.1 in list_any (is_left_parked t.journal w.channels) t.journal) w.stations (d, s) (entry_has w.stations d s there)
      (any_of (is_left_parked s.journal w.channels) s.journal (Ran q.key moment starved true) ran test)
    where
      sent_is : (x : Item) → sends q.key x ≡ true → x ≡ Sent q.key
      sent_is (Sent k) e = ap Sent (one_key k q.key e)
      sent_is (Came k) e = absurd (cc e)
      sent_is (Ran k m st p) e = absurd (cc e)
      sent_is (Cancelled k) e = absurd (cc e)
      sent_is (Cut cause) e = absurd (cc e)

      not_sent : (b : Bool) → list_any (sends q.key) s.journal ≡ b → All (λ (x : Item). x ≢ Sent q.key) s.journal → b ≡ false
      not_sent true e all =
          let (x, among, it) = any_true (sends q.key) s.journal e in
          absurd (All-contains (λ (y : Item). y ≢ Sent q.key) s.journal x all (to_contains s.journal x among) (sent_is x it))
      not_sent false e all = refl

  -- what waits in a device was named by its journal
  named_of_waiting : (d : ℕ) (s : Of) → station_at w d ≡ Some s → (x : Declared) → lookup (is_at (nat_cmp d)) own ≡ Some x → (earlier : List Item) → journal d w.deeds ≡ Cut Dropped ∷ earlier
      → (p : Parked) → Has p (device_parked (last_state_by device_step device_cut (request_of w.deeds) x.state (reverse earlier))) → NamesKey s.journal p.key
  named_of_waiting d s there x at earlier e p has =
      let fit = fit_at own d x (bounded_fit lines premises.bounded) at in
      elim (waits_run (request_of w.deeds) p.key (reverse earlier) x.state fit.0 (p, has, refl)) [
        | inl was ↦ absurd (subst (Has was.0) fit.1 was.1)
        | inr (moment, starved, mark, ran) ↦
            let among : Has (Ran p.key moment starved mark) (journal d w.deeds) = subst (Has (Ran p.key moment starved mark)) (sym e) (inr (turned_has (Ran p.key moment starved mark) earlier ran)) in
            let stored : Has (Ran p.key moment starved mark) s.journal =
            from_contains s.journal (Ran p.key moment starved mark) (subst (λ (j : List Item). Contains j (Ran p.key moment starved mark)) (((ordered lines starves premises w reached none is).held).tied d s there)
            (has_contains (Ran p.key moment starved mark) (journal d w.deeds) among)) in
            has_any (λ entry. named_key entry ≡ Some p.key) s.journal (Ran p.key moment starved mark) stored refl
      ]

  -- where the journal of a device ends in a drop, nothing that waited by then is of the open channel
  pub over_waits : (d : ℕ) (s : Of) → station_at w d ≡ Some s → (x : Declared) → lookup (is_at (nat_cmp d)) own ≡ Some x → (earlier : List Item) → journal d w.deeds ≡ Cut Dropped ∷ earlier
      → (p : Parked) → Has p (device_parked (last_state_by device_step device_cut (request_of w.deeds) x.state (reverse earlier))) → (p.key).channel ≡ w.channels → ⊥
  over_waits d s there x at earlier e p has here =
      let names = named_of_waiting d s there x at earlier e p has in
      let closes : s.journal ≡ reverse earlier ++ Cut Dropped ∷ [] = sym (((ordered lines starves premises w reached none is).held).tied d s there) ∙ ap reverse e ∙ reverse-append (Cut Dropped ∷ []) earlier in
      let low = reached_over lines starves (bounded_fit lines premises.bounded) w reached d s there (reverse earlier) closes p.key names in
      let now : current (open_channel w.deeds) w.channels ≡ w.channels = ap (λ (o : Option ℕ). current o w.channels) is in
      omega (arith, low, now, here)

  waiting_is_left : some_wait own w.deeds w.channels ≡ true → some_left w ≡ true
  waiting_is_left waits =
      let (key, among, test) = any_true (λ (k : Key). k.channel == w.channels) (waiting_keys own w.deeds) waits in
      let (p, flat, same) = map_has (λ (q : Parked). q.key) key (flat_map (waiting_in w.deeds) own) among in
      let (e, has, inside) = flat_in (waiting_in w.deeds) own p flat in
      let here : (p.key).channel ≡ w.channels = ap (λ (k : Key). k.channel) (sym same) ∙ eqb-true key.channel w.channels test in
      let (s, there) = station_of_device e has in
      by e.0 e.1 (found_of own rising e has) s there p inside here
    where
      by : (d : ℕ) (x : Declared) → lookup (is_at (nat_cmp d)) own ≡ Some x → (s : Of) → station_at w d ≡ Some s → (p : Parked) → Has p (waiting_in w.deeds (d, x)) → (p.key).channel ≡ w.channels → some_left w ≡ true
      by d x at s there p inside here = elim (end_cases (journal d w.deeds)) [
        | inl (earlier, e) ↦
            absurd (over_waits d s there x at earlier e p
            (subst (λ (j : List Item). Has p (device_parked (last_state_by device_step device_cut (request_of w.deeds) x.state (reverse j)))) (ap before_end e) inside) here)
        | inr same ↦
            let (y, found, waits) = waits_as lines starves premises w reached none is d s there same in
            let both : Some x ≡ Some y = sym at ∙ found in
            let one : x ≡ y = cc in
            let parked : Has p (map as_parked s.parked) = subst (Has p) waits (subst (λ (z : Declared). Has p (waiting_in w.deeds (d, z))) one inside) in
            let (q, held, is_q) = map_has as_parked p s.parked parked in
            parked_is_left d s there q held (ap (λ (z : Parked). (z.key).channel) (sym is_q) ∙ here)
      ]

  -- A request of the open channel is left waiting just where one waits.
  pub left_waits : some_left w ≡ some_wait own w.deeds w.channels
  left_waits = same_tests (some_left w) (some_wait own w.deeds w.channels) left_is_waiting waiting_is_left
