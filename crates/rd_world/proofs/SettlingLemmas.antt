-- Draws of a settling, one after the other.
use Rattle.std.proofs.Common.{◌≡◌, ℕ, zero, suc, ◌+◌, List, [], ◌∷◌, ◌++◌, append-nil, length, map, slice_get, Bool, true, false, Option, Some, refl, sym, ap, ◌∙◌, subst, arith}
use Rattle.std.specs.Option.{unwrap_or}
use Rattle.rd_base.specs.declared.journal.Key.{Key}
use Rattle.std.specs.List.{AllByRecursion}
use Rattle.std.specs.Prelude.{OnErr, OnOk, Result, Ok, Err, is_err}
use Rattle.std.proofs.lemmas.List.{length-map}
use Rattle.std.proofs.lemmas.Bool.{false≢true}
use Rattle.rd_base.specs.Faults.{CountsFault}
use Rattle.rd_world.specs.Choices.{choices_in}
use Rattle.rd_world.specs.declared.choices.Choices.{Choices}
use Rattle.rd_world.specs.declared.choices.Choice.{Choice}
use Rattle.rd_world.specs.Drawn.{HasPlaces, can_happen, next_step_of}
use Rattle.rd_declared.specs.Marks.{AreLonger, MarksAgree}
use Rattle.rd_world.specs.Recording.{recording_of_deeds}
use Rattle.rd_world.specs.Stations.{AreStations}
use Rattle.rd_world.specs.Step.{recorded_next}
use Rattle.rd_world.specs.Wire.{StaysRecorded}
use Rattle.rd_world.proofs.DrawnLemmas.{all_got, drawn_can_happen, picked_step}
use Rattle.rd_world.proofs.GoingLemmas.{chosen_goes, goes_longer}
use Rattle.rd_world.proofs.KeysLemmas.{agrees_before}
use Rattle.rd_world.proofs.RecordedLemmas.{event_recorded}
use Rattle.rd_world.proofs.RoundsLemmas.{client_read_quiet, host_read_quiet}
use Rattle.rd_world.specs.Events.{Event, add, apply_job, client_read, client_send, collect, connect, drop_channel, host_read, host_send, issue, is_enabled, remove, take_job, tell}
use Rattle.rd_world.specs.Run.{NextStep, choices, chosen, device_ids, drawing, drawn_count, event, picked, reads_client, reads_host, settled, settles_by}
use Rattle.rd_world.specs.World.{WorldState, journals_in, marks_of}

-- what can happen doesn't hang on the draws
drawing_enabled : (w : WorldState) (e : Event) → is_enabled (drawing w) e ≡ is_enabled w e
drawing_enabled w (issue a) = refl
drawing_enabled w host_send = refl
drawing_enabled w (client_read n) = refl
drawing_enabled w client_send = refl
drawing_enabled w (collect device) = refl
drawing_enabled w (host_read n) = refl
drawing_enabled w (take_job device hand) = refl
drawing_enabled w (apply_job hand) = refl
drawing_enabled w (remove device) = refl
drawing_enabled w (add device) = refl
drawing_enabled w drop_channel = refl
drawing_enabled w connect = refl
drawing_enabled w (tell n) = refl

pub drawing_can : (w : WorldState) (s : NextStep) → can_happen (drawing w) s ≡ can_happen w s
drawing_can w (event e) = drawing_enabled w e
drawing_can w reads_client = refl
drawing_can w reads_host = refl

module _ (starves : Key → Bool) where
  done_at : (w : WorldState) (cs : List NextStep) → length cs ≡ 0 → settles_by starves w cs (settled starves zero) ≡ Some w
  done_at w [] none = refl
  done_at w (c ∷ cs) none = absurd (omega arith)

  -- where nothing can happen it is settled
  pub settled_done : (w : WorldState) → length (choices w) ≡ 0 → settled starves 1 w ≡ Some w
  settled_done w none = done_at w (choices w) none

  step_at : (w : WorldState) (s : NextStep) (most : ℕ) (cs : List NextStep) → slice_get cs (picked (drawing w).draws (length cs)) ≡ Some s
      → settles_by starves w cs (settled starves most) ≡ settled starves most (chosen starves (drawing w) s)
  step_at w s most [] got = absurd (cc got)
  step_at w s most (c ∷ cs) got = ap (λ (o : Option NextStep). settled starves most (chosen starves (drawing w) (unwrap_or o c))) got

  -- one draw more
  pub settled_step : (w x : WorldState) (s : NextStep) (i n most : ℕ) → n ≡ length (choices w) → i ≡ picked (drawing w).draws n → slice_get (choices w) i ≡ Some s
      → x ≡ chosen starves (drawing w) s → settled starves (suc most) w ≡ settled starves most x
  settled_step w x s i n most count place got came =
      let at : picked (drawing w).draws (length (choices w)) ≡ i = sym (place ∙ ap (picked (drawing w).draws) count) in
      step_at w s most (choices w) (ap (slice_get (choices w)) at ∙ got) ∙ ap (settled starves most) (sym came)

-- ---- a turn of the loop that settles

-- what is known of a result that is no error
pub when_ok : {T E : Type 0} (P : Type 0) (r : Result T E) → is_err r ≡ false → OnOk r P → P
when_ok P (Ok x) ok p = p
when_ok P (Err e) ok p = absurd (false≢true (sym ok))

-- two things that are known of a result that is no error
pub on_ok_two : {T E : Type 0} (P Q S : Type 0) (r : Result T E) → (P → Q → S) → OnOk r P → OnOk r Q → OnOk r S
on_ok_two P Q S (Ok x) both p q = both p q
on_ok_two P Q S (Err e) both p q = tt

pub when_err : {T E : Type 0} (P : Type 0) (r : Result T E) → is_err r ≡ true → OnErr r P → P
when_err P (Ok x) err p = absurd (false≢true err)
when_err P (Err e) err p = p

pub counts_none : {T E : Type 0} (r : Result T E) (old new : ℕ) → is_err r ≡ false → CountsFault r old new → new ≡ old
counts_none (Ok x) old new ok count = count
counts_none (Err e) old new ok count = absurd (false≢true (sym ok))

counted : (w : WorldState) (c : Choices) (n : ℕ) → map (next_step_of (device_ids w)) (choices_in c) ≡ choices w → n ≡ length (choices_in c) → n ≡ length (choices w)
counted w c n drawn count = count ∙ sym (length-map (choices_in c) (next_step_of (device_ids w))) ∙ ap length drawn

-- where nothing can happen it is settled here, and so from the beginning
pub settled_here : (start w : WorldState) (c : Choices) (n k : ℕ) → ((most : ℕ) (starves : Key → Bool) → MarksAgree starves (journals_in w) → settled starves (k + most) start ≡ settled starves most w)
    → map (next_step_of (device_ids w)) (choices_in c) ≡ choices w → n ≡ length (choices_in c) → n ≡ 0
    → (most : ℕ) × ((starves : Key → Bool) → MarksAgree starves (journals_in w) → settled starves most start ≡ Some w)
settled_here start w c n k reached drawn count none = (k + 1, λ starves agrees. reached 1 starves agrees ∙ settled_done starves w (sym (counted w c n drawn count) ∙ none))

-- one draw more, from the beginning
one_draw_at : (start w y : WorldState) (c : Choices) (i n : ℕ) (x : Choice) (k : ℕ)
    → ((most : ℕ) (starves : Key → Bool) → MarksAgree starves (journals_in w) → settled starves (k + most) start ≡ settled starves most w)
    → map (next_step_of (device_ids w)) (choices_in c) ≡ choices w → AreStations w.stations → n ≡ length (choices_in c) → i ≡ picked (drawing w).draws n → slice_get (choices_in c) i ≡ Some x
    → ((starves : Key → Bool) → MarksAgree starves (journals_in y) → y ≡ chosen starves (drawing w) (next_step_of (device_ids w) x)) → y ≡ chosen (marks_of y) (drawing w) (next_step_of (device_ids w) x)
    → (j : ℕ) × ((most : ℕ) (starves : Key → Bool) → MarksAgree starves (journals_in y) → settled starves (j + most) start ≡ settled starves most y)
one_draw_at start w y c i n x k reached drawn are count place got came marked = (
  k + 1,
  λ most starves agrees.
      let s : NextStep = next_step_of (device_ids w) x in
      let longer : AreLonger (journals_in w) (journals_in y) =
      subst (λ (v : WorldState). AreLonger (journals_in w) (journals_in v)) (sym marked) (goes_longer (drawing w) (chosen (marks_of y) (drawing w) s) (chosen_goes (marks_of y) (drawing w) s) are.rise) in
      let before : MarksAgree starves (journals_in w) = agrees_before starves (journals_in w) (journals_in y) longer agrees in
      ap (λ (m : ℕ). settled starves m start) (omega arith) ∙ reached (suc most) starves before
      ∙ settled_step starves w y s i n most (counted w c n drawn count) place (picked_step w c i x drawn got) (came starves agrees),
)

pub one_draw : (start w v y : WorldState) (c : Choices) (i n : ℕ) (x : Choice) (k : ℕ)
    → ((most : ℕ) (starves : Key → Bool) → MarksAgree starves (journals_in w) → settled starves (k + most) start ≡ settled starves most w)
    → map (next_step_of (device_ids w)) (choices_in c) ≡ choices w → AreStations w.stations → n ≡ length (choices_in c) → v ≡ drawing w → i ≡ picked v.draws n → slice_get (choices_in c) i ≡ Some x
    → ((starves : Key → Bool) → MarksAgree starves (journals_in y) → y ≡ chosen starves v (next_step_of (device_ids v) x)) → y ≡ chosen (marks_of y) v (next_step_of (device_ids v) x)
    → (j : ℕ) × ((most : ℕ) (starves : Key → Bool) → MarksAgree starves (journals_in y) → settled starves (j + most) start ≡ settled starves most y)
one_draw start w v y c i n x k reached drawn are count draw place got came marked =
    one_draw_at start w y c i n x k reached drawn are count (place ∙ ap (λ (u : WorldState). picked u.draws n) draw) got
    (λ starves agrees. came starves agrees ∙ ap (λ (u : WorldState). chosen starves u (next_step_of (device_ids u) x)) draw)
    (marked ∙ ap (λ (u : WorldState). chosen (marks_of y) u (next_step_of (device_ids u) x)) draw)

-- what is drawn can happen where the draw was made, and its places are there
pub drawn_can : (w v : WorldState) (c : Choices) (i : ℕ) (x : Choice) → map (next_step_of (device_ids w)) (choices_in c) ≡ choices w → v ≡ drawing w → slice_get (choices_in c) i ≡ Some x
    → can_happen v (next_step_of (device_ids v) x) ≡ true
drawn_can w v c i x drawn draw got =
    let s : NextStep = next_step_of (device_ids w) x in
    ap (λ (u : WorldState). can_happen u (next_step_of (device_ids u) x)) draw ∙ drawing_can w s ∙ drawn_can_happen w i s (picked_step w c i x drawn got)

pub drawn_placed : (w v : WorldState) (c : Choices) (i : ℕ) (x : Choice) → AllByRecursion (HasPlaces (length w.stations)) (choices_in c) → v ≡ drawing w → slice_get (choices_in c) i ≡ Some x
    → HasPlaces (length v.stations) x
drawn_placed w v c i x placed draw got = subst (λ (u : WorldState). HasPlaces (length u.stations) x) (sym draw) (all_got (HasPlaces (length w.stations)) (choices_in c) i x placed got)

-- a draw only makes journals longer
pub drawn_longer : (w v y : WorldState) (s : NextStep) → v ≡ drawing w → y ≡ chosen (marks_of y) v s → AreStations w.stations → AreLonger (journals_in w) (journals_in y)
drawn_longer w v y s draw marked are =
    subst (λ (u : WorldState). AreLonger (journals_in w) (journals_in u)) (sym marked)
    (subst (λ (u : WorldState). AreLonger (journals_in w) (journals_in (chosen (marks_of y) u s))) (sym draw)
    (goes_longer (drawing w) (chosen (marks_of y) (drawing w) s) (chosen_goes (marks_of y) (drawing w) s) are.rise))

-- ---- what is recorded

next_recorded : (starves : Key → Bool) (w : WorldState) (s : NextStep) → recording_of_deeds (chosen starves w s).deeds ≡ recording_of_deeds w.deeds ++ recorded_next w s
next_recorded starves w (event e) = event_recorded starves w e
next_recorded starves w reads_client =
    let x : WorldState = drawing w in client_read_quiet x (drawn_count x (x.to_client).pipe) ∙ sym (append-nil (recording_of_deeds w.deeds))
next_recorded starves w reads_host =
    let x : WorldState = drawing w in host_read_quiet x (drawn_count x (x.to_host).pipe) ∙ sym (append-nil (recording_of_deeds w.deeds))

pub draw_stays : (starves : Key → Bool) (w v y : WorldState) (s : NextStep) (old new : List ℕ) → v ≡ drawing w → y ≡ chosen starves v s → new ≡ old ++ recorded_next v s
    → StaysRecorded w old y new
draw_stays starves w v y s old new draw came added =
    let recorded : WorldState → List ℕ = λ (u : WorldState). recording_of_deeds u.deeds in
    (recorded_next v s, ap recorded came ∙ next_recorded starves v s ∙ ap (λ (bytes : List ℕ). bytes ++ recorded_next v s) (ap recorded draw), added)
