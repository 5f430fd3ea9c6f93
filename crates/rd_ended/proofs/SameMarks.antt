-- A run is the same where the runs of jobs find no memory of which its own journals say so.
use Rattle.std.proofs.Common.{◌≡◌, ◌∙◌, refl, sym, ap, subst, inl, inr, ℕ, zero, suc, ◌+◌, ◌≤◌, ◌&&◌, arith, Bool, true, false, cond, not, List, [], ◌∷◌, length, map, Some, None, Option}
use Rattle.std.specs.Prelude.{All, if◌then◌else◌, slice_get}
use Rattle.std.specs.List.{AllByRecursion}
use Rattle.std.specs.Map.{keys_of, lookup}
use Rattle.std.specs.Ordering.{nat_cmp}
use Rattle.std.specs.BTreeMap.{insert_entry, is_at}
use Rattle.std.specs.Option.{option_and_then, option_map_or, unwrap_or}
use Rattle.std.proofs.lemmas.List.Elements.{All-head, All-tail}
use Rattle.rd_base.specs.declared.journal.Item.{Item}
use Rattle.rd_base.specs.declared.journal.Key.{Key}
use Rattle.rd_drive.specs.declared.plan.Job.{Job}
use Rattle.rd_drive.specs.Planned.{Planned}
use Rattle.rd_irp.specs.declared.op.Op.{Op}
use Rattle.rd_irp.specs.declared.op.Op.TheVariants as op
use Rattle.rd_told.proofs.JournalsDeclaredLemmas.{bounded_fit}
use Rattle.rd_told.proofs.JournalsDeviceLemmas.{comes}
use Rattle.rd_told.proofs.JournalsRunLemmas.{reached_orderly}
use Rattle.rd_told.specs.JournalsStations.{IsFit}
use Rattle.rd_opening.specs.OrdersOrders.{DeclaresWritable}
use Rattle.rd_pending.proofs.MapLemmas.{inserted}
use Rattle.rd_told.specs.RunsMoves.{Reached}
use Rattle.rd_told.specs.RunsPremises.{RunPremises}
use Rattle.rd_script.specs.declared.line.Errand.{Errand}
use Rattle.rd_script.specs.declared.line.Errand.TheVariants as errand
use Rattle.rd_script.specs.declared.line.Line.{Line}
use Rattle.rd_script.specs.declared.line.Line.TheVariants as line
use Rattle.rd_script.specs.declared.line.NumberedLine.{NumberedLine}
use Rattle.rd_station.specs.declared.answers.Applied.{Applied}
use Rattle.rd_station.specs.Station as station
use Rattle.rd_station.specs.Station.{StationState, StationStep, applies}
use Rattle.rd_world.proofs.FuelLemmas.{AreWithin, IsKept, both, connects_on_more, first_within, plays_line_more, plays_more, second_within, settled_more}
use Rattle.rd_world.proofs.GoingLemmas.{Goes, ends_session_goes, gone_to, goes_longer, plays_goes, settled_goes}
use Rattle.rd_world.proofs.KeysLemmas.{agrees_before, applied_as}
use Rattle.rd_world.proofs.PlayingLemmas.{may_connect}
use Rattle.rd_declared.specs.declared.device.SessionDevice.{SessionDevice}
use Rattle.rd_declared.specs.Devices.{device_cuts, device_parked, device_runs}
use Rattle.rd_world.specs.Events as event
use Rattle.rd_world.specs.Events.{Event, act, applies_at, applies_held, came_of, hand_at, is_channel_open, is_close, is_enabled, with_hand}
use Rattle.rd_declared.specs.Declaring.{declared_devices}
use Rattle.rd_declared.specs.Marks.{AgreesAt, MarksAgree}
use Rattle.rd_world.specs.Keys.{station_journals}
use Rattle.rd_world.specs.Run as run
use Rattle.rd_world.specs.Run.{Most, NextStep, all_client_sends, all_host_sends, asked_by, choices, chosen, connects_on, controls, does, drawing, drawn_count, ends_session, event_of, host_count, idles, is_quiet, picked, plays, plays_line, queueing, rounds, run_of, settled, settles_by, some_left, while_enabled, world_of}
use Rattle.rd_deeds.specs.Talk.{Has}
use Rattle.rd_world.specs.World.{Asked, WorldState, journals_in, station_at, with_station}
use Rattle.rd_world.proofs.RoundsLemmas.{round}
use Rattle.rd_ended.proofs.Ending.{StandsBefore, drawing_on, event_on, first_on, free_less, passed_on, reached, ids_of, pairs_of}
use Rattle.rd_ended.proofs.Lessening.{CanCome, choices_can, chosen_lessens, pick_has}
use Rattle.rd_ended.proofs.OwnMarks.{ids_rise}
use Rattle.rd_ended.proofs.Remaining.{remaining, undrawn}
use Rattle.rd_ended.proofs.Runs.{Ends, connects_end, line_ends, plays_end, settles_end}

abbrev Of : Type 0
Of = StationState SessionDevice

-- what is said of all journals is said of a station's
marks_at : (marks : Key → Bool) (d : ℕ) (s : Of) (es : List (ℕ × Of)) → lookup (is_at (nat_cmp d)) es ≡ Some s → MarksAgree marks (station_journals es) → All (AgreesAt marks) s.journal
marks_at marks d s [] there all = absurd (cc there)
marks_at marks d s (e ∷ es) there all = by (is_at (nat_cmp d) e.0) there (marks_at marks d s es)
  where
    by : (b : Bool) → cond b (Some e.1) (lookup (is_at (nat_cmp d)) es) ≡ Some s → (lookup (is_at (nat_cmp d)) es ≡ Some s → MarksAgree marks (station_journals es) → All (AgreesAt marks) s.journal) → All (AgreesAt marks) s.journal
    by true there later =
        let same : e.1 ≡ s = cc there in
        subst (λ (x : Of). All (AgreesAt marks) x.journal) same (All-head (λ (j : ℕ × List Item). All (AgreesAt marks) j.1) (e.0, (e.1).journal) (station_journals es) all)
    by false there later = later there (All-tail (λ (j : ℕ × List Item). All (AgreesAt marks) j.1) (e.0, (e.1).journal) (station_journals es) all)

never_closed : (b : Bool) (o : Op) → o ≡ op.Close → (b && not (is_close o)) ≡ false
never_closed b o same = ap (λ (p : Op). b && not (is_close p)) same ∙ by b
  where
    by : (b : Bool) → (b && false) ≡ false
    by true = refl
    by false = refl

-- what some steps come to all come to
ended_as : (f : Most → Option WorldState) (P : WorldState → Type 0) → ((most more : Most) → AreWithin most more → IsKept (f most) (f more)) → Ends f P → (most : Most) (y : WorldState) → f most ≡ Some y → P y
ended_as f P steady (m, x, is, p) most y comes =
    let one : f (both m most) ≡ Some x = steady m (both m most) (first_within m most) x is in
    let two : f (both m most) ≡ Some y = steady most (both m most) (second_within m most) y comes in
    let same : x ≡ y = (let all : Some x ≡ Some y = sym one ∙ two in cc all) in
    subst P same p

-- ---- rounds

module _ (starves marks : Key → Bool) where
  while_same : (most : ℕ) (e : Event) → ((x : WorldState) → act marks x e ≡ act starves x e) → (w : WorldState) → while_enabled marks most e w ≡ while_enabled starves most e w
  while_same zero e same w = refl
  while_same (suc most) e same w = by (is_enabled w e) (while_same most e same)
    where
      by : (b : Bool) → ((x : WorldState) → while_enabled marks most e x ≡ while_enabled starves most e x) → (if b then while_enabled marks most e (act marks w e) else w) ≡ (if b then while_enabled starves most e (act starves w e) else w)
      by true later = later (act marks w e) ∙ ap (while_enabled starves most e) (same w)
      by false later = refl

  host_same : (w : WorldState) → all_host_sends marks w ≡ all_host_sends starves w
  host_same w = while_same (host_count w) event.host_send (λ x. refl) w

  client_same : (w : WorldState) → all_client_sends marks w ≡ all_client_sends starves w
  client_same w = while_same (length ((w.client).core).outbox) event.client_send (λ x. refl) w

  round_same : (w : WorldState) → round marks w ≡ round starves w
  round_same w =
      let sent : all_client_sends marks (all_host_sends marks w) ≡ all_client_sends starves (all_host_sends starves w) =
      client_same (all_host_sends marks w) ∙ ap (all_client_sends starves) (host_same w) in
      ap (λ (x : WorldState). run.host_reads_all starves (run.client_reads_all starves x)) sent

  rounds_same : (most : ℕ) (w : WorldState) → rounds marks most w ≡ rounds starves most w
  rounds_same zero w = refl
  rounds_same (suc most) w = by (is_quiet w) (rounds_same most)
    where
      by : (b : Bool) → ((x : WorldState) → rounds marks most x ≡ rounds starves most x) → (if b then Some w else rounds marks most (round marks w)) ≡ (if b then Some w else rounds starves most (round starves w))
      by true later = refl
      by false later = later (round marks w) ∙ ap (rounds starves most) (round_same w)

module _ (lines : List NumberedLine) (starves marks : Key → Bool) (premises : RunPremises lines) where
  abbrev On : ℕ → List NumberedLine → WorldState → Type 0
  On = StandsBefore lines starves premises

  abbrev Agrees : WorldState → Type 0
  Agrees w = MarksAgree marks (journals_in w)

  abbrev Reaches : WorldState → Type 0
  Reaches = Reached lines starves

  -- what holds of a world's marks held before
  before : (y x : WorldState) → Reaches y → Goes y x → Agrees x → Agrees y
  before y x r goes agrees = agrees_before marks (journals_in y) (journals_in x) (goes_longer y x goes (ids_rise lines starves premises y r)) agrees

  -- ---- a job is run

  applied_same : (w : WorldState) (hand device : ℕ) (job : Job) → Reaches w → (o : Option Of) → station_at w device ≡ o → Agrees (applies_at starves w hand device job o) → applies_at marks w hand device job o ≡ applies_at starves w hand device job o
  applied_same w hand device job r None there agrees = refl
  applied_same w hand device job r (Some s) there agrees = ap (λ (t : Of). with_hand (with_station w device t) hand None) (sym same)
    where
      flag : Bool
      flag = starves job.key && not (is_close job.op)

      after : Of
      after = (station.apply s job w.moment (came_of starves w job s.device)).0

      answer : Applied
      answer = (station.apply s job w.moment (came_of starves w job s.device)).1

      planned : Planned
      planned = record { job = job; starved = flag }

      fit : IsFit s.device
      fit = (((reached_orderly lines starves w (bounded_fit lines premises.bounded) r).held).on device s there).fit

      step : StationStep device_runs device_parked device_cuts s (applies planned w.moment answer) after
      step = (came_of starves w job s.device, refl, λ did. comes s.device job w.moment flag fit (never_closed (starves job.key) job.op))

      own : All (AgreesAt marks) after.journal
      own = marks_at marks device after (insert_entry nat_cmp w.stations device after) (inserted device after w.stations) agrees

      same : after ≡ (station.apply s job w.moment (came_of marks w job s.device)).0
      same = applied_as s after planned w.moment answer step marks own

  event_same : (w : WorldState) (e : Event) → Reaches w → Agrees (act starves w e) → act marks w e ≡ act starves w e
  event_same w (event.apply_job hand) r agrees = by (option_and_then (λ held. held) (hand_at w hand)) agrees
    where
      by : (o : Option (ℕ × Job)) → Agrees (applies_held starves w hand o) → applies_held marks w hand o ≡ applies_held starves w hand o
      by None agrees = refl
      by (Some (device, job)) agrees = applied_same w hand device job r (station_at w device) refl agrees
  event_same w (event.issue a) r agrees = refl
  event_same w event.host_send r agrees = refl
  event_same w (event.client_read n) r agrees = refl
  event_same w event.client_send r agrees = refl
  event_same w (event.collect device) r agrees = refl
  event_same w (event.host_read n) r agrees = refl
  event_same w (event.take_job device hand) r agrees = refl
  event_same w (event.remove device) r agrees = refl
  event_same w (event.add device) r agrees = refl
  event_same w event.drop_channel r agrees = refl
  event_same w event.connect r agrees = refl
  event_same w (event.tell n) r agrees = refl

  chosen_same : (w : WorldState) (c : NextStep) → Reaches w → Agrees (chosen starves w c) → chosen marks w c ≡ chosen starves w c
  chosen_same w (run.event e) r agrees = event_same w e r agrees
  chosen_same w run.reads_client r agrees = refl
  chosen_same w run.reads_host r agrees = refl

  -- ---- settling

  settled_same : (n : ℕ) (rest : List NumberedLine) (most : ℕ) (w : WorldState) → On n rest w → (x : WorldState) → settled starves most w ≡ Some x → Agrees x → settled marks most w ≡ Some x
  settled_same n rest zero w on x is agrees = absurd (cc is)
  settled_same n rest (suc most) w on x is agrees = by (choices w) (choices_can w) is (settled_same n rest most)
    where
      fs : List (WorldState → ℕ)
      fs = remaining (ids_of (pairs_of lines)) (keys_of (declared_devices (map (λ (l : NumberedLine). l.line) lines)))

      by : (cs : List NextStep) → AllByRecursion (CanCome w) cs → settles_by starves w cs (settled starves most) ≡ Some x
          → ((v : WorldState) → On n rest v → (u : WorldState) → settled starves most v ≡ Some u → Agrees u → settled marks most v ≡ Some u) → settles_by marks w cs (settled marks most) ≡ Some x
      by [] all is later = is
      by (c ∷ cs) all is later =
          let i : ℕ = picked (drawing w).draws (length (c ∷ cs)) in
          let one : NextStep = unwrap_or (slice_get (c ∷ cs) i) c in
          let y : WorldState = chosen starves (drawing w) one in
          let next = chosen_lessens starves fs (On n rest) (free_less lines starves premises n rest) (drawing_on lines starves premises n rest)
          (undrawn (ids_of (pairs_of lines)) (keys_of (declared_devices (map (λ (l : NumberedLine). l.line) lines)))) w one (pick_has (CanCome w) (c ∷ cs) i c all all.0) on in
          let goes : Goes y x = gone_to y (settled starves most y) x (settled_goes starves most y) is in
          let agrees_y : Agrees y = before y x (reached lines starves premises n rest y next.0) goes agrees in
          let same : chosen marks (drawing w) one ≡ y = chosen_same (drawing w) one (reached lines starves premises n rest (drawing w) (drawing_on lines starves premises n rest w on)) agrees_y in
          ap (settled marks most) same ∙ later y next.0 x is agrees

  -- ---- lines

  some_is : (a b : WorldState) → Some a ≡ Some b → a ≡ b
  some_is a b e = cc e

  does_same : (most : Most) (w : WorldState) (e : Errand) → Reaches w → Agrees (does starves most w e) → does marks most w e ≡ does starves most w e
  does_same most w errand.Send r agrees = host_same starves marks w
  does_same most w errand.Answer r agrees = client_same starves marks w
  does_same most w (errand.Apply hand) r agrees = event_same w (event.apply_job hand) r agrees
  does_same most w (errand.Issue a) r agrees = refl
  does_same most w errand.Read r agrees = refl
  does_same most w (errand.Take device hand) r agrees = refl
  does_same most w (errand.Collect device) r agrees = refl
  does_same most w errand.Back r agrees = refl

  controls_same : (most : Most) (n : ℕ) (rest : List NumberedLine) (w : WorldState) (number : ℕ) (l : Line) → On n rest w → (x : WorldState) → controls starves most w number l ≡ Some x → Agrees x → controls marks most w number l ≡ Some x
  unfolding controls
  controls_same most n rest w number line.Settle on x is agrees = settled_same n rest most.draws w on x is agrees
  controls_same most n rest w number line.Connect on x is agrees = by (is_enabled w event.connect) is
    where
      by : (b : Bool) → (if b then connects_on starves most w else Some (idles w number)) ≡ Some x → (if b then connects_on marks most w else Some (idles w number)) ≡ Some x
      by true is = rounds_same starves marks most.rounds (act starves w event.connect) ∙ is
      by false is = is
  controls_same most n rest w number (line.Do e) on x is agrees = by (is_enabled w (event_of w e)) is
    where
      by : (b : Bool) → Some (if b then does starves most w e else idles w number) ≡ Some x → Some (if b then does marks most w e else idles w number) ≡ Some x
      by true is =
          let came : does starves most w e ≡ x = some_is (does starves most w e) x is in
          ap (λ (v : WorldState). Some v) (does_same most w e (reached lines starves premises n rest w on) (subst Agrees (sym came) agrees)) ∙ is
      by false is = is
  controls_same most n rest w number l on x is agrees = is

  line_same : (most : Most) (n : ℕ) (l : NumberedLine) (rest : List NumberedLine) (w : WorldState) → On n (l ∷ rest) w → (x : WorldState) → plays_line starves most w l ≡ Some x → Agrees x → plays_line marks most w l ≡ Some x
  line_same most n l rest w on x is agrees = by (asked_by l.line) refl is
    where
      by : (o : Option (ℕ × Asked)) → asked_by l.line ≡ o → option_map_or (λ (asked : ℕ × Asked). Some (queueing w asked.0)) o (controls starves most w l.number l.line) ≡ Some x
          → option_map_or (λ (asked : ℕ × Asked). Some (queueing w asked.0)) o (controls marks most w l.number l.line) ≡ Some x
      by None asks is = controls_same most n rest w l.number l.line (passed_on lines starves premises n l rest w asks on) x is agrees
      by (Some asked) asks is = is

  session_same : (most : Most) (n : ℕ) (w : WorldState) → n + 1 ≤ length lines + 2 → On n [] w → (x : WorldState) → ends_session starves most w ≡ Some x → Agrees x → ends_session marks most w ≡ Some x
  session_same most n w few on x is agrees = by (is_channel_open w) refl (some_left w) is
    where
      by : (a : Bool) → is_channel_open w ≡ a → (b : Bool) → (if a && b then settled starves most.draws (act starves w event.drop_channel) else Some w) ≡ Some x → (if a && b then settled marks most.draws (act marks w event.drop_channel) else Some w) ≡ Some x
      by true can true is = settled_same (n + 1) [] most.draws (act starves w event.drop_channel) (event_on lines starves premises n (n + 1) [] w event.drop_channel (omega arith) few tt can on) x is agrees
      by true can false is = is
      by false can b is = is

  module _ (writable : DeclaresWritable lines) where
    plays_same : (most : Most) (ls : List NumberedLine) (n : ℕ) (w : WorldState) → n + length ls ≤ length lines + 2 → ((l : NumberedLine) → Has l ls → Has l lines) → On n ls w
        → (x : WorldState) → plays starves most ls w ≡ Some x → Agrees x → plays marks most ls w ≡ Some x
    plays_same most [] n w few among on x is agrees = is
    plays_same most (l ∷ ls) n w few among on x is agrees = by (plays_line starves most w l) refl is (plays_same most ls (n + 1))
      where
        by : (o : Option WorldState) → plays_line starves most w l ≡ o → option_and_then (plays starves most ls) o ≡ Some x
            → ((v : WorldState) → n + 1 + length ls ≤ length lines + 2 → ((k : NumberedLine) → Has k ls → Has k lines) → On (n + 1) ls v → (u : WorldState) → plays starves most ls v ≡ Some u → Agrees u → plays marks most ls v ≡ Some u)
            → option_and_then (plays marks most ls) (plays_line marks most w l) ≡ Some x
        by None line is later = absurd (cc is)
        by (Some y) line is later =
            let on_y : On (n + 1) ls y = ended_as (λ m. plays_line starves m w l) (On (n + 1) ls) (λ m more within. plays_line_more starves m more within w l)
            (line_ends lines starves premises writable n l ls w (omega (arith, few)) (among l (inl refl)) on) most y line in
            let goes : Goes y x = gone_to y (plays starves most ls y) x (plays_goes starves most ls y) is in
            let agrees_y : Agrees y = before y x (reached lines starves premises (n + 1) ls y on_y) goes agrees in
            ap (option_and_then (plays marks most ls)) (line_same most n l ls w on y line agrees_y) ∙ later y (omega (arith, few)) (λ k has. among k (inr has)) on_y x is agrees

    -- a run is the same by marks that are those of its journals
    pub run_same : (most : Most) (w : WorldState) → run_of most starves lines ≡ Some w → Agrees w → run_of most marks lines ≡ Some w
    run_same most w is agrees = begun (connects_on starves most (world_of lines)) refl is
      where
        ends_as : (s : WorldState) → On (0 + 1 + length lines) [] s → ends_session starves most s ≡ Some w → ends_session marks most s ≡ Some w
        ends_as s on is = session_same most (0 + 1 + length lines) s (omega arith) on w is agrees

        goes_end : (s : WorldState) → On (0 + 1 + length lines) [] s → ends_session starves most s ≡ Some w → Agrees s
        goes_end s on is = before s w (reached lines starves premises (0 + 1 + length lines) [] s on) (gone_to s (ends_session starves most s) w (ends_session_goes starves most s) is) agrees

        rested : (p : WorldState) → On (0 + 1 + length lines) [] p → (o : Option WorldState) → settled starves most.draws p ≡ o → option_and_then (ends_session starves most) o ≡ Some w
            → (option_and_then (ends_session marks most) (settled marks most.draws p) ≡ Some w) × Agrees p
        rested p on None settles is = absurd (cc is)
        rested p on (Some s) settles is =
            let on_s : On (0 + 1 + length lines) [] s = ended_as (λ m. settled starves m.draws p) (On (0 + 1 + length lines) []) (λ m more within. settled_more starves m.draws more.draws within.draws p)
            (settles_end lines starves premises writable (0 + 1 + length lines) [] p on) most s settles in
            let agrees_s : Agrees s = goes_end s on_s is in (
              ap (option_and_then (ends_session marks most)) (settled_same (0 + 1 + length lines) [] most.draws p on s settles agrees_s) ∙ ends_as s on_s is,
              before p s (reached lines starves premises (0 + 1 + length lines) [] p on) (gone_to p (settled starves most.draws p) s (settled_goes starves most.draws p) settles) agrees_s,
            )

        played : (b : WorldState) → On (0 + 1) lines b → (o : Option WorldState) → plays starves most lines b ≡ o → option_and_then (ends_session starves most) (option_and_then (settled starves most.draws) o) ≡ Some w
            → option_and_then (ends_session marks most) (option_and_then (settled marks most.draws) (plays marks most lines b)) ≡ Some w
        played b on None plays_is is = absurd (cc is)
        played b on (Some p) plays_is is =
            let on_p : On (0 + 1 + length lines) [] p = ended_as (λ m. plays starves m lines b) (On (0 + 1 + length lines) []) (λ m more within. plays_more starves m more within lines b)
            (plays_end lines starves premises writable lines (0 + 1) b (omega arith) (λ l has. has) on) most p plays_is in
            let (ends_is, agrees_p) = rested p on_p (settled starves most.draws p) refl is in
            ap (λ (o : Option WorldState). option_and_then (ends_session marks most) (option_and_then (settled marks most.draws) o)) (plays_same most lines (0 + 1) b (omega arith) (λ l has. has) on p plays_is agrees_p) ∙ ends_is

        begun : (o : Option WorldState) → connects_on starves most (world_of lines) ≡ o
            → option_and_then (ends_session starves most) (option_and_then (settled starves most.draws) (option_and_then (plays starves most lines) o)) ≡ Some w → run_of most marks lines ≡ Some w
        begun None connects is = absurd (cc is)
        begun (Some b) connects is =
            let on_b : On (0 + 1) lines b = ended_as (λ m. connects_on starves m (world_of lines)) (On (0 + 1) lines) (λ m more within. connects_on_more starves m more within (world_of lines))
            (connects_end lines starves premises writable 0 lines (world_of lines) (omega arith) (may_connect lines) (first_on lines starves premises)) most b connects in
            let same : connects_on marks most (world_of lines) ≡ Some b = rounds_same starves marks most.rounds (act starves (world_of lines) event.connect) ∙ connects in
            ap (λ (o : Option WorldState). option_and_then (ends_session marks most) (option_and_then (settled marks most.draws) (option_and_then (plays marks most lines) o))) same ∙ played b on_b (plays starves most lines b) refl is
