-- What the control lines of a whole run did.
use Rattle.std.proofs.Common.{◌≡◌, ◌⊎◌, ◌∙◌, refl, sym, ap, subst, inl, inr, ℕ, ◌≤◌, ◌==◌, Bool, true, false, arith, eq-eqb, List, [], ◌∷◌, ◌++◌, length, Some, None, Option, append-nil, is_some}
use Rattle.std.specs.Prelude.{All, if◌then◌else◌}
use Rattle.std.specs.List.{range_with_len}
use Rattle.std.specs.Option.{option_map_or}
use Rattle.rd_base.specs.declared.journal.Key.{Key}
use Rattle.rd_rest.proofs.ControlsLeading.{does_as_said}
use Rattle.rd_rest.proofs.ControlsUnseen.{client_ready}
use Rattle.rd_rest.specs.ControlsControls.{AreOrderedLines, DoAsSaid, EndsAs, control_with}
use Rattle.rd_rest.proofs.JoinedRoomLemmas.{unworn}
use Rattle.rd_printer.specs.Notice.{notice_bytes}
use Rattle.rd_printer.specs.declared.notice.Notice.{Notice}
use Rattle.rd_rest.proofs.RunLemmas.{run_left}
use Rattle.rd_rest.proofs.RunsHostLemmas.{host_channel}
use Rattle.rd_rest.proofs.RunsParts.{IsBehind, reached_behind}
use Rattle.rd_rest.proofs.RunsReaching.{run_reached, run_rests}
use Rattle.rd_rest.proofs.RunsResting.{quiet}
use Rattle.rd_rest.proofs.RunsStanding.{Stands}
use Rattle.rd_rest.proofs.RunsTogether.{knows}
use Rattle.rd_rest.specs.RunsMoves.{Reached}
use Rattle.rd_rest.specs.RunsPremises.{RunPremises}
use Rattle.rd_script.specs.declared.line.NumberedLine.{NumberedLine}
use Rattle.rd_world.specs.Acts.{AreActed, AreSaid, Opens, Tells, is_settled_host, notices_on, of_channel, tellings_due, tellings_on}
use Rattle.rd_world.specs.Control.{Control, Telling, control_of}
use Rattle.rd_declared.specs.Devices.{Declared}
use Rattle.rd_deeds.specs.Host.{first_waiting}
use Rattle.rd_declared.specs.Declaring.{bare_lines, declared_devices}
use Rattle.rd_world.specs.Recording.{host_stand}
use Rattle.rd_world.specs.Run.{Most, choices, run_of}
use Rattle.rd_deeds.specs.Talk.{Deed, EachAfter, adds, client_reads, client_writes, completes, has_ended, host_begins, host_ends, host_reads, host_writes, open_channel, removes, stores, submits, takes, tells}
use Rattle.rd_world.specs.World.{WorldState}
use Rattle.rd_acted.proofs.ActLemmas.{acts_by_deeds, control_by_acts}
use Rattle.rd_acted.proofs.CauseLemmas.{cuts_by_deeds}
use Rattle.rd_acted.proofs.DueLemmas.{current_by_deeds, notices_are_due, told_is_due}
use Rattle.rd_acted.proofs.EveryCutLemmas.{behind_there}
use Rattle.rd_acted.proofs.InTimeLemmas.{AreInTime, behind_in_time}
use Rattle.rd_acted.proofs.PrinterLemmas.{NoticesAs, behind_notices}
use Rattle.rd_acted.proofs.ReadLemmas.{fewer_read, premises_fit}
use Rattle.rd_acted.proofs.SayingLemmas.{say_none, say_zip, told_longer}
use Rattle.rd_acted.proofs.TellLemmas.{TellsAs, behind_tells, ids_in}
use Rattle.rd_acted.specs.Acted.{AreReadWell, EndsTold, GoWell, HaveActed, SayFirst, control_after, control_by_deeds, due_on, notices_due, without_idle}
use Rattle.rd_acted.specs.Waiting.{notices_waiting, tellings_waiting}

-- ---- lists

nothing_first : {A : Type 0} (xs ys : List A) → xs ++ ys ≡ [] → xs ≡ []
nothing_first [] ys e = refl
nothing_first (x ∷ xs) ys e = absurd (cc e)

-- something is due on a channel that is open
open_due : (deeds : List Deed) (c : ℕ) → open_channel deeds ≡ Some c → 1 ≤ tellings_due c deeds
open_due [] c opened = absurd (cc opened)
open_due (host_begins channel ∷ before) c opened = by (channel == c) refl
  where
    by : (b : Bool) → (channel == c) ≡ b → 1 ≤ (if b then 1 else tellings_due c before)
    by true e = omega arith
    by false e =
        let same : channel ≡ c = cc opened in
        absurd (cc (eq-eqb channel c same, e))
open_due (host_ends channel ∷ before) c opened = absurd (cc opened)
open_due (removes device ∷ before) c opened = omega (arith, open_due before c opened)
open_due (adds device ∷ before) c opened = omega (arith, open_due before c opened)
open_due (submits a named op ∷ before) c opened = open_due before c opened
open_due (takes number ∷ before) c opened = open_due before c opened
open_due (tells n ∷ before) c opened = open_due before c opened
open_due (host_writes channel message ∷ before) c opened = open_due before c opened
open_due (host_reads channel message ∷ before) c opened = open_due before c opened
open_due (client_reads channel message ∷ before) c opened = open_due before c opened
open_due (client_writes channel message ∷ before) c opened = open_due before c opened
open_due (completes key message ∷ before) c opened = open_due before c opened
open_due (stores device item ∷ before) c opened = open_due before c opened

-- ---- a run

module _ (lines : List NumberedLine) (starves : Key → Bool) (premises : RunPremises lines) where
  abbrev devices : List (ℕ × Declared)
  devices = declared_devices (bare_lines lines)

  abbrev ids : List ℕ
  ids = ids_in devices

  -- the channel that is open, where one is
  opened_now : (w : WorldState) (c : ℕ) → Stands w → open_channel w.deeds ≡ Some c → c ≡ w.channels
  opened_now w c stands opened = elim stands.host.last [ inl shut ↦ absurd (cc (opened, shut)) | inr is ↦ (let same : Some c ≡ Some w.channels = sym opened ∙ is in cc) ]

  module _ (w : WorldState) (well : AreReadWell w.deeds) (b : IsBehind lines starves w) (left : Option ℕ) (ends : EndsAs lines starves (control_of ids lines) left w)
      (same : without_idle (control_with left (control_of ids lines)) ≡ control_by_deeds ids w.deeds) where
    -- the client is ready where the channel is open
    ready_now : (c : ℕ) → open_channel w.deeds ≡ Some c → client_ready w ≡ true
    ready_now c opened = by left refl
      where
        current : (control_with left (control_of ids lines)).current ≡ Some c
        current = ap (λ (k : Control). k.current) same ∙ current_by_deeds ids w.deeds ∙ opened

        was_ready : (control_of ids lines).current ≡ Some c → client_ready w ≡ true
        was_ready is =
            let v : WorldState = ends.last in
            let behind : IsBehind lines starves v = reached_behind lines starves v ends.reached in
            let stands = (knows lines starves premises v behind).stands in
            let v_opened : open_channel v.deeds ≡ Some c = sym (host_channel v.side v.channels v.deeds stands.host) ∙ ends.channel ∙ is in
            let v_channel : c ≡ v.channels = opened_now v c stands v_opened in
            let v_well : AreReadWell v.deeds = fewer_read ends.grown.0 v.deeds (subst AreReadWell ends.grown.1 well) in
            let t = behind_tells lines starves premises v behind v_well in
            let i = behind_in_time lines starves premises v behind v_well in
            let all = t.all (v_opened ∙ ap (λ (n : ℕ). Some n) v_channel) (ends.ready (ap is_some is)).client in
            let out : tellings_waiting ((v.client).core).outbox ≡ [] = ap tellings_waiting (quiet v ends.rests).client_sends in
            let many : length (tellings_on v.channels v.deeds) ≡ length (due_on ids v.channels v.deeds) =
            sym (ap length (ap (λ (ms : List (List ℕ)). tellings_on v.channels v.deeds ++ ms) out ∙ append-nil (tellings_on v.channels v.deeds))) ∙ all in
            let some : 1 ≤ tellings_due v.channels v.deeds = subst (λ (n : ℕ). 1 ≤ tellings_due n v.deeds) v_channel (open_due v.deeds c v_opened) in
            let counted : length (due_on ids v.channels v.deeds) ≡ tellings_due v.channels v.deeds = i.counted v.channels in
            let w_stands = (knows lines starves premises w b).stands in
            let w_channel : c ≡ w.channels = opened_now w c w_stands opened in
            let longer : length (tellings_on v.channels v.deeds) ≤ length (tellings_on v.channels w.deeds) =
            subst (λ (ds : List Deed). length (tellings_on v.channels v.deeds) ≤ length (tellings_on v.channels ds)) (sym ends.grown.1) (told_longer v.channels ends.grown.0 v.deeds) in
            let there : 1 ≤ length (tellings_on w.channels w.deeds) =
            subst (λ (n : ℕ). 1 ≤ length (tellings_on n w.deeds)) (sym v_channel ∙ w_channel) (omega (arith, many, some, counted, longer)) in
            ready (client_ready w) refl (opened ∙ ap (λ (n : ℕ). Some n) w_channel) there
          where
            ready : (x : Bool) → client_ready w ≡ x → open_channel w.deeds ≡ Some w.channels → 1 ≤ length (tellings_on w.channels w.deeds) → x ≡ true
            ready true e is_open some = refl
            ready false e is_open some =
                let none = ((behind_tells lines starves premises w b well).first is_open e).0 in
                let empty : tellings_on w.channels w.deeds ≡ [] = nothing_first (tellings_on w.channels w.deeds) _ none in
                let short : length (tellings_on w.channels w.deeds) ≡ 0 = ap length empty in
                absurd (omega (arith, some, short))

        by : (o : Option ℕ) → left ≡ o → client_ready w ≡ true
        by None e = was_ready (ap (λ (o : Option ℕ). (control_with o (control_of ids lines)).current) (sym e) ∙ current)
        by (Some k) e =
            let none : (control_with left (control_of ids lines)).current ≡ None = ap (λ (o : Option ℕ). (control_with o (control_of ids lines)).current) e in
            absurd (cc (current, none))

  -- ---- all is told on a channel that didn't end, where nothing can happen by itself

  module _ (w : WorldState) (b : IsBehind lines starves w) (rests : choices w ≡ []) where
    pub all_told : AreReadWell w.deeds → ((c : ℕ) → open_channel w.deeds ≡ Some c → client_ready w ≡ true) → (c : ℕ) → AreSaid (Tells devices w.deeds c) (due_on ids c w.deeds) (tellings_on c w.deeds) (has_ended c w.deeds)
    all_told well ready_now c = record { each = say_zip (Tells devices w.deeds c) (tellings_on c w.deeds) (due_on ids c w.deeds) (t.each c); all = λ unended. by (i.over c) unended }
      where
        t : TellsAs devices w
        t = behind_tells lines starves premises w b well

        i : AreInTime ids w.deeds
        i = behind_in_time lines starves premises w b well

        by : (due_on ids c w.deeds ≡ []) ⊎ ((has_ended c w.deeds ≡ true) ⊎ (open_channel w.deeds ≡ Some c)) → has_ended c w.deeds ≡ false → length (tellings_on c w.deeds) ≡ length (due_on ids c w.deeds)
        by (inl none) unended =
            let untold : tellings_on c w.deeds ≡ [] =
            say_none (Tells devices w.deeds c) (tellings_on c w.deeds) (subst (λ (ts : List Telling). SayFirst (Tells devices w.deeds c) (tellings_on c w.deeds) ts) none (t.each c)) in
            ap length untold ∙ ap length (sym none)
        by (inr (inl ended)) unended = absurd (cc (ended, unended))
        by (inr (inr opened)) unended =
            let channel : c ≡ w.channels = opened_now w c (knows lines starves premises w b).stands opened in
            let all = t.all (opened ∙ ap (λ (n : ℕ). Some n) channel) (ready_now c opened) in
            let out : tellings_waiting ((w.client).core).outbox ≡ [] = ap tellings_waiting (quiet w rests).client_sends in
            ap (λ (n : ℕ). length (tellings_on n w.deeds)) channel
            ∙ sym (ap length (ap (λ (ms : List (List ℕ)). tellings_on w.channels w.deeds ++ ms) out ∙ append-nil (tellings_on w.channels w.deeds))) ∙ all
            ∙ ap (λ (n : ℕ). length (due_on ids n w.deeds)) (sym channel)

    pub all_noticed : (c : ℕ) → AreSaid (λ n message. message ≡ notice_bytes n) (notices_due c w.deeds) (notices_on c w.deeds) (has_ended c w.deeds)
    all_noticed c = record { each = say_zip (λ n message. message ≡ notice_bytes n) (notices_on c w.deeds) (notices_due c w.deeds) (n.each c); all = λ unended. by (n.over c) unended }
      where
        n : NoticesAs w
        n = behind_notices lines starves premises w b

        silent : (((w.side).core).core).outbox ≡ []
        silent = go (((w.side).core).core).outbox ((w.side).table).outbox (quiet w rests).host_sends
          where
            go : (own requests : List (List ℕ)) → first_waiting own requests ≡ None → own ≡ []
            go [] requests none = refl
            go (m ∷ own) requests none = absurd (cc none)

        by : (notices_due c w.deeds ≡ []) ⊎ ((has_ended c w.deeds ≡ true) ⊎ (open_channel w.deeds ≡ Some c)) → has_ended c w.deeds ≡ false → length (notices_on c w.deeds) ≡ length (notices_due c w.deeds)
        by (inl none) unended =
            let untold : notices_on c w.deeds ≡ [] =
            say_none (λ k message. message ≡ notice_bytes k) (notices_on c w.deeds)
            (subst (λ (ts : List Notice). SayFirst (λ k message. message ≡ notice_bytes k) (notices_on c w.deeds) ts) none (n.each c)) in
            ap length untold ∙ ap length (sym none)
        by (inr (inl ended)) unended = absurd (cc (ended, unended))
        by (inr (inr opened)) unended =
            let channel : c ≡ w.channels = opened_now w c (knows lines starves premises w b).stands opened in
            let all = n.all (opened ∙ ap (λ (k : ℕ). Some k) channel) in
            ap (λ (k : ℕ). length (notices_on k w.deeds)) channel
            ∙ sym (ap length (ap (λ (ms : List (List ℕ)). notices_on w.channels w.deeds ++ notices_waiting ms) silent ∙ append-nil (notices_on w.channels w.deeds))) ∙ all
            ∙ ap (λ (k : ℕ). length (notices_due k w.deeds)) (sym channel)

  -- what the deeds of a run's end take is met by its lines
  pub runs_go_well : (w : WorldState) → Reached lines starves w → length lines ≤ 1000000 → AreReadWell w.deeds → EachAfter EndsTold w.deeds → GoWell w.deeds
  runs_go_well w r few well told = record { well = well; ends = told; short = unworn lines starves premises w r few (premises_fit lines premises) }

  -- The control lines of a run did what they say.
  pub run_acted : (most : Most) (w : WorldState) → length lines ≤ 1000000 → AreOrderedLines ids lines → (is : run_of most starves lines ≡ Some w) → AreReadWell w.deeds → EachAfter EndsTold w.deeds
      → HaveActed devices lines w.idle w.deeds
  run_acted most w few ordered is well told =
      let said : DoAsSaid ids lines starves w = does_as_said lines starves most w ordered premises is in
      let reached : Reached lines starves w = run_reached lines starves most w is in
      let b : IsBehind lines starves w = reached_behind lines starves w reached in
      let control : Control = control_with said.left (control_of ids lines) in
      let same : without_idle control ≡ control_by_deeds ids w.deeds = control_by_acts ids lines said.left ∙ ap (control_after ids) (sym said.acts) ∙ acts_by_deeds ids w.deeds in
      let rests : choices w ≡ [] = run_rests starves most lines w is in
      let goes : GoWell w.deeds = runs_go_well w reached few well told in
      let there = behind_there lines starves premises w b goes in
      record {
        control = control;
        control_is = ap (λ (o : Option ℕ). control_with o (control_of ids lines)) (sym (run_left lines starves most w ordered premises is said));
        acts = said.acts;
        tells = λ c. subst (λ (ts : List Telling). AreSaid (Tells devices w.deeds c) ts (tellings_on c w.deeds) (has_ended c w.deeds)) (sym (ap (λ (k : Control). of_channel c k.told) same ∙ told_is_due ids c w.deeds))
            (all_told w b rests well (ready_now w well b said.left said.ends same) c);
        in_time = (behind_in_time lines starves premises w b well).points;
        notices = λ c. subst (λ (ts : List Notice). AreSaid (λ n message. message ≡ notice_bytes n) ts (notices_on c w.deeds) (has_ended c w.deeds)) (sym (ap (λ (k : Control). of_channel c k.notices) same ∙ notices_are_due ids c w.deeds))
            (all_noticed w b rests c);
        cuts = λ d. cuts_by_deeds devices d w.deeds there.cut.there there.cut.all ∙ sym (ap (λ (k : Control). of_channel d k.cuts) same);
        cut_there = there.cut.there;
        cut_all = there.cut.all;
        idle_lines = said.idle_lines;
        idle_rise = said.idle_rise;
      }

-- ---- all that control lines did

pub acted_whole : (devices : List (ℕ × Declared)) (lines : List NumberedLine) (idle : List ℕ) (deeds : List Deed) → (acted : HaveActed devices lines idle deeds)
    → All (Opens devices deeds) (range_with_len 1 acted.control.channels) → All (λ c. has_ended c deeds ≡ false → option_map_or is_settled_host (host_stand deeds c) false ≡ true) (range_with_len 1 acted.control.channels)
    → AreActed devices lines idle deeds
acted_whole ds lines idle deeds acted opened settled = record {
  control = acted.control;
  control_is = acted.control_is;
  acts = acted.acts;
  opened = opened;
  settled = settled;
  tells = acted.tells;
  in_time = acted.in_time;
  notices = acted.notices;
  cuts = acted.cuts;
  cut_there = acted.cut_there;
  cut_all = acted.cut_all;
  idle_lines = acted.idle_lines;
  idle_rise = acted.idle_rise;
}
