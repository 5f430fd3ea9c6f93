-- Where a run rests on an open channel that channel is still.
use Rattle.std.proofs.Common.{◌≡◌, ◌∙◌, refl, sym, ap, subst, inl, inr, ℕ, ◌≤◌, Bool, true, false, List, [], ◌∷◌, ◌++◌, length, map, reverse, filter_map, fold, Some, None, Option, arith}
use Rattle.std.specs.Prelude.{All, if◌then◌else◌}
use Rattle.std.proofs.lemmas.List.{length-reverse}
use Rattle.std.proofs.lemmas.List.Elements.{All-from_recursion}
use Rattle.std.specs.List.{AllByRecursion}
use Rattle.std.specs.Option.{IfSome}
use Rattle.rd_base.specs.declared.journal.Key.{Key}
use Rattle.rd_said.proofs.ActedActLemmas.{acts_by_deeds, control_by_acts}
use Rattle.rd_said.proofs.ActedDueLemmas.{notices_are_due, told_is_due}
use Rattle.rd_said.proofs.ActedEndedLemmas.{behind_over}
use Rattle.rd_said.proofs.ActedOrderLemmas.{orders_read}
use Rattle.rd_said.proofs.ActedRunLemmas.{all_noticed, all_told}
use Rattle.rd_said.specs.ActedActed.{AreReadWell, control_after, control_by_deeds, due_on, notices_due, without_idle}
use Rattle.rd_said.specs.AnsweredRefusing.{DeclareInRoom}
use Rattle.rd_client.specs.Order.{is_client_ready}
use Rattle.rd_said.proofs.ControlsLeading.{rests_where_settled}
use Rattle.rd_said.proofs.ControlsNumbers.{picked_reverse}
use Rattle.rd_said.specs.ControlsControls.{AreOrderedLines, RestsAt}
use Rattle.rd_opening.proofs.QuietLemmas.{both_ready, host_settled}
use Rattle.rd_opening.proofs.SentLemmas.{all_sent}
use Rattle.rd_said.proofs.OrdersClientOrdering.{behind_client_ordered}
use Rattle.rd_said.proofs.OrdersMeeting.{behind_meets}
use Rattle.rd_said.specs.OrdersOrders.{DeclaresWritable}
use Rattle.rd_printer.specs.declared.notice.Notice.{Notice}
use Rattle.rd_said.proofs.RestCompletedLemmas.{completed}
use Rattle.rd_said.proofs.RunsParts.{reached_behind}
use Rattle.rd_said.proofs.RunsResting.{client_heard_all, host_heard_all, quiet}
use Rattle.rd_said.proofs.RunsTogether.{known}
use Rattle.rd_said.specs.RunsMoves.{Reached}
use Rattle.rd_said.specs.RunsPremises.{RunPremises}
use Rattle.rd_script.specs.declared.line.NumberedLine.{NumberedLine}
use Rattle.rd_world.specs.Acts.{act_by, first_control_of, is_settle, of_channel}
use Rattle.rd_world.specs.Control.{Act, Control, Telling, control_of, controlled, first_control}
use Rattle.rd_declared.specs.Devices.{Declared}
use Rattle.rd_declared.specs.Declaring.{bare_lines, declared_devices}
use Rattle.rd_world.specs.Run.{Most, choices, run_of}
use Rattle.rd_world.specs.Session.{IsStill, WasStill, at_settles}
use Rattle.rd_deeds.specs.Talk.{Deed, has_ended, open_channel}
use Rattle.rd_world.specs.World.{WorldState}

-- ---- what control lines told

-- what some lines do is told and noticed as what was done says, where their acts are those that were done
pub record SaysDone (ids : List ℕ) (control : Control) (deeds : List Deed) : Type 0 where
  pub told : (c : ℕ) → of_channel c control.told ≡ due_on ids c deeds
  pub notices : (c : ℕ) → of_channel c control.notices ≡ notices_due c deeds

pub says_done : (ids : List ℕ) (control : Control) (prefix : List NumberedLine) (deeds : List Deed) → control ≡ control_of ids prefix → filter_map act_by (reverse deeds) ≡ control.acts → SaysDone ids control deeds
says_done ids control prefix deeds is acts =
    let by_acts : without_idle control ≡ control_after ids control.acts = subst (λ (k : Control). without_idle k ≡ control_after ids k.acts) (sym is) (control_by_acts ids prefix None) in
    let same : without_idle control ≡ control_by_deeds ids deeds = by_acts ∙ ap (control_after ids) (sym acts) ∙ acts_by_deeds ids deeds in
    record {
      told = λ c. ap (λ (k : Control). of_channel {A = Telling} c k.told) same ∙ told_is_due ids c deeds;
      notices = λ c. ap (λ (k : Control). of_channel {A = Notice} c k.notices) same ∙ notices_are_due ids c deeds;
    }

-- where lines settle they are a beginning of the lines
pub record Settled (ids : List ℕ) (control : Control) : Type 0 where
  pub prefix : List NumberedLine
  pub is : control ≡ control_of ids prefix

after_more : (ids : List ℕ) (prefix : List NumberedLine) (x : NumberedLine) → controlled (control_of ids prefix) x.number x.line ≡ control_of ids (prefix ++ x ∷ [])
after_more ids prefix x = go prefix (first_control ids)
  where
    go : (ls : List NumberedLine) (c : Control) → controlled (fold (λ (d : Control) (l : NumberedLine). controlled d l.number l.line) c ls) x.number x.line ≡ fold (λ (d : Control) (l : NumberedLine). controlled d l.number l.line) c (ls ++ x ∷ [])
    go [] c = refl
    go (l ∷ ls) c = go ls (controlled c l.number l.line)

pub settled_all : (ids : List ℕ) (ls prefix : List NumberedLine) (c : Control) → c ≡ control_of ids prefix → AllByRecursion (Settled ids) (at_settles c ls)
settled_all ids [] prefix c is = tt
settled_all ids (x ∷ ls) prefix c is = by (is_settle x.line) (settled_all ids ls (prefix ++ x ∷ []) (controlled c x.number x.line) (ap (λ (k : Control). controlled k x.number x.line) is ∙ after_more ids prefix x))
  where
    by : (b : Bool) → AllByRecursion (Settled ids) (at_settles (controlled c x.number x.line) ls) → AllByRecursion (Settled ids) ((if b then c ∷ [] else []) ++ at_settles (controlled c x.number x.line) ls)
    by true later = (record { prefix = prefix; is = is }, later)
    by false later = later

-- ---- at rest

module _ (lines : List NumberedLine) (starves : Key → Bool) (premises : RunPremises lines) (few : length lines ≤ 1000000) (declared : DeclareInRoom lines) (writable : DeclaresWritable lines)
    (w : WorldState) (reached : Reached lines starves w) (rests : choices w ≡ []) (kept : w.kept ≡ None) where
  abbrev devices : List (ℕ × Declared)
  devices = declared_devices (bare_lines lines)

  abbrev ids : List ℕ
  ids = map (λ (d : ℕ × Declared). d.0) devices

  pub read_well : AreReadWell w.deeds
  read_well = orders_read devices w.deeds (behind_client_ordered lines starves premises writable w (reached_behind lines starves w reached)).orders

  -- the open channel didn't end
  pub not_ended : open_channel w.deeds ≡ Some w.channels → has_ended w.channels w.deeds ≡ false
  not_ended opened = by (has_ended w.channels w.deeds) refl
    where
      by : (b : Bool) → has_ended w.channels w.deeds ≡ b → b ≡ false
      by false e = refl
      by true e = elim ((behind_over lines starves premises ids w (reached_behind lines starves w reached) read_well).over w.channels e) [
        | inl low ↦ absurd (omega (arith, low))
        | inr (same, shut) ↦ absurd (cc (opened, shut))
      ]

  pub still : (control : Control) → SaysDone ids control w.deeds → open_channel w.deeds ≡ Some w.channels → IsStill devices control w.deeds w.channels
  still control says opened =
      let q = quiet w rests in
      let behind = reached_behind lines starves w reached in
      let ready = both_ready lines starves premises writable w reached opened q in
      record {
        sent = all_sent lines starves premises writable w reached opened q;
        owed = host_settled lines starves premises writable w reached opened q;
        tells = (all_told lines starves premises w behind rests read_well (λ c at. ap is_client_ready ready.0) w.channels).all (not_ended opened) ∙ ap (λ (ts : List Telling). length ts) (sym (says.told w.channels));
        notices = (all_noticed lines starves premises w behind rests w.channels).all (not_ended opened) ∙ ap (λ (ns : List Notice). length ns) (sym (says.notices w.channels));
        read = client_heard_all lines starves premises w reached rests opened kept;
        heard = host_heard_all lines starves premises w reached rests opened;
        completed = completed lines starves premises w reached rests opened declared few kept ((behind_meets lines starves premises writable w behind).now opened).client_fine;
      }

-- ---- where lines settle

module _ (lines : List NumberedLine) (starves : Key → Bool) (premises : RunPremises lines) (few : length lines ≤ 1000000) (declared : DeclareInRoom lines) (writable : DeclaresWritable lines)
    (back : (w : WorldState) → Reached lines starves w → choices w ≡ [] → w.kept ≡ None) where
  abbrev all_devices : List (ℕ × Declared)
  all_devices = declared_devices (bare_lines lines)

  abbrev all_ids : List ℕ
  all_ids = map (λ (d : ℕ × Declared). d.0) all_devices

  was_still : (deeds : List Deed) (control : Control) → Settled all_ids control → RestsAt lines starves deeds control → WasStill all_devices deeds control
  was_still deeds control s r =
      let w : WorldState = r.world in
      let (later, grown) = r.grown in
      (later, w.deeds, grown, sym (length-reverse (filter_map act_by w.deeds)) ∙ ap (λ (xs : List Act). length xs) (sym (picked_reverse act_by w.deeds) ∙ r.acts), by (open_channel w.deeds) refl)
    where
      by : (o : Option ℕ) → open_channel (r.world).deeds ≡ o → IfSome o (IsStill all_devices control (r.world).deeds)
      by None e = tt
      by (Some c) e =
          let w : WorldState = r.world in
          let last : open_channel w.deeds ≡ Some w.channels = elim ((known lines starves premises w r.reached).stands).host.last [ inl shut ↦ absurd (cc (shut, e)) | inr is ↦ is ] in
          let same : w.channels ≡ c = (let both : Some w.channels ≡ Some c = sym last ∙ e in cc both) in
          subst (IsStill all_devices control w.deeds) same
          (still lines starves premises few declared writable w r.reached r.rests (back w r.reached r.rests) control (says_done all_ids control s.prefix w.deeds s.is r.acts) last)

  all_still : (deeds : List Deed) (cs : List Control) → AllByRecursion (Settled all_ids) cs → AllByRecursion (RestsAt lines starves deeds) cs → AllByRecursion (WasStill all_devices deeds) cs
  all_still deeds [] settled rests = tt
  all_still deeds (c ∷ cs) settled rests = (was_still deeds c settled.0 rests.0, all_still deeds cs settled.1 rests.1)

  pub run_still : (most : Most) (w : WorldState) → AreOrderedLines all_ids lines → run_of most starves lines ≡ Some w → All (WasStill all_devices w.deeds) (at_settles (first_control_of all_devices) lines)
  run_still most w ordered is =
      All-from_recursion (WasStill all_devices w.deeds) (at_settles (first_control_of all_devices) lines)
      (all_still w.deeds (at_settles (first_control_of all_devices) lines) (settled_all all_ids lines [] (first_control all_ids) refl) (rests_where_settled lines starves most w ordered premises is))
