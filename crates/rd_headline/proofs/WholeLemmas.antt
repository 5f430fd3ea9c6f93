-- The end of every run, field by field of a whole session.
use Rattle.std.proofs.Common.{◌≡◌, ◌∙◌, refl, sym, ap, subst, inl, inr, ℕ, zero, suc, ◌+◌, ◌<◌, ◌≤◌, ◌==◌, ◌&&◌, ◌||◌, arith, eq-eqb, Bool, true, false, List, [], ◌∷◌, length, map, fold, Some, None, Option, Result, Ok, Err}
use Rattle.std.specs.Prelude.{All, filter, if◌then◌else◌, is_some}
use Rattle.std.proofs.lemmas.Bool.{cases_eq}
use Rattle.std.proofs.lemmas.List.Elements.{recursion_from_All}
use Rattle.std.specs.List.{AllByRecursion, list_any, range_with_len}
use Rattle.std.specs.Option.{IfSome, option_and_then, option_map_or}
use Rattle.rd_base.specs.declared.journal.Key.{Key}
use Rattle.rd_said.proofs.ActedActLemmas.{acts_by_deeds, control_by_acts}
use Rattle.rd_said.proofs.ActedEndedLemmas.{behind_over, channels_end_told}
use Rattle.rd_said.proofs.ActedRunLemmas.{acted_whole, run_acted}
use Rattle.rd_said.specs.ActedActed.{AreReadWell, EndsTold, HaveActed, control_after, control_by_deeds, without_idle}
use Rattle.rd_said.proofs.AnsweredSessionLemmas.{reached_joined, reached_joins}
use Rattle.rd_said.proofs.ControlsUnseen.{Seen, event_unseen}
use Rattle.rd_said.proofs.ControlsWalking.{settled_keeps}
use Rattle.rd_opening.proofs.RunLemmas.{runs_opened, runs_settled}
use Rattle.rd_opening.proofs.SentLemmas.{open_or_none, opened_as, rest_heard, rest_sent, unbegun_heard}
use Rattle.rd_said.proofs.OrdersMeeting.{behind_meets}
use Rattle.rd_outcomes.proofs.LinesLemmas.{lines_end}
use Rattle.rd_outcomes.proofs.NumberedLemmas.{are_applications, outcomes_numbered}
use Rattle.rd_outcomes.proofs.PassedLemmas.{are_passed}
use Rattle.rd_said.proofs.RestCompletedLemmas.{completed}
use Rattle.rd_said.proofs.RestFullLemmas.{none_kept_back}
use Rattle.rd_said.proofs.RestLeftLemmas.{left_waits}
use Rattle.rd_said.proofs.RunsParts.{reached_behind}
use Rattle.rd_said.proofs.RunsReaching.{run_reached, run_rests}
use Rattle.rd_said.proofs.RunsResting.{client_heard_all}
use Rattle.rd_said.proofs.RunsHostLemmas.{host_channel}
use Rattle.rd_said.proofs.RunsTogether.{known}
use Rattle.rd_said.proofs.RunsTrafficLemmas.{Traffic}
use Rattle.rd_said.specs.RunsMoves.{Reached, event_weight}
use Rattle.rd_script.specs.declared.line.NumberedLine.{NumberedLine}
use Rattle.rd_script.specs.declared.outcome.Outcome.{Outcome}
use Rattle.rd_world.specs.Acts.{AreActed, Opens, control_by, is_settled_host, left_open, some_wait, waiting_keys}
use Rattle.rd_world.specs.Control.{Control}
use Rattle.rd_declared.specs.Devices.{Declared}
use Rattle.rd_world.specs.Events.{Event, act, cutting, drop_channel, is_channel_open, is_enabled}
use Rattle.rd_world.specs.Lines.{HaveOutcomes}
use Rattle.rd_declared.specs.Declaring.{bare_lines, declared_devices}
use Rattle.rd_world.specs.Recording.{host_stand}
use Rattle.rd_world.specs.Report.{outcomes_of}
use Rattle.rd_world.specs.Run.{Most, choices, connects_on, ends_session, plays, run_of, settled, some_left, world_of}
use Rattle.rd_deeds.specs.Talk.{EachAfter, Has, answered, asked, client_read, has_ended, host_wrote, indices_of, message_has_pair, open_channel, takes}
use Rattle.rd_pending.specs.declared.calls.Handle.{Handle}
use Rattle.rd_pending.specs.declared.calls.Taken.{Taken}
use Rattle.rd_pending.specs.declared.calls.TakeNo.{TakeNo}
use Rattle.rd_pending.specs.Table as table
use Rattle.rd_pending.specs.Table.{TableState}
use Rattle.rd_pending.proofs.Tame.{tame_take}
use Rattle.rd_world.specs.Hearing.{ends_line, given_handle, next_asked, reported_outcome, takes_awaited, takes_from, takes_outcome, with_outcome}
use Rattle.rd_world.specs.World.{ApplicationState, Asked, WorldState, application_at, with_application, with_deed, with_table}
use Rattle.rd_deeds.proofs.Counting.{length-answered}
use Rattle.rd_headline.proofs.AnsweredLemmas.{none_awaits}
use Rattle.rd_headline.proofs.HeardLemmas.{all_answered}
use Rattle.rd_headline.proofs.StandLemmas.{opens_in_time}
use Rattle.rd_headline.proofs.StillLemmas.{read_well}
use Rattle.rd_loads.specs.AllPremises.{MeetPremises}

in_range : (P : ℕ → Type 0) (from n c : ℕ) → AllByRecursion P (range_with_len from n) → from ≤ c → c < from + n → P c
in_range P from zero c all low high = absurd (omega (arith, low, high))
in_range P from (suc n) c all low high = elim (cases_eq c from) [
  | inl here ↦ subst P (sym here) all.0
  | inr other ↦ in_range P (from + 1) n c all.1 (omega (arith, low, other)) (omega (arith, high))
]

-- no channel is open
abbrev Shut : WorldState → Type 0
Shut w = ((w.side).table).channel ≡ None

-- after a channel's end
dropped_shut : (starves : Key → Bool) (w : WorldState) → Shut (act starves w drop_channel)
dropped_shut starves w = all_take_shut (map (λ (e : ℕ × ApplicationState). e.0) (cutting w).applications) (cutting w) refl
  where
    one_shut : (x : WorldState) (a : ℕ) → Shut x → Shut (takes_outcome x a)
    one_shut x a none = by (application_at x a).awaits
      where
        ended : (v : WorldState) (o : Outcome) (h : Option Handle) → Shut v → Shut (ends_line v a o h)
        ended v o h none = on (next_asked (application_at v a))
          where
            on : (q : Option Asked) → Shut (option_map_or (λ asked. with_application v a (with_outcome (application_at v a) o h asked)) q v)
            on None = none
            on (Some asked) = none

        from : (n : ℕ) (r : TableState × Result Taken TakeNo) → (r.0).channel ≡ None → Shut (takes_from x a n r)
        from n (t, Err cause) off = none
        from n (t, Ok given) off = ended (with_deed (with_table x t) (takes n)) (reported_outcome given.outcome) (given_handle given) off

        by : (o : Option ℕ) → Shut (takes_awaited x a o)
        by None = none
        by (Some n) = from n (table.take (x.side).table n) ((tame_take (x.side).table n).channel ∙ none)

    all_take_shut : (applications : List ℕ) (x : WorldState) → Shut x → Shut (fold takes_outcome x applications)
    all_take_shut [] x none = none
    all_take_shut (a ∷ applications) x none = all_take_shut applications (takes_outcome x a) (one_shut x a none)

module _ (lines : List NumberedLine) (starves : Key → Bool) (most : Most) (premises : MeetPremises lines) (w : WorldState) (is : run_of most starves lines ≡ Some w) where
  abbrev pub devices : List (ℕ × Declared)
  devices = declared_devices (bare_lines lines)

  abbrev pub ids : List ℕ
  ids = map (λ (d : ℕ × Declared). d.0) devices

  pub reached : Reached lines starves w
  reached = run_reached lines starves most w is

  pub rests : choices w ≡ []
  rests = run_rests starves most lines w is

  pub kept : w.kept ≡ None
  kept = none_kept_back lines starves premises.run w reached rests

  -- ---- a run that ends on an open channel leaves nothing waiting there

  nothing_left : open_channel w.deeds ≡ Some w.channels → some_left w ≡ false
  nothing_left opened = began (connects_on starves most (world_of lines)) is
    where
      cut : (x : WorldState) → Shut x → x ≡ w → some_left w ≡ false
      cut x none same =
          let off : ((w.side).table).channel ≡ None = ap (λ (y : WorldState). ((y.side).table).channel) (sym same) ∙ none in
          absurd (cc (sym (host_channel w.side w.channels w.deeds ((known lines starves premises.run w reached).stands).host) ∙ off, opened))

      drops : (o : Option WorldState) → IfSome o Shut → o ≡ Some w → some_left w ≡ false
      drops None own made = absurd (cc made)
      drops (Some x) own made = cut x own (let same : x ≡ w = cc made in same)

      kept_shut : (x : WorldState) (e : Event) → event_weight e ≡ 0 → is_enabled x e ≡ true → Shut x → Shut (act starves x e)
      kept_shut x e free can none = ap (λ (s : Seen). s.channel) (event_unseen starves x e free).same ∙ none

      over : (x : WorldState) (a b : Bool) → is_channel_open x ≡ a → some_left x ≡ b → (if a && b then settled starves most.draws (act starves x drop_channel) else Some x) ≡ Some w → some_left w ≡ false
      over x true true e f made = drops (settled starves most.draws (act starves x drop_channel)) (settled_keeps starves Shut kept_shut (λ y none. none) most.draws (act starves x drop_channel) (dropped_shut starves x)) made
      over x true false e f made = let same : x ≡ w = cc made in ap some_left (sym same) ∙ f
      over x false b e f made =
          let same : x ≡ w = cc made in
          let off : is_channel_open w ≡ false = ap is_channel_open (sym same) ∙ e in
          absurd (cc (off, ap is_some (host_channel w.side w.channels w.deeds ((known lines starves premises.run w reached).stands).host ∙ opened)))

      ended : (o : Option WorldState) → option_and_then (ends_session starves most) o ≡ Some w → some_left w ≡ false
      ended None made = absurd (cc made)
      ended (Some x) made = over x (is_channel_open x) (some_left x) refl refl made

      began : (o : Option WorldState) → option_and_then (ends_session starves most) (option_and_then (settled starves most.draws) (option_and_then (plays starves most lines) o)) ≡ Some w → some_left w ≡ false
      began o made = ended (option_and_then (settled starves most.draws) (option_and_then (plays starves most lines) o)) made

  none_wait : open_channel w.deeds ≡ Some w.channels → some_wait devices w.deeds w.channels ≡ false
  none_wait opened = sym (left_waits lines starves premises.run w reached rests opened) ∙ nothing_left opened

  waits_on : (index : ℕ) → Has (record { channel = w.channels; index = index }) (waiting_keys devices w.deeds) → some_wait devices w.deeds w.channels ≡ true
  waits_on index has = go (waiting_keys devices w.deeds) has
    where
      go : (keys : List Key) → Has (record { channel = w.channels; index = index }) keys → list_any (λ (key : Key). key.channel == w.channels) keys ≡ true
      go [] has = absurd has
      go (k ∷ keys) (inl same) = ap (λ (b : Bool). b || list_any (λ (key : Key). key.channel == w.channels) keys) (eq-eqb k.channel w.channels (sym (ap (λ (x : Key). x.channel) same)))
      go (k ∷ keys) (inr has) = by (k.channel == w.channels) (go keys has)
        where
          by : (b : Bool) → list_any (λ (key : Key). key.channel == w.channels) keys ≡ true → (b || list_any (λ (key : Key). key.channel == w.channels) keys) ≡ true
          by true later = refl
          by false later = later

  all_done : open_channel w.deeds ≡ Some w.channels → (d i k : ℕ) → Has k (asked w.channels d i w.deeds) → Has k (answered w.channels d i w.deeds)
  all_done opened d i k has =
      elim (completed lines starves premises.run w reached rests opened premises.declared premises.few kept ((behind_meets lines starves premises.run premises.writable w (reached_behind lines starves w reached)).now opened).client_fine d i k has) [
        | inl done ↦ done
        | inr waits ↦ absurd (cc (waits_on k waits, none_wait opened))
      ]

  -- ---- the outcomes

  pub run_outcomes : HaveOutcomes devices lines (outcomes_of w) w.deeds
  run_outcomes = record {
    outcomes = λ a. (application_at w a).outcomes;
    each = outcomes_numbered w (are_applications lines starves premises.numbered w reached);
    lines_end = λ a. lines_end lines starves most premises.run (opens_in_time lines starves most premises.run premises.writable) premises.ordered w is rests ((known lines starves premises.run w reached).stands).host.may a
        (none_awaits lines starves premises.run premises.few premises.declared premises.writable w reached rests kept all_done a);
    requests = are_passed lines starves premises.run w reached;
    all_sent = rest_sent lines starves premises.run premises.writable w reached rests;
    all_heard = rest_heard lines starves premises.run premises.writable w reached rests;
  }

  -- ---- what was told

  pub all_read : (c : ℕ) → has_ended c w.deeds ≡ false → client_read c w.deeds ≡ host_wrote c w.deeds
  all_read c off = elim (open_or_none lines starves premises.run premises.writable w reached c off) [
    | inl opened ↦
        let (last, same) = opened_as lines starves premises.run premises.writable w reached c opened in
        subst (λ (x : ℕ). client_read x w.deeds ≡ host_wrote x w.deeds) same (client_heard_all lines starves premises.run w reached rests last kept)
    | inr out ↦ let none = unbegun_heard lines starves premises.run premises.writable w reached c out in ap (λ (t : Traffic). t.client_read) none ∙ sym (ap (λ (t : Traffic). t.host_wrote) none)
  ]

  pub all_completed : (c d i : ℕ) → has_ended c w.deeds ≡ false → asked c d i w.deeds ≡ answered c d i w.deeds
  all_completed c d i off = elim (open_or_none lines starves premises.run premises.writable w reached c off) [
    | inl opened ↦
        let (last, same) = opened_as lines starves premises.run premises.writable w reached c opened in
        subst (λ (x : ℕ). asked x d i w.deeds ≡ answered x d i w.deeds) same
        (all_answered w.channels d i w.deeds ((reached_joins lines starves premises.run premises.few w reached premises.declared).counted w.channels d i) (λ k has. all_done last d i k has))
    | inr out ↦
        let none = unbegun_heard lines starves premises.run premises.writable w reached c out in
        let joined = reached_joined lines starves premises.run premises.few w reached premises.declared in
        let nothing : length (answered c d i w.deeds) ≡ 0 = length-answered w.deeds joined.stands c d i ∙ ap (λ (t : Traffic). length (filter (message_has_pair d i) t.client_wrote)) none in
        ap (λ (t : Traffic). indices_of d i t.client_read) none ∙ sym (empty (answered c d i w.deeds) nothing)
  ]
    where
      empty : (xs : List ℕ) → length xs ≡ 0 → xs ≡ []
      empty [] e = refl
      empty (x ∷ xs) e = absurd (cc e)

  -- ---- what control lines did

  pub well : AreReadWell w.deeds
  well = read_well lines starves premises.run premises.few premises.declared premises.writable w reached rests kept

  ends_told : EachAfter EndsTold w.deeds
  ends_told = channels_end_told lines starves premises.run w (reached_behind lines starves w reached) well (λ c first below. in_range (Opens devices w.deeds) 1 w.channels c (recursion_from_All (Opens devices w.deeds) (range_with_len 1 w.channels) (runs_opened lines starves premises.run premises.writable most w is)) first (omega (arith, below)))

  acted : HaveActed devices lines w.idle w.deeds
  acted = run_acted lines starves premises.run most w premises.few premises.ordered is well ends_told

  pub run_acts : AreActed devices lines w.idle w.deeds
  run_acts =
      let many : acted.control.channels ≡ w.channels = channels_are acted in
      acted_whole devices lines w.idle w.deeds acted
      (subst (λ (n : ℕ). All (Opens devices w.deeds) (range_with_len 1 n)) (sym many) (runs_opened lines starves premises.run premises.writable most w is))
      (subst (λ (n : ℕ). All (λ (c : ℕ). has_ended c w.deeds ≡ false → option_map_or is_settled_host (host_stand w.deeds c) false ≡ true) (range_with_len 1 n)) (sym many) (runs_settled lines starves premises.run premises.writable most w is))
    where
      channels_are : (a : HaveActed devices lines w.idle w.deeds) → a.control.channels ≡ w.channels
      channels_are a =
          let by_acts = subst (λ (k : Control). without_idle k ≡ control_after ids k.acts) (sym a.control_is) (control_by_acts ids lines (left_open devices w.deeds (control_by devices lines))) in
          let same : without_idle a.control ≡ control_by_deeds ids w.deeds = by_acts ∙ ap (control_after ids) (sym a.acts) ∙ acts_by_deeds ids w.deeds in
          ap (λ (k : Control). k.channels) same ∙ (behind_over lines starves premises.run ids w (reached_behind lines starves w reached) well).channels
