-- What comes after the last channel's end: applications issue what is queued, and are refused; nothing else can happen.
use Rattle.std.proofs.Common.{◌≡◌, ◌∙◌, refl, sym, ap, subst, inl, inr, ℕ, zero, suc, ◌-◌, ◌==◌, ◌&&◌, not, Bool, true, false, cond, arith, List, [], ◌∷◌, ◌++◌, map, fold, Some, None, Option, Result, Ok, Err, append_assoc, is_some}
use Rattle.std.specs.Prelude.{is_none, nat_le, nat_lt, slice_get}
use Rattle.std.specs.Option.{option_map_or}
use Rattle.std.proofs.lemmas.Bool.Decides.{nat_tests}
use Rattle.rd_base.specs.declared.journal.Key.{Key}
use Rattle.rd_client.specs.Core.{Outgoing}
use Rattle.rd_drive.specs.declared.plan.Job.{Job}
use Rattle.rd_irp.specs.declared.op.Op.{Op}
use Rattle.rd_answered.proofs.JournalsDeclaredLemmas.{bounded_fit}
use Rattle.rd_answered.proofs.JournalsRunLemmas.{reached_orderly, sends_open}
use Rattle.rd_answered.proofs.JournalsServingLemmas.{all_dropped}
use Rattle.rd_answered.proofs.JournalsStandingLemmas.{still_not}
use Rattle.rd_answered.specs.JournalsOrderly.{Orderly}
use Rattle.rd_pending.proofs.Neutral.{channel_kept}
use Rattle.rd_pending.specs.History as call
use Rattle.rd_pending.specs.declared.calls.Handle.{Handle}
use Rattle.rd_pending.specs.declared.calls.SubmitNo.{SubmitNo}
use Rattle.rd_pending.specs.declared.calls.SubmitNo.TheVariants as submit_no
use Rattle.rd_pending.specs.declared.calls.Taken.{Taken}
use Rattle.rd_pending.specs.declared.calls.TakeNo.{TakeNo}
use Rattle.rd_pending.specs.declared.calls.Target.{Target}
use Rattle.rd_pending.specs.Table as table
use Rattle.rd_pending.specs.Table.{TableState}
use Rattle.rd_rest.proofs.RestLemmas.{no_hand_full}
use Rattle.rd_rest.specs.Ending.{AreTakes, IsClosed}
use Rattle.rd_answered.proofs.RunsHostLemmas.{host_channel}
use Rattle.rd_answered.proofs.RunsTogether.{known}
use Rattle.rd_answered.specs.RunsMoves.{IsOfLines, MayPass, Reached, draws, event_weight, happens}
use Rattle.rd_answered.specs.RunsPremises.{RunPremises}
use Rattle.rd_script.specs.declared.line.NumberedLine.{NumberedLine}
use Rattle.rd_script.specs.declared.outcome.Outcome.{Outcome}
use Rattle.rd_script.specs.declared.outcome.Outcome.TheVariants as outcome
use Rattle.rd_script.specs.declared.outcome.Refusal.TheVariants as refusal
use Rattle.rd_station.specs.Station.{StationState}
use Rattle.rd_station.specs.declared.answers.Completion.{Completion}
use Rattle.rd_declared.specs.declared.device.SessionDevice.{SessionDevice}
use Rattle.rd_world.specs.Events as event
use Rattle.rd_world.specs.Events.{Event, act, asks, client_has_message, comes_of_asking, cutting, dropping, hand_at, has_completion, host_has_message, is_empty, is_enabled, is_hand_free, is_hand_full, is_read, issues_next, job_waits, refusal_of, target_of}
use Rattle.rd_world.specs.Hearing.{all_take, ends_line, given_handle, next_asked, reported_outcome, takes_awaited, takes_from, takes_outcome, with_outcome}
use Rattle.rd_deeds.specs.Host.{next_message}
use Rattle.rd_world.specs.Run.{choices, drawing}
use Rattle.rd_deeds.specs.Talk.{Deed, Has, takes}
use Rattle.rd_world.specs.World.{ApplicationState, Asked, WorldState, application_at, station_at, with_application, with_deed, with_table}

abbrev Of : Type 0
Of = StationState SessionDevice

takes_more : (more older : List Deed) → AreTakes more → AreTakes older → AreTakes (more ++ older)
takes_more [] older all others = others
takes_more (y ∷ more) older all others = (all.0, takes_more more older all.1 others)

-- ---- applications

record Outer : Type 0 where
  stations : List (ℕ × Of)
  hands : List (Option (ℕ × Job))
  channel : Option ℕ

abbrev outer : WorldState → Outer
outer w = record { stations = w.stations; hands = w.hands; channel = ((w.side).table).channel }

-- a world that differs in what was taken
record Beyond (w v : WorldState) : Type 0 where
  same : outer v ≡ outer w
  more : List Deed
  all : AreTakes more
  deeds : v.deeds ≡ more ++ w.deeds

beyond_not : (w : WorldState) → Beyond w w
beyond_not w = record { same = refl; more = []; all = tt; deeds = refl }

beyond_by : {w y : WorldState} (x : WorldState) → Beyond w x → Beyond x y → Beyond w y
beyond_by {w} {y} x first second = record {
  same = second.same ∙ first.same;
  more = second.more ++ first.more;
  all = takes_more second.more first.more second.all first.all;
  deeds = second.deeds ∙ ap (λ (ds : List Deed). second.more ++ ds) first.deeds ∙ sym (append_assoc second.more first.more w.deeds);
}

line_ends : (w : WorldState) (a : ℕ) (o : Outcome) (handle : Option Handle) → Beyond w (ends_line w a o handle)
line_ends w a o handle = by (next_asked (application_at w a))
  where
    by : (next : Option Asked) → Beyond w (option_map_or (λ asked. with_application w a (with_outcome (application_at w a) o handle asked)) next w)
    by None = beyond_not w
    by (Some asked) = record { same = refl; more = []; all = tt; deeds = refl }

-- no request is accepted while no channel is open
refused : (t : TableState) (a : ℕ) (named : Target) (o : Op) → t.channel ≡ None → table.submit t a named o ≡ (t, Err submit_no.NoChannel)
refused t a named o none = rw none refl

line_issued : (w : WorldState) (a : ℕ) → ((w.side).table).channel ≡ None → Beyond w (event.issues w a)
line_issued w a shut = by (next_asked (application_at w a))
  where
    ask : (o : Op) (t : Option Target) → Beyond w (asks w a o t)
    ask o None = line_ends w a (outcome.Refused refusal.NoHandle) None
    ask o (Some named) = subst (λ (r : TableState × Result ℕ SubmitNo). Beyond w (comes_of_asking w a o named r)) (sym (refused (w.side).table a named o shut)) (line_ends w a (outcome.Refused (refusal_of submit_no.NoChannel)) None)

    by : (next : Option Asked) → Beyond w (issues_next w a next)
    by None = beyond_not w
    by (Some asked) = ask asked.op (target_of (application_at w a) asked)

outcome_taken : (w : WorldState) (a : ℕ) → Beyond w (takes_outcome w a)
outcome_taken w a = by (application_at w a).awaits
  where
    from : (number : ℕ) (r : TableState × Result Taken TakeNo) → table.take (w.side).table number ≡ r → Beyond w (takes_from w a number r)
    from number (t, Err cause) made = beyond_not w
    from number (t, Ok got) made =
        let x : WorldState = with_deed (with_table w t) (takes number) in
        let channel : t.channel ≡ ((w.side).table).channel = ap (λ (r : TableState × Result Taken TakeNo). (r.0).channel) (sym made) ∙ channel_kept (call.takes number) tt (w.side).table in
        beyond_by x (record { same = λ i. record { stations = w.stations; hands = w.hands; channel = channel i }; more = takes number ∷ []; all = (tt, tt); deeds = refl })
        (line_ends x a (reported_outcome got.outcome) (given_handle got))

    by : (o : Option ℕ) → Beyond w (takes_awaited w a o)
    by None = beyond_not w
    by (Some number) = from number (table.take (w.side).table number) refl

all_outcomes : (apps : List ℕ) (w : WorldState) → Beyond w (fold takes_outcome w apps)
all_outcomes [] w = beyond_not w
all_outcomes (a ∷ apps) w = beyond_by (takes_outcome w a) (outcome_taken w a) (all_outcomes apps (takes_outcome w a))

-- ---- a channel ends

-- it is closed still
closed_beyond : (last w v : WorldState) → Beyond w v → IsClosed last w → IsClosed last v
closed_beyond last w v b is = record {
  shut = ap (λ (o : Outer). o.channel) b.same ∙ is.shut;
  hands = λ x has. is.hands x (subst (λ (hs : List (Option (ℕ × Job))). Has (Some x) hs) (ap (λ (o : Outer). o.hands) b.same) has);
  stations = ap (λ (o : Outer). o.stations) b.same ∙ is.stations;
  more = b.more ++ is.more;
  all = takes_more b.more is.more b.all is.all;
  deeds = b.deeds ∙ ap (λ (ds : List Deed). b.more ++ ds) is.deeds ∙ sym (append_assoc b.more is.more (cutting last).deeds);
}

pub drop_closed : (starves : Key → Bool) (w : WorldState) → choices w ≡ [] → IsClosed w (act starves w event.drop_channel)
drop_closed starves w rests =
    let hands : (cutting w).hands ≡ w.hands = ap (λ (x : WorldState). x.hands) (all_dropped (map (λ (d : ℕ × Of). d.0) w.stations) w w (record { alone = refl; still = still_not w.stations w.deeds })).alone in
    closed_beyond w (cutting w) (all_take (cutting w)) (all_outcomes (map (λ (e : ℕ × ApplicationState). e.0) (cutting w).applications) (cutting w))
    (record { shut = refl; hands = λ x has. no_hand_full w rests x (subst (λ (hs : List (Option (ℕ × Job))). Has (Some x) hs) hands has); stations = refl; more = []; all = tt; deeds = refl })

-- ---- what happens by itself then

pub record IsDropped (lines : List NumberedLine) (starves : Key → Bool) (last w : WorldState) : Type 0 where
  pub reached : Reached lines starves w
  pub closed : IsClosed last w

module _ (lines : List NumberedLine) (starves : Key → Bool) where
  of_no_line : (e : Event) → event_weight e ≡ 0 → IsOfLines lines e
  of_no_line (event.tell n) free = absurd (omega (arith, free))
  of_no_line e free = tt

  pub dropped_drawn : (last w : WorldState) → IsDropped lines starves last w → IsDropped lines starves last (drawing w)
  dropped_drawn last w d = record {
    reached = record { moves = draws ∷ d.reached.moves; pass = (tt, d.reached.pass); few = omega (arith, d.reached.few); leads = ap drawing d.reached.leads };
    closed = record { shut = d.closed.shut; hands = d.closed.hands; stations = d.closed.stations; more = d.closed.more; all = d.closed.all; deeds = d.closed.deeds };
  }

  module _ (premises : RunPremises lines) where
    no_bytes : (pipe : List ℕ) (n : ℕ) → pipe ≡ [] → is_read pipe n ≡ true → ⊥
    no_bytes pipe n none e = no_byte n (subst (λ (p : List ℕ). is_read p n ≡ true) none e)
      where
        no_byte : (k : ℕ) → (nat_lt 0 k && nat_le k 0) ≡ true → ⊥
        no_byte k e = grind (arith, nat_tests, e)

    first_true : (a b : Bool) → (a && b) ≡ true → a ≡ true
    first_true true b e = refl
    first_true false b e = absurd (cc e)

    second_true : (a b : Bool) → (a && b) ≡ true → b ≡ true
    second_true true b e = e
    second_true false b e = absurd (cc e)

    -- only a line of an application is issued
    free_closed : (last w : WorldState) (e : Event) → event_weight e ≡ 0 → is_enabled w e ≡ true → Reached lines starves w → IsClosed last w → IsClosed last (act starves w e)
    free_closed last w (event.issue a) free can reached is = closed_beyond last w (event.issues w a) (line_issued w a is.shut) is
    free_closed last w event.host_send free can reached is = by (next_message w.side) refl can
      where
        ordered : Orderly w
        ordered = reached_orderly lines starves w (bounded_fit lines premises.bounded) reached

        by : (o : Option (List ℕ)) → next_message w.side ≡ o → is_some o ≡ true → IsClosed last (act starves w event.host_send)
        by None e can = absurd (cc can)
        by (Some m) e can = let (c, opened) = sends_open w ordered m e in absurd (cc (opened, is.shut))
    free_closed last w (event.client_read n) free can reached is =
        let ordered = reached_orderly lines starves w (bounded_fit lines premises.bounded) reached in
        absurd (no_bytes (w.to_client).pipe n (ordered.shut is.shut).to_client_none (first_true (is_read (w.to_client).pipe n) (is_none w.kept) can))
    free_closed last w event.client_send free can reached is =
        let ordered = reached_orderly lines starves w (bounded_fit lines premises.bounded) reached in
        let off : client_has_message w ≡ false = ap (λ (os : List Outgoing). not (is_empty os)) (ordered.shut is.shut).answers_none in
        absurd (cc (off, can))
    free_closed last w (event.collect d) free can reached is = at (station_at w d) refl
      where
        at : (o : Option Of) → station_at w d ≡ o → IsClosed last (act starves w (event.collect d))
        at None there =
            let off : has_completion w d ≡ false = ap (λ (o : Option Of). option_map_or (λ (t : Of). not (is_empty t.ready)) o false) there in
            absurd (cc (off, second_true (not (client_has_message w)) (has_completion w d) can))
        at (Some s) there =
            let k = known lines starves premises w reached in
            let none : s.ready ≡ [] = ((k.stands.shut (sym (host_channel w.side w.channels w.deeds k.stands.host) ∙ is.shut)).idle d s there).ready in
            let off : has_completion w d ≡ false = ap (λ (o : Option Of). option_map_or (λ (t : Of). not (is_empty t.ready)) o false) there ∙ ap (λ (cs : List Completion). not (is_empty cs)) none in
            absurd (cc (off, second_true (not (client_has_message w)) (has_completion w d) can))
    free_closed last w (event.host_read n) free can reached is =
        let ordered = reached_orderly lines starves w (bounded_fit lines premises.bounded) reached in absurd (no_bytes (w.to_host).pipe n (ordered.shut is.shut).to_host_none can)
    free_closed last w (event.take_job d hand) free can reached is = at (station_at w d) refl
      where
        at : (o : Option Of) → station_at w d ≡ o → IsClosed last (act starves w (event.take_job d hand))
        at None there =
            let off : job_waits w d ≡ false = ap (λ (o : Option Of). option_map_or (λ (t : Of). not (is_empty t.waiting)) o false) there in
            absurd (cc (off, second_true (is_hand_free w hand) (job_waits w d) can))
        at (Some s) there =
            let k = known lines starves premises w reached in
            let none : s.waiting ≡ [] = ((k.stands.shut (sym (host_channel w.side w.channels w.deeds k.stands.host) ∙ is.shut)).idle d s there).waiting in
            let off : job_waits w d ≡ false = ap (λ (o : Option Of). option_map_or (λ (t : Of). not (is_empty t.waiting)) o false) there ∙ ap (λ (js : List Job). not (is_empty js)) none in
            absurd (cc (off, second_true (is_hand_free w hand) (job_waits w d) can))
    free_closed last w (event.apply_job hand) free can reached is = by (hand_at w hand) refl can
      where
        got : (x : Option (ℕ × Job)) (xs : List (Option (ℕ × Job))) (n : ℕ) → slice_get xs n ≡ Some x → Has x xs
        got x [] n e = absurd (cc e)
        got x (y ∷ xs) zero e = let same : y ≡ x = cc in inl (sym same)
        got x (y ∷ xs) (suc n) e = inr (got x xs n e)

        in_hand : (x : ℕ × Job) (b : Bool) → cond b None (slice_get w.hands (hand - 1)) ≡ Some (Some x) → Has (Some x) w.hands
        in_hand x true e = absurd (cc e)
        in_hand x false e = got (Some x) w.hands (hand - 1) e

        by : (o : Option (Option (ℕ × Job))) → hand_at w hand ≡ o → option_map_or is_some o false ≡ true → IsClosed last (act starves w (event.apply_job hand))
        by None e can = absurd (cc can)
        by (Some None) e can = absurd (cc can)
        by (Some (Some x)) e can = absurd (is.hands x (in_hand x (hand == 0) e))
    free_closed last w e free can reached is = absurd (omega (arith, free))

    pub dropped_free : (last w : WorldState) (e : Event) → event_weight e ≡ 0 → is_enabled w e ≡ true → IsDropped lines starves last w → IsDropped lines starves last (act starves w e)
    dropped_free last w e free can d = record {
      reached = record {
        moves = happens e ∷ d.reached.moves;
        pass = (subst (λ (x : WorldState). MayPass lines x (happens e)) d.reached.leads (of_no_line e free, can), d.reached.pass);
        few = omega (arith, free, d.reached.few);
        leads = ap (λ (x : WorldState). act starves x e) d.reached.leads;
      };
      closed = free_closed last w e free can d.reached d.closed;
    }
