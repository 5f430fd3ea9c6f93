-- The law that a host's script goes along the one history of its table: from where the session is over back to where it began.
use Rattle.std.proofs.Common.{◌≡◌, ◌≢◌, ◌∙◌, inl, refl, sym, ap, subst, ℕ, suc, ◌+◌, false, List, [], ◌∷◌, ◌++◌, append-nil, Option, Some, arith}
use Rattle.std.specs.Prelude.{AllPairs, slice_get}
use Rattle.std.proofs.lemmas.Option.{slice_get_within}
use Rattle.rd_carry.specs.declared.ended.Ended.{Ended}
use Rattle.rd_host_front.specs.State.{HostFrontState, JoinsPass, PassOfTable, TurnOfTable}
use Rattle.rd_host_player.specs.Plan.{awaited_devices}
use Rattle.rd_host_player.specs.Play.{PlayState}
use Rattle.rd_host_session.specs.Channels.{LinkedTold}
use Rattle.rd_host_session.specs.Hosted.{PlaysOver, issuers_of}
use Rattle.rd_issuer.specs.declared.issuer.Issuer.{Issuer}
use Rattle.rd_issuer.specs.Issues.{Does, DoesAll, HasAllOutcomes, Issue, at_table, calls_of_issues, holds_nothing}
use Rattle.rd_pending.specs.Table.{TableState, new_table}
use Rattle.rd_script.specs.declared.line.NumberedLine.{NumberedLine}
use Rattle.rd_table.specs.declared.calls.PendingCall.{PendingCall}
use Rattle.rd_table.specs.declared.calls.PendingCall.TheVariants as table
use Rattle.rd_table.specs.declared.calls.PendingReply.{PendingReply}
use Rattle.rd_table.specs.declared.calls.PendingReply.TheVariants as replied
use Rattle.rd_table.specs.Calls.{PendingStep, table_calls}
use Rattle.rd_table.specs.Histories.{handed_in}
use Rattle.rd_table.proofs.HandedLemmas.{all_apart}
use Rattle.rd_table.proofs.StepLemmas.{led_steps}
use Rattle.rd_turn.specs.History.{Leads, calls_of, entry}
use Rattle.rd_turn.specs.Pass.{after_split, first_pass}
use Rattle.rd_turn.proofs.HistoryLemmas.{GoesOn-joined, GoesOn-prefix, prefix_self}
use Rattle.rd_host_turns.specs.Turns.{TableEntry}
use Rattle.rd_host_turns.proofs.MoveLemmas.{zeros_stay}
use Rattle.rd_world.specs.World.{ApplicationState}
use Rattle.rd_host_lines.specs.Places.{ActNothing, GoesAlong, IsPlayedAlong}
use Rattle.rd_host_lines.specs.Outcomes.{AllCame, asks_under}
use Rattle.rd_host_lines.proofs.BeginLemmas.{asking_for, begins_so}
use Rattle.rd_host_lines.proofs.CameLemmas.{home_stays, lines_came}
use Rattle.rd_host_lines.proofs.ControlLemmas.{ActsNone, IsIdle, none_act, plain_idle}
use Rattle.rd_host_lines.proofs.FrontLemmas.{IsFronts}
use Rattle.rd_host_lines.proofs.InPlayLemmas.{indexed_got, issuer}
use Rattle.rd_host_lines.proofs.LaterLemmas.{IsKnownLook}
use Rattle.rd_host_lines.proofs.MineLemmas.{nothing_more}
use Rattle.rd_host_lines.proofs.OverLemmas.{IsOver, session_over}
use Rattle.rd_host_lines.proofs.PassLemmas.{AreSuch, all_as}
use Rattle.rd_host_lines.proofs.PastLemmas.{IsBounded, Past}
use Rattle.rd_host_lines.proofs.PlaceLemmas.{Reaches, walks_back}
use Rattle.rd_host_lines.proofs.PlayLemmas.{Keeping}
use Rattle.rd_host_lines.proofs.RunLemmas.{each_pass, one_of}
use Rattle.rd_host_lines.proofs.SeenLemmas.{Others, Seen, added_such, calls_parted}
use Rattle.rd_host_lines.proofs.SessionLemmas.{HasWalked, session_such, session_walked}
use Rattle.rd_host_lines.proofs.WalkLemmas.{Spot, at, over}

-- ---- looks for numbers that are known

issues_known : (a pass : ℕ) (issues : List Issue) (old new : ApplicationState) → DoesAll a old issues new → AreSuch IsKnownLook (calls_of_issues pass issues)
issues_known a pass [] old new does = tt
issues_known a pass (holds_nothing ∷ issues) old new (next, here, does) = issues_known a pass issues next new does
issues_known a pass (at_table asked back ∷ issues) old new (next, here, does) = (by asked back here, issues_known a pass issues next new does)
  where
    by : (does : PendingCall) (back : PendingReply) → Does a old (at_table does back) next → IsKnownLook (entry pass does back)
    by (table.Submit application named op) (replied.Submitted answer) here = tt
    by (table.Take number) (replied.Taken answer) here = here.3
    by _ _ here = absurd here

fronts_known : (by : ℕ) (does : PendingCall) (back : PendingReply) → IsFronts does → IsKnownLook (entry by does back)
fronts_known by (table.Begin channel) back is = tt
fronts_known by (table.Live device) back is = tt
fronts_known by (table.Submit application named op) back is = absurd is
fronts_known by table.Outbox back is = tt
fronts_known by (table.Complete head body) back is = tt
fronts_known by (table.Remove device) back is = tt
fronts_known by table.DropChannel back is = tt
fronts_known by table.DropSent back is = tt
fronts_known by (table.Take number) back is = absurd is
fronts_known by table.Stage back is = tt

keeps_known : (all : List TableEntry) → Keeping IsKnownLook (λ (issuers : List Issuer). Unit {0}) all
keeps_known all = record {
  such = fronts_known;
  queue = λ l old new has fit. tt;
  runs = λ before after old new r prefix fit. (
    tt,
    each_pass before after old new IsKnownLook r (λ place within.
        let d = one_of old (omega arith) in
        let issued = (r.ran place d d within).issued in
        subst (AreSuch IsKnownLook) (sym issued.calls) (issues_known _ (suc (before.made + place)) issued.issues _ _ issued.does)),
  );
}

-- ---- the law

module _ (lines : List NumberedLine) (other : Option Ended) (old new : LinkedTold) (turn : TurnOfTable) (issuers : List Issuer) (last : PassOfTable) (t : TableState) (leads : Leads PendingStep new_table last.seen t) {W : Type 0}
    (session : PlaysOver W turn lines other issuers (first_pass turn) last old new) where
  abbrev ends : PlayState HostFrontState W
  ends = (session.ends).play

  abbrev g : ℕ
  g = (((session.closed).table).pass).number

  home : JoinsPass ends.first ((session.closed).table).pass last
  home = session.home

  done : IsOver ends
  done = session_over turn _ other _ session.ends session.serves

  known : AreSuch IsKnownLook last.seen
  known = session_such {W = W} IsKnownLook (λ (issuers : List Issuer). Unit {0}) turn lines other issuers last old new session (keeps_known last.seen) tt

  pairs : AllPairs (λ x y. x.0 ≢ y.0) (handed_in last.seen)
  pairs = all_apart (table_calls last.seen) [] t tt (led_steps new_table t last.seen leads)

  came : AllCame lines issuers last.seen
  came = lines_came lines other old new turn issuers last session

  abbrev Back : Spot → Spot → Type 0
  Back x y = Reaches turn (awaited_devices lines) lines issuers last.seen last.made y → Reaches turn (awaited_devices lines) lines issuers last.seen last.made x

  walked : HasWalked IsIdle plain_idle Back turn lines ends session.closed
  walked = session_walked IsIdle plain_idle Back turn lines other issuers last old new session
      (walks_back turn (awaited_devices lines) lines issuers last.seen last.made (home.numbers home.number) came.numbers pairs known t leads)

  -- where the session is over

  first : (ends.first).number ≡ 0
  first = walked.first

  seen_end : Seen last.seen last.made ends.first
  seen_end = record {
    seen = GoesOn-prefix ends.first last home.goes_on;
    least = (let made = home.made in omega arith);
    stay = λ k n ne has. GoesOn-joined ends.first last k n first has home.goes_on;
    later = λ k more le. (let made = home.made in absurd (omega arith));
  }

  seen_last : Seen last.seen last.made last
  seen_last = record { seen = prefix_self last.seen; least = omega arith; stay = λ k n ne has. refl; later = λ k more le. absurd (omega arith) }

  front : AreSuch IsIdle (calls_of g last.seen)
  front = subst (AreSuch IsIdle) (sym home.other_calls) walked.own

  rest_none : (rest : List TableEntry) → (ends.first).seen ++ rest ≡ last.seen → Others g ends.first → ActNothing rest
  rest_none rest whole others =
      none_act rest (added_such last.seen last.made (home.numbers home.number) ActsNone ends.first last g rest whole others (home_stays ends.first ((session.closed).table).pass last first home) seen_last
      (all_as IsIdle ActsNone (λ e idle. idle.1) (calls_of g last.seen) front)
      (subst (AreSuch ActsNone) (sym (nothing_more (calls_of 0 (ends.first).seen) (calls_of 0 rest) (sym (calls_parted 0 (ends.first).seen rest last.seen whole) ∙ zeros_stay ends.first last first home.goes_on))) tt)
      (λ k more le. (let made = home.made in absurd (omega arith))))

  none_awaited : (place : ℕ) (i : Issuer) → slice_get ends.issuers place ≡ Some i → (n : ℕ) → (i.application).awaits ≡ Some n → ⊥
  none_awaited place i got n awaits =
      let all : HasAllOutcomes i.application = subst (λ (j : Issuer). HasAllOutcomes j.application) (indexed_got ends.issuers place i i got) (done.all place i (slice_get_within ends.issuers place i got)) in
      let free = all.1 in
      absurd (cc (free, awaits))

  at_end : Reaches turn (awaited_devices lines) lines issuers last.seen last.made (at over g ends)
  at_end = record {
    seen = seen_end;
    front = λ ne. front;
    out = λ place i got. record {
      last = i;
      there = ap (λ (l : List Issuer). slice_get l place) (sym session.issuers_are) ∙ got;
      number = refl;
      later = [];
      outcomes = sym (append-nil (i.application).outcomes);
      awaited = λ n awaits. absurd (none_awaited place i got n awaits);
    };
    goes = λ kept before is rest whole.
        subst (λ (l : List NumberedLine). GoesAlong (awaited_devices lines) issuers before l false (ends.first).seen rest) (sym done.none) (rest_none rest whole kept.others);
  }

  -- where it begins

  begun : Past lines 1 (after_split (first_pass turn)) lines (issuers_of lines)
  begun = record {
    first = refl;
    own = tt;
    nonzero = λ z. absurd (cc z);
    others = λ k ne le. inl (omega arith);
    bounded = λ place i at. subst IsBounded (sym (begins_so lines place i at)) (omega arith, λ n is. absurd (cc is));
    apps = λ place i at. record {
      mine = λ k. false;
      ran = record { first = refl; own = tt; joined = λ k own. absurd (cc own); each = λ k ne le. inl (omega arith) };
      numbers_are = refl;
      now = asking_for (asks_under i.number lines);
      at = at ∙ ap (λ (x : ApplicationState). Some (issuer i.number x)) (begins_so lines place i at);
      left = omega arith;
      issues = [];
      did = refl;
      calls = refl;
    };
  }

  pub goes_along : IsPlayedAlong lines issuers last.seen
  goes_along = (walked.went at_end).goes begun [] refl last.seen refl
