-- What a host's play makes of pass 0 of the table and of the calling thread's pass of the front.
use Rattle.std.proofs.Common.{◌≡◌, ◌≢◌, ◌∙◌, inl, inr, refl, sym, ap, subst, ℕ, zero, suc, ◌+◌, ◌-◌, ◌<◌, ◌≤◌, Bool, List, [], ◌∷◌, ◌++◌, length, append_assoc, append-nil, Contains, arith}
use Rattle.rd_host_front.specs.declared.calls.Came.{Came}
use Rattle.rd_host_front.specs.declared.calls.HostFrontCall.{HostFrontCall}
use Rattle.rd_host_front.specs.declared.calls.HostFrontCall.TheVariants as call
use Rattle.rd_host_front.specs.declared.calls.HostFrontReply.{HostFrontReply}
use Rattle.rd_host_front.specs.declared.calls.HostFrontReply.TheVariants as reply
use Rattle.rd_host_front.specs.State.{PassOfTable, TurnOfTable}
use Rattle.rd_host_player.specs.Play.{Acted, Acts, Begins, CallsFront, CameTo, ComesTo, ComesToControl, Ended, Issued, Looked, Looks, Passed, PlayState, Plays, PlaysOut, Ran, Runs, Stops, Tried, TriesToEnd, Waited}
use Rattle.rd_host_player.specs.declared.plan.Control.{Control}
use Rattle.rd_host_player.specs.declared.plan.Control.TheVariants as control
use Rattle.rd_host_player.specs.declared.player.Stop.{Stop}
use Rattle.rd_host_player.specs.declared.player.Stop.TheVariants as stop
use Rattle.rd_issuer.specs.declared.issuer.Issuer.{Issuer}
use Rattle.rd_issuer.specs.Issues.{Does, DoesAll, Issue, at_table, calls_of_issues, holds_nothing}
use Rattle.rd_issuer.specs.SideBySide.{RanSideBySide}
use Rattle.rd_pending.specs.declared.calls.Stage.{Stage}
use Rattle.rd_script.specs.declared.line.NumberedLine.{NumberedLine}
use Rattle.rd_table.specs.declared.calls.PendingCall.{PendingCall}
use Rattle.rd_table.specs.declared.calls.PendingCall.TheVariants as table
use Rattle.rd_table.specs.declared.calls.PendingReply.{PendingReply}
use Rattle.rd_table.specs.declared.calls.PendingReply.TheVariants as replied
use Rattle.rd_turn.specs.History.{calls_of, entry}
use Rattle.rd_turn.specs.Pass.{GoesOn}
use Rattle.rd_turn.proofs.HistoryLemmas.{Called-joined, Called-own}
use Rattle.rd_world.specs.World.{ApplicationState}
use Rattle.rd_host_turns.specs.Turns.{AreQuiet, IsQuietCall}
use Rattle.rd_host_turns.proofs.MergeLemmas.{Act, ActsGo, handed_in, hands, looks, runs}
use Rattle.rd_host_turns.proofs.MoveLemmas.{HaveRun}

-- ---- applications that run

does_quiet : (a : ℕ) (old new : ApplicationState) (does : PendingCall) (back : PendingReply) → Does a old (at_table does back) new → IsQuietCall does back
does_quiet a old new (table.Submit application named op) (replied.Submitted answer) does = does.5
does_quiet a old new (table.Take number) (replied.Taken answer) does = does.3
does_quiet a old new _ _ does = absurd does

issues_quiet : (a pass : ℕ) (issues : List Issue) (old new : ApplicationState) → DoesAll a old issues new → AreQuiet (calls_of_issues pass issues)
issues_quiet a pass [] old new does = tt
issues_quiet a pass (holds_nothing ∷ issues) old new (next, here, does) = issues_quiet a pass issues next new does
issues_quiet a pass (at_table call back ∷ issues) old new (next, here, does) = (does_quiet a old next call back here, issues_quiet a pass issues next new does)

one_of : (issuers : List Issuer) → 0 < length issuers → Issuer
one_of [] some = absurd (omega arith)
one_of (i ∷ issuers) some = i

have_run : (before after : PassOfTable) (old new : List Issuer) → RanSideBySide before after old new → GoesOn before after → HaveRun before after
have_run before after old new r on = record {
  first = r.first;
  kept = r.kept;
  on = on;
  least = let made = r.made in omega arith;
  each = λ k less le. each k less (let made = r.made in omega arith);
}
  where
    at : (place : ℕ) → place < length old → (n : ℕ) × Contains after.joined (suc (before.made + place), n) × AreQuiet (calls_of (suc (before.made + place)) after.seen)
    at place within =
        let d = one_of old (omega arith) in
        let ran = r.ran place d d within in
        let pass = suc (before.made + place) in
        let issued = ran.issued in
        (length (calls_of pass after.seen), ran.joined, subst AreQuiet (sym issued.calls) (issues_quiet _ pass issued.issues _ _ issued.does))

    each : (k : ℕ) → before.made < k → k ≤ before.made + length old → (n : ℕ) × Contains after.joined (k, n) × AreQuiet (calls_of k after.seen)
    each k less le =
        let place = k - suc before.made in
        let is : suc (before.made + place) ≡ k = omega arith in
        subst (λ (j : ℕ). (n : ℕ) × Contains after.joined (j, n) × AreQuiet (calls_of j after.seen)) is (at place (omega arith))

-- ---- one after the other

module _ {W : Type 0} where
  pub acts_then : (acts more : List (Act W)) (p q r : PassOfTable) → ActsGo p acts q → ActsGo q more r → ActsGo p (acts ++ more) r
  acts_then [] more p q r is goes = subst (λ (x : PassOfTable). ActsGo x more r) is goes
  acts_then (runs ∷ acts) more p q r (next, run, rest) goes = (next, run, acts_then acts more next q r rest goes)
  acts_then (looks stage ∷ acts) more p q r (next, look, rest) goes = (next, look, acts_then acts more next q r rest goes)
  acts_then (hands does back ∷ acts) more p q r (next, handed, rest) goes = (next, handed, acts_then acts more next q r rest goes)

  pub handed-append : (acts more : List (Act W)) → handed_in (acts ++ more) ≡ handed_in acts ++ handed_in more
  handed-append [] more = refl
  handed-append (runs ∷ acts) more = handed-append acts more
  handed-append (looks stage ∷ acts) more = handed-append acts more
  handed-append (hands does back ∷ acts) more = ap (λ l. entry 0 does back ∷ l) (handed-append acts more)

module _ {F W : Type 0} where
  -- Pass 0 of the table went on so, and the thread's pass of the front by the calls that this makes of it; the calls of passes that were joined to that stay.
  pub record Went (old new : PlayState F W) : Type 0 where
    pub first : (new.front).number ≡ 0
    pub made : (new.front).made ≡ (old.front).made
    pub acts : List (Act W)
    pub goes : ActsGo old.first acts new.first
    pub own : calls_of 0 (new.front).seen ≡ calls_of 0 (old.front).seen ++ handed_in acts
    pub kept : (k n : ℕ) → k ≢ 0 → Contains (old.front).joined (k, n) → Contains (new.front).joined (k, n) × (calls_of k (new.front).seen ≡ calls_of k (old.front).seen)

  pub went_then : (a b c : PlayState F W) → Went a b → Went b c → Went a c
  went_then a b c one other = record {
    first = other.first;
    made = other.made ∙ one.made;
    acts = one.acts ++ other.acts;
    goes = acts_then one.acts other.acts a.first b.first c.first one.goes other.goes;
    own = other.own
        ∙ (ap (λ l. l ++ handed_in other.acts) one.own
        ∙ (append_assoc (calls_of 0 (a.front).seen) (handed_in one.acts) (handed_in other.acts) ∙ ap (λ l. calls_of 0 (a.front).seen ++ l) (sym (handed-append one.acts other.acts))));
    kept = λ k n ne has. let here = one.kept k n ne has in let there = other.kept k n ne here.0 in (there.0, there.1 ∙ here.1);
  }

  -- Neither changes.
  still : (old new : PlayState F W) → (old.front).number ≡ 0 → new.first ≡ old.first → new.front ≡ old.front → Went old new
  still old new first same front = record {
    first = ap (λ (x : _). x.number) front ∙ first;
    made = ap (λ (x : _). x.made) front;
    acts = [];
    goes = same;
    own = ap (λ (x : _). calls_of 0 x.seen) front ∙ sym (append-nil (calls_of 0 (old.front).seen));
    kept = λ k n ne has. (subst (λ (x : _). Contains x.joined (k, n)) (sym front) has, ap (λ (x : _). calls_of k x.seen) front);
  }

  -- Pass 0 of the table alone goes on.
  alone : (old new : PlayState F W) (act : Act W) → (old.front).number ≡ 0 → handed_in (act ∷ []) ≡ [] → ActsGo old.first (act ∷ []) new.first → new.front ≡ old.front → Went old new
  alone old new act first none goes front = record {
    first = ap (λ (x : _). x.number) front ∙ first;
    made = ap (λ (x : _). x.made) front;
    acts = act ∷ [];
    goes = goes;
    own = ap (λ (x : _). calls_of 0 x.seen) front ∙ (sym (append-nil (calls_of 0 (old.front).seen)) ∙ ap (λ l. calls_of 0 (old.front).seen ++ l) (sym none));
    kept = λ k n ne has. (subst (λ (x : _). Contains x.joined (k, n)) (sym front) has, ap (λ (x : _). calls_of k x.seen) front);
  }

  -- The front is called by the thread's pass.
  called_so : (old new : PlayState F W) (does : HostFrontCall W) (back : HostFrontReply W) → (old.front).number ≡ 0 → CallsFront does back old.front new.front
      → ActsGo old.first (hands does back ∷ []) new.first → Went old new
  called_so old new does back first calls goes =
      let same = calls.0 in
      let called = calls.1 in
      record {
        first = same.0 ∙ first;
        made = same.1;
        acts = hands does back ∷ [];
        goes = goes;
        own = subst (λ (n : ℕ). calls_of n (new.front).seen ≡ calls_of n (old.front).seen ++ entry n does back ∷ []) first (Called-own old.front new.front does back called);
        kept = λ k n ne has. (subst (λ (l : List (ℕ × ℕ)). Contains l (k, n)) (sym same.3) has, Called-joined old.front new.front does back k n first ne has called);
      }

  -- ---- one thing

  comes_went : (l : NumberedLine) (old new : PlayState F W) → (old.front).number ≡ 0 → ComesTo l old new → Went old new
  comes_went l old new first comes = still old new first (ap (λ (s : PlayState F W). s.first) comes.2) (ap (λ (s : PlayState F W). s.front) comes.2)

  control_went : (c : Control) (old new : PlayState F W) → (old.front).number ≡ 0 → ComesToControl c old new → Went old new
  control_went c old new first (l, comes, is) = comes_went l old new first comes

  runs_went : (old new : PlayState F W) → (old.front).number ≡ 0 → Runs old new → Went old new
  runs_went old new first (ran, on, is) =
      alone old new runs first refl (new.first, have_run old.first new.first old.issuers new.issuers ran on, refl) (ap (λ (s : PlayState F W). s.front) is)

  looks_went : (turn : TurnOfTable) (stage : Stage) (old new : PlayState F W) → (old.front).number ≡ 0 → Looks turn stage old new → Went old new
  looks_went turn stage old new first (calls, is) =
      alone old new (looks stage) first refl (new.first, record { same = calls.same; called = calls.called }, refl) (ap (λ (s : PlayState F W). s.front) is)

  tries_went : (anew : Bool) (what : Came) (old new : PlayState F W) → (old.front).number ≡ 0 → TriesToEnd anew what old new → Went old new
  tries_went anew what old new first (calls, handed, is) = called_so old new (call.DropSent old.first anew) (reply.First new.first what) first calls (new.first, (refl, refl), refl)

  pub begins_went : (channel : ℕ) (what : Came) (old new : PlayState F W) → (old.front).number ≡ 0 → Begins channel what old new → Went old new
  begins_went channel what old new first (calls, handed, is) = called_so old new (call.Begin channel old.first) (reply.First new.first what) first calls (new.first, (refl, refl), refl)

  -- ---- many

  no_more : (old new : PlayState F W) → (old.front).number ≡ 0 → new ≡ old → Went old new
  no_more old new first is = still old new first (ap (λ (s : PlayState F W). s.first) is) (ap (λ (s : PlayState F W). s.front) is)

  came_went : (n : ℕ) (old new : PlayState F W) → (old.front).number ≡ 0 → CameTo n old new → Went old new
  came_went zero old new first is = no_more old new first is
  came_went (suc n) old new first (here, l, came, none, comes) = let w = came_went n old here first came in went_then old here new w (comes_went l here new w.first comes)

  ran_went : (n : ℕ) (old new : PlayState F W) → (old.front).number ≡ 0 → Ran n old new → Went old new
  ran_went zero old new first is = no_more old new first is
  ran_went (suc n) old new first (here, ran, run) = let w = ran_went n old here first ran in went_then old here new w (runs_went here new w.first run)

  issued_went : (old new : PlayState F W) → (old.front).number ≡ 0 → Issued old new → Went old new
  issued_went old new first (lines, times, here, came, control, ran) = let w = came_went lines old here first came in went_then old here new w (ran_went (suc times) here new w.first ran)

  looked_went : (turn : TurnOfTable) (n : ℕ) (old new : PlayState F W) → (old.front).number ≡ 0 → Looked turn n old new → Went old new
  looked_went turn zero old new first is = no_more old new first is
  looked_went turn (suc n) old new first (here, stage, looked, look) = let w = looked_went turn n old here first looked in went_then old here new w (looks_went turn stage here new w.first look)

  waited_went : (turn : TurnOfTable) (devices : ℕ) (old new : PlayState F W) → (old.front).number ≡ 0 → Waited turn devices old new → Went old new
  waited_went turn devices old new first (times, here, stage, looked, look, ready) = let w = looked_went turn times old here first looked in went_then old here new w (looks_went turn stage here new w.first look)

  tried_went : (n : ℕ) (old new : PlayState F W) → (old.front).number ≡ 0 → Tried n old new → Went old new
  tried_went zero old new first is = no_more old new first is
  tried_went (suc n) old new first (here, tried, tries) = let w = tried_went n old here first tried in went_then old here new w (tries_went _ _ here new w.first tries)

  ended_went : (old new : PlayState F W) → (old.front).number ≡ 0 → Ended old new → Went old new
  ended_went old new first (times, here, tried, tries) = let w = tried_went times old here first tried in went_then old here new w (tries_went _ _ here new w.first tries)

  acts_went : (turn : TurnOfTable) (old new : PlayState F W) → (old.front).number ≡ 0 → Acts turn old new → Went old new
  acts_went turn old new first (here, next, issued, inl (comes, ended)) =
      let w = issued_went old here first issued in
      let c = control_went control.Drop here next w.first comes in
      went_then old here new w (went_then here next new c (ended_went next new c.first ended))
  acts_went turn old new first (here, next, issued, inr (stage, comes, look, is)) =
      let w = issued_went old here first issued in
      let c = control_went control.Connect here next w.first comes in
      went_then old here new w (went_then here next new c (looks_went turn stage next new c.first look))

  acted_went : (turn : TurnOfTable) (n : ℕ) (old new : PlayState F W) → (old.front).number ≡ 0 → Acted turn n old new → Went old new
  acted_went turn zero old new first is = no_more old new first is
  acted_went turn (suc n) old new first (here, acted, acts) = let w = acted_went turn n old here first acted in went_then old here new w (acts_went turn here new w.first acts)

  stops_went : (turn : TurnOfTable) (why : Stop) (old new : PlayState F W) → (old.front).number ≡ 0 → Stops turn why old new → Went old new
  stops_went turn stop.Connect old new first (here, next, stage, issued, comes, look, shut) =
      let w = issued_went old here first issued in
      let c = control_went control.Connect here next w.first comes in
      went_then old here new w (went_then here next new c (looks_went turn stage next new c.first look))
  stops_went turn stop.End old new first (here, next, issued, none, ended, rest, all) =
      let w = issued_went old here first issued in
      let e = ended_went here next w.first ended in
      went_then old here new w (went_then here next new e (issued_went next new e.first rest))

  pub plays_went : (turn : TurnOfTable) (devices : ℕ) (why : Stop) (old new : PlayState F W) → (old.front).number ≡ 0 → Plays turn devices why old new → Went old new
  plays_went turn devices why old new first (here, times, next, waited, acted, stops) =
      let w = waited_went turn devices old here first waited in
      let a = acted_went turn times here next w.first acted in
      went_then old here new w (went_then here next new a (stops_went turn why next new a.first stops))

  passed_went : (n : ℕ) (old new : PlayState F W) → (old.front).number ≡ 0 → Passed n old new → Went old new
  passed_went zero old new first is = no_more old new first is
  passed_went (suc n) old new first (here, next, c, passed, issued, comes) =
      let w = passed_went n old here first passed in
      let i = issued_went here next w.first issued in
      went_then old here new w (went_then here next new i (control_went c next new i.first comes))

  pub plays_out_went : (old new : PlayState F W) → (old.front).number ≡ 0 → PlaysOut old new → Went old new
  plays_out_went old new first (times, here, passed, issued, none, all) = let w = passed_went times old here first passed in went_then old here new w (issued_went here new w.first issued)
