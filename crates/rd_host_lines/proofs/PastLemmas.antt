-- What is kept of all applications while a host plays a script; and what it says where they rest: what came so far of the lines to which the script came.
use Rattle.std.proofs.Common.{◌≡◌, ◌≢◌, ◌∙◌, ◌⊎◌, inl, inr, refl, sym, ap, subst, ℕ, zero, suc, ◌+◌, ◌<◌, ◌≤◌, Bool, true, false, List, [], ◌∷◌, ◌++◌, length, length-append, append_assoc, map, All, Contains, arith, Some, None, Option, Ok, Err, is_none}
use Rattle.std.specs.Prelude.{AllPairs, ◌&&◌, nat_lt, slice_get, slice_index_or, slice_set}
use Rattle.std.specs.List.{AllByRecursion}
use Rattle.std.proofs.lemmas.Bool.Decides.{nat_tests}
use Rattle.std.proofs.lemmas.Bool.{cases_eq}
use Rattle.std.proofs.lemmas.List.{map-append}
use Rattle.std.proofs.lemmas.List.Elements.{Contains-append_right, filter_map-append}
use Rattle.std.proofs.lemmas.Option.{slice_get_within}
use Rattle.std.specs.Option.{option_and_then}
use mathlib.Core.Logic.{dite}
use native.Mathlib.Decide.{dec_le}
use Rattle.rd_host_front.specs.State.{PassCalls, PassOfTable, TurnOfTable}
use Rattle.rd_host_player.specs.Play.{HasCome, QueuedAt, queued}
use Rattle.rd_host_session.specs.Hosted.{issuers_of}
use Rattle.rd_issuer.specs.declared.issuer.Issuer.{Issuer}
use Rattle.rd_issuer.specs.Issues.{Does, DoesAll, Issue, Rests, WaitsAt, at_table, holds_nothing}
use Rattle.rd_issuer.specs.SideBySide.{RanSideBySide}
use Rattle.rd_pending.specs.declared.calls.Handle.{Handle}
use Rattle.rd_pending.specs.declared.calls.Stage.{Stage}
use Rattle.rd_pending.specs.declared.calls.TakeNo.TheVariants as take_no
use Rattle.rd_script.specs.declared.line.NumberedLine.{NumberedLine}
use Rattle.rd_script.specs.declared.outcome.Outcome.{Outcome}
use Rattle.rd_script.specs.declared.outcome.Outcome.TheVariants as outcome
use Rattle.rd_script.specs.declared.outcome.Refusal.TheVariants as refusal
use Rattle.rd_table.specs.declared.calls.PendingCall.{PendingCall}
use Rattle.rd_table.specs.declared.calls.PendingCall.TheVariants as call
use Rattle.rd_table.specs.declared.calls.PendingReply.{PendingReply}
use Rattle.rd_table.specs.declared.calls.PendingReply.TheVariants as reply
use Rattle.rd_table.specs.Histories.{handed_in}
use Rattle.rd_turn.specs.History.{calls_of, entry}
use Rattle.rd_turn.specs.Pass.{GoesOn}
use Rattle.rd_turn.proofs.HistoryLemmas.{All-prefix, Called-own}
use Rattle.rd_world.specs.Events.{may_issue, refusal_of}
use Rattle.rd_world.specs.Hearing.{given_handle, reported_outcome, with_outcome}
use Rattle.rd_world.specs.Run.{asked_by}
use Rattle.rd_world.specs.World.{ApplicationState, Asked, new_application}
use Rattle.rd_host_turns.specs.Turns.{TableEntry}
use Rattle.rd_host_turns.proofs.CountLemmas.{all_both, all_left}
use Rattle.rd_host_turns.proofs.MoveLemmas.{zeros_stay}
use Rattle.rd_host_lines.specs.Outcomes.{IsNoRequestOf, asks_under, line_under}
use Rattle.rd_host_lines.specs.Places.{FindsNothing, HaveCome, IsNoApplications, LinesCameSoFar}
use Rattle.rd_host_lines.proofs.BeginLemmas.{asking_for, numbers_differ}
use Rattle.rd_host_lines.proofs.CameLemmas.{all_ended, got_numbered}
use Rattle.rd_host_lines.proofs.ControlLemmas.{IsIdle}
use Rattle.rd_host_lines.proofs.FrontLemmas.{IsFronts}
use Rattle.rd_host_lines.proofs.InPlayLemmas.{InPlay, IsApart, RunsOn, bare, carries, fronts_apart, got_indexed, got_other, got_same, indexed_got, issuer, number_at, number_of, outcome_queued, ran_on}
use Rattle.rd_host_lines.proofs.LaterLemmas.{AllComeOut, ComesOut, IsKnownLook, finds_nothing}
use Rattle.rd_host_lines.proofs.MineLemmas.{mine_are}
use Rattle.rd_host_lines.proofs.OutcomeLemmas.{AreMine, StandsAt, calls_in, told_by}
use Rattle.rd_host_lines.proofs.PassLemmas.{Anew, AreSuch, all_as}
use Rattle.rd_host_lines.proofs.PlayLemmas.{Carrying}
use Rattle.rd_host_lines.proofs.RunLemmas.{each_pass, one_of}
use Rattle.rd_host_lines.proofs.SeenLemmas.{Others, Seen, calls_parted, looked_others}
use Rattle.rd_host_lines.proofs.SessionLemmas.{all_such}
use Rattle.rd_host_lines.proofs.StandLemmas.{IsAtRest, LooksLast, looked_in_vain, so_far}

-- ---- calls that are no requests

-- a call that is no request of any application
abbrev pub NoRequest : TableEntry → Type 0
NoRequest e = (a : ℕ) → IsNoRequestOf a e.call

no_request : (does : PendingCall) → IsNoApplications does → (a : ℕ) → IsNoRequestOf a does
no_request (call.Submit application named op) is a = absurd is
no_request (call.Begin channel) is a = tt
no_request (call.Live device) is a = tt
no_request call.Outbox is a = tt
no_request (call.Complete head body) is a = tt
no_request (call.Remove device) is a = tt
no_request call.DropChannel is a = tt
no_request call.DropSent is a = tt
no_request (call.Take number) is a = tt
no_request call.Stage is a = tt

pub idle_request : (e : TableEntry) → IsIdle e → NoRequest e
idle_request e idle = no_request e.call idle.0

pub fronts_request : (by : ℕ) (does : PendingCall) (back : PendingReply) → IsFronts does → NoRequest (entry by does back)
fronts_request by does back is = λ a. fronts_apart a by does back is

-- ---- how many lines have outcomes

-- No more lines have outcomes than the script came to; and one more was come to, where one is awaited.
abbrev pub IsBounded : ApplicationState → Type 0
IsBounded x = (length x.outcomes ≤ x.queued) × ((n : ℕ) → x.awaits ≡ Some n → length x.outcomes < x.queued)

is_less : (n m : ℕ) → nat_lt n m ≡ true → n < m
is_less n m is = grind (arith, nat_tests)

may_less : (x : ApplicationState) → may_issue x ≡ true → length x.outcomes < x.queued
may_less x may = by (nat_lt (length x.outcomes) x.queued) refl may
  where
    by : (b : Bool) → nat_lt (length x.outcomes) x.queued ≡ b → (b && is_none x.awaits) ≡ true → length x.outcomes < x.queued
    by true less may = is_less (length x.outcomes) x.queued less
    by false less may = absurd (cc may)

bound_outcome : (x : ApplicationState) (o : Outcome) (given : Option Handle) (asked : Asked) → length x.outcomes < x.queued → IsBounded (with_outcome x o given asked)
bound_outcome x o given asked less = (
  subst (λ (n : ℕ). length (x.outcomes ++ o ∷ []) ≤ n) (sym (outcome_queued x o given asked)) (omega (arith, less, length-append x.outcomes (o ∷ []))),
  λ n is. absurd (cc is),
)

does_bounded : (a : ℕ) (x : ApplicationState) (i : Issue) (y : ApplicationState) → Does a x i y → IsBounded x → IsBounded y
does_bounded a x holds_nothing y (asked, comes, none, is) b = subst IsBounded (sym is) (bound_outcome x (outcome.Refused refusal.NoHandle) None asked (may_less x comes.0))
does_bounded a x (at_table (call.Submit application named op) (reply.Submitted (Ok number))) y (asked, comes, mine, names, op_is, known, is) b =
    let less = may_less x comes.0 in subst IsBounded (sym is) (b.0, λ n awaits. less)
does_bounded a x (at_table (call.Submit application named op) (reply.Submitted (Err cause))) y (asked, comes, mine, names, op_is, known, is) b =
    subst IsBounded (sym is) (bound_outcome x (outcome.Refused (refusal_of cause)) None asked (may_less x comes.0))
does_bounded a x (at_table (call.Take number) (reply.Taken (Ok taken))) y (asked, next, awaits, known, is) b =
    subst IsBounded (sym is) (bound_outcome x (reported_outcome taken.outcome) (given_handle taken) asked (b.1 number awaits))
does_bounded a x (at_table (call.Take number) (reply.Taken (Err cause))) y (asked, next, awaits, known, is) b = subst IsBounded (sym is) b
does_bounded a x (at_table does back) y did b = absurd did

all_bounded : (a : ℕ) (issues : List Issue) (x y : ApplicationState) → DoesAll a x issues y → IsBounded x → IsBounded y
all_bounded a [] x y is b = subst IsBounded (sym is) b
all_bounded a (i ∷ issues) x y (next, does, more) b = all_bounded a issues next y more (does_bounded a x i next does b)

abbrev pub AreBounded : List Issuer → Type 0
AreBounded issuers = (place : ℕ) (i : Issuer) → slice_get issuers place ≡ Some i → IsBounded i.application

queue_bounded : (l : NumberedLine) (old new : List Issuer) → HasCome l.line old new → AreBounded old → AreBounded new
queue_bounded l old new has bounded = by (asked_by l.line) refl
  where
    queued_at : (b : ℕ) → QueuedAt b old new → AreBounded new
    queued_at b (other, i, got, number, is) place j at = elim (cases_eq place other) [
      | inl same ↦
          let own : slice_get old place ≡ Some i = ap (slice_get old) same ∙ got in
          let there : slice_get new place ≡ Some (queued i) = ap (λ (ls : List Issuer). slice_get ls place) is ∙ (ap (λ (n : ℕ). slice_get (slice_set old n (queued i)) place) (sym same) ∙ got_same old place i (queued i) own) in
          let me : j ≡ queued i = cc (at, there) in
          let was = bounded place i own in
          subst (λ (x : Issuer). IsBounded x.application) (sym me) ((let le = was.0 in omega arith), λ n awaits. let less = was.1 n awaits in omega arith)
      | inr ne ↦ bounded place j (sym (got_other old place other (queued i) ne) ∙ (sym (ap (λ (ls : List Issuer). slice_get ls place) is) ∙ at))
    ]

    by : (o : Option (ℕ × Asked)) → asked_by l.line ≡ o → AreBounded new
    by None e = let h : new ≡ old = rw e at has in subst AreBounded (sym h) bounded
    by (Some (b, asked)) e = let h : QueuedAt b old new = rw e at has in queued_at b h

run_bounded : (p q : PassOfTable) (old new : List Issuer) → RanSideBySide p q old new → AreBounded old → AreBounded new
run_bounded p q old new ran bounded place i at =
    let less_new : place < length new = slice_get_within new place i at in
    let less : place < length old = (let count = ran.count in omega arith) in
    let w = ran.ran place i i less in
    let is : slice_index_or new place i ≡ i = indexed_got new place i i at in
    subst (λ (x : Issuer). IsBounded x.application) is
    (all_bounded _ (w.issued).issues (slice_index_or old place i).application (slice_index_or new place i).application (w.issued).does (bounded place (slice_index_or old place i) (got_indexed old place i less)))

-- ---- what is kept

any_all : (xs : List TableEntry) → AreSuch (λ (e : TableEntry). Unit {0}) xs
any_all [] = tt
any_all (x ∷ xs) = (tt, any_all xs)

-- what the lines of a script ask for is what those before ask for, and those behind
asks_parted : (a : ℕ) (lines before behind : List NumberedLine) → lines ≡ before ++ behind → asks_under a lines ≡ asks_under a before ++ asks_under a behind
asks_parted a lines before behind is = ap (asks_under a) is ∙ filter_map-append (λ (l : NumberedLine). option_and_then (line_under a) (asked_by l.line)) before behind

last_so : (n : ℕ) (calls : List (PendingCall × PendingReply)) → LooksLast n (calls ++ looked_in_vain n ∷ [])
last_so n [] = refl
last_so n (c ∷ []) = refl
last_so n (c ∷ d ∷ calls) = last_so n (d ∷ calls)

module _ (lines : List NumberedLine) where
  -- the application of a script's lines at a place
  abbrev pub AppAt : ℕ → ℕ → ℕ → PassOfTable → List NumberedLine → List Issuer → Type 0
  AppAt a place f p left issuers = InPlay a place (length (asks_under a lines)) (map number_of (issuers_of lines)) (asking_for (asks_under a lines)) (numbers_differ lines) f p left issuers

  pub record Past (f : ℕ) (p : PassOfTable) (left : List NumberedLine) (issuers : List Issuer) : Type 0 where
    pub first : p.number ≡ 0
    pub own : AreSuch NoRequest (calls_of 0 p.seen)
    pub nonzero : f ≢ 0
    pub others : Others f p
    pub bounded : AreBounded issuers
    pub apps : (place : ℕ) (i : Issuer) → slice_get (issuers_of lines) place ≡ Some i → AppAt i.number place f p left issuers

  apart_of : (a : ℕ) (e : TableEntry) → NoRequest e → IsApart a e
  apart_of a e none = none a

  ran_others : (f : ℕ) (p q : PassOfTable) (old new : List Issuer) → RanSideBySide p q old new → Others f p → Others f q
  ran_others f p q old new ran others k ne le =
      dite (dec_le k p.made) (λ few. was (others k ne few)) (λ more.
      let e = each_pass p q old new (λ (e : TableEntry). Unit {0}) ran (λ place within. any_all (calls_of (suc (p.made + place)) q.seen)) k (omega arith) le in inr (e.0, e.1))
    where
      was : (k ≡ f) ⊎ ((n : ℕ) × Contains p.joined (k, n)) → (k ≡ f) ⊎ ((n : ℕ) × Contains q.joined (k, n))
      was (inl is) = inl is
      was (inr (n, has)) = inr (n, subst (λ (l : List (ℕ × ℕ)). Contains l (k, n)) (sym (ran.kept).1) (Contains-append_right (ran.kept).0 p.joined (k, n) has))

  anew_others : (f g : ℕ) (p q : PassOfTable) → f ≢ 0 → Anew NoRequest p f q g → Others f p → Others g q
  anew_others f g p q nonzero one others k ne le = dite (dec_le k p.made) (λ few. was (others k ne few)) (λ more. inl (let made = one.made in let next = one.next in omega arith))
    where
      was : (k ≡ f) ⊎ ((n : ℕ) × Contains p.joined (k, n)) → (k ≡ g) ⊎ ((n : ℕ) × Contains q.joined (k, n))
      was (inl is) = let j = one.front nonzero in inr (subst (λ (k : ℕ). (n : ℕ) × Contains q.joined (k, n)) (sym is) (j.0, j.1))
      was (inr (n, has)) = inr (n, ((one.stays).kept k n ne has).0)

  anew_apart : (a f g : ℕ) (p q : PassOfTable) → AreSuch NoRequest (calls_of 0 p.seen) → Anew NoRequest p f q g → Anew (IsApart a) p f q g
  anew_apart a f g p q own one = record {
    stays = one.stays;
    made = one.made;
    next = one.next;
    front = λ ne. let j = one.front ne in (j.0, j.1, all_as NoRequest (IsApart a) (apart_of a) (calls_of f q.seen) j.2);
    own = λ are. all_as NoRequest (IsApart a) (apart_of a) (calls_of 0 q.seen) (one.own own);
  }

  looked_own : (turn : TurnOfTable) (stage : Stage) (p q : PassOfTable) → PassCalls turn p call.Stage (reply.Stands stage) q → p.number ≡ 0 → AreSuch NoRequest (calls_of 0 p.seen) → AreSuch NoRequest (calls_of 0 q.seen)
  looked_own turn stage p q calls first own = subst (AreSuch NoRequest) (sym is) (all_both NoRequest (calls_of 0 p.seen) (entry 0 call.Stage (reply.Stands stage) ∷ []) own (fronts_request 0 call.Stage (reply.Stands stage) tt, tt))
    where
      is : calls_of 0 q.seen ≡ calls_of 0 p.seen ++ entry 0 call.Stage (reply.Stands stage) ∷ []
      is = subst (λ (n : ℕ). calls_of n q.seen ≡ calls_of n p.seen ++ entry n call.Stage (reply.Stands stage) ∷ []) first (Called-own p q call.Stage (reply.Stands stage) calls.called)

  module _ (all : List TableEntry) where
    abbrev carried : (a place : ℕ) → Carrying (IsApart a) (AppAt a place) all
    carried a place = carries a place (length (asks_under a lines)) (map number_of (issuers_of lines)) (asking_for (asks_under a lines)) (numbers_differ lines) all

    pub carries_past : Carrying NoRequest Past all
    carries_past = record {
      such = fronts_request;
      first = λ f p left issuers (x : Past f p left issuers). x.first;
      comes = λ f p l left old new has (x : Past f p (l ∷ left) old). record {
        first = x.first;
        own = x.own;
        nonzero = x.nonzero;
        others = x.others;
        bounded = queue_bounded l old new has x.bounded;
        apps = λ place i at. (carried i.number place).comes f p l left old new has (x.apps place i at);
      };
      runs = λ f p q left old new ran on prefix (x : Past f p left old). record {
        first = ran.first;
        own = subst (AreSuch NoRequest) (sym (zeros_stay p q x.first on)) x.own;
        nonzero = x.nonzero;
        others = ran_others f p q old new ran x.others;
        bounded = run_bounded p q old new ran x.bounded;
        apps = λ place i at. (carried i.number place).runs f p q left old new ran on prefix (x.apps place i at);
      };
      looks = λ turn stage f p q left issuers calls (x : Past f p left issuers). record {
        first = (calls.same).0 ∙ x.first;
        own = looked_own turn stage p q calls x.first x.own;
        nonzero = x.nonzero;
        others = looked_others turn stage f p q calls x.others;
        bounded = x.bounded;
        apps = λ place i at. (carried i.number place).looks turn stage f p q left issuers calls (x.apps place i at);
      };
      anew = λ left issuers p q f g one (x : Past f p left issuers). record {
        first = (one.stays).number;
        own = one.own x.own;
        nonzero = λ z. let next = one.next in absurd (omega arith);
        others = anew_others f g p q x.nonzero one x.others;
        bounded = x.bounded;
        apps = λ place i at. (carried i.number place).anew left issuers p q f g (anew_apart i.number f g p q x.own one) (x.apps place i at);
      };
    }

    -- ---- where they rest

    module _ (made : ℕ) (numbers : All (λ (e : TableEntry). e.by ≤ made) all) (final : List Issuer) (final_numbers : map number_of final ≡ map number_of (issuers_of lines))
        (pairs : AllPairs (λ x y. x.0 ≢ y.0) (handed_in all)) (known : AreSuch IsKnownLook all) where
      -- each call is by the application's passes, or it is none of its requests
      are_mine : (a place f : ℕ) (q : PassOfTable) (left : List NumberedLine) (issuers : List Issuer) → (x : AppAt a place f q left issuers) → Seen all made q → AreSuch IsIdle (calls_of f all) → AreMine x.mine a q.seen
      are_mine a place f q left issuers x s front = all_such Mine made q.seen [] q.seen refl few each
        where
          Mine : TableEntry → Type 0
          Mine = λ e. (x.mine e.by ≡ true) ⊎ IsApart a e

          few : All (λ (e : TableEntry). e.by ≤ made) q.seen
          few = All-prefix (λ (e : TableEntry). e.by ≤ made) q.seen (s.seen).0 (subst (All (λ (e : TableEntry). e.by ≤ made)) (sym (s.seen).1) numbers)

          apart : (xs : List TableEntry) → AreSuch (IsApart a) xs → AreSuch Mine xs
          apart xs are = all_as (IsApart a) Mine (λ e is. inr is) xs are

          of_front : AreSuch IsIdle (calls_of f q.seen)
          of_front = all_left IsIdle (calls_of f q.seen) (calls_of f (s.seen).0) (subst (AreSuch IsIdle) (calls_parted f q.seen (s.seen).0 all (s.seen).1) front)

          class : (k : ℕ) → k ≢ 0 → (k ≡ f) ⊎ ((n : ℕ) × Contains q.joined (k, n) × ((x.mine k ≡ true) ⊎ AreSuch (IsApart a) (calls_of k q.seen))) → AreSuch Mine (calls_of k q.seen)
          class k ne (inl is) = apart (calls_of k q.seen) (subst (λ (n : ℕ). AreSuch (IsApart a) (calls_of n q.seen)) (sym is) (all_as IsIdle (IsApart a) (λ e idle. idle_request e idle a) (calls_of f q.seen) of_front))
          class k ne (inr (n, has, inl mine)) = all_as (λ (e : TableEntry). x.mine e.by ≡ true) Mine (λ e is. inl is) (calls_of k q.seen) (mine_are x.mine k mine q.seen)
          class k ne (inr (n, has, inr are)) = apart (calls_of k q.seen) are

          each : (k : ℕ) → k ≤ made → AreSuch Mine (calls_of k q.seen)
          each zero le = apart (calls_of 0 q.seen) (x.ran).own
          each (suc k) le =
              let ne : suc k ≢ 0 = λ z. absurd (omega arith) in
              dite (dec_le (suc k) q.made) (λ less. class (suc k) ne ((x.ran).each (suc k) ne less)) (λ no. subst (AreSuch Mine) (sym (s.later (suc k) (omega arith) le)) tt)

      one_come : (a place f : ℕ) (p q : PassOfTable) (left before : List NumberedLine) (old new : List Issuer) → (ran : RanSideBySide p q old new) → GoesOn p q → (x : AppAt a place f p left old) → AreBounded new
          → Seen all made q → AreSuch IsIdle (calls_of f all) → AllComeOut all final q.seen new → lines ≡ before ++ left → (i : Issuer) → slice_get final place ≡ Some i
          → (os : List Outcome) × (later : List Outcome) × ((i.application).outcomes ≡ os ++ later) × LinesCameSoFar a new_application (asks_under a before) os q.seen
      one_come a place f p q left before old new ran on x bounded s front out parted i there = (
        came.0,
        c.later,
        ap (λ (j : Issuer). (j.application).outcomes) (sym last_is) ∙ (c.outcomes ∙ ap (λ (l : List Outcome). l ++ c.later) came.1),
        came.2,
      )
        where
          r : RunsOn a place (length (asks_under a lines)) (map number_of (issuers_of lines)) (asking_for (asks_under a lines)) (numbers_differ lines) f p q left new
          r = ran_on a place (length (asks_under a lines)) (map number_of (issuers_of lines)) (asking_for (asks_under a lines)) (numbers_differ lines) f p q left old new ran on x

          y : AppAt a place f q left new
          y = r.play

          now : ApplicationState
          now = y.now

          c : ComesOut all final q.seen place (issuer a now)
          c = out place (issuer a now) y.at

          last_is : c.last ≡ i
          last_is = cc (c.there, there)

          asks : List Asked
          asks = asks_under a before

          beyond : List Asked
          beyond = asks_under a left

          total_is : now.queued ≡ length asks
          total_is =
              let whole : length (asks_under a lines) ≡ length asks + length beyond = ap length (asks_parted a lines before left parted) ∙ length-append asks beyond in
              let left_is : now.queued + length beyond ≡ length (asks_under a lines) = y.left in
              omega arith

          bound : IsBounded now
          bound = bounded place (issuer a now) y.at

          less : place < length old
          less = (let count = ran.count in let w = slice_get_within new place (issuer a now) y.at in omega arith)

          k : ℕ
          k = suc (p.made + place)

          rests : Rests now (calls_of k q.seen)
          rests =
              let d = one_of old (omega (arith, less)) in
              subst (λ (j : Issuer). Rests j.application (calls_of k q.seen)) (indexed_got new place (issuer a now) d y.at) (ran.ran place d d less).rests

          at_rest : (now.awaits ≡ None) ⊎ WaitsAt now (calls_of k q.seen) → IsAtRest (bare now) (length asks)
          at_rest (inl free) = inl (free, (let most = bound.0 in let least = all_ended now now.queued (rests.0, free) refl in omega (arith, total_is, most, least)))
          at_rest (inr w) = inr (record {
            number = w.number;
            awaits = w.awaits;
            asked = w.asked;
            next = w.next;
            patient = w.patient;
            less = (let short = bound.1 w.number w.awaits in omega (arith, total_is, short));
          })

          looks : (now.awaits ≡ None) ⊎ WaitsAt now (calls_of k q.seen) → (n : ℕ) → now.awaits ≡ Some n → LooksLast n (calls_in y.issues)
          looks (inl free) n awaits = absurd (cc (free, awaits))
          looks (inr w) n awaits =
              let same : w.number ≡ n = cc (w.awaits, awaits) in
              let told = ap (map told_by) w.looked ∙ map-append told_by w.before (entry w.pass (call.Take w.number) (reply.Taken (Err take_no.NotYet)) ∷ []) in
              subst (λ (m : ℕ). LooksLast m (calls_in y.issues)) same
              (subst (LooksLast w.number) (sym (r.last ∙ (ap (λ (l : List (PendingCall × PendingReply)). r.before ++ l) told ∙ sym (append_assoc r.before (map told_by w.before) (looked_in_vain w.number ∷ [])))))
              (last_so w.number (r.before ++ map told_by w.before)))

          finds : (n : ℕ) → now.awaits ≡ Some n → AllByRecursion (λ (e : TableEntry). FindsNothing n e.call e.reply) q.seen
          finds n awaits =
              let (rest, taken, whole, has) = c.awaited n awaits in
              finds_nothing n taken [] q.seen rest (subst (λ (l : List TableEntry). AllPairs (λ x y. x.0 ≢ y.0) (handed_in l)) (sym whole) pairs) has
              (all_left IsKnownLook q.seen (s.seen).0 (subst (AreSuch IsKnownLook) (sym (s.seen).1) known))

          stands : StandsAt a (asking_for (asks_under a lines)) new_application [] (asks ++ beyond)
          stands = record { asks = asks_parted a lines before left parted; count = refl; handles = refl }

          came : (os : List Outcome) × (now.outcomes ≡ [] ++ os) × LinesCameSoFar a new_application asks os q.seen
          came = so_far a y.mine beyond (bare now) (length asks) (at_rest rests.1) y.issues (asking_for (asks_under a lines)) new_application [] asks q.seen y.did stands (omega arith)
              (are_mine a place f q left new y s front) y.calls (λ n awaits. (looks rests.1 n awaits, finds n awaits))

      pub have_come : (f : ℕ) (p q : PassOfTable) (left before : List NumberedLine) (old new : List Issuer) → RanSideBySide p q old new → GoesOn p q → Past f p left old → Seen all made q → AreSuch IsIdle (calls_of f all)
          → AllComeOut all final q.seen new → lines ≡ before ++ left → HaveCome final before q.seen
      have_come f p q left before old new ran on past s front out parted place i there =
          let (begun, first, number) = got_numbered (issuers_of lines) place i.number (ap (λ (l : List ℕ). slice_get l place) (sym final_numbers) ∙ number_at final place i there) in
          let o = one_come begun.number place f p q left before old new ran on (past.apps place begun first) (run_bounded p q old new ran past.bounded) s front out parted i there in
          (o.0, o.1, o.2, subst (λ (a : ℕ). LinesCameSoFar a new_application (asks_under a before) o.0 q.seen) number o.3)
