-- One application of a host's script while that is played: which passes of the table it ran with, and what it did by their calls.
use Rattle.std.proofs.Common.{◌≡◌, ◌≢◌, ◌∙◌, ◌⊎◌, inl, inr, refl, sym, ap, subst, ℕ, zero, suc, ◌+◌, ◌-◌, ◌<◌, ◌≤◌, ◌==◌, Bool, true, false, List, [], ◌∷◌, ◌++◌, length, map, Contains, arith, Some, None, Option, Result, Ok, Err, is_some, is_none, eq-eqb, eqb-true, ne_eqb}
use Rattle.std.specs.Prelude.{if◌then◌else◌, slice_get, slice_index_or, slice_set, ◌&&◌, nat_lt}
use Rattle.std.specs.List.{AllByRecursion, cons_option}
use Rattle.std.proofs.lemmas.List.Elements.{Contains-append_right}
use Rattle.std.proofs.lemmas.Bool.{cases_eq}
use Rattle.std.proofs.lemmas.Option.{slice_get_within}
use mathlib.Core.Logic.{dite}
use native.Mathlib.Decide.{dec_le}
use Rattle.rd_host_front.specs.State.{PassCalls, PassOfTable, TurnOfTable}
use Rattle.rd_host_player.specs.Play.{HasCome, QueuedAt, queued}
use Rattle.rd_issuer.specs.declared.issuer.Issuer.{Issuer}
use Rattle.rd_issuer.specs.Issues.{Does, DoesAll, Issue, Issues, after_submit, after_take, at_table, calls_of_issues, holds_nothing}
use Rattle.rd_issuer.specs.SideBySide.{RanSideBySide, RanWith}
use Rattle.rd_pending.specs.declared.calls.Handle.{Handle}
use Rattle.rd_pending.specs.declared.calls.Stage.{Stage}
use Rattle.rd_pending.specs.declared.calls.SubmitNo.{SubmitNo}
use Rattle.rd_pending.specs.declared.calls.TakeNo.{TakeNo}
use Rattle.rd_pending.specs.declared.calls.Taken.{Taken}
use Rattle.rd_script.specs.declared.line.NumberedLine.{NumberedLine}
use Rattle.rd_script.specs.declared.outcome.Outcome.{Outcome}
use Rattle.rd_script.specs.declared.outcome.Outcome.TheVariants as outcome
use Rattle.rd_script.specs.declared.outcome.Refusal.TheVariants as refusal
use Rattle.rd_table.specs.declared.calls.PendingCall.{PendingCall}
use Rattle.rd_table.specs.declared.calls.PendingCall.TheVariants as call
use Rattle.rd_table.specs.declared.calls.PendingReply.{PendingReply}
use Rattle.rd_table.specs.declared.calls.PendingReply.TheVariants as reply
use Rattle.rd_turn.specs.History.{calls_of, entry}
use Rattle.rd_turn.specs.Pass.{GoesOn, IsSamePass}
use Rattle.rd_turn.proofs.HistoryLemmas.{Called-joined, Called-own, Called-prefix, GoesOn-joined, GoesOn-prefix}
use Rattle.rd_world.specs.Events.{may_issue, refusal_of}
use Rattle.rd_world.specs.Hearing.{given_handle, holding_under, reported_outcome, with_outcome}
use Rattle.rd_world.specs.Run.{asked_by}
use Rattle.rd_world.specs.World.{ApplicationState, Asked}
use Rattle.rd_host_turns.specs.Turns.{TableEntry}
use Rattle.rd_host_turns.proofs.CountLemmas.{all_both}
use Rattle.rd_host_turns.proofs.MoveLemmas.{zeros_stay}
use Rattle.rd_host_lines.specs.Outcomes.{IsNoRequestOf, asks_under, line_under}
use Rattle.rd_host_lines.proofs.FrontLemmas.{IsFronts}
use Rattle.rd_host_lines.proofs.MineLemmas.{calls_more, calls_stay, none_added, with_pass}
use Rattle.rd_host_lines.proofs.OutcomeLemmas.{Did, DidAll, calls_by, calls_in, told_by}
use Rattle.rd_host_lines.proofs.PassLemmas.{Anew, AreSuch, Stays}
use Rattle.rd_host_lines.proofs.PlayLemmas.{Carrying}

-- ---- what it does, whenever the script comes to its lines

-- an application but for how many of its lines the script came to
abbrev pub bare : ApplicationState → ApplicationState
bare x = record x { queued = 0 }

bare_outcome : (x : ApplicationState) (o : Outcome) (given : Option Handle) (asked : Asked) → bare (with_outcome x o given asked) ≡ with_outcome (bare x) o given asked
bare_outcome x o given asked = by (is_some asked.device)
  where
    by : (b : Bool) → bare (record (if b then record x { handles = holding_under x.handles asked.handle given } else x) { awaits = None; outcomes = x.outcomes ++ o ∷ [] })
        ≡ record (if b then record (bare x) { handles = holding_under x.handles asked.handle given } else bare x) { awaits = None; outcomes = x.outcomes ++ o ∷ [] }
    by true = refl
    by false = refl

submit_bare : (x : ApplicationState) (asked : Asked) (answer : Result ℕ SubmitNo) → bare (after_submit x asked answer) ≡ after_submit (bare x) asked answer
submit_bare x asked (Ok number) = refl
submit_bare x asked (Err cause) = bare_outcome x (outcome.Refused (refusal_of cause)) None asked

take_bare : (x : ApplicationState) (asked : Asked) (answer : Result Taken TakeNo) → bare (after_take x asked answer) ≡ after_take (bare x) asked answer
take_bare x asked (Ok taken) = bare_outcome x (reported_outcome taken.outcome) (given_handle taken) asked
take_bare x asked (Err cause) = refl

-- who may issue a line awaits nothing
pub awaits_none : (x : ApplicationState) → may_issue x ≡ true → x.awaits ≡ None
awaits_none x may = by (nat_lt (length x.outcomes) x.queued) x.awaits may
  where
    by : (b : Bool) (o : Option ℕ) → (b && is_none o) ≡ true → o ≡ None
    by true None may = refl
    by true (Some n) may = absurd (cc may)
    by false o may = absurd (cc may)

does_did : (a : ℕ) (x : ApplicationState) (i : Issue) (y : ApplicationState) → Does a x i y → Did a (bare x) i (bare y)
does_did a x holds_nothing y (asked, comes, none, is) = (asked, comes.1, awaits_none x comes.0, none, ap bare is ∙ bare_outcome x (outcome.Refused refusal.NoHandle) None asked)
does_did a x (at_table (call.Submit application named op) (reply.Submitted answer)) y (asked, comes, mine, names, op_is, known, is) =
    (asked, comes.1, awaits_none x comes.0, mine, names, op_is, known, ap bare is ∙ submit_bare x asked answer)
does_did a x (at_table (call.Take number) (reply.Taken answer)) y (asked, next, awaits, known, is) = (asked, next, awaits, ap bare is ∙ take_bare x asked answer)
does_did a x (at_table does back) y did = absurd did

all_did : (a : ℕ) (issues : List Issue) (x y : ApplicationState) → DoesAll a x issues y → DidAll a (bare x) issues (bare y)
all_did a [] x y is = ap bare is
all_did a (i ∷ issues) x y (next, does, more) = (bare next, does_did a x i next does, all_did a issues next y more)

-- none of it changes to how many of its lines the script came
pub outcome_queued : (x : ApplicationState) (o : Outcome) (given : Option Handle) (asked : Asked) → (with_outcome x o given asked).queued ≡ x.queued
outcome_queued x o given asked = by (is_some asked.device)
  where
    by : (b : Bool) → (if b then record x { handles = holding_under x.handles asked.handle given } else x).queued ≡ x.queued
    by true = refl
    by false = refl

does_queued : (a : ℕ) (x : ApplicationState) (i : Issue) (y : ApplicationState) → Does a x i y → y.queued ≡ x.queued
does_queued a x holds_nothing y (asked, comes, none, is) = ap (λ (z : ApplicationState). z.queued) is ∙ outcome_queued x (outcome.Refused refusal.NoHandle) None asked
does_queued a x (at_table (call.Submit application named op) (reply.Submitted (Ok number))) y (asked, comes, mine, names, op_is, known, is) = ap (λ (z : ApplicationState). z.queued) is
does_queued a x (at_table (call.Submit application named op) (reply.Submitted (Err cause))) y (asked, comes, mine, names, op_is, known, is) =
    ap (λ (z : ApplicationState). z.queued) is ∙ outcome_queued x (outcome.Refused (refusal_of cause)) None asked
does_queued a x (at_table (call.Take number) (reply.Taken (Ok taken))) y (asked, next, awaits, known, is) =
    ap (λ (z : ApplicationState). z.queued) is ∙ outcome_queued x (reported_outcome taken.outcome) (given_handle taken) asked
does_queued a x (at_table (call.Take number) (reply.Taken (Err cause))) y (asked, next, awaits, known, is) = ap (λ (z : ApplicationState). z.queued) is
does_queued a x (at_table does back) y did = absurd did

all_queued : (a : ℕ) (issues : List Issue) (x y : ApplicationState) → DoesAll a x issues y → y.queued ≡ x.queued
all_queued a [] x y is = ap (λ (z : ApplicationState). z.queued) is
all_queued a (i ∷ issues) x y (next, does, more) = all_queued a issues next y more ∙ does_queued a x i next does

did_then : (a : ℕ) (issues more : List Issue) (x y z : ApplicationState) → DidAll a x issues y → DidAll a y more z → DidAll a x (issues ++ more) z
did_then a [] more x y z is rest = subst (λ (w : ApplicationState). DidAll a w more z) is rest
did_then a (i ∷ issues) more x y z (next, did, others) rest = (next, did, did_then a issues more next y z others rest)

calls_then : (issues more : List Issue) → calls_in (issues ++ more) ≡ calls_in issues ++ calls_in more
calls_then [] more = refl
calls_then (holds_nothing ∷ issues) more = calls_then issues more
calls_then (at_table does back ∷ issues) more = ap (λ (l : List (PendingCall × PendingReply)). (does, back) ∷ l) (calls_then issues more)

calls_told : (pass : ℕ) (issues : List Issue) → map told_by (calls_of_issues pass issues) ≡ calls_in issues
calls_told pass [] = refl
calls_told pass (holds_nothing ∷ issues) = calls_told pass issues
calls_told pass (at_table does back ∷ issues) = ap (λ (l : List (PendingCall × PendingReply)). (does, back) ∷ l) (calls_told pass issues)

-- another application makes no request of this one
pub others_ask : (a b pass : ℕ) → b ≢ a → (issues : List Issue) (x y : ApplicationState) → DoesAll b x issues y → AllByRecursion (λ (e : TableEntry). IsNoRequestOf a e.call) (calls_of_issues pass issues)
others_ask a b pass other [] x y is = tt
others_ask a b pass other (holds_nothing ∷ issues) x y (next, does, more) = others_ask a b pass other issues next y more
others_ask a b pass other (at_table does back ∷ issues) x y (next, did, more) = (one does back did, others_ask a b pass other issues next y more)
  where
    one : (does : PendingCall) (back : PendingReply) → Does b x (at_table does back) next → IsNoRequestOf a does
    one (call.Submit application named op) (reply.Submitted answer) did = λ same. other (sym did.2 ∙ same)
    one (call.Take number) (reply.Taken answer) did = tt
    one _ _ did = absurd did

-- ---- lists

abbrev pub number_of : Issuer → ℕ
number_of i = i.number

abbrev pub issuer : ℕ → ApplicationState → Issuer
issuer a x = record { number = a; application = x }

module _ {A : Type 0} where
  pub got_same : (xs : List A) (place : ℕ) (x y : A) → slice_get xs place ≡ Some x → slice_get (slice_set xs place y) place ≡ Some y
  got_same [] place x y is = absurd (cc is)
  got_same (z ∷ xs) zero x y is = refl
  got_same (z ∷ xs) (suc place) x y is = got_same xs place x y is

  pub got_other : (xs : List A) (place other : ℕ) (y : A) → place ≢ other → slice_get (slice_set xs other y) place ≡ slice_get xs place
  got_other [] place other y ne = refl
  got_other (z ∷ xs) zero zero y ne = absurd (ne refl)
  got_other (z ∷ xs) (suc place) zero y ne = refl
  got_other (z ∷ xs) zero (suc other) y ne = refl
  got_other (z ∷ xs) (suc place) (suc other) y ne = got_other xs place other y (λ same. ne (ap suc same))

  pub got_indexed : (xs : List A) (place : ℕ) (d : A) → place < length xs → slice_get xs place ≡ Some (slice_index_or xs place d)
  got_indexed [] place d less = absurd (omega arith)
  got_indexed (x ∷ xs) zero d less = refl
  got_indexed (x ∷ xs) (suc place) d less = got_indexed xs place d (omega arith)

  pub indexed_got : (xs : List A) (place : ℕ) (x d : A) → slice_get xs place ≡ Some x → slice_index_or xs place d ≡ x
  indexed_got [] place x d is = absurd (cc is)
  indexed_got (y ∷ xs) zero x d is = cc is
  indexed_got (y ∷ xs) (suc place) x d is = indexed_got xs place x d is

pub numbers_set : (xs : List Issuer) (place : ℕ) (i j : Issuer) → slice_get xs place ≡ Some i → j.number ≡ i.number → map number_of (slice_set xs place j) ≡ map number_of xs
numbers_set [] place i j is same = refl
numbers_set (x ∷ xs) zero i j is same = let own : x ≡ i = cc is in ap (λ (n : ℕ). n ∷ map number_of xs) (same ∙ ap number_of (sym own))
numbers_set (x ∷ xs) (suc place) i j is same = ap (λ (l : List ℕ). x.number ∷ l) (numbers_set xs place i j is same)

pub number_at : (xs : List Issuer) (place : ℕ) (i : Issuer) → slice_get xs place ≡ Some i → slice_get (map number_of xs) place ≡ Some i.number
number_at [] place i is = absurd (cc is)
number_at (x ∷ xs) zero i is = let own : x ≡ i = cc is in ap (λ (y : Issuer). Some y.number) own
number_at (x ∷ xs) (suc place) i is = number_at xs place i is

pub numbers_same : (old new : List Issuer) → length new ≡ length old → ((place : ℕ) (d e : Issuer) → place < length old → (slice_index_or new place e).number ≡ (slice_index_or old place d).number)
    → map number_of new ≡ map number_of old
numbers_same [] [] count each = refl
numbers_same [] (y ∷ new) count each = absurd (omega arith)
numbers_same (x ∷ old) [] count each = absurd (omega arith)
numbers_same (x ∷ old) (y ∷ new) count each =
    let first : y.number ≡ x.number = each 0 x x (omega arith) in
    let rest : map number_of new ≡ map number_of old = numbers_same old new (omega arith) (λ place d e less. each (suc place) d e (omega arith)) in
    λ i. first i ∷ rest i

-- no two of these numbers are the same
abbrev pub Differ : List ℕ → Type 0
Differ numbers = (i j n : ℕ) → slice_get numbers i ≡ Some n → slice_get numbers j ≡ Some n → i ≡ j

-- ---- passes

with_old : (mine : ℕ → Bool) (new k : ℕ) → mine k ≡ true → with_pass mine new k ≡ true
with_old mine new k own = by (k == new)
  where
    by : (b : Bool) → (if b then true else mine k) ≡ true
    by true = refl
    by false = own

with_new : (mine : ℕ → Bool) (new k : ℕ) → k ≡ new → with_pass mine new k ≡ true
with_new mine new k is = ap (λ (b : Bool). if b then true else mine k) (eq-eqb k new is)

with_parted : (mine : ℕ → Bool) (new k : ℕ) → with_pass mine new k ≡ true → (k ≡ new) ⊎ (mine k ≡ true)
with_parted mine new k own = by (k == new) refl own
  where
    by : (b : Bool) → (k == new) ≡ b → (if b then true else mine k) ≡ true → (k ≡ new) ⊎ (mine k ≡ true)
    by true is own = inl (eqb-true k new is)
    by false is own = inr own

module _ (a : ℕ) where
  -- this call is no request of the application
  abbrev pub IsApart : TableEntry → Type 0
  IsApart e = IsNoRequestOf a e.call

  pub fronts_apart : (by : ℕ) (does : PendingCall) (back : PendingReply) → IsFronts does → IsApart (entry by does back)
  fronts_apart by (call.Begin channel) back is = tt
  fronts_apart by (call.Live device) back is = tt
  fronts_apart by (call.Submit application named op) back is = absurd is
  fronts_apart by call.Outbox back is = tt
  fronts_apart by (call.Complete head body) back is = tt
  fronts_apart by (call.Remove device) back is = tt
  fronts_apart by call.DropChannel back is = tt
  fronts_apart by call.DropSent back is = tt
  fronts_apart by (call.Take number) back is = tt
  fronts_apart by call.Stage back is = tt

  -- The application ran with these passes: each of them was joined to pass 0, and each other one, but the front's of this number, made no request of the application.
  pub record RanWithThese (mine : ℕ → Bool) (f : ℕ) (p : PassOfTable) : Type 0 where
    pub first : p.number ≡ 0
    pub own : AreSuch IsApart (calls_of 0 p.seen)
    pub joined : (k : ℕ) → mine k ≡ true → (k ≢ 0) × (k ≤ p.made) × (n : ℕ) × Contains p.joined (k, n)
    pub each : (k : ℕ) → k ≢ 0 → k ≤ p.made → (k ≡ f) ⊎ ((n : ℕ) × Contains p.joined (k, n) × ((mine k ≡ true) ⊎ AreSuch IsApart (calls_of k p.seen)))

  module _ (mine : ℕ → Bool) where
    pub mine_stay : (f : ℕ) (p q : PassOfTable) → RanWithThese mine f p → Stays p q → (k : ℕ) → mine k ≡ true → calls_of k q.seen ≡ calls_of k p.seen
    mine_stay f p q r s k own = let j = r.joined k own in (s.kept k j.2 j.0 j.3).1

    joined_on : (f : ℕ) (p q : PassOfTable) → RanWithThese mine f p → Stays p q → (k : ℕ) → mine k ≡ true → (k ≢ 0) × (k ≤ q.made) × (n : ℕ) × Contains q.joined (k, n)
    joined_on f p q r s k own =
        let j = r.joined k own in
        let least = s.least in
        (j.0, omega (arith, j.1), j.2, (s.kept k j.2 j.0 j.3).0)

    class_on : (p q : PassOfTable) → Stays p q → (k : ℕ) → k ≢ 0 → (n : ℕ) × Contains p.joined (k, n) × ((mine k ≡ true) ⊎ AreSuch IsApart (calls_of k p.seen))
        → (n : ℕ) × Contains q.joined (k, n) × ((mine k ≡ true) ⊎ AreSuch IsApart (calls_of k q.seen))
    class_on p q s k ne (n, has, inl own) = (n, (s.kept k n ne has).0, inl own)
    class_on p q s k ne (n, has, inr apart) = (n, (s.kept k n ne has).0, inr (subst (AreSuch IsApart) (sym (s.kept k n ne has).1) apart))

    same_on : (f : ℕ) (p q : PassOfTable) → RanWithThese mine f p → Stays p q → q.made ≡ p.made → (AreSuch IsApart (calls_of 0 p.seen) → AreSuch IsApart (calls_of 0 q.seen)) → RanWithThese mine f q
    same_on f p q r s made own = record {
      first = s.number;
      own = own r.own;
      joined = joined_on f p q r s;
      each = λ k ne le. by k ne (r.each k ne (omega (arith, made, le)));
    }
      where
        by : (k : ℕ) → k ≢ 0 → (k ≡ f) ⊎ ((n : ℕ) × Contains p.joined (k, n) × ((mine k ≡ true) ⊎ AreSuch IsApart (calls_of k p.seen)))
            → (k ≡ f) ⊎ ((n : ℕ) × Contains q.joined (k, n) × ((mine k ≡ true) ⊎ AreSuch IsApart (calls_of k q.seen)))
        by k ne (inl is) = inl is
        by k ne (inr class) = inr (class_on p q s k ne class)

    anew_on : (f g : ℕ) (p q : PassOfTable) → RanWithThese mine f p → Anew IsApart p f q g → RanWithThese mine g q
    anew_on f g p q r one = record {
      first = (one.stays).number;
      own = one.own r.own;
      joined = joined_on f p q r one.stays;
      each = λ k ne le. dite (dec_le k p.made) (λ few. by k ne (r.each k ne few)) (λ more. inl (let made = one.made in let next = one.next in omega arith));
    }
      where
        by : (k : ℕ) → k ≢ 0 → (k ≡ f) ⊎ ((n : ℕ) × Contains p.joined (k, n) × ((mine k ≡ true) ⊎ AreSuch IsApart (calls_of k p.seen)))
            → (k ≡ g) ⊎ ((n : ℕ) × Contains q.joined (k, n) × ((mine k ≡ true) ⊎ AreSuch IsApart (calls_of k q.seen)))
        by k ne (inl is) =
            let j = one.front (λ z. ne (is ∙ z)) in
            inr (subst (λ (k : ℕ). (n : ℕ) × Contains q.joined (k, n) × ((mine k ≡ true) ⊎ AreSuch IsApart (calls_of k q.seen))) (sym is) (j.0, j.1, inr j.2))
        by k ne (inr class) = inr (class_on p q one.stays k ne class)

    -- what the application called so far stays
    pub calls_on : (f : ℕ) (p q : PassOfTable) → RanWithThese mine f p → Stays p q → calls_by mine q.seen ≡ calls_by mine p.seen
    calls_on f p q r s = calls_stay mine p.seen (s.seen).0 q.seen (s.seen).1 (none_added mine p.seen (s.seen).0 q.seen (s.seen).1 (mine_stay f p q r s))

  -- ---- what else happens

  pub ran_stays : (p q : PassOfTable) (old new : List Issuer) → RanSideBySide p q old new → GoesOn p q → p.number ≡ 0 → Stays p q
  ran_stays p q old new ran on first = record {
    number = ran.first;
    least = (let made = ran.made in omega arith);
    seen = GoesOn-prefix p q on;
    kept = λ k n ne has.
        (subst (λ (l : List (ℕ × ℕ)). Contains l (k, n)) (sym (ran.kept).1) (Contains-append_right (ran.kept).0 p.joined (k, n) has), GoesOn-joined p q k n first has on);
  }

  pub looked_stays : (turn : TurnOfTable) (stage : Stage) (p q : PassOfTable) → PassCalls turn p call.Stage (reply.Stands stage) q → p.number ≡ 0 → Stays p q
  looked_stays turn stage p q calls first =
      let same : IsSamePass p q = calls.same in
      record {
        number = same.0 ∙ first;
        least = (let made = same.1 in omega arith);
        seen = Called-prefix p q call.Stage (reply.Stands stage) calls.called;
        kept = λ k n ne has.
            (subst (λ (l : List (ℕ × ℕ)). Contains l (k, n)) (sym same.3) has, Called-joined p q call.Stage (reply.Stands stage) k n first ne has calls.called);
      }

  pub looked_own : (turn : TurnOfTable) (stage : Stage) (p q : PassOfTable) → PassCalls turn p call.Stage (reply.Stands stage) q → p.number ≡ 0
      → AreSuch IsApart (calls_of 0 p.seen) → AreSuch IsApart (calls_of 0 q.seen)
  looked_own turn stage p q calls first own = subst (AreSuch IsApart) (sym is) (all_both IsApart (calls_of 0 p.seen) (entry 0 call.Stage (reply.Stands stage) ∷ []) own (tt, tt))
    where
      is : calls_of 0 q.seen ≡ calls_of 0 p.seen ++ entry 0 call.Stage (reply.Stands stage) ∷ []
      is = subst (λ (n : ℕ). calls_of n q.seen ≡ calls_of n p.seen ++ entry n call.Stage (reply.Stands stage) ∷ []) first (Called-own p q call.Stage (reply.Stands stage) calls.called)

-- ---- the application

module _ (a place total : ℕ) (numbers : List ℕ) (start : ApplicationState) (differ : Differ numbers) where
  -- Where it stands: what it did from its start on by the calls of its passes, and how many of its lines the script has still to come to.
  pub record InPlay (f : ℕ) (p : PassOfTable) (lines : List NumberedLine) (issuers : List Issuer) : Type 0 where
    pub mine : ℕ → Bool
    pub ran : RanWithThese a mine f p
    pub numbers_are : map number_of issuers ≡ numbers
    pub now : ApplicationState
    pub at : slice_get issuers place ≡ Some (issuer a now)
    pub left : now.queued + length (asks_under a lines) ≡ total
    pub issues : List Issue
    pub did : DidAll a start issues (bare now)
    pub calls : calls_by mine p.seen ≡ calls_in issues

  play_on : (f g : ℕ) (p q : PassOfTable) (lines : List NumberedLine) (issuers : List Issuer) → (x : InPlay f p lines issuers) → RanWithThese a x.mine g q → Stays p q → InPlay g q lines issuers
  play_on f g p q lines issuers x ran stays = record {
    mine = x.mine;
    ran = ran;
    numbers_are = x.numbers_are;
    now = x.now;
    at = x.at;
    left = x.left;
    issues = x.issues;
    did = x.did;
    calls = calls_on a x.mine f p q x.ran stays ∙ x.calls;
  }

  looks_on : (turn : TurnOfTable) (stage : Stage) (f : ℕ) (p q : PassOfTable) (lines : List NumberedLine) (issuers : List Issuer) → PassCalls turn p call.Stage (reply.Stands stage) q
      → InPlay f p lines issuers → InPlay f q lines issuers
  looks_on turn stage f p q lines issuers calls x =
      let first = (x.ran).first in
      let stays = looked_stays a turn stage p q calls first in
      play_on f f p q lines issuers x (same_on a x.mine f p q x.ran stays (calls.same).1 (looked_own a turn stage p q calls first)) stays

  renews_on : (lines : List NumberedLine) (issuers : List Issuer) (p q : PassOfTable) (f g : ℕ) → Anew (IsApart a) p f q g → InPlay f p lines issuers → InPlay g q lines issuers
  renews_on lines issuers p q f g one x = play_on f g p q lines issuers x (anew_on a x.mine f g p q x.ran one) one.stays

  -- ---- a line that the script comes to

  -- so many lines are left, where this one is another's, or its own
  left_other : (b : ℕ) (asked : Asked) (later : List Asked) (n : ℕ) → b ≢ a → n + length (cons_option (line_under a (b, asked)) later) ≡ total → n + length later ≡ total
  left_other b asked later n other is =
      subst (λ (t : Bool). n + length (cons_option (if t then Some asked else None) later) ≡ total) (ne_eqb b a other) is

  left_own : (b : ℕ) (asked : Asked) (later : List Asked) (n : ℕ) → b ≡ a → n + length (cons_option (line_under a (b, asked)) later) ≡ total → (n + 1) + length later ≡ total
  left_own b asked later n same is =
      let h : n + length (asked ∷ later) ≡ total = subst (λ (t : Bool). n + length (cons_option (if t then Some asked else None) later) ≡ total) (eq-eqb b a same) is in
      omega (arith, h)

  comes_on : (f : ℕ) (p : PassOfTable) (l : NumberedLine) (lines : List NumberedLine) (old new : List Issuer) → HasCome l.line old new → InPlay f p (l ∷ lines) old → InPlay f p lines new
  comes_on f p l lines old new has x = by (asked_by l.line) refl
    where
      later : List Asked
      later = asks_under a lines

      unchanged : (at : slice_get new place ≡ Some (issuer a (x.now))) → map number_of new ≡ numbers → (x.now).queued + length later ≡ total → InPlay f p lines new
      unchanged at numbers_are left = record { mine = x.mine; ran = x.ran; numbers_are = numbers_are; now = x.now; at = at; left = left; issues = x.issues; did = x.did; calls = x.calls }

      queued_at : (b : ℕ) (asked : Asked) → (x.now).queued + length (cons_option (line_under a (b, asked)) later) ≡ total → QueuedAt b old new → InPlay f p lines new
      queued_at b asked left (other, i, got, number, is) =
          let numbers_new : map number_of new ≡ numbers = ap (map number_of) is ∙ (numbers_set old other i (queued i) got refl ∙ x.numbers_are) in
          elim (cases_eq place other) [
            | inl same ↦
                let own : slice_get old place ≡ Some i = ap (slice_get old) same ∙ got in
                let me : i ≡ issuer a x.now = cc (own, x.at) in
                let mine_is : b ≡ a = sym number ∙ ap number_of me in
                record {
                  mine = x.mine;
                  ran = x.ran;
                  numbers_are = numbers_new;
                  now = record x.now { queued = (x.now).queued + 1 };
                  at = ap (λ (l : List Issuer). slice_get l place) is ∙ (ap (λ (n : ℕ). slice_get (slice_set old n (queued i)) place) (sym same) ∙ (got_same old place i (queued i) own ∙ ap (λ (j : Issuer). Some (queued j)) me));
                  left = left_own b asked later (x.now).queued mine_is left;
                  issues = x.issues;
                  did = x.did;
                  calls = x.calls;
                }
            | inr ne ↦
                let other_is : b ≢ a = λ same. ne (differ place other a (sym (sym (number_at old place (issuer a x.now) x.at) ∙ ap (λ (l : List ℕ). slice_get l place) x.numbers_are))
                (sym (ap (λ (l : List ℕ). slice_get l other) x.numbers_are) ∙ (number_at old other i got ∙ ap (λ (n : ℕ). Some n) (number ∙ same)))) in
                unchanged (ap (λ (l : List Issuer). slice_get l place) is ∙ (got_other old place other (queued i) ne ∙ x.at)) numbers_new (left_other b asked later (x.now).queued other_is left)
          ]

      by : (o : Option (ℕ × Asked)) → asked_by l.line ≡ o → InPlay f p lines new
      by None e =
          let h : new ≡ old = rw e at has in
          let left : (x.now).queued + length later ≡ total = rw e at x.left in
          unchanged (ap (λ (l : List Issuer). slice_get l place) h ∙ x.at) (ap (map number_of) h ∙ x.numbers_are) left
      by (Some (b, asked)) e =
          let h : QueuedAt b old new = rw e at has in
          let left : (x.now).queued + length (cons_option (line_under a (b, asked)) later) ≡ total = rw e at x.left in
          queued_at b asked left h

  -- ---- applications run

  -- Applications ran, and it stands so then. The last of its calls are those of the pass that it ran with.
  pub record RunsOn (f : ℕ) (p q : PassOfTable) (lines : List NumberedLine) (new : List Issuer) : Type 0 where
    pub play : InPlay f q lines new
    pub before : List (PendingCall × PendingReply)
    pub last : calls_in play.issues ≡ before ++ map told_by (calls_of (suc (p.made + place)) q.seen)

  pub ran_on : (f : ℕ) (p q : PassOfTable) (lines : List NumberedLine) (old new : List Issuer) → RanSideBySide p q old new → GoesOn p q → InPlay f p lines old → RunsOn f p q lines new
  ran_on f p q lines old new ran on x = record {
    play = record {
      mine = mine;
      ran = record { first = ran.first; own = subst (AreSuch (IsApart a)) (sym (zeros_stay p q (x.ran).first on)) (x.ran).own; joined = joined; each = each };
      numbers_are = numbers_same old new ran.count (λ n d e less. (ran.ran n d e less).number) ∙ x.numbers_are;
      now = after.application;
      at = got_indexed new place me (let count = ran.count in omega (arith, within, count)) ∙ ap (λ (n : ℕ). Some (issuer n after.application)) number;
      left = ap (λ (n : ℕ). n + length (asks_under a lines)) (all_queued a issued.issues x.now after.application issued.does) ∙ x.left;
      issues = x.issues ++ issued.issues;
      did = did_then a x.issues issued.issues start (bare x.now) (bare after.application) x.did here;
      calls = calls_more x.mine k p.seen (stays.seen).0 q.seen (stays.seen).1 (none_added x.mine p.seen (stays.seen).0 q.seen (stays.seen).1 (mine_stay a x.mine f p q x.ran stays)) fresh
          ∙ ((λ i. x.calls i ++ calls_made i) ∙ sym (calls_then x.issues issued.issues));
    };
    before = calls_in x.issues;
    last = calls_then x.issues issued.issues ∙ ap (λ (l : List (PendingCall × PendingReply)). calls_in x.issues ++ l) (sym calls_made);
  }
    where
      me : Issuer
      me = issuer a x.now

      within : place < length old
      within = slice_get_within old place me x.at

      k : ℕ
      k = suc (p.made + place)

      stays : Stays p q
      stays = ran_stays a p q old new ran on (x.ran).first

      after : Issuer
      after = slice_index_or new place me

      before_is : slice_index_or old place me ≡ me
      before_is = indexed_got old place me me x.at

      one : RanWith p q k (slice_index_or old place me) after
      one = ran.ran place me me within

      number : after.number ≡ a
      number = one.number ∙ ap number_of before_is

      fresh : calls_of k p.seen ≡ []
      fresh = one.fresh

      issued : Issues a k x.now after.application [] (calls_of k q.seen)
      issued = subst (λ (i : Issuer). Issues i.number k i.application after.application [] (calls_of k q.seen)) before_is one.issued

      here : DidAll a (bare x.now) issued.issues (bare after.application)
      here = all_did a issued.issues x.now after.application issued.does

      calls_made : map told_by (calls_of k q.seen) ≡ calls_in issued.issues
      calls_made = ap (map told_by) issued.calls ∙ calls_told k issued.issues

      mine : ℕ → Bool
      mine = with_pass x.mine k

      joined : (j : ℕ) → mine j ≡ true → (j ≢ 0) × (j ≤ q.made) × (n : ℕ) × Contains q.joined (j, n)
      joined j own = elim (with_parted x.mine k j own) [
        | inl is ↦
            let made = ran.made in
            let less = within in
            let zero_no : j ≢ 0 = λ z. absurd (omega arith) in
            let le : j ≤ q.made = omega (arith, within, is, made) in
            (zero_no, le, length (calls_of k q.seen), subst (λ (m : ℕ). Contains q.joined (m, length (calls_of k q.seen))) (sym is) one.joined)
        | inr own ↦ joined_on a x.mine f p q x.ran stays j own
      ]

      class_with : (j : ℕ) → (n : ℕ) × Contains q.joined (j, n) × ((x.mine j ≡ true) ⊎ AreSuch (IsApart a) (calls_of j q.seen))
          → (n : ℕ) × Contains q.joined (j, n) × ((mine j ≡ true) ⊎ AreSuch (IsApart a) (calls_of j q.seen))
      class_with j (n, has, inl own) = (n, has, inl (with_old x.mine k j own))
      class_with j (n, has, inr apart) = (n, has, inr apart)

      few_made : (j : ℕ) → j ≢ 0 → (j ≡ f) ⊎ ((n : ℕ) × Contains p.joined (j, n) × ((x.mine j ≡ true) ⊎ AreSuch (IsApart a) (calls_of j p.seen)))
          → (j ≡ f) ⊎ ((n : ℕ) × Contains q.joined (j, n) × ((mine j ≡ true) ⊎ AreSuch (IsApart a) (calls_of j q.seen)))
      few_made j ne (inl is) = inl is
      few_made j ne (inr class) = inr (class_with j (class_on a x.mine p q stays j ne class))

      -- the pass of the application at another place
      beside : (other : ℕ) → other < length old → (n : ℕ) × Contains q.joined (suc (p.made + other), n) × ((mine (suc (p.made + other)) ≡ true) ⊎ AreSuch (IsApart a) (calls_of (suc (p.made + other)) q.seen))
      beside other less =
          let j = suc (p.made + other) in
          let w = ran.ran other me me less in
          let i = slice_index_or old other me in (
            length (calls_of j q.seen),
            w.joined,
            elim (cases_eq other place) [
              | inl same ↦ inl (with_new x.mine k j (ap (λ (n : ℕ). suc (p.made + n)) same))
              | inr ne ↦
                  let got : slice_get old other ≡ Some i = got_indexed old other me less in
                  let own_number : slice_get numbers place ≡ Some a = sym (ap (λ (l : List ℕ). slice_get l place) x.numbers_are) ∙ number_at old place me x.at in
                  let other_number : slice_get numbers other ≡ Some i.number = sym (ap (λ (l : List ℕ). slice_get l other) x.numbers_are) ∙ number_at old other i got in
                  let other_is : i.number ≢ a = λ same. ne (differ other place a (other_number ∙ ap (λ (n : ℕ). Some n) same) own_number) in
                  inr (subst (AreSuch (IsApart a)) (sym (w.issued).calls) (others_ask a i.number j other_is (w.issued).issues i.application (slice_index_or new other me).application (w.issued).does))
            ],
          )

      each : (j : ℕ) → j ≢ 0 → j ≤ q.made → (j ≡ f) ⊎ ((n : ℕ) × Contains q.joined (j, n) × ((mine j ≡ true) ⊎ AreSuch (IsApart a) (calls_of j q.seen)))
      each j ne le = dite (dec_le j p.made) (λ few. few_made j ne ((x.ran).each j ne few)) (λ more.
          let made = ran.made in
          let other = j - suc p.made in
          let is : suc (p.made + other) ≡ j = omega arith in
          let less : other < length old = omega arith in
          inr (subst (λ (m : ℕ). (n : ℕ) × Contains q.joined (m, n) × ((mine m ≡ true) ⊎ AreSuch (IsApart a) (calls_of m q.seen))) is (beside other less)))

  runs_on : (f : ℕ) (p q : PassOfTable) (lines : List NumberedLine) (old new : List Issuer) → RanSideBySide p q old new → GoesOn p q → InPlay f p lines old → InPlay f q lines new
  runs_on f p q lines old new ran on x = (ran_on f p q lines old new ran on x).play

  -- all this carries it through the play
  pub carries : (all : List TableEntry) → Carrying (IsApart a) InPlay all
  carries all = record {
    such = fronts_apart a;
    first = λ f p lines issuers (x : InPlay f p lines issuers). (x.ran).first;
    comes = comes_on;
    runs = λ f p q lines old new ran on prefix x. runs_on f p q lines old new ran on x;
    looks = looks_on;
    anew = renews_on;
  }
