-- What an application did, line after line, with the calls that it made by that in a history: what came of each of its lines.
use Rattle.std.proofs.Common.{◌≡◌, ◌≢◌, ◌∙◌, ◌⊎◌, inl, inr, refl, sym, ap, subst, ℕ, zero, suc, ◌+◌, ◌≤◌, Bool, true, false, cond, List, [], ◌∷◌, ◌++◌, length, length-append, append_assoc, append-nil, map, filter, arith, Some, None, Option, Result, Ok, Err, is_some}
use Rattle.std.specs.Prelude.{if◌then◌else◌, slice_get}
use Rattle.std.specs.List.{AllByRecursion}
use Rattle.rd_irp.specs.declared.op.Op.{Op}
use Rattle.rd_pending.specs.declared.calls.Handle.{Handle}
use Rattle.rd_pending.specs.declared.calls.SubmitNo.{SubmitNo}
use Rattle.rd_pending.specs.declared.calls.SubmitNo.TheVariants as submit_no
use Rattle.rd_pending.specs.declared.calls.TakeNo.{TakeNo}
use Rattle.rd_pending.specs.declared.calls.Taken.{Taken}
use Rattle.rd_pending.specs.declared.calls.Target.{Target}
use Rattle.rd_script.specs.declared.outcome.Outcome.{Outcome}
use Rattle.rd_script.specs.declared.outcome.Outcome.TheVariants as outcome
use Rattle.rd_script.specs.declared.outcome.Refusal.TheVariants as refusal
use Rattle.rd_table.specs.declared.calls.PendingCall.{PendingCall}
use Rattle.rd_table.specs.declared.calls.PendingCall.TheVariants as call
use Rattle.rd_table.specs.declared.calls.PendingReply.{PendingReply}
use Rattle.rd_table.specs.declared.calls.PendingReply.TheVariants as reply
use Rattle.rd_turn.specs.History.{entry}
use Rattle.rd_world.specs.Events.{refusal_of, target_of}
use Rattle.rd_world.specs.Hearing.{given_handle, holding_after, holding_under, next_asked, reported_outcome, with_outcome}
use Rattle.rd_world.specs.World.{ApplicationState, Asked}
use Rattle.rd_issuer.specs.Issues.{Issue, after_submit, after_take, at_table, holds_nothing}
use Rattle.rd_host_turns.specs.Turns.{TableEntry}
use Rattle.rd_host_turns.proofs.CountLemmas.{all_both}
use Rattle.rd_host_lines.specs.Outcomes.{AnswerCame, AsksNothing, IsNoRequestOf, LineCame, LinesCame}
use Rattle.rd_host_lines.proofs.IssueLemmas.{outcome_asks}

-- ---- one thing after the other, whenever the script comes to the lines

-- The application of this number does one thing.
abbrev pub Did : ℕ → ApplicationState → Issue → ApplicationState → Type 0
Did a old holds_nothing new =
    (asked : Asked) × (next_asked old ≡ Some asked) × (old.awaits ≡ None) × (target_of old asked ≡ None) × (new ≡ with_outcome old (outcome.Refused refusal.NoHandle) None asked)
Did a old (at_table (call.Submit application named op) (reply.Submitted answer)) new =
    (asked : Asked) × (next_asked old ≡ Some asked) × (old.awaits ≡ None) × (application ≡ a) × (target_of old asked ≡ Some named) × (op ≡ asked.op) × (answer ≢ Err submit_no.Memory)
    × (new ≡ after_submit old asked answer)
Did a old (at_table (call.Take number) (reply.Taken answer)) new = (asked : Asked) × (next_asked old ≡ Some asked) × (old.awaits ≡ Some number) × (new ≡ after_take old asked answer)
Did a old _ new = ⊥

abbrev pub DidAll : ℕ → ApplicationState → List Issue → ApplicationState → Type 0
DidAll a old [] new = new ≡ old
DidAll a old (i ∷ issues) new = (next : ApplicationState) × Did a old i next × DidAll a next issues new

-- the calls that it makes by that, with their replies
abbrev pub calls_in : List Issue → List (PendingCall × PendingReply)
calls_in [] = []
calls_in (holds_nothing ∷ issues) = calls_in issues
calls_in (at_table does back ∷ issues) = (does, back) ∷ calls_in issues

-- ---- calls of a history

-- a call of a history, with its reply
abbrev pub told_by : TableEntry → PendingCall × PendingReply
told_by e = (e.call, e.reply)

module _ (mine : ℕ → Bool) where
  -- the calls that are by these passes
  abbrev pub calls_by : List TableEntry → List (PendingCall × PendingReply)
  calls_by entries = map told_by (filter (λ (e : TableEntry). mine e.by) entries)

  -- each call is by these passes, or it is no request of the application
  abbrev pub AreMine : ℕ → List TableEntry → Type 0
  AreMine a entries = AllByRecursion (λ (e : TableEntry). (mine e.by ≡ true) ⊎ IsNoRequestOf a e.call) entries

  -- the first of their calls, with what stands before and behind it
  pub record First (a : ℕ) (entries : List TableEntry) (does : PendingCall) (back : PendingReply) (calls : List (PendingCall × PendingReply)) : Type 0 where
    pub between : List TableEntry
    pub by : ℕ
    pub after : List TableEntry
    pub place : entries ≡ between ++ entry by does back ∷ after
    pub nothing : AsksNothing a between
    pub mine_after : AreMine a after
    pub calls_after : calls_by after ≡ calls

  none_mine : (a : ℕ) (b : Bool) (p : PendingCall) → b ≡ false → (b ≡ true) ⊎ IsNoRequestOf a p → IsNoRequestOf a p
  none_mine a b p is (inl own) = absurd (cc (is, own))
  none_mine a b p is (inr so) = so

  pub asks_none : (a : ℕ) (entries : List TableEntry) → AreMine a entries → calls_by entries ≡ [] → AsksNothing a entries
  asks_none a [] all is = tt
  asks_none a (e ∷ entries) (here, all) is = by (asks_none a entries all) (mine e.by) refl is
    where
      by : (calls_by entries ≡ [] → AsksNothing a entries) → (b : Bool) → mine e.by ≡ b → map told_by (cond b (e ∷ filter (λ (e : TableEntry). mine e.by) entries) (filter (λ (e : TableEntry). mine e.by) entries)) ≡ []
          → AsksNothing a (e ∷ entries)
      by rest true own is = absurd (cc is)
      by rest false own is = (none_mine a (mine e.by) e.call own here, rest is)

  pub first_call : (a : ℕ) (entries : List TableEntry) (does : PendingCall) (back : PendingReply) (calls : List (PendingCall × PendingReply)) → AreMine a entries
      → calls_by entries ≡ (does, back) ∷ calls → First a entries does back calls
  first_call a [] does back calls all is = absurd (cc is)
  first_call a (e ∷ entries) does back calls (here, all) is = by (first_call a entries does back calls all) (mine e.by) refl is
    where
      by : (calls_by entries ≡ (does, back) ∷ calls → First a entries does back calls) → (b : Bool) → mine e.by ≡ b
          → map told_by (cond b (e ∷ filter (λ (e : TableEntry). mine e.by) entries) (filter (λ (e : TableEntry). mine e.by) entries)) ≡ (does, back) ∷ calls
          → First a (e ∷ entries) does back calls
      by later true own is =
          let pair_is : told_by e ≡ (does, back) = cc is in
          let call_is : e.call ≡ does = ap (λ (p : PendingCall × PendingReply). p.0) pair_is in
          let reply_is : e.reply ≡ back = ap (λ (p : PendingCall × PendingReply). p.1) pair_is in
          let rest : calls_by entries ≡ calls = cc is in
          record {
            between = [];
            by = e.by;
            after = entries;
            place = ap (λ (x : TableEntry). x ∷ entries) (λ i. entry e.by (call_is i) (reply_is i));
            nothing = tt;
            mine_after = all;
            calls_after = rest;
          }
      by later false own is =
          let f = later is in
          record {
            between = e ∷ f.between;
            by = f.by;
            after = f.after;
            place = ap (λ (l : List TableEntry). e ∷ l) f.place;
            nothing = (none_mine a (mine e.by) e.call own here, f.nothing);
            mine_after = f.mine_after;
            calls_after = f.calls_after;
          }

-- ---- the lines

-- the next line is the first of those that are left
pub next_is : (asks before xs : List Asked) (n : ℕ) (asked : Asked) → asks ≡ before ++ xs → length before ≡ n → slice_get asks n ≡ Some asked → (later : List Asked) × (xs ≡ asked ∷ later)
next_is asks before xs n asked is count next = by before xs n count (subst (λ (l : List Asked). slice_get l n ≡ Some asked) is next)
  where
    by : (before xs : List Asked) (n : ℕ) → length before ≡ n → slice_get (before ++ xs) n ≡ Some asked → (later : List Asked) × (xs ≡ asked ∷ later)
    by [] [] zero count next = absurd (cc next)
    by [] (x ∷ xs) zero count next = let is : x ≡ asked = cc next in (xs, ap (λ (y : Asked). y ∷ xs) is)
    by [] xs (suc n) count next = absurd (omega arith)
    by (y ∷ before) xs zero count next = absurd (omega arith)
    by (y ∷ before) xs (suc n) count next = by before xs n (omega arith) next

-- the same handles hold the same afterwards
held_same : (holds old : ApplicationState) (asked : Asked) (o : Outcome) (given : Option Handle) → holds.handles ≡ old.handles → (holding_after holds asked given).handles ≡ (with_outcome old o given asked).handles
held_same holds old asked o given is = by (is_some asked.device)
  where
    by : (b : Bool) → (if b then record holds { handles = holding_under holds.handles asked.handle given } else holds).handles
        ≡ (if b then record old { handles = holding_under old.handles asked.handle given } else old).handles
    by true = ap (λ (hs : List (List ℕ × Handle)). holding_under hs asked.handle given) is
    by false = is

abbrev pub refused_for : SubmitNo → Result ℕ SubmitNo
refused_for cause = Err cause

module _ (a : ℕ) where
  -- What comes of the lines that are left, where no request is awaited, and where the first one's is that was accepted under a number.
  abbrev pub RestCame : Option ℕ → ApplicationState → List Asked → List Outcome → List TableEntry → Type 0
  RestCame None holds xs os entries = LinesCame a holds xs os entries
  RestCame (Some number) holds [] os entries = ⊥
  RestCame (Some number) holds (x ∷ xs) [] entries = ⊥
  RestCame (Some number) holds (x ∷ xs) (o ∷ os) entries = AnswerCame a holds x o (λ next rest. LinesCame a next xs os rest) (Ok number) entries

  -- where it stands: the lines that have their outcomes and those that are left, and what its handles hold
  pub record StandsAt (old : ApplicationState) (holds : ApplicationState) (before xs : List Asked) : Type 0 where
    pub asks : old.asks ≡ before ++ xs
    pub count : length before ≡ length old.outcomes
    pub handles : holds.handles ≡ old.handles

  -- what comes of the lines that are left, by the outcomes that there are more
  abbrev Comes : ApplicationState → ApplicationState → ApplicationState → List Asked → List TableEntry → Type 0
  Comes old new holds xs entries = (os : List Outcome) × (new.outcomes ≡ old.outcomes ++ os) × RestCame old.awaits holds xs os entries

  -- a line has its outcome
  pub stands_on : (old holds : ApplicationState) (before later : List Asked) (asked : Asked) (o : Outcome) (given : Option Handle) → StandsAt old holds before (asked ∷ later)
      → StandsAt (with_outcome old o given asked) (holding_after holds asked given) (before ++ asked ∷ []) later
  stands_on old holds before later asked o given s = record {
    asks = outcome_asks old asked o given ∙ (s.asks ∙ sym (append_assoc before (asked ∷ []) later));
    count = (let count = s.count in omega (arith, length-append before (asked ∷ []), length-append old.outcomes (o ∷ [])));
    handles = held_same holds old asked o given s.handles;
  }

  -- what its line names is the same
  pub names_same : (old holds : ApplicationState) (asked : Asked) → holds.handles ≡ old.handles → target_of holds asked ≡ target_of old asked
  names_same old holds asked is = ap (λ (hs : List (List ℕ × Handle)). target_of (record old { handles = hs }) asked) is

  module _ (mine : ℕ → Bool) where
    -- ---- a line that is over

    pub more_outcomes : (old new : ApplicationState) (asked : Asked) (o : Outcome) (given : Option Handle) (os : List Outcome) → new.outcomes ≡ (with_outcome old o given asked).outcomes ++ os
        → new.outcomes ≡ old.outcomes ++ o ∷ os
    more_outcomes old new asked o given os is = is ∙ append_assoc old.outcomes (o ∷ []) os

    refused_came : (old new holds : ApplicationState) (asked : Asked) (later : List Asked) (entries : List TableEntry) → old.awaits ≡ None → target_of holds asked ≡ None
        → Comes (with_outcome old (outcome.Refused refusal.NoHandle) None asked) new (holding_after holds asked None) later entries → Comes old new holds (asked ∷ later) entries
    refused_came old new holds asked later entries free none (os, is, came) = (
      outcome.Refused refusal.NoHandle ∷ os,
      more_outcomes old new asked (outcome.Refused refusal.NoHandle) None os is,
      subst (λ (o : Option ℕ). RestCame o holds (asked ∷ later) (outcome.Refused refusal.NoHandle ∷ os) entries) (sym free)
          (subst (λ (t : Option Target). LineCame a holds asked (outcome.Refused refusal.NoHandle) (λ next rest. LinesCame a next later os rest) entries t) (sym none) (refl, came)),
    )

    pub op_same : (entries between after : List TableEntry) (by : ℕ) (named : Target) (op other : Op) (answer : Result ℕ SubmitNo) → op ≡ other
        → entries ≡ between ++ entry by (call.Submit a named op) (reply.Submitted answer) ∷ after → entries ≡ between ++ entry by (call.Submit a named other) (reply.Submitted answer) ∷ after
    op_same entries between after by named op other answer is place = subst (λ (o : Op). entries ≡ between ++ entry by (call.Submit a named o) (reply.Submitted answer) ∷ after) is place

    submit_refused : (old new holds : ApplicationState) (asked : Asked) (later : List Asked) (entries : List TableEntry) (named : Target) (op : Op) (cause : SubmitNo) (calls : List (PendingCall × PendingReply))
        → (f : First mine a entries (call.Submit a named op) (reply.Submitted (Err cause)) calls) → op ≡ asked.op → ◌≢◌ {A = Result ℕ SubmitNo} (Err cause) (Err submit_no.Memory) → old.awaits ≡ None → target_of holds asked ≡ Some named
        → Comes (with_outcome old (outcome.Refused (refusal_of cause)) None asked) new (holding_after holds asked None) later f.after → Comes old new holds (asked ∷ later) entries
    submit_refused old new holds asked later entries named op cause calls f same known free names (os, is, came) =
        let o : Outcome = outcome.Refused (refusal_of cause) in (
          o ∷ os,
          more_outcomes old new asked o None os is,
          subst (λ (w : Option ℕ). RestCame w holds (asked ∷ later) (o ∷ os) entries) (sym free)
              (subst (λ (t : Option Target). LineCame a holds asked o (λ next rest. LinesCame a next later os rest) entries t) (sym names) (
                f.between,
                f.by,
                Err cause,
                f.after,
                op_same entries f.between f.after f.by named op asked.op (Err cause) same f.place,
                f.nothing,
                ((λ memory. known (ap refused_for memory)), refl, came),
              )),
        )

    submit_accepted : (old new holds : ApplicationState) (asked : Asked) (later : List Asked) (entries : List TableEntry) (named : Target) (op : Op) (number : ℕ) (calls : List (PendingCall × PendingReply))
        → (f : First mine a entries (call.Submit a named op) (reply.Submitted (Ok number)) calls) → op ≡ asked.op → old.awaits ≡ None → target_of holds asked ≡ Some named
        → Comes (record old { awaits = Some number }) new holds (asked ∷ later) f.after → Comes old new holds (asked ∷ later) entries
    submit_accepted old new holds asked later entries named op number calls f same free names ([], is, came) = absurd came
    submit_accepted old new holds asked later entries named op number calls f same free names (o ∷ os, is, came) = (
      o ∷ os,
      is,
      subst (λ (w : Option ℕ). RestCame w holds (asked ∷ later) (o ∷ os) entries) (sym free)
          (subst (λ (t : Option Target). LineCame a holds asked o (λ next rest. LinesCame a next later os rest) entries t) (sym names)
          (f.between, f.by, Ok number, f.after, op_same entries f.between f.after f.by named op asked.op (Ok number) same f.place, f.nothing, came)),
    )

    not_yet : (old new holds : ApplicationState) (xs : List Asked) (entries : List TableEntry) (number : ℕ) (cause : TakeNo) (calls : List (PendingCall × PendingReply))
        → (f : First mine a entries (call.Take number) (reply.Taken (Err cause)) calls) → old.awaits ≡ Some number → Comes old new holds xs f.after → Comes old new holds xs entries
    not_yet old new holds xs entries number cause calls f awaits (os, is, came) =
        (os, is, subst (λ (w : Option ℕ). RestCame w holds xs os entries) (sym awaits) (by xs os (subst (λ (w : Option ℕ). RestCame w holds xs os f.after) awaits came)))
      where
        by : (xs : List Asked) (os : List Outcome) → RestCame (Some number) holds xs os f.after → RestCame (Some number) holds xs os entries
        by [] os came = absurd came
        by (x ∷ xs) [] came = absurd came
        by (x ∷ xs) (o ∷ os) (between, pass, taken, rest, place, nothing, o_is, more) =
            let e = entry f.by (call.Take number) (reply.Taken (Err cause)) in
            let t = entry pass (call.Take number) (reply.Taken (Ok taken)) in (
              f.between ++ e ∷ between,
              pass,
              taken,
              rest,
              f.place ∙ (ap (λ (l : List TableEntry). f.between ++ e ∷ l) place ∙ sym (append_assoc f.between (e ∷ between) (t ∷ rest))),
              all_both (λ (x : TableEntry). IsNoRequestOf a x.call) f.between (e ∷ between) f.nothing (tt, nothing),
              o_is,
              more,
            )

    taken_came : (old new holds : ApplicationState) (asked : Asked) (later : List Asked) (entries : List TableEntry) (number : ℕ) (taken : Taken) (calls : List (PendingCall × PendingReply))
        → (f : First mine a entries (call.Take number) (reply.Taken (Ok taken)) calls) → old.awaits ≡ Some number
        → Comes (with_outcome old (reported_outcome taken.outcome) (given_handle taken) asked) new (holding_after holds asked (given_handle taken)) later f.after → Comes old new holds (asked ∷ later) entries
    taken_came old new holds asked later entries number taken calls f awaits (os, is, came) =
        let o : Outcome = reported_outcome taken.outcome in (
          o ∷ os,
          more_outcomes old new asked o (given_handle taken) os is,
          subst (λ (w : Option ℕ). RestCame w holds (asked ∷ later) (o ∷ os) entries) (sym awaits) (f.between, f.by, taken, f.after, f.place, f.nothing, refl, came),
        )

    -- ---- all lines

    -- as many outcomes there are at the end as there are lines
    abbrev IsEnough : ApplicationState → List Asked → List Asked → Type 0
    IsEnough new before xs = length before + length xs ≤ length new.outcomes

    enough_on : (new : ApplicationState) (before later : List Asked) (asked : Asked) → IsEnough new before (asked ∷ later) → IsEnough new (before ++ asked ∷ []) later
    enough_on new before later asked few = omega (arith, few, length-append before (asked ∷ []))

    nothing_left : (before xs : List Asked) (n : ℕ) → length before ≡ n → length before + length xs ≤ n → xs ≡ []
    nothing_left before [] n is few = refl
    nothing_left before (x ∷ xs) n is few = absurd (omega arith)

    pub all_came : (issues : List Issue) (old new holds : ApplicationState) (before xs : List Asked) (entries : List TableEntry) → DidAll a old issues new → StandsAt old holds before xs → IsEnough new before xs
        → new.awaits ≡ None → AreMine mine a entries → calls_by mine entries ≡ calls_in issues → Comes old new holds xs entries
    all_came [] old new holds before xs entries is s few free own calls =
        let none : xs ≡ [] = nothing_left before xs (length old.outcomes) s.count (subst (λ (x : ApplicationState). length before + length xs ≤ length x.outcomes) is few) in
        let here : RestCame None holds [] [] entries = asks_none mine a entries own calls in (
          [],
          ap (λ (x : ApplicationState). x.outcomes) is ∙ sym (append-nil old.outcomes),
          subst (λ (l : List Asked). RestCame old.awaits holds l [] entries) (sym none)
              (subst (λ (w : Option ℕ). RestCame w holds [] [] entries) (sym (sym (ap (λ (x : ApplicationState). x.awaits) is) ∙ free)) here),
        )
    all_came (holds_nothing ∷ issues) old new holds before xs entries (next, (asked, is_next, free, none, so), more) s few over own calls =
        let (later, is) = next_is old.asks before xs (length old.outcomes) asked s.asks s.count is_next in
        let at = subst (λ (l : List Asked). StandsAt old holds before l) is s in
        let o : Outcome = outcome.Refused refusal.NoHandle in
        subst (λ (l : List Asked). Comes old new holds l entries) (sym is)
        (refused_came old new holds asked later entries free (names_same old holds asked s.handles ∙ none)
        (all_came issues (with_outcome old o None asked) new (holding_after holds asked None) (before ++ asked ∷ []) later entries (subst (λ (x : ApplicationState). DidAll a x issues new) so more)
        (stands_on old holds before later asked o None at) (enough_on new before later asked (subst (IsEnough new before) is few)) over own calls))
    all_came (at_table (call.Submit application named op) (reply.Submitted (Err cause)) ∷ issues) old new holds before xs entries (next, (asked, is_next, free, mine_is, names, op_is, known, so), more) s few over own calls =
        let (later, is) = next_is old.asks before xs (length old.outcomes) asked s.asks s.count is_next in
        let at = subst (λ (l : List Asked). StandsAt old holds before l) is s in
        let o : Outcome = outcome.Refused (refusal_of cause) in
        let f = first_call mine a entries (call.Submit a named op) (reply.Submitted (Err cause)) (calls_in issues) own
        (subst (λ (n : ℕ). calls_by mine entries ≡ (call.Submit n named op, reply.Submitted (Err cause)) ∷ calls_in issues) mine_is calls) in
        subst (λ (l : List Asked). Comes old new holds l entries) (sym is)
        (submit_refused old new holds asked later entries named op cause (calls_in issues) f op_is known free (names_same old holds asked s.handles ∙ names)
        (all_came issues (with_outcome old o None asked) new (holding_after holds asked None) (before ++ asked ∷ []) later f.after (subst (λ (x : ApplicationState). DidAll a x issues new) so more)
        (stands_on old holds before later asked o None at) (enough_on new before later asked (subst (IsEnough new before) is few)) over f.mine_after f.calls_after))
    all_came (at_table (call.Submit application named op) (reply.Submitted (Ok number)) ∷ issues) old new holds before xs entries (next, (asked, is_next, free, mine_is, names, op_is, known, so), more) s few over own calls =
        let (later, is) = next_is old.asks before xs (length old.outcomes) asked s.asks s.count is_next in
        let at = subst (λ (l : List Asked). StandsAt old holds before l) is s in
        let f = first_call mine a entries (call.Submit a named op) (reply.Submitted (Ok number)) (calls_in issues) own
        (subst (λ (n : ℕ). calls_by mine entries ≡ (call.Submit n named op, reply.Submitted (Ok number)) ∷ calls_in issues) mine_is calls) in
        subst (λ (l : List Asked). Comes old new holds l entries) (sym is)
        (submit_accepted old new holds asked later entries named op number (calls_in issues) f op_is free (names_same old holds asked s.handles ∙ names)
        (all_came issues (record old { awaits = Some number }) new holds before (asked ∷ later) f.after (subst (λ (x : ApplicationState). DidAll a x issues new) so more)
        (record { asks = at.asks; count = at.count; handles = at.handles }) (subst (IsEnough new before) is few) over f.mine_after f.calls_after))
    all_came (at_table (call.Take number) (reply.Taken (Err cause)) ∷ issues) old new holds before xs entries (next, (asked, is_next, awaits, so), more) s few over own calls =
        let f = first_call mine a entries (call.Take number) (reply.Taken (Err cause)) (calls_in issues) own calls in
        not_yet old new holds xs entries number cause (calls_in issues) f awaits
        (all_came issues old new holds before xs f.after (subst (λ (x : ApplicationState). DidAll a x issues new) so more) s few over f.mine_after f.calls_after)
    all_came (at_table (call.Take number) (reply.Taken (Ok taken)) ∷ issues) old new holds before xs entries (next, (asked, is_next, awaits, so), more) s few over own calls =
        let (later, is) = next_is old.asks before xs (length old.outcomes) asked s.asks s.count is_next in
        let at = subst (λ (l : List Asked). StandsAt old holds before l) is s in
        let o : Outcome = reported_outcome taken.outcome in
        let f = first_call mine a entries (call.Take number) (reply.Taken (Ok taken)) (calls_in issues) own calls in
        subst (λ (l : List Asked). Comes old new holds l entries) (sym is)
        (taken_came old new holds asked later entries number taken (calls_in issues) f awaits
        (all_came issues (with_outcome old o (given_handle taken) asked) new (holding_after holds asked (given_handle taken)) (before ++ asked ∷ []) later f.after
        (subst (λ (x : ApplicationState). DidAll a x issues new) so more)
        (stands_on old holds before later asked o (given_handle taken) at) (enough_on new before later asked (subst (IsEnough new before) is few)) over f.mine_after f.calls_after))
    all_came (at_table does back ∷ issues) old new holds before xs entries (next, did, more) s few over own calls = absurd did
