-- What the applications of a host ask for by their lines has numbers for which its message has room: those of a line, and those of what a handle holds, which came of a request of the same application.
use Rattle.std.proofs.Common.{◌≡◌, ◌∙◌, refl, sym, ap, subst, ℕ, zero, suc, ◌<◌, ◌^◌, ◌==◌, lit<, Bool, true, false, cond, List, [], ◌∷◌, ◌++◌, length, append_assoc, Contains, Some, None, Option, Result, Ok, Err, is_some}
use Rattle.std.specs.Prelude.{if◌then◌else◌, slice_get}
use Rattle.std.specs.List.{AllByRecursion}
use Rattle.std.specs.BTreeMap.{is_at}
use Rattle.std.specs.Option.{IfSome, option_map_or}
use Rattle.std.proofs.lemmas.List.Elements.{Contains-append_left, Contains-append_right}
use mathlib.Core.List.{IsPrefix}
use Rattle.rd_irp.specs.declared.op.Op.{Op}
use Rattle.rd_pending.specs.declared.calls.Handle.{Handle}
use Rattle.rd_pending.specs.declared.calls.Outcome as settled
use Rattle.rd_pending.specs.declared.calls.Outcome.TheVariants.{Done, Lost}
use Rattle.rd_pending.specs.declared.calls.SubmitNo.{SubmitNo}
use Rattle.rd_pending.specs.declared.calls.Taken.{Taken}
use Rattle.rd_pending.specs.declared.calls.TakeNo.{TakeNo}
use Rattle.rd_pending.specs.declared.calls.Target.{Target}
use Rattle.rd_pending.specs.declared.calls.Target.TheVariants as target
use Rattle.rd_pending.specs.Outcomes.{Accepted}
use Rattle.rd_pending.specs.Table.{TableState, device_in, new_table}
use Rattle.rd_printer.specs.Cache.{bytes_cmp}
use Rattle.rd_runs.proofs.RoomLemmas.{OutcomeHasRoom, all_inserted, all_removed, found_in}
use Rattle.rd_runs.specs.Premises.{IsHandleInRange, IsSubmittable}
use Rattle.rd_script.specs.declared.outcome.Outcome.{Outcome}
use Rattle.rd_script.specs.declared.outcome.Outcome.TheVariants as outcome
use Rattle.rd_script.specs.declared.outcome.Refusal.TheVariants as refusal
use Rattle.rd_table.specs.declared.calls.PendingCall.{PendingCall}
use Rattle.rd_table.specs.declared.calls.PendingCall.TheVariants as call
use Rattle.rd_table.specs.declared.calls.PendingReply.{PendingReply}
use Rattle.rd_table.specs.declared.calls.PendingReply.TheVariants as reply
use Rattle.rd_table.specs.Calls.{PendingStep}
use Rattle.rd_table.specs.Histories.{Accepts, handed_in, taken_of}
use Rattle.rd_table.proofs.EndLemmas.{accepts_own}
use Rattle.rd_table.proofs.PassLemmas.{pass_accepts, pass_hands}
use Rattle.rd_table.proofs.StepLemmas.{handed_more}
use Rattle.rd_turn.specs.History.{Leads, calls_of, entry}
use Rattle.rd_world.specs.Events.{refusal_of, target_of}
use Rattle.rd_world.specs.Hearing.{file_given, given_handle, holding_under, reported_outcome, with_outcome}
use Rattle.rd_deeds.specs.HostDeeds.{IsInRange}
use Rattle.rd_world.specs.World.{ApplicationState, Asked, handle_named}
use Rattle.rd_issuer.specs.Issues.{Does, DoesAll, Issue, after_submit, after_take, at_table, calls_of_issues, holds_nothing}
use Rattle.rd_host_turns.specs.Turns.{TableEntry}
use Rattle.rd_host_turns.proofs.CountLemmas.{all_right}
use Rattle.rd_host_lines.specs.Requests.{AcceptsCallInRange, AcceptsInRange}
use Rattle.rd_host_lines.proofs.FileLemmas.{HandsFileEntry}

-- ---- handles

abbrev pub HandlesFit : List (List ℕ × Handle) → Type 0
HandlesFit handles = AllByRecursion (λ (e : List ℕ × Handle). IsHandleInRange e.1) handles

held_fit : (handles : List (List ℕ × Handle)) (name : List ℕ) (given : Option Handle) → IfSome given IsHandleInRange → HandlesFit handles → HandlesFit (holding_under handles name given)
held_fit handles name None own all = all_removed IsHandleInRange (is_at (bytes_cmp name)) handles all
held_fit handles name (Some h) own all = all_inserted IsHandleInRange bytes_cmp handles name h own all

outcome_handles : (x : ApplicationState) (asked : Asked) (o : Outcome) (given : Option Handle) → IfSome given IsHandleInRange → HandlesFit x.handles → HandlesFit (with_outcome x o given asked).handles
outcome_handles x asked o given own all = by (is_some asked.device)
  where
    by : (b : Bool) → HandlesFit (if b then record x { handles = holding_under x.handles asked.handle given } else x).handles
    by true = held_fit x.handles asked.handle given own all
    by false = all

pub outcome_asks : (x : ApplicationState) (asked : Asked) (o : Outcome) (given : Option Handle) → (with_outcome x o given asked).asks ≡ x.asks
outcome_asks x asked o given = by (is_some asked.device)
  where
    by : (b : Bool) → (if b then record x { handles = holding_under x.handles asked.handle given } else x).asks ≡ x.asks
    by true = refl
    by false = refl

given_fit : (t : Taken) → t.device < 2 ^ 32 → OutcomeHasRoom t.outcome → IfSome (given_handle t) IsHandleInRange
given_fit t few room = by (file_given t.outcome) (file t.outcome room)
  where
    file : (o : settled.Outcome) → OutcomeHasRoom o → IfSome (file_given o) (λ (f : ℕ). f < 2 ^ 32)
    file (Done reply) room = room
    file (Lost cause) room = tt

    by : (o : Option ℕ) → IfSome o (λ (f : ℕ). f < 2 ^ 32) → IfSome (option_map_or (λ file. Some (record { device = t.device; life = t.life; file = file })) o None) IsHandleInRange
    by None own = tt
    by (Some f) own = (few, own)

-- what a line names has room, where what it asks for fits and the handles do
named_fit : (x : ApplicationState) (asked : Asked) (named : Target) → IsSubmittable asked → HandlesFit x.handles → target_of x asked ≡ Some named → IsInRange named asked.op
named_fit x asked named fit handles e = by asked.device refl (handle_named x asked.handle) (found_in IsHandleInRange (is_at (bytes_cmp asked.handle)) x.handles handles) e
  where
    by : (d : Option ℕ) → asked.device ≡ d → (o : Option Handle) → IfSome o IsHandleInRange
        → option_map_or (λ device. Some (target.Device device)) d (option_map_or (λ (h : Handle). Some (target.Handle h)) o None) ≡ Some named → IsInRange named asked.op
    by (Some device) opened o held e =
        let is : target.Device device ≡ named = cc e in
        subst (λ (n : Target). IsInRange n asked.op) is (record { device = rw opened at fit.device; file = lit< tt; op = fit.range })
    by None opened (Some h) held e =
        let is : target.Handle h ≡ named = cc e in
        subst (λ (n : Target). IsInRange n asked.op) is (record { device = held.0; file = held.1; op = fit.range })
    by None opened None held e = absurd (cc e)

-- ---- lists

all_of_pass : (P : TableEntry → Type 0) (pass : ℕ) (xs : List TableEntry) → AllByRecursion P xs → AllByRecursion P (calls_of pass xs)
all_of_pass P pass [] all = tt
all_of_pass P pass (x ∷ xs) (here, all) = by (x.by == pass) (all_of_pass P pass xs all)
  where
    by : (b : Bool) → AllByRecursion P (calls_of pass xs) → AllByRecursion P (cond b (x ∷ calls_of pass xs) (calls_of pass xs))
    by true rest = (here, rest)
    by false rest = rest

next_of : (P : Asked → Type 0) (asks : List Asked) (i : ℕ) (asked : Asked) → AllByRecursion P asks → slice_get asks i ≡ Some asked → P asked
next_of P [] i asked all e = absurd (cc e)
next_of P (x ∷ asks) zero asked all e = let same : x ≡ asked = cc e in subst P same all.0
next_of P (x ∷ asks) (suc i) asked all e = next_of P asks i asked all.1 e

prefix_all : (P : TableEntry → Type 0) (xs ys : List TableEntry) → IsPrefix xs ys → AllByRecursion P ys → AllByRecursion P xs
prefix_all P xs ys (more, is) all = left xs (subst (AllByRecursion P) (sym is) all)
  where
    left : (xs : List TableEntry) → AllByRecursion P (xs ++ more) → AllByRecursion P xs
    left [] all = tt
    left (x ∷ xs) (here, all) = (here, left xs all)

module _ (all : List TableEntry) where
  -- The request of this number was accepted, and its device has room.
  abbrev pub IsAwaited : ℕ → Type 0
  IsAwaited number = (a : Accepted) × (one : Accepts all number a) × (device_in one.named < 2 ^ 32)

  -- What an application's lines ask for fits requests, so do its handles, and the request that it awaits was accepted.
  pub record AppFits (x : ApplicationState) : Type 0 where
    pub asks : AllByRecursion IsSubmittable x.asks
    pub handles : HandlesFit x.handles
    pub awaits : IfSome x.awaits IsAwaited

  outcome_fit : (x : ApplicationState) (asked : Asked) (o : Outcome) (given : Option Handle) → IfSome given IsHandleInRange → AppFits x → AppFits (with_outcome x o given asked)
  outcome_fit x asked o given own fit = record {
    asks = subst (AllByRecursion IsSubmittable) (sym (outcome_asks x asked o given)) fit.asks;
    handles = outcome_handles x asked o given own fit.handles;
    awaits = tt;
  }

  module _ (t : TableState) (leads : Leads PendingStep new_table all t) (files : AllByRecursion HandsFileEntry all) (pass : ℕ) (seen : List TableEntry) (prefix : IsPrefix seen all) where
    abbrev further : (number : ℕ) (a : Accepted) (one : Accepts seen number a) → Accepts all number a
    further number a one = record {
      before = one.before;
      later = one.later ++ prefix.0;
      by = one.by;
      application = one.application;
      named = one.named;
      op = one.op;
      place = sym prefix.1 ∙ (ap (λ (l : List TableEntry). l ++ prefix.0) one.place
          ∙ append_assoc one.before (entry one.by (call.Submit one.application one.named one.op) (reply.Submitted (Ok number)) ∷ one.later) prefix.0);
      request = one.request;
    }

    submit_fits : (a : ℕ) (before rest : List TableEntry) (old : ApplicationState) (asked : Asked) (named : Target) (op : Op) (answer : Result ℕ SubmitNo)
        → calls_of pass seen ≡ before ++ entry pass (call.Submit a named op) (reply.Submitted answer) ∷ rest → AppFits old → device_in named < 2 ^ 32 → AppFits (after_submit old asked answer)
    submit_fits a before rest old asked named op (Err cause) own fit few = outcome_fit old asked (outcome.Refused (refusal_of cause)) None tt fit
    submit_fits a before rest old asked named op (Ok number) own fit few = record {
      asks = fit.asks;
      handles = fit.handles;
      awaits =
          let (accepted, one, place, by, application, is, so) = pass_accepts seen before rest pass a number named op own in
          (accepted, further number accepted one, subst (λ (n : Target). device_in n < 2 ^ 32) (sym is) few);
    }

    take_fits : (before rest : List TableEntry) (old : ApplicationState) (asked : Asked) (number : ℕ) (answer : Result Taken TakeNo)
        → calls_of pass seen ≡ before ++ entry pass (call.Take number) (reply.Taken answer) ∷ rest → old.awaits ≡ Some number → AppFits old → AppFits (after_take old asked answer)
    take_fits before rest old asked number (Err cause) own awaits fit = fit
    take_fits before rest old asked number (Ok taken) own awaits fit =
        let (a, one, few) = subst (λ (o : Option ℕ). IfSome o IsAwaited) awaits fit.awaits in
        let e = entry pass (call.Take number) (reply.Taken (Ok taken)) in
        let there : Contains (handed_in (calls_of pass seen)) (number, taken) =
        subst (λ (l : List (ℕ × Taken)). Contains l (number, taken)) (sym (ap handed_in own ∙ handed_more before (e ∷ rest)))
        (Contains-append_right (handed_in before) (handed_in (e ∷ rest)) (number, taken)
        (subst (λ (l : List (ℕ × Taken)). Contains l (number, taken)) (sym (handed_more (e ∷ []) rest))
        (Contains-append_left (handed_in (e ∷ [])) (handed_in rest) (number, taken) (0, lit< tt, refl)))) in
        let seen_has = pass_hands seen pass number taken there in
        let has : Contains (handed_in all) (number, taken) =
        subst (λ (l : List TableEntry). Contains (handed_in l) (number, taken)) prefix.1
        (subst (λ (l : List (ℕ × Taken)). Contains l (number, taken)) (sym (handed_more seen prefix.0)) (Contains-append_left (handed_in seen) (handed_in prefix.0) (number, taken) seen_has)) in
        let is : taken ≡ taken_of a taken.outcome = (accepts_own all t number a taken leads one has).1 in
        let device : taken.device ≡ device_in one.named = ap (λ (x : Taken). x.device) is ∙ ap (λ (x : Accepted). x.device) one.request in
        let room : OutcomeHasRoom taken.outcome = (all_right HandsFileEntry before (e ∷ rest) (subst (AllByRecursion HandsFileEntry) own (all_of_pass HandsFileEntry pass seen (prefix_all HandsFileEntry seen all prefix files)))).0 in
        outcome_fit old asked (reported_outcome taken.outcome) (given_handle taken) (given_fit taken (subst (λ (n : ℕ). n < 2 ^ 32) (sym device) few) room) fit

    one_fits : (a : ℕ) (does : PendingCall) (back : PendingReply) (before rest : List TableEntry) (old new : ApplicationState) → Does a old (at_table does back) new
        → calls_of pass seen ≡ before ++ entry pass does back ∷ rest → AppFits old → AppFits new × AcceptsCallInRange does back
    one_fits a (call.Submit application named op) (reply.Submitted answer) before rest old new (asked, next, mine, names, is, kept, so) own fit =
        let range : IsInRange named asked.op = named_fit old asked named (next_of IsSubmittable old.asks (length old.outcomes) asked fit.asks next.1) fit.handles names in
        let range_op : IsInRange named op = subst (IsInRange named) (sym is) range in
        (subst AppFits (sym so) (submit_fits application before rest old asked named op answer own fit range.device), accepts answer range_op)
      where
        accepts : (answer : Result ℕ SubmitNo) → IsInRange named op → AcceptsCallInRange (call.Submit application named op) (reply.Submitted answer)
        accepts (Ok number) range = range
        accepts (Err cause) range = tt
    one_fits a (call.Take number) (reply.Taken answer) before rest old new (asked, next, awaits, known, so) own fit = (subst AppFits (sym so) (take_fits before rest old asked number answer own awaits fit), tt)
    one_fits a _ _ before rest old new does own fit = absurd does

    pub issues_fit : (a : ℕ) (issues : List Issue) (before : List TableEntry) (old new : ApplicationState) → DoesAll a old issues new → calls_of pass seen ≡ before ++ calls_of_issues pass issues → AppFits old
        → AppFits new × AllByRecursion AcceptsInRange (calls_of_issues pass issues)
    issues_fit a [] before old new is own fit = (subst AppFits (sym is) fit, tt)
    issues_fit a (holds_nothing ∷ issues) before old new (next, (asked, comes, none, so), does) own fit =
        issues_fit a issues before next new does own (subst AppFits (sym so) (outcome_fit old asked (outcome.Refused refusal.NoHandle) None tt fit))
    issues_fit a (at_table does back ∷ issues) before old new (next, here, more) own fit =
        let one = one_fits a does back before (calls_of_issues pass issues) old next here own fit in
        let rest = issues_fit a issues (before ++ entry pass does back ∷ []) next new more (own ∙ sym (append_assoc before (entry pass does back ∷ []) (calls_of_issues pass issues))) one.0 in
        (rest.0, (one.1, rest.1))
