-- What the calls of a pass were given and give back, and what a desk replies to a hand.
use Rattle.std.proofs.Common.{◌≡◌, ◌∙◌, ◌⊎◌, refl, sym, ap, subst, ℕ, inl, inr, List, [], ◌∷◌, ◌++◌, append-nil}
use Rattle.std.specs.Prelude.{Contains}
use Rattle.std.proofs.lemmas.Grind.{flat_map-append}
use Rattle.std.proofs.lemmas.List.Elements.{All-contains_itself, All-nil, All-weaker, Contains-append_left, Contains-append_right}
use Rattle.rd_drive.specs.declared.plan.Job.{Job}
use Rattle.rd_drive.specs.declared.step.Step.{Step}
use Rattle.rd_drive.specs.declared.step.End.{End}
use Rattle.rd_drive.specs.Device.{Parked}
use Rattle.rd_drive.specs.Planned.{Planned}
use Rattle.rd_station.specs.Station.{StationState}
use Rattle.rd_turn.specs.declared.object.Entry.{Entry}
use Rattle.rd_turn.specs.History.{IsLegal, calls_of, entry}
use Rattle.rd_turn.specs.Pass.{PassState}
use Rattle.rd_turn.proofs.HistoryLemmas.{Leads-parted}
use Rattle.rd_desk.specs.declared.batch.Run.{Run}
use Rattle.rd_desk.specs.declared.calls.DeskCall.{DeskCall}
use Rattle.rd_desk.specs.declared.calls.DeskCall.TheVariants as call
use Rattle.rd_desk.specs.declared.calls.DeskReply.{DeskReply}
use Rattle.rd_desk.specs.declared.calls.DeskReply.TheVariants as reply
use Rattle.rd_desk.specs.Batch.{WorkedState, jobs_of}
use Rattle.rd_desk.specs.Desk.{DeskStep, Replies, runs_of}
use Rattle.rd_desk.specs.Own.{GivesOwnBack, WereGiven, given_to, jobs_back, jobs_given}

abbrev E : Type 0
E = Entry DeskCall DeskReply

-- a place in a list with one more at its end is in the list, or that last one's
at_or_last : {A : Type 0} (xs before later : List A) (last x : A) → xs ++ last ∷ [] ≡ before ++ x ∷ later → ((rest : List A) × (xs ≡ before ++ x ∷ rest)) ⊎ ((before ≡ xs) × (x ≡ last))
at_or_last [] [] later last x is = inr (refl, cc (is))
at_or_last [] (b ∷ before) later last x is = absurd (empty before later x (cc (is)))
  where
    empty : {A : Type 0} (before later : List A) (x : A) → [] ≡ before ++ x ∷ later → ⊥
    empty [] later x e = cc (e)
    empty (b ∷ before) later x e = cc (e)
at_or_last (y ∷ xs) [] later last x is = inl (xs, cc (is))
at_or_last (y ∷ xs) (b ∷ before) later last x is =
    let heads : y ≡ b = cc (is) in
    elim (at_or_last xs before later last x (cc (is))) [
      | inl there ↦ inl (there.0, cc (heads, there.1))
      | inr here ↦ inr (cc (heads, here.0), here.1)
    ]

-- no calls give nothing back
pub none_back : (entries : List E) → entries ≡ [] → GivesOwnBack entries
none_back entries none = record { each = each }
  where
    each : (before later : List E) (e : E) → entries ≡ before ++ e ∷ later → WereGiven before (jobs_back e.call)
    each [] later e is = absurd (cc (none, is))
    each (b ∷ before) later e is = absurd (cc (none, is))

-- a call more
pub more_back : (own : List E) (e : E) → GivesOwnBack own → WereGiven own (jobs_back e.call) → GivesOwnBack (own ++ e ∷ [])
more_back own last gives given = record {
  each = λ before later e is. elim (at_or_last own before later last e is) [
    | inl there ↦ gives.each before there.0 e there.1
    | inr here ↦ subst (λ (es : List E). WereGiven es (jobs_back e.call)) (sym here.0) (subst (λ (x : E). WereGiven own (jobs_back x.call)) (sym here.1) given)
  ];
}

-- a call that gives nothing back
pub idle_back : (own : List E) (e : E) → GivesOwnBack own → runs_of e.call ≡ [] → GivesOwnBack (own ++ e ∷ [])
idle_back own e gives none = more_back own e gives (subst (λ (runs : List Run). WereGiven own (jobs_of runs)) (sym none) (All-nil (Contains (given_to own))))

pub given_append : (xs ys : List E) → given_to (xs ++ ys) ≡ given_to xs ++ given_to ys
given_append xs ys = flat_map-append (λ (e : E). jobs_given e.reply) xs ys

-- what the last call gave was given
pub last_given : (own : List E) (e : E) → WereGiven (own ++ e ∷ []) (jobs_given e.reply)
last_given own e = All-weaker (Contains (jobs_given e.reply)) (Contains (given_to (own ++ e ∷ [])))
    (λ job has. subst (λ (jobs : List Job). Contains jobs job) (sym (given_append own (e ∷ []) ∙ ap (λ l. given_to own ++ l) (append-nil (jobs_given e.reply)))) (Contains-append_right (given_to own) (jobs_given e.reply) job has))
    (jobs_given e.reply) (All-contains_itself (jobs_given e.reply))

-- ---- what is replied

-- a legal history's last call
last_step : {O C R : Type 0} (steps : O → C → R → O → Type 0) (opening : O) (before : List (Entry C R)) (e : Entry C R) → IsLegal steps opening (before ++ e ∷ []) → (old : O) × (new : O) × steps old e.call e.reply new
last_step steps opening before e legal = let parted = Leads-parted steps opening before (e ∷ []) legal.0 legal.1 in (parted.0, parted.2.0, parted.2.1)

-- a hand is given what hands are given
worked_only : {S : Type 0} (runs : List Run) (answer : DeskReply) (new : StationState S) → Replies (call.Work runs) answer new → (w : WorkedState) × (answer ≡ reply.Worked w)
worked_only runs (reply.Worked w) new is = (w, refl)
worked_only runs (reply.Announced r) new is = absurd is
worked_only runs (reply.Put r) new is = absurd is
worked_only runs (reply.Unfit r) new is = absurd is
worked_only runs (reply.Collected r) new is = absurd is
worked_only runs (reply.Removed r) new is = absurd is
worked_only runs reply.Dropped new is = absurd is
worked_only runs reply.Ended new is = absurd is

pub reply_worked : {S : Type 0} (Runs : S → Planned → ℕ → Step → List End → S → Type 0) (parked : S → List Parked) (Cuts : S → S → Type 0) (opening : StationState S) (seen before : List E) (number : ℕ) (runs : List Run) (answer : DeskReply)
    → seen ≡ before ++ entry number (call.Work runs) answer ∷ [] → IsLegal (DeskStep Runs parked Cuts) opening seen → (w : WorkedState) × (answer ≡ reply.Worked w)
reply_worked Runs parked Cuts opening seen before number runs answer is legal =
    let step = last_step (DeskStep Runs parked Cuts) opening before (entry number (call.Work runs) answer) (subst (IsLegal (DeskStep Runs parked Cuts) opening) is legal) in
    worked_only runs answer step.1 step.2.1

-- ---- a pass that makes a call

module _ {O : Type 0} (p q : PassState O DeskCall DeskReply) (asked : DeskCall) (answer : DeskReply) (number : q.number ≡ p.number)
    (own : calls_of p.number q.seen ≡ calls_of p.number p.seen ++ entry p.number asked answer ∷ []) where
  pub call_gives : GivesOwnBack (calls_of p.number p.seen) → WereGiven (calls_of p.number p.seen) (jobs_back asked) → GivesOwnBack (calls_of q.number q.seen)
  call_gives gives given = subst (λ (n : ℕ). GivesOwnBack (calls_of n q.seen)) (sym number)
      (subst GivesOwnBack (sym own) (more_back (calls_of p.number p.seen) (entry p.number asked answer) gives given))

  -- one that gives nothing back
  pub call_idle : runs_of asked ≡ [] → GivesOwnBack (calls_of p.number p.seen) → GivesOwnBack (calls_of q.number q.seen)
  call_idle none gives = subst (λ (n : ℕ). GivesOwnBack (calls_of n q.seen)) (sym number)
      (subst GivesOwnBack (sym own) (idle_back (calls_of p.number p.seen) (entry p.number asked answer) gives none))

  -- what a hand is given was given then
  pub call_given : (w : WorkedState) → answer ≡ reply.Worked w → WereGiven (calls_of q.number q.seen) w.jobs
  call_given w is = subst (λ (n : ℕ). WereGiven (calls_of n q.seen) w.jobs) (sym number)
      (subst (λ (es : List E). WereGiven es w.jobs) (sym own)
      (subst (λ (jobs : List Job). WereGiven (calls_of p.number p.seen ++ entry p.number asked answer ∷ []) jobs) (ap jobs_given is) (last_given (calls_of p.number p.seen) (entry p.number asked answer))))

-- what was given stays given
pub still_given : (own later : List E) (jobs : List Job) → WereGiven own jobs → WereGiven (own ++ later) jobs
still_given own later jobs given =
    All-weaker (Contains (given_to own)) (Contains (given_to (own ++ later))) (λ job has. subst (λ (l : List Job). Contains l job) (sym (given_append own later)) (Contains-append_left (given_to own) (given_to later) job has)) jobs given
