-- An application goes on with its pass, one thing after the other, until it rests.
use Rattle.std.proofs.Common.{◌≡◌, ◌≢◌, ◌∙◌, ◌&&◌, refl, sym, ap, subst, inr, ℕ, Bool, true, false, List, [], ◌∷◌, ◌++◌, Option, Some, None, Result, Ok, Err, append-nil, append_assoc}
use Rattle.std.specs.Prelude.{OnOk, is_none, is_ok, length, nat_lt}
use Rattle.std.specs.Option.{option_map, option_map_or}
use Rattle.rd_drive.proofs.AllLemmas.{all_append}
use Rattle.rd_irp.specs.declared.op.Op.{Op}
use Rattle.rd_pending.specs.declared.calls.SubmitNo.{SubmitNo}
use Rattle.rd_pending.specs.declared.calls.SubmitNo.TheVariants as submit_no
use Rattle.rd_pending.specs.declared.calls.TakeNo.{TakeNo}
use Rattle.rd_pending.specs.declared.calls.TakeNo.TheVariants as take_no
use Rattle.rd_pending.specs.declared.calls.Taken.{Taken}
use Rattle.rd_pending.specs.declared.calls.Target.{Target}
use Rattle.rd_pending.specs.Table.{TableState}
use Rattle.rd_script.specs.declared.line.Line.{Line}
use Rattle.rd_script.specs.declared.outcome.Outcome.TheVariants as outcome
use Rattle.rd_script.specs.declared.outcome.Refusal.TheVariants as refusal
use Rattle.rd_table.specs.Calls.{PendingStep}
use Rattle.rd_table.specs.declared.calls.PendingCall.{PendingCall}
use Rattle.rd_table.specs.declared.calls.PendingCall.TheVariants as call
use Rattle.rd_table.specs.declared.calls.PendingReply.{PendingReply}
use Rattle.rd_table.specs.declared.calls.PendingReply.TheVariants as reply
use Rattle.rd_turn.specs.declared.object.Entry.{Entry}
use Rattle.rd_turn.specs.History.{IsLegal, Leads, calls_of, entry}
use Rattle.rd_turn.specs.Pass.{Called, IsSamePass}
use Rattle.rd_turn.proofs.HistoryLemmas.{Leads-parted}
use Rattle.rd_world.specs.Applications.{AsksFor}
use Rattle.rd_world.specs.Events.{may_issue, target_of}
use Rattle.rd_world.specs.Hearing.{next_asked, with_outcome}
use Rattle.rd_world.specs.Run.{asked_by}
use Rattle.rd_world.specs.World.{ApplicationState, Asked}
use Rattle.rd_issuer.specs.Issues.{OnlyAsks, Does, DoesAll, Goes, IsAsking, ComesNext, Issue, Issues, Rests, TablePass, after_submit, after_take, at_table, calls_of_issues, holds_nothing, is_patient}

abbrev E : Type 0
E = Entry PendingCall PendingReply

-- ---- one after the other

does_more : (a : ℕ) (x y z : ApplicationState) (xs ys : List Issue) → DoesAll a x xs y → DoesAll a y ys z → DoesAll a x (xs ++ ys) z
does_more a x y z [] ys first second = subst (λ (s : ApplicationState). DoesAll a s ys z) first second
does_more a x y z (i ∷ xs) ys first second = (first.0, first.1, does_more a first.0 y z xs ys first.2 second)

calls_more : (pass : ℕ) (xs ys : List Issue) → calls_of_issues pass (xs ++ ys) ≡ calls_of_issues pass xs ++ calls_of_issues pass ys
calls_more pass [] ys = refl
calls_more pass (holds_nothing ∷ xs) ys = calls_more pass xs ys
calls_more pass (at_table does back ∷ xs) ys = ap (λ (es : List E). entry pass does back ∷ es) (calls_more pass xs ys)

asks_more : (first second third : List E) → OnlyAsks first second → OnlyAsks second third → OnlyAsks first third
asks_more first second third one other = record {
  more = one.more ++ other.more;
  goes_on = other.goes_on ∙ (ap (λ (es : List E). es ++ other.more) one.goes_on ∙ append_assoc first one.more other.more);
  asking = all_append IsAsking one.more other.more one.asking other.asking;
}

issues_more : (a pass : ℕ) (x y z : ApplicationState) (first second third : List E) → Issues a pass x y first second → Issues a pass y z second third → Issues a pass x z first third
issues_more a pass x y z first second third one other = record {
  issues = one.issues ++ other.issues;
  does = does_more a x y z one.issues other.issues one.does other.does;
  calls = other.calls ∙ (ap (λ (es : List E). es ++ calls_of_issues pass other.issues) one.calls ∙ (append_assoc first (calls_of_issues pass one.issues) (calls_of_issues pass other.issues) ∙ ap (λ (es : List E). first ++ es) (sym (calls_more pass one.issues other.issues))));
}

-- ---- with a pass

pub goes_none : (a : ℕ) (x : ApplicationState) (p : TablePass) → Goes a true x x p p
goes_none a x p = record {
  same = (refl, refl, refl, refl);
  asks = record { more = []; goes_on = sym (append-nil (calls_of p.number p.seen)); asking = tt };
  issued = λ found. record { issues = []; does = refl; calls = sym (append-nil (calls_of p.number p.seen)) };
}

-- no memory was found before a call
pub goes_failed : (a : ℕ) (x y : ApplicationState) (p : TablePass) → Goes a false x y p p
goes_failed a x y p = let none = goes_none a x p in record { same = none.same; asks = none.asks; issued = λ found. absurd (cc (found)) }

pub goes_then : (a : ℕ) (found : Bool) (x y z : ApplicationState) (p q r : TablePass) → Goes a true x y p q → Goes a found y z q r → Goes a found x z p r
goes_then a found x y z p q r one other =
    let number : q.number ≡ p.number = one.same.0 in
    record {
      same = (other.same.0 ∙ one.same.0, other.same.1 ∙ one.same.1, other.same.2 ∙ one.same.2, other.same.3 ∙ one.same.3);
      asks = asks_more (calls_of p.number p.seen) (calls_of p.number q.seen) (calls_of p.number r.seen) one.asks (subst (λ (n : ℕ). OnlyAsks (calls_of n q.seen) (calls_of n r.seen)) number other.asks);
      issued = λ was. issues_more a p.number x y z (calls_of p.number p.seen) (calls_of p.number q.seen) (calls_of p.number r.seen) (one.issued refl)
          (subst (λ (n : ℕ). Issues a n y z (calls_of n q.seen) (calls_of n r.seen)) number (other.issued was));
    }

pub goes_unheld : (a : ℕ) (x y : ApplicationState) (p : TablePass) → Does a x holds_nothing y → Goes a true x y p p
goes_unheld a x y p does = let none = goes_none a x p in record {
  same = none.same;
  asks = none.asks;
  issued = λ found. record { issues = holds_nothing ∷ []; does = (y, does, refl); calls = sym (append-nil (calls_of p.number p.seen)) };
}

pub goes_call : (a : ℕ) (found : Bool) (x y : ApplicationState) (p q : TablePass) (does : PendingCall) (back : PendingReply) → IsSamePass p q
    → calls_of p.number q.seen ≡ calls_of p.number p.seen ++ entry p.number does back ∷ [] → IsAsking (entry p.number does back) → (found ≡ true → Does a x (at_table does back) y) → Goes a found x y p q
goes_call a found x y p q does back same called asking done = record {
  same = same;
  asks = record { more = entry p.number does back ∷ []; goes_on = called; asking = (asking, tt) };
  issued = λ was. record { issues = at_table does back ∷ []; does = (y, done was, refl); calls = called };
}

pub goes_step : {T E : Type 0} (a : ℕ) (r : Result T E) (found : Bool) (x y z : ApplicationState) (p q s : TablePass) → is_ok r ≡ found → Goes a true x y p q → Goes a (is_ok r) y z q s → Goes a found x z p s
goes_step a r found x y z p q s is one other = goes_then a found x y z p q s one (subst (λ (f : Bool). Goes a f y z q s) is other)

-- ---- a line

-- the next line ends where it does
pub ended_as : {X : Type 0} (o : Option Asked) (asked : Asked) (f : Asked → X) (old new : X) → o ≡ Some asked → new ≡ option_map_or f o old → new ≡ f asked
ended_as o asked f old new at is = is ∙ ap (λ (z : Option Asked). option_map_or f z old) at

pub on_ok : {T E : Type 0} {P : Type 0} (r : Result T E) → OnOk r P → is_ok r ≡ true → P
on_ok (Ok x) is found = is
on_ok (Err e) is found = absurd (cc (found))

-- what a line asks for is its operation
pub asks_op : (l : Line) (asked : Asked) (op : Op) (o : Option Op) → AsksFor asked l → o ≡ Some op → o ≡ option_map (λ (x : ℕ × Asked). (x.1).op) (asked_by l) → op ≡ asked.op
asks_op l asked op o for is by_line = by (asked_by l) for (sym is ∙ by_line)
  where
    by : (b : Option (ℕ × Asked)) → option_map (λ (x : ℕ × Asked). x.1) b ≡ Some asked → Some op ≡ option_map (λ (x : ℕ × Asked). (x.1).op) b → op ≡ asked.op
    by None first second = absurd (cc (first))
    by (Some x) first second = let one : x.1 ≡ asked = cc (first) in let other : op ≡ (x.1).op = cc (second) in other ∙ ap (λ (y : Asked). y.op) one

pub goes_refused : (a : ℕ) (found : Bool) (x y : ApplicationState) (p : TablePass) (asked : Asked) → ComesNext x asked → target_of x asked ≡ None → (found ≡ true → y ≡ with_outcome x (outcome.Refused refusal.NoHandle) None asked) → Goes a found x y p p
goes_refused a true x y p asked next none ended = goes_unheld a x y p (asked, next, none, ended refl)
goes_refused a false x y p asked next none ended = goes_failed a x y p

pub goes_submit : (a : ℕ) (found : Bool) (x y : ApplicationState) (p q : TablePass) (asked : Asked) (named : Target) (op : Op) (back : PendingReply) → IsSamePass p q
    → calls_of p.number q.seen ≡ calls_of p.number p.seen ++ entry p.number (call.Submit a named op) back ∷ [] → ComesNext x asked → target_of x asked ≡ Some named → op ≡ asked.op
    → (found ≡ true → (answer : Result ℕ SubmitNo) × (back ≡ reply.Submitted answer) × (answer ≢ Err submit_no.Memory) × (y ≡ after_submit x asked answer)) → Goes a found x y p q
goes_submit a found x y p q asked named op back same called next target is answered =
    goes_call a found x y p q (call.Submit a named op) back same called tt (λ was.
    let (answer, as_answered, memory, new) = answered was in
    subst (λ (b : PendingReply). Does a x (at_table (call.Submit a named op) b) y) (sym as_answered) (asked, next, refl, target, is, memory, new))

pub goes_take : (a : ℕ) (found : Bool) (x y : ApplicationState) (p q : TablePass) (asked : Asked) (number : ℕ) (back : PendingReply) (answer : Result Taken TakeNo) → IsSamePass p q
    → calls_of p.number q.seen ≡ calls_of p.number p.seen ++ entry p.number (call.Take number) back ∷ [] → back ≡ reply.Taken answer → next_asked x ≡ Some asked → x.awaits ≡ Some number
    → (found ≡ true → (answer ≢ Err take_no.Unknown) × (y ≡ after_take x asked answer)) → Goes a found x y p q
goes_take a found x y p q asked number back answer same called as_answered next awaits done =
    goes_call a found x y p q (call.Take number) back same called tt (λ was.
    let (known, new) = done was in subst (λ (b : PendingReply). Does a x (at_table (call.Take number) b) y) (sym as_answered) (asked, next, awaits, known, new))

-- ---- where it stops

-- Who awaits an outcome issues no line.
issues_none : (x : ApplicationState) (number : ℕ) → x.awaits ≡ Some number → may_issue x ≡ false
issues_none x number awaits = ap (λ (o : Option ℕ). nat_lt (length x.outcomes) x.queued && is_none o) awaits ∙ by (nat_lt (length x.outcomes) x.queued)
  where
    by : (b : Bool) → (b && false) ≡ false
    by true = refl
    by false = refl

-- It rests where its line is patient and its last look was in vain.
pub rests_waiting : (x : ApplicationState) (asked : Asked) (number : ℕ) (p q : TablePass) (back : PendingReply) → next_asked x ≡ Some asked → is_patient asked.op ≡ true → x.awaits ≡ Some number → IsSamePass p q
    → calls_of p.number q.seen ≡ calls_of p.number p.seen ++ entry p.number (call.Take number) back ∷ [] → back ≡ reply.Taken (Err take_no.NotYet) → Rests x (calls_of q.number q.seen)
rests_waiting x asked number p q back next patient awaits same called answered = (
  issues_none x number awaits,
  inr (record {
    asked = asked;
    next = next;
    patient = patient;
    number = number;
    awaits = awaits;
    pass = p.number;
    before = calls_of p.number p.seen;
    looked = ap (λ (n : ℕ). calls_of n q.seen) same.0 ∙ (called ∙ ap (λ (b : PendingReply). calls_of p.number p.seen ++ entry p.number (call.Take number) b ∷ []) answered);
  }),
)

-- ---- a reply

pub replied_step : (a : TableState) (p q : TablePass) (does : PendingCall) (back : PendingReply) → Called p does back q → IsLegal PendingStep a q.seen → (before : TableState) × (after : TableState) × PendingStep before does back after
replied_step a p q does back (added, is, others) (last, leads) =
    let parted = Leads-parted PendingStep a (p.seen ++ added) (entry p.number does back ∷ []) last (subst (λ (es : List E). Leads PendingStep a es last) is leads) in (parted.0, parted.2.0, parted.2.1)
