-- What applications ask between the other calls of a table leads it on as the calls do that did something.
use Rattle.std.proofs.Common.{◌≡◌, ◌∙◌, ◌≢◌, refl, sym, ap, subst, ℕ, true, List, [], ◌∷◌, ◌++◌, append_assoc, append-nil, Some, None, Option, Ok, Err}
use Rattle.std.specs.Prelude.{Result, is_ok}
use Rattle.rd_irp.specs.declared.op.Op.{Op}
use Rattle.rd_pending.specs.declared.calls.SubmitNo.{SubmitNo}
use Rattle.rd_pending.specs.declared.calls.SubmitNo.TheVariants as submit_no
use Rattle.rd_pending.specs.declared.calls.TakeNo.{TakeNo}
use Rattle.rd_pending.specs.declared.calls.TakeNo.TheVariants as take_no
use Rattle.rd_pending.specs.declared.calls.Taken.{Taken}
use Rattle.rd_pending.specs.declared.calls.Target.{Target}
use Rattle.rd_pending.specs.History.{Call, Holds, accepted_in, accepted_of, after}
use Rattle.rd_pending.specs.Outcomes.{Accepted}
use Rattle.rd_pending.specs.Table.{Fate, TableState, Untaken, awaited, known, submit, submit_refusal, take, untaken_at}
use Rattle.rd_pending.proofs.Reaching.{not_submitted}
use Rattle.rd_table.specs.declared.calls.PendingCall.{PendingCall}
use Rattle.rd_table.specs.declared.calls.PendingCall.TheVariants as ask
use Rattle.rd_table.specs.declared.calls.PendingReply.{PendingReply}
use Rattle.rd_table.specs.declared.calls.PendingReply.TheVariants as reply
use Rattle.rd_table.specs.Calls.{PendingStep, table_calls}
use Rattle.rd_table.specs.Histories.{done_by_all, handed_in}
use Rattle.rd_table.proofs.StepLemmas.{TableSteps, done_more, handed_more, led_steps, steps_go, told_more}
use Rattle.rd_turn.specs.History.{Leads, entry}
use Rattle.rd_host_turns.specs.Turns.{AreQuiet, IsQuietCall, TableEntry}
use Rattle.rd_exchanges.proofs.CallLemmas.{accepted_on, asks_on, goes_on, handed_on, may_go_on}
use Rattle.rd_hosted.specs.Asks.{asked_as, asks_among}
use Rattle.rd_exchanges.specs.Exchanges.{AreAsks, MayGo, accepted_along, goes, handed_of, handed_along}

-- ---- one entry

-- a request that is accepted is refused for no cause
pub not_refused : (t next : TableState) (application : ℕ) (named : Target) (o : Op) (number : ℕ) → submit t application named o ≡ (next, Ok number) → submit_refusal t named ≡ None
not_refused t next application named o number is = go (submit_refusal t named) refl
  where
    go : (r : Option SubmitNo) → submit_refusal t named ≡ r → r ≡ None
    go None e = refl
    go (Some cause) e =
        let refuses : submit t application named o ≡ (t, Err cause) = rw e refl in
        absurd (cc (ap (λ (p : TableState × Result ℕ SubmitNo). is_ok p.1) (sym is ∙ refuses)))

-- nothing is handed out where there is no outcome
pub not_taken : (t new : TableState) (number : ℕ) (cause : TakeNo) → take t number ≡ (new, Err cause) → new ≡ t
not_taken t new number cause is = go (untaken_at t number) refl
  where
    by_fate : (u : Untaken) (f : Fate) → untaken_at t number ≡ Some u → u.fate ≡ f → new ≡ t
    by_fate u awaited e e2 =
        let waits : take t number ≡ (t, Err take_no.NotYet) = rw (e, e2) refl in
        ap (λ (p : TableState × Result Taken TakeNo). p.0) (sym is ∙ waits)
    by_fate u (known outcome) e e2 =
        let gives : is_ok (take t number).1 ≡ true = rw (e, e2) refl in
        absurd (cc (gives, ap (λ (p : TableState × Result Taken TakeNo). is_ok p.1) is))

    go : (o : Option Untaken) → untaken_at t number ≡ o → new ≡ t
    go None e =
        let unknown : take t number ≡ (t, Err take_no.Unknown) = rw e refl in
        ap (λ (p : TableState × Result Taken TakeNo). p.0) (sym is ∙ unknown)
    go (Some u) e = by_fate u u.fate e refl

-- What a quiet entry does: the calls that it is, if it did something, lead from the table before it to the one after it.
pub record Asks (t next : TableState) (does : PendingCall) (back : PendingReply) : Type 0 where
  pub may : MayGo t (asked_as does back)
  pub leads : goes t (asked_as does back) ≡ next
  pub asks : AreAsks (asked_as does back)
  pub hands : (by : ℕ) → handed_in (entry by does back ∷ []) ≡ handed_along t (asked_as does back)
  pub accepts : (by : ℕ) (h : List Call) → after h ≡ t → accepted_in (done_by_all h (table_calls (entry by does back ∷ []))) ≡ accepted_in h ++ accepted_along t (asked_as does back)

-- one that did nothing
asks_nothing : (t next : TableState) (does : PendingCall) (back : PendingReply) → asked_as does back ≡ [] → next ≡ t → ((by : ℕ) → handed_in (entry by does back ∷ []) ≡ [])
    → ((by : ℕ) (h : List Call) → accepted_in (done_by_all h (table_calls (entry by does back ∷ []))) ≡ accepted_in h) → Asks t next does back
asks_nothing t next does back none same silent alike = record {
  may = subst (MayGo t) (sym none) tt;
  leads = ap (goes t) none ∙ sym same;
  asks = subst AreAsks (sym none) tt;
  hands = λ by. silent by ∙ ap (handed_along t) (sym none);
  accepts = λ by h e. alike by h ∙ (sym (append-nil (accepted_in h)) ∙ ap (λ (l : List Call). accepted_in h ++ accepted_along t l) (sym none));
}

pub asks_one : (t next : TableState) (e : TableEntry) → IsQuietCall e.call e.reply → PendingStep t e.call e.reply next → Asks t next e.call e.reply
asks_one t next e quiet step = go e.call e.reply quiet step
  where
    submitted : (application : ℕ) (named : Target) (o : Op) (answer : Result ℕ SubmitNo) → answer ≢ Err submit_no.Memory → PendingStep t (ask.Submit application named o) (reply.Submitted answer) next
        → Asks t next (ask.Submit application named o) (reply.Submitted answer)
    submitted application named o (Ok number) found s =
        let accepts_is : submit t application named o ≡ (next, Ok number) = s.0.1 in
        record {
          may = ((s.0.0, not_refused t next application named o number accepts_is), tt);
          leads = ap (λ (p : TableState × Result ℕ SubmitNo). p.0) accepts_is;
          asks = (tt, tt);
          hands = λ by. refl;
          accepts = λ by h e. ap (λ (u : TableState). accepted_in h ++ accepted_of u application named o ∷ []) e;
        }
    submitted application named o (Err submit_no.Memory) found s = absurd (found refl)
    submitted application named o (Err submit_no.NoChannel) found s = asks_nothing t next _ _ refl (not_submitted t next application named o submit_no.NoChannel s.0.1) (λ by. refl) (λ by h. refl)
    submitted application named o (Err submit_no.NoDevice) found s = asks_nothing t next _ _ refl (not_submitted t next application named o submit_no.NoDevice s.0.1) (λ by. refl) (λ by h. refl)
    submitted application named o (Err (submit_no.StaleHandle was now)) found s =
        asks_nothing t next _ _ refl (not_submitted t next application named o (submit_no.StaleHandle was now) s.0.1) (λ by. refl) (λ by h. refl)
    submitted application named o (Err (submit_no.Full held)) found s = asks_nothing t next _ _ refl (not_submitted t next application named o (submit_no.Full held) s.0.1) (λ by. refl) (λ by h. refl)
    submitted application named o (Err (submit_no.Worn count)) found s = asks_nothing t next _ _ refl (not_submitted t next application named o (submit_no.Worn count) s.0.1) (λ by. refl) (λ by h. refl)

    taken : (number : ℕ) (answer : Result Taken TakeNo) → PendingStep t (ask.Take number) (reply.Taken answer) next → Asks t next (ask.Take number) (reply.Taken answer)
    taken number (Ok given) s =
        let gives : take t number ≡ (next, Ok given) = s.0 in
        record {
          may = (ap (λ (p : TableState × Result Taken TakeNo). is_ok p.1) gives, tt);
          leads = ap (λ (p : TableState × Result Taken TakeNo). p.0) gives;
          asks = (tt, tt);
          hands = λ by. ap (λ (p : TableState × Result Taken TakeNo). handed_of number p.1 ++ []) (sym gives);
          accepts = λ by h e. sym (append-nil (accepted_in h));
        }
    taken number (Err cause) s = asks_nothing t next (ask.Take number) (reply.Taken (Err cause)) refl (not_taken t next number cause s.0) (λ by. refl) (λ by h. refl)

    go : (does : PendingCall) (back : PendingReply) → IsQuietCall does back → PendingStep t does back next → Asks t next does back
    go (ask.Submit application named o) (reply.Submitted answer) q s = submitted application named o answer q s
    go (ask.Take number) (reply.Taken answer) q s = taken number answer s
    go ask.Stage (reply.Stands stage) q s = asks_nothing t next ask.Stage (reply.Stands stage) refl s.0.1 (λ by. refl) (λ by h. refl)
    go does back q s = absurd q

-- ---- one after the other

-- The same of all that was asked between two calls.
pub record AllAsk (t next : TableState) (entries : List TableEntry) : Type 0 where
  pub may : MayGo t (asks_among entries)
  pub leads : goes t (asks_among entries) ≡ next
  pub asks : AreAsks (asks_among entries)
  pub hands : handed_in entries ≡ handed_along t (asks_among entries)
  pub accepts : (h : List Call) → Holds h → after h ≡ t → accepted_in (done_by_all h (table_calls entries)) ≡ accepted_in h ++ accepted_along t (asks_among entries)

pub asks_all : (t next : TableState) (entries : List TableEntry) → AreQuiet entries → Leads PendingStep t entries next → AllAsk t next entries
asks_all t next [] quiet leads = record { may = tt; leads = leads; asks = tt; hands = refl; accepts = λ h holds e. sym (append-nil (accepted_in h)) }
asks_all t next (e ∷ entries) quiet leads =
    let here = leads.0 in
    let one = asks_one t here e quiet.0 leads.1 in
    let rest = asks_all here next entries quiet.1 leads.2 in
    let first : List Call = asked_as e.call e.reply in
    record {
      may = may_go_on t first (asks_among entries) one.may (subst (λ (u : TableState). MayGo u (asks_among entries)) (sym one.leads) rest.may);
      leads = goes_on t first (asks_among entries) ∙ (ap (λ (u : TableState). goes u (asks_among entries)) one.leads ∙ rest.leads);
      asks = asks_on first (asks_among entries) one.asks rest.asks;
      hands = handed_more (e ∷ []) entries ∙ (ap (λ (l : List (ℕ × Taken)). l ++ handed_in entries) (one.hands e.by)
          ∙ (ap (λ (l : List (ℕ × Taken)). handed_along t first ++ l) (rest.hands ∙ ap (λ (u : TableState). handed_along u (asks_among entries)) (sym one.leads)) ∙ sym (handed_on t first (asks_among entries))));
      accepts = λ h holds is. accepts_on one rest h holds is;
    }
  where
    accepts_on : (one : Asks t leads.0 e.call e.reply) (rest : AllAsk leads.0 next entries) (h : List Call) → Holds h → after h ≡ t
        → accepted_in (done_by_all h (table_calls (e ∷ entries))) ≡ accepted_in h ++ accepted_along t (asked_as e.call e.reply ++ asks_among entries)
    accepts_on one rest h holds is =
        let first : List Call = asked_as e.call e.reply in
        let mid : List Call = done_by_all h (table_calls (e ∷ [])) in
        let steps = led_steps t leads.0 (e ∷ []) (leads.0, leads.1, refl) in
        let on = steps_go h leads.0 (table_calls (e ∷ [])) holds (subst (λ (u : TableState). TableSteps u (table_calls (e ∷ [])) leads.0) (sym is) steps) in
        let whole : done_by_all h (table_calls (e ∷ entries)) ≡ done_by_all mid (table_calls entries) = ap (done_by_all h) (told_more (e ∷ []) entries) ∙ done_more h (table_calls (e ∷ [])) (table_calls entries) in
        ap accepted_in whole ∙ (rest.accepts mid on.holds on.is ∙ (ap (λ (l : List Accepted). l ++ accepted_along leads.0 (asks_among entries)) (one.accepts e.by h is)
        ∙ (append_assoc (accepted_in h) (accepted_along t first) (accepted_along leads.0 (asks_among entries))
        ∙ ap (λ (l : List Accepted). accepted_in h ++ l) (ap (λ (u : TableState). accepted_along t first ++ accepted_along u (asks_among entries)) (sym one.leads) ∙ sym (accepted_on t first (asks_among entries))))))
