-- Which entry of a table's history accepts a request, and under which number.
use Rattle.std.proofs.Common.{◌≡◌, ◌∙◌, ◌⊎◌, refl, sym, ap, subst, inl, inr, ℕ, zero, suc, ◌+◌, ◌<◌, ◌≤◌, Bool, true, false, cond, List, [], ◌∷◌, ◌++◌, append_assoc, append-nil, length, Some, None, Ok, Err, Option, arith}
use Rattle.std.specs.Prelude.{Result, is_ok, is_some, slice_get}
use Rattle.std.specs.Result.{result_unwrap_or}
use Rattle.std.proofs.lemmas.List.{length-append}
use Rattle.std.proofs.lemmas.Option.{slice_get_within}
use mathlib.Core.Logic.{dite}
use native.Mathlib.Decide.{dec_le}
use Rattle.rd_irp.specs.declared.op.Op.{Op}
use Rattle.rd_pending.specs.declared.calls.SubmitNo.{SubmitNo}
use Rattle.rd_pending.specs.declared.calls.Target.{Target}
use Rattle.rd_pending.specs.History as call
use Rattle.rd_pending.specs.History.{Call, Holds, accepted_in, accepted_of, after, done_by}
use Rattle.rd_pending.specs.Outcomes.{Accepted}
use Rattle.rd_pending.specs.Table.{TableCall, TableState, TableStep, accept, begins, completes, drops, drops_sent, lives, new_table, removes, sends, submit, submit_refusal, submits, takes}
use Rattle.rd_pending.proofs.AcceptedLemmas.{accepted_since, got_cases, split_at}
use Rattle.rd_pending.proofs.Histories.{sound}
use Rattle.rd_pending.proofs.Reaching.{goes}
use Rattle.rd_turn.specs.History.{Leads, entry}
use Rattle.rd_turn.proofs.HistoryLemmas.{Leads-parted}
use Rattle.rd_table.specs.declared.calls.PendingCall.{PendingCall}
use Rattle.rd_table.specs.declared.calls.PendingCall.TheVariants as ask
use Rattle.rd_table.specs.declared.calls.PendingReply.{PendingReply}
use Rattle.rd_table.specs.declared.calls.PendingReply.TheVariants as reply
use Rattle.rd_table.specs.Calls.{PendingStep, table_call, table_calls}
use Rattle.rd_table.specs.Histories.{Accepts, done_by_all, table_history}
use Rattle.rd_table.proofs.StepLemmas.{E, done_since, history_grows, history_more, led_goes, one_made, told_first}

-- a request that is accepted gets the next number
pub next_number : (t next : TableState) (application : ℕ) (named : Target) (o : Op) (number : ℕ) → submit t application named o ≡ (next, Ok number) → number ≡ suc t.count
next_number t next application named o number is = go (submit_refusal t named) refl
  where
    go : (r : Option SubmitNo) → submit_refusal t named ≡ r → number ≡ suc t.count
    go None e =
        let accepts : submit t application named o ≡ (accept t named o, Ok (suc t.count)) = rw e refl in
        ap (λ (p : TableState × Result ℕ SubmitNo). result_unwrap_or p.1 0) (sym is ∙ accepts)
    go (Some cause) e =
        let refuses : submit t application named o ≡ (t, Err cause) = rw e refl in
        absurd (cc (ap (λ (p : TableState × Result ℕ SubmitNo). is_ok p.1) (sym is ∙ refuses)))

-- ---- the entry's request

pub accepts_numbered : (entries : List E) (t : TableState) (number : ℕ) (a : Accepted) → Leads PendingStep new_table entries t → (one : Accepts entries number a)
    → (more : List Accepted) × (accepted_in (table_history entries) ≡ accepted_in (table_history one.before) ++ a ∷ more) × (number ≡ suc (length (accepted_in (table_history one.before))))
accepts_numbered entries t number a leads one =
    let e : E = entry one.by (ask.Submit one.application one.named one.op) (reply.Submitted (Ok number)) in
    let parted = Leads-parted PendingStep new_table one.before (e ∷ one.later) t (subst (λ (es : List E). Leads PendingStep new_table es t) one.place leads) in
    let goes_there = led_goes one.before parted.0 parted.1 in
    let h : List Call = table_history one.before in
    let asked : Call = call.submits one.application one.named one.op in
    let since = done_since (asked ∷ h) (table_calls one.later) in
    let whole : table_history entries ≡ since.0 ++ asked ∷ h = ap table_history one.place ∙ (history_more one.before (e ∷ one.later) ∙ since.1) in
    let (new, grown) = accepted_since since.0 (asked ∷ h) in
    let is : accepted_of (after h) one.application one.named one.op ≡ a = sym one.request in
    let step = parted.2.1.0 in
    let numbered : number ≡ suc (parted.0).count = next_number parted.0 parted.2.0 one.application one.named one.op number step.1 in
    let counted : (parted.0).count ≡ length (accepted_in h) = ap (λ (s : TableState). s.count) (sym goes_there.is) ∙ (sound h goes_there.holds).count in (
      new,
      ap accepted_in whole ∙ (grown ∙ (append_assoc (accepted_in h) (accepted_of (after h) one.application one.named one.op ∷ []) new ∙ ap (λ (b : Accepted). accepted_in h ++ b ∷ new) is)),
      numbered ∙ ap suc counted,
    )

-- ---- the request's entry

told_submit : (asked : PendingCall) (answer : PendingReply) (application : ℕ) (named : Target) (o : Op) (number : ℕ) → table_call asked answer ≡ Some (submits application named o (Ok number))
    → (asked ≡ ask.Submit application named o) × (answer ≡ reply.Submitted (Ok number))
told_submit (ask.Submit application' named' o') (reply.Submitted answer) application named o number is = (cc is, cc is)
told_submit (ask.Submit application' named' o') reply.Unfit application named o number is = absurd (cc is)
told_submit (ask.Begin channel) (reply.Begun answer) application named o number is = absurd (cc is)
told_submit (ask.Begin channel) reply.Unfit application named o number is = absurd (cc is)
told_submit (ask.Live device) (reply.Lives answer) application named o number is = absurd (cc is)
told_submit ask.Outbox (reply.Sent answer) application named o number is = absurd (cc is)
told_submit (ask.Complete head body) (reply.Completed answer) application named o number is = absurd (cc is)
told_submit (ask.Remove device) (reply.Removed answer) application named o number is = absurd (cc is)
told_submit ask.DropChannel reply.Dropped application named o number is = absurd (cc is)
told_submit ask.DropSent (reply.DroppedSent answer) application named o number is = absurd (cc is)
told_submit (ask.Take n) (reply.Taken answer) application named o number is = absurd (cc is)
told_submit ask.Stage (reply.Stands answer) application named o number is = absurd (cc is)
told_submit asked answer application named o number is = absurd (cc is)

-- A call by which one more request is accepted than before.
record AcceptsBy (h : List Call) (made : TableCall) (i : ℕ) (a : Accepted) : Type 0 where
  pub application : ℕ
  pub named : Target
  pub op : Op
  pub number : ℕ
  pub is : made ≡ submits application named op (Ok number)
  pub request : a ≡ accepted_of (after h) application named op
  pub last : i ≡ length (accepted_in h)

module _ (h : List Call) (i : ℕ) (a : Accepted) (over : length (accepted_in h) ≤ i) where
  none_more : (made : TableCall) → slice_get (accepted_in h) i ≡ Some a → AcceptsBy h made i a
  none_more made at = absurd (omega (arith, over, slice_get_within (accepted_in h) i a at))

  accepting : (made : TableCall) → slice_get (accepted_in (done_by (after h) made ++ h)) i ≡ Some a → AcceptsBy h made i a
  accepting (submits application named o (Ok number)) at = elim (got_cases (accepted_in h) i (accepted_of (after h) application named o) a at) [
    | inl before ↦ none_more (submits application named o (Ok number)) before
    | inr one ↦ record { application = application; named = named; op = o; number = number; is = refl; request = one.1; last = one.0 }
  ]
  accepting (begins channel true) at = none_more (begins channel true) at
  accepting (lives device (Ok life)) at = none_more (lives device (Ok life)) at
  accepting (sends (Some message)) at = none_more (sends (Some message)) at
  accepting (completes head bytes (Ok completed)) at = none_more (completes head bytes (Ok completed)) at
  accepting (removes device true) at = none_more (removes device true) at
  accepting (takes n (Ok taken)) at = none_more (takes n (Ok taken)) at
  accepting drops at = by (is_some (after h).channel) at
    where
      by : (b : Bool) → slice_get (accepted_in (cond b (call.drops ∷ []) [] ++ h)) i ≡ Some a → AcceptsBy h drops i a
      by true e = none_more drops e
      by false e = none_more drops e
  accepting (drops_sent true) at = by (is_some (after h).channel) at
    where
      by : (b : Bool) → slice_get (accepted_in (cond b (call.drops ∷ []) [] ++ h)) i ≡ Some a → AcceptsBy h (drops_sent true) i a
      by true e = none_more (drops_sent true) e
      by false e = none_more (drops_sent true) e
  accepting made at = none_more made at

got_in : (xs ys : List Accepted) (i : ℕ) (a : Accepted) → i < length xs → slice_get (xs ++ ys) i ≡ Some a → slice_get xs i ≡ Some a
got_in [] ys i a low at = absurd (omega (arith, low))
got_in (x ∷ xs) ys zero a low at = at
got_in (x ∷ xs) ys (suc i) a low at = got_in xs ys i a (omega (arith, low)) at

-- the request after so many, which an entry accepted that comes after these
found : (past rest : List E) (t : TableState) → Holds (table_history past) → Leads PendingStep (after (table_history past)) rest t → (i : ℕ) (a : Accepted)
    → slice_get (accepted_in (table_history (past ++ rest))) i ≡ Some a → length (accepted_in (table_history past)) ≤ i → Accepts (past ++ rest) (suc i) a
found past [] t holds leads i a at over =
    let here : slice_get (accepted_in (table_history past)) i ≡ Some a = subst (λ (es : List E). slice_get (accepted_in (table_history es)) i ≡ Some a) (append-nil past) at in
    absurd (omega (arith, over, slice_get_within (accepted_in (table_history past)) i a here))
found past (e ∷ rest) t holds leads i a at over =
    let h : List Call = table_history past in
    let (made, told, step) = one_made (table_call e.call e.reply) (λ (c : TableCall). TableStep (after h) c leads.0) leads.1.0 in
    let on = goes h holds made leads.0 step in
    let past' : List E = past ++ e ∷ [] in
    let grown : table_history past' ≡ done_by (after h) made ++ h = history_more past (e ∷ []) ∙ ap (done_by_all h) (told_first e [] made told) in
    let whole : past' ++ rest ≡ past ++ e ∷ rest = append_assoc past (e ∷ []) rest in
    let at' : slice_get (accepted_in (table_history (past' ++ rest))) i ≡ Some a = subst (λ (es : List E). slice_get (accepted_in (table_history es)) i ≡ Some a) (sym whole) at in
    let leads' : Leads PendingStep (after (table_history past')) rest t = subst (λ (s : TableState). Leads PendingStep s rest t) (sym (ap after grown ∙ on.is)) leads.2 in
    dite (dec_le (length (accepted_in (table_history past'))) i)
    (λ le. subst (λ (es : List E). Accepts es (suc i) a) whole (found past' rest t (subst Holds (sym grown) on.holds) leads' i a at' le))
    (λ less.
    let since = history_grows past' rest in
    let (new, more) = accepted_since since.0 (table_history past') in
    let low : i < length (accepted_in (table_history past')) = omega arith in
    let within : slice_get (accepted_in (table_history past')) i ≡ Some a = got_in (accepted_in (table_history past')) new i a low (ap (λ (xs : List Accepted). slice_get xs i) (sym (ap accepted_in since.1 ∙ more)) ∙ at') in
    let accepts = accepting h i a over made (subst (λ (x : List Call). slice_get (accepted_in x) i ≡ Some a) grown within) in
    let own = told_submit e.call e.reply accepts.application accepts.named accepts.op accepts.number (told ∙ ap Some accepts.is) in
    let submitted = subst (λ (c : TableCall). TableStep (after h) c leads.0) accepts.is step in
    let number : accepts.number ≡ suc i = next_number (after h) leads.0 accepts.application accepts.named accepts.op accepts.number submitted.1 ∙ ap suc ((sound h holds).count ∙ sym accepts.last) in
    let is : e ≡ entry e.by (ask.Submit accepts.application accepts.named accepts.op) (reply.Submitted (Ok (suc i))) =
    ap (λ (p : PendingCall). entry e.by p e.reply) own.0 ∙ ap (λ (r : PendingReply). entry e.by (ask.Submit accepts.application accepts.named accepts.op) r) (own.1 ∙ ap (λ (n : ℕ). reply.Submitted (Ok n)) number) in
    record {
      before = past;
      later = rest;
      by = e.by;
      application = accepts.application;
      named = accepts.named;
      op = accepts.op;
      place = ap (λ (x : E). past ++ x ∷ rest) is;
      request = accepts.request;
    })

pub accepted_by_one : (entries : List E) (t : TableState) (earlier later : List Accepted) (a : Accepted) → Leads PendingStep new_table entries t
    → accepted_in (table_history entries) ≡ earlier ++ a ∷ later → Accepts entries (suc (length earlier)) a
accepted_by_one entries t earlier later a leads parts =
    let at : slice_get (accepted_in (table_history entries)) (length earlier) ≡ Some a = ap (λ (xs : List Accepted). slice_get xs (length earlier)) parts ∙ (split_at earlier later a).0 in
    found [] entries t tt leads (length earlier) a at (omega arith)

-- ---- no other entry has its number

-- of two places in a list
both_places : (xs ys zs ws : List E) (a b : E) → xs ++ a ∷ ys ≡ zs ++ b ∷ ws
    → ((xs ≡ zs) × (a ≡ b)) ⊎ (((more : List E) × (zs ≡ xs ++ a ∷ more)) ⊎ ((more : List E) × (xs ≡ zs ++ b ∷ more)))
both_places [] ys [] ws a b is = inl (refl, cc is)
both_places [] ys (z ∷ zs) ws a b is = let heads : a ≡ z = cc is in inr (inl (zs, ap (λ (e : E). e ∷ zs) (sym heads)))
both_places (x ∷ xs) ys [] ws a b is = let heads : x ≡ b = cc is in inr (inr (xs, ap (λ (e : E). e ∷ xs) heads))
both_places (x ∷ xs) ys (z ∷ zs) ws a b is =
    let heads : x ≡ z = cc is in
    elim (both_places xs ys zs ws a b (cc is)) [
      | inl same ↦ inl (cc (heads, same.0), same.1)
      | inr apart ↦ elim apart [
        | inl first ↦ inr (inl (first.0, ap (λ (e : E). e ∷ zs) (sym heads) ∙ ap (λ (l : List E). x ∷ l) first.1))
        | inr second ↦ inr (inr (second.0, ap (λ (e : E). e ∷ xs) heads ∙ ap (λ (l : List E). z ∷ l) second.1))
      ]
    ]

-- the entry that accepts a request
abbrev entry_of : {entries : List E} {number : ℕ} {a : Accepted} → Accepts entries number a → E
entry_of {entries} {number} {a} one = entry one.by (ask.Submit one.application one.named one.op) (reply.Submitted (Ok number))

-- an entry that accepts under a number doesn't stand before another that does
not_before : (entries : List E) (t : TableState) (number : ℕ) (a b : Accepted) → Leads PendingStep new_table entries t → (one : Accepts entries number a) (other : Accepts entries number b)
    → (more : List E) → other.before ≡ one.before ++ entry_of one ∷ more → ⊥
not_before entries t number a b leads one other more is =
    let first = accepts_numbered entries t number a leads one in
    let second = accepts_numbered entries t number b leads other in
    let parted = Leads-parted PendingStep new_table other.before (entry_of other ∷ other.later) t (subst (λ (es : List E). Leads PendingStep new_table es t) other.place leads) in
    let inner : Accepts other.before number a =
    record { before = one.before; later = more; by = one.by; application = one.application; named = one.named; op = one.op; place = is; request = one.request } in
    let within = accepts_numbered other.before parted.0 number a parted.1 inner in
    let longer : length (accepted_in (table_history other.before)) ≡ length (accepted_in (table_history one.before)) + suc (length within.0) =
    ap length within.1 ∙ length-append (accepted_in (table_history one.before)) (a ∷ within.0) in
    omega (arith, first.2, second.2, longer)

pub accepts_once : (entries : List E) (t : TableState) (number : ℕ) (a b : Accepted) → Leads PendingStep new_table entries t → (one : Accepts entries number a) (other : Accepts entries number b)
    → (one.before ≡ other.before) × (one.by ≡ other.by) × (a ≡ b)
accepts_once entries t number a b leads one other = elim (both_places one.before one.later other.before other.later (entry_of one) (entry_of other) (sym one.place ∙ other.place)) [
  | inl same ↦
      let asked : ask.Submit one.application one.named one.op ≡ ask.Submit other.application other.named other.op = ap (λ (e : E). e.call) same.1 in
      let application : one.application ≡ other.application = cc asked in
      let named : one.named ≡ other.named = cc asked in
      let op : one.op ≡ other.op = cc asked in
      let requests : accepted_of (after (table_history one.before)) one.application one.named one.op ≡ accepted_of (after (table_history other.before)) other.application other.named other.op =
      cc (same.0, application, named, op) in
      (same.0, ap (λ (e : E). e.by) same.1, one.request ∙ (requests ∙ sym other.request))
  | inr apart ↦ elim apart [
    | inl before ↦ absurd (not_before entries t number a b leads one other before.0 before.1)
    | inr behind ↦ absurd (not_before entries t number b a leads other one behind.0 behind.1)
  ]
]
