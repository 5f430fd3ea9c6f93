-- Each line of an application has what came of its own request, where each outcome that was handed out is its own request's.
use Rattle.std.proofs.Common.{◌≡◌, ◌∙◌, inl, inr, refl, sym, ap, subst, ℕ, suc, ◌+◌, ◌==◌, ◌≤◌, ◌<◌, ◌≢◌, Bool, true, false, List, [], ◌∷◌, ◌++◌, append-nil, append_assoc, length, length-append, length-take-le, take, Contains, arith, Some, None, Option, Result, Ok, Err, eqb-true, is_ok, is_some}
use Rattle.std.specs.Prelude.{slice_get}
use Rattle.std.specs.Option.{unwrap_or}
use Rattle.std.specs.List.{AllByRecursion}
use Rattle.std.proofs.lemmas.List.Elements.{Contains-append_right}
use Rattle.std.proofs.lemmas.Option.{slice_get_within}
use mathlib.Core.Logic.{dite}
use native.Mathlib.Decide.{dec_le}
use Rattle.rd_irp.specs.declared.op.Op.{Op}
use Rattle.rd_pending.specs.declared.calls.SubmitNo.{SubmitNo}
use Rattle.rd_pending.specs.declared.calls.Taken.{Taken}
use Rattle.rd_pending.specs.declared.calls.Target.{Target}
use Rattle.rd_pending.specs.declared.calls.Target.TheVariants as target
use Rattle.rd_pending.specs.History.{Call, accepted_in, accepted_of, after}
use Rattle.rd_pending.specs.Outcomes.{Accepted}
use Rattle.rd_pending.specs.Table.{TableState, device_in, life_of, new_table, submit, submit_refusal}
use Rattle.rd_pending.proofs.Effects.{Submits, submits}
use Rattle.rd_pending.proofs.AcceptedLemmas.{accepted_since, split_at, split_of}
use Rattle.rd_script.specs.declared.outcome.Outcome.{Outcome}
use Rattle.rd_table.specs.declared.calls.PendingCall.TheVariants as ask
use Rattle.rd_table.specs.declared.calls.PendingReply.TheVariants as answer
use Rattle.rd_table.specs.Calls.{PendingStep}
use Rattle.rd_table.specs.Histories.{Accepts, handed_in, table_history}
use Rattle.rd_table.proofs.AcceptsLemmas.{accepted_by_one, accepts_numbered}
use Rattle.rd_table.proofs.StepLemmas.{handed_more, history_grows, history_more, led_goes}
use Rattle.rd_turn.specs.History.{Leads, entry}
use Rattle.rd_turn.proofs.HistoryLemmas.{Leads-parted}
use Rattle.rd_world.specs.Events.{target_of}
use Rattle.rd_deeds.specs.HostDeeds.{calls_of}
use Rattle.rd_world.specs.Recording.{client_id}
use Rattle.rd_deeds.specs.Talk.{Deed}
use Rattle.rd_deeds.specs.Told.{Replies}
use Rattle.rd_world.specs.World.{ApplicationState, Asked}
use Rattle.rd_host_lines.specs.Outcomes.{AnswerCame, AsksNothing, IsNoRequestOf, LineCame, LinesCame}
use Rattle.rd_host_turns.specs.Turns.{TableEntry}
use Rattle.rd_host_turns.proofs.CountLemmas.{all_both}
use Rattle.rd_peers.specs.Lines.{AreOthers, IsOfLife, LineIsOwn, LinesAreOwn}
use Rattle.rd_peers.specs.Peers.{IsOwnOutcome}

-- how many requests were accepted by these entries
abbrev accepted_by : List TableEntry → ℕ
accepted_by entries = length (accepted_in (table_history entries))

accepted_grows : (before later : List TableEntry) → accepted_by before ≤ accepted_by (before ++ later)
accepted_grows before later =
    let (more, grown) = history_grows before later in
    let (new, since) = accepted_since more (table_history before) in
    let is : accepted_by (before ++ later) ≡ accepted_by before + length new =
    ap (λ (h : List Call). length (accepted_in h)) grown ∙ ap length since ∙ length-append (accepted_in (table_history before)) new in
    omega (arith, is)

-- with the entry that accepts a request there is one more
accepted_more : (before : List TableEntry) (by a number : ℕ) (named : Target) (x : Asked)
    → accepted_by (before ++ entry by (ask.Submit a named x.op) (answer.Submitted (Ok number)) ∷ []) ≡ suc (accepted_by before)
accepted_more before by a number named x =
    let e : TableEntry = entry by (ask.Submit a named x.op) (answer.Submitted (Ok number)) in
    let h = table_history before in
    let is : accepted_by (before ++ e ∷ []) ≡ accepted_by before + 1 =
    ap (λ (k : List Call). length (accepted_in k)) (history_more before (e ∷ [])) ∙ length-append (accepted_in h) (accepted_of (after h) a named x.op ∷ []) in
    omega (arith, is)

-- one that is refused accepts none
accepted_none : (before : List TableEntry) (by a : ℕ) (cause : SubmitNo) (named : Target) (x : Asked)
    → accepted_by (before ++ entry by (ask.Submit a named x.op) (answer.Submitted (Err cause)) ∷ []) ≡ accepted_by before
accepted_none before by a cause named x = ap (λ (k : List Call). length (accepted_in k)) (history_more before (entry by (ask.Submit a named x.op) (answer.Submitted (Err cause)) ∷ []))

-- ---- the life of a request

is_free : (old next : TableState) (a number : ℕ) (named : Target) (o : Op) → submit old a named o ≡ (next, Ok number) → submit_refusal old named ≡ None
is_free old next a number named o is = go (submit_refusal old named) refl
  where
    go : (r : Option SubmitNo) → submit_refusal old named ≡ r → submit_refusal old named ≡ None
    go None e = e
    go (Some cause) e =
        let refuses : submit old a named o ≡ (old, Err cause) = rw e refl in
        absurd (cc (ap (λ (p : TableState × Result ℕ SubmitNo). is_ok p.1) (sym is ∙ refuses)))

-- A request that is accepted by a handle is of the handle's life.
life_kept : (s : TableState) (a : ℕ) (named : Target) (o : Op) → submit_refusal s named ≡ None → IsOfLife named (unwrap_or (life_of s (device_in named)) 0)
life_kept s a (target.Device device) o free = tt
life_kept s a (target.Handle h) o free = go (h.life == (its.life)) refl
  where
    its : Submits s a (target.Handle h) o
    its = submits s a (target.Handle h) o free

    go : (b : Bool) → (h.life == (its.life)) ≡ b → unwrap_or (life_of s h.device) 0 ≡ h.life
    go true e = ap (λ (l : Option ℕ). unwrap_or l 0) its.present ∙ sym (eqb-true h.life its.life e)
    go false e = let some : is_some (submit_refusal s (target.Handle h)) ≡ true = rw (its.is_open, its.present, e) refl in absurd (cc (ap is_some free, some))

-- ---- where an entry stands

-- among those that stand in the middle, each of which is such a one
in_middle : (P : TableEntry → Type 0) (done between rest before later : List TableEntry) (e : TableEntry) → done ++ (between ++ rest) ≡ before ++ e ∷ later
    → length done ≤ length before → length before < length done + length between → AllByRecursion P between → P e
in_middle P [] [] rest before later e is low high all = absurd (omega (arith, high))
in_middle P [] (m ∷ between) rest [] later e is low high all = let same : m ≡ e = cc is in subst P same all.0
in_middle P [] (m ∷ between) rest (x ∷ before) later e is low high all = in_middle P [] between rest before later e (cc is) (omega arith) (omega (arith, high)) all.1
in_middle P (d ∷ done) between rest [] later e is low high all = absurd (omega (arith, low))
in_middle P (d ∷ done) between rest (x ∷ before) later e is low high all = in_middle P done between rest before later e (cc is) (omega (arith, low)) (omega (arith, high)) all

-- before others: then it is one of these
within : (first rest before later : List TableEntry) (e : TableEntry) → first ++ rest ≡ before ++ e ∷ later → length before < length first → (more : List TableEntry) × (first ≡ before ++ e ∷ more)
within [] rest before later e is low = absurd (omega (arith, low))
within (d ∷ first) rest [] later e is low = let same : d ≡ e = cc is in (first, ap (λ (y : TableEntry). y ∷ first) same)
within (d ∷ first) rest (x ∷ before) later e is low =
    let (more, there) = within first rest before later e (cc is) (omega (arith, low)) in
    let same : d ≡ x = cc is in
    (more, λ i. same i ∷ there i)

-- behind these: then they stand before it
behind : (first rest before later : List TableEntry) (e : TableEntry) → first ++ rest ≡ before ++ e ∷ later → length first ≤ length before → (more : List TableEntry) × (before ≡ first ++ more)
behind [] rest before later e is low = (before, refl)
behind (d ∷ first) rest [] later e is low = absurd (omega (arith, low))
behind (d ∷ first) rest (x ∷ before) later e is low =
    let (more, there) = behind first rest before later e (cc is) (omega (arith, low)) in
    let same : x ≡ d = cc is in
    (more, λ i. same i ∷ there i)

module _ (a : ℕ) (seen : List TableEntry) (t : TableState) (leads : Leads PendingStep new_table seen t) where
  abbrev all_requests : List Accepted
  all_requests = accepted_in (table_history seen)

  -- from this place on up to another, the requests are of other applications
  abbrev Quiet : ℕ → ℕ → Type 0
  Quiet first end = (place : ℕ) (r : Accepted) → slice_get all_requests place ≡ Some r → first ≤ place → place < end → r.application ≢ a

  -- What is accepted while an application asks for nothing is of others.
  others_accepted : (done between rest : List TableEntry) → seen ≡ done ++ (between ++ rest) → AsksNothing a between → Quiet (accepted_by done) (accepted_by (done ++ between))
  others_accepted done between rest parts none place r got low high =
      let (later, split) = split_of place all_requests r got in
      let least = slice_get_within all_requests place r got in
      let counted : length (take place all_requests) ≡ place = length-take-le place all_requests (omega (arith, least)) in
      let one : Accepts seen (suc (length (take place all_requests))) r = accepted_by_one seen t (take place all_requests) later r leads split in
      let numbered = (accepts_numbered seen t (suc (length (take place all_requests))) r leads one).2 in
      let e : TableEntry = entry one.by (ask.Submit one.application one.named one.op) (answer.Submitted (Ok (suc (length (take place all_requests))))) in
      let at : place ≡ accepted_by one.before = sym counted ∙ cc numbered in
      let asked : Asked = record { handle = []; device = None; op = one.op } in
      let one_more = accepted_more one.before one.by one.application (suc (length (take place all_requests))) one.named asked in
      let whole : done ++ (between ++ rest) ≡ one.before ++ e ∷ one.later = sym parts ∙ one.place in
      let front : (done ++ between) ++ rest ≡ one.before ++ e ∷ one.later = append_assoc done between rest ∙ whole in
      let first : length done ≤ length one.before = dite (dec_le (length done) (length one.before)) (λ le. le) (λ less.
      let (more, there) = within done (between ++ rest) one.before one.later e whole (omega (arith, less)) in
      let grown = accepted_grows (one.before ++ e ∷ []) more in
      let same : accepted_by done ≡ accepted_by ((one.before ++ e ∷ []) ++ more) = ap accepted_by (there ∙ sym (append_assoc one.before (e ∷ []) more)) in
      absurd (omega (arith, grown, same, one_more, at, low))) in
      let last : length one.before < length done + length between = dite (dec_le (length (done ++ between)) (length one.before)) (λ le.
      let (more, there) = behind (done ++ between) rest one.before one.later e front le in
      let grown = accepted_grows (done ++ between) more in
      let same : accepted_by one.before ≡ accepted_by ((done ++ between) ++ more) = ap accepted_by there in
      absurd (omega (arith, grown, same, at, high))) (λ less. let sum = length-append done between in omega (arith, less, sum)) in
      let other : one.application ≢ a = in_middle (λ (x : TableEntry). IsNoRequestOf a x.call) done between rest one.before one.later e whole first last none in
      λ is. other (sym (ap (λ (x : Accepted). x.application) one.request) ∙ is)

  -- a place further
  quiet_more : (above : ℕ) (done between rest : List TableEntry) → seen ≡ done ++ (between ++ rest) → AsksNothing a between → Quiet above (accepted_by done) → Quiet above (accepted_by (done ++ between))
  quiet_more above done between rest parts none quiet place r got low high =
      dite (dec_le (accepted_by done) place) (λ le. others_accepted done between rest parts none place r got le high) (λ less. quiet place r got low (omega (arith, less)))

module _ (replies : Replies) (deeds : List Deed) (a : ℕ) (seen : List TableEntry) (t : TableState) (leads : Leads PendingStep new_table seen t)
    (outs : (number : ℕ) (taken : Taken) → Contains (handed_in seen) (number, taken) → IsOwnOutcome client_id replies deeds number taken)
    (same : accepted_in (calls_of client_id deeds) ≡ accepted_in (table_history seen)) where
  -- what was handed out for the number of a request is that request's
  request_is : (number : ℕ) (request : Accepted) (one : Accepts seen number request) (taken : Taken) (own : IsOwnOutcome client_id replies deeds number taken) → own.request ≡ request
  request_is number request one taken own =
      let (more, whole, numbered) = accepts_numbered seen t number request leads one in
      let earlier : List Accepted = accepted_in (table_history one.before) in
      let lists : (own.came).earlier ++ own.request ∷ (own.came).later ≡ earlier ++ request ∷ more = sym (own.came).accepted ∙ same ∙ whole in
      let lengths : length (own.came).earlier ≡ length earlier = cc (own.numbered, numbered) in
      cc (
        (split_at (own.came).earlier (own.came).later own.request).0,
        (split_at earlier more request).0,
        ap (λ (xs : List Accepted). slice_get xs (length (own.came).earlier)) lists,
        lengths,
      )

  abbrev IsQuiet : ℕ → ℕ → Type 0
  IsQuiet first end = Quiet a seen t leads first end

  -- the same of the requests that the deeds accept
  quiet_between : (above end : ℕ) → IsQuiet above end → AreOthers a (accepted_in (calls_of client_id deeds)) (suc above) (suc end)
  quiet_between above end quiet place r got low high = quiet place r (subst (λ (rs : List Accepted). slice_get rs place ≡ Some r) same got) (omega (arith, low)) (omega (arith, high))

  -- what comes of the lines behind these entries, by which the application's last request, if it has one, was accepted under this number
  abbrev Goes : List Asked → List Outcome → Type 0
  Goes xs os = (above : ℕ) (holds : ApplicationState) (done entries : List TableEntry) → seen ≡ done ++ entries → above ≤ accepted_by done → IsQuiet above (accepted_by done) → LinesCame a holds xs os entries
      → LinesAreOwn client_id replies deeds seen a above holds xs os

  module _ (above : ℕ) (holds : ApplicationState) (x : Asked) (xs : List Asked) (o : Outcome) (os : List Outcome) (goes : Goes xs os) where
    answered : (named : Target) (by : ℕ) (before others : List TableEntry) (got : Result ℕ SubmitNo) → seen ≡ before ++ entry by (ask.Submit a named x.op) (answer.Submitted got) ∷ others
        → above ≤ accepted_by before → IsQuiet above (accepted_by before) → AnswerCame a holds x o (λ next rest. LinesCame a next xs os rest) got others
        → LineIsOwn client_id replies deeds seen a above holds x o (λ number next. LinesAreOwn client_id replies deeds seen a number next xs os) (Some named)
    answered named by before others (Err cause) place few quiet (other, is, came) =
        let e : TableEntry = entry by (ask.Submit a named x.op) (answer.Submitted (Err cause)) in
        let still : accepted_by (before ++ e ∷ []) ≡ accepted_by before = accepted_none before by a cause named x in
        inl (cause, other, is, goes above _ (before ++ e ∷ []) others (place ∙ sym (append_assoc before (e ∷ []) others)) (omega (arith, few, still)) (subst (IsQuiet above) (sym still) quiet) came)
    answered named by before others (Ok number) place few quiet (between, who, taken, rest, splits, none, is, came) =
        let e : TableEntry = entry by (ask.Submit a named x.op) (answer.Submitted (Ok number)) in
        let gives : TableEntry = entry who (ask.Take number) (answer.Taken (Ok taken)) in
        let request : Accepted = accepted_of (after (table_history before)) a named x.op in
        let one : Accepts seen number request = record { before = before; later = others; by = by; application = a; named = named; op = x.op; place = place; request = refl } in
        let numbered = (accepts_numbered seen t number request leads one).2 in
        let parted = Leads-parted PendingStep new_table before (e ∷ others) t (subst (λ (es : List TableEntry). Leads PendingStep new_table es t) place leads) in
        let step = parted.2.1.0 in
        let there_is : after (table_history before) ≡ parted.0 = (led_goes before parted.0 parted.1).is in
        let life : IsOfLife named request.life =
        subst (λ (s : TableState). IsOfLife named (unwrap_or (life_of s (device_in named)) 0)) (sym there_is)
        (life_kept parted.0 a named x.op (is_free parted.0 parted.2.0 a number named x.op step.1)) in
        let left : List TableEntry = (before ++ e ∷ []) ++ between in
        let there : seen ≡ left ++ gives ∷ rest =
        place ∙ ap (λ (l : List TableEntry). before ++ e ∷ l) splits ∙ sym (append_assoc before (e ∷ []) (between ++ gives ∷ rest)) ∙ sym (append_assoc (before ++ e ∷ []) between (gives ∷ rest)) in
        let handed : handed_in seen ≡ handed_in left ++ (number, taken) ∷ handed_in rest = ap handed_in there ∙ handed_more left (gives ∷ rest) in
        let has : Contains (handed_in seen) (number, taken) =
        subst (λ (l : List (ℕ × Taken)). Contains l (number, taken)) (sym handed) (Contains-append_right (handed_in left) ((number, taken) ∷ handed_in rest) (number, taken) (0, omega arith, refl)) in
        let own = outs number taken has in
        let its = request_is number request one taken own in
        let counted : number ≡ accepted_by (before ++ e ∷ []) = numbered ∙ sym (accepted_more before by a number named x) in
        let grows = accepted_grows (before ++ e ∷ []) (between ++ gives ∷ []) in
        let last : List TableEntry = (before ++ e ∷ []) ++ (between ++ gives ∷ []) in
        let end : seen ≡ last ++ rest =
        there ∙ append_assoc (before ++ e ∷ []) between (gives ∷ rest) ∙ ap (λ (l : List TableEntry). (before ++ e ∷ []) ++ l) (sym (append_assoc between (gives ∷ []) rest))
        ∙ sym (append_assoc (before ++ e ∷ []) (between ++ gives ∷ []) rest) in
        let none_more : AsksNothing a (between ++ gives ∷ []) = all_both (λ (z : TableEntry). IsNoRequestOf a z.call) between (gives ∷ []) none (tt, tt) in
        let behind_it : IsQuiet (accepted_by (before ++ e ∷ [])) (accepted_by last) =
        others_accepted a seen t leads (before ++ e ∷ []) (between ++ gives ∷ []) rest (end ∙ append_assoc (before ++ e ∷ []) (between ++ gives ∷ []) rest) none_more in
        let quiet_behind : IsQuiet number (accepted_by last) = subst (λ (n : ℕ). IsQuiet n (accepted_by last)) (sym counted) behind_it in
        inr (
          record {
            number = number;
            new = omega (arith, few, numbered);
            next = subst (AreOthers a (accepted_in (calls_of client_id deeds)) (suc above)) (sym numbered) (quiet_between above (accepted_by before) quiet);
            taken = taken;
            handed = has;
            own = own;
            application = ap (λ (r : Accepted). r.application) its;
            device = ap (λ (r : Accepted). r.device) its;
            file = ap (λ (r : Accepted). r.file) its;
            life = subst (λ (r : Accepted). IsOfLife named r.life) (sym its) life;
            op = ap (λ (r : Accepted). r.op) its;
            is = is;
          },
          goes number _ last rest end (omega (arith, counted, grows)) quiet_behind came,
        )

    line : (done entries : List TableEntry) → seen ≡ done ++ entries → above ≤ accepted_by done → IsQuiet above (accepted_by done) → (named : Option Target) → LineCame a holds x o (λ next rest. LinesCame a next xs os rest) entries named
        → LineIsOwn client_id replies deeds seen a above holds x o (λ number next. LinesAreOwn client_id replies deeds seen a number next xs os) named
    line done entries at few quiet None (is, came) = (is, goes above _ done entries at few quiet came)
    line done entries at few quiet (Some named) (between, by, got, others, splits, none, came) =
        let grows = accepted_grows done between in
        let e : TableEntry = entry by (ask.Submit a named x.op) (answer.Submitted got) in
        let parts : seen ≡ done ++ (between ++ e ∷ others) = at ∙ ap (λ (l : List TableEntry). done ++ l) splits in
        answered named by (done ++ between) others got
        (parts ∙ sym (append_assoc done between (e ∷ others))) (omega (arith, few, grows)) (quiet_more a seen t leads above done between (e ∷ others) parts none quiet) came

  pub lines_own : (xs : List Asked) (os : List Outcome) → Goes xs os
  lines_own [] [] above holds done entries at few quiet came =
      let on : IsQuiet above (accepted_by (done ++ entries)) = quiet_more a seen t leads above done entries [] (at ∙ ap (λ (l : List TableEntry). done ++ l) (sym (append-nil entries))) came quiet in
      let all : IsQuiet above (accepted_by seen) = subst (λ (l : List TableEntry). IsQuiet above (accepted_by l)) (sym at) on in
      subst (λ (n : ℕ). AreOthers a (accepted_in (calls_of client_id deeds)) (suc above) (suc n)) (sym (ap length same)) (quiet_between above (accepted_by seen) all)
  lines_own [] (o ∷ os) above holds done entries at few quiet came = came
  lines_own (x ∷ xs) [] above holds done entries at few quiet came = came
  lines_own (x ∷ xs) (o ∷ os) above holds done entries at few quiet came = line above holds x xs o os (lines_own xs os) done entries at few quiet (target_of holds x) came
