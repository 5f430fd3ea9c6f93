-- What an application did up to where it rests, with the calls that it made by that in a history: what came so far of the lines to which the script came.
use Rattle.std.proofs.Common.{◌≡◌, ◌≢◌, ◌∙◌, ◌⊎◌, inl, inr, refl, sym, ap, subst, ℕ, ◌+◌, ◌<◌, ◌≤◌, Bool, true, List, [], ◌∷◌, ◌++◌, length, length-append, append_assoc, append-nil, arith, Some, None, Option, Result, Ok, Err}
use Rattle.std.specs.List.{AllByRecursion}
use Rattle.rd_irp.specs.declared.op.Op.{Op}
use Rattle.rd_issuer.specs.Issues.{Issue, at_table, holds_nothing, is_patient}
use Rattle.rd_pending.specs.declared.calls.SubmitNo.{SubmitNo}
use Rattle.rd_pending.specs.declared.calls.SubmitNo.TheVariants as submit_no
use Rattle.rd_pending.specs.declared.calls.TakeNo.{TakeNo}
use Rattle.rd_pending.specs.declared.calls.TakeNo.TheVariants as take_no
use Rattle.rd_pending.specs.declared.calls.Taken.{Taken}
use Rattle.rd_pending.specs.declared.calls.Target.{Target}
use Rattle.rd_script.specs.declared.outcome.Outcome.{Outcome}
use Rattle.rd_script.specs.declared.outcome.Outcome.TheVariants as outcome
use Rattle.rd_script.specs.declared.outcome.Refusal.TheVariants as refusal
use Rattle.rd_table.specs.declared.calls.PendingCall.{PendingCall}
use Rattle.rd_table.specs.declared.calls.PendingCall.TheVariants as call
use Rattle.rd_table.specs.declared.calls.PendingReply.{PendingReply}
use Rattle.rd_table.specs.declared.calls.PendingReply.TheVariants as reply
use Rattle.rd_turn.specs.History.{entry}
use Rattle.rd_world.specs.Events.{refusal_of, target_of}
use Rattle.rd_world.specs.Hearing.{given_handle, holding_after, next_asked, reported_outcome, with_outcome}
use Rattle.rd_world.specs.World.{ApplicationState, Asked}
use Rattle.rd_host_turns.specs.Turns.{TableEntry}
use Rattle.rd_host_turns.proofs.CountLemmas.{all_both, all_right}
use Rattle.rd_host_lines.specs.Outcomes.{AnswerCame, AsksNothing, IsNoRequestOf, LineCame}
use Rattle.rd_host_lines.specs.Places.{FindsNothing, IsAwaitedStill, LinesCameSoFar}
use Rattle.rd_host_lines.proofs.OutcomeLemmas.{AreMine, DidAll, First, StandsAt, asks_none, calls_by, calls_in, first_call, more_outcomes, names_same, next_is, op_same, refused_for, stands_on}

-- ---- where it rests

-- a call of a history, with its reply, that looked for a number's outcome and found none
abbrev pub looked_in_vain : ℕ → PendingCall × PendingReply
looked_in_vain number = (call.Take number, reply.Taken (Err take_no.NotYet))

-- The last of these calls did, if there is one.
abbrev pub LooksLast : ℕ → List (PendingCall × PendingReply) → Type 0
LooksLast number [] = Unit {0}
LooksLast number (c ∷ []) = c ≡ looked_in_vain number
LooksLast number (c ∷ d ∷ calls) = LooksLast number (d ∷ calls)

looks_later : (number : ℕ) (c : PendingCall × PendingReply) (calls : List (PendingCall × PendingReply)) → LooksLast number (c ∷ calls) → LooksLast number calls
looks_later number c [] last = tt
looks_later number c (d ∷ calls) last = last

-- behind a request that was accepted a look stands
no_take : (application number : ℕ) (named : Target) (op : Op) (calls : List (PendingCall × PendingReply)) → calls ≡ [] → LooksLast number ((call.Submit application named op, reply.Submitted (Ok number)) ∷ calls) → ⊥
no_take application number named op [] empty last = let does : call.Submit application named op ≡ call.Take number = ap (λ (p : PendingCall × PendingReply). p.0) last in absurd (cc does)
no_take application number named op (c ∷ calls) empty last = absurd (cc empty)

-- The next line is awaited, which is patient; so many lines there are at least.
pub record IsHeld (new : ApplicationState) (total : ℕ) : Type 0 where
  pub number : ℕ
  pub awaits : new.awaits ≡ Some number
  pub asked : Asked
  pub next : next_asked new ≡ Some asked
  pub patient : is_patient asked.op ≡ true
  pub less : length new.outcomes < total

-- All lines have outcomes, of which there are so many; or one is awaited.
abbrev pub IsAtRest : ApplicationState → ℕ → Type 0
IsAtRest new total = ((new.awaits ≡ None) × (length new.outcomes ≡ total)) ⊎ IsHeld new total

at_most : (new : ApplicationState) (total : ℕ) → IsAtRest new total → length new.outcomes ≤ total
at_most new total (inl (free, count)) = omega arith
at_most new total (inr held) = let less = held.less in omega arith

-- ---- how many outcomes

-- There are no fewer afterwards; and what is awaited is awaited still, or there are more.
abbrev HasMore : ApplicationState → ApplicationState → Type 0
HasMore old new = (length old.outcomes ≤ length new.outcomes) × ((n : ℕ) → old.awaits ≡ Some n → (new.awaits ≡ Some n) ⊎ (length old.outcomes < length new.outcomes))

one_more : (old next new : ApplicationState) (o : Outcome) → next.outcomes ≡ old.outcomes ++ o ∷ [] → HasMore next new → HasMore old new
one_more old next new o is (le, on) =
    let more : length next.outcomes ≡ length old.outcomes + 1 = ap length is ∙ length-append old.outcomes (o ∷ []) in
    (omega arith, λ n awaits. inr (omega arith))

have_more : (a : ℕ) (issues : List Issue) (old new : ApplicationState) → DidAll a old issues new → HasMore old new
have_more a [] old new is = (subst (λ (x : ApplicationState). length old.outcomes ≤ length x.outcomes) (sym is) (omega arith), λ n awaits. inl (ap (λ (x : ApplicationState). x.awaits) is ∙ awaits))
have_more a (holds_nothing ∷ issues) old new (next, (asked, is_next, free, none, so), more) =
    one_more old next new (outcome.Refused refusal.NoHandle) (ap (λ (x : ApplicationState). x.outcomes) so) (have_more a issues next new more)
have_more a (at_table (call.Submit application named op) (reply.Submitted (Err cause)) ∷ issues) old new (next, (asked, is_next, free, mine_is, names, op_is, known, so), more) =
    one_more old next new (outcome.Refused (refusal_of cause)) (ap (λ (x : ApplicationState). x.outcomes) so) (have_more a issues next new more)
have_more a (at_table (call.Submit application named op) (reply.Submitted (Ok number)) ∷ issues) old new (next, (asked, is_next, free, mine_is, names, op_is, known, so), more) =
    let rest = have_more a issues next new more in (
      subst (λ (l : List Outcome). length l ≤ length new.outcomes) (ap (λ (x : ApplicationState). x.outcomes) so) rest.0,
      λ n awaits. absurd (cc (free, awaits)),
    )
have_more a (at_table (call.Take number) (reply.Taken (Err cause)) ∷ issues) old new (next, (asked, is_next, awaits, so), more) =
    subst (λ (x : ApplicationState). HasMore x new) so (have_more a issues next new more)
have_more a (at_table (call.Take number) (reply.Taken (Ok taken)) ∷ issues) old new (next, (asked, is_next, awaits, so), more) =
    one_more old next new (reported_outcome taken.outcome) (ap (λ (x : ApplicationState). x.outcomes) so) (have_more a issues next new more)
have_more a (at_table does back ∷ issues) old new (next, did, more) = absurd did

-- ---- the lines

-- A line that is left is one of those that the script came to, where so many are.
some_left : (before xs beyond later : List Asked) (asked : Asked) (total n : ℕ) → length before ≡ n → length before + length xs ≡ total → n < total → xs ++ beyond ≡ asked ∷ later
    → (more : List Asked) × (xs ≡ asked ∷ more) × (later ≡ more ++ beyond)
some_left before [] beyond later asked total n count all less is = absurd (omega arith)
some_left before (x ∷ xs) beyond later asked total n count all less is =
    let same : x ≡ asked = cc is in
    let rest : xs ++ beyond ≡ later = cc is in
    (xs, ap (λ (y : Asked). y ∷ xs) same, sym rest)

none_left : (before xs : List Asked) (total n : ℕ) → length before ≡ n → length before + length xs ≡ total → n ≡ total → xs ≡ []
none_left before [] total n count all is = refl
none_left before (x ∷ xs) total n count all is = absurd (omega arith)

module _ (a : ℕ) where
  -- A line is awaited whose request was accepted: it is patient, and behind that the application asked for nothing. None of these looks for it found anything; and there is one, if there is a call.
  abbrev IsHeldHere : ℕ → List (PendingCall × PendingReply) → Asked → List TableEntry → Type 0
  IsHeldHere number calls x entries =
      (is_patient x.op ≡ true) × AsksNothing a entries × AllByRecursion (λ (e : TableEntry). FindsNothing number e.call e.reply) entries × ((calls ≡ []) ⊎ IsAwaitedStill number entries)

  -- What came so far of the lines that are left, where no request is awaited, and where the first one's is that was accepted under a number.
  abbrev RestSoFar : Option ℕ → List (PendingCall × PendingReply) → ApplicationState → List Asked → List Outcome → List TableEntry → Type 0
  RestSoFar None calls holds xs os entries = LinesCameSoFar a holds xs os entries
  RestSoFar (Some number) calls holds [] os entries = ⊥
  RestSoFar (Some number) calls holds (x ∷ xs) [] entries = IsHeldHere number calls x entries
  RestSoFar (Some number) calls holds (x ∷ xs) (o ∷ os) entries = AnswerCame a holds x o (λ next rest. LinesCameSoFar a next xs os rest) (Ok number) entries

  abbrev ComesSoFar : ApplicationState → ApplicationState → List (PendingCall × PendingReply) → ApplicationState → List Asked → List TableEntry → Type 0
  ComesSoFar old new calls holds xs entries = (os : List Outcome) × (new.outcomes ≡ old.outcomes ++ os) × RestSoFar old.awaits calls holds xs os entries

  module _ (mine : ℕ → Bool) where
    refused_so_far : (old new holds : ApplicationState) (calls : List (PendingCall × PendingReply)) (asked : Asked) (later : List Asked) (entries : List TableEntry) → old.awaits ≡ None → target_of holds asked ≡ None
        → ComesSoFar (with_outcome old (outcome.Refused refusal.NoHandle) None asked) new calls (holding_after holds asked None) later entries → ComesSoFar old new calls holds (asked ∷ later) entries
    refused_so_far old new holds calls asked later entries free none (os, is, came) = (
      outcome.Refused refusal.NoHandle ∷ os,
      more_outcomes a mine old new asked (outcome.Refused refusal.NoHandle) None os is,
      subst (λ (o : Option ℕ). RestSoFar o calls holds (asked ∷ later) (outcome.Refused refusal.NoHandle ∷ os) entries) (sym free)
          (subst (λ (t : Option Target). LineCame a holds asked (outcome.Refused refusal.NoHandle) (λ next rest. LinesCameSoFar a next later os rest) entries t) (sym none) (refl, came)),
    )

    submit_refused : (old new holds : ApplicationState) (asked : Asked) (later : List Asked) (entries : List TableEntry) (named : Target) (op : Op) (cause : SubmitNo) (calls rest : List (PendingCall × PendingReply))
        → (f : First mine a entries (call.Submit a named op) (reply.Submitted (Err cause)) calls) → op ≡ asked.op → ◌≢◌ {A = Result ℕ SubmitNo} (Err cause) (Err submit_no.Memory) → old.awaits ≡ None → target_of holds asked ≡ Some named
        → ComesSoFar (with_outcome old (outcome.Refused (refusal_of cause)) None asked) new calls (holding_after holds asked None) later f.after → ComesSoFar old new rest holds (asked ∷ later) entries
    submit_refused old new holds asked later entries named op cause calls rest f same known free names (os, is, came) =
        let o : Outcome = outcome.Refused (refusal_of cause) in (
          o ∷ os,
          more_outcomes a mine old new asked o None os is,
          subst (λ (w : Option ℕ). RestSoFar w rest holds (asked ∷ later) (o ∷ os) entries) (sym free)
              (subst (λ (t : Option Target). LineCame a holds asked o (λ next rest. LinesCameSoFar a next later os rest) entries t) (sym names) (
                f.between,
                f.by,
                Err cause,
                f.after,
                op_same a mine entries f.between f.after f.by named op asked.op (Err cause) same f.place,
                f.nothing,
                ((λ memory. known (ap refused_for memory)), refl, came),
              )),
        )

    submit_accepted : (old new holds : ApplicationState) (asked : Asked) (later : List Asked) (entries : List TableEntry) (named : Target) (op : Op) (number : ℕ) (calls rest : List (PendingCall × PendingReply))
        → (f : First mine a entries (call.Submit a named op) (reply.Submitted (Ok number)) calls) → op ≡ asked.op → old.awaits ≡ None → target_of holds asked ≡ Some named
        → ((calls ≡ []) → (new.awaits ≡ Some number) → ⊥)
        → (new.outcomes ≡ old.outcomes → new.awaits ≡ Some number)
        → ComesSoFar (record old { awaits = Some number }) new calls holds (asked ∷ later) f.after → ComesSoFar old new rest holds (asked ∷ later) entries
    submit_accepted old new holds asked later entries named op number calls rest f same free names some held ([], is, (patient, nothing, none, looked)) = (
      [],
      is,
      subst (λ (w : Option ℕ). RestSoFar w rest holds (asked ∷ later) [] entries) (sym free) (record {
        patient = patient;
        named = named;
        names = names;
        between = f.between;
        by = f.by;
        number = number;
        after = f.after;
        place = op_same a mine entries f.between f.after f.by named op asked.op (Ok number) same f.place;
        nothing = f.nothing;
        nothing_more = nothing;
        awaited = by looked;
      }),
    )
      where
        by : (calls ≡ []) ⊎ IsAwaitedStill number f.after → IsAwaitedStill number f.after
        by (inl empty) = absurd (some empty (held (is ∙ append-nil old.outcomes)))
        by (inr looked) = looked
    submit_accepted old new holds asked later entries named op number calls rest f same free names some held (o ∷ os, is, came) = (
      o ∷ os,
      is,
      subst (λ (w : Option ℕ). RestSoFar w rest holds (asked ∷ later) (o ∷ os) entries) (sym free)
          (subst (λ (t : Option Target). LineCame a holds asked o (λ next rest. LinesCameSoFar a next later os rest) entries t) (sym names)
          (f.between, f.by, Ok number, f.after, op_same a mine entries f.between f.after f.by named op asked.op (Ok number) same f.place, f.nothing, came)),
    )

    not_yet : (old new holds : ApplicationState) (xs : List Asked) (entries : List TableEntry) (number : ℕ) (cause : TakeNo) (calls rest : List (PendingCall × PendingReply))
        → (f : First mine a entries (call.Take number) (reply.Taken (Err cause)) calls) → old.awaits ≡ Some number → (new.outcomes ≡ old.outcomes → AllByRecursion (λ (e : TableEntry). FindsNothing number e.call e.reply) entries)
        → ComesSoFar old new calls holds xs f.after → ComesSoFar old new rest holds xs entries
    not_yet old new holds xs entries number cause calls rest f awaits finds (os, is, came) =
        (os, is, subst (λ (w : Option ℕ). RestSoFar w rest holds xs os entries) (sym awaits) (by xs os is (subst (λ (w : Option ℕ). RestSoFar w calls holds xs os f.after) awaits came)))
      where
        by : (xs : List Asked) (os : List Outcome) → new.outcomes ≡ old.outcomes ++ os → RestSoFar (Some number) calls holds xs os f.after → RestSoFar (Some number) rest holds xs os entries
        by [] os is came = absurd came
        by (x ∷ xs) [] is (patient, nothing, none, looked) =
            let e = entry f.by (call.Take number) (reply.Taken (Err cause)) in
            let all = finds (is ∙ append-nil old.outcomes) in
            let here = (all_right (λ (e : TableEntry). FindsNothing number e.call e.reply) f.between (e ∷ f.after) (subst (AllByRecursion (λ (e : TableEntry). FindsNothing number e.call e.reply)) f.place all)).0 in (
              patient,
              subst (AsksNothing a) (sym f.place) (all_both (λ (x : TableEntry). IsNoRequestOf a x.call) f.between (e ∷ f.after) f.nothing (tt, nothing)),
              all,
              inr (record {
                earlier = f.between;
                by = f.by;
                later = f.after;
                place = subst (λ (r : Result Taken TakeNo). entries ≡ f.between ++ entry f.by (call.Take number) (reply.Taken r) ∷ f.after) (here refl) f.place;
                none = all;
              }),
            )
        by (x ∷ xs) (o ∷ os) is (between, pass, taken, later, place, nothing, o_is, more) =
            let e = entry f.by (call.Take number) (reply.Taken (Err cause)) in
            let t = entry pass (call.Take number) (reply.Taken (Ok taken)) in (
              f.between ++ e ∷ between,
              pass,
              taken,
              later,
              f.place ∙ (ap (λ (l : List TableEntry). f.between ++ e ∷ l) place ∙ sym (append_assoc f.between (e ∷ between) (t ∷ later))),
              all_both (λ (x : TableEntry). IsNoRequestOf a x.call) f.between (e ∷ between) f.nothing (tt, nothing),
              o_is,
              more,
            )

    taken_so_far : (old new holds : ApplicationState) (asked : Asked) (later : List Asked) (entries : List TableEntry) (number : ℕ) (taken : Taken) (calls rest : List (PendingCall × PendingReply))
        → (f : First mine a entries (call.Take number) (reply.Taken (Ok taken)) calls) → old.awaits ≡ Some number
        → ComesSoFar (with_outcome old (reported_outcome taken.outcome) (given_handle taken) asked) new calls (holding_after holds asked (given_handle taken)) later f.after → ComesSoFar old new rest holds (asked ∷ later) entries
    taken_so_far old new holds asked later entries number taken calls rest f awaits (os, is, came) =
        let o : Outcome = reported_outcome taken.outcome in (
          o ∷ os,
          more_outcomes a mine old new asked o (given_handle taken) os is,
          subst (λ (w : Option ℕ). RestSoFar w rest holds (asked ∷ later) (o ∷ os) entries) (sym awaits) (f.between, f.by, taken, f.after, f.place, f.nothing, refl, came),
        )

    -- ---- all lines

    module _ (beyond : List Asked) (new : ApplicationState) (total : ℕ) (rests : IsAtRest new total) where
      -- what is known of the calls that are left, where one is awaited at the end
      abbrev pub LooksSo : List (PendingCall × PendingReply) → List TableEntry → Type 0
      LooksSo calls entries = (n : ℕ) → new.awaits ≡ Some n → LooksLast n calls × AllByRecursion (λ (e : TableEntry). FindsNothing n e.call e.reply) entries

      looks_on : (c : PendingCall × PendingReply) (calls : List (PendingCall × PendingReply)) (between after : List TableEntry) (e : TableEntry) (entries : List TableEntry) → entries ≡ between ++ e ∷ after
          → LooksSo (c ∷ calls) entries → LooksSo calls after
      looks_on c calls between after e entries place looks n awaits =
          let l = looks n awaits in (
            looks_later n c calls l.0,
            (all_right (λ (e : TableEntry). FindsNothing n e.call e.reply) between (e ∷ after) (subst (AllByRecursion (λ (e : TableEntry). FindsNothing n e.call e.reply)) place l.1)).1,
          )

      -- a line that comes next is among those that the script came to
      is_left : (old : ApplicationState) (before xs : List Asked) (asked : Asked) → (holds : ApplicationState) → StandsAt a old holds before (xs ++ beyond) → next_asked old ≡ Some asked
          → length before + length xs ≡ total → length old.outcomes < total → (later : List Asked) × (xs ≡ asked ∷ later)
      is_left old before xs asked holds s is_next all less =
          let (after, is) = next_is old.asks before (xs ++ beyond) (length old.outcomes) asked s.asks s.count is_next in
          let l = some_left before xs beyond after asked total (length old.outcomes) s.count all less is in
          (l.0, l.1)

      enough_on : (before later : List Asked) (asked : Asked) → length before + length (asked ∷ later) ≡ total → length (before ++ asked ∷ []) + length later ≡ total
      enough_on before later asked all = omega (arith, all, length-append before (asked ∷ []))

      submit_less : (issues : List Issue) (old : ApplicationState) (number : ℕ) → DidAll a (record old { awaits = Some number }) issues new → length old.outcomes < total
      submit_less issues old number more = by ((have_more a issues (record old { awaits = Some number }) new more).1 number refl) rests
        where
          by : (new.awaits ≡ Some number) ⊎ (length old.outcomes < length new.outcomes) → IsAtRest new total → length old.outcomes < total
          by (inl awaits) (inl (free, count)) = absurd (cc (awaits, free))
          by (inl awaits) (inr held) = let less = held.less in let le = (have_more a issues (record old { awaits = Some number }) new more).0 in omega (arith, le)
          by (inr grown) rests = let le = at_most new total rests in omega arith

      grown_less : (issues : List Issue) (old next : ApplicationState) (o : Outcome) → next.outcomes ≡ old.outcomes ++ o ∷ [] → DidAll a next issues new → length old.outcomes < total
      grown_less issues old next o is more =
          let le = at_most new total rests in
          let on = (have_more a issues next new more).0 in
          let one : length next.outcomes ≡ length old.outcomes + 1 = ap length is ∙ length-append old.outcomes (o ∷ []) in
          omega arith

      -- a request that was accepted, and nothing more came, is the one that is awaited
      awaited_still : (issues : List Issue) (old : ApplicationState) (number : ℕ) → DidAll a (record old { awaits = Some number }) issues new → new.outcomes ≡ old.outcomes → new.awaits ≡ Some number
      awaited_still issues old number more same = by ((have_more a issues (record old { awaits = Some number }) new more).1 number refl)
        where
          by : (new.awaits ≡ Some number) ⊎ (length old.outcomes < length new.outcomes) → new.awaits ≡ Some number
          by (inl awaits) = awaits
          by (inr grown) = let count : length new.outcomes ≡ length old.outcomes = ap length same in absurd (omega arith)

      still_awaits : (issues : List Issue) (old : ApplicationState) (number : ℕ) → DidAll a old issues new → old.awaits ≡ Some number → new.outcomes ≡ old.outcomes → new.awaits ≡ Some number
      still_awaits issues old number more awaits same = by ((have_more a issues old new more).1 number awaits)
        where
          by : (new.awaits ≡ Some number) ⊎ (length old.outcomes < length new.outcomes) → new.awaits ≡ Some number
          by (inl awaits) = awaits
          by (inr grown) = let count : length new.outcomes ≡ length old.outcomes = ap length same in absurd (omega arith)

      -- no call is left, and nothing was asked for
      none_came : (old holds : ApplicationState) (before xs : List Asked) (entries : List TableEntry) → new ≡ old → StandsAt a old holds before (xs ++ beyond) → length before + length xs ≡ total
          → AreMine mine a entries → calls_by mine entries ≡ [] → LooksSo [] entries → ComesSoFar old new [] holds xs entries
      none_came old holds before xs entries is s all own calls looks = ([], ap (λ (x : ApplicationState). x.outcomes) is ∙ sym (append-nil old.outcomes), by rests)
        where
          by : IsAtRest new total → RestSoFar old.awaits [] holds xs [] entries
          by (inl (free, count)) =
              let none : xs ≡ [] = none_left before xs total (length old.outcomes) s.count all (ap (λ (x : ApplicationState). length x.outcomes) (sym is) ∙ count) in
              subst (λ (l : List Asked). RestSoFar old.awaits [] holds l [] entries) (sym none)
              (subst (λ (w : Option ℕ). RestSoFar w [] holds [] [] entries) (sym (sym (ap (λ (x : ApplicationState). x.awaits) is) ∙ free)) (asks_none mine a entries own calls))
          by (inr held) =
              let less : length old.outcomes < total = subst (λ (x : ApplicationState). length x.outcomes < total) is held.less in
              let l = is_left old before xs held.asked holds s (ap next_asked (sym is) ∙ held.next) all less in
              subst (λ (l : List Asked). RestSoFar old.awaits [] holds l [] entries) (sym l.1)
              (subst (λ (w : Option ℕ). RestSoFar w [] holds (held.asked ∷ l.0) [] entries) (sym (sym (ap (λ (x : ApplicationState). x.awaits) is) ∙ held.awaits))
              (held.patient, asks_none mine a entries own calls, (looks held.number held.awaits).1, inl refl))

      pub so_far : (issues : List Issue) (old holds : ApplicationState) (before xs : List Asked) (entries : List TableEntry) → DidAll a old issues new → StandsAt a old holds before (xs ++ beyond)
          → length before + length xs ≡ total → AreMine mine a entries → calls_by mine entries ≡ calls_in issues → LooksSo (calls_in issues) entries → ComesSoFar old new (calls_in issues) holds xs entries
      so_far [] old holds before xs entries is s all own calls looks = none_came old holds before xs entries is s all own calls looks
      so_far (holds_nothing ∷ issues) old holds before xs entries (next, (asked, is_next, free, none, so), more) s all own calls looks =
          let o : Outcome = outcome.Refused refusal.NoHandle in
          let l = is_left old before xs asked holds s is_next all (grown_less issues old next o (ap (λ (x : ApplicationState). x.outcomes) so) more) in
          let at = subst (λ (ls : List Asked). StandsAt a old holds before (ls ++ beyond)) l.1 s in
          let few = subst (λ (ls : List Asked). length before + length ls ≡ total) l.1 all in
          subst (λ (ls : List Asked). ComesSoFar old new (calls_in issues) holds ls entries) (sym l.1)
          (refused_so_far old new holds (calls_in issues) asked l.0 entries free (names_same a old holds asked s.handles ∙ none)
          (so_far issues (with_outcome old o None asked) (holding_after holds asked None) (before ++ asked ∷ []) l.0 entries (subst (λ (x : ApplicationState). DidAll a x issues new) so more)
          (stands_on a old holds before (l.0 ++ beyond) asked o None at) (enough_on before l.0 asked few) own calls looks))
      so_far (at_table (call.Submit application named op) (reply.Submitted (Err cause)) ∷ issues) old holds before xs entries (next, (asked, is_next, free, mine_is, names, op_is, known, so), more) s all own calls looks =
          let o : Outcome = outcome.Refused (refusal_of cause) in
          let l = is_left old before xs asked holds s is_next all (grown_less issues old next o (ap (λ (x : ApplicationState). x.outcomes) so) more) in
          let at = subst (λ (ls : List Asked). StandsAt a old holds before (ls ++ beyond)) l.1 s in
          let few = subst (λ (ls : List Asked). length before + length ls ≡ total) l.1 all in
          let f = first_call mine a entries (call.Submit a named op) (reply.Submitted (Err cause)) (calls_in issues) own
          (subst (λ (n : ℕ). calls_by mine entries ≡ (call.Submit n named op, reply.Submitted (Err cause)) ∷ calls_in issues) mine_is calls) in
          subst (λ (ls : List Asked). ComesSoFar old new ((call.Submit application named op, reply.Submitted (Err cause)) ∷ calls_in issues) holds ls entries) (sym l.1)
          (submit_refused old new holds asked l.0 entries named op cause (calls_in issues) ((call.Submit application named op, reply.Submitted (Err cause)) ∷ calls_in issues) f op_is known free (names_same a old holds asked s.handles ∙ names)
          (so_far issues (with_outcome old o None asked) (holding_after holds asked None) (before ++ asked ∷ []) l.0 f.after (subst (λ (x : ApplicationState). DidAll a x issues new) so more)
          (stands_on a old holds before (l.0 ++ beyond) asked o None at) (enough_on before l.0 asked few) f.mine_after f.calls_after
          (looks_on (call.Submit application named op, reply.Submitted (Err cause)) (calls_in issues) f.between f.after (entry f.by (call.Submit a named op) (reply.Submitted (Err cause))) entries f.place looks)))
      so_far (at_table (call.Submit application named op) (reply.Submitted (Ok number)) ∷ issues) old holds before xs entries (next, (asked, is_next, free, mine_is, names, op_is, known, so), more) s all own calls looks =
          let then = subst (λ (x : ApplicationState). DidAll a x issues new) so more in
          let l = is_left old before xs asked holds s is_next all (submit_less issues old number then) in
          let at = subst (λ (ls : List Asked). StandsAt a old holds before (ls ++ beyond)) l.1 s in
          let few = subst (λ (ls : List Asked). length before + length ls ≡ total) l.1 all in
          let f = first_call mine a entries (call.Submit a named op) (reply.Submitted (Ok number)) (calls_in issues) own
          (subst (λ (n : ℕ). calls_by mine entries ≡ (call.Submit n named op, reply.Submitted (Ok number)) ∷ calls_in issues) mine_is calls) in
          subst (λ (ls : List Asked). ComesSoFar old new ((call.Submit application named op, reply.Submitted (Ok number)) ∷ calls_in issues) holds ls entries) (sym l.1)
          (submit_accepted old new holds asked l.0 entries named op number (calls_in issues) ((call.Submit application named op, reply.Submitted (Ok number)) ∷ calls_in issues) f op_is free (names_same a old holds asked s.handles ∙ names)
          (λ empty awaits. no_take application number named op (calls_in issues) empty (looks number awaits).0)
          (awaited_still issues old number then)
          (so_far issues (record old { awaits = Some number }) holds before (asked ∷ l.0) f.after then
          (record { asks = at.asks; count = at.count; handles = at.handles }) few f.mine_after f.calls_after
          (looks_on (call.Submit application named op, reply.Submitted (Ok number)) (calls_in issues) f.between f.after (entry f.by (call.Submit a named op) (reply.Submitted (Ok number))) entries f.place looks)))
      so_far (at_table (call.Take number) (reply.Taken (Err cause)) ∷ issues) old holds before xs entries (next, (asked, is_next, awaits, so), more) s all own calls looks =
          let f = first_call mine a entries (call.Take number) (reply.Taken (Err cause)) (calls_in issues) own calls in
          let then = subst (λ (x : ApplicationState). DidAll a x issues new) so more in
          not_yet old new holds xs entries number cause (calls_in issues) ((call.Take number, reply.Taken (Err cause)) ∷ calls_in issues) f awaits
          (λ same. (looks number (still_awaits issues old number then awaits same)).1)
          (so_far issues old holds before xs f.after then s all f.mine_after f.calls_after
          (looks_on (call.Take number, reply.Taken (Err cause)) (calls_in issues) f.between f.after (entry f.by (call.Take number) (reply.Taken (Err cause))) entries f.place looks))
      so_far (at_table (call.Take number) (reply.Taken (Ok taken)) ∷ issues) old holds before xs entries (next, (asked, is_next, awaits, so), more) s all own calls looks =
          let o : Outcome = reported_outcome taken.outcome in
          let l = is_left old before xs asked holds s is_next all (grown_less issues old next o (ap (λ (x : ApplicationState). x.outcomes) so) more) in
          let at = subst (λ (ls : List Asked). StandsAt a old holds before (ls ++ beyond)) l.1 s in
          let few = subst (λ (ls : List Asked). length before + length ls ≡ total) l.1 all in
          let f = first_call mine a entries (call.Take number) (reply.Taken (Ok taken)) (calls_in issues) own calls in
          subst (λ (ls : List Asked). ComesSoFar old new ((call.Take number, reply.Taken (Ok taken)) ∷ calls_in issues) holds ls entries) (sym l.1)
          (taken_so_far old new holds asked l.0 entries number taken (calls_in issues) ((call.Take number, reply.Taken (Ok taken)) ∷ calls_in issues) f awaits
          (so_far issues (with_outcome old o (given_handle taken) asked) (holding_after holds asked (given_handle taken)) (before ++ asked ∷ []) l.0 f.after (subst (λ (x : ApplicationState). DidAll a x issues new) so more)
          (stands_on a old holds before (l.0 ++ beyond) asked o (given_handle taken) at) (enough_on before l.0 asked few) f.mine_after f.calls_after
          (looks_on (call.Take number, reply.Taken (Ok taken)) (calls_in issues) f.between f.after (entry f.by (call.Take number) (reply.Taken (Ok taken))) entries f.place looks)))
      so_far (at_table does back ∷ issues) old holds before xs entries (next, did, more) s all own calls looks = absurd did
