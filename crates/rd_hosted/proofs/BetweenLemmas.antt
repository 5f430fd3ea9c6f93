-- Devices that begin lives or are gone one after the other, with what applications ask between: as steps of the table with calls behind each.
use Rattle.std.proofs.Common.{◌≡◌, ◌∙◌, refl, sym, ap, subst, ℕ, List, [], ◌∷◌, ◌++◌, append_assoc, append-nil}
use Rattle.std.specs.List.{AllByRecursion}
use mathlib.Core.List.{IsPrefix}
use Rattle.rd_pending.specs.declared.calls.Taken.{Taken}
use Rattle.rd_pending.specs.History.{Call, accepted_in}
use Rattle.rd_pending.specs.Outcomes.{Accepted}
use Rattle.rd_pending.specs.Table.{TableState, new_table}
use Rattle.rd_table.specs.declared.calls.PendingCall.{PendingCall}
use Rattle.rd_table.specs.declared.calls.PendingReply.{PendingReply}
use Rattle.rd_table.specs.Calls.{PendingStep, table_calls}
use Rattle.rd_table.specs.Histories.{done_by_all, handed_in, table_history}
use Rattle.rd_table.proofs.StepLemmas.{handed_more, history_more, led_goes}
use Rattle.rd_turn.specs.History.{IsLegal, Leads, entry}
use Rattle.rd_turn.proofs.HistoryLemmas.{IsLegal-prefix, Leads-parted}
use Rattle.rd_exchanges.specs.Exchanges.{AreAllAsks, MayGo, MayGoBetween, accepted_along, accepted_between, answers_between, devices_in, goes, goes_between, handed_along, handed_between}
use Rattle.rd_host_turns.specs.Turns.{AreQuiet, SeenAlong, SeenGoes, TableEntry, TablePart, calls, renews, renews_by}
use Rattle.rd_hosted.specs.Asks.{asked_as, asks_among, table_at}
use Rattle.rd_hosted.proofs.AskLemmas.{AllAsk, asks_all}

-- ---- histories of the table

abbrev pub IsTableHistory : List TableEntry → Type 0
IsTableHistory seen = IsLegal PendingStep new_table seen

-- what is added to a history leads from the table before it to the one after it
pub leads_on : (old more : List TableEntry) → IsTableHistory (old ++ more) → Leads PendingStep (table_at old) more (table_at (old ++ more))
leads_on old more (t, leads) =
    let (mid, before, behind) = Leads-parted PendingStep new_table old more t leads in
    subst (λ (u : TableState). Leads PendingStep u more (table_at (old ++ more))) (sym (led_goes old mid before).is)
    (subst (λ (u : TableState). Leads PendingStep mid more u) (sym (led_goes (old ++ more) t leads).is) behind)

pub earlier_history : (old more new : List TableEntry) → new ≡ old ++ more → IsTableHistory new → IsTableHistory old
earlier_history old more new is = IsLegal-prefix PendingStep new_table old new (more, sym is)

-- what quiet entries ask, behind a history
pub asks_behind : (old added : List TableEntry) → AreQuiet added → IsTableHistory (old ++ added) → AllAsk (table_at old) (table_at (old ++ added)) added
asks_behind old added quiet legal = asks_all (table_at old) (table_at (old ++ added)) added quiet (leads_on old added legal)

-- which requests are accepted by them, and what they hand out
pub accepted_behind : (old added : List TableEntry) → AreQuiet added → IsTableHistory (old ++ added) → accepted_in (table_history (old ++ added)) ≡ accepted_in (table_history old) ++ accepted_along (table_at old) (asks_among added)
accepted_behind old added quiet legal =
    let before = earlier_history old added (old ++ added) refl legal in
    ap accepted_in (history_more old added) ∙ (asks_behind old added quiet legal).accepts (table_history old) (led_goes old before.0 before.1).holds refl

pub handed_behind : (old added : List TableEntry) → AreQuiet added → IsTableHistory (old ++ added) → handed_in (old ++ added) ≡ handed_in old ++ handed_along (table_at old) (asks_among added)
handed_behind old added quiet legal = handed_more old added ∙ ap (λ (l : List (ℕ × Taken)). handed_in old ++ l) (asks_behind old added quiet legal).hands

-- the step of one more entry
pub step_behind : (old : List TableEntry) (by : ℕ) (does : PendingCall) (back : PendingReply) → IsTableHistory (old ++ entry by does back ∷ []) → PendingStep (table_at old) does back (table_at (old ++ entry by does back ∷ []))
step_behind old by does back legal =
    let (next, step, same) = leads_on old (entry by does back ∷ []) legal in
    subst (λ (u : TableState). PendingStep (table_at old) does back u) same step

-- an entry that accepts nothing and hands nothing out
abbrev pub AcceptsNone : PendingCall → PendingReply → Type 0
AcceptsNone does back = (by : ℕ) (h : List Call) → accepted_in (done_by_all h (table_calls (entry by does back ∷ []))) ≡ accepted_in h

abbrev pub HandsNone : PendingCall → PendingReply → Type 0
HandsNone does back = (by : ℕ) → handed_in (entry by does back ∷ []) ≡ []

pub accepted_still : (old : List TableEntry) (by : ℕ) (does : PendingCall) (back : PendingReply) → AcceptsNone does back → accepted_in (table_history (old ++ entry by does back ∷ [])) ≡ accepted_in (table_history old)
accepted_still old by does back none = ap accepted_in (history_more old (entry by does back ∷ [])) ∙ none by (table_history old)

pub handed_still : (old : List TableEntry) (by : ℕ) (does : PendingCall) (back : PendingReply) → HandsNone does back → handed_in (old ++ entry by does back ∷ []) ≡ handed_in old
handed_still old by does back none = handed_more old (entry by does back ∷ []) ∙ (ap (λ (l : List (ℕ × Taken)). handed_in old ++ l) (none by) ∙ append-nil (handed_in old))

-- ---- what was seen goes on

pub seen_prefix : (parts : List TablePart) (old new : List TableEntry) → SeenAlong old parts new → IsPrefix old new
seen_prefix [] old new is = ([], append-nil old ∙ sym is)
seen_prefix (part ∷ parts) old new (next, goes, others) =
    let one = part_prefix part goes in
    let rest = seen_prefix parts next new others in
    (one.0 ++ rest.0, sym (append_assoc old one.0 rest.0) ∙ (ap (λ (l : List TableEntry). l ++ rest.0) one.1 ∙ rest.1))
  where
    part_prefix : (p : TablePart) → SeenGoes old p next → IsPrefix old next
    part_prefix (calls does back) (added, by, place, quiet) = (added ++ entry by does back ∷ [], sym (append_assoc old added (entry by does back ∷ [])) ∙ sym place)
    part_prefix (renews given last) (added, place, quiet) = (added, sym place)
    part_prefix (renews_by does back given last) (added, by, place, quiet) = (added ++ entry by does back ∷ [], sym (append_assoc old added (entry by does back ∷ [])) ∙ sym place)

-- of what is asked by a whole list each of its parts asks some
pub asked_on : (xs ys : List TableEntry) → asks_among (xs ++ ys) ≡ asks_among xs ++ asks_among ys
asked_on [] ys = refl
asked_on (x ∷ xs) ys = ap (λ (l : List Call). asked_as x.call x.reply ++ l) (asked_on xs ys) ∙ sym (append_assoc (asked_as x.call x.reply) (asks_among xs) (asks_among ys))

module _ (Fit : Call → Type 0) where
  fit_first : (xs ys : List Call) → AllByRecursion Fit (xs ++ ys) → AllByRecursion Fit xs
  fit_first [] ys fit = tt
  fit_first (x ∷ xs) ys fit = (fit.0, fit_first xs ys fit.1)

  fit_rest : (xs ys : List Call) → AllByRecursion Fit (xs ++ ys) → AllByRecursion Fit ys
  fit_rest [] ys fit = fit
  fit_rest (x ∷ xs) ys fit = fit_rest xs ys fit.1

  pub fit_in : (old more new : List TableEntry) → old ++ more ≡ new → AllByRecursion Fit (asks_among new) → AllByRecursion Fit (asks_among old)
  fit_in old more new is fit = fit_first (asks_among old) (asks_among more) (subst (AllByRecursion Fit) (asked_on old more) (subst (λ (l : List TableEntry). AllByRecursion Fit (asks_among l)) (sym is) fit))

  pub fit_last : (old added : List TableEntry) → AllByRecursion Fit (asks_among (old ++ added)) → AllByRecursion Fit (asks_among added)
  fit_last old added fit = fit_rest (asks_among old) (asks_among added) (subst (AllByRecursion Fit) (asked_on old added) fit)

-- ---- a call of the table for each of several devices

module _ {A : Type 0} (step : TableState → ℕ → TableState × A) (does : ℕ → PendingCall) (back : A → PendingReply) (Fine : A → Type 0) (Fit : Call → Type 0) where
  -- What such a call is: the step, and it accepts nothing and hands nothing out.
  pub record IsStepCall : Type 0 where
    pub steps : (t u : TableState) (device : ℕ) (answer : A) → Fine answer → PendingStep t (does device) (back answer) u → step t device ≡ (u, answer)
    pub accepts : (device : ℕ) (answer : A) → AcceptsNone (does device) (back answer)
    pub hands : (device : ℕ) (answer : A) → HandsNone (does device) (back answer)

  -- the calls for these devices, with these answers
  abbrev pub calls_for : List ℕ → List A → List TablePart
  calls_for [] answers = []
  calls_for (device ∷ devices) [] = []
  calls_for (device ∷ devices) (answer ∷ answers) = calls (does device) (back answer) ∷ calls_for devices answers

  abbrev pub AreAnswers : List ℕ → List A → Type 0
  AreAnswers [] [] = Unit {0}
  AreAnswers (device ∷ devices) (answer ∷ answers) = Fine answer × AreAnswers devices answers
  AreAnswers _ _ = ⊥

  -- What a history has more by these calls: what is asked before them, and then each device with what is asked behind its call.
  pub record Between (old new : List TableEntry) (devices : List ℕ) (answers : List A) : Type 0 where
    pub first : List TableEntry
    pub quiet : AreQuiet first
    pub fit : AllByRecursion Fit (asks_among first)
    pub legal : IsTableHistory (old ++ first)
    pub more : List (ℕ × List Call)
    pub devices_are : devices_in more ≡ devices
    pub asks : AreAllAsks more
    pub fits : AllByRecursion (λ (e : ℕ × List Call). AllByRecursion Fit e.1) more
    pub may : MayGoBetween step (table_at (old ++ first)) more
    pub same : goes_between step (table_at (old ++ first)) more ≡ table_at new
    pub answers_are : answers_between step (table_at (old ++ first)) more ≡ answers
    pub accepted : accepted_in (table_history new) ≡ accepted_in (table_history (old ++ first)) ++ accepted_between step (table_at (old ++ first)) more
    pub handed : handed_in new ≡ handed_in (old ++ first) ++ handed_between step (table_at (old ++ first)) more

  module _ (is : IsStepCall) where
    none_between : (old new : List TableEntry) → new ≡ old → IsTableHistory new → Between old new [] []
    none_between old new same legal = record {
      first = [];
      quiet = tt;
      fit = tt;
      legal = subst IsTableHistory (same ∙ sym (append-nil old)) legal;
      more = [];
      devices_are = refl;
      asks = tt;
      fits = tt;
      may = tt;
      same = ap table_at (append-nil old ∙ sym same);
      answers_are = refl;
      accepted = ap (λ (l : List TableEntry). accepted_in (table_history l)) (same ∙ sym (append-nil old)) ∙ sym (append-nil (accepted_in (table_history (old ++ []))));
      handed = ap handed_in (same ∙ sym (append-nil old)) ∙ sym (append-nil (handed_in (old ++ [])));
    }

    one_between : (old added next new : List TableEntry) (by device : ℕ) (devices : List ℕ) (answer : A) (answers : List A) → next ≡ (old ++ added) ++ entry by (does device) (back answer) ∷ [] → AreQuiet added → AllByRecursion Fit (asks_among added) → Fine answer
        → IsTableHistory next → Between next new devices answers → Between old new (device ∷ devices) (answer ∷ answers)
    one_between old added next new by device devices answer answers place quiet fit fine legal rest =
        let mid : List TableEntry = old ++ added in
        let t : TableState = table_at mid in
        let at_next : IsTableHistory (mid ++ entry by (does device) (back answer) ∷ []) = subst IsTableHistory place legal in
        let stepped : step t device ≡ (table_at next, answer) =
        is.steps t (table_at next) device answer fine (subst (λ (l : List TableEntry). PendingStep t (does device) (back answer) (table_at l)) (sym place) (step_behind mid by (does device) (back answer) at_next)) in
        let after_step : (step t device).0 ≡ table_at next = ap (λ (p : TableState × A). p.0) stepped in
        let behind : AllAsk (table_at next) (table_at (next ++ rest.first)) rest.first = asks_behind next rest.first rest.quiet rest.legal in
        let led : goes (step t device).0 (asks_among rest.first) ≡ table_at (next ++ rest.first) = ap (λ (u : TableState). goes u (asks_among rest.first)) after_step ∙ behind.leads in
        record {
          first = added;
          quiet = quiet;
          fit = fit;
          legal = earlier_history mid (entry by (does device) (back answer) ∷ []) (mid ++ entry by (does device) (back answer) ∷ []) refl at_next;
          more = (device, asks_among rest.first) ∷ rest.more;
          devices_are = ap (λ (l : List ℕ). device ∷ l) rest.devices_are;
          asks = (behind.asks, rest.asks);
          fits = (rest.fit, rest.fits);
          may = (subst (λ (u : TableState). MayGo u (asks_among rest.first)) (sym after_step) behind.may, subst (λ (u : TableState). MayGoBetween step u rest.more) (sym led) rest.may);
          same = ap (λ (u : TableState). goes_between step u rest.more) led ∙ rest.same;
          answers_are = ap (λ (a : A). a ∷ answers_between step (goes (step t device).0 (asks_among rest.first)) rest.more) (ap (λ (p : TableState × A). p.1) stepped)
              ∙ ap (λ (l : List A). answer ∷ l) (ap (λ (u : TableState). answers_between step u rest.more) led ∙ rest.answers_are);
          accepted = rest.accepted ∙ (ap (λ (l : List Accepted). l ++ accepted_between step (table_at (next ++ rest.first)) rest.more)
              (accepted_behind next rest.first rest.quiet rest.legal ∙ ap (λ (l : List Accepted). l ++ accepted_along (table_at next) (asks_among rest.first)) (ap (λ (l : List TableEntry). accepted_in (table_history l)) place
              ∙ accepted_still mid by (does device) (back answer) (is.accepts device answer)))
              ∙ (append_assoc (accepted_in (table_history mid)) (accepted_along (table_at next) (asks_among rest.first)) (accepted_between step (table_at (next ++ rest.first)) rest.more)
              ∙ ap (λ (l : List Accepted). accepted_in (table_history mid) ++ l) (ap (λ (u : TableState). accepted_along u (asks_among rest.first) ++ accepted_between step (table_at (next ++ rest.first)) rest.more) (sym after_step)
              ∙ ap (λ (u : TableState). accepted_along (step t device).0 (asks_among rest.first) ++ accepted_between step u rest.more) (sym led))));
          handed = rest.handed ∙ (ap (λ (l : List (ℕ × Taken)). l ++ handed_between step (table_at (next ++ rest.first)) rest.more)
              (handed_behind next rest.first rest.quiet rest.legal ∙ ap (λ (l : List (ℕ × Taken)). l ++ handed_along (table_at next) (asks_among rest.first)) (ap handed_in place
              ∙ handed_still mid by (does device) (back answer) (is.hands device answer)))
              ∙ (append_assoc (handed_in mid) (handed_along (table_at next) (asks_among rest.first)) (handed_between step (table_at (next ++ rest.first)) rest.more)
              ∙ ap (λ (l : List (ℕ × Taken)). handed_in mid ++ l) (ap (λ (u : TableState). handed_along u (asks_among rest.first) ++ handed_between step (table_at (next ++ rest.first)) rest.more) (sym after_step)
              ∙ ap (λ (u : TableState). handed_along (step t device).0 (asks_among rest.first) ++ handed_between step u rest.more) (sym led))));
        }

    pub between : (devices : List ℕ) (answers : List A) (old new : List TableEntry) → AreAnswers devices answers → SeenAlong old (calls_for devices answers) new → IsTableHistory new → AllByRecursion Fit (asks_among new)
        → Between old new devices answers
    between [] [] old new fine seen legal fit = none_between old new seen legal
    between [] (answer ∷ answers) old new fine seen legal fit = absurd fine
    between (device ∷ devices) [] old new fine seen legal fit = absurd fine
    between (device ∷ devices) (answer ∷ answers) old new fine (next, (added, by, place, quiet), others) legal fit =
        let rest = between devices answers next new fine.1 others legal fit in
        let on = seen_prefix (calls_for devices answers) next new others in
        let fit_next = fit_in Fit next on.0 new on.1 fit in
        let fit_added = fit_in Fit (old ++ added) (entry by (does device) (back answer) ∷ []) next (sym place) fit_next in
        one_between old added next new by device devices answer answers place quiet (fit_last Fit old added fit_added) fine.0 (earlier_history next rest.first (next ++ rest.first) refl rest.legal) rest
