-- A table's calls, one after the other, as its entries tell them, and the history that they make.
use Rattle.std.proofs.Common.{◌≡◌, ◌∙◌, ◌⊎◌, refl, sym, ap, subst, inl, inr, ℕ, Bool, true, false, cond, List, [], ◌∷◌, ◌++◌, append_assoc, Some, None, Ok, Option}
use Rattle.std.specs.Prelude.{IsSomeAnd, is_some}
use Rattle.std.specs.List.{flat_map}
use Rattle.std.proofs.lemmas.Grind.{flat_map-append}
use Rattle.std.proofs.lemmas.List.Elements.{filter_map-append}
use Rattle.rd_pending.specs.declared.calls.Taken.{Taken}
use Rattle.rd_pending.specs.History as call
use Rattle.rd_pending.specs.History.{Call, Holds, IsReachedTable, after, done_by}
use Rattle.rd_pending.specs.Table.{TableCall, TableState, TableStep, begins, completes, drops, drops_sent, lives, new_table, removes, sends, submits, takes}
use Rattle.rd_pending.proofs.Reaching.{goes}
use Rattle.rd_turn.specs.declared.object.Entry.{Entry}
use Rattle.rd_turn.specs.History.{Leads}
use Rattle.rd_table.specs.declared.calls.PendingCall.{PendingCall}
use Rattle.rd_table.specs.declared.calls.PendingReply.{PendingReply}
use Rattle.rd_table.specs.Calls.{PendingStep, table_call, table_calls}
use Rattle.rd_table.specs.Histories.{done_by_all, handed_out_by, handed_in, table_history}

abbrev pub E : Type 0
E = Entry PendingCall PendingReply

-- the table before calls, one after the other, and after them
abbrev pub TableSteps : TableState → List TableCall → TableState → Type 0
TableSteps old [] new = old ≡ new
TableSteps old (made ∷ calls) new = (next : TableState) × TableStep old made next × TableSteps next calls new

-- ---- what entries tell

pub one_made : (o : Option TableCall) (P : TableCall → Type 0) → IsSomeAnd o P → (made : TableCall) × (o ≡ Some made) × P made
one_made None P some = absurd some
one_made (Some made) P some = (made, refl, some)

pub told_first : (e : E) (entries : List E) (made : TableCall) → table_call e.call e.reply ≡ Some made → table_calls (e ∷ entries) ≡ made ∷ table_calls entries
told_first e entries made told = rw told refl

pub told_more : (xs ys : List E) → table_calls (xs ++ ys) ≡ table_calls xs ++ table_calls ys
told_more xs ys = filter_map-append (λ (e : E). table_call e.call e.reply) xs ys

pub handed_more : (xs ys : List E) → handed_in (xs ++ ys) ≡ handed_in xs ++ handed_in ys
handed_more xs ys = ap (flat_map handed_out_by) (told_more xs ys) ∙ flat_map-append handed_out_by (table_calls xs) (table_calls ys)

pub led_steps : (s t : TableState) (entries : List E) → Leads PendingStep s entries t → TableSteps s (table_calls entries) t
led_steps s t [] leads = leads
led_steps s t (e ∷ entries) leads =
    let (made, told, step) = one_made (table_call e.call e.reply) (λ (c : TableCall). TableStep s c leads.0) leads.1.0 in
    subst (λ (calls : List TableCall). TableSteps s calls t) (sym (told_first e entries made told)) (leads.0, step, led_steps leads.0 t entries leads.2)

-- ---- the history that calls make

pub done_more : (h : List Call) (xs ys : List TableCall) → done_by_all h (xs ++ ys) ≡ done_by_all (done_by_all h xs) ys
done_more h [] ys = refl
done_more h (made ∷ xs) ys = done_more (done_by (after h) made ++ h) xs ys

pub done_since : (h : List Call) (calls : List TableCall) → (more : List Call) × (done_by_all h calls ≡ more ++ h)
done_since h [] = ([], refl)
done_since h (made ∷ calls) =
    let rest = done_since (done_by (after h) made ++ h) calls in
    (rest.0 ++ done_by (after h) made, rest.1 ∙ sym (append_assoc rest.0 (done_by (after h) made) h))

pub history_more : (before later : List E) → table_history (before ++ later) ≡ done_by_all (table_history before) (table_calls later)
history_more before later = ap (done_by_all []) (told_more before later) ∙ done_more [] (table_calls before) (table_calls later)

pub history_grows : (before later : List E) → (more : List Call) × (table_history (before ++ later) ≡ more ++ table_history before)
history_grows before later =
    let since = done_since (table_history before) (table_calls later) in
    (since.0, history_more before later ∙ since.1)

pub steps_parted : (s t : TableState) (xs ys : List TableCall) → TableSteps s (xs ++ ys) t → (mid : TableState) × TableSteps s xs mid × TableSteps mid ys t
steps_parted s t [] ys steps = (s, refl, steps)
steps_parted s t (made ∷ xs) ys steps =
    let rest = steps_parted steps.0 t xs ys steps.2 in
    (rest.0, (steps.0, steps.1, rest.1), rest.2)

-- what holds of a history that goes on with calls which lead to this table
pub record GoesTo (h : List Call) (t : TableState) : Type 0 where
  pub holds : Holds h
  pub is : after h ≡ t

-- a call, and those after it
pub next_steps : (h : List Call) (t : TableState) (made : TableCall) (calls : List TableCall) → Holds h → TableSteps (after h) (made ∷ calls) t
    → Holds (done_by (after h) made ++ h) × TableSteps (after (done_by (after h) made ++ h)) calls t
next_steps h t made calls holds steps =
    let on = goes h holds made steps.0 steps.1 in
    (on.holds, subst (λ (s : TableState). TableSteps s calls t) (sym on.is) steps.2)

pub steps_go : (h : List Call) (t : TableState) (calls : List TableCall) → Holds h → TableSteps (after h) calls t → GoesTo (done_by_all h calls) t
steps_go h t [] holds steps = record { holds = holds; is = steps }
steps_go h t (made ∷ calls) holds steps =
    let next = next_steps h t made calls holds steps in
    steps_go (done_by (after h) made ++ h) t calls next.0 next.1

pub led_goes : (entries : List E) (t : TableState) → Leads PendingStep new_table entries t → GoesTo (table_history entries) t
led_goes entries t leads = steps_go [] t (table_calls entries) tt (led_steps new_table t entries leads)

pub led_reached : (s t : TableState) (entries : List E) → IsReachedTable s → Leads PendingStep s entries t → IsReachedTable t
led_reached s t entries reached leads =
    let steps = subst (λ (u : TableState). TableSteps u (table_calls entries) t) (sym reached.is) (led_steps s t entries leads) in
    let on = steps_go reached.history t (table_calls entries) reached.holds steps in
    record { history = done_by_all reached.history (table_calls entries); holds = on.holds; is = on.is }

-- ---- one call

-- a call does nothing, or one thing
pub done_once : (t : TableState) (made : TableCall) → (done_by t made ≡ []) ⊎ ((x : Call) × (done_by t made ≡ x ∷ []))
done_once t (begins channel true) = inr (call.begins channel, refl)
done_once t (lives device (Ok life)) = inr (call.lives device, refl)
done_once t (submits application named o (Ok number)) = inr (call.submits application named o, refl)
done_once t (sends (Some message)) = inr (call.sends, refl)
done_once t (completes head bytes (Ok completed)) = inr (call.completes head bytes, refl)
done_once t (removes device true) = inr (call.removes device, refl)
done_once t (takes number (Ok taken)) = inr (call.takes number, refl)
done_once t drops = by (is_some t.channel)
  where
    by : (b : Bool) → (cond b (call.drops ∷ []) [] ≡ []) ⊎ ((x : Call) × (cond b (call.drops ∷ []) [] ≡ x ∷ []))
    by true = inr (call.drops, refl)
    by false = inl refl
done_once t (drops_sent true) = by (is_some t.channel)
  where
    by : (b : Bool) → (cond b (call.drops ∷ []) [] ≡ []) ⊎ ((x : Call) × (cond b (call.drops ∷ []) [] ≡ x ∷ []))
    by true = inr (call.drops, refl)
    by false = inl refl
done_once t made = inl refl

-- a call that hands something out
pub handed_once : (made : TableCall) → (handed_out_by made ≡ []) ⊎ ((number : ℕ) × (taken : Taken) × (made ≡ takes number (Ok taken)))
handed_once (takes number (Ok taken)) = inr (number, taken, refl)
handed_once made = inl refl

-- a call by which an outcome is handed out
pub handed_if : (t : TableState) (made : TableCall) (number : ℕ) → done_by t made ≡ call.takes number ∷ [] → (taken : Taken) × (made ≡ takes number (Ok taken))
handed_if t (takes n (Ok taken)) number is = (taken, ap (λ (k : ℕ). takes k (Ok taken)) (number_of is))
  where
    number_of : call.takes n ∷ [] ≡ call.takes number ∷ [] → n ≡ number
    number_of e = cc e
handed_if t (begins channel true) number is = absurd (cc is)
handed_if t (lives device (Ok life)) number is = absurd (cc is)
handed_if t (submits application named o (Ok n)) number is = absurd (cc is)
handed_if t (sends (Some message)) number is = absurd (cc is)
handed_if t (completes head bytes (Ok completed)) number is = absurd (cc is)
handed_if t (removes device true) number is = absurd (cc is)
handed_if t drops number is = by (is_some t.channel) is
  where
    by : (b : Bool) → cond b (call.drops ∷ []) [] ≡ call.takes number ∷ [] → (taken : Taken) × (drops ≡ takes number (Ok taken))
    by true e = absurd (cc e)
    by false e = absurd (cc e)
handed_if t (drops_sent true) number is = by (is_some t.channel) is
  where
    by : (b : Bool) → cond b (call.drops ∷ []) [] ≡ call.takes number ∷ [] → (taken : Taken) × (drops_sent true ≡ takes number (Ok taken))
    by true e = absurd (cc e)
    by false e = absurd (cc e)
handed_if t made number is = absurd (cc is)
