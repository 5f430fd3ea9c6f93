-- What the calls of one pass accept and hand out, the whole history of a table does.
use Rattle.std.proofs.Common.{◌≡◌, ◌∙◌, refl, sym, ap, subst, inl, inr, ℕ, ◌==◌, Bool, true, false, cond, List, [], ◌∷◌, ◌++◌, Ok}
use Rattle.std.specs.Prelude.{Contains}
use Rattle.std.proofs.lemmas.List.Elements.{Contains-append_cases, Contains-append_left, Contains-append_right}
use Rattle.rd_irp.specs.declared.op.Op.{Op}
use Rattle.rd_pending.specs.declared.calls.Taken.{Taken}
use Rattle.rd_pending.specs.declared.calls.Target.{Target}
use Rattle.rd_pending.specs.History.{accepted_of, after}
use Rattle.rd_pending.specs.Outcomes.{Accepted}
use Rattle.rd_turn.specs.History.{calls_of, entry}
use Rattle.rd_table.specs.declared.calls.PendingCall.TheVariants as ask
use Rattle.rd_table.specs.declared.calls.PendingReply.TheVariants as reply
use Rattle.rd_table.specs.Histories.{Accepts, handed_in, table_history}
use Rattle.rd_table.proofs.StepLemmas.{E, handed_more}

pub pass_hands : (entries : List E) (pass number : ℕ) (taken : Taken) → Contains (handed_in (calls_of pass entries)) (number, taken) → Contains (handed_in entries) (number, taken)
pass_hands [] pass number taken has = has
pass_hands (e ∷ entries) pass number taken has = subst In (sym (handed_more (e ∷ []) entries)) (by (pass_hands entries pass number taken) (e.by == pass) has)
  where
    In : List (ℕ × Taken) → Type 0
    In l = Contains l (number, taken)

    by : (In (handed_in (calls_of pass entries)) → In (handed_in entries)) → (b : Bool) → In (handed_in (cond b (e ∷ calls_of pass entries) (calls_of pass entries))) → In (handed_in (e ∷ []) ++ handed_in entries)
    by rest true own =
        elim (Contains-append_cases (handed_in (e ∷ [])) (handed_in (calls_of pass entries)) (number, taken) (subst In (handed_more (e ∷ []) (calls_of pass entries)) own)) [
          | inl here ↦ Contains-append_left (handed_in (e ∷ [])) (handed_in entries) (number, taken) here
          | inr there ↦ Contains-append_right (handed_in (e ∷ [])) (handed_in entries) (number, taken) (rest there)
        ]
    by rest false own = Contains-append_right (handed_in (e ∷ [])) (handed_in entries) (number, taken) (rest own)

-- a call of a pass's own is a call of the history, before which are as many of the pass's own
pub own_place : (pass : ℕ) (entries own rest : List E) (e : E) → calls_of pass entries ≡ own ++ e ∷ rest
    → (before : List E) × (later : List E) × (entries ≡ before ++ e ∷ later) × (calls_of pass before ≡ own)
own_place pass [] [] rest e is = absurd (cc is)
own_place pass [] (x ∷ own) rest e is = absurd (cc is)
own_place pass (x ∷ entries) own rest e is = by (λ (first : List E) (split : calls_of pass entries ≡ first ++ e ∷ rest). own_place pass entries first rest e split) (x.by == pass) refl is own refl
  where
    by : ((first : List E) → calls_of pass entries ≡ first ++ e ∷ rest → (before : List E) × (later : List E) × (entries ≡ before ++ e ∷ later) × (calls_of pass before ≡ first))
        → (b : Bool) → (x.by == pass) ≡ b → cond b (x ∷ calls_of pass entries) (calls_of pass entries) ≡ own ++ e ∷ rest → (first : List E) → own ≡ first
        → (before : List E) × (later : List E) × (x ∷ entries ≡ before ++ e ∷ later) × (calls_of pass before ≡ own)
    by deeper true its split [] none =
        let parts : x ∷ calls_of pass entries ≡ e ∷ rest = split ∙ ap (λ (l : List E). l ++ e ∷ rest) none in
        ([], entries, ap (λ (y : E). y ∷ entries) (cc parts), sym none)
    by deeper true its split (y ∷ first) some =
        let parts : x ∷ calls_of pass entries ≡ y ∷ first ++ e ∷ rest = split ∙ ap (λ (l : List E). l ++ e ∷ rest) some in
        let heads : x ≡ y = cc parts in
        let place = deeper first (cc parts) in
        let first_own : calls_of pass (x ∷ place.0) ≡ x ∷ calls_of pass place.0 = ap (λ (b : Bool). cond b (x ∷ calls_of pass place.0) (calls_of pass place.0)) its in
        (x ∷ place.0, place.1, ap (λ (l : List E). x ∷ l) place.2, first_own ∙ (ap (λ (l : List E). x ∷ l) place.3 ∙ (ap (λ (z : E). z ∷ first) heads ∙ sym some)))
    by deeper false others split first is_first =
        let place = deeper own split in
        let no_own : calls_of pass (x ∷ place.0) ≡ calls_of pass place.0 = ap (λ (b : Bool). cond b (x ∷ calls_of pass place.0) (calls_of pass place.0)) others in
        (x ∷ place.0, place.1, ap (λ (l : List E). x ∷ l) place.2, no_own ∙ place.3)

pub pass_accepts : (entries own rest : List E) (pass application number : ℕ) (named : Target) (o : Op)
    → calls_of pass entries ≡ own ++ entry pass (ask.Submit application named o) (reply.Submitted (Ok number)) ∷ rest
    → (a : Accepted) × (one : Accepts entries number a) × (calls_of pass one.before ≡ own) × (one.by ≡ pass) × (one.application ≡ application) × (one.named ≡ named) × (one.op ≡ o)
pass_accepts entries own rest pass application number named o is =
    let place = own_place pass entries own rest (entry pass (ask.Submit application named o) (reply.Submitted (Ok number))) is in
    let one : Accepts entries number (accepted_of (after (table_history place.0)) application named o) = record {
      before = place.0;
      later = place.1;
      by = pass;
      application = application;
      named = named;
      op = o;
      place = place.2;
      request = refl;
    } in
    (accepted_of (after (table_history place.0)) application named o, one, place.3, refl, refl, refl, refl)
