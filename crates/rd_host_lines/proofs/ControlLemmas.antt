-- The calls by which a host acts lines, among those of a history: by whom they are.
use Rattle.std.proofs.Common.{◌≡◌, ◌∙◌, ◌⊎◌, inl, inr, refl, sym, ap, subst, ℕ, ◌==◌, Bool, true, false, cond, List, [], ◌∷◌, ◌++◌, eq-eqb, eqb-true}
use Rattle.std.proofs.lemmas.Grind.{flat_map-append}
use Rattle.rd_host_front.specs.Asked.{CallMade}
use Rattle.rd_table.specs.declared.calls.PendingCall.{PendingCall}
use Rattle.rd_table.specs.declared.calls.PendingCall.TheVariants as table
use Rattle.rd_table.specs.declared.calls.PendingReply.{PendingReply}
use Rattle.rd_table.specs.declared.calls.PendingReply.TheVariants as replied
use Rattle.rd_turn.specs.History.{calls_of, entry}
use Rattle.rd_host_turns.specs.Turns.{TableEntry}
use Rattle.rd_host_lines.specs.Places.{ActNothing, EndsOnce, IsNoApplications, control_call, control_calls, drop_call}
use Rattle.rd_host_lines.proofs.FrontLemmas.{IsPlain}
use Rattle.rd_host_lines.proofs.PassLemmas.{AreSuch, WithTries}

-- a call by which no line is acted
abbrev pub ActsNone : TableEntry → Type 0
ActsNone e = control_call e.call e.reply ≡ []

-- and that no application makes
abbrev pub IsIdle : TableEntry → Type 0
IsIdle e = IsNoApplications e.call × ActsNone e

pub plain_idle : (by : ℕ) (does : PendingCall) (back : PendingReply) → IsPlain does → IsIdle (entry by does back)
plain_idle by (table.Live device) back is = (tt, refl)
plain_idle by table.Outbox back is = (tt, refl)
plain_idle by (table.Complete head body) back is = (tt, refl)
plain_idle by (table.Remove device) back is = (tt, refl)
plain_idle by table.DropChannel back is = (tt, refl)
plain_idle by _ back is = absurd is

pub none_act : (xs : List TableEntry) → AreSuch ActsNone xs → ActNothing xs
none_act [] all = refl
none_act (x ∷ xs) (here, all) = λ i. here i ++ none_act xs all i

pub controls_then : (xs ys : List TableEntry) → control_calls (xs ++ ys) ≡ control_calls xs ++ control_calls ys
controls_then xs ys = flat_map-append (λ (e : TableEntry). control_call e.call e.reply) xs ys

-- a call by this pass, or one by which no line is acted
abbrev pub IsBy : ℕ → TableEntry → Type 0
IsBy w e = (e.by ≡ w) ⊎ ActsNone e

pub own_act : (w : ℕ) (xs : List TableEntry) → AreSuch (IsBy w) xs → control_calls xs ≡ control_calls (calls_of w xs)
own_act w [] all = refl
own_act w (e ∷ xs) (here, all) = by (own_act w xs all) (e.by == w) refl here
  where
    by : control_calls xs ≡ control_calls (calls_of w xs) → (b : Bool) → (e.by == w) ≡ b → IsBy w e
        → control_calls (e ∷ xs) ≡ control_calls (cond {A = List TableEntry} b (e ∷ calls_of w xs) (calls_of w xs))
    by rest true is here = ap (λ (l : List CallMade). control_call e.call e.reply ++ l) rest
    by rest false is (inl own) = absurd (cc (eq-eqb e.by w own, is))
    by rest false is (inr none) = ap (λ (l : List CallMade). l ++ control_calls xs) none ∙ rest

pub calls_by_own : (w : ℕ) (xs : List TableEntry) → AreSuch (λ (e : TableEntry). e.by ≡ w) (calls_of w xs)
calls_by_own w [] = tt
calls_by_own w (e ∷ xs) = by (calls_by_own w xs) (e.by == w) refl
  where
    by : AreSuch (λ (e : TableEntry). e.by ≡ w) (calls_of w xs) → (b : Bool) → (e.by == w) ≡ b
        → AreSuch (λ (e : TableEntry). e.by ≡ w) (cond {A = List TableEntry} b (e ∷ calls_of w xs) (calls_of w xs))
    by rest true is = (eqb-true e.by w is, rest)
    by rest false is = rest

-- The only call of a pass stands somewhere, and the others are by others.
pub record Alone (w : ℕ) (xs : List TableEntry) (e : TableEntry) : Type 0 where
  pub before : List TableEntry
  pub after : List TableEntry
  pub place : xs ≡ before ++ e ∷ after
  pub none_before : calls_of w before ≡ []
  pub none_after : calls_of w after ≡ []

pub only_call : (w : ℕ) (xs : List TableEntry) (e : TableEntry) → calls_of w xs ≡ e ∷ [] → Alone w xs e
only_call w [] e is = absurd (cc is)
only_call w (x ∷ xs) e is = by (only_call w xs e) (x.by == w) refl is
  where
    by : (calls_of w xs ≡ e ∷ [] → Alone w xs e) → (b : Bool) → (x.by == w) ≡ b → cond {A = List TableEntry} b (x ∷ calls_of w xs) (calls_of w xs) ≡ e ∷ [] → Alone w (x ∷ xs) e
    by later true own is =
        let same : x ≡ e = cc is in
        let none : calls_of w xs ≡ [] = cc is in
        record { before = []; after = xs; place = ap (λ (y : TableEntry). y ∷ xs) same; none_before = refl; none_after = none }
    by later false own is =
        let l = later is in
        record {
          before = x ∷ l.before;
          after = l.after;
          place = ap (λ (ys : List TableEntry). x ∷ ys) l.place;
          none_before = ap (λ (b : Bool). cond {A = List TableEntry} b (x ∷ calls_of w l.before) (calls_of w l.before)) own ∙ l.none_before;
          none_after = l.none_after;
        }

-- ---- the end of a channel

try_first : (calls : List CallMade) → EndsOnce calls → EndsOnce (drop_call false ∷ calls)
try_first [] once = absurd once
try_first (c ∷ calls) once = (refl, once)

-- Tries in vain, and one by which the channel ended.
pub ends_once : (h : ℕ) (calls : List TableEntry) → AreSuch (WithTries IsIdle) calls → EndsOnce (control_calls (calls ++ entry h table.DropSent (replied.DroppedSent true) ∷ []))
ends_once h [] all = refl
ends_once h (e ∷ calls) (inl idle, all) =
    subst (λ (l : List CallMade). EndsOnce (l ++ control_calls (calls ++ entry h table.DropSent (replied.DroppedSent true) ∷ []))) (sym idle.1) (ends_once h calls all)
ends_once h (e ∷ calls) (inr (call_is, reply_is), all) =
    subst (λ (l : List CallMade). EndsOnce (l ++ control_calls (calls ++ entry h table.DropSent (replied.DroppedSent true) ∷ [])))
    (sym (λ i. control_call (call_is i) (reply_is i))) (try_first (control_calls (calls ++ entry h table.DropSent (replied.DroppedSent true) ∷ [])) (ends_once h calls all))
