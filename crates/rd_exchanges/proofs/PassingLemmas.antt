-- Calls that change places with a step: one call, many calls, and many calls with many steps.
use Rattle.std.proofs.Common.{◌≡◌, ◌∙◌, refl, sym, ap, subst, ℕ, List, [], ◌∷◌, ◌++◌}
use Rattle.std.specs.List.{AllByRecursion}
use Rattle.rd_pending.specs.declared.calls.Taken.{Taken}
use Rattle.rd_pending.specs.History.{Call, May, called}
use Rattle.rd_pending.specs.Outcomes.{Accepted}
use Rattle.rd_pending.specs.Table.{TableState}
use Rattle.rd_exchanges.specs.Exchanges.{MayGo, accepted_at, accepted_along, all_after, answers_of, goes, handed_at, handed_along}

-- A call does something before a step and after it, and both come to the same in either order.
pub record Passes {A : Type 0} (step : TableState → ℕ → TableState × A) (t : TableState) (k : ℕ) (c : Call) : Type 0 where
  pub may : May t c
  pub may_past : May (step t k).0 c
  pub same : called (step t k).0 c ≡ (step (called t c) k).0
  pub answer : (step (called t c) k).1 ≡ (step t k).1
  pub accepted : accepted_at (step t k).0 c ≡ accepted_at t c
  pub handed : handed_at (step t k).0 c ≡ handed_at t c

-- the same of calls one after the other
pub record PassAll {A : Type 0} (step : TableState → ℕ → TableState × A) (t : TableState) (k : ℕ) (cs : List Call) : Type 0 where
  pub may : MayGo t cs
  pub may_past : MayGo (step t k).0 cs
  pub same : goes (step t k).0 cs ≡ (step (goes t cs) k).0
  pub answer : (step (goes t cs) k).1 ≡ (step t k).1
  pub accepted : accepted_along (step t k).0 cs ≡ accepted_along t cs
  pub handed : handed_along (step t k).0 cs ≡ handed_along t cs

-- calls that come before the steps of several devices may come behind them
pub record PassEach {A : Type 0} (step : TableState → ℕ → TableState × A) (t : TableState) (ks : List ℕ) (cs : List Call) : Type 0 where
  pub may_past : MayGo (all_after step t ks) cs
  pub same : goes (all_after step t ks) cs ≡ all_after step (goes t cs) ks
  pub answers : answers_of step (goes t cs) ks ≡ answers_of step t ks
  pub accepted : accepted_along (all_after step t ks) cs ≡ accepted_along t cs
  pub handed : handed_along (all_after step t ks) cs ≡ handed_along t cs

module _ {A : Type 0} (step : TableState → ℕ → TableState × A) (k : ℕ) where
  none_pass : (t : TableState) → PassAll step t k []
  none_pass t = record { may = tt; may_past = tt; same = refl; answer = refl; accepted = refl; handed = refl }

  one_more : (t : TableState) (c : Call) (cs : List Call) → Passes step t k c → PassAll step (called t c) k cs → PassAll step t k (c ∷ cs)
  one_more t c cs p ps = record {
    may = (p.may, ps.may);
    may_past = (p.may_past, subst (λ (u : TableState). MayGo u cs) (sym p.same) ps.may_past);
    same = ap (λ (u : TableState). goes u cs) p.same ∙ ps.same;
    answer = ps.answer ∙ p.answer;
    accepted =
        ap (λ (xs : List Accepted). xs ++ accepted_along (called (step t k).0 c) cs) p.accepted
        ∙ ap (λ (u : TableState). accepted_at t c ++ accepted_along u cs) p.same
        ∙ ap (λ (xs : List Accepted). accepted_at t c ++ xs) ps.accepted;
    handed =
        ap (λ (xs : List (ℕ × Taken)). xs ++ handed_along (called (step t k).0 c) cs) p.handed
        ∙ ap (λ (u : TableState). handed_at t c ++ handed_along u cs) p.same
        ∙ ap (λ (xs : List (ℕ × Taken)). handed_at t c ++ xs) ps.handed;
  }

  module _ (Holding : TableState → Type 0) (Good : Call → Type 0) (kept : (t : TableState) (c : Call) → Holding t → Good c → Passes step t k c → Holding (called t c)) where
    -- calls before a step may come behind it
    pub behind : ((t : TableState) (c : Call) → Holding t → Good c → May t c → Passes step t k c) → (cs : List Call) (t : TableState) → Holding t → AllByRecursion Good cs → MayGo t cs
        → PassAll step t k cs
    behind passes [] t holding good may = none_pass t
    behind passes (c ∷ cs) t holding good may =
        let p = passes t c holding good.0 may.0 in
        one_more t c cs p (behind passes cs (called t c) (kept t c holding good.0 p) good.1 may.1)

    -- calls behind a step may come before it
    pub ahead : ((t : TableState) (c : Call) → Holding t → Good c → May (step t k).0 c → Passes step t k c) → (cs : List Call) (t : TableState) → Holding t → AllByRecursion Good cs
        → MayGo (step t k).0 cs → PassAll step t k cs
    ahead passes [] t holding good may = none_pass t
    ahead passes (c ∷ cs) t holding good may =
        let p = passes t c holding good.0 may.0 in
        one_more t c cs p (ahead passes cs (called t c) (kept t c holding good.0 p) good.1 (subst (λ (u : TableState). MayGo u cs) p.same may.1))

module _ {A : Type 0} (step : TableState → ℕ → TableState × A) (Holding : TableState → Type 0) (Good : Call → Type 0)
    (kept : (t : TableState) (c : Call) → Holding t → May t c → Holding (called t c)) (stepped : (t : TableState) (k : ℕ) → Holding t → Holding (step t k).0)
    (passes : (t : TableState) (k : ℕ) (c : Call) → Holding t → Good c → May t c → Passes step t k c) where
  pub behind_each : (ks : List ℕ) (t : TableState) (cs : List Call) → Holding t → AllByRecursion Good cs → MayGo t cs → PassEach step t ks cs
  behind_each [] t cs holding good may = record { may_past = may; same = refl; answers = refl; accepted = refl; handed = refl }
  behind_each (k ∷ ks) t cs holding good may =
      let p = behind step k Holding Good (λ u c h g q. kept u c h q.may) (λ u c h g m. passes u k c h g m) cs t holding good may in
      let q = behind_each ks (step t k).0 cs (stepped t k holding) good p.may_past in
      record {
        may_past = q.may_past;
        same = q.same ∙ ap (λ (u : TableState). all_after step u ks) p.same;
        answers =
            ap (λ (a : A). a ∷ answers_of step (step (goes t cs) k).0 ks) p.answer
            ∙ ap (λ (u : TableState). (step t k).1 ∷ answers_of step u ks) (sym p.same)
            ∙ ap (λ (xs : List A). (step t k).1 ∷ xs) q.answers;
        accepted = q.accepted ∙ p.accepted;
        handed = q.handed ∙ p.handed;
      }
