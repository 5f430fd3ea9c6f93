-- The rule at the beginning and at the end: how a turn opens, and what pass 0 knows once no other pass is out.
use Rattle.std.proofs.Common.{Contains, ◌≡◌, ℕ, ◌<◌, ◌≤◌, ◌≢◌, Option, Some, List, [], ◌∷◌, ◌++◌, length, All, sym, refl, ap, ◌∙◌, subst, inl, ⊎_elim, append-nil, arith}
use mathlib.Core.Option.{some, some-injective, some-ne-none}
use mathlib.Core.Logic.{dite}
use native.Mathlib.Decide.{ℕ_discrete}
use lib.ListN.{get_elem?}
use Rattle.atomic_table.specs.Table.{State, Me, Seen}
use Rattle.rd_turn.specs.declared.object.Entry.{Entry}
use Rattle.rd_turn.specs.declared.rule.Stage.{Stage}
use Rattle.rd_turn.specs.declared.rule.Stage.TheVariants.{Idle, Waiting, AtTurn, Spent}
use Rattle.rd_turn.specs.declared.rule.View.{View}
use Rattle.rd_turn.specs.History.{Leads, calls_of}
use Rattle.rd_turn.specs.Rule.{count_of, is_live, is_at_turn, live, at_turn, first_view, Fits, IsHome, IsOut, Rule}
use Rattle.rd_turn.proofs.TotalLemmas.{total-two, total-some, there, at_snoc_or_last}
use Rattle.rd_turn.proofs.HistoryLemmas.{one_if_same, count_of-append, All-after, count_of_is, Contains-at}
use Rattle.rd_turn.proofs.RuleLemmas.{known}

module _ {O C R : Type 0} (steps : O → C → R → O → Type 0) (opening : O) where
  abbrev E : Type 0
  E = Entry C R

  abbrev V : Type 0
  V = View O C R

  abbrev St : Type 0
  St = State (Option O) V

  abbrev M : Type 0
  M = Me (Option O) V

  abbrev Ru : St → Type 0
  Ru = Rule steps opening

  -- once no other pass is out, the whole history is what pass 0 has seen, and the object is home
  pub closes : (s : St) (id : ℕ) (v : V) → Seen Ru id v s → v.number ≡ 0 → v.stage ≡ Idle → v.out ≡ 0 → (o : O) × (get_elem? s.homes 0 ≡ some (some (Some o))) × Leads steps opening v.seen o
  closes s id v seen first idle none_out =
      let r = seen.0 in
      let at = seen.1 in
      let lv : live v ≡ 1 = ap is_live idle in
      let f = r.each id v at lv in
      let zero_id : id ≡ 0 = sym f.number ∙ first in
      let h = f.first zero_id in
      let h_out = h.out_is in
      let no_turn : at_turn v ≡ 0 = ap is_at_turn idle in
      let alone : (k : ℕ) (x : V) → get_elem? s.views k ≡ some x → k ≢ id → live x ≡ 0 = λ k x e d. let two = total-two live s.views id k v x (λ q. d (sym q)) at e in omega arith in
      let home : IsHome steps opening r.log s.homes s.views = ⊎_elim (λ (p : IsHome steps opening r.log s.homes s.views). p) (λ (p : IsOut steps opening s.homes s.views).
      let one = p.0 in let j = total-some at_turn s.views (omega arith) in
      let on = j.3 in let le = turn_lives j.1.stage in
      let d : j.0 ≢ id = λ q. let same : some v ≡ some j.1 = sym at ∙ (ap (get_elem? s.views) (sym q) ∙ j.2) in let k : at_turn v ≡ at_turn j.1 = ap at_turn (some-injective v j.1 same) in omega arith in
      let z = alone j.0 j.1 j.2 d in absurd (omega arith)) r.place in
      let none_after : (e : E) → e.by < length s.views → count_of e.by r.log ≡ count_of e.by v.seen = λ e l. let x = there s.views e.by l in dite (ℕ_discrete e.by id)
      (λ q. subst (λ (k : ℕ). count_of k r.log ≡ count_of k v.seen) (sym q) (f.all_own ∙ sym f.own))
      (λ d. let p = h.spent_are e.by x.0 x.1 (alone e.by x.0 x.1 d) in let j = h.joined_are p.0 e.by p.1 p.2 in j.0 ∙ sym j.1) in
      let whole : v.seen ≡ r.log = nothing_after r.log v.seen f.prefix.0 f.prefix.1 (λ e l. none_after e l) r.numbers in
      (home.1.0, ap (λ hs. get_elem? hs 0) home.1.1, subst (λ (l : List E). Leads steps opening l home.1.0) (sym whole) home.1.2)
    where
      turn_lives : (st : Stage C) → is_at_turn st ≤ is_live st
      turn_lives Idle = omega arith
      turn_lives (Waiting t c) = omega arith
      turn_lives (AtTurn t c) = omega arith
      turn_lives Spent = omega arith

      nothing_after : {n : ℕ} (log seen rest : List E) → seen ++ rest ≡ log → ((e : E) → e.by < n → count_of e.by log ≡ count_of e.by seen) → All (λ (e : E). e.by < n) log → seen ≡ log
      nothing_after log seen [] is same all = sym (append-nil seen) ∙ is
      nothing_after {n} log seen (e ∷ es) is same all = let after = All-after (λ (e : E). e.by < n) seen (e ∷ es) (subst (All (λ (e : E). e.by < n)) (sym is) all) in
          let q = same e (after 0 e (omega arith)) in let sum = count_of-append e.by seen (e ∷ es) in
          let whole : count_of e.by (seen ++ e ∷ es) ≡ count_of e.by log = ap (count_of e.by) is in let one = one_if_same e.by e.by refl in absurd (omega arith)

  -- and each pass that was split from it was joined to it, with all its calls
  pub closes_all : (s : St) (id : ℕ) (v : V) → Seen Ru id v s → v.number ≡ 0 → v.stage ≡ Idle → v.out ≡ 0 → (k : ℕ) → 0 < k → k ≤ v.made
      → Contains v.joined (k, length (calls_of k v.seen))
  closes_all s id v seen first idle none_out k more most =
      let r = seen.0 in
      let at = seen.1 in
      let lv : live v ≡ 1 = ap is_live idle in
      let f = r.each id v at lv in
      let zero_id : id ≡ 0 = sym f.number ∙ first in
      let h = f.first zero_id in
      let h_out = h.out_is in
      let h_made = h.made_is in
      let x = there s.views k (omega arith) in
      let two = total-two live s.views id k v x.0 (λ q. omega arith) at x.1 in
      let p = h.spent_are k x.0 x.1 (omega arith) in
      let j = h.joined_are p.0 k p.1 p.2 in
      subst (λ (n : ℕ). Contains v.joined (k, n)) (sym (count_of_is k v.seen ∙ j.1)) (Contains-at v.joined p.0 (k, p.1) p.2)

  pub closes_known : (s : St) (id : ℕ) (v : V) → Seen Ru id v s → v.stage ≡ Idle → v.number ≡ 0 → All (λ (e : E). e.by ≤ v.made) v.seen
  closes_known s id v seen idle = known steps opening s seen.0 id v (seen.0.each id v seen.1 (ap is_live idle))

  pub opens : Ru record { words = 0 ∷ 0 ∷ []; homes = some (Some opening) ∷ []; views = first_view opening ∷ [] }
  opens = record {
    log = [];
    ticket = 0;
    serving = 0;
    words = refl;
    drawn = λ x a b. absurd (omega arith);
    gone = λ x a. absurd (omega arith);
    later = λ x a. refl;
    waiting = refl;
    served = refl;
    low = omega arith;
    place = inl (refl, (opening, refl, refl));
    longest = (0, first_view opening, refl, refl, refl);
    root = (first_view opening, refl, refl);
    each = λ k x e l. ⊎_elim (λ (t : get_elem? [] k ≡ some x). absurd (some-ne-none x (sym t)))
        (λ (t : (k ≡ 0) × (first_view opening ≡ x)). subst (λ (z : ℕ × V). Fits opening [] 0 (first_view opening ∷ []) z.0 z.1) (λ i. (sym t.0 i, t.1 i)) record {
          number = refl;
          opening_is = refl;
          prefix = ([], refl);
          shorter = ([], refl);
          own = refl;
          all_own = refl;
          placed = tt;
          first = λ _. record {
            made_is = refl;
            few = omega arith;
            out_is = refl;
            balance = refl;
            spent_are = λ j y d z. ⊎_elim (λ (q : get_elem? [] j ≡ some y). absurd (some-ne-none y (sym q))) (λ (q : (j ≡ 0) × (first_view opening ≡ y)). let w : 1 ≡ live y = ap live q.1 in absurd (omega arith)) (at_snoc_or_last [] (first_view opening) y j d);
            joined_are = λ i j n d. absurd (some-ne-none (j, n) (sym d));
          };
        }) (at_snoc_or_last [] (first_view opening) x k e);
    numbers = λ k d l. absurd (omega arith);
  }
  -- the numbers that pass 0 is left with after a join
