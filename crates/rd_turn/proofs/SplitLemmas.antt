-- A split keeps the rule.
use Rattle.std.proofs.Common.{◌≡◌, ℕ, suc, ◌+◌, ◌<◌, ◌≢◌, Option, List, [], ◌∷◌, ◌++◌, length, set, sym, refl, ap, ◌∙◌, subst, ⊎_elim, append-nil, arith, length-set, length-append}
use mathlib.Core.Option.{some}
use lib.ListN.{get_elem?}
use Rattle.std.proofs.lemmas.List.Elements.{All-weaker}
use Rattle.atomic_table.specs.Table.{State, Me, Splits}
use Rattle.atomic_table.proofs.Lists.{at_set, set_else, at_longer}
use Rattle.rd_turn.specs.declared.object.Entry.{Entry}
use Rattle.rd_turn.specs.declared.rule.Stage.TheVariants.{Idle}
use Rattle.rd_turn.specs.declared.rule.View.{View}
use Rattle.rd_turn.specs.Pass.{max_made}
use Rattle.rd_turn.specs.Rule.{count_of, total, is_live, holds_ticket, live, waits, holds, at_turn, FitsFirst, Fits, Rule}
use Rattle.rd_turn.specs.Plays.{kept_view, new_view}
use Rattle.rd_turn.proofs.TotalLemmas.{total-set, total-snoc, at_snoc_or_last}
use Rattle.rd_turn.proofs.HistoryLemmas.{count_of_none, count_of_prefix}
use Rattle.rd_turn.proofs.ChangeLemmas.{not_me, spent_there, root_set, place_stays, longest_kept}

module _ {O C R : Type 0} (steps : O → C → R → O → Type 0) (opening : O) where
  abbrev E : Type 0
  E = Entry C R

  abbrev V : Type 0
  V = View O C R

  abbrev St : Type 0
  St = State (Option O) V

  abbrev M : Type 0
  M = Me (Option O) V

  abbrev Ru : St → Type 0
  Ru = Rule steps opening

  pub split_keeps : (id : ℕ) (v : V) → v.number ≡ 0 → v.stage ≡ Idle → v.made < max_made → Splits Ru id v (kept_view v) (new_view v)
  split_keeps id v first idle few s r at =
      let lv : live v ≡ 1 = ap is_live idle in
      let f = r.each id v at lv in
      let zero_id : id ≡ 0 = sym f.number ∙ first in
      let h = f.first zero_id in
      let h_made = h.made_is in
      let w : V = kept_view v in
      let n : V = new_view v in
      let us : List V = set s.views id w in
      let ws : List V = us ++ n ∷ [] in
      let same : r.log ++ [] ≡ r.log = append-nil r.log in
      let none_else : (k : ℕ) → k ≢ id → count_of {C = C} {R = R} k [] ≡ 0 = λ k n. refl in
      let wide : length us ≡ length s.views = length-set s.views id w in
      let wider : length ws ≡ suc (length s.views) = let l = length-append us (n ∷ []) in omega arith in
      let held : (x : ℕ) → holds x v ≡ 0 = λ x. ap (holds_ticket x) idle in
      let sums : (x : ℕ) → total (holds x) ws ≡ total (holds x) s.views = λ x. let z = held x in let a : total (holds x) us + holds x v ≡ total (holds x) s.views + holds x v = total-set (holds x) s.views id v w at in
      let b : total (holds x) ws ≡ total (holds x) us + 0 = total-snoc (holds x) us n in omega arith in
      let waiting_sum : total waits ws ≡ total waits s.views = let a : total waits us + waits v ≡ total waits s.views + waits v = total-set waits s.views id v w at in
      let b : total waits ws ≡ total waits us + 0 = total-snoc waits us n in omega arith in
      let turn_sum : total at_turn ws ≡ total at_turn s.views = let a : total at_turn us + at_turn v ≡ total at_turn s.views + at_turn v = total-set at_turn s.views id v w at in
      let b : total at_turn ws ≡ total at_turn us + 0 = total-snoc at_turn us n in omega arith in
      let live_sum : total live ws ≡ suc (total live s.views) = let a : total live us + live v ≡ total live s.views + live v = total-set live s.views id v w at in
      let b : total live ws ≡ total live us + 1 = total-snoc live us n in omega arith in
      let was = r.waiting in
      let no_calls : count_of (length s.views) r.log ≡ 0 = count_of_none (length s.views) r.log r.numbers in
      let prefix_calls = count_of_prefix (length s.views) v.seen r.log f.prefix in
      let h_out = h.out_is in
      let h_balance = h.balance in
      let head' : FitsFirst r.log ws w.made w.out w.joined w.seen = record {
        made_is = omega arith;
        few = omega arith;
        out_is = omega arith;
        balance = omega arith;
        spent_are = λ k x e z. ⊎_elim (λ (t : get_elem? us k ≡ some x). h.spent_are k x (spent_there steps opening s r id v w at lv lv r.log [] same none_else k x t z) z)
            (λ (t : (k ≡ length us) × (n ≡ x)). let g : live n ≡ live x = ap live t.1 in absurd (omega arith)) (at_snoc_or_last us n x k e);
        joined_are = λ i k m e. let j = h.joined_are i k m e in let x = j.2 in
            (j.0, j.1, (x.0, at_longer us (n ∷ []) k x.0 (set_else s.views id k w (not_me steps opening s r id v w at lv lv r.log [] same none_else k x.0 x.1 x.2) ∙ x.1), x.2));
      } in
      let mine : Fits opening r.log r.serving ws id w = record {
        number = f.number;
        opening_is = f.opening_is;
        prefix = f.prefix;
        shorter = f.shorter;
        own = f.own;
        all_own = f.all_own;
        placed = f.placed;
        first = λ _. head';
      } in
      let given : Fits opening r.log r.serving ws (length s.views) n = record {
        number = sym h_made;
        opening_is = f.opening_is;
        prefix = f.prefix;
        shorter = (r.log, refl);
        own = omega arith;
        all_own = no_calls;
        placed = tt;
        first = λ z. absurd (omega arith);
      } in
      let other : (k : ℕ) (x : V) → k ≢ id → Fits opening r.log r.serving s.views k x → Fits opening r.log r.serving ws k x = λ k x d g. record {
        number = g.number;
        opening_is = g.opening_is;
        prefix = g.prefix;
        shorter = g.shorter;
        own = g.own;
        all_own = g.all_own;
        placed = g.placed;
        first = λ z. absurd (d (z ∙ sym zero_id));
      } in
      record {
        log = r.log;
        ticket = r.ticket;
        serving = r.serving;
        words = r.words;
        drawn = λ x a b. sums x ∙ r.drawn x a b;
        gone = λ x a. sums x ∙ r.gone x a;
        later = λ x a. sums x ∙ r.later x a;
        waiting = omega arith;
        served = r.served;
        low = r.low;
        place = place_stays steps opening r.log s.homes s.views ws turn_sum r.place;
        longest = let l = longest_kept steps opening s r id v w at lv lv r.log [] same none_else refl refl in (l.0, l.1, at_longer us (n ∷ []) l.0 l.1 l.2, l.3, l.4);
        root = let p = root_set steps opening s r id v w at lv lv r.log [] same none_else in (p.0, at_longer us (n ∷ []) 0 p.0 p.1, p.2);
        each = λ k x e l. ⊎_elim (λ (t : get_elem? us k ≡ some x). ⊎_elim (λ (q : (k ≡ id) × (w ≡ x)). subst (λ (z : ℕ × V). Fits opening r.log r.serving ws z.0 z.1) (λ i. (sym q.0 i, q.1 i)) mine)
            (λ (q : (k ≢ id) × (get_elem? s.views k ≡ some x)). other k x q.0 (r.each k x q.1 l)) (at_set s.views id k w x t))
            (λ (t : (k ≡ length us) × (n ≡ x)). subst (λ (z : ℕ × V). Fits opening r.log r.serving ws z.0 z.1) (λ i. (sym (t.0 ∙ wide) i, t.1 i)) given) (at_snoc_or_last us n x k e);
        numbers = All-weaker (λ (e : E). e.by < length s.views) (λ (e : E). e.by < length ws) (λ e l. omega arith) r.log r.numbers;
      }
