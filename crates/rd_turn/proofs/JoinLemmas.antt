-- A join keeps the rule, and what pass 0 learns of the list that it is left with.
use Rattle.std.proofs.Common.{◌≡◌, ℕ, zero, suc, ◌+◌, ◌<◌, ◌≤◌, ◌≢◌, ◌⊎◌, Option, List, [], ◌∷◌, ◌++◌, length, set, All, sym, refl, ap, ◌∙◌, subst, inl, inr, ⊎_elim, append-nil, arith, length-set}
use mathlib.Core.Option.{some, some-injective}
use mathlib.Core.Logic.{dite}
use mathlib.Core.List.{IsPrefix}
use native.Mathlib.Decide.{ℕ_discrete}
use lib.ListN.{get_elem?}
use Rattle.atomic_table.specs.Table.{State, Me, Joins}
use Rattle.atomic_table.proofs.Lists.{at_set, set_here, set_else}
use Rattle.rd_turn.specs.declared.object.Entry.{Entry}
use Rattle.rd_turn.specs.declared.rule.Stage.TheVariants.{Idle}
use Rattle.rd_turn.specs.declared.rule.View.{View}
use Rattle.rd_turn.specs.History.{calls_of}
use Rattle.rd_turn.specs.Rule.{count_of, total, is_live, has_ticket, holds_ticket, is_at_turn, live, waits, holds, at_turn, IsPlaced, FitsFirst, Fits, IsSeenWhole, Rule}
use Rattle.rd_turn.specs.Plays.{both_views, spent_view, longer_of, shorter_of, Settled}
use Rattle.rd_turn.proofs.TotalLemmas.{total-set, total-two, at_length, there}
use Rattle.rd_turn.proofs.HistoryLemmas.{prefix_self, prefix_shorter, count_of_between, count_of_after, calls_of_none, calls_of_kept, longer_is, longer_whole}
use Rattle.rd_turn.proofs.ChangeLemmas.{not_me, spent_there, root_set, place_stays}

module _ {O C R : Type 0} (steps : O → C → R → O → Type 0) (opening : O) where
  abbrev E : Type 0
  E = Entry C R

  abbrev V : Type 0
  V = View O C R

  abbrev St : Type 0
  St = State (Option O) V

  abbrev M : Type 0
  M = Me (Option O) V

  abbrev Ru : St → Type 0
  Ru = Rule steps opening

  -- both lists are prefixes of the history, and of a pass that has as many calls in one of them as in all of it the longer list has as many
  longer_fits : (log xs ys : List E) → IsPrefix xs log → IsPrefix ys log → IsPrefix (longer_of xs ys) log × IsPrefix (shorter_of xs ys) log
      × ((k n : ℕ) → count_of k log ≡ n → count_of k xs ≡ n → count_of k (longer_of xs ys) ≡ n) × ((k n : ℕ) → count_of k log ≡ n → count_of k ys ≡ n → count_of k (longer_of xs ys) ≡ n)
  longer_fits log xs ys p q = longer_is (λ (l m : List E). IsPrefix l log × IsPrefix m log × ((k n : ℕ) → count_of k log ≡ n → count_of k xs ≡ n → count_of k l ≡ n) × ((k n : ℕ) → count_of k log ≡ n → count_of k ys ≡ n → count_of k l ≡ n)) xs ys
      (λ le. (p, q, (λ k n a b. b), λ k n a b. count_of_between k n ys xs log (prefix_shorter ys xs log q p le) p b a))
      (λ lt. (q, p, (λ k n a b. count_of_between k n xs ys log (prefix_shorter xs ys log p q (omega arith)) q b a), λ k n a b. b))

  pub join_keeps : (id : ℕ) (v : V) (other : ℕ) (w : V) → v.number ≡ 0 → w.number ≢ 0 → v.stage ≡ Idle → w.stage ≡ Idle → Joins Ru id v other w (both_views v w) spent_view
  join_keeps id v other w first later_one idle idle' s r at apart there =
      let b : V = both_views v w in
      let us : List V = set s.views id b in
      let ws : List V = set us other spent_view in
      let there' : get_elem? s.views other ≡ some w = sym (set_else s.views id other b apart) ∙ there in
      let lv : live v ≡ 1 = ap is_live idle in
      let lw : live w ≡ 1 = ap is_live idle' in
      let f = r.each id v at lv in
      let g = r.each other w there' lw in
      let g_number = g.number in
      let zero_id : id ≡ 0 = sym f.number ∙ first in
      let h = f.first zero_id in
      let h_made = h.made_is in
      let h_out = h.out_is in
      let h_balance = h.balance in
      let fits = longer_fits r.log v.seen w.seen f.prefix g.prefix in
      let wide : length ws ≡ length s.views = length-set us other spent_view ∙ length-set s.views id b in
      let two = total-two live s.views id other v w (λ q. apart (sym q)) at there' in
      let held : (x : ℕ) → holds x w ≡ 0 = λ x. ap (holds_ticket x) idle' in
      let sums : (x : ℕ) → total (holds x) ws ≡ total (holds x) s.views = λ x. let z = held x in let a : total (holds x) us + holds x v ≡ total (holds x) s.views + holds x v = total-set (holds x) s.views id v b at in
      let c : total (holds x) ws + holds x w ≡ total (holds x) us + 0 = total-set (holds x) us other w spent_view there in omega arith in
      let no_wait : waits w ≡ 0 = ap has_ticket idle' in
      let no_turn : at_turn w ≡ 0 = ap is_at_turn idle' in
      let waiting_sum : total waits ws ≡ total waits s.views = let a : total waits us + waits v ≡ total waits s.views + waits v = total-set waits s.views id v b at in
      let c : total waits ws + waits w ≡ total waits us + 0 = total-set waits us other w spent_view there in omega arith in
      let turn_sum : total at_turn ws ≡ total at_turn s.views = let a : total at_turn us + at_turn v ≡ total at_turn s.views + at_turn v = total-set at_turn s.views id v b at in
      let c : total at_turn ws + at_turn w ≡ total at_turn us + 0 = total-set at_turn us other w spent_view there in omega arith in
      let live_sum : total live ws + 1 ≡ total live s.views = let a : total live us + live v ≡ total live s.views + live v = total-set live s.views id v b at in
      let c : total live ws + live w ≡ total live us + 0 = total-set live us other w spent_view there in omega arith in
      let was = r.waiting in
      let same : r.log ++ [] ≡ r.log = append-nil r.log in
      let none_else : (k : ℕ) → k ≢ id → count_of {C = C} {R = R} k [] ≡ 0 = λ k n. refl in
      let other_in = at_length us other w there in
      let joined_at : (i k n : ℕ) → get_elem? ((w.number, w.calls) ∷ v.joined) i ≡ some (k, n)
      → (count_of k r.log ≡ n) × (count_of k b.seen ≡ n) × ((x : V) × (get_elem? ws k ≡ some x) × (live x ≡ 0))
      = elim [
        | zero ↦ (λ k n e. let q : (w.number, w.calls) ≡ (k, n) = some-injective (w.number, w.calls) (k, n) e in
            let all : count_of k r.log ≡ n = subst (λ (z : ℕ × ℕ). count_of z.0 r.log ≡ z.1) q (ap (λ (z : ℕ). count_of z r.log) g_number ∙ g.all_own) in
            let own : count_of k w.seen ≡ n = subst (λ (z : ℕ × ℕ). count_of z.0 w.seen ≡ z.1) q (ap (λ (z : ℕ). count_of z w.seen) g_number ∙ g.own) in
            (all, fits.3 k n all own, (spent_view, subst (λ (z : ℕ). get_elem? ws z ≡ some spent_view) (sym g_number ∙ ap (λ (z : ℕ × ℕ). z.0) q) (set_here us other spent_view other_in), refl)))
        | suc i ↦ (λ k n e. let j = h.joined_are i k n e in let x = j.2 in
            let not_id = not_me steps opening s r id v v at lv lv r.log [] same none_else k x.0 x.1 x.2 in
            let not_other = not_me steps opening s r other w w there' lw lw r.log [] same (λ k n. refl) k x.0 x.1 x.2 in
            (j.0, fits.2 k n j.0 j.1, (x.0, set_else us other k spent_view not_other ∙ (set_else s.views id k b not_id ∙ x.1), x.2)))
      ] in
      let head' : FitsFirst r.log ws b.made b.out b.joined b.seen = record {
        made_is = wide ∙ h_made;
        few = h.few;
        out_is = omega arith;
        balance = omega arith;
        spent_are = λ k x e z. ⊎_elim (λ (t : (k ≡ other) × (spent_view ≡ x)). (0, w.calls, λ i. some ((g_number ∙ sym t.0) i, w.calls)))
            (λ (t : (k ≢ other) × (get_elem? us k ≡ some x)). let p = h.spent_are k x (spent_there steps opening s r id v b at lv lv r.log [] same none_else k x t.1 z) z in (suc p.0, p.1, p.2)) (at_set us other k spent_view x e);
        joined_are = joined_at;
      } in
      let mine : Fits opening r.log r.serving ws id b = record {
        number = f.number;
        opening_is = f.opening_is;
        prefix = fits.0;
        shorter = fits.1;
        own = fits.2 id v.calls f.all_own f.own;
        all_own = f.all_own;
        placed = subst (IsPlaced r.log r.serving b.seen) (sym idle) tt;
        first = λ _. head';
      } in
      let others : (k : ℕ) (x : V) → k ≢ id → Fits opening r.log r.serving s.views k x → Fits opening r.log r.serving ws k x = λ k x d g. record {
        number = g.number;
        opening_is = g.opening_is;
        prefix = g.prefix;
        shorter = g.shorter;
        own = g.own;
        all_own = g.all_own;
        placed = g.placed;
        first = λ z. absurd (d (z ∙ sym zero_id));
      } in
      let whole : (v.seen ≡ r.log) ⊎ (w.seen ≡ r.log) → IsSeenWhole r.log ws = λ o. (id, b, set_else us other id spent_view (λ q. apart (sym q)) ∙ set_here s.views id b (at_length s.views id v at), lv, longer_whole r.log v.seen w.seen f.prefix g.prefix o) in
      let l = r.longest in
      let longest' : IsSeenWhole r.log ws = dite (ℕ_discrete l.0 id)
      (λ q. whole (inl (ap (λ (x : V). x.seen) (some-injective v l.1 (sym at ∙ (ap (get_elem? s.views) (sym q) ∙ l.2))) ∙ l.4)))
      (λ n. dite (ℕ_discrete l.0 other)
      (λ q. whole (inr (ap (λ (x : V). x.seen) (some-injective w l.1 (sym there' ∙ (ap (get_elem? s.views) (sym q) ∙ l.2))) ∙ l.4)))
      (λ m. (l.0, l.1, set_else us other l.0 spent_view m ∙ (set_else s.views id l.0 b n ∙ l.2), l.3, l.4))) in
      let root' = root_set steps opening s r id v b at lv lv r.log [] same none_else in
      record {
        log = r.log;
        ticket = r.ticket;
        serving = r.serving;
        words = r.words;
        drawn = λ x a b. sums x ∙ r.drawn x a b;
        gone = λ x a. sums x ∙ r.gone x a;
        later = λ x a. sums x ∙ r.later x a;
        waiting = omega arith;
        served = r.served;
        low = r.low;
        place = place_stays steps opening r.log s.homes s.views ws turn_sum r.place;
        longest = longest';
        root = (root'.0, set_else us other 0 spent_view (λ q. apart (sym q ∙ sym zero_id)) ∙ root'.1, root'.2);
        each = λ k x e l. ⊎_elim (λ (t : (k ≡ other) × (spent_view ≡ x)). let z : 0 ≡ live x = ap live t.1 in absurd (omega arith))
            (λ (t : (k ≢ other) × (get_elem? us k ≡ some x)). ⊎_elim (λ (q : (k ≡ id) × (b ≡ x)). subst (λ (z : ℕ × V). Fits opening r.log r.serving ws z.0 z.1) (λ i. (sym q.0 i, q.1 i)) mine)
            (λ (q : (k ≢ id) × (get_elem? s.views k ≡ some x)). others k x q.0 (r.each k x q.1 l)) (at_set s.views id k b x t.1)) (at_set us other k spent_view x e);
        numbers = subst (λ (n : ℕ). All (λ (e : E). e.by < n) r.log) (sym wide) r.numbers;
      }

module _ {C R : Type 0} where
  first_prefix : (xs ys : List (Entry C R)) → (length (shorter_of xs ys) ≤ length (longer_of xs ys) → IsPrefix (shorter_of xs ys) (longer_of xs ys)) → IsPrefix xs (longer_of xs ys)
  first_prefix xs ys = longer_is (λ (l m : List (Entry C R)). (length m ≤ length l → IsPrefix m l) → IsPrefix xs l) xs ys (λ le f. prefix_self xs) (λ lt f. f (omega arith))

  second_prefix : (xs ys : List (Entry C R)) → (length (shorter_of xs ys) ≤ length (longer_of xs ys) → IsPrefix (shorter_of xs ys) (longer_of xs ys)) → IsPrefix ys (longer_of xs ys)
  second_prefix xs ys = longer_is (λ (l m : List (Entry C R)). (length m ≤ length l → IsPrefix m l) → IsPrefix ys l) xs ys (λ le f. f le) (λ lt f. prefix_self ys)

module _ {O C R : Type 0} where
  pub joined_on : (v w : View O C R) → v.number ≡ 0 → Settled v → Settled (both_views v w)
      → (added : List (Entry C R)) × (longer_of v.seen w.seen ≡ v.seen ++ added) × (count_of v.number added ≡ 0) × (v.number ≡ 0 → (i k n : ℕ) → get_elem? v.joined i ≡ some (k, n) → count_of k added ≡ 0)
  joined_on v w first was now = let p = first_prefix v.seen w.seen now.prefix in (
    p.0,
    sym p.1,
    count_of_after v.number v.calls v.seen p.0 (longer_of v.seen w.seen) (sym p.1) was.own now.own,
    λ z i k n e. count_of_after k n v.seen p.0 (longer_of v.seen w.seen) (sym p.1) (was.joined z i k n e) (now.joined z (suc i) k n e),
  )

  -- where the longer list counts as many calls of the other pass as the other's list does, they are the same calls
  pub other_calls : (v w : View O C R) → Settled (both_views v w) → count_of w.number (longer_of v.seen w.seen) ≡ count_of w.number w.seen → calls_of w.number (longer_of v.seen w.seen) ≡ calls_of w.number w.seen
  other_calls v w now counts = let p = second_prefix v.seen w.seen now.prefix in
      let none = count_of_after w.number (count_of w.number w.seen) w.seen p.0 (longer_of v.seen w.seen) (sym p.1) refl counts in
      ap (calls_of w.number) (sym p.1) ∙ calls_of_kept w.number w.seen p.0 (calls_of_none w.number p.0 none)
