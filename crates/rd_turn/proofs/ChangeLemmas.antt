-- What the rule becomes where one view, which is not spent, becomes another and the history may go on.
use Rattle.std.proofs.Common.{◌≡◌, ℕ, ◌+◌, ◌<◌, ◌≤◌, ◌≢◌, ◌⊎◌, Option, List, ◌++◌, length, set, All, sym, refl, ap, ◌∙◌, subst, inl, inr, ⊎_elim, arith, length-set}
use mathlib.Core.Option.{none, some, some-injective, some-ne-none}
use mathlib.Core.Option as maybe
use mathlib.Core.Logic.{dite}
use mathlib.Core.List.{IsPrefix}
use native.Mathlib.Decide.{ℕ_discrete}
use lib.ListN.{get_elem?}
use Rattle.std.proofs.lemmas.List.Elements.{All-append}
use Rattle.atomic_table.specs.Table.{State, Me}
use Rattle.atomic_table.proofs.Lists.{at_set, set_here, set_else}
use Rattle.rd_turn.specs.declared.object.Entry.{Entry}
use Rattle.rd_turn.specs.declared.rule.Stage.{Stage}
use Rattle.rd_turn.specs.declared.rule.Stage.TheVariants.{Idle, Waiting, AtTurn, Spent}
use Rattle.rd_turn.specs.declared.rule.View.{View}
use Rattle.rd_turn.specs.Rule.{ticket_limit, count_of, total, has_ticket, is_at_turn, live, waits, at_turn, IsPlaced, FitsFirst, Fits, IsSeenWhole, IsHome, IsOut, Rule}
use Rattle.rd_turn.proofs.TotalLemmas.{total-set, total-bound, at_length}
use Rattle.rd_turn.proofs.HistoryLemmas.{prefix_more, count_of-append}

module _ {C : Type 0} where
  one_at_most : (st : Stage C) → has_ticket st ≤ 1
  one_at_most Idle = omega arith
  one_at_most (Waiting t c) = omega arith
  one_at_most (AtTurn t c) = omega arith
  one_at_most Spent = omega arith

module _ {C R : Type 0} where
  pub placed_off : (log seen : List (Entry C R)) (serving : ℕ) (st : Stage C) → is_at_turn st ≡ 0 → IsPlaced log serving seen st
  placed_off log seen serving Idle z = tt
  placed_off log seen serving (Waiting t c) z = tt
  placed_off log seen serving (AtTurn t c) z = absurd (omega arith)
  placed_off log seen serving Spent z = tt

module _ {O C R : Type 0} (steps : O → C → R → O → Type 0) (opening : O) where
  abbrev E : Type 0
  E = Entry C R

  abbrev V : Type 0
  V = View O C R

  abbrev St : Type 0
  St = State (Option O) V

  abbrev M : Type 0
  M = Me (Option O) V

  abbrev Ru : St → Type 0
  Ru = Rule steps opening

  pub root_head : (s : St) (r : Ru s) → FitsFirst r.log s.views r.root.0.made r.root.0.out r.root.0.joined r.root.0.seen
  root_head s r = (r.each 0 r.root.0 r.root.1 r.root.2).first refl

  -- the ticket word stays far below the largest number
  pub ticket_low : (s : St) (r : Ru s) → r.ticket ≤ ticket_limit + 4294967297
  ticket_low s r = let h = root_head s r in let m = h.made_is in let f = h.few in let w = r.waiting in let l = r.low in
      let b = total-bound waits (λ v. one_at_most v.stage) s.views in omega arith

  -- a view v, of the number id, becomes w, and the history goes on by the tail
  module _ (s : St) (r : Ru s) (id : ℕ) (v w : V) (at : get_elem? s.views id ≡ some v) (lv : live v ≡ 1) (lw : live w ≡ 1)
      (log' tail : List E) (longer : r.log ++ tail ≡ log') (others : (k : ℕ) → k ≢ id → count_of k tail ≡ 0) where
    abbrev vs : List V
    vs = set s.views id w

    pub same_calls : (k : ℕ) → k ≢ id → count_of k log' ≡ count_of k r.log
    same_calls k n = let a = count_of-append k r.log tail in let b = others k n in let c : count_of k (r.log ++ tail) ≡ count_of k log' = ap (count_of k) longer in omega arith

    pub same_live : total live vs ≡ total live s.views
    same_live = let t = total-set live s.views id v w at in omega arith

    pub not_me : (k : ℕ) (x : V) → get_elem? s.views k ≡ some x → live x ≡ 0 → k ≢ id
    not_me k x e z same = let f : get_elem? s.views k ≡ some v = ap (get_elem? s.views) same ∙ at in
        let g : live x ≡ live v = ap live (some-injective x v (sym e ∙ f)) in absurd (omega arith)

    pub spent_there : (k : ℕ) (x : V) → get_elem? vs k ≡ some x → live x ≡ 0 → get_elem? s.views k ≡ some x
    spent_there k x e z = ⊎_elim (λ (t : (k ≡ id) × (w ≡ x)). let g : live w ≡ live x = ap live t.1 in absurd (omega arith)) (λ (t : (k ≢ id) × (get_elem? s.views k ≡ some x)). t.1) (at_set s.views id k w x e)

    pub head_from : (made out : ℕ) (joined : List (ℕ × ℕ)) (seen seen' : List E) → ((k n : ℕ) → count_of k log' ≡ n → count_of k seen ≡ n → count_of k seen' ≡ n)
        → FitsFirst r.log s.views made out joined seen → FitsFirst log' vs made out joined seen'
    head_from made out joined seen seen' go h = record {
      made_is = length-set s.views id w ∙ h.made_is;
      few = h.few;
      out_is = same_live ∙ h.out_is;
      balance = h.balance;
      spent_are = λ k x e z. h.spent_are k x (spent_there k x e z) z;
      joined_are = λ i k n e. let j = h.joined_are i k n e in let x = j.2 in let no = not_me k x.0 x.1 x.2 in let now : count_of k log' ≡ n = same_calls k no ∙ j.0 in
          (now, go k n now j.1, (x.0, set_else s.views id k w no ∙ x.1, x.2));
    }

    pub longer_prefix : (seen : List E) → IsPrefix seen r.log → IsPrefix seen log'
    longer_prefix seen p = subst (IsPrefix seen) longer (prefix_more seen r.log tail p)

    module _ (serving' : ℕ) where
      pub fits_else : (k : ℕ) (x : V) → k ≢ id → (IsPlaced r.log r.serving x.seen x.stage → IsPlaced log' serving' x.seen x.stage) → Fits opening r.log r.serving s.views k x → Fits opening log' serving' vs k x
      fits_else k x n placed f = record {
        number = f.number;
        opening_is = f.opening_is;
        prefix = longer_prefix x.seen f.prefix;
        shorter = longer_prefix x.shorter f.shorter;
        own = f.own;
        all_own = same_calls k n ∙ f.all_own;
        placed = placed f.placed;
        first = λ z. head_from x.made x.out x.joined x.seen x.seen (λ _ _ _ b. b) (f.first z);
      }

      pub each_set : Fits opening log' serving' vs id w → ((k : ℕ) (x : V) → k ≢ id → get_elem? s.views k ≡ some x → IsPlaced r.log r.serving x.seen x.stage → IsPlaced log' serving' x.seen x.stage)
          → (k : ℕ) (x : V) → get_elem? vs k ≡ some x → live x ≡ 1 → Fits opening log' serving' vs k x
      each_set mine placed k x e l = ⊎_elim (λ (t : (k ≡ id) × (w ≡ x)). subst (λ (z : ℕ × V). Fits opening log' serving' vs z.0 z.1) (λ i. (sym t.0 i, t.1 i)) mine)
          (λ (t : (k ≢ id) × (get_elem? s.views k ≡ some x)). fits_else k x t.0 (placed k x t.0 t.1) (r.each k x t.1 l)) (at_set s.views id k w x e)

    pub root_set : (x : V) × (get_elem? vs 0 ≡ some x) × (live x ≡ 1)
    root_set = dite (ℕ_discrete 0 id)
        (λ e. let here = at_length s.views id v at in (w, ap (get_elem? vs) e ∙ set_here s.views id w here, lw))
        (λ n. (r.root.0, set_else s.views id 0 w n ∙ r.root.1, r.root.2))

    pub numbers_set : All (λ (e : E). e.by < length s.views) tail → All (λ (e : E). e.by < length vs) log'
    numbers_set t = subst (λ (n : ℕ). All (λ (e : E). e.by < n) log') (sym (length-set s.views id w)) (subst (All (λ (e : E). e.by < length s.views)) longer (All-append (λ (e : E). e.by < length s.views) r.log tail r.numbers t))

    -- the history is seen whole where the view has seen it
    pub longest_seen : w.seen ≡ log' → IsSeenWhole log' vs
    longest_seen e = (id, w, set_here s.views id w (at_length s.views id v at), lw, e)

    -- and where the view's list and the history stay as they were
    pub longest_kept : w.seen ≡ v.seen → r.log ≡ log' → IsSeenWhole log' vs
    longest_kept kept e = let l = r.longest in dite (ℕ_discrete l.0 id)
        (λ q. longest_seen (kept ∙ (ap (λ (x : V). x.seen) (some-injective v l.1 (sym at ∙ (ap (get_elem? s.views) (sym q) ∙ l.2))) ∙ (l.4 ∙ e))))
        (λ n. (l.0, l.1, set_else s.views id l.0 w n ∙ l.2, l.3, l.4 ∙ e))

  pub place_stays : (log : List E) (homes : List (maybe.Option (Option O))) (us ws : List V) → total at_turn ws ≡ total at_turn us
      → (IsHome steps opening log homes us) ⊎ (IsOut steps opening homes us) → (IsHome steps opening log homes ws) ⊎ (IsOut steps opening homes ws)
  place_stays log homes us ws same p = ⊎_elim (λ (h : IsHome steps opening log homes us). inl (same ∙ h.0, h.1)) (λ (h : IsOut steps opening homes us). inr (same ∙ h.0, h.1)) p
