-- Each step on a word keeps the rule: draw, look, pass on, and the look at the next ticket.
use Rattle.std.proofs.Common.{◌≡◌, ℕ, suc, ◌+◌, ◌%◌, ◌^◌, ◌<◌, ◌≤◌, ◌≢◌, Option, Some, List, [], ◌∷◌, ◌++◌, length, get_or, set, All, sym, refl, ap, ◌∙◌, subst, inl, inr, ⊎_elim, eqb, le_refl, append-nil, arith, length-append}
use mathlib.Core.Option.{none, some, some-injective}
use mathlib.Core.Logic.{dite}
use native.Mathlib.Decide.{ℕ_discrete, dec_le}
use lib.ListN.{get_elem?}
use lib.Seq.{set-get_or}
use Rattle.std.proofs.lemmas.List.Elements.{All-weaker, All-cons}
use Rattle.std.proofs.lemmas.Option.{same_Some}
use Rattle.atomic_table.specs.Table.{State, Me, Act, Valid, step, keeps, takes, gives, stepped, rest, put_back, carried_after, Allows}
use Rattle.atomic_table.proofs.Lists.{set_again}
use Rattle.rd_turn.specs.declared.object.Entry.{Entry}
use Rattle.rd_turn.specs.declared.rule.Stage.{Stage}
use Rattle.rd_turn.specs.declared.rule.Stage.TheVariants.{Idle, Waiting, AtTurn, Spent}
use Rattle.rd_turn.specs.declared.rule.View.{View}
use Rattle.rd_turn.specs.History.{Leads, entry}
use Rattle.rd_turn.specs.Rule.{ticket_limit, one_if, count_of, total, is_live, has_ticket, holds_ticket, is_at_turn, live, waits, holds, at_turn, IsPlaced, Fits, IsHome, IsOut, Rule}
use Rattle.rd_turn.specs.Plays.{waiting_view, turn_view, passed_view, Grown, Draws, HasTurn, Looks, PassesOn, Learns}
use Rattle.rd_turn.proofs.TotalLemmas.{total-set, total-at, total-two, total-some, at_length}
use Rattle.rd_turn.proofs.HistoryLemmas.{prefix_self, prefix_shorter, one_if_same, one_if_not, count_of-append, count_of_one, count_of_other, leads-snoc, All-prefix}
use Rattle.rd_turn.proofs.ChangeLemmas.{ticket_low, head_from, longer_prefix, each_set, root_set, numbers_set, place_stays, placed_off, longest_seen, longest_kept}

module _ {C : Type 0} where
  abbrev ticket_of : Stage C → ℕ
  ticket_of Idle = 0
  ticket_of (Waiting t c) = t
  ticket_of (AtTurn t c) = t
  ticket_of Spent = 0

  abbrev call_of : C → Stage C → C
  call_of d Idle = d
  call_of d (Waiting t c) = c
  call_of d (AtTurn t c) = c
  call_of d Spent = d

module _ {O C R : Type 0} (steps : O → C → R → O → Type 0) (opening : O) where
  abbrev E : Type 0
  E = Entry C R

  abbrev V : Type 0
  V = View O C R

  abbrev St : Type 0
  St = State (Option O) V

  abbrev M : Type 0
  M = Me (Option O) V

  abbrev Ru : St → Type 0
  Ru = Rule steps opening

  pub draw_keeps : (slots id : ℕ) (me : M) (said : Option C) (c : C) → said ≡ Some c → me.0.stage ≡ Idle
      → Allows Ru slots id me 0 (λ n. (n + 1) % 2 ^ 64) (Draws said (step slots 0 1 0 none) me)
  draw_keeps slots id me said c is idle s r _ at small =
      let v : V = me.0 in
      let t : ℕ = get_or s.words 0 0 in
      let t_is : t ≡ r.ticket = ap (λ ws. get_or ws 0 0) r.words in
      let w : V = waiting_view v t c in
      let lv : live v ≡ 1 = ap is_live idle in
      let f = r.each id v at lv in
      let low = ticket_low steps opening s r in
      let up : (t + 1) % 18446744073709551616 ≡ r.ticket + 1 = omega arith in
      let same : r.log ++ [] ≡ r.log = append-nil r.log in
      let none_else : (k : ℕ) → k ≢ id → count_of {C = C} {R = R} k [] ≡ 0 = λ k n. refl in
      let held : (x : ℕ) → holds x v ≡ 0 = λ x. ap (holds_ticket x) idle in
      let sums : (x : ℕ) → total (holds x) (set s.views id w) + holds x v ≡ total (holds x) s.views + one_if (eqb t x) = λ x. total-set (holds x) s.views id v w at in
      let waiting_sum : total waits (set s.views id w) + waits v ≡ total waits s.views + 1 = total-set waits s.views id v w at in
      let turn_sum : total at_turn (set s.views id w) + at_turn v ≡ total at_turn s.views + 0 = total-set at_turn s.views id v w at in
      let no_wait : waits v ≡ 0 = ap has_ticket idle in
      let no_turn : at_turn v ≡ 0 = ap is_at_turn idle in
      let was = r.waiting in (
        w,
        keeps,
        tt,
        record {
          log = r.log;
          ticket = r.ticket + 1;
          serving = r.serving;
          words = ap (λ ws. set ws 0 ((t + 1) % 18446744073709551616)) r.words ∙ ap (λ (n : ℕ). n ∷ r.serving ∷ []) up;
          drawn = λ x a b. let u = sums x in let z = held x in dite (ℕ_discrete t x)
              (λ e. let o = one_if_same t x e in let l = r.later x (omega arith) in omega arith)
              (λ n. let o = one_if_not t x n in let l = r.drawn x a (omega arith) in omega arith);
          gone = λ x a. let u = sums x in let z = held x in let o = one_if_not t x (λ e. omega arith) in let l = r.gone x a in omega arith;
          later = λ x a. let u = sums x in let z = held x in let o = one_if_not t x (λ e. omega arith) in let l = r.later x (omega arith) in omega arith;
          waiting = omega arith;
          served = r.served;
          low = r.low;
          place = place_stays steps opening r.log s.homes s.views (set s.views id w) (omega arith) r.place;
          longest = longest_kept steps opening s r id v w at lv refl r.log [] same none_else refl refl;
          root = root_set steps opening s r id v w at lv refl r.log [] same none_else;
          each = each_set steps opening s r id v w at lv refl r.log [] same none_else r.serving record {
            number = f.number;
            opening_is = f.opening_is;
            prefix = f.prefix;
            shorter = f.shorter;
            own = f.own;
            all_own = f.all_own;
            placed = tt;
            first = λ z. head_from steps opening s r id v w at lv refl r.log [] same none_else v.made v.out v.joined v.seen v.seen (λ _ _ _ b. b) (f.first z);
          } (λ k x _ _ p. p);
          numbers = numbers_set steps opening s r id v w at lv refl r.log [] same none_else (λ k d l. absurd (omega arith));
        },
        (c, is, refl),
      )

  grown : (s : St) (r : Ru s) (id : ℕ) (v : V) → Fits opening r.log r.serving s.views id v → (added : List E) → v.seen ++ added ≡ r.log → Grown v r.log added
  grown s r id v f added is = let sum = count_of-append id v.seen added in let whole : count_of id (v.seen ++ added) ≡ count_of id r.log = ap (count_of id) is in
      let own = f.own in let all_own = f.all_own in record {
        grown = sym is;
        not_own = subst (λ (n : ℕ). count_of n added ≡ 0) (sym f.number) (omega arith);
        own = subst (λ (n : ℕ). count_of n r.log ≡ v.calls) (sym f.number) all_own;
        not_joined = λ z i k n e. let h = f.first (sym f.number ∙ z) in let j = h.joined_are i k n e in let j₀ = j.0 in let j₁ = j.1 in
            let sum' = count_of-append k v.seen added in let whole' : count_of k (v.seen ++ added) ≡ count_of k r.log = ap (count_of k) is in omega arith;
        numbers = λ z. let h = f.first (sym f.number ∙ z) in let m = h.made_is in
            All-weaker (λ (e : E). e.by < length s.views) (λ (e : E). e.by ≤ v.made) (λ e l. omega arith) r.log r.numbers;
      }

  -- while a view has the ticket that is served and is not at turn yet, no view is at turn
  home_at : (s : St) (r : Ru s) (id : ℕ) (v : V) (t : ℕ) (c : C) → v.stage ≡ Waiting t c → get_elem? s.views id ≡ some v → t ≡ r.serving → IsHome steps opening r.log s.homes s.views
  home_at s r id v t c stage at eq = ⊎_elim (λ h. h) (λ (out : IsOut steps opening s.homes s.views).
      let one = out.0 in
      let j = total-some at_turn s.views (omega arith) in
      let mine : at_turn v ≡ 0 = ap is_at_turn stage in
      let apart : id ≢ j.0 = λ e. let same : some v ≡ some j.1 = sym at ∙ (ap (get_elem? s.views) e ∙ j.2) in
      let k : at_turn v ≡ at_turn j.1 = ap at_turn (some-injective v j.1 same) in let p = j.3 in omega arith in
      let held : holds r.serving v ≡ 1 = ap (holds_ticket r.serving) stage ∙ one_if_same t r.serving eq in
      let theirs = other_holds s r j.0 j.1 j.2 j.3 in
      let two = total-two (holds r.serving) s.views id j.0 v j.1 apart at j.2 in
      let waits_one : waits v ≡ 1 = ap has_ticket stage in
      let some_waits = total-at waits s.views id v at in
      let was = r.waiting in
      let all = r.drawn r.serving (le_refl r.serving) (omega arith) in absurd (omega arith)) r.place
    where
      on_stage : (log seen : List E) (serving : ℕ) (st : Stage C) → 0 < is_at_turn st → IsPlaced log serving seen st → holds_ticket serving st ≡ 1
      on_stage log seen serving Idle h p = absurd (omega arith)
      on_stage log seen serving (Waiting t' c') h p = absurd (omega arith)
      on_stage log seen serving (AtTurn t' c') h p = one_if_same t' serving p.0
      on_stage log seen serving Spent h p = absurd (omega arith)

      lives : (st : Stage C) → 0 < is_at_turn st → is_live st ≡ 1
      lives Idle h = refl
      lives (Waiting t' c') h = refl
      lives (AtTurn t' c') h = refl
      lives Spent h = absurd (omega arith)

      other_holds : (s : St) (r : Ru s) (j : ℕ) (x : V) → get_elem? s.views j ≡ some x → 0 < at_turn x → holds r.serving x ≡ 1
      other_holds s r j x e h = on_stage r.log x.seen r.serving x.stage h (r.each j x e (lives x.stage h)).placed

  comes : (s : St) (r : Ru s) (id : ℕ) (me : M) (t : ℕ) (c : C) → me.0.stage ≡ Waiting t c → me.1 ≡ [] → get_elem? s.views id ≡ some me.0 → get_or s.words 1 0 ≡ t → get_or s.words 1 0 < ticket_limit
      → (w : V) × (a : Act (Option O)) × Valid s.homes me.1 a × Ru (stepped s 1 (get_or s.words 1 0) id me.1 w a) × Looks steps (step 1 1 0 0 none) me (get_or s.words 1 0) (w, carried_after me.1 a)
  comes s r id me t c stage none_held at eq near =
      let v : V = me.0 in
      let n : ℕ = get_or s.words 1 0 in
      let n_is : n ≡ r.serving = ap (λ ws. get_or ws 1 0) r.words in
      let lv : live v ≡ 1 = ap is_live stage in
      let f = r.each id v at lv in
      let t_is : t ≡ r.serving = sym eq ∙ n_is in
      let home = home_at s r id v t c stage at t_is in
      let o : O = home.1.0 in
      let w : V = turn_view v r.log t c in
      let same : r.log ++ [] ≡ r.log = append-nil r.log in
      let none_else : (k : ℕ) → k ≢ id → count_of {C = C} {R = R} k [] ≡ 0 = λ k n. refl in
      let held : (x : ℕ) → holds x v ≡ one_if (eqb t x) = λ x. ap (holds_ticket x) stage in
      let sums : (x : ℕ) → total (holds x) (set s.views id w) + holds x v ≡ total (holds x) s.views + one_if (eqb t x) = λ x. total-set (holds x) s.views id v w at in
      let waiting_sum : total waits (set s.views id w) + waits v ≡ total waits s.views + 1 = total-set waits s.views id v w at in
      let turn_sum : total at_turn (set s.views id w) + at_turn v ≡ total at_turn s.views + 1 = total-set at_turn s.views id v w at in
      let one_wait : waits v ≡ 1 = ap has_ticket stage in
      let no_turn : at_turn v ≡ 0 = ap is_at_turn stage in
      let was = r.waiting in
      let none_at = home.0 in
      let low = r.low in (
        w,
        takes 0 (Some o),
        ap (λ hs. get_elem? hs 0) home.1.1,
        record {
          log = r.log;
          ticket = r.ticket;
          serving = r.serving;
          words = set-get_or s.words 1 0 ∙ r.words;
          drawn = λ x a b. let u = sums x in let z = held x in let l = r.drawn x a b in omega arith;
          gone = λ x a. let u = sums x in let z = held x in let l = r.gone x a in omega arith;
          later = λ x a. let u = sums x in let z = held x in let l = r.later x a in omega arith;
          waiting = omega arith;
          served = r.served;
          low = r.low;
          place = inr (omega arith, ap (λ hs. set hs 0 none) home.1.1);
          longest = longest_seen steps opening s r id v w at lv refl r.log [] same none_else refl;
          root = root_set steps opening s r id v w at lv refl r.log [] same none_else;
          each = each_set steps opening s r id v w at lv refl r.log [] same none_else r.serving record {
            number = f.number;
            opening_is = f.opening_is;
            prefix = prefix_self r.log;
            shorter = f.shorter;
            own = f.all_own;
            all_own = f.all_own;
            placed = (t_is, omega arith, refl);
            first = λ z. head_from steps opening s r id v w at lv refl r.log [] same none_else v.made v.out v.joined v.seen r.log (λ _ _ b _. b) (f.first z);
          } (λ k x _ _ p. p);
          numbers = numbers_set steps opening s r id v w at lv refl r.log [] same none_else (λ k d l. absurd (omega arith));
        },
        λ t' c' e. let both : Waiting t c ≡ Waiting t' c' = sym stage ∙ e in
            let there : (w, (0, Some o) ∷ me.1) ≡ (turn_view v r.log t' c', (0, Some o) ∷ []) = λ i. (turn_view v r.log (ap ticket_of both i) (ap (call_of c) both i), (0, Some o) ∷ none_held i) in (
              (λ _. (opening, o, r.log, f.prefix.0, f.opening_is, there, home.1.2, grown s r id v f f.prefix.0 f.prefix.1)),
              λ not. absurd (not (eq ∙ ap ticket_of both, near)),
            ),
      )

  pub look_keeps : (slots id : ℕ) (me : M) (t : ℕ) (c : C) → me.0.stage ≡ Waiting t c → me.1 ≡ []
      → Allows Ru slots id me 1 (λ n. n) (Looks steps (step slots 1 0 0 none) me)
  look_keeps slots id me t c stage none_held s r _ at small =
      let v : V = me.0 in
      let n : ℕ = get_or s.words 1 0 in
      let n_is : n ≡ r.serving = ap (λ ws. get_or ws 1 0) r.words in
      let lv : live v ≡ 1 = ap is_live stage in
      let f = r.each id v at lv in
      let no : ¬ HasTurn n t → (w : V) × (a : Act (Option O)) × Valid s.homes me.1 a × Ru (stepped s 1 n id me.1 w a) × Looks steps (step slots 1 0 0 none) me n (w, carried_after me.1 a)
      = λ not. (
        v,
        keeps,
        tt,
        subst Ru (λ i. record { words = sym (set-get_or s.words 1 0) i; homes = s.homes; views = sym (set_again s.views id v at) i }) r,
        λ t' c' e. let same : t ≡ t' = ap ticket_of (sym stage ∙ e) in ((λ y. absurd (not (y.0 ∙ sym same, y.1))), (λ _. refl)),
      ) in
      dite (ℕ_discrete n t)
      (λ eq. dite (dec_le ticket_limit n)
      (λ far. no (λ y. let z = y.1 in omega arith))
      (λ near. comes s r id me t c stage none_held at eq (omega arith)))
      (λ other. no (λ y. other y.0))

  pub pass_on_keeps : (slots id : ℕ) (me : M) (said : Option R) (reply : R) (t : ℕ) (c : C) (first before after : O) → said ≡ Some reply → me.0.stage ≡ AtTurn t c → me.0.opening ≡ Some first
      → Leads steps first me.0.seen before → steps before c reply after → me.1 ≡ (0, Some after) ∷ []
      → Allows Ru slots id me 1 (λ n. (n + 1) % 2 ^ 64) (PassesOn said (step slots 1 1 0 none) me)
  pass_on_keeps slots id me said reply t c first before after is stage opened leads stepped_to held_is s r _ at small =
      let v : V = me.0 in
      let n : ℕ = get_or s.words 1 0 in
      let n_is : n ≡ r.serving = ap (λ ws. get_or ws 1 0) r.words in
      let lv : live v ≡ 1 = ap is_live stage in
      let f = r.each id v at lv in
      let placed : IsPlaced r.log r.serving v.seen (AtTurn t c) = subst (IsPlaced r.log r.serving v.seen) stage f.placed in
      let t_is = placed.0 in
      let near = placed.1 in
      let seen : v.seen ≡ r.log = placed.2 in
      let e : E = entry v.number c reply in
      let log' : List E = v.seen ++ e ∷ [] in
      let w : V = passed_view v c reply in
      let longer : r.log ++ e ∷ [] ≡ log' = ap (λ l. l ++ e ∷ []) (sym seen) in
      let num = f.number in
      let others : (k : ℕ) → k ≢ id → count_of k (e ∷ []) ≡ 0 = λ k d. count_of_other k v.number c reply (λ q. d (sym q ∙ num)) in
      let held : (x : ℕ) → holds x v ≡ one_if (eqb t x) = λ x. ap (holds_ticket x) stage in
      let sums : (x : ℕ) → total (holds x) (set s.views id w) + holds x v ≡ total (holds x) s.views + 0 = λ x. total-set (holds x) s.views id v w at in
      let waiting_sum : total waits (set s.views id w) + waits v ≡ total waits s.views + 0 = total-set waits s.views id v w at in
      let turn_sum : total at_turn (set s.views id w) + at_turn v ≡ total at_turn s.views + 0 = total-set at_turn s.views id v w at in
      let one_wait : waits v ≡ 1 = ap has_ticket stage in
      let one_turn : at_turn v ≡ 1 = ap is_at_turn stage in
      let some_turn = total-at at_turn s.views id v at in
      let was = r.waiting in
      let up : (n + 1) % 18446744073709551616 ≡ r.serving + 1 = omega arith in
      let out : IsOut steps opening s.homes s.views = ⊎_elim (λ (h : IsHome steps opening r.log s.homes s.views). let z = h.0 in absurd (omega arith)) (λ (h : IsOut steps opening s.homes s.views). h) r.place in
      let one_at = out.0 in
      let same_opening : first ≡ opening = same_Some first opening (sym opened ∙ f.opening_is) in
      let leads' : Leads steps opening log' after = leads-snoc steps opening v.seen before e after (subst (λ (o : O). Leads steps o v.seen before) same_opening leads) stepped_to in
      let own' : count_of id log' ≡ suc v.calls = let sum = count_of-append id v.seen (e ∷ []) in let o = f.own in
      let one : count_of id (e ∷ []) ≡ 1 = subst (λ (k : ℕ). count_of k (e ∷ []) ≡ 1) num (count_of_one v.number c reply) in omega arith in
      let here = at_length s.views id v at in (
        w,
        gives,
        tt,
        record {
          log = log';
          ticket = r.ticket;
          serving = r.serving + 1;
          words = ap (λ ws. set ws 1 ((n + 1) % 18446744073709551616)) r.words ∙ ap (λ (k : ℕ). r.ticket ∷ k ∷ []) up;
          drawn = λ x a b. let u = sums x in let z = held x in let o = one_if_not t x (λ q. omega arith) in let l = r.drawn x (omega arith) b in omega arith;
          gone = λ x a. let u = sums x in let z = held x in dite (ℕ_discrete t x)
              (λ q. let o = one_if_same t x q in let l = r.drawn x (omega arith) (let m = total-at waits s.views id v at in omega arith) in omega arith)
              (λ q. let o = one_if_not t x q in let l = r.gone x (omega arith) in omega arith);
          later = λ x a. let u = sums x in let z = held x in let l = r.later x a in omega arith;
          waiting = omega arith;
          served = let l = length-append v.seen (e ∷ []) in let d = r.served in let q : length v.seen ≡ length r.log = ap length seen in omega arith;
          low = omega arith;
          place = inl (omega arith, (after, λ i. put_back (out.1 i) (held_is i), leads'));
          longest = longest_seen steps opening s r id v w at lv refl log' (e ∷ []) longer others refl;
          root = root_set steps opening s r id v w at lv refl log' (e ∷ []) longer others;
          each = each_set steps opening s r id v w at lv refl log' (e ∷ []) longer others (r.serving + 1) record {
            number = num;
            opening_is = f.opening_is;
            prefix = prefix_self log';
            shorter = longer_prefix steps opening s r id v w at lv refl log' (e ∷ []) longer others v.shorter f.shorter;
            own = own';
            all_own = own';
            placed = tt;
            first = λ z. head_from steps opening s r id v w at lv refl log' (e ∷ []) longer others v.made v.out v.joined v.seen log' (λ _ _ b _. b) (f.first z);
          } (λ k x d there _. placed_off log' x.seen (r.serving + 1) x.stage (let two = total-two at_turn s.views id k v x (λ q. d (sym q)) at there in omega arith));
          numbers = numbers_set steps opening s r id v w at lv refl log' (e ∷ []) longer others (All-cons (λ (z : E). z.by < length s.views) e [] (omega arith) (λ k d l. absurd (omega arith)));
        },
        λ t' c' q. (reply, is, λ i. (passed_view v (ap (call_of c) (sym stage ∙ q) i) reply, rest me.1)),
      )

  pub known : (s : St) (r : Ru s) (id : ℕ) (v : V) → Fits opening r.log r.serving s.views id v → v.number ≡ 0 → All (λ (e : E). e.by ≤ v.made) v.seen
  known s r id v f z = let h = f.first (sym f.number ∙ z) in let m = h.made_is in
      All-prefix (λ (e : E). e.by ≤ v.made) v.seen f.prefix.0 (subst (All (λ (e : E). e.by ≤ v.made)) (sym f.prefix.1)
      (All-weaker (λ (e : E). e.by < length s.views) (λ (e : E). e.by ≤ v.made) (λ e l. omega arith) r.log r.numbers))

  pub learn_keeps : (slots id : ℕ) (me : M) → live me.0 ≡ 1 → Allows Ru slots id me 0 (λ n. n) (Learns (step slots 0 0 0 none) me)
  learn_keeps slots id me lv s r _ at small = let v : V = me.0 in let f = r.each id v at lv in (
    v,
    keeps,
    tt,
    subst Ru (λ i. record { words = sym (set-get_or s.words 0 0) i; homes = s.homes; views = sym (set_again s.views id v at) i }) r,
    (
      refl,
      record {
        prefix = λ le. prefix_shorter v.shorter v.seen r.log f.shorter f.prefix le;
        own = subst (λ (n : ℕ). count_of n v.seen ≡ v.calls) (sym f.number) f.own;
        balance = λ z. (f.first (sym f.number ∙ z)).balance;
        joined = λ z i k n e. ((f.first (sym f.number ∙ z)).joined_are i k n e).1;
        numbers = known s r id v f;
      },
    ),
  )
