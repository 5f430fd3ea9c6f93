-- The requests whose completions are still to come, as the map keeps them.
use Rattle.std.proofs.Common.{◌≡◌, ℕ, Bool, true, false, List, [], ◌∷◌, ◌++◌, Option, Some, None, cond, refl, sym, ap, ◌∙◌, arith}
use Rattle.std.specs.Prelude.{◌==◌, ◌&&◌, nat_lt, MatchOption, ◌+◌, drop}
use Rattle.std.specs.VecDeque.{deque_len}
use Rattle.std.proofs.lemmas.List.{nil_from_length}
use Rattle.std.specs.Option.{option_map_or, option_to_list}
use Rattle.std.specs.Ordering.{nat_cmp, ordering_then, is_eq}
use Rattle.std.specs.declared.cmp.Ordering.{Ordering}
use Rattle.std.specs.declared.cmp.Ordering.TheVariants.{Less, Equal, Greater}
use Rattle.std.specs.BTreeMap.{is_at}
use Rattle.std.specs.Map.{lookup}
use Rattle.std.specs.declared.alloc.Global.{Global}
use Rattle.std.specs.declared.collections.VecDeque.{VecDeque}
use Rattle.std.proofs.lemmas.Bool.{eqb-true, ltb-true}
use Rattle.rd_decode.specs.declared.awaited.Pair.{Pair}
use Rattle.rd_decode.specs.Awaited.{AwaitedOf, first_awaited, others_of, with_awaited}
use Rattle.rd_decode.specs.Kept.{is_pair, kept_at}

-- the order of pairs
abbrev pub pair_cmp : Pair → Pair → Ordering
pair_cmp a b = ordering_then (nat_cmp a.device b.device) (nat_cmp a.completion b.completion)

then_eq : (p q : Ordering) → is_eq (ordering_then p q) ≡ (is_eq p && is_eq q)
then_eq Less q = refl
then_eq Equal q = refl
then_eq Greater q = refl

number_eq : (x y : ℕ) → is_eq (nat_cmp x y) ≡ (x == y)
number_eq x y = go (nat_lt x y) (x == y) (less (x == y) refl)
  where
    less : (e : Bool) → (x == y) ≡ e → nat_lt x y ≡ true → e ≡ false
    less false is lt = refl
    less true is lt = let same : x ≡ y = eqb-true x y is in absurd (omega (arith, ltb-true x y lt, same))

    go : (l e : Bool) → (l ≡ true → e ≡ false) → is_eq (cond l Less (cond e Equal Greater)) ≡ e
    go true e unequal = sym (unequal refl)
    go false true unequal = refl
    go false false unequal = refl

-- a pair stands at a key where it is that pair
at_pair : (k e : Pair) → is_at (pair_cmp k) e ≡ is_pair k.device k.completion e
at_pair k e = then_eq (nat_cmp k.device e.device) (nat_cmp k.completion e.completion) ∙ ap (λ (b : Bool). b && is_eq (nat_cmp k.completion e.completion)) (number_eq k.device e.device)
    ∙ ap (λ (b : Bool). (k.device == e.device) && b) (number_eq k.completion e.completion)

-- what a map keeps of each pair
abbrev pub Kept : Type 0 → Type 0
Kept K = List (Pair × VecDeque K Global)

module _ {K : Type 0} where
  -- what stands at a key is what is still to come of that pair
  at_key : (kept : Kept K) (d c : ℕ) → option_map_or (λ kinds. kinds.items) (lookup (is_at (pair_cmp (record { device = d; completion = c }))) kept) [] ≡ kept_at kept d c
  at_key kept d c = ap (λ (t : Pair → Bool). option_map_or (λ kinds. kinds.items) (lookup t kept) []) (λ i. λ e. at_pair (record { device = d; completion = c }) e i)

  -- where a key gets something else, or nothing, the pair has something else to come, and every other pair what it had
  pub changed : (before after : Kept K) (k : Pair) (w : Option (VecDeque K Global))
      → ((q : Pair) → lookup (is_at (pair_cmp q)) after ≡ cond (is_at (pair_cmp k) q) w (lookup (is_at (pair_cmp q)) before))
      → kept_at after ≡ with_awaited k.device k.completion (option_map_or (λ kinds. kinds.items) w []) (kept_at before)
  changed before after k w updates = λ i. λ d c. (at_pair_is d c) i
    where
      go : (d c : ℕ) (a b : Bool) → a ≡ b → option_map_or (λ kinds. kinds.items) (cond a w (lookup (is_at (pair_cmp (record { device = d; completion = c }))) before)) [] ≡ cond b (option_map_or (λ kinds. kinds.items) w []) (kept_at before d c)
      go d c true true is = refl
      go d c false false is = at_key before d c
      go d c true false is = absurd cc
      go d c false true is = absurd cc

      at_pair_is : (d c : ℕ) → kept_at after d c ≡ with_awaited k.device k.completion (option_map_or (λ kinds. kinds.items) w []) (kept_at before) d c
      at_pair_is d c =
          let q : Pair = record { device = d; completion = c } in
          sym (at_key after d c) ∙ ap (λ (o : Option (VecDeque K Global)). option_map_or (λ kinds. kinds.items) o []) (updates q) ∙ go d c (is_at (pair_cmp k) q) (is_pair k.device k.completion q) (at_pair k q)

  -- of two changes of one pair the last one counts
  pub last_change : (d c : ℕ) (some others : List K) (before middle after : AwaitedOf K) → middle ≡ with_awaited d c some before → after ≡ with_awaited d c others middle → after ≡ with_awaited d c others before
  last_change d c some others before middle after first second = second ∙ ap (with_awaited d c others) first ∙ (λ i. λ x y. (same x y (d == x && c == y)) i)
    where
      same : (x y : ℕ) (b : Bool) → cond b others (cond b some (before x y)) ≡ cond b others (before x y)
      same x y true = refl
      same x y false = refl

  -- no element is one where the length is none
  none_left : (q : VecDeque K Global) → deque_len q ≡ 0 → q.items ≡ []
  none_left q none = nil_from_length q.items (sym (q.ok.0) ∙ none)

  pub popped_first : (kinds others : VecDeque K Global) (first : Option K) (awaited : List K) → kinds.items ≡ option_to_list first ++ others.items → MatchOption first ((deque_len kinds ≡ 0) × (deque_len others ≡ 0)) (λ _. deque_len others + 1 ≡ deque_len kinds)
      → kinds.items ≡ awaited → first ≡ first_awaited awaited
  popped_first kinds others (Some k) awaited parts cases is = let e : awaited ≡ k ∷ others.items = sym is ∙ parts in rw e refl
  popped_first kinds others None awaited parts cases is = let e : awaited ≡ [] = sym is ∙ none_left kinds cases.0 in rw e refl

  drop_one : (xs : List K) → others_of xs ≡ drop 1 xs
  drop_one [] = refl
  drop_one (k ∷ ks) = refl

  pub popped_others : (kinds others : VecDeque K Global) (awaited : List K) → others.items ≡ drop 1 kinds.items → kinds.items ≡ awaited → others_of awaited ≡ others.items
  popped_others kinds others awaited rest is = let e : others_of awaited ≡ drop 1 awaited = drop_one awaited in e ∙ ap (drop 1) (sym is) ∙ sym rest

  pub popped_all : (kinds others : VecDeque K Global) (awaited : List K) → others.items ≡ drop 1 kinds.items → kinds.items ≡ awaited → deque_len others ≡ 0 → others_of awaited ≡ []
  popped_all kinds others awaited rest is none = popped_others kinds others awaited rest is ∙ none_left others none
