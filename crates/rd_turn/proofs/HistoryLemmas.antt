-- Histories: prefixes, counts of calls, and where the calls lead.
use Rattle.std.proofs.Common.{Contains, Bool, true, false, ◌≡◌, ℕ, zero, suc, ◌+◌, ◌<◌, ◌≤◌, ◌≢◌, ◌⊎◌, eqb, List, [], ◌∷◌, ◌++◌, length, All, sym, refl, ap, ◌∙◌, subst, append_assoc, append-nil, arith, eq-eqb, ne_eqb, le-ltb, lt-ltb, cond, ⊎_elim}
use mathlib.Core.Option.{some, some-injective, some-ne-none}
use mathlib.Core.Logic.{dite}
use mathlib.Core.List.{IsPrefix}
use native.Mathlib.Decide.{dec_le}
use lib.ListN.{get_elem?}
use Rattle.std.proofs.lemmas.List.Elements.{All-nil, All-cons, All-head, All-contains, filter-append}
use Rattle.rd_turn.specs.declared.object.Entry.{Entry}
use Rattle.rd_turn.specs.History.{Leads, IsLegal, entry, calls_of}
use Rattle.rd_turn.specs.Pass.{PassState, AreOthers, GoesOn, Called}
use Rattle.rd_turn.specs.Rule.{one_if, count_of}
use Rattle.rd_turn.specs.Plays.{longer_of, shorter_of}

module _ {A : Type 0} where
  -- each list is a prefix of itself
  pub prefix_self : (xs : List A) → IsPrefix xs xs
  prefix_self xs = ([], append-nil xs)

  pub prefix_more : (xs ys zs : List A) → IsPrefix xs ys → IsPrefix xs (ys ++ zs)
  prefix_more xs ys zs p = (p.0 ++ zs, sym (append_assoc xs p.0 zs) ∙ ap (λ w. w ++ zs) p.1)

  -- of two prefixes of one list the shorter is a prefix of the longer
  pub prefix_shorter : (xs ys zs : List A) → IsPrefix xs zs → IsPrefix ys zs → length xs ≤ length ys → IsPrefix xs ys
  prefix_shorter [] ys zs p q le = (ys, refl)
  prefix_shorter (x ∷ xs) [] zs p q le = absurd (omega arith)
  prefix_shorter (x ∷ xs) (y ∷ ys) [] p q le = absurd (cc (p.1))
  prefix_shorter (x ∷ xs) (y ∷ ys) (z ∷ zs) p q le =
      let heads : x ≡ y = cc (p.1, q.1) in
      let rest = prefix_shorter xs ys zs (p.0, cc (p.1)) (q.0, cc (q.1)) (omega arith) in
      (rest.0, cc (heads, rest.1))

  -- a prefix that is as long as the list is the list
  pub prefix_whole : (xs zs : List A) → IsPrefix xs zs → length zs ≤ length xs → xs ≡ zs
  prefix_whole [] [] p le = refl
  prefix_whole [] (z ∷ zs) p le = absurd (omega arith)
  prefix_whole (x ∷ xs) [] p le = absurd (cc (p.1))
  prefix_whole (x ∷ xs) (z ∷ zs) p le = let rest = prefix_whole xs zs (p.0, cc (p.1)) (omega arith) in cc (p.1, rest)

pub one_if_same : (t x : ℕ) → t ≡ x → one_if (eqb t x) ≡ 1
one_if_same t x e = ap one_if (eq-eqb t x e)

pub one_if_not : (t x : ℕ) → t ≢ x → one_if (eqb t x) ≡ 0
one_if_not t x n = ap one_if (ne_eqb t x n)

module _ {C R : Type 0} where
  pub count_of-append : (n : ℕ) (xs ys : List (Entry C R)) → count_of n (xs ++ ys) ≡ count_of n xs + count_of n ys
  count_of-append n [] ys = omega arith
  count_of-append n (x ∷ xs) ys = let t = count_of-append n xs ys in omega arith

  pub count_of_one : (n : ℕ) (c : C) (r : R) → count_of n (entry n c r ∷ []) ≡ 1
  count_of_one n c r = let t = one_if_same n n refl in omega arith

  pub count_of_other : (n k : ℕ) (c : C) (r : R) → k ≢ n → count_of n (entry k c r ∷ []) ≡ 0
  count_of_other n k c r h = let t = one_if_not k n h in omega arith

  -- where all numbers are below one, it has no calls
  pub count_of_none : (n : ℕ) (xs : List (Entry C R)) → All (λ e. e.by < n) xs → count_of n xs ≡ 0
  count_of_none n [] h = refl
  count_of_none n (x ∷ xs) h =
      let here : x.by < n = h 0 x (omega arith) in
      let t = one_if_not x.by n (λ e. omega arith) in
      let u = count_of_none n xs (λ k d l. h (suc k) d (omega arith)) in omega arith

module _ {O C R : Type 0} (steps : O → C → R → O → Type 0) where
  pub leads-snoc : (o : O) (es : List (Entry C R)) (b : O) (e : Entry C R) (a : O) → Leads steps o es b → steps b e.call e.reply a → Leads steps o (es ++ e ∷ []) a
  leads-snoc o [] b e a l s = (a, subst (λ (x : O). steps x e.call e.reply a) (sym l) s, refl)
  leads-snoc o (x ∷ xs) b e a l s = (l.0, l.1, leads-snoc l.0 xs b e a l.2 s)

module _ {A : Type 0} where
  pub All-prefix : (P : A → Type 0) (xs ys : List A) → All P (xs ++ ys) → All P xs
  All-prefix P [] ys h = λ k d l. absurd (omega arith)
  All-prefix P (x ∷ xs) ys h = All-cons P x xs (h 0 x (omega arith)) (All-prefix P xs ys (λ k d l. h (suc k) d (omega arith)))

  pub All-after : (P : A → Type 0) (xs ys : List A) → All P (xs ++ ys) → All P ys
  All-after P [] ys h = h
  All-after P (x ∷ xs) ys h = All-after P xs ys (λ k d l. h (suc k) d (omega arith))

  pub All-at : (P : A → Type 0) (l : List A) → ((i : ℕ) (x : A) → get_elem? l i ≡ some x → P x) → All P l
  All-at P [] h = All-nil P
  All-at P (x ∷ xs) h = All-cons P x xs (h 0 x refl) (All-at P xs (λ i y e. h (suc i) y e))

  pub Contains-at : (l : List A) (i : ℕ) (x : A) → get_elem? l i ≡ some x → Contains l x
  Contains-at [] i x e = absurd (some-ne-none x (sym e))
  Contains-at (y ∷ ys) zero x e = (0, omega arith, some-injective y x e)
  Contains-at (y ∷ ys) (suc i) x e = let t = Contains-at ys i x e in let less = t.1 in (suc t.0, omega arith, t.2)

  length_if : (b : Bool) (x : A) (l : List A) → length (cond b (x ∷ l) l) ≡ one_if b + length l
  length_if true x l = omega arith
  length_if false x l = omega arith

  empty_of : (l : List A) → length l ≡ 0 → l ≡ []
  empty_of [] e = refl
  empty_of (x ∷ xs) e = absurd (omega arith)

module _ {C R : Type 0} where
  pub count_of_prefix : (n : ℕ) (xs ys : List (Entry C R)) → IsPrefix xs ys → count_of n xs ≤ count_of n ys
  count_of_prefix n xs ys p = let a = count_of-append n xs p.0 in let b : count_of n (xs ++ p.0) ≡ count_of n ys = ap (count_of n) p.1 in omega arith

  -- a list between two that have as many calls of a pass has as many
  pub count_of_between : (n m : ℕ) (xs ys zs : List (Entry C R)) → IsPrefix xs ys → IsPrefix ys zs → count_of n xs ≡ m → count_of n zs ≡ m → count_of n ys ≡ m
  count_of_between n m xs ys zs p q a b = let c = count_of_prefix n xs ys p in let d = count_of_prefix n ys zs q in omega arith

  pub longer_is : (P : List (Entry C R) → List (Entry C R) → Type 0) (xs ys : List (Entry C R)) → (length ys ≤ length xs → P xs ys) → (length xs < length ys → P ys xs) → P (longer_of xs ys) (shorter_of xs ys)
  longer_is P xs ys f g = dite (dec_le (length ys) (length xs))
      (λ le. subst (λ b. P (cond b ys xs) (cond b xs ys)) (sym (le-ltb (length xs) (length ys) le)) (f le))
      (λ n. let lt : length xs < length ys = omega arith in subst (λ b. P (cond b ys xs) (cond b xs ys)) (sym (lt-ltb (length xs) (length ys) lt)) (g lt))

  -- after as many calls of a pass as the whole list has come none
  pub count_of_after : (n m : ℕ) (xs ys zs : List (Entry C R)) → zs ≡ xs ++ ys → count_of n xs ≡ m → count_of n zs ≡ m → count_of n ys ≡ 0
  count_of_after n m xs ys zs is a b = let s = count_of-append n xs ys in let t : count_of n zs ≡ count_of n (xs ++ ys) = ap (count_of n) is in omega arith

  -- the count is that of the calls
  pub count_of_is : (n : ℕ) (xs : List (Entry C R)) → length (calls_of n xs) ≡ count_of n xs
  count_of_is n [] = refl
  count_of_is n (x ∷ xs) = let here = length_if (eqb x.by n) x (calls_of n xs) in let t = count_of_is n xs in omega arith

  pub calls_of_none : (n : ℕ) (xs : List (Entry C R)) → count_of n xs ≡ 0 → calls_of n xs ≡ []
  calls_of_none n xs z = empty_of (calls_of n xs) (count_of_is n xs ∙ z)

  pub calls_of-append : (n : ℕ) (xs ys : List (Entry C R)) → calls_of n (xs ++ ys) ≡ calls_of n xs ++ calls_of n ys
  calls_of-append n xs ys = filter-append (λ (e : Entry C R). eqb e.by n) xs ys

  -- calls of others leave the calls of a pass as they were
  pub calls_of_kept : (n : ℕ) (xs ys : List (Entry C R)) → calls_of n ys ≡ [] → calls_of n (xs ++ ys) ≡ calls_of n xs
  calls_of_kept n xs ys none = calls_of-append n xs ys ∙ (ap (λ l. calls_of n xs ++ l) none ∙ append-nil (calls_of n xs))

  pub calls_of_one : (n : ℕ) (c : C) (r : R) → calls_of n (entry n c r ∷ []) ≡ entry n c r ∷ []
  calls_of_one n c r = ap (λ b. cond b (entry n c r ∷ []) []) (eq-eqb n n refl)

  -- a call of its own after calls of others is one more
  pub calls_of_more : (n : ℕ) (xs ys : List (Entry C R)) (c : C) (r : R) → calls_of n ys ≡ [] → calls_of n ((xs ++ ys) ++ entry n c r ∷ []) ≡ calls_of n xs ++ entry n c r ∷ []
  calls_of_more n xs ys c r none = calls_of-append n (xs ++ ys) (entry n c r ∷ []) ∙ (λ i. calls_of_kept n xs ys none i ++ calls_of_one n c r i)

  -- of two prefixes of a history the longer is all of it where one of them is
  pub longer_whole : (log xs ys : List (Entry C R)) → IsPrefix xs log → IsPrefix ys log → (xs ≡ log) ⊎ (ys ≡ log) → longer_of xs ys ≡ log
  longer_whole log xs ys p q = longer_is (λ (l m : List (Entry C R)). (xs ≡ log) ⊎ (ys ≡ log) → l ≡ log) xs ys
      (λ le o. ⊎_elim (λ (e : xs ≡ log). e) (λ (e : ys ≡ log). prefix_whole xs log p (subst (λ (z : List (Entry C R)). length z ≤ length xs) e le)) o)
      (λ lt o. ⊎_elim (λ (e : xs ≡ log). prefix_whole ys log q (subst (λ (z : List (Entry C R)). length z ≤ length ys) e (omega arith))) (λ (e : ys ≡ log). e) o)

module _ {O C R : Type 0} (steps : O → C → R → O → Type 0) where
  pub Leads-append : (a : O) (xs : List (Entry C R)) (b : O) (ys : List (Entry C R)) (c : O) → Leads steps a xs b → Leads steps b ys c → Leads steps a (xs ++ ys) c
  Leads-append a [] b ys c l m = subst (λ (o : O). Leads steps o ys c) (sym l) m
  Leads-append a (x ∷ xs) b ys c l m = (l.0, l.1, Leads-append l.0 xs b ys c l.2 m)

  pub Leads-parted : (a : O) (xs ys : List (Entry C R)) (c : O) → Leads steps a (xs ++ ys) c → (b : O) × Leads steps a xs b × Leads steps b ys c
  Leads-parted a [] ys c l = (a, refl, l)
  Leads-parted a (x ∷ xs) ys c l = let rest = Leads-parted l.0 xs ys c l.2 in (rest.0, (l.0, l.1, rest.1), rest.2)

  pub IsLegal-prefix : (a : O) (xs ys : List (Entry C R)) → IsPrefix xs ys → IsLegal steps a ys → IsLegal steps a xs
  IsLegal-prefix a xs ys p l = let parted = Leads-parted a xs p.0 l.0 (subst (λ (z : List (Entry C R)). Leads steps a z l.0) (sym p.1) l.1) in (parted.0, parted.1)

  -- what no step changes, no history changes
  pub Leads-keeps : {X : Type 0} (f : O → X) → ((a : O) (c : C) (r : R) (b : O) → steps a c r b → f b ≡ f a) → (a : O) (es : List (Entry C R)) (b : O) → Leads steps a es b → f b ≡ f a
  Leads-keeps f one a [] b l = ap f (sym l)
  Leads-keeps f one a (e ∷ es) b l = Leads-keeps f one l.0 es b l.2 ∙ one a e.call e.reply l.0 l.1

  -- what each step keeps true, a history keeps true
  pub Leads-keeps_fact : (P : O → Type 0) → ((a : O) (c : C) (r : R) (b : O) → steps a c r b → P a → P b) → (a : O) (es : List (Entry C R)) (b : O) → Leads steps a es b → P a → P b
  Leads-keeps_fact P one a [] b l h = subst P l h
  Leads-keeps_fact P one a (e ∷ es) b l h = Leads-keeps_fact P one l.0 es b l.2 (one a e.call e.reply l.0 l.1 h)

module _ {C R : Type 0} where
  -- the calls of a call's pass are those before it, the call, and those after it
  pub calls_of-at : (es before later : List (Entry C R)) (e : Entry C R) → es ≡ before ++ e ∷ later → calls_of e.by es ≡ calls_of e.by before ++ e ∷ calls_of e.by later
  calls_of-at es before later e is = ap (calls_of e.by) is
      ∙ (calls_of-append e.by before (e ∷ later) ∙ ap (λ b. calls_of e.by before ++ cond b (e ∷ calls_of e.by later) (calls_of e.by later)) (eq-eqb e.by e.by refl))

  pub by_at : (most : ℕ) (es before later : List (Entry C R)) (e : Entry C R) → All (λ (x : Entry C R). x.by ≤ most) es → es ≡ before ++ e ∷ later → e.by ≤ most
  by_at most es before later e few is = All-head (λ (x : Entry C R). x.by ≤ most) e later (All-after (λ (x : Entry C R). x.by ≤ most) before (e ∷ later) (subst (All (λ (x : Entry C R). x.by ≤ most)) is few))

module _ {O C R : Type 0} where
  pub GoesOn-own : (p q : PassState O C R) → GoesOn p q → calls_of p.number q.seen ≡ calls_of p.number p.seen
  GoesOn-own p q g = ap (calls_of p.number) g.1 ∙ calls_of_kept p.number p.seen g.0 g.2.0

  pub GoesOn-prefix : (p q : PassState O C R) → GoesOn p q → IsPrefix p.seen q.seen
  GoesOn-prefix p q g = (g.0, sym g.1)

  pub Called-prefix : (p q : PassState O C R) (call : C) (reply : R) → Called p call reply q → IsPrefix p.seen q.seen
  Called-prefix p q call reply g = (g.0 ++ entry p.number call reply ∷ [], sym (append_assoc p.seen g.0 (entry p.number call reply ∷ [])) ∙ sym g.1)

  pub Called-own : (p q : PassState O C R) (call : C) (reply : R) → Called p call reply q → calls_of p.number q.seen ≡ calls_of p.number p.seen ++ entry p.number call reply ∷ []
  Called-own p q call reply g = ap (calls_of p.number) g.1 ∙ calls_of_more p.number p.seen g.0 call reply g.2.0

  pub GoesOn-joined : (p q : PassState O C R) (k n : ℕ) → p.number ≡ 0 → Contains p.joined (k, n) → GoesOn p q → calls_of k q.seen ≡ calls_of k p.seen
  GoesOn-joined p q k n first in_joined g = ap (calls_of k) g.1
      ∙ calls_of_kept k p.seen g.0 (All-contains (λ (j : ℕ × ℕ). calls_of j.0 g.0 ≡ []) p.joined (k, n) (g.2.1 first) in_joined)

  pub Called-joined : (p q : PassState O C R) (call : C) (reply : R) (k n : ℕ) → p.number ≡ 0 → k ≢ 0 → Contains p.joined (k, n) → Called p call reply q → calls_of k q.seen ≡ calls_of k p.seen
  Called-joined p q call reply k n first other in_joined g = ap (calls_of k) g.1
      ∙ (calls_of_kept k (p.seen ++ g.0) (entry p.number call reply ∷ []) (calls_of_none k (entry p.number call reply ∷ []) (count_of_other k p.number call reply (λ same. other (sym same ∙ first))))
      ∙ calls_of_kept k p.seen g.0 (All-contains (λ (j : ℕ × ℕ). calls_of j.0 g.0 ≡ []) p.joined (k, n) (g.2.1 first) in_joined))

  pub are_others : (p : PassState O C R) (added : List (Entry C R)) → count_of p.number added ≡ 0
      → (p.number ≡ 0 → (i k n : ℕ) → get_elem? p.joined i ≡ some (k, n) → count_of k added ≡ 0) → AreOthers p added
  are_others p added own joined = (
    calls_of_none p.number added own,
    λ z. All-at (λ (j : ℕ × ℕ). calls_of j.0 added ≡ []) p.joined (λ i j e. calls_of_none j.0 added (joined z i j.0 j.1 e)),
  )
