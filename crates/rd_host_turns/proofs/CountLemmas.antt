-- Calls of a pass in a history of the table, counted; and that what stands between is quiet, by whose calls stand there.
use Rattle.std.proofs.Common.{◌≡◌, ◌≢◌, ◌∙◌, ◌⊎◌, inl, inr, refl, sym, ap, subst, ℕ, zero, suc, ◌+◌, ◌≤◌, Bool, cond, List, [], ◌∷◌, ◌++◌, length, append_assoc, append-nil, eq-eqb, All, arith}
use Rattle.std.specs.List.{AllByRecursion}
use mathlib.Core.List.{IsPrefix}
use Rattle.rd_table.specs.declared.calls.PendingCall.{PendingCall}
use Rattle.rd_table.specs.declared.calls.PendingCall.TheVariants as table
use Rattle.rd_turn.specs.declared.object.Entry.{Entry}
use Rattle.rd_turn.specs.History.{calls_of}
use Rattle.rd_turn.specs.Rule.{count_of, total}
use Rattle.rd_turn.proofs.HistoryLemmas.{by_at, calls_of-append, calls_of-at, count_of-append, count_of_is, count_of_one, count_of_prefix}
use Rattle.rd_host_turns.specs.Turns.{AreQuiet, IsQuiet, TableEntry}

-- ---- lists

module _ {A : Type 0} where
  pub prefix_then : (xs ys zs : List A) → IsPrefix xs ys → IsPrefix ys zs → IsPrefix xs zs
  prefix_then xs ys zs (a, is) (b, so) = (a ++ b, sym (append_assoc xs a b) ∙ (ap (λ (l : List A). l ++ b) is ∙ so))

  pub prefix_is : (xs ys : List A) → ys ≡ xs → IsPrefix xs ys
  prefix_is xs ys is = ([], append-nil xs ∙ sym is)

  pub all_left : (P : A → Type 0) (xs ys : List A) → AllByRecursion P (xs ++ ys) → AllByRecursion P xs
  all_left P [] ys h = tt
  all_left P (x ∷ xs) ys (here, rest) = (here, all_left P xs ys rest)

  pub all_right : (P : A → Type 0) (xs ys : List A) → AllByRecursion P (xs ++ ys) → AllByRecursion P ys
  all_right P [] ys h = h
  all_right P (x ∷ xs) ys (here, rest) = all_right P xs ys rest

  pub all_both : (P : A → Type 0) (xs ys : List A) → AllByRecursion P xs → AllByRecursion P ys → AllByRecursion P (xs ++ ys)
  all_both P [] ys h k = k
  all_both P (x ∷ xs) ys (here, rest) k = (here, all_both P xs ys rest k)

  pub total-append : (f : A → ℕ) (xs ys : List A) → total f (xs ++ ys) ≡ total f xs + total f ys
  total-append f [] ys = omega arith
  total-append f (x ∷ xs) ys = let rest = total-append f xs ys in omega arith

module _ {C R : Type 0} where
  -- What holds of each call of a pass holds of a call that it made.
  pub of_own : (P : Entry C R → Type 0) (all before later : List (Entry C R)) (e : Entry C R) → all ≡ before ++ e ∷ later → AllByRecursion P (calls_of e.by all) → P e
  of_own P all before later e is each = (all_right P (calls_of e.by before) (e ∷ calls_of e.by later) (subst (AllByRecursion P) (calls_of-at all before later e is) each)).0

-- ---- calls by which a channel begins

abbrev pub begun_by : PendingCall → ℕ
begun_by (table.Begin channel) = 1
begun_by _ = 0

abbrev pub begun : TableEntry → ℕ
begun e = begun_by e.call

-- how many of its calls pass 0 began a channel with
abbrev pub begins_in : List TableEntry → ℕ
begins_in es = total begun (calls_of 0 es)

pub begins-append : (xs ys : List TableEntry) → begins_in (xs ++ ys) ≡ begins_in xs + begins_in ys
begins-append xs ys = ap (total begun) (calls_of-append 0 xs ys) ∙ total-append begun (calls_of 0 xs) (calls_of 0 ys)

pub begins_prefix : (xs ys : List TableEntry) → IsPrefix xs ys → begins_in xs ≤ begins_in ys
begins_prefix xs ys (more, is) = let s = begins-append xs more in let t : begins_in (xs ++ more) ≡ begins_in ys = ap begins_in is in omega arith

pub count_prefix : (k : ℕ) (xs ys : List TableEntry) → IsPrefix xs ys → count_of k xs ≤ count_of k ys
count_prefix k xs ys p = count_of_prefix k xs ys p

pub count_same : (k : ℕ) (xs ys : List TableEntry) → calls_of k xs ≡ calls_of k ys → count_of k xs ≡ count_of k ys
count_same k xs ys same = sym (count_of_is k xs) ∙ (ap length same ∙ count_of_is k ys)

pub count_none : (k : ℕ) (xs : List TableEntry) → calls_of k xs ≡ [] → count_of k xs ≡ 0
count_none k xs none = sym (count_of_is k xs) ∙ ap length none

-- ---- what stands between is quiet

-- a quiet call, or one by which a channel begins
abbrev pub IsFirsts : TableEntry → Type 0
IsFirsts e = IsQuiet e ⊎ (begun e ≡ 1)

-- Of each pass that was split from pass 0 the calls are quiet, or none of them stands here.
abbrev pub AreAway : ℕ → List TableEntry → List TableEntry → Type 0
AreAway made all here = (k : ℕ) → k ≢ 0 → k ≤ made → AreQuiet (calls_of k all) ⊎ (count_of k here ≡ 0)

count_one : (e : TableEntry) → count_of e.by (e ∷ []) ≡ 1
count_one e = count_of_one e.by e.call e.reply

first_begun : (e : TableEntry) → e.by ≡ 0 → begins_in (e ∷ []) ≡ begun e
first_begun e is = let one : begins_in (e ∷ []) ≡ begun e + 0 = ap (λ (b : Bool). total begun (cond {A = List TableEntry} b (e ∷ []) [])) (eq-eqb e.by 0 is) in omega arith

away_rest : (made : ℕ) (all here : List TableEntry) (e : TableEntry) → AreAway made all (e ∷ here) → AreAway made all here
away_rest made all here e away k ne le =
    elim (away k ne le) [
      | inl quiet ↦ inl quiet
      | inr none ↦ inr (let s = count_of-append k (e ∷ []) here in omega arith)
    ]

one_quiet : (made : ℕ) (all before here later : List TableEntry) (e : TableEntry) → all ≡ before ++ e ∷ later → e.by ≤ made → AreAway made all (e ∷ here)
    → AllByRecursion IsFirsts (calls_of 0 all) → begins_in (e ∷ here) ≡ 0
    → (n : ℕ) → e.by ≡ n → IsQuiet e
one_quiet made all before here later e is le away firsts none zero by =
    elim (of_own IsFirsts all before later e is (subst (λ (n : ℕ). AllByRecursion IsFirsts (calls_of n all)) (sym by) firsts)) [
      | inl quiet ↦ quiet
      | inr begins ↦ absurd (let s = begins-append (e ∷ []) here in let t = first_begun e by in omega arith)
    ]
one_quiet made all before here later e is le away firsts none (suc k) by =
    elim (away e.by (λ z. absurd (omega arith)) le) [
      | inl quiet ↦ of_own IsQuiet all before later e is quiet
      | inr gone ↦ absurd (let s = count_of-append e.by (e ∷ []) here in let t = count_one e in omega arith)
    ]

pub between_quiet : (made : ℕ) (all before here later : List TableEntry) → all ≡ before ++ (here ++ later) → All (λ (e : TableEntry). e.by ≤ made) all → AreAway made all here
    → AllByRecursion IsFirsts (calls_of 0 all) → begins_in here ≡ 0 → AreQuiet here
between_quiet made all before [] later is few away firsts none = tt
between_quiet made all before (e ∷ here) later is few away firsts none = (
  one_quiet made all before here (here ++ later) e is (by_at made all before (here ++ later) e few is) away firsts none e.by refl,
  between_quiet made all (before ++ e ∷ []) here later (is ∙ sym (append_assoc before (e ∷ []) (here ++ later))) few (away_rest made all here e away) firsts
      (let s = begins-append (e ∷ []) here in omega arith),
)
