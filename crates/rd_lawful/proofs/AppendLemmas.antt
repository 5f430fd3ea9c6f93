-- What one more entry makes of the tests of a journal.
use Rattle.std.proofs.Common.{◌≡◌, ◌≢◌, ◌∙◌, refl, sym, ap, ap₂, inl, inr, ℕ, ◌≤◌, ◌+◌, ◌&&◌, ◌||◌, ◌==◌, max, Bool, true, false, cond, not, List, [], ◌∷◌, ◌++◌, arith, eqb-true, eq-eqb}
use Rattle.std.specs.Prelude.{Option, Some, None, count_by}
use Rattle.std.specs.List.{list_any}
use Rattle.std.proofs.lemmas.List.Folds.{list_any-append}
use Rattle.rd_base.specs.declared.journal.Key.{Key}
use Rattle.rd_base.specs.declared.journal.Item.{Item}
use Rattle.rd_base.specs.declared.journal.Item.TheVariants.{Came, Cancelled, Cut, Ran, Sent}
use Rattle.rd_base.specs.Lawful.{is_unsent, sends}
use Rattle.rd_lawful.specs.Rules.{came_before, key_below, key_is, last_channel, may_end, named_channel, says_came, says_came_above, says_parked, still_waits, unsent_count}
use Rattle.rd_lawful.specs.Memory.{channel_of_last, is_above}
use Rattle.rd_lawful.specs.Judged.{IsMark}
use Rattle.rd_lawful.proofs.BoolLemmas.{and_false, both_true, either, either_true, first_true, is_false, left_true, or_false, right_true}
use Rattle.rd_lawful.proofs.CountLemmas.{cnt, cnt-is, cnt-more, cnt-none, cnt-same, cnt-some, cnt-split}
use Rattle.rd_lawful.proofs.KeyLemmas.{below_channel, not_self, trans}
use Rattle.rd_lawful.proofs.TestLemmas.{key_is-decides, none_unsent, says_came-decides}

-- ---- lists

pub any_more : (p : Item → Bool) (xs : List Item) (x : Item) → list_any p (xs ++ x ∷ []) ≡ (list_any p xs || p x)
any_more p xs x = list_any-append p xs (x ∷ []) ∙ ap (λ b. list_any p xs || b) (or_false (p x))

-- an entry that fails changes nothing
pub any_same : (p : Item → Bool) (xs : List Item) (x : Item) → p x ≡ false → list_any p (xs ++ x ∷ []) ≡ list_any p xs
any_same p xs x fails = any_more p xs x ∙ ap (λ b. list_any p xs || b) fails ∙ or_false (list_any p xs)

pub any_weaker : (p q : Item → Bool) → ((x : Item) → p x ≡ true → q x ≡ true) → (xs : List Item) → list_any p xs ≡ true → list_any q xs ≡ true
any_weaker p q so [] e = absurd (cc)
any_weaker p q so (x ∷ xs) e = elim (either_true (p x) (list_any p xs) e) [
  | inl here ↦ left_true (q x) (list_any q xs) (so x here)
  | inr later ↦ right_true (q x) (list_any q xs) (any_weaker p q so xs later)
]

-- what came isn't above itself
pub came_above : (key : Key) (xs : List Item) → list_any (says_came key) xs ≡ true → list_any (says_came_above key) xs ≡ true
came_above key = any_weaker (says_came key) (says_came_above key) (λ x e.
    ap (says_came_above key) ((says_came-decides key x).0 e) ∙ ap not (not_self key))

pub before_came : (test : Item → Bool) (key : Key) (xs : List Item) → came_before test key xs ≡ true → list_any (says_came key) xs ≡ true
before_came test key [] e = absurd (cc)
before_came test key (x ∷ xs) e = elim (either_true (says_came key x && list_any test xs) (came_before test key xs) e) [
  | inl here ↦ left_true (says_came key x) (list_any (says_came key) xs) (first_true (says_came key x) (list_any test xs) here)
  | inr later ↦ right_true (says_came key x) (list_any (says_came key) xs) (before_came test key xs later)
]

pub before_more : (test : Item → Bool) (key : Key) (xs : List Item) (x : Item) → came_before test key (xs ++ x ∷ []) ≡ (came_before test key xs || (list_any (says_came key) xs && test x))
before_more test key [] x = ap (λ b. b || false) (and_false (says_came key x))
before_more test key (y ∷ xs) x =
    ap₂ (λ (a b : Bool). (says_came key y && a) || b) (any_more test xs x) (before_more test key xs x)
    ∙ by (says_came key y) (list_any test xs) (test x) (came_before test key xs) (list_any (says_came key) xs)
  where
    by : (a b t c d : Bool) → ((a && (b || t)) || (c || (d && t))) ≡ (((a && b) || c) || ((a || d) && t))
    by true true t c d = refl
    by true false true true d = refl
    by true false true false d = refl
    by true false false true d = refl
    by true false false false d = and_false d
    by false b t c d = refl

pub waits_more : (key : Key) (xs : List Item) (x : Item) → still_waits key (xs ++ x ∷ []) ≡ (says_parked key x || (still_waits key xs && not (may_end x)))
waits_more key [] x = by (says_parked key x)
  where
    by : (a : Bool) → ((a && true) || false) ≡ (a || false)
    by true = refl
    by false = refl
waits_more key (y ∷ xs) x =
    ap₂ (λ (a b : Bool). (says_parked key y && not a) || b) (any_more may_end xs x) (waits_more key xs x)
    ∙ by (says_parked key y) (list_any may_end xs) (may_end x) (says_parked key x) (still_waits key xs)
  where
    by : (p m e q w : Bool) → ((p && not (m || e)) || (q || (w && not e))) ≡ (q || (((p && not m) || w) && not e))
    by true true e true w = refl
    by true true e false w = refl
    by true false true true w = refl
    by true false true false w = and_false w
    by true false false true w = refl
    by true false false false w = refl
    by false m e q w = refl

pub last_more : (xs : List Item) (x : Item) → last_channel (xs ++ x ∷ []) ≡ max (last_channel xs) (named_channel x)
last_more [] x = omega arith
last_more (y ∷ xs) x = let later = last_more xs x in omega (arith, later)

-- ---- marks

pub above_trans : (last : Option Key) (k q : Key) → is_above last k ≡ true → key_below k q ≡ true → is_above last q ≡ true
above_trans None k q e f = refl
above_trans (Some l) k q e f = trans l k q e f

pub above_channel : (last : Option Key) (k : Key) → is_above last k ≡ true → channel_of_last last ≤ k.channel
above_channel None k e = omega arith
above_channel (Some l) k e = below_channel l k e

module _ (test : Item → Bool) (mark last : Option Key) (items : List Item) where
  -- an entry that fails, and says of none that it came
  pub mark_other : (x : Item) → test x ≡ false → ((q : Key) → says_came q x ≡ false) → IsMark test mark last items → IsMark test mark last (items ++ x ∷ [])
  mark_other x fails none is = record {
    below = is.below;
    tells = λ q came.
        before_more test q items x
        ∙ ap (λ b. came_before test q items || (list_any (says_came q) items && b)) fails
        ∙ ap (λ b. came_before test q items || b) (and_false (list_any (says_came q) items))
        ∙ or_false (came_before test q items)
        ∙ is.tells q (sym (any_same (says_came q) items x (none q)) ∙ came);
  }

  -- one that passes
  pub mark_set : (x : Item) → test x ≡ true → ((q : Key) → says_came q x ≡ false) → ((q : Key) → list_any (says_came q) items ≡ true → is_above last q ≡ false) → IsMark test last last (items ++ x ∷ [])
  mark_set x passes none old = record {
    below = λ q e. e;
    tells = λ q came.
        let has : list_any (says_came q) items ≡ true = sym (any_same (says_came q) items x (none q)) ∙ came in
        before_more test q items x
        ∙ right_true (came_before test q items) (list_any (says_came q) items && test x) (both_true (list_any (says_came q) items) (test x) has passes)
        ∙ ap not (sym (old q has));
  }

  -- a request that comes
  pub mark_came : (k : Key) → test (Came k) ≡ false → is_above last k ≡ true → list_any (says_came k) items ≡ false → IsMark test mark last items → IsMark test mark (Some k) (items ++ Came k ∷ [])
  mark_came k fails above fresh is = record {
    below = λ q e. is.below q (above_trans last k q above e);
    tells = λ q came.
        before_more test q items (Came k)
        ∙ ap (λ b. came_before test q items || (list_any (says_came q) items && b)) fails
        ∙ ap (λ b. came_before test q items || b) (and_false (list_any (says_came q) items))
        ∙ or_false (came_before test q items)
        ∙ elim (either (list_any (says_came q) items)) [
          | inl has ↦ is.tells q has
          | inr none ↦
              let here : key_is k q ≡ true = sym (ap (λ b. b || key_is k q) none) ∙ sym (any_more (says_came q) items (Came k)) ∙ came in
              let same : k ≡ q = (key_is-decides k q).0 here in
              let unseen : came_before test q items ≡ false = is_false (came_before test q items) (λ e. cc (none, before_came test q items e)) in
              unseen ∙ ap not (sym (is.below k above) ∙ ap (is_above mark) same)
        ];
  }

-- ---- what is unsent

pub unsent_same : (items : List Item) (x : Item) → ((q : Key) → sends q x ≡ false) → (c : ℕ) (y : Item) → is_unsent (items ++ x ∷ []) c y ≡ is_unsent items c y
unsent_same items x none c (Came q) = ap (λ b. q.channel == c && not b) (any_same (sends q) items x (none q))
unsent_same items x none c (Ran q moment starved parked) = refl
unsent_same items x none c (Cancelled q) = refl
unsent_same items x none c (Sent q) = refl
unsent_same items x none c (Cut cause) = refl

pub unsent_other : (items : List Item) (x : Item) (c : ℕ) → ((q : Key) → sends q x ≡ false) → is_unsent (items ++ x ∷ []) c x ≡ false → unsent_count (items ++ x ∷ []) c ≡ unsent_count items c
unsent_other items x c none fails =
    let now = is_unsent (items ++ x ∷ []) c in
    let here : cond {A = ℕ} (now x) 1 0 ≡ 0 = ap (λ b. cond {A = ℕ} b 1 0) fails in
    omega (arith, cnt-is now (items ++ x ∷ []), cnt-more now items x, cnt-same now (is_unsent items c) (unsent_same items x none c) items, here, cnt-is (is_unsent items c) items)

pub unsent_came : (items : List Item) (k : Key) (last unsent : ℕ) → last_channel items ≡ last → unsent_count items last ≡ unsent → last ≤ k.channel → list_any (sends k) items ≡ false
    → unsent_count (items ++ Came k ∷ []) k.channel ≡ cond (last == k.channel) (unsent + 1) 1
unsent_came items k last unsent channel count low unsaid = elim (either (last == k.channel)) [
  | inl same ↦
      let is : last ≡ k.channel = eqb-true last k.channel same in
      let were : unsent_count items k.channel ≡ unsent = ap (unsent_count items) (sym is) ∙ count in
      let want : cond {A = ℕ} (last == k.channel) (unsent + 1) 1 ≡ unsent + 1 = ap (λ b. cond {A = ℕ} b (unsent + 1) 1) same in
      omega (arith, all, were, want, cnt-is (is_unsent items k.channel) items)
  | inr other ↦
      let apart : last ≢ k.channel = λ e. cc (other, eq-eqb last k.channel e) in
      let want : cond {A = ℕ} (last == k.channel) (unsent + 1) 1 ≡ 1 = ap (λ b. cond {A = ℕ} b (unsent + 1) 1) other in
      omega (arith, all, want, none_unsent items k.channel items (omega (arith, channel, low, apart)))
]
  where
    now : Item → Bool
    now = is_unsent (items ++ Came k ∷ []) k.channel

    own : is_unsent (items ++ Came k ∷ []) k.channel (Came k) ≡ true
    own = rw (eq-eqb k.channel k.channel refl, any_same (sends k) items (Came k) refl, unsaid) refl

    all : unsent_count (items ++ Came k ∷ []) k.channel ≡ cnt (is_unsent items k.channel) items + 1
    all =
        let one : cond {A = ℕ} (is_unsent (items ++ Came k ∷ []) k.channel (Came k)) 1 0 ≡ 1 = ap (λ b. cond {A = ℕ} b 1 0) own in
        omega (
          arith,
          cnt-is (is_unsent (items ++ Came k ∷ []) k.channel) (items ++ Came k ∷ []),
          cnt-more (is_unsent (items ++ Came k ∷ []) k.channel) items (Came k),
          cnt-same (is_unsent (items ++ Came k ∷ []) k.channel) (is_unsent items k.channel) (unsent_same items (Came k) (λ q. refl) k.channel) items,
          one,
        )

pub key_is-sym : (k l : Key) → key_is k l ≡ key_is l k
key_is-sym k l = elim (either (key_is l k)) [
  | inl same ↦ (key_is-decides k l).1 (sym ((key_is-decides l k).0 same)) ∙ sym same
  | inr other ↦ is_false (key_is k l) (λ e. cc (other, (key_is-decides l k).1 (sym ((key_is-decides k l).0 e)))) ∙ sym other
]

-- one that is sent was counted
pub unsent_sent : (items : List Item) (key : Key) (c : ℕ) → key.channel ≡ c → list_any (sends key) items ≡ false → list_any (says_came key) items ≡ true → count_by (says_came key) items ≤ 1
    → unsent_count (items ++ Sent key ∷ []) c + 1 ≡ unsent_count items c
unsent_sent items key c channel unsaid came once =
    let now = is_unsent (items ++ Sent key ∷ []) c in
    let was = is_unsent items c in
    omega (
      arith,
      cnt-is now (items ++ Sent key ∷ []),
      cnt-more now items (Sent key),
      cnt-same now (λ y. was y && not (says_came key y)) milder items,
      cnt-split was (says_came key) items,
      cnt-same (λ y. was y && says_came key y) (says_came key) own items,
      cnt-is (says_came key) items,
      cnt-some (says_came key) items came,
      once,
      cnt-is was items,
    )
  where
    by : (a b e : Bool) → (a && not (b || e)) ≡ ((a && not b) && not e)
    by true true e = refl
    by true false e = refl
    by false b e = refl

    milder : (y : Item) → is_unsent (items ++ Sent key ∷ []) c y ≡ (is_unsent items c y && not (says_came key y))
    milder (Came q) =
        ap (λ b. q.channel == c && not b) (any_more (sends q) items (Sent key) ∙ ap (λ b. list_any (sends q) items || b) (key_is-sym key q))
        ∙ by (q.channel == c) (list_any (sends q) items) (key_is q key)
    milder (Ran q moment starved parked) = refl
    milder (Cancelled q) = refl
    milder (Sent q) = refl
    milder (Cut cause) = refl

    counted : is_unsent items c (Came key) ≡ true
    counted = rw (eq-eqb key.channel c channel, unsaid) refl

    own : (y : Item) → (is_unsent items c y && says_came key y) ≡ says_came key y
    own y = elim (either (says_came key y)) [
      | inl here ↦
          let is : is_unsent items c y ≡ true = ap (is_unsent items c) ((says_came-decides key y).0 here) ∙ counted in
          ap (λ b. b && says_came key y) is
      | inr other ↦ ap (λ b. is_unsent items c y && b) other ∙ and_false (is_unsent items c y) ∙ sym other
    ]

-- each request comes once
pub once_other : (items : List Item) (x : Item) (q : Key) → says_came q x ≡ false → count_by (says_came q) items ≤ 1 → count_by (says_came q) (items ++ x ∷ []) ≤ 1
once_other items x q fails once =
    let here : cond {A = ℕ} (says_came q x) 1 0 ≡ 0 = ap (λ b. cond {A = ℕ} b 1 0) fails in
    omega (arith, cnt-is (says_came q) (items ++ x ∷ []), cnt-more (says_came q) items x, here, cnt-is (says_came q) items, once)

pub once_came : (items : List Item) (k q : Key) → list_any (says_came k) items ≡ false → count_by (says_came q) items ≤ 1 → count_by (says_came q) (items ++ Came k ∷ []) ≤ 1
once_came items k q fresh once = elim (either (key_is k q)) [
  | inl same ↦
      let here : cond {A = ℕ} (key_is k q) 1 0 ≡ 1 = ap (λ b. cond {A = ℕ} b 1 0) same in
      let none : list_any (says_came q) items ≡ false = ap (λ (l : Key). list_any (says_came l) items) (sym ((key_is-decides k q).0 same)) ∙ fresh in
      omega (arith, cnt-is (says_came q) (items ++ Came k ∷ []), cnt-more (says_came q) items (Came k), here, cnt-none (says_came q) items none)
  | inr other ↦ once_other items (Came k) q other once
]
