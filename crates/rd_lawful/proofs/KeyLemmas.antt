-- The order of keys.
use Rattle.std.proofs.Common.{◌≡◌, ◌≢◌, ◌⊎◌, ◌∙◌, refl, sym, ap, ap₂, inl, inr, ℕ, ◌<◌, ◌≤◌, ◌==◌, ◌&&◌, ◌||◌, Bool, true, false, cond, arith, eqb-true, eq-eqb}
use Rattle.std.specs.Prelude.{nat_lt}
use Rattle.std.proofs.lemmas.Bool.{ltb-false, ltb-true}
use Rattle.std.specs.Ordering.{nat_cmp, ordering_index, ordering_then}
use Rattle.std.specs.declared.cmp.Ordering.{Ordering}
use Rattle.std.specs.declared.cmp.Ordering.TheVariants.{Equal, Greater, Less}
use Rattle.rd_base.specs.declared.journal.Key.{Key}
use Rattle.rd_base.specs.Lawful.{IsBelow}
use Rattle.rd_lawful.specs.Rules.{key_below, key_is}
use Rattle.rd_lawful.proofs.BoolLemmas.{either, is_false}
use Rattle.rd_lawful.proofs.TestLemmas.{key_below-decides, key_is-decides}

pub trans : (k l m : Key) → key_below k l ≡ true → key_below l m ≡ true → key_below k m ≡ true
trans k l m e f = (key_below-decides k m).1 (by ((key_below-decides k l).0 e) ((key_below-decides l m).0 f))
  where
    by : IsBelow k l → IsBelow l m → IsBelow k m
    by (inl a) (inl b) = inl (omega (arith, a, b))
    by (inl a) (inr b) = inl (omega (arith, a, b.0))
    by (inr a) (inl b) = inl (omega (arith, a.0, b))
    by (inr a) (inr b) = inr (a.0 ∙ b.0, omega (arith, a.1, b.1))

pub not_self : (k : Key) → key_below k k ≡ false
not_self k = is_false (key_below k k) (λ e. elim ((key_below-decides k k).0 e) [ inl a ↦ omega (arith, a) | inr a ↦ omega (arith, a.1) ])

pub below_apart : (k l : Key) → key_below k l ≡ true → k ≢ l
below_apart k l e same = cc (ap (λ (x : Key). key_below k x) (sym same), not_self k, e)

-- a key that is below another isn't another's by the test of both
pub below_other : (k l : Key) → key_below k l ≡ true → key_is k l ≡ false
below_other k l e = is_false (key_is k l) (λ same. below_apart k l e ((key_is-decides k l).0 same))

pub above_other : (k l : Key) → key_below k l ≡ true → key_is l k ≡ false
above_other k l e = is_false (key_is l k) (λ same. below_apart k l e (sym ((key_is-decides l k).0 same)))

-- by channel
pub below_channel : (k l : Key) → key_below k l ≡ true → k.channel ≤ l.channel
below_channel k l e = elim ((key_below-decides k l).0 e) [ inl a ↦ omega (arith, a) | inr a ↦ omega (arith, a.0) ]

pub not_below_channel : (k l : Key) → key_below k l ≡ false → l.channel ≤ k.channel
not_below_channel k l e = by (nat_lt k.channel l.channel) refl e
  where
    by : (b : Bool) → nat_lt k.channel l.channel ≡ b → (b || (k.channel == l.channel && nat_lt k.index l.index)) ≡ false → l.channel ≤ k.channel
    by true is e = absurd (cc)
    by false is e = ltb-false k.channel l.channel is

-- ---- the same order as code has it

abbrev pub key_cmp : Key → Key → Ordering
key_cmp k l = ordering_then (nat_cmp k.channel l.channel) (nat_cmp k.index l.index)

nat_cases : (x y : ℕ) → ((nat_cmp x y ≡ Less) × (x < y)) ⊎ (((nat_cmp x y ≡ Equal) × (x ≡ y)) ⊎ ((nat_cmp x y ≡ Greater) × (y < x)))
nat_cases x y = elim (either (nat_lt x y)) [
  | inl less ↦ inl (ap (λ b. cond b Less (cond (x == y) Equal Greater)) less, ltb-true x y less)
  | inr other ↦ elim (either (x == y)) [
    | inl same ↦ inr (inl (ap₂ (λ (a b : Bool). cond a Less (cond b Equal Greater)) other same, eqb-true x y same))
    | inr apart ↦ inr (inr (ap₂ (λ (a b : Bool). cond a Less (cond b Equal Greater)) other apart, let far : x ≢ y = λ e. cc (eq-eqb x y e, apart) in omega (arith, far, ltb-false x y other)))
  ]
]

pub cmp_cases : (k l : Key) → ((key_cmp k l ≡ Less) × IsBelow k l) ⊎ (((key_cmp k l ≡ Equal) × (k ≡ l)) ⊎ ((key_cmp k l ≡ Greater) × IsBelow l k))
cmp_cases k l = elim (nat_cases k.channel l.channel) [
  | inl less ↦ inl (ap (λ (o : Ordering). ordering_then o (nat_cmp k.index l.index)) less.0, inl less.1)
  | inr other ↦ elim other [
    | inl same ↦ elim (nat_cases k.index l.index) [
      | inl less ↦ inl (ap₂ ordering_then same.0 less.0, inr (same.1, less.1))
      | inr more ↦ elim more [
        | inl both ↦ inr (inl (ap₂ ordering_then same.0 both.0, (key_is-decides k l).0 (by same.1 both.1)))
        | inr greater ↦ inr (inr (ap₂ ordering_then same.0 greater.0, inr (sym same.1, greater.1)))
      ]
    ]
    | inr greater ↦ inr (inr (ap (λ (o : Ordering). ordering_then o (nat_cmp k.index l.index)) greater.0, inl greater.1))
  ]
]
  where
    by : k.channel ≡ l.channel → k.index ≡ l.index → key_is k l ≡ true
    by channel index = rw (eq-eqb k.channel l.channel channel, eq-eqb k.index l.index index) refl

-- what a key is compared to greater ones doesn't fall
pub no_lower : (k l m : Key) → key_below k l ≡ true → ordering_index (key_cmp k m) ≤ ordering_index (key_cmp l m)
no_lower k l m e = elim (cmp_cases k m) [
  | inl less ↦ let low : ordering_index (key_cmp k m) ≡ 0 = ap ordering_index less.0 in omega (arith, low)
  | inr other ↦
      let above : key_below m l ≡ true = elim other [
        | inl same ↦ ap (λ (x : Key). key_below x l) (sym same.1) ∙ e
        | inr greater ↦ trans m k l ((key_below-decides m k).1 greater.1) e
      ] in
      elim (cmp_cases l m) [
        | inl less ↦ absurd (cc (not_self m, trans m l m above ((key_below-decides l m).1 less.1)))
        | inr others ↦ elim others [
          | inl same ↦ absurd (below_apart m l above (sym same.1))
          | inr greater ↦ let high : ordering_index (key_cmp l m) ≡ 2 = ap ordering_index greater.0 in omega (arith, high, at_most (key_cmp k m))
        ]
      ]
]
  where
    at_most : (o : Ordering) → ordering_index o ≤ 2
    at_most Less = omega arith
    at_most Equal = omega arith
    at_most Greater = omega arith
