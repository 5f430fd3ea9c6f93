-- A folder or a file on one of some devices, and a name that is filled with zeros.
use Rattle.std.proofs.Common.{◌≡◌, ◌∙◌, refl, sym, ap, ℕ, zero, suc, ◌+◌, ◌-◌, ◌<◌, Bool, true, false, cond, List, [], ◌∷◌, length, drop, set, Option, Some, None, Result, Ok, Err, arith}
use Rattle.std.specs.Prelude.{◌==◌, OnOk, replicate}
use Rattle.std.specs.List.{AllByRecursion}
use Rattle.std.specs.List.Sorted.{IsStrictlySortedBy}
use Rattle.std.specs.Map.{keys_of, lookup, set_value}
use Rattle.std.specs.Ordering.{nat_cmp}
use Rattle.std.specs.declared.cmp.Ordering.TheVariants.{Less}
use Rattle.std.specs.BTreeMap.{is_at}
use Rattle.std.proofs.lemmas.Bool.Decides.{nat_tests}
use Rattle.std.proofs.lemmas.List.{at_drop_more, drop-set-lt}
use Rattle.std.proofs.lemmas.Option.{same_Some}
use Rattle.rd_dirinfo.specs.Paths.{Names}
use Rattle.rd_declared.specs.Devices.{Declared, holding_at, with_first}

same_test : (id k : ℕ) → is_at (nat_cmp id) k ≡ (k == id)
same_test id k = grind (arith, nat_tests)

not_below : (id k : ℕ) → nat_cmp id k ≡ Less → (k == id) ≡ false
not_below id k less = grind (arith, nat_tests)

same_first : (id k l : ℕ) → (k == id) ≡ true → nat_cmp k l ≡ Less → nat_cmp id l ≡ Less
same_first id k l same less = grind (arith, nat_tests)

module _ (id : ℕ) (first : Names × Option (List ℕ)) where
  one_held : ℕ × Declared → Bool → ℕ × Declared
  one_held e b = (e.0, cond b (with_first first e.1) e.1)

  -- no key is the id
  apart_held : (k : ℕ) (es : List (ℕ × Declared)) → (k == id) ≡ true → AllByRecursion (λ (l : ℕ). nat_cmp k l ≡ Less) (keys_of es) → holding_at es id first ≡ es
  apart_held k [] same less = refl
  apart_held k (e ∷ es) same less = rw (not_below id e.0 (same_first id k e.0 same less.0)) (ap (λ (l : List (ℕ × Declared)). e ∷ l) (apart_held k es same less.1))

  -- what the device with the id holds is set
  pub held_set : (es : List (ℕ × Declared)) (d : Declared) → IsStrictlySortedBy nat_cmp (keys_of es) → lookup (is_at (nat_cmp id)) es ≡ Some d
      → set_value (is_at (nat_cmp id)) es (with_first first d) ≡ holding_at es id first
  unfolding IsStrictlySortedBy
  held_set [] d rise found = absurd cc
  held_set (e ∷ es) d rise found = by (held_set es d rise.1) (e.0 == id) refl (same_test id e.0)
    where
      by : (lookup (is_at (nat_cmp id)) es ≡ Some d → set_value (is_at (nat_cmp id)) es (with_first first d) ≡ holding_at es id first) → (b : Bool) → (e.0 == id) ≡ b
          → is_at (nat_cmp id) e.0 ≡ (e.0 == id) → set_value (is_at (nat_cmp id)) (e ∷ es) (with_first first d) ≡ holding_at (e ∷ es) id first
      by rest true is test =
          let there : is_at (nat_cmp id) e.0 ≡ true = test ∙ is in
          let value : e.1 ≡ d = same_Some e.1 d (rw there at found) in
          rw (there, is) (rw value (ap (λ (l : List (ℕ × Declared)). (e.0, with_first first d) ∷ l) (sym (apart_held e.0 es is rise.0))))
      by rest false is test =
          let there : is_at (nat_cmp id) e.0 ≡ false = test ∙ is in
          rw (there, is) (ap (λ (l : List (ℕ × Declared)). e ∷ l) (rest (rw there at found)))

  pub held_none : (es : List (ℕ × Declared)) → lookup (is_at (nat_cmp id)) es ≡ None → holding_at es id first ≡ es
  held_none [] none = refl
  held_none (e ∷ es) none = by (held_none es) (e.0 == id) refl (same_test id e.0)
    where
      by : (lookup (is_at (nat_cmp id)) es ≡ None → holding_at es id first ≡ es) → (b : Bool) → (e.0 == id) ≡ b → is_at (nat_cmp id) e.0 ≡ (e.0 == id) → holding_at (e ∷ es) id first ≡ e ∷ es
      by rest true is test =
          let there : is_at (nat_cmp id) e.0 ≡ true = test ∙ is in
          let both : Some e.1 ≡ None = rw there at none in
          absurd (cc both)
      by rest false is test =
          let there : is_at (nat_cmp id) e.0 ≡ false = test ∙ is in
          rw is (ap (λ (l : List (ℕ × Declared)). e ∷ l) (rest (rw there at none)))

  pub held_ok : {E : Type 0} (r : Result (Unit {0}) E) (new d : Declared) (es last : List (ℕ × Declared)) → OnOk r (new ≡ with_first first d) → last ≡ set_value (is_at (nat_cmp id)) es new
      → lookup (is_at (nat_cmp id)) es ≡ Some d → IsStrictlySortedBy nat_cmp (keys_of es) → OnOk r (last ≡ holding_at es id first)
  held_ok (Ok u) new d es last is set found rise = set ∙ ap (λ (x : Declared). set_value (is_at (nat_cmp id)) es x) is ∙ held_set es d rise found
  held_ok (Err cause) new d es last is set found rise = tt

-- ---- zeros after a name

one_less : (n m : ℕ) → m ≡ n - 1 → drop {A = ℕ} 1 (replicate n 0) ≡ replicate m 0
one_less zero m e = let none : m ≡ 0 = omega arith in rw none refl
one_less (suc n) m e = let less : m ≡ n = omega arith in rw less refl

-- a byte more leaves one zero less
pub zeros_less : (dos : List ℕ) (i byte : ℕ) → i < length dos → drop i dos ≡ replicate (8 - i) 0 → drop (i + 1) (set dos i byte) ≡ replicate (8 - (i + 1)) 0
zeros_less dos i byte within zeros =
    drop-set-lt (i + 1) dos i byte (omega arith) ∙ sym (at_drop_more (drop {A = ℕ} 1) dos i 0 within) ∙ ap (drop {A = ℕ} 1) zeros ∙ one_less (8 - i) (8 - (i + 1)) (omega arith)
