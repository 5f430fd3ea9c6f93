-- What was taken, where something was.
use Rattle.std.proofs.Common.{◌≡◌, refl, ℕ, ◌^◌, ◌<◌, arith, Bool, true, false, Option, Some, None}
use Rattle.std.specs.Prelude.{nat_lt, cond}
use Rattle.std.specs.Option.{option_map, option_or}
use Rattle.std.proofs.lemmas.Option.{none-some, same_Some}
use Rattle.std.proofs.lemmas.Bool.Decides.{nat_tests}
use Rattle.rd_audit_file.specs.Taken.{fitting}

-- some value was made of some other
pub option_map_some : {A B P : Type 0} (f : A → B) (o : Option A) (y : B) → option_map f o ≡ Some y → ((x : A) → o ≡ Some x → f x ≡ y → P) → P
option_map_some f None y e k = absurd (none-some y e)
option_map_some f (Some x) y e k = k x refl (same_Some (f x) y e)

-- the first or the second was there
pub option_or_some : {A P : Type 0} (o p : Option A) (y : A) → option_or o p ≡ Some y → (o ≡ Some y → P) → (p ≡ Some y → P) → P
option_or_some None p y e first second = second e
option_or_some (Some x) p y e first second = first e

-- a number that fits is there
pub fitting_some : (bits : ℕ) (o : Option ℕ) (n : ℕ) → fitting bits o ≡ Some n → (o ≡ Some n) × (n < 2 ^ bits)
fitting_some bits None n e = absurd (none-some n e)
fitting_some bits (Some m) n e = of (nat_lt m (2 ^ bits)) refl e
  where
    of : (b : Bool) → nat_lt m (2 ^ bits) ≡ b → cond b (Some m) None ≡ Some n → (Some m ≡ Some n) × (n < 2 ^ bits)
    of true is e =
        let same : m ≡ n = same_Some m n e in
        let below : m < 2 ^ bits = grind (arith, nat_tests) in
        (e, rw (← same) below)
    of false is e = absurd (none-some n e)

-- a number that fits stays
pub fitting-fits : (bits n : ℕ) → n < 2 ^ bits → fitting bits (Some n) ≡ Some n
fitting-fits bits n below = let test : nat_lt n (2 ^ bits) ≡ true = grind (arith, nat_tests) in rw test refl
