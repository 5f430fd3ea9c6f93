-- What marks of a client's devices say, and where a desk is.
use Rattle.std.proofs.Common.{◌≡◌, ◌∙◌, refl, sym, ap, ℕ, ◌&&◌, ◌||◌, Bool, true, false, cond, nat_lt, List, [], ◌∷◌, map, Some, None, slice_get, slice_set}
use Rattle.std.specs.Prelude.{position}
use Rattle.std.specs.List.{list_any}
use Rattle.std.proofs.lemmas.List.{length-set}
use Rattle.std.proofs.lemmas.List.Folds.{position_or_len-set}
use Rattle.std.proofs.lemmas.Option.{get_or_from_slice_get}
use Rattle.rd_client.specs.Core.{ClientDevice, device_marked, is_device}
use Rattle.rd_served.specs.Parts.{is_present_as}

-- where one of a list is another, of which the test says the same, the place is the same
pub place_same : {A : Type 0} (p : A → Bool) (xs : List A) (i : ℕ) (y d : A) → slice_get xs i ≡ Some d → p y ≡ p d → position p (slice_set xs i y) ≡ position p xs
place_same p xs i y d there same =
    let here = get_or_from_slice_get xs i d d there in
    let first = position_or_len-set p xs i y d (same ∙ ap p (sym here)) in
    let size = length-set xs i y in
    λ j. cond (nat_lt (first j) (size j)) (Some (first j)) None

abbrev Has : ℕ → List ClientDevice → Bool
Has device ds = list_any (is_device device) ds

abbrev Gone : ℕ → List ClientDevice → Bool
Gone device ds = list_any (λ x. is_device device x && x.removed) ds

-- where a device was removed, none of its is there
pub gone_marked : (device : ℕ) (ds : List ClientDevice) → Gone device (map (device_marked device true) ds) ≡ Has device (map (device_marked device true) ds)
gone_marked device [] = refl
gone_marked device (x ∷ ds) = by (is_device device x) refl (gone_marked device ds)
  where
    by : (b : Bool) → is_device device x ≡ b → Gone device (map (device_marked device true) ds) ≡ Has device (map (device_marked device true) ds)
        → let y : ClientDevice = cond b (record x { removed = true }) x in ((is_device device y && y.removed) || Gone device (map (device_marked device true) ds)) ≡ (is_device device y || Has device (map (device_marked device true) ds))
    by true is later = (λ i. (is i && true) || later i) ∙ (λ i. sym is i || Has device (map (device_marked device true) ds))
    by false is later = (λ i. (is i && x.removed) || later i) ∙ (λ i. sym is i || Has device (map (device_marked device true) ds))

-- where a device is there again, one of its is
pub present_marked : (device : ℕ) (ds : List ClientDevice) → Gone device ds ≡ true → list_any (is_present_as device) (map (device_marked device false) ds) ≡ true
present_marked device [] is = absurd (cc (is))
present_marked device (x ∷ ds) is = by (is_device device x) refl is (present_marked device ds)
  where
    later_true : (a b : Bool) → b ≡ true → (a || b) ≡ true
    later_true true b e = refl
    later_true false b e = e

    by : (b : Bool) → is_device device x ≡ b → ((b && x.removed) || Gone device ds) ≡ true → (Gone device ds ≡ true → list_any (is_present_as device) (map (device_marked device false) ds) ≡ true)
        → let y : ClientDevice = cond b (record x { removed = false }) x in (is_present_as device y || list_any (is_present_as device) (map (device_marked device false) ds)) ≡ true
    by true e is later = λ i. (e i && true) || list_any (is_present_as device) (map (device_marked device false) ds)
    by false e is later = later_true (is_present_as device x) _ (later is)
