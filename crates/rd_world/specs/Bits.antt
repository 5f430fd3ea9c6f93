-- Words as sets of places, and the places at which a test holds.
use Rattle.std.specs.Prelude.{◌≡◌, ◌≢◌, ℕ, ◌<◌, ◌==◌, Bool, List}
use Rattle.std.specs.Int.{bit_at}
use Rattle.std.specs.List.{filter, range_with_len}

-- whether the bit at a place is set
abbrev pub has : ℕ → ℕ → Bool
has word place = bit_at word place == 1

-- The places below n at which a test holds, rising. No abbreviation, since at a numeral it would unfold that often.
unfoldable pub where_holds : (ℕ → Bool) → ℕ → List ℕ
where_holds test n = filter test (range_with_len 0 n)

-- The bits of a word below n are set where the test holds, and nowhere else.
abbrev pub Marks : ℕ → (ℕ → Bool) → ℕ → Type 0
Marks word test n = (place : ℕ) → place < n → has word place ≡ test place

-- The bit at a place is set or cleared, and no other bit of the 64 changes.
pub record IsMarked (old new place : ℕ) (on : Bool) : Type 0 where
  pub same : has new place ≡ on
  pub others : (i : ℕ) → i < 64 → i ≢ place → has new i ≡ has old i
