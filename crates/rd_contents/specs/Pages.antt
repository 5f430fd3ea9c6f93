-- How the bytes of a file are kept: in pages by their number, each as far as it was written, and what they mean at a place.
use Rattle.std.specs.Prelude.{ℕ, ◌+◌, ◌-◌, ◌*◌, ◌/◌, ◌%◌, ◌<◌, ◌≤◌, ◌≡◌, nat_le, nat_lt, List, [], length, map, slice_index, Vec, None, cond, ◌&&◌}
use Rattle.std.specs.List.{range_with_len}
use Rattle.std.specs.Option.{option_map_or}
use Rattle.std.specs.Ordering.{nat_cmp}
use Rattle.std.specs.BTreeMap.{is_at}
use Rattle.std.specs.Map.{lookup}
use Rattle.rd_contents.specs.Contents.{max_len}

-- the bytes of a page
abbrev pub page_len : ℕ
page_len = 4096

module _ {A : Type 0} where
  -- the page with a number, as far as it is kept
  unfoldable pub kept_page : List (ℕ × Vec ℕ A) → ℕ → List ℕ
  kept_page pages number = option_map_or (λ page. page.items) (lookup (is_at (nat_cmp number)) pages) []

  -- the byte at a place, zero where none is kept
  unfoldable pub byte_at : List (ℕ × Vec ℕ A) → ℕ → ℕ
  byte_at pages place = slice_index (kept_page pages (place / page_len)) (place % page_len)

  -- whether the byte at a place is kept
  unfoldable pub IsKept : List (ℕ × Vec ℕ A) → ℕ → Type 0
  IsKept pages place = place % page_len < length (kept_page pages (place / page_len))

  -- so many bytes from an offset on
  unfoldable pub bytes_from : List (ℕ × Vec ℕ A) → ℕ → ℕ → List ℕ
  bytes_from pages offset count = map (byte_at pages) (range_with_len offset count)

  -- whether no page with a number is kept
  abbrev pub LacksPage : List (ℕ × Vec ℕ A) → ℕ → Type 0
  LacksPage pages number = lookup (is_at (nat_cmp number)) pages ≡ None

  -- what always holds between calls: a file isn't too long, nothing shows past its end, and no page is kept past it
  pub record IsSound (end : ℕ) (pages : List (ℕ × Vec ℕ A)) : Type 0 where
    pub short : end ≤ max_len
    pub clear : (place : ℕ) → end ≤ place → byte_at pages place ≡ 0
    pub within : (number : ℕ) → end ≤ number * page_len → LacksPage pages number

-- the byte at a place, where so many from a start on are as in a list, and the others as before
unfoldable pub over : ℕ → ℕ → List ℕ → (ℕ → ℕ) → ℕ → ℕ
over start count bytes before place = cond (nat_le start place && nat_lt place (start + count)) (slice_index bytes (place - start)) (before place)
