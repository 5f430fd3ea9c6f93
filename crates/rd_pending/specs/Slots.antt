-- Slots in a row of places, and the marks of those that are held.
use Rattle.std.specs.Prelude.{◌≡◌, ℕ, ◌+◌, ◌*◌, ◌<◌, ◌==◌, if◌then◌else◌, true, List, [], ◌∷◌, length, slice_index, slice_index_or, Option, Some, None, is_some}
use Rattle.std.specs.Int.{bit_at}
use Rattle.std.specs.Option.{option_map}
use Rattle.rd_pending.specs.declared.slots.Held.{Held}
use Rattle.rd_pending.specs.Table.{Slot, max_slots}

-- how many words of marks there are
abbrev pub words : ℕ
words = 16

-- what a place holds, as a slot
abbrev pub slot_of : Held → Slot
slot_of held = record { number = held.number; device = held.device; kind = held.kind; dead = held.dead }

-- the slots that are held, by their places, of which the first has this number
abbrev pub held_from : ℕ → List (Option Held) → List (ℕ × Slot)
held_from n [] = []
held_from n (None ∷ places) = held_from (n + 1) places
held_from n (Some held ∷ places) = (n, slot_of held) ∷ held_from (n + 1) places

-- what a place holds, if it is there and holds something
abbrev pub place_at : List (Option Held) → ℕ → Option Held
place_at places id = slice_index_or places id None

-- what a place holds is dead, if it is of a device
abbrev pub died : ℕ → Option Held → Option Held
died device place = option_map (λ held. if held.device == device then record held { dead = true } else held) place

-- the bit of a word, 0 or 1
abbrev pub mark_at : List ℕ → ℕ → ℕ → ℕ
mark_at marks word bit = bit_at (slice_index marks word) bit

-- each place that holds something is marked, and no other is
pub record AreMarked (marks : List ℕ) (places : List (Option Held)) : Type 0 where
  pub word_count : length marks ≡ words
  pub place_count : length places ≡ max_slots
  pub marked : (word bit : ℕ) → word < words → bit < 64 → mark_at marks word bit ≡ (if is_some (place_at places (64 * word + bit)) then 1 else 0)

-- the least place that isn't marked
pub record IsLeastUnmarked (marks : List ℕ) (id : ℕ) : Type 0 where
  pub word : ℕ
  pub bit : ℕ
  pub low : (word < words) × (bit < 64)
  pub is : id ≡ 64 * word + bit
  pub unmarked : mark_at marks word bit ≡ 0
  pub before : (w b : ℕ) → b < 64 → 64 * w + b < id → mark_at marks w b ≡ 1

-- every place is marked
abbrev pub AreAllMarked : List ℕ → Type 0
AreAllMarked marks = (word bit : ℕ) → word < words → bit < 64 → mark_at marks word bit ≡ 1

-- The mark of one place is this one now, and the others are as they were.
pub record SetsMark (old new : List ℕ) (id mark : ℕ) : Type 0 where
  pub here : (word bit : ℕ) → bit < 64 → id ≡ 64 * word + bit → mark_at new word bit ≡ mark
  pub others : (word bit : ℕ) → bit < 64 → (id ≡ 64 * word + bit → ⊥) → mark_at new word bit ≡ mark_at old word bit
