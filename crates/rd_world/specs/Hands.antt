-- The hands of a client, by what each of them holds.
use Rattle.std.specs.Prelude.{ℕ, ◌+◌, ◌-◌, ◌==◌, ◌≤◌, Bool, false, if◌then◌else◌, List, ◌∷◌, ◌++◌, length, take, drop, Option, None, is_some, is_none, slice_get}
use Rattle.std.specs.Option.{option_map_or}
use Rattle.rd_drive.specs.declared.plan.Job.{Job}
use Rattle.rd_world.specs.Bits.{Marks}
use Rattle.rd_declared.specs.Declaring.{max_hands}

-- what the hand of a number holds, counted from 1: nothing where there is no such hand
abbrev pub hand_in : List (Option (ℕ × Job)) → ℕ → Option (Option (ℕ × Job))
hand_in hands hand = if hand == 0 then None else slice_get hands (hand - 1)

-- a hand holds this from now on, or nothing
abbrev pub hands_with : List (Option (ℕ × Job)) → ℕ → Option (ℕ × Job) → List (Option (ℕ × Job))
hands_with hands hand held = take (hand - 1) hands ++ held ∷ drop hand hands

-- whether the hand of a number is there and holds nothing, or a job
abbrev pub is_free_hand : List (Option (ℕ × Job)) → ℕ → Bool
is_free_hand hands hand = option_map_or is_none (hand_in hands hand) false

abbrev pub is_full_hand : List (Option (ℕ × Job)) → ℕ → Bool
is_full_hand hands hand = option_map_or is_some (hand_in hands hand) false

-- What a program keeps of hands: which of them hold nothing, and which a job, each at its number less one, in words of bits.
pub record KeepsHands (hands : List (Option (ℕ × Job))) (free full : ℕ) : Type 0 where
  pub some : 1 ≤ length hands
  pub few : length hands ≤ max_hands
  pub free_marks : Marks free (λ place. is_free_hand hands (place + 1)) 64
  pub full_marks : Marks full (λ place. is_full_hand hands (place + 1)) 64
