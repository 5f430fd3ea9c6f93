-- The marks of the places that hold something: one more, one fewer, none, and the least place without one.
use Rattle.std.proofs.Common.{◌≡◌, ◌≢◌, ◌∙◌, refl, sym, ap, subst, ℕ, ◌+◌, ◌*◌, ◌/◌, ◌%◌, ◌-◌, ◌^◌, ◌<◌, ◌≤◌, Bool, true, false, cond, List, length, map, Some, None, Option, arith, get_or, set, inl, inr, zero-add}
use Rattle.std.specs.Prelude.{◌⊎◌, MatchOption, is_some, replicate}
use lib.Count.{count_trailing_zeros}
use mir.Syntax.{w64}
use Rattle.std.specs.Int.{bit_at, trailing_ones}
use Rattle.std.proofs.lemmas.Bool.{cases_eq}
use Rattle.std.proofs.lemmas.List.{get_or-replicate, get_or-set_other, length-replicate, length-set}
use Rattle.std.proofs.lemmas.Grind.{get_or-set_at}
use Rattle.std.proofs.lemmas.Nat.Bits.{bit_at-trailing_ones, bit_at-zero, bit_at_ones}
use Rattle.std.proofs.Math.ListN as lists
use Rattle.rd_pending.specs.declared.slots.Held.{Held}
use Rattle.rd_pending.specs.Slots.{AreAllMarked, AreMarked, IsLeastUnmarked, SetsMark, died, held_from, mark_at}
use Rattle.rd_pending.specs.Table.{free_from, max_slots}
use Rattle.rd_pending.proofs.PlaceLemmas.{all_held, fewer, least}

-- a word with another value, of which one bit is this and the others are as they were
pub one_word : (marks : List ℕ) (id value mark : ℕ) → id / 64 < length marks → bit_at value (id % 64) ≡ mark
    → ((b : ℕ) → b < 64 → b ≢ id % 64 → bit_at value b ≡ bit_at (get_or marks (id / 64) 0) b) → SetsMark marks (set marks (id / 64) value) id mark
one_word marks id value mark low is rest = record {
  here = λ w b small e.
      let word : w ≡ id / 64 = omega arith in
      let bit : b ≡ id % 64 = omega arith in
      let read : get_or (set marks (id / 64) value) w 0 ≡ value = get_or-set_at marks (id / 64) w value 0 word low in
      rw (read, bit) is;
  others = λ w b small apart. other w b small apart (cases_eq w (id / 64));
}
  where
    other : (w b : ℕ) → b < 64 → (id ≡ 64 * w + b → ⊥) → (w ≡ id / 64) ⊎ (w ≡ id / 64 → ⊥) → bit_at (get_or (set marks (id / 64) value) w 0) b ≡ bit_at (get_or marks w 0) b
    other w b small apart (inl word) =
        let read : get_or (set marks (id / 64) value) w 0 ≡ value = get_or-set_at marks (id / 64) w value 0 word low in
        let differs : b ≢ id % 64 = λ same. apart (omega arith) in
        rw (read, word) (rest b small differs)
    other w b small apart (inr elsewhere) = ap (λ (x : ℕ). bit_at x b) (get_or-set_other marks (id / 64) w value 0 elsewhere)

-- what a place holds is what it was given, and the others hold what they held
pub one_place : (marks new : List ℕ) (places : List (Option Held)) (id mark : ℕ) (place : Option Held) → AreMarked marks places → id < max_slots → length new ≡ 16
    → mark ≡ cond (is_some place) 1 0 → SetsMark marks new id mark → AreMarked new (set places id place)
one_place marks new places id mark place m low long is sets = record {
  word_count = long;
  place_count = length-set places id place ∙ m.place_count;
  marked = λ w b word bit. marked w b word bit (cases_eq id (64 * w + b));
}
  where
    within : id < length places
    within = let count : length places ≡ 1024 = m.place_count in omega arith

    marked : (w b : ℕ) → w < 16 → b < 64 → (id ≡ 64 * w + b) ⊎ (id ≡ 64 * w + b → ⊥) → mark_at new w b ≡ cond (is_some (get_or (set places id place) (64 * w + b) None)) 1 0
    marked w b word bit (inl same) =
        let read : get_or (set places id place) (64 * w + b) None ≡ place = get_or-set_at places id (64 * w + b) place None (sym same) within in
        rw read (sets.here w b bit same ∙ is)
    marked w b word bit (inr other) =
        let read : get_or (set places id place) (64 * w + b) None ≡ get_or places (64 * w + b) None = get_or-set_other places id (64 * w + b) place None (λ same. other (sym same)) in
        rw read (sets.others w b bit other ∙ m.marked w b word bit)

still_some : (device : ℕ) (place : Option Held) → is_some (died device place) ≡ is_some place
still_some device None = refl
still_some device (Some held) = refl

-- what is dead is held
pub dead_marked : (device : ℕ) (marks : List ℕ) (places : List (Option Held)) → AreMarked marks places → AreMarked marks (map (died device) places)
dead_marked device marks places m = record {
  word_count = m.word_count;
  place_count = lists.length-map places (died device) ∙ m.place_count;
  marked = λ w b word bit.
      let read : get_or (map (died device) places) (64 * w + b) None ≡ died device (get_or places (64 * w + b) None) = lists.get_or-map (died device) places (64 * w + b) None in
      let same : is_some (get_or (map (died device) places) (64 * w + b) None) ≡ is_some (get_or places (64 * w + b) None) =
      ap is_some read ∙ still_some device (get_or places (64 * w + b) None) in
      rw same (m.marked w b word bit);
}

abbrev empty : Option Held
empty = None

abbrev none : ℕ
none = 0

-- no mark, and nothing that is held
pub none_marked : AreMarked (replicate 16 none) (replicate 1024 empty)
none_marked = record {
  word_count = refl;
  place_count = length-replicate 1024 empty;
  marked = λ w b word bit.
      let read : get_or (replicate 16 none) w none ≡ none = get_or-replicate 16 w none none word in
      let place : get_or (replicate 1024 empty) (64 * w + b) empty ≡ empty = get_or-replicate 1024 (64 * w + b) empty empty (omega arith) in
      rw (read, place) (bit_at-zero b);
}

-- ---- the least place without a mark

one_then : (b : Bool) (n : ℕ) → n ≡ cond b 1 0 → n ≡ 1 → b ≡ true
one_then true n is one = refl
one_then false n is one = absurd (omega arith)

none_then : (o : Option Held) (n : ℕ) → n ≡ cond (is_some o) 1 0 → n ≡ 0 → o ≡ None
none_then None n is nothing = refl
none_then (Some held) n is nothing = absurd (omega arith)

pub least_free : (marks : List ℕ) (places : List (Option Held)) (id : ℕ) → AreMarked marks places → IsLeastUnmarked marks id
    → (id ≡ free_from 0 (held_from 0 places)) × (id < max_slots) × (length (held_from 0 places) < max_slots)
least_free marks places id m l = (sym (least 0 id places taken free ∙ zero-add id), low, rw (← m.place_count) (fewer 0 id places within free))
  where
    low : id < 1024
    low = let words : l.word < 16 = l.low.0 in let bits : l.bit < 64 = l.low.1 in let is : id ≡ 64 * l.word + l.bit = l.is in omega arith

    within : id < length places
    within = let count : length places ≡ 1024 = m.place_count in let small = low in omega (arith, small)

    free : get_or places id None ≡ None
    free = subst (λ (i : ℕ). get_or places i None ≡ None) (sym l.is)
        (none_then (get_or places (64 * l.word + l.bit) None) (mark_at marks l.word l.bit) (m.marked l.word l.bit l.low.0 l.low.1) l.unmarked)

    taken : (i : ℕ) → i < id → is_some (get_or places i None) ≡ true
    taken i before =
        let small = low in
        let same : 64 * (i / 64) + i % 64 ≡ i = omega arith in
        let word : i / 64 < 16 = omega (arith, small) in
        let bit : i % 64 < 64 = omega arith in
        let one : mark_at marks (i / 64) (i % 64) ≡ 1 = l.before (i / 64) (i % 64) bit (omega arith) in
        subst (λ (j : ℕ). is_some (get_or places j None) ≡ true) same
        (one_then (is_some (get_or places (64 * (i / 64) + i % 64) None)) (mark_at marks (i / 64) (i % 64)) (m.marked (i / 64) (i % 64) word bit) one)

pub all_marked : (marks : List ℕ) (places : List (Option Held)) → AreMarked marks places → AreAllMarked marks → length (held_from 0 places) ≡ max_slots
all_marked marks places m all = all_held 0 places taken ∙ m.place_count
  where
    taken : (i : ℕ) → i < length places → is_some (get_or places i None) ≡ true
    taken i before =
        let count : length places ≡ 1024 = m.place_count in
        let same : 64 * (i / 64) + i % 64 ≡ i = omega arith in
        let word : i / 64 < 16 = omega arith in
        let bit : i % 64 < 64 = omega arith in
        subst (λ (j : ℕ). is_some (get_or places j None) ≡ true) same
        (one_then (is_some (get_or places (64 * (i / 64) + i % 64) None)) (mark_at marks (i / 64) (i % 64)) (m.marked (i / 64) (i % 64) word bit) (all (i / 64) (i % 64) word bit))

pub least_answer : (marks : List ℕ) (places : List (Option Held)) (o : Option ℕ) → AreMarked marks places → MatchOption o (AreAllMarked marks) (IsLeastUnmarked marks)
    → MatchOption o (length (held_from 0 places) ≡ max_slots) (λ id. (id ≡ free_from 0 (held_from 0 places)) × (id < max_slots) × (length (held_from 0 places) < max_slots))
least_answer marks places None m all = all_marked marks places m all
least_answer marks places (Some id) m l = least_free marks places id m l

-- ---- one word

-- a word whose lowest bit that isn't set is one of its 64 isn't the largest
pub some_unset : (n : ℕ) → n < 2 ^ 64 → trailing_ones w64 n < 64 → n + 1 < 2 ^ 64
unfolding count_trailing_zeros
some_unset n fits low = go (cases_eq n (2 ^ 64 - 1))
  where
    go : (n ≡ 2 ^ 64 - 1) ⊎ (n ≡ 2 ^ 64 - 1 → ⊥) → n + 1 < 2 ^ 64
    go (inl same) =
        let all : trailing_ones w64 (2 ^ 64 - 1) ≡ 64 = refl in
        let here : trailing_ones w64 n ≡ 64 = ap (trailing_ones w64) same ∙ all in
        absurd (omega arith)
    go (inr other) = omega arith

-- where it is none of them, all are set
pub all_set : (n b : ℕ) → n < 2 ^ 64 → 64 ≤ trailing_ones w64 n → b < 64 → bit_at n b ≡ 1
all_set n b fits high low = go (cases_eq n (2 ^ 64 - 1))
  where
    go : (n ≡ 2 ^ 64 - 1) ⊎ (n ≡ 2 ^ 64 - 1 → ⊥) → bit_at n b ≡ 1
    go (inl same) = ap (λ (m : ℕ). bit_at m b) same ∙ bit_at_ones 64 b low
    go (inr other) = let unset : trailing_ones w64 n < 64 = (bit_at-trailing_ones w64 n (omega arith)).0 in absurd (omega arith)

-- the words before have all their bits set, and this one has one that isn't
pub least_place : (marks : List ℕ) (w bit : ℕ) → w < 16 → get_or marks w 0 < 2 ^ 64 → bit ≡ trailing_ones w64 (get_or marks w 0) → bit < 64
    → ((v b : ℕ) → v < w → b < 64 → mark_at marks v b ≡ 1) → IsLeastUnmarked marks (64 * w + bit)
least_place marks w bit low fits is small earlier = record {
  word = w;
  bit = bit;
  low = (low, small);
  is = refl;
  unmarked = rw is found.1;
  before = λ v b within less. before v b within less (cases_eq v w);
}
  where
    found : (trailing_ones w64 (get_or marks w 0) < 64) × (bit_at (get_or marks w 0) (trailing_ones w64 (get_or marks w 0)) ≡ 0)
        × ((i : ℕ) → i < trailing_ones w64 (get_or marks w 0) → bit_at (get_or marks w 0) i ≡ 1)
    found = bit_at-trailing_ones w64 (get_or marks w 0) (some_unset (get_or marks w 0) fits (subst (λ (n : ℕ). n < 64) is small))

    before : (v b : ℕ) → b < 64 → 64 * v + b < 64 * w + bit → (v ≡ w) ⊎ (v ≡ w → ⊥) → bit_at (get_or marks v 0) b ≡ 1
    before v b within less (inl same) = rw same (found.2 b (let under : b < bit = omega arith in subst (λ (n : ℕ). b < n) is under))
    before v b within less (inr other) = earlier v b (omega arith) within

-- this word has all its bits set too
pub word_set : (marks : List ℕ) (w bit : ℕ) → get_or marks w 0 < 2 ^ 64 → bit ≡ trailing_ones w64 (get_or marks w 0) → 64 ≤ bit
    → ((v b : ℕ) → v < w → b < 64 → mark_at marks v b ≡ 1) → (v b : ℕ) → v < w + 1 → b < 64 → mark_at marks v b ≡ 1
word_set marks w bit fits is high earlier v b less within = go (cases_eq v w)
  where
    go : (v ≡ w) ⊎ (v ≡ w → ⊥) → bit_at (get_or marks v 0) b ≡ 1
    go (inl same) = rw same (all_set (get_or marks w 0) b fits (subst (λ (n : ℕ). 64 ≤ n) is high) within)
    go (inr other) = earlier v b (omega arith) within
