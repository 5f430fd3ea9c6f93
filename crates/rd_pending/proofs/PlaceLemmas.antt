-- The slots that are held in a row of places, as a map: a look-up, one more, one fewer, all of a device dead, and the least that is free.
use Rattle.std.proofs.Common.{◌≡◌, ◌∙◌, refl, sym, ap, ℕ, zero, suc, ◌+◌, ◌<◌, ◌≤◌, ◌==◌, Bool, true, false, cond, List, [], ◌∷◌, length, map, Some, None, Option, ◌++◌, arith, drop, get_or, set, take, eq-eqb}
use Rattle.std.specs.Prelude.{is_some, replicate}
use Rattle.std.specs.Ordering.{nat_cmp}
use Rattle.std.specs.declared.cmp.Ordering.TheVariants.{Less, Equal, Greater}
use Rattle.std.specs.Option.{option_map}
use Rattle.std.specs.Map.{lookup, remove_entry}
use Rattle.std.specs.BTreeMap.{insert_entry, is_at}
use Rattle.std.proofs.lemmas.Bool.Decides.{nat_tests}
use Rattle.std.proofs.Math.Seq.{take-append_seam}
use Rattle.std.proofs.lemmas.List.{get_or_default}
use Rattle.std.proofs.lemmas.List.Edits.{map_over_more}
use Rattle.rd_pending.specs.declared.slots.Held.{Held}
use Rattle.rd_pending.specs.Slots.{died, held_from, slot_of}
use Rattle.rd_pending.specs.Table.{Slot, dead_of, free_from}
use Rattle.rd_pending.proofs.MapLemmas.{apart, none_removed}

here : (m n : ℕ) → m ≡ n → is_at (nat_cmp m) n ≡ true
here m n e = grind (arith, nat_tests)

less : (m n : ℕ) → m < n → nat_cmp m n ≡ Less
less m n low = grind (arith, nat_tests)

equal : (m n : ℕ) → m ≡ n → nat_cmp m n ≡ Equal
equal m n e = grind (arith, nat_tests)

greater : (m n : ℕ) → n < m → nat_cmp m n ≡ Greater
greater m n high = grind (arith, nat_tests)

-- nothing is held before the first place
none_below : (m n : ℕ) (places : List (Option Held)) → m < n → lookup (is_at (nat_cmp m)) (held_from n places) ≡ None
none_below m n [] low = refl
none_below m n (None ∷ places) low = none_below m (n + 1) places (omega arith)
none_below m n (Some held ∷ places) low =
    let other : is_at (nat_cmp m) n ≡ false = apart m n (λ same. omega arith) in
    rw other (none_below m (n + 1) places (omega arith))

pub held_at : (n k m : ℕ) (places : List (Option Held)) → m ≡ n + k → lookup (is_at (nat_cmp m)) (held_from n places) ≡ option_map slot_of (get_or places k None)
held_at n k m [] e = refl
held_at n zero m (None ∷ places) e = none_below m (n + 1) places (omega arith)
held_at n zero m (Some held ∷ places) e = let same : is_at (nat_cmp m) n ≡ true = here m n (omega arith) in rw same refl
held_at n (suc k) m (None ∷ places) e = held_at (n + 1) k m places (omega arith)
held_at n (suc k) m (Some held ∷ places) e =
    let other : is_at (nat_cmp m) n ≡ false = apart m n (λ same. omega arith) in
    rw other (held_at (n + 1) k m places (omega arith))

-- one more before the first place comes first
first_in : (m n : ℕ) (slot : Slot) (places : List (Option Held)) → m < n → insert_entry nat_cmp (held_from n places) m slot ≡ (m, slot) ∷ held_from n places
first_in m n slot [] low = refl
first_in m n slot (None ∷ places) low = first_in m (n + 1) slot places (omega arith)
first_in m n slot (Some held ∷ places) low = rw (less m n low) refl

pub one_held : (n k m : ℕ) (held : Held) (places : List (Option Held)) → m ≡ n + k → k < length places
    → held_from n (set places k (Some held)) ≡ insert_entry nat_cmp (held_from n places) m (slot_of held)
one_held n k m held [] e low = absurd (omega arith)
one_held n zero m held (None ∷ places) e low =
    let same : n ≡ m = omega arith in
    ap (λ (i : ℕ). (i, slot_of held) ∷ held_from (n + 1) places) same ∙ sym (first_in m (n + 1) (slot_of held) places (omega arith))
one_held n zero m held (Some other ∷ places) e low = rw (equal m n (omega arith)) refl
one_held n (suc k) m held (None ∷ places) e low = one_held (n + 1) k m held places (omega arith) (omega arith)
one_held n (suc k) m held (Some other ∷ places) e low =
    rw (greater m n (omega arith)) (ap (λ (slots : List (ℕ × Slot)). (n, slot_of other) ∷ slots) (one_held (n + 1) k m held places (omega arith) (omega arith)))

pub one_freed : (n k m : ℕ) (places : List (Option Held)) → m ≡ n + k → held_from n (set places k None) ≡ remove_entry (is_at (nat_cmp m)) (held_from n places)
one_freed n k m [] e = refl
one_freed n zero m (None ∷ places) e = sym (none_removed m (held_from (n + 1) places) (none_below m (n + 1) places (omega arith)))
one_freed n zero m (Some held ∷ places) e = let same : is_at (nat_cmp m) n ≡ true = here m n (omega arith) in rw same refl
one_freed n (suc k) m (None ∷ places) e = one_freed (n + 1) k m places (omega arith)
one_freed n (suc k) m (Some held ∷ places) e =
    let other : is_at (nat_cmp m) n ≡ false = apart m n (λ same. omega arith) in
    rw other (ap (λ (slots : List (ℕ × Slot)). (n, slot_of held) ∷ slots) (one_freed (n + 1) k m places (omega arith)))

-- one fewer past the last place is none
pub none_freed : (n m : ℕ) (places : List (Option Held)) → n + length places ≤ m → remove_entry (is_at (nat_cmp m)) (held_from n places) ≡ held_from n places
none_freed n m [] high = refl
none_freed n m (None ∷ places) high = none_freed (n + 1) m places (omega arith)
none_freed n m (Some held ∷ places) high =
    let other : is_at (nat_cmp m) n ≡ false = apart m n (λ same. omega arith) in
    rw other (ap (λ (slots : List (ℕ × Slot)). (n, slot_of held) ∷ slots) (none_freed (n + 1) m places (omega arith)))

died_slot : (device : ℕ) (held : Held) → slot_of (cond (held.device == device) (record held { dead = true }) held) ≡ cond (held.device == device) (record (slot_of held) { dead = true }) (slot_of held)
died_slot device held = go (held.device == device)
  where
    go : (b : Bool) → slot_of (cond b (record held { dead = true }) held) ≡ cond b (record (slot_of held) { dead = true }) (slot_of held)
    go true = refl
    go false = refl

pub all_died : (device n : ℕ) (places : List (Option Held)) → held_from n (map (died device) places) ≡ map (dead_of device) (held_from n places)
all_died device n [] = refl
all_died device n (None ∷ places) = all_died device (n + 1) places
all_died device n (Some held ∷ places) = let first = died_slot device held in let others = all_died device (n + 1) places in cc

pub none_held : (n count : ℕ) → held_from n (replicate count None) ≡ []
none_held n zero = refl
none_held n (suc count) = none_held (n + 1) count

-- ---- the least that is free

below_first : (n m : ℕ) (places : List (Option Held)) → n < m → free_from n (held_from m places) ≡ n
below_first n m [] low = refl
below_first n m (None ∷ places) low = below_first n (m + 1) places (omega arith)
below_first n m (Some held ∷ places) low = let other : (m == n) ≡ false = grind (arith, nat_tests) in rw other refl

pub least : (n k : ℕ) (places : List (Option Held)) → ((i : ℕ) → i < k → is_some (get_or places i None) ≡ true) → get_or places k None ≡ None
    → free_from n (held_from n places) ≡ n + k
least n zero [] full free = omega arith
least n (suc k) [] full free = absurd (let none : false ≡ true = full 0 (omega arith) in cc)
least n zero (None ∷ places) full free = below_first n (n + 1) places (omega arith) ∙ omega arith
least n (suc k) (None ∷ places) full free = absurd (let none : false ≡ true = full 0 (omega arith) in cc)
least n zero (Some held ∷ places) full free = absurd (cc free)
least n (suc k) (Some held ∷ places) full free =
    let same : (n == n) ≡ true = eq-eqb n n refl in
    rw same (least (n + 1) k places (λ i low. full (suc i) (omega arith)) free ∙ omega arith)

pub few : (n : ℕ) (places : List (Option Held)) → length (held_from n places) ≤ length places
few n [] = omega arith
few n (None ∷ places) = omega (arith, few (n + 1) places)
few n (Some held ∷ places) = omega (arith, few (n + 1) places)

-- where a place is free, fewer are held than there are
pub fewer : (n k : ℕ) (places : List (Option Held)) → k < length places → get_or places k None ≡ None → length (held_from n places) < length places
fewer n k [] low free = absurd (omega arith)
fewer n zero (None ∷ places) low free = omega (arith, few (n + 1) places)
fewer n zero (Some held ∷ places) low free = absurd (cc free)
fewer n (suc k) (None ∷ places) low free = omega (arith, few (n + 1) places)
fewer n (suc k) (Some held ∷ places) low free = omega (arith, fewer (n + 1) k places (omega arith) free)

-- where no place is free, as many are held as there are
pub all_held : (n : ℕ) (places : List (Option Held)) → ((i : ℕ) → i < length places → is_some (get_or places i None) ≡ true) → length (held_from n places) ≡ length places
all_held n [] full = refl
all_held n (None ∷ places) full = absurd (let none : false ≡ true = full 0 (omega arith) in cc)
all_held n (Some held ∷ places) full = omega (arith, all_held (n + 1) places (λ i low. full (suc i) (omega arith)))

-- ---- a whole row that is written

pub written : {X : Type 0} (new old : List X) (n : ℕ) → n ≡ length old → length new ≡ length old → take n (new ++ drop (length new) old) ≡ new
written new old n count same = let rest : n ≡ length new = omega arith in rw rest (take-append_seam new (drop (length new) old))

-- one place more of a row whose places are changed one after another
pub place_more : (f : Option Held → Option Held) (old now : List (Option Held)) (i : ℕ) (place : Option Held) → i < length old → length now ≡ length old
    → now ≡ map f (take i old) ++ drop i old → place ≡ f (get_or now i None) → set now i place ≡ map f (take (i + 1) old) ++ drop (i + 1) old
place_more f old now i place low long so is =
    ap (set now i) is ∙ map_over_more f old now i (get_or now i None) low so (get_or_default now i None (get_or now i None) (omega arith))
