-- Hands: what one holds is put in its place, and the words of bits that tell which of them hold a job.
use Rattle.std.proofs.Common.{◌≡◌, ◌≢◌, ◌∙◌, refl, sym, ap, subst, ℕ, zero, suc, ◌+◌, ◌-◌, ◌<◌, ◌≤◌, inl, inr, Bool, true, false, ◌==◌, List, [], ◌∷◌, ◌++◌, length, get_or, set, slice_get, take, drop, Some, None, Option, arith}
use Rattle.std.specs.Prelude.{IsTrue, is_none, is_some, replicate}
use Rattle.std.specs.Option.{option_and_then, option_map_or}
use Rattle.std.proofs.lemmas.Bool.{cases_eq, cases_lt, false≢true}
use Rattle.std.proofs.lemmas.Bool.Decides.{nat_tests}
use Rattle.std.proofs.lemmas.List.{drop-set, length-replicate, length-set, take-append-drop, take-set}
use Rattle.std.proofs.lemmas.Nat.Bits.{bit_at-zero}
use Rattle.std.proofs.lemmas.Option.{slice_get_read, slice_get_within}
use Rattle.rd_drive.specs.declared.plan.Job.{Job}
use Rattle.rd_world.specs.Bits.{IsMarked, Marks, has}
use Rattle.rd_declared.specs.Declaring.{max_hands}
use Rattle.rd_world.specs.Hands.{KeepsHands, hand_in, hands_with, is_free_hand}

-- ---- lists

module _ {X : Type 0} where
  set_between : (xs : List X) (i : ℕ) (v : X) → i < length xs → set xs i v ≡ take i xs ++ v ∷ drop (i + 1) xs
  set_between xs i v u =
      sym (take-append-drop i (set xs i v)) ∙ ap (λ (l : List X). l ++ drop i (set xs i v)) (take-set xs i v) ∙ ap (λ (l : List X). take i xs ++ l) (drop-set xs i v u)

  get_set : (xs : List X) (i : ℕ) (v : X) → i < length xs → slice_get (set xs i v) i ≡ Some v
  get_set [] i v u = absurd (omega arith)
  get_set (x ∷ xs) zero v u = refl
  get_set (x ∷ xs) (suc i) v u = get_set xs i v (omega arith)

  get_beside : (xs : List X) (i j : ℕ) (v : X) → j ≢ i → slice_get (set xs i v) j ≡ slice_get xs j
  get_beside [] i j v apart = refl
  get_beside (x ∷ xs) zero zero v apart = absurd (apart refl)
  get_beside (x ∷ xs) zero (suc j) v apart = refl
  get_beside (x ∷ xs) (suc i) zero v apart = refl
  get_beside (x ∷ xs) (suc i) (suc j) v apart = get_beside xs i j v (λ (e : j ≡ i). apart (ap suc e))

  get_last : (xs : List X) (v : X) → slice_get (xs ++ v ∷ []) (length xs) ≡ Some v
  get_last [] v = refl
  get_last (x ∷ xs) v = get_last xs v

  get_more : (xs : List X) (v : X) (j : ℕ) → j ≢ length xs → slice_get (xs ++ v ∷ []) j ≡ slice_get xs j
  get_more [] v zero apart = absurd (apart refl)
  get_more [] v (suc j) apart = refl
  get_more (x ∷ xs) v zero apart = refl
  get_more (x ∷ xs) v (suc j) apart = get_more xs v j (λ (e : j ≡ length xs). apart (ap suc e))

  pub replicate_more : (n : ℕ) (x : X) → replicate (n + 1) x ≡ replicate n x ++ x ∷ []
  replicate_more zero x = refl
  replicate_more (suc n) x = let e : suc n + 1 ≡ suc (n + 1) = omega arith in ap (λ (k : ℕ). replicate k x) e ∙ ap (λ (l : List X). x ∷ l) (replicate_more n x)

-- ---- a hand by its number

not_zero : (hand : ℕ) → 1 ≤ hand → (hand == 0) ≡ false
not_zero hand u = grind (arith, nat_tests)

pub hand_of : (xs : List (Option (ℕ × Job))) (hand : ℕ) → 1 ≤ hand → hand_in xs hand ≡ slice_get xs (hand - 1)
hand_of xs hand u = rw (not_zero hand u) refl

hand_at_place : (xs : List (Option (ℕ × Job))) (place : ℕ) → hand_in xs (place + 1) ≡ slice_get xs place
hand_at_place xs place = let e : place + 1 - 1 ≡ place = omega arith in hand_of xs (place + 1) (omega arith) ∙ ap (λ (i : ℕ). slice_get xs i) e

-- a hand that holds nothing is there
pub there_of_free : (xs : List (Option (ℕ × Job))) (hand : ℕ) → IsTrue (is_free_hand xs hand) → (1 ≤ hand) × (hand - 1 < length xs)
there_of_free xs hand free = elim (cases_lt hand 1) [
  | inl low ↦ let e : hand ≡ 0 = omega arith in absurd (false≢true (subst (λ (h : ℕ). is_free_hand xs h ≡ true) e free))
  | inr u ↦ (u, go (slice_get xs (hand - 1)) refl (subst (λ (o : Option (Option (ℕ × Job))). option_map_or is_none o false ≡ true) (hand_of xs hand u) free))
]
  where
    go : (o : Option (Option (ℕ × Job))) → slice_get xs (hand - 1) ≡ o → option_map_or is_none o false ≡ true → hand - 1 < length xs
    go None is free = absurd (false≢true free)
    go (Some held) is free = slice_get_within xs (hand - 1) held is

-- what is put in its place, as contracts see it
pub with_is : (xs seen : List (Option (ℕ × Job))) (hand : ℕ) (v : Option (ℕ × Job)) → xs ≡ seen → 1 ≤ hand → hand - 1 < length xs → set xs (hand - 1) v ≡ hands_with seen hand v
with_is xs seen hand v is u within =
    let e : hand - 1 + 1 ≡ hand = omega arith in
    set_between xs (hand - 1) v within ∙ ap (λ (n : ℕ). take (hand - 1) xs ++ v ∷ drop n xs) e ∙ ap (λ (l : List (Option (ℕ × Job))). hands_with l hand v) is

-- what a hand held
pub held_is : (xs seen : List (Option (ℕ × Job))) (hand : ℕ) (held : Option (ℕ × Job)) → xs ≡ seen → 1 ≤ hand → hand - 1 < length xs → held ≡ get_or xs (hand - 1) held
    → held ≡ option_and_then (λ (h : Option (ℕ × Job)). h) (hand_in seen hand)
held_is xs seen hand held is u within here =
    sym (ap (λ (l : List (Option (ℕ × Job))). option_and_then (λ (h : Option (ℕ × Job)). h) (hand_in l hand)) (sym is)
    ∙ ap (λ (o : Option (Option (ℕ × Job))). option_and_then (λ (h : Option (ℕ × Job)). h) o) (hand_of xs hand u ∙ slice_get_read xs (length xs) (hand - 1) held refl within here))

-- ---- which of them hold a job

module _ (test : Option (ℕ × Job) → Bool) where
  -- whether the hand at a place is one of which the test holds
  abbrev holds_in : List (Option (ℕ × Job)) → ℕ → Bool
  holds_in xs place = option_map_or test (hand_in xs (place + 1)) false

  holds_is : (xs : List (Option (ℕ × Job))) (place : ℕ) (o : Option (Option (ℕ × Job))) → slice_get xs place ≡ o → holds_in xs place ≡ option_map_or test o false
  holds_is xs place o is = ap (λ (h : Option (Option (ℕ × Job))). option_map_or test h false) (hand_at_place xs place ∙ is)

  marks_set : (xs : List (Option (ℕ × Job))) (i : ℕ) (v : Option (ℕ × Job)) (old new : ℕ) → i < length xs → Marks old (λ place. holds_in xs place) 64 → IsMarked old new i (test v)
      → Marks new (λ place. holds_in (set xs i v) place) 64
  marks_set xs i v old new u marks marked j within = elim (cases_eq j i) [
    | inl here ↦ ap (λ (p : ℕ). has new p) here ∙ marked.same ∙ sym (ap (λ (p : ℕ). holds_in (set xs i v) p) here ∙ holds_is (set xs i v) i (Some v) (get_set xs i v u))
    | inr apart ↦ marked.others j within apart ∙ marks j within ∙ holds_is xs j (slice_get xs j) refl ∙ sym (holds_is (set xs i v) j (slice_get xs j) (get_beside xs i j v apart))
  ]

  marks_last : (xs : List (Option (ℕ × Job))) (v : Option (ℕ × Job)) (old new : ℕ) → Marks old (λ place. holds_in xs place) 64 → IsMarked old new (length xs) (test v)
      → Marks new (λ place. holds_in (xs ++ v ∷ []) place) 64
  marks_last xs v old new marks marked j within = elim (cases_eq j (length xs)) [
    | inl here ↦ ap (λ (p : ℕ). has new p) here ∙ marked.same ∙ sym (ap (λ (p : ℕ). holds_in (xs ++ v ∷ []) p) here ∙ holds_is (xs ++ v ∷ []) (length xs) (Some v) (get_last xs v))
    | inr apart ↦ marked.others j within apart ∙ marks j within ∙ holds_is xs j (slice_get xs j) refl ∙ sym (holds_is (xs ++ v ∷ []) j (slice_get xs j) (get_more xs v j apart))
  ]

unset : (i : ℕ) → has 0 i ≡ false
unset i = ap (λ (x : ℕ). x == 1) (bit_at-zero i)

pub keeps_set : (xs : List (Option (ℕ × Job))) (i : ℕ) (v : Option (ℕ × Job)) (free full free' full' : ℕ) → KeepsHands xs free full → i < length xs
    → IsMarked free free' i (is_none v) → IsMarked full full' i (is_some v) → KeepsHands (set xs i v) free' full'
keeps_set xs i v free full free' full' keeps u marked_free marked_full =
    let long : length (set xs i v) ≡ length xs = length-set xs i v in record {
      some = rw long keeps.some;
      few = rw long keeps.few;
      free_marks = marks_set is_none xs i v free free' u keeps.free_marks marked_free;
      full_marks = marks_set is_some xs i v full full' u keeps.full_marks marked_full;
    }

-- ---- new hands

abbrev nothing : Option (ℕ × Job)
nothing = None

pub free_at_start : Marks 0 (λ place. is_free_hand (replicate 0 None) (place + 1)) 64
free_at_start j within = unset j ∙ sym (holds_is is_none [] j None refl)

pub free_more : (n old new : ℕ) → Marks old (λ place. is_free_hand (replicate n None) (place + 1)) 64 → IsMarked old new n true → Marks new (λ place. is_free_hand (replicate (n + 1) None) (place + 1)) 64
free_more n old new marks marked =
    let long : length (replicate n nothing) ≡ n = length-replicate n nothing in
    subst (λ (xs : List (Option (ℕ × Job))). Marks new (λ place. is_free_hand xs (place + 1)) 64) (sym (replicate_more n None))
    (marks_last is_none (replicate n None) None old new marks (subst (λ (k : ℕ). IsMarked old new k true) (sym long) marked))

none_full : (n place : ℕ) → option_map_or is_some (slice_get (replicate n nothing) place) false ≡ false
none_full zero place = refl
none_full (suc n) zero = refl
none_full (suc n) (suc place) = none_full n place

pub keeps_new : (n free : ℕ) → 1 ≤ n → n ≤ max_hands → Marks free (λ place. is_free_hand (replicate n None) (place + 1)) 64 → KeepsHands (replicate n None) free 0
keeps_new n free some few marks =
    let long : length (replicate n nothing) ≡ n = length-replicate n nothing in record {
      some = rw long some;
      few = rw long few;
      free_marks = marks;
      full_marks = λ j within. unset j ∙ sym (holds_is is_some (replicate n None) j (slice_get (replicate n None) j) refl ∙ none_full n j);
    }
