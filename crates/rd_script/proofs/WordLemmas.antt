-- Words: what the words of a text are.
use Rattle.std.proofs.Common.{◌≡◌, refl, sym, ap, ◌∙◌, ℕ, zero, suc, ◌+◌, ◌<◌, arith, add-one, List, [], ◌∷◌, Bool, true, false, cond, length, get_or, take, drop, Option, Some, None, Err}
use Rattle.std.specs.Prelude.{position, ◌==◌}
use Rattle.std.specs.List.{slice_split, onto_first}
use Rattle.std.proofs.lemmas.Bool.{false_from_ne_true}
use Rattle.std.proofs.lemmas.List.Quantifiers.{position-Some}
use Rattle.rd_script.proofs.ListLemmas.{position_none}
use Rattle.std.specs.Borrow.{Bor}
use Rattle.memchr.specs.Find.{IsFirstByte, is_byte}
use Rattle.std.specs.Option.{is_some}
use Rattle.rd_script.specs.Row.{words_left, words_of, none_met}
use Rattle.rd_script.specs.declared.why.LineWhy.TheVariants as why

cut_none : (byte : ℕ) (text : List ℕ) → ((k : ℕ) → k < length text → (get_or text k 0 == byte) ≡ false) → slice_split (λ b. b == byte) text ≡ text ∷ []
cut_none byte [] h = refl
cut_none byte (c ∷ cs) h =
    let first : (c == byte) ≡ false = h 0 (omega arith) in
    rw (first, cut_none byte cs (λ k below. h (suc k) (omega arith))) refl

cut_at : (byte : ℕ) (text : List ℕ) (i : ℕ) → i < length text → (get_or text i 0 == byte) ≡ true → ((k : ℕ) → k < i → (get_or text k 0 == byte) ≡ false) → slice_split (λ b. b == byte) text ≡ take i text ∷ slice_split (λ b. b == byte) (drop (suc i) text)
cut_at byte [] i below is before = absurd (omega arith)
cut_at byte (c ∷ cs) zero below is before = rw is refl
cut_at byte (c ∷ cs) (suc i) below is before =
    let first : (c == byte) ≡ false = before 0 (omega arith) in
    rw (first, cut_at byte cs i (omega arith) is (λ k h. before (suc k) (omega arith))) refl

-- the first part ends at the first such byte
pub parts_cut : (byte : ℕ) (text : List ℕ) (i : ℕ) → position (λ b. b == byte) text ≡ Some i → slice_split (λ b. b == byte) text ≡ take i text ∷ slice_split (λ b. b == byte) (drop (i + 1) text)
parts_cut byte text i e =
    let there = position-Some (λ (b : ℕ). b == byte) text i 0 e in
    cut_at byte text i there.0 there.1 there.2 ∙ ap (λ (n : ℕ). take i text ∷ slice_split (λ b. b == byte) (drop n text)) (sym (add-one i))

-- a text without such a byte is one part
pub parts_one : (byte : ℕ) (text : List ℕ) → position (λ b. b == byte) text ≡ None → slice_split (λ b. b == byte) text ≡ text ∷ []
parts_one byte text e = cut_none byte text (position_none (λ (b : ℕ). b == byte) text 0 e)

-- a byte that was found first
pub parts_before_first : (byte : ℕ) (text : List ℕ) (i : ℕ) → IsFirstByte (is_byte byte) text (Some i) → slice_split (λ b. b == byte) text ≡ take i text ∷ slice_split (λ b. b == byte) (drop (i + 1) text)
parts_before_first byte text i h =
    cut_at byte text i h.0.high h.1 (λ k below. false_from_ne_true (get_or text k 0 == byte) (h.0.before k (omega arith) below))
    ∙ ap (λ (n : ℕ). take i text ∷ slice_split (λ b. b == byte) (drop n text)) (sym (add-one i))

-- no such byte was found
pub parts_without : (byte : ℕ) (text : List ℕ) → IsFirstByte (is_byte byte) text None → slice_split (λ b. b == byte) text ≡ text ∷ []
parts_without byte text h = cut_none byte text (λ k below. false_from_ne_true (get_or text k 0 == byte) (h k (omega arith) below))

some_left : (text : List ℕ) → none_met (words_of text) ≡ Err why.Words
some_left [] = refl
some_left (c ∷ cs) = of (c == 0x20) (words_of cs)
  where
    of : (b : Bool) (ws : List (List ℕ)) → none_met (cond b ([] ∷ ws) (onto_first c ws)) ≡ Err why.Words
    of true ws = refl
    of false [] = refl
    of false (w ∷ ws) = refl

-- something left of a text has a word
pub left_some : (left : Option (Bor (List ℕ))) → is_some left ≡ true → none_met (words_left left) ≡ Err why.Words
left_some (Some text) h = some_left text.now
left_some None h = cc h
