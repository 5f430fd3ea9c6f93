-- The lines of a script: a row of words, each with what it says, and the reason where it can't be met.
use Rattle.std.specs.Prelude.{◌≡◌, ℕ, Bool, if◌then◌else◌, List, [], ◌∷◌, Option, Some, None, Result, Ok, Err, ◌==◌}
use Rattle.std.specs.List.{slice_split}
use Rattle.std.specs.Borrow.{Bor}
use Rattle.rd_base.specs.Layout.{and_then}
use Rattle.rd_script.specs.declared.why.LineWhy.{LineWhy}
use Rattle.rd_script.specs.declared.why.LineWhy.TheVariants as why
use Rattle.rd_script.specs.declared.why.LineNo.{LineNo}
use Rattle.rd_script.specs.declared.why.LineNo.TheVariants as no

-- the words of a text: what stands between its spaces, one more than there are spaces
abbrev pub words_of : List ℕ → List (List ℕ)
words_of text = slice_split (λ byte. byte == 0x20) text

-- the parts of what is left of a text, if anything is, between its bytes of a value
abbrev pub parts_left : ℕ → Option (Bor (List ℕ)) → List (List ℕ)
parts_left byte None = []
parts_left byte (Some text) = slice_split (λ b. b == byte) text.now

-- the words of what is left
abbrev pub words_left : Option (Bor (List ℕ)) → List (List ℕ)
words_left left = parts_left 0x20 left

infixl 10 ◌>>=◌
-- A row of words with a value. It is written as a `do` block: the words from left to right, and `done` with the value.
pub data Row : Type 0 → Type 1 where
  -- no word, and this value
  done : {A : Type 0} → A → Row A
  -- the next word, any; where there is none, the line has too few
  word : Row (List ℕ)
  -- no word: none is left
  last : Row (Unit {0})
  -- no word: the test has to hold
  test : Bool → LineWhy → Row (Unit {0})
  -- no word: a value, which has to be there
  given : {A : Type 0} → Option A → LineWhy → Row A
  -- a row, and then the row that its value chooses
  ◌>>=◌ : {A B : Type 0} → Row A → (A → Row B) → Row B

infixl 10 ◌>>◌
-- one row after another whose value isn't needed
abbrev pub ◌>>◌ : {A B : Type 0} → Row A → Row B → Row B
l >> next = l >>= λ _. next

-- the first of some words, and the words after it
abbrev pub first_met : List (List ℕ) → Result (List ℕ × List (List ℕ)) LineWhy
first_met [] = Err why.Words
first_met (w ∷ ws) = Ok (w, ws)

-- no words are left
abbrev pub none_met : List (List ℕ) → Result (Unit {0} × List (List ℕ)) LineWhy
none_met [] = Ok (tt, [])
none_met (w ∷ ws) = Err why.Words

-- a value that is there, and the same words
abbrev pub given_met : {A : Type 0} → Option A → LineWhy → List (List ℕ) → Result (A × List (List ℕ)) LineWhy
given_met None cause ws = Err cause
given_met (Some x) cause ws = Ok (x, ws)

-- Meets the words from left to right: the value and the words after it, or why the first word that is wrong is.
abbrev pub met_words : {A : Type 0} → Row A → List (List ℕ) → Result (A × List (List ℕ)) LineWhy
met_words (done x) ws = Ok (x, ws)
met_words word ws = first_met ws
met_words last ws = none_met ws
met_words (test holds cause) ws = if holds then Ok (tt, ws) else Err cause
met_words (given o cause) ws = given_met o cause ws
met_words (l >>= next) ws = and_then (met_words l ws) (λ x. met_words (next x.0) x.1)

-- ---- what readers of words return

-- from the old words to the new ones it reads the row's value, as the view sees it, or why the first word that is wrong is
abbrev pub ReadsWords : {X A : Type 0} → (X → A) → Row A → List (List ℕ) → List (List ℕ) → Result X LineWhy → Type 0
ReadsWords view l old new (Ok x) = met_words l old ≡ Ok (view x, new)
ReadsWords view l old new (Err cause) = met_words l old ≡ Err cause

-- the same, unless memory runs out
abbrev pub ReadsWordsInto : {X A : Type 0} → (X → A) → Row A → List (List ℕ) → List (List ℕ) → Result X LineNo → Type 0
ReadsWordsInto view l old new (Ok x) = met_words l old ≡ Ok (view x, new)
ReadsWordsInto view l old new (Err no.Memory) = Unit {0}
ReadsWordsInto view l old new (Err (no.Why cause)) = met_words l old ≡ Err cause
