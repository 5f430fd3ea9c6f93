-- Which words spell the value of a row, from the value to the words; and the law of rows.
use Rattle.std.specs.Prelude.{◌≡◌, ℕ, ◌⊎◌, IsTrue, List, [], ◌∷◌, ◌++◌, Some, Err}
use Rattle.rd_script.specs.declared.why.LineWhy.{LineWhy}
use Rattle.rd_script.specs.Row.{Row, done, word, last, test, given, ◌>>=◌, met_words}

-- Exactly these words spell the value, where those words come after them. What comes after matters to `last` alone.
abbrev pub IsSpelledByWords : {A : Type 0} → Row A → A → List (List ℕ) → List (List ℕ) → Type 0
IsSpelledByWords (done x) a ws after = (a ≡ x) × (ws ≡ [])
IsSpelledByWords word w ws after = ws ≡ w ∷ []
IsSpelledByWords last u ws after = (ws ≡ []) × (after ≡ [])
IsSpelledByWords (test holds cause) u ws after = IsTrue holds × (ws ≡ [])
IsSpelledByWords (given o cause) a ws after = (o ≡ Some a) × (ws ≡ [])
IsSpelledByWords (◌>>=◌ {A = A} l next) b ws after = (a : A) × (first : List (List ℕ)) × (second : List (List ℕ)) × (ws ≡ first ++ second) × IsSpelledByWords l a first (second ++ after) × IsSpelledByWords (next a) b second after

-- The words begin with a spelling of the value.
abbrev pub SpellsByWords : {A : Type 0} → Row A → A → List (List ℕ) → Type 0
SpellsByWords l a ws = (first : List (List ℕ)) × (after : List (List ℕ)) × (ws ≡ first ++ after) × IsSpelledByWords l a first after

-- From left to right this is why the first word that is wrong is.
abbrev pub FirstWrong : {A : Type 0} → Row A → List (List ℕ) → LineWhy → Type 0
FirstWrong l ws cause = met_words l ws ≡ Err cause

-- The law of a row, at given words: they spell a value or have a first wrong word, never both, no two values and no two reasons.
pub record IsDecided {A : Type 0} (l : Row A) (ws : List (List ℕ)) : Type 0 where
  pub one_of : ((a : A) × SpellsByWords l a ws) ⊎ ((cause : LineWhy) × FirstWrong l ws cause)
  pub not_both : (a : A) (cause : LineWhy) → SpellsByWords l a ws → FirstWrong l ws cause → ⊥
  pub one_value : (a b : A) → SpellsByWords l a ws → SpellsByWords l b ws → a ≡ b
  pub one_reason : (cause other : LineWhy) → FirstWrong l ws cause → FirstWrong l ws other → cause ≡ other
