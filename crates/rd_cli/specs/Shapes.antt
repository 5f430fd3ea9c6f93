-- The words of each command.
use Rattle.std.specs.Prelude.{◌≡◌, ◌==◌, ℕ, ◌≤◌, Bool, true, false, not, List, [], ◌∷◌, Option, Some, None, codes, decimal}
use Rattle.rd_cli.specs.declared.words.Command.{Command}
use Rattle.rd_cli.specs.declared.words.Command.TheVariants as command
use Rattle.rd_cli.specs.declared.stop.Stop.{Stop}
use Rattle.rd_cli.specs.declared.stop.Stop.TheVariants as stop

-- whether a word begins with a hyphen
abbrev pub is_flag : List ℕ → Bool
is_flag [] = false
is_flag (byte ∷ rest) = byte == 45

-- a number that a load may have
abbrev pub IsLoadNumber : ℕ → Type 0
IsLoadNumber number = (1 ≤ number) × (number ≤ 1000)

-- the word is this number of a load, or that of none
abbrev pub FindsLoadNumber : List ℕ → Option ℕ → Type 0
FindsLoadNumber word (Some number) = (word ≡ decimal number) × IsLoadNumber number
FindsLoadNumber word None = (number : ℕ) → IsLoadNumber number → ¬ (word ≡ decimal number)

-- whether a word may be a path: it isn't empty, and no flag
abbrev pub is_path : List ℕ → Bool
is_path [] = false
is_path (byte ∷ rest) = not (byte == 45)

-- the words are a command of this name at this path
abbrev pub IsAt : List ℕ → List (List ℕ) → List ℕ → Type 0
IsAt name words path = (words ≡ name ∷ path ∷ []) × (is_path path ≡ true)

-- the words are a command of this name at this path, or at none
abbrev pub FindsAt : List ℕ → List (List ℕ) → Option (List ℕ) → Type 0
FindsAt name words (Some path) = IsAt name words path
FindsAt name words None = (path : List ℕ) → ¬ (IsAt name words path)

-- the words are this command
abbrev pub HasShape : List (List ℕ) → Command → Type 0
HasShape words command.Both = words ≡ codes "both" ∷ []
HasShape words command.Trace = words ≡ codes "trace" ∷ []
HasShape words command.Decode = words ≡ codes "decode" ∷ []
HasShape words command.Audit = words ≡ codes "audit" ∷ []
HasShape words (command.Load number) = (words ≡ codes "load" ∷ decimal number ∷ []) × IsLoadNumber number
HasShape words (command.Client path) = IsAt (codes "client") words path.now
HasShape words (command.Host path) = IsAt (codes "host") words path.now

-- the words are the load of this number, or of none
abbrev pub FindsLoad : List (List ℕ) → Option ℕ → Type 0
FindsLoad words (Some number) = HasShape words (command.Load number)
FindsLoad words None = (number : ℕ) → ¬ (HasShape words (command.Load number))

-- a stop of the reading of the words: they are no command, or memory ran out
abbrev pub StopsForWords : List (List ℕ) → Stop → Type 0
StopsForWords words stop.Words = (command : Command) → ¬ (HasShape words command)
StopsForWords words stop.Memory = Unit {0}
StopsForWords words _ = ⊥
