-- What a file is to its callers, the list of its bytes: the part that a read returns, and what resizing and writing make
-- of the list.
use Rattle.std.specs.Prelude.{ℕ, ◌+◌, ◌-◌, ◌^◌, ◌<◌, List, [], ◌∷◌, ◌++◌, length, take, drop, replicate}

-- the most bytes of a file
abbrev pub max_len : ℕ
max_len = 2 ^ 40

-- the bytes from an offset up to the end, at most so many; none where the offset is at the end or past it
abbrev pub part : List ℕ → ℕ → ℕ → List ℕ
part file offset count = take count (drop offset file)

-- cut at an end, or extended to it by zeros
abbrev pub resized : List ℕ → ℕ → List ℕ
resized file end = take end (file ++ replicate (end - length file) 0)

-- Bytes written at an offset: they stand in the place of what was there, and a gap before them is zeros. No bytes change
-- nothing.
abbrev pub written : List ℕ → ℕ → List ℕ → List ℕ
written file offset [] = file
written file offset (b ∷ bs) = resized file offset ++ (b ∷ bs) ++ drop (offset + length (b ∷ bs)) file

-- whether such a write would end past the most bytes of a file
abbrev pub EndsTooFar : ℕ → List ℕ → Type 0
EndsTooFar offset bytes = (0 < length bytes) × (max_len < offset + length bytes)
