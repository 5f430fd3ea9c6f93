-- Streams worked by hand, one for each row of the table of faults.
use Rattle.std.specs.Prelude.{ℕ, List, [], ◌∷◌, ◌++◌}

-- an announce of a host, and its one frame
abbrev pub announce : List ℕ
announce = 0x72 ∷ 0x44 ∷ 0x6e ∷ 0x49 ∷ 1 ∷ 0 ∷ 0x0c ∷ 0 ∷ 1 ∷ 0 ∷ 0 ∷ 0 ∷ []

abbrev pub announce_frame : List ℕ
announce_frame = 0x14 ∷ 0 ∷ 0 ∷ 0 ∷ 0x0c ∷ 0 ∷ 0 ∷ 0 ∷ 3 ∷ 0 ∷ 0 ∷ 0 ∷ 0x72 ∷ 0x44 ∷ 0x6e ∷ 0x49 ∷ 1 ∷ 0 ∷ 0x0c ∷ 0 ∷ 1 ∷ 0 ∷ 0 ∷ 0 ∷ []

-- a first frame with one byte of a message of two
abbrev pub opening : List ℕ
opening = 9 ∷ 0 ∷ 0 ∷ 0 ∷ 2 ∷ 0 ∷ 0 ∷ 0 ∷ 1 ∷ 0 ∷ 0 ∷ 0 ∷ 0x61 ∷ []

-- a first frame with one byte of the longest message
abbrev pub longest : List ℕ
longest = 9 ∷ 0 ∷ 0 ∷ 0 ∷ 0 ∷ 0x10 ∷ 0x10 ∷ 0 ∷ 1 ∷ 0 ∷ 0 ∷ 0 ∷ 0x61 ∷ []

abbrev pub empty : List ℕ
empty = 8 ∷ 0 ∷ 0 ∷ 0 ∷ []

abbrev pub too_small : List ℕ
too_small = 7 ∷ 0 ∷ 0 ∷ 0 ∷ []

-- heads: the size, the length and the flags, four bytes each
abbrev pub compressed : List ℕ
compressed = 9 ∷ 0 ∷ 0 ∷ 0 ∷ 1 ∷ 0 ∷ 0 ∷ 0 ∷ 3 ∷ 0 ∷ 0x20 ∷ 0 ∷ []

abbrev pub no_first : List ℕ
no_first = 9 ∷ 0 ∷ 0 ∷ 0 ∷ 1 ∷ 0 ∷ 0 ∷ 0 ∷ 2 ∷ 0 ∷ 0 ∷ 0 ∷ []

abbrev pub second_first : List ℕ
second_first = opening ++ (9 ∷ 0 ∷ 0 ∷ 0 ∷ 2 ∷ 0 ∷ 0 ∷ 0 ∷ 3 ∷ 0 ∷ 0 ∷ 0 ∷ [])

abbrev pub too_long : List ℕ
too_long = 9 ∷ 0 ∷ 0 ∷ 0 ∷ 1 ∷ 0x10 ∷ 0x10 ∷ 0 ∷ 1 ∷ 0 ∷ 0 ∷ 0 ∷ []

abbrev pub length_changed : List ℕ
length_changed = opening ++ (9 ∷ 0 ∷ 0 ∷ 0 ∷ 3 ∷ 0 ∷ 0 ∷ 0 ∷ 2 ∷ 0 ∷ 0 ∷ 0 ∷ [])

abbrev pub overrun : List ℕ
overrun = opening ++ (0x0a ∷ 0 ∷ 0 ∷ 0 ∷ 2 ∷ 0 ∷ 0 ∷ 0 ∷ 2 ∷ 0 ∷ 0 ∷ 0 ∷ [])

abbrev pub last_early : List ℕ
last_early = 9 ∷ 0 ∷ 0 ∷ 0 ∷ 2 ∷ 0 ∷ 0 ∷ 0 ∷ 3 ∷ 0 ∷ 0 ∷ 0 ∷ []

abbrev pub not_last : List ℕ
not_last = opening ++ (9 ∷ 0 ∷ 0 ∷ 0 ∷ 2 ∷ 0 ∷ 0 ∷ 0 ∷ 0 ∷ 0 ∷ 0 ∷ 0 ∷ [])
