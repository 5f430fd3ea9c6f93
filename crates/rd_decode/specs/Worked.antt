-- Entries of worked recordings, after the magic.
use Rattle.std.specs.Prelude.{ℕ, List, [], ◌∷◌, ◌++◌}

-- an end where no channel has begun
abbrev pub ended : List ℕ
ended = 3 ∷ []

-- the frame of the host's announce
abbrev pub announce_frame : List ℕ
announce_frame = 20 ∷ 0 ∷ 0 ∷ 0 ∷ 12 ∷ 0 ∷ 0 ∷ 0 ∷ 3 ∷ 0 ∷ 0 ∷ 0 ∷ 0x72 ∷ 0x44 ∷ 0x6e ∷ 0x49 ∷ 1 ∷ 0 ∷ 12 ∷ 0 ∷ 1 ∷ 0 ∷ 0 ∷ 0 ∷ []

-- a channel with the announce alone
abbrev pub announce : List ℕ
announce = 2 ∷ 0 ∷ announce_frame ++ 3 ∷ []

-- the announce without its last byte
abbrev pub cut_frame : List ℕ
cut_frame = 2 ∷ 0 ∷ 20 ∷ 0 ∷ 0 ∷ 0 ∷ 12 ∷ 0 ∷ 0 ∷ 0 ∷ 3 ∷ 0 ∷ 0 ∷ 0 ∷ 0x72 ∷ 0x44 ∷ 0x6e ∷ 0x49 ∷ 1 ∷ 0 ∷ 12 ∷ 0 ∷ 1 ∷ 0 ∷ 0 ∷ []

-- a frame without data
abbrev pub empty_frame : List ℕ
empty_frame = 2 ∷ 0 ∷ 8 ∷ 0 ∷ 0 ∷ 0 ∷ []

-- the first frame of a longer message, which the channel's end leaves unfinished
abbrev pub unfinished : List ℕ
unfinished = 2 ∷ 0 ∷ 9 ∷ 0 ∷ 0 ∷ 0 ∷ 12 ∷ 0 ∷ 0 ∷ 0 ∷ 1 ∷ 0 ∷ 0 ∷ 0 ∷ 0x72 ∷ 3 ∷ []

-- the frame of a completion: device 1, id 0, success, and no body
abbrev pub completion_frame : List ℕ
completion_frame = 24 ∷ 0 ∷ 0 ∷ 0 ∷ 16 ∷ 0 ∷ 0 ∷ 0 ∷ 3 ∷ 0 ∷ 0 ∷ 0 ∷ 0x72 ∷ 0x44 ∷ 0x43 ∷ 0x49 ∷ 1 ∷ 0 ∷ 0 ∷ 0 ∷ 0 ∷ 0 ∷ 0 ∷ 0 ∷ 0 ∷ 0 ∷ 0 ∷ 0 ∷ []

-- a completion without its request
abbrev pub stray : List ℕ
stray = 2 ∷ 1 ∷ completion_frame

-- a completion from the host
abbrev pub wrong_side : List ℕ
wrong_side = 2 ∷ 0 ∷ completion_frame
