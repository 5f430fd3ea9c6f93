-- The sizes of messages and of their frames, in bytes. They are this project's choice.
use Rattle.std.specs.Prelude.{ℕ, ◌*◌, max, min, nat_le, if◌then◌else◌}

-- the bytes of the longest message
abbrev pub max_message : ℕ
max_message = 1052672

-- the most data bytes that a frame may have
abbrev pub max_chunk : ℕ
max_chunk = 16384

-- the data bytes of each frame of a message that this project writes, but of the last
abbrev pub chunk_len : ℕ
chunk_len = 1600

-- the bytes of the head of a frame
abbrev pub head_len : ℕ
head_len = 12

-- The buffer of a message that has so many bytes now and will have so many in the whole: as it is where that is enough, and else for the whole
-- message, but for no more than 64 times what has come.
abbrev pub buffer_for : ℕ → ℕ → ℕ → ℕ
buffer_for buffer there whole = if nat_le there buffer then buffer else max there (min (there * 64) whole)
