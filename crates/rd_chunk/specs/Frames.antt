-- Carrier frames as byte lists, and the messages that they carry. A frame is a size, which is this project's own, and a
-- CHANNEL_PDU_HEADER with its data (MS-RDPBCGR 2.2.6.1.1).
use Rattle.std.specs.Prelude.{ℕ, ◌≡◌, ◌≤◌, ◌<◌, ◌+◌, ◌==◌, Bool, false, not, List, [], ◌∷◌, ◌++◌, length, take, drop, bit_and}
use Rattle.std.specs.List.{concat, flat_map}
use Rattle.std.specs.Int.{w32, from_le_bytes}
use Rattle.rd_chunk.specs.Sizes.{head_len, max_chunk, max_message}

-- a frame's size field, which counts all that comes after these four bytes
unfoldable pub size_of : List ℕ → ℕ
size_of frame = from_le_bytes w32 (take 4 frame)

-- a frame's length field, the bytes of its whole message
unfoldable pub length_of : List ℕ → ℕ
length_of frame = from_le_bytes w32 (take 4 (drop 4 frame))

-- a frame's flags
unfoldable pub flags_of : List ℕ → ℕ
flags_of frame = from_le_bytes w32 (take 4 (drop 8 frame))

-- a frame's data
abbrev pub data_of : List ℕ → List ℕ
data_of frame = drop head_len frame

-- a frame has the flag of a message's first frame, of its last frame, of compressed data
abbrev pub is_first : List ℕ → Bool
is_first frame = not (bit_and (flags_of frame) 0x1 == 0)

abbrev pub is_last : List ℕ → Bool
is_last frame = not (bit_and (flags_of frame) 0x2 == 0)

abbrev pub is_compressed : List ℕ → Bool
is_compressed frame = not (bit_and (flags_of frame) 0x200000 == 0)

-- a frame of a message of n bytes, `before` of which stand in the frames before it: it has the first one's flag exactly
-- where that is none of them, and the last one's exactly where its data are the rest
pub record IsFrame (n before : ℕ) (frame : List ℕ) : Type 0 where
  pub size : size_of frame ≡ length (data_of frame) + 8
  pub some : 1 ≤ length (data_of frame)
  pub most : length (data_of frame) ≤ max_chunk
  pub plain : is_compressed frame ≡ false
  pub whole : length_of frame ≡ n
  pub within : before + length (data_of frame) ≤ n
  pub first : is_first frame ≡ (before == 0)
  pub last : is_last frame ≡ (before + length (data_of frame) == n)

-- frames of a message of n bytes, one after another, `before` of which stand in the frames before them
abbrev pub AreFrames : ℕ → ℕ → List (List ℕ) → Type 0
AreFrames n before [] = Unit {0}
AreFrames n before (frame ∷ frames) = IsFrame n before frame × AreFrames n (before + length (data_of frame)) frames

-- the bytes are frames that carry the whole message
pub record One (message bytes : List ℕ) : Type 0 where
  pub frames : List (List ℕ)
  pub are : AreFrames (length message) 0 frames
  pub joined : flat_map data_of frames ≡ message
  pub bytes_are : concat frames ≡ bytes
  pub some : 1 ≤ length message
  pub most : length message ≤ max_message

-- the bytes carry the messages one after another, and nothing else
abbrev pub Carried : List (List ℕ) → List ℕ → Type 0
Carried [] bytes = bytes ≡ []
Carried (message ∷ messages) bytes = (first rest : List ℕ) × (bytes ≡ first ++ rest) × One message first × Carried messages rest

-- the bytes are the frames so far of a message of n bytes that isn't complete, or nothing; `joined` are their data
pub record Begun (n : ℕ) (joined bytes : List ℕ) : Type 0 where
  pub frames : List (List ℕ)
  pub are : AreFrames n 0 frames
  pub joined_are : flat_map data_of frames ≡ joined
  pub bytes_are : concat frames ≡ bytes
  pub short : length joined < n
  pub most : n ≤ max_message
