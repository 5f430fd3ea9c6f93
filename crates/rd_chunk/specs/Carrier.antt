-- The one stream of frames that this project writes for a message.
use Rattle.std.specs.Prelude.{ℕ, zero, suc, ◌≤◌, ◌+◌, ◌*◌, ◌==◌, nat_lt, if◌then◌else◌, List, [], ◌∷◌, ◌++◌, length, take, drop, bit_or}
use Rattle.std.specs.List.{concat, flat_map}
use Rattle.std.specs.Int.{w32, to_le_bytes, div_ceil}
use Rattle.rd_chunk.specs.Sizes.{chunk_len, max_message}

-- the data of frame k: each frame has chunk_len bytes of the message, the last what is left
abbrev pub carrier_data : List ℕ → ℕ → List ℕ
carrier_data message k = take chunk_len (drop (chunk_len * k) message)

-- the flags of frame k: the first one's, and the last one's, after which nothing is left
abbrev pub carrier_flags : (bytes k : ℕ) → ℕ
carrier_flags bytes k = bit_or (if k == 0 then 0x1 else 0) (if nat_lt (chunk_len * k + chunk_len) bytes then 0 else 0x2)

-- frame k: its size field, the message's length, its flags and its data
unfoldable pub carrier_frame : List ℕ → ℕ → List ℕ
carrier_frame message k =
    to_le_bytes w32 (length (carrier_data message k) + 8) ++ to_le_bytes w32 (length message) ++ to_le_bytes w32 (carrier_flags (length message) k) ++ carrier_data message k

-- the first frames of a message
abbrev pub carrier_frames : List ℕ → ℕ → List (List ℕ)
carrier_frames message zero = []
carrier_frames message (suc k) = carrier_frames message k ++ carrier_frame message k ∷ []

-- all frames of a message
abbrev pub frames_for : List ℕ → List (List ℕ)
frames_for message = carrier_frames message (div_ceil (length message) chunk_len)

-- the same, one after another
abbrev pub carrier_of : List ℕ → List ℕ
carrier_of message = concat (frames_for message)

-- a message that can be carried: it has a byte, and no more than the longest
abbrev pub IsMessage : List ℕ → Type 0
IsMessage message = (1 ≤ length message) × (length message ≤ max_message)

-- the one stream that this project writes for these messages
abbrev pub carrier_stream : List (List ℕ) → List ℕ
carrier_stream messages = flat_map carrier_of messages
