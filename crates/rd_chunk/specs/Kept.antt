-- What the fields of a joiner say, for the contracts inside this crate.
use Rattle.std.specs.Prelude.{ℕ, Bool, nat_lt, if◌then◌else◌, ◌≡◌, ◌≤◌, ◌<◌, ◌+◌, List, length, take, Option, None}
use Rattle.rd_chunk.specs.declared.fault.ChunkBad.{ChunkBad}
use Rattle.rd_chunk.specs.declared.progress.Progress.{Progress}
use Rattle.rd_chunk.specs.Sizes.{head_len, max_message}
use Rattle.rd_chunk.specs.Frames.{size_of}
use Rattle.rd_chunk.specs.Faults.{size_fault}
use Rattle.rd_chunk.specs.Standing.{Held, is_complete}

-- the bytes of a head that are there
abbrev pub head_of : Progress → List ℕ
head_of p = take p.have p.head

-- what is seen of these fields
abbrev pub held_of : Progress → List ℕ → Option ChunkBad → Held
held_of p joined fault = record { joined = joined; head = head_of p; left = p.left; whole = p.length; taken = p.taken; fault = fault }

-- the same of a joiner that met no fault
abbrev pub held_so_far : Progress → List ℕ → Held
held_so_far p joined = held_of p joined None

-- the message is complete, with so many of its bytes there
abbrev pub is_done : Progress → ℕ → Bool
is_done p joined = is_complete p.left joined p.length

-- of a head of which so many bytes are there, how many are when something of it is tested next
abbrev pub next_test : ℕ → ℕ
next_test have = if nat_lt have 4 then 4 else head_len

-- the numbers that a joiner keeps beside `joined` bytes of a message are in their ranges
pub record InRange (p : Progress) (joined : ℕ) : Type 0 where
  pub head : p.have ≤ head_len
  pub count : length (head_of p) ≡ p.have
  pub to_come : p.have ≡ head_len → 0 < p.left
  pub size : 4 ≤ p.have → size_fault (size_of (head_of p)) ≡ None
  pub room : joined + p.left ≤ max_message
