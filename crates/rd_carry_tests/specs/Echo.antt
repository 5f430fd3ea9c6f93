-- What an echo does to the two halves of a channel.
use Rattle.std.specs.Prelude.{◌≡◌, ℕ, List, ◌++◌, Option, Some}
use Rattle.std.specs.Io.KnownBytes.{Appends}
use Rattle.rd_chunk.specs.Carrier.{carrier_stream}
use Rattle.rd_chunk.specs.Streams.{IsStream}
use Rattle.rd_carry.specs.Incoming.{IncomingState}
use Rattle.rd_carry.specs.Outgoing.{HasWritten, OutgoingState}

-- the messages that one half handed out were put to the other, after those before
pub record Echoes (input input' : IncomingState) (output output' : OutgoingState) : Type 0 where
  pub messages : List (List ℕ)
  pub given : input'.messages ≡ input.messages ++ messages
  pub put : (began : Option (List ℕ)) (before : List (List ℕ)) → HasWritten began before output → HasWritten began (before ++ messages) output'
  pub left : input'.left ≡ input.left
  pub read : input'.read ≡ input.read

-- The input had these bytes, where it tells. Where no write failed the frames of its messages were written.
abbrev pub EchoedAll : (left held : Option (List ℕ)) → OutgoingState → Type 0
EchoedAll left held output = (bytes : List ℕ) → left ≡ Some bytes → output.faults ≡ 0 → (messages : List (List ℕ)) × IsStream messages bytes × Appends held output.held (carrier_stream messages)
