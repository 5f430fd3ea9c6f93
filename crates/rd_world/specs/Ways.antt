-- What always holds of one direction of a channel, as its code keeps it.
use Rattle.std.specs.Prelude.{◌≡◌, ◌≤◌, ℕ, Bool, true, false, List, [], ◌++◌, drop, length, None}
use Rattle.std.specs.List.{AllByRecursion}
use Rattle.rd_chunk.specs.Carrier.{IsMessage, carrier_stream}
use Rattle.rd_chunk.specs.Standing.{Held, StandsFor, waiting}

-- The bytes are whole messages in this project's frames.
pub record AreCarried (bytes : List ℕ) : Type 0 where
  pub messages : List (List ℕ)
  pub fit : AllByRecursion IsMessage messages
  pub carried : bytes ≡ carrier_stream messages

-- Of these bytes those before `front` were handled, and those from `read` on are under way. The joiner stands for what was handled since the last message: this
-- and what is left are whole messages, or the channel ended and nothing is left.
pub record IsOnItsWay (front read : ℕ) (bytes : List ℕ) (joiner : Held) (part : List ℕ) (ended : Bool) : Type 0 where
  pub front_within : front ≤ read
  pub read_within : read ≤ length bytes
  pub before : ℕ
  pub stands : StandsFor joiner before part
  pub none_waits : waiting joiner ≡ None
  pub carried : ended ≡ false → AreCarried (part ++ drop front bytes)
  pub gone : ended ≡ true → drop front bytes ≡ []
