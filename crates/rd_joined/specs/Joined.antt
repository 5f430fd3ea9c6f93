-- What joins both sides of a session, but for what a client tells.
use Rattle.std.specs.Prelude.{◌≡◌, ℕ, ◌<◌, List, ◌++◌, length, reverse, Contains}
use Rattle.rd_base.specs.declared.journal.Item.{Item}
use Rattle.rd_base.specs.declared.journal.Key.{Key}
use Rattle.rd_base.specs.Lawful.{IsLawful}
use Rattle.rd_drive.specs.Replies.{KeyedReply}
use Rattle.rd_irp.specs.declared.completion.Reply.{Reply}
use Rattle.rd_deeds.specs.HostDeeds.{MayDo, side_of}
use Rattle.rd_deeds.specs.Joining.{IsCarried, Stands}
use Rattle.rd_deeds.specs.Talk.{AtEachPoint, Deed, EachAfter, journal}
use Rattle.rd_deeds.specs.Told.{Replies, worn_entries}

-- A host with this ClientId and a client whose devices' journals give these replies: messages are carried, the host keeps its table, and the client its journals. What
-- the client tells isn't said.
pub record AreTied (client : ℕ) (replies : Replies) (deeds : List Deed) : Type 0 where
  pub carried : AtEachPoint IsCarried deeds
  pub host : EachAfter (λ before deed. MayDo (side_of client before) deed) deeds
  pub grows : (device : ℕ) (earlier more later : List Item) → reverse (journal device deeds) ≡ (earlier ++ more) ++ later
      → (reply : KeyedReply) → Contains (replies device earlier) reply → Contains (replies device (earlier ++ more)) reply
  pub once : (device : ℕ) (key : Key) (reply other : Reply) → Contains (replies device (reverse (journal device deeds))) (key, reply)
      → Contains (replies device (reverse (journal device deeds))) (key, other) → other ≡ reply
  pub stands : EachAfter Stands deeds
  pub lawful : (device : ℕ) → IsLawful (reverse (journal device deeds))
  pub unworn : (device : ℕ) → length (journal device deeds) < worn_entries
