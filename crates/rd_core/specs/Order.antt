-- The order of the messages of an end on a channel (MS-RDPEFS 3.2.5, 3.3.5), said of what it reads and what it writes, as both sides have it.
use Rattle.std.specs.Prelude.{◌≡◌, ℕ, if◌then◌else◌, List, [], ◌∷◌, ◌++◌, Option, Some, None, bytes_eq}
use Rattle.std.specs.Option.{option_and_then, option_map}
use Rattle.rd_hello.specs.Moves.{Move, reads, writes}
use Rattle.rd_hello.specs.Rows.{OrderRow}
use Rattle.rd_core.specs.Hearing.{Side, Meaning, wrong, nothing, opens, says, messages_of, said}

-- Where an end stands: the state of the opening, the messages of the opening that it has to write next, and the side's own part.
pub record Stand (S P : Type 0) : Type 0 where
  pub shake : S
  pub owed : List (List ℕ)
  pub own : P

-- What a side's own part comes to: by a row that leads from one state to another, by what is read that isn't of the opening, and by a message that is written in a
-- state where none of the opening is owed, if it may be.
pub record OrderPart (S A P : Type 0) : Type 0 where
  pub opened : S → S → P → P
  pub read : A → P → P
  pub written : S → List ℕ → P → Option P

-- what a side's part comes to by messages of its own that are written one after another in a state, if they may be
abbrev pub written_after : {S A P : Type 0} → OrderPart S A P → S → List (List ℕ) → P → Option P
written_after part state [] p = Some p
written_after part state (message ∷ messages) p = option_and_then (λ q. written_after part state messages q) (part.written state message p)

-- An end in this state, with these messages to send, stands here: they are those of the opening that are owed and then some of the side's own, and when they are
-- written its part is this one.
pub record IsStand {S A P : Type 0} (part : OrderPart S A P) (s : Stand S P) (state : S) (waiting : List (List ℕ)) (last : P) : Type 0 where
  pub shake : s.shake ≡ state
  pub own : List (List ℕ)
  pub waits : waiting ≡ s.owed ++ own
  pub written : written_after part state own s.own ≡ Some last

module _ {S M A P : Type 0} (side : Side S M A) (part : OrderPart S A P) where
  abbrev pub after_opened : Stand S P → OrderRow S → Stand S P
  after_opened s row = record { shake = row.next; owed = s.owed ++ messages_of row; own = part.opened s.shake row.next s.own }

  -- A message is read in order that isn't wrong; one that says nothing changes nothing.
  abbrev pub after_said : Stand S P → Meaning S A → Option (Stand S P)
  after_said s (wrong fault) = None
  after_said s nothing = Some s
  after_said s (opens row) = Some (after_opened s row)
  after_said s (says a) = Some (record s { own = part.read a s.own })

  abbrev pub after_read : Stand S P → List ℕ → Option (Stand S P)
  after_read s bytes = after_said s (said side s.shake bytes)

  -- A message is written in order that is the next of the opening's, or where none is owed one of the side's own.
  abbrev pub after_owed : Stand S P → List ℕ → List (List ℕ) → Option (Stand S P)
  after_owed s bytes (message ∷ others) = if bytes_eq message bytes then Some (record s { owed = others }) else None
  after_owed s bytes [] = option_map (λ own. record s { own = own }) (part.written s.shake bytes s.own)

  abbrev pub after_write : Stand S P → List ℕ → Option (Stand S P)
  after_write s bytes = after_owed s bytes s.owed

  abbrev pub after_move : Stand S P → Move → Option (Stand S P)
  after_move s (reads bytes) = after_read s bytes
  after_move s (writes bytes) = after_write s bytes

  -- where an end stands after moves, if they are in order
  abbrev pub stand_after : Stand S P → List Move → Option (Stand S P)
  stand_after s [] = Some s
  stand_after s (move ∷ moves) = option_and_then (λ t. stand_after t moves) (after_move s move)
