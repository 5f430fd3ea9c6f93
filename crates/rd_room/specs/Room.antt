-- The room for messages that a writer takes at once.
use Rattle.std.specs.Prelude.{ℕ, List, [], ◌∷◌, Option, Some, None}

-- messages, and how many may stand there
pub record MessageRoom : Type 0 where
  pub places : ℕ
  pub messages : List (List ℕ)

abbrev pub first_of_room : MessageRoom → List (List ℕ) → MessageRoom × Option (List ℕ)
first_of_room room [] = (room, None)
first_of_room room (message ∷ messages) = (record room { messages = messages }, Some message)

-- the message that came first is handed out
abbrev pub first_in_room : MessageRoom → MessageRoom × Option (List ℕ)
first_in_room room = first_of_room room room.messages
