-- An end of a channel, as both sides have it: where the opening stands, what was wrong, and what is to be sent.
use Rattle.std.specs.Prelude.{◌≡◌, ◌≢◌, List, [], ◌∷◌, ◌++◌, Option, Some, None, Result, Ok, Err, ℕ, All}
use Rattle.rd_chunk.specs.Carrier.{IsMessage}
use Rattle.rd_hello.specs.declared.end_fault.EndFault.{EndFault}
use Rattle.rd_hello.specs.declared.end_fault.EndFault.TheVariants.{Memory}

-- An end of a channel: the states of its opening are of the type S, and what waits to be sent of the type M.
pub record CoreState (S M : Type 0) : Type 0 where
  pub shake : S
  -- what was wrong with a message on the channel: none is heard after it
  pub fault : Option EndFault
  -- the messages that aren't sent yet, in order
  pub outbox : List M

-- what a call that takes memory leaves: what it does, or where it found none what there was
abbrev pub Did : {T E : Type 0} → Result (Unit {0}) E → (done old new : T) → Type 0
Did (Ok u) done old new = new ≡ done
Did (Err cause) done old new = new ≡ old

module _ {S M : Type 0} where
  -- an end at the start of a channel, with nothing to send
  abbrev pub new_core : S → CoreState S M
  new_core start = record { shake = start; fault = None; outbox = [] }

  -- a message is to be sent
  abbrev pub with_message : CoreState S M → M → CoreState S M
  with_message e message = record e { outbox = e.outbox ++ message ∷ [] }

  -- the message that is to be sent first is handed out
  abbrev pub send_from : CoreState S M → List M → CoreState S M × Option M
  send_from e [] = (e, None)
  send_from e (message ∷ messages) = (record e { outbox = messages }, Some message)

  abbrev pub send : CoreState S M → CoreState S M × Option M
  send e = send_from e e.outbox

  -- What always holds of an end: what it has to send fits a message, and what was wrong with one is no want of memory.
  pub record IsCoreKept (bytes_of : M → List ℕ) (e : CoreState S M) : Type 0 where
    pub fit : All (λ message. IsMessage (bytes_of message)) e.outbox
    pub wrong : e.fault ≢ Some Memory
