-- What stands of messages in the half of a channel that they are put to.
use Rattle.std.specs.Prelude.{◌≡◌, ℕ, ◌<◌, Bool, true, false, List, [], ◌++◌, Option}
use Rattle.rd_carry.specs.Outgoing.{HasWritten, OutgoingState}

-- Of messages that were handed out the first ones were put to a half, in order: all of them, but where no memory was found for one. A half to which a write failed stays so.
pub record PutsTo (starved : Bool) (messages : List (List ℕ)) (old new : OutgoingState) : Type 0 where
  pub put : List (List ℕ)
  pub lost : List (List ℕ)
  pub messages_are : messages ≡ put ++ lost
  pub all : starved ≡ false → lost ≡ []
  pub since : (began : Option (List ℕ)) (before : List (List ℕ)) → HasWritten began before old → HasWritten began (before ++ put) new
  pub failed : 0 < old.faults → 0 < new.faults

-- The same, where it may be that no memory was found before: then none is put.
pub record PutsOn (was starved : Bool) (messages : List (List ℕ)) (old new : OutgoingState) : Type 0 where
  pub puts : PutsTo starved messages old new
  pub over : was ≡ true → (starved ≡ true) × (puts.put ≡ [])
