-- An application on its thread, with a pass of the table that was split from pass 0 and is joined to it again.
use Rattle.std.specs.Prelude.{◌≡◌, ℕ, Bool, true, List, [], ◌∷◌, length, Contains}
use Rattle.rd_pending.specs.Table.{TableState}
use Rattle.rd_turn.specs.History.{calls_of}
use Rattle.rd_turn.specs.Pass.{TurnId, after_split, new_pass}
use Rattle.rd_world.specs.World.{ApplicationState}
use Rattle.rd_issuer.specs.declared.issuer.Issuer.{Issuer}
use Rattle.rd_issuer.specs.Issues.{Goes, Rests, TablePass}

-- an application and its number, the turn of the table and its pass of it, and whether memory was found for all that it did
pub record StintState : Type 0 where
  pub number : ℕ
  pub application : ApplicationState
  pub turn : TurnId TableState
  pub pass : TablePass
  pub found : Bool

-- the application of a stint, with its number
abbrev pub issuer_of : StintState → Issuer
issuer_of s = record { number = s.number; application = s.application }

-- ---- splits

-- pass 0, from which one was split for each of these
abbrev pub after_splits : TablePass → List Issuer → TablePass
after_splits p [] = p
after_splits p (i ∷ issuers) = after_splits (after_split p) issuers

-- the stints of these applications, each with the pass that is split for it
abbrev pub stints_of : TurnId TableState → TablePass → List Issuer → List StintState
stints_of turn p [] = []
stints_of turn p (i ∷ issuers) = record { number = i.number; application = i.application; turn = turn; pass = new_pass p; found = true } ∷ stints_of turn (after_split p) issuers

-- none of the calls that its pass has seen is its own
abbrev pub IsFresh : StintState → Type 0
IsFresh s = calls_of s.pass.number s.pass.seen ≡ []

-- ---- on its thread

-- An application issued its lines with its pass; and where memory was found it rests.
pub record HasIssued (old new : StintState) : Type 0 where
  pub number : new.number ≡ old.number
  pub turn : new.turn ≡ old.turn
  pub goes : Goes old.number new.found old.application new.application old.pass new.pass
  pub rests : new.found ≡ true → Rests new.application (calls_of new.pass.number new.pass.seen)

-- ---- joins

-- A pass was joined to pass 0, and of its number that has seen just the calls that it had made.
pub record CameHome (p q : TablePass) : Type 0 where
  pub joined : Contains p.joined (q.number, length (calls_of q.number q.seen))
  pub calls : calls_of q.number p.seen ≡ calls_of q.number q.seen
