-- The applications of a host beside each other, each with a pass of the table of its own.
use Rattle.std.specs.Prelude.{◌≡◌, ℕ, suc, ◌+◌, ◌++◌, ◌<◌, List, [], length, slice_index_or, Contains}
use Rattle.rd_turn.specs.History.{calls_of}
use Rattle.rd_issuer.specs.declared.issuer.Issuer.{Issuer}
use Rattle.rd_issuer.specs.Issues.{Issues, Rests, TablePass}

-- An application went on by what it did, and rests by that. The calls of the pass of this number are the calls of that; pass 0 had seen none of them before, and that pass was joined to it.
pub record RanWith (before after : TablePass) (pass : ℕ) (old new : Issuer) : Type 0 where
  pub number : new.number ≡ old.number
  pub issued : Issues old.number pass old.application new.application [] (calls_of pass after.seen)
  pub rests : Rests new.application (calls_of pass after.seen)
  pub fresh : calls_of pass before.seen ≡ []
  pub joined : Contains after.joined (pass, length (calls_of pass after.seen))

-- Applications ran beside each other, in their order with the passes that were made next, one for each; and all of these came home to pass 0, to which those stay joined that were.
pub record RanSideBySide (before after : TablePass) (old new : List Issuer) : Type 0 where
  pub count : length new ≡ length old
  pub made : after.made ≡ before.made + length old
  pub out : after.out ≡ before.out
  pub first : after.number ≡ 0
  pub kept : (more : List (ℕ × ℕ)) × (after.joined ≡ more ++ before.joined)
  pub ran : (place : ℕ) (d e : Issuer) → place < length old → RanWith before after (suc (before.made + place)) (slice_index_or old place d) (slice_index_or new place e)
