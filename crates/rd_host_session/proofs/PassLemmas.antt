-- A pass that comes back to whatever turn it was of.
use Rattle.std.proofs.Common.{◌≡◌, subst}
use Rattle.rd_host_channel.specs.Calls.{ComesBack}
use Rattle.rd_turn.specs.Pass.{Belongs, PassState, TurnId}

-- It is the same where it was known by another name before.
pub comes_back_as : {O C R : Type 0} (was old new : PassState O C R) → was ≡ old → ((turn : TurnId O) → Belongs turn was → Belongs turn new × ComesBack turn was new)
    → (turn : TurnId O) → Belongs turn old → Belongs turn new × ComesBack turn old new
comes_back_as {O} {C} {R} was old new is back = subst (λ (p : PassState O C R). (turn : TurnId O) → Belongs turn p → Belongs turn new × ComesBack turn p new) is back
