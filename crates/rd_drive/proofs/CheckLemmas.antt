-- Checks, one after the other.
use Rattle.std.proofs.Common.{◌≡◌, refl, ap, Bool, true, false, cond, List, [], ◌∷◌, Some, None}
use Rattle.rd_base.specs.declared.status.Status.{Status}
use Rattle.rd_irp.specs.declared.completion.Reply.{Reply}
use Rattle.rd_drive.specs.DriveState.{DriveState}
use Rattle.rd_drive.specs.Outcome.{Outcome, outcome_with_reply, refused, checked, given, one_of}

module _ (s : DriveState) where
  -- a check that applies answers
  pub check_applies : (check : Bool × Reply) (checks : List (Bool × Reply)) (outcome : Outcome) → check.0 ≡ true → checked s (check ∷ checks) outcome ≡ outcome_with_reply s check.1
  unfolding checked
  check_applies check checks outcome e = ap (λ b. cond b (outcome_with_reply s check.1) (checked s checks outcome)) e

  -- one that doesn't is passed
  pub check_passed : (check : Bool × Reply) (checks : List (Bool × Reply)) (outcome : Outcome) → check.0 ≡ false → checked s (check ∷ checks) outcome ≡ checked s checks outcome
  unfolding checked
  check_passed check checks outcome e = ap (λ b. cond b (outcome_with_reply s check.1) (checked s checks outcome)) e

  -- after the last the operation is served
  pub checks_done : (outcome : Outcome) → checked s [] outcome ≡ outcome
  unfolding checked
  checks_done outcome = refl

  pub given_some : {X : Type 0} (x : X) (status : Status) (f : X → Outcome) → given s (Some x) status f ≡ f x
  unfolding given
  given_some x status f = refl

  pub given_none : {X : Type 0} (status : Status) (f : X → Outcome) → given s None status f ≡ refused s status
  unfolding given
  given_none status f = refl

pub one_true : (test : Bool) (outcome other : Outcome) → test ≡ true → one_of test outcome other ≡ outcome
unfolding one_of
one_true test outcome other e = ap (λ b. cond b outcome other) e

pub one_false : (test : Bool) (outcome other : Outcome) → test ≡ false → one_of test outcome other ≡ other
unfolding one_of
one_false test outcome other e = ap (λ b. cond b outcome other) e
