-- What holds of each thing that a host's calling thread does while lines are issued and while a channel ends, and of one after another, holds of all that it does meanwhile.
use Rattle.std.proofs.Common.{◌≡◌, ℕ, zero, suc, Bool}
use Rattle.rd_host_front.specs.declared.calls.Came.{Came}
use Rattle.rd_host_player.specs.Play.{CameTo, ComesTo, Ended, Issued, PlayState, Ran, Runs, Tried, TriesToEnd}
use Rattle.rd_script.specs.declared.line.NumberedLine.{NumberedLine}

-- Each thing that the thread does relates where it stood before to where it stands then, and so does one thing after another.
pub record Relates {F W : Type 0} (R : PlayState F W → PlayState F W → Type 0) : Type 0 where
  pub none : (old new : PlayState F W) → new ≡ old → R old new
  pub joins : (a b c : PlayState F W) → R a b → R b c → R a c
  pub comes : (l : NumberedLine) (old new : PlayState F W) → ComesTo l old new → R old new
  pub runs : (old new : PlayState F W) → Runs old new → R old new
  pub tries : (anew : Bool) (what : Came) (old new : PlayState F W) → TriesToEnd anew what old new → R old new

module _ {F W : Type 0} (R : PlayState F W → PlayState F W → Type 0) (by : Relates R) where
  came : (n : ℕ) (old new : PlayState F W) → CameTo n old new → R old new
  came zero old new is = by.none old new is
  came (suc n) old new (here, l, done, none, comes) = by.joins old here new (came n old here done) (by.comes l here new comes)

  ran : (n : ℕ) (old new : PlayState F W) → Ran n old new → R old new
  ran zero old new is = by.none old new is
  ran (suc n) old new (here, done, run) = by.joins old here new (ran n old here done) (by.runs here new run)

  pub issued : (old new : PlayState F W) → Issued old new → R old new
  issued old new (lines, times, here, done, at, run) = by.joins old here new (came lines old here done) (ran (suc times) here new run)

  tried : (n : ℕ) (old new : PlayState F W) → Tried n old new → R old new
  tried zero old new is = by.none old new is
  tried (suc n) old new (here, done, tries) = by.joins old here new (tried n old here done) (by.tries _ _ here new tries)

  pub ended : (old new : PlayState F W) → Ended old new → R old new
  ended old new (times, here, done, tries) = by.joins old here new (tried times old here done) (by.tries _ _ here new tries)
