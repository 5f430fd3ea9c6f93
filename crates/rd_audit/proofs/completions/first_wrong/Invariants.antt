use Rattle.std.proofs.Common.{◌≡◌, ◌+◌, drop}
use Rattle.rd_audit.specs.Completions.{first_wrong}
use Rattle.rd_audit.specs.Kept.{KeepsAccount}
use Rattle.rd_audit.specs.Replayed.{Account}
use Rattle.rd_audit.proofs.completions.first_wrong.Given as goal

-- nothing is wrong on the channels up to a place
abbrev pub invariant-loop-place : goal.invariant-loop-place
invariant-loop-place l = (account : Account) → KeepsAccount l.channels account l.replayed → first_wrong account 1 l.channels ≡ first_wrong account (l.place + 1) (drop l.place l.channels)
