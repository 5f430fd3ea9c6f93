use Rattle.std.proofs.Common.{[], ◌+◌, take}
use Rattle.rd_audit.specs.Replayed.{Account}
use Rattle.rd_audit.specs.Telling.{HasTold, KeepsChannel}
use Rattle.rd_audit.proofs.completions.Telling.new.Given as goal

-- the requests up to an index are kept
abbrev pub invariant-loop-index : goal.invariant-loop-index
invariant-loop-index l = (account : Account) → KeepsChannel account l.place l.channel l.replayed → HasTold account (l.place + 1) (take l.index l.channel.requests) [] l.telling
