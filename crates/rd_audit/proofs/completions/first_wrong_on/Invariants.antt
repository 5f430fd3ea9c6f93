use Rattle.std.proofs.Common.{◌≡◌, List, [], ◌+◌, drop}
use Rattle.rd_recorded.specs.Channels.{Saying}
use Rattle.rd_audit.specs.Completions.{first_wrong_after}
use Rattle.rd_audit.specs.Replayed.{Account}
use Rattle.rd_audit.specs.Telling.{HasTold, KeepsChannel}
use Rattle.rd_audit.proofs.completions.first_wrong_on.Given as goal

-- what was said up to a place was heard, and what is wrong first stands behind it
abbrev pub invariant-loop-saying : goal.invariant-loop-saying
invariant-loop-saying l = (account : Account) → KeepsChannel account l.place l.channel l.replayed → (before : List Saying) × HasTold account (l.place + 1) l.channel.requests before l.telling
    × (first_wrong_after account (l.place + 1) l.channel.requests [] l.channel.sayings ≡ first_wrong_after account (l.place + 1) l.channel.requests before (drop l.saying-index l.channel.sayings))
