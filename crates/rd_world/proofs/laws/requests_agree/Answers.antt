use Rattle.std.proofs.Common.{Option, Some, None, ◌≡◌, refl}
use Rattle.std.specs.Map.{lookup}
use Rattle.std.specs.Ordering.{nat_cmp}
use Rattle.std.specs.BTreeMap.{is_at}
use Rattle.rd_declared.specs.Devices.{Declared}
use Rattle.rd_declared.specs.Replies.{replies_read}
use Rattle.rd_world.specs.Session.{replies_in}
use Rattle.rd_world.proofs.Agreeing.{agree, same_replies}
use Rattle.rd_world.proofs.laws.requests_agree.Goals as goal

pub returns-clause-named : goal.returns-clause-named
returns-clause-named c = agree

pub returns-clause-replies : goal.returns-clause-replies
returns-clause-replies c devices deeds carried device items all = go (lookup (is_at (nat_cmp device)) devices) refl
  where
    go : (o : Option Declared) → lookup (is_at (nat_cmp device)) devices ≡ o → replies_in devices deeds device items ≡ replies_read devices deeds device items
    go None e = rw e refl
    go (Some d) e = rw e (same_replies deeds carried d.state items all)
