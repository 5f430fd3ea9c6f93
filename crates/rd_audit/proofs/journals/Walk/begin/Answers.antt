use Rattle.std.proofs.Common.{refl}
use Rattle.rd_audit.proofs.WalkLemmas.{begun_at, quiet_at}
use Rattle.rd_audit.proofs.journals.Walk.begin.Goals as goal

-- src/journals.rt:100:5
pub returns : goal.returns
returns c channels p most s =
    begun_at channels p.devices p.standing p.account most c.args.self.now _ s (c.in_ok-self.ensures (quiet_at channels p most c.args.self.now s)) refl
