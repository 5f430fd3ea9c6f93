use Rattle.std.proofs.Common.{◌≡◌}
use Rattle.rd_locks.specs.Slots.{standing}
use Rattle.rd_locks.proofs.StandingLemmas.{standing-same}
use Rattle.rd_locks.proofs.slots.unlock_on.Goals as goal

pub returns-clause-unlocked : goal.returns-clause-unlocked
returns-clause-unlocked c =
    let same : standing c.sweep.new.slots ≡ standing c.take_all.new.slots = standing-same c.take_all.new.slots c.sweep.new.slots c.sweep.ensures.follows.long c.sweep.ensures.follows.lock c.sweep.ensures.stands in
    rw same (c.in_ok-take_all.ensures.ok)

pub returns-clause-count : goal.returns-clause-count
returns-clause-count c =
    let same : standing c.sweep.new.slots ≡ standing c.take_all.new.slots = standing-same c.take_all.new.slots c.sweep.new.slots c.sweep.ensures.follows.long c.sweep.ensures.follows.lock c.sweep.ensures.stands in
    rw same (c.in_ok-take_all.ensures.count)
