use Rattle.std.proofs.Common.{◌≡◌, arith, length, ◌&&◌, ◌==◌, not, Bool}
use Rattle.rd_locks.specs.declared.held.Held.{Held}
use Rattle.rd_locks.specs.Slots.{slot_at}
use Rattle.rd_locks.proofs.SlotLemmas.{by_place}
use Rattle.rd_locks.proofs.StandingLemmas.{length-standing, standing-kept, none_kept}
use Rattle.rd_locks.proofs.slots.release_everywhere.Goals as goal

pub overflow_add-count : goal.overflow_add-count
overflow_add-count c = omega (arith, length-standing c.args.slots.now, c.loop-i.invariant.count, c.let_go_at-count.ensures.count)

pub returns-clause-released : goal.returns-clause-released
returns-clause-released c =
    let keep : Held → Bool = λ held. not (held.file == c.args.file) in
    standing-kept keep c.args.slots.now c.loop-i.slots c.loop-i.invariant.follows.long c.loop-i.invariant.follows.lock
    (λ i. by_place (λ i. (slot_at c.loop-i.slots i).stands ≡ ((slot_at c.args.slots.now i).stands && not ((slot_at c.args.slots.now i).lock.file == c.args.file))) i (length c.args.slots.now)
    (λ lt. c.loop-i.invariant.done i (omega arith))
    (none_kept keep c.args.slots.now c.loop-i.slots (length c.args.slots.now) (omega arith) c.loop-i.invariant.follows.long)
    (λ gt. none_kept keep c.args.slots.now c.loop-i.slots i (omega arith) c.loop-i.invariant.follows.long))
