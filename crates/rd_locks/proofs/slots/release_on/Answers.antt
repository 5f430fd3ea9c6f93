use Rattle.std.proofs.Common.{◌≡◌, ◌∙◌, ap, arith, false, length}
use Rattle.std.proofs.lemmas.Bool.{false_from_ne_true}
use Rattle.rd_locks.specs.Slots.{slot_at, standing}
use Rattle.rd_locks.proofs.SlotLemmas.{by_equal}
use Rattle.rd_locks.proofs.StandingLemmas.{standing-same, standing-released}
use Rattle.rd_locks.proofs.slots.release_on.Goals as goal

pub returns-clause-count : goal.returns-clause-count
returns-clause-count c =
    let same : standing c.sweep.new.slots ≡ standing c.let_go-count.new.slots = standing-same c.let_go-count.new.slots c.sweep.new.slots c.sweep.ensures.follows.long c.sweep.ensures.follows.lock c.sweep.ensures.stands in
    omega (arith, ap length same, c.let_go-count.ensures.count)

pub returns-clause-released : goal.returns-clause-released
returns-clause-released c =
    standing-same c.let_go-count.new.slots c.sweep.new.slots c.sweep.ensures.follows.long c.sweep.ensures.follows.lock c.sweep.ensures.stands
    ∙ standing-released c.args.file c.args.slots.now c.let_go-count.new.slots c.let_go-count.ensures.stays.long c.let_go-count.ensures.stays.lock
    (λ i e. by_equal ((slot_at c.let_go-count.new.slots i).stands ≡ false) (slot_at c.args.slots.now i).lock.node c.args.node (λ here. c.let_go-count.ensures.gone i here e)
    (λ away. c.let_go-count.ensures.other_nodes i away ∙ false_from_ne_true _ (λ stands. away (c.requires.home i stands e))))
    c.let_go-count.ensures.others
