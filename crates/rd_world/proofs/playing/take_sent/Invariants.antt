use Rattle.std.proofs.Common.{◌≡◌, ℕ, take}
use Rattle.std.specs.Prelude.{◌&&◌, not}
use Rattle.std.specs.BTreeSet.{contains}
use Rattle.std.specs.Ordering.{nat_cmp}
use Rattle.rd_world.specs.Left.{is_sent_in}
use Rattle.rd_world.proofs.playing.take_sent.Given as goal

-- those that the entries so far don't say are handed out
abbrev pub invariant-loop-item : goal.invariant-loop-item
invariant-loop-item l =
    (index : ℕ) → contains nat_cmp l.left index ≡ (contains nat_cmp l.initial.left index && not (is_sent_in (take l.item-index l.journal) l.channel index))
