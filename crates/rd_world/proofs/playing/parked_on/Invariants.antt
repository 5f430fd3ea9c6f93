use Rattle.std.proofs.Common.{◌≡◌, ℕ, take}
use Rattle.std.specs.BTreeSet.{contains}
use Rattle.std.specs.Ordering.{nat_cmp}
use Rattle.rd_world.specs.Left.{is_parked_in}
use Rattle.rd_world.proofs.playing.parked_on.Given as goal

-- those of the entries so far
abbrev pub invariant-loop-item : goal.invariant-loop-item
invariant-loop-item l = (index : ℕ) → contains nat_cmp l.parked index ≡ is_parked_in (take l.item-index l.journal) l.channel index
