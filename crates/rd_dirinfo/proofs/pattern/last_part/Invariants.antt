use Rattle.std.proofs.Common.{◌≡◌, ◌-◌, ◌≤◌, length, None}
use Rattle.std.specs.List.{last_or}
use Rattle.rd_dirinfo.specs.Paths.{parts_of, placed_parts}
use Rattle.rd_dirinfo.proofs.pattern.last_part.Given as goal

abbrev pub invariant-loop-i : goal.invariant-loop-i
invariant-loop-i l = record {
  same : last_or None (placed_parts 0 (parts_of l.fn.units)) ≡ last_or None (placed_parts (length l.fn.units - length l.rest) (parts_of l.rest));
  within : length l.rest ≤ length l.fn.units;
}

abbrev pub decreases-loop-i : goal.decreases-loop-i
decreases-loop-i l = length l.rest
