use Rattle.std.proofs.Common.{◌≡◌, ◌+◌, ◌*◌, ◌≤◌, length}
use Rattle.rd_dirinfo.specs.Paths.{first_bad, most_names, named_parts, rest_parts}
use Rattle.rd_dirinfo.proofs.path.first_bad.Given as goal

abbrev pub invariant-loop-rest : goal.invariant-loop-rest
invariant-loop-rest l = record {
  same : first_bad most_names (named_parts l.fn.units) ≡ first_bad l.room (rest_parts l.at l.rest);
  low : l.at + 256 * l.room ≤ 16385;
}

abbrev pub decreases-loop-rest : goal.decreases-loop-rest
decreases-loop-rest l = length l.rest
