use Rattle.std.proofs.Common.{◌≤◌, length}
use Rattle.rd_dirinfo.specs.Naming.{seen}
use Rattle.rd_dirinfo.proofs.PatternLemmas.{Walked}
use Rattle.rd_dirinfo.proofs.matching.walk_along.Given as goal

abbrev pub invariant-loop-first : goal.invariant-loop-first
invariant-loop-first l = record {
  walked : Walked (seen l.naming l.fn.pattern) (seen l.naming l.fn.name) (seen l.naming l.pattern) (seen l.naming l.name);
  shorter : length l.pattern ≤ length l.fn.pattern;
  within : length l.name ≤ length l.fn.name;
}

abbrev pub decreases-loop-first : goal.decreases-loop-first
decreases-loop-first l = length l.pattern
