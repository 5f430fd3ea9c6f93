use Rattle.std.proofs.Common.{◌≡◌, ◌+◌, ◌*◌, ◌≤◌, ◌^◌, length}
use Rattle.std.specs.List.{sum}
use Rattle.rd_script.specs.Report.{AreCountable}
use Rattle.rd_cli.specs.Summary.{bytes_read, count_done, count_lost}
use Rattle.rd_cli.proofs.summary.tally_of.Given as goal

-- what the lines so far came to, and those that are left; a line has fewer bytes than 2^64, and they sum to less
abbrev pub invariant-loop-outcome : goal.invariant-loop-outcome
invariant-loop-outcome l = record {
  fit : AreCountable l.outcome-iterator;
  done : l.tally.done + count_done l.outcome-iterator ≡ count_done l.told.lines.entries;
  lost : l.tally.lost + count_lost l.outcome-iterator ≡ count_lost l.told.lines.entries;
  bytes : l.tally.bytes + length (bytes_read l.outcome-iterator) ≡ length (bytes_read l.told.lines.entries);
  sum : l.tally.sum + sum (bytes_read l.outcome-iterator) ≡ sum (bytes_read l.told.lines.entries);
  few : l.tally.bytes + 2 ^ 64 * length l.outcome-iterator ≤ 2 ^ 64 * length l.told.lines.entries;
  small : l.tally.sum + 2 ^ 64 * length l.outcome-iterator ≤ 2 ^ 64 * length l.told.lines.entries;
}
