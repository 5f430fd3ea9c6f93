use Rattle.std.proofs.Common.{◌≡◌, ◌++◌, map}
use Rattle.std.specs.List.{list_any}
use Rattle.std.specs.Ordering.{nat_cmp}
use Rattle.std.specs.BTreeMap.{IsOrdered}
use Rattle.rd_folder_drive.specs.Moving.{is_far, moved_entry}
use Rattle.rd_folder_drive.proofs.moves.moved_opens.Given as goal

-- what is moved, and what is left
abbrev pub invariant-loop-number : goal.invariant-loop-number
invariant-loop-number l = record {
  near : list_any (is_far l.from l.to) l.number-iterator ≡ list_any (is_far l.from l.to) l.opens.entries;
  made : l.moved.entries ++ map (moved_entry l.from l.to) l.number-iterator ≡ map (moved_entry l.from l.to) l.opens.entries;
  rising : IsOrdered nat_cmp l.opens;
}
