use Rattle.std.proofs.Common.{◌≡◌, ◌≤◌, ◌++◌, length}
use Rattle.std.specs.List.{AllByRecursion}
use Rattle.rd_script.specs.Script.{max_lines}
use Rattle.rd_world.specs.Applications.{AreAsking, standing_at}
use Rattle.rd_world.proofs.applications.Applications.new.Given as goal

-- the applications that were made, and those whose places are left
abbrev pub invariant-loop-number : goal.invariant-loop-number
invariant-loop-number l = record {
  made : l.by_number.entries ++ standing_at l.fn.lines l.number-iterator ≡ standing_at l.fn.lines l.initial.number-iterator;
  asking : AllByRecursion (λ e. AreAsking l.fn.lines e.1.items × (length e.1.items ≤ max_lines)) l.number-iterator;
}
