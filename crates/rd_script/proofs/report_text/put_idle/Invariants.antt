use Rattle.std.proofs.Common.{◌≡◌, ◌++◌, drop}
use Rattle.std.specs.List.{flat_map}
use Rattle.std.specs.String.{string_bytes}
use Rattle.rd_script.specs.Report.{idle_line}
use Rattle.rd_script.proofs.report_text.put_idle.Given as goal

-- what is written, and the lines that are left
abbrev pub invariant-loop-number : goal.invariant-loop-number
invariant-loop-number l = string_bytes l.text ++ flat_map idle_line (drop l.number-index l.idle) ≡ string_bytes l.fn.text ++ flat_map idle_line l.idle
