use Rattle.std.proofs.Common.{◌≡◌, ◌++◌, drop}
use Rattle.std.specs.List.{flat_map}
use Rattle.rd_script.specs.ReportLines.{devices_of, devices_on_line}
use Rattle.rd_script.proofs.report_lines.devices_of.Given as goal

-- the devices so far, and those of the lines that are left
abbrev pub invariant-loop-line : goal.invariant-loop-line
invariant-loop-line l = l.devices.items ++ flat_map devices_on_line (drop l.line-index l.lines) ≡ devices_of l.lines
