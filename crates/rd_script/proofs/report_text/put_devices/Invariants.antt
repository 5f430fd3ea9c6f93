use Rattle.std.proofs.Common.{◌≡◌, ◌++◌}
use Rattle.std.specs.List.{flat_map}
use Rattle.std.specs.String.{string_bytes}
use Rattle.rd_script.specs.ReportLines.{devices_of}
use Rattle.rd_script.specs.Report.{device_lines, listed_line}
use Rattle.rd_script.proofs.report_text.put_devices.Given as goal

-- what is written, and the lines that are left
abbrev pub invariant-loop-device : goal.invariant-loop-device
invariant-loop-device l = string_bytes l.text ++ flat_map (listed_line (devices_of l.lines)) l.device-iterator ≡ string_bytes l.fn.text ++ device_lines l.lines l.books
