use Rattle.std.proofs.Common.{◌≡◌, ◌++◌}
use Rattle.std.specs.List.{flat_map}
use Rattle.std.specs.String.{string_bytes}
use Rattle.rd_script.specs.Report.{document_lines}
use Rattle.rd_script.proofs.report_text.put_documents.Given as goal

-- what is written, and the lines that are left
abbrev pub invariant-loop-device : goal.invariant-loop-device
invariant-loop-device l = string_bytes l.text ++ flat_map document_lines l.device-iterator ≡ string_bytes l.fn.text ++ flat_map document_lines l.documents.entries
