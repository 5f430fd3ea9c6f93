use Rattle.std.proofs.Common.{◌≡◌, ◌++◌, ◌+◌, drop}
use Rattle.std.specs.String.{string_bytes}
use Rattle.rd_script.specs.Report.{documents_from}
use Rattle.rd_script.proofs.report_text.put_documents_of.Given as goal

-- what is written, and the lines that are left
abbrev pub invariant-loop-index : goal.invariant-loop-index
invariant-loop-index l = string_bytes l.text ++ documents_from l.device (l.index + 1) (drop l.index l.documents) ≡ string_bytes l.fn.text ++ documents_from l.device 1 l.documents
