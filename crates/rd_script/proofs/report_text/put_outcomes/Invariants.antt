use Rattle.std.proofs.Common.{◌≡◌, ◌++◌}
use Rattle.std.specs.List.{flat_map}
use Rattle.std.specs.String.{string_bytes}
use Rattle.rd_script.specs.ReportLines.{kinds_of}
use Rattle.rd_script.specs.Report.{outcome_line, AreCountable}
use Rattle.rd_script.proofs.report_text.put_outcomes.Given as goal

-- the kinds of the application's lines, what is written, and the outcomes that are left
abbrev pub invariant-loop-id : goal.invariant-loop-id
invariant-loop-id l = record {
  kinds : l.kinds.items ≡ kinds_of l.application l.lines;
  fit : AreCountable l.id-iterator;
  written : string_bytes l.text ++ flat_map (outcome_line l.lines) l.id-iterator ≡ string_bytes l.fn.text ++ flat_map (outcome_line l.lines) l.outcomes.entries;
}
