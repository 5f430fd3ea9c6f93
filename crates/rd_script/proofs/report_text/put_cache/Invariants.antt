use Rattle.std.proofs.Common.{◌≡◌, ◌++◌}
use Rattle.std.specs.List.{flat_map}
use Rattle.std.specs.String.{string_bytes}
use Rattle.rd_script.specs.Report.{cached_line}
use Rattle.rd_script.proofs.report_text.put_cache.Given as goal

-- what is written, and the lines that are left
abbrev pub invariant-loop-name : goal.invariant-loop-name
invariant-loop-name l = string_bytes l.text ++ flat_map cached_line l.name-iterator ≡ string_bytes l.fn.text ++ flat_map cached_line l.cache.entries
