use Rattle.std.proofs.Common.{◌≡◌}
use Rattle.rd_script.specs.Row.{parts_left}
use Rattle.rd_script.specs.Script.{lines_from, lines_of, read_all, reading_at_start}
use Rattle.rd_script.proofs.TextLemmas.{left_len}
use Rattle.rd_script.proofs.script.read_script.Given as goal

-- what was read, and the lines that are left
abbrev pub invariant-loop-left : goal.invariant-loop-left
invariant-loop-left l = read_all (lines_from (parts_left 0x0a l.left)) l.reader ≡ read_all (lines_of l.bytes) (reading_at_start l.mode)

abbrev pub decreases-loop-left : goal.decreases-loop-left
decreases-loop-left l = left_len l.left
