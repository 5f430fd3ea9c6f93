use Rattle.std.proofs.Common.{◌≡◌, ◌++◌, List}
use Rattle.std.specs.Option.{option_map}
use Rattle.rd_irp.specs.declared.op.Range.{Range}
use Rattle.rd_script.specs.Row.{parts_left}
use Rattle.rd_script.specs.Texts.{all_ranges, ranges_of}
use Rattle.rd_script.proofs.TextLemmas.{left_len}
use Rattle.rd_script.proofs.texts.ranges_of.Given as goal

-- the ranges that were read, and those that are left
abbrev pub invariant-loop-left : goal.invariant-loop-left
invariant-loop-left l = option_map (λ (rs : List Range). l.ranges.items ++ rs) (all_ranges (parts_left 0x2c l.left)) ≡ ranges_of l.word

abbrev pub decreases-loop-left : goal.decreases-loop-left
decreases-loop-left l = left_len l.left
