use Rattle.std.proofs.Common.{◌≡◌, ◌+◌, ◌*◌, vec_len}
use Rattle.rd_script.specs.Load.{blocks, AddsLines}
use Rattle.rd_script.proofs.load.push_blocks.Given as goal

-- the blocks so far
abbrev pub invariant-loop-i : goal.invariant-loop-i
invariant-loop-i l = record {
  added : AddsLines l.fn.lines.items l.lines.items (blocks l.application 0 l.i);
  long : vec_len l.lines ≡ vec_len l.fn.lines + 2 * l.i;
}
