use Rattle.std.proofs.Common.{arith}
use Rattle.rd_script.proofs.LoadLemmas.{adds_block}
use Rattle.rd_script.proofs.load.push_blocks.Goals as goal

pub loop-i-preserved : goal.loop-i-preserved
loop-i-preserved c = record {
  added = adds_block c.args.lines.now.items c.loop-i.lines.items c.push_block.new.lines.items c.args.application c.loop-i.i c.loop-i.invariant.added c.in_ok-push_block.ensures.added;
  long = omega (arith, c.loop-i.invariant.long, c.in_ok-push_block.ensures.length);
}
