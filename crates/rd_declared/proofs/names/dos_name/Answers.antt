use Rattle.std.proofs.Common.{rules, arith}
use Rattle.std.proofs.lemmas.Grind.{common_steps}
use Rattle.rd_declared.proofs.HeldLemmas.{zeros_less}
use Rattle.rd_declared.proofs.names.dos_name.Goals as goal

pub loop-i-preserved : goal.loop-i-preserved
loop-i-preserved c = record {
  long = search rules;
  same = grind (arith, common_steps);
  rest = zeros_less c.loop-i.dos c.loop-i.i _ (search rules) c.loop-i.invariant.rest;
}
