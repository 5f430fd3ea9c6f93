use Rattle.rd_audit.proofs.OpenLemmas.{NoneLacks}
use Rattle.rd_audit.proofs.judging.lacks.Given as goal

abbrev pub invariant-loop-index : goal.invariant-loop-index
invariant-loop-index l = NoneLacks l.channel l.place l.courses l.index
