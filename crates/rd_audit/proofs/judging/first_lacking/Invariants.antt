use Rattle.rd_audit.proofs.OpenLemmas.{NoneOpen}
use Rattle.rd_audit.proofs.judging.first_lacking.Given as goal

abbrev pub invariant-loop-place : goal.invariant-loop-place
invariant-loop-place l = NoneOpen l.channels l.courses l.place
