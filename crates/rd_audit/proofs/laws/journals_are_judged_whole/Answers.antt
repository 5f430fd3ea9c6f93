use Rattle.rd_audit.proofs.LawLemmas.{whole_are}
use Rattle.rd_audit.proofs.laws.journals_are_judged_whole.Goals as goal

pub returns : goal.returns
returns c = whole_are
