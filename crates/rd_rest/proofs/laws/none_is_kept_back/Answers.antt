use Rattle.rd_rest.proofs.FullLemmas.{none_kept_back}
use Rattle.rd_rest.proofs.laws.none_is_kept_back.Goals as goal

pub returns : goal.returns
returns c lines starves w premises reached none = none_kept_back lines starves premises w reached none
