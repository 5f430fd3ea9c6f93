use Rattle.rd_rest.proofs.CompletedLemmas.{completed}
use Rattle.rd_rest.proofs.FullLemmas.{none_kept_back}
use Rattle.rd_rest.proofs.laws.requests_are_completed.Goals as goal

pub returns : goal.returns
returns c lines starves w premises writable few reached none is fine device id index has = completed lines starves premises w reached none is writable few (none_kept_back lines starves premises w reached none) fine device id index has
