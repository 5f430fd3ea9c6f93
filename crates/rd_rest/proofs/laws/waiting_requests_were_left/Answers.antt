use Rattle.rd_rest.proofs.ParkedLemmas.{reached_left_parked}
use Rattle.rd_rest.proofs.laws.waiting_requests_were_left.Goals as goal

pub returns : goal.returns
returns c = record { parked = λ lines starves w reached. reached_left_parked lines starves w reached }
