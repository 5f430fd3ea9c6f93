use Rattle.rd_outcomes.proofs.PassedLemmas.{all_are_sent, are_passed}
use Rattle.rd_outcomes.proofs.laws.requests_are_sent.Goals as goal

pub returns : goal.returns
returns c = record {
  requests = λ lines starves w premises reached. are_passed lines starves premises w reached;
  all = λ lines starves w premises reached. all_are_sent lines starves premises w reached;
}
