use Rattle.rd_rest.proofs.HandLemmas.{reached_in_hands}
use Rattle.rd_rest.proofs.RestLemmas.{rest_at}
use Rattle.rd_rest.proofs.laws.hands_hold_what_is_taken.Goals as goal

pub returns : goal.returns
returns c = record {
  held = λ lines starves w reached. reached_in_hands lines starves w reached;
  rest = λ lines starves w premises reached none d s there. rest_at lines starves premises w reached none d s there;
}
