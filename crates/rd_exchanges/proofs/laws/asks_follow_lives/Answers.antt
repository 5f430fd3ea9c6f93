use Rattle.rd_exchanges.proofs.BetweenLemmas.{lives_followed}
use Rattle.rd_exchanges.proofs.laws.asks_follow_lives.Goals as goal

pub returns : goal.returns
returns c t more = lives_followed more t
