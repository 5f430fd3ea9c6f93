use Rattle.rd_exchanges.proofs.BetweenLemmas.{removals_parted}
use Rattle.rd_exchanges.proofs.laws.asks_part_at_removals.Goals as goal

pub returns : goal.returns
returns c t more = removals_parted more t
