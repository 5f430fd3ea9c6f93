use Rattle.rd_core.proofs.OpeningLemmas.{sets_later}
use Rattle.rd_core.proofs.opening.before_sets.Goals as goal

pub returns : goal.returns
returns c = λ bad e. sets_later _ _ _ _ _ bad c.requires c.in_ok-read_count16.ensures.read c.in_ok-take.ensures.read e
