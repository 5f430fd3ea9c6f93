use Rattle.rd_core.proofs.OpeningLemmas.{name_later}
use Rattle.rd_core.proofs.opening.before_name.Goals as goal

pub returns : goal.returns
returns c = λ bad e. name_later _ _ _ _ _ _ _ bad c.requires c.in_ok-u32.ensures.read c.in_ok-u32-2.ensures.read c.in_ok-read_count32.ensures.read e
