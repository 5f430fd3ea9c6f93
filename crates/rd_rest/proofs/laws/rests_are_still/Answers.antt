use Rattle.rd_rest.proofs.StillLemmas.{still_at_rest}
use Rattle.rd_rest.proofs.laws.rests_are_still.Goals as goal

pub returns : goal.returns
returns c lines starves control w premises writable few reached none is fine told = still_at_rest lines starves control w premises writable few reached none is fine told
