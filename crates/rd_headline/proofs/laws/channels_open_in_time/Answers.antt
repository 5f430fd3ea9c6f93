use Rattle.rd_headline.proofs.StandLemmas.{opens_in_time}
use Rattle.rd_headline.proofs.laws.channels_open_in_time.Goals as goal

pub returns : goal.returns
returns c lines starves most premises = opens_in_time lines starves most premises.run premises.writable
