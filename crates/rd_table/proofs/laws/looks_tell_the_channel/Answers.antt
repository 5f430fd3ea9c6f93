use Rattle.rd_table.proofs.ChannelLemmas.{stage_told}
use Rattle.rd_table.proofs.laws.looks_tell_the_channel.Goals as goal

pub returns : goal.returns
returns c = stage_told
