use Rattle.rd_orders.proofs.RunsParts.{reached_behind}
use Rattle.rd_opening.proofs.ChannelLemmas.{behind_channels}
use Rattle.rd_opening.proofs.laws.channels_are_numbered.Goals as goal

pub returns-clause-last : goal.returns-clause-last
returns-clause-last c lines starves w premises reached = (behind_channels lines starves premises w (reached_behind lines starves w reached)).last_is

pub returns-clause-ended : goal.returns-clause-ended
returns-clause-ended c lines starves w premises reached channel first below = (behind_channels lines starves premises w (reached_behind lines starves w reached)).each channel first below
