use Rattle.rd_acted.proofs.EndedLemmas.{behind_over, channels_end_told}
use Rattle.rd_acted.proofs.laws.channels_end_told.Goals as goal
use Rattle.rd_rest.proofs.RunsParts.{reached_behind}

pub returns-clause-told : goal.returns-clause-told
returns-clause-told c lines starves w premises reached well opens = channels_end_told lines starves premises w (reached_behind lines starves w reached) well opens

pub returns-clause-channels : goal.returns-clause-channels
returns-clause-channels c lines starves w premises reached well ids = (behind_over lines starves premises ids w (reached_behind lines starves w reached) well).channels
