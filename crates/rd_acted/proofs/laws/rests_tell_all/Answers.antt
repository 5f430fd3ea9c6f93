use Rattle.rd_acted.proofs.RunLemmas.{all_noticed, all_told}
use Rattle.rd_acted.proofs.laws.rests_tell_all.Goals as goal
use Rattle.rd_rest.proofs.RunsParts.{reached_behind}

pub returns-clause-told : goal.returns-clause-told
returns-clause-told c lines starves w premises reached rests well ready = all_told lines starves premises w (reached_behind lines starves w reached) rests well ready

pub returns-clause-notices : goal.returns-clause-notices
returns-clause-notices c lines starves w premises reached rests = all_noticed lines starves premises w (reached_behind lines starves w reached) rests
