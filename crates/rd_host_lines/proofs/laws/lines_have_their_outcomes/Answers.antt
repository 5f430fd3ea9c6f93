use Rattle.rd_host_lines.proofs.CameLemmas.{lines_came}
use Rattle.rd_host_lines.proofs.TellingLemmas.{all_told}
use Rattle.rd_host_lines.proofs.laws.lines_have_their_outcomes.Goals as goal

pub returns-clause-came : goal.returns-clause-came
returns-clause-came c = λ lines other told old new hosts. lines_came lines other old new hosts.turn hosts.issuers hosts.last hosts.plays

pub returns-clause-all_told : goal.returns-clause-all_told
returns-clause-all_told c = λ lines other told old new hosts. all_told lines other told old new hosts
