use Rattle.rd_host.proofs.WrongLemmas.{host_answers_wrong, host_stays_wrong}
use Rattle.rd_host.proofs.laws.hosts_stay_wrong.Goals as goal

pub returns-clause-stays : goal.returns-clause-stays
returns-clause-stays c = host_stays_wrong

pub returns-clause-answers : goal.returns-clause-answers
returns-clause-answers c = host_answers_wrong
