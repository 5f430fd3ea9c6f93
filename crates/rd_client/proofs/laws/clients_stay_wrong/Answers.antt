use Rattle.rd_client.proofs.WrongLemmas.{client_answers_wrong, client_stays_wrong}
use Rattle.rd_client.proofs.laws.clients_stay_wrong.Goals as goal

pub returns-clause-stays : goal.returns-clause-stays
returns-clause-stays c = client_stays_wrong

pub returns-clause-answers : goal.returns-clause-answers
returns-clause-answers c = client_answers_wrong
