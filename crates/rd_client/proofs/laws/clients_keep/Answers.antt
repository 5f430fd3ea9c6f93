use Rattle.rd_client.proofs.KeptLemmas.{client_kept}
use Rattle.rd_client.proofs.laws.clients_keep.Goals as goal

pub returns : goal.returns
returns c = client_kept
