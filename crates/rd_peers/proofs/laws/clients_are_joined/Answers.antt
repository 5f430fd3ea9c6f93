use Rattle.rd_peers.proofs.JoinedLemmas.{client_joined}
use Rattle.rd_peers.proofs.laws.clients_are_joined.Goals as goal

pub returns : goal.returns
returns c calm lines channels by entries books old new servable session client deeds is carried host room = client_joined calm lines channels by entries books old new servable session client deeds is carried host room
