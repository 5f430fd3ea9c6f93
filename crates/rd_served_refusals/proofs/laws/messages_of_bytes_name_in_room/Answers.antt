use Rattle.rd_served_refusals.proofs.BytesLemmas.{bytes_name}
use Rattle.rd_served_refusals.proofs.laws.messages_of_bytes_name_in_room.Goals as goal

pub returns : goal.returns
returns c message bytes r is = bytes_name message bytes r is
