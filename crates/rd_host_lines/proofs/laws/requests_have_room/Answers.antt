use Rattle.rd_host_lines.proofs.RoomLemmas.{have_room}
use Rattle.rd_host_lines.proofs.laws.requests_have_room.Goals as goal

pub returns : goal.returns
returns c = have_room
