use Rattle.rd_ranges.proofs.ReadLemmas.{body_room, request_room}
use Rattle.rd_ranges.proofs.laws.what_is_read_has_room.Goals as goal

pub returns-clause-requests : goal.returns-clause-requests
returns-clause-requests c = request_room

pub returns-clause-bodies : goal.returns-clause-bodies
returns-clause-bodies c = body_room
