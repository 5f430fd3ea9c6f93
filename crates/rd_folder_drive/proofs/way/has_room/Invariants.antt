use Rattle.std.proofs.Common.{◌≡◌, ◌+◌, take}
use Rattle.rd_folder_drive.specs.Ways.{ended_len}
use Rattle.rd_folder_drive.proofs.way.has_room.Given as goal

-- the room that is left, and what the names before take
abbrev pub invariant-loop-name : goal.invariant-loop-name
invariant-loop-name l = l.room + ended_len (take l.name-index l.names) ≡ 4097
