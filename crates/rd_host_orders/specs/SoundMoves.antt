-- What a host reads and writes on a channel, but for what is wrong.
use Rattle.std.specs.Prelude.{◌≡◌, ℕ, if◌then◌else◌, List, [], ◌∷◌, Option, Some, None, IsOk, is_ok}
use Rattle.std.specs.List.{cons_option}
use Rattle.rd_hello.specs.Moves.{Move, reads, writes}
use Rattle.rd_host.specs.Core.{host_hear}
use Rattle.rd_deeds.specs.HostDeeds.{side_of}
use Rattle.rd_world.specs.Recording.{client_id}
use Rattle.rd_deeds.specs.Talk.{Deed, host_move, host_reads, on}

-- The move on a channel that a deed is after others. A message that is read counts only where the host's core finds nothing wrong with it, and nothing was wrong before.
abbrev pub sound_move : ℕ → List Deed → Deed → Option Move
sound_move c before (host_reads channel message) = if is_ok (host_hear (side_of client_id before).core message).1 then on c channel (reads message) else None
sound_move c before deed = host_move c deed

-- the moves on a channel by deeds, both with the newest first
abbrev pub sound_moves : ℕ → List Deed → List Move
sound_moves c [] = []
sound_moves c (deed ∷ before) = cons_option (sound_move c before deed) (sound_moves c before)

-- the message that a move writes
abbrev pub written_in : Move → Option (List ℕ)
written_in (writes message) = Some message
written_in (reads message) = None

-- A message that is read on the channel isn't wrong.
abbrev pub IsSoundOn : ℕ → List Deed → Deed → Type 0
IsSoundOn c before (host_reads channel message) = channel ≡ c → IsOk (host_hear (side_of client_id before).core message).1
IsSoundOn c before deed = Unit {0}
