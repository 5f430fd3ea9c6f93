use Rattle.std.proofs.Common.{take, ◌≡◌, None}
use Rattle.std.specs.List.{concat}
use Rattle.rd_chunk.specs.Standing.{HasJoined, waiting}
use Rattle.rd_chunk.proofs.pieces.join_pieces.Given as goal

abbrev pub invariant-loop-piece : goal.invariant-loop-piece
invariant-loop-piece l = record {
  none_waits : waiting l.joiner ≡ None;
  joined : HasJoined l.joiner l.messages.items (concat (take l.piece-index l.pieces));
}
