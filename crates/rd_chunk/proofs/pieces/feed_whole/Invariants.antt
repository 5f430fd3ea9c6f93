use Rattle.std.proofs.Common.{length, ◌-◌, ◌≤◌, ◌≡◌, ◌++◌, take, List, ℕ, None}
use Rattle.rd_chunk.specs.Standing.{HasJoined, waiting}
use Rattle.rd_chunk.proofs.pieces.feed_whole.Given as goal

abbrev pub invariant-loop-at : goal.invariant-loop-at
invariant-loop-at l = record {
  in_piece : l.at ≤ length l.piece;
  none_waits : waiting l.joiner ≡ None;
  joined : (bytes : List ℕ) → HasJoined l.fn.joiner l.fn.messages.items bytes → HasJoined l.joiner l.messages.items (bytes ++ take l.at l.piece);
}

abbrev pub decreases-loop-at : goal.decreases-loop-at
decreases-loop-at l = length l.piece - l.at
