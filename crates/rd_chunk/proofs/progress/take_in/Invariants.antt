use Rattle.std.proofs.Common.{length, ◌-◌, ◌≤◌, ◌≡◌, ◌+◌, ◌%◌, ◌^◌, ◌++◌, take, vec_len, List, ℕ, None, true}
use Rattle.rd_chunk.specs.Standing.{Takes, is_complete}
use Rattle.rd_chunk.specs.Kept.{InRange, held_of}
use Rattle.rd_chunk.proofs.progress.take_in.Given as goal

abbrev pub invariant-loop-at : goal.invariant-loop-at
invariant-loop-at l = record {
  in_piece : l.at ≤ length l.piece;
  in_range : InRange l.progress (vec_len l.message);
  takes : Takes (held_of l.fn.progress l.fn.message.items None) (held_of l.progress l.message.items None) (take l.at l.piece);
  counts : l.progress.taken ≡ (l.fn.progress.taken + l.at) % 2 ^ 64;
  start : l.at ≡ 0 → (l.progress ≡ l.fn.progress) × (l.message.items ≡ l.fn.message.items) × (vec_len l.message ≡ vec_len l.fn.message);
  complete : is_complete l.fn.progress.left (vec_len l.fn.message) l.fn.progress.length ≡ true → l.at ≡ 0;
  message : (more : List ℕ) × (l.message.items ≡ l.fn.message.items ++ more);
}

abbrev pub decreases-loop-at : goal.decreases-loop-at
decreases-loop-at l = length l.piece - l.at
