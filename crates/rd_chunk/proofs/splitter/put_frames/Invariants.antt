use Rattle.std.proofs.Common.{◌≡◌, ◌++◌, ◌+◌, ◌*◌, ◌≤◌, length, vec_len, vec_capacity}
use Rattle.std.specs.List.{concat}
use Rattle.std.specs.Int.{div_ceil}
use Rattle.rd_chunk.specs.Carrier.{carrier_frames}
use Rattle.rd_chunk.specs.Sizes.{chunk_len, head_len}
use Rattle.rd_chunk.proofs.splitter.put_frames.Given as goal

abbrev pub invariant-loop-k : goal.invariant-loop-k
invariant-loop-k l = record {
  items : l.stream.items ≡ l.fn.stream.items ++ concat (carrier_frames l.message l.k);
  room : vec_len l.fn.stream + (length l.message + head_len * div_ceil (length l.message) chunk_len) ≤ vec_capacity l.stream;
  grown : vec_capacity l.fn.stream ≤ vec_capacity l.stream;
}
