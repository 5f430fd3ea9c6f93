use Rattle.rd_chunk.proofs.WorkedStreams as rows
use Rattle.rd_chunk.proofs.laws.worked_streams.Goals as goal

pub returns : goal.returns
returns c = record {
  written = rows.written;
  read = rows.read;
  longest = rows.longest;
  empty = rows.empty;
  size = rows.too_small;
  compressed = rows.compressed;
  no_first = rows.no_first;
  second_first = rows.second_first;
  too_long = rows.too_long;
  length_changed = rows.length_changed;
  overrun = rows.overrun;
  last_early = rows.last_early;
  not_last = rows.not_last;
}
