use Rattle.std.proofs.Common.{◌≡◌, ◌++◌}
use Rattle.std.specs.List.{flat_map}
use Rattle.rd_chunk.specs.Carrier.{carrier_frames}
use Rattle.rd_world.specs.Recording.{mark_before}
use Rattle.rd_world.proofs.recorder.put_entries.Given as goal

abbrev pub invariant-loop-k : goal.invariant-loop-k
invariant-loop-k l = l.gathered.items ≡ l.fn.gathered.items ++ flat_map (mark_before l.fn.mark) (carrier_frames l.message l.k)
