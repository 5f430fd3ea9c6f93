use Rattle.std.proofs.Common.{◌≤◌, ◌-◌, length, drop}
use Rattle.std.specs.String.{string_bytes}
use Rattle.rd_decode.specs.Ends.{limit}
use Rattle.rd_decode.specs.Kept.{Printing, kept_channel}
use Rattle.rd_decode.specs.Streams.{stream}
use Rattle.rd_decode.proofs.printing.decode.Given as goal

-- the lines of the entries that were taken were written, or stand in the text
abbrev pub invariant-loop-count : goal.invariant-loop-count
invariant-loop-count g l =
    Printing (stream g.S.Source.left g.S.Source.faults l.fn.input) (stream g.S.Source.left g.S.Source.faults l.input)
    (stream g.K.Sink.held g.K.Sink.faults l.fn.output) (stream g.K.Sink.held g.K.Sink.faults l.output)
    l.read l.decoder.at (kept_channel l.decoder.channel) (string_bytes l.decoder.text) (drop l.taken l.held.items)
    × (l.taken ≤ length l.held.items) × (l.read ≤ limit)

-- how many bytes may still be read
abbrev pub decreases-loop-count : goal.decreases-loop-count
decreases-loop-count g l = limit - l.read
