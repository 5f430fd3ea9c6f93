use Rattle.std.proofs.Common.{◌≡◌, drop}
use Rattle.std.specs.Prelude.{fold}
use Rattle.rd_workers.specs.Channels.{with_channels}
use Rattle.rd_workers.proofs.channels.channels_of.Given as goal

-- what the lines so far say
abbrev pub invariant-loop-line : goal.invariant-loop-line
invariant-loop-line l = fold with_channels 1 l.lines ≡ fold with_channels l.channels (drop l.line-index l.lines)
