use Rattle.std.proofs.Common.{◌≡◌, ◌<◌, ◌≤◌, ◌-◌, length}
use Rattle.rd_workers.specs.Channels.{stands_at, told_as}
use Rattle.rd_workers.specs.Faults.{Counts}
use Rattle.rd_workers.specs.Lines.{at_lines}
use Rattle.rd_workers.specs.Reading.{IsSame}
use Rattle.rd_workers.proofs.ChannelLemmas.{HasGone}
use Rattle.rd_workers.proofs.channels.serve_channels.Given as goal

abbrev pub invariant-loop-channel : goal.invariant-loop-channel
invariant-loop-channel g l = record {
  within : l.channel ≤ l.plan.channels;
  same : IsSame l.fn.reader l.reader;
  gone : HasGone l.channel (at_lines l.plan.lines.now) (told_as (g.L.Linker.linked l.fn.linker) (g.L.Linker.failures l.fn.linker)) (stands_at l.reader l.due (told_as (g.L.Linker.linked l.linker) (g.L.Linker.failures l.linker)));
  room : 0 < length l.buffer.items;
  connected : g.L.Linker.failures l.linker ≡ g.L.Linker.failures l.fn.linker;
  counted : Counts l.troubled (g.L.Linker.trouble l.fn.linker) (g.L.Linker.trouble l.linker);
}

abbrev pub decreases-loop-channel : goal.decreases-loop-channel
decreases-loop-channel g l = l.plan.channels - l.channel
