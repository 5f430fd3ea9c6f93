use Rattle.std.proofs.Common.{◌∙◌, sym, arith}
use Rattle.std.specs.Prelude.{fold}
use Rattle.std.proofs.lemmas.List.{at_drop_all}
use Rattle.rd_workers.specs.Channels.{with_channels}
use Rattle.rd_workers.proofs.channels.channels_of.Goals as goal

pub returns : goal.returns
returns c = sym (c.loop-line.invariant ∙ at_drop_all (fold with_channels c.loop-line.channels) c.args.lines.now c.loop-line.line-index (omega arith))
