use Rattle.rd_host_channel.proofs.PuttingLemmas.{flushed}
use Rattle.rd_host_channel.proofs.putting.flush_if.Goals as goal

pub returns-then-is_wanted : goal.returns-then-is_wanted
returns-then-is_wanted g c = flushed c.args.output.now c.flush.new.self c.flush.ensures.since c.flush.ensures.over
