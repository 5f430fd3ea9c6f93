use Rattle.std.proofs.Common.{length}
use Rattle.rd_host_channel.proofs.PuttingLemmas.{HasPopped}
use Rattle.rd_host_channel.proofs.putting.put_all.Given as goal

abbrev pub invariant-loop-message : goal.invariant-loop-message
invariant-loop-message g l = HasPopped l.fn.room.messages l.room.messages l.fn.output l.output

abbrev pub decreases-loop-message : goal.decreases-loop-message
decreases-loop-message g l = length l.room.messages
