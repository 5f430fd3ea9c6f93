use Rattle.std.proofs.Common.{◌≡◌}
use Rattle.rd_host_channel.proofs.GivenLemmas.{IsWaiting}
use Rattle.rd_host_channel.proofs.listening.hear.Given as goal

abbrev pub invariant-loop : goal.invariant-loop
invariant-loop g l = record {
  turn : l.front.turn.now ≡ l.fn.front.turn.now;
  waits : IsWaiting l.channel l.fn.message l.message l.fn.front.pass l.front.pass;
}
