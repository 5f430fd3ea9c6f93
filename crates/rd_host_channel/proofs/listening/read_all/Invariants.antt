use Rattle.std.proofs.Common.{◌≡◌, None}
use Rattle.rd_host_channel.specs.Reading.{ReadsMore}
use Rattle.rd_host_channel.proofs.listening.read_all.Given as goal

abbrev pub invariant-loop : goal.invariant-loop
invariant-loop g l = record {
  turn : l.front.turn.now ≡ l.fn.front.turn.now;
  reads : ReadsMore l.channel None l.fn.front.pass l.front.pass l.fn.incoming l.incoming;
}
