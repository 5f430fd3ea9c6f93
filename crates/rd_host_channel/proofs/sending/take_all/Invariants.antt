use Rattle.std.proofs.Common.{◌≡◌, false}
use Rattle.rd_host_channel.specs.Sending.{TakesMore}
use Rattle.rd_host_channel.proofs.sending.take_all.Given as goal

abbrev pub invariant-loop : goal.invariant-loop
invariant-loop g l = record {
  turn : l.front.turn.now ≡ l.fn.front.turn.now;
  takes : TakesMore l.channel false l.fn.starved l.starved l.fn.front.pass l.front.pass l.fn.output l.output;
}
