use Rattle.std.proofs.Common.{true}
use Rattle.rd_host_front.specs.declared.calls.HostFrontCall.TheVariants as call
use Rattle.rd_host_channel.proofs.CallLemmas.{made_one}
use Rattle.rd_host_channel.proofs.SendingLemmas.{takes_filled, takes_lost}
use Rattle.rd_host_channel.specs.Sending.{is_over}
use Rattle.rd_host_channel.proofs.sending.take.Goals as goal

pub returns-in-Messages-clause-takes : goal.returns-in-Messages-clause-takes
returns-in-Messages-clause-takes g c =
    takes_filled c.args.channel c.args.starved.now c.put_room-room.new.starved (is_over c.with_room.result) c.args.front.now.pass c.call.new.self.pass c.args.output.now c.put_room-room.new.output c.args.room c.in-Messages.room c.in-Messages.why
    c.call.result c.in-Messages.is c.with_room.ensures (made_one c.args.front.now.pass c.call.new.self.pass (call.Next c.args.channel c.args.room) c.call.result c.call.ensures.same c.call.ensures.own_calls) c.put_room-room.ensures

pub returns : goal.returns
returns g c = record {
  turn = c.call.ensures.turn;
  takes = takes_lost c.args.channel c.args.starved.now c.starve.new.starved true c.args.front.now.pass c.call.new.self.pass c.args.output.now c.starve.new.output c.args.room c.call.result (λ filled why is. c.in_default.not-Messages filled why is)
      c.starve.ensures.starved (made_one c.args.front.now.pass c.call.new.self.pass (call.Next c.args.channel c.args.room) c.call.result c.call.ensures.same c.call.ensures.own_calls) c.starve.ensures.put;
}
