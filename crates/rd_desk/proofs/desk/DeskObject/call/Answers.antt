use Rattle.std.proofs.Common.{◌≡◌, ◌∙◌, ap, sym}
use Rattle.rd_station.specs.Station.{announces, collects, drops, ends, removes}
use Rattle.rd_desk.specs.declared.calls.DeskCall.TheVariants as call
use Rattle.rd_desk.specs.declared.calls.DeskReply.TheVariants as reply
use Rattle.rd_desk.proofs.StepLemmas.{one_step, same_step}
use Rattle.rd_desk.proofs.desk.DeskObject.call.Goals as goal
use Rattle.rd_desk.proofs.desk.DeskObject.call.Goals.{in-Announce, in-Put, in-Work, in-Collect, in-Remove, in-DropChannel, in-End}

pub returns : goal.returns
returns g c =
    let was : c.args.self.now ≡ c.deref_mut-station.result.now = sym (c.deref_mut-station.ensures.value ∙ c.self.view_is) in
    elim c.match-call.branch [
      | in-Announce w ↦ same_step g.D.Device.runs g.D.Device.parked g.D.Device.cuts c.deref_mut-station.result.now c.args.self.now w.announce.new.self c.match-call.self-inside.station.value call.Announce c.args.call (reply.Announced w.announce.result) c.match-call.result
          was w.in-Announce.is w.result-is (ap (λ i. i.station.value) w.self-inside-is) (one_step g.D.Device.runs g.D.Device.parked g.D.Device.cuts c.deref_mut-station.result.now w.announce.new.self (announces w.announce.result) w.announce.ensures.step, tt)
      | in-Put w ↦ same_step g.D.Device.runs g.D.Device.parked g.D.Device.cuts c.deref_mut-station.result.now c.args.self.now w.put.new.station c.match-call.self-inside.station.value (call.Put w.in-Put.job) c.args.call w.put.result c.match-call.result
          was w.in-Put.is w.result-is (ap (λ i. i.station.value) w.self-inside-is) w.put.ensures
      | in-Work w ↦ same_step g.D.Device.runs g.D.Device.parked g.D.Device.cuts c.deref_mut-station.result.now c.args.self.now w.work.new.station c.match-call.self-inside.station.value (call.Work w.in-Work.batch) c.args.call (reply.Worked w.work.result) c.match-call.result
          was w.in-Work.is w.result-is (ap (λ i. i.station.value) w.self-inside-is) w.work.ensures
      | in-Collect w ↦ same_step g.D.Device.runs g.D.Device.parked g.D.Device.cuts c.deref_mut-station.result.now c.args.self.now w.collect.new.self c.match-call.self-inside.station.value call.Collect c.args.call (reply.Collected w.collect.result) c.match-call.result
          was w.in-Collect.is w.result-is (ap (λ i. i.station.value) w.self-inside-is) (one_step g.D.Device.runs g.D.Device.parked g.D.Device.cuts c.deref_mut-station.result.now w.collect.new.self (collects w.collect.result) w.collect.ensures.step, tt)
      | in-Remove w ↦ same_step g.D.Device.runs g.D.Device.parked g.D.Device.cuts c.deref_mut-station.result.now c.args.self.now w.remove.new.self c.match-call.self-inside.station.value call.Remove c.args.call (reply.Removed w.remove.result) c.match-call.result
          was w.in-Remove.is w.result-is (ap (λ i. i.station.value) w.self-inside-is) (one_step g.D.Device.runs g.D.Device.parked g.D.Device.cuts c.deref_mut-station.result.now w.remove.new.self (removes w.remove.result) w.remove.ensures.step, tt)
      | in-DropChannel w ↦ same_step g.D.Device.runs g.D.Device.parked g.D.Device.cuts c.deref_mut-station.result.now c.args.self.now w.drop_channel.new.self c.match-call.self-inside.station.value call.DropChannel c.args.call reply.Dropped c.match-call.result
          was w.in-DropChannel.is w.result-is (ap (λ i. i.station.value) w.self-inside-is) (one_step g.D.Device.runs g.D.Device.parked g.D.Device.cuts c.deref_mut-station.result.now w.drop_channel.new.self drops w.drop_channel.ensures.step, tt)
      | in-End w ↦ same_step g.D.Device.runs g.D.Device.parked g.D.Device.cuts c.deref_mut-station.result.now c.args.self.now w.end.new.self c.match-call.self-inside.station.value call.End c.args.call reply.Ended c.match-call.result
          was w.in-End.is w.result-is (ap (λ i. i.station.value) w.self-inside-is) (one_step g.D.Device.runs g.D.Device.parked g.D.Device.cuts c.deref_mut-station.result.now w.end.new.self ends w.end.ensures.step, tt)
    ]
