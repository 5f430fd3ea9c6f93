use Rattle.std.proofs.Common.{◌∙◌, ◌+◌, arith, refl}
use Rattle.rd_workers.specs.Channels.{stands_at, told_as}
use Rattle.rd_workers.specs.Lines.{at_lines}
use Rattle.rd_workers.proofs.FaultLemmas.{counts_join, counts_none, tells_end}
use Rattle.rd_workers.proofs.ChannelLemmas.{gone_more, gone_none, gone_short, stands_first}
use Rattle.rd_workers.proofs.ReadingLemmas.{same_then}
use Rattle.rd_workers.proofs.channels.serve_channels.Goals as goal

pub returns-in-Err-clause-faults : goal.returns-in-Err-clause-faults
returns-in-Err-clause-faults g c =
    tells_end c.in-Err.ended (g.L.Linker.failures c.args.linker.now) (g.L.Linker.failures c.loop-channel.linker) (g.L.Linker.failures c.serve_channel.new.linker) (g.L.Linker.trouble c.args.linker.now) (g.L.Linker.trouble c.serve_channel.new.linker)
    c.loop-channel.invariant.connected c.in-Err.ensures.ended

pub returns-in-Err-clause-ends : goal.returns-in-Err-clause-ends
returns-in-Err-clause-ends g c = (
  c.serve_channel.new.due,
  gone_short c.loop-channel.channel (c.loop-channel.channel + 1) c.args.plan.channels c.in-Err.ended (at_lines c.args.plan.lines.now) _ _ _ refl c.loop-channel-test.true c.loop-channel.invariant.gone c.in-Err.ensures.ends,
)

pub loop-channel-init : goal.loop-channel-init
loop-channel-init g c = record {
  within = omega arith;
  same = record { front = refl; writer = refl; desks = refl; moment = refl };
  gone =
      let here = told_as (g.L.Linker.linked c.args.linker.now) (g.L.Linker.failures c.args.linker.now) in
      let lines = at_lines c.args.plan.lines.now in
      gone_none lines here (stands_at c.args.reader.now c.new-due.result here) (stands_first c.args.reader.now lines c.new-due.result here c.requires.own c.requires.written c.new-due.ensures);
  room = c.requires.room;
  connected = refl;
  counted = counts_none (g.L.Linker.trouble c.args.linker.now);
}

pub loop-channel-preserved : goal.loop-channel-preserved
loop-channel-preserved g c =
    let is = c.loop-channel-test.true in
    record {
      within = omega (arith, is);
      same = same_then c.args.reader.now c.loop-channel.reader c.serve_channel.new.reader c.loop-channel.invariant.same c.serve_channel.ensures.same;
      gone = gone_more c.loop-channel.channel (c.loop-channel.channel + 1) _ _ _ _ refl c.loop-channel.invariant.gone c.in-Ok.ensures.served;
      room = c.in-Ok.ensures.room;
      connected = c.in-Ok.ensures.connected ∙ c.loop-channel.invariant.connected;
      counted = counts_join c.loop-channel.troubled c.in-Ok.fault (g.L.Linker.trouble c.args.linker.now) (g.L.Linker.trouble c.loop-channel.linker) (g.L.Linker.trouble c.serve_channel.new.linker)
          c.loop-channel.invariant.counted c.in-Ok.ensures.counted;
    }
