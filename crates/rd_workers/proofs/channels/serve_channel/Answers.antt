use Rattle.std.proofs.Common.{◌∙◌, ap, refl, sym, subst, inl, ℕ, Some, None, Option}
use Rattle.rd_carry.specs.Incoming.{IncomingState}
use Rattle.rd_carry.specs.Outgoing.{OutgoingState}
use Rattle.rd_carry.specs.declared.ended.Ended.{Ended}
use Rattle.rd_link.specs.Links.{more_faults}
use Rattle.rd_workers.specs.Channels.{ServesOne, stands_at, told_as}
use Rattle.rd_workers.specs.Faults.{faults_by}
use Rattle.rd_workers.specs.Reading.{EndsChannel}
use Rattle.rd_workers.proofs.ChannelLemmas.{incoming_is, leaves_lent, serves_it}
use Rattle.rd_workers.proofs.FaultLemmas.{counts_by}
use Rattle.rd_workers.proofs.channels.serve_channel.Goals as goal

pub returns-in_default-output-clause-ends : goal.returns-in_default-output-clause-ends
returns-in_default-output-clause-ends g c =
    leaves_lent c.args.channel c.read-ending.result None c.end-output.result.1 c.args.due.now c.read-ending.new.due c.args.reader.now c.begin.new.self c.read-ending.new.self c.end-output.new.self c.new-incoming.result c.read-ending.new.incoming
    c.new-2.result (g.L.In.Source.left c.in-Ok.input) (g.L.Out.Sink.held c.in-Ok.output)
    (record {
      begins = c.in_default-begin.ensures.begun;
      hears = c.read-ending.ensures;
      ends = subst (λ (x : Option OutgoingState). EndsChannel x c.end-output.result.1 c.read-ending.new.self c.end-output.new.self) c.in_default-output.is c.end-output.ensures;
      is = incoming_is c.new-incoming.result _ _ _ c.new-incoming.ensures.value c.in-Ok.ensures.faultless.0;
      heard = c.new-incoming.ensures.heard;
      began = c.new-2.ensures.since;
    })
    (g.L.Linker.linked c.args.linker.now) (g.L.Linker.linked c.connect.new.self) (g.L.Linker.failures c.args.linker.now) (g.L.Linker.failures c.connect.new.self) refl c.in-Ok.ensures.lends c.in-Ok.ensures.failures

pub returns-in-Some-ended_by-clause-ends : goal.returns-in-Some-ended_by-clause-ends
returns-in-Some-ended_by-clause-ends g c =
    inl (subst (λ (b : Option Ended). ServesOne c.args.channel b (stands_at c.args.reader.now c.args.due.now (told_as (g.L.Linker.linked c.args.linker.now) (g.L.Linker.failures c.args.linker.now)))
    (stands_at c.end-output.new.self c.read-ending.new.due (told_as (g.L.Linker.linked c.settle-2.new.self) (g.L.Linker.failures c.settle-2.new.self)))) (sym c.ended_by.ensures.by ∙ c.in-Some-ended_by.is)
    (serves_it c.args.channel c.read-ending.result (Some c.in-Some.output) c.end-output.result.1 c.args.due.now c.read-ending.new.due c.args.reader.now c.begin.new.self c.read-ending.new.self c.end-output.new.self c.new-incoming.result c.read-ending.new.incoming
    c.new-2.result (g.L.In.Source.left c.in-Ok.input) (g.L.Out.Sink.held c.in-Ok.output)
    (record {
      begins = c.in_default-begin.ensures.begun;
      hears = c.read-ending.ensures;
      ends = subst (λ (x : Option OutgoingState). EndsChannel x c.end-output.result.1 c.read-ending.new.self c.end-output.new.self) c.in-Some.is c.end-output.ensures;
      is = incoming_is c.new-incoming.result _ _ _ c.new-incoming.ensures.value c.in-Ok.ensures.faultless.0;
      heard = c.new-incoming.ensures.heard;
      began = c.new-2.ensures.since;
    })
    c.in-Some.output (g.L.Linker.linked c.args.linker.now) (g.L.Linker.linked c.connect.new.self) (g.L.Linker.linked c.settle-2.new.self) (g.L.Linker.failures c.args.linker.now) (g.L.Linker.failures c.connect.new.self)
    (g.L.Linker.failures c.settle-2.new.self) refl c.in-Ok.ensures.lends _ _ _ _ c.settle-2.ensures.settles c.into_parts-input.ensures.left c.into_parts-output-2.ensures.held c.into_parts-input.ensures.faults
    c.into_parts-output-2.ensures.faults c.in-Ok.ensures.failures c.settle-2.ensures.failures))

pub returns-in-None-clause-served : goal.returns-in-None-clause-served
returns-in-None-clause-served g c =
    subst (λ (b : Option Ended). ServesOne c.args.channel b (stands_at c.args.reader.now c.args.due.now (told_as (g.L.Linker.linked c.args.linker.now) (g.L.Linker.failures c.args.linker.now)))
    (stands_at c.end-output.new.self c.read-ending.new.due (told_as (g.L.Linker.linked c.settle-2.new.self) (g.L.Linker.failures c.settle-2.new.self)))) (sym c.ended_by.ensures.by ∙ c.in-None.is)
    (serves_it c.args.channel c.read-ending.result (Some c.in-Some.output) c.end-output.result.1 c.args.due.now c.read-ending.new.due c.args.reader.now c.begin.new.self c.read-ending.new.self c.end-output.new.self c.new-incoming.result c.read-ending.new.incoming
    c.new-2.result (g.L.In.Source.left c.in-Ok.input) (g.L.Out.Sink.held c.in-Ok.output)
    (record {
      begins = c.in_default-begin.ensures.begun;
      hears = c.read-ending.ensures;
      ends = subst (λ (x : Option OutgoingState). EndsChannel x c.end-output.result.1 c.read-ending.new.self c.end-output.new.self) c.in-Some.is c.end-output.ensures;
      is = incoming_is c.new-incoming.result _ _ _ c.new-incoming.ensures.value c.in-Ok.ensures.faultless.0;
      heard = c.new-incoming.ensures.heard;
      began = c.new-2.ensures.since;
    })
    c.in-Some.output (g.L.Linker.linked c.args.linker.now) (g.L.Linker.linked c.connect.new.self) (g.L.Linker.linked c.settle-2.new.self) (g.L.Linker.failures c.args.linker.now) (g.L.Linker.failures c.connect.new.self)
    (g.L.Linker.failures c.settle-2.new.self) refl c.in-Ok.ensures.lends _ _ _ _ c.settle-2.ensures.settles c.into_parts-input.ensures.left c.into_parts-output-2.ensures.held c.into_parts-input.ensures.faults
    c.into_parts-output-2.ensures.faults c.in-Ok.ensures.failures c.settle-2.ensures.failures)

pub returns-in-None-clause-counted : goal.returns-in-None-clause-counted
returns-in-None-clause-counted g c =
    counts_by c.read-ending.result c.failed-failed.result c.is_troubled.result _ _ _ _ c.failed-failed.ensures
    (c.into_parts-input.ensures.faults ∙ c.read-ending.ensures.counted ∙ ap (λ (s : IncomingState). faults_by (Some c.read-ending.result) s.faults) (incoming_is c.new-incoming.result _ _ _ c.new-incoming.ensures.value c.in-Ok.ensures.faultless.0))
    (c.settle-2.ensures.trouble ∙ ap (λ (x : ℕ). more_faults x (more_faults (g.L.In.Source.faults c.into_parts-input.result.0) (g.L.Out.Sink.faults c.into_parts-output-2.result.0))) c.connect.ensures.trouble
    ∙ ap (λ (m : ℕ). more_faults (g.L.Linker.trouble c.args.linker.now) (more_faults (g.L.In.Source.faults c.into_parts-input.result.0) m)) c.into_parts-output-2.ensures.faults) c.is_troubled.ensures
