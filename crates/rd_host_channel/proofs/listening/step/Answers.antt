use Rattle.std.proofs.Common.{◌∙◌, ◌≡◌, [], ap, sym, subst, Some, ℕ, List, Option}
use Rattle.std.specs.Prelude.{Err, IfNone}
use Rattle.rd_host_channel.specs.Reading.{ReadsMore}
use Rattle.rd_host_channel.specs.declared.ending.Ending.{Ending}
use Rattle.rd_host_channel.proofs.ReadingLemmas.{more_none, on_handled, on_wrong}
use Rattle.rd_host_channel.proofs.listening.step.Goals as goal

pub returns-in-Ok-None-clause-reads : goal.returns-in-Ok-None-clause-reads
returns-in-Ok-None-clause-reads g c =
    more_none c.args.channel c.read_on.result c.args.front.now.pass c.args.incoming.now c.read_on.new.incoming
    (on_handled c.read_on.result c.args.incoming.now c.message.new.self c.read_on.new.incoming
    (subst (λ (o : Option (List ℕ)). IfNone o (c.message.new.self ≡ record c.args.incoming.now { unhandled = [] })) c.in-Ok-None.field-0-is c.in-Ok-None.ensures.none) c.message.ensures.heard c.read_on.ensures)

pub returns-in-Err-clause-reads : goal.returns-in-Err-clause-reads
returns-in-Err-clause-reads g c =
    subst (λ (e : Ending). ReadsMore c.args.channel (Some e) c.args.front.now.pass c.args.front.now.pass c.args.incoming.now c.message.new.self) (sym c.ending_by.ensures)
    (more_none c.args.channel _ c.args.front.now.pass c.args.incoming.now c.message.new.self
    (on_wrong c.in-Err.no c.args.incoming.now c.message.new.self c.in-Err.ensures.err (λ bad e. (c.message.ensures.fault bad).1 (c.in-Err.is ∙ ap Err e)) (λ e. c.message.ensures.no_read.0 (c.in-Err.is ∙ ap Err e))
    (λ e. c.message.ensures.no_read.1 (c.in-Err.is ∙ ap Err e)) c.message.ensures.heard))
