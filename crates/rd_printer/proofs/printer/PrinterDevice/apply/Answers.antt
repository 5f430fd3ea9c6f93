use Rattle.std.proofs.Common.{◌≡◌, ◌∙◌, ap, sym, subst, List, true, false}
use Rattle.rd_drive.specs.declared.plan.Job.{Job}
use Rattle.rd_drive.specs.declared.step.End.{End}
use Rattle.rd_printer.specs.Printer.{printer_step}
use Rattle.rd_printer.specs.Running.{ComesTo, printer_runs}
use Rattle.rd_printer.proofs.PrinterLemmas.{printer_applies}
use Rattle.rd_printer.proofs.printer.PrinterDevice.apply.Goals as goal

pub returns : goal.returns
returns c =
    let old = c.args.self.now in
    let moment = c.args._moment in
    let answer = c.run.result in
    let new = c.run.new.self in
    let ran : printer_runs old c.args.plan moment answer c.args._ends.now new =
    subst (λ (ends : List End). printer_runs old c.args.plan moment answer ends new) (sym c.requires)
    (subst (λ (job : Job). ComesTo (printer_step old job.key job.file job.op moment) old answer new) c.job.ensures (c.run.ensures.runs moment)) in
    printer_applies old c.args.plan moment answer c.args._ends.now new ran
    (λ starved. let both : true ≡ false = sym starved ∙ sym c.if-starved.ensures.starved in absurd (cc))
    (λ close. c.run.ensures.close (ap (λ (job : Job). job.op) c.job.ensures ∙ close))
