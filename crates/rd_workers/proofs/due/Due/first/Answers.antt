use Rattle.std.proofs.Common.{◌∙◌, ap, sym}
use Rattle.rd_script.specs.declared.line.NumberedLine.{NumberedLine}
use Rattle.rd_workers.specs.Lines.{at_line}
use Rattle.rd_workers.proofs.LineLemmas.{stays_first}
use Rattle.rd_workers.proofs.due.Due.first.Goals as goal

pub returns-in-Some-clause-left : goal.returns-in-Some-clause-left
returns-in-Some-clause-left c =
    stays_first c.args.channel c.loop-self.self-inside.lines.now c.line-item.result c.in-len1-up.len_at_least c.in-Some.line
    (ap (λ (l : NumberedLine). at_line l.line) (sym c.line-item.is) ∙ sym c.at_line.ensures ∙ c.in-Some.is) c.if-line-channel.true
    ∙ c.loop-self.invariant
