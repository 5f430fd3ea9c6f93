use Rattle.std.proofs.Common.{◌∙◌, sym, ap, take}
use Rattle.std.specs.Result.{result_err}
use Rattle.rd_lawful.proofs.LawLemmas.{lawful_at_end, unlawful_at}
use Rattle.rd_lawful.proofs.whole.is_lawful.Goals as goal

pub returns-in_default : goal.returns-in_default
returns-in_default c =
    let verdict = c.in_ok-take.ensures.verdict (take c.loop-entry.entry-index c.args.entries.now) c.loop-entry.invariant in (
      (λ no. absurd (cc)),
      (λ law. absurd (unlawful_at c.args.entries.now c.loop-entry.entry-index _ c.in_default.field-0 c.loop-entry-test.true (sym verdict ∙ ap result_err c.in_default.is) law)),
    )

pub returns : goal.returns
returns c =
    lawful_at_end c.args.entries.now c.loop-entry.entry-index c.may_end.result c.loop-entry-test.false c.loop-entry.invariant.lawful
    (c.may_end.ensures (take c.loop-entry.entry-index c.args.entries.now) c.loop-entry.invariant)
