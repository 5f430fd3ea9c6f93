use Rattle.std.proofs.Common.{◌∙◌, refl}
use Rattle.rd_contents.proofs.PageLemmas.{popped, given_back}
use Rattle.rd_contents.proofs.pages.give_back.Goals as goal

pub loop-pages-preserved-in-loop-pages : goal.loop-pages-preserved-in-loop-pages
loop-pages-preserved-in-loop-pages c k h =
    let from = c.loop-pages-test.ensures.some refl in
    popped c.loop-pages.pages c.pop_last.new.self c.pop_last.result c.args.first k from.0 c.pop_last.ensures.updates c.pop_last.ensures.greatest c.pop_last.ensures.unchanged from.1 from.2 h ∙ c.loop-pages.invariant k h

pub returns-clause-pages : goal.returns-clause-pages
returns-clause-pages c k = given_back c.args.pages.now.entries c.loop-pages.pages.entries c.args.first k c.loop-pages.invariant (c.loop-pages-test.ensures.none refl k)

pub returns-clause-within : goal.returns-clause-within
returns-clause-within c = c.loop-pages-test.ensures.none refl
