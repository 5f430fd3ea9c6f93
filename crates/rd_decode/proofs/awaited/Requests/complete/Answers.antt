use Rattle.std.proofs.Common.{[], sym, ap, ◌∙◌}
use Rattle.rd_decode.specs.Kept.{awaited_of}
use Rattle.rd_decode.specs.Awaited.{with_awaited}
use Rattle.rd_decode.proofs.AwaitedLemmas.{last_change, popped_others}
use Rattle.rd_decode.proofs.awaited.Requests.complete.Goals as goal

-- src/awaited.rt:49:5
pub returns-clause-others : goal.returns-clause-others
returns-clause-others g c =
    let d = c.args.pair.device in
    let id = c.args.pair.completion in
    let before = awaited_of c.args.self.now in
    let put = last_change d id [] (c.pop_front-first.new.self).items before (awaited_of c.take_out-queue.new.self) (awaited_of c.put.new.self) c.take_out-queue.ensures.none c.in_ok-put.ensures in
    let same = popped_others c.take_out-queue.result c.pop_front-first.new.self (before d id) c.pop_front-first.ensures.rest c.take_out-queue.ensures.queue in
    put ∙ ap (λ kept. with_awaited d id kept before) (sym same)
