use Rattle.std.proofs.Common.{rules, ◌≡◌, [], ◌∷◌, ◌++◌, ap, ◌∙◌}
use Rattle.rd_decode.specs.Kept.{awaited_of}
use Rattle.rd_decode.specs.Awaited.{with_awaited}
use Rattle.rd_decode.proofs.AwaitedLemmas.{last_change}
use Rattle.rd_decode.proofs.awaited.Requests.add.Goals as goal

-- src/awaited.rt:39:5
pub returns : goal.returns
returns g c =
    let d = c.args.pair.device in
    let id = c.args.pair.completion in
    let before = awaited_of c.args.self.now in
    let put = last_change d id [] (c.push_back.new.self).items before (awaited_of c.take_out-queue.new.self) (awaited_of c.put.new.self) c.take_out-queue.ensures.none c.in_ok-put.ensures in
    let pushed : (c.push_back.new.self).items ≡ before d id ++ c.args.kept ∷ [] = search rules in
    put ∙ ap (λ kept. with_awaited d id kept before) pushed
