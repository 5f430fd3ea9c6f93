use Rattle.std.proofs.Common.{◌≡◌, ◌∙◌, ap, subst}
use Rattle.rd_host_front.specs.Kept.{IsHandedBack}
use Rattle.rd_host_front.specs.State.{PassOfTable}
use Rattle.rd_host_player.proofs.PlayLemmas.{back_from_drop}
use Rattle.rd_host_player.proofs.handing.HostFrontHandsBack.try_to_end.Goals as goal

pub unreachable-requires : goal.unreachable-requires
unreachable-requires g c =
    let first = c.new-first.result in
    let zero = ap (λ (p : PassOfTable). p.number) c.new-first.ensures ∙ c.requires.first in
    let (old, new, back) = back_from_drop c.args.front.now.turn.now.opening c.args.front.now.pass c.call.new.self.pass first c.args.anew c.call.result zero c.call.ensures.called c.call.ensures.legal in
    c.in_default.not-First back.last back.what back.is

pub returns-clause-back : goal.returns-clause-back
returns-clause-back g c =
    let first = c.new-first.result in
    let zero = ap (λ (p : PassOfTable). p.number) c.new-first.ensures ∙ c.requires.first in
    let (old, new, back) = back_from_drop c.args.front.now.turn.now.opening c.args.front.now.pass c.call.new.self.pass first c.args.anew c.call.result zero c.call.ensures.called c.call.ensures.legal in
    let came : back.last ≡ c.into_pass.result = cc (back.is, c.in-First.is, c.into_pass.ensures.same) in
    let kept = subst (IsHandedBack c.new-first.result) came back.kept in
    subst (λ (p : PassOfTable). IsHandedBack p c.into_pass.result) c.new-first.ensures kept
