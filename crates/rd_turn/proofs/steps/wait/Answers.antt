use Rattle.std.proofs.Common.{rules, ap, ◌∙◌}
use Rattle.rd_turn.proofs.RuleLemmas.{look_keeps}
use Rattle.rd_turn.proofs.steps.wait.Goals as goal

pub load-serving-requires : goal.load-serving-requires
load-serving-requires g c =
    let same = c.loop.invariant.1 in
    (c.loop.invariant.0 ∙ c.requires.table.0, search rules, look_keeps g.O.Object.steps _ _ _ _ _ c.requires.view.1.0 (ap (λ m. m.0.stage) same ∙ c.requires.view.1.1) (ap (λ m. m.1) same ∙ c.requires.view.0))
