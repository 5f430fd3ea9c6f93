use Rattle.std.proofs.Common.{ap, ◌∙◌, Some}
use Rattle.rd_turn.proofs.HistoryLemmas.{Leads-keeps}
use Rattle.rd_turn_tests.proofs.tests.through_a_front.Goals as goal

pub returns : goal.returns
returns g c =
    let leads = c.close.ensures.leads in
    let opened = c.in-Ok.ensures.turn in
    let turn = Leads-keeps _ (λ x. x.turn.now) (λ a d r b s. s.0) _ _ _ leads ∙ (ap (λ x. x.turn.now) opened ∙ c.new.ensures.0) in
    let number = Leads-keeps _ (λ x. x.pass.number) (λ a d r b s. s.1.0) _ _ _ leads ∙ (ap (λ x. x.pass.number) opened ∙ ap (λ p. p.number) c.new.ensures.1) in
    let out = Leads-keeps _ (λ x. x.pass.out) (λ a d r b s. s.1.2) _ _ _ leads ∙ (ap (λ x. x.pass.out) opened ∙ ap (λ p. p.out) c.new.ensures.1) in
    let is = c.into_pass-2.ensures in (
      (is.1.0 ∙ ap (λ p. p.table) turn, is.1.1 ∙ ap (λ p. Some p.opening) turn),
      ap (λ p. p.number) is.0 ∙ number,
      ap (λ p. p.out) is.0 ∙ out,
    )
