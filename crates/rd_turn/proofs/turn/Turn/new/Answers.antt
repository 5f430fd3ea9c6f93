use Rattle.std.proofs.Common.{◌≡◌, [], ◌∷◌, ◌++◌, Some, sym, ap, ◌∙◌, subst}
use Rattle.atomic_table.specs.Table.{opening}
use Rattle.rd_turn.specs.Rule.{Rule, first_view}
use Rattle.rd_turn.proofs.CloseLemmas.{opens}
use Rattle.rd_turn.proofs.turn.Turn.new.Goals as goal

pub new-requires : goal.new-requires
new-requires g c =
    let key = c.of-key.result.value in
    let items : c.push.new.self.items ≡ Some key ∷ [] = c.in_default.ensures.items ∙ (ap (λ l. l ++ Some c.args.object ∷ []) c.new-slots.ensures.items ∙ ap (λ o. Some o ∷ []) (sym c.of-key.ensures)) in
    subst (λ l. Rule g.O.Object.steps key (opening (0 ∷ 0 ∷ []) l (first_view key))) (sym items) (opens g.O.Object.steps key)
