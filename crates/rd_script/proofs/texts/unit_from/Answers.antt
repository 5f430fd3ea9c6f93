use Rattle.std.proofs.Common.{◌∙◌, sym, ap, ℕ, List, ◌∷◌}
use Rattle.std.specs.Option.{option_map}
use Rattle.rd_script.specs.Texts.{units_after}
use Rattle.rd_script.proofs.TextLemmas.{plain_unit}
use Rattle.rd_script.proofs.texts.unit_from.Goals as goal

pub returns-clause-units : goal.returns-clause-units
returns-clause-units c =
    plain_unit c.args.byte c.args.rest.now c.if-byte-eq37.false (sym c.is_visible.ensures ∙ c.if-not-is_visible.false)
    ∙ ap (λ (u : ℕ). option_map (λ (us : List ℕ). u ∷ us) (units_after 0 c.args.rest.now)) (sym c.from.ensures)
