use Rattle.std.proofs.Common.{◌∷◌, List, ℕ, take, ap, ◌∙◌, sym}
use Rattle.std.specs.Prelude.{◌==◌}
use Rattle.std.specs.List.{slice_split}
use Rattle.rd_script.proofs.WordLemmas.{parts_cut, parts_one}
use Rattle.rd_script.proofs.words.cut.Goals as goal

pub returns-in-Some-clause-parts : goal.returns-in-Some-clause-parts
returns-in-Some-clause-parts c =
    parts_cut c.args.byte c.args.text.now c.in-Some.i (sym c.first.ensures ∙ c.in-Some.is)
    ∙ ap (λ (left : List ℕ). take c.in-Some.i c.args.text.now ∷ slice_split (λ b. b == c.args.byte) left) (sym c.after.ensures)

pub returns-in-None-clause-parts : goal.returns-in-None-clause-parts
returns-in-None-clause-parts c = parts_one c.args.byte c.args.text.now (sym c.first.ensures ∙ c.in-None.is)
