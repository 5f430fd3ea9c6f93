use Rattle.std.proofs.Common.{◌∷◌, List, ℕ, take, ap, ◌∙◌, sym}
use Rattle.std.specs.Prelude.{◌==◌}
use Rattle.std.specs.List.{slice_split}
use Rattle.rd_script.proofs.WordLemmas.{parts_before_first, parts_without}
use Rattle.rd_script.proofs.words.cut_line.Goals as goal

pub returns-in-Some-clause-parts : goal.returns-in-Some-clause-parts
returns-in-Some-clause-parts c =
    parts_before_first 0x0a c.args.text.now c.in-Some.i c.in-Some.ensures
    ∙ ap (λ (left : List ℕ). take c.in-Some.i c.args.text.now ∷ slice_split (λ b. b == 0x0a) left) (sym c.after.ensures)

pub returns-in-None-clause-parts : goal.returns-in-None-clause-parts
returns-in-None-clause-parts c = parts_without 0x0a c.args.text.now c.in-None.ensures
