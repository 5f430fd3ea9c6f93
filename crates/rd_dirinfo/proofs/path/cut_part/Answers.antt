use Rattle.std.proofs.Common.{◌∷◌, ◌+◌, List, ℕ, length, take, ap, ◌∙◌, sym}
use Rattle.rd_dirinfo.specs.Paths.{rest_parts}
use Rattle.rd_dirinfo.proofs.PathLemmas.{rest_with, rest_without}
use Rattle.rd_dirinfo.proofs.path.cut_part.Goals as goal

pub returns-in-Some-clause-parts : goal.returns-in-Some-clause-parts
returns-in-Some-clause-parts c = λ at.
    let name = take c.in-Some.i c.args.rest.now in
    rest_with at c.args.rest.now c.in-Some.i (sym c.first_backslash.ensures ∙ c.in-Some.is)
    ∙ ap (λ (others : List ℕ). record { at = at; name = name } ∷ rest_parts (at + length name + 1) others) (sym c.after.ensures)

pub returns-in-None-clause-parts : goal.returns-in-None-clause-parts
returns-in-None-clause-parts c = λ at. rest_without at c.args.rest.now (sym c.first_backslash.ensures ∙ c.in-None.is) c.requires
