use Rattle.std.proofs.Common.{◌∙◌, ℕ, List, ap, refl, subst, sym}
use Rattle.rd_base.proofs.ResultLemmas.{on_err_of}
use Rattle.rd_base.specs.History.{History}
use Rattle.rd_world.specs.Session.{StoresSome}
use Rattle.rd_world.specs.World.{journals_in}
use Rattle.rd_world.proofs.world.World.finish.Goals as goal

pub returns-clause-stored : goal.returns-clause-stored
returns-clause-stored c = c.in_ok-documents.ensures.stored ∙ ap journals_in c.self.view_is

pub returns-in_err-lines-clause-some : goal.returns-in_err-lines-clause-some
returns-in_err-lines-clause-some c =
    on_err_of c.from_residual.result _ (subst (λ (books : List (ℕ × History)). StoresSome (journals_in c.args.self) books) (sym c.requires) (journals_in c.args.self, refl))
