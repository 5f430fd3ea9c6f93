use Rattle.std.proofs.Common.{◌∙◌, sym, ap, subst, ◌∷◌, List, Some}
use Rattle.rd_folder.specs.Told.{IsFolderMap}
use Rattle.rd_drive.specs.DriveState.{Node}
use Rattle.rd_folder.proofs.OthersLemmas.{gone_comes, gone_map, none_goes}
use Rattle.rd_folder.proofs.mem_nodes.MemNodes.remove.Goals as goal

pub returns-in_default-clause-tries : goal.returns-in_default-clause-tries
returns-in_default-clause-tries c =
    none_goes c.self.inside.root c.self.inside.others.items c.self.invariant c.args.path.now c.args.self.now c.self.view_is (sym c.place_of.ensures ∙ c.in_default.is)

pub invariant_of-self : goal.invariant_of-self
invariant_of-self c =
    subst (λ (l : List Node). IsFolderMap (c.self.inside.root ∷ l)) (sym c.remove.ensures.items)
    (gone_map c.self.inside.root c.self.inside.others.items c.self.invariant c.args.path.now c.in-Some.at (sym c.place_of.ensures ∙ c.in-Some.is) (sym c.has_child.ensures ∙ c.if-has_child.false))

pub returns-clause-tries : goal.returns-clause-tries
returns-clause-tries c =
    gone_comes c.self.inside.root c.self.inside.others.items c.self.invariant c.args.path.now c.in-Some.at (sym c.place_of.ensures ∙ c.in-Some.is) (sym c.has_child.ensures ∙ c.if-has_child.false) c.args.self.now c.self.view_is
    ∙ ap (λ (l : List Node). Some (tt, c.self.inside.root ∷ l)) (sym c.remove.ensures.items)
