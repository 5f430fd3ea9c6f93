use Rattle.std.proofs.Common.{◌∙◌, sym, ap, subst, ◌∷◌, List, Some}
use Rattle.std.specs.Ordering.{is_eq}
use Rattle.rd_drive.specs.DriveState.{Node}
use Rattle.rd_folder.specs.Told.{IsFolderMap}
use Rattle.rd_folder.specs.FolderCalls.{may_move}
use Rattle.rd_folder.proofs.RenameLemmas.{none_moves, renamed_comes, renamed_map, stays_put}
use Rattle.rd_folder.proofs.mem_nodes.MemNodes.rename.Goals as goal

pub returns-in_default : goal.returns-in_default
returns-in_default c =
    none_moves c.self.inside.root c.self.inside.others.items c.self.invariant c.args.from.now c.args.to.now c.args.moment c.args.self.now c.self.view_is (sym c.place_of.ensures ∙ c.in_default.is)

pub returns-then-is_eq : goal.returns-then-is_eq
returns-then-is_eq c =
    stays_put c.self.inside.root c.self.inside.others.items c.self.invariant c.args.from.now c.args.to.now c.args.moment c.args.self.now c.self.view_is c.in-Some.at (sym c.place_of.ensures ∙ c.in-Some.is)
    (ap is_eq (sym c.compare.ensures) ∙ sym c.is_eq.ensures ∙ c.if-is_eq.true)

pub invariant_of-self : goal.invariant_of-self
invariant_of-self c = subst (λ (l : List Node). IsFolderMap (c.self.inside.root ∷ l)) (sym c.in_default-relocate.ensures.err) c.self.invariant

pub invariant_of-self-2 : goal.invariant_of-self-2
invariant_of-self-2 c =
    subst (λ (l : List Node). IsFolderMap (c.self.inside.root ∷ l)) (sym c.in-Ok.ensures.moved)
    (renamed_map c.self.inside.root c.self.inside.others.items c.self.invariant c.args.from.now c.args.to.now c.args.moment c.in-Some.at (sym c.place_of.ensures ∙ c.in-Some.is)
    (ap (λ (l : List Node). may_move l c.args.from.now c.args.to.now) c.self.view_is ∙ sym c.may_move.ensures ∙ c.if-not-may_move.false) c.requires)

pub returns : goal.returns
returns c =
    renamed_comes c.self.inside.root c.self.inside.others.items c.self.invariant c.args.from.now c.args.to.now c.args.moment c.in-Some.at (sym c.place_of.ensures ∙ c.in-Some.is)
    (ap (λ (l : List Node). may_move l c.args.from.now c.args.to.now) c.self.view_is ∙ sym c.may_move.ensures ∙ c.if-not-may_move.false) c.requires
    (ap is_eq (sym c.compare.ensures) ∙ sym c.is_eq.ensures ∙ c.if-is_eq.false) c.args.self.now c.self.view_is
    ∙ ap (λ (l : List Node). Some (tt, c.self.inside.root ∷ l)) (sym c.in-Ok.ensures.moved)
