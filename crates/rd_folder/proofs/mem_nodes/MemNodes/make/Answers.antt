use Rattle.std.proofs.Common.{◌≡◌, ◌∙◌, sym, ap, subst, ◌∷◌, List, Some}
use Rattle.rd_dirinfo.specs.declared.naming.Naming.TheVariants.{Exact}
use Rattle.rd_dirinfo.specs.Naming.{Name}
use Rattle.rd_drive.specs.DriveState.{Node, add_node, new_node}
use Rattle.rd_folder.specs.Told.{IsFolderMap}
use Rattle.rd_folder.specs.FolderCalls.{may_make}
use Rattle.rd_folder.proofs.OthersLemmas.{made_comes, made_map}
use Rattle.rd_folder.proofs.mem_nodes.MemNodes.make.Goals as goal

-- what is put among the others
put_is : (c : goal.After-put) → c.put.new.nodes.items ≡ add_node Exact (new_node c.args.path.now c.args.contents c.args.attributes c.args.moment) c.self.inside.others.items
put_is c =
    c.put.ensures.items
    ∙ (λ i. add_node Exact ((c.new-node.ensures ∙ ap (λ (p : List Name). new_node p c.args.contents c.args.attributes c.args.moment) c.in-Ok.ensures) i) (c.try_reserve.ensures.items i))

pub invariant_of-self-2 : goal.invariant_of-self-2
invariant_of-self-2 c =
    subst (λ (l : List Node). IsFolderMap (c.self.inside.root ∷ l)) (sym (put_is c))
    (made_map c.self.inside.root c.self.inside.others.items c.self.invariant c.args.path.now c.args.contents c.args.attributes c.args.moment
    (ap (λ (l : List Node). may_make l c.args.path.now) c.self.view_is ∙ sym c.may_make.ensures ∙ c.if-not-may_make.false)
    c.requires)

pub returns : goal.returns
returns c =
    made_comes c.self.inside.root c.self.inside.others.items c.self.invariant c.args.path.now c.args.contents c.args.attributes c.args.moment
    (ap (λ (l : List Node). may_make l c.args.path.now) c.self.view_is ∙ sym c.may_make.ensures ∙ c.if-not-may_make.false)
    c.requires c.args.self.now c.self.view_is
    ∙ ap (λ (l : List Node). Some (tt, c.self.inside.root ∷ l)) (sym (put_is c))
