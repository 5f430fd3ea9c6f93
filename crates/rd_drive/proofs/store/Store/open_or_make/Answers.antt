use Rattle.std.proofs.Common.{◌∙◌, ap, sym, subst, inl}
use Rattle.std.specs.Option.{option_map}
use Rattle.rd_tree.specs.declared.node.NodeId.{NodeId}
use Rattle.rd_drive.specs.Outcome.{Outcome}
use Rattle.rd_drive.specs.Store.{Serves}
use Rattle.rd_drive.proofs.CreateLemmas.{comes_found, comes_full, comes_lost, comes_new}
use Rattle.rd_drive.proofs.store.Store.open_or_make.Goals as goal

pub returns-then-is_full : goal.returns-then-is_full
returns-then-is_full c =
    (c.requires, inl (comes_full c.args.self.now c.requires c.args.asked c.args.moment c.args.path.now (sym c.is_full.ensures ∙ c.if-is_full.true)))

pub returns-in-Some : goal.returns-in-Some
returns-in-Some c =
    let s = c.args.self.now in
    subst (λ (comes : Outcome). Serves s c.open_node.new.self comes c.open_node.result)
    (sym (comes_found s c.requires c.args.asked c.args.moment c.args.path.now (sym c.is_full.ensures ∙ c.if-is_full.false) c.in-Some.node.0 (sym c.look-found.ensures.node ∙ ap (option_map (λ (node : NodeId). node.0)) c.in-Some.is)))
    c.open_node.ensures

pub returns-in-Some-folder : goal.returns-in-Some-folder
returns-in-Some-folder c =
    let s = c.args.self.now in
    subst (λ (comes : Outcome). Serves s c.make_node.new.self comes c.make_node.result)
    (sym (comes_new s c.requires c.args.asked c.args.moment c.args.path.now (sym c.is_full.ensures ∙ c.if-is_full.false) (sym c.look-found.ensures.node ∙ ap (option_map (λ (node : NodeId). node.0)) c.in_default.is) c.in-Some-folder.folder.0 (sym c.look-found.ensures.folder ∙ ap (option_map (λ (node : NodeId). node.0)) c.in-Some-folder.is)))
    c.make_node.ensures

pub returns-in-None : goal.returns-in-None
returns-in-None c =
    (c.requires, inl (comes_lost c.args.self.now c.requires c.args.asked c.args.moment c.args.path.now (sym c.is_full.ensures ∙ c.if-is_full.false) (sym c.look-found.ensures.node ∙ ap (option_map (λ (node : NodeId). node.0)) c.in_default.is) (sym c.look-found.ensures.folder ∙ ap (option_map (λ (node : NodeId). node.0)) c.in-None.is)))
