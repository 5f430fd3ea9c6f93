use Rattle.std.proofs.Common.{◌∙◌, sym, ap, subst, inl, ◌+◌, []}
use Rattle.rd_irp.specs.declared.completion.Body.TheVariants.{Created}
use Rattle.rd_tree.specs.Places.{own_path}
use Rattle.rd_drive.specs.declared.store.Store.{Store}
use Rattle.rd_drive.specs.declared.store.Done.TheVariants as done
use Rattle.rd_drive.specs.Create.{open_node, opened}
use Rattle.rd_drive.specs.Kept.{own_node, IsKept}
use Rattle.rd_drive.specs.Made.{with_asked_use}
use Rattle.rd_drive.specs.Outcome.{Outcome}
use Rattle.rd_drive.specs.Store.{drive_of, state_of, Serves}
use Rattle.rd_drive.proofs.AlikeLemmas.{serves_alike}
use Rattle.rd_drive.proofs.MadeLemmas.{open_found, open_refused, open_replaced, open_root, serves_opened, used_still}
use Rattle.rd_drive.proofs.store.Store.open_node.Goals as goal

pub returns-in-Some : goal.returns-in-Some
returns-in-Some c =
    let s = c.args.self.now in (
      c.requires.sound,
      inl (open_refused s c.requires.sound c.ordered.ensures c.args.node.0 c.requires.live c.args.asked c.args.moment
          c.is_folder-folder.result c.is_folder-folder.ensures.bytes c.state-state.result c.state-state.ensures c.in-Some.no c.in-Some.ensures),
    )

pub returns-then-replaces : goal.returns-then-replaces
returns-then-replaces c =
    let s = c.args.self.now in
    subst (λ (comes : Outcome). Serves s c.replace.new.self comes c.replace.result)
    (sym (open_replaced s c.requires.sound c.ordered.ensures c.args.node.0 c.requires.live c.args.asked c.args.moment
    c.is_folder-folder.result c.is_folder-folder.ensures.bytes c.state-state.result c.state-state.ensures c.in_default.ensures
    (sym c.replaces.ensures ∙ c.if-replaces.true)))
    c.replace.ensures

pub returns-in-Err : goal.returns-in-Err
returns-in-Err c =
    let s = c.args.self.now in
    serves_alike s c.requires.sound c.add_handle.new.self c.in-Err.ensures.err (open_node (drive_of s) c.args.asked c.args.moment (own_node s c.args.node.0)) c.in-Err.no c.in-Err.ensures.no_memory

pub count_handle-requires-clause-few : goal.count_handle-requires-clause-few
count_handle-requires-clause-few c =
    used_still c.args.self.now c.requires.sound c.requires.free c.args.node.0 c.requires.live c.add_handle.new.self.states (ap (λ (t : Store). (state_of t.states c.args.node.0).uses) c.in-Ok.ensures.added.others)

pub returns : goal.returns
returns c =
    let s = c.args.self.now in
    let n = c.args.node.0 in
    let add = c.add_handle.new.self in
    let t = c.count_handle.new.self in
    let adds = c.in-Ok.ensures.added in
    let folds = c.is_folder-folder.ensures.bytes in
    serves_opened s c.requires.sound c.args.node c.requires.live c.args.asked
    (open_root s c.requires.sound c.ordered.ensures n c.requires.live c.args.asked c.args.moment c.is_folder-folder.result folds c.state-state.result c.state-state.ensures c.in_default.ensures)
    c.requires.free add.handles adds.entries adds.looked t.states
    (subst (λ (u : Store). IsKept u.states t.states n (with_asked_use (state_of u.states n) c.args.asked)) adds.others c.count_handle.ensures.kept)
    s t (c.count_handle.ensures.others ∙ (λ i. record (adds.others i) { states = t.states; next = (adds.others i).next + 1 }))
    (open_node (drive_of s) c.args.asked c.args.moment (own_node s n)) c.in-Ok.file c.information.result c.in-Ok.ensures.file c.created.result
    (c.created.ensures ∙ ap (λ news. done.Replied (Created c.in-Ok.file c.information.result) news) c.none.ensures)
    (open_found s c.requires.sound c.ordered.ensures n c.requires.live c.args.asked c.args.moment c.is_folder-folder.result folds c.state-state.result c.state-state.ensures c.in_default.ensures (sym c.replaces.ensures ∙ c.if-replaces.false)
    ∙ ap (λ information. opened (drive_of s) c.args.asked (own_path s.tree n) information []) (sym c.information.ensures))
