use Rattle.std.proofs.Common.{◌∙◌, refl, sym, ap, inl}
use Rattle.rd_irp.specs.declared.completion.Body.TheVariants.{Created}
use Rattle.std.specs.List.{list_all}
use Rattle.std.proofs.lemmas.Bool.{and_parts}
use Rattle.rd_dirinfo.specs.Paths.{is_name, is_within_limits}
use Rattle.rd_drive.specs.declared.node.NodeState.{NodeState}
use Rattle.rd_drive.specs.declared.store.Done.TheVariants as done
use Rattle.rd_drive.specs.Create.{make_node}
use Rattle.rd_base.specs.Statuses.{no_memory}
use Rattle.rd_drive.specs.Store.{drive_of}
use Rattle.rd_drive.proofs.AlikeLemmas.{serves_alike}
use Rattle.rd_drive.proofs.CreateLemmas.{comes_pending, comes_unasked}
use Rattle.rd_drive.proofs.MakeLemmas.{back_empty, back_live, serves_crowded, serves_made, serves_taken_back, used_made}
use Rattle.rd_drive.proofs.store.Store.make_node.Goals as goal

pub returns-then-needs_node : goal.returns-then-needs_node
returns-then-needs_node c =
    (c.requires.sound, inl (comes_unasked c.args.self.now c.requires.sound c.args.asked c.args.moment c.args.path.now c.requires.free c.requires.absent c.args.folder.0 c.requires.folder (sym c.needs_node.ensures ∙ c.if-needs_node.true)))

pub returns-then-state : goal.returns-then-state
returns-then-state c = (
  c.requires.sound,
  inl (comes_pending c.args.self.now c.requires.sound c.args.asked c.args.moment c.args.path.now c.requires.free c.requires.absent c.args.folder.0 c.requires.folder (sym c.needs_node.ensures ∙ c.if-needs_node.false)
      (sym (ap (λ (st : NodeState). st.pending) c.state.ensures) ∙ c.if-state.true)),
)

pub returns-in-Err-Full : goal.returns-in-Err-Full
returns-in-Err-Full c =
    serves_crowded c.args.self.now c.requires.sound c.ordered.ensures c.args.asked c.args.moment c.args.path.now c.requires.free c.requires.absent c.args.folder.0 c.requires.folder (sym c.needs_node.ensures ∙ c.if-needs_node.false) (sym (ap (λ (st : NodeState). st.pending) c.state.ensures) ∙ c.if-state.false)
    c.add_node.new.self c.in-Err-Full.ensures.err c.in-Err-Full.field-0 c.in-Err-Full.field-0-is c.in-Err-Full.ensures.refused

pub returns-in-Err : goal.returns-in-Err
returns-in-Err c =
    let s = c.args.self.now in
    serves_alike s c.requires.sound c.add_node.new.self c.in-Err.ensures.err (make_node (drive_of s) c.args.asked c.args.moment c.args.path.now) no_memory refl

pub count_handle-requires-clause-few : goal.count_handle-requires-clause-few
count_handle-requires-clause-few c =
    used_made c.args.self.now c.requires.sound c.ordered.ensures c.args.asked c.args.moment c.args.path.now c.requires.free c.requires.absent c.args.folder.0 c.requires.folder (sym c.needs_node.ensures ∙ c.if-needs_node.false) (sym (ap (λ (st : NodeState). st.pending) c.state.ensures) ∙ c.if-state.false)
    (and_parts (list_all is_name c.args.path.now) (is_within_limits c.args.path.now) c.names.ensures.within).1 c.in-Ok.node c.in-Ok.ensures.other c.add_node.new.self c.wants_folder-is_folder.result c.wants_folder-is_folder.ensures c.new_attributes-attributes.result c.new_attributes-attributes.ensures c.in-Ok.ensures.added
    c.add_handle.new.self c.in-Ok-add_handle.ensures.added

pub take_back-requires-clause-live : goal.take_back-requires-clause-live
take_back-requires-clause-live c =
    back_live c.args.self.now c.requires.sound c.ordered.ensures c.args.asked c.args.moment c.args.path.now c.requires.free c.requires.absent c.args.folder.0 c.requires.folder (sym c.needs_node.ensures ∙ c.if-needs_node.false) (sym (ap (λ (st : NodeState). st.pending) c.state.ensures) ∙ c.if-state.false)
    (and_parts (list_all is_name c.args.path.now) (is_within_limits c.args.path.now) c.names.ensures.within).1 c.in-Ok.node c.in-Ok.ensures.other c.add_node.new.self c.wants_folder-is_folder.result c.wants_folder-is_folder.ensures c.new_attributes-attributes.result c.new_attributes-attributes.ensures c.in-Ok.ensures.added
    c.add_handle.new.self c.in-Err-add_handle.ensures.err

pub take_back-requires-clause-empty : goal.take_back-requires-clause-empty
take_back-requires-clause-empty c =
    back_empty c.args.self.now c.requires.sound c.ordered.ensures c.args.asked c.args.moment c.args.path.now c.requires.free c.requires.absent c.args.folder.0 c.requires.folder (sym c.needs_node.ensures ∙ c.if-needs_node.false) (sym (ap (λ (st : NodeState). st.pending) c.state.ensures) ∙ c.if-state.false)
    (and_parts (list_all is_name c.args.path.now) (is_within_limits c.args.path.now) c.names.ensures.within).1 c.in-Ok.node c.in-Ok.ensures.other c.add_node.new.self c.wants_folder-is_folder.result c.wants_folder-is_folder.ensures c.new_attributes-attributes.result c.new_attributes-attributes.ensures c.in-Ok.ensures.added
    c.add_handle.new.self c.in-Err-add_handle.ensures.err

pub returns-in-Ok-add_handle : goal.returns-in-Ok-add_handle
returns-in-Ok-add_handle c =
    serves_made c.args.self.now c.requires.sound c.ordered.ensures c.args.asked c.args.moment c.args.path.now c.requires.free c.requires.absent c.args.folder.0 c.requires.folder (sym c.needs_node.ensures ∙ c.if-needs_node.false) (sym (ap (λ (st : NodeState). st.pending) c.state.ensures) ∙ c.if-state.false)
    (and_parts (list_all is_name c.args.path.now) (is_within_limits c.args.path.now) c.names.ensures.within).1 c.in-Ok.node c.in-Ok.ensures.other c.add_node.new.self c.wants_folder-is_folder.result c.wants_folder-is_folder.ensures c.new_attributes-attributes.result c.new_attributes-attributes.ensures c.in-Ok.ensures.added
    c.add_handle.new.self c.in-Ok-add_handle.ensures.added c.count_handle.new.self c.count_handle.new.self.states c.count_handle.ensures.others c.count_handle.ensures.kept
    c.in-Ok-add_handle.file c.name_bit.result c.in-Ok-add_handle.ensures.file c.name_bit.ensures c.created.result
    (c.created.ensures ∙ ap (λ news. done.Replied (Created c.in-Ok-add_handle.file 0) news) c.changed-news.ensures)

pub returns-in-Err-add_handle : goal.returns-in-Err-add_handle
returns-in-Err-add_handle c =
    serves_taken_back c.args.self.now c.requires.sound c.ordered.ensures c.args.asked c.args.moment c.args.path.now c.requires.free c.requires.absent c.args.folder.0 c.requires.folder (sym c.needs_node.ensures ∙ c.if-needs_node.false) (sym (ap (λ (st : NodeState). st.pending) c.state.ensures) ∙ c.if-state.false)
    (and_parts (list_all is_name c.args.path.now) (is_within_limits c.args.path.now) c.names.ensures.within).1 c.in-Ok.node c.in-Ok.ensures.other c.add_node.new.self c.wants_folder-is_folder.result c.wants_folder-is_folder.ensures c.new_attributes-attributes.result c.new_attributes-attributes.ensures c.in-Ok.ensures.added
    c.add_handle.new.self c.in-Err-add_handle.ensures.err c.take_back.new.self c.take_back.ensures.others c.take_back.ensures.tree c.take_back.ensures.states c.in-Err-add_handle.no c.in-Err-add_handle.ensures.no_memory
