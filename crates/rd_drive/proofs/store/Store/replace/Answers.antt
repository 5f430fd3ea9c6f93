use Rattle.std.proofs.Common.{◌∙◌, refl, sym, ap}
use Rattle.rd_irp.specs.declared.completion.Body.TheVariants.{Created}
use Rattle.rd_tree.proofs.MadeLemmas.{err_of, ok_of}
use Rattle.rd_drive.specs.declared.store.Store.{Store}
use Rattle.rd_drive.specs.declared.store.Done.TheVariants as done
use Rattle.rd_drive.specs.Kept.{own_node}
use Rattle.rd_drive.specs.Made.{replace}
use Rattle.rd_base.specs.Statuses.{no_memory}
use Rattle.rd_drive.specs.Store.{drive_of}
use Rattle.rd_drive.proofs.AlikeLemmas.{serves_alike}
use Rattle.rd_drive.proofs.MadeLemmas.{replace_undone, serves_replaced, used_renewed}
use Rattle.rd_drive.proofs.store.Store.replace.Goals as goal

pub returns-in-Err : goal.returns-in-Err
returns-in-Err c =
    let s = c.args.self.now in
    serves_alike s c.requires.sound c.add_handle.new.self c.in-Err.ensures.err (replace (drive_of s) c.args.asked c.args.moment (own_node s c.args.node.0)) c.in-Err.no c.in-Err.ensures.no_memory

pub returns-then-is_err : goal.returns-then-is_err
returns-then-is_err c =
    let s = c.args.self.now in
    let add = c.add_handle.new.self in
    let t : Store = record add { tree = c.resize.new.self; handles = c.remove.new.self } in
    serves_alike s c.requires.sound t
    (replace_undone s c.requires.sound c.args.node c.requires.file c.args.asked c.args.moment c.requires.free add c.in-Ok.ensures.added t c.in-Ok.file c.in-Ok.ensures.file c.remove.ensures.entries
    c.resize.new.self (err_of c.resize.result (sym c.is_err.ensures.value ∙ c.if-is_err.true) c.resize.ensures.err) refl)
    (replace (drive_of s) c.args.asked c.args.moment (own_node s c.args.node.0)) no_memory refl

pub count_handle-requires-clause-few : goal.count_handle-requires-clause-few
count_handle-requires-clause-few c =
    used_renewed c.args.self.now c.requires.sound c.args.node c.requires.file c.args.asked c.args.moment c.requires.free c.add_handle.new.self c.in-Ok.ensures.added
    c.resize.new.self (ok_of c.resize.result (sym c.is_err.ensures.value ∙ c.if-is_err.false) c.resize.ensures.resized) (ok_of c.resize.result (sym c.is_err.ensures.value ∙ c.if-is_err.false) c.resize.ensures.is_whole) c.renew.new.self.states c.renew.ensures.kept

pub returns : goal.returns
returns c =
    serves_replaced c.args.self.now c.requires.sound c.args.node c.requires.file c.args.asked c.args.moment c.requires.free c.add_handle.new.self c.in-Ok.ensures.added
    c.resize.new.self (ok_of c.resize.result (sym c.is_err.ensures.value ∙ c.if-is_err.false) c.resize.ensures.resized) (ok_of c.resize.result (sym c.is_err.ensures.value ∙ c.if-is_err.false) c.resize.ensures.is_whole) c.renew.new.self.states c.renew.ensures.kept
    c.renew.new.self c.count_handle.new.self c.count_handle.new.self.states c.renew.ensures.others c.count_handle.ensures.others c.count_handle.ensures.kept
    c.in-Ok.file c.information.result c.in-Ok.ensures.file c.information.ensures c.created.result
    (c.created.ensures ∙ ap (λ news. done.Replied (Created c.in-Ok.file c.information.result) news) c.changed.ensures)
