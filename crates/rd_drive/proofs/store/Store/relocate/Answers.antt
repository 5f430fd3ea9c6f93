use Rattle.std.proofs.Common.{◌∙◌, sym, subst, None, Err}
use Rattle.rd_base.specs.declared.status.Status.{Status}
use Rattle.rd_irp.specs.declared.completion.Body.TheVariants.{Count}
use Rattle.rd_tree.specs.Places.{Places, bytes_at, IsLive, IsWhole}
use Rattle.rd_drive.specs.declared.store.Done.TheVariants as done
use Rattle.rd_drive.specs.Renaming.{kind_bit, renaming}
use Rattle.rd_drive.specs.Store.{Serves}
use Rattle.rd_drive.proofs.RelocatedLemmas.{comes_free, free_lives, relocate_moved, relocate_refused}
use Rattle.rd_drive.proofs.store.Store.relocate.Goals as goal

pub renamed-requires-clause-live : goal.renamed-requires-clause-live
renamed-requires-clause-live c =
    let s = c.args.self.now in
    let n = c.args.node.0 in
    let moves = c.in-Ok.ensures.renames in
    subst (λ (t : Places). IsLive t n) (sym moves.1)
    (free_lives s c.requires.sound c.args.node c.requires.live c.args.path.now c.requires.free c.args.moment c.args.count c.args.replace c.ordered.ensures c.requires.other c.requires.path (subst IsWhole moves.1 c.in-Ok.ensures.is_whole) n c.requires.live)

pub returns-in-Ok : goal.returns-in-Ok
returns-in-Ok c =
    let s = c.args.self.now in
    let n = c.args.node.0 in
    let moves = c.in-Ok.ensures.renames in
    relocate_moved s c.requires.sound c.args.node c.requires.live c.args.path.now c.requires.free c.args.moment c.args.count c.args.replace c.ordered.ensures c.requires.other c.requires.path
    (subst IsWhole moves.1 c.in-Ok.ensures.is_whole) moves.0 c.parent-folder.result (record { path = c.parent-folder.ensures.above; live = c.parent-folder.ensures.live; folds = c.parent-folder.ensures.folder }) c.args.old c.requires.name
    c.renamed.new.self (c.renamed.ensures.others ∙ (λ i. record s { tree = moves.1 i; states = c.renamed.new.self.states })) c.renamed.ensures.kept c.renamed.result
    (c.renamed.ensures.told ∙ (λ i. done.Replied (Count c.args.count) (renaming None c.parent-folder.result c.args.old c.args.node (kind_bit (bytes_at (moves.1 i) n)))))

pub returns-in-Err : goal.returns-in-Err
returns-in-Err c =
    let s = c.args.self.now in
    let stays = c.in-Err.ensures.renames in
    subst (λ (status : Status). Serves s (record s { tree = c.rename.new.self }) (comes_free s c.requires.sound c.args.node c.requires.live c.args.path.now c.requires.free c.args.moment c.args.count c.args.replace) (Err status)) (sym c.move_status.ensures)
    (relocate_refused s c.requires.sound c.args.node c.requires.live c.args.path.now c.requires.free c.args.moment c.args.count c.args.replace c.in-Err.no stays.0
    (record s { tree = c.rename.new.self }) (λ i. record s { tree = stays.1 i }))
