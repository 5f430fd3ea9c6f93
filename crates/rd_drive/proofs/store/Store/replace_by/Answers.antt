use Rattle.std.proofs.Common.{◌∙◌, sym, ap, subst, Some, Err}
use Rattle.rd_base.specs.declared.status.Status.{Status}
use Rattle.rd_irp.specs.declared.completion.Body.TheVariants.{Count}
use Rattle.rd_tree.specs.Places.{Places, bytes_at, IsLive, IsWhole}
use Rattle.rd_drive.specs.declared.store.Done.TheVariants as done
use Rattle.rd_drive.specs.declared.store.Store.{Store}
use Rattle.rd_drive.specs.Renaming.{kind_bit, renaming}
use Rattle.rd_drive.specs.Store.{Serves}
use Rattle.rd_drive.proofs.ReplacedLemmas.{comes_over, replace_kept, replace_lives, replace_moved, replace_refused}
use Rattle.rd_drive.proofs.store.Store.replace_by.Goals as goal

pub renamed-requires-clause-live : goal.renamed-requires-clause-live
renamed-requires-clause-live c =
    let s = c.args.self.now in
    let n = c.args.node.0 in
    let moves = c.in-Ok-rename.ensures.renames in
    subst (λ (t : Places). IsLive t n) (sym (ap (λ (x : Store). x.tree) c.forget.ensures.others ∙ moves.1))
    (replace_lives s c.requires.sound c.ordered.ensures c.args.node c.requires.live c.args.path.now c.args.target c.requires.at c.requires.apart c.requires.there c.args.moment c.args.count c.args.replace
    c.may_replace-replaces.result c.may_replace-replaces.ensures moves.0 c.requires.other c.requires.below c.requires.path (subst IsWhole moves.1 c.in-Ok-rename.ensures.is_whole))

pub renamed-requires-clause-kept : goal.renamed-requires-clause-kept
renamed-requires-clause-kept c =
    let s = c.args.self.now in
    let n = c.args.node.0 in
    let moves = c.in-Ok-rename.ensures.renames in
    replace_kept s c.requires.sound c.ordered.ensures c.args.node c.requires.live c.args.path.now c.args.target c.requires.at c.requires.apart c.requires.there c.args.moment c.args.count c.args.replace
    c.may_replace-replaces.result c.may_replace-replaces.ensures moves.0 c.requires.other c.requires.below c.requires.path (subst IsWhole moves.1 c.in-Ok-rename.ensures.is_whole)
    c.forget.new.self.states c.forget.ensures.states

pub returns-in-Ok-rename : goal.returns-in-Ok-rename
returns-in-Ok-rename c =
    let s = c.args.self.now in
    let n = c.args.node.0 in
    let moves = c.in-Ok-rename.ensures.renames in
    let gone = c.in-Ok.ensures in
    let tree_is = ap (λ (x : Store). x.tree) c.forget.ensures.others ∙ moves.1 in
    replace_moved s c.requires.sound c.ordered.ensures c.args.node c.requires.live c.args.path.now c.args.target c.requires.at c.requires.apart c.requires.there c.args.moment c.args.count c.args.replace
    c.may_replace-replaces.result c.may_replace-replaces.ensures moves.0 c.requires.other c.requires.below c.requires.path (subst IsWhole moves.1 c.in-Ok-rename.ensures.is_whole)
    gone.0 gone.1 c.parent-folder.result (record { path = c.parent-folder.ensures.above; live = c.parent-folder.ensures.live; folds = c.parent-folder.ensures.folder }) c.args.old c.requires.name
    c.forget.new.self.states c.forget.ensures.states c.renamed.new.self
    (c.renamed.ensures.others ∙ (λ i. record (c.forget.ensures.others i) { states = c.renamed.new.self.states }) ∙ (λ i. record s { tree = moves.1 i; states = c.renamed.new.self.states })) c.renamed.ensures.kept c.renamed.result
    (c.renamed.ensures.told ∙ (λ i. done.Replied (Count c.args.count) (renaming (Some (gone.2 i)) c.parent-folder.result c.args.old c.args.node (kind_bit (bytes_at (tree_is i) n)))))

pub returns-in-Err : goal.returns-in-Err
returns-in-Err c =
    let s = c.args.self.now in
    let stays = c.in-Err.ensures.renames in
    subst (λ (status : Status). Serves s (record s { tree = c.rename.new.self })
    (comes_over s c.requires.sound c.ordered.ensures c.args.node c.requires.live c.args.path.now c.args.target c.requires.at c.requires.apart c.requires.there c.args.moment c.args.count c.args.replace) (Err status)) (sym c.move_status.ensures)
    (replace_refused s c.requires.sound c.ordered.ensures c.args.node c.requires.live c.args.path.now c.args.target c.requires.at c.requires.apart c.requires.there c.args.moment c.args.count c.args.replace
    c.may_replace-replaces.result c.may_replace-replaces.ensures c.in-Err.no stays.0 (record s { tree = c.rename.new.self }) (λ i. record s { tree = stays.1 i }))
