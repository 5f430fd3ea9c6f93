use Rattle.std.proofs.Common.{◌∙◌, sym, subst, None}
use Rattle.rd_irp.specs.declared.completion.Body.TheVariants.{Count}
use Rattle.rd_tree.specs.Places.{Places, bytes_at, IsLive, IsWhole}
use Rattle.rd_drive.specs.declared.store.Done.TheVariants as done
use Rattle.rd_drive.specs.Renaming.{kind_bit, renaming}
use Rattle.rd_drive.proofs.RespelledLemmas.{own_lives, respell_moved, respell_quiet, respell_refused}
use Rattle.rd_drive.proofs.store.Store.respell.Goals as goal

pub renamed-requires-clause-live : goal.renamed-requires-clause-live
renamed-requires-clause-live c =
    let s = c.args.self.now in
    let n = c.args.node.0 in
    let moves = c.in-Ok.ensures.renames in
    subst (λ (t : Places). IsLive t n) (sym moves.1)
    (own_lives s c.requires.sound c.args.node c.requires.live c.args.path.now c.requires.own c.args.moment c.args.count c.ordered.ensures c.requires.other c.requires.path (subst IsWhole moves.1 c.in-Ok.ensures.is_whole) n c.requires.live)

pub returns-in-Ok : goal.returns-in-Ok
returns-in-Ok c =
    let s = c.args.self.now in
    let n = c.args.node.0 in
    let moves = c.in-Ok.ensures.renames in
    respell_moved s c.requires.sound c.args.node c.requires.live c.args.path.now c.requires.own c.args.moment c.args.count c.ordered.ensures c.requires.other c.requires.path
    (subst IsWhole moves.1 c.in-Ok.ensures.is_whole) c.parent-folder.result (record { path = c.parent-folder.ensures.above; live = c.parent-folder.ensures.live; folds = c.parent-folder.ensures.folder }) c.args.old c.requires.name (sym c.ends_in.ensures ∙ c.if-ends_in.false)
    c.renamed.new.self (c.renamed.ensures.others ∙ (λ i. record s { tree = moves.1 i; states = c.renamed.new.self.states })) c.renamed.ensures.kept c.renamed.result
    (c.renamed.ensures.told ∙ (λ i. done.Replied (Count c.args.count) (renaming None c.parent-folder.result c.args.old c.args.node (kind_bit (bytes_at (moves.1 i) n)))))

pub returns-then-ends_in : goal.returns-then-ends_in
returns-then-ends_in c =
    let s = c.args.self.now in
    respell_quiet s c.requires.sound c.args.node c.requires.live c.args.path.now c.requires.own c.args.moment c.args.count c.args.old c.requires.name (sym c.ends_in.ensures ∙ c.if-ends_in.true) _ c.none.ensures

pub returns-in-Err : goal.returns-in-Err
returns-in-Err c =
    let s = c.args.self.now in
    respell_refused s c.requires.sound c.args.node c.requires.live c.args.path.now c.requires.own c.args.moment c.args.count (record s { tree = c.rename.new.self }) (λ i. record s { tree = c.in-Err.ensures.renames.1 i })
