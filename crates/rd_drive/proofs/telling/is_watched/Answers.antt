use Rattle.std.proofs.Common.{◌∙◌, sym, ap, ◌||◌, ◌&&◌, Bool}
use Rattle.std.proofs.lemmas.Bool.{eq-eqb}
use Rattle.rd_dirinfo.specs.Paths.{is_prefix}
use Rattle.rd_tree.specs.Places.{own_path}
use Rattle.rd_drive.specs.Store.{named_path}
use Rattle.rd_drive.proofs.TellLemmas.{watched_seen}
use Rattle.rd_drive.proofs.telling.is_watched.Goals as goal

pub returns-then-parent-folder : goal.returns-then-parent-folder
returns-then-parent-folder c =
    let tree = c.args.tree.now in
    let f = c.args.folder.0 in
    let m = c.in-Some.parent.0 in
    sym (watched_seen tree c.requires.is_whole f m c.requires.folder c.in-Some.ensures.some.0 c.args.deep (named_path tree c.args.named.now) c.in-Some.field-0-1.now c.in-Some.ensures.some.1
    ∙ ap (λ (b : Bool). b || (c.args.deep && is_prefix tree.naming (own_path tree f) (own_path tree m))) (eq-eqb m f c.if-parent-folder.true) ∙ sym (eq-eqb m f c.if-parent-folder.true))
