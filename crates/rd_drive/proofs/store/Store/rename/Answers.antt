use Rattle.std.proofs.Common.{sym, ap, subst, inl, Err}
use Rattle.rd_drive.specs.Kept.{own_node}
use Rattle.rd_drive.specs.Outcome.{Outcome}
use Rattle.rd_drive.specs.Store.{drive_of, Serves}
use Rattle.rd_drive.proofs.PathedLemmas.{comes_no_path, comes_path}
use Rattle.rd_drive.proofs.store.Store.rename.Goals as goal

pub returns-in-Ok : goal.returns-in-Ok
returns-in-Ok c =
    let s = c.args.self.now in
    let comes = comes_path (drive_of s) c.args.moment c.args.count (own_node s c.args.node.0) c.args.replace c.args.units.now c.in-Ok.path c.in-Ok.ensures.split in
    subst (λ (o : Outcome). Serves s c.rename_path.new.self o c.rename_path.result) (sym comes) c.rename_path.ensures

pub returns-in-Err-Invalid : goal.returns-in-Err-Invalid
returns-in-Err-Invalid c =
    let s = c.args.self.now in
    let at = c.in-Err-Invalid.field-0-0 in
    (c.requires.sound, inl (comes_no_path (drive_of s) c.args.moment c.args.count (own_node s c.args.node.0) c.args.replace c.args.units.now at ((c.in-Err-Invalid.ensures.invalid at).0 (ap Err c.in-Err-Invalid.field-0-is))))
