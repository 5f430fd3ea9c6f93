use Rattle.std.proofs.Common.{refl, sym, ap, subst, Option, Ok, Result}
use Rattle.rd_dirinfo.specs.Paths.{Names}
use Rattle.rd_folder.specs.declared.folder.FolderNo.{FolderNo}
use Rattle.rd_folder.specs.FolderCalls.{folder_remove}
use Rattle.rd_folder.specs.FolderLaws.{DoesCall}
use Rattle.rd_irp.specs.declared.op.Op.TheVariants.{Close}
use Rattle.rd_folder_drive.specs.declared.open.Open.{Open}
use Rattle.rd_folder_drive.specs.declared.table.Done.{Done}
use Rattle.rd_folder_drive.specs.Closing.{IsFed, IsOff}
use Rattle.rd_folder_drive.specs.Served.{FitsBody, IfReplied, Seen, ServesClose, seen}
use Rattle.rd_folder_drive.proofs.CloseLemmas.{fed_kept, fits_kept, none_removed, opened_by, serves_gone, serves_left, serves_not_gone, serves_unopened, serves_used}
use Rattle.rd_folder_drive.proofs.OffLemmas.{waiting_stays}
use Rattle.rd_folder_drive.proofs.table.Table.close.Goals as goal

pub returns-in_default-clause-serves : goal.returns-in_default-clause-serves
returns-in_default-clause-serves g c = serves_unopened c.args.self.now c.requires.sound c.args.file (sym c.in_default.ensures) (seen g.F.Folder.nodes g.F.Folder.faults c.args.folder.now) c.requires.over

pub returns-in_default-clause-handles : goal.returns-in_default-clause-handles
returns-in_default-clause-handles g c = sym (none_removed _ (c.args.self.now).handles.entries (sym c.in_default.ensures))

pub returns-in_default-take_off-clause-serves : goal.returns-in_default-take_off-clause-serves
returns-in_default-take_off-clause-serves g c =
    let t = c.args.self.now in
    let h = (c.in-Some.handle).now in
    let o = opened_by t c.requires.sound c.args.file h (sym c.in-Some.ensures) in
    serves_used t c.requires.sound c.args.file h o.0 (sym c.in-Some.ensures) o.1 c.take_off.new.self (seen g.F.Folder.nodes g.F.Folder.faults c.args.folder.now) c.requires.over
    (subst (λ (b : Option Open). IsOff t c.args.file h o.0 b c.take_off.new.self) c.in_default-take_off.is (c.take_off.ensures h o.0 (sym c.in-Some.ensures) o.1)) c.closed.result c.closed.ensures

pub returns-in_default-take_off-clause-handles : goal.returns-in_default-take_off-clause-handles
returns-in_default-take_off-clause-handles g c =
    let o = opened_by c.args.self.now c.requires.sound c.args.file (c.in-Some.handle).now (sym c.in-Some.ensures) in
    (c.take_off.ensures (c.in-Some.handle).now o.0 (sym c.in-Some.ensures) o.1).handles

pub returns-in_default-take_off-clause-waiting : goal.returns-in_default-take_off-clause-waiting
returns-in_default-take_off-clause-waiting g c =
    let o = opened_by c.args.self.now c.requires.sound c.args.file (c.in-Some.handle).now (sym c.in-Some.ensures) in
    waiting_stays c.args.self.now c.requires.sound c.args.file (c.in-Some.handle).now o.0 (sym c.in-Some.ensures) o.1 c.take_off.result c.take_off.new.self (c.take_off.ensures (c.in-Some.handle).now o.0 (sym c.in-Some.ensures) o.1)

pub returns-then-not-left-clause-serves : goal.returns-then-not-left-clause-serves
returns-then-not-left-clause-serves g c =
    let t = c.args.self.now in
    let h = (c.in-Some.handle).now in
    let o = opened_by t c.requires.sound c.args.file h (sym c.in-Some.ensures) in
    serves_left t c.requires.sound c.args.file h o.0 (sym c.in-Some.ensures) o.1 c.take_off.new.self (seen g.F.Folder.nodes g.F.Folder.faults c.args.folder.now) c.requires.over
    c.in-Some-take_off.left (subst (λ (b : Option Open). IsOff t c.args.file h o.0 b c.take_off.new.self) c.in-Some-take_off.is (c.take_off.ensures h o.0 (sym c.in-Some.ensures) o.1))
    c.if-not-left.true c.closed-then-not-left.result c.closed-then-not-left.ensures

pub returns-then-not-left-clause-handles : goal.returns-then-not-left-clause-handles
returns-then-not-left-clause-handles g c =
    let o = opened_by c.args.self.now c.requires.sound c.args.file (c.in-Some.handle).now (sym c.in-Some.ensures) in
    (c.take_off.ensures (c.in-Some.handle).now o.0 (sym c.in-Some.ensures) o.1).handles

pub returns-then-not-left-clause-waiting : goal.returns-then-not-left-clause-waiting
returns-then-not-left-clause-waiting g c =
    let o = opened_by c.args.self.now c.requires.sound c.args.file (c.in-Some.handle).now (sym c.in-Some.ensures) in
    waiting_stays c.args.self.now c.requires.sound c.args.file (c.in-Some.handle).now o.0 (sym c.in-Some.ensures) o.1 c.take_off.result c.take_off.new.self (c.take_off.ensures (c.in-Some.handle).now o.0 (sym c.in-Some.ensures) o.1)

pub returns-in-Ok-clause-serves : goal.returns-in-Ok-clause-serves
returns-in-Ok-clause-serves g c =
    let t = c.args.self.now in
    let h = (c.in-Some.handle).now in
    let o = opened_by t c.requires.sound c.args.file h (sym c.in-Some.ensures) in
    let before : Seen = seen g.F.Folder.nodes g.F.Folder.faults c.args.folder.now in
    let after : Seen = seen g.F.Folder.nodes g.F.Folder.faults c.remove.new.self in
    serves_gone t c.requires.sound c.args.file h o.0 (sym c.in-Some.ensures) o.1 c.take_off.new.self before c.requires.over
    c.in-Some-take_off.left (subst (λ (b : Option Open). IsOff t c.args.file h o.0 b c.take_off.new.self) c.in-Some-take_off.is (c.take_off.ensures h o.0 (sym c.in-Some.ensures) o.1))
    c.if-not-left.false after (subst (λ (p : Names). DoesCall before.told after.told (folder_remove p) (Result.Ok tt)) c.names.ensures.names c.in-Ok.ensures.does) c.in-Ok.ensures.counted
    c.name_bit-bits.result c.name_bit-bits.ensures c.closed-in-Ok.result c.closed-in-Ok.ensures

pub returns-in-Ok-clause-handles : goal.returns-in-Ok-clause-handles
returns-in-Ok-clause-handles g c =
    let o = opened_by c.args.self.now c.requires.sound c.args.file (c.in-Some.handle).now (sym c.in-Some.ensures) in
    (c.take_off.ensures (c.in-Some.handle).now o.0 (sym c.in-Some.ensures) o.1).handles

pub returns-in-Ok-clause-waiting : goal.returns-in-Ok-clause-waiting
returns-in-Ok-clause-waiting g c =
    let o = opened_by c.args.self.now c.requires.sound c.args.file (c.in-Some.handle).now (sym c.in-Some.ensures) in
    waiting_stays c.args.self.now c.requires.sound c.args.file (c.in-Some.handle).now o.0 (sym c.in-Some.ensures) o.1 c.take_off.result c.take_off.new.self (c.take_off.ensures (c.in-Some.handle).now o.0 (sym c.in-Some.ensures) o.1)

pub returns-in-Err-clause-serves : goal.returns-in-Err-clause-serves
returns-in-Err-clause-serves g c =
    let t = c.args.self.now in
    let h = (c.in-Some.handle).now in
    let o = opened_by t c.requires.sound c.args.file h (sym c.in-Some.ensures) in
    let before : Seen = seen g.F.Folder.nodes g.F.Folder.faults c.args.folder.now in
    let after : Seen = seen g.F.Folder.nodes g.F.Folder.faults c.remove.new.self in
    subst (λ (r : Done). ServesClose t before c.take_off.new.self after c.args.file (Ok r)) (sym c.kept.ensures)
    (serves_not_gone t c.requires.sound c.args.file h o.0 (sym c.in-Some.ensures) o.1 c.take_off.new.self before c.requires.over
    c.in-Some-take_off.left (subst (λ (b : Option Open). IsOff t c.args.file h o.0 b c.take_off.new.self) c.in-Some-take_off.is (c.take_off.ensures h o.0 (sym c.in-Some.ensures) o.1))
    c.if-not-left.false after c.in-Err.no (λ e. c.in-Err.ensures.memory (ap (λ (w : FolderNo). Result.Err w) e)) (c.in-Some-take_off.left).folder refl
    (subst (λ (p : Names). DoesCall before.told after.told (folder_remove p) (Result.Err c.in-Err.no)) c.names.ensures.names c.in-Err.ensures.does) c.in-Err.ensures.counted
    c.closed-in-Err.result c.closed-in-Err.ensures)

pub returns-in-Err-clause-fits : goal.returns-in-Err-clause-fits
returns-in-Err-clause-fits g c = subst (λ (r : Done). IfReplied (Ok r) (FitsBody Close)) (sym c.kept.ensures) (fits_kept c.in-Err.no (c.in-Some-take_off.left).folder c.closed-in-Err.result)

pub returns-in-Err-clause-fed : goal.returns-in-Err-clause-fed
returns-in-Err-clause-fed g c = subst (λ (r : Done). IsFed (Ok r)) (sym c.kept.ensures) (fed_kept c.in-Err.no (c.in-Some-take_off.left).folder c.closed-in-Err.result (λ e. c.in-Err.ensures.memory (ap (λ (w : FolderNo). Result.Err w) e)))

pub returns-in-Err-clause-handles : goal.returns-in-Err-clause-handles
returns-in-Err-clause-handles g c =
    let o = opened_by c.args.self.now c.requires.sound c.args.file (c.in-Some.handle).now (sym c.in-Some.ensures) in
    (c.take_off.ensures (c.in-Some.handle).now o.0 (sym c.in-Some.ensures) o.1).handles

pub returns-in-Err-clause-waiting : goal.returns-in-Err-clause-waiting
returns-in-Err-clause-waiting g c =
    let o = opened_by c.args.self.now c.requires.sound c.args.file (c.in-Some.handle).now (sym c.in-Some.ensures) in
    waiting_stays c.args.self.now c.requires.sound c.args.file (c.in-Some.handle).now o.0 (sym c.in-Some.ensures) o.1 c.take_off.result c.take_off.new.self (c.take_off.ensures (c.in-Some.handle).now o.0 (sym c.in-Some.ensures) o.1)
