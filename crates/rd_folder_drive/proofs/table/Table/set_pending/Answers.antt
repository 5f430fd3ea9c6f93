use Rattle.std.proofs.Common.{◌≡◌, ◌∙◌, refl, sym, ap, subst, Bool, true, false}
use Rattle.rd_base.specs.Statuses.{invalid_handle}
use Rattle.rd_fileinfo.specs.declared.set_info.SetInfo.TheVariants as set
use Rattle.rd_folder_drive.specs.Served.{seen}
use Rattle.rd_folder_drive.specs.Setting.{SetsPending, sets_of}
use Rattle.rd_folder_drive.proofs.PendingLemmas.{mark_refused, mark_serves}
use Rattle.rd_folder_drive.proofs.ServeLemmas.{refused_at_once}
use Rattle.rd_folder_drive.proofs.TableLemmas.{unopened}
use Rattle.rd_folder_drive.specs.declared.table.Table.{Table}
use Rattle.rd_folder_drive.specs.Files.{files_in}
use Rattle.rd_folder_drive.proofs.table.Table.set_pending.Goals as goal

pub returns-in_default-clause-serves : goal.returns-in_default-clause-serves
returns-in_default-clause-serves g c = λ moment.
    refused_at_once c.args.self.now (seen g.F.Folder.nodes g.F.Folder.faults c.args.folder.now) c.requires.over c.requires.sound (sets_of c.args.file moment c.args.count (set.Disposition c.args.pending))
    invalid_handle (refl, refl) (λ nodes holds. unopened c.args.self.now nodes c.args.file _ (c.held.ensures.none c.in_default.is))

pub returns-in-Err-clause-serves : goal.returns-in-Err-clause-serves
returns-in-Err-clause-serves g c = λ moment.
    mark_refused c.args.self.now c.requires.sound (seen g.F.Folder.nodes g.F.Folder.faults c.args.folder.now) (seen g.F.Folder.nodes g.F.Folder.faults c.check_going.new.folder) c.requires.over moment c.args.file c.args.count
    (c.in-Some.handle).now (c.in-Some.opened).now c.in-Some.ensures.some.0 c.in-Some.ensures.some.1 c.args.pending c.if-pending.true c.in-Err.status c.in-Err.ensures.err

pub returns-in-Ok-clause-serves : goal.returns-in-Ok-clause-serves
returns-in-Ok-clause-serves g c = λ moment.
    let h = (c.in-Some.handle).now in
    let o = (c.in-Some.opened).now in
    mark_serves c.args.self.now c.requires.sound (seen g.F.Folder.nodes g.F.Folder.faults c.args.folder.now) (seen g.F.Folder.nodes g.F.Folder.faults c.check_going.new.folder) c.requires.over moment c.args.file c.args.count
    h o c.in-Some.ensures.some.0 c.in-Some.ensures.some.1 c.args.pending c.in-Ok.ensures.ok.0 (c.requires.other h o c.in-Some.ensures.some.0 c.in-Some.ensures.some.1) c.mark.new.self
    (subst (λ (b : Bool). SetsPending c.args.self.now h.node o b c.mark.new.self) (sym c.if-pending.true) (c.mark.ensures o c.in-Some.ensures.some.1)) (λ some. c.in-Ok.ensures.ok.1) c.none.result c.none.ensures

pub returns-clause-serves : goal.returns-clause-serves
returns-clause-serves g c = λ moment.
    let h = (c.in-Some.handle).now in
    let o = (c.in-Some.opened).now in
    mark_serves c.args.self.now c.requires.sound (seen g.F.Folder.nodes g.F.Folder.faults c.args.folder.now) (seen g.F.Folder.nodes g.F.Folder.faults c.args.folder.now) c.requires.over moment c.args.file c.args.count
    h o c.in-Some.ensures.some.0 c.in-Some.ensures.some.1 c.args.pending refl (c.requires.other h o c.in-Some.ensures.some.0 c.in-Some.ensures.some.1) c.mark-2.new.self
    (subst (λ (b : Bool). SetsPending c.args.self.now h.node o b c.mark-2.new.self) (sym c.if-pending.false) (c.mark-2.ensures o c.in-Some.ensures.some.1))
    (λ some. absurd (let clash : true ≡ false = sym some ∙ c.if-pending.false in cc)) c.none-2.result c.none-2.ensures

pub returns-in-Ok-clause-waits : goal.returns-in-Ok-clause-waits
returns-in-Ok-clause-waits g c = ap (λ (t : Table). t.waiting) (c.mark.ensures (c.in-Some.opened).now c.in-Some.ensures.some.1).rest

pub returns-clause-waits : goal.returns-clause-waits
returns-clause-waits g c = ap (λ (t : Table). t.waiting) (c.mark-2.ensures (c.in-Some.opened).now c.in-Some.ensures.some.1).rest

pub returns-in-Ok-clause-files : goal.returns-in-Ok-clause-files
returns-in-Ok-clause-files g c = ap (λ (t : Table). files_in t) (c.mark.ensures (c.in-Some.opened).now c.in-Some.ensures.some.1).rest

pub returns-clause-files : goal.returns-clause-files
returns-clause-files g c = ap (λ (t : Table). files_in t) (c.mark-2.ensures (c.in-Some.opened).now c.in-Some.ensures.some.1).rest
