use Rattle.std.proofs.Common.{refl, sym, subst, []}
use Rattle.rd_base.specs.Statuses.{too_many_opened_files}
use Rattle.rd_drive.specs.Made.{create_at}
use Rattle.rd_folder_drive.specs.Served.{Seen, Serves, seen}
use Rattle.rd_folder_drive.proofs.CreateLemmas.{comes_full}
use Rattle.rd_folder_drive.proofs.OpeningLemmas.{has_room}
use Rattle.rd_folder_drive.proofs.ServeLemmas.{refused_at_once, refused_by}
use Rattle.rd_folder_drive.proofs.table.Table.open_or_make.Goals as goal

pub returns-then-is_full-clause-serves : goal.returns-then-is_full-clause-serves
returns-then-is_full-clause-serves g c =
    refused_at_once c.args.self.now (seen g.F.Folder.nodes g.F.Folder.faults c.args.folder.now) c.requires.over c.requires.sound (λ s. create_at s c.args.moment c.args.asked c.args.path)
    too_many_opened_files (refl, refl) (λ nodes holds. comes_full c.args.self.now c.requires.sound c.args.asked c.args.moment c.args.path nodes holds (sym (c.if-is_full.ensures nodes)))

pub open_found-requires-clause-room : goal.open_found-requires-clause-room
open_found-requires-clause-room g c = has_room c.args.self.now [] (sym (c.if-is_full.ensures []))

pub make_new-requires-clause-room : goal.make_new-requires-clause-room
make_new-requires-clause-room g c = has_room c.args.self.now [] (sym (c.if-is_full.ensures []))

pub returns-in-Ok-Some-clause-serves : goal.returns-in-Ok-Some-clause-serves
returns-in-Ok-Some-clause-serves g c =
    subst (λ (before : Seen). Serves c.args.self.now before c.open_found.new.self (seen g.F.Folder.nodes g.F.Folder.faults c.open_found.new.folder) (λ s. create_at s c.args.moment c.args.asked c.args.path) c.open_found.result)
    c.in-Ok-Some.ensures.ok.0 c.open_found.ensures.serves

pub returns-in-Ok-None-clause-serves : goal.returns-in-Ok-None-clause-serves
returns-in-Ok-None-clause-serves g c =
    subst (λ (before : Seen). Serves c.args.self.now before c.make_new.new.self (seen g.F.Folder.nodes g.F.Folder.faults c.make_new.new.folder) (λ s. create_at s c.args.moment c.args.asked c.args.path) c.make_new.result)
    c.in-Ok-None.ensures.ok.0 c.make_new.ensures.serves

pub returns-in-Err-clause-serves : goal.returns-in-Err-clause-serves
returns-in-Err-clause-serves g c =
    refused_by c.args.self.now (seen g.F.Folder.nodes g.F.Folder.faults c.args.folder.now) (seen g.F.Folder.nodes g.F.Folder.faults c.look.new.folder) c.requires.over c.in-Err.ensures.err.0 c.requires.sound
    (λ s. create_at s c.args.moment c.args.asked c.args.path) c.in-Err.status c.in-Err.ensures.err.1
