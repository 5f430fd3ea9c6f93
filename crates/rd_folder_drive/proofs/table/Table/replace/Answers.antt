use Rattle.std.proofs.Common.{refl, sym, subst, inl, false, Ok, Err}
use Rattle.rd_base.specs.declared.status.Status.{Status}
use Rattle.rd_drive.specs.Create.{replaced}
use Rattle.rd_drive.specs.Made.{create_at}
use Rattle.rd_folder.specs.FolderCalls.{folder_replace, with_put}
use Rattle.rd_folder_drive.specs.Served.{Seen, Serves, seen}
use Rattle.rd_folder_drive.proofs.HoldLemmas.{serves_before, waiting_same}
use Rattle.rd_folder_drive.proofs.MadeLemmas.{call_at, replace_does, serves_refused, serves_replaced}
use Rattle.rd_folder_drive.proofs.FilesLemmas.{files_before, opens_next}
use Rattle.rd_folder_drive.proofs.table.Table.replace.Goals as goal

pub returns-in-Err-clause-serves : goal.returns-in-Err-clause-serves
returns-in-Err-clause-serves g c =
    let before : Seen = seen g.F.Folder.nodes g.F.Folder.faults c.args.folder.now in
    serves_before c.args.self.now c.requires.sound c.hold.new.self c.in-Err.ensures.err before before c.requires.over refl (λ s. create_at s c.args.moment c.args.asked c.args.path) c.in-Err.no (inl (c.in-Err.ensures.no_memory, refl))

pub take_back-requires : goal.take_back-requires
take_back-requires g c = record {
  held = (
    c.args.self.now,
    record { sound = c.requires.sound; given = c.next_file-file.ensures; path = c.args.path; folder = false; found = c.args.found; holds = c.in-Ok.ensures.held },
  );
}

pub returns-in-Ok-replace-clause-serves : goal.returns-in-Ok-replace-clause-serves
returns-in-Ok-replace-clause-serves g c =
    let t = c.args.self.now in
    let before : Seen = seen g.F.Folder.nodes g.F.Folder.faults c.args.folder.now in
    let after : Seen = seen g.F.Folder.nodes g.F.Folder.faults c.replace.new.self in
    serves_replaced t c.requires.sound c.args.asked c.args.moment c.args.path false c.args.found c.requires.at c.requires.may c.requires.room c.in-Ok.node c.hold.new.self c.in-Ok.ensures.held
    c.next_file-file.result c.next_file-file.ensures before c.requires.over after c.in-Ok-replace.ensures.counted refl c.requires.comes c.file_attributes.result c.file_attributes.ensures
    (call_at t c.requires.sound c.args.asked c.args.moment c.args.path false c.args.found c.requires.at c.requires.may c.requires.room c.in-Ok.node c.hold.new.self c.in-Ok.ensures.held
    c.next_file-file.result c.next_file-file.ensures before c.requires.over after (λ p. folder_replace p c.file_attributes.result c.args.moment) c.names.result.now c.in-Some.opened.now c.names.ensures.names (sym c.in-Some.ensures) (Ok tt) c.in-Ok-replace.ensures.does)
    c.information.result c.information.ensures c.changed.result c.changed.ensures

pub returns-in-Err-replace-clause-serves : goal.returns-in-Err-replace-clause-serves
returns-in-Err-replace-clause-serves g c =
    let t = c.args.self.now in
    let before : Seen = seen g.F.Folder.nodes g.F.Folder.faults c.args.folder.now in
    let after : Seen = seen g.F.Folder.nodes g.F.Folder.faults c.replace.new.self in
    subst (λ (status : Status). Serves t before c.take_back.new.self after (λ s. create_at s c.args.moment c.args.asked c.args.path) (Err status)) (sym c.folder_status.ensures)
    (serves_refused t c.requires.sound c.args.asked c.args.moment c.args.path false c.args.found c.requires.at c.requires.may c.requires.room c.in-Ok.node c.hold.new.self c.in-Ok.ensures.held
    c.next_file-file.result c.next_file-file.ensures before c.requires.over after (folder_replace c.args.path c.file_attributes.result c.args.moment)
    (λ nodes told holds. let r = c.requires.comes nodes told in (with_put nodes (replaced c.args.asked c.args.moment r.0), replace_does c.args.asked c.args.moment c.args.path nodes r.0 r.1 r.2 c.file_attributes.result c.file_attributes.ensures))
    c.in-Err-replace.no
    (call_at t c.requires.sound c.args.asked c.args.moment c.args.path false c.args.found c.requires.at c.requires.may c.requires.room c.in-Ok.node c.hold.new.self c.in-Ok.ensures.held
    c.next_file-file.result c.next_file-file.ensures before c.requires.over after (λ p. folder_replace p c.file_attributes.result c.args.moment) c.names.result.now c.in-Some.opened.now c.names.ensures.names (sym c.in-Some.ensures) (Err c.in-Err-replace.no) c.in-Err-replace.ensures.does)
    c.in-Err-replace.ensures.counted c.take_back.new.self
    (c.take_back.ensures.alike t (record { sound = c.requires.sound; given = c.next_file-file.ensures; path = c.args.path; folder = false; found = c.args.found; holds = c.in-Ok.ensures.held })))

pub returns-in-Err-replace-clause-waits : goal.returns-in-Err-replace-clause-waits
returns-in-Err-replace-clause-waits g c =
    waiting_same c.args.self.now c.requires.sound c.take_back.new.self
    (c.take_back.ensures.alike c.args.self.now (record { sound = c.requires.sound; given = c.next_file-file.ensures; path = c.args.path; folder = false; found = c.args.found; holds = c.in-Ok.ensures.held }))

pub returns-in-Err-replace-clause-files : goal.returns-in-Err-replace-clause-files
returns-in-Err-replace-clause-files g c =
    files_before c.args.self.now c.take_back.new.self
    (c.take_back.ensures.alike c.args.self.now (record { sound = c.requires.sound; given = c.next_file-file.ensures; path = c.args.path; folder = false; found = c.args.found; holds = c.in-Ok.ensures.held }))

pub returns-in-Err-clause-files : goal.returns-in-Err-clause-files
returns-in-Err-clause-files g c = files_before c.args.self.now c.hold.new.self c.in-Err.ensures.err

pub returns-in-Ok-replace-clause-files : goal.returns-in-Ok-replace-clause-files
returns-in-Ok-replace-clause-files g c =
    opens_next c.args.self.now c.requires.sound c.args.asked c.args.path false c.args.found c.in-Ok.node c.hold.new.self c.in-Ok.ensures.held
    c.next_file-file.result c.information.result c.next_file-file.ensures c.changed.result
