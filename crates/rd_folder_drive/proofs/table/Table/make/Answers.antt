use Rattle.std.proofs.Common.{refl, sym, subst, inl, Bool, None, Ok, Err}
use Rattle.rd_base.specs.declared.status.Status.{Status}
use Rattle.rd_dirinfo.specs.declared.naming.Naming.TheVariants.{Exact}
use Rattle.rd_drive.specs.Create.{made_node}
use Rattle.rd_drive.specs.DriveState.{add_node}
use Rattle.rd_drive.specs.Made.{create_at}
use Rattle.rd_folder.specs.FolderCalls.{folder_make}
use Rattle.rd_folder_drive.specs.Opening.{MayHold}
use Rattle.rd_folder_drive.specs.Served.{Seen, Serves, seen}
use Rattle.rd_folder_drive.proofs.HoldLemmas.{serves_before, waiting_same}
use Rattle.rd_folder_drive.proofs.MadeLemmas.{call_at, make_does, serves_made, serves_refused}
use Rattle.rd_folder_drive.proofs.FilesLemmas.{files_before, opens_next}
use Rattle.rd_folder_drive.proofs.table.Table.make.Goals as goal

pub returns-in-Err-clause-serves : goal.returns-in-Err-clause-serves
returns-in-Err-clause-serves g c =
    let before : Seen = seen g.F.Folder.nodes g.F.Folder.faults c.args.folder.now in
    serves_before c.args.self.now c.requires.sound c.hold.new.self c.in-Err.ensures.err before before c.requires.over refl (λ s. create_at s c.args.moment c.args.asked c.args.path) c.in-Err.no (inl (c.in-Err.ensures.no_memory, refl))

pub take_back-requires : goal.take_back-requires
take_back-requires g c = record {
  held = (
    c.args.self.now,
    record { sound = c.requires.sound; given = c.next_file-file.ensures; path = c.args.path; folder = c.wants_folder-is_folder.result; found = None; holds = c.in-Ok.ensures.held },
  );
}

pub returns-in-Ok-make-clause-serves : goal.returns-in-Ok-make-clause-serves
returns-in-Ok-make-clause-serves g c =
    let t = c.args.self.now in
    let before : Seen = seen g.F.Folder.nodes g.F.Folder.faults c.args.folder.now in
    let after : Seen = seen g.F.Folder.nodes g.F.Folder.faults c.make.new.self in
    let folder : Bool = c.wants_folder-is_folder.result in
    let may : MayHold t c.args.asked c.args.path folder None = subst (λ (b : Bool). MayHold t c.args.asked c.args.path b None) (sym c.wants_folder-is_folder.ensures) c.requires.may in
    serves_made t c.requires.sound c.args.asked c.args.moment c.args.path folder None c.requires.at may c.requires.room c.in-Ok.node c.hold.new.self c.in-Ok.ensures.held
    c.next_file-file.result c.next_file-file.ensures before c.requires.over after c.in-Ok-make.ensures.counted refl c.wants_folder-is_folder.ensures
    c.requires.comes c.new_attributes.result c.new_attributes.ensures
    (call_at t c.requires.sound c.args.asked c.args.moment c.args.path folder None c.requires.at may c.requires.room c.in-Ok.node c.hold.new.self c.in-Ok.ensures.held
    c.next_file-file.result c.next_file-file.ensures before c.requires.over after (λ p. folder_make p folder c.new_attributes.result c.args.moment) c.names.result.now c.in-Some.opened.now c.names.ensures.names (sym c.in-Some.ensures) (Ok tt) c.in-Ok-make.ensures.does)
    c.name_bit.result c.name_bit.ensures c.changed.result c.changed.ensures

pub returns-in-Err-make-clause-serves : goal.returns-in-Err-make-clause-serves
returns-in-Err-make-clause-serves g c =
    let t = c.args.self.now in
    let before : Seen = seen g.F.Folder.nodes g.F.Folder.faults c.args.folder.now in
    let after : Seen = seen g.F.Folder.nodes g.F.Folder.faults c.make.new.self in
    let folder : Bool = c.wants_folder-is_folder.result in
    let may : MayHold t c.args.asked c.args.path folder None = subst (λ (b : Bool). MayHold t c.args.asked c.args.path b None) (sym c.wants_folder-is_folder.ensures) c.requires.may in
    subst (λ (status : Status). Serves t before c.take_back.new.self after (λ s. create_at s c.args.moment c.args.asked c.args.path) (Err status)) (sym c.folder_status.ensures)
    (serves_refused t c.requires.sound c.args.asked c.args.moment c.args.path folder None c.requires.at may c.requires.room c.in-Ok.node c.hold.new.self c.in-Ok.ensures.held
    c.next_file-file.result c.next_file-file.ensures before c.requires.over after (folder_make c.args.path folder c.new_attributes.result c.args.moment)
    (λ nodes told holds. let m = c.requires.comes nodes told in (
      add_node Exact (made_node c.args.asked c.args.path c.args.moment) nodes,
      make_does c.args.asked c.args.moment c.args.path nodes holds.map.rises m.0 m.1 m.2 folder c.wants_folder-is_folder.ensures c.new_attributes.result c.new_attributes.ensures,
    ))
    c.in-Err-make.no
    (call_at t c.requires.sound c.args.asked c.args.moment c.args.path folder None c.requires.at may c.requires.room c.in-Ok.node c.hold.new.self c.in-Ok.ensures.held
    c.next_file-file.result c.next_file-file.ensures before c.requires.over after (λ p. folder_make p folder c.new_attributes.result c.args.moment) c.names.result.now c.in-Some.opened.now c.names.ensures.names (sym c.in-Some.ensures) (Err c.in-Err-make.no) c.in-Err-make.ensures.does)
    c.in-Err-make.ensures.counted c.take_back.new.self
    (c.take_back.ensures.alike t (record { sound = c.requires.sound; given = c.next_file-file.ensures; path = c.args.path; folder = folder; found = None; holds = c.in-Ok.ensures.held })))

pub returns-in-Err-make-clause-waits : goal.returns-in-Err-make-clause-waits
returns-in-Err-make-clause-waits g c =
    waiting_same c.args.self.now c.requires.sound c.take_back.new.self
    (c.take_back.ensures.alike c.args.self.now (record { sound = c.requires.sound; given = c.next_file-file.ensures; path = c.args.path; folder = c.wants_folder-is_folder.result; found = None; holds = c.in-Ok.ensures.held }))

pub returns-in-Err-make-clause-files : goal.returns-in-Err-make-clause-files
returns-in-Err-make-clause-files g c =
    files_before c.args.self.now c.take_back.new.self
    (c.take_back.ensures.alike c.args.self.now (record { sound = c.requires.sound; given = c.next_file-file.ensures; path = c.args.path; folder = c.wants_folder-is_folder.result; found = None; holds = c.in-Ok.ensures.held }))

pub returns-in-Err-clause-files : goal.returns-in-Err-clause-files
returns-in-Err-clause-files g c = files_before c.args.self.now c.hold.new.self c.in-Err.ensures.err

pub returns-in-Ok-make-clause-files : goal.returns-in-Ok-make-clause-files
returns-in-Ok-make-clause-files g c =
    opens_next c.args.self.now c.requires.sound c.args.asked c.args.path c.wants_folder-is_folder.result None c.in-Ok.node c.hold.new.self c.in-Ok.ensures.held
    c.next_file-file.result 0 c.next_file-file.ensures c.changed.result
