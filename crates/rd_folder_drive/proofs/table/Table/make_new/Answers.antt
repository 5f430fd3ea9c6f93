use Rattle.std.proofs.Common.{◌≡◌, ◌∙◌, refl, sym, ap, subst, true, Some}
use Rattle.std.specs.List.{list_all, list_any}
use Rattle.rd_base.specs.Statuses.{delete_pending, object_name_not_found, object_path_not_found}
use Rattle.rd_dirinfo.specs.Paths.{Names, is_name, is_path, parent}
use Rattle.rd_drive.specs.Create.{wants_folder}
use Rattle.rd_drive.specs.DriveState.{has_folder}
use Rattle.rd_drive.specs.Made.{create_at}
use Rattle.rd_folder.specs.FolderCalls.{node_there}
use Rattle.rd_folder.specs.Told.{drive_over}
use Rattle.rd_folder_drive.specs.Opening.{number_at}
use Rattle.rd_folder_drive.specs.Served.{Seen, Serves, seen}
use Rattle.rd_folder_drive.specs.Table.{is_pending_open}
use Rattle.rd_folder_drive.proofs.CreateLemmas.{bare, comes_lost, comes_made, comes_pending, comes_unasked, look_none, not_full, some_names}
use Rattle.rd_folder_drive.proofs.FoundLemmas.{at_path, found_nothing, found_open}
use Rattle.rd_folder_drive.proofs.HoldLemmas.{may_first}
use Rattle.rd_folder_drive.proofs.RenameLemmas.{is_true, parent_named, refused_told}
use Rattle.rd_folder_drive.proofs.ServeLemmas.{held_by, refused_by}
use Rattle.rd_folder_drive.proofs.table.Table.make_new.Goals as goal

pub is_folder-requires : goal.is_folder-requires
is_folder-requires g c = record {
  named = ap (list_all is_name) (c.above.ensures ∙ ap parent c.names-2.ensures.names) ∙ parent_named c.args.path (is_true (is_path c.args.path) c.names-2.ensures.within);
}

pub returns-in-Ok-false-clause-serves : goal.returns-in-Ok-false-clause-serves
returns-in-Ok-false-clause-serves g c =
    let t = c.args.self.now in
    let before : Seen = seen g.F.Folder.nodes g.F.Folder.faults c.args.folder.now in
    let after : Seen = seen g.F.Folder.nodes g.F.Folder.faults c.is_folder.new.folder in
    refused_told t before after c.requires.over c.requires.sound (λ s. create_at s c.args.moment c.args.asked c.args.path) c.in-Ok-false.ensures.ok.0 object_path_not_found (refl, refl)
    (λ nodes told holds. comes_lost t c.requires.sound c.args.asked c.args.moment c.args.path nodes holds (not_full t c.requires.room nodes) (look_none (node_there nodes c.args.path) (c.requires.none nodes told))
    (ap (λ (p : Names). has_folder (drive_over nodes) p) (sym (c.above.ensures ∙ ap parent c.names-2.ensures.names)) ∙ c.in-Ok-false.ensures.ok.1 nodes told ∙ c.in-Ok-false.field-0-test))

pub returns-in-Err-clause-serves : goal.returns-in-Err-clause-serves
returns-in-Err-clause-serves g c =
    let t = c.args.self.now in
    let before : Seen = seen g.F.Folder.nodes g.F.Folder.faults c.args.folder.now in
    let after : Seen = seen g.F.Folder.nodes g.F.Folder.faults c.is_folder.new.folder in
    refused_by t before after c.requires.over c.in-Err.ensures.err.0 c.requires.sound (λ s. create_at s c.args.moment c.args.asked c.args.path) c.in-Err.status c.in-Err.ensures.err.1

pub returns-then-needs_node-clause-serves : goal.returns-then-needs_node-clause-serves
returns-then-needs_node-clause-serves g c =
    let t = c.args.self.now in
    let before : Seen = seen g.F.Folder.nodes g.F.Folder.faults c.args.folder.now in
    let after : Seen = seen g.F.Folder.nodes g.F.Folder.faults c.is_folder.new.folder in
    refused_told t before after c.requires.over c.requires.sound (λ s. create_at s c.args.moment c.args.asked c.args.path) c.in-Ok-true.ensures.ok.0 object_name_not_found (refl, refl)
    (λ nodes told holds. comes_unasked t c.requires.sound c.args.asked c.args.moment c.args.path nodes holds (not_full t c.requires.room nodes) (look_none (node_there nodes c.args.path) (c.requires.none nodes told))
    (ap (λ (p : Names). has_folder (drive_over nodes) p) (sym (c.above.ensures ∙ ap parent c.names-2.ensures.names)) ∙ c.in-Ok-true.ensures.ok.1 nodes told ∙ c.in-Ok-true.field-0-test) (sym c.if-needs_node.ensures))

pub returns-then-is_pending_at-clause-serves : goal.returns-then-is_pending_at-clause-serves
returns-then-is_pending_at-clause-serves g c =
    let t = c.args.self.now in
    let before : Seen = seen g.F.Folder.nodes g.F.Folder.faults c.args.folder.now in
    let after : Seen = seen g.F.Folder.nodes g.F.Folder.faults c.is_folder.new.folder in
    refused_told t before after c.requires.over c.requires.sound (λ s. create_at s c.args.moment c.args.asked c.args.path) c.in-Ok-true.ensures.ok.0 delete_pending (refl, refl)
    (λ nodes told holds. comes_pending t c.requires.sound c.args.asked c.args.moment c.args.path nodes holds (not_full t c.requires.room nodes) (look_none (node_there nodes c.args.path) (c.requires.none nodes told))
    (ap (λ (p : Names). has_folder (drive_over nodes) p) (sym (c.above.ensures ∙ ap parent c.names-2.ensures.names)) ∙ c.in-Ok-true.ensures.ok.1 nodes told ∙ c.in-Ok-true.field-0-test) (sym c.if-needs_node.ensures)
    (ap (λ (p : Names). list_any (is_pending_open p) t.opens.entries) (sym (c.above-2.ensures ∙ ap parent c.names-3.ensures.names)) ∙ sym c.if-is_pending_at.ensures))

pub returns-then-is_some-clause-serves : goal.returns-then-is_some-clause-serves
returns-then-is_some-clause-serves g c =
    let t = c.args.self.now in
    let before : Seen = seen g.F.Folder.nodes g.F.Folder.faults c.args.folder.now in
    let after : Seen = seen g.F.Folder.nodes g.F.Folder.faults c.is_folder.new.folder in
    refused_told t before after c.requires.over c.requires.sound (λ s. create_at s c.args.moment c.args.asked c.args.path) c.in-Ok-true.ensures.ok.0 object_name_not_found (refl, refl)
    (λ nodes told holds. absurd (found_open t c.args.path c.at.result (sym c.if-is_some.ensures)
    (at_path t c.requires.sound.rising.0 c.args.path c.at.result (c.at.ensures ∙ ap (λ (p : Names). number_at p t.opens.entries) c.names-4.ensures.names))
    (bare t c.requires.sound c.args.asked c.args.moment c.args.path nodes holds (not_full t c.requires.room nodes) (look_none (node_there nodes c.args.path) (c.requires.none nodes told)))))

pub make-requires-clause-at : goal.make-requires-clause-at
make-requires-clause-at g c =
    let t = c.args.self.now in
    found_nothing t c.args.path c.at.result (sym c.if-is_some.ensures) (at_path t c.requires.sound.rising.0 c.args.path c.at.result (c.at.ensures ∙ ap (λ (p : Names). number_at p t.opens.entries) c.names-4.ensures.names))

pub make-requires-clause-may : goal.make-requires-clause-may
make-requires-clause-may g c =
    let t = c.args.self.now in
    may_first t c.requires.sound c.args.asked c.args.path (wants_folder c.args.asked) (is_true (is_path c.args.path) c.names-2.ensures.within)
    (λ top. absurd (some_names c.args.path c.names.result.now c.names.ensures.names c.if-is_empty.ensures top))
    (found_nothing t c.args.path c.at.result (sym c.if-is_some.ensures) (at_path t c.requires.sound.rising.0 c.args.path c.at.result (c.at.ensures ∙ ap (λ (p : Names). number_at p t.opens.entries) c.names-4.ensures.names)))

pub make-requires-clause-comes : goal.make-requires-clause-comes
make-requires-clause-comes g c = λ nodes then.
    let t = c.args.self.now in
    let before : Seen = seen g.F.Folder.nodes g.F.Folder.faults c.args.folder.now in
    let after : Seen = seen g.F.Folder.nodes g.F.Folder.faults c.is_folder.new.folder in
    let told : before.told ≡ Some nodes = sym (ap (λ (x : Seen). x.told) c.in-Ok-true.ensures.ok.0) ∙ then in
    let holds = held_by t before c.requires.over nodes told in
    let none = look_none (node_there nodes c.args.path) (c.requires.none nodes told) in
    let folder : has_folder (drive_over nodes) (parent c.args.path) ≡ true = ap (λ (p : Names). has_folder (drive_over nodes) p) (sym (c.above.ensures ∙ ap parent c.names-2.ensures.names)) ∙ c.in-Ok-true.ensures.ok.1 nodes told ∙ c.in-Ok-true.field-0-test in (
      λ top. some_names c.args.path c.names.result.now c.names.ensures.names c.if-is_empty.ensures top,
      none,
      folder,
      comes_made t c.requires.sound c.args.asked c.args.moment c.args.path nodes holds (not_full t c.requires.room nodes) none folder (sym c.if-needs_node.ensures)
          (ap (λ (p : Names). list_any (is_pending_open p) t.opens.entries) (sym (c.above-2.ensures ∙ ap parent c.names-3.ensures.names)) ∙ sym c.if-is_pending_at.ensures),
    )

pub returns-clause-serves : goal.returns-clause-serves
returns-clause-serves g c =
    subst (λ (before : Seen). Serves c.args.self.now before c.make.new.self (seen g.F.Folder.nodes g.F.Folder.faults c.make.new.folder) (λ s. create_at s c.args.moment c.args.asked c.args.path) c.make.result)
    c.in-Ok-true.ensures.ok.0 c.make.ensures.serves
