use Rattle.std.proofs.Common.{◌∙◌, refl, sym, ap, inl, ◌==◌, false, length}
use Rattle.rd_base.specs.Statuses.{object_name_not_found}
use Rattle.rd_dirinfo.specs.Paths.{Names}
use Rattle.rd_drive.specs.Made.{create_at}
use Rattle.rd_folder.specs.declared.look.Look.{Look}
use Rattle.rd_folder.specs.FolderCalls.{node_there}
use Rattle.rd_folder_drive.specs.Opening.{number_at}
use Rattle.rd_folder_drive.specs.Served.{Seen, seen}
use Rattle.rd_folder_drive.proofs.AskLemmas.{calm_by}
use Rattle.rd_folder_drive.proofs.CreateLemmas.{checks_made, checks_own, comes_plain, comes_refused, comes_whole, kind_same, look_node, may_found, not_full, state_found}
use Rattle.rd_folder_drive.proofs.FoundLemmas.{at_path}
use Rattle.rd_folder_drive.proofs.HoldLemmas.{serves_before}
use Rattle.rd_folder_drive.proofs.MadeLemmas.{serves_plain}
use Rattle.rd_folder_drive.proofs.RenameLemmas.{is_true}
use Rattle.rd_folder_drive.proofs.ServeLemmas.{held_by, refused_so}
use Rattle.rd_folder_drive.proofs.FilesLemmas.{files_before, opens_next}
use Rattle.rd_folder_drive.proofs.table.Table.open_found.Goals as goal

pub returns-then-not-is_of_kind-clause-serves : goal.returns-then-not-is_of_kind-clause-serves
returns-then-not-is_of_kind-clause-serves g c =
    let t = c.args.self.now in
    let before : Seen = seen g.F.Folder.nodes g.F.Folder.faults c.args.folder.now in
    let at = at_path t c.requires.sound.rising.0 c.args.path c.at-found.result (c.at-found.ensures ∙ ap (λ (p : Names). number_at p t.opens.entries) c.names.ensures.names) in
    refused_so t before before c.requires.over refl c.requires.sound (λ s. create_at s c.args.moment c.args.asked c.args.path) (calm_by before before refl) object_name_not_found (refl, refl)
    (λ nodes told holds.
    let node = look_node (node_there nodes c.args.path) c.args.look.now (c.requires.there nodes told) in
    absurd (kind_same t c.requires.sound c.args.asked c.args.moment c.args.path nodes holds (not_full t c.requires.room nodes) node.0 node.1 c.args.look.now node.2 c.at-found.result at c.if-not-is_of_kind.ensures))

pub returns-in-Some-clause-serves : goal.returns-in-Some-clause-serves
returns-in-Some-clause-serves g c =
    let t = c.args.self.now in
    let before : Seen = seen g.F.Folder.nodes g.F.Folder.faults c.args.folder.now in
    let at = at_path t c.requires.sound.rising.0 c.args.path c.at-found.result (c.at-found.ensures ∙ ap (λ (p : Names). number_at p t.opens.entries) c.names.ensures.names) in
    let checks = checks_made t c.args.asked c.args.path c.args.look.now c.at-found.result c.is_empty.result (c.is_empty.ensures ∙ ap (λ (p : Names). length p == 0) c.names-2.ensures.names)
    c.state_at-state.result c.state_at-state.ensures c.refusal.result c.refusal.ensures ∙ c.in-Some.is in
    refused_so t before before c.requires.over refl c.requires.sound (λ s. create_at s c.args.moment c.args.asked c.args.path) (calm_by before before refl) c.in-Some.no
    (checks_own c.args.asked c.args.look.now.folder (length c.args.path == 0) (state_found t c.args.look.now c.at-found.result) c.in-Some.no checks)
    (λ nodes told holds.
    let node = look_node (node_there nodes c.args.path) c.args.look.now (c.requires.there nodes told) in
    comes_refused t c.requires.sound c.args.asked c.args.moment c.args.path nodes holds (not_full t c.requires.room nodes) node.0 node.1 c.args.look.now node.2 c.at-found.result at c.in-Some.no checks)

pub replace-requires-clause-at : goal.replace-requires-clause-at
replace-requires-clause-at g c =
    let t = c.args.self.now in
    at_path t c.requires.sound.rising.0 c.args.path c.at-found.result (c.at-found.ensures ∙ ap (λ (p : Names). number_at p t.opens.entries) c.names.ensures.names)

pub replace-requires-clause-may : goal.replace-requires-clause-may
replace-requires-clause-may g c =
    let t = c.args.self.now in
    let at = at_path t c.requires.sound.rising.0 c.args.path c.at-found.result (c.at-found.ensures ∙ ap (λ (p : Names). number_at p t.opens.entries) c.names.ensures.names) in
    may_found t c.requires.sound c.args.asked c.args.path c.args.look.now false (is_true _ c.names.ensures.within) c.at-found.result at
    (checks_made t c.args.asked c.args.path c.args.look.now c.at-found.result c.is_empty.result (c.is_empty.ensures ∙ ap (λ (p : Names). length p == 0) c.names-2.ensures.names)
    c.state_at-state.result c.state_at-state.ensures c.refusal.result c.refusal.ensures ∙ c.in_default.is)

pub replace-requires-clause-comes : goal.replace-requires-clause-comes
replace-requires-clause-comes g c = λ nodes told.
    let t = c.args.self.now in
    let before : Seen = seen g.F.Folder.nodes g.F.Folder.faults c.args.folder.now in
    let at = at_path t c.requires.sound.rising.0 c.args.path c.at-found.result (c.at-found.ensures ∙ ap (λ (p : Names). number_at p t.opens.entries) c.names.ensures.names) in
    let node = look_node (node_there nodes c.args.path) c.args.look.now (c.requires.there nodes told) in
    let whole = comes_whole t c.requires.sound c.args.asked c.args.moment c.args.path nodes (held_by t before c.requires.over nodes told) (not_full t c.requires.room nodes) node.0 node.1 c.args.look.now node.2 c.at-found.result at
    (checks_made t c.args.asked c.args.path c.args.look.now c.at-found.result c.is_empty.result (c.is_empty.ensures ∙ ap (λ (p : Names). length p == 0) c.names-2.ensures.names)
    c.state_at-state.result c.state_at-state.ensures c.refusal.result c.refusal.ensures ∙ c.in_default.is) (sym c.if-replaces.ensures) in
    (node.0, node.1, whole.0, whole.1)

pub hold-requires-clause-at : goal.hold-requires-clause-at
hold-requires-clause-at g c =
    let t = c.args.self.now in
    at_path t c.requires.sound.rising.0 c.args.path c.at-found.result (c.at-found.ensures ∙ ap (λ (p : Names). number_at p t.opens.entries) c.names.ensures.names)

pub returns-in-Ok-clause-serves : goal.returns-in-Ok-clause-serves
returns-in-Ok-clause-serves g c =
    let t = c.args.self.now in
    let before : Seen = seen g.F.Folder.nodes g.F.Folder.faults c.args.folder.now in
    let at = at_path t c.requires.sound.rising.0 c.args.path c.at-found.result (c.at-found.ensures ∙ ap (λ (p : Names). number_at p t.opens.entries) c.names.ensures.names) in
    let passed = checks_made t c.args.asked c.args.path c.args.look.now c.at-found.result c.is_empty.result (c.is_empty.ensures ∙ ap (λ (p : Names). length p == 0) c.names-2.ensures.names)
    c.state_at-state.result c.state_at-state.ensures c.refusal.result c.refusal.ensures ∙ c.in_default.is in
    serves_plain t c.requires.sound c.args.asked c.args.moment c.args.path c.args.look.now.folder c.at-found.result at
    (may_found t c.requires.sound c.args.asked c.args.path c.args.look.now c.args.look.now.folder (is_true _ c.names.ensures.within) c.at-found.result at passed) c.requires.room
    c.in-Ok.field-0 c.hold.new.self c.in-Ok.ensures.held c.next_file-file.result c.next_file-file.ensures before c.requires.over c.information.result c.information.ensures c.none.result c.none.ensures
    (λ nodes told holds.
    let node = look_node (node_there nodes c.args.path) c.args.look.now (c.requires.there nodes told) in (
      node.0,
      node.1,
      ap (λ (x : Look). x.folder) node.2,
      comes_plain t c.requires.sound c.args.asked c.args.moment c.args.path nodes holds (not_full t c.requires.room nodes) node.0 node.1 c.args.look.now node.2 c.at-found.result at passed (sym c.if-replaces.ensures),
    ))

pub returns-in-Err-clause-serves : goal.returns-in-Err-clause-serves
returns-in-Err-clause-serves g c =
    let before : Seen = seen g.F.Folder.nodes g.F.Folder.faults c.args.folder.now in
    serves_before c.args.self.now c.requires.sound c.hold.new.self c.in-Err.ensures.err before before c.requires.over refl (λ s. create_at s c.args.moment c.args.asked c.args.path) c.in-Err.no (inl (c.in-Err.ensures.no_memory, refl))

pub returns-in-Ok-clause-files : goal.returns-in-Ok-clause-files
returns-in-Ok-clause-files g c =
    opens_next c.args.self.now c.requires.sound c.args.asked c.args.path c.args.look.now.folder c.at-found.result c.in-Ok.field-0 c.hold.new.self c.in-Ok.ensures.held
    c.next_file-file.result c.information.result c.next_file-file.ensures c.none.result

pub returns-in-Err-clause-files : goal.returns-in-Err-clause-files
returns-in-Err-clause-files g c = files_before c.args.self.now c.hold.new.self c.in-Err.ensures.err
