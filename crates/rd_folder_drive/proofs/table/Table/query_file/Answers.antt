use Rattle.std.proofs.Common.{◌≡◌, ◌∙◌, refl, sym, ap, subst, ◌≤◌, length, ℕ, List, ◌++◌, Some, Err}
use Rattle.std.specs.Option.{option_map}
use Rattle.rd_base.specs.Statuses.{invalid_handle, invalid_info_class}
use Rattle.rd_base.specs.declared.status.Status.{Status}
use Rattle.rd_fileinfo.specs.FileInfo.{file_info_bytes}
use Rattle.rd_irp.specs.Fits.{max_buffer}
use Rattle.rd_irp.specs.declared.completion.Body.TheVariants.{Buffer}
use Rattle.rd_drive.proofs.LengthLemmas.{can_count}
use Rattle.std.specs.Option.{option_map}
use Rattle.rd_dirinfo.specs.Paths.{Names}
use Rattle.rd_drive.specs.DriveState.{Node}
use Rattle.rd_drive.specs.Outcome.{no_news, on_handle, succeeded}
use Rattle.rd_drive.specs.Query.{query_file}
use Rattle.rd_folder.specs.FolderCalls.{node_there, look_of, folder_look, look_of}
use Rattle.rd_folder_drive.specs.Served.{Seen, Serves, seen}
use Rattle.rd_folder_drive.specs.Table.{drive_of}
use Rattle.rd_folder_drive.proofs.AskLemmas.{answer_is, asks_same, calm_by, looks}
use Rattle.rd_folder_drive.proofs.QueryLemmas as lemma
use Rattle.rd_folder_drive.proofs.QueryLemmas.{file_short}
use Rattle.rd_folder_drive.proofs.ServeLemmas.{done_quietly, refused_at_once, refused_so}
use Rattle.rd_folder_drive.proofs.TableLemmas.{unopened}
use Rattle.rd_folder_drive.proofs.table.Table.query_file.Goals as goal

pub returns-in_default-clause-serves : goal.returns-in_default-clause-serves
returns-in_default-clause-serves g c =
    refused_at_once c.args.self.now (seen g.F.Folder.nodes g.F.Folder.faults c.args.folder.now) c.requires.over c.requires.sound (λ s. on_handle s c.args.file (query_file s c.args.class))
    invalid_handle (refl, refl) (λ nodes holds. unopened c.args.self.now nodes c.args.file _ (c.held.ensures.none c.in_default.is))

pub returns-in-Err-file_info-clause-serves : goal.returns-in-Err-file_info-clause-serves
returns-in-Err-file_info-clause-serves g c =
    let before : Seen = seen g.F.Folder.nodes g.F.Folder.faults c.args.folder.now in
    let after : Seen = seen g.F.Folder.nodes g.F.Folder.faults c.look.new.self in
    subst (λ (status : Status). Serves c.args.self.now before c.args.self.now after (λ s. on_handle s c.args.file (query_file s c.args.class)) (Err status)) (sym c.in-Err-file_info.ensures.err)
    (refused_so c.args.self.now before after c.requires.over (asks_same before after (folder_look c.names.result.now) (λ nodes found left is. (looks _ nodes found left is).0) c.in-Ok-Some.field-0 c.in-Ok-Some.ensures.does)
    c.requires.sound (λ s. on_handle s c.args.file (query_file s c.args.class)) (calm_by before after c.in-Ok-Some.ensures.counted) invalid_info_class (refl, refl)
    (λ nodes told holds.
    let came : (left : List Node) × (folder_look c.names.result.now nodes ≡ Some (c.in-Ok-Some.field-0, left)) × (after.told ≡ Some left) = answer_is before after (folder_look c.names.result.now) c.in-Ok-Some.field-0 c.in-Ok-Some.ensures.does nodes told in
    let node : Node = lemma.node c.args.self.now c.requires.sound c.args.file (c.in-Some.handle).now (c.in-Some.opened).now c.in-Some.ensures.some.0 c.in-Some.ensures.some.1 c.args.class nodes holds in
    lemma.file_untold c.args.self.now c.requires.sound c.args.file (c.in-Some.handle).now (c.in-Some.opened).now c.in-Some.ensures.some.0 c.in-Some.ensures.some.1 c.args.class nodes holds (c.in-Err-file_info.ensures.none node (lemma.look_is c.args.self.now c.requires.sound c.args.file (c.in-Some.handle).now (c.in-Some.opened).now c.in-Some.ensures.some.0 c.in-Some.ensures.some.1 c.args.class nodes holds c.in-Ok-Some.field-0 c.in-Ok-Some.look (ap (λ (p : Names). option_map look_of (node_there nodes p)) (sym c.names.ensures.names) ∙ (looks _ nodes c.in-Ok-Some.field-0 came.0 came.1).1) c.in-Ok-Some.field-0-is))))

pub returns-in-Ok-put_file_info-clause-serves : goal.returns-in-Ok-put_file_info-clause-serves
returns-in-Ok-put_file_info-clause-serves g c =
    let before : Seen = seen g.F.Folder.nodes g.F.Folder.faults c.args.folder.now in
    let after : Seen = seen g.F.Folder.nodes g.F.Folder.faults c.look.new.self in
    done_quietly c.args.self.now before after c.requires.over (asks_same before after (folder_look c.names.result.now) (λ nodes found left is. (looks _ nodes found left is).0) c.in-Ok-Some.field-0 c.in-Ok-Some.ensures.does)
    c.requires.sound (λ s. on_handle s c.args.file (query_file s c.args.class)) (calm_by before after c.in-Ok-Some.ensures.counted) _ c.none.result c.none.ensures
    (λ nodes told holds.
    let came : (left : List Node) × (folder_look c.names.result.now nodes ≡ Some (c.in-Ok-Some.field-0, left)) × (after.told ≡ Some left) = answer_is before after (folder_look c.names.result.now) c.in-Ok-Some.field-0 c.in-Ok-Some.ensures.does nodes told in
    let node : Node = lemma.node c.args.self.now c.requires.sound c.args.file (c.in-Some.handle).now (c.in-Some.opened).now c.in-Some.ensures.some.0 c.in-Some.ensures.some.1 c.args.class nodes holds in
    lemma.file_told c.args.self.now c.requires.sound c.args.file (c.in-Some.handle).now (c.in-Some.opened).now c.in-Some.ensures.some.0 c.in-Some.ensures.some.1 c.args.class nodes holds c.in-Ok.info (c.in-Ok.ensures.ok node (lemma.look_is c.args.self.now c.requires.sound c.args.file (c.in-Some.handle).now (c.in-Some.opened).now c.in-Some.ensures.some.0 c.in-Some.ensures.some.1 c.args.class nodes holds c.in-Ok-Some.field-0 c.in-Ok-Some.look (ap (λ (p : Names). option_map look_of (node_there nodes p)) (sym c.names.ensures.names) ∙ (looks _ nodes c.in-Ok-Some.field-0 came.0 came.1).1) c.in-Ok-Some.field-0-is))
    ∙ ap (λ (bytes : List ℕ). succeeded (drive_of c.args.self.now nodes) (Buffer bytes) no_news) (sym (c.of.ensures ∙ c.in-Ok-put_file_info.ensures.bytes ∙ ap (λ (l : List ℕ). l ++ file_info_bytes c.in-Ok.info) c.requires.room)))

pub returns-in-Ok-put_file_info-clause-fits : goal.returns-in-Ok-put_file_info-clause-fits
returns-in-Ok-put_file_info-clause-fits g c =
    let few : length c.of.result ≤ max_buffer =
    subst (λ (l : List ℕ). length l ≤ max_buffer) (sym (c.of.ensures ∙ c.in-Ok-put_file_info.ensures.bytes ∙ ap (λ (l : List ℕ). l ++ file_info_bytes c.in-Ok.info) c.requires.room))
    (file_short c.in-Ok.info) in
    ((tt, can_count c.of.result few), few)
