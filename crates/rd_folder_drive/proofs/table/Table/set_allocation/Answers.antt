use Rattle.std.proofs.Common.{◌∙◌, refl, sym, ap, subst}
use Rattle.std.specs.Option.{option_map}
use Rattle.rd_base.specs.Statuses.{invalid_handle}
use Rattle.rd_dirinfo.specs.Paths.{Names}
use Rattle.rd_fileinfo.specs.declared.set_info.SetInfo.TheVariants as set
use Rattle.rd_folder.specs.FolderCalls.{look_of, node_there}
use Rattle.rd_folder_drive.specs.Served.{Seen, Serves, seen}
use Rattle.rd_folder_drive.specs.Setting.{ends, sets_of}
use Rattle.rd_folder_drive.proofs.AskedLemmas.{serves_same}
use Rattle.rd_folder_drive.proofs.ServeLemmas.{refused_at_once}
use Rattle.rd_folder_drive.proofs.SetLemmas as lemma
use Rattle.rd_folder_drive.proofs.TableLemmas.{unopened}
use Rattle.rd_folder_drive.proofs.table.Table.set_allocation.Goals as goal

pub returns-in_default-clause-serves : goal.returns-in_default-clause-serves
returns-in_default-clause-serves g c =
    refused_at_once c.args.self.now (seen g.F.Folder.nodes g.F.Folder.faults c.args.folder.now) c.requires.over c.requires.sound (sets_of c.args.file c.args.moment c.args.count (set.Allocation c.args.size))
    invalid_handle (refl, refl) (λ nodes holds. unopened c.args.self.now nodes c.args.file _ (c.held.ensures.none c.in_default.is))

pub returns-in-Ok-Some-clause-serves : goal.returns-in-Ok-Some-clause-serves
returns-in-Ok-Some-clause-serves g c =
    let t = c.args.self.now in
    let o = (c.in-Some.opened).now in
    let before : Seen = seen g.F.Folder.nodes g.F.Folder.faults c.args.folder.now in
    let after : Seen = seen g.F.Folder.nodes g.F.Folder.faults c.set_end.new.folder in
    serves_same t t before after c.requires.over (ends c.args.file c.args.moment c.args.count c.args.size c.min.result) (sets_of c.args.file c.args.moment c.args.count (set.Allocation c.args.size)) c.set_end.result
    (λ nodes told holds.
    lemma.cut_same t c.requires.sound c.args.moment c.args.file c.args.count _ o c.in-Some.ensures.some.0 c.in-Some.ensures.some.1 nodes holds c.args.size c.min.result c.in-Ok-Some.field-0 c.in-Ok-Some.look
    (ap (λ (p : Names). option_map look_of (node_there nodes p)) (sym c.names.ensures.names) ∙ c.in-Ok-Some.ensures.ok.1 nodes told) c.in-Ok-Some.field-0-is c.min.ensures)
    (subst (λ (s : Seen). Serves t s t after (ends c.args.file c.args.moment c.args.count c.args.size c.min.result) c.set_end.result) c.in-Ok-Some.ensures.ok.0 c.set_end.ensures.serves)
