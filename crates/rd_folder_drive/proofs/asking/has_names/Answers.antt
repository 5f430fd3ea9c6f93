use Rattle.std.proofs.Common.{◌≡◌, ◌∙◌, sym, subst, ℕ, List, None, Some, Ok}
use Rattle.rd_dirinfo.specs.Patterns.{any_name}
use Rattle.rd_drive.specs.DriveState.{Node}
use Rattle.rd_folder.specs.FolderCalls.{folder_next}
use Rattle.rd_folder.specs.FolderLaws.{DoesCall}
use Rattle.rd_folder_drive.specs.Served.{Seen, seen}
use Rattle.rd_folder_drive.proofs.AskLemmas.{answer_is, asks_same}
use Rattle.rd_folder_drive.proofs.AskedLemmas.{next_only, next_told}
use Rattle.rd_folder_drive.proofs.asking.has_names.Goals as goal

pub returns-in-Ok-clause-ok : goal.returns-in-Ok-clause-ok
returns-in-Ok-clause-ok g c =
    let before : Seen = seen g.F.Folder.nodes g.F.Folder.faults c.args.folder.now in
    let after : Seen = seen g.F.Folder.nodes g.F.Folder.faults c.next-2.new.self in
    let does : DoesCall before.told after.told (folder_next c.args.path.now None any_name) (Ok c.in-Ok.found) =
    subst (λ (pattern : List ℕ). DoesCall before.told after.told (folder_next c.args.path.now None pattern) (Ok c.in-Ok.found)) c.any.ensures c.in-Ok.ensures.does in
    let same : after.told ≡ before.told = asks_same before after (folder_next c.args.path.now None any_name) (λ nodes found left is. next_only c.args.path.now nodes found left is) c.in-Ok.found does in (
      (λ i. record { told = same i; faults = c.in-Ok.ensures.counted i }),
      λ nodes told.
          let came : (left : List Node) × (folder_next c.args.path.now None any_name nodes ≡ Some (c.in-Ok.found, left)) × (after.told ≡ Some left) = answer_is before after (folder_next c.args.path.now None any_name) c.in-Ok.found does nodes told in
          next_told c.args.path.now nodes c.in-Ok.found came.0 (c.requires.folder nodes told) came.1 ∙ sym c.is_some.ensures,
    )
