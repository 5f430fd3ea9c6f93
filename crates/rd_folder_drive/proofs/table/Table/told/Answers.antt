use Rattle.std.proofs.Common.{◌∙◌, sym, subst, ◌≤◌, length}
use Rattle.rd_dirinfo.specs.Paths.{Names, joined}
use Rattle.rd_folder_drive.specs.Telling.{rest_below}
use Rattle.rd_folder_drive.specs.Served.{named_path}
use Rattle.rd_folder_drive.specs.Table.{path_at}
use Rattle.rd_folder_drive.proofs.TellingLemmas.{below_rest, rest_short}
use Rattle.rd_folder_drive.proofs.table.Table.told.Goals as goal

pub told_bytes-requires-clause-short : goal.told_bytes-requires-clause-short
told_bytes-requires-clause-short c =
    let folder = path_at c.args.self.now c.args.node in
    let path = named_path c.args.self.now c.args.change.now.named in
    let names = below_rest folder path c.in-Some.names.now c.requires.below (c.in-Some.ensures ∙ (λ i. rest_below (c.path.ensures i) (c.named_path.ensures i))) in
    subst (λ (ns : Names). length (joined ns) ≤ 4096) (sym names) (rest_short folder path c.requires.short)
