use Rattle.std.proofs.Common.{◌≡◌, length}
use Rattle.rd_sharing.proofs.FoldersLemmas.{HasOpened}
use Rattle.rd_sharing.proofs.opening.open_folders.Given as goal

-- the folders so far are opened
abbrev pub invariant-loop-id : goal.invariant-loop-id
invariant-loop-id g l = record {
  opened : HasOpened l.fn.drives.entries l.drives.entries (g.D.Folders.opened l.initial.folders) (g.D.Folders.opened l.folders) l.initial.served l.served;
  failures : g.D.Folders.failures l.folders ≡ g.D.Folders.failures l.initial.folders;
  trouble : g.D.Folders.trouble l.folders ≡ g.D.Folders.trouble l.initial.folders;
}

abbrev pub decreases-loop-id : goal.decreases-loop-id
decreases-loop-id g l = length l.drives.entries
