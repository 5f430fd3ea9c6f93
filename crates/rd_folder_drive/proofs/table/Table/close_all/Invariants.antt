use Rattle.std.proofs.Common.{◌≡◌, [], None, length}
use Rattle.rd_folder_drive.specs.Cutting.{IsOnTheWay}
use Rattle.rd_folder_drive.specs.Served.{IsOver, seen}
use Rattle.rd_folder_drive.specs.Table.{IsSound}
use Rattle.rd_folder_drive.proofs.table.Table.close_all.Given as goal

abbrev pub invariant-loop-self : goal.invariant-loop-self
invariant-loop-self g l = record {
  sound : IsSound l.self;
  over : IsOver l.self (seen g.F.Folder.nodes g.F.Folder.faults l.folder);
  waiting : l.self.waiting.items ≡ [];
  untold : g.F.Folder.nodes l.initial.folder ≡ None → g.F.Folder.nodes l.folder ≡ None;
  way : IsOnTheWay l.initial.self (seen g.F.Folder.nodes g.F.Folder.faults l.initial.folder) l.self (seen g.F.Folder.nodes g.F.Folder.faults l.folder);
}

abbrev pub decreases-loop-self : goal.decreases-loop-self
decreases-loop-self g l = length l.self.handles.entries
