use Rattle.std.proofs.Common.{◌≡◌, ◌+◌, ◌-◌, ◌≤◌, [], List, length}
use Rattle.rd_drive.specs.DriveState.{Node}
use Rattle.rd_folder_drive.specs.Settling.{settled_from, IsBeside, IsHalfway}
use Rattle.rd_folder_drive.proofs.table.Table.settle.Given as goal

abbrev pub invariant-loop-at : goal.invariant-loop-at
invariant-loop-at l = record {
  halfway : IsHalfway l.self l.news l.at;
  others : IsBeside l.initial.self l.self;
  same : (nodes : List Node) → settled_from l.self l.news nodes l.at l.ends ≡ settled_from l.initial.self l.news nodes 0 [];
  few : length l.ends + length l.self.waiting.items ≤ 64;
  within : l.at ≤ length l.self.waiting.items;
}

abbrev pub decreases-loop-at : goal.decreases-loop-at
decreases-loop-at l = length l.self.waiting.items - l.at
