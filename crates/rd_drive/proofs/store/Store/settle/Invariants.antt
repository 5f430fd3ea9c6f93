use Rattle.std.proofs.Common.{◌≡◌, ◌+◌, ◌-◌, ◌≤◌, [], length}
use Rattle.rd_drive.specs.Settling.{settled_from, IsHalfway}
use Rattle.rd_drive.proofs.store.Store.settle.Given as goal

abbrev pub invariant-loop-at : goal.invariant-loop-at
invariant-loop-at l = record {
  halfway : IsHalfway l.self l.news l.at;
  same : settled_from l.self l.news l.at l.ends ≡ settled_from l.initial.self l.news 0 [];
  few : length l.ends + length l.self.waiting.items ≤ 64;
  within : l.at ≤ length l.self.waiting.items;
}

abbrev pub decreases-loop-at : goal.decreases-loop-at
decreases-loop-at l = length l.self.waiting.items - l.at
