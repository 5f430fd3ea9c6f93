use Rattle.std.proofs.Common.{◌≡◌, [], length}
use Rattle.std.specs.Prelude.{fold}
use Rattle.std.specs.Map.{keys_of}
use Rattle.rd_drive.specs.DriveStep.{with_closed}
use Rattle.rd_drive.specs.Store.{drive_of, IsSound}
use Rattle.rd_drive.proofs.store.Store.close_all.Given as goal

abbrev pub invariant-loop-self : goal.invariant-loop-self
invariant-loop-self l = record {
  sound : IsSound l.self;
  waiting : l.self.waiting.items ≡ [];
  same : fold with_closed (drive_of l.self) (keys_of (drive_of l.self).handles) ≡ fold with_closed (drive_of l.initial.self) (keys_of (drive_of l.initial.self).handles);
}

abbrev pub decreases-loop-self : goal.decreases-loop-self
decreases-loop-self l = length l.self.handles.entries
