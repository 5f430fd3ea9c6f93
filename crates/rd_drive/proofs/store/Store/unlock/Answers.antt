use Rattle.rd_tree.specs.Places.{own_path}
use Rattle.rd_drive.specs.declared.store.Store.{Store}
use Rattle.rd_base.specs.Statuses.{range_not_locked}
use Rattle.rd_drive.specs.Store.{IsSound}
use Rattle.rd_drive.proofs.ServesLemmas.{serves_unlock}
use Rattle.rd_drive.proofs.ConflictLemmas.{IsHome, unlocked_all}
use Rattle.rd_drive.proofs.LockingLemmas.{opened_live, serves_refused, sound_with, unlock_done, unlock_missing}
use Rattle.rd_drive.proofs.store.Store.unlock.Goals as goal

pub returns-in-Ok : goal.returns-in-Ok
returns-in-Ok c =
    let s = c.args.self.now in
    let new : Store = record s { locks = c.unlock.new.self } in
    let n = c.args.node.0 in
    let left = c.in-Ok.ensures.unlocked in
    let sound : IsSound new = sound_with s c.requires.sound c.unlock.new.self c.in-Ok.ensures.reserved (unlocked_all n c.args.file (IsHome s) c.args.ranges.now s.locks.locks c.unlock.new.self.locks c.requires.sound.locked left) in
    serves_unlock s new _ _ _ sound c.args.node c.unlocked.ensures (opened_live s c.requires.sound n c.args.file c.requires.opened)
    (unlock_done s n c.args.file c.requires.opened c.requires.sound.locked (own_path s.tree n) c.args.ranges.now c.unlock.new.self.locks left)

pub returns-in-Err : goal.returns-in-Err
returns-in-Err c =
    let s = c.args.self.now in
    let n = c.args.node.0 in
    serves_refused s c.requires.sound c.unlock.new.self c.in-Err.ensures.err _ range_not_locked
    (unlock_missing s n c.args.file c.requires.opened c.requires.sound.locked (own_path s.tree n) c.args.ranges.now c.in-Err.field-0 c.in-Err.ensures.missing)
