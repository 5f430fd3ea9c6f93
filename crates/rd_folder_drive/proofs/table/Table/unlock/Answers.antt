use Rattle.std.proofs.Common.{ap, refl}
use Rattle.rd_base.specs.Statuses.{range_not_locked}
use Rattle.rd_drive.specs.Locking.{unlock_ranges}
use Rattle.rd_drive.proofs.ConflictLemmas.{unlocked_all}
use Rattle.rd_folder_drive.specs.declared.table.Table.{Table}
use Rattle.rd_folder_drive.specs.Table.{IsSound, path_at}
use Rattle.rd_folder_drive.proofs.AloneLemmas.{alone_refused, alone_unlock}
use Rattle.rd_folder_drive.proofs.BesideLemmas.{beside_holds, locks_sound}
use Rattle.rd_folder_drive.proofs.LockLemmas.{IsHome, open_home}
use Rattle.rd_folder_drive.proofs.LockingLemmas.{unlock_done, unlock_missing}
use Rattle.rd_folder_drive.proofs.table.Table.unlock.Goals as goal

pub returns-in-Ok-clause-serves : goal.returns-in-Ok-clause-serves
returns-in-Ok-clause-serves c =
    let t = c.args.self.now in
    let new : Table = record t { locks = c.unlock.new.self } in
    let n = c.args.node in
    let left = c.in-Ok.ensures.unlocked in
    let sound : IsSound new = locks_sound t c.requires.sound c.unlock.new.self c.in-Ok.ensures.reserved (unlocked_all n c.args.file (IsHome t) c.args.ranges.now t.locks.locks c.unlock.new.self.locks c.requires.sound.locked left) in
    alone_unlock t new (λ s. unlock_ranges s c.args.file (path_at t n) c.args.ranges.now) _ _ sound n c.unlocked.ensures (open_home t c.requires.sound n c.args.file c.requires.opened)
    (λ nodes holds. (
      beside_holds t c.unlock.new.self t.waiting nodes holds,
      unlock_done t nodes n c.args.file c.requires.opened c.requires.sound.locked (path_at t n) c.args.ranges.now c.unlock.new.self.locks left,
    ))

pub returns-in-Err-clause-serves : goal.returns-in-Err-clause-serves
returns-in-Err-clause-serves c =
    let t = c.args.self.now in
    let n = c.args.node in
    alone_refused t (λ s. unlock_ranges s c.args.file (path_at t n) c.args.ranges.now) c.requires.sound (record t { locks = c.unlock.new.self }) (ap (λ locks. record t { locks = locks }) c.in-Err.ensures.err) range_not_locked (refl, refl)
    (λ nodes holds. unlock_missing t nodes n c.args.file c.requires.opened c.requires.sound.locked (path_at t n) c.args.ranges.now c.in-Err.field-0 c.in-Err.ensures.missing)
