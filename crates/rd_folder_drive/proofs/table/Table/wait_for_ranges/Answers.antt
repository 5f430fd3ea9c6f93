use Rattle.std.proofs.Common.{◌∙◌, refl, sym, ap, subst, ◌+◌, ◌<◌, ◌≤◌, length, List, Err, true, arith}
use Rattle.std.specs.Option.{is_some, IsSome}
use Rattle.rd_base.specs.Statuses.{insufficient_resources, lock_not_granted}
use Rattle.rd_irp.specs.declared.op.Range.{Range}
use Rattle.rd_locks.specs.declared.locks.LockNo.{LockNo}
use Rattle.rd_locks.specs.Locks as held
use Rattle.rd_locks.specs.Locks.{LockList, conflict}
use Rattle.rd_drive.specs.DriveState as drive
use Rattle.rd_drive.specs.Locking.{lock_ranges, waits}
use Rattle.rd_drive.proofs.LockingLemmas.{alone_is, not_more}
use Rattle.rd_folder_drive.specs.Alone.{ServesAlone}
use Rattle.rd_folder_drive.specs.Table.{drive_of, path_at}
use Rattle.rd_folder_drive.proofs.AloneLemmas.{alone_refused, alone_starved}
use Rattle.rd_folder_drive.proofs.LockLemmas.{open_home}
use Rattle.rd_folder_drive.proofs.LockingLemmas.{lock_denied, lock_waits, opens_some, wait_full, wait_refused}
use Rattle.rd_folder_drive.proofs.ParkLemmas.{alone_parked, waits_last}
use Rattle.rd_folder_drive.proofs.table.Table.wait_for_ranges.Goals.{then-len-ge-MAX_WAITING-via-then-len-ge-MAX_WAITING, then-len-ge-MAX_WAITING-via-else-len-ge-MAX_WAITING+then-count-gt-MAX_LOCKS}
use Rattle.rd_folder_drive.specs.declared.table.Table.{Table}
use Rattle.rd_folder_drive.specs.Files.{files_in}
use Rattle.rd_folder_drive.proofs.table.Table.wait_for_ranges.Goals as goal

pub returns-then-is_some-clause-serves : goal.returns-then-is_some-clause-serves
returns-then-is_some-clause-serves c =
    let t = c.args.self.now in
    let n = c.args.node in
    let on = open_home t c.requires.sound n c.args.file c.requires.opened in
    let alone = alone_is c.new-alone.result c.conflict.result (held.wanted_locks n c.args.file c.args.exclusive c.as_slice-wanted.result.now) c.new-alone.ensures c.conflict.ensures in
    let blocked = subst (λ (rs : List Range). IsSome (conflict t.locks.locks (held.wanted_locks n c.args.file c.args.exclusive rs))) (sym c.as_slice-wanted.ensures) c.requires.blocked in
    subst (λ (rs : List Range). ServesAlone t t (λ s. lock_ranges s c.args.key c.args.file (path_at t n) c.args.exclusive true rs) (Err lock_not_granted)) c.as_slice-wanted.ensures
    (alone_refused t (λ s. lock_ranges s c.args.key c.args.file (path_at t n) c.args.exclusive true c.as_slice-wanted.result.now) c.requires.sound t refl lock_not_granted (refl, refl)
    (λ nodes holds. lock_denied t c.requires.sound n on c.args.key c.args.file c.args.exclusive true c.as_slice-wanted.result.now nodes blocked (ap is_some alone ∙ sym c.is_some.ensures ∙ c.if-is_some.true)))

pub returns-then-len-ge-MAX_WAITING-clause-serves : goal.returns-then-len-ge-MAX_WAITING-clause-serves
returns-then-len-ge-MAX_WAITING-clause-serves c =
    let t = c.args.self.now in
    let n = c.args.node in
    let on = open_home t c.requires.sound n c.args.file c.requires.opened in
    let alone = alone_is c.new-alone.result c.conflict.result (held.wanted_locks n c.args.file c.args.exclusive c.as_slice-wanted.result.now) c.new-alone.ensures c.conflict.ensures in
    let blocked = subst (λ (rs : List Range). IsSome (conflict t.locks.locks (held.wanted_locks n c.args.file c.args.exclusive rs))) (sym c.as_slice-wanted.ensures) c.requires.blocked in
    let may = ap is_some alone ∙ sym c.is_some.ensures ∙ c.if-is_some.false in
    subst (λ (rs : List Range). ServesAlone t t (λ s. lock_ranges s c.args.key c.args.file (path_at t n) c.args.exclusive true rs) (Err insufficient_resources)) c.as_slice-wanted.ensures
    (alone_refused t (λ s. lock_ranges s c.args.key c.args.file (path_at t n) c.args.exclusive true c.as_slice-wanted.result.now) c.requires.sound t refl insufficient_resources (refl, refl)
    (λ nodes holds. elim c.then-len-ge-MAX_WAITING.branch [
      | then-len-ge-MAX_WAITING-via-then-len-ge-MAX_WAITING w ↦
          wait_refused t c.requires.sound n on c.args.key c.args.file c.args.exclusive true c.as_slice-wanted.result.now nodes blocked may (omega arith)
      | then-len-ge-MAX_WAITING-via-else-len-ge-MAX_WAITING+then-count-gt-MAX_LOCKS w ↦
          wait_full t c.requires.sound n on c.args.key c.args.file c.args.exclusive true c.as_slice-wanted.result.now nodes blocked may (omega arith)
    ]))

pub returns-in-Ok-clause-serves : goal.returns-in-Ok-clause-serves
returns-in-Ok-clause-serves c =
    let t = c.args.self.now in
    let n = c.args.node in
    let on = open_home t c.requires.sound n c.args.file c.requires.opened in
    let alone = alone_is c.new-alone.result c.conflict.result (held.wanted_locks n c.args.file c.args.exclusive c.as_slice-wanted.result.now) c.new-alone.ensures c.conflict.ensures in
    let blocked = subst (λ (rs : List Range). IsSome (conflict t.locks.locks (held.wanted_locks n c.args.file c.args.exclusive rs))) (sym c.as_slice-wanted.ensures) c.requires.blocked in
    let may = ap is_some alone ∙ sym c.is_some.ensures ∙ c.if-is_some.false in
    let left = c.in-Ok.ensures.reserved in
    let few : length t.waiting.items < 64 = omega arith in
    let room : length t.locks.locks + t.locks.reserved + length c.as_slice-wanted.result.now ≤ 65536 =
    not_more 65536 (length t.locks.locks + t.locks.reserved + length c.as_slice-wanted.result.now) (λ many. let both = c.in-Ok.ensures.full.1 many in absurd (cc)) in
    alone_parked t _ _ c.requires.sound c.reserve.new.self _ _ refl c.park.ensures (ap (λ (ls : LockList). ls.locks) left) (ap (λ (ls : LockList). ls.reserved) left ∙ ap (λ (rs : List Range). t.locks.reserved + length rs) c.as_slice-wanted.ensures)
    few (opens_some t n c.args.file c.requires.opened) tt (λ s. lock_ranges s c.args.key c.args.file (path_at t n) c.args.exclusive true c.args.ranges)
    (λ nodes holds.
    ap (λ (rs : List Range). lock_ranges (drive_of t nodes) c.args.key c.args.file (path_at t n) c.args.exclusive true rs) (sym c.as_slice-wanted.ensures)
    ∙ lock_waits t c.requires.sound n on c.args.key c.args.file c.args.exclusive true c.as_slice-wanted.result.now nodes blocked may few room
    ∙ ap (λ (rs : List Range). waits (drive_of t nodes) c.args.key c.args.file (drive.Ranges c.args.exclusive rs)) c.as_slice-wanted.ensures)

pub returns-in-Err-Full-clause-serves : goal.returns-in-Err-Full-clause-serves
returns-in-Err-Full-clause-serves c =
    let t = c.args.self.now in
    let n = c.args.node in
    let on = open_home t c.requires.sound n c.args.file c.requires.opened in
    let alone = alone_is c.new-alone.result c.conflict.result (held.wanted_locks n c.args.file c.args.exclusive c.as_slice-wanted.result.now) c.new-alone.ensures c.conflict.ensures in
    let blocked = subst (λ (rs : List Range). IsSome (conflict t.locks.locks (held.wanted_locks n c.args.file c.args.exclusive rs))) (sym c.as_slice-wanted.ensures) c.requires.blocked in
    let may = ap is_some alone ∙ sym c.is_some.ensures ∙ c.if-is_some.false in
    subst (λ (rs : List Range). ServesAlone t (record t { locks = c.reserve.new.self }) (λ s. lock_ranges s c.args.key c.args.file (path_at t n) c.args.exclusive true rs) (Err insufficient_resources)) c.as_slice-wanted.ensures
    (alone_refused t (λ s. lock_ranges s c.args.key c.args.file (path_at t n) c.args.exclusive true c.as_slice-wanted.result.now) c.requires.sound _ (ap (λ (ls : LockList). record t { locks = ls }) c.in-Err-Full.ensures.err) insufficient_resources (refl, refl)
    (λ nodes holds. wait_full t c.requires.sound n on c.args.key c.args.file c.args.exclusive true c.as_slice-wanted.result.now nodes blocked may (c.in-Err-Full.ensures.full.0 (ap (λ (no : LockNo). Err no) c.in-Err-Full.field-0-is))))

pub returns : goal.returns
returns c =
    let t = c.args.self.now in
    record {
      serves = alone_starved t (λ s. lock_ranges s c.args.key c.args.file (path_at t c.args.node) c.args.exclusive true c.args.ranges) c.requires.sound _ (ap (λ (ls : LockList). record t { locks = ls }) c.in-Err.ensures.err);
      unreplied = tt;
      waits = refl;
      files = refl;
    }

pub returns-in-Ok-clause-waits : goal.returns-in-Ok-clause-waits
returns-in-Ok-clause-waits c = waits_last c.args.self.now _ _ _ _ c.park.ensures refl

pub returns-in-Ok-clause-files : goal.returns-in-Ok-clause-files
returns-in-Ok-clause-files c = ap (λ (t : Table). files_in t) c.park.ensures.same
