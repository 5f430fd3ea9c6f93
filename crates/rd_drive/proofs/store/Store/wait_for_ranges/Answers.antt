use Rattle.std.proofs.Common.{◌∙◌, refl, sym, ap, subst, inl, ◌+◌, ◌<◌, ◌≤◌, length, List, Err, true, arith}
use Rattle.std.specs.Option.{is_some, IsSome}
use Rattle.rd_locks.specs.declared.locks.LockNo.{LockNo}
use Rattle.rd_locks.specs.Locks as held
use Rattle.rd_locks.specs.Locks.{LockList, conflict}
use Rattle.rd_tree.specs.Places.{own_path}
use Rattle.rd_drive.specs.DriveState as drive
use Rattle.rd_drive.specs.Locking.{lock_ranges, waits}
use Rattle.rd_irp.specs.declared.op.Range.{Range}
use Rattle.rd_base.specs.Statuses.{insufficient_resources, lock_not_granted}
use Rattle.rd_drive.specs.Store.{drive_of, Serves}
use Rattle.rd_drive.proofs.LockingLemmas.{alone_is, lock_denied, lock_waits, not_more, opened_live, opened_some, serves_refused, wait_full, wait_refused}
use Rattle.rd_drive.proofs.ParkLemmas.{serves_parked}
use Rattle.rd_drive.proofs.store.Store.wait_for_ranges.Goals.{then-len-ge-MAX_WAITING-via-then-len-ge-MAX_WAITING, then-len-ge-MAX_WAITING-via-else-len-ge-MAX_WAITING+then-count-gt-MAX_LOCKS}
use Rattle.rd_drive.proofs.store.Store.wait_for_ranges.Goals as goal

pub returns-then-is_some : goal.returns-then-is_some
returns-then-is_some c =
    let s = c.args.self.now in
    let n = c.args.node.0 in
    let live = opened_live s c.requires.sound n c.args.file c.requires.opened in
    let alone = alone_is c.new-alone.result c.conflict.result (held.wanted_locks n c.args.file c.args.exclusive c.as_slice-wanted.result.now) c.new-alone.ensures c.conflict.ensures in
    let blocked = subst (λ (rs : List Range). IsSome (conflict s.locks.locks (held.wanted_locks n c.args.file c.args.exclusive rs))) (sym c.as_slice-wanted.ensures) c.requires.blocked in
    subst (λ (rs : List Range). Serves s s (lock_ranges (drive_of s) c.args.key c.args.file (own_path s.tree n) c.args.exclusive true rs) (Err lock_not_granted)) c.as_slice-wanted.ensures
    (c.requires.sound, inl (lock_denied s c.requires.sound n live c.args.key c.args.file c.args.exclusive true c.as_slice-wanted.result.now blocked (ap is_some alone ∙ sym c.is_some.ensures ∙ c.if-is_some.true)))

pub returns-then-len-ge-MAX_WAITING : goal.returns-then-len-ge-MAX_WAITING
returns-then-len-ge-MAX_WAITING c =
    let s = c.args.self.now in
    let n = c.args.node.0 in
    let live = opened_live s c.requires.sound n c.args.file c.requires.opened in
    let alone = alone_is c.new-alone.result c.conflict.result (held.wanted_locks n c.args.file c.args.exclusive c.as_slice-wanted.result.now) c.new-alone.ensures c.conflict.ensures in
    let blocked = subst (λ (rs : List Range). IsSome (conflict s.locks.locks (held.wanted_locks n c.args.file c.args.exclusive rs))) (sym c.as_slice-wanted.ensures) c.requires.blocked in
    let may = ap is_some alone ∙ sym c.is_some.ensures ∙ c.if-is_some.false in
    subst (λ (rs : List Range). Serves s s (lock_ranges (drive_of s) c.args.key c.args.file (own_path s.tree n) c.args.exclusive true rs) (Err insufficient_resources)) c.as_slice-wanted.ensures (
      c.requires.sound,
      inl (elim c.then-len-ge-MAX_WAITING.branch [
        | then-len-ge-MAX_WAITING-via-then-len-ge-MAX_WAITING w ↦
            wait_refused s c.requires.sound n live c.args.key c.args.file c.args.exclusive true c.as_slice-wanted.result.now blocked may (omega arith)
        | then-len-ge-MAX_WAITING-via-else-len-ge-MAX_WAITING+then-count-gt-MAX_LOCKS w ↦
            wait_full s c.requires.sound n live c.args.key c.args.file c.args.exclusive true c.as_slice-wanted.result.now blocked may (omega arith)
      ]),
    )

pub returns-in-Ok : goal.returns-in-Ok
returns-in-Ok c =
    let s = c.args.self.now in
    let n = c.args.node.0 in
    let live = opened_live s c.requires.sound n c.args.file c.requires.opened in
    let alone = alone_is c.new-alone.result c.conflict.result (held.wanted_locks n c.args.file c.args.exclusive c.as_slice-wanted.result.now) c.new-alone.ensures c.conflict.ensures in
    let blocked = subst (λ (rs : List Range). IsSome (conflict s.locks.locks (held.wanted_locks n c.args.file c.args.exclusive rs))) (sym c.as_slice-wanted.ensures) c.requires.blocked in
    let may = ap is_some alone ∙ sym c.is_some.ensures ∙ c.if-is_some.false in
    let left = c.in-Ok.ensures.reserved in
    let few : length s.waiting.items < 64 = omega arith in
    let room : length s.locks.locks + s.locks.reserved + length c.as_slice-wanted.result.now ≤ 65536 =
    not_more 65536 (length s.locks.locks + s.locks.reserved + length c.as_slice-wanted.result.now) (λ many. let both = c.in-Ok.ensures.full.1 many in absurd (cc)) in
    serves_parked s _ _ c.requires.sound c.reserve.new.self _ _ refl c.park.ensures (ap (λ (ls : LockList). ls.locks) left) (ap (λ (ls : LockList). ls.reserved) left ∙ ap (λ (rs : List Range). s.locks.reserved + length rs) c.as_slice-wanted.ensures)
    few (opened_some s n c.args.file c.requires.opened) tt s _
    (ap (λ (rs : List Range). lock_ranges (drive_of s) c.args.key c.args.file (own_path s.tree n) c.args.exclusive true rs) (sym c.as_slice-wanted.ensures)
    ∙ lock_waits s c.requires.sound n live c.args.key c.args.file c.args.exclusive true c.as_slice-wanted.result.now blocked may few room
    ∙ ap (λ (rs : List Range). waits (drive_of s) c.args.key c.args.file (drive.Ranges c.args.exclusive rs)) c.as_slice-wanted.ensures)

pub returns-in-Err-Full : goal.returns-in-Err-Full
returns-in-Err-Full c =
    let s = c.args.self.now in
    let n = c.args.node.0 in
    let live = opened_live s c.requires.sound n c.args.file c.requires.opened in
    let alone = alone_is c.new-alone.result c.conflict.result (held.wanted_locks n c.args.file c.args.exclusive c.as_slice-wanted.result.now) c.new-alone.ensures c.conflict.ensures in
    let blocked = subst (λ (rs : List Range). IsSome (conflict s.locks.locks (held.wanted_locks n c.args.file c.args.exclusive rs))) (sym c.as_slice-wanted.ensures) c.requires.blocked in
    let may = ap is_some alone ∙ sym c.is_some.ensures ∙ c.if-is_some.false in
    subst (λ (rs : List Range). Serves s (record s { locks = c.reserve.new.self }) (lock_ranges (drive_of s) c.args.key c.args.file (own_path s.tree n) c.args.exclusive true rs) (Err insufficient_resources)) c.as_slice-wanted.ensures
    (serves_refused s c.requires.sound c.reserve.new.self c.in-Err-Full.ensures.err _ insufficient_resources
    (wait_full s c.requires.sound n live c.args.key c.args.file c.args.exclusive true c.as_slice-wanted.result.now blocked may (c.in-Err-Full.ensures.full.0 (ap (λ (no : LockNo). Err no) c.in-Err-Full.field-0-is))))
