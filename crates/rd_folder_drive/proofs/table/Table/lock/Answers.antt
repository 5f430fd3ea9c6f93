use Rattle.std.proofs.Common.{◌∙◌, refl, sym, ap, subst, ◌≡◌, ◌==◌, ◌||◌, not, false, List, Err}
use Rattle.std.specs.List.{list_any}
use Rattle.std.specs.Option.{option_map}
use Rattle.rd_base.specs.Statuses.{access_denied, invalid_device_request, invalid_handle, invalid_parameter}
use Rattle.rd_irp.specs.declared.op.Range.{Range}
use Rattle.rd_drive.specs.Locking.{exclusive_lock, is_lock_operation, is_past_end, lock, lock_ranges, unlock_ranges}
use Rattle.rd_drive.specs.Outcome.{on_handle}
use Rattle.rd_folder_drive.specs.declared.handle.Handle as kept
use Rattle.rd_folder_drive.specs.Alone.{ServesAlone}
use Rattle.rd_folder_drive.specs.Table.{drive_of, path_at}
use Rattle.rd_folder_drive.proofs.AloneLemmas.{alone_refused, alone_same}
use Rattle.rd_folder_drive.proofs.LockingLemmas.{lock_closed, lock_folder, lock_invalid, lock_locks, lock_unlocks}
use Rattle.rd_folder_drive.proofs.TableLemmas.{unopened}
use Rattle.rd_folder_drive.proofs.table.Table.lock.Goals as goal

pub unlock-requires-clause-opened : goal.unlock-requires-clause-opened
unlock-requires-clause-opened c = ap (option_map (λ (h : kept.Handle). h.node)) c.in-Some.ensures.some.0

pub lock_ranges-requires-clause-opened : goal.lock_ranges-requires-clause-opened
lock_ranges-requires-clause-opened c = ap (option_map (λ (h : kept.Handle). h.node)) c.in-Some.ensures.some.0

pub returns-in_default-clause-serves : goal.returns-in_default-clause-serves
returns-in_default-clause-serves c =
    let t = c.args.self.now in
    alone_refused t (λ s. on_handle s c.args.file (lock s c.args.key c.args.file c.args.operation c.args.wait c.args.ranges)) c.requires.sound t refl invalid_handle (refl, refl)
    (λ nodes holds. unopened t nodes c.args.file (lock (drive_of t nodes) c.args.key c.args.file c.args.operation c.args.wait c.args.ranges) (c.in_default.ensures.none refl))

pub returns-then-open-clause-serves : goal.returns-then-open-clause-serves
returns-then-open-clause-serves c =
    let t = c.args.self.now in
    let there = c.in-Some.ensures.some in
    alone_refused t (λ s. on_handle s c.args.file (lock s c.args.key c.args.file c.args.operation c.args.wait c.args.ranges)) c.requires.sound t refl invalid_device_request (refl, refl)
    (λ nodes holds. lock_folder t c.requires.sound c.args.file c.in-Some.handle.now c.in-Some.open.now there.0 there.1 c.args.key c.args.operation c.args.wait c.args.ranges nodes holds c.if-open.true)

pub returns-then-not-may_lock-clause-serves : goal.returns-then-not-may_lock-clause-serves
returns-then-not-may_lock-clause-serves c =
    let t = c.args.self.now in
    let there = c.in-Some.ensures.some in
    alone_refused t (λ s. on_handle s c.args.file (lock s c.args.key c.args.file c.args.operation c.args.wait c.args.ranges)) c.requires.sound t refl access_denied (refl, refl)
    (λ nodes holds. lock_closed t c.requires.sound c.args.file c.in-Some.handle.now c.in-Some.open.now there.0 there.1 c.args.key c.args.operation c.args.wait c.args.ranges nodes holds c.if-open.false
    (sym c.may_lock.ensures ∙ c.if-not-may_lock.true))

pub returns-then-is_invalid-clause-serves : goal.returns-then-is_invalid-clause-serves
returns-then-is_invalid-clause-serves c =
    let t = c.args.self.now in
    let there = c.in-Some.ensures.some in
    subst (λ (rs : List Range). ServesAlone t t (λ s. on_handle s c.args.file (lock s c.args.key c.args.file c.args.operation c.args.wait rs)) (Err invalid_parameter)) c.as_slice-wanted.ensures
    (alone_refused t (λ s. on_handle s c.args.file (lock s c.args.key c.args.file c.args.operation c.args.wait c.as_slice-wanted.result.now)) c.requires.sound t refl invalid_parameter (refl, refl)
    (λ nodes holds. lock_invalid t c.requires.sound c.args.file c.in-Some.handle.now c.in-Some.open.now there.0 there.1 c.args.key c.args.operation c.args.wait c.as_slice-wanted.result.now nodes holds c.if-open.false
    (sym c.may_lock.ensures ∙ c.if-not-may_lock.false) (sym c.is_invalid.ensures ∙ c.if-is_invalid.true)))

pub returns-then-is_unlock-clause-serves : goal.returns-then-is_unlock-clause-serves
returns-then-is_unlock-clause-serves c =
    let t = c.args.self.now in
    let there = c.in-Some.ensures.some in
    alone_same t c.unlock.new.self (λ s. unlock_ranges s c.args.file (path_at t c.in-Some.handle.now.node) c.as_slice-wanted.result.now)
    (λ s. on_handle s c.args.file (lock s c.args.key c.args.file c.args.operation c.args.wait c.args.ranges)) c.unlock.result
    (λ nodes holds.
    ap (λ (rs : List Range). on_handle (drive_of t nodes) c.args.file (lock (drive_of t nodes) c.args.key c.args.file c.args.operation c.args.wait rs)) (sym c.as_slice-wanted.ensures)
    ∙ lock_unlocks t c.requires.sound c.args.file c.in-Some.handle.now c.in-Some.open.now there.0 there.1 c.args.key c.args.operation c.args.wait c.as_slice-wanted.result.now nodes holds c.if-open.false
    (sym c.may_lock.ensures ∙ c.if-not-may_lock.false) (sym c.is_invalid.ensures ∙ c.if-is_invalid.false) (sym c.is_unlock.ensures ∙ c.if-is_unlock.true))
    c.unlock.ensures.serves

pub returns-clause-serves : goal.returns-clause-serves
returns-clause-serves c =
    let t = c.args.self.now in
    let there = c.in-Some.ensures.some in
    alone_same t c.lock_ranges.new.self (λ s. lock_ranges s c.args.key c.args.file (path_at t c.in-Some.handle.now.node) (c.args.operation == exclusive_lock) c.args.wait c.args.ranges)
    (λ s. on_handle s c.args.file (lock s c.args.key c.args.file c.args.operation c.args.wait c.args.ranges)) c.lock_ranges.result
    (λ nodes holds.
    lock_locks t c.requires.sound c.args.file c.in-Some.handle.now c.in-Some.open.now there.0 there.1 c.args.key c.args.operation c.args.wait c.args.ranges nodes holds c.if-open.false
    (sym c.may_lock.ensures ∙ c.if-not-may_lock.false)
    (subst (λ (rs : List Range). (not (is_lock_operation c.args.operation) || list_any is_past_end rs) ≡ false) c.as_slice-wanted.ensures (sym c.is_invalid.ensures ∙ c.if-is_invalid.false))
    (sym c.is_unlock.ensures ∙ c.if-is_unlock.false))
    c.lock_ranges.ensures.serves
