use Rattle.std.proofs.Common.{◌∙◌, sym, ap, subst, inl, ◌==◌, List, Err}
use Rattle.std.specs.Option.{option_map}
use Rattle.rd_irp.specs.declared.op.Range.{Range}
use Rattle.rd_tree.specs.Places.{bytes_at, own_path}
use Rattle.rd_drive.specs.declared.handle.Handle as kept
use Rattle.rd_drive.specs.Locking.{exclusive_lock, lock, lock_ranges}
use Rattle.rd_drive.specs.Outcome.{Outcome, on_handle}
use Rattle.rd_base.specs.Statuses.{invalid_parameter}
use Rattle.rd_drive.specs.Store.{drive_of, Serves}
use Rattle.rd_drive.proofs.HandleLemmas.{opened_place, unopened}
use Rattle.rd_drive.proofs.WriteLemmas.{bytes_none, bytes_some}
use Rattle.rd_drive.proofs.LockingLemmas.{lock_closed, lock_folder, lock_invalid, lock_locks, lock_unlocks}
use Rattle.rd_drive.proofs.store.Store.lock.Goals as goal

pub unlock-requires-clause-opened : goal.unlock-requires-clause-opened
unlock-requires-clause-opened c = ap (option_map (λ (h : kept.Handle). h.node.0)) (sym c.in-Some.ensures)

pub lock_ranges-requires-clause-opened : goal.lock_ranges-requires-clause-opened
lock_ranges-requires-clause-opened c = ap (option_map (λ (h : kept.Handle). h.node.0)) (sym c.in-Some.ensures)

pub returns-in_default : goal.returns-in_default
returns-in_default c =
    let s = c.args.self.now in
    (c.requires.sound, inl (unopened s c.args.file (lock (drive_of s) c.args.key c.args.file c.args.operation c.args.wait c.args.ranges) (sym c.in_default.ensures)))

pub returns-then-is_folder : goal.returns-then-is_folder
returns-then-is_folder c =
    let s = c.args.self.now in
    let h = c.in-Some.handle.now in
    let there = sym c.in-Some.ensures in
    let x = opened_place s c.requires.sound c.args.file h there in
    (c.requires.sound, inl (lock_folder s c.requires.sound c.args.file h there x.0 x.1 c.args.key c.args.operation c.args.wait c.args.ranges (bytes_none c.is_folder.result (bytes_at s.tree h.node.0) c.is_folder.ensures.bytes c.if-is_folder.true)))

pub returns-then-not-may_lock : goal.returns-then-not-may_lock
returns-then-not-may_lock c =
    let s = c.args.self.now in
    let h = c.in-Some.handle.now in
    let there = sym c.in-Some.ensures in
    let x = opened_place s c.requires.sound c.args.file h there in
    let b = bytes_some c.is_folder.result (bytes_at s.tree h.node.0) c.is_folder.ensures.bytes c.if-is_folder.false in
    (c.requires.sound, inl (lock_closed s c.requires.sound c.args.file h there x.0 x.1 c.args.key c.args.operation c.args.wait c.args.ranges b.0 b.1 (sym c.may_lock.ensures ∙ c.if-not-may_lock.true)))

pub returns-then-is_invalid : goal.returns-then-is_invalid
returns-then-is_invalid c =
    let s = c.args.self.now in
    let h = c.in-Some.handle.now in
    let there = sym c.in-Some.ensures in
    let x = opened_place s c.requires.sound c.args.file h there in
    let b = bytes_some c.is_folder.result (bytes_at s.tree h.node.0) c.is_folder.ensures.bytes c.if-is_folder.false in
    subst (λ (rs : List Range). Serves s s (on_handle (drive_of s) c.args.file (lock (drive_of s) c.args.key c.args.file c.args.operation c.args.wait rs)) (Err invalid_parameter)) c.as_slice-wanted.ensures
    (c.requires.sound, inl (lock_invalid s c.requires.sound c.args.file h there x.0 x.1 c.args.key c.args.operation c.args.wait c.as_slice-wanted.result.now b.0 b.1 (sym c.may_lock.ensures ∙ c.if-not-may_lock.false) (sym c.is_invalid.ensures ∙ c.if-is_invalid.true)))

pub returns-then-is_unlock : goal.returns-then-is_unlock
returns-then-is_unlock c =
    let s = c.args.self.now in
    let h = c.in-Some.handle.now in
    let there = sym c.in-Some.ensures in
    let x = opened_place s c.requires.sound c.args.file h there in
    let b = bytes_some c.is_folder.result (bytes_at s.tree h.node.0) c.is_folder.ensures.bytes c.if-is_folder.false in
    let is = lock_unlocks s c.requires.sound c.args.file h there x.0 x.1 c.args.key c.args.operation c.args.wait c.as_slice-wanted.result.now b.0 b.1 (sym c.may_lock.ensures ∙ c.if-not-may_lock.false) (sym c.is_invalid.ensures ∙ c.if-is_invalid.false) (sym c.is_unlock.ensures ∙ c.if-is_unlock.true) in
    subst (λ (o : Outcome). Serves s c.unlock.new.self o c.unlock.result)
    (sym is ∙ ap (λ (rs : List Range). on_handle (drive_of s) c.args.file (lock (drive_of s) c.args.key c.args.file c.args.operation c.args.wait rs)) c.as_slice-wanted.ensures) c.unlock.ensures

pub returns : goal.returns
returns c =
    let s = c.args.self.now in
    let h = c.in-Some.handle.now in
    let there = sym c.in-Some.ensures in
    let x = opened_place s c.requires.sound c.args.file h there in
    let b = bytes_some c.is_folder.result (bytes_at s.tree h.node.0) c.is_folder.ensures.bytes c.if-is_folder.false in
    let is = lock_locks s c.requires.sound c.args.file h there x.0 x.1 c.args.key c.args.operation c.args.wait c.as_slice-wanted.result.now b.0 b.1 (sym c.may_lock.ensures ∙ c.if-not-may_lock.false) (sym c.is_invalid.ensures ∙ c.if-is_invalid.false) (sym c.is_unlock.ensures ∙ c.if-is_unlock.false) in
    subst (λ (o : Outcome). Serves s c.lock_ranges.new.self o c.lock_ranges.result)
    (sym (ap (λ (rs : List Range). on_handle (drive_of s) c.args.file (lock (drive_of s) c.args.key c.args.file c.args.operation c.args.wait rs)) (sym c.as_slice-wanted.ensures)
    ∙ is ∙ ap (λ (rs : List Range). lock_ranges (drive_of s) c.args.key c.args.file (own_path s.tree h.node.0) (c.args.operation == exclusive_lock) c.args.wait rs) c.as_slice-wanted.ensures))
    c.lock_ranges.ensures
