use Rattle.std.proofs.Common.{◌≡◌, ◌∙◌, sym, ap, subst, ◌+◌, ◌≤◌, ◌++◌, length, map, List, None, Ok, Err, Bool, not, ◌||◌, []}
use Rattle.std.specs.Option.{is_some}
use Rattle.std.proofs.lemmas.List.{map-append}
use Rattle.rd_locks.specs.declared.held.Held.{Held}
use Rattle.rd_locks.specs.declared.locks.LockNo.{LockNo}
use Rattle.rd_locks.specs.Locks as held
use Rattle.rd_locks.specs.Locks.{LockList, conflict}
use Rattle.rd_irp.specs.declared.completion.Body.TheVariants.{Locked}
use Rattle.rd_tree.specs.Places.{own_path}
use Rattle.rd_drive.specs.declared.store.Store.{Store}
use Rattle.rd_drive.specs.DriveState as drive
use Rattle.rd_drive.specs.Locking.{lock_ranges}
use Rattle.rd_irp.specs.declared.op.Range.{Range}
use Rattle.rd_drive.specs.declared.store.Done.TheVariants.{Replied}
use Rattle.rd_drive.specs.Outcome.{no_news, succeeded}
use Rattle.rd_base.specs.Statuses.{insufficient_resources, lock_not_granted}
use Rattle.rd_drive.specs.Store.{drive_of, lock_of, IsSound, Serves}
use Rattle.rd_drive.proofs.ServesLemmas.{serves_quiet}
use Rattle.rd_drive.proofs.ConflictLemmas.{wanted_seen}
use Rattle.rd_drive.proofs.LockingLemmas.{lock_denied, lock_full, lock_granted, more_homes, none_found, not_more, opened_live, serves_refused, sound_with}
use Rattle.rd_drive.proofs.ConflictLemmas.{IsHome}
use Rattle.std.specs.List.{AllByRecursion}
use Rattle.rd_drive.proofs.store.Store.lock_ranges.Goals as goal

pub wait_for_ranges-requires-clause-blocked : goal.wait_for_ranges-requires-clause-blocked
wait_for_ranges-requires-clause-blocked c =
    let e = (c.in-Err-Conflict.ensures.conflict c.in-Err-Conflict.field-0-0).0 (ap (λ (no : LockNo). Err no) c.in-Err-Conflict.field-0-is) in
    (λ i. is_some (conflict (c.in-Err-Conflict.ensures.err i).locks (held.wanted_locks c.args.node.0 c.args.file c.args.exclusive (sym c.as_slice-wanted.ensures i)))) ∙ ap is_some e

pub returns-in-Ok : goal.returns-in-Ok
returns-in-Ok c =
    let s = c.args.self.now in
    let n = c.args.node.0 in
    let wanted : List Held = held.wanted_locks n c.args.file c.args.exclusive c.as_slice-wanted.result.now in
    let new : Store = record s { locks = c.lock.new.self } in
    let live = opened_live s c.requires.sound n c.args.file c.requires.opened in
    let left : c.lock.new.self ≡ record { locks = s.locks.locks ++ wanted; reserved = s.locks.reserved } = c.in-Ok.ensures.locked in
    let free : conflict s.locks.locks wanted ≡ None = none_found (conflict s.locks.locks wanted) (λ lock e. let both = (c.in-Ok.ensures.conflict lock).1 e in absurd (cc)) in
    let few : length s.locks.locks + s.locks.reserved + length c.as_slice-wanted.result.now ≤ 65536 =
    not_more 65536 (length s.locks.locks + s.locks.reserved + length c.as_slice-wanted.result.now) (λ many. let both = c.in-Ok.ensures.full.1 (free, many) in absurd (cc)) in
    let sound : IsSound new =
    sound_with s c.requires.sound c.lock.new.self (ap (λ (ls : LockList). ls.reserved) left)
    (subst (λ (ls : LockList). AllByRecursion (IsHome s) ls.locks) (sym left) (more_homes s n c.args.file c.args.exclusive c.as_slice-wanted.result.now c.requires.opened s.locks.locks c.requires.sound.locked)) in
    subst (λ (rs : List Range). Serves s new (lock_ranges (drive_of s) c.args.key c.args.file (own_path s.tree n) c.args.exclusive c.args.wait rs) (Ok (Replied Locked c.none.result))) c.as_slice-wanted.ensures
    (serves_quiet s new _ _ _ sound c.none.ensures
    (lock_granted s c.requires.sound n live c.args.key c.args.file c.args.exclusive c.args.wait c.as_slice-wanted.result.now (ap is_some free) few
    ∙ ap (λ (ls : List drive.Lock). succeeded (record (drive_of s) { locks = ls }) Locked no_news)
    (sym (ap (λ (ls : LockList). map lock_of ls.locks) left ∙ map-append lock_of s.locks.locks wanted ∙ ap (λ (ls : List drive.Lock). map lock_of s.locks.locks ++ ls) (wanted_seen n c.args.file c.args.exclusive c.as_slice-wanted.result.now)))))

pub returns-in-Err-Full : goal.returns-in-Err-Full
returns-in-Err-Full c =
    let s = c.args.self.now in
    let n = c.args.node.0 in
    let live = opened_live s c.requires.sound n c.args.file c.requires.opened in
    let why = c.in-Err-Full.ensures.full.0 (ap (λ (no : LockNo). Err no) c.in-Err-Full.field-0-is) in
    subst (λ (rs : List Range). Serves s (record s { locks = c.lock.new.self }) (lock_ranges (drive_of s) c.args.key c.args.file (own_path s.tree n) c.args.exclusive c.args.wait rs) (Err insufficient_resources)) c.as_slice-wanted.ensures
    (serves_refused s c.requires.sound c.lock.new.self c.in-Err-Full.ensures.err _ insufficient_resources
    (lock_full s c.requires.sound n live c.args.key c.args.file c.args.exclusive c.args.wait c.as_slice-wanted.result.now (ap is_some why.0) why.1))

pub returns-then-not-wait : goal.returns-then-not-wait
returns-then-not-wait c =
    let s = c.args.self.now in
    let n = c.args.node.0 in
    let live = opened_live s c.requires.sound n c.args.file c.requires.opened in
    let e = (c.in-Err-Conflict.ensures.conflict c.in-Err-Conflict.field-0-0).0 (ap (λ (no : LockNo). Err no) c.in-Err-Conflict.field-0-is) in
    subst (λ (rs : List Range). Serves s (record s { locks = c.lock.new.self }) (lock_ranges (drive_of s) c.args.key c.args.file (own_path s.tree n) c.args.exclusive c.args.wait rs) (Err lock_not_granted)) c.as_slice-wanted.ensures
    (serves_refused s c.requires.sound c.lock.new.self c.in-Err-Conflict.ensures.err _ lock_not_granted
    (lock_denied s c.requires.sound n live c.args.key c.args.file c.args.exclusive c.args.wait c.as_slice-wanted.result.now (ap is_some e)
    (ap (λ (b : Bool). not b || is_some (conflict [] (held.wanted_locks n c.args.file c.args.exclusive c.as_slice-wanted.result.now))) c.if-not-wait.true)))
