use Rattle.std.proofs.Common.{◌≡◌, ◌∙◌, refl, sym, ap, subst, ◌+◌, ◌≤◌, ◌++◌, length, map, List, None, Ok, Err, Bool, not, ◌||◌, []}
use Rattle.std.specs.List.{AllByRecursion}
use Rattle.std.specs.Option.{is_some}
use Rattle.std.proofs.lemmas.List.{map-append}
use Rattle.rd_base.specs.Statuses.{insufficient_resources, lock_not_granted}
use Rattle.rd_irp.specs.declared.op.Range.{Range}
use Rattle.rd_irp.specs.declared.completion.Body.TheVariants.{Locked}
use Rattle.rd_locks.specs.declared.held.Held.{Held}
use Rattle.rd_locks.specs.declared.locks.LockNo.{LockNo}
use Rattle.rd_locks.specs.Locks as held
use Rattle.rd_locks.specs.Locks.{LockList, conflict}
use Rattle.rd_drive.specs.DriveState as drive
use Rattle.rd_drive.specs.Locking.{lock_ranges}
use Rattle.rd_drive.specs.Outcome.{no_news, succeeded}
use Rattle.rd_drive.specs.Store.{lock_of}
use Rattle.rd_drive.proofs.ConflictLemmas.{wanted_seen}
use Rattle.rd_drive.proofs.LockingLemmas.{none_found, not_more}
use Rattle.rd_folder_drive.specs.declared.table.Done.TheVariants.{Replied}
use Rattle.rd_folder_drive.specs.declared.table.Table.{Table}
use Rattle.rd_folder_drive.specs.Alone.{ServesAlone}
use Rattle.rd_folder_drive.specs.Table.{IsSound, drive_of, path_at}
use Rattle.rd_folder_drive.proofs.AloneLemmas.{alone_quiet, alone_refused, alone_starved}
use Rattle.rd_folder_drive.proofs.BesideLemmas.{beside_holds, locks_sound}
use Rattle.rd_folder_drive.proofs.LockLemmas.{IsHome, open_home}
use Rattle.rd_folder_drive.proofs.LockingLemmas.{lock_denied, lock_full, lock_granted, more_homes}
use Rattle.rd_folder_drive.proofs.table.Table.lock_ranges.Goals as goal

pub wait_for_ranges-requires-clause-sound : goal.wait_for_ranges-requires-clause-sound
wait_for_ranges-requires-clause-sound c = subst (λ (ls : LockList). IsSound (record c.args.self.now { locks = ls })) (sym c.in-Err-Conflict.ensures.err) c.requires.sound

pub wait_for_ranges-requires-clause-blocked : goal.wait_for_ranges-requires-clause-blocked
wait_for_ranges-requires-clause-blocked c =
    let e = (c.in-Err-Conflict.ensures.conflict c.in-Err-Conflict.field-0-0).0 (ap (λ (no : LockNo). Err no) c.in-Err-Conflict.field-0-is) in
    (λ i. is_some (conflict (c.in-Err-Conflict.ensures.err i).locks (held.wanted_locks c.args.node c.args.file c.args.exclusive (sym c.as_slice-wanted.ensures i)))) ∙ ap is_some e

pub returns-in-Ok-clause-serves : goal.returns-in-Ok-clause-serves
returns-in-Ok-clause-serves c =
    let t = c.args.self.now in
    let n = c.args.node in
    let wanted : List Held = held.wanted_locks n c.args.file c.args.exclusive c.as_slice-wanted.result.now in
    let new : Table = record t { locks = c.lock.new.self } in
    let on = open_home t c.requires.sound n c.args.file c.requires.opened in
    let left : c.lock.new.self ≡ record { locks = t.locks.locks ++ wanted; reserved = t.locks.reserved } = c.in-Ok.ensures.locked in
    let free : conflict t.locks.locks wanted ≡ None = none_found (conflict t.locks.locks wanted) (λ lock e. let both = (c.in-Ok.ensures.conflict lock).1 e in absurd (cc)) in
    let few : length t.locks.locks + t.locks.reserved + length c.as_slice-wanted.result.now ≤ 65536 =
    not_more 65536 (length t.locks.locks + t.locks.reserved + length c.as_slice-wanted.result.now) (λ many. let both = c.in-Ok.ensures.full.1 (free, many) in absurd (cc)) in
    let sound : IsSound new =
    locks_sound t c.requires.sound c.lock.new.self (ap (λ (ls : LockList). ls.reserved) left)
    (subst (λ (ls : LockList). AllByRecursion (IsHome t) ls.locks) (sym left) (more_homes t n c.args.file c.args.exclusive c.as_slice-wanted.result.now c.requires.opened t.locks.locks c.requires.sound.locked)) in
    subst (λ (rs : List Range). ServesAlone t new (λ s. lock_ranges s c.args.key c.args.file (path_at t n) c.args.exclusive c.args.wait rs) (Ok (Replied Locked c.none.result))) c.as_slice-wanted.ensures
    (alone_quiet t new (λ s. lock_ranges s c.args.key c.args.file (path_at t n) c.args.exclusive c.args.wait c.as_slice-wanted.result.now) Locked c.none.result sound c.none.ensures
    (λ nodes holds. (
      beside_holds t c.lock.new.self t.waiting nodes holds,
      lock_granted t c.requires.sound n on c.args.key c.args.file c.args.exclusive c.args.wait c.as_slice-wanted.result.now nodes (ap is_some free) few
          ∙ ap (λ (ls : List drive.Lock). succeeded (record (drive_of t nodes) { locks = ls }) Locked no_news)
          (sym (ap (λ (ls : LockList). map lock_of ls.locks) left ∙ map-append lock_of t.locks.locks wanted ∙ ap (λ (ls : List drive.Lock). map lock_of t.locks.locks ++ ls) (wanted_seen n c.args.file c.args.exclusive c.as_slice-wanted.result.now))),
    )))

pub returns-in-Err-Full-clause-serves : goal.returns-in-Err-Full-clause-serves
returns-in-Err-Full-clause-serves c =
    let t = c.args.self.now in
    let n = c.args.node in
    let on = open_home t c.requires.sound n c.args.file c.requires.opened in
    let why = c.in-Err-Full.ensures.full.0 (ap (λ (no : LockNo). Err no) c.in-Err-Full.field-0-is) in
    subst (λ (rs : List Range). ServesAlone t (record t { locks = c.lock.new.self }) (λ s. lock_ranges s c.args.key c.args.file (path_at t n) c.args.exclusive c.args.wait rs) (Err insufficient_resources)) c.as_slice-wanted.ensures
    (alone_refused t (λ s. lock_ranges s c.args.key c.args.file (path_at t n) c.args.exclusive c.args.wait c.as_slice-wanted.result.now) c.requires.sound _ (ap (λ (ls : LockList). record t { locks = ls }) c.in-Err-Full.ensures.err) insufficient_resources (refl, refl)
    (λ nodes holds. lock_full t c.requires.sound n on c.args.key c.args.file c.args.exclusive c.args.wait c.as_slice-wanted.result.now nodes (ap is_some why.0) why.1))

pub returns-in-Err-Memory-clause-serves : goal.returns-in-Err-Memory-clause-serves
returns-in-Err-Memory-clause-serves c =
    let t = c.args.self.now in
    alone_starved t (λ s. lock_ranges s c.args.key c.args.file (path_at t c.args.node) c.args.exclusive c.args.wait c.args.ranges) c.requires.sound _ (ap (λ (ls : LockList). record t { locks = ls }) c.in-Err-Memory.ensures.err)

pub returns-then-not-wait-clause-serves : goal.returns-then-not-wait-clause-serves
returns-then-not-wait-clause-serves c =
    let t = c.args.self.now in
    let n = c.args.node in
    let on = open_home t c.requires.sound n c.args.file c.requires.opened in
    let e = (c.in-Err-Conflict.ensures.conflict c.in-Err-Conflict.field-0-0).0 (ap (λ (no : LockNo). Err no) c.in-Err-Conflict.field-0-is) in
    subst (λ (rs : List Range). ServesAlone t (record t { locks = c.lock.new.self }) (λ s. lock_ranges s c.args.key c.args.file (path_at t n) c.args.exclusive c.args.wait rs) (Err lock_not_granted)) c.as_slice-wanted.ensures
    (alone_refused t (λ s. lock_ranges s c.args.key c.args.file (path_at t n) c.args.exclusive c.args.wait c.as_slice-wanted.result.now) c.requires.sound _ (ap (λ (ls : LockList). record t { locks = ls }) c.in-Err-Conflict.ensures.err) lock_not_granted (refl, refl)
    (λ nodes holds. lock_denied t c.requires.sound n on c.args.key c.args.file c.args.exclusive c.args.wait c.as_slice-wanted.result.now nodes (ap is_some e)
    (ap (λ (b : Bool). not b || is_some (conflict [] (held.wanted_locks n c.args.file c.args.exclusive c.as_slice-wanted.result.now))) c.if-not-wait.true)))
