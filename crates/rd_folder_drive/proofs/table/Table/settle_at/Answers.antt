use Rattle.std.proofs.Common.{◌≡◌, ◌∙◌, sym, ap, refl, subst, ℕ, ◌-◌, ◌++◌, List, length, find, Option, None}
use Rattle.std.specs.List.{AllByRecursion}
use Rattle.std.specs.Option.{IfSome, option_map}
use Rattle.rd_irp.specs.declared.completion.Body.TheVariants.{Buffer}
use Rattle.rd_irp.specs.declared.op.Range.{Range}
use Rattle.rd_dirinfo.specs.declared.naming.Naming.TheVariants.{Exact}
use Rattle.rd_locks.specs.Locks as held
use Rattle.rd_locks.specs.Locks.{LockList, conflict}
use Rattle.rd_drive.specs.declared.waiting.Wish.TheVariants as kept_wish
use Rattle.rd_drive.specs.declared.waiting.Waiting as kept_waiting
use Rattle.rd_drive.specs.Outcome.{done}
use Rattle.rd_drive.specs.Store.{wish_of, wish_ranges}
use Rattle.rd_drive.specs.Telling.{tells}
use Rattle.rd_drive.specs.Waiting.{closing_reply}
use Rattle.rd_drive.proofs.AllLemmas.{same_item}
use Rattle.rd_drive.proofs.AnswerLemmas.{found_passes}
use Rattle.rd_drive.proofs.LockingLemmas.{none_found}
use Rattle.rd_drive.proofs.TellLemmas.{told_below}
use Rattle.rd_folder_drive.specs.declared.handle.Handle as kept
use Rattle.rd_folder_drive.specs.declared.news.Change as told
use Rattle.rd_folder_drive.specs.Served.{IsTold, change_of, changes_of}
use Rattle.rd_folder_drive.specs.Settling.{SettlesAt}
use Rattle.rd_folder_drive.specs.Table.{path_at}
use Rattle.rd_folder_drive.proofs.EndLemmas.{told_within}
use Rattle.rd_folder_drive.proofs.SettleLemmas.{settles_blocked, settles_closed, settles_granted, settles_told, settles_untold, settles_untried}
use Rattle.rd_folder_drive.proofs.table.Table.settle_at.Goals as goal

pub returns-then-is_closed : goal.returns-then-is_closed
returns-then-is_closed c =
    let t = c.args.self.now in
    let w = c.index-waiting.result.now in
    let same : c.remove-wish.result ≡ w = same_item t.waiting.items c.args.at c.remove-wish.result w c.requires.within c.remove-wish.ensures.value c.index-waiting.ensures in
    settles_closed t c.args.news.now c.args.at c.requires.halfway w c.requires.within c.index-waiting.ensures (sym c.is_closed.ensures ∙ c.if-is_closed.true)
    c.close_reply-reply.new.locks (c.close_reply-reply.ensures.locks ∙ ap (λ (v : kept_waiting.Waiting). record t.locks { reserved = t.locks.reserved - wish_ranges v.wish }) same)
    c.remove-wish.new.self c.remove-wish.ensures.items c.remove-wish.ensures.capacity
    c.close_reply-reply.result (c.close_reply-reply.ensures.reply ∙ ap (λ (v : kept_waiting.Waiting). closing_reply (wish_of v.wish)) same)

pub returns-then-not-is_unlocked : goal.returns-then-not-is_unlocked
returns-then-not-is_unlocked c =
    let t = c.args.self.now in
    let w = c.index-waiting.result.now in
    let n = c.in-Some.handle.now.node in
    let opened = ap (option_map (λ (h : kept.Handle). h.node)) (sym c.in-Some.ensures) in
    let wish : w.wish ≡ kept_wish.Ranges c.in-Ranges.exclusive c.in-Ranges.ranges =
    ap (λ (v : kept_waiting.Waiting). v.wish) (same_item t.waiting.items c.args.at w c.index.result.now c.requires.within c.index-waiting.ensures c.index.ensures) ∙ c.in-Ranges.is in
    settles_untried t c.args.news.now c.args.at c.requires.halfway w c.requires.within c.index-waiting.ensures (sym c.is_closed.ensures ∙ c.if-is_closed.false) n opened
    c.in-Ranges.exclusive c.in-Ranges.ranges wish (sym c.is_unlocked.ensures ∙ c.if-not-is_unlocked.true)

pub returns-in-Err : goal.returns-in-Err
returns-in-Err c =
    let t = c.args.self.now in
    let w = c.index-waiting.result.now in
    let n = c.in-Some.handle.now.node in
    let opened = ap (option_map (λ (h : kept.Handle). h.node)) (sym c.in-Some.ensures) in
    let wish : w.wish ≡ kept_wish.Ranges c.in-Ranges.exclusive c.in-Ranges.ranges =
    ap (λ (v : kept_waiting.Waiting). v.wish) (same_item t.waiting.items c.args.at w c.index.result.now c.requires.within c.index-waiting.ensures c.index.ensures) ∙ c.in-Ranges.is in
    let way = ap (λ (rs : List Range). conflict t.locks.locks (held.wanted_locks n w.file c.in-Ranges.exclusive rs)) (sym c.as_slice.ensures) ∙ (c.in-Err.ensures.conflict c.in-Err.field-0).0 refl in
    subst (λ (locks : LockList). SettlesAt t (record t { locks = locks }) c.args.news.now c.args.at None) (sym c.in-Err.ensures.err)
    (settles_blocked t c.args.news.now c.args.at c.requires.halfway w c.requires.within c.index-waiting.ensures (sym c.is_closed.ensures ∙ c.if-is_closed.false) n opened
    c.in-Ranges.exclusive c.in-Ranges.ranges wish c.in-Err.field-0 way)

pub returns-in-Ok : goal.returns-in-Ok
returns-in-Ok c =
    let t = c.args.self.now in
    let w = c.index-waiting.result.now in
    let n = c.in-Some.handle.now.node in
    let opened = ap (option_map (λ (h : kept.Handle). h.node)) (sym c.in-Some.ensures) in
    let wish : w.wish ≡ kept_wish.Ranges c.in-Ranges.exclusive c.in-Ranges.ranges =
    ap (λ (v : kept_waiting.Waiting). v.wish) (same_item t.waiting.items c.args.at w c.index.result.now c.requires.within c.index-waiting.ensures c.index.ensures) ∙ c.in-Ranges.is in
    let free : conflict t.locks.locks (held.wanted_locks n w.file c.in-Ranges.exclusive c.as_slice.result.now) ≡ None =
    none_found (conflict t.locks.locks (held.wanted_locks n w.file c.in-Ranges.exclusive c.as_slice.result.now)) (λ lock e. let both = (c.in-Ok.ensures.conflict lock).1 e in absurd (cc)) in
    settles_granted t c.args.news.now c.args.at c.requires.halfway w c.requires.within c.index-waiting.ensures (sym c.is_closed.ensures ∙ c.if-is_closed.false) n opened
    c.in-Ranges.exclusive c.in-Ranges.ranges wish (sym c.is_unlocked.ensures ∙ c.if-not-is_unlocked.false)
    (ap (λ (rs : List Range). conflict t.locks.locks (held.wanted_locks n w.file c.in-Ranges.exclusive rs)) (sym c.as_slice.ensures) ∙ free)
    c.lock_reserved.new.self
    (c.in-Ok.ensures.locked ∙ (λ i. record { locks = t.locks.locks ++ held.wanted_locks n w.file c.in-Ranges.exclusive (c.as_slice.ensures i); reserved = t.locks.reserved - length (c.as_slice.ensures i) }))
    c.remove.new.self c.remove.ensures.items c.remove.ensures.capacity c.success.result c.success.ensures

pub first_told-requires : goal.first_told-requires
first_told-requires c = record {
  heard = subst (AllByRecursion (λ (change : Option told.Change). IfSome change (λ (it : told.Change). IsTold c.args.self.now it.named))) (sym c.as_slice-changes.ensures) c.requires.halfway.heard.1;
}

pub told-bytes-requires-clause-short : goal.told-bytes-requires-clause-short
told-bytes-requires-clause-short c = told_within c.args.self.now c.requires.halfway.sound c.in-Some-first_told.change.now.named c.in-Some-first_told.ensures.told

pub returns-in_default-first_told : goal.returns-in_default-first_told
returns-in_default-first_told c =
    let t = c.args.self.now in
    let w = c.index-waiting.result.now in
    let n = c.in-Some.handle.now.node in
    let opened = ap (option_map (λ (h : kept.Handle). h.node)) (sym c.in-Some.ensures) in
    let wish : w.wish ≡ kept_wish.Change c.in-Change.deep c.in-Change.filter c.in-Change.room =
    ap (λ (v : kept_waiting.Waiting). v.wish) (same_item t.waiting.items c.args.at w c.index.result.now c.requires.within c.index-waiting.ensures c.index.ensures) ∙ c.in-Change.is in
    settles_untold t c.args.news.now c.args.at c.requires.halfway w c.requires.within c.index-waiting.ensures (sym c.is_closed.ensures ∙ c.if-is_closed.false) n opened
    c.in-Change.deep c.in-Change.filter c.in-Change.room wish
    (ap (λ (l : List (Option told.Change)). find (tells Exact (path_at t n) c.in-Change.deep c.in-Change.filter) (changes_of t l)) (sym c.as_slice-changes.ensures) ∙ sym c.in_default-first_told.ensures.found)

pub told-bytes-requires-clause-below : goal.told-bytes-requires-clause-below
told-bytes-requires-clause-below c =
    let t = c.args.self.now in
    let n = c.in-Some.handle.now.node in
    let change = change_of t c.in-Some-first_told.change.now in
    let test = tells Exact (path_at t n) c.in-Change.deep c.in-Change.filter in
    told_below Exact (path_at t n) c.in-Change.deep c.in-Change.filter change (found_passes test (changes_of t c.as_slice-changes.result.now) change (sym c.in-Some-first_told.ensures.found))

pub returns-in-Change-wish : goal.returns-in-Change-wish
returns-in-Change-wish c =
    let t = c.args.self.now in
    let w = c.index-waiting.result.now in
    let n = c.in-Some.handle.now.node in
    let opened = ap (option_map (λ (h : kept.Handle). h.node)) (sym c.in-Some.ensures) in
    let wish : w.wish ≡ kept_wish.Change c.in-Change.deep c.in-Change.filter c.in-Change.room =
    ap (λ (v : kept_waiting.Waiting). v.wish) (same_item t.waiting.items c.args.at w c.index.result.now c.requires.within c.index-waiting.ensures c.index.ensures) ∙ c.in-Change.is in
    settles_told t c.args.news.now c.args.at c.requires.halfway w c.requires.within c.index-waiting.ensures (sym c.is_closed.ensures ∙ c.if-is_closed.false) n opened
    c.in-Change.deep c.in-Change.filter c.in-Change.room wish
    (change_of t c.in-Some-first_told.change.now)
    (ap (λ (l : List (Option told.Change)). find (tells Exact (path_at t n) c.in-Change.deep c.in-Change.filter) (changes_of t l)) (sym c.as_slice-changes.ensures) ∙ sym c.in-Some-first_told.ensures.found)
    c.remove-wish-in-Change.new.self c.remove-wish-in-Change.ensures.items c.remove-wish-in-Change.ensures.capacity
    c.success-in-Change.result (c.success-in-Change.ensures ∙ ap (λ (b : List ℕ). done (Buffer b)) c.told-bytes.ensures)
