use Rattle.std.proofs.Common.{refl, sym, ap, inl, arith, add-zero}
use Rattle.rd_tree.specs.Places.{bytes_at}
use Rattle.std.specs.Option.{is_some}
use Rattle.rd_drive.specs.Notify.{notify}
use Rattle.rd_drive.specs.Store.{drive_of}
use Rattle.rd_drive.proofs.HandleLemmas.{opened_place, unopened}
use Rattle.rd_drive.proofs.WriteLemmas.{bytes_none, bytes_some}
use Rattle.rd_drive.proofs.NotifyLemmas.{notify_file, notify_full, notify_waits}
use Rattle.rd_drive.proofs.ParkLemmas.{serves_parked}
use Rattle.rd_drive.proofs.store.Store.notify.Goals as goal

pub returns-in_default : goal.returns-in_default
returns-in_default c =
    let s = c.args.self.now in
    (c.requires.sound, inl (unopened s c.args.file (notify (drive_of s) c.args.key c.args.file c.args.deep c.args.filter) (sym c.in_default.ensures)))

pub returns-then-not-is_folder : goal.returns-then-not-is_folder
returns-then-not-is_folder c =
    let s = c.args.self.now in
    let h = c.in-Some.handle.now in
    let there = sym c.in-Some.ensures in
    let x = opened_place s c.requires.sound c.args.file h there in
    let b = bytes_some c.is_folder.result (bytes_at s.tree h.node.0) c.is_folder.ensures.bytes c.if-not-is_folder.true in
    (c.requires.sound, inl (notify_file s c.requires.sound c.args.file h there x.0 x.1 c.args.key c.args.deep c.args.filter b.0 b.1))

pub returns-then-len-ge-MAX_WAITING : goal.returns-then-len-ge-MAX_WAITING
returns-then-len-ge-MAX_WAITING c =
    let s = c.args.self.now in
    let h = c.in-Some.handle.now in
    let there = sym c.in-Some.ensures in
    let x = opened_place s c.requires.sound c.args.file h there in
    (c.requires.sound, inl (notify_full s c.requires.sound c.args.file h there x.0 x.1 c.args.key c.args.deep c.args.filter (bytes_none c.is_folder.result (bytes_at s.tree h.node.0) c.is_folder.ensures.bytes c.if-not-is_folder.false) (omega arith)))

pub returns : goal.returns
returns c =
    let s = c.args.self.now in
    let h = c.in-Some.handle.now in
    let there = sym c.in-Some.ensures in
    let x = opened_place s c.requires.sound c.args.file h there in
    serves_parked s s _ c.requires.sound s.locks _ _ refl c.park.ensures refl (sym (add-zero s.locks.reserved)) (omega arith) (ap is_some there) (c.in-Ok.ensures.items, c.in-Ok.ensures.capacity) s _
    (notify_waits s c.requires.sound c.args.file h there x.0 x.1 c.args.key c.args.deep c.args.filter (bytes_none c.is_folder.result (bytes_at s.tree h.node.0) c.is_folder.ensures.bytes c.if-not-is_folder.false) (omega arith))
