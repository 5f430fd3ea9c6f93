-- No request of a drive has two replies.
use Rattle.std.proofs.Common.{◌≡◌, subst, sym, ◌≤◌, List, [], length, arith}
use Rattle.std.proofs.lemmas.List.{length-map}
use Rattle.rd_base.specs.declared.journal.Item.{Item}
use Rattle.rd_base.specs.declared.journal.Key.{Key}
use Rattle.rd_base.specs.Lawful.{IsLawful}
use Rattle.rd_irp.specs.declared.request.Request.{Request}
use Rattle.rd_drive.specs.Answered.{IsFitting, drive_parked, parked_of}
use Rattle.rd_drive.specs.Bounded.{IsBounded}
use Rattle.rd_drive.specs.Device.{Parked}
use Rattle.rd_drive.specs.DriveState.{DriveState}
use Rattle.rd_drive.specs.DriveStep.{drive_cut, drive_step}
use Rattle.rd_drive.specs.Once.{HaveOneReplyEach}
use Rattle.rd_drive.specs.Replies.{replies_of}
use Rattle.rd_drive.proofs.BoundedLemmas.{bounded_devices}
use Rattle.rd_drive.proofs.OnceLemmas.{one_reply_each}

pub drive_replies_once : (opening : DriveState) (requests : Key → Request) (journal : List Item) → IsFitting opening → drive_parked opening ≡ [] → IsLawful journal → HaveOneReplyEach (replies_of opening requests journal)
drive_replies_once opening requests journal fitting nothing lawful =
    let is = length-map opening.waiting parked_of in
    let few : length opening.waiting ≤ 64 = subst (λ n. n ≤ 64) is (subst (λ (ps : List Parked). length ps ≤ 64) (sym nothing) (omega arith)) in
    one_reply_each drive_step drive_cut drive_parked IsBounded bounded_devices requests opening journal (record { fitting = fitting; few = few }) nothing lawful.runs_once
