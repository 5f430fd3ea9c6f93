use Rattle.rd_drive.proofs.DriveOnceLemmas.{drive_replies_once}
use Rattle.rd_drive.proofs.promises.requests_have_one_reply.Goals as goal

pub returns : goal.returns
returns c = drive_replies_once
