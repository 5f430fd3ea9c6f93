use Rattle.std.proofs.Common.{refl}
use Rattle.rd_base.specs.Fields.{bytes8, bytes16, bytes32, bytes64}
use Rattle.rd_fileinfo.specs.SetInfo.{set_classes, basic_set, rename_set, disposition_set, allocation_set, end_of_file_set}
use Rattle.rd_drive.specs.Outcome.{checked, given, one_of}
use Rattle.rd_drive.proofs.laws.limits_are_as_listed.Goals as goal

pub returns : goal.returns
unfolding checked given one_of bytes8 bytes16 bytes32 bytes64 set_classes basic_set rename_set disposition_set allocation_set end_of_file_set
returns c = record {
  last_handle = refl;
  handles = refl;
  last_id = refl;
  no_id = refl;
  path_later = refl;
  through_a_file = refl;
  last_waiting = refl;
  waiting = refl;
  too_far = refl;
  root_stays = refl;
}
