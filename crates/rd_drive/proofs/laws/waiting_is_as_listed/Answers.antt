use Rattle.std.proofs.Common.{refl}
use Rattle.rd_base.specs.Fields.{bytes8, bytes16, bytes32, bytes64}
use Rattle.rd_fileinfo.specs.SetInfo.{set_classes, basic_set, rename_set, disposition_set, allocation_set, end_of_file_set}
use Rattle.rd_drive.specs.Outcome.{checked, given, one_of}
use Rattle.rd_drive.proofs.laws.waiting_is_as_listed.Goals as goal

pub returns : goal.returns
unfolding checked given one_of bytes8 bytes16 bytes32 bytes64 set_classes basic_set rename_set disposition_set allocation_set end_of_file_set
returns c = record {
  lock = refl;
  turn = refl;
  own_ranges = refl;
  closes = refl;
  cleanup = refl;
  new_file = refl;
  other_filter = refl;
  renames = refl;
  replaces = refl;
  cut = refl;
  cut_state = refl;
}
