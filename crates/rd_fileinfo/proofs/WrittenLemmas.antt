-- That what is written spells its value.
use Rattle.std.proofs.Common.{◌≡◌, ℕ, ◌+◌, ◌*◌, ◌%◌, ◌^◌, ◌<◌, ◌≤◌, ◌≢◌, List, [], IsTrue, length, refl, arith, lit<, eq-eqb}
use Rattle.std.specs.Prelude.{◌==◌, All, nat_le}
use Rattle.std.proofs.lemmas.List.Elements.{All-weaker}
use Rattle.std.proofs.lemmas.Bool.{le-leb}
use Rattle.rd_base.specs.Layout.{one_byte}
use Rattle.rd_base.specs.Fields.{bytes8, bytes32, bytes64, path_bytes}
use Rattle.rd_base.specs.Moments.{moments_bytes}
use Rattle.rd_base.proofs.WrittenLemmas.{done_last, number_then, test_then, spells_all}
use Rattle.rd_base.proofs.WrittenPathLemmas.{path_written}
use Rattle.rd_base.proofs.WrittenFieldLemmas.{length-path_bytes, left_then, flag_then, constant_then, moments_then, length_then, text_last, path_last}
use Rattle.rd_fileinfo.specs.declared.file_info.FileInfo.{FileInfo}
use Rattle.rd_fileinfo.specs.declared.file_info.FileInfo.TheVariants as file
use Rattle.rd_fileinfo.specs.declared.set_info.SetInfo.{SetInfo}
use Rattle.rd_fileinfo.specs.declared.set_info.SetInfo.TheVariants as set
use Rattle.rd_fileinfo.specs.declared.volume_info.VolumeInfo.{VolumeInfo}
use Rattle.rd_fileinfo.specs.declared.volume_info.VolumeInfo.TheVariants as volume
use Rattle.rd_fileinfo.specs.FileInfo.{basic_info, standard_info, tag_info, file_classes, file_class, file_info_bytes, IsFileInfoInRange, SpellsFileInfo}
use Rattle.rd_fileinfo.specs.SetInfo.{basic_set, rename_set, disposition_set, allocation_set, end_of_file_set, set_classes, set_class, set_info_bytes, SetInfoFits, IsSetInfoInRange, SpellsSetInfo}
use Rattle.rd_fileinfo.specs.VolumeInfo.{volume_info, size_info, device_info, attribute_info, full_size_info, volume_classes, volume_class, volume_info_bytes, VolumeFits, IsVolumeInfoInRange, SpellsVolumeInfo}
use Rattle.rd_fileinfo.specs.Label.{label_set, label_bytes, LabelFits, SpellsLabel}

pub file_info_spelled : (info : FileInfo) → IsFileInfoInRange info → SpellsFileInfo (file_class info) info 0 (file_info_bytes info)
unfolding file_classes basic_info standard_info tag_info bytes8 bytes32 bytes64 moments_bytes
file_info_spelled (file.Basic times attributes) r =
    spells_all basic_info _ _ (moments_then times r.0 (number_then attributes r.1 (done_last _ [])))
file_info_spelled (file.Standard allocation end links pending folder) r =
    spells_all standard_info _ _ (number_then allocation r.0 (number_then end r.1 (number_then links r.2 (number_then pending r.3 (number_then folder r.4 (done_last _ []))))))
file_info_spelled (file.Tag attributes tag) r =
    spells_all tag_info _ _ (number_then attributes r.0 (number_then tag r.1 (done_last _ [])))

above_zero : (units : List ℕ) → All (λ unit. unit ≢ 0) units → All (λ unit. 0 < unit) units
above_zero units each = All-weaker (λ u. u ≢ 0) (λ u. 0 < u) (λ u not_zero. omega (arith, not_zero)) units each

pub set_info_spelled : (info : SetInfo) → SetInfoFits info → IsSetInfoInRange info → SpellsSetInfo (set_class info) info 0 (set_info_bytes info)
unfolding set_classes basic_set rename_set disposition_set allocation_set end_of_file_set bytes8 bytes32 bytes64 moments_bytes
set_info_spelled (set.Basic times attributes) f r =
    spells_all basic_set _ _ (moments_then times r.0 (number_then attributes r.1 (done_last _ [])))
set_info_spelled (set.Rename replace units) f r =
    let count = 2 * length units + 2 in
    spells_all rename_set _ _ (flag_then replace (constant_then one_byte 0 (lit< tt) (length_then count (length units + 1) (omega arith) f.0 (path_last [] (set.Rename replace) units count refl (above_zero units f.1) r))))
set_info_spelled (set.Disposition deletes) f r = spells_all disposition_set _ _ (left_then (flag_then deletes (done_last _ [])))
set_info_spelled (set.Allocation size) f r = spells_all allocation_set _ _ (number_then size r (done_last _ []))
set_info_spelled (set.EndOfFile end) f r = spells_all end_of_file_set _ _ (number_then end r (done_last _ []))

pub volume_spelled : (info : VolumeInfo) → VolumeFits info → IsVolumeInfoInRange info → SpellsVolumeInfo (volume_class info) info 0 (volume_info_bytes info)
unfolding volume_classes volume_info size_info device_info attribute_info full_size_info bytes8 bytes32 bytes64
volume_spelled (volume.Volume creation serial objects label) f r =
    let count = 2 * length label in
    spells_all volume_info _ _ (number_then creation r.0 (number_then serial r.1 (length_then count (length label) refl f (number_then objects r.2 (text_last [] (volume.Volume creation serial objects) label count refl r.3)))))
volume_spelled (volume.Size total free sectors bytes) f r =
    spells_all size_info _ _ (number_then total r.0 (number_then free r.1 (number_then sectors r.2 (number_then bytes r.3 (done_last _ [])))))
volume_spelled (volume.Device kind traits) f r =
    spells_all device_info _ _ (number_then kind r.0 (number_then traits r.1 (done_last _ [])))
volume_spelled (volume.Attribute flags longest name) f r =
    let count = 2 * length name in
    spells_all attribute_info _ _ (number_then flags r.0 (number_then longest r.1 (length_then count (length name) refl f (text_last [] (volume.Attribute flags longest) name count refl r.2))))
volume_spelled (volume.FullSize total caller free sectors bytes) f r =
    spells_all full_size_info _ _ (number_then total r.0 (number_then caller r.1 (number_then free r.2 (number_then sectors r.3 (number_then bytes r.4 (done_last _ []))))))

pub label_spelled : (label : List ℕ) → LabelFits label → All (λ unit. unit < 2 ^ 16) label → SpellsLabel label 0 (label_bytes label)
unfolding label_set bytes32
label_spelled label f r =
    let count = 2 * length label + 2 in
    let few : length label ≤ 31 = f.0 in
    let short : IsTrue (nat_le count 64) = le-leb count 64 (omega arith) in
    let even : IsTrue (count % 2 == 0) = eq-eqb (count % 2) 0 (omega arith) in
    let len : count ≡ length (path_bytes label) = omega (arith, length-path_bytes label) in
    spells_all label_set _ _ (number_then count (omega arith) (test_then short (test_then even (path_written label count [] len (above_zero label f.1) r))))
