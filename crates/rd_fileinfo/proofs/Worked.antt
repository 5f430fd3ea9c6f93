-- Worked cases of the definitions, which the checker computes.
use Rattle.std.proofs.Common.{◌≡◌, ℕ, true, false, List, [], ◌∷◌, ◌++◌, Result, Ok, Err, refl}
use Rattle.std.specs.Prelude.{replicate}
use Rattle.rd_base.specs.declared.bad.Why.{Why}
use Rattle.rd_base.specs.declared.bad.Why.TheVariants.{Short, Count, Length, Value}
use Rattle.rd_base.specs.declared.bad.InfoNo.{InfoNo}
use Rattle.rd_base.specs.declared.bad.InfoNo.TheVariants as no
use Rattle.rd_base.specs.Position.{Position}
use Rattle.rd_base.specs.Layout.{met}
use Rattle.rd_base.specs.Fields.{bytes8, bytes32, bytes64}
use Rattle.rd_base.specs.Classes.{Classes, met_choice, choice}
use Rattle.rd_fileinfo.specs.declared.file_info.FileInfo.TheVariants as file
use Rattle.rd_fileinfo.specs.declared.set_info.SetInfo.TheVariants as set
use Rattle.rd_fileinfo.specs.declared.volume_info.VolumeInfo.TheVariants as volume
use Rattle.rd_fileinfo.specs.FileInfo.{standard_info, file_classes, file_info_bytes}
use Rattle.rd_fileinfo.specs.SetInfo.{basic_set, rename_set, disposition_set, end_of_file_set, set_classes, set_info_bytes}
use Rattle.rd_fileinfo.specs.VolumeInfo.{volume_info, volume_classes, volume_info_bytes}
use Rattle.rd_fileinfo.specs.Label.{label_set}

-- what the definition makes of a buffer of a class
unfoldable read_as : {A : Type 0} → Classes A → ℕ → List ℕ → Result (A × Position) InfoNo
read_as classes n bytes = met_choice (choice classes n) n (record { at = 0; left = bytes })

end_at : ℕ → Position
end_at n = record { at = n; left = [] }

-- FileStandardInformation of a file of 12 bytes
twelve_bytes : List ℕ
twelve_bytes = 0 ∷ 0x10 ∷ replicate 6 0 ++ 12 ∷ replicate 7 0 ++ 1 ∷ replicate 5 0

reads_standard : read_as file_classes 5 twelve_bytes ≡ Ok (file.Standard 4096 12 1 0 0, end_at 22)
unfolding read_as end_at twelve_bytes file_classes standard_info
reads_standard = refl

writes_standard : file_info_bytes (file.Standard 4096 12 1 0 0) ≡ twelve_bytes
unfolding twelve_bytes bytes8 bytes32 bytes64
writes_standard = refl

cut_basic : read_as set_classes 4 (replicate 35 0) ≡ Err (no.Bad (record { at = 32; why = Short }))
unfolding read_as set_classes basic_set
cut_basic = refl

-- a path with no zero unit after it
to_e : List ℕ
to_e = 0 ∷ 0 ∷ 4 ∷ 0 ∷ 0 ∷ 0 ∷ 0x5c ∷ 0 ∷ 0x65 ∷ 0 ∷ []

reads_rename : read_as set_classes 10 to_e ≡ Ok (set.Rename false (0x5c ∷ 0x65 ∷ []), end_at 10)
unfolding read_as end_at to_e set_classes rename_set
reads_rename = refl

writes_rename : set_info_bytes (set.Rename true (0x65 ∷ [])) ≡ 1 ∷ 0 ∷ 4 ∷ 0 ∷ 0 ∷ 0 ∷ 0x65 ∷ 0 ∷ 0 ∷ 0 ∷ []
unfolding bytes8 bytes32
writes_rename = refl

root_directory : read_as set_classes 10 (0 ∷ 1 ∷ []) ≡ Err (no.Bad (record { at = 1; why = Value }))
unfolding read_as set_classes rename_set
root_directory = refl

odd_path : read_as set_classes 10 (0 ∷ 0 ∷ 3 ∷ 0 ∷ 0 ∷ 0 ∷ []) ≡ Err (no.Bad (record { at = 2; why = Length }))
unfolding read_as set_classes rename_set
odd_path = refl

long_path : read_as set_classes 10 (0 ∷ 0 ∷ 4 ∷ 0 ∷ 0 ∷ 0 ∷ 0x5c ∷ 0 ∷ []) ≡ Err (no.Bad (record { at = 6; why = Short }))
unfolding read_as set_classes rename_set
long_path = refl

no_byte_deletes : read_as set_classes 13 [] ≡ Ok (set.Disposition true, end_at 0)
unfolding read_as end_at set_classes disposition_set
no_byte_deletes = refl

zero_keeps : read_as set_classes 13 (0 ∷ []) ≡ Ok (set.Disposition false, end_at 1)
unfolding read_as end_at set_classes disposition_set
zero_keeps = refl

reads_end_of_file : read_as set_classes 20 (3 ∷ replicate 7 0) ≡ Ok (set.EndOfFile 3, end_at 8)
unfolding read_as end_at set_classes end_of_file_set
reads_end_of_file = refl

-- FileFsVolumeInformation of a volume with the label AB
volume_ab : List ℕ
volume_ab = replicate 8 0 ++ 0x31 ∷ 0x52 ∷ 0x44 ∷ 0x52 ∷ 4 ∷ 0 ∷ 0 ∷ 0 ∷ 0 ∷ 0x41 ∷ 0 ∷ 0x42 ∷ 0 ∷ []

reads_volume : read_as volume_classes 1 volume_ab ≡ Ok (volume.Volume 0 0x52445231 0 (0x41 ∷ 0x42 ∷ []), end_at 21)
unfolding read_as end_at volume_ab volume_classes volume_info
reads_volume = refl

writes_volume : volume_info_bytes (volume.Volume 0 0x52445231 0 (0x41 ∷ 0x42 ∷ [])) ≡ volume_ab
unfolding volume_ab bytes8 bytes32 bytes64
writes_volume = refl

no_such_class : read_as volume_classes 9 [] ≡ Err (no.Class 9)
unfolding read_as volume_classes
no_such_class = refl

-- a label of two units and the zero unit
reads_label : met label_set (record { at = 0; left = 6 ∷ 0 ∷ 0 ∷ 0 ∷ 0x41 ∷ 0 ∷ 0x42 ∷ 0 ∷ 0 ∷ 0 ∷ [] }) ≡ Ok (0x41 ∷ 0x42 ∷ [], end_at 10)
unfolding end_at label_set
reads_label = refl

-- lengths that aren't taken: a limit is tested before evenness
label_fault : ℕ → Why → Type 0
label_fault len why = met label_set (record { at = 0; left = len ∷ 0 ∷ 0 ∷ 0 ∷ [] }) ≡ Err (record { at = 0; why = why })

long_label : label_fault 66 Count
unfolding label_fault label_set
long_label = refl

long_odd_label : label_fault 65 Count
unfolding label_fault label_set
long_odd_label = refl

odd_label : label_fault 63 Length
unfolding label_fault label_set
odd_label = refl

cut_label : met label_set (record { at = 0; left = 64 ∷ replicate 66 0 }) ≡ Err (record { at = 4; why = Short })
unfolding label_set
cut_label = refl
