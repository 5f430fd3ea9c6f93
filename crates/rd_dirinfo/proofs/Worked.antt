-- Worked cases of the definitions, which the checker computes.
use Rattle.std.proofs.Common.{◌≡◌, ℕ, List, [], ◌∷◌, ◌++◌, length, Result, Ok, Err, refl}
use Rattle.std.specs.Prelude.{replicate}
use Rattle.rd_base.specs.declared.bad.Why.TheVariants.{Short, Length, Value}
use Rattle.rd_base.specs.declared.bad.InfoNo.{InfoNo}
use Rattle.rd_base.specs.declared.bad.InfoNo.TheVariants as no
use Rattle.rd_base.specs.Position.{Position}
use Rattle.rd_base.specs.Fields.{bytes8, bytes32, bytes64}
use Rattle.rd_base.specs.Moments.{moments_bytes}
use Rattle.rd_base.specs.Classes.{met_choice, choice}
use Rattle.rd_dirinfo.specs.declared.entry.Entry.{Entry}
use Rattle.rd_dirinfo.specs.Entry.{entry_named, entry_start, entry_head, directory_entry, full_directory_entry, both_directory_entry, names_entry, entry_classes, entry_bytes, entry_head_bytes}

-- what the definition makes of a buffer of a class
unfoldable read_as : ℕ → List ℕ → Result (Entry × Position) InfoNo
read_as n bytes = met_choice (choice entry_classes n) n (record { at = 0; left = bytes })

-- a name in FileNamesInformation
a_name : List ℕ
a_name = replicate 8 0 ++ 2 ∷ 0 ∷ 0 ∷ 0 ∷ 0x61 ∷ 0 ∷ []

-- one of two units, whose end is cut
cut_name : List ℕ
cut_name = replicate 8 0 ++ 4 ∷ 0 ∷ 0 ∷ 0 ∷ 0x61 ∷ 0 ∷ 0x62 ∷ []

reads_a_name : read_as 12 a_name ≡ Ok (entry_named (0x61 ∷ []), record { at = 14; left = [] })
unfolding read_as a_name entry_classes names_entry entry_start
reads_a_name = refl

cut_name_is_short : read_as 12 cut_name ≡ Err (no.Bad (record { at = 12; why = Short }))
unfolding read_as cut_name entry_classes names_entry entry_start
cut_name_is_short = refl

odd_length : read_as 12 (replicate 8 0 ++ 1 ∷ 0 ∷ 0 ∷ 0 ∷ 0x61 ∷ []) ≡ Err (no.Bad (record { at = 8; why = Length }))
unfolding read_as entry_classes names_entry entry_start
odd_length = refl

-- NextEntryOffset and FileIndex
first_link : read_as 12 (1 ∷ replicate 11 0) ≡ Err (no.Bad (record { at = 0; why = Value }))
unfolding read_as entry_classes names_entry entry_start
first_link = refl

second_link : read_as 1 (replicate 4 0 ++ 1 ∷ replicate 59 0) ≡ Err (no.Bad (record { at = 4; why = Value }))
unfolding read_as entry_classes directory_entry entry_head entry_start
second_link = refl

-- EaSize, ShortNameLength and ShortName
ea_size : read_as 2 (replicate 64 0 ++ 1 ∷ replicate 3 0) ≡ Err (no.Bad (record { at = 64; why = Value }))
unfolding read_as entry_classes full_directory_entry entry_head entry_start
ea_size = refl

short_name_length : read_as 3 (replicate 68 0 ++ 1 ∷ replicate 24 0) ≡ Err (no.Bad (record { at = 68; why = Value }))
unfolding read_as entry_classes both_directory_entry entry_head entry_start
short_name_length = refl

short_name : read_as 3 (replicate 92 0 ++ 1 ∷ []) ≡ Err (no.Bad (record { at = 69; why = Value }))
unfolding read_as entry_classes both_directory_entry entry_head entry_start
short_name = refl

short_name_cut : read_as 3 (replicate 92 0) ≡ Err (no.Bad (record { at = 69; why = Short }))
unfolding read_as entry_classes both_directory_entry entry_head entry_start
short_name_cut = refl

no_such_class : read_as 7 a_name ≡ Err (no.Class 7)
unfolding read_as entry_classes
no_such_class = refl

writes_a_name : entry_bytes 12 (entry_named (0x61 ∷ [])) ≡ a_name
unfolding a_name bytes32
writes_a_name = refl

-- an entry whose name has one unit, in each class that tells its numbers
writes_64_and_the_name : length (entry_bytes 1 (entry_named (0x61 ∷ []))) ≡ 66
unfolding entry_head_bytes moments_bytes bytes8 bytes32 bytes64
writes_64_and_the_name = refl

writes_68_and_the_name : length (entry_bytes 2 (entry_named (0x61 ∷ []))) ≡ 70
unfolding entry_head_bytes moments_bytes bytes8 bytes32 bytes64
writes_68_and_the_name = refl

writes_93_and_the_name : length (entry_bytes 3 (entry_named (0x61 ∷ []))) ≡ 95
unfolding entry_head_bytes moments_bytes bytes8 bytes32 bytes64
writes_93_and_the_name = refl
