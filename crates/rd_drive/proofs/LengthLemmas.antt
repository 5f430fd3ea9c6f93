-- How many bytes a drive tells of a node, of the volume and of a change: few enough for one message.
use Rattle.std.proofs.Common.{◌≡◌, refl, ℕ, ◌+◌, ◌*◌, ◌≤◌, ◌<◌, ◌^◌, ◌==◌, Bool, true, false, cond, List, [], ◌∷◌, ◌++◌, length, replicate, sum_by, drop, Option, Some, None, arith, zero, suc}
use Rattle.std.specs.Prelude.{nat_le}
use Rattle.std.specs.List.{last_or, flat_map}
use Rattle.std.specs.Option.{unwrap_or}
use Rattle.std.proofs.lemmas.Bool.{leb-true, and_parts}
use Rattle.std.proofs.lemmas.List.{length-append}
use Rattle.std.proofs.lemmas.List.Sums.{sum_by-cons}
use Rattle.rd_base.proofs.WrittenPathLemmas.{length-units}
use Rattle.rd_base.specs.Fields.{bytes8, bytes32, bytes64, text_bytes}
use Rattle.rd_base.specs.Moments.{moments_bytes}
use Rattle.rd_irp.specs.Fits.{max_buffer}
use Rattle.rd_dirinfo.specs.declared.entry.Entry.{Entry}
use Rattle.rd_dirinfo.specs.Entry.{entry_bytes, entry_head_bytes, directory, full_directory, both_directory, names}
use Rattle.rd_dirinfo.specs.Naming.{Name}
use Rattle.rd_dirinfo.specs.Paths.{Names, joined, path_len, last_name, is_within_limits, most_names, most_path_units}
use Rattle.rd_fileinfo.specs.declared.file_info.FileInfo.{FileInfo}
use Rattle.rd_fileinfo.specs.declared.volume_info.VolumeInfo.{VolumeInfo}
use Rattle.rd_fileinfo.specs.FileInfo.{file_info_bytes}
use Rattle.rd_fileinfo.specs.VolumeInfo.{volume_info_bytes}
use Rattle.rd_drive.specs.DriveState.{DriveState, Node}
use Rattle.rd_drive.specs.Outcome.{Change}
use Rattle.rd_drive.specs.Query.{node_info, node_infos, drive_info, volume_infos}
use Rattle.rd_drive.specs.Waiting.{change_bytes}
use Rattle.rd_drive.specs.Answered.{IsFitting}
use Rattle.rd_drive.proofs.AnswerLemmas.{lookup_has}

-- what is told of bytes that are joined
joined_most : (xs ys : List ℕ) (n m : ℕ) → length xs ≤ n → length ys ≤ m → length (xs ++ ys) ≤ n + m
joined_most xs ys n m first second = let both = length-append xs ys in omega (arith, both, first, second)

-- so many bytes can be counted, and sent
pub can_count : (bytes : List ℕ) → length bytes ≤ max_buffer → length bytes < 2 ^ 32
can_count bytes few = omega (arith, few)

-- ---- files and the volume

pub file_info_length : (node : Node) (class : ℕ) (info : FileInfo) → node_info node class ≡ Some info → length (file_info_bytes info) ≤ max_buffer
unfolding bytes8 bytes32 bytes64 moments_bytes
file_info_length node class info e =
    lookup_has (λ (x : FileInfo). length (file_info_bytes x) ≤ max_buffer) (◌==◌ class) (node_infos node) info e (leb-true _ max_buffer refl, (leb-true _ max_buffer refl, (leb-true _ max_buffer refl, tt)))

label_length : (label : List ℕ) → length label ≤ 32 → length (text_bytes label) ≤ 64
label_length label few = let twice = length-units label in omega (arith, twice, few)

pub volume_info_length : (s : DriveState) → IsFitting s → (class : ℕ) (info : VolumeInfo) → drive_info s class ≡ Some info → length (volume_info_bytes info) ≤ max_buffer
unfolding bytes8 bytes32 bytes64
volume_info_length s fitting class info e =
    lookup_has (λ (x : VolumeInfo). length (volume_info_bytes x) ≤ max_buffer) (◌==◌ class) (volume_infos s.label s.naming) info e (of_label, (leb-true _ max_buffer refl, (leb-true _ max_buffer refl, (leb-true _ max_buffer refl, (leb-true _ max_buffer refl, tt)))))
  where
    of_label : length (bytes64 0 ++ bytes32 0x5244_5231 ++ bytes32 (2 * length s.label) ++ bytes8 0 ++ text_bytes s.label) ≤ max_buffer
    of_label =
        let all = joined_most (bytes64 0) (bytes32 0x5244_5231 ++ bytes32 (2 * length s.label) ++ bytes8 0 ++ text_bytes s.label) 8 73 (leb-true (length (bytes64 0)) 8 refl)
        (joined_most (bytes32 0x5244_5231) (bytes32 (2 * length s.label) ++ bytes8 0 ++ text_bytes s.label) 4 69 (leb-true (length (bytes32 0x5244_5231)) 4 refl)
        (joined_most (bytes32 (2 * length s.label)) (bytes8 0 ++ text_bytes s.label) 4 65 (leb-true (length (bytes32 (2 * length s.label))) 4 refl)
        (joined_most (bytes8 0) (text_bytes s.label) 1 64 (leb-true (length (bytes8 0)) 1 refl) (label_length s.label fitting.label)))) in
        omega (arith, all)

-- ---- names and paths

-- the last name is no longer than all
last_most : (o : Option Name) (path : Names) → length (unwrap_or (last_or o path) []) ≤ length (unwrap_or o []) + sum_by (λ (name : Name). length name) path
last_most o [] = omega arith
last_most o (x ∷ xs) = let later = last_most (Some x) xs in let all = sum_by-cons (λ (name : Name). length name) x xs in omega (arith, later, all)

limit_of : (path : Names) → is_within_limits path ≡ true → path_len path ≤ 4096
limit_of path e = leb-true (path_len path) 4096 (and_parts (nat_le (length path) most_names) (nat_le (path_len path) most_path_units) e).1

pub last_length : (path : Names) → is_within_limits path ≡ true → length (last_name path) ≤ 4096
last_length path e = let last = last_most None path in let limit = limit_of path e in omega (arith, last, limit)

-- joined names have the units of all, and one between each two
rest_length : (names : Names) → length (flat_map (λ (other : Name). 0x5c ∷ other) names) ≡ sum_by (λ (name : Name). length name) names + length names
rest_length [] = refl
rest_length (x ∷ xs) = let later = rest_length xs in let all = sum_by-cons (λ (name : Name). length name) x xs in let both = length-append (0x5c ∷ x) (flat_map (λ (other : Name). 0x5c ∷ other) xs) in omega (arith, later, both, all)

pub joined_length : (names : Names) → length (joined names) ≡ path_len names
joined_length [] = refl
joined_length (x ∷ xs) = let later = rest_length xs in let all = sum_by-cons (λ (name : Name). length name) x xs in let both = length-append x (flat_map (λ (other : Name). 0x5c ∷ other) xs) in omega (arith, later, both, all)

pub below_length : (n : ℕ) (path : Names) → path_len (drop n path) ≤ path_len path
below_length zero path = omega arith
below_length (suc n) [] = omega arith
below_length (suc n) (x ∷ xs) = let later = below_length n xs in let all = sum_by-cons (λ (name : Name). length name) x xs in omega (arith, later, all)

-- ---- entries and changes

units_most : (units : List ℕ) → length units ≤ 4096 → length (text_bytes units) ≤ 8192
units_most units few = let twice = length-units units in omega (arith, twice, few)

pub entry_length : (class : ℕ) (e : Entry) → length e.name ≤ 4096 → length (entry_bytes class e) ≤ max_buffer
unfolding bytes8 bytes32 bytes64 entry_head_bytes moments_bytes
entry_length class e few = by (class == directory) (class == full_directory) (class == both_directory) (class == names)
  where
    name : length (text_bytes e.name) ≤ 8192
    name = units_most e.name few

    head : length (entry_head_bytes e) ≤ 64
    head = leb-true _ 64 refl

    by : (a b c d : Bool) → length (cond a (entry_head_bytes e ++ text_bytes e.name)
        (cond b (entry_head_bytes e ++ bytes32 0 ++ text_bytes e.name)
        (cond c (entry_head_bytes e ++ bytes32 0 ++ bytes8 0 ++ replicate 24 0 ++ text_bytes e.name)
        (cond d (bytes32 0 ++ bytes32 0 ++ bytes32 (2 * length e.name) ++ text_bytes e.name) [])))) ≤ max_buffer
    by true b c d = let all = joined_most (entry_head_bytes e) (text_bytes e.name) 64 8192 head name in omega (arith, all)
    by false true c d = let all = joined_most (entry_head_bytes e) (bytes32 0 ++ text_bytes e.name) 64 8196 head (joined_most (bytes32 0) (text_bytes e.name) 4 8192 (leb-true _ 4 refl) name) in omega (arith, all)
    by false false true d =
        let all = joined_most (entry_head_bytes e) (bytes32 0 ++ bytes8 0 ++ replicate 24 0 ++ text_bytes e.name) 64 8221 head
        (joined_most (bytes32 0) (bytes8 0 ++ replicate 24 0 ++ text_bytes e.name) 4 8217 (leb-true _ 4 refl)
        (joined_most (bytes8 0) (replicate 24 0 ++ text_bytes e.name) 1 8216 (leb-true _ 1 refl)
        (joined_most (replicate 24 0) (text_bytes e.name) 24 8192 (leb-true _ 24 refl) name))) in
        omega (arith, all)
    by false false false true =
        let all = joined_most (bytes32 0) (bytes32 0 ++ bytes32 (2 * length e.name) ++ text_bytes e.name) 4 8200 (leb-true _ 4 refl)
        (joined_most (bytes32 0) (bytes32 (2 * length e.name) ++ text_bytes e.name) 4 8196 (leb-true _ 4 refl)
        (joined_most (bytes32 (2 * length e.name)) (text_bytes e.name) 4 8192 (leb-true _ 4 refl) name)) in
        omega (arith, all)
    by false false false false = leb-true 0 max_buffer refl

pub change_length : (folder : Names) (change : Change) → is_within_limits change.path ≡ true → length (change_bytes folder change) ≤ 8204
unfolding bytes32
change_length folder change e =
    let below = below_length (length folder) change.path in
    let limit = limit_of change.path e in
    let units = joined_length (drop (length folder) change.path) in
    let few : length (joined (drop (length folder) change.path)) ≤ 4096 = omega (arith, below, limit, units) in
    let name = units_most (joined (drop (length folder) change.path)) few in
    let told : List ℕ = text_bytes (joined (drop (length folder) change.path)) in
    joined_most (bytes32 0) (bytes32 change.action ++ bytes32 (length told) ++ told) 4 8200 (leb-true _ 4 refl)
    (joined_most (bytes32 change.action) (bytes32 (length told) ++ told) 4 8196 (leb-true _ 4 refl)
    (joined_most (bytes32 (length told)) told 4 8192 (leb-true _ 4 refl) name))
