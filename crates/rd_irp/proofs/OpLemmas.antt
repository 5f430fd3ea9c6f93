-- The bodies of requests: what is read is no malformed operation, and what is written spells its operation.
use Rattle.std.proofs.Common.{◌≡◌, ℕ, zero, suc, ◌+◌, ◌*◌, ◌%◌, ◌^◌, ◌<◌, ◌≤◌, ◌≢◌, List, [], ◌∷◌, ◌++◌, Bool, true, false, Ok, length, refl, sym, ap, subst, arith, lit<, eq-eqb}
use Rattle.std.specs.Int.{w32, to_le_bytes}
use Rattle.std.specs.Prelude.{replicate, IsTrue, All, ◌==◌}
use Rattle.std.specs.List.{flat_map, AllByRecursion}
use Rattle.std.proofs.lemmas.List.{length-append}
use Rattle.std.proofs.lemmas.List.Elements.{All-weaker, recursion_from_All, All-from_recursion}
use Rattle.rd_base.specs.Position.{Position}
use Rattle.rd_base.specs.Layout.{Layout, done, four_bytes, ◌>>=◌, choose, met, IsSpelled}
use Rattle.rd_base.specs.Fields.{times, length_of_units, path, path_bytes, flag_number}
use Rattle.rd_base.specs.Spelling.{IsSpelling}
use Rattle.rd_base.proofs.ResultLemmas.{ok_one, and_then_ok}
use Rattle.rd_base.proofs.WrittenLemmas.{Written, done_last, layout_then, number_then, pad_then}
use Rattle.rd_base.proofs.WrittenPathLemmas.{length-units, length_written, path_written}
use Rattle.rd_base.proofs.SpellingLemmas.{written, times_spelled}
use Rattle.rd_base.proofs.WrittenFieldLemmas.{flag_then, length-path_bytes}
use Rattle.rd_base.proofs.CountedLemmas.{count_written, run_last, spelling_then, spelling_last}
use Rattle.rd_irp.specs.declared.op.Range.{Range}
use Rattle.rd_irp.specs.declared.op.Op.{Op}
use Rattle.rd_irp.specs.declared.op.Op.TheVariants.{Create, Close, Read, Write, QueryFile, SetFile, QueryVolume, SetVolume, QueryDir, Notify, Control, Lock, Unknown, Malformed}
use Rattle.rd_irp.specs.Op.{max_ranges, create_body, close_body, read_body, write_body, queried_class, class_and_bytes, query_file_body, set_file_body, query_volume_body, set_volume_body, query_dir_body, notify_body, control_body, range, lock_body, directory_body, op_body}
use Rattle.rd_irp.specs.Fits.{IsWritablePath, max_buffer, Fits, op_length}
use Rattle.rd_irp.specs.Written.{major_of, minor_of, range_bytes, queried_bytes, set_bytes, op_bytes, IsRangeInRange, IsOpInRange}

-- each value of a layout is such a one
pub record EachValue {A : Type 0} (P : A → Type 0) (l : Layout A) : Type 0 where
  pub each : (p : Position) (a : A) (q : Position) → met l p ≡ Ok (a, q) → P a

each_done : {A : Type 0} {P : A → Type 0} (x : A) → P x → EachValue P (done x)
each_done {P = P} x h = record { each = λ p a q e. let same : x ≡ a = ap (λ (y : _ × Position). y.0) (ok_one _ (x, p) (a, q) refl e) in subst P same h }

each_then : {A B : Type 0} {P : B → Type 0} {l : Layout A} {next : A → Layout B} → ((a : A) → EachValue P (next a)) → EachValue P (l >>= next)
each_then {l = l} {next = next} each = record {
  each = λ p b q e. let x = and_then_ok (met l p) (λ y. met (next y.0) y.1) (b, q) e in (each x.0.0).each x.0.1 b q x.2;
}

each_choose : {A : Type 0} (P : A → Type 0) (b : Bool) (l m : Layout A) → EachValue P l → EachValue P m → EachValue P (choose b l m)
each_choose P true l m g h = g
each_choose P false l m g h = h

-- an operation whose body was read
abbrev pub IsReadable : Op → Type 0
IsReadable (Malformed major minor bad) = ⊥
IsReadable _ = Unit {0}

create_reads : EachValue IsReadable create_body
unfolding create_body
create_reads =
    each_then λ access. each_then λ allocation. each_then λ attributes. each_then λ share. each_then λ disposition. each_then λ options. each_then λ count. each_then λ units.
    each_done (Create access allocation attributes share disposition options units) (tt {0})

close_reads : EachValue IsReadable close_body
unfolding close_body
close_reads = each_then λ u. each_done Close (tt {0})

read_reads : EachValue IsReadable read_body
unfolding read_body
read_reads = each_then λ len. each_then λ offset. each_then λ u. each_done (Read offset len) (tt {0})

write_reads : EachValue IsReadable write_body
unfolding write_body
write_reads = each_then λ count. each_then λ offset. each_then λ u. each_then λ bytes. each_done (Write offset bytes) (tt {0})

query_file_reads : EachValue IsReadable query_file_body
unfolding query_file_body
query_file_reads = each_then λ class. each_done (QueryFile class) (tt {0})

set_file_reads : EachValue IsReadable set_file_body
unfolding set_file_body
set_file_reads = each_then λ fields. each_done (SetFile fields.0 fields.1) (tt {0})

query_volume_reads : EachValue IsReadable query_volume_body
unfolding query_volume_body
query_volume_reads = each_then λ class. each_done (QueryVolume class) (tt {0})

set_volume_reads : EachValue IsReadable set_volume_body
unfolding set_volume_body
set_volume_reads = each_then λ fields. each_done (SetVolume fields.0 fields.1) (tt {0})

query_dir_reads : EachValue IsReadable query_dir_body
unfolding query_dir_body
query_dir_reads = each_then λ class. each_then λ initial. each_then λ count. each_then λ u. each_then λ units. each_done (QueryDir class initial units) (tt {0})

notify_reads : EachValue IsReadable notify_body
unfolding notify_body
notify_reads = each_then λ tree. each_then λ filter. each_then λ u. each_done (Notify tree filter) (tt {0})

control_reads : EachValue IsReadable control_body
unfolding control_body
control_reads = each_then λ output. each_then λ count. each_then λ code. each_then λ u. each_then λ bytes. each_done (Control output code bytes) (tt {0})

lock_reads : EachValue IsReadable lock_body
unfolding lock_body
lock_reads = each_then λ operation. each_then λ bits. each_then λ count. each_then λ u. each_then λ ranges. each_done (Lock operation (bits % 2 == 1) ranges) (tt {0})

directory_reads : (major minor : ℕ) → EachValue IsReadable (directory_body major minor)
unfolding directory_body
directory_reads major minor =
    each_choose IsReadable (minor == 1) query_dir_body _ query_dir_reads
    (each_choose IsReadable (minor == 2) notify_body _ notify_reads
    (each_done (Unknown major minor) (tt {0})))

-- no body is read as a malformed one
pub bodies_read : (major minor : ℕ) → EachValue IsReadable (op_body major minor)
unfolding op_body
bodies_read major minor =
    each_choose IsReadable (major == 0) create_body _ create_reads
    (each_choose IsReadable (major == 2) close_body _ close_reads
    (each_choose IsReadable (major == 3) read_body _ read_reads
    (each_choose IsReadable (major == 4) write_body _ write_reads
    (each_choose IsReadable (major == 5) query_file_body _ query_file_reads
    (each_choose IsReadable (major == 6) set_file_body _ set_file_reads
    (each_choose IsReadable (major == 0xa) query_volume_body _ query_volume_reads
    (each_choose IsReadable (major == 0xb) set_volume_body _ set_volume_reads
    (each_choose IsReadable (major == 0xc) (directory_body major minor) _ (directory_reads major minor)
    (each_choose IsReadable (major == 0xe) control_body _ control_reads
    (each_choose IsReadable (major == 0x11) lock_body _ lock_reads
    (each_done (Unknown major minor) (tt {0}))))))))))))

even : (n : ℕ) → IsTrue ((2 * n + 2) % 2 == 0)
even n = eq-eqb ((2 * n + 2) % 2) 0 (omega arith)

-- the length of a path and of the zero unit after it
path_length_spelled : (units : List ℕ) → IsWritablePath units → IsSpelling length_of_units (2 * length units + 2) (to_le_bytes w32 (2 * length units + 2))
path_length_spelled units fits =
    let few : length units ≤ 4096 = fits.0 in
    let count = 2 * length units + 2 in
    written length_of_units count (to_le_bytes w32 count) λ after. length_written count after (omega arith) (even (length units))

-- a path of that length
path_spelled : (units : List ℕ) → IsWritablePath units → All (λ unit. unit < 2 ^ 16) units → IsSpelling (path (2 * length units + 2)) units (path_bytes units)
path_spelled units fits low =
    let count = 2 * length units + 2 in
    let len : count ≡ length (path_bytes units) = omega (arith, length-units (units ++ 0 ∷ []), length-append units (0 ∷ [])) in
    let above : All (λ u. 0 < u) units = All-weaker (λ u. u ≢ 0) (λ u. 0 < u) (λ u not_zero. omega (arith, not_zero)) units fits.1 in
    written (path count) units (path_bytes units) λ after. path_written units count after len above low

create_written : (access allocation attributes share disposition options : ℕ) (units after : List ℕ) → IsWritablePath units → IsOpInRange (Create access allocation attributes share disposition options units)
    → Written create_body (Create access allocation attributes share disposition options units) (op_bytes (Create access allocation attributes share disposition options units)) after
unfolding create_body
create_written access allocation attributes share disposition options units after fits low =
    number_then access low.0
    (number_then allocation low.1
    (number_then attributes low.2
    (number_then share low.3
    (number_then disposition low.4
    (number_then options low.5
    (spelling_then (2 * length units + 2) _ (path_length_spelled units fits)
    (spelling_last units (path_bytes units) (path_spelled units fits low.6)
    (done_last _ after))))))))

write_written : (offset : ℕ) (bytes after : List ℕ) → length bytes ≤ max_buffer → offset < 2 ^ 64 → Written write_body (Write offset bytes) (op_bytes (Write offset bytes)) after
unfolding write_body
write_written offset bytes after few low =
    number_then (length bytes) (omega arith)
    (number_then offset low
    (pad_then (replicate 20 0) refl
    (run_last bytes refl
    (done_last (Write offset bytes) after))))

queried_spelled : (class : ℕ) → class < 2 ^ 32 → IsSpelling queried_class class (queried_bytes class)
unfolding queried_class
queried_spelled class low = written _ class (queried_bytes class) λ after. number_then class low (number_then 0 (lit< tt) (pad_then (replicate 24 0) refl (done_last class after)))

set_spelled : (class : ℕ) (bytes : List ℕ) → length bytes ≤ max_buffer → class < 2 ^ 32 → IsSpelling class_and_bytes (class, bytes) (set_bytes class bytes)
unfolding class_and_bytes
set_spelled class bytes few low =
    let both : ℕ × List ℕ = (class, bytes) in
    written _ both (set_bytes class bytes) λ after.
    number_then class low
    (number_then (length bytes) (omega arith)
    (pad_then (replicate 24 0) refl
    (run_last bytes refl
    (done_last both after))))

query_dir_written : (class : ℕ) (initial : Bool) (units after : List ℕ) → IsWritablePath units → IsOpInRange (QueryDir class initial units)
    → Written query_dir_body (QueryDir class initial units) (op_bytes (QueryDir class initial units)) after
unfolding query_dir_body
query_dir_written class initial units after fits low =
    number_then class low.0
    (flag_then initial
    (spelling_then (2 * length units + 2) _ (path_length_spelled units fits)
    (pad_then (replicate 23 0) refl
    (spelling_last units (path_bytes units) (path_spelled units fits low.1)
    (done_last _ after)))))

notify_written : (tree : Bool) (filter : ℕ) (after : List ℕ) → filter < 2 ^ 32 → Written notify_body (Notify tree filter) (op_bytes (Notify tree filter)) after
unfolding notify_body
notify_written tree filter after low = flag_then tree (number_then filter low (pad_then (replicate 27 0) refl (done_last (Notify tree filter) after)))

control_written : (output code : ℕ) (bytes after : List ℕ) → length bytes ≤ max_buffer → IsOpInRange (Control output code bytes) → Written control_body (Control output code bytes) (op_bytes (Control output code bytes)) after
unfolding control_body
control_written output code bytes after few low =
    number_then output low.0
    (number_then (length bytes) (omega arith)
    (number_then code low.1
    (pad_then (replicate 20 0) refl
    (run_last bytes refl
    (done_last (Control output code bytes) after)))))

pub range_spelled : (r : Range) → r.offset < 2 ^ 64 → r.length < 2 ^ 64 → IsSpelling range r (range_bytes r)
unfolding range
range_spelled r offset len = written _ r (range_bytes r) λ after. number_then r.length len (number_then r.offset offset (done_last r after))

ranges_spelled : (ranges : List Range) → AllByRecursion IsRangeInRange ranges → AllByRecursion (λ r. IsSpelling range r (range_bytes r)) ranges
ranges_spelled [] each = tt
ranges_spelled (r ∷ rs) each = (range_spelled r each.0.0 each.0.1, ranges_spelled rs each.1)

range_low : (r : Range) (field after : List ℕ) → IsSpelled range r field after → IsRangeInRange r
unfolding range
range_low r field after s =
    let values : IsRangeInRange (record { offset = s.5.0; length = s.0 }) = (s.5.4.1, s.4.1) in
    subst IsRangeInRange (sym s.5.5.0) values

each_range_low : (count : ℕ) (ranges : List Range) (field after : List ℕ) → IsSpelled (times count range) ranges field after → AllByRecursion IsRangeInRange ranges
each_range_low zero ranges field after s = subst (AllByRecursion IsRangeInRange) (sym s.0) tt
each_range_low (suc count) ranges field after s =
    let first = range_low s.0 s.1 _ s.4 in
    let others = each_range_low count s.5.0 s.5.1 _ s.5.4 in
    let all : AllByRecursion IsRangeInRange (s.0 ∷ s.5.0) = (first, others) in
    subst (AllByRecursion IsRangeInRange) (sym s.5.5.0) all

-- what spells ranges has them in the ranges of their fields
pub ranges_low : (ranges : List Range) (field : List ℕ) → IsSpelling (times (length ranges) range) ranges field → All IsRangeInRange ranges
ranges_low ranges field s = All-from_recursion IsRangeInRange ranges (each_range_low (length ranges) ranges field [] (s.whatever []))

flag_fits : (holds : Bool) → flag_number holds < 2 ^ 32
flag_fits true = lit< tt
flag_fits false = lit< tt

-- the bit in which it is written says whether a lock is waited for
lock_last : (operation : ℕ) (wait : Bool) (ranges : List Range) (after : List ℕ) → Written (done (Lock operation (flag_number wait % 2 == 1) ranges)) (Lock operation wait ranges) [] after
lock_last operation true ranges after = done_last (Lock operation true ranges) after
lock_last operation false ranges after = done_last (Lock operation false ranges) after

lock_written : (operation : ℕ) (wait : Bool) (ranges : List Range) (after : List ℕ) → length ranges ≤ max_ranges → IsOpInRange (Lock operation wait ranges)
    → Written lock_body (Lock operation wait ranges) (op_bytes (Lock operation wait ranges)) after
unfolding lock_body
lock_written operation wait ranges after few range_of =
    let field : List ℕ = flat_map range_bytes ranges in
    let each = times_spelled range range_bytes ranges (record { each = ranges_spelled ranges (recursion_from_All IsRangeInRange ranges range_of.1) }) in
    number_then operation range_of.0
    (number_then (flag_number wait) (flag_fits wait)
    (layout_then (length ranges) (to_le_bytes w32 (length ranges)) (count_written four_bytes max_ranges (length ranges) _ (omega arith) few)
    (pad_then (replicate 20 0) refl
    (spelling_last ranges field each
    (lock_last operation wait ranges after)))))

-- the body of each operation that fits
pub op_written : (o : Op) (after : List ℕ) → Fits o → IsOpInRange o → Written (op_body (major_of o) (minor_of o)) o (op_bytes o) after
unfolding op_body directory_body close_body read_body query_file_body set_file_body query_volume_body set_volume_body
op_written (Create access allocation attributes share disposition options units) after fits low = create_written access allocation attributes share disposition options units after fits low
op_written Close after fits low = pad_then (replicate 32 0) refl (done_last Close after)
op_written (Read offset len) after fits low = number_then len low.1 (number_then offset low.0 (pad_then (replicate 20 0) refl (done_last (Read offset len) after)))
op_written (Write offset bytes) after fits low = write_written offset bytes after fits low
op_written (QueryFile class) after fits low = spelling_last class (queried_bytes class) (queried_spelled class low) (done_last (QueryFile class) after)
op_written (SetFile class bytes) after fits low = spelling_last (class, bytes) (set_bytes class bytes) (set_spelled class bytes fits low) (done_last (SetFile class bytes) after)
op_written (QueryVolume class) after fits low = spelling_last class (queried_bytes class) (queried_spelled class low) (done_last (QueryVolume class) after)
op_written (SetVolume class bytes) after fits low = spelling_last (class, bytes) (set_bytes class bytes) (set_spelled class bytes fits low) (done_last (SetVolume class bytes) after)
op_written (QueryDir class initial units) after fits low = query_dir_written class initial units after fits low
op_written (Notify tree filter) after fits low = notify_written tree filter after low
op_written (Control output code bytes) after fits low = control_written output code bytes after fits low
op_written (Lock operation wait ranges) after fits low = lock_written operation wait ranges after fits low
op_written (Unknown major minor) after fits low = absurd fits
op_written (Malformed major minor bad) after fits low = absurd fits

pub length-ranges : (ranges : List Range) → length (flat_map range_bytes ranges) ≡ 16 * length ranges
length-ranges [] = refl
length-ranges (r ∷ rs) = omega (arith, length-ranges rs)

-- how many bytes a body is written in
pub length-op_bytes : (o : Op) → Fits o → length (op_bytes o) ≡ op_length o
length-op_bytes (Create access allocation attributes share disposition options units) fits = omega (arith, length-path_bytes units)
length-op_bytes (Write offset bytes) fits = omega arith
length-op_bytes (SetFile class bytes) fits = omega arith
length-op_bytes (SetVolume class bytes) fits = omega arith
length-op_bytes (QueryDir class initial units) fits = omega (arith, length-path_bytes units)
length-op_bytes (Control output code bytes) fits = omega arith
length-op_bytes (Lock operation wait ranges) fits = omega (arith, length-ranges ranges)
length-op_bytes (Unknown major minor) fits = refl
length-op_bytes (Malformed major minor bad) fits = refl
length-op_bytes _ fits = refl

-- what fits isn't malformed
pub fits_readable : (o : Op) → Fits o → IsReadable o
fits_readable (Malformed major minor bad) fits = fits
fits_readable _ fits = tt

pub head_fits : (o : Op) → Fits o → (major_of o < 2 ^ 32) × (minor_of o < 2 ^ 32)
head_fits (Unknown major minor) fits = absurd fits
head_fits (Malformed major minor bad) fits = absurd fits
head_fits _ fits = (lit< tt, lit< tt)
