-- What each line of a load asks for and declares is within the limits of a script, and its lines are numbered from one on.
use Rattle.std.proofs.Common.{◌≡◌, ◌∙◌, ◌≢◌, refl, ap, ℕ, zero, suc, ◌+◌, ◌*◌, ◌%◌, ◌==◌, ◌^◌, ◌<◌, ◌≤◌, Bool, true, false, arith, List, [], ◌∷◌, ◌++◌, length, length-append}
use Rattle.std.specs.Prelude.{IfSome, codes, fold, if◌then◌else◌}
use Rattle.std.specs.List.{AllByRecursion}
use Rattle.std.specs.List.Sorted.{IsStrictlySortedBy}
use Rattle.std.specs.Ordering.{nat_cmp}
use Rattle.std.specs.declared.cmp.Ordering.TheVariants.{Less}
use Rattle.std.proofs.lemmas.Bool.Decides.{nat_tests}
use Rattle.std.proofs.lemmas.List.{length-replicate}
use Rattle.std.proofs.lemmas.List.Elements.{All-from_recursion}
use Rattle.rd_answered.specs.Refusing.{DeclaresInRoom}
use Rattle.rd_orders.proofs.ControlsNumbers.{Rise, numbers}
use Rattle.rd_orders.specs.ControlsControls.{NamesKnown}
use Rattle.rd_answered.specs.RunsPremises.{IsSubmittable}
use Rattle.rd_script.specs.declared.line.Line.{Line}
use Rattle.rd_script.specs.declared.line.Line.TheVariants as line
use Rattle.rd_script.specs.declared.line.NumberedLine.{NumberedLine}
use Rattle.rd_script.specs.Load.{block, block_bytes, blocks, create_line, drive_number, load_application, load_lines, load_script, numbered}
use Rattle.rd_world.specs.Applications.{IsNumber}
use Rattle.rd_declared.specs.Devices.{Declared, declaring, furnishing}
use Rattle.rd_declared.specs.Declaring.{IsDeclarable, IsNotable, bare_lines, declared_devices}
use Rattle.rd_world.specs.Run.{asked_by}
use Rattle.rd_world.specs.World.{Asked}

-- ---- one line

-- a line is within the limits of a script, and what it asks for fits a request
pub record IsWithin (l : Line) : Type 0 where
  pub declarable : IsDeclarable l
  pub notable : IsNotable l
  pub numbered : IfSome (asked_by l) (λ (x : ℕ × Asked). IsNumber x.0)
  pub submittable : IfSome (asked_by l) (λ (x : ℕ × Asked). IsSubmittable x.1)
  pub writable : DeclaresInRoom l
  pub known : (ids : List ℕ) → NamesKnown ids l

-- it declares no device, and puts nothing on one
pub record IsPlain (l : Line) : Type 0 where
  pub within : IsWithin l
  pub declares : (es : List (ℕ × Declared)) → declaring es l ≡ es
  pub furnishes : (es : List (ℕ × Declared)) → furnishing es l ≡ es

seed_plain : (number : ℕ) → IsPlain (line.Seed number)
unfolding IsDeclarable IsNotable DeclaresInRoom NamesKnown asked_by declaring furnishing
seed_plain number = record {
  within = record { declarable = tt; notable = tt; numbered = tt; submittable = tt; writable = tt; known = λ ids. tt };
  declares = λ es. refl;
  furnishes = λ es. refl;
}

workers_plain : IsPlain (line.Workers 4)
unfolding IsDeclarable IsNotable DeclaresInRoom NamesKnown asked_by declaring furnishing
workers_plain = record {
  within = record { declarable = (omega arith, omega arith); notable = tt; numbered = tt; submittable = tt; writable = tt; known = λ ids. tt };
  declares = λ es. refl;
  furnishes = λ es. refl;
}

drive_small : (a : ℕ) → drive_number a < 2 ^ 32
drive_small a = by (a % 2 == 1)
  where
    by : (b : Bool) → (if b then 1 else 2) < 2 ^ 32
    by true = omega arith
    by false = omega arith

create_plain : (a : ℕ) → IsNumber a → IsPlain (create_line a)
unfolding IsDeclarable IsNotable DeclaresInRoom NamesKnown asked_by declaring furnishing
create_plain a number = record {
  within = record {
    declarable = tt;
    notable = tt;
    numbered = number;
    writable = tt;
    known = λ ids. tt;
    submittable = record {
      fits = (omega arith, All-from_recursion (λ (unit : ℕ). unit ≢ 0) (codes "\\f" ++ (0x30 + a) ∷ []) (λ (e : 92 ≡ 0). absurd cc, (λ (e : 102 ≡ 0). absurd cc, (λ (e : 0x30 + a ≡ 0). omega (arith, e), tt))));
      range = (
        omega arith,
        omega arith,
        omega arith,
        omega arith,
        omega arith,
        omega arith,
        All-from_recursion (λ (unit : ℕ). unit < 2 ^ 16) (codes "\\f" ++ (0x30 + a) ∷ []) (omega arith, (omega arith, (omega (arith, number.1), tt))),
      );
      device = drive_small a;
    };
  };
  declares = λ es. refl;
  furnishes = λ es. refl;
}

write_plain : (a i : ℕ) → i ≤ 1000 → IsNumber a → IsPlain (line.Write a (codes "h") (block * i) (block_bytes a i))
unfolding IsDeclarable IsNotable DeclaresInRoom NamesKnown asked_by declaring furnishing
write_plain a i few number = record {
  within = record {
    declarable = tt;
    notable = tt;
    numbered = number;
    writable = tt;
    known = λ ids. tt;
    submittable = record {
      fits = let long : length (block_bytes a i) ≡ 4096 = length-replicate block ((a + i) % 256) in omega (arith, long);
      range = omega (arith, few);
      device = tt;
    };
  };
  declares = λ es. refl;
  furnishes = λ es. refl;
}

read_plain : (a i : ℕ) → i ≤ 1000 → IsNumber a → IsPlain (line.Read a (codes "h") (block * i) block)
unfolding IsDeclarable IsNotable DeclaresInRoom NamesKnown asked_by declaring furnishing
read_plain a i few number = record {
  within = record {
    declarable = tt;
    notable = tt;
    numbered = number;
    writable = tt;
    known = λ ids. tt;
    submittable = record { fits = tt; range = (omega (arith, few), omega arith); device = tt };
  };
  declares = λ es. refl;
  furnishes = λ es. refl;
}

close_plain : (a : ℕ) → IsNumber a → IsPlain (line.Close a (codes "h"))
unfolding IsDeclarable IsNotable DeclaresInRoom NamesKnown asked_by declaring furnishing
close_plain a number = record {
  within = record {
    declarable = tt;
    notable = tt;
    numbered = number;
    writable = tt;
    known = λ ids. tt;
    submittable = record { fits = tt; range = tt; device = tt };
  };
  declares = λ es. refl;
  furnishes = λ es. refl;
}

drive_within : (device : ℕ) (name : List ℕ) → device < 2 ^ 32 → length name ≤ 7 → IsWithin (line.Drive device name)
unfolding IsDeclarable IsNotable DeclaresInRoom NamesKnown asked_by
drive_within device name small short = record { declarable = short; notable = tt; numbered = tt; submittable = tt; writable = small; known = λ ids. tt }

-- ---- all lines

all_both : (P : Line → Type 0) (xs ys : List Line) → AllByRecursion P xs → AllByRecursion P ys → AllByRecursion P (xs ++ ys)
all_both P [] ys first second = second
all_both P (x ∷ xs) ys first second = (first.0, all_both P xs ys first.1 second)

blocks_plain : (a i count : ℕ) → i + count ≤ 1000 → IsNumber a → AllByRecursion IsPlain (blocks a i count)
blocks_plain a i zero few number = tt
blocks_plain a i (suc count) few number = (write_plain a i (omega (arith, few)) number, (read_plain a i (omega (arith, few)) number, blocks_plain a (i + 1) count (omega (arith, few)) number))

application_plain : (count a : ℕ) → count ≤ 1000 → IsNumber a → AllByRecursion IsPlain (load_application count a)
application_plain count a few number =
    (create_plain a number, all_both IsPlain (blocks a 0 count) (line.Close a (codes "h") ∷ []) (blocks_plain a 0 count (omega (arith, few)) number) (close_plain a number, tt))

-- the lines of the applications
abbrev issued : ℕ → List Line
issued count = load_application count 1 ++ (load_application count 2 ++ (load_application count 3 ++ load_application count 4))

-- the lines after the drives
abbrev pub behind_drives : ℕ → List Line
behind_drives count = line.Seed count ∷ line.Workers 4 ∷ issued count

pub plain_lines : (count : ℕ) → count ≤ 1000 → AllByRecursion IsPlain (behind_drives count)
plain_lines count few =
    let one = application_plain count 1 few (omega arith, omega arith) in
    let two = application_plain count 2 few (omega arith, omega arith) in
    let three = application_plain count 3 few (omega arith, omega arith) in
    let four = application_plain count 4 few (omega arith, omega arith) in
    let last = all_both IsPlain (load_application count 3) (load_application count 4) three four in
    let later = all_both IsPlain (load_application count 2) (load_application count 3 ++ load_application count 4) two last in
    (seed_plain count, (workers_plain, all_both IsPlain (load_application count 1) (load_application count 2 ++ (load_application count 3 ++ load_application count 4)) one later))

all_within : (ls : List Line) → AllByRecursion IsPlain ls → AllByRecursion IsWithin ls
all_within [] all = tt
all_within (l ∷ ls) all = (all.0.within, all_within ls all.1)

pub within_lines : (count : ℕ) → count ≤ 1000 → AllByRecursion IsWithin (load_lines count)
within_lines count few =
    (drive_within 1 (codes "LOAD") (omega arith) (omega arith), (drive_within 2 (codes "LOADB") (omega arith) (omega arith), all_within (behind_drives count) (plain_lines count few)))

-- what holds of each line holds of each line with its number
pub each_numbered : (P : Line → Type 0) (Q : NumberedLine → Type 0) (number : ℕ) (ls : List Line) → ((n : ℕ) (l : Line) → P l → Q (record { number = n; line = l })) → AllByRecursion P ls → AllByRecursion Q (numbered number ls)
each_numbered P Q number [] own all = tt
each_numbered P Q number (l ∷ ls) own all = (own number l all.0, each_numbered P Q (number + 1) ls own all.1)

pub bare_numbered : (number : ℕ) (ls : List Line) → bare_lines (numbered number ls) ≡ ls
bare_numbered number [] = refl
bare_numbered number (l ∷ ls) = ap (λ (ms : List Line). l ∷ ms) (bare_numbered (number + 1) ls)

pub long_numbered : (number : ℕ) (ls : List Line) → length (numbered number ls) ≡ length ls
long_numbered number [] = refl
long_numbered number (l ∷ ls) = let others = long_numbered (number + 1) ls in omega (arith, others)

-- numbers that are given rise
later_numbers : (m number : ℕ) (ls : List Line) → m < number → AllByRecursion (λ y. nat_cmp m y ≡ Less) (numbers (numbered number ls))
later_numbers m number [] before = tt
later_numbers m number (l ∷ ls) before = (grind (arith, nat_tests, before), later_numbers m (number + 1) ls (omega (arith, before)))

pub numbers_rise : (number : ℕ) (ls : List Line) → Rise (numbers (numbered number ls))
unfolding IsStrictlySortedBy
numbers_rise number [] = tt
numbers_rise number (l ∷ ls) = (later_numbers number (number + 1) ls (omega arith), numbers_rise (number + 1) ls)

-- ---- how many

long_blocks : (a i count : ℕ) → length (blocks a i count) ≡ 2 * count
long_blocks a i zero = omega arith
long_blocks a i (suc count) = let others : length (blocks a (i + 1) count) ≡ 2 * count = long_blocks a (i + 1) count in omega (arith, others)

long_application : (count a : ℕ) → length (load_application count a) ≡ 2 * count + 2
long_application count a =
    let all : length (blocks a 0 count ++ line.Close a (codes "h") ∷ []) ≡ length (blocks a 0 count) + 1 = length-append (blocks a 0 count) (line.Close a (codes "h") ∷ []) in
    let some : length (blocks a 0 count) ≡ 2 * count = long_blocks a 0 count in
    omega (arith, all, some)

pub long_load : (count : ℕ) → length (load_lines count) ≡ 8 * count + 12
long_load count =
    let three : length (load_application count 3 ++ load_application count 4) ≡ length (load_application count 3) + length (load_application count 4) = length-append (load_application count 3) (load_application count 4) in
    let two : length (load_application count 2 ++ (load_application count 3 ++ load_application count 4)) ≡ length (load_application count 2) + length (load_application count 3 ++ load_application count 4) =
    length-append (load_application count 2) (load_application count 3 ++ load_application count 4) in
    let one : length (issued count) ≡ length (load_application count 1) + length (load_application count 2 ++ (load_application count 3 ++ load_application count 4)) =
    length-append (load_application count 1) (load_application count 2 ++ (load_application count 3 ++ load_application count 4)) in
    let a : length (load_application count 1) ≡ 2 * count + 2 = long_application count 1 in
    let b : length (load_application count 2) ≡ 2 * count + 2 = long_application count 2 in
    let c : length (load_application count 3) ≡ 2 * count + 2 = long_application count 3 in
    let d : length (load_application count 4) ≡ 2 * count + 2 = long_application count 4 in
    let whole : length (load_lines count) ≡ length (issued count) + 4 = omega arith in
    omega (arith, whole, one, two, three, a, b, c, d)

-- ---- what it declares

none_declared : (ls : List Line) (es : List (ℕ × Declared)) → AllByRecursion IsPlain ls → fold declaring es ls ≡ es
none_declared [] es all = refl
none_declared (l ∷ ls) es all = ap (λ (ds : List (ℕ × Declared)). fold declaring ds ls) (all.0.declares es) ∙ none_declared ls es all.1

none_furnished : (ls : List Line) (es : List (ℕ × Declared)) → AllByRecursion IsPlain ls → fold furnishing es ls ≡ es
none_furnished [] es all = refl
none_furnished (l ∷ ls) es all = ap (λ (ds : List (ℕ × Declared)). fold furnishing ds ls) (all.0.furnishes es) ∙ none_furnished ls es all.1

-- the two drives, as they begin
abbrev pub drives : List (ℕ × Declared)
drives = declaring (declaring [] (line.Drive 1 (codes "LOAD"))) (line.Drive 2 (codes "LOADB"))

drives_bare : (es : List (ℕ × Declared)) → furnishing (furnishing es (line.Drive 1 (codes "LOAD"))) (line.Drive 2 (codes "LOADB")) ≡ es
unfolding furnishing
drives_bare es = refl

-- a load declares two drives, with nothing on them
pub load_devices : (count : ℕ) → count ≤ 1000 → declared_devices (bare_lines (load_script count).lines) ≡ drives
load_devices count few =
    let plain = plain_lines count few in
    ap (λ (ls : List Line). declared_devices ls) (bare_numbered 1 (load_lines count))
    ∙ ap (λ (es : List (ℕ × Declared)). fold furnishing es (load_lines count)) (none_declared (behind_drives count) drives plain)
    ∙ ap (λ (es : List (ℕ × Declared)). fold furnishing es (behind_drives count)) (drives_bare drives) ∙ none_furnished (behind_drives count) drives plain
