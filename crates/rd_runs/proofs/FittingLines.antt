-- What lines of a script ask for fits a request.
use Rattle.std.proofs.Common.{◌≡◌, ◌≢◌, refl, sym, ap, subst, inl, inr, arith, ℕ, zero, suc, ◌+◌, ◌*◌, ◌-◌, ◌^◌, ◌≤◌, ◌<◌, ◌&&◌, Bool, true, false, cond, List, [], ◌∷◌, lit<, length, take, drop, Option, Some, None, Result, Ok, Err, All}
use Rattle.std.specs.Prelude.{◌==◌, if◌then◌else◌, not, nat_le, nat_lt, position}
use Rattle.std.specs.List.{AllByRecursion, slice_split}
use Rattle.std.specs.Option.{IfSome, option_and_then, option_map}
use Rattle.std.specs.Result.{result_unwrap_or}
use Rattle.std.proofs.lemmas.Bool.{and_parts, eqb-true, leb-true}
use Rattle.std.proofs.lemmas.List.Elements.{All-from_recursion}
use Rattle.rd_irp.specs.declared.op.Range.{Range}
use Rattle.rd_irp.specs.Fits.{IsWritablePath, max_buffer, max_path}
use Rattle.rd_irp.specs.Written.{IsRangeInRange}
use Rattle.rd_script.specs.declared.keyword.Mode.{Mode}
use Rattle.rd_script.specs.declared.line.NumberedLine.{NumberedLine}
use Rattle.rd_script.specs.declared.script.Script.{Script}
use Rattle.rd_script.specs.Numbers.{below_base, digit_of, digits_from, digits_in, flag_word, number32_word, number64_word, number_of, number_word, small}
use Rattle.rd_script.specs.Row.{given, met_words, test, word, words_of}
use Rattle.rd_script.specs.Script.{BadLine, Reading, TextLine, bad_line, fits, go_on, is_application, is_skipped, line_of, lines_of, read_all, reading, reading_at_start, script_of, script_read, skipping, step, taken}
use Rattle.rd_script.specs.Texts.{all_ranges, escaped, few_bytes, few_ranges, few_units, handle_word, hex_word, is_dash, is_visible, name_word, place_word, prepended, range_from, range_of, ranges_of, some_units, unit_before, units_after, units_of, units_word}
use Rattle.rd_runs.specs.Premises.{AreSubmittable, IsSubmittable}
use Rattle.rd_declared.proofs.RowFacts.{AreShort, Gives, gives_after, gives_between, gives_done, gives_few_bytes, gives_given, gives_test, gives_then, gives_weaker}
use Rattle.rd_world.specs.Run.{asked_by}
use Rattle.rd_deeds.specs.Talk.{Has}
use Rattle.rd_world.specs.World.{Asked}
use Rattle.std.proofs.lemmas.Bool.Decides.{nat_tests}
use Rattle.rd_irp.specs.Op.{max_ranges}
use Rattle.rd_base.specs.Layout.{and_then}
use Rattle.rd_script.specs.declared.keyword.Keyword.{Keyword}
use Rattle.rd_script.specs.declared.keyword.Keyword.TheVariants as keyword
use Rattle.rd_script.specs.declared.keyword.Verb.{Verb}
use Rattle.rd_script.specs.declared.keyword.Verb.TheVariants as verb
use Rattle.rd_script.specs.declared.keyword.NoticeWord.{NoticeWord}
use Rattle.rd_script.specs.declared.keyword.NoticeWord.TheVariants as notice
use Rattle.rd_script.specs.declared.keyword.Act.{Act}
use Rattle.rd_script.specs.declared.keyword.Act.TheVariants as act
use Rattle.rd_script.specs.declared.line.Line.{Line}
use Rattle.rd_script.specs.declared.line.Line.TheVariants as line
use Rattle.rd_script.specs.declared.why.LineWhy.{LineWhy}
use Rattle.rd_script.specs.declared.why.LineWhy.TheVariants as why
use Rattle.rd_script.specs.Keywords.{acts, notice_words}
use Rattle.rd_script.specs.Rows.{act_row, add_row, application_row, at_add, at_remove, at_row, buffer_word, cache_add_row, cache_delete_row, cache_rename_row, cache_row, cache_update_row, channels_row, clock_row, control_line_row, control_row, create_numbers, create_row, devices_row, dir_row, do_row, drive_id, drive_row, drivefold_row, end_row, entry_word, errand_row, file_row, fill_length, fill_row, folder_row, form_row, id_word, keyword_row, keyword_word, known_device, line_row, lock_row, max_applications, max_cached, moment_row, new_device, new_path, notice_row, notify_row, open_row, path_word, piece_row, printer_name, printer_row, query_row, read_row, real_row, remove_row, seed_row, set_row, setvolume_row, verb_row, verb_word, volume_row, workers_row, write_row}
use Rattle.rd_script.specs.Said.{Said}
use Rattle.rd_dirinfo.specs.Paths.{Names, is_within_limits, names_of, parsed_path, path_fault}
use Rattle.rd_dirinfo.proofs.PathLemmas.{path_is_within}
use Rattle.rd_drive.proofs.AllLemmas.{all_append}
use Rattle.rd_script.proofs.RowLemmas.{ok_same}

-- ---- the units of a path

-- a unit that a path may have
abbrev IsUnit : ℕ → Type 0
IsUnit u = (u ≢ 0) × (u < 2 ^ 16)

lower_digit : (digit d : ℕ) → below_base 16 digit ≡ Some d → d < 16
lower_digit digit d e = by (nat_lt digit 16) refl e
  where
    by : (b : Bool) → nat_lt digit 16 ≡ b → (if b then Some digit else None) ≡ Some d → d < 16
    by true few e = let same : digit ≡ d = cc e in grind (arith, nat_tests, same, few)
    by false many e = absurd (cc e)

digit_few : (c d : ℕ) → digit_of 16 c ≡ Some d → d < 16
digit_few c d e = by (nat_le 0x30 c && nat_le c 0x39) (nat_le 0x61 c && nat_le c 0x66) e
  where
    by : (a b : Bool) → (if a then below_base 16 (c - 0x30) else (if b then below_base 16 (c - 0x61 + 10) else None)) ≡ Some d → d < 16
    by true b e = lower_digit (c - 0x30) d e
    by false true e = lower_digit (c - 0x61 + 10) d e
    by false false e = absurd (cc e)

-- one digit more
record Digit (said c : ℕ) (cs : List ℕ) (n : ℕ) : Type 0 where
  digit : ℕ
  few : digit < 16
  rest : digits_from 16 (said * 16 + digit) cs ≡ Some n

one_digit : (said c : ℕ) (cs : List ℕ) (n : ℕ) → digits_from 16 said (c ∷ cs) ≡ Some n → Digit said c cs n
one_digit said c cs n e = by (digit_of 16 c) refl e
  where
    by : (o : Option ℕ) → digit_of 16 c ≡ o → option_and_then (λ digit. digits_from 16 (said * 16 + digit) cs) o ≡ Some n → Digit said c cs n
    by None is e = absurd (cc e)
    by (Some d) is e = record { digit = d; few = digit_few c d is; rest = e }

four_digits : (a b c d n : ℕ) → digits_from 16 0 (a ∷ b ∷ c ∷ d ∷ []) ≡ Some n → n < 2 ^ 16
four_digits a b c d n e =
    let one = one_digit 0 a (b ∷ c ∷ d ∷ []) n e in
    let two = one_digit (0 * 16 + one.digit) b (c ∷ d ∷ []) n one.rest in
    let three = one_digit ((0 * 16 + one.digit) * 16 + two.digit) c (d ∷ []) n two.rest in
    let four = one_digit (((0 * 16 + one.digit) * 16 + two.digit) * 16 + three.digit) d [] n three.rest in
    let is : (((0 * 16 + one.digit) * 16 + two.digit) * 16 + three.digit) * 16 + four.digit ≡ n = cc four.rest in
    omega (arith, is, one.few, two.few, three.few, four.few)

escaped_few : (digits : List ℕ) (n : ℕ) → escaped digits ≡ Some n → n < 2 ^ 16
escaped_few [] n e = absurd (cc e)
escaped_few (a ∷ []) n e = absurd (cc e)
escaped_few (a ∷ b ∷ []) n e = absurd (cc e)
escaped_few (a ∷ b ∷ c ∷ []) n e = absurd (cc e)
escaped_few (a ∷ b ∷ c ∷ d ∷ []) n e = four_digits a b c d n e
escaped_few (a ∷ b ∷ c ∷ d ∷ x ∷ xs) n e = by (length (a ∷ b ∷ c ∷ d ∷ x ∷ xs) == 4) refl e
  where
    by : (t : Bool) → (length (a ∷ b ∷ c ∷ d ∷ x ∷ xs) == 4) ≡ t → (if t then digits_in 16 (a ∷ b ∷ c ∷ d ∷ x ∷ xs) else None) ≡ Some n → n < 2 ^ 16
    by true four e = let same : length (a ∷ b ∷ c ∷ d ∷ x ∷ xs) ≡ 4 = eqb-true (length (a ∷ b ∷ c ∷ d ∷ x ∷ xs)) 4 four in absurd (omega (arith, same))
    by false other e = absurd (cc e)

before_units : (o : Option ℕ) (rest : Option (List ℕ)) (us : List ℕ) → ((n : ℕ) → o ≡ Some n → n < 2 ^ 16) → ((vs : List ℕ) → rest ≡ Some vs → AllByRecursion IsUnit vs) → unit_before o rest ≡ Some us
    → AllByRecursion IsUnit us
before_units None rest us few all e = absurd (cc e)
before_units (Some n) None us few all e = by (n == 0) e
  where
    by : (b : Bool) → (if b then None else option_map (λ us. n ∷ us) None) ≡ Some us → AllByRecursion IsUnit us
    by true e = absurd (cc e)
    by false e = absurd (cc e)
before_units (Some n) (Some vs) us few all e = by (n == 0) refl e
  where
    by : (b : Bool) → (n == 0) ≡ b → (if b then None else option_map (λ us. n ∷ us) (Some vs)) ≡ Some us → AllByRecursion IsUnit us
    by true none e = absurd (cc e)
    by false some e =
        let is : n ∷ vs ≡ us = cc e in
        let apart : n ≢ 0 = λ (zero_is : n ≡ 0). (let yes_it_is : (n == 0) ≡ true = rw zero_is refl in cc (yes_it_is, some)) in
        subst (AllByRecursion IsUnit) is ((apart, few n refl), all vs refl)

units_are : (n : ℕ) (cs us : List ℕ) → units_after n cs ≡ Some us → AllByRecursion IsUnit us
units_are n [] us e = let is : [] ≡ us = cc e in subst (AllByRecursion IsUnit) is tt
units_are (suc n) (c ∷ cs) us e = units_are n cs us e
units_are zero (c ∷ cs) us e = by (c == 0x25) (is_visible c) refl e (λ n vs. units_are n cs vs)
  where
    by : (a b : Bool) → is_visible c ≡ b → (if a then unit_before (escaped (take 4 cs)) (units_after 4 cs) else (if b then unit_before (Some c) (units_after 0 cs) else None)) ≡ Some us
        → ((n : ℕ) (vs : List ℕ) → units_after n cs ≡ Some vs → AllByRecursion IsUnit vs) → AllByRecursion IsUnit us
    by true b sight e later = before_units (escaped (take 4 cs)) (units_after 4 cs) us (escaped_few (take 4 cs)) (later 4) e
    by false true sight e later = before_units (Some c) (units_after 0 cs) us (λ n is. few n is) (later 0) e
      where
        few : (n : ℕ) → Some c ≡ Some n → n < 2 ^ 16
        few n is = let same : c ≡ n = cc is in let below : c ≤ 0x7e = leb-true c 0x7e (and_parts (nat_le 0x21 c) (nat_le c 0x7e) sight).1 in omega (arith, same, below)
    by false false sight e later = absurd (cc e)

word_units : (w us : List ℕ) → units_of w ≡ Some us → AllByRecursion IsUnit us
word_units w us e = by (is_dash w) e
  where
    some : (w : List ℕ) → some_units w ≡ Some us → AllByRecursion IsUnit us
    some [] e = absurd (cc e)
    some (c ∷ cs) e = units_are 0 (c ∷ cs) us e

    by : (b : Bool) → (if b then Some [] else some_units w) ≡ Some us → AllByRecursion IsUnit us
    by true e = let is : [] ≡ us = cc e in subst (AllByRecursion IsUnit) is tt
    by false e = some w e

-- ---- ranges

small_few : (o : Option ℕ) (n : ℕ) → small o ≡ Some n → n < 2 ^ 64
small_few None n e = absurd (cc e)
small_few (Some k) n e = by (nat_lt k (2 ^ 64)) refl e
  where
    by : (b : Bool) → nat_lt k (2 ^ 64) ≡ b → (if b then Some k else None) ≡ Some n → n < 2 ^ 64
    by true few e = let same : k ≡ n = cc e in grind (arith, nat_tests, same, few)
    by false many e = absurd (cc e)

range_few : (part : List ℕ) (r : Range) → range_of part ≡ Some r → IsRangeInRange r
range_few part r e = at (position (λ c. c == 0x3a) part) e
  where
    len : (offset i : ℕ) → offset < 2 ^ 64 → (o : Option ℕ) → small (number_of (drop (i + 1) part)) ≡ o → option_map (range_from offset) o ≡ Some r → IsRangeInRange r
    len offset i few None is e = absurd (cc e)
    len offset i few (Some n) is e = let same : range_from offset n ≡ r = cc e in subst IsRangeInRange same (few, small_few (number_of (drop (i + 1) part)) n is)

    first : (i : ℕ) (o : Option ℕ) → small (number_of (take i part)) ≡ o
        → option_and_then (λ offset. option_map (range_from offset) (small (number_of (drop (i + 1) part)))) o ≡ Some r → IsRangeInRange r
    first i None is e = absurd (cc e)
    first i (Some offset) is e = len offset i (small_few (number_of (take i part)) offset is) (small (number_of (drop (i + 1) part))) refl e

    at : (o : Option ℕ) → option_and_then (λ i. option_and_then (λ offset. option_map (range_from offset) (small (number_of (drop (i + 1) part)))) (small (number_of (take i part)))) o ≡ Some r → IsRangeInRange r
    at None e = absurd (cc e)
    at (Some i) e = first i (small (number_of (take i part))) refl e

ranges_few : (parts : List (List ℕ)) (rs : List Range) → all_ranges parts ≡ Some rs → AllByRecursion IsRangeInRange rs
ranges_few [] rs e = let is : [] ≡ rs = cc e in subst (AllByRecursion IsRangeInRange) is tt
ranges_few (part ∷ parts) rs e = by (range_of part) refl (all_ranges parts) refl e (ranges_few parts)
  where
    by : (o : Option Range) → range_of part ≡ o → (others : Option (List Range)) → all_ranges parts ≡ others → prepended o others ≡ Some rs
        → ((qs : List Range) → all_ranges parts ≡ Some qs → AllByRecursion IsRangeInRange qs) → AllByRecursion IsRangeInRange rs
    by None is others those e later = absurd (cc e)
    by (Some r) is None those e later = absurd (cc e)
    by (Some r) is (Some qs) those e later = let same : r ∷ qs ≡ rs = cc e in subst (AllByRecursion IsRangeInRange) same (range_few part r is, later qs those)

-- ---- words

module _ (n : ℕ) where
  below : (most k : ℕ) → k ≤ most - 1 → 0 < most → k < most
  below most k few some = omega (arith, few, some)

  gives_number32 : Gives n (λ (k : ℕ). k < 2 ^ 32) number32_word
  gives_number32 = gives_weaker n _ _ number32_word (λ k is. omega (arith, is.1)) (gives_between n 0 (2 ^ 32 - 1))

  gives_number64 : Gives n (λ (k : ℕ). k < 2 ^ 64) number64_word
  gives_number64 = gives_weaker n _ _ number64_word (λ k is. omega (arith, is.1)) (gives_between n 0 (2 ^ 64 - 1))

  gives_known : (said : Said) → Gives n (λ (device : ℕ). device < 2 ^ 32) (known_device said)
  unfolding known_device
  gives_known said =
      gives_then n _ _ id_word _ (gives_between n 1 (2 ^ 32 - 1)) (λ device is. gives_after n _ (test _ why.Device) _ (λ u. gives_done n (λ (device : ℕ). device < 2 ^ 32) device (omega (arith, is.1))))

  gives_path : Gives n (λ (path : List ℕ). IsWritablePath path × All (λ unit. unit < 2 ^ 16) path) path_word
  unfolding few_units units_word
  gives_path =
      gives_then n (AllByRecursion IsUnit) _ (units_word why.Path) _
      (gives_after n (AllByRecursion IsUnit) word _ (λ w. gives_weaker n _ _ (given (units_of w) why.Path) (λ us is. word_units w us is) (gives_given n (units_of w) why.Path)))
      (λ path units. gives_then n _ _ (test (nat_le (length path) max_path) why.Many) _ (gives_test n _ _)
      (λ u few. gives_done n _ path ((leb-true (length path) max_path few, All-from_recursion _ path (fst path units)), All-from_recursion _ path (snd path units))))
    where
      fst : (us : List ℕ) → AllByRecursion IsUnit us → AllByRecursion (λ u. u ≢ 0) us
      fst [] all = tt
      fst (u ∷ us) all = ((all.0).0, fst us all.1)

      snd : (us : List ℕ) → AllByRecursion IsUnit us → AllByRecursion (λ u. u < 2 ^ 16) us
      snd [] all = tt
      snd (u ∷ us) all = ((all.0).1, snd us all.1)

  gives_ranges : Gives n (λ (rs : List Range). (length rs ≤ max_ranges) × All IsRangeInRange rs) (few_ranges max_ranges)
  unfolding few_ranges
  gives_ranges =
      gives_after n _ word _ (λ w. gives_then n (AllByRecursion IsRangeInRange) _ (given (ranges_of w) why.Number) _
      (gives_weaker n _ _ (given (ranges_of w) why.Number) (λ rs is. ranges_few (slice_split (λ c. c == 0x2c) w) rs is) (gives_given n (ranges_of w) why.Number))
      (λ rs all. gives_then n _ _ (test (nat_le (length rs) max_ranges) why.Many) _ (gives_test n _ _) (λ u few. gives_done n _ rs (leb-true (length rs) max_ranges few, All-from_recursion IsRangeInRange rs all))))

-- the path at which a line makes a folder or a file is within the limits of paths
abbrev pub MakesWithin : Line → Type 0
MakesWithin (line.Folder device path) = is_within_limits path ≡ true
MakesWithin (line.File device path bytes) = is_within_limits path ≡ true
MakesWithin (line.Fill device path len byte) = is_within_limits path ≡ true
MakesWithin _ = Unit {0}

-- what a line asks for fits, if it asks for something, and what it makes is within limits
abbrev pub LineFits : Line → Type 0
LineFits l = IfSome (asked_by l) (λ (x : ℕ × Asked). IsSubmittable x.1) × MakesWithin l

-- a path of a drive at which a node can be made
gives_made : (n : ℕ) (said : Said) (device : ℕ) → Gives n (λ (path : Names). is_within_limits path ≡ true) (new_path said device)
unfolding new_path
gives_made n said device =
    gives_after n _ (units_word why.Path) _ (λ units. gives_then n (λ (path : Names). is_within_limits path ≡ true) _ (given (parsed_path units) why.Path) _
    (gives_weaker n _ _ (given (parsed_path units) why.Path) (λ path is. spelled units path is) (gives_given n (parsed_path units) why.Path))
    (λ path within. gives_after n _ (test _ why.Path) _ (λ u. gives_done n (λ (path : Names). is_within_limits path ≡ true) path within)))
  where
    spelled : (units : List ℕ) (path : Names) → parsed_path units ≡ Some path → is_within_limits path ≡ true
    spelled units path e = by (path_fault units) refl e
      where
        by : (o : Option ℕ) → path_fault units ≡ o → elim o [ Some at ↦ None | None ↦ Some (names_of units) ] ≡ Some path → is_within_limits path ≡ true
        by None sound h = let same : names_of units ≡ path = cc in subst (λ (p : Names). is_within_limits p ≡ true) same (and_parts _ (is_within_limits (names_of units)) (path_is_within units sound)).1
        by (Some at) sound h = absurd cc

module _ (n : ℕ) (said : Said) where
  abbrev P : Line → Type 0
  P = LineFits

  -- ---- settings

  seed_row_fits : Gives n P seed_row
  unfolding seed_row asked_by
  seed_row_fits =
      gives_after n P number64_word _ (λ number. gives_done n P (line.Seed number) (tt, tt))

  clock_row_fits : Gives n P clock_row
  unfolding clock_row asked_by
  clock_row_fits =
      gives_after n P number64_word _ (λ moment. gives_done n P (line.Clock moment) (tt, tt))

  piece_row_fits : Gives n P piece_row
  unfolding piece_row asked_by
  piece_row_fits =
      gives_after n P (number_word 1 65536) _ (λ most. gives_done n P (line.Piece most) (tt, tt))

  workers_row_fits : Gives n P workers_row
  unfolding workers_row asked_by
  workers_row_fits =
      gives_after n P (number_word 1 16) _ (λ count. gives_done n P (line.Workers count) (tt, tt))

  channels_row_fits : Gives n P channels_row
  unfolding channels_row asked_by
  channels_row_fits =
      gives_after n P (number_word 1 64) _ (λ count. gives_done n P (line.Channels count) (tt, tt))

  devices_row_fits : Gives n P devices_row
  unfolding devices_row asked_by
  devices_row_fits =
      gives_after n P (number_word 0 256) _ (λ count. gives_done n P (line.Devices count) (tt, tt))

  -- ---- devices
  drive_row_fits : Gives n P (drive_row said)
  unfolding drive_row asked_by
  drive_row_fits =
      gives_after n P (new_device said) _ (λ device. gives_after n P name_word _ (λ name. gives_done n P (line.Drive device name) (tt, tt)))

  drivefold_row_fits : Gives n P (drivefold_row said)
  unfolding drivefold_row asked_by
  drivefold_row_fits =
      gives_after n P (new_device said) _ (λ device. gives_after n P name_word _ (λ name. gives_done n P (line.DriveFold device name) (tt, tt)))

  real_row_fits : Gives n P (real_row said)
  unfolding real_row asked_by
  real_row_fits =
      gives_after n P (new_device said) _ (λ device. gives_after n P name_word _ (λ name. gives_after n P place_word _ (λ place. gives_done n P (line.Real device name place) (tt, tt))))

  folder_row_fits : Gives n P (folder_row said)
  unfolding folder_row asked_by
  folder_row_fits =
      gives_after n P (drive_id said) _ (λ device. gives_then n _ P (new_path said device) _ (gives_made n said device) (λ path within. gives_done n P (line.Folder device path) (tt, within)))

  file_row_fits : Gives n P (file_row said)
  unfolding file_row asked_by
  file_row_fits =
      gives_after n P (drive_id said) _ (λ device. gives_then n _ P (new_path said device) _ (gives_made n said device) (λ path within. gives_after n P hex_word _ (λ bytes. gives_done n P (line.File device path bytes) (tt, within))))

  fill_row_fits : Gives n P (fill_row said)
  unfolding fill_row asked_by
  fill_row_fits =
      gives_after n P (drive_id said) _ (λ device. gives_then n _ P (new_path said device) _ (gives_made n said device) (λ path within. gives_after n P fill_length _ (λ len. gives_after n P (number_word 0 255) _ (λ byte. gives_done n P (line.Fill device path len byte) (tt, within)))))

  printer_row_fits : Gives n P (printer_row said)
  unfolding printer_row asked_by
  printer_row_fits =
      gives_after n P (new_device said) _ (λ device. gives_after n P name_word _ (λ name. gives_after n P printer_name _ (λ driver. gives_after n P printer_name _ (λ printer. gives_done n P (line.Printer device name driver printer) (tt, tt)))))

  -- ---- control lines

  at_remove_fits : (channel requests : ℕ) → Gives n P (at_remove said channel requests)
  unfolding at_remove asked_by
  at_remove_fits channel requests =
      gives_after n P (known_device said) _ (λ device. gives_done n P (line.AtRemove channel requests device) (tt, tt))

  at_add_fits : (channel requests : ℕ) → Gives n P (at_add said channel requests)
  unfolding at_add asked_by
  at_add_fits channel requests =
      gives_after n P (known_device said) _ (λ device. gives_done n P (line.AtAdd channel requests device) (tt, tt))

  act_row_fits : (channel requests : ℕ) (a : Act) → Gives n P (act_row said channel requests a)
  unfolding act_row asked_by
  act_row_fits channel requests act.Remove = at_remove_fits channel requests
  act_row_fits channel requests act.Add = at_add_fits channel requests
  act_row_fits channel requests act.Drop = gives_done n P (line.AtDrop channel requests) (tt, tt)

  at_row_fits : Gives n P (at_row said)
  unfolding at_row
  at_row_fits = gives_after n P (moment_row said) _ (λ moment. gives_after n P (entry_word acts) _ (λ a. act_row_fits moment.0 moment.1 a))

  remove_row_fits : Gives n P (remove_row said)
  unfolding remove_row asked_by
  remove_row_fits =
      gives_after n P (known_device said) _ (λ device. gives_done n P (line.Remove device) (tt, tt))

  add_row_fits : Gives n P (add_row said)
  unfolding add_row asked_by
  add_row_fits =
      gives_after n P (known_device said) _ (λ device. gives_done n P (line.Add device) (tt, tt))

  do_row_fits : Gives n P (do_row said)
  unfolding do_row asked_by
  do_row_fits =
      gives_after n P (errand_row said) _ (λ e. gives_done n P (line.Do e) (tt, tt))

  cache_add_row_fits : Gives n P cache_add_row
  unfolding cache_add_row asked_by
  cache_add_row_fits =
      gives_after n P name_word _ (λ port. gives_after n P printer_name _ (λ driver. gives_after n P printer_name _ (λ printer. gives_after n P (few_bytes max_cached) _ (λ bytes. gives_done n P (line.CacheAdd port driver printer bytes) (tt, tt)))))

  cache_update_row_fits : Gives n P cache_update_row
  unfolding cache_update_row asked_by
  cache_update_row_fits =
      gives_after n P printer_name _ (λ printer. gives_after n P (few_bytes max_cached) _ (λ bytes. gives_done n P (line.CacheUpdate printer bytes) (tt, tt)))

  cache_delete_row_fits : Gives n P cache_delete_row
  unfolding cache_delete_row asked_by
  cache_delete_row_fits =
      gives_after n P printer_name _ (λ printer. gives_done n P (line.CacheDelete printer) (tt, tt))

  cache_rename_row_fits : Gives n P cache_rename_row
  unfolding cache_rename_row asked_by
  cache_rename_row_fits =
      gives_after n P printer_name _ (λ old. gives_after n P printer_name _ (λ new. gives_done n P (line.CacheRename old new) (tt, tt)))

  notice_row_fits : (w : NoticeWord) → Gives n P (notice_row w)
  unfolding notice_row
  notice_row_fits notice.Add = cache_add_row_fits
  notice_row_fits notice.Update = cache_update_row_fits
  notice_row_fits notice.Delete = cache_delete_row_fits
  notice_row_fits notice.Rename = cache_rename_row_fits

  cache_row_fits : Gives n P cache_row
  unfolding cache_row
  cache_row_fits = gives_after n P (entry_word notice_words) _ (λ w. notice_row_fits w)

  -- ---- lines of applications

  open_row_fits : (application : ℕ) (handle : List ℕ) → Gives n P (open_row said application handle)
  unfolding open_row asked_by
  open_row_fits application handle =
      gives_then n _ P (known_device said) _ (gives_known n said) (λ device own. gives_then n _ P path_word _ (gives_path n)
      (λ path is. gives_done n P (line.Open application handle device path) (record { fits = is.0; range = (lit< tt, lit< tt, lit< tt, lit< tt, lit< tt, lit< tt, is.1); device = own }, tt)))

  create_numbers_fits : (application : ℕ) (handle : List ℕ) (device : ℕ) (path : List ℕ) → device < 2 ^ 32 → IsWritablePath path × All (λ unit. unit < 2 ^ 16) path
      → Gives n P (create_numbers application handle device path)
  unfolding create_numbers asked_by
  create_numbers_fits application handle device path own is =
      gives_then n _ P number32_word _ (gives_number32 n) (λ disposition a. gives_then n _ P number32_word _ (gives_number32 n) (λ access b. gives_then n _ P number32_word _ (gives_number32 n) (λ share c.
      gives_then n _ P number32_word _ (gives_number32 n) (λ options d. gives_then n _ P number32_word _ (gives_number32 n)
      (λ attributes e. gives_done n P (line.Create application handle device path disposition access share options attributes) (record { fits = is.0; range = (b, lit< tt, e, c, a, d, is.1); device = own }, tt))))))

  create_row_fits : (application : ℕ) (handle : List ℕ) → Gives n P (create_row said application handle)
  unfolding create_row
  create_row_fits application handle =
      gives_then n _ P (known_device said) _ (gives_known n said) (λ device own. gives_then n _ P path_word _ (gives_path n) (λ path is. create_numbers_fits application handle device path own is))

  read_row_fits : (application : ℕ) (handle : List ℕ) → Gives n P (read_row application handle)
  unfolding read_row asked_by
  read_row_fits application handle =
      gives_then n _ P number64_word _ (gives_number64 n) (λ offset a. gives_then n _ P number32_word _ (gives_number32 n)
      (λ len b. gives_done n P (line.Read application handle offset len) (record { fits = tt; range = (a, b); device = tt }, tt)))

  write_row_fits : (application : ℕ) (handle : List ℕ) → Gives n P (write_row application handle)
  unfolding write_row asked_by
  write_row_fits application handle =
      gives_then n _ P number64_word _ (gives_number64 n) (λ offset a. gives_then n _ P buffer_word _ (gives_few_bytes n max_buffer)
      (λ bytes few. gives_done n P (line.Write application handle offset bytes) (record { fits = few; range = a; device = tt }, tt)))

  query_row_fits : (application : ℕ) (handle : List ℕ) → Gives n P (query_row application handle)
  unfolding query_row asked_by
  query_row_fits application handle =
      gives_then n _ P number32_word _ (gives_number32 n) (λ class a. gives_done n P (line.Query application handle class) (record { fits = tt; range = a; device = tt }, tt))

  volume_row_fits : (application : ℕ) (handle : List ℕ) → Gives n P (volume_row application handle)
  unfolding volume_row asked_by
  volume_row_fits application handle =
      gives_then n _ P number32_word _ (gives_number32 n) (λ class a. gives_done n P (line.Volume application handle class) (record { fits = tt; range = a; device = tt }, tt))

  set_row_fits : (application : ℕ) (handle : List ℕ) → Gives n P (set_row application handle)
  unfolding set_row asked_by
  set_row_fits application handle =
      gives_then n _ P number32_word _ (gives_number32 n) (λ class a. gives_then n _ P buffer_word _ (gives_few_bytes n max_buffer)
      (λ bytes few. gives_done n P (line.Set application handle class bytes) (record { fits = few; range = a; device = tt }, tt)))

  setvolume_row_fits : (application : ℕ) (handle : List ℕ) → Gives n P (setvolume_row application handle)
  unfolding setvolume_row asked_by
  setvolume_row_fits application handle =
      gives_then n _ P number32_word _ (gives_number32 n) (λ class a. gives_then n _ P buffer_word _ (gives_few_bytes n max_buffer)
      (λ bytes few. gives_done n P (line.SetVolume application handle class bytes) (record { fits = few; range = a; device = tt }, tt)))

  dir_row_fits : (application : ℕ) (handle : List ℕ) → Gives n P (dir_row application handle)
  unfolding dir_row asked_by
  dir_row_fits application handle =
      gives_then n _ P number32_word _ (gives_number32 n) (λ class a. gives_after n P flag_word _ (λ initial. gives_then n _ P path_word _ (gives_path n)
      (λ path is. gives_done n P (line.Dir application handle class initial path) (record { fits = is.0; range = (a, is.1); device = tt }, tt))))

  lock_row_fits : (application : ℕ) (handle : List ℕ) → Gives n P (lock_row application handle)
  unfolding lock_row asked_by
  lock_row_fits application handle =
      gives_then n _ P number32_word _ (gives_number32 n) (λ operation a. gives_after n P flag_word _ (λ wait. gives_then n _ P (few_ranges max_ranges) _ (gives_ranges n)
      (λ ranges is. gives_done n P (line.Lock application handle operation wait ranges) (record { fits = is.0; range = (a, is.1); device = tt }, tt))))

  control_row_fits : (application : ℕ) (handle : List ℕ) → Gives n P (control_row application handle)
  unfolding control_row asked_by
  control_row_fits application handle =
      gives_then n _ P number32_word _ (gives_number32 n) (λ code a. gives_then n _ P number32_word _ (gives_number32 n) (λ output b. gives_then n _ P buffer_word _ (gives_few_bytes n max_buffer)
      (λ bytes few. gives_done n P (line.Control application handle code output bytes) (record { fits = few; range = (b, a); device = tt }, tt))))

  notify_row_fits : (application : ℕ) (handle : List ℕ) → Gives n P (notify_row application handle)
  unfolding notify_row asked_by
  notify_row_fits application handle =
      gives_after n P flag_word _ (λ tree. gives_then n _ P number32_word _ (gives_number32 n)
      (λ filters a. gives_done n P (line.Notify application handle tree filters) (record { fits = tt; range = a; device = tt }, tt)))

  verb_row_fits : (application : ℕ) (handle : List ℕ) (v : Verb) → Gives n P (verb_row said application handle v)
  unfolding verb_row asked_by
  verb_row_fits application handle verb.Open = open_row_fits application handle
  verb_row_fits application handle verb.Create = create_row_fits application handle
  verb_row_fits application handle verb.Close = gives_done n P (line.Close application handle) (record { fits = tt; range = tt; device = tt }, tt)
  verb_row_fits application handle verb.Read = read_row_fits application handle
  verb_row_fits application handle verb.Write = write_row_fits application handle
  verb_row_fits application handle verb.Query = query_row_fits application handle
  verb_row_fits application handle verb.Set = set_row_fits application handle
  verb_row_fits application handle verb.Volume = volume_row_fits application handle
  verb_row_fits application handle verb.SetVolume = setvolume_row_fits application handle
  verb_row_fits application handle verb.Dir = dir_row_fits application handle
  verb_row_fits application handle verb.Lock = lock_row_fits application handle
  verb_row_fits application handle verb.Control = control_row_fits application handle
  verb_row_fits application handle verb.Notify = notify_row_fits application handle

  application_row_fits : Gives n P (application_row said)
  unfolding application_row
  application_row_fits =
      gives_after n P (number_word 1 max_applications) _ (λ application. gives_after n P (verb_word said) _ (λ v. gives_after n P handle_word _ (λ handle. verb_row_fits application handle v)))

  keyword_row_fits : (k : Keyword) → Gives n P (keyword_row said k)
  unfolding keyword_row asked_by
  keyword_row_fits keyword.Seed = seed_row_fits
  keyword_row_fits keyword.Clock = clock_row_fits
  keyword_row_fits keyword.Piece = piece_row_fits
  keyword_row_fits keyword.Workers = workers_row_fits
  keyword_row_fits keyword.Channels = channels_row_fits
  keyword_row_fits keyword.Devices = devices_row_fits
  keyword_row_fits keyword.Drive = drive_row_fits
  keyword_row_fits keyword.DriveFold = drivefold_row_fits
  keyword_row_fits keyword.Real = real_row_fits
  keyword_row_fits keyword.Folder = folder_row_fits
  keyword_row_fits keyword.File = file_row_fits
  keyword_row_fits keyword.Fill = fill_row_fits
  keyword_row_fits keyword.Printer = printer_row_fits
  keyword_row_fits keyword.At = at_row_fits
  keyword_row_fits keyword.Settle = gives_done n P line.Settle (tt, tt)
  keyword_row_fits keyword.Remove = remove_row_fits
  keyword_row_fits keyword.Add = add_row_fits
  keyword_row_fits keyword.Do = do_row_fits
  keyword_row_fits keyword.Cache = cache_row_fits
  keyword_row_fits keyword.Drop = gives_done n P line.Drop (tt, tt)
  keyword_row_fits keyword.Connect = gives_done n P line.Connect (tt, tt)

  control_line_row_fits : Gives n P (control_line_row said)
  unfolding control_line_row
  control_line_row_fits = gives_after n P (keyword_word said) _ (λ k. keyword_row_fits k)

  form_row_fits : (b : Bool) → Gives n P (form_row said b)
  unfolding form_row
  form_row_fits true = application_row_fits
  form_row_fits false = control_line_row_fits

  line_row_fits : (b : Bool) → Gives n P (line_row said b)
  unfolding line_row
  line_row_fits b = gives_then n _ P (form_row said b) _ (form_row_fits b) (λ l own. gives_after n P (end_row said l) _ (λ u. gives_done n P l own))

-- ---- lines of a script

abbrev total : List (List ℕ) → ℕ
total [] = 0
total (w ∷ ws) = length w + total ws

short_more : (k n : ℕ) (ws : List (List ℕ)) → k ≤ n → AreShort k ws → AreShort n ws
short_more k n [] few short = tt
short_more k n (w ∷ ws) few short = (omega (arith, few, short.0), short_more k n ws few short.1)

all_short : (ws : List (List ℕ)) → AreShort (total ws) ws
all_short [] = tt
all_short (w ∷ ws) = (omega arith, short_more (total ws) (length w + total ws) ws (omega arith) (all_short ws))

line_found : (r : Result (Line × List (List ℕ)) LineWhy) (l : Line) → and_then r (λ x. Ok x.0) ≡ Ok l → (rest : List (List ℕ)) × (r ≡ Ok (l, rest))
line_found (Ok x) l is = (x.1, ap (λ (m : Line). Ok (m, x.1)) (ok_same x.0 l is))
line_found (Err cause) l is = absurd cc

line_fits : (said : Said) (text : List ℕ) (l : Line) → line_of said text ≡ Ok l → LineFits l
unfolding line_of
line_fits said text l is =
    let found = line_found (met_words (line_row said (is_application text)) (words_of text)) l is in
    ((line_row_fits (total (words_of text)) said (is_application text)).each (words_of text) l found.0 (all_short (words_of text)) found.1).0

abbrev LinesFit : Reading → Type 0
LinesFit r = AllByRecursion (λ (l : NumberedLine). LineFits l.line) r.lines

one_read : (r new : Reading) (l : TextLine) → LinesFit r → step r l ≡ Ok new → LinesFit new
unfolding step
one_read r new l known is = by (fits r l.size) (is_skipped l.text) (line_of r.said l.text) refl is
  where
    by : (within skipped : Bool) (found : Result Line LineWhy) → line_of r.said l.text ≡ found
        → cond (not within) (Err (bad_line r why.Many)) (cond skipped (Ok (skipping r l.size)) (taken r l.size found)) ≡ Ok new → LinesFit new
    by false skipped found at is = absurd (cc is)
    by true true found at is = let same : skipping r l.size ≡ new = cc is in subst LinesFit same known
    by true false (Err cause) at is = absurd (cc is)
    by true false (Ok m) at is =
        let same : reading r l.size m ≡ new = cc is in
        subst LinesFit same (all_append (λ (x : NumberedLine). LineFits x.line) r.lines (record { number = r.number + 1; line = m } ∷ []) known (line_fits r.said l.text m at, tt))

all_lines : (lines : List TextLine) (r new : Reading) → LinesFit r → read_all lines r ≡ Ok new → LinesFit new
all_lines [] r new known is = let same : r ≡ new = cc is in subst LinesFit same known
all_lines (l ∷ lines) r new known is = by (step r l) refl is (λ x own. all_lines lines x new own)
  where
    by : (first : Result Reading BadLine) → step r l ≡ first → go_on (read_all lines) first ≡ Ok new → ((x : Reading) → LinesFit x → read_all lines x ≡ Ok new → LinesFit new) → LinesFit new
    by (Ok x) at is later = later x (one_read r x l known at) is
    by (Err bad) at is later = absurd (cc is)

one_of : (ls : List NumberedLine) (l : NumberedLine) → AllByRecursion (λ (l : NumberedLine). LineFits l.line) ls → Has l ls → LineFits l.line
one_of [] l all has = absurd has
one_of (x ∷ ls) l all (inl same) = subst (λ (y : NumberedLine). LineFits y.line) (sym same) all.0
one_of (x ∷ ls) l all (inr has) = one_of ls l all.1 has

-- so it is with each line of a script
pub read_lines : (m : Mode) (text : List ℕ) (script : Script) → script_of m text ≡ Ok script → AllByRecursion (λ (l : NumberedLine). LineFits l.line) script.lines
read_lines m text script is = by (read_all (lines_of text) (reading_at_start m)) refl is
  where
    by : (r : Result Reading BadLine) → read_all (lines_of text) (reading_at_start m) ≡ r → script_read m r ≡ Ok script → AllByRecursion (λ (l : NumberedLine). LineFits l.line) script.lines
    by (Ok last) at is =
        let same : last.lines ≡ script.lines = ap (λ (r : Result Script BadLine). (result_unwrap_or r script).lines) is in
        subst (AllByRecursion (λ (l : NumberedLine). LineFits l.line)) same (all_lines (lines_of text) (reading_at_start m) last tt at)
    by (Err bad) at is = absurd (cc is)

-- what the lines of a script ask for fits a request
pub scripts_are_fitting : (m : Mode) (text : List ℕ) (script : Script) → script_of m text ≡ Ok script → AreSubmittable script.lines
scripts_are_fitting m text script is l a asked has names =
    subst (λ (o : Option (ℕ × Asked)). IfSome o (λ (x : ℕ × Asked). IsSubmittable x.1)) names (one_of script.lines l (read_lines m text script is) has).0
