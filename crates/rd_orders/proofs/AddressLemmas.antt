-- The ids of the devices that a script's lines declare have room in their fields, and so have their names.
use Rattle.std.proofs.Common.{◌≡◌, refl, ap, subst, ℕ, ◌+◌, ◌-◌, ◌<◌, ◌≤◌, ◌^◌, ◌==◌, arith, Bool, true, false, cond, List, [], ◌∷◌, ◌++◌, length, replicate, Option, Some, None, Result, Ok, Err, length-append}
use Rattle.std.specs.Prelude.{fold, nat_le, not, if◌then◌else◌}
use Rattle.std.specs.List.{AllByRecursion}
use Rattle.std.specs.Ordering.{nat_cmp}
use Rattle.std.specs.Result.{result_unwrap_or}
use Rattle.std.proofs.lemmas.Bool.{and_parts, leb-true}
use Rattle.std.proofs.lemmas.List.{length-replicate}
use Rattle.std.proofs.lemmas.List.Elements.{All-cons, All-nil}
use Rattle.rd_client.specs.Events.{AreWritable, IsWritableDevice}
use Rattle.rd_dirinfo.specs.Paths.{Names}
use Rattle.rd_controls.proofs.RunsRoomLemmas.{all_inserted}
use Rattle.rd_script.proofs.RowLemmas.{ok_same, then_ok}
use Rattle.rd_script.specs.Numbers.{number_word}
use Rattle.rd_script.specs.Row.{Row, done, met_words, test, words_of, ◌>>=◌}
use Rattle.rd_script.specs.Rows.{act_row, add_row, application_row, at_add, at_remove, at_row, cache_add_row, cache_delete_row, cache_rename_row, cache_row, cache_update_row, channels_row, clock_row, control_line_row, control_row, create_numbers, create_row, devices_row, dir_row, do_row, drive_row, drivefold_row, file_row, fill_row, folder_row, form_row, keyword_row, line_row, lock_row, new_device, notice_row, notify_row, open_row, piece_row, printer_row, query_row, read_row, real_row, remove_row, seed_row, set_row, setvolume_row, verb_row, volume_row, workers_row, write_row}
use Rattle.rd_script.specs.Said.{Said}
use Rattle.rd_script.specs.Script.{BadLine, Reading, TextLine, bad_line, fits, go_on, is_application, is_skipped, line_of, lines_of, read_all, reading_at_start, script_of, script_read, skipping, step, taken}
use Rattle.rd_script.specs.declared.keyword.Act.{Act}
use Rattle.rd_script.specs.declared.keyword.Act.TheVariants as act
use Rattle.rd_script.specs.declared.keyword.Keyword.{Keyword}
use Rattle.rd_script.specs.declared.keyword.Keyword.TheVariants as keyword
use Rattle.rd_script.specs.declared.keyword.Mode.{Mode}
use Rattle.rd_script.specs.declared.keyword.NoticeWord.{NoticeWord}
use Rattle.rd_script.specs.declared.keyword.NoticeWord.TheVariants as notice
use Rattle.rd_script.specs.declared.keyword.Verb.{Verb}
use Rattle.rd_script.specs.declared.keyword.Verb.TheVariants as verb
use Rattle.rd_script.specs.declared.line.Line.{Line}
use Rattle.rd_script.specs.declared.line.Line.TheVariants as line
use Rattle.rd_script.specs.declared.line.NumberedLine.{NumberedLine}
use Rattle.rd_script.specs.declared.script.Script.{Script}
use Rattle.rd_script.specs.declared.why.LineWhy.{LineWhy}
use Rattle.rd_script.specs.declared.why.LineWhy.TheVariants as why
use Rattle.rd_declared.proofs.DeclaredLemmas.{scripts_are_declared}
use Rattle.rd_declared.specs.Devices.{Declared, announce_of, declaring, dos_name, furnishing, holding_at, with_first}
use Rattle.rd_declared.specs.Declaring.{AreDeclarable, IsDeclarable, bare_lines, declared_devices}
use Rattle.rd_world.specs.Recording.{announced_of}
use Rattle.rd_orders.specs.Orders.{DeclaresWritable}

-- ---- rows

-- whatever words are met, a row gives such a value
record EachRow {A : Type 0} (P : A → Type 0) (l : Row A) : Type 0 where
  each : (ws : List (List ℕ)) (a : A) (rest : List (List ℕ)) → met_words l ws ≡ Ok (a, rest) → P a

row_done : {A : Type 0} {P : A → Type 0} (x : A) → P x → EachRow P (done x)
row_done {P = P} x own = record { each = λ ws a rest e. subst (λ (y : _ × List (List ℕ)). P y.0) (ok_same (x, ws) (a, rest) e) own }

row_then : {A B : Type 0} {P : B → Type 0} {l : Row A} {next : A → Row B} → ((a : A) → EachRow P (next a)) → EachRow P (l >>= next)
row_then {l = l} {next = next} second = record {
  each = λ ws b rest e. let x = then_ok (met_words l ws) (λ y. met_words (next y.0) y.1) (b, rest) e in (second x.0.0).each x.0.1 b rest x.2;
}

-- where it is known of the first value what that has
row_with : {A B : Type 0} {P : B → Type 0} {l : Row A} {next : A → Row B} (Q : A → Type 0) → EachRow Q l → ((a : A) → Q a → EachRow P (next a)) → EachRow P (l >>= next)
row_with {l = l} {next = next} Q first second = record {
  each = λ ws b rest e. let x = then_ok (met_words l ws) (λ y. met_words (next y.0) y.1) (b, rest) e in
      (second x.0.0 (first.each ws x.0.0 x.0.1 x.1)).each x.0.1 b rest x.2;
}

row_test : (b : Bool) (cause : LineWhy) → EachRow (λ (u : Unit {0}). b ≡ true) (test b cause)
row_test b cause = record { each = by b }
  where
    by : (b : Bool) (ws : List (List ℕ)) (u : Unit {0}) (rest : List (List ℕ)) → met_words (test b cause) ws ≡ Ok (u, rest) → b ≡ true
    by true ws u rest e = refl
    by false ws u rest e = absurd cc

-- ---- lines

-- the id of a device that a line declares has room in its field
abbrev IsAddressed : Line → Type 0
IsAddressed (line.Drive device name) = device < 2 ^ 32
IsAddressed (line.DriveFold device name) = device < 2 ^ 32
IsAddressed (line.Printer device name driver printer) = device < 2 ^ 32
IsAddressed l = Unit {0}

module _ (said : Said) where
  abbrev Addressed : Row Line → Type 0
  Addressed l = EachRow IsAddressed l

  device_small : EachRow (λ (device : ℕ). device < 2 ^ 32) (new_device said)
  unfolding new_device number_word
  device_small = row_with (λ (device : ℕ). device < 2 ^ 32)
      (row_then λ w. row_then λ k. row_with _ (row_test _ _) λ u holds. let most : k ≤ 2 ^ 32 - 1 = leb-true k (2 ^ 32 - 1) (and_parts (nat_le 1 k) (nat_le k (2 ^ 32 - 1)) holds).1 in row_done k (omega (arith, most)))
      λ device small. row_then λ u. row_then λ v. row_done device small

  drive_addressed : Addressed (drive_row said)
  unfolding drive_row
  drive_addressed = row_with _ device_small λ device small. row_then λ name. row_done (line.Drive device name) small

  drivefold_addressed : Addressed (drivefold_row said)
  unfolding drivefold_row
  drivefold_addressed = row_with _ device_small λ device small. row_then λ name. row_done (line.DriveFold device name) small

  real_addressed : Addressed (real_row said)
  unfolding real_row
  real_addressed = row_then λ device. row_then λ name. row_then λ place. row_done (line.Real device name place) tt

  folder_addressed : Addressed (folder_row said)
  unfolding folder_row
  folder_addressed = row_then λ device. row_then λ path. row_done (line.Folder device path) tt

  file_addressed : Addressed (file_row said)
  unfolding file_row
  file_addressed = row_then λ device. row_then λ path. row_then λ bytes. row_done (line.File device path bytes) tt

  fill_addressed : Addressed (fill_row said)
  unfolding fill_row
  fill_addressed = row_then λ device. row_then λ path. row_then λ len. row_then λ byte. row_done (line.Fill device path len byte) tt

  printer_addressed : Addressed (printer_row said)
  unfolding printer_row
  printer_addressed = row_with _ device_small λ device small. row_then λ name. row_then λ driver. row_then λ printer. row_done (line.Printer device name driver printer) small

  remove_addressed : Addressed (remove_row said)
  unfolding remove_row
  remove_addressed = row_then λ device. row_done (line.Remove device) tt

  add_addressed : Addressed (add_row said)
  unfolding add_row
  add_addressed = row_then λ device. row_done (line.Add device) tt

  act_addressed : (channel requests : ℕ) (a : Act) → Addressed (act_row said channel requests a)
  unfolding act_row at_remove at_add
  act_addressed channel requests act.Remove = row_then λ device. row_done (line.AtRemove channel requests device) tt
  act_addressed channel requests act.Add = row_then λ device. row_done (line.AtAdd channel requests device) tt
  act_addressed channel requests act.Drop = row_done (line.AtDrop channel requests) tt

  at_addressed : Addressed (at_row said)
  unfolding at_row
  at_addressed = row_then λ moment. row_then λ a. act_addressed moment.0 moment.1 a

  notice_addressed : (w : NoticeWord) → Addressed (notice_row w)
  unfolding notice_row cache_add_row cache_update_row cache_delete_row cache_rename_row
  notice_addressed notice.Add = row_then λ port. row_then λ driver. row_then λ printer. row_then λ bytes. row_done (line.CacheAdd port driver printer bytes) tt
  notice_addressed notice.Update = row_then λ printer. row_then λ bytes. row_done (line.CacheUpdate printer bytes) tt
  notice_addressed notice.Delete = row_then λ printer. row_done (line.CacheDelete printer) tt
  notice_addressed notice.Rename = row_then λ old. row_then λ new. row_done (line.CacheRename old new) tt

  setting_addressed : (k : Keyword) → Addressed (keyword_row said k)
  unfolding keyword_row seed_row clock_row piece_row workers_row channels_row devices_row do_row cache_row
  setting_addressed keyword.Seed = row_then λ number. row_done (line.Seed number) tt
  setting_addressed keyword.Clock = row_then λ moment. row_done (line.Clock moment) tt
  setting_addressed keyword.Piece = row_then λ most. row_done (line.Piece most) tt
  setting_addressed keyword.Workers = row_then λ count. row_done (line.Workers count) tt
  setting_addressed keyword.Channels = row_then λ count. row_done (line.Channels count) tt
  setting_addressed keyword.Devices = row_then λ count. row_done (line.Devices count) tt
  setting_addressed keyword.Drive = drive_addressed
  setting_addressed keyword.DriveFold = drivefold_addressed
  setting_addressed keyword.Real = real_addressed
  setting_addressed keyword.Folder = folder_addressed
  setting_addressed keyword.File = file_addressed
  setting_addressed keyword.Fill = fill_addressed
  setting_addressed keyword.Printer = printer_addressed
  setting_addressed keyword.At = at_addressed
  setting_addressed keyword.Settle = row_done line.Settle tt
  setting_addressed keyword.Remove = remove_addressed
  setting_addressed keyword.Add = add_addressed
  setting_addressed keyword.Do = row_then λ e. row_done (line.Do e) tt
  setting_addressed keyword.Cache = row_then λ w. notice_addressed w
  setting_addressed keyword.Drop = row_done line.Drop tt
  setting_addressed keyword.Connect = row_done line.Connect tt

  verb_addressed : (application : ℕ) (handle : List ℕ) (v : Verb) → Addressed (verb_row said application handle v)
  unfolding verb_row open_row create_row create_numbers read_row write_row query_row set_row volume_row setvolume_row dir_row lock_row control_row notify_row
  verb_addressed application handle verb.Open = row_then λ device. row_then λ path. row_done (line.Open application handle device path) tt
  verb_addressed application handle verb.Create = row_then λ device. row_then λ path. row_then λ disposition. row_then λ access. row_then λ share. row_then λ options. row_then λ attributes.
      row_done (line.Create application handle device path disposition access share options attributes) tt
  verb_addressed application handle verb.Close = row_done (line.Close application handle) tt
  verb_addressed application handle verb.Read = row_then λ offset. row_then λ len. row_done (line.Read application handle offset len) tt
  verb_addressed application handle verb.Write = row_then λ offset. row_then λ bytes. row_done (line.Write application handle offset bytes) tt
  verb_addressed application handle verb.Query = row_then λ class. row_done (line.Query application handle class) tt
  verb_addressed application handle verb.Set = row_then λ class. row_then λ bytes. row_done (line.Set application handle class bytes) tt
  verb_addressed application handle verb.Volume = row_then λ class. row_done (line.Volume application handle class) tt
  verb_addressed application handle verb.SetVolume = row_then λ class. row_then λ bytes. row_done (line.SetVolume application handle class bytes) tt
  verb_addressed application handle verb.Dir = row_then λ class. row_then λ initial. row_then λ path. row_done (line.Dir application handle class initial path) tt
  verb_addressed application handle verb.Lock = row_then λ operation. row_then λ wait. row_then λ ranges. row_done (line.Lock application handle operation wait ranges) tt
  verb_addressed application handle verb.Control = row_then λ code. row_then λ output. row_then λ bytes. row_done (line.Control application handle code output bytes) tt
  verb_addressed application handle verb.Notify = row_then λ tree. row_then λ filter. row_done (line.Notify application handle tree filter) tt

  form_addressed : (b : Bool) → Addressed (form_row said b)
  unfolding form_row application_row control_line_row
  form_addressed true = row_then λ application. row_then λ v. row_then λ handle. verb_addressed application handle v
  form_addressed false = row_then λ k. setting_addressed k

  row_addressed : (b : Bool) → Addressed (line_row said b)
  unfolding line_row
  row_addressed b = row_with IsAddressed (form_addressed b) λ l addressed. row_then λ u. row_done l addressed

-- a line that was found
pub line_addressed : (said : Said) (text : List ℕ) (l : Line) → line_of said text ≡ Ok l → IsAddressed l
unfolding line_of
line_addressed said text l is =
    let x = then_ok (met_words (line_row said (is_application text)) (words_of text)) (λ y. Ok y.0) l is in
    subst IsAddressed (ok_same x.0.0 l x.2) ((row_addressed said (is_application text)).each (words_of text) x.0.0 x.0.1 x.1)

-- ---- all lines

abbrev AreAddressed : List NumberedLine → Type 0
AreAddressed lines = AllByRecursion (λ (l : NumberedLine). IsAddressed l.line) lines

same_reading : (x y : Reading) → ◌≡◌ {A = Result Reading BadLine} (Ok x) (Ok y) → x ≡ y
same_reading x y e = ap (λ (r : Result Reading BadLine). result_unwrap_or r x) e

each_more : (lines : List NumberedLine) (l : NumberedLine) → AreAddressed lines → IsAddressed l.line → AreAddressed (lines ++ l ∷ [])
each_more [] l all own = (own, tt)
each_more (x ∷ lines) l all own = (all.0, each_more lines l all.1 own)

step_addressed : (r new : Reading) (l : TextLine) → AreAddressed r.lines → step r l ≡ Ok new → AreAddressed new.lines
unfolding step
step_addressed r new l all is = by (fits r l.size) (is_skipped l.text) (line_of r.said l.text) refl is
  where
    by : (within skipped : Bool) (found : Result Line LineWhy) → line_of r.said l.text ≡ found
        → cond (not within) (Err (bad_line r why.Many)) (cond skipped (Ok (skipping r l.size)) (taken r l.size found)) ≡ Ok new → AreAddressed new.lines
    by false skipped found e h = absurd cc
    by true true found e h = subst (λ (x : Reading). AreAddressed x.lines) (same_reading _ _ h) all
    by true false (Ok found) e h =
        subst (λ (x : Reading). AreAddressed x.lines) (same_reading _ _ h) (each_more r.lines (record { number = r.number + 1; line = found }) all (line_addressed r.said l.text found e))
    by true false (Err cause) e h = absurd cc

all_addressed : (ls : List TextLine) (r new : Reading) → AreAddressed r.lines → read_all ls r ≡ Ok new → AreAddressed new.lines
all_addressed [] r new all is = subst (λ (x : Reading). AreAddressed x.lines) (same_reading r new is) all
all_addressed (l ∷ ls) r new all is = by (step r l) refl (all_addressed ls) is
  where
    by : (first : Result Reading BadLine) → step r l ≡ first → ((r new : Reading) → AreAddressed r.lines → read_all ls r ≡ Ok new → AreAddressed new.lines) → go_on (read_all ls) first ≡ Ok new → AreAddressed new.lines
    by (Ok middle) e next h = next middle new (step_addressed r middle l all e) h
    by (Err bad) e next h = absurd cc

script_addressed : (m : Mode) (text : List ℕ) (script : Script) → script_of m text ≡ Ok script → AreAddressed script.lines
script_addressed m text script is = by (read_all (lines_of text) (reading_at_start m)) refl is
  where
    by : (r : Result Reading BadLine) → read_all (lines_of text) (reading_at_start m) ≡ r → script_read m r ≡ Ok script → AreAddressed script.lines
    by (Ok last) e h = subst AreAddressed (ap (λ (r : Result Script BadLine). (result_unwrap_or r script).lines) h) (all_addressed (lines_of text) (reading_at_start m) last tt e)
    by (Err bad) e h = absurd cc

-- ---- devices

abbrev HasFields : Declared → Type 0
HasFields d = (d.kind < 2 ^ 32) × (d.id < 2 ^ 32) × (length d.name ≤ 7)

abbrev HaveFields : List (ℕ × Declared) → Type 0
HaveFields devices = AllByRecursion (λ (e : ℕ × Declared). HasFields e.1) devices

one_declared : (devices : List (ℕ × Declared)) (l : Line) → IsAddressed l → IsDeclarable l → HaveFields devices → HaveFields (declaring devices l)
unfolding declaring IsDeclarable
one_declared devices (line.Drive device name) small few all = all_inserted HasFields nat_cmp devices device _ (omega arith, small, few) all
one_declared devices (line.DriveFold device name) small few all = all_inserted HasFields nat_cmp devices device _ (omega arith, small, few) all
one_declared devices (line.Printer device name driver printer) small few all = all_inserted HasFields nat_cmp devices device _ (omega arith, small, few.0) all
one_declared devices l small few all = all

all_declared : (lines : List NumberedLine) (devices : List (ℕ × Declared)) → AreAddressed lines → AreDeclarable lines → HaveFields devices → HaveFields (fold declaring devices (bare_lines lines))
all_declared [] devices small few all = all
all_declared (l ∷ lines) devices small few all = all_declared lines (declaring devices l.line) small.1 few.1 (one_declared devices l.line small.0 few.0 all)

all_held : (devices : List (ℕ × Declared)) (device : ℕ) (first : Names × Option (List ℕ)) → HaveFields devices → HaveFields (holding_at devices device first)
all_held [] device first all = tt
all_held (e ∷ devices) device first all = (by (e.0 == device), all_held devices device first all.1)
  where
    by : (b : Bool) → HasFields (if b then with_first first e.1 else e.1)
    by true = all.0
    by false = all.0

one_furnished : (devices : List (ℕ × Declared)) (l : Line) → HaveFields devices → HaveFields (furnishing devices l)
unfolding furnishing
one_furnished devices (line.Folder device path) all = all_held devices device (path, None) all
one_furnished devices (line.File device path bytes) all = all_held devices device (path, Some bytes) all
one_furnished devices (line.Fill device path len byte) all = all_held devices device (path, Some (replicate len byte)) all
one_furnished devices l all = all

all_furnished : (lines : List NumberedLine) (devices : List (ℕ × Declared)) → HaveFields devices → HaveFields (fold furnishing devices (bare_lines lines))
all_furnished [] devices all = all
all_furnished (l ∷ lines) devices all = all_furnished lines (furnishing devices l.line) (one_furnished devices l.line all)

dos_filled : (name : List ℕ) → length name ≤ 7 → length (dos_name name) ≡ 8
dos_filled name few = omega (arith, few, length-append name (replicate (8 - length name) 0), length-replicate {A = ℕ} (8 - length name) 0)

all_writable : (devices : List (ℕ × Declared)) → HaveFields devices → AreWritable (announced_of devices)
all_writable [] all = All-nil IsWritableDevice
all_writable (e ∷ devices) all = All-cons IsWritableDevice (announce_of [] e.1) (announced_of devices) (all.0.0, all.0.1, dos_filled (e.1).name all.0.2) (all_writable devices all.1)

-- what a script declares can be written
pub scripts_writable : (m : Mode) (text : List ℕ) (script : Script) → script_of m text ≡ Ok script → DeclaresWritable script.lines
scripts_writable m text script is =
    all_writable (declared_devices (bare_lines script.lines))
    (all_furnished script.lines (fold declaring [] (bare_lines script.lines))
    (all_declared script.lines [] (script_addressed m text script is) (scripts_are_declared m text script is).each tt))
