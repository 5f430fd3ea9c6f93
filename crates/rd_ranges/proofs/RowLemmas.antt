-- What a line of a script that was read names, by what was said before it.
use Rattle.std.proofs.Common.{◌≡◌, refl, ap, subst, ℕ, ◌≤◌, Bool, true, false, List, length, Option, Some, None, Ok, arith}
use Rattle.std.proofs.lemmas.Bool.{and_parts, leb-true}
use Rattle.rd_dirinfo.proofs.PathLemmas.{path_is_within}
use Rattle.rd_dirinfo.specs.Paths.{Names, is_within_limits, names_of, parsed_path, path_fault}
use Rattle.rd_script.proofs.RowLemmas.{ok_same, then_ok}
use Rattle.rd_script.specs.Keywords.{in_client, stands_in}
use Rattle.rd_script.specs.Row.{Row, done, given, met_words, test, words_of, ◌>>=◌}
use Rattle.rd_script.specs.Rows.{act_row, add_row, application_row, at_add, at_remove, at_row, cache_add_row, cache_delete_row, cache_rename_row, cache_row, cache_update_row, channels_row, clock_row, control_line_row, control_row, create_numbers, create_row, devices_row, dir_row, do_row, drive_row, drivefold_row, file_row, fill_row, folder_row, form_row, keyword_row, keyword_word, known_device, line_row, lock_row, new_path, notice_row, notify_row, open_row, piece_row, printer_row, query_row, read_row, real_row, remove_row, seed_row, set_row, setvolume_row, verb_row, volume_row, workers_row, write_row}
use Rattle.rd_script.specs.Said.{Said, is_known}
use Rattle.rd_script.specs.Script.{is_application, line_of}
use Rattle.rd_script.specs.Texts.{name_word}
use Rattle.rd_script.specs.declared.keyword.Act.{Act}
use Rattle.rd_script.specs.declared.keyword.Act.TheVariants as act
use Rattle.rd_script.specs.declared.keyword.Keyword.{Keyword}
use Rattle.rd_script.specs.declared.keyword.Keyword.TheVariants as keyword
use Rattle.rd_script.specs.declared.keyword.NoticeWord.{NoticeWord}
use Rattle.rd_script.specs.declared.keyword.NoticeWord.TheVariants as notice
use Rattle.rd_script.specs.declared.keyword.Verb.{Verb}
use Rattle.rd_script.specs.declared.keyword.Verb.TheVariants as verb
use Rattle.rd_script.specs.declared.line.Line.{Line}
use Rattle.rd_script.specs.declared.line.Line.TheVariants as line
use Rattle.rd_script.specs.declared.why.LineWhy.{LineWhy}

-- ---- rows

-- whatever words are met, a row gives such a value
record EachRow {A : Type 0} (P : A → Type 0) (l : Row A) : Type 0 where
  each : (ws : List (List ℕ)) (a : A) (rest : List (List ℕ)) → met_words l ws ≡ Ok (a, rest) → P a

row_done : {A : Type 0} {P : A → Type 0} (x : A) → P x → EachRow P (done x)
row_done {P = P} x own = record { each = λ ws a rest e. subst (λ (y : _ × List (List ℕ)). P y.0) (ok_same (x, ws) (a, rest) e) own }

row_then : {A B : Type 0} {P : B → Type 0} {l : Row A} {next : A → Row B} → ((a : A) → EachRow P (next a)) → EachRow P (l >>= next)
row_then {l = l} {next = next} second = record {
  each = λ ws b rest e. let x = then_ok (met_words l ws) (λ y. met_words (next y.0) y.1) (b, rest) e in (second x.0.0).each x.0.1 b rest x.2;
}

-- where it is known of the first value what that has
row_with : {A B : Type 0} {P : B → Type 0} {l : Row A} {next : A → Row B} (Q : A → Type 0) → EachRow Q l → ((a : A) → Q a → EachRow P (next a)) → EachRow P (l >>= next)
row_with {l = l} {next = next} Q first second = record {
  each = λ ws b rest e. let x = then_ok (met_words l ws) (λ y. met_words (next y.0) y.1) (b, rest) e in
      (second x.0.0 (first.each ws x.0.0 x.0.1 x.1)).each x.0.1 b rest x.2;
}

row_test : (b : Bool) (cause : LineWhy) → EachRow (λ (u : Unit {0}). b ≡ true) (test b cause)
row_test b cause = record { each = by b }
  where
    by : (b : Bool) (ws : List (List ℕ)) (u : Unit {0}) (rest : List (List ℕ)) → met_words (test b cause) ws ≡ Ok (u, rest) → b ≡ true
    by true ws u rest e = refl
    by false ws u rest e = absurd cc

row_given : {A : Type 0} (o : Option A) (cause : LineWhy) → EachRow (λ (a : A). o ≡ Some a) (given o cause)
row_given {A} o cause = record { each = by o }
  where
    by : (o : Option A) (ws : List (List ℕ)) (a : A) (rest : List (List ℕ)) → met_words (given o cause) ws ≡ Ok (a, rest) → o ≡ Some a
    by None ws a rest e = absurd cc
    by (Some x) ws a rest e = ap (λ (y : A × List (List ℕ)). Some y.0) (ok_same (x, ws) (a, rest) e)

-- ---- lines

-- What a line names has room, or was said before it. A line for a device outside stands in a client's script alone.
unfoldable pub IsPlaced : Said → Line → Type 0
IsPlaced said (line.Drive device name) = length name ≤ 32
IsPlaced said (line.DriveFold device name) = length name ≤ 32
IsPlaced said (line.Real device name place) = in_client said.mode ≡ true
IsPlaced said (line.Folder device path) = is_within_limits path ≡ true
IsPlaced said (line.File device path bytes) = is_within_limits path ≡ true
IsPlaced said (line.Fill device path len byte) = is_within_limits path ≡ true
IsPlaced said (line.Remove device) = is_known said device ≡ true
IsPlaced said (line.Add device) = is_known said device ≡ true
IsPlaced said _ = Unit {0}

-- a path that is spelled is within the limits
path_short : (units : List ℕ) (path : Names) → parsed_path units ≡ Some path → is_within_limits path ≡ true
path_short units path e = by (path_fault units) refl e
  where
    by : (o : Option ℕ) → path_fault units ≡ o → elim o [ Some at ↦ None | None ↦ Some (names_of units) ] ≡ Some path → is_within_limits path ≡ true
    by None f h = let same : names_of units ≡ path = cc in subst (λ (p : Names). is_within_limits p ≡ true) same (and_parts _ (is_within_limits (names_of units)) (path_is_within units f)).1
    by (Some at) f h = absurd cc

name_short : EachRow (λ (w : List ℕ). length w ≤ 32) name_word
unfolding name_word
name_short = row_then λ w. row_with _ (row_test _ _) λ u holds.
    let few : length w ≤ 7 = leb-true (length w) 7 (and_parts _ _ (and_parts _ _ holds).0).1 in row_done w (omega (arith, few))

module _ (said : Said) where
  abbrev Placed : Row Line → Type 0
  Placed l = EachRow (IsPlaced said) l

  path_room : (device : ℕ) → EachRow (λ (path : Names). is_within_limits path ≡ true) (new_path said device)
  unfolding new_path
  path_room device = row_then λ units. row_with _ (row_given (parsed_path units) _) λ path parsed. row_then λ u. row_done path (path_short units path parsed)

  device_known : EachRow (λ (device : ℕ). is_known said device ≡ true) (known_device said)
  unfolding known_device
  device_known = row_then λ device. row_with _ (row_test _ _) λ u holds. row_done device holds

  drive_placed : Placed (drive_row said)
  unfolding drive_row IsPlaced
  drive_placed = row_then λ device. row_with _ name_short λ name short. row_done (line.Drive device name) short

  drivefold_placed : Placed (drivefold_row said)
  unfolding drivefold_row IsPlaced
  drivefold_placed = row_then λ device. row_with _ name_short λ name short. row_done (line.DriveFold device name) short

  real_placed : in_client said.mode ≡ true → Placed (real_row said)
  unfolding real_row IsPlaced
  real_placed stands = row_then λ device. row_then λ name. row_then λ place. row_done (line.Real device name place) stands

  folder_placed : Placed (folder_row said)
  unfolding folder_row IsPlaced
  folder_placed = row_then λ device. row_with _ (path_room device) λ path room. row_done (line.Folder device path) room

  file_placed : Placed (file_row said)
  unfolding file_row IsPlaced
  file_placed = row_then λ device. row_with _ (path_room device) λ path room. row_then λ bytes. row_done (line.File device path bytes) room

  fill_placed : Placed (fill_row said)
  unfolding fill_row IsPlaced
  fill_placed = row_then λ device. row_with _ (path_room device) λ path room. row_then λ len. row_then λ byte. row_done (line.Fill device path len byte) room

  printer_placed : Placed (printer_row said)
  unfolding printer_row IsPlaced
  printer_placed = row_then λ device. row_then λ name. row_then λ driver. row_then λ printer. row_done (line.Printer device name driver printer) tt

  remove_placed : Placed (remove_row said)
  unfolding remove_row IsPlaced
  remove_placed = row_with _ device_known λ device known. row_done (line.Remove device) known

  add_placed : Placed (add_row said)
  unfolding add_row IsPlaced
  add_placed = row_with _ device_known λ device known. row_done (line.Add device) known

  act_placed : (channel requests : ℕ) (a : Act) → Placed (act_row said channel requests a)
  unfolding act_row at_remove at_add IsPlaced
  act_placed channel requests act.Remove = row_then λ device. row_done (line.AtRemove channel requests device) tt
  act_placed channel requests act.Add = row_then λ device. row_done (line.AtAdd channel requests device) tt
  act_placed channel requests act.Drop = row_done (line.AtDrop channel requests) tt

  at_placed : Placed (at_row said)
  unfolding at_row
  at_placed = row_then λ moment. row_then λ a. act_placed moment.0 moment.1 a

  notice_placed : (w : NoticeWord) → Placed (notice_row w)
  unfolding notice_row cache_add_row cache_update_row cache_delete_row cache_rename_row IsPlaced
  notice_placed notice.Add = row_then λ port. row_then λ driver. row_then λ printer. row_then λ bytes. row_done (line.CacheAdd port driver printer bytes) tt
  notice_placed notice.Update = row_then λ printer. row_then λ bytes. row_done (line.CacheUpdate printer bytes) tt
  notice_placed notice.Delete = row_then λ printer. row_done (line.CacheDelete printer) tt
  notice_placed notice.Rename = row_then λ old. row_then λ new. row_done (line.CacheRename old new) tt

  setting_placed : (k : Keyword) → stands_in k said.mode ≡ true → Placed (keyword_row said k)
  unfolding keyword_row seed_row clock_row piece_row workers_row channels_row devices_row do_row cache_row IsPlaced
  setting_placed keyword.Seed stands = row_then λ number. row_done (line.Seed number) tt
  setting_placed keyword.Clock stands = row_then λ moment. row_done (line.Clock moment) tt
  setting_placed keyword.Piece stands = row_then λ most. row_done (line.Piece most) tt
  setting_placed keyword.Workers stands = row_then λ count. row_done (line.Workers count) tt
  setting_placed keyword.Channels stands = row_then λ count. row_done (line.Channels count) tt
  setting_placed keyword.Devices stands = row_then λ count. row_done (line.Devices count) tt
  setting_placed keyword.Drive stands = drive_placed
  setting_placed keyword.DriveFold stands = drivefold_placed
  setting_placed keyword.Real stands = real_placed stands
  setting_placed keyword.Folder stands = folder_placed
  setting_placed keyword.File stands = file_placed
  setting_placed keyword.Fill stands = fill_placed
  setting_placed keyword.Printer stands = printer_placed
  setting_placed keyword.At stands = at_placed
  setting_placed keyword.Settle stands = row_done line.Settle tt
  setting_placed keyword.Remove stands = remove_placed
  setting_placed keyword.Add stands = add_placed
  setting_placed keyword.Do stands = row_then λ e. row_done (line.Do e) tt
  setting_placed keyword.Cache stands = row_then λ w. notice_placed w
  setting_placed keyword.Drop stands = row_done line.Drop tt
  setting_placed keyword.Connect stands = row_done line.Connect tt

  keyword_stands : EachRow (λ (k : Keyword). stands_in k said.mode ≡ true) (keyword_word said)
  unfolding keyword_word
  keyword_stands = row_then λ k. row_with _ (row_test _ _) λ u holds. row_done k holds

  verb_placed : (application : ℕ) (handle : List ℕ) (v : Verb) → Placed (verb_row said application handle v)
  unfolding verb_row open_row create_row create_numbers read_row write_row query_row set_row volume_row setvolume_row dir_row lock_row control_row notify_row IsPlaced
  verb_placed application handle verb.Open = row_then λ device. row_then λ path. row_done (line.Open application handle device path) tt
  verb_placed application handle verb.Create = row_then λ device. row_then λ path. row_then λ disposition. row_then λ access. row_then λ share. row_then λ options. row_then λ attributes.
      row_done (line.Create application handle device path disposition access share options attributes) tt
  verb_placed application handle verb.Close = row_done (line.Close application handle) tt
  verb_placed application handle verb.Read = row_then λ offset. row_then λ len. row_done (line.Read application handle offset len) tt
  verb_placed application handle verb.Write = row_then λ offset. row_then λ bytes. row_done (line.Write application handle offset bytes) tt
  verb_placed application handle verb.Query = row_then λ class. row_done (line.Query application handle class) tt
  verb_placed application handle verb.Set = row_then λ class. row_then λ bytes. row_done (line.Set application handle class bytes) tt
  verb_placed application handle verb.Volume = row_then λ class. row_done (line.Volume application handle class) tt
  verb_placed application handle verb.SetVolume = row_then λ class. row_then λ bytes. row_done (line.SetVolume application handle class bytes) tt
  verb_placed application handle verb.Dir = row_then λ class. row_then λ initial. row_then λ path. row_done (line.Dir application handle class initial path) tt
  verb_placed application handle verb.Lock = row_then λ operation. row_then λ wait. row_then λ ranges. row_done (line.Lock application handle operation wait ranges) tt
  verb_placed application handle verb.Control = row_then λ code. row_then λ output. row_then λ bytes. row_done (line.Control application handle code output bytes) tt
  verb_placed application handle verb.Notify = row_then λ tree. row_then λ filter. row_done (line.Notify application handle tree filter) tt

  form_placed : (b : Bool) → Placed (form_row said b)
  unfolding form_row application_row control_line_row
  form_placed true = row_then λ application. row_then λ v. row_then λ handle. verb_placed application handle v
  form_placed false = row_with _ keyword_stands λ k stands. setting_placed k stands

  row_placed : (b : Bool) → Placed (line_row said b)
  unfolding line_row
  row_placed b = row_with (IsPlaced said) (form_placed b) λ l placed. row_then λ u. row_done l placed

-- a line that was found
pub line_placed : (said : Said) (text : List ℕ) (l : Line) → line_of said text ≡ Ok l → IsPlaced said l
unfolding line_of
line_placed said text l is =
    let x = then_ok (met_words (line_row said (is_application text)) (words_of text)) (λ y. Ok y.0) l is in
    subst (IsPlaced said) (ok_same x.0.0 l x.2) ((row_placed said (is_application text)).each (words_of text) x.0.0 x.0.1 x.1)
