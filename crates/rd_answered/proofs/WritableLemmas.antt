-- A script declares devices whose numbers have room in their fields.
use Rattle.std.proofs.Common.{◌≡◌, ap, arith, ℕ, ◌-◌, ◌^◌, ◌≤◌, ◌<◌, Bool, true, false, cond, List, [], ◌∷◌, length, Result, Ok, Err, refl, subst, ◌+◌}
use Rattle.std.specs.Prelude.{not, nat_le}
use Rattle.rd_irp.specs.Op.{max_ranges}
use Rattle.std.specs.List.{AllByRecursion}
use Rattle.rd_base.specs.Layout.{and_then}
use Rattle.rd_script.specs.declared.keyword.Keyword.{Keyword}
use Rattle.rd_script.specs.declared.keyword.Keyword.TheVariants as keyword
use Rattle.rd_script.specs.declared.keyword.Verb.{Verb}
use Rattle.rd_script.specs.declared.keyword.Verb.TheVariants as verb
use Rattle.rd_script.specs.declared.keyword.NoticeWord.{NoticeWord}
use Rattle.rd_script.specs.declared.keyword.NoticeWord.TheVariants as notice
use Rattle.rd_script.specs.declared.keyword.Act.{Act}
use Rattle.rd_script.specs.declared.keyword.Act.TheVariants as act
use Rattle.rd_script.specs.declared.line.Line.{Line}
use Rattle.rd_script.specs.declared.line.Line.TheVariants as line
use Rattle.rd_script.specs.declared.why.LineWhy.{LineWhy}
use Rattle.rd_script.specs.declared.why.LineWhy.TheVariants as why
use Rattle.rd_script.specs.Numbers.{flag_word, number32_word, number64_word, number_word}
use Rattle.rd_script.specs.Keywords.{acts, notice_words}
use Rattle.rd_script.specs.Row.{met_words, test, words_of}
use Rattle.rd_script.specs.Rows.{act_row, add_row, application_row, at_add, at_remove, at_row, buffer_word, cache_add_row, cache_delete_row, cache_rename_row, cache_row, cache_update_row, channels_row, clock_row, control_line_row, control_row, create_numbers, create_row, devices_row, dir_row, do_row, drive_id, drive_row, drivefold_row, end_row, entry_word, errand_row, file_row, fill_length, fill_row, folder_row, form_row, id_word, keyword_row, keyword_word, known_device, line_row, lock_row, max_applications, max_cached, max_printer_name, moment_row, new_device, new_path, notice_row, notify_row, open_row, path_word, piece_row, printer_name, printer_row, query_row, read_row, real_row, remove_row, seed_row, set_row, setvolume_row, verb_row, verb_word, volume_row, workers_row, write_row}
use Rattle.rd_script.specs.Said.{Said, max_script_devices}
use Rattle.rd_script.specs.Script.{is_application, line_of, BadLine, Reading, TextLine, bad_line, fits, go_on, is_skipped, lines_of, read_all, reading, reading_at_start, script_of, script_read, skipping, step, taken}
use Rattle.rd_script.specs.Texts.{place_word, few_bytes, few_ranges, handle_word, hex_word, name_word}
use Rattle.rd_script.proofs.RowLemmas.{ok_same}
use Rattle.rd_declared.proofs.RowFacts.{AreShort, Gives, gives_after, gives_between, gives_done, gives_few, gives_few_bytes, gives_hex, gives_name, gives_then}
use Rattle.std.specs.Result.{result_unwrap_or}
use Rattle.rd_script.specs.declared.keyword.Mode.{Mode}
use Rattle.rd_script.specs.declared.line.NumberedLine.{NumberedLine}
use Rattle.rd_script.specs.declared.script.Script.{Script}
use Rattle.rd_drive.proofs.AllLemmas.{all_append}
use Rattle.rd_answered.specs.Refusing.{DeclareInRoom, DeclaresInRoom}

module _ (n : ℕ) (said : Said) where
  abbrev P : Line → Type 0
  P = DeclaresInRoom

  -- ---- settings

  seed_row_good : Gives n P seed_row
  unfolding seed_row DeclaresInRoom
  seed_row_good =
      gives_after n P number64_word _ (λ number. gives_done n P (line.Seed number) tt)

  clock_row_good : Gives n P clock_row
  unfolding clock_row DeclaresInRoom
  clock_row_good =
      gives_after n P number64_word _ (λ moment. gives_done n P (line.Clock moment) tt)

  piece_row_good : Gives n P piece_row
  unfolding piece_row DeclaresInRoom
  piece_row_good =
      gives_then n _ P (number_word 1 65536) _ (gives_between n 1 65536) (λ most most_is. gives_done n P (line.Piece most) tt)

  workers_row_good : Gives n P workers_row
  unfolding workers_row DeclaresInRoom
  workers_row_good =
      gives_then n _ P (number_word 1 16) _ (gives_between n 1 16) (λ count count_is. gives_done n P (line.Workers count) tt)

  channels_row_good : Gives n P channels_row
  unfolding channels_row DeclaresInRoom
  channels_row_good =
      gives_after n P (number_word 1 64) _ (λ count. gives_done n P (line.Channels count) tt)

  devices_row_good : Gives n P devices_row
  unfolding devices_row DeclaresInRoom
  devices_row_good =
      gives_after n P (number_word 0 256) _ (λ count. gives_done n P (line.Devices count) tt)

  -- ---- devices
  gives_new : Gives n (λ (device : ℕ). device < 2 ^ 32) (new_device said)
  unfolding new_device
  gives_new =
      gives_then n _ _ id_word _ (gives_between n 1 (2 ^ 32 - 1)) (λ device is. gives_after n _ (test _ why.Device) _ (λ u. gives_after n _ (test (not (nat_le max_script_devices (length said.devices))) why.Many) _
      (λ v. gives_done n (λ (device : ℕ). device < 2 ^ 32) device (omega (arith, is.1)))))

  drive_row_good : Gives n P (drive_row said)
  unfolding drive_row DeclaresInRoom
  drive_row_good =
      gives_then n _ P (new_device said) _ gives_new (λ device device_is. gives_then n _ P name_word _ (gives_name n) (λ name name_is. gives_done n P (line.Drive device name) device_is))

  drivefold_row_good : Gives n P (drivefold_row said)
  unfolding drivefold_row DeclaresInRoom
  drivefold_row_good =
      gives_then n _ P (new_device said) _ gives_new (λ device device_is. gives_then n _ P name_word _ (gives_name n) (λ name name_is. gives_done n P (line.DriveFold device name) device_is))

  real_row_good : Gives n P (real_row said)
  unfolding real_row DeclaresInRoom
  real_row_good =
      gives_then n _ P (new_device said) _ gives_new (λ device device_is. gives_after n P name_word _ (λ name. gives_after n P place_word _ (λ place. gives_done n P (line.Real device name place) tt)))

  folder_row_good : Gives n P (folder_row said)
  unfolding folder_row DeclaresInRoom
  folder_row_good =
      gives_after n P (drive_id said) _ (λ device. gives_after n P (new_path said device) _ (λ path. gives_done n P (line.Folder device path) tt))

  file_row_good : Gives n P (file_row said)
  unfolding file_row DeclaresInRoom
  file_row_good =
      gives_after n P (drive_id said) _ (λ device. gives_after n P (new_path said device) _ (λ path. gives_then n _ P hex_word _ (gives_hex n) (λ bytes bytes_is. gives_done n P (line.File device path bytes) tt)))

  fill_row_good : Gives n P (fill_row said)
  unfolding fill_row DeclaresInRoom
  fill_row_good =
      gives_after n P (drive_id said) _ (λ device. gives_after n P (new_path said device) _ (λ path. gives_after n P fill_length _ (λ len. gives_after n P (number_word 0 255) _ (λ byte. gives_done n P (line.Fill device path len byte) tt))))

  printer_row_good : Gives n P (printer_row said)
  unfolding printer_row DeclaresInRoom
  printer_row_good =
      gives_then n _ P (new_device said) _ gives_new (λ device device_is. gives_then n _ P name_word _ (gives_name n) (λ name name_is. gives_then n _ P printer_name _ (gives_few n why.Name max_printer_name) (λ driver driver_is. gives_then n _ P printer_name _ (gives_few n why.Name max_printer_name)
      (λ printer printer_is. gives_done n P (line.Printer device name driver printer) device_is))))

  -- ---- control lines

  at_remove_good : (channel requests : ℕ) → Gives n P (at_remove said channel requests)
  unfolding at_remove DeclaresInRoom
  at_remove_good channel requests =
      gives_after n P (known_device said) _ (λ device. gives_done n P (line.AtRemove channel requests device) tt)

  at_add_good : (channel requests : ℕ) → Gives n P (at_add said channel requests)
  unfolding at_add DeclaresInRoom
  at_add_good channel requests =
      gives_after n P (known_device said) _ (λ device. gives_done n P (line.AtAdd channel requests device) tt)

  act_row_good : (channel requests : ℕ) (a : Act) → Gives n P (act_row said channel requests a)
  unfolding act_row DeclaresInRoom
  act_row_good channel requests act.Remove = at_remove_good channel requests
  act_row_good channel requests act.Add = at_add_good channel requests
  act_row_good channel requests act.Drop = gives_done n P (line.AtDrop channel requests) tt

  at_row_good : Gives n P (at_row said)
  unfolding at_row
  at_row_good = gives_after n P (moment_row said) _ (λ moment. gives_after n P (entry_word acts) _ (λ a. act_row_good moment.0 moment.1 a))

  remove_row_good : Gives n P (remove_row said)
  unfolding remove_row DeclaresInRoom
  remove_row_good =
      gives_after n P (known_device said) _ (λ device. gives_done n P (line.Remove device) tt)

  add_row_good : Gives n P (add_row said)
  unfolding add_row DeclaresInRoom
  add_row_good =
      gives_after n P (known_device said) _ (λ device. gives_done n P (line.Add device) tt)

  do_row_good : Gives n P (do_row said)
  unfolding do_row DeclaresInRoom
  do_row_good =
      gives_after n P (errand_row said) _ (λ e. gives_done n P (line.Do e) tt)

  cache_add_row_good : Gives n P cache_add_row
  unfolding cache_add_row DeclaresInRoom
  cache_add_row_good =
      gives_then n _ P name_word _ (gives_name n) (λ port port_is. gives_then n _ P printer_name _ (gives_few n why.Name max_printer_name) (λ driver driver_is. gives_then n _ P printer_name _ (gives_few n why.Name max_printer_name)
      (λ printer printer_is. gives_then n _ P (few_bytes max_cached) _ (gives_few_bytes n max_cached) (λ bytes bytes_is. gives_done n P (line.CacheAdd port driver printer bytes) tt))))

  cache_update_row_good : Gives n P cache_update_row
  unfolding cache_update_row DeclaresInRoom
  cache_update_row_good =
      gives_then n _ P printer_name _ (gives_few n why.Name max_printer_name) (λ printer printer_is. gives_then n _ P (few_bytes max_cached) _ (gives_few_bytes n max_cached)
      (λ bytes bytes_is. gives_done n P (line.CacheUpdate printer bytes) tt))

  cache_delete_row_good : Gives n P cache_delete_row
  unfolding cache_delete_row DeclaresInRoom
  cache_delete_row_good =
      gives_then n _ P printer_name _ (gives_few n why.Name max_printer_name) (λ printer printer_is. gives_done n P (line.CacheDelete printer) tt)

  cache_rename_row_good : Gives n P cache_rename_row
  unfolding cache_rename_row DeclaresInRoom
  cache_rename_row_good =
      gives_then n _ P printer_name _ (gives_few n why.Name max_printer_name) (λ old old_is. gives_then n _ P printer_name _ (gives_few n why.Name max_printer_name)
      (λ new new_is. gives_done n P (line.CacheRename old new) tt))

  notice_row_good : (w : NoticeWord) → Gives n P (notice_row w)
  unfolding notice_row
  notice_row_good notice.Add = cache_add_row_good
  notice_row_good notice.Update = cache_update_row_good
  notice_row_good notice.Delete = cache_delete_row_good
  notice_row_good notice.Rename = cache_rename_row_good

  cache_row_good : Gives n P cache_row
  unfolding cache_row
  cache_row_good = gives_after n P (entry_word notice_words) _ (λ w. notice_row_good w)

  -- ---- lines of applications

  open_row_good : (application : ℕ) (handle : List ℕ) → Gives n P (open_row said application handle)
  unfolding open_row DeclaresInRoom
  open_row_good application handle =
      gives_after n P (known_device said) _ (λ device. gives_after n P path_word _ (λ path. gives_done n P (line.Open application handle device path) tt))

  create_numbers_good : (application : ℕ) (handle : List ℕ) (device : ℕ) (path : List ℕ) → Gives n P (create_numbers application handle device path)
  unfolding create_numbers DeclaresInRoom
  create_numbers_good application handle device path =
      gives_after n P number32_word _ (λ disposition. gives_after n P number32_word _ (λ access. gives_after n P number32_word _ (λ share. gives_after n P number32_word _ (λ options. gives_after n P number32_word _ (λ attributes. gives_done n P (line.Create application handle device path disposition access share options attributes) tt)))))

  create_row_good : (application : ℕ) (handle : List ℕ) → Gives n P (create_row said application handle)
  unfolding create_row
  create_row_good application handle =
      gives_after n P (known_device said) _ (λ device. gives_after n P path_word _ (λ path. create_numbers_good application handle device path))

  read_row_good : (application : ℕ) (handle : List ℕ) → Gives n P (read_row application handle)
  unfolding read_row DeclaresInRoom
  read_row_good application handle =
      gives_after n P number64_word _ (λ offset. gives_after n P number32_word _ (λ len. gives_done n P (line.Read application handle offset len) tt))

  write_row_good : (application : ℕ) (handle : List ℕ) → Gives n P (write_row application handle)
  unfolding write_row DeclaresInRoom
  write_row_good application handle =
      gives_after n P number64_word _ (λ offset. gives_after n P buffer_word _ (λ bytes. gives_done n P (line.Write application handle offset bytes) tt))

  query_row_good : (application : ℕ) (handle : List ℕ) → Gives n P (query_row application handle)
  unfolding query_row DeclaresInRoom
  query_row_good application handle =
      gives_after n P number32_word _ (λ class. gives_done n P (line.Query application handle class) tt)

  volume_row_good : (application : ℕ) (handle : List ℕ) → Gives n P (volume_row application handle)
  unfolding volume_row DeclaresInRoom
  volume_row_good application handle =
      gives_after n P number32_word _ (λ class. gives_done n P (line.Volume application handle class) tt)

  set_row_good : (application : ℕ) (handle : List ℕ) → Gives n P (set_row application handle)
  unfolding set_row DeclaresInRoom
  set_row_good application handle =
      gives_after n P number32_word _ (λ class. gives_after n P buffer_word _ (λ bytes. gives_done n P (line.Set application handle class bytes) tt))

  setvolume_row_good : (application : ℕ) (handle : List ℕ) → Gives n P (setvolume_row application handle)
  unfolding setvolume_row DeclaresInRoom
  setvolume_row_good application handle =
      gives_after n P number32_word _ (λ class. gives_after n P buffer_word _ (λ bytes. gives_done n P (line.SetVolume application handle class bytes) tt))

  dir_row_good : (application : ℕ) (handle : List ℕ) → Gives n P (dir_row application handle)
  unfolding dir_row DeclaresInRoom
  dir_row_good application handle =
      gives_after n P number32_word _ (λ class. gives_after n P flag_word _ (λ initial. gives_after n P path_word _ (λ path. gives_done n P (line.Dir application handle class initial path) tt)))

  lock_row_good : (application : ℕ) (handle : List ℕ) → Gives n P (lock_row application handle)
  unfolding lock_row DeclaresInRoom
  lock_row_good application handle =
      gives_after n P number32_word _ (λ operation. gives_after n P flag_word _ (λ wait. gives_after n P (few_ranges max_ranges) _ (λ ranges. gives_done n P (line.Lock application handle operation wait ranges) tt)))

  control_row_good : (application : ℕ) (handle : List ℕ) → Gives n P (control_row application handle)
  unfolding control_row DeclaresInRoom
  control_row_good application handle =
      gives_after n P number32_word _ (λ code. gives_after n P number32_word _ (λ output. gives_after n P buffer_word _ (λ bytes. gives_done n P (line.Control application handle code output bytes) tt)))

  notify_row_good : (application : ℕ) (handle : List ℕ) → Gives n P (notify_row application handle)
  unfolding notify_row DeclaresInRoom
  notify_row_good application handle =
      gives_after n P flag_word _ (λ tree. gives_after n P number32_word _ (λ filter. gives_done n P (line.Notify application handle tree filter) tt))

  verb_row_good : (application : ℕ) (handle : List ℕ) (v : Verb) → Gives n P (verb_row said application handle v)
  unfolding verb_row DeclaresInRoom
  verb_row_good application handle verb.Open = open_row_good application handle
  verb_row_good application handle verb.Create = create_row_good application handle
  verb_row_good application handle verb.Close = gives_done n P (line.Close application handle) tt
  verb_row_good application handle verb.Read = read_row_good application handle
  verb_row_good application handle verb.Write = write_row_good application handle
  verb_row_good application handle verb.Query = query_row_good application handle
  verb_row_good application handle verb.Set = set_row_good application handle
  verb_row_good application handle verb.Volume = volume_row_good application handle
  verb_row_good application handle verb.SetVolume = setvolume_row_good application handle
  verb_row_good application handle verb.Dir = dir_row_good application handle
  verb_row_good application handle verb.Lock = lock_row_good application handle
  verb_row_good application handle verb.Control = control_row_good application handle
  verb_row_good application handle verb.Notify = notify_row_good application handle

  application_row_good : Gives n P (application_row said)
  unfolding application_row
  application_row_good = gives_after n P (number_word 1 max_applications) _ (λ application. gives_after n P (verb_word said) _ (λ v. gives_after n P handle_word _ (λ handle. verb_row_good application handle v)))

  keyword_row_good : (k : Keyword) → Gives n P (keyword_row said k)
  unfolding keyword_row DeclaresInRoom
  keyword_row_good keyword.Seed = seed_row_good
  keyword_row_good keyword.Clock = clock_row_good
  keyword_row_good keyword.Piece = piece_row_good
  keyword_row_good keyword.Workers = workers_row_good
  keyword_row_good keyword.Channels = channels_row_good
  keyword_row_good keyword.Devices = devices_row_good
  keyword_row_good keyword.Drive = drive_row_good
  keyword_row_good keyword.DriveFold = drivefold_row_good
  keyword_row_good keyword.Real = real_row_good
  keyword_row_good keyword.Folder = folder_row_good
  keyword_row_good keyword.File = file_row_good
  keyword_row_good keyword.Fill = fill_row_good
  keyword_row_good keyword.Printer = printer_row_good
  keyword_row_good keyword.At = at_row_good
  keyword_row_good keyword.Settle = gives_done n P line.Settle tt
  keyword_row_good keyword.Remove = remove_row_good
  keyword_row_good keyword.Add = add_row_good
  keyword_row_good keyword.Do = do_row_good
  keyword_row_good keyword.Cache = cache_row_good
  keyword_row_good keyword.Drop = gives_done n P line.Drop tt
  keyword_row_good keyword.Connect = gives_done n P line.Connect tt

  control_line_row_good : Gives n P (control_line_row said)
  unfolding control_line_row
  control_line_row_good = gives_after n P (keyword_word said) _ (λ k. keyword_row_good k)

  form_row_good : (b : Bool) → Gives n P (form_row said b)
  unfolding form_row
  form_row_good true = application_row_good
  form_row_good false = control_line_row_good

  -- every line
  pub line_row_good : (b : Bool) → Gives n P (line_row said b)
  unfolding line_row
  line_row_good b = gives_then n _ P (form_row said b) _ (form_row_good b) (λ l good. gives_after n P (end_row said l) _ (λ u. gives_done n P l good))

-- ---- lines of a script

abbrev total : List (List ℕ) → ℕ
total [] = 0
total (w ∷ ws) = length w + total ws

short_more : (k n : ℕ) (ws : List (List ℕ)) → k ≤ n → AreShort k ws → AreShort n ws
short_more k n [] few short = tt
short_more k n (w ∷ ws) few short = (omega (arith, few, short.0), short_more k n ws few short.1)

all_short : (ws : List (List ℕ)) → AreShort (total ws) ws
all_short [] = tt
all_short (w ∷ ws) = (omega arith, short_more (total ws) (length w + total ws) ws (omega arith) (all_short ws))

line_found : (r : Result (Line × List (List ℕ)) LineWhy) (l : Line) → and_then r (λ x. Ok x.0) ≡ Ok l → (rest : List (List ℕ)) × (r ≡ Ok (l, rest))
line_found (Ok x) l is = (x.1, ap (λ (m : Line). Ok (m, x.1)) (ok_same x.0 l is))
line_found (Err cause) l is = absurd cc

line_declares : (said : Said) (text : List ℕ) (l : Line) → line_of said text ≡ Ok l → DeclaresInRoom l
unfolding line_of
line_declares said text l is =
    let found = line_found (met_words (line_row said (is_application text)) (words_of text)) l is in
    ((line_row_good (total (words_of text)) said (is_application text)).each (words_of text) l found.0 (all_short (words_of text)) found.1).0

abbrev AllWritable : Reading → Type 0
AllWritable r = AllByRecursion (λ (l : NumberedLine). DeclaresInRoom l.line) r.lines

one_read : (r new : Reading) (l : TextLine) → AllWritable r → step r l ≡ Ok new → AllWritable new
unfolding step
one_read r new l known is = by (fits r l.size) (is_skipped l.text) (line_of r.said l.text) refl is
  where
    by : (within skipped : Bool) (found : Result Line LineWhy) → line_of r.said l.text ≡ found
        → cond (not within) (Err (bad_line r why.Many)) (cond skipped (Ok (skipping r l.size)) (taken r l.size found)) ≡ Ok new → AllWritable new
    by false skipped found at is = absurd (cc is)
    by true true found at is = let same : skipping r l.size ≡ new = cc is in subst AllWritable same known
    by true false (Err cause) at is = absurd (cc is)
    by true false (Ok m) at is =
        let same : reading r l.size m ≡ new = cc is in
        subst AllWritable same (all_append (λ (x : NumberedLine). DeclaresInRoom x.line) r.lines (record { number = r.number + 1; line = m } ∷ []) known (line_declares r.said l.text m at, tt))

all_lines : (lines : List TextLine) (r new : Reading) → AllWritable r → read_all lines r ≡ Ok new → AllWritable new
all_lines [] r new known is = let same : r ≡ new = cc is in subst AllWritable same known
all_lines (l ∷ lines) r new known is = by (step r l) refl is (λ x own. all_lines lines x new own)
  where
    by : (first : Result Reading BadLine) → step r l ≡ first → go_on (read_all lines) first ≡ Ok new → ((x : Reading) → AllWritable x → read_all lines x ≡ Ok new → AllWritable new) → AllWritable new
    by (Ok x) at is later = later x (one_read r x l known at) is
    by (Err bad) at is later = absurd (cc is)

-- a script declares devices whose numbers have room in their fields
pub scripts_writable : (m : Mode) (text : List ℕ) (script : Script) → script_of m text ≡ Ok script → DeclareInRoom script.lines
scripts_writable m text script is = by (read_all (lines_of text) (reading_at_start m)) refl is
  where
    by : (r : Result Reading BadLine) → read_all (lines_of text) (reading_at_start m) ≡ r → script_read m r ≡ Ok script → DeclareInRoom script.lines
    by (Ok last) at is =
        let same : last.lines ≡ script.lines = ap (λ (r : Result Script BadLine). (result_unwrap_or r script).lines) is in
        subst (AllByRecursion (λ (l : NumberedLine). DeclaresInRoom l.line)) same (all_lines (lines_of text) (reading_at_start m) last tt at)
    by (Err bad) at is = absurd (cc is)
