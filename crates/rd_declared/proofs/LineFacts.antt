-- What a line of a script that was read says of settings, devices and what is kept for printers.
use Rattle.std.proofs.Common.{◌≡◌, ap, arith, ℕ, ◌-◌, ◌^◌, ◌≤◌, ◌<◌, Bool, true, false, cond, List, [], ◌∷◌, length, Result, Ok, Err}
use Rattle.std.specs.Prelude.{◌==◌, not, nat_le}
use Rattle.std.proofs.lemmas.Bool.Decides.{nat_tests}
use Rattle.rd_irp.specs.Op.{max_ranges}
use Rattle.std.specs.List.{slice_split, onto_first}
use Rattle.rd_base.specs.Layout.{and_then}
use Rattle.rd_script.specs.declared.keyword.Keyword.{Keyword}
use Rattle.rd_script.specs.declared.keyword.Keyword.TheVariants as keyword
use Rattle.rd_script.specs.declared.keyword.Verb.{Verb}
use Rattle.rd_script.specs.declared.keyword.Verb.TheVariants as verb
use Rattle.rd_script.specs.declared.keyword.NoticeWord.{NoticeWord}
use Rattle.rd_script.specs.declared.keyword.NoticeWord.TheVariants as notice
use Rattle.rd_script.specs.declared.keyword.Act.{Act}
use Rattle.rd_script.specs.declared.keyword.Act.TheVariants as act
use Rattle.rd_script.specs.declared.line.Line.{Line}
use Rattle.rd_script.specs.declared.line.Line.TheVariants as line
use Rattle.rd_script.specs.declared.why.LineWhy.{LineWhy}
use Rattle.rd_script.specs.declared.why.LineWhy.TheVariants as why
use Rattle.rd_script.specs.Numbers.{flag_word, number32_word, number64_word, number_word}
use Rattle.rd_script.specs.Keywords.{acts, notice_words}
use Rattle.rd_script.specs.Row.{met_words, test, words_of}
use Rattle.rd_script.specs.Rows.{act_row, add_row, application_row, at_add, at_remove, at_row, buffer_word, cache_add_row, cache_delete_row, cache_rename_row, cache_row, cache_update_row, channels_row, clock_row, control_line_row, control_row, create_numbers, create_row, devices_row, dir_row, do_row, drive_id, drive_row, drivefold_row, end_row, entry_word, errand_row, file_row, fill_length, fill_row, folder_row, form_row, id_word, keyword_row, keyword_word, known_device, line_row, lock_row, max_applications, max_cached, max_printer_name, moment_row, new_device, new_path, notice_row, notify_row, open_row, path_word, piece_row, printer_name, printer_row, query_row, read_row, real_row, remove_row, seed_row, set_row, setvolume_row, verb_row, verb_word, volume_row, workers_row, write_row}
use Rattle.rd_script.specs.Said.{Said, max_script_devices}
use Rattle.rd_script.specs.Script.{is_application, line_of}
use Rattle.rd_script.specs.Texts.{place_word, few_bytes, few_ranges, handle_word, hex_word, name_word}
use Rattle.rd_script.proofs.RowLemmas.{ok_same}
use Rattle.rd_declared.specs.Declaring.{IsDeclarable, IsNotable}
use Rattle.rd_declared.proofs.RowFacts.{AreShort, Gives, gives_after, gives_between, gives_done, gives_few, gives_few_bytes, gives_hex, gives_name, gives_test, gives_then}

-- where a line declares a device, fewer than the most were declared before it
unfoldable pub AddsFew : ℕ → Line → Type 0
AddsFew count (line.Drive device name) = count < max_script_devices
AddsFew count (line.DriveFold device name) = count < max_script_devices
AddsFew count (line.Real device name place) = count < max_script_devices
AddsFew count (line.Printer device name driver printer) = count < max_script_devices
AddsFew count _ = Unit {0}

-- What a line says is within the limits, where it declares a device one more may be, and what it tells of a printer is short.
abbrev pub IsSaid : Said → Line → Type 0
IsSaid said l = IsDeclarable l × AddsFew (length said.devices) l × IsNotable l

not_le : (most count : ℕ) → not (nat_le most count) ≡ true → count < most
not_le most count is = grind (arith, nat_tests)

module _ (n : ℕ) (few : n ≤ 2 ^ 40) (said : Said) where
  -- ---- settings

  seed_row_good : Gives n (IsSaid said) seed_row
  unfolding seed_row IsDeclarable AddsFew IsNotable
  seed_row_good =
      gives_after n (IsSaid said) number64_word _ (λ number. gives_done n (IsSaid said) (line.Seed number) (tt, tt, tt))

  clock_row_good : Gives n (IsSaid said) clock_row
  unfolding clock_row IsDeclarable AddsFew IsNotable
  clock_row_good =
      gives_after n (IsSaid said) number64_word _ (λ moment. gives_done n (IsSaid said) (line.Clock moment) (tt, tt, tt))

  piece_row_good : Gives n (IsSaid said) piece_row
  unfolding piece_row IsDeclarable AddsFew IsNotable
  piece_row_good =
      gives_then n _ (IsSaid said) (number_word 1 65536) _ (gives_between n 1 65536) (λ most most_is. gives_done n (IsSaid said) (line.Piece most) (most_is, tt, tt))

  workers_row_good : Gives n (IsSaid said) workers_row
  unfolding workers_row IsDeclarable AddsFew IsNotable
  workers_row_good =
      gives_then n _ (IsSaid said) (number_word 1 16) _ (gives_between n 1 16) (λ count count_is. gives_done n (IsSaid said) (line.Workers count) (count_is, tt, tt))

  channels_row_good : Gives n (IsSaid said) channels_row
  unfolding channels_row IsDeclarable AddsFew IsNotable
  channels_row_good =
      gives_after n (IsSaid said) (number_word 1 64) _ (λ count. gives_done n (IsSaid said) (line.Channels count) (tt, tt, tt))

  devices_row_good : Gives n (IsSaid said) devices_row
  unfolding devices_row IsDeclarable AddsFew IsNotable
  devices_row_good =
      gives_after n (IsSaid said) (number_word 0 256) _ (λ count. gives_done n (IsSaid said) (line.Devices count) (tt, tt, tt))

  -- ---- devices
  gives_new : Gives n (λ (device : ℕ). length said.devices < max_script_devices) (new_device said)
  unfolding new_device
  gives_new =
      gives_after n _ id_word _ (λ device. gives_after n _ (test _ why.Device) _ (λ u. gives_then n _ _ (test (not (nat_le max_script_devices (length said.devices))) why.Many) _ (gives_test n _ _)
      (λ v holds. gives_done n _ device (not_le max_script_devices (length said.devices) holds))))

  drive_row_good : Gives n (IsSaid said) (drive_row said)
  unfolding drive_row IsDeclarable AddsFew IsNotable
  drive_row_good =
      gives_then n _ (IsSaid said) (new_device said) _ gives_new (λ device device_is. gives_then n _ (IsSaid said) name_word _ (gives_name n) (λ name name_is. gives_done n (IsSaid said) (line.Drive device name) (name_is, device_is, tt)))

  drivefold_row_good : Gives n (IsSaid said) (drivefold_row said)
  unfolding drivefold_row IsDeclarable AddsFew IsNotable
  drivefold_row_good =
      gives_then n _ (IsSaid said) (new_device said) _ gives_new (λ device device_is. gives_then n _ (IsSaid said) name_word _ (gives_name n) (λ name name_is. gives_done n (IsSaid said) (line.DriveFold device name) (name_is, device_is, tt)))

  real_row_good : Gives n (IsSaid said) (real_row said)
  unfolding real_row IsDeclarable AddsFew IsNotable
  real_row_good =
      gives_then n _ (IsSaid said) (new_device said) _ gives_new (λ device device_is. gives_after n (IsSaid said) name_word _ (λ name. gives_after n (IsSaid said) place_word _ (λ place. gives_done n (IsSaid said) (line.Real device name place) (tt, device_is, tt))))

  folder_row_good : Gives n (IsSaid said) (folder_row said)
  unfolding folder_row IsDeclarable AddsFew IsNotable
  folder_row_good =
      gives_after n (IsSaid said) (drive_id said) _ (λ device. gives_after n (IsSaid said) (new_path said device) _ (λ path. gives_done n (IsSaid said) (line.Folder device path) (tt, tt, tt)))

  file_row_good : Gives n (IsSaid said) (file_row said)
  unfolding file_row IsDeclarable AddsFew IsNotable
  file_row_good =
      gives_after n (IsSaid said) (drive_id said) _ (λ device. gives_after n (IsSaid said) (new_path said device) _ (λ path. gives_then n _ (IsSaid said) hex_word _ (gives_hex n) (λ bytes bytes_is. gives_done n (IsSaid said) (line.File device path bytes) (omega (arith, bytes_is, few), tt, tt))))

  fill_row_good : Gives n (IsSaid said) (fill_row said)
  unfolding fill_row IsDeclarable AddsFew IsNotable
  fill_row_good =
      gives_after n (IsSaid said) (drive_id said) _ (λ device. gives_after n (IsSaid said) (new_path said device) _ (λ path. gives_after n (IsSaid said) fill_length _ (λ len. gives_after n (IsSaid said) (number_word 0 255) _ (λ byte. gives_done n (IsSaid said) (line.Fill device path len byte) (tt, tt, tt)))))

  printer_row_good : Gives n (IsSaid said) (printer_row said)
  unfolding printer_row IsDeclarable AddsFew IsNotable
  printer_row_good =
      gives_then n _ (IsSaid said) (new_device said) _ gives_new (λ device device_is. gives_then n _ (IsSaid said) name_word _ (gives_name n) (λ name name_is. gives_then n _ (IsSaid said) printer_name _ (gives_few n why.Name max_printer_name) (λ driver driver_is. gives_then n _ (IsSaid said) printer_name _ (gives_few n why.Name max_printer_name)
      (λ printer printer_is. gives_done n (IsSaid said) (line.Printer device name driver printer) ((name_is, driver_is, printer_is), device_is, tt)))))

  -- ---- control lines

  at_remove_good : (channel requests : ℕ) → Gives n (IsSaid said) (at_remove said channel requests)
  unfolding at_remove IsDeclarable AddsFew IsNotable
  at_remove_good channel requests =
      gives_after n (IsSaid said) (known_device said) _ (λ device. gives_done n (IsSaid said) (line.AtRemove channel requests device) (tt, tt, tt))

  at_add_good : (channel requests : ℕ) → Gives n (IsSaid said) (at_add said channel requests)
  unfolding at_add IsDeclarable AddsFew IsNotable
  at_add_good channel requests =
      gives_after n (IsSaid said) (known_device said) _ (λ device. gives_done n (IsSaid said) (line.AtAdd channel requests device) (tt, tt, tt))

  act_row_good : (channel requests : ℕ) (a : Act) → Gives n (IsSaid said) (act_row said channel requests a)
  unfolding act_row IsDeclarable AddsFew IsNotable
  act_row_good channel requests act.Remove = at_remove_good channel requests
  act_row_good channel requests act.Add = at_add_good channel requests
  act_row_good channel requests act.Drop = gives_done n (IsSaid said) (line.AtDrop channel requests) (tt, tt, tt)

  at_row_good : Gives n (IsSaid said) (at_row said)
  unfolding at_row
  at_row_good = gives_after n (IsSaid said) (moment_row said) _ (λ moment. gives_after n (IsSaid said) (entry_word acts) _ (λ a. act_row_good moment.0 moment.1 a))

  remove_row_good : Gives n (IsSaid said) (remove_row said)
  unfolding remove_row IsDeclarable AddsFew IsNotable
  remove_row_good =
      gives_after n (IsSaid said) (known_device said) _ (λ device. gives_done n (IsSaid said) (line.Remove device) (tt, tt, tt))

  add_row_good : Gives n (IsSaid said) (add_row said)
  unfolding add_row IsDeclarable AddsFew IsNotable
  add_row_good =
      gives_after n (IsSaid said) (known_device said) _ (λ device. gives_done n (IsSaid said) (line.Add device) (tt, tt, tt))

  do_row_good : Gives n (IsSaid said) (do_row said)
  unfolding do_row IsDeclarable AddsFew IsNotable
  do_row_good =
      gives_after n (IsSaid said) (errand_row said) _ (λ e. gives_done n (IsSaid said) (line.Do e) (tt, tt, tt))

  cache_add_row_good : Gives n (IsSaid said) cache_add_row
  unfolding cache_add_row IsDeclarable AddsFew IsNotable
  cache_add_row_good =
      gives_then n _ (IsSaid said) name_word _ (gives_name n) (λ port port_is. gives_then n _ (IsSaid said) printer_name _ (gives_few n why.Name max_printer_name) (λ driver driver_is. gives_then n _ (IsSaid said) printer_name _ (gives_few n why.Name max_printer_name)
      (λ printer printer_is. gives_then n _ (IsSaid said) (few_bytes max_cached) _ (gives_few_bytes n max_cached) (λ bytes bytes_is. gives_done n (IsSaid said) (line.CacheAdd port driver printer bytes) (tt, tt, (port_is, driver_is, printer_is, bytes_is))))))

  cache_update_row_good : Gives n (IsSaid said) cache_update_row
  unfolding cache_update_row IsDeclarable AddsFew IsNotable
  cache_update_row_good =
      gives_then n _ (IsSaid said) printer_name _ (gives_few n why.Name max_printer_name) (λ printer printer_is. gives_then n _ (IsSaid said) (few_bytes max_cached) _ (gives_few_bytes n max_cached)
      (λ bytes bytes_is. gives_done n (IsSaid said) (line.CacheUpdate printer bytes) (tt, tt, (printer_is, bytes_is))))

  cache_delete_row_good : Gives n (IsSaid said) cache_delete_row
  unfolding cache_delete_row IsDeclarable AddsFew IsNotable
  cache_delete_row_good =
      gives_then n _ (IsSaid said) printer_name _ (gives_few n why.Name max_printer_name) (λ printer printer_is. gives_done n (IsSaid said) (line.CacheDelete printer) (tt, tt, printer_is))

  cache_rename_row_good : Gives n (IsSaid said) cache_rename_row
  unfolding cache_rename_row IsDeclarable AddsFew IsNotable
  cache_rename_row_good =
      gives_then n _ (IsSaid said) printer_name _ (gives_few n why.Name max_printer_name) (λ old old_is. gives_then n _ (IsSaid said) printer_name _ (gives_few n why.Name max_printer_name)
      (λ new new_is. gives_done n (IsSaid said) (line.CacheRename old new) (tt, tt, (old_is, new_is))))

  notice_row_good : (w : NoticeWord) → Gives n (IsSaid said) (notice_row w)
  unfolding notice_row
  notice_row_good notice.Add = cache_add_row_good
  notice_row_good notice.Update = cache_update_row_good
  notice_row_good notice.Delete = cache_delete_row_good
  notice_row_good notice.Rename = cache_rename_row_good

  cache_row_good : Gives n (IsSaid said) cache_row
  unfolding cache_row
  cache_row_good = gives_after n (IsSaid said) (entry_word notice_words) _ (λ w. notice_row_good w)

  -- ---- lines of applications

  open_row_good : (application : ℕ) (handle : List ℕ) → Gives n (IsSaid said) (open_row said application handle)
  unfolding open_row IsDeclarable AddsFew IsNotable
  open_row_good application handle =
      gives_after n (IsSaid said) (known_device said) _ (λ device. gives_after n (IsSaid said) path_word _ (λ path. gives_done n (IsSaid said) (line.Open application handle device path) (tt, tt, tt)))

  create_numbers_good : (application : ℕ) (handle : List ℕ) (device : ℕ) (path : List ℕ) → Gives n (IsSaid said) (create_numbers application handle device path)
  unfolding create_numbers IsDeclarable AddsFew IsNotable
  create_numbers_good application handle device path =
      gives_after n (IsSaid said) number32_word _ (λ disposition. gives_after n (IsSaid said) number32_word _ (λ access. gives_after n (IsSaid said) number32_word _ (λ share. gives_after n (IsSaid said) number32_word _ (λ options. gives_after n (IsSaid said) number32_word _ (λ attributes. gives_done n (IsSaid said) (line.Create application handle device path disposition access share options attributes) (tt, tt, tt))))))

  create_row_good : (application : ℕ) (handle : List ℕ) → Gives n (IsSaid said) (create_row said application handle)
  unfolding create_row
  create_row_good application handle =
      gives_after n (IsSaid said) (known_device said) _ (λ device. gives_after n (IsSaid said) path_word _ (λ path. create_numbers_good application handle device path))

  read_row_good : (application : ℕ) (handle : List ℕ) → Gives n (IsSaid said) (read_row application handle)
  unfolding read_row IsDeclarable AddsFew IsNotable
  read_row_good application handle =
      gives_after n (IsSaid said) number64_word _ (λ offset. gives_after n (IsSaid said) number32_word _ (λ len. gives_done n (IsSaid said) (line.Read application handle offset len) (tt, tt, tt)))

  write_row_good : (application : ℕ) (handle : List ℕ) → Gives n (IsSaid said) (write_row application handle)
  unfolding write_row IsDeclarable AddsFew IsNotable
  write_row_good application handle =
      gives_after n (IsSaid said) number64_word _ (λ offset. gives_after n (IsSaid said) buffer_word _ (λ bytes. gives_done n (IsSaid said) (line.Write application handle offset bytes) (tt, tt, tt)))

  query_row_good : (application : ℕ) (handle : List ℕ) → Gives n (IsSaid said) (query_row application handle)
  unfolding query_row IsDeclarable AddsFew IsNotable
  query_row_good application handle =
      gives_after n (IsSaid said) number32_word _ (λ class. gives_done n (IsSaid said) (line.Query application handle class) (tt, tt, tt))

  volume_row_good : (application : ℕ) (handle : List ℕ) → Gives n (IsSaid said) (volume_row application handle)
  unfolding volume_row IsDeclarable AddsFew IsNotable
  volume_row_good application handle =
      gives_after n (IsSaid said) number32_word _ (λ class. gives_done n (IsSaid said) (line.Volume application handle class) (tt, tt, tt))

  set_row_good : (application : ℕ) (handle : List ℕ) → Gives n (IsSaid said) (set_row application handle)
  unfolding set_row IsDeclarable AddsFew IsNotable
  set_row_good application handle =
      gives_after n (IsSaid said) number32_word _ (λ class. gives_after n (IsSaid said) buffer_word _ (λ bytes. gives_done n (IsSaid said) (line.Set application handle class bytes) (tt, tt, tt)))

  setvolume_row_good : (application : ℕ) (handle : List ℕ) → Gives n (IsSaid said) (setvolume_row application handle)
  unfolding setvolume_row IsDeclarable AddsFew IsNotable
  setvolume_row_good application handle =
      gives_after n (IsSaid said) number32_word _ (λ class. gives_after n (IsSaid said) buffer_word _ (λ bytes. gives_done n (IsSaid said) (line.SetVolume application handle class bytes) (tt, tt, tt)))

  dir_row_good : (application : ℕ) (handle : List ℕ) → Gives n (IsSaid said) (dir_row application handle)
  unfolding dir_row IsDeclarable AddsFew IsNotable
  dir_row_good application handle =
      gives_after n (IsSaid said) number32_word _ (λ class. gives_after n (IsSaid said) flag_word _ (λ initial. gives_after n (IsSaid said) path_word _ (λ path. gives_done n (IsSaid said) (line.Dir application handle class initial path) (tt, tt, tt))))

  lock_row_good : (application : ℕ) (handle : List ℕ) → Gives n (IsSaid said) (lock_row application handle)
  unfolding lock_row IsDeclarable AddsFew IsNotable
  lock_row_good application handle =
      gives_after n (IsSaid said) number32_word _ (λ operation. gives_after n (IsSaid said) flag_word _ (λ wait. gives_after n (IsSaid said) (few_ranges max_ranges) _ (λ ranges. gives_done n (IsSaid said) (line.Lock application handle operation wait ranges) (tt, tt, tt))))

  control_row_good : (application : ℕ) (handle : List ℕ) → Gives n (IsSaid said) (control_row application handle)
  unfolding control_row IsDeclarable AddsFew IsNotable
  control_row_good application handle =
      gives_after n (IsSaid said) number32_word _ (λ code. gives_after n (IsSaid said) number32_word _ (λ output. gives_after n (IsSaid said) buffer_word _ (λ bytes. gives_done n (IsSaid said) (line.Control application handle code output bytes) (tt, tt, tt))))

  notify_row_good : (application : ℕ) (handle : List ℕ) → Gives n (IsSaid said) (notify_row application handle)
  unfolding notify_row IsDeclarable AddsFew IsNotable
  notify_row_good application handle =
      gives_after n (IsSaid said) flag_word _ (λ tree. gives_after n (IsSaid said) number32_word _ (λ filter. gives_done n (IsSaid said) (line.Notify application handle tree filter) (tt, tt, tt)))

  verb_row_good : (application : ℕ) (handle : List ℕ) (v : Verb) → Gives n (IsSaid said) (verb_row said application handle v)
  unfolding verb_row IsDeclarable AddsFew IsNotable
  verb_row_good application handle verb.Open = open_row_good application handle
  verb_row_good application handle verb.Create = create_row_good application handle
  verb_row_good application handle verb.Close = gives_done n (IsSaid said) (line.Close application handle) (tt, tt, tt)
  verb_row_good application handle verb.Read = read_row_good application handle
  verb_row_good application handle verb.Write = write_row_good application handle
  verb_row_good application handle verb.Query = query_row_good application handle
  verb_row_good application handle verb.Set = set_row_good application handle
  verb_row_good application handle verb.Volume = volume_row_good application handle
  verb_row_good application handle verb.SetVolume = setvolume_row_good application handle
  verb_row_good application handle verb.Dir = dir_row_good application handle
  verb_row_good application handle verb.Lock = lock_row_good application handle
  verb_row_good application handle verb.Control = control_row_good application handle
  verb_row_good application handle verb.Notify = notify_row_good application handle

  application_row_good : Gives n (IsSaid said) (application_row said)
  unfolding application_row
  application_row_good = gives_after n (IsSaid said) (number_word 1 max_applications) _ (λ application. gives_after n (IsSaid said) (verb_word said) _ (λ v. gives_after n (IsSaid said) handle_word _ (λ handle. verb_row_good application handle v)))

  keyword_row_good : (k : Keyword) → Gives n (IsSaid said) (keyword_row said k)
  unfolding keyword_row IsDeclarable AddsFew IsNotable
  keyword_row_good keyword.Seed = seed_row_good
  keyword_row_good keyword.Clock = clock_row_good
  keyword_row_good keyword.Piece = piece_row_good
  keyword_row_good keyword.Workers = workers_row_good
  keyword_row_good keyword.Channels = channels_row_good
  keyword_row_good keyword.Devices = devices_row_good
  keyword_row_good keyword.Drive = drive_row_good
  keyword_row_good keyword.DriveFold = drivefold_row_good
  keyword_row_good keyword.Real = real_row_good
  keyword_row_good keyword.Folder = folder_row_good
  keyword_row_good keyword.File = file_row_good
  keyword_row_good keyword.Fill = fill_row_good
  keyword_row_good keyword.Printer = printer_row_good
  keyword_row_good keyword.At = at_row_good
  keyword_row_good keyword.Settle = gives_done n (IsSaid said) line.Settle (tt, tt, tt)
  keyword_row_good keyword.Remove = remove_row_good
  keyword_row_good keyword.Add = add_row_good
  keyword_row_good keyword.Do = do_row_good
  keyword_row_good keyword.Cache = cache_row_good
  keyword_row_good keyword.Drop = gives_done n (IsSaid said) line.Drop (tt, tt, tt)
  keyword_row_good keyword.Connect = gives_done n (IsSaid said) line.Connect (tt, tt, tt)

  control_line_row_good : Gives n (IsSaid said) (control_line_row said)
  unfolding control_line_row
  control_line_row_good = gives_after n (IsSaid said) (keyword_word said) _ (λ k. keyword_row_good k)

  form_row_good : (b : Bool) → Gives n (IsSaid said) (form_row said b)
  unfolding form_row
  form_row_good true = application_row_good
  form_row_good false = control_line_row_good

  -- every line
  pub line_row_good : (b : Bool) → Gives n (IsSaid said) (line_row said b)
  unfolding line_row
  line_row_good b = gives_then n _ (IsSaid said) (form_row said b) _ (form_row_good b) (λ l good. gives_after n (IsSaid said) (end_row said l) _ (λ u. gives_done n (IsSaid said) l good))

-- ---- the words of a line
short_parts : (p : ℕ → Bool) (n : ℕ) (text : List ℕ) → length text ≤ n → AreShort n (slice_split p text)
short_parts p n [] most = (omega (arith, most), tt)
short_parts p n (c ∷ cs) most = by (p c) (slice_split p cs) (short_parts p (n - 1) cs (omega (arith, most)))
  where
    longer : (parts : List (List ℕ)) → AreShort (n - 1) parts → AreShort n parts
    longer [] short = tt
    longer (part ∷ parts) short = (omega (arith, short.0), longer parts short.1)

    first : (parts : List (List ℕ)) → AreShort (n - 1) parts → AreShort n (onto_first c parts)
    first [] short = (omega (arith, most), tt)
    first (part ∷ parts) short = (omega (arith, short.0, most), longer parts short.1)

    by : (b : Bool) (parts : List (List ℕ)) → AreShort (n - 1) parts → AreShort n (cond b ([] ∷ parts) (onto_first c parts))
    by true parts short = (omega arith, longer parts short)
    by false parts short = first parts short

found_ok : (r : Result (Line × List (List ℕ)) LineWhy) (l : Line) → and_then r (λ x. Ok x.0) ≡ Ok l → (rest : List (List ℕ)) × (r ≡ Ok (l, rest))
found_ok (Ok x) l is = (x.1, ap (λ (m : Line). Ok (m, x.1)) (ok_same x.0 l is))
found_ok (Err cause) l is = absurd cc

-- A line of a text that is no longer than a file may be says what is within the limits, declares a device only where there are few, and tells what is short.
pub line_good : (said : Said) (text : List ℕ) (l : Line) → length text ≤ 2 ^ 40 → line_of said text ≡ Ok l → IsSaid said l
unfolding line_of
line_good said text l most is =
    let found = found_ok (met_words (line_row said (is_application text)) (words_of text)) l is in
    let short = short_parts (λ byte. byte == 0x20) (2 ^ 40) text most in
    ((line_row_good (2 ^ 40) (omega arith) said (is_application text)).each (words_of text) l found.0 short found.1).0
