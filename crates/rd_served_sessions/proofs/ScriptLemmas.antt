-- The lines of a script that was read stand in the order of their places.
use Rattle.std.proofs.Common.{◌≡◌, ◌⊎◌, refl, sym, ap, subst, inl, inr, arith, ℕ, ◌+◌, ◌-◌, ◌≤◌, Bool, true, false, cond, List, [], ◌∷◌, ◌++◌, length, Option, Some, None, Result, Ok, Err, eqb-true}
use Rattle.std.specs.Prelude.{◌==◌, ◌&&◌, ◌||◌, not, nat_le, nat_lt}
use Rattle.std.specs.List.{AllByRecursion, onto_first, slice_split}
use Rattle.std.specs.Result.{result_unwrap_or}
use Rattle.std.proofs.lemmas.Bool.{leb-true, ltb-true}
use Rattle.rd_base.specs.Layout.{and_then}
use Rattle.rd_script.specs.declared.keyword.Act.{Act}
use Rattle.rd_script.specs.declared.keyword.Act.TheVariants as act
use Rattle.rd_script.specs.declared.keyword.Keyword.{Keyword}
use Rattle.rd_script.specs.declared.keyword.Keyword.TheVariants as keyword
use Rattle.rd_script.specs.declared.keyword.Mode.{Mode}
use Rattle.rd_script.specs.declared.keyword.NoticeWord.{NoticeWord}
use Rattle.rd_script.specs.declared.keyword.NoticeWord.TheVariants as notice
use Rattle.rd_script.specs.declared.keyword.Verb.{Verb}
use Rattle.rd_script.specs.declared.keyword.Verb.TheVariants as verb
use Rattle.rd_script.specs.declared.line.Line.{Line}
use Rattle.rd_script.specs.declared.line.Line.TheVariants as line
use Rattle.rd_script.specs.declared.line.NumberedLine.{NumberedLine}
use Rattle.rd_script.specs.declared.script.Script.{Script}
use Rattle.rd_script.specs.declared.why.LineWhy.{LineWhy}
use Rattle.rd_script.specs.declared.why.LineWhy.TheVariants as why
use Rattle.rd_script.specs.Keywords.{acts, notice_words}
use Rattle.rd_script.specs.Numbers.{flag_word, number32_word, number64_word, number_word}
use Rattle.rd_script.specs.Row.{met_words, test, words_of}
use Rattle.rd_script.specs.Rows.{act_row, add_row, application_row, at_add, at_remove, at_row, buffer_word, cache_add_row, cache_delete_row, cache_rename_row, cache_row, cache_update_row, channels_row, clock_row, control_line_row, control_row, create_numbers, create_row, devices_row, dir_row, do_row, drive_id, drive_row, drivefold_row, end_row, entry_word, errand_row, file_row, fill_length, fill_row, folder_row, form_row, keyword_row, keyword_word, known_device, line_row, lock_row, max_applications, max_cached, moment_row, new_device, new_path, notice_row, notify_row, open_row, path_word, piece_row, printer_name, printer_row, query_row, read_row, real_row, remove_row, seed_row, set_row, setvolume_row, verb_row, verb_word, volume_row, workers_row, write_row}
use Rattle.rd_script.specs.Said.{Said, is_in_order, with_line}
use Rattle.rd_script.specs.Script.{BadLine, Reading, TextLine, bad_line, fits, go_on, is_application, is_skipped, line_of, lines_of, read_all, reading, reading_at_start, script_of, script_read, skipping, step, taken}
use Rattle.rd_script.specs.Texts.{few_bytes, handle_word, hex_word, name_word, place_word}
use Rattle.rd_script.proofs.RowLemmas.{ok_same}
use Rattle.rd_declared.proofs.RowFacts.{AreShort, Gives, gives_after, gives_done, gives_test, gives_then}
use Rattle.rd_served_sessions.specs.Parted.{AreInPlace, IsNotBefore, line_place}

-- a line with a place stands in order after what was said
abbrev IsPlaced : Said → Line → Type 0
IsPlaced said (line.AtRemove channel requests device) = is_in_order said channel requests ≡ true
IsPlaced said (line.AtAdd channel requests device) = is_in_order said channel requests ≡ true
IsPlaced said (line.AtDrop channel requests) = is_in_order said channel requests ≡ true
IsPlaced said _ = Unit {0}

module _ (n : ℕ) (said : Said) where
  -- ---- settings

  seed_row_placed : Gives n (IsPlaced said) seed_row
  unfolding seed_row
  seed_row_placed =
      gives_after n (IsPlaced said) number64_word _ (λ number. gives_done n (IsPlaced said) (line.Seed number) tt)

  clock_row_placed : Gives n (IsPlaced said) clock_row
  unfolding clock_row
  clock_row_placed =
      gives_after n (IsPlaced said) number64_word _ (λ moment. gives_done n (IsPlaced said) (line.Clock moment) tt)

  piece_row_placed : Gives n (IsPlaced said) piece_row
  unfolding piece_row
  piece_row_placed =
      gives_after n (IsPlaced said) (number_word 1 65536) _ (λ most. gives_done n (IsPlaced said) (line.Piece most) tt)

  workers_row_placed : Gives n (IsPlaced said) workers_row
  unfolding workers_row
  workers_row_placed =
      gives_after n (IsPlaced said) (number_word 1 16) _ (λ count. gives_done n (IsPlaced said) (line.Workers count) tt)

  channels_row_placed : Gives n (IsPlaced said) channels_row
  unfolding channels_row
  channels_row_placed =
      gives_after n (IsPlaced said) (number_word 1 64) _ (λ count. gives_done n (IsPlaced said) (line.Channels count) tt)

  devices_row_placed : Gives n (IsPlaced said) devices_row
  unfolding devices_row
  devices_row_placed =
      gives_after n (IsPlaced said) (number_word 0 256) _ (λ count. gives_done n (IsPlaced said) (line.Devices count) tt)

  -- ---- devices
  drive_row_placed : Gives n (IsPlaced said) (drive_row said)
  unfolding drive_row
  drive_row_placed =
      gives_after n (IsPlaced said) (new_device said) _ (λ device. gives_after n (IsPlaced said) name_word _ (λ name. gives_done n (IsPlaced said) (line.Drive device name) tt))

  drivefold_row_placed : Gives n (IsPlaced said) (drivefold_row said)
  unfolding drivefold_row
  drivefold_row_placed =
      gives_after n (IsPlaced said) (new_device said) _ (λ device. gives_after n (IsPlaced said) name_word _ (λ name. gives_done n (IsPlaced said) (line.DriveFold device name) tt))

  real_row_placed : Gives n (IsPlaced said) (real_row said)
  unfolding real_row
  real_row_placed =
      gives_after n (IsPlaced said) (new_device said) _ (λ device. gives_after n (IsPlaced said) name_word _ (λ name. gives_after n (IsPlaced said) place_word _ (λ place. gives_done n (IsPlaced said) (line.Real device name place) tt)))

  folder_row_placed : Gives n (IsPlaced said) (folder_row said)
  unfolding folder_row
  folder_row_placed =
      gives_after n (IsPlaced said) (drive_id said) _ (λ device. gives_after n (IsPlaced said) (new_path said device) _ (λ path. gives_done n (IsPlaced said) (line.Folder device path) tt))

  file_row_placed : Gives n (IsPlaced said) (file_row said)
  unfolding file_row
  file_row_placed =
      gives_after n (IsPlaced said) (drive_id said) _ (λ device. gives_after n (IsPlaced said) (new_path said device) _ (λ path. gives_after n (IsPlaced said) hex_word _ (λ bytes. gives_done n (IsPlaced said) (line.File device path bytes) tt)))

  fill_row_placed : Gives n (IsPlaced said) (fill_row said)
  unfolding fill_row
  fill_row_placed =
      gives_after n (IsPlaced said) (drive_id said) _ (λ device. gives_after n (IsPlaced said) (new_path said device) _ (λ path. gives_after n (IsPlaced said) fill_length _ (λ len. gives_after n (IsPlaced said) (number_word 0 255) _ (λ byte. gives_done n (IsPlaced said) (line.Fill device path len byte) tt))))

  printer_row_placed : Gives n (IsPlaced said) (printer_row said)
  unfolding printer_row
  printer_row_placed =
      gives_after n (IsPlaced said) (new_device said) _ (λ device. gives_after n (IsPlaced said) name_word _ (λ name. gives_after n (IsPlaced said) printer_name _ (λ driver. gives_after n (IsPlaced said) printer_name _
      (λ printer. gives_done n (IsPlaced said) (line.Printer device name driver printer) tt))))

  -- ---- control lines

  at_remove_good : (channel requests : ℕ) → is_in_order said channel requests ≡ true → Gives n (IsPlaced said) (at_remove said channel requests)
  unfolding at_remove
  at_remove_good channel requests order =
      gives_after n (IsPlaced said) (known_device said) _ (λ device. gives_done n (IsPlaced said) (line.AtRemove channel requests device) order)

  at_add_good : (channel requests : ℕ) → is_in_order said channel requests ≡ true → Gives n (IsPlaced said) (at_add said channel requests)
  unfolding at_add
  at_add_good channel requests order =
      gives_after n (IsPlaced said) (known_device said) _ (λ device. gives_done n (IsPlaced said) (line.AtAdd channel requests device) order)

  act_row_placed : (channel requests : ℕ) (a : Act) → is_in_order said channel requests ≡ true → Gives n (IsPlaced said) (act_row said channel requests a)
  unfolding act_row
  act_row_placed channel requests act.Remove order = at_remove_good channel requests order
  act_row_placed channel requests act.Add order = at_add_good channel requests order
  act_row_placed channel requests act.Drop order = gives_done n (IsPlaced said) (line.AtDrop channel requests) order

  gives_moment : Gives n (λ (moment : ℕ × ℕ). is_in_order said moment.0 moment.1 ≡ true) (moment_row said)
  unfolding moment_row
  gives_moment =
      gives_after n _ number32_word _ (λ channel. gives_after n _ number64_word _ (λ requests. gives_then n _ _ (test (is_in_order said channel requests) why.Number) _ (gives_test n _ _)
      (λ u holds. gives_done n (λ (moment : ℕ × ℕ). is_in_order said moment.0 moment.1 ≡ true) (channel, requests) holds)))

  at_row_placed : Gives n (IsPlaced said) (at_row said)
  unfolding at_row
  at_row_placed = gives_then n _ (IsPlaced said) (moment_row said) _ gives_moment (λ moment order. gives_after n (IsPlaced said) (entry_word acts) _ (λ a. act_row_placed moment.0 moment.1 a order))

  remove_row_placed : Gives n (IsPlaced said) (remove_row said)
  unfolding remove_row
  remove_row_placed =
      gives_after n (IsPlaced said) (known_device said) _ (λ device. gives_done n (IsPlaced said) (line.Remove device) tt)

  add_row_placed : Gives n (IsPlaced said) (add_row said)
  unfolding add_row
  add_row_placed =
      gives_after n (IsPlaced said) (known_device said) _ (λ device. gives_done n (IsPlaced said) (line.Add device) tt)

  do_row_placed : Gives n (IsPlaced said) (do_row said)
  unfolding do_row
  do_row_placed =
      gives_after n (IsPlaced said) (errand_row said) _ (λ e. gives_done n (IsPlaced said) (line.Do e) tt)

  cache_add_row_placed : Gives n (IsPlaced said) cache_add_row
  unfolding cache_add_row
  cache_add_row_placed =
      gives_after n (IsPlaced said) name_word _ (λ port. gives_after n (IsPlaced said) printer_name _ (λ driver. gives_after n (IsPlaced said) printer_name _
      (λ printer. gives_after n (IsPlaced said) (few_bytes max_cached) _ (λ bytes. gives_done n (IsPlaced said) (line.CacheAdd port driver printer bytes) tt))))

  cache_update_row_placed : Gives n (IsPlaced said) cache_update_row
  unfolding cache_update_row
  cache_update_row_placed =
      gives_after n (IsPlaced said) printer_name _ (λ printer. gives_after n (IsPlaced said) (few_bytes max_cached) _
      (λ bytes. gives_done n (IsPlaced said) (line.CacheUpdate printer bytes) tt))

  cache_delete_row_placed : Gives n (IsPlaced said) cache_delete_row
  unfolding cache_delete_row
  cache_delete_row_placed =
      gives_after n (IsPlaced said) printer_name _ (λ printer. gives_done n (IsPlaced said) (line.CacheDelete printer) tt)

  cache_rename_row_placed : Gives n (IsPlaced said) cache_rename_row
  unfolding cache_rename_row
  cache_rename_row_placed =
      gives_after n (IsPlaced said) printer_name _ (λ old. gives_after n (IsPlaced said) printer_name _
      (λ new. gives_done n (IsPlaced said) (line.CacheRename old new) tt))

  notice_row_placed : (w : NoticeWord) → Gives n (IsPlaced said) (notice_row w)
  unfolding notice_row
  notice_row_placed notice.Add = cache_add_row_placed
  notice_row_placed notice.Update = cache_update_row_placed
  notice_row_placed notice.Delete = cache_delete_row_placed
  notice_row_placed notice.Rename = cache_rename_row_placed

  cache_row_placed : Gives n (IsPlaced said) cache_row
  unfolding cache_row
  cache_row_placed = gives_after n (IsPlaced said) (entry_word notice_words) _ (λ w. notice_row_placed w)

  -- ---- lines of applications

  open_row_placed : (application : ℕ) (handle : List ℕ) → Gives n (IsPlaced said) (open_row said application handle)
  unfolding open_row
  open_row_placed application handle =
      gives_after n (IsPlaced said) (known_device said) _ (λ device. gives_after n (IsPlaced said) path_word _ (λ path. gives_done n (IsPlaced said) (line.Open application handle device path) tt))

  create_numbers_good : (application : ℕ) (handle : List ℕ) (device : ℕ) (path : List ℕ) → Gives n (IsPlaced said) (create_numbers application handle device path)
  unfolding create_numbers
  create_numbers_good application handle device path =
      gives_after n (IsPlaced said) number32_word _ (λ disposition. gives_after n (IsPlaced said) number32_word _ (λ access. gives_after n (IsPlaced said) number32_word _ (λ share. gives_after n (IsPlaced said) number32_word _ (λ options. gives_after n (IsPlaced said) number32_word _ (λ attributes. gives_done n (IsPlaced said) (line.Create application handle device path disposition access share options attributes) tt)))))

  create_row_placed : (application : ℕ) (handle : List ℕ) → Gives n (IsPlaced said) (create_row said application handle)
  unfolding create_row
  create_row_placed application handle =
      gives_after n (IsPlaced said) (known_device said) _ (λ device. gives_after n (IsPlaced said) path_word _ (λ path. create_numbers_good application handle device path))

  read_row_placed : (application : ℕ) (handle : List ℕ) → Gives n (IsPlaced said) (read_row application handle)
  unfolding read_row
  read_row_placed application handle =
      gives_after n (IsPlaced said) number64_word _ (λ offset. gives_after n (IsPlaced said) number32_word _ (λ len. gives_done n (IsPlaced said) (line.Read application handle offset len) tt))

  write_row_placed : (application : ℕ) (handle : List ℕ) → Gives n (IsPlaced said) (write_row application handle)
  unfolding write_row
  write_row_placed application handle =
      gives_after n (IsPlaced said) number64_word _ (λ offset. gives_after n (IsPlaced said) buffer_word _ (λ bytes. gives_done n (IsPlaced said) (line.Write application handle offset bytes) tt))

  query_row_placed : (application : ℕ) (handle : List ℕ) → Gives n (IsPlaced said) (query_row application handle)
  unfolding query_row
  query_row_placed application handle =
      gives_after n (IsPlaced said) number32_word _ (λ class. gives_done n (IsPlaced said) (line.Query application handle class) tt)

  volume_row_placed : (application : ℕ) (handle : List ℕ) → Gives n (IsPlaced said) (volume_row application handle)
  unfolding volume_row
  volume_row_placed application handle =
      gives_after n (IsPlaced said) number32_word _ (λ class. gives_done n (IsPlaced said) (line.Volume application handle class) tt)

  set_row_placed : (application : ℕ) (handle : List ℕ) → Gives n (IsPlaced said) (set_row application handle)
  unfolding set_row
  set_row_placed application handle =
      gives_after n (IsPlaced said) number32_word _ (λ class. gives_after n (IsPlaced said) buffer_word _ (λ bytes. gives_done n (IsPlaced said) (line.Set application handle class bytes) tt))

  setvolume_row_placed : (application : ℕ) (handle : List ℕ) → Gives n (IsPlaced said) (setvolume_row application handle)
  unfolding setvolume_row
  setvolume_row_placed application handle =
      gives_after n (IsPlaced said) number32_word _ (λ class. gives_after n (IsPlaced said) buffer_word _ (λ bytes. gives_done n (IsPlaced said) (line.SetVolume application handle class bytes) tt))

  dir_row_placed : (application : ℕ) (handle : List ℕ) → Gives n (IsPlaced said) (dir_row application handle)
  unfolding dir_row
  dir_row_placed application handle =
      gives_after n (IsPlaced said) number32_word _ (λ class. gives_after n (IsPlaced said) flag_word _ (λ initial. gives_after n (IsPlaced said) path_word _ (λ path. gives_done n (IsPlaced said) (line.Dir application handle class initial path) tt)))

  lock_row_placed : (application : ℕ) (handle : List ℕ) → Gives n (IsPlaced said) (lock_row application handle)
  unfolding lock_row
  lock_row_placed application handle =
      gives_after n (IsPlaced said) number32_word _ (λ operation. gives_after n (IsPlaced said) flag_word _ (λ wait. gives_after n (IsPlaced said) _ _ (λ ranges. gives_done n (IsPlaced said) (line.Lock application handle operation wait ranges) tt)))

  control_row_placed : (application : ℕ) (handle : List ℕ) → Gives n (IsPlaced said) (control_row application handle)
  unfolding control_row
  control_row_placed application handle =
      gives_after n (IsPlaced said) number32_word _ (λ code. gives_after n (IsPlaced said) number32_word _ (λ output. gives_after n (IsPlaced said) buffer_word _ (λ bytes. gives_done n (IsPlaced said) (line.Control application handle code output bytes) tt)))

  notify_row_placed : (application : ℕ) (handle : List ℕ) → Gives n (IsPlaced said) (notify_row application handle)
  unfolding notify_row
  notify_row_placed application handle =
      gives_after n (IsPlaced said) flag_word _ (λ tree. gives_after n (IsPlaced said) number32_word _ (λ filter. gives_done n (IsPlaced said) (line.Notify application handle tree filter) tt))

  verb_row_placed : (application : ℕ) (handle : List ℕ) (v : Verb) → Gives n (IsPlaced said) (verb_row said application handle v)
  unfolding verb_row
  verb_row_placed application handle verb.Open = open_row_placed application handle
  verb_row_placed application handle verb.Create = create_row_placed application handle
  verb_row_placed application handle verb.Close = gives_done n (IsPlaced said) (line.Close application handle) tt
  verb_row_placed application handle verb.Read = read_row_placed application handle
  verb_row_placed application handle verb.Write = write_row_placed application handle
  verb_row_placed application handle verb.Query = query_row_placed application handle
  verb_row_placed application handle verb.Set = set_row_placed application handle
  verb_row_placed application handle verb.Volume = volume_row_placed application handle
  verb_row_placed application handle verb.SetVolume = setvolume_row_placed application handle
  verb_row_placed application handle verb.Dir = dir_row_placed application handle
  verb_row_placed application handle verb.Lock = lock_row_placed application handle
  verb_row_placed application handle verb.Control = control_row_placed application handle
  verb_row_placed application handle verb.Notify = notify_row_placed application handle

  application_row_placed : Gives n (IsPlaced said) (application_row said)
  unfolding application_row
  application_row_placed = gives_after n (IsPlaced said) (number_word 1 max_applications) _ (λ application. gives_after n (IsPlaced said) (verb_word said) _ (λ v. gives_after n (IsPlaced said) handle_word _ (λ handle. verb_row_placed application handle v)))

  keyword_row_placed : (k : Keyword) → Gives n (IsPlaced said) (keyword_row said k)
  unfolding keyword_row
  keyword_row_placed keyword.Seed = seed_row_placed
  keyword_row_placed keyword.Clock = clock_row_placed
  keyword_row_placed keyword.Piece = piece_row_placed
  keyword_row_placed keyword.Workers = workers_row_placed
  keyword_row_placed keyword.Channels = channels_row_placed
  keyword_row_placed keyword.Devices = devices_row_placed
  keyword_row_placed keyword.Drive = drive_row_placed
  keyword_row_placed keyword.DriveFold = drivefold_row_placed
  keyword_row_placed keyword.Real = real_row_placed
  keyword_row_placed keyword.Folder = folder_row_placed
  keyword_row_placed keyword.File = file_row_placed
  keyword_row_placed keyword.Fill = fill_row_placed
  keyword_row_placed keyword.Printer = printer_row_placed
  keyword_row_placed keyword.At = at_row_placed
  keyword_row_placed keyword.Settle = gives_done n (IsPlaced said) line.Settle tt
  keyword_row_placed keyword.Remove = remove_row_placed
  keyword_row_placed keyword.Add = add_row_placed
  keyword_row_placed keyword.Do = do_row_placed
  keyword_row_placed keyword.Cache = cache_row_placed
  keyword_row_placed keyword.Drop = gives_done n (IsPlaced said) line.Drop tt
  keyword_row_placed keyword.Connect = gives_done n (IsPlaced said) line.Connect tt

  control_line_row_placed : Gives n (IsPlaced said) (control_line_row said)
  unfolding control_line_row
  control_line_row_placed = gives_after n (IsPlaced said) (keyword_word said) _ (λ k. keyword_row_placed k)

  form_row_placed : (b : Bool) → Gives n (IsPlaced said) (form_row said b)
  unfolding form_row
  form_row_placed true = application_row_placed
  form_row_placed false = control_line_row_placed

  -- every line
  line_row_placed : (b : Bool) → Gives n (IsPlaced said) (line_row said b)
  unfolding line_row
  line_row_placed b = gives_then n _ (IsPlaced said) (form_row said b) _ (form_row_placed b) (λ l good. gives_after n (IsPlaced said) (end_row said l) _ (λ u. gives_done n (IsPlaced said) l good))

-- ---- the words of a line
short_parts : (p : ℕ → Bool) (n : ℕ) (text : List ℕ) → length text ≤ n → AreShort n (slice_split p text)
short_parts p n [] most = (omega (arith, most), tt)
short_parts p n (c ∷ cs) most = by (p c) (slice_split p cs) (short_parts p (n - 1) cs (omega (arith, most)))
  where
    longer : (parts : List (List ℕ)) → AreShort (n - 1) parts → AreShort n parts
    longer [] short = tt
    longer (part ∷ parts) short = (omega (arith, short.0), longer parts short.1)

    first : (parts : List (List ℕ)) → AreShort (n - 1) parts → AreShort n (onto_first c parts)
    first [] short = (omega (arith, most), tt)
    first (part ∷ parts) short = (omega (arith, short.0, most), longer parts short.1)

    by : (b : Bool) (parts : List (List ℕ)) → AreShort (n - 1) parts → AreShort n (cond b ([] ∷ parts) (onto_first c parts))
    by true parts short = (omega arith, longer parts short)
    by false parts short = first parts short

found_ok : (r : Result (Line × List (List ℕ)) LineWhy) (l : Line) → and_then r (λ x. Ok x.0) ≡ Ok l → (rest : List (List ℕ)) × (r ≡ Ok (l, rest))
found_ok (Ok x) l is = (x.1, ap (λ (m : Line). Ok (m, x.1)) (ok_same x.0 l is))
found_ok (Err cause) l is = absurd cc

line_placed : (said : Said) (text : List ℕ) (l : Line) → line_of said text ≡ Ok l → IsPlaced said l
unfolding line_of
line_placed said text l is =
    let found = found_ok (met_words (line_row said (is_application text)) (words_of text)) l is in
    let short = short_parts (λ byte. byte == 0x20) (length text) text (omega arith) in
    ((line_row_placed (length text) said (is_application text)).each (words_of text) l found.0 short found.1).0

-- ---- one line more

-- the place up to which lines stand
abbrev place_of : Said → Option (ℕ × ℕ)
place_of said = Some (said.channel, said.requests)

later_place : (said : Said) (channel requests : ℕ) → is_in_order said channel requests ≡ true → IsNotBefore (place_of said) (Some (channel, requests))
later_place said channel requests is = by (nat_lt said.channel channel) refl (said.channel == channel) refl is
  where
    by : (a : Bool) → nat_lt said.channel channel ≡ a → (b : Bool) → (said.channel == channel) ≡ b → (a || b && nat_le said.requests requests) ≡ true → IsNotBefore (place_of said) (Some (channel, requests))
    by true less b e f = inl (ltb-true said.channel channel less)
    by false less true same f = inr (eqb-true said.channel channel same, leb-true said.requests requests f)
    by false less false other f = absurd (cc (f))

both_later : (o : Option (ℕ × ℕ)) (first second : ℕ × ℕ) → IsNotBefore o (Some first) → IsNotBefore (Some first) (Some second) → IsNotBefore o (Some second)
both_later None first second one two = tt
both_later (Some at) first second (inl less) (inl more) = inl (omega (arith, less, more))
both_later (Some at) first second (inl less) (inr same) = let e = same.0 in inl (omega (arith, less, e))
both_later (Some at) first second (inr equal) (inl more) = let e = equal.0 in inl (omega (arith, e, more))
both_later (Some at) first second (inr equal) (inr same) = let e = equal.0 in let f = same.0 in let a = equal.1 in let b = same.1 in inr (omega (arith, e, f), omega (arith, a, b))

-- lines stand up to a place
abbrev AreUpTo : Option (ℕ × ℕ) → List NumberedLine → Type 0
AreUpTo place lines = AllByRecursion (λ (l : NumberedLine). IsNotBefore (line_place l.line) place) lines

up_to_later : (lines : List NumberedLine) (first second : ℕ × ℕ) → IsNotBefore (Some first) (Some second) → AreUpTo (Some first) lines → AreUpTo (Some second) lines
up_to_later [] first second more all = tt
up_to_later (l ∷ lines) first second more all = (both_later (line_place l.line) first second all.0 more, up_to_later lines first second more all.1)

up_to_more : (place : Option (ℕ × ℕ)) (lines : List NumberedLine) (l : NumberedLine) → IsNotBefore (line_place l.line) place → AreUpTo place lines → AreUpTo place (lines ++ l ∷ [])
up_to_more place [] l own all = (own, tt)
up_to_more place (x ∷ lines) l own all = (all.0, up_to_more place lines l own all.1)

in_place_more : (lines : List NumberedLine) (l : NumberedLine) → AreUpTo (line_place l.line) lines → AreInPlace lines → AreInPlace (lines ++ l ∷ [])
in_place_more [] l all is = (tt, tt)
in_place_more (x ∷ lines) l all is = (every lines is.0, in_place_more lines l all.1 is.1)
  where
    every : (ys : List NumberedLine) → AllByRecursion (λ (m : NumberedLine). IsNotBefore (line_place x.line) (line_place m.line)) ys → AllByRecursion (λ (m : NumberedLine). IsNotBefore (line_place x.line) (line_place m.line)) (ys ++ l ∷ [])
    every [] these = (all.0, tt)
    every (y ∷ ys) these = (these.0, every ys these.1)

no_place : (lines : List NumberedLine) (place : Option (ℕ × ℕ)) → place ≡ None → AreUpTo place lines
no_place [] place none = tt
no_place (l ∷ lines) place none = (subst (IsNotBefore (line_place l.line)) (sym none) (by (line_place l.line)), no_place lines place none)
  where
    by : (o : Option (ℕ × ℕ)) → IsNotBefore o None
    by None = tt
    by (Some at) = tt

self_place : (place : ℕ × ℕ) → IsNotBefore (Some place) (Some place)
self_place place = inr (refl, omega arith)

-- What was said so far stands in place, up to the last place that was said.
record IsSoFar (r : Reading) : Type 0 where
  placed : AreInPlace r.lines
  within : AreUpTo (place_of r.said) r.lines

-- one line more
record IsOneMore (lines : List NumberedLine) (said : Said) (l : NumberedLine) : Type 0 where
  place : AreUpTo (line_place l.line) lines
  within : AreUpTo (place_of (with_line said l.line)) lines
  own : IsNotBefore (line_place l.line) (place_of (with_line said l.line))

at_more : (lines : List NumberedLine) (said : Said) (l : NumberedLine) (channel requests : ℕ) → line_place l.line ≡ Some (channel, requests) → place_of (with_line said l.line) ≡ Some (channel, requests) → is_in_order said channel requests ≡ true → AreUpTo (place_of said) lines → IsOneMore lines said l
at_more lines said l channel requests place now order within =
    let later = up_to_later lines (said.channel, said.requests) (channel, requests) (later_place said channel requests order) within in
    record {
      place = subst (λ (o : Option (ℕ × ℕ)). AreUpTo o lines) (sym place) later;
      within = subst (λ (o : Option (ℕ × ℕ)). AreUpTo o lines) (sym now) later;
      own = subst (λ (o : Option (ℕ × ℕ)). IsNotBefore o (place_of (with_line said l.line))) (sym place) (subst (IsNotBefore (Some (channel, requests))) (sym now) (self_place (channel, requests)));
    }

other_more : (lines : List NumberedLine) (said : Said) (l : NumberedLine) → line_place l.line ≡ None → place_of (with_line said l.line) ≡ place_of said → AreUpTo (place_of said) lines → IsOneMore lines said l
other_more lines said l none same within = record {
  place = no_place lines (line_place l.line) none;
  within = subst (λ (o : Option (ℕ × ℕ)). AreUpTo o lines) (sym same) within;
  own = subst (λ (o : Option (ℕ × ℕ)). IsNotBefore o (place_of (with_line said l.line))) (sym none) tt;
}

one_more : (lines : List NumberedLine) (said : Said) (number : ℕ) (y : Line) → IsPlaced said y → AreUpTo (place_of said) lines → IsOneMore lines said (record { number = number; line = y })
one_more lines said number (line.AtRemove channel requests device) order within = at_more lines said (record { number = number; line = line.AtRemove channel requests device }) channel requests refl refl order within
one_more lines said number (line.AtAdd channel requests device) order within = at_more lines said (record { number = number; line = line.AtAdd channel requests device }) channel requests refl refl order within
one_more lines said number (line.AtDrop channel requests) order within = at_more lines said (record { number = number; line = line.AtDrop channel requests }) channel requests refl refl order within
one_more lines said number y order within = other_more lines said (record { number = number; line = y }) refl refl within

-- ---- all lines

-- how one more line was read
record WasStepped (r : Reading) (l : TextLine) (new : Reading) : Type 0 where
  was : (new ≡ skipping r l.size) ⊎ ((found : Line) × (line_of r.said l.text ≡ Ok found) × (new ≡ reading r l.size found))

same_reading : (x y : Reading) → ◌≡◌ {A = Result Reading BadLine} (Ok x) (Ok y) → x ≡ y
same_reading x y e = ap (λ (r : Result Reading BadLine). result_unwrap_or r x) e

was_stepped : (r : Reading) (l : TextLine) (new : Reading) → step r l ≡ Ok new → WasStepped r l new
unfolding step
was_stepped r l new is = by (fits r l.size) (is_skipped l.text) (line_of r.said l.text) refl is
  where
    by : (within skipped : Bool) (found : Result Line LineWhy) → line_of r.said l.text ≡ found → cond (not within) (Err (bad_line r why.Many)) (cond skipped (Ok (skipping r l.size)) (taken r l.size found)) ≡ Ok new → WasStepped r l new
    by false skipped found f h = absurd cc
    by true true found f h = record { was = inl (sym (same_reading _ _ h)) }
    by true false (Ok found) f h = record { was = inr (found, f, sym (same_reading _ _ h)) }
    by true false (Err cause) f h = absurd cc

step_placed : (r new : Reading) (l : TextLine) → IsSoFar r → step r l ≡ Ok new → IsSoFar new
step_placed r new l known is = by (was_stepped r l new is).was
  where
    by : (new ≡ skipping r l.size) ⊎ ((found : Line) × (line_of r.said l.text ≡ Ok found) × (new ≡ reading r l.size found)) → IsSoFar new
    by (inl same) = subst IsSoFar (sym same) (record { placed = known.placed; within = known.within })
    by (inr (found, at, same)) =
        let own : NumberedLine = record { number = r.number + 1; line = found } in
        let more = one_more r.lines r.said (r.number + 1) found (line_placed r.said l.text found at) known.within in
        subst IsSoFar (sym same) (record { placed = in_place_more r.lines own more.place known.placed; within = up_to_more (place_of (with_line r.said found)) r.lines own more.own more.within })

went_on : (next : Reading → Result Reading BadLine) (first : Result Reading BadLine) (new : Reading) → go_on next first ≡ Ok new → (middle : Reading) × (first ≡ Ok middle) × (next middle ≡ Ok new)
went_on next (Ok middle) new is = (middle, refl, is)
went_on next (Err bad) new is = absurd cc

rest_placed : (lines : List TextLine) (r new : Reading) → IsSoFar r → read_all lines r ≡ Ok new → IsSoFar new
rest_placed [] r new known is = subst IsSoFar (same_reading r new is) known
rest_placed (l ∷ lines) r new known is =
    let more = went_on (read_all lines) (step r l) new is in
    rest_placed lines more.0 new (step_placed r more.0 l known more.1) more.2

read_of : (m : Mode) (r : Result Reading BadLine) (script : Script) → script_read m r ≡ Ok script → (last : Reading) × (r ≡ Ok last) × (last.lines ≡ script.lines)
read_of m (Ok last) script is = (last, refl, ap (λ (r : Result Script BadLine). (result_unwrap_or r script).lines) is)
read_of m (Err bad) script is = absurd cc

pub scripts_are_placed : (m : Mode) (text : List ℕ) (script : Script) → script_of m text ≡ Ok script → AreInPlace script.lines
scripts_are_placed m text script is =
    let read = read_of m (read_all (lines_of text) (reading_at_start m)) script is in
    subst AreInPlace read.2 (rest_placed (lines_of text) (reading_at_start m) read.0 (record { placed = tt; within = tt }) read.1).placed
