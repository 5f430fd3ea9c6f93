-- The rows of the lines.
use Rattle.std.specs.Prelude.{◌≡◌, Result, Ok, Err, ℕ, ◌-◌, ◌^◌, not, nat_le, Bool, true, false, List, Option, Some, None, is_some}
use Rattle.rd_dirinfo.specs.Paths.{Names, parsed_path}
use Rattle.rd_irp.specs.Fits.{max_path, max_buffer}
use Rattle.rd_irp.specs.Op.{max_ranges}
use Rattle.rd_script.specs.declared.why.LineWhy.TheVariants as why
use Rattle.rd_script.specs.declared.why.LineNo.{LineNo}
use Rattle.rd_script.specs.declared.why.LineNo.TheVariants as no
use Rattle.rd_script.specs.declared.keyword.Keyword.{Keyword}
use Rattle.rd_script.specs.declared.keyword.Keyword.TheVariants as keyword
use Rattle.rd_script.specs.declared.keyword.Verb.{Verb}
use Rattle.rd_script.specs.declared.keyword.Verb.TheVariants as verb
use Rattle.rd_script.specs.declared.keyword.ErrandWord.{ErrandWord}
use Rattle.rd_script.specs.declared.keyword.ErrandWord.TheVariants as errand_word
use Rattle.rd_script.specs.declared.keyword.NoticeWord.{NoticeWord}
use Rattle.rd_script.specs.declared.keyword.NoticeWord.TheVariants as notice
use Rattle.rd_script.specs.declared.keyword.Act.{Act}
use Rattle.rd_script.specs.declared.keyword.Act.TheVariants as act
use Rattle.rd_script.specs.declared.line.Errand.{Errand}
use Rattle.rd_script.specs.declared.line.Errand.TheVariants as errand
use Rattle.rd_script.specs.declared.line.Line.{Line}
use Rattle.rd_script.specs.declared.line.Line.TheVariants as line
use Rattle.rd_script.specs.Keywords.{entry_at, keywords, verbs, errand_words, notice_words, acts, stands_in, in_client}
use Rattle.rd_script.specs.Row.{Row, done, word, last, test, given, ◌>>=◌, ◌>>◌}
use Rattle.rd_script.specs.Numbers.{number_word, number32_word, number64_word, flag_word}
use Rattle.rd_script.specs.Texts.{handle_word, name_word, place_word, units_word, few_units, hex_word, few_bytes, few_ranges}
use Rattle.rd_script.specs.Said.{Said, is_declared, is_known, is_free, has_room, is_in_order, naming_at, max_script_devices}
use Rattle.std.specs.Prelude.{length}

-- a word of a table, with what stands there
unfoldable pub entry_word : {A : Type 0} → List (List ℕ × A) → Row A
entry_word table = do
  w ← word
  given (entry_at table w) why.Words

-- ---- devices

-- the id of a device
abbrev pub id_word : Row ℕ
id_word = number_word 1 (2 ^ 32 - 1)

-- the id of a device that wasn't declared before, where one more may be
unfoldable pub new_device : Said → Row ℕ
new_device said = do
  device ← id_word
  test (not (is_declared said device)) why.Device
  test (not (nat_le max_script_devices (length said.devices))) why.Many
  done device

-- the id of a device that a line may name
unfoldable pub known_device : Said → Row ℕ
known_device said = do
  device ← id_word
  test (is_known said device) why.Device
  done device

-- the id of a drive in memory
unfoldable pub drive_id : Said → Row ℕ
drive_id said = do
  device ← id_word
  test (is_some (naming_at said device)) why.Device
  done device

-- a path of a drive at which a node can be made
unfoldable pub new_path : Said → ℕ → Row Names
new_path said device = do
  units ← units_word why.Path
  path ← given (parsed_path units) why.Path
  test (is_free said device path) why.Path
  done path

-- the path is the one that is there, or there is none, unless memory runs out
abbrev pub SplitsInto : Option Names → Result Names LineNo → Type 0
SplitsInto o (Ok path) = o ≡ Some path
SplitsInto o (Err no.Memory) = Unit {0}
SplitsInto o (Err (no.Why cause)) = (o ≡ None) × (cause ≡ why.Path)

-- ---- settings

unfoldable pub seed_row : Row Line
seed_row = do
  number ← number64_word
  done (line.Seed number)

unfoldable pub clock_row : Row Line
clock_row = do
  moment ← number64_word
  done (line.Clock moment)

unfoldable pub piece_row : Row Line
piece_row = do
  most ← number_word 1 65536
  done (line.Piece most)

unfoldable pub workers_row : Row Line
workers_row = do
  count ← number_word 1 16
  done (line.Workers count)

unfoldable pub channels_row : Row Line
channels_row = do
  count ← number_word 1 64
  done (line.Channels count)

unfoldable pub devices_row : Row Line
devices_row = do
  count ← number_word 0 256
  done (line.Devices count)

-- ---- devices and what is on them

unfoldable pub drive_row : Said → Row Line
drive_row said = do
  device ← new_device said
  name ← name_word
  done (line.Drive device name)

unfoldable pub drivefold_row : Said → Row Line
drivefold_row said = do
  device ← new_device said
  name ← name_word
  done (line.DriveFold device name)

unfoldable pub real_row : Said → Row Line
real_row said = do
  device ← new_device said
  name ← name_word
  place ← place_word
  done (line.Real device name place)

unfoldable pub folder_row : Said → Row Line
folder_row said = do
  device ← drive_id said
  path ← new_path said device
  done (line.Folder device path)

unfoldable pub file_row : Said → Row Line
file_row said = do
  device ← drive_id said
  path ← new_path said device
  bytes ← hex_word
  done (line.File device path bytes)

-- the most bytes of a `fill` line
abbrev pub max_fill : ℕ
max_fill = 16777216

-- how many bytes it makes
unfoldable pub fill_length : Row ℕ
fill_length = do
  len ← number64_word
  test (nat_le len max_fill) why.Many
  done len

unfoldable pub fill_row : Said → Row Line
fill_row said = do
  device ← drive_id said
  path ← new_path said device
  len ← fill_length
  byte ← number_word 0 255
  done (line.Fill device path len byte)

-- the most units of the name of a printer or a driver
abbrev pub max_printer_name : ℕ
max_printer_name = 255

-- such a name
abbrev pub printer_name : Row (List ℕ)
printer_name = few_units why.Name max_printer_name

unfoldable pub printer_row : Said → Row Line
printer_row said = do
  device ← new_device said
  name ← name_word
  driver ← printer_name
  printer ← printer_name
  done (line.Printer device name driver printer)

-- ---- what a client does at moments of its own

-- a channel, and after how many of its requests; no earlier than the line before
unfoldable pub moment_row : Said → Row (ℕ × ℕ)
moment_row said = do
  channel ← number32_word
  requests ← number64_word
  test (is_in_order said channel requests) why.Number
  done (channel, requests)

unfoldable pub at_remove : Said → ℕ → ℕ → Row Line
at_remove said channel requests = do
  device ← known_device said
  done (line.AtRemove channel requests device)

unfoldable pub at_add : Said → ℕ → ℕ → Row Line
at_add said channel requests = do
  device ← known_device said
  done (line.AtAdd channel requests device)

-- what is left of an `at` line
unfoldable pub act_row : Said → ℕ → ℕ → Act → Row Line
act_row said channel requests act.Remove = at_remove said channel requests
act_row said channel requests act.Add = at_add said channel requests
act_row said channel requests act.Drop = done (line.AtDrop channel requests)

unfoldable pub at_row : Said → Row Line
at_row said = do
  moment ← moment_row said
  a ← entry_word acts
  act_row said moment.0 moment.1 a

-- ---- lines that are acted at once

unfoldable pub remove_row : Said → Row Line
remove_row said = do
  device ← known_device said
  done (line.Remove device)

unfoldable pub add_row : Said → Row Line
add_row said = do
  device ← known_device said
  done (line.Add device)

-- the most applications of a script
abbrev pub max_applications : ℕ
max_applications = 64

unfoldable pub issue_row : Row Errand
issue_row = do
  application ← number_word 1 max_applications
  done (errand.Issue application)

unfoldable pub take_row : Said → Row Errand
take_row said = do
  device ← known_device said
  hand ← number32_word
  done (errand.Take device hand)

unfoldable pub apply_row : Row Errand
apply_row = do
  hand ← number32_word
  done (errand.Apply hand)

unfoldable pub collect_row : Said → Row Errand
collect_row said = do
  device ← known_device said
  done (errand.Collect device)

-- the words after that of an errand
unfoldable pub errand_rest : Said → ErrandWord → Row Errand
errand_rest said errand_word.Issue = issue_row
errand_rest said errand_word.Send = done errand.Send
errand_rest said errand_word.Read = done errand.Read
errand_rest said errand_word.Take = take_row said
errand_rest said errand_word.Apply = apply_row
errand_rest said errand_word.Collect = collect_row said
errand_rest said errand_word.Answer = done errand.Answer
errand_rest said errand_word.Back = done errand.Back

unfoldable pub errand_row : Said → Row Errand
errand_row said = do
  w ← entry_word errand_words
  errand_rest said w

unfoldable pub do_row : Said → Row Line
do_row said = do
  e ← errand_row said
  done (line.Do e)

-- the most bytes of a `cache` line
abbrev pub max_cached : ℕ
max_cached = 16384

unfoldable pub cache_add_row : Row Line
cache_add_row = do
  port ← name_word
  driver ← printer_name
  printer ← printer_name
  bytes ← few_bytes max_cached
  done (line.CacheAdd port driver printer bytes)

unfoldable pub cache_update_row : Row Line
cache_update_row = do
  printer ← printer_name
  bytes ← few_bytes max_cached
  done (line.CacheUpdate printer bytes)

unfoldable pub cache_delete_row : Row Line
cache_delete_row = do
  printer ← printer_name
  done (line.CacheDelete printer)

unfoldable pub cache_rename_row : Row Line
cache_rename_row = do
  old ← printer_name
  new ← printer_name
  done (line.CacheRename old new)

-- what is left of a `cache` line
unfoldable pub notice_row : NoticeWord → Row Line
notice_row notice.Add = cache_add_row
notice_row notice.Update = cache_update_row
notice_row notice.Delete = cache_delete_row
notice_row notice.Rename = cache_rename_row

unfoldable pub cache_row : Row Line
cache_row = do
  w ← entry_word notice_words
  notice_row w

-- ---- lines of applications

-- a path that a request can carry
abbrev pub path_word : Row (List ℕ)
path_word = few_units why.Path max_path

-- bytes that a request can carry
abbrev pub buffer_word : Row (List ℕ)
buffer_word = few_bytes max_buffer

unfoldable pub open_row : Said → ℕ → List ℕ → Row Line
open_row said application handle = do
  device ← known_device said
  path ← path_word
  done (line.Open application handle device path)

-- the numbers of a `create` line
unfoldable pub create_numbers : ℕ → List ℕ → ℕ → List ℕ → Row Line
create_numbers application handle device path = do
  disposition ← number32_word
  access ← number32_word
  share ← number32_word
  options ← number32_word
  attributes ← number32_word
  done (line.Create application handle device path disposition access share options attributes)

unfoldable pub create_row : Said → ℕ → List ℕ → Row Line
create_row said application handle = do
  device ← known_device said
  path ← path_word
  create_numbers application handle device path

unfoldable pub read_row : ℕ → List ℕ → Row Line
read_row application handle = do
  offset ← number64_word
  len ← number32_word
  done (line.Read application handle offset len)

unfoldable pub write_row : ℕ → List ℕ → Row Line
write_row application handle = do
  offset ← number64_word
  bytes ← buffer_word
  done (line.Write application handle offset bytes)

unfoldable pub query_row : ℕ → List ℕ → Row Line
query_row application handle = do
  class ← number32_word
  done (line.Query application handle class)

unfoldable pub set_row : ℕ → List ℕ → Row Line
set_row application handle = do
  class ← number32_word
  bytes ← buffer_word
  done (line.Set application handle class bytes)

unfoldable pub volume_row : ℕ → List ℕ → Row Line
volume_row application handle = do
  class ← number32_word
  done (line.Volume application handle class)

unfoldable pub setvolume_row : ℕ → List ℕ → Row Line
setvolume_row application handle = do
  class ← number32_word
  bytes ← buffer_word
  done (line.SetVolume application handle class bytes)

unfoldable pub dir_row : ℕ → List ℕ → Row Line
dir_row application handle = do
  class ← number32_word
  initial ← flag_word
  path ← path_word
  done (line.Dir application handle class initial path)

unfoldable pub lock_row : ℕ → List ℕ → Row Line
lock_row application handle = do
  operation ← number32_word
  wait ← flag_word
  ranges ← few_ranges max_ranges
  done (line.Lock application handle operation wait ranges)

unfoldable pub control_row : ℕ → List ℕ → Row Line
control_row application handle = do
  code ← number32_word
  output ← number32_word
  bytes ← buffer_word
  done (line.Control application handle code output bytes)

unfoldable pub notify_row : ℕ → List ℕ → Row Line
notify_row application handle = do
  tree ← flag_word
  filter ← number32_word
  done (line.Notify application handle tree filter)

-- what is left of an application's line after its handle, by its verb
unfoldable pub verb_row : Said → ℕ → List ℕ → Verb → Row Line
verb_row said application handle verb.Open = open_row said application handle
verb_row said application handle verb.Create = create_row said application handle
verb_row said application handle verb.Close = done (line.Close application handle)
verb_row said application handle verb.Read = read_row application handle
verb_row said application handle verb.Write = write_row application handle
verb_row said application handle verb.Query = query_row application handle
verb_row said application handle verb.Set = set_row application handle
verb_row said application handle verb.Volume = volume_row application handle
verb_row said application handle verb.SetVolume = setvolume_row application handle
verb_row said application handle verb.Dir = dir_row application handle
verb_row said application handle verb.Lock = lock_row application handle
verb_row said application handle verb.Control = control_row application handle
verb_row said application handle verb.Notify = notify_row application handle

-- ---- the first word

-- a verb, in a mode that has lines of applications
unfoldable pub verb_word : Said → Row Verb
verb_word said = do
  v ← entry_word verbs
  test (not (in_client said.mode)) why.Words
  done v

-- an application, a verb, a handle, and what is left of the line
unfoldable pub application_row : Said → Row Line
application_row said = do
  application ← number_word 1 max_applications
  v ← verb_word said
  handle ← handle_word
  verb_row said application handle v

-- a keyword of a line that there is in the mode
unfoldable pub keyword_word : Said → Row Keyword
keyword_word said = do
  k ← entry_word keywords
  test (stands_in k said.mode) why.Words
  done k

-- what is left of a line after its keyword
unfoldable pub keyword_row : Said → Keyword → Row Line
keyword_row said keyword.Seed = seed_row
keyword_row said keyword.Clock = clock_row
keyword_row said keyword.Piece = piece_row
keyword_row said keyword.Workers = workers_row
keyword_row said keyword.Channels = channels_row
keyword_row said keyword.Devices = devices_row
keyword_row said keyword.Drive = drive_row said
keyword_row said keyword.DriveFold = drivefold_row said
keyword_row said keyword.Real = real_row said
keyword_row said keyword.Folder = folder_row said
keyword_row said keyword.File = file_row said
keyword_row said keyword.Fill = fill_row said
keyword_row said keyword.Printer = printer_row said
keyword_row said keyword.At = at_row said
keyword_row said keyword.Settle = done line.Settle
keyword_row said keyword.Remove = remove_row said
keyword_row said keyword.Add = add_row said
keyword_row said keyword.Do = do_row said
keyword_row said keyword.Cache = cache_row
keyword_row said keyword.Drop = done line.Drop
keyword_row said keyword.Connect = done line.Connect

unfoldable pub control_line_row : Said → Row Line
control_line_row said = do
  k ← keyword_word said
  keyword_row said k

-- the words of a line: one that begins with a digit is an application's
unfoldable pub form_row : Said → Bool → Row Line
form_row said true = application_row said
form_row said false = control_line_row said

-- whether the drive of a line that makes a node has room for it
unfoldable pub has_room_for : Said → Line → Bool
has_room_for said (line.Folder device path) = has_room said device
has_room_for said (line.File device path bytes) = has_room said device
has_room_for said (line.Fill device path len byte) = has_room said device
has_room_for said _ = true

-- no further word, and room for what the line makes
unfoldable pub end_row : Said → Line → Row (Unit {0})
end_row said l = do
  last
  test (has_room_for said l) why.Many

-- The row of a line.
unfoldable pub line_row : Said → Bool → Row Line
line_row said application = do
  l ← form_row said application
  end_row said l
  done l
