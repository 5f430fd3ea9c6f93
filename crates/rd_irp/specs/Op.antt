-- The bodies of requests, by their function (MS-RDPEFS 2.2.1.4.1 to 2.2.1.4.5, 2.2.3.3.6 to 2.2.3.3.12).
use Rattle.std.specs.Prelude.{ℕ, List, ◌==◌, ◌%◌}
use Rattle.rd_base.specs.Layout.{Layout, done, any_bytes, four_bytes, ◌>>=◌, ◌>>◌, choose}
use Rattle.rd_base.specs.Fields.{number32, number64, pad, times, length_of_units, path, flag}
use Rattle.rd_base.specs.Counted.{count_to}
use Rattle.rd_irp.specs.declared.op.Range.{Range}
use Rattle.rd_irp.specs.declared.op.Op.{Op}
use Rattle.rd_irp.specs.declared.op.Op.TheVariants.{Create, Close, Read, Write, QueryFile, SetFile, QueryVolume, SetVolume, QueryDir, Notify, Control, Lock, Unknown}

-- the most ranges of a lock
abbrev pub max_ranges : ℕ
max_ranges = 1024

-- DR_CREATE_REQ after its head (2.2.1.4.1)
unfoldable pub create_body : Layout Op
create_body = do
  access ← number32
  allocation ← number64
  attributes ← number32
  share ← number32
  disposition ← number32
  options ← number32
  count ← length_of_units
  units ← path count
  done (Create access allocation attributes share disposition options units)

-- DR_CLOSE_REQ after its head (2.2.1.4.2)
unfoldable pub close_body : Layout Op
close_body = do
  pad 32
  done Close

-- DR_READ_REQ after its head (2.2.1.4.3)
unfoldable pub read_body : Layout Op
read_body = do
  len ← number32
  offset ← number64
  pad 20
  done (Read offset len)

-- DR_WRITE_REQ after its head (2.2.1.4.4)
unfoldable pub write_body : Layout Op
write_body = do
  count ← number32
  offset ← number64
  pad 20
  bytes ← any_bytes count
  done (Write offset bytes)

-- The information class that is queried. The length says nothing: no buffer follows.
unfoldable pub queried_class : Layout ℕ
queried_class = do
  class ← number32
  count ← number32
  pad 24
  done class

-- the information class that is set, and its buffer
unfoldable pub class_and_bytes : Layout (ℕ × List ℕ)
class_and_bytes = do
  class ← number32
  count ← number32
  pad 24
  bytes ← any_bytes count
  done (class, bytes)

-- DR_DRIVE_QUERY_INFORMATION_REQ after its head (2.2.3.3.8)
unfoldable pub query_file_body : Layout Op
query_file_body = do
  class ← queried_class
  done (QueryFile class)

-- DR_DRIVE_SET_INFORMATION_REQ after its head (2.2.3.3.9)
unfoldable pub set_file_body : Layout Op
set_file_body = do
  fields ← class_and_bytes
  done (SetFile fields.0 fields.1)

-- DR_DRIVE_QUERY_VOLUME_INFORMATION_REQ after its head (2.2.3.3.6)
unfoldable pub query_volume_body : Layout Op
query_volume_body = do
  class ← queried_class
  done (QueryVolume class)

-- DR_DRIVE_SET_VOLUME_INFORMATION_REQ after its head (2.2.3.3.7)
unfoldable pub set_volume_body : Layout Op
set_volume_body = do
  fields ← class_and_bytes
  done (SetVolume fields.0 fields.1)

-- DR_DRIVE_QUERY_DIRECTORY_REQ after its head (2.2.3.3.10)
unfoldable pub query_dir_body : Layout Op
query_dir_body = do
  class ← number32
  initial ← flag
  count ← length_of_units
  pad 23
  units ← path count
  done (QueryDir class initial units)

-- DR_DRIVE_NOTIFY_CHANGE_DIRECTORY_REQ after its head (2.2.3.3.11)
unfoldable pub notify_body : Layout Op
notify_body = do
  tree ← flag
  filter ← number32
  pad 27
  done (Notify tree filter)

-- DR_CONTROL_REQ after its head (2.2.1.4.5)
unfoldable pub control_body : Layout Op
control_body = do
  output ← number32
  count ← number32
  code ← number32
  pad 20
  bytes ← any_bytes count
  done (Control output code bytes)

-- RDP_LOCK_INFO, one range of a lock (2.2.1.6)
unfoldable pub range : Layout Range
range = do
  len ← number64
  offset ← number64
  done (record { offset = offset; length = len })

-- DR_DRIVE_LOCK_REQ after its head (2.2.3.3.12). Of the second field the lowest bit says whether the lock is waited for.
unfoldable pub lock_body : Layout Op
lock_body = do
  operation ← number32
  bits ← number32
  count ← count_to four_bytes max_ranges
  pad 20
  ranges ← times count range
  done (Lock operation (bits % 2 == 1) ranges)

-- The body of a request of directory control with this MinorFunction: a query or a notification, and of any other nothing is read.
unfoldable pub directory_body : ℕ → ℕ → Layout Op
directory_body major minor =
    choose (minor == 1) query_dir_body
    (choose (minor == 2) notify_body
    (done (Unknown major minor)))

-- The body of a request with this MajorFunction and MinorFunction. Of a function that isn't known nothing is read.
unfoldable pub op_body : ℕ → ℕ → Layout Op
op_body major minor =
    choose (major == 0) create_body
    (choose (major == 2) close_body
    (choose (major == 3) read_body
    (choose (major == 4) write_body
    (choose (major == 5) query_file_body
    (choose (major == 6) set_file_body
    (choose (major == 0xa) query_volume_body
    (choose (major == 0xb) set_volume_body
    (choose (major == 0xc) (directory_body major minor)
    (choose (major == 0xe) control_body
    (choose (major == 0x11) lock_body
    (done (Unknown major minor))))))))))))
