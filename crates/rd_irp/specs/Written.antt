-- The bytes that are written: the fields of a value, with zeros in every pad.
use Rattle.std.specs.Prelude.{ℕ, ◌*◌, ◌+◌, ◌<◌, ◌^◌, List, [], ◌++◌, All, length, replicate}
use Rattle.std.specs.List.{flat_map}
use Rattle.std.specs.Int.{w8, w32, w64, to_le_bytes}
use Rattle.rd_base.specs.declared.packet.Packet.TheVariants.{IoRequest, IoCompletion}
use Rattle.rd_base.specs.Fields.{path_bytes, flag_number}
use Rattle.rd_base.specs.Header.{header_bytes}
use Rattle.rd_irp.specs.declared.op.Range.{Range}
use Rattle.rd_irp.specs.declared.op.Op.{Op}
use Rattle.rd_irp.specs.declared.op.Op.TheVariants.{Create, Close, Read, Write, QueryFile, SetFile, QueryVolume, SetVolume, QueryDir, Notify, Control, Lock, Unknown, Malformed}
use Rattle.rd_irp.specs.declared.request.Request.{Request}
use Rattle.rd_irp.specs.declared.completion.Head.{Head}
use Rattle.rd_irp.specs.declared.completion.Kind.{Kind}
use Rattle.rd_irp.specs.declared.completion.Body.{Body}
use Rattle.rd_irp.specs.declared.completion.Body.TheVariants as body
use Rattle.rd_irp.specs.Fits.{fault_length}

-- the MajorFunction of an operation
abbrev pub major_of : Op → ℕ
major_of (Create access allocation attributes share disposition options path) = 0
major_of Close = 2
major_of (Read offset len) = 3
major_of (Write offset bytes) = 4
major_of (QueryFile class) = 5
major_of (SetFile class bytes) = 6
major_of (QueryVolume class) = 0xa
major_of (SetVolume class bytes) = 0xb
major_of (QueryDir class initial path) = 0xc
major_of (Notify tree filter) = 0xc
major_of (Control output code bytes) = 0xe
major_of (Lock operation wait ranges) = 0x11
major_of (Unknown major minor) = major
major_of (Malformed major minor bad) = major

-- the MinorFunction of an operation that fits
abbrev pub minor_of : Op → ℕ
minor_of (QueryDir class initial path) = 1
minor_of (Notify tree filter) = 2
minor_of _ = 0

-- one range of a lock
abbrev pub range_bytes : Range → List ℕ
range_bytes r = to_le_bytes w64 r.length ++ to_le_bytes w64 r.offset

-- the fields of a query of a class
abbrev pub queried_bytes : ℕ → List ℕ
queried_bytes class = to_le_bytes w32 class ++ to_le_bytes w32 0 ++ replicate 24 0

-- the fields of a class that is set
abbrev pub set_bytes : ℕ → List ℕ → List ℕ
set_bytes class bytes = to_le_bytes w32 class ++ to_le_bytes w32 (length bytes) ++ replicate 24 0 ++ bytes

-- the body of an operation that fits
abbrev pub op_bytes : Op → List ℕ
op_bytes (Create access allocation attributes share disposition options path) =
    to_le_bytes w32 access ++ to_le_bytes w64 allocation ++ to_le_bytes w32 attributes ++ to_le_bytes w32 share
    ++ to_le_bytes w32 disposition ++ to_le_bytes w32 options ++ to_le_bytes w32 (2 * length path + 2) ++ path_bytes path
op_bytes Close = replicate 32 0
op_bytes (Read offset len) = to_le_bytes w32 len ++ to_le_bytes w64 offset ++ replicate 20 0
op_bytes (Write offset bytes) = to_le_bytes w32 (length bytes) ++ to_le_bytes w64 offset ++ replicate 20 0 ++ bytes
op_bytes (QueryFile class) = queried_bytes class
op_bytes (SetFile class bytes) = set_bytes class bytes
op_bytes (QueryVolume class) = queried_bytes class
op_bytes (SetVolume class bytes) = set_bytes class bytes
op_bytes (QueryDir class initial path) =
    to_le_bytes w32 class ++ to_le_bytes w8 (flag_number initial) ++ to_le_bytes w32 (2 * length path + 2) ++ replicate 23 0 ++ path_bytes path
op_bytes (Notify tree filter) = to_le_bytes w8 (flag_number tree) ++ to_le_bytes w32 filter ++ replicate 27 0
op_bytes (Control output code bytes) =
    to_le_bytes w32 output ++ to_le_bytes w32 (length bytes) ++ to_le_bytes w32 code ++ replicate 20 0 ++ bytes
op_bytes (Lock operation wait ranges) =
    to_le_bytes w32 operation ++ to_le_bytes w32 (flag_number wait) ++ to_le_bytes w32 (length ranges) ++ replicate 20 0 ++ flat_map range_bytes ranges
op_bytes (Unknown major minor) = []
op_bytes (Malformed major minor bad) = []

-- the head of a request whose operation fits
abbrev pub request_head_bytes : Request → List ℕ
request_head_bytes r =
    header_bytes IoRequest ++ to_le_bytes w32 r.device ++ to_le_bytes w32 r.file ++ to_le_bytes w32 r.completion
    ++ to_le_bytes w32 (major_of r.op) ++ to_le_bytes w32 (minor_of r.op)

-- a request whose operation fits
abbrev pub request_bytes : Request → List ℕ
request_bytes r = request_head_bytes r ++ op_bytes r.op

-- the head of a completion
abbrev pub head_bytes : Head → List ℕ
head_bytes head = header_bytes IoCompletion ++ to_le_bytes w32 head.device ++ to_le_bytes w32 head.completion ++ to_le_bytes w32 (head.status).0

-- the body of a completion; that of a fault is as long as the kind's fields without the buffer
abbrev pub body_bytes : Kind → Body → List ℕ
body_bytes kind (body.Created file information) = to_le_bytes w32 file ++ to_le_bytes w8 information
body_bytes kind body.Closed = replicate 4 0
body_bytes kind (body.Count count) = to_le_bytes w32 count ++ replicate 1 0
body_bytes kind (body.Buffer bytes) = to_le_bytes w32 (length bytes) ++ bytes
body_bytes kind body.Locked = replicate 5 0
body_bytes kind body.Fault = replicate (fault_length kind) 0

-- a completion
abbrev pub completion_bytes : Kind → Head → Body → List ℕ
completion_bytes kind head body = head_bytes head ++ body_bytes kind body

-- how many bytes of a written body say nothing: the zeros of a fault
abbrev pub body_tail : Kind → Body → ℕ
body_tail kind body.Fault = fault_length kind
body_tail kind _ = 0

-- the numbers of a range are in the ranges of their fields
abbrev pub IsRangeInRange : Range → Type 0
IsRangeInRange r = (r.offset < 2 ^ 64) × (r.length < 2 ^ 64)

-- the numbers of an operation are in the ranges of their fields
abbrev pub IsOpInRange : Op → Type 0
IsOpInRange (Create access allocation attributes share disposition options path) =
    (access < 2 ^ 32) × (allocation < 2 ^ 64) × (attributes < 2 ^ 32) × (share < 2 ^ 32)
    × (disposition < 2 ^ 32) × (options < 2 ^ 32) × All (λ unit. unit < 2 ^ 16) path
IsOpInRange (Read offset len) = (offset < 2 ^ 64) × (len < 2 ^ 32)
IsOpInRange (Write offset bytes) = offset < 2 ^ 64
IsOpInRange (QueryFile class) = class < 2 ^ 32
IsOpInRange (SetFile class bytes) = class < 2 ^ 32
IsOpInRange (QueryVolume class) = class < 2 ^ 32
IsOpInRange (SetVolume class bytes) = class < 2 ^ 32
IsOpInRange (QueryDir class initial path) = (class < 2 ^ 32) × All (λ unit. unit < 2 ^ 16) path
IsOpInRange (Notify tree filter) = filter < 2 ^ 32
IsOpInRange (Control output code bytes) = (output < 2 ^ 32) × (code < 2 ^ 32)
IsOpInRange (Lock operation wait ranges) = (operation < 2 ^ 32) × All IsRangeInRange ranges
IsOpInRange _ = Unit {0}

-- the same of a body
abbrev pub IsBodyInRange : Body → Type 0
IsBodyInRange (body.Created file information) = (file < 2 ^ 32) × (information < 2 ^ 8)
IsBodyInRange (body.Count count) = count < 2 ^ 32
IsBodyInRange _ = Unit {0}
