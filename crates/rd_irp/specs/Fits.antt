-- What may be written.
use Rattle.std.specs.Prelude.{◌≡◌, ℕ, ◌+◌, ◌*◌, ◌<◌, ◌≤◌, ◌^◌, ◌≢◌, ◌==◌, ◌||◌, Bool, true, false, if◌then◌else◌, List, length, All, MatchBool}
use Rattle.rd_base.specs.declared.status.Status.{Status}
use Rattle.rd_irp.specs.declared.op.Op.{Op}
use Rattle.rd_irp.specs.declared.op.Op.TheVariants as op
use Rattle.rd_irp.specs.declared.completion.Kind.{Kind}
use Rattle.rd_irp.specs.declared.completion.Kind.TheVariants as kind
use Rattle.rd_irp.specs.declared.completion.Body.{Body}
use Rattle.rd_irp.specs.declared.completion.Body.TheVariants as body
use Rattle.rd_irp.specs.declared.completion.Reply.{Reply}
use Rattle.rd_irp.specs.Op.{max_ranges}

-- the most units of a path
abbrev pub max_path : ℕ
max_path = 4096

-- the most bytes of a buffer
abbrev pub max_buffer : ℕ
max_buffer = 1048576

-- a path that a request can carry: it isn't too long, and none of its units is zero
abbrev pub IsWritablePath : List ℕ → Type 0
IsWritablePath path = (length path ≤ max_path) × All (λ unit. unit ≢ 0) path

-- A request with this operation can be sent: what it carries isn't too much, and no unit of its path is zero.
abbrev pub Fits : Op → Type 0
Fits (op.Create access allocation attributes share disposition options path) = IsWritablePath path
Fits (op.Write offset bytes) = length bytes ≤ max_buffer
Fits (op.SetFile class bytes) = length bytes ≤ max_buffer
Fits (op.SetVolume class bytes) = length bytes ≤ max_buffer
Fits (op.QueryDir class initial path) = IsWritablePath path
Fits (op.Control output code bytes) = length bytes ≤ max_buffer
Fits (op.Lock operation wait ranges) = length ranges ≤ max_ranges
Fits (op.Unknown major minor) = ⊥
Fits (op.Malformed major minor bad) = ⊥
Fits _ = Unit {0}

-- the layout of the completion of a request with this MajorFunction
abbrev pub kind_of_major : ℕ → Kind
kind_of_major major =
    if major == 0 then kind.Create
    else (if major == 2 then kind.Close
    else (if major == 4 || major == 6 || major == 0xb then kind.Count
    else (if major == 0x11 then kind.Lock
    else kind.Buffer)))

-- the layout of an operation's completion; a malformed one has that of its function
abbrev pub kind_of : Op → Kind
kind_of (op.Create access allocation attributes share disposition options path) = kind.Create
kind_of op.Close = kind.Close
kind_of (op.Write offset bytes) = kind.Count
kind_of (op.SetFile class bytes) = kind.Count
kind_of (op.SetVolume class bytes) = kind.Count
kind_of (op.Lock operation wait ranges) = kind.Lock
kind_of (op.Malformed major minor bad) = kind_of_major major
kind_of _ = kind.Buffer

-- whether an operation opens a file
abbrev pub opens : Op → Bool
opens (op.Create access allocation attributes share disposition options path) = true
opens _ = false

-- a byte field that its length field can count
abbrev pub IsCountableBody : Body → Type 0
IsCountableBody (body.Created file information) = Unit {0}
IsCountableBody body.Closed = Unit {0}
IsCountableBody (body.Count count) = Unit {0}
IsCountableBody (body.Buffer bytes) = length bytes < 2 ^ 32
IsCountableBody body.Locked = Unit {0}
IsCountableBody body.Fault = Unit {0}

-- the body of a success of each layout
abbrev pub IsOfKind : Kind → Body → Type 0
IsOfKind kind.Create (body.Created file information) = Unit {0}
IsOfKind kind.Close body.Closed = Unit {0}
IsOfKind kind.Count (body.Count count) = Unit {0}
IsOfKind kind.Buffer (body.Buffer bytes) = Unit {0}
IsOfKind kind.Lock body.Locked = Unit {0}
IsOfKind k b = ⊥

-- A completion of this layout and status has such a body: a success the one of its layout, everything else a fault.
abbrev pub BodyFits : Kind → Status → Body → Type 0
BodyFits k status b = MatchBool (status.0 == 0) (IsOfKind k b) (b ≡ body.Fault) × IsCountableBody b

-- a body that leaves a completion within the limit of a message: its buffer isn't too long
abbrev pub IsSendable : Body → Type 0
IsSendable (body.Created file information) = Unit {0}
IsSendable body.Closed = Unit {0}
IsSendable (body.Count count) = Unit {0}
IsSendable (body.Buffer bytes) = length bytes ≤ max_buffer
IsSendable body.Locked = Unit {0}
IsSendable body.Fault = Unit {0}

-- a reply with which the operation may be completed, and that can be sent
abbrev pub IsReplyTo : Op → Reply → Type 0
IsReplyTo op reply = BodyFits (kind_of op) reply.status reply.body × IsSendable reply.body

-- the zeros beside a status other than success: as many as a success of the layout has bytes without its buffer
abbrev pub fault_length : Kind → ℕ
fault_length kind.Create = 5
fault_length kind.Close = 4
fault_length kind.Count = 5
fault_length kind.Buffer = 4
fault_length kind.Lock = 5

-- how many bytes a body is written in
abbrev pub body_length : Kind → Body → ℕ
body_length k (body.Created file information) = 5
body_length k body.Closed = 4
body_length k (body.Count count) = 5
body_length k (body.Buffer bytes) = 4 + length bytes
body_length k body.Locked = 5
body_length k body.Fault = fault_length k

-- the bytes of the head of a request
abbrev pub request_head_len : ℕ
request_head_len = 24

-- and of that of a completion
abbrev pub completion_head_len : ℕ
completion_head_len = 16

-- how many bytes the body of an operation that fits is written in
abbrev pub op_length : Op → ℕ
op_length (op.Create access allocation attributes share disposition options path) = 34 + 2 * length path
op_length (op.Write offset bytes) = 32 + length bytes
op_length (op.SetFile class bytes) = 32 + length bytes
op_length (op.SetVolume class bytes) = 32 + length bytes
op_length (op.QueryDir class initial path) = 34 + 2 * length path
op_length (op.Control output code bytes) = 32 + length bytes
op_length (op.Lock operation wait ranges) = 32 + 16 * length ranges
op_length (op.Unknown major minor) = 0
op_length (op.Malformed major minor bad) = 0
op_length _ = 32
