-- Which bytes spell a request (MS-RDPEFS 2.2.1.4).
use Rattle.std.specs.Prelude.{ℕ, List}
use Rattle.rd_base.specs.declared.bad.Bad.{Bad}
use Rattle.rd_base.specs.declared.packet.Packet.TheVariants.{IoRequest}
use Rattle.rd_base.specs.Layout.{Layout, done, ◌>>=◌, ◌>>◌, Spells, FirstFault, FaultAfter}
use Rattle.rd_base.specs.Header.{header}
use Rattle.rd_base.specs.Fields.{number32}
use Rattle.rd_irp.specs.declared.op.Op.{Op}
use Rattle.rd_irp.specs.declared.op.Op.TheVariants.{Malformed}
use Rattle.rd_irp.specs.declared.request.Request.{Request}
use Rattle.rd_irp.specs.declared.request.RequestHead.{RequestHead}
use Rattle.rd_irp.specs.Op.{op_body}

-- DR_DEVICE_IOREQUEST, the first 24 bytes of every request
unfoldable pub request_head : Layout RequestHead
request_head = do
  header IoRequest
  device ← number32
  file ← number32
  completion ← number32
  major ← number32
  minor ← number32
  done (record { device = device; file = file; completion = completion; major = major; minor = minor })

-- what comes after such a head
abbrev pub body_after : RequestHead → Layout Op
body_after head = op_body head.major head.minor

-- a request whose head and body can be read
unfoldable pub whole_request : Layout Request
whole_request = do
  head ← request_head
  op ← body_after head
  done (record { device = head.device; file = head.file; completion = head.completion; op = op })

-- The bytes begin with a spelling of this request, whose operation is the first argument, and so many more come after it.
-- A malformed request is spelled by its head alone: its operation names what first goes wrong in the body, by its place in the whole
-- message, and all bytes after the head count as more.
abbrev pub SpellsWith : Op → Request → ℕ → List ℕ → Type 0
SpellsWith (Malformed major minor bad) r tail bytes =
    FaultAfter request_head body_after (record { device = r.device; file = r.file; completion = r.completion; major = major; minor = minor }) bad tail bytes
SpellsWith _ r tail bytes = Spells whole_request r tail bytes

-- The bytes begin with a spelling of this request, and so many more come after it.
abbrev pub SpellsRequest : Request → ℕ → List ℕ → Type 0
SpellsRequest r tail bytes = SpellsWith r.op r tail bytes

-- What goes wrong first in bytes that are no request: their head can't be read.
abbrev pub FirstFaultOfRequest : List ℕ → Bad → Type 0
FirstFaultOfRequest bytes bad = FirstFault request_head bytes bad
