-- Which bytes spell a completion: its head and its body (MS-RDPEFS 2.2.1.5).
use Rattle.std.specs.Prelude.{◌≡◌, ℕ, List, ◌==◌}
use Rattle.rd_base.specs.declared.bad.Bad.{Bad}
use Rattle.rd_base.specs.declared.bad.ReadNo.{ReadNo}
use Rattle.rd_base.specs.declared.bad.ReadNo.TheVariants as no
use Rattle.rd_base.specs.declared.status.Status.{Status}
use Rattle.rd_base.specs.declared.packet.Packet.TheVariants.{IoCompletion}
use Rattle.rd_base.specs.Layout.{Layout, done, any_bytes, ◌>>=◌, ◌>>◌, choose, Spells, FirstFault}
use Rattle.rd_base.specs.Header.{header}
use Rattle.rd_base.specs.Fields.{number8, number32, missing_pad}
use Rattle.rd_irp.specs.declared.completion.Head.{Head}
use Rattle.rd_irp.specs.declared.completion.Kind.{Kind}
use Rattle.rd_irp.specs.declared.completion.Kind.TheVariants as kind
use Rattle.rd_irp.specs.declared.completion.Body.{Body}
use Rattle.rd_irp.specs.declared.completion.Body.TheVariants.{Created, Closed, Count, Buffer, Locked, Fault}

-- DR_DEVICE_IOCOMPLETION, the first 16 bytes of every completion
unfoldable pub completion_head : Layout Head
completion_head = do
  header IoCompletion
  device ← number32
  completion ← number32
  status ← number32
  done (record { device = device; completion = completion; status = record { 0 = status } })

-- What comes after the head of a success (2.2.1.5.1 to 2.2.1.5.4, 2.2.3.4.12). Where padding is cut short, what is there suffices.
unfoldable pub success_body : Kind → Layout Body
success_body kind.Create = do
  file ← number32
  information ← number8
  done (Created file information)
success_body kind.Close = do
  missing_pad 4
  done Closed
success_body kind.Count = do
  count ← number32
  missing_pad 1
  done (Count count)
success_body kind.Buffer = do
  count ← number32
  bytes ← any_bytes count
  done (Buffer bytes)
success_body kind.Lock = do
  missing_pad 5
  done Locked

-- What comes after the head. Beside a status other than success no byte means anything.
unfoldable pub completion_body : Kind → Status → Layout Body
completion_body k status = choose (status.0 == 0) (success_body k) (done Fault)

-- After the head of a completion of this kind and status, the bytes begin with a spelling of this body, and so many more come after it.
abbrev pub SpellsBody : Kind → Status → Body → ℕ → List ℕ → Type 0
SpellsBody k status body tail bytes = Spells (completion_body k status) body tail bytes

-- what goes wrong first in bytes that are no such body
abbrev pub FirstFaultOfBody : Kind → Status → List ℕ → Bad → Type 0
FirstFaultOfBody k status bytes bad = FirstFault (completion_body k status) bytes bad

-- The bytes begin with a spelling of this head of a completion, and so many more come after it.
abbrev pub SpellsHead : Head → ℕ → List ℕ → Type 0
SpellsHead head tail bytes = Spells completion_head head tail bytes

-- what goes wrong first in bytes that are no such head
abbrev pub FirstFaultOfHead : List ℕ → Bad → Type 0
FirstFaultOfHead bytes bad = FirstFault completion_head bytes bad

-- Of a completion of this kind and status bytes are kept: those of a buffer, where it is a success.
abbrev pub KeepsBytes : Kind → Status → Type 0
KeepsBytes k status = (k ≡ kind.Buffer) × (status.0 ≡ 0)

-- it holds where memory ran out
abbrev pub OnMemory : Type 0 → ReadNo → Type 0
OnMemory P no.Memory = P
OnMemory P (no.Bad bad) = Unit {0}
