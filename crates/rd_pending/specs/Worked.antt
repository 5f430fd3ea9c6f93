-- A table in use, for worked cases.
use Rattle.std.specs.Prelude.{ℕ, zero, suc, ◌+◌, true, List, [], ◌∷◌, map}
use Rattle.std.specs.List.{range_with_len}
use Rattle.rd_base.specs.Statuses.{access_denied}
use Rattle.rd_irp.specs.declared.completion.Body.TheVariants as body
use Rattle.rd_irp.specs.declared.completion.Head.{Head}
use Rattle.rd_irp.specs.declared.completion.Kind.TheVariants as kind
use Rattle.rd_irp.specs.declared.completion.Reply.{Reply}
use Rattle.rd_irp.specs.declared.op.Op.{Op}
use Rattle.rd_irp.specs.declared.op.Op.TheVariants as op
use Rattle.rd_pending.specs.declared.calls.Target.{Target}
use Rattle.rd_pending.specs.declared.calls.Target.TheVariants as target
use Rattle.rd_pending.specs.History as call
use Rattle.rd_pending.specs.History.{Call}
use Rattle.rd_pending.specs.Outcomes.{Accepted, Tidings, begins, completes, removes}
use Rattle.rd_pending.specs.Table.{Slot, TableState, begin, live, new_table, submit}

-- opening the root
abbrev pub opening : Op
opening = op.Create 0 0 0 7 1 0 []

-- a channel began, and devices 1 and 2 are there
abbrev pub open_table : TableState
open_table = (live (live (begin new_table 1).0 1).0 2).0

-- where an application asked for the root of a device, so often
abbrev pub asked_of : ℕ → ℕ → TableState → TableState
asked_of device zero t = t
asked_of device (suc count) t = asked_of device count (submit t 1 (target.Device device) opening).0

-- a handle of a device in a life
abbrev pub handle_of : ℕ → ℕ → Target
handle_of device life = target.Handle (record { device = device; life = life; file = 1 })

-- the head of a completion that has no body
abbrev pub refusal_of : ℕ → ℕ → Head
refusal_of device id = record { device = device; completion = id; status = access_denied }

abbrev pub refused : Reply
refused = record { status = access_denied; body = body.Fault }

-- the head of a completion of a success
abbrev pub success_of : ℕ → ℕ → Head
success_of device id = record { device = device; completion = id; status = record { 0 = 0 } }

-- the first request of device 1, in its first life
abbrev pub first : Accepted
first = record { application = 1; channel = 1; index = 0; device = 1; file = 0; life = 1; id = 0; op = opening }

-- the calls that lead there: a channel begins, device 1 is there, and an application asks for its root
abbrev pub asked_once : List Call
asked_once = call.submits 1 (target.Device 1) opening ∷ call.lives 1 ∷ call.begins 1 ∷ []

-- what is heard: a life of device 1, its removal, and a refusal of the request with the completion id 0
abbrev pub hears_begin : Tidings
hears_begin = begins 1

abbrev pub hears_removal : Tidings
hears_removal = removes 1

abbrev pub hears_refusal : Tidings
hears_refusal = completes (refusal_of 1 0) []

-- every completion id is held; of the requests nothing is said
abbrev slot_of : ℕ → ℕ × Slot
slot_of id = (id, record { number = id + 1; device = 1; kind = kind.Create; dead = true })

abbrev pub full_table : TableState
full_table = record open_table { slots = map slot_of (range_with_len 0 1024) }
