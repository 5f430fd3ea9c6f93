-- What a host's end does on a channel, event by event, with what it reads and writes then and the replies that are due.
use Rattle.std.specs.Prelude.{◌≡◌, ℕ, ◌==◌, ◌&&◌, if◌then◌else◌, List, [], ◌∷◌, map, Option, Some, None, IsOk, IsSome, Ok}
use Rattle.std.specs.Option.{option_and_then}
use Rattle.rd_base.specs.declared.status.Status.{Status}
use Rattle.rd_base.specs.Layout.{met}
use Rattle.rd_base.specs.Position.{at_start}
use Rattle.rd_devices.specs.declared.reply.DeviceReply.{DeviceReply}
use Rattle.rd_hello.specs.Moves.{Move, reads, writes}
use Rattle.rd_irp.specs.Request.{request_head}
use Rattle.rd_host.specs.Core.{HostCall, HostCoreState, HostStep, IsHostReady, KeepsHostChannel, hears, replies, sends}
use Rattle.rd_host.specs.Order.{HostStanding, Replying, after_act, stand_after}

-- An event at a host's end: one of its calls, or a request of the table is written past what waits to be sent.
pub data HostEvent : Type 0 where
  calls : HostCall → HostEvent
  asks : List ℕ → HostEvent

-- what is read or written in an event
abbrev pub host_event_moves : HostEvent → List Move
host_event_moves (calls (hears message (Ok says))) = reads message ∷ []
host_event_moves (calls (sends (Some message))) = writes message ∷ []
host_event_moves (asks message) = writes message ∷ []
host_event_moves _ = []

-- what is still to be written
abbrev pub host_waiting_moves : HostCoreState → List Move
host_waiting_moves h = map writes (h.core).outbox

-- A request may be written once the host is ready and has nothing to send.
pub record MayAsk (h : HostCoreState) (message : List ℕ) : Type 0 where
  pub ready : IsHostReady h
  pub sent : (h.core).outbox ≡ []
  pub head : IsOk (met request_head (at_start message))

-- The host before an event that begins no channel, and after it.
abbrev pub HostEventStep : HostCoreState → HostEvent → HostCoreState → Type 0
HostEventStep old (calls call) new = KeepsHostChannel call × HostStep old call new
HostEventStep old (asks message) new = MayAsk old message × (new ≡ old)

-- the host before events, one after the other, and after them
abbrev pub HostEvents : HostCoreState → List HostEvent → HostCoreState → Type 0
HostEvents old [] new = new ≡ old
HostEvents old (event ∷ events) new = (next : HostCoreState) × HostEventStep old event next × HostEvents next events new

-- ---- the replies that are due

-- a reply is given: the first that is due, to its device and with its code
abbrev pub due_given : Replying → (device : ℕ) → Status → List DeviceReply → Option Replying
due_given r device code (first ∷ others) = if first.id == device && (first.code).0 == code.0 then Some (record r { due = others }) else None
due_given r device code [] = None

-- After an event: devices that are announced add replies, and one that is given is the first of them. No other event changes what is due.
abbrev pub due_after : Replying → HostEvent → Option Replying
due_after r (calls (hears message (Ok says))) = Some (after_act says r)
due_after r (calls (replies device code (Ok u))) = due_given r device code r.due
due_after r _ = Some r

abbrev pub due_after_all : Replying → List HostEvent → Option Replying
due_after_all r [] = Some r
due_after_all r (event ∷ events) = option_and_then (λ q. due_after_all q events) (due_after r event)

-- Each reply that is given in these events is the next one that is due.
abbrev pub AreDue : Replying → List HostEvent → Type 0
AreDue r events = IsSome (due_after_all r events)

-- ---- where the host stands

-- A host stands here, and by its calls these replies are due: what it still has to send may be written next, and then nothing of the opening is owed, and these
-- replies are due by what it wrote.
pub record HostStandsAt (s : HostStanding) (r : Replying) (h : HostCoreState) : Type 0 where
  pub state : s.shake ≡ (h.core).shake
  pub waiting : stand_after s (host_waiting_moves h) ≡ Some (record { shake = (h.core).shake; owed = []; own = r })
