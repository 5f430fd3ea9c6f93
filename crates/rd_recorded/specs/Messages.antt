-- What a message says on the channel that is open: it is heard, or has a fault.
use Rattle.std.specs.Prelude.{if◌then◌else◌, ℕ, List, [], ◌∷◌, ◌++◌, length, drop, map, slice_get, slice_set, Option, Some, None, Result, Ok, Err}
use Rattle.std.specs.Option.{option_map_or}
use Rattle.rd_base.specs.declared.bad.Why.TheVariants as why
use Rattle.rd_base.specs.declared.packet.Packet.{Packet}
use Rattle.rd_base.specs.declared.packet.Packet.TheVariants as packet
use Rattle.rd_base.specs.Position.{at_start}
use Rattle.rd_base.specs.Layout.{met}
use Rattle.rd_base.specs.Header.{any_header}
use Rattle.rd_devices.specs.declared.list.Announce.{Announce}
use Rattle.rd_devices.specs.DeviceList.{device_list}
use Rattle.rd_devices.specs.Removal.{removal}
use Rattle.rd_irp.specs.declared.completion.Head.{Head}
use Rattle.rd_irp.specs.declared.completion.Kind.{Kind}
use Rattle.rd_irp.specs.declared.completion.Kind.TheVariants as kind
use Rattle.rd_irp.specs.Completion.{completion_head, completion_body}
use Rattle.rd_irp.specs.Fits.{kind_of_major}
use Rattle.rd_irp.specs.Measure.{measure_of, tail_of}
use Rattle.rd_decode.specs.declared.side.Side.{Side}
use Rattle.rd_decode.specs.declared.fault.FaultWhy.TheVariants as fault
use Rattle.rd_decode.specs.declared.fault.EntryFault.{EntryFault}
use Rattle.rd_decode.specs.Awaited.{with_awaited}
use Rattle.rd_decode.specs.Lines.{may_send}
use Rattle.rd_decode.specs.Messages.{in_frame, plain_tail, unless_bad}
use Rattle.rd_recorded.specs.Channels.{HeardRequest, Open, ClientSaid, announces, completes, removes}

-- the client says something more
abbrev pub saying : ℕ → ClientSaid → Open → Open
saying entry said o = record o { sayings = o.sayings ++ record { entry = entry; said = said } ∷ [] }

-- A request. From now on its completion is still to come.
abbrev pub heard_request : ℕ → List ℕ → Open → Result Open EntryFault
heard_request entry message o = unless_bad (measure_of message) (λ read.
    let head = read.0 in
    let asked : HeardRequest = record { entry = entry; device = head.device; kind = kind_of_major head.major; message = message; completion = None } in
    let queue = o.awaited head.device head.completion ++ length o.requests ∷ [] in
    Ok (record o { requests = o.requests ++ asked ∷ []; awaited = with_awaited head.device head.completion queue o.awaited }))

-- the layout of the completion of the request with an index
abbrev pub asked_kind : ℕ → List HeardRequest → Kind
asked_kind index requests = option_map_or (λ (a : HeardRequest). a.kind) (slice_get requests index) kind.Buffer

-- the request with an index has its completion at this place
abbrev pub with_completion : ℕ → ℕ → List HeardRequest → List HeardRequest
with_completion index place requests = option_map_or (λ (a : HeardRequest). slice_set requests index (record a { completion = Some place })) (slice_get requests index) requests

-- A completion with this head, where the requests of its pair with these indices still await theirs: it is that of the first of them, or of none.
abbrev pub heard_of : ℕ → List ℕ → Head → Open → List ℕ → Result Open EntryFault
heard_of entry message head o [] = Ok (saying entry (completes None message) o)
heard_of entry message head o (index ∷ others) = unless_bad (tail_of (completion_body (asked_kind index o.requests) head.status) (drop 16 message)) (λ tail.
    Ok (saying entry (completes (Some index) message) (record o
    { requests = with_completion index (length o.sayings) o.requests; awaited = with_awaited head.device head.completion others o.awaited })))

-- a completion: of the first request of its pair that has none yet, or of none
abbrev pub heard_completion : ℕ → List ℕ → Open → Result Open EntryFault
heard_completion entry message o = unless_bad (met completion_head (at_start message)) (λ read. heard_of entry message read.0 o (o.awaited (read.0).device (read.0).completion))

-- devices are announced, or gone
abbrev pub heard_list : ℕ → List ℕ → Open → Result Open EntryFault
heard_list entry message o = unless_bad (met device_list (at_start message)) (λ read. Ok (saying entry (announces (map (λ (a : Announce). a.id) read.0)) o))

abbrev pub heard_removal : ℕ → List ℕ → Open → Result Open EntryFault
heard_removal entry message o = unless_bad (met removal (at_start message)) (λ read. Ok (saying entry (removes read.0) o))

-- a message of this packet; of those that say nothing of requests and devices nothing is kept
abbrev pub heard_packet : Packet → ℕ → List ℕ → Open → Result Open EntryFault
heard_packet packet.IoRequest entry message o = heard_request entry message o
heard_packet packet.IoCompletion entry message o = heard_completion entry message o
heard_packet packet.DeviceListAnnounce entry message o = heard_list entry message o
heard_packet packet.DeviceListRemove entry message o = heard_removal entry message o
heard_packet p entry message o = unless_bad (plain_tail p message) (λ tail. Ok o)

-- a message of a packet that this side sends; any other packet is a fault at the entry
abbrev pub heard_sent : ℕ → Side → List ℕ → Open → Option Packet → Result Open EntryFault
heard_sent entry side message o (Some p) = if may_send side p then heard_packet p entry message o else Err (record { offset = 0; why = fault.Field why.Value })
heard_sent entry side message o None = in_frame (fault.Field why.Packet)

-- A message of a side, which this entry ended. A header always names some packet.
abbrev pub message_heard : ℕ → Side → List ℕ → Open → Result Open EntryFault
message_heard entry side message o = unless_bad (met any_header (at_start message)) (λ read. heard_sent entry side message o read.0)
