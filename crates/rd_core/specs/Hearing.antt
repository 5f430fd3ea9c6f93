-- How an end of a channel hears a message (MS-RDPEFS 3.2.5, 3.3.5), as both sides do it.
use Rattle.std.specs.Prelude.{◌≡◌, ◌≤◌, ◌==◌, Bool, if◌then◌else◌, ℕ, List, ◌++◌, map, Option, Some, None, IsTrue, Result, Ok, Err}
use Rattle.std.specs.List.{list_any}
use Rattle.std.specs.Option.{option_to_list}
use Rattle.rd_base.specs.declared.bad.Bad.{Bad}
use Rattle.rd_base.specs.declared.packet.Packet.{Packet}
use Rattle.rd_base.specs.Header.{any_header, packet_id}
use Rattle.rd_base.specs.Layout.{met}
use Rattle.rd_base.specs.Position.{Position, at_start}
use Rattle.rd_hello.specs.declared.end_fault.EndFault.{EndFault}
use Rattle.rd_hello.specs.declared.end_fault.EndFault.TheVariants.{Order, Grammar, Memory}
use Rattle.rd_hello.specs.declared.hello.Hello.{Hello}
use Rattle.rd_hello.specs.Hello.{hello, hello_bytes, hellos}
use Rattle.rd_hello.specs.Moves.{packet_in}
use Rattle.rd_hello.specs.Rows.{OrderRow}
use Rattle.rd_core.specs.Core.{CoreState}

-- A side: the states of its opening are of the type S, what waits to be sent of the type M, and what a message says that isn't of the opening of the type A.
pub record Side (S M A : Type 0) : Type 0 where
  -- the number of a state, and the packets that are read in it
  pub number : S → ℕ
  pub reads_in : S → List Packet
  -- the row of the table for a message of the opening in a state
  pub row : S → Hello → Option (OrderRow S)
  -- a message of the opening, as it waits to be sent
  pub outgoing : List ℕ → M
  -- what a message of any other packet says, or its first fault
  pub own : Packet → List ℕ → Result A Bad
  -- the place of a packet's message, in bytes from its first, at which memory is asked for first, where it is at all
  pub asks_at : Packet → Option ℕ

-- What a message says to an end in a state: it is wrong; it says nothing; it is of the opening and has this row; or it says something else.
pub data Meaning (S A : Type 0) : Type 0 where
  wrong : EndFault → Meaning S A
  nothing : Meaning S A
  opens : OrderRow S → Meaning S A
  says : A → Meaning S A

-- what is read, as what it says
abbrev pub read_as : {X A : Type 0} → (X × Position → A) → Result (X × Position) Bad → Result A Bad
read_as f (Ok read) = Ok (f read)
read_as f (Err bad) = Err bad

-- whether a packet is one of these
abbrev pub is_one_of : List Packet → Packet → Bool
is_one_of wanted p = list_any (λ q. packet_id q == packet_id p) wanted

-- whether it is one of those that open a channel
abbrev pub is_hello : Packet → Bool
is_hello p = is_one_of hellos p

-- the messages that a row writes
abbrev pub messages_of : {S : Type 0} → OrderRow S → List (List ℕ)
messages_of row = map hello_bytes (option_to_list row.first ++ option_to_list row.second)

module _ {S M A : Type 0} (side : Side S M A) where
  abbrev pub is_read_in : S → Packet → Bool
  is_read_in state p = is_one_of (side.reads_in state) p

  -- ---- what a message says

  -- a message of the opening for which the table has no row says nothing
  abbrev pub by_row : Option (OrderRow S) → Meaning S A
  by_row None = nothing
  by_row (Some row) = opens row

  abbrev pub from_hello : S → Result (Hello × Position) Bad → Meaning S A
  from_hello state (Err bad) = wrong (Grammar bad)
  from_hello state (Ok read) = by_row (side.row state read.0)

  abbrev pub from_own : Result A Bad → Meaning S A
  from_own (Err bad) = wrong (Grammar bad)
  from_own (Ok a) = says a

  -- what a message of a packet says that is read
  abbrev pub from_packet : S → Packet → List ℕ → Meaning S A
  from_packet state p bytes = if is_hello p then from_hello state (met hello (at_start bytes)) else from_own (side.own p bytes)

  -- the same of any packet: one that isn't read in the state is out of order
  abbrev pub from_known : S → List ℕ → Packet → Meaning S A
  from_known state bytes p = if is_read_in state p then from_packet state p bytes else wrong (Order (side.number state) (packet_id p))

  abbrev pub from_header : S → List ℕ → Result (Option Packet × Position) Bad → Meaning S A
  from_header state bytes (Err bad) = wrong (Grammar bad)
  from_header state bytes (Ok (None, rest)) = nothing
  from_header state bytes (Ok (Some p, rest)) = from_known state bytes p

  -- What a message says in a state: its header is read first, then its packet is looked for among those of the state, and then the rest is read.
  abbrev pub said : S → List ℕ → Meaning S A
  said state bytes = from_header state bytes (met any_header (at_start bytes))

  -- ---- what comes of it

  -- a row leads to its state, and its messages are to be sent
  abbrev pub after_row : CoreState S M → OrderRow S → CoreState S M
  after_row e row = record e { shake = row.next; outbox = e.outbox ++ map side.outgoing (messages_of row) }

  -- the channel has a fault from now on
  abbrev pub faulty : CoreState S M → EndFault → CoreState S M
  faulty e fault = record e { fault = Some fault }

  abbrev pub hear_said : CoreState S M → Meaning S A → CoreState S M × Result (Option A) EndFault
  hear_said e (wrong fault) = (faulty e fault, Err fault)
  hear_said e nothing = (e, Ok None)
  hear_said e (opens row) = (after_row e row, Ok None)
  hear_said e (says a) = (e, Ok (Some a))

  -- after a message that is wrong none is heard
  abbrev pub hear_unless : CoreState S M → List ℕ → Option EndFault → CoreState S M × Result (Option A) EndFault
  hear_unless e bytes (Some fault) = (e, Err fault)
  hear_unless e bytes None = hear_said e (said e.shake bytes)

  -- A message of the other side is heard: what is left of the end, and the fault, or what the message says that isn't of the opening.
  abbrev pub hear : CoreState S M → List ℕ → CoreState S M × Result (Option A) EndFault
  hear e bytes = hear_unless e bytes e.fault

  -- ---- want of memory

  -- nothing is wrong with a message before a place of it
  abbrev pub IsSoundTo : ℕ → Meaning S A → Type 0
  IsSoundTo place (wrong (Grammar bad)) = place ≤ bad.at
  IsSoundTo place _ = Unit {0}

  -- Memory may be wanting while a message is heard: none before it was wrong, it has the header of a packet that is read in the state, and nothing is wrong
  -- with it before the place at which memory is asked for. What stands after that may be wrong all the same.
  pub record MayLack (e : CoreState S M) (bytes : List ℕ) : Type 0 where
    pub sound : e.fault ≡ None
    pub packet : Packet
    pub named : packet_in bytes ≡ Some packet
    pub read : IsTrue (is_read_in e.shake packet)
    pub place : ℕ
    pub asks : side.asks_at packet ≡ Some place
    pub none_before : IsSoundTo place (said e.shake bytes)

  -- A side with states of the type T, each with an end, heard a message: the state before it, the answer, and the state after it. Where memory is wanting
  -- nothing changes.
  abbrev pub Hears : {T R : Type 0} → (T → CoreState S M) → (T → List ℕ → T × Result R EndFault) → T → List ℕ → Result R EndFault → T → Type 0
  Hears end_of hears old bytes (Err Memory) new = MayLack (end_of old) bytes × (new ≡ old)
  Hears end_of hears old bytes answer new = hears old bytes ≡ (new, answer)
