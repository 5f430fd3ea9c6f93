-- The order of a client's messages on a channel (MS-RDPEFS 3.2.5), said of what it reads and what it writes.
use Rattle.std.specs.List.{list_any}
use Rattle.std.specs.Prelude.{ℕ, ◌==◌, ◌&&◌, ◌||◌, Bool, true, false, not, if◌then◌else◌, List, [], ◌∷◌, ◌++◌, map, filter, Option, Some, None, IsSome, bytes_eq, is_ok, Result, Ok, Err}
use Rattle.std.specs.Option.{option_map}
use Rattle.rd_base.specs.declared.bad.Bad.{Bad}
use Rattle.rd_base.specs.Layout.{met}
use Rattle.rd_base.specs.Position.{Position, at_start}
use Rattle.rd_core.specs.Order as order
use Rattle.rd_core.specs.Order.{OrderPart}
use Rattle.rd_devices.specs.declared.list.Announce.{Announce}
use Rattle.rd_devices.specs.DeviceList.{device_list}
use Rattle.rd_devices.specs.Removal.{removal}
use Rattle.rd_hello.specs.declared.client.ClientState.{ClientState}
use Rattle.rd_hello.specs.declared.client.ClientState.TheVariants.{Start, Ready}
use Rattle.rd_hello.specs.Moves.{Move}
use Rattle.rd_irp.specs.Completion.{completion_head}
use Rattle.rd_client.specs.Core.{HostSays, becomes_ready, client_side, may_be_asked}

-- the client's part: whether it has to announce its devices, and the ids of those that it announced and didn't remove since
pub record ClientTelling : Type 0 where
  pub lists : Bool
  pub told : List ℕ

abbrev pub ClientStanding : Type 0
ClientStanding = order.Stand ClientState ClientTelling

abbrev pub client_at_first : ClientStanding
client_at_first = record { shake = Start; owed = []; own = record { lists = false; told = [] } }

-- whether a device is announced as it is, whatever its data
abbrev pub is_same : Announce → Announce → Bool
is_same own a = own.id == a.id && (own.kind == a.kind && bytes_eq own.dos a.dos)

-- whether it is one of these
abbrev pub is_own_device : List Announce → Announce → Bool
is_own_device devices a = list_any (λ own. is_same own a) devices

-- whether just these are announced, in order
abbrev pub are_all : List Announce → List Announce → Bool
are_all [] [] = true
are_all (own ∷ devices) (a ∷ announced) = is_same own a && are_all devices announced
are_all _ _ = false

-- the devices that the first list has: those that aren't gone
abbrev pub first_listed : List Announce → (ℕ → Bool) → List Announce
first_listed devices gone = filter (λ (a : Announce). not (gone a.id)) devices

-- after an announcement of devices, each of which is the client's and isn't announced already
abbrev pub with_all : List Announce → List ℕ → List Announce → Option (List ℕ)
with_all devices told [] = Some told
with_all devices told (a ∷ others) =
    if is_own_device devices a && not (list_any (λ id. id == a.id) told) then with_all devices (told ++ a.id ∷ []) others else None

-- after a removal of devices, each of which is announced
abbrev pub without_all : List ℕ → List ℕ → Option (List ℕ)
without_all told [] = Some told
without_all told (device ∷ others) =
    if list_any (λ id. id == device) told then without_all (filter (λ id. not (id == device)) told) others else None

abbrev pub is_client_ready : ClientState → Bool
is_client_ready Ready = true
is_client_ready _ = false

-- what a message of this layout says, if it is one
abbrev pub value_of : {A : Type 0} → Result (A × Position) Bad → Option A
value_of (Ok read) = Some read.0
value_of (Err bad) = None

-- the devices that a message announces, and those that it removes, if it is such a message
abbrev pub list_in : List ℕ → Option (List Announce)
list_in bytes = value_of (met device_list (at_start bytes))

abbrev pub removal_in : List ℕ → Option (List ℕ)
removal_in bytes = value_of (met removal (at_start bytes))

-- the client has announced its devices, and these are the ones that are told of
abbrev pub telling : List ℕ → ClientTelling
telling ids = record { lists = false; told = ids }

-- the client's devices, and which of them are gone when the channel begins
module _ (devices : List Announce) (gone : ℕ → Bool) where
  -- A list is written: the first, which has all that aren't gone, or a further one.
  abbrev pub after_list : ClientTelling → List Announce → Option ClientTelling
  after_list t announced =
      if t.lists then (if are_all (first_listed devices gone) announced then Some (telling (map (λ (a : Announce). a.id) announced)) else None)
      else option_map telling (with_all devices t.told announced)

  -- A removal is written, after the first list.
  abbrev pub after_removal : ClientTelling → List ℕ → Option ClientTelling
  after_removal t ids = if t.lists then None else option_map telling (without_all t.told ids)

  abbrev pub after_telling : ClientTelling → Option (List Announce) → Option (List ℕ) → Option ClientTelling
  after_telling t (Some announced) removed = after_list t announced
  after_telling t None (Some ids) = after_removal t ids
  after_telling t None None = None

  -- What a client writes of itself: completions as soon as it may be asked, and once it is ready lists and removals.
  abbrev pub after_own : ClientState → List ℕ → ClientTelling → Option ClientTelling
  after_own state bytes t =
      if may_be_asked state && is_ok (met completion_head (at_start bytes)) then Some t
      else (if not (is_client_ready state) then None
      else after_telling t (list_in bytes) (removal_in bytes))

  -- Where the client becomes ready it has to announce its devices; what the host asks of it changes nothing.
  abbrev pub client_part : OrderPart ClientState HostSays ClientTelling
  client_part = record {
    opened = λ state next t. record t { lists = t.lists || becomes_ready state next };
    read = λ says t. t;
    written = after_own;
  }

  -- after the reading of a message, and after moves, if they are in order
  abbrev pub after_read : ClientStanding → List ℕ → Option ClientStanding
  after_read s bytes = order.after_read client_side client_part s bytes

  abbrev pub stand_after : ClientStanding → List Move → Option ClientStanding
  stand_after s moves = order.stand_after client_side client_part s moves

  -- The moves of a client on a channel, the oldest first, are in order.
  abbrev pub ClientOrder : List Move → Type 0
  ClientOrder moves = IsSome (stand_after client_at_first moves)
