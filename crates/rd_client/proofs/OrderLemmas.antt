-- What is done at a client's end on a channel is in order.
use Rattle.std.proofs.Common.{◌≡◌, ◌∙◌, refl, sym, ap, subst, ℕ, ◌+◌, ◌<◌, ◌≤◌, ◌^◌, Bool, true, false, List, [], ◌∷◌, ◌++◌, Some, None, Option, length, arith, eqb-true, inl, inr}
use Rattle.std.specs.Prelude.{◌||◌, IsSome, IsTrue, Result, Ok, Err, filter, if◌then◌else◌, is_ok, map, not, ◌==◌}
use Rattle.std.specs.List.{AllByRecursion, flat_map, list_any}
use Rattle.std.specs.Option.{option_and_then}
use Rattle.std.proofs.lemmas.List.Sums.{count_by-le-length, length-filter}
use Rattle.std.proofs.lemmas.List.{length-map}
use Rattle.std.proofs.lemmas.List.Elements.{recursion_from_All}
use Rattle.std.proofs.lemmas.List.Concat.{flat_map-cons}
use Rattle.rd_base.specs.declared.status.Status.{Status}
use Rattle.rd_base.specs.Layout.{met}
use Rattle.rd_base.specs.Limits.{max_devices}
use Rattle.rd_base.specs.Position.{at_start}
use Rattle.rd_chunk.specs.Carrier.{IsMessage}
use Rattle.rd_core.specs.Core.{Did, send_from}
use Rattle.rd_core.specs.Hearing as hearing
use Rattle.rd_core.specs.Hearing.{Meaning, messages_of, nothing, opens, says, wrong}
use Rattle.rd_core.specs.Order as order
use Rattle.rd_core.specs.Order.{IsStand, OrderPart, after_opened, written_after}
use Rattle.rd_core.proofs.KeptLemmas.{IsTabled, said_tabled}
use Rattle.rd_core.proofs.OrderLemmas.{KeepsOwn, all_written, first_written, own_waits, read_as_heard, row_waits, stand_onward, written_past}
use Rattle.rd_devices.specs.declared.list.Announce.{Announce}
use Rattle.rd_devices.specs.DeviceList.{HasCountableBody, list_bytes}
use Rattle.rd_devices.specs.Removal.{removal_bytes}
use Rattle.rd_drive.specs.declared.plan.Job.{Job}
use Rattle.rd_hello.specs.declared.client.ClientState.{ClientState}
use Rattle.rd_hello.specs.declared.client.ClientState.TheVariants.{Confirmed, Named, Offered, Ready, Start, Waiting}
use Rattle.rd_hello.specs.declared.end_fault.EndFault.{EndFault}
use Rattle.rd_hello.specs.declared.end_fault.EndFault.TheVariants.{Memory}
use Rattle.rd_hello.specs.declared.hello.Hello.{Hello}
use Rattle.rd_hello.specs.declared.hello.Hello.TheVariants.{Announce as Announced, Confirm, LoggedOn, ServerCaps}
use Rattle.rd_hello.specs.ClientTable.{after_sets, client_step}
use Rattle.rd_hello.specs.Moves.{Move, reads, writes}
use Rattle.rd_hello.specs.Own.{tell_log_on}
use Rattle.rd_hello.specs.Rows.{OrderRow}
use Rattle.rd_irp.specs.Completion.{completion_head}
use Rattle.rd_irp.specs.Fits.{kind_of}
use Rattle.rd_client.specs.declared.heard.Heard.{Heard}
use Rattle.rd_client.specs.Core.{AreDevices, ClientCall, ClientCoreState, ClientDevice, ClientStep, HostSays, KeepsClientChannel, MayTellAdded, MayTellRemoved, Outgoing, announce_in, announces, becomes_ready, begins, client_begin, client_hear, client_hear_made, client_opened, client_side, device_marked, direct, direct_bytes, directs, hear_says, hears, is_device, is_gone, is_present, listed, listed_one, may_be_asked, notices, plain, refresh, refreshed, refreshes, replies, requests, sends, tell_added, tell_removed, tells_added, tells_removed, with_mark, with_outgoing}
use Rattle.rd_client.specs.Order.{ClientOrder, ClientStanding, ClientTelling, after_own, after_read, client_at_first, client_part, is_client_ready, is_own_device, stand_after, telling}
use Rattle.rd_client.specs.Events.{AreWritable, ClientEvent, ClientEvents, IsTold, IsWritableDevice, MayComplete, ClientStandsAt, ClientEventStep, calls, completes, client_event_moves, client_call_moves, untold, waiting_messages, client_waiting_moves, without_data}
use Rattle.rd_client.proofs.KeptLemmas.{same_announces, some_list_fits}
use Rattle.rd_client.proofs.ListingLemmas.{list_countable}
use Rattle.rd_client.proofs.OwnLemmas.{completion_met, own_addition, own_completion, own_first_list, own_removal}
use Rattle.rd_client.proofs.TellingLemmas.{added_told, each_refreshed, first_is, gone_are, is_told, listed_told, one_gone, own_are, refreshed_same, removed_told, there_told, writable_same}

-- a message as it is sent
abbrev message_of : Outgoing → List ℕ
message_of o = o.message

-- ---- messages of the client's own, and the rows of the opening

module _ (devices : List Announce) (gone : ℕ → Bool) where
  abbrev part : OrderPart ClientState HostSays ClientTelling
  part = client_part devices gone

  -- as a row leaves what is told
  abbrev opened_by : ClientState → ClientState → ClientTelling → ClientTelling
  opened_by state next t = record t { lists = t.lists || becomes_ready state next }

  -- before a request may come none waits
  early_own : (state : ClientState) → may_be_asked state ≡ false → is_client_ready state ≡ false → (own : List (List ℕ)) (p q : ClientTelling)
      → written_after part state own p ≡ Some q → (own ≡ []) × (p ≡ q)
  early_own state asked ready [] p q e = let same : p ≡ q = cc in (refl, same)
  early_own state asked ready (message ∷ own) p q e =
      let none : after_own devices gone state message p ≡ None = rw (asked, ready) refl in
      let never : ◌≡◌ {A = Option ClientTelling} None (Some q) =
      ap (λ (o : Option ClientTelling). option_and_then (λ (x : ClientTelling). written_after part state own x) o) (sym none) ∙ e in
      absurd cc

  -- while the client waits for the log-on only completions do, which may be written once it is ready as well
  waiting_own : (own : List (List ℕ)) (p q : ClientTelling) → written_after part Waiting own p ≡ Some q → (p ≡ q) × ((x : ClientTelling) → written_after part Ready own x ≡ Some x)
  waiting_own [] p q e = let same : p ≡ q = cc in (same, λ x. refl)
  waiting_own (message ∷ own) p q e = go (is_ok (met completion_head (at_start message))) refl e (λ later. waiting_own own p q later)
    where
      go : (b : Bool) → is_ok (met completion_head (at_start message)) ≡ b
          → option_and_then (λ (x : ClientTelling). written_after part Waiting own x) (if b then Some p else None) ≡ Some q
          → (written_after part Waiting own p ≡ Some q → (p ≡ q) × ((x : ClientTelling) → written_after part Ready own x ≡ Some x))
          → (p ≡ q) × ((x : ClientTelling) → written_after part Ready (message ∷ own) x ≡ Some x)
      go true is e later =
          let rest = later e in (
            rest.0,
            λ x. ap (λ (o : Option ClientTelling). option_and_then (λ (y : ClientTelling). written_after part Ready own y) o)
                (own_completion devices gone Ready message x refl is) ∙ rest.1 x,
          )
      go false is e later = absurd cc

  -- what is told after a row that leads to another state
  abbrev TellsOn : Bool → ClientState → ClientState → ClientTelling → List ClientDevice → Type 0
  TellsOn true state next t ds = (next ≡ Ready) × IsTold devices gone false t ds
  TellsOn false state next t ds = IsTold devices gone (is_client_ready next) (opened_by state next t) ds

  record RowGoes (state : ClientState) (row : OrderRow ClientState) : Type 0 where
    keeps : KeepsOwn client_side part state row
    told : (t : ClientTelling) (ds : List ClientDevice) → IsTold devices gone (is_client_ready state) t ds → TellsOn (becomes_ready state row.next) state row.next t ds

  ready_is : (state : ClientState) → is_client_ready state ≡ true → state ≡ Ready
  ready_is Start e = absurd cc
  ready_is Named e = absurd cc
  ready_is Confirmed e = absurd cc
  ready_is (Offered tells) e = absurd cc
  ready_is Waiting e = absurd cc
  ready_is Ready e = refl

  early_goes : (state : ClientState) (row : OrderRow ClientState) → may_be_asked state ≡ false → is_client_ready state ≡ false
      → becomes_ready state row.next ≡ is_client_ready row.next → RowGoes state row
  early_goes state row asked ready becomes = record {
    keeps = record {
      later = λ own p q e. let none = early_own state asked ready own p q e in rw (none.0, none.1) refl;
      quiet = λ own p q e. inl (early_own state asked ready own p q e).0;
    };
    told = λ t ds told. go t ds (is_client_ready row.next) refl (subst (λ (b : Bool). IsTold devices gone b t ds) ready told);
  }
    where
      go : (t : ClientTelling) (ds : List ClientDevice) (b : Bool) → is_client_ready row.next ≡ b → IsTold devices gone false t ds
          → TellsOn (becomes_ready state row.next) state row.next t ds
      go t ds true is told = subst (λ (b : Bool). TellsOn b state row.next t ds) (sym (becomes ∙ is)) (ready_is row.next is, told)
      go t ds false is told =
          let none : becomes_ready state row.next ≡ false = becomes ∙ is in
          let same : opened_by state row.next t ≡ untold = ap (λ (x : ClientTelling). opened_by state row.next x) told.0 ∙ ap (λ (b : Bool). record untold { lists = b }) none in
          let after : IsTold devices gone (is_client_ready row.next) (opened_by state row.next t) ds =
          subst (λ (b : Bool). IsTold devices gone b (opened_by state row.next t) ds) (sym is) (same, told.1) in
          subst (λ (b : Bool). TellsOn b state row.next t ds) (sym none) after

  sets_become : (tells : Bool) → becomes_ready Confirmed (after_sets tells) ≡ is_client_ready (after_sets tells)
  sets_become true = refl
  sets_become false = refl

  confirm_becomes : (told tells : Bool) → becomes_ready (Offered told) (after_sets tells) ≡ is_client_ready (after_sets tells)
  confirm_becomes told true = refl
  confirm_becomes told false = refl

  waiting_goes : RowGoes Waiting (record { first = None; second = None; next = Ready })
  waiting_goes = record {
    keeps = record {
      later = λ own p q e. let w = waiting_own own p q e in w.1 (opened_by Waiting Ready p) ∙ ap (λ (x : ClientTelling). Some (opened_by Waiting Ready x)) w.0;
      quiet = λ own p q e. inr refl;
    };
    told = λ t ds told. (refl, told);
  }

  or_false : (b : Bool) → (b || false) ≡ b
  or_false true = refl
  or_false false = refl

  ready_same : (t : ClientTelling) → opened_by Ready Ready t ≡ t
  ready_same t = ap (λ (b : Bool). record t { lists = b }) (or_false t.lists)

  ready_goes : RowGoes Ready (record { first = None; second = None; next = Ready })
  ready_goes = record {
    keeps = record {
      later = λ own p q e. ap (λ (x : ClientTelling). written_after part Ready own x) (ready_same p) ∙ e ∙ ap (λ (x : ClientTelling). Some x) (sym (ready_same q));
      quiet = λ own p q e. inr refl;
    };
    told = λ t ds told. subst (λ (x : ClientTelling). IsTold devices gone true x ds) (sym (ready_same t)) told;
  }

  abbrev OptionGoes : ClientState → Option (OrderRow ClientState) → Type 0
  OptionGoes state None = Unit {0}
  OptionGoes state (Some row) = RowGoes state row

  row_goes : (state : ClientState) (h : Hello) → OptionGoes state (client_step state h)
  row_goes Start (Announced v) = early_goes Start _ refl refl refl
  row_goes Named (Confirm v) = early_goes Named _ refl refl refl
  row_goes Named (ServerCaps caps) = early_goes Named _ refl refl refl
  row_goes Confirmed (ServerCaps caps) = early_goes Confirmed _ refl refl (sets_become (tell_log_on caps))
  row_goes (Offered tells) (Confirm v) = early_goes (Offered tells) _ refl refl (confirm_becomes tells tells)
  row_goes Waiting LoggedOn = waiting_goes
  row_goes Ready LoggedOn = ready_goes
  row_goes _ _ = tt

  -- ---- what is heard

  -- a client's messages, with more of them
  messages_more : (os : List Outgoing) (messages : List (List ℕ)) → map message_of (os ++ map plain messages) ≡ map message_of os ++ messages
  messages_more [] [] = refl
  messages_more [] (m ∷ messages) = ap (λ (ms : List (List ℕ)). m ∷ ms) (messages_more [] messages)
  messages_more (o ∷ os) messages = ap (λ (ms : List (List ℕ)). o.message ∷ ms) (messages_more os messages)

  one_message_more : (os : List Outgoing) (o : Outgoing) → map message_of (os ++ o ∷ []) ≡ map message_of os ++ o.message ∷ []
  one_message_more [] o = refl
  one_message_more (first ∷ os) o = ap (λ (ms : List (List ℕ)). first.message ∷ ms) (one_message_more os o)

  -- some of the devices can be written as a list
  few_of : (p : ClientDevice → Bool) (ds : List ClientDevice) → length (map announce_in (filter p ds)) ≤ length (map announce_in ds)
  few_of p ds = omega (arith, length-map (filter p ds) announce_in, length-map ds announce_in, length-filter p ds, count_by-le-length p ds)

  writable_of : (p : ClientDevice → Bool) (ds : List ClientDevice) → AllByRecursion IsWritableDevice (map announce_in ds)
      → AllByRecursion IsWritableDevice (map announce_in (filter p ds))
  writable_of p [] all = tt
  writable_of p (d ∷ ds) all = go (p d) refl (writable_of p ds all.1)
    where
      go : (b : Bool) → p d ≡ b → AllByRecursion IsWritableDevice (map announce_in (filter p ds)) → AllByRecursion IsWritableDevice (map announce_in (filter p (d ∷ ds)))
      go true e rest = rw e (all.0, rest)
      go false e rest = rw e rest

  own_writable : (s : ClientStanding) (c : ClientCoreState) → ClientStandsAt devices gone s c → AllByRecursion IsWritableDevice (announces c)
  own_writable s c at = writable_same (announces c) devices at.same (recursion_from_All IsWritableDevice devices at.writable)

  -- by a row of the opening
  module _ (s : ClientStanding) (c : ClientCoreState) (row : OrderRow ClientState) (at : ClientStandsAt devices gone s c) (goes : RowGoes (c.core).shake row) where
    abbrev state : ClientState
    state = (c.core).shake

    abbrev next : ClientCoreState
    next = record c { core = hearing.after_row client_side c.core row }

    abbrev after : ClientTelling
    after = opened_by state row.next at.telling

    -- just the devices of the list are told of
    abbrev listing : ClientTelling
    listing = telling (map (λ (a : Announce). a.id) (listed c))

    base : IsStand part (after_opened client_side part s row) row.next (waiting_messages next) after
    base = subst (λ (ms : List (List ℕ)). IsStand part (after_opened client_side part s row) row.next ms after) (sym (messages_more (c.core).outbox (messages_of row)))
        (row_waits client_side part s state row (waiting_messages c) at.telling goes.keeps at.stand)

    list_waits : (told : TellsOn true state row.next at.telling c.devices) → becomes_ready state row.next ≡ true
        → ClientStandsAt devices gone (after_opened client_side part s row) (with_outgoing next (plain (list_bytes (listed c))))
    list_waits told becomes =
        let few : length (listed c) ≤ max_devices = omega (arith, few_of is_present c.devices, at.are.few) in
        let fits : IsMessage (list_bytes (listed c)) = some_list_fits is_present c.devices at.are in
        let lists : after.lists ≡ true = ap (λ (b : Bool). (at.telling).lists || b) becomes ∙ ap (λ (t : ClientTelling). t.lists || true) told.1.0 in
        let writable = writable_of is_present c.devices (own_writable s c at) in
        let all = first_is gone devices c.devices at.same told.1.1 in
        let own = own_first_list devices gone after (listed c) few writable (list_countable (listed c) fits) lists all in
        let ready : is_client_ready row.next ≡ true = ap is_client_ready told.0 in
        let there : after_own devices gone row.next (list_bytes (listed c)) after ≡ Some listing =
        ap (λ (x : ClientState). after_own devices gone x (list_bytes (listed c)) after) told.0 ∙ own in record {
          telling = listing;
          stand = subst (λ (ms : List (List ℕ)). IsStand part (after_opened client_side part s row) row.next ms listing)
              (sym (one_message_more (next.core).outbox (plain (list_bytes (listed c)))))
              (own_waits client_side part (after_opened client_side part s row) row.next (waiting_messages next) (list_bytes (listed c)) after listing base there);
          told = subst (λ (b : Bool). IsTold devices gone b listing c.devices) (sym ready) (refl, listed_told c.devices at.are.apart);
          same = at.same;
          are = at.are;
          writable = at.writable;
        }

    opened_if : (b : Bool) → becomes_ready state row.next ≡ b
        → ClientStandsAt devices gone (after_opened client_side part s row) (if b then with_outgoing next (plain (list_bytes (listed c))) else next)
    opened_if true becomes = list_waits (subst (λ (b : Bool). TellsOn b state row.next at.telling c.devices) becomes (goes.told at.telling c.devices at.told)) becomes
    opened_if false becomes = record {
      telling = after;
      stand = base;
      told = subst (λ (b : Bool). TellsOn b state row.next at.telling c.devices) becomes (goes.told at.telling c.devices at.told);
      same = at.same;
      are = at.are;
      writable = at.writable;
    }

    opened_stands : ClientStandsAt devices gone (after_opened client_side part s row) (client_opened c (hearing.after_row client_side c.core row))
    opened_stands = opened_if (becomes_ready state row.next) refl

  -- ---- an event

  -- where the client stands after moves that are in order
  record Stood (s : ClientStanding) (moves : List Move) (c : ClientCoreState) : Type 0 where
    after : ClientStanding
    is : stand_after devices gone s moves ≡ Some after
    at : ClientStandsAt devices gone after c

  -- nothing is read or written
  still : (s : ClientStanding) (c : ClientCoreState) → ClientStandsAt devices gone s c → Stood s [] c
  still s c at = record { after = s; is = refl; at = at }

  -- a message is read
  read_one : (s t : ClientStanding) (c : ClientCoreState) (bytes : List ℕ) → after_read devices gone s bytes ≡ Some t → ClientStandsAt devices gone t c → Stood s (reads bytes ∷ []) c
  read_one s t c bytes is at = record { after = t; is = ap (λ (o : Option ClientStanding). option_and_then (λ (x : ClientStanding). stand_after devices gone x []) o) is; at = at }

  -- what the outbox, the state and the devices are alone matters
  alike : (s : ClientStanding) (c : ClientCoreState) (fault : Option EndFault) (channel asked : ℕ) → ClientStandsAt devices gone s c
      → ClientStandsAt devices gone s (record c { core = record c.core { fault = fault }; channel = channel; asked = asked })
  alike s c fault channel asked at = record { telling = at.telling; stand = at.stand; told = at.told; same = at.same; are = at.are; writable = at.writable }

  -- a state leads to itself without becoming ready
  becomes_itself : (state : ClientState) → becomes_ready state state ≡ false
  becomes_itself Start = refl
  becomes_itself Named = refl
  becomes_itself Confirmed = refl
  becomes_itself (Offered tells) = refl
  becomes_itself Waiting = refl
  becomes_itself Ready = refl

  opens_none : (c : ClientCoreState) → client_opened c c.core ≡ c
  opens_none c = ap (λ (b : Bool). if b then with_outgoing c (plain (list_bytes (listed c))) else c) (becomes_itself (c.core).shake)

  -- a fault is no other answer
  no_fault : (c d : ClientCoreState) (fault : EndFault) (answer : Heard) → ◌≡◌ {A = ClientCoreState × Result Heard EndFault} (c, Err fault) (d, Ok answer) → ⊥
  no_fault c d fault answer e =
      let same : ◌≡◌ {A = Result Heard EndFault} (Err fault) (Ok answer) = ap (λ (x : ClientCoreState × Result Heard EndFault). x.1) e in
      cc

  other_answer : (c d : ClientCoreState) (fault : EndFault) (answer : Heard) → ◌≡◌ {A = ClientCoreState × Result Heard EndFault} (c, Ok answer) (d, Err fault) → ⊥
  other_answer c d fault answer e =
      let same : ◌≡◌ {A = Result Heard EndFault} (Ok answer) (Err fault) = ap (λ (x : ClientCoreState × Result Heard EndFault). x.1) e in
      cc

  -- what a message says that is heard
  heard_said : (s : ClientStanding) (old new : ClientCoreState) (bytes : List ℕ) (answer : Heard) (x : Meaning ClientState HostSays) → ClientStandsAt devices gone s old
      → IsTabled client_side (old.core).shake x
      → after_read devices gone s bytes ≡ order.after_said client_side part s x → client_hear_made old (hearing.hear_said client_side old.core x) ≡ (new, Ok answer)
      → Stood s (reads bytes ∷ []) new
  heard_said s old new bytes answer (wrong fault) at tabled is step = absurd (no_fault _ new fault answer step)
  heard_said s old new bytes answer nothing at tabled is step =
      let same : old ≡ new = sym (opens_none old) ∙ ap (λ (x : ClientCoreState × Result Heard EndFault). x.0) step in
      subst (λ (c : ClientCoreState). Stood s (reads bytes ∷ []) c) same (read_one s s old bytes is at)
  heard_said s old new bytes answer (opens row) at (h, tabled) is step =
      let same : client_opened old (hearing.after_row client_side old.core row) ≡ new = ap (λ (x : ClientCoreState × Result Heard EndFault). x.0) step in
      subst (λ (c : ClientCoreState). Stood s (reads bytes ∷ []) c) same
      (read_one s (after_opened client_side part s row) _ bytes is
      (opened_stands s old row at (subst (λ (o : Option (OrderRow ClientState)). OptionGoes (old.core).shake o) tabled (row_goes (old.core).shake h))))
  heard_said s old new bytes answer (says a) at tabled is step =
      let same : (hear_says old a).0 ≡ new = ap (λ (x : ClientCoreState × Result Heard EndFault). x.0) step in
      subst (λ (c : ClientCoreState). Stood s (reads bytes ∷ []) c) same (read_one s s (hear_says old a).0 bytes is (said_stands a))
    where
      said_stands : (a : HostSays) → ClientStandsAt devices gone s (hear_says old a).0
      said_stands (requests r) = alike s old (old.core).fault old.channel (old.asked + 1) at
      said_stands (replies r) = at
      said_stands (notices n) = at

  -- a message is heard without a fault
  heard_stood : (s : ClientStanding) (old new : ClientCoreState) (bytes : List ℕ) (answer : Heard) → ClientStandsAt devices gone s old
      → client_hear old bytes ≡ (new, Ok answer) → Stood s (reads bytes ∷ []) new
  heard_stood s old new bytes answer at step = go (old.core).fault step
    where
      go : (fault : Option EndFault) → client_hear_made old (hearing.hear_unless client_side old.core bytes fault) ≡ (new, Ok answer) → Stood s (reads bytes ∷ []) new
      go (Some fault) step = absurd (no_fault old new fault answer step)
      go None step =
          heard_said s old new bytes answer (hearing.said client_side (old.core).shake bytes) at (said_tabled client_side (old.core).shake bytes)
          (read_as_heard client_side part (old.core).shake s bytes (at.stand).shake) step

  -- a message is refused
  refused_said : (s : ClientStanding) (old new : ClientCoreState) (fault : EndFault) (x : Meaning ClientState HostSays) → ClientStandsAt devices gone s old
      → client_hear_made old (hearing.hear_said client_side old.core x) ≡ (new, Err fault) → ClientStandsAt devices gone s new
  refused_said s old new fault (wrong own) at step =
      let same : record old { core = record old.core { fault = Some own } } ≡ new = ap (λ (x : ClientCoreState × Result Heard EndFault). x.0) step in
      subst (λ (c : ClientCoreState). ClientStandsAt devices gone s c) same (alike s old (Some own) old.channel old.asked at)
  refused_said s old new fault nothing at step = absurd (other_answer _ new fault _ step)
  refused_said s old new fault (opens row) at step = absurd (other_answer _ new fault _ step)
  refused_said s old new fault (says a) at step = absurd (other_answer _ new fault _ step)

  refused_stands : (s : ClientStanding) (old new : ClientCoreState) (bytes : List ℕ) (fault : EndFault) → ClientStandsAt devices gone s old
      → client_hear old bytes ≡ (new, Err fault) → ClientStandsAt devices gone s new
  refused_stands s old new bytes fault at step = go (old.core).fault step
    where
      go : (held : Option EndFault) → client_hear_made old (hearing.hear_unless client_side old.core bytes held) ≡ (new, Err fault) → ClientStandsAt devices gone s new
      go (Some held) step =
          let same : old ≡ new = ap (λ (x : ClientCoreState × Result Heard EndFault). x.0) step in
          subst (λ (c : ClientCoreState). ClientStandsAt devices gone s c) same at
      go None step = refused_said s old new fault (hearing.said client_side (old.core).shake bytes) at step

  heard_event : (s : ClientStanding) (old new : ClientCoreState) (bytes : List ℕ) (answer : Result Heard EndFault) → ClientStandsAt devices gone s old
      → hearing.Hears client_side (λ (c : ClientCoreState). c.core) client_hear old bytes answer new → Stood s (client_call_moves (hears bytes answer)) new
  heard_event s old new bytes (Ok answer) at step = heard_stood s old new bytes answer at step
  heard_event s old new bytes (Err Memory) at step = still s new (subst (λ (c : ClientCoreState). ClientStandsAt devices gone s c) (sym step.1) at)
  heard_event s old new bytes (Err fault) at step = still s new (refused_stands s old new bytes fault at step)

  -- ---- what the client writes of itself

  -- a device of the client's, as it is told of
  record IsOwn (ids : List ℕ) (d : ClientDevice) : Type 0 where
    told : is_told ids (d.announce).id ≡ not d.removed
    own : is_own_device devices d.announce ≡ true
    writable : IsWritableDevice d.announce
    countable : HasCountableBody d.announce

  each_device : (told : List ℕ) (ds : List ClientDevice) → AllByRecursion (λ (d : ClientDevice). is_told told (d.announce).id ≡ not d.removed) ds
      → AllByRecursion (λ (d : ClientDevice). is_own_device devices d.announce ≡ true) ds → AllByRecursion IsWritableDevice (map announce_in ds)
      → AllByRecursion HasCountableBody (map announce_in ds)
      → AllByRecursion (IsOwn told) ds
  each_device told [] ts os ws cs = tt
  each_device told (d ∷ ds) ts os ws cs = (record { told = ts.0; own = os.0; writable = ws.0; countable = cs.0 }, each_device told ds ts.1 os.1 ws.1 cs.1)

  -- the id of a device fits its field
  id_fits : (device : ℕ) (ds : List ClientDevice) → AllByRecursion IsWritableDevice (map announce_in ds) → list_any (is_device device) ds ≡ true → device < 2 ^ 32
  id_fits device [] all has = absurd cc
  id_fits device (d ∷ ds) all has = go (is_device device d) refl has (λ later. id_fits device ds all.1 later)
    where
      go : (b : Bool) → is_device device d ≡ b → (b || list_any (is_device device) ds) ≡ true → (list_any (is_device device) ds ≡ true → device < 2 ^ 32) → device < 2 ^ 32
      go true e has later = subst (λ (k : ℕ). k < 2 ^ 32) (eqb-true _ _ e) all.0.1
      go false e has later = later has

  did_stands : {E : Type 0} (s : ClientStanding) (done old new : ClientCoreState) (answer : Result (Unit {0}) E) → ClientStandsAt devices gone s old
      → ClientStandsAt devices gone s done → Did answer done old new → ClientStandsAt devices gone s new
  did_stands s done old new (Ok u) at there did = subst (λ (c : ClientCoreState). ClientStandsAt devices gone s c) (sym did) there
  did_stands s done old new (Err cause) at there did = subst (λ (c : ClientCoreState). ClientStandsAt devices gone s c) (sym did) at

  -- a message of the client's own is to be sent
  waits_more : (s : ClientStanding) (c : ClientCoreState) (o : Outgoing) (after last : ClientTelling) → IsStand part s (c.core).shake (waiting_messages c) last
      → after_own devices gone (c.core).shake o.message last ≡ Some after → IsStand part s (c.core).shake (waiting_messages (with_outgoing c o)) after
  waits_more s c o after last at may = subst (λ (ms : List (List ℕ)). IsStand part s (c.core).shake ms after) (sym (one_message_more (c.core).outbox o))
      (own_waits client_side part s (c.core).shake (waiting_messages c) o.message last after at may)

  direct_stands : (s : ClientStanding) (c : ClientCoreState) (job : Job) (device : ℕ) (status : Status) → ClientStandsAt devices gone s c → IsTrue (may_be_asked (c.core).shake)
      → ClientStandsAt devices gone s (direct c job device status)
  direct_stands s c job device status at asked = record {
    telling = at.telling;
    stand = waits_more s c _ at.telling at.telling at.stand
        (own_completion devices gone (c.core).shake (direct_bytes job device status) at.telling asked (completion_met (kind_of job.op) _));
    told = at.told;
    same = at.same;
    are = at.are;
    writable = at.writable;
  }

  refresh_stands : (s : ClientStanding) (c : ClientCoreState) (device : ℕ) (body : List ℕ) → ClientStandsAt devices gone s c → AreDevices (announces (refresh c device body))
      → ClientStandsAt devices gone s (refresh c device body)
  refresh_stands s c device body at are = record {
    telling = at.telling;
    stand = at.stand;
    told = go (is_client_ready (c.core).shake) at.told;
    same = refreshed_same device body c.devices ∙ at.same;
    are = are;
    writable = at.writable;
  }
    where
      go : (b : Bool) → IsTold devices gone b at.telling c.devices → IsTold devices gone b at.telling (map (refreshed device body) c.devices)
      go true told = (told.0, each_refreshed (λ id removed. is_told (at.telling).told id ≡ not removed) device body c.devices told.1)
      go false told = (told.0, each_refreshed (λ id removed. removed ≡ gone id) device body c.devices told.1)

  -- of a ready client
  told_ready : (s : ClientStanding) (c : ClientCoreState) (at : ClientStandsAt devices gone s c) → (c.core).shake ≡ Ready → IsTold devices gone true at.telling c.devices
  told_ready s c at ready = subst (λ (x : ClientState). IsTold devices gone (is_client_ready x) at.telling c.devices) ready at.told

  removed_stands : (s : ClientStanding) (c : ClientCoreState) (device : ℕ) → ClientStandsAt devices gone s c → MayTellRemoved c device → ClientStandsAt devices gone s (tell_removed c device)
  removed_stands s c device at may =
      let told = told_ready s c at may.0 in
      let fits : device < 2 ^ 32 = id_fits device c.devices (own_writable s c at) may.1 in
      let there : is_told (at.telling).told device ≡ true = there_told (at.telling).told device c.devices told.1 may.1 may.2 in
      let after : ClientTelling = telling (filter (λ id. not (id == device)) (at.telling).told) in
      let own : after_own devices gone (c.core).shake (removal_bytes (device ∷ [])) at.telling ≡ Some after =
      ap (λ (x : ClientState). after_own devices gone x (removal_bytes (device ∷ [])) at.telling) may.0 ∙ own_removal devices gone at.telling device fits told.0 there in record {
        telling = after;
        stand = waits_more s (with_mark c device true) (plain (removal_bytes (device ∷ []))) after at.telling at.stand own;
        told = subst (λ (x : ClientState). IsTold devices gone (is_client_ready x) after (map (device_marked device true) c.devices)) (sym may.0)
            (refl, removed_told (at.telling).told device c.devices told.1);
        same = ap (λ (list : List Announce). map without_data list) (same_announces device true c.devices) ∙ at.same;
        are = subst AreDevices (sym (same_announces device true c.devices)) at.are;
        writable = at.writable;
      }

  added_stands : (s : ClientStanding) (c : ClientCoreState) (device : ℕ) → ClientStandsAt devices gone s c → MayTellAdded c device → ClientStandsAt devices gone s (tell_added c device)
  added_stands s c device at may =
      let told = told_ready s c at may.0 in
      let countable : AllByRecursion HasCountableBody (announces c) = recursion_from_All HasCountableBody (announces c) (list_countable (announces c) at.are.fit) in
      let each = each_device (at.telling).told c.devices told.1 (own_are devices c.devices at.same) (own_writable s c at) countable in
      let g = one_gone (IsOwn (at.telling).told) device c.devices at.are.apart each may.1 in
      let none : is_told (at.telling).told (g.one).announce.id ≡ false = g.holds.told ∙ ap not g.removed in
      let message : list_bytes (listed_one c device) ≡ list_bytes (g.one.announce ∷ []) = ap (λ (ds : List ClientDevice). list_bytes (map announce_in ds)) g.alone in
      let after : ClientTelling = telling ((at.telling).told ++ device ∷ []) in
      let one : after_own devices gone Ready (list_bytes (g.one.announce ∷ [])) at.telling ≡ Some (telling ((at.telling).told ++ (g.one).announce.id ∷ [])) =
      own_addition devices gone at.telling g.one.announce g.holds.writable g.holds.countable told.0 g.holds.own none in
      let own : after_own devices gone (c.core).shake (list_bytes (listed_one c device)) at.telling ≡ Some after =
      ap (λ (x : ClientState). after_own devices gone x (list_bytes (listed_one c device)) at.telling) may.0
      ∙ ap (λ (bytes : List ℕ). after_own devices gone Ready bytes at.telling) message
      ∙ one ∙ ap (λ (id : ℕ). Some (telling ((at.telling).told ++ id ∷ []))) g.named in record {
        telling = after;
        stand = waits_more s (with_mark c device false) (plain (list_bytes (listed_one c device))) after at.telling at.stand own;
        told = subst (λ (x : ClientState). IsTold devices gone (is_client_ready x) after (map (device_marked device false) c.devices)) (sym may.0)
            (refl, added_told (at.telling).told device c.devices told.1);
        same = ap (λ (list : List Announce). map without_data list) (same_announces device false c.devices) ∙ at.same;
        are = subst AreDevices (sym (same_announces device false c.devices)) at.are;
        writable = at.writable;
      }

  -- ---- what is sent

  sent_event : (s : ClientStanding) (old new : ClientCoreState) (os : List Outgoing) (answer : Option Outgoing) → ClientStandsAt devices gone s old → (old.core).outbox ≡ os
      → ◌≡◌ {A = ClientCoreState × Option Outgoing} (record old { core = (send_from old.core os).0 }, (send_from old.core os).1) (new, answer)
      → Stood s (client_call_moves (sends answer)) new
  sent_event s old new [] answer at is step =
      let same : old ≡ new = ap (λ (x : ClientCoreState × Option Outgoing). x.0) step in
      let none : None ≡ answer = ap (λ (x : ClientCoreState × Option Outgoing). x.1) step in
      subst (λ (a : Option Outgoing). Stood s (client_call_moves (sends a)) new) none (still s new (subst (λ (c : ClientCoreState). ClientStandsAt devices gone s c) same at))
  sent_event s old new (o ∷ os) answer at is step =
      let same : record old { core = record old.core { outbox = os } } ≡ new = ap (λ (x : ClientCoreState × Option Outgoing). x.0) step in
      let sent : Some o ≡ answer = ap (λ (x : ClientCoreState × Option Outgoing). x.1) step in
      let first : IsStand part s (old.core).shake (o.message ∷ map message_of os) at.telling =
      subst (λ (xs : List Outgoing). IsStand part s (old.core).shake (map message_of xs) at.telling) is at.stand in
      let wrote = first_written client_side part s (old.core).shake o.message (map message_of os) at.telling first in
      let there : Stood s (writes o.message ∷ []) (record old { core = record old.core { outbox = os } }) = record {
        after = wrote.stand;
        is = ap (λ (x : Option ClientStanding). option_and_then (λ (t : ClientStanding). stand_after devices gone t []) x) wrote.wrote;
        at = record { telling = at.telling; stand = wrote.stands; told = at.told; same = at.same; are = at.are; writable = at.writable };
      } in
      subst (λ (a : Option Outgoing). Stood s (client_call_moves (sends a)) new) sent (subst (λ (c : ClientCoreState). Stood s (writes o.message ∷ []) c) same there)

  completed_event : (s : ClientStanding) (old : ClientCoreState) (bytes : List ℕ) → ClientStandsAt devices gone s old → MayComplete old bytes → Stood s (writes bytes ∷ []) old
  completed_event s old bytes at may =
      let none : IsStand part s (old.core).shake [] at.telling =
      subst (λ (xs : List Outgoing). IsStand part s (old.core).shake (map message_of xs) at.telling) may.none_waits at.stand in
      let own = own_completion devices gone (old.core).shake bytes at.telling may.asked may.completion in
      let wrote = written_past client_side part s (old.core).shake bytes at.telling at.telling none own in record {
        after = wrote.stand;
        is = ap (λ (x : Option ClientStanding). option_and_then (λ (t : ClientStanding). stand_after devices gone t []) x) wrote.wrote;
        at = record {
          telling = at.telling;
          stand = subst (λ (xs : List Outgoing). IsStand part wrote.stand (old.core).shake (map message_of xs) at.telling) (sym may.none_waits) wrote.stands;
          told = at.told;
          same = at.same;
          are = at.are;
          writable = at.writable;
        };
      }

  -- ---- events

  call_event : (s : ClientStanding) (old new : ClientCoreState) (call : ClientCall) → ClientStandsAt devices gone s old → KeepsClientChannel call → ClientStep old call new
      → Stood s (client_call_moves call) new
  call_event s old new (begins channel) at keeps step = absurd keeps
  call_event s old new (hears bytes answer) at keeps step = heard_event s old new bytes answer at step.1
  call_event s old new (directs job device status answer) at keeps step =
      still s new (did_stands s (direct old job device status) old new answer at (direct_stands s old job device status at step.0.0) step.1)
  call_event s old new (refreshes device body) at keeps step =
      still s new (subst (λ (c : ClientCoreState). ClientStandsAt devices gone s c) (sym step.1) (refresh_stands s old device body at step.0.1))
  call_event s old new (tells_removed device answer) at keeps step =
      still s new (did_stands s (tell_removed old device) old new answer at (removed_stands s old device at step.0) step.1)
  call_event s old new (tells_added device answer) at keeps step = still s new (did_stands s (tell_added old device) old new answer at (added_stands s old device at step.0) step.1)
  call_event s old new (sends answer) at keeps step = sent_event s old new (old.core).outbox answer at refl step

  one_event : (s : ClientStanding) (old new : ClientCoreState) (event : ClientEvent) → ClientStandsAt devices gone s old → ClientEventStep old event new → Stood s (client_event_moves event) new
  one_event s old new (calls call) at step = call_event s old new call at step.0 step.1
  one_event s old new (completes bytes) at step = subst (λ (c : ClientCoreState). Stood s (writes bytes ∷ []) c) (sym step.1) (completed_event s old bytes at step.0)

  all_events : (s : ClientStanding) (old new : ClientCoreState) (events : List ClientEvent) → ClientStandsAt devices gone s old → ClientEvents old events new
      → Stood s (flat_map client_event_moves events) new
  all_events s old new [] at steps = still s new (subst (λ (c : ClientCoreState). ClientStandsAt devices gone s c) (sym steps) at)
  all_events s old new (event ∷ events) at (next, step, steps) =
      let first = one_event s old next event at step in
      let rest = all_events first.after next new events first.at steps in record {
        after = rest.after;
        is = ap (λ (moves : List Move). stand_after devices gone s moves) (flat_map-cons client_event_moves event events)
            ∙ stand_onward client_side part s first.after (client_event_moves event) (flat_map client_event_moves events) first.is ∙ rest.is;
        at = rest.at;
      }

-- ---- the law

pub stands_at_first : (old : ClientCoreState) (channel : ℕ) → AreDevices (announces old) → AreWritable (announces old)
    → ClientStandsAt (announces old) (is_gone old) client_at_first (client_begin old channel)
stands_at_first old channel are writable = record {
  telling = untold;
  stand = record { shake = refl; own = []; waits = refl; written = refl };
  told = (refl, gone_are old.devices are.apart);
  same = refl;
  are = are;
  writable = writable;
}

pub event_in_order : (devices : List Announce) (gone : ℕ → Bool) (s : ClientStanding) (old new : ClientCoreState) (event : ClientEvent) → ClientStandsAt devices gone s old
    → ClientEventStep old event new
    → (t : ClientStanding) × (stand_after devices gone s (client_event_moves event) ≡ Some t) × ClientStandsAt devices gone t new
event_in_order devices gone s old new event at step = let stood = one_event devices gone s old new event at step in (stood.after, stood.is, stood.at)

pub events_in_order : (old new : ClientCoreState) (channel : ℕ) (events : List ClientEvent) → AreDevices (announces old) → AreWritable (announces old)
    → ClientEvents (client_begin old channel) events new
    → ClientOrder (announces old) (is_gone old) (flat_map client_event_moves events)
events_in_order old new channel events are writable steps =
    let stood = all_events (announces old) (is_gone old) client_at_first (client_begin old channel) new events (stands_at_first old channel are writable) steps in
    subst (λ (o : Option ClientStanding). IsSome o) (sym stood.is) refl

pub waiting_in_order : (old new : ClientCoreState) (channel : ℕ) (events : List ClientEvent) → AreDevices (announces old) → AreWritable (announces old)
    → ClientEvents (client_begin old channel) events new
    → ClientOrder (announces old) (is_gone old) (flat_map client_event_moves events ++ client_waiting_moves new)
waiting_in_order old new channel events are writable steps =
    let gone = is_gone old in
    let stood = all_events (announces old) gone client_at_first (client_begin old channel) new events (stands_at_first old channel are writable) steps in
    let onward = stand_onward client_side (client_part (announces old) gone) client_at_first stood.after (flat_map client_event_moves events) (client_waiting_moves new) stood.is in
    subst (λ (o : Option ClientStanding). IsSome o) (sym onward)
    (all_written client_side (client_part (announces old) gone) stood.after (new.core).shake (waiting_messages new) (stood.at).telling (stood.at).stand)
