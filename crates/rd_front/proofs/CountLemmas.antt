-- How many messages stand in the core's outbox.
use Rattle.std.proofs.Common.{◌≡◌, ◌∙◌, refl, sym, ap, subst, ℕ, ◌+◌, ◌-◌, ◌<◌, ◌≤◌, Bool, true, false, List, [], ◌∷◌, ◌++◌, Option, Some, None, length, map, length-append, arith}
use Rattle.std.specs.Prelude.{Result, Ok, Err, if◌then◌else◌}
use Rattle.std.proofs.lemmas.List.{length-map}
use Rattle.std.specs.declared.alloc.AllocError.{AllocError}
use Rattle.std.specs.Map.{lookup}
use Rattle.std.specs.Option.{option_map_or, option_to_list}
use Rattle.std.specs.Ordering.{nat_cmp}
use Rattle.std.specs.BTreeMap.{is_at}
use Rattle.rd_devices.specs.DeviceList.{list_bytes}
use Rattle.rd_declared.specs.Devices.{PrinterNames, printer_data}
use Rattle.rd_base.specs.declared.bad.Bad.{Bad}
use Rattle.rd_base.specs.declared.packet.Packet.{Packet}
use Rattle.rd_base.specs.Header.{any_header}
use Rattle.rd_base.specs.Layout.{met}
use Rattle.rd_base.specs.Position.{Position, at_start}
use Rattle.rd_client.specs.Core as client
use Rattle.rd_client.specs.Core.{ClientCoreState, ClientDevice, ClientStep, HostSays, Outgoing, becomes_ready, client_hear, client_hear_made, client_opened, client_side, client_send, hears, listed, notices, plain, replies, requests}
use Rattle.rd_client.specs.Order.{is_client_ready}
use Rattle.rd_client.specs.declared.heard.Heard.{Heard}
use Rattle.rd_core.specs.Core as parts
use Rattle.rd_core.specs.Core.{CoreState, Did}
use Rattle.rd_core.specs.Hearing as hearing
use Rattle.rd_core.specs.Hearing.{Meaning, from_header, from_hello, from_own, hear_said, is_hello, is_read_in, messages_of, nothing, opens, said, says, wrong}
use Rattle.rd_hello.specs.declared.client.ClientState.{ClientState}
use Rattle.rd_hello.specs.declared.client.ClientState.TheVariants.{Start, Named, Confirmed, Offered, Waiting, Ready}
use Rattle.rd_hello.specs.declared.end_fault.EndFault.{EndFault}
use Rattle.rd_hello.specs.declared.end_fault.EndFault.TheVariants as fault
use Rattle.rd_hello.specs.declared.hello.Hello.{Hello}
use Rattle.rd_hello.specs.declared.hello.Hello.TheVariants as hello
use Rattle.rd_hello.specs.Hello as greeting
use Rattle.rd_hello.specs.Rows.{OrderRow}
use Rattle.rd_front.specs.Front.{is_front_full, is_front_ready, most_written, one_if_done, with_new_data, unsent_after}
use Rattle.rd_front.specs.Kept.{IsCounted}
use Rattle.rd_front.specs.State.{FrontState}
use Rattle.rd_front.proofs.StepLemmas.{Carries}

abbrev standing : ClientCoreState → ℕ
standing c = length (c.core).outbox

-- ---- what is written once the opening is over

-- a row writes nothing
abbrev IsQuiet : Meaning ClientState HostSays → Type 0
IsQuiet (opens row) = messages_of row ≡ []
IsQuiet _ = Unit {0}

quiet_if : (b : Bool) (x y : Meaning ClientState HostSays) → IsQuiet x → IsQuiet y → IsQuiet (if b then x else y)
quiet_if true x y one other = one
quiet_if false x y one other = other

quiet_hello : (r : Result (Hello × Position) Bad) → IsQuiet (from_hello client_side Ready r)
quiet_hello (Err bad) = tt
quiet_hello (Ok (hello.Announce version, at)) = tt
quiet_hello (Ok (hello.Confirm version, at)) = tt
quiet_hello (Ok (hello.Name unicode page name, at)) = tt
quiet_hello (Ok (hello.ServerCaps caps, at)) = tt
quiet_hello (Ok (hello.ClientCaps caps, at)) = tt
quiet_hello (Ok (hello.LoggedOn, at)) = refl

quiet_own : (r : Result HostSays Bad) → IsQuiet (from_own client_side r)
quiet_own (Err bad) = tt
quiet_own (Ok a) = tt

quiet_header : (message : List ℕ) (r : Result (Option Packet × Position) Bad) → IsQuiet (from_header client_side Ready message r)
quiet_header message (Err bad) = tt
quiet_header message (Ok (None, at)) = tt
quiet_header message (Ok (Some p, at)) =
    quiet_if (is_read_in client_side Ready p) _ _
    (quiet_if (is_hello p) _ _ (quiet_hello (met greeting.hello (at_start message))) (quiet_own (client_side.own p message))) tt

-- ---- what is written for a message

few_if : (b : Bool) (x y : ClientCoreState) (n : ℕ) → standing x ≤ n → standing y ≤ n → standing (if b then x else y) ≤ n
few_if true x y n one other = one
few_if false x y n one other = other

-- where a client is ready after it, at most one message more
opened_longer : (c : ClientCoreState) (after : CoreState ClientState Outgoing) → standing (client_opened c after) ≤ length after.outbox + 1
opened_longer c after =
    let longer = length-append after.outbox (plain (list_bytes (listed c)) ∷ []) in
    few_if (becomes_ready (c.core).shake after.shake) _ _ (length after.outbox + 1) (omega (arith, longer)) (omega arith)

option_few : {A : Type 0} (o : Option A) → length (option_to_list o) ≤ 1
option_few None = omega arith
option_few (Some a) = omega arith

row_few : (row : OrderRow ClientState) → length (messages_of row) ≤ 2
row_few row =
    let both = length-append (option_to_list row.first) (option_to_list row.second) in
    let all = length-map (option_to_list row.first ++ option_to_list row.second) greeting.hello_bytes in
    omega (arith, option_few row.first, option_few row.second, both, all)

row_longer : (core : CoreState ClientState Outgoing) (row : OrderRow ClientState) → length (core.outbox ++ map client_side.outgoing (messages_of row)) ≡ length core.outbox + length (messages_of row)
row_longer core row = length-append core.outbox (map client_side.outgoing (messages_of row)) ∙ ap (λ (n : ℕ). length core.outbox + n) (length-map (messages_of row) client_side.outgoing)

module _ (channel asked : ℕ) (devices : List ClientDevice) where
  abbrev client_of : CoreState ClientState Outgoing → ClientCoreState
  client_of core = record { core = core; channel = channel; asked = asked; devices = devices }

  said_longer : (core : CoreState ClientState Outgoing) (meaning : Meaning ClientState HostSays)
      → standing (client_hear_made (client_of core) (hear_said client_side core meaning)).0 ≤ length core.outbox + 3
  said_longer core (wrong cause) = omega arith
  said_longer core nothing = let most = opened_longer (client_of core) core in omega (arith, most)
  said_longer core (opens row) =
      let after = record core { shake = row.next; outbox = core.outbox ++ map client_side.outgoing (messages_of row) } in
      let most = opened_longer (client_of core) after in
      omega (arith, most, row_longer core row, row_few row)
  said_longer core (says (requests r)) = omega arith
  said_longer core (says (replies r)) = omega arith
  said_longer core (says (notices n)) = omega arith

  said_quiet : (cause : Option EndFault) (outbox : List Outgoing) (meaning : Meaning ClientState HostSays) → IsQuiet meaning
      → standing (client_hear_made (client_of (record { shake = Ready; fault = cause; outbox = outbox })) (hear_said client_side (record { shake = Ready; fault = cause; outbox = outbox }) meaning)).0 ≤ length outbox + 0
  said_quiet cause outbox (wrong other) quiet = omega arith
  said_quiet cause outbox nothing quiet = omega arith
  said_quiet cause outbox (opens row) quiet =
      let none : length (messages_of row) ≡ 0 = ap (λ (ms : List (List ℕ)). length ms) quiet in
      omega (arith, row_longer (record { shake = Ready; fault = cause; outbox = outbox }) row, none)
  said_quiet cause outbox (says (requests r)) quiet = omega arith
  said_quiet cause outbox (says (replies r)) quiet = omega arith
  said_quiet cause outbox (says (notices n)) quiet = omega arith

  hear_longer : (shake : ClientState) (cause : Option EndFault) (outbox : List Outgoing) (message : List ℕ)
      → standing (client_hear (client_of (record { shake = shake; fault = cause; outbox = outbox })) message).0 ≤ length outbox + most_written (is_client_ready shake)
  hear_longer shake (Some other) outbox message = omega arith
  hear_longer Start None outbox message = said_longer (record { shake = Start; fault = None; outbox = outbox }) (said client_side Start message)
  hear_longer Named None outbox message = said_longer (record { shake = Named; fault = None; outbox = outbox }) (said client_side Named message)
  hear_longer Confirmed None outbox message = said_longer (record { shake = Confirmed; fault = None; outbox = outbox }) (said client_side Confirmed message)
  hear_longer (Offered tells) None outbox message = said_longer (record { shake = Offered tells; fault = None; outbox = outbox }) (said client_side (Offered tells) message)
  hear_longer Waiting None outbox message = said_longer (record { shake = Waiting; fault = None; outbox = outbox }) (said client_side Waiting message)
  hear_longer Ready None outbox message = said_quiet None outbox (said client_side Ready message) (quiet_header message (met any_header (at_start message)))

heard_longer : (old new : ClientCoreState) (message : List ℕ) (answer : Result Heard EndFault) → ClientStep old (hears message answer) new
    → standing new ≤ standing old + most_written (is_client_ready (old.core).shake)
heard_longer old new message answer step = by answer step.1
  where
    longer : standing (client_hear old message).0 ≤ standing old + most_written (is_client_ready (old.core).shake)
    longer = hear_longer old.channel old.asked old.devices (old.core).shake (old.core).fault (old.core).outbox message

    to : (a : Result Heard EndFault) → client_hear old message ≡ (new, a) → standing new ≤ standing old + most_written (is_client_ready (old.core).shake)
    to a is = subst (λ (x : ClientCoreState × Result Heard EndFault). standing x.0 ≤ standing old + most_written (is_client_ready (old.core).shake)) is longer

    by : (a : Result Heard EndFault) → hearing.Hears client_side (λ (c : ClientCoreState). c.core) client_hear old message a new → standing new ≤ standing old + most_written (is_client_ready (old.core).shake)
    by (Err fault.Memory) h = subst (λ (c : ClientCoreState). standing c ≤ standing old + most_written (is_client_ready (old.core).shake)) (sym h.1) (omega arith)
    by (Err (fault.Order state packet)) h = to _ h
    by (Err (fault.Grammar bad)) h = to _ h
    by (Ok heard) h = to _ h

-- ---- the other calls

-- one message more, where memory is found for it
did_longer : (answer : Result (Unit {0}) AllocError) (done old new : ClientCoreState) → standing done ≤ standing old + 1 → Did answer done old new
    → standing new ≤ standing old + one_if_done answer
did_longer (Ok fine) done old new one is = subst (λ (c : ClientCoreState). standing c ≤ standing old + 1) (sym is) one
did_longer (Err error) done old new one is = subst (λ (c : ClientCoreState). standing c ≤ standing old + 0) (sym is) (omega arith)

put_longer : (outbox : List Outgoing) (o : Outgoing) → length (outbox ++ o ∷ []) ≤ length outbox + 1
put_longer outbox o = omega (arith, length-append outbox (o ∷ []))

abbrev sent_from : ClientCoreState → List Outgoing → ClientCoreState × Option Outgoing
sent_from c outbox = let sent = parts.send_from c.core outbox in (record c { core = sent.0 }, sent.1)

sent_shorter : (c new : ClientCoreState) (sent : Option Outgoing) (unsent : ℕ) → client_send c ≡ (new, sent) → standing c ≤ unsent → standing new ≤ unsent_after sent unsent
sent_shorter c new sent unsent is few = go (c.core).outbox refl
  where
    go : (outbox : List Outgoing) → (c.core).outbox ≡ outbox → standing new ≤ unsent_after sent unsent
    go [] none =
        let made : sent_from c [] ≡ (new, sent) = sym (ap (sent_from c) none) ∙ is in
        let nobody : standing c ≤ 0 = omega (arith, ap (λ (os : List Outgoing). length os) none) in
        subst (λ (x : ClientCoreState × Option Outgoing). standing x.0 ≤ unsent_after x.1 unsent) made nobody
    go (o ∷ os) some =
        let made : sent_from c (o ∷ os) ≡ (new, sent) = sym (ap (sent_from c) some) ∙ is in
        let fewer : length os ≤ unsent - 1 = omega (arith, few, ap (λ (l : List Outgoing). length l) some) in
        subst (λ (x : ClientCoreState × Option Outgoing). standing x.0 ≤ unsent_after x.1 unsent) made fewer

-- ---- the front

-- so many messages more stand there, and are counted
counted_more : (old new : FrontState) (more : ℕ) → standing new.client ≤ standing old.client + more → new ≡ record old { client = new.client; unsent = old.unsent + more }
    → IsCounted old → IsCounted new
counted_more old new more longer is counted =
    let unsent : new.unsent ≡ old.unsent + more = ap (λ (s : FrontState). s.unsent) is in
    omega (arith, longer, unsent, counted)

counted_refreshed : (s : FrontState) (device : ℕ) → IsCounted s → IsCounted (with_new_data s device)
counted_refreshed s device counted = go (lookup (is_at (nat_cmp device)) s.printers)
  where
    go : (o : Option PrinterNames) → IsCounted (option_map_or (λ (names : PrinterNames). record s { client = client.refresh s.client device (printer_data s.cache names) }) o s)
    go None = counted
    go (Some names) = counted

pub counts : Carries (λ old new. IsCounted old → IsCounted new)
counts = record {
  stays = λ s counted. counted;
  joins = λ a b c first second counted. second (first counted);
  hears_by = λ old new message answer did. counted_more old new (most_written (is_front_ready old)) (heard_longer old.client new.client message answer did.0) did.1;
  directs_by = λ old new job device st answer did.
      counted_more old new (one_if_done answer) (did_longer answer (client.direct old.client job device st) old.client new.client (put_longer _ _) (did.0).1) did.1;
  removes_by = λ old new device answer did.
      counted_more old new (one_if_done answer) (did_longer answer (client.tell_removed old.client device) old.client new.client (put_longer _ _) (did.0).1) did.1;
  adds_by = λ old new device answer did.
      counted_more old new (one_if_done answer) (did_longer answer (client.tell_added old.client device) old.client new.client (put_longer _ _) (did.0).1) did.1;
  sends_by = λ old new sent did counted.
      let unsent : new.unsent ≡ unsent_after sent old.unsent = ap (λ (s : FrontState). s.unsent) did.1 in
      let shorter = sent_shorter old.client new.client sent old.unsent did.0 counted in
      omega (arith, unsent, shorter);
  calls_by = λ old new place does back fits did counted. subst IsCounted (sym did.put_back) counted;
  keeps_by = λ s kept counted. counted;
  learns_by = λ old new n answer heard is counted. subst IsCounted (sym is) counted;
  refreshes_by = counted_refreshed;
  begins_by = λ s channel counted. omega arith;
  ends_by = λ s over desks told counted. omega arith;
  over_by = λ s counted. counted;
}

pub few_unless_full : (s : FrontState) → IsCounted s → is_front_full s ≡ false → standing s.client < 1024
few_unless_full s counted some =
    let few : s.unsent < 1024 = grind (arith, some) in
    omega (arith, few, counted)
