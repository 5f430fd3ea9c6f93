-- How many lists and removals a client has to send, and that a host that hears what opens a channel says neither a request nor a notice.
use Rattle.std.proofs.Common.{◌≡◌, ◌∙◌, refl, ap, inl, inr, ℕ, ◌+◌, ◌==◌, ◌||◌, arith, Bool, true, false, List, [], ◌∷◌, ◌++◌, length, map, reverse, fold, Some, None, Option, Result, Ok, Err}
use Rattle.std.specs.Prelude.{filter, if◌then◌else◌}
use Rattle.std.specs.List.{AllByRecursion}
use Rattle.std.specs.Option.{option_to_list}
use Rattle.std.proofs.lemmas.List.{reverse-append}
use Rattle.rd_base.specs.declared.packet.Packet.{Packet}
use Rattle.rd_base.specs.declared.packet.Packet.TheVariants as packet
use Rattle.rd_base.specs.declared.status.Status.{Status}
use Rattle.rd_base.specs.Header.{packet_id}
use Rattle.rd_base.specs.Statuses as status
use Rattle.rd_client.specs.Core as client
use Rattle.rd_client.specs.Core.{ClientCoreState, HostSays, Outgoing, becomes_ready, client_hear, client_hear_made, client_opened, client_side, direct_bytes, hear_says, listed, notices, plain, replies, requests, with_outgoing}
use Rattle.rd_client.specs.Events.{waiting_messages}
use Rattle.rd_client.specs.Order.{is_client_ready}
use Rattle.rd_client.specs.declared.heard.Heard.{Heard}
use Rattle.rd_client.specs.declared.heard.Heard.TheVariants.{Nothing, Ask, Print}
use Rattle.rd_core.specs.Core.{CoreState}
use Rattle.rd_core.specs.Hearing as hearing
use Rattle.rd_core.specs.Hearing.{Meaning, messages_of}
use Rattle.rd_devices.specs.declared.list.Announce.{Announce}
use Rattle.rd_devices.specs.DeviceList.{list_bytes}
use Rattle.rd_drive.proofs.AllLemmas.{all_append}
use Rattle.rd_drive.specs.declared.plan.Job.{Job}
use Rattle.rd_hello.specs.declared.client.ClientState.{ClientState}
use Rattle.rd_hello.specs.declared.client.ClientState.TheVariants.{Start, Named, Confirmed, Offered, Waiting, Ready}
use Rattle.rd_hello.specs.declared.end_fault.EndFault.{EndFault}
use Rattle.rd_hello.specs.declared.hello.Hello.{Hello}
use Rattle.rd_hello.specs.declared.hello.Hello.TheVariants as hello
use Rattle.rd_hello.specs.Hello.{hello_bytes}
use Rattle.rd_hello.specs.Moves.{is_of}
use Rattle.rd_host.specs.Core as host
use Rattle.rd_host.specs.Core.{HostCoreState}
use Rattle.rd_host.specs.declared.act.Act.{Act}
use Rattle.rd_host.specs.declared.act.Act.TheVariants as act
use Rattle.rd_host.specs.Served.{is_served_type}
use Rattle.rd_pending.proofs.Tame.{tame_complete, tame_live, tame_remove}
use Rattle.rd_pending.specs.Table as table
use Rattle.rd_deeds.proofs.Messages.{packet_is, written_packet}
use Rattle.rd_world.specs.Acts.{is_telling}
use Rattle.rd_deeds.specs.Host.{HostSide, admits, forgets, host_heard, lived}
use Rattle.rd_orders.proofs.Meeting.{IsHeardTo, IsPut}
use Rattle.rd_orders.proofs.PhaseLemmas.{IsGreeting, reply_greets}

-- ---- lists and removals

abbrev pub tellings : List (List ℕ) → ℕ
tellings ms = length (filter is_telling ms)

either_is : (m : List ℕ) (a b : Bool) → is_of packet.DeviceListAnnounce m ≡ a → is_of packet.DeviceListRemove m ≡ b → is_telling m ≡ (a || b)
either_is m a b e f = rw (e, f) refl

-- a message of a packet
telling_of_packet : (p : Packet) (m : List ℕ) → ((q : Packet) → is_of q m ≡ (packet_id p == packet_id q)) → is_telling m ≡ ((packet_id p == packet_id packet.DeviceListAnnounce) || (packet_id p == packet_id packet.DeviceListRemove))
telling_of_packet p m of = either_is m _ _ (of packet.DeviceListAnnounce) (of packet.DeviceListRemove)

hello_plain : (x : Hello) → is_telling (hello_bytes x) ≡ false
hello_plain (hello.Announce v) = telling_of_packet packet.ServerAnnounce _ (λ q. packet_is packet.ServerAnnounce q _ (written_packet packet.ServerAnnounce _))
hello_plain (hello.Confirm v) = telling_of_packet packet.ClientIdConfirm _ (λ q. packet_is packet.ClientIdConfirm q _ (written_packet packet.ClientIdConfirm _))
hello_plain (hello.Name a b c) = telling_of_packet packet.ClientName _ (λ q. packet_is packet.ClientName q _ (written_packet packet.ClientName _))
hello_plain (hello.ServerCaps caps) = telling_of_packet packet.ServerCapability _ (λ q. packet_is packet.ServerCapability q _ (written_packet packet.ServerCapability _))
hello_plain (hello.ClientCaps caps) = telling_of_packet packet.ClientCapability _ (λ q. packet_is packet.ClientCapability q _ (written_packet packet.ClientCapability _))
hello_plain hello.LoggedOn = telling_of_packet packet.UserLoggedOn _ (λ q. packet_is packet.UserLoggedOn q _ (written_packet packet.UserLoggedOn _))

list_tells : (list : List Announce) → is_telling (list_bytes list) ≡ true
list_tells list = telling_of_packet packet.DeviceListAnnounce (list_bytes list) (λ q. packet_is packet.DeviceListAnnounce q _ (written_packet packet.DeviceListAnnounce _))

direct_plain : (job : Job) (device : ℕ) (st : Status) → is_telling (direct_bytes job device st) ≡ false
direct_plain job device st = telling_of_packet packet.IoCompletion (direct_bytes job device st) (λ q. packet_is packet.IoCompletion q _ (written_packet packet.IoCompletion _))

-- ---- counts

pub one_telling : (m : List ℕ) (ms : List (List ℕ)) → tellings (m ∷ ms) ≡ tellings (m ∷ []) + tellings ms
one_telling m ms = by (is_telling m)
  where
    by : (b : Bool) → length (if b then m ∷ filter is_telling ms else filter is_telling ms) ≡ length (if b then m ∷ [] else []) + tellings ms
    by true = omega arith
    by false = omega arith

pub more_tellings : (xs ys : List (List ℕ)) → tellings (xs ++ ys) ≡ tellings xs + tellings ys
more_tellings [] ys = omega arith
more_tellings (x ∷ xs) ys =
    let rest : tellings (xs ++ ys) ≡ tellings xs + tellings ys = more_tellings xs ys in
    let first : tellings (x ∷ (xs ++ ys)) ≡ tellings (x ∷ []) + tellings (xs ++ ys) = one_telling x (xs ++ ys) in
    let own : tellings (x ∷ xs) ≡ tellings (x ∷ []) + tellings xs = one_telling x xs in
    omega (arith, rest, first, own)

pub reversed_tellings : (xs : List (List ℕ)) → tellings (reverse xs) ≡ tellings xs
reversed_tellings [] = refl
reversed_tellings (x ∷ xs) =
    let rest : tellings (reverse xs) ≡ tellings xs = reversed_tellings xs in
    let turned : tellings (reverse (x ∷ xs)) ≡ tellings (reverse xs ++ x ∷ []) = ap tellings (reverse-append (x ∷ []) xs) in
    let parts : tellings (reverse xs ++ x ∷ []) ≡ tellings (reverse xs) + tellings (x ∷ []) = more_tellings (reverse xs) (x ∷ []) in
    let own : tellings (x ∷ xs) ≡ tellings (x ∷ []) + tellings xs = one_telling x xs in
    omega (arith, rest, turned, parts, own)

plain_none : (m : List ℕ) → is_telling m ≡ false → tellings (m ∷ []) ≡ 0
plain_none m off = rw off refl

telling_one : (m : List ℕ) → is_telling m ≡ true → tellings (m ∷ []) ≡ 1
telling_one m on = rw on refl

hellos_none : (hs : List Hello) → tellings (map hello_bytes hs) ≡ 0
hellos_none [] = refl
hellos_none (h ∷ hs) =
    let first : tellings (hello_bytes h ∷ map hello_bytes hs) ≡ tellings (hello_bytes h ∷ []) + tellings (map hello_bytes hs) = one_telling (hello_bytes h) (map hello_bytes hs) in
    let none : tellings (hello_bytes h ∷ []) ≡ 0 = plain_none (hello_bytes h) (hello_plain h) in
    let rest : tellings (map hello_bytes hs) ≡ 0 = hellos_none hs in
    omega (arith, first, none, rest)

abbrev out : List Outgoing → List (List ℕ)
out os = map (λ (o : Outgoing). o.message) os

out_more : (os ps : List Outgoing) → out (os ++ ps) ≡ out os ++ out ps
out_more [] ps = refl
out_more (o ∷ os) ps = ap (λ (ms : List (List ℕ)). o.message ∷ ms) (out_more os ps)

out_plain : (ms : List (List ℕ)) → out (map plain ms) ≡ ms
out_plain [] = refl
out_plain (m ∷ ms) = ap (λ (xs : List (List ℕ)). m ∷ xs) (out_plain ms)

abbrev pub counted : Bool → ℕ
counted b = if b then 1 else 0

-- ---- a client hears

becomes_itself : (s : ClientState) → becomes_ready s s ≡ false
becomes_itself Start = refl
becomes_itself Named = refl
becomes_itself Confirmed = refl
becomes_itself (Offered tells) = refl
becomes_itself Waiting = refl
becomes_itself Ready = refl

becomes_by : (s next : ClientState) → is_client_ready s ≡ false → becomes_ready s next ≡ is_client_ready next
becomes_by Ready next off = absurd (cc off)
becomes_by s Ready off = refl
becomes_by s next off = refl

-- what it has to send then has one list more, where it becomes ready, and no removal
record Counts (c : ClientCoreState) (d : ClientCoreState) : Type 0 where
  are : tellings (waiting_messages d) ≡ tellings (waiting_messages c) + counted (becomes_ready (c.core).shake (d.core).shake)

still_counts : (c d : ClientCoreState) → (d.core).outbox ≡ (c.core).outbox → (d.core).shake ≡ (c.core).shake → Counts c d
still_counts c d same shake = record {
  are = (let none : counted (becomes_ready (c.core).shake (d.core).shake) ≡ 0 = ap (λ (s : ClientState). counted (becomes_ready (c.core).shake s)) shake ∙ ap counted (becomes_itself (c.core).shake) in
      let there : tellings (waiting_messages d) ≡ tellings (waiting_messages c) = ap (λ (os : List Outgoing). tellings (out os)) same in
      omega (arith, none, there));
}

opened_counts : (c : ClientCoreState) (after : CoreState ClientState Outgoing) → tellings (out after.outbox) ≡ tellings (waiting_messages c) → Counts c (client_opened c after)
opened_counts c after same = by (becomes_ready (c.core).shake after.shake) refl
  where
    by : (b : Bool) → becomes_ready (c.core).shake after.shake ≡ b → Counts c (if b then with_outgoing (record c { core = after }) (plain (list_bytes (listed c))) else record c { core = after })
    by true is = record {
      are = (let parts : tellings (out (after.outbox ++ plain (list_bytes (listed c)) ∷ [])) ≡ tellings (out after.outbox) + tellings (list_bytes (listed c) ∷ []) =
          ap tellings (out_more after.outbox (plain (list_bytes (listed c)) ∷ [])) ∙ more_tellings (out after.outbox) (list_bytes (listed c) ∷ []) in
          let one : tellings (list_bytes (listed c) ∷ []) ≡ 1 = telling_one (list_bytes (listed c)) (list_tells (listed c)) in
          let count : counted (becomes_ready (c.core).shake after.shake) ≡ 1 = ap counted is in
          omega (arith, parts, one, count, same));
    }
    by false is = record { are = (let count : counted (becomes_ready (c.core).shake after.shake) ≡ 0 = ap counted is in omega (arith, count, same)) }

made_counts : (c : ClientCoreState) (m : Meaning ClientState HostSays) → Counts c (client_hear_made c (hearing.hear_said client_side c.core m)).0
made_counts c (hearing.wrong fault) = still_counts c _ refl refl
made_counts c hearing.nothing = opened_counts c c.core refl
made_counts c (hearing.opens row) = opened_counts c (hearing.after_row client_side c.core row)
    (let hs : List Hello = option_to_list row.first ++ option_to_list row.second in
    let parts : tellings (out ((c.core).outbox ++ map plain (messages_of row))) ≡ tellings (waiting_messages c) + tellings (messages_of row) =
    ap tellings (out_more (c.core).outbox (map plain (messages_of row)) ∙ ap (λ (ms : List (List ℕ)). waiting_messages c ++ ms) (out_plain (messages_of row))) ∙ more_tellings (waiting_messages c) (messages_of row) in
    let none : tellings (messages_of row) ≡ 0 = hellos_none hs in
    omega (arith, parts, none))
made_counts c (hearing.says (requests r)) = still_counts c _ refl refl
made_counts c (hearing.says (replies r)) = still_counts c _ refl refl
made_counts c (hearing.says (notices n)) = still_counts c _ refl refl

hear_counts : (c : ClientCoreState) (m : List ℕ) → Counts c (client_hear c m).0
hear_counts c m = by (c.core).fault
  where
    by : (o : Option EndFault) → Counts c (client_hear_made c (hearing.hear_unless client_side c.core m o)).0
    by (Some fault) = still_counts c _ refl refl
    by None = made_counts c (hearing.said client_side (c.core).shake m)

-- A client's lists and removals on a channel are one, as soon as it is ready, and none before, where no device is removed or added: so it stays when it hears.
pub heard_tellings : (c : ClientCoreState) (m : List ℕ) (n : ℕ) → (is_client_ready (c.core).shake ≡ true → is_client_ready (((client_hear c m).0).core).shake ≡ true)
    → n + tellings (waiting_messages c) ≡ counted (is_client_ready (c.core).shake)
    → n + tellings (waiting_messages (client_hear c m).0) ≡ counted (is_client_ready (((client_hear c m).0).core).shake)
heard_tellings c m n stays before = by (is_client_ready (c.core).shake) refl
  where
    counts : tellings (waiting_messages (client_hear c m).0) ≡ tellings (waiting_messages c) + counted (becomes_ready (c.core).shake (((client_hear c m).0).core).shake)
    counts = (hear_counts c m).are

    none_more : (s : ClientState) → is_client_ready s ≡ true → counted (becomes_ready s (((client_hear c m).0).core).shake) ≡ 0
    none_more Ready on = refl
    none_more Start on = absurd (cc on)
    none_more Named on = absurd (cc on)
    none_more Confirmed on = absurd (cc on)
    none_more (Offered tells) on = absurd (cc on)
    none_more Waiting on = absurd (cc on)

    by : (b : Bool) → is_client_ready (c.core).shake ≡ b → n + tellings (waiting_messages (client_hear c m).0) ≡ counted (is_client_ready (((client_hear c m).0).core).shake)
    by true on =
        let was : counted (is_client_ready (c.core).shake) ≡ 1 = ap counted on in
        let is : counted (is_client_ready (((client_hear c m).0).core).shake) ≡ 1 = ap counted (stays on) in
        let none : counted (becomes_ready (c.core).shake (((client_hear c m).0).core).shake) ≡ 0 = none_more (c.core).shake on in
        omega (arith, was, is, none, counts, before)
    by false off =
        let was : counted (is_client_ready (c.core).shake) ≡ 0 = ap counted off in
        let is : counted (becomes_ready (c.core).shake (((client_hear c m).0).core).shake) ≡ counted (is_client_ready (((client_hear c m).0).core).shake) = ap counted (becomes_by (c.core).shake (((client_hear c m).0).core).shake off) in
        omega (arith, was, is, counts, before)

-- what it answers itself is neither
put_tellings : (c d : ClientCoreState) (device : ℕ) (job : Job) → IsPut c device job d → (tellings (waiting_messages d) ≡ tellings (waiting_messages c)) × ((d.core).shake ≡ (c.core).shake)
put_tellings c d device job (inl same) = (ap (λ (x : ClientCoreState). tellings (waiting_messages x)) same, ap (λ (x : ClientCoreState). (x.core).shake) same)
put_tellings c d device job (inr (st, some, is)) =
    let parts : tellings (waiting_messages (client.direct c job device st)) ≡ tellings (waiting_messages c) + tellings (direct_bytes job device st ∷ []) =
    ap tellings (out_more (c.core).outbox (_ ∷ [])) ∙ more_tellings (waiting_messages c) (direct_bytes job device st ∷ []) in
    let none : tellings (direct_bytes job device st ∷ []) ≡ 0 = plain_none (direct_bytes job device st) (direct_plain job device st) in
    (ap (λ (x : ClientCoreState). tellings (waiting_messages x)) is ∙ (let all : tellings (waiting_messages (client.direct c job device st)) ≡ tellings (waiting_messages c) = omega (arith, parts, none) in all), ap (λ (x : ClientCoreState). (x.core).shake) is)

pub done_tellings : (c d : ClientCoreState) (a : Result Heard EndFault) → IsHeardTo c a d → (tellings (waiting_messages d) ≡ tellings (waiting_messages c)) × ((d.core).shake ≡ (c.core).shake)
done_tellings c d (Err fault) same = (ap (λ (x : ClientCoreState). tellings (waiting_messages x)) same, ap (λ (x : ClientCoreState). (x.core).shake) same)
done_tellings c d (Ok Nothing) same = (ap (λ (x : ClientCoreState). tellings (waiting_messages x)) same, ap (λ (x : ClientCoreState). (x.core).shake) same)
done_tellings c d (Ok (Ask device job)) put = put_tellings c d device job put
done_tellings c d (Ok (Print n)) same = (ap (λ (x : ClientCoreState). tellings (waiting_messages x)) same, ap (λ (x : ClientCoreState). (x.core).shake) same)

-- ---- what a host says by what it heard

pub record Greets (s new : HostSide) : Type 0 where
  pub sends : AllByRecursion IsGreeting ((s.core).core).outbox → AllByRecursion IsGreeting ((new.core).core).outbox
  pub asked : (new.table).outbox ≡ (s.table).outbox

greets_then : (s x new : HostSide) → Greets s x → Greets x new → Greets s new
greets_then s x new a b = record { sends = λ all. b.sends (a.sends all); asked = b.asked ∙ a.asked }

admitted : (s : HostSide) (a : Announce) → Greets s (admits s a)
admitted s a = by (is_served_type a.kind)
  where
    one : (code : Status) → AllByRecursion IsGreeting ((s.core).core).outbox → AllByRecursion IsGreeting (((host.reply s.core a.id code).core)).outbox
    one code all = all_append IsGreeting ((s.core).core).outbox (_ ∷ []) all (reply_greets (record { id = a.id; code = code }), tt)

    by : (b : Bool) → Greets s (if b then lived s a.id (table.live s.table a.id) else record s { core = host.reply s.core a.id status.not_supported })
    by true = record { sends = one _; asked = (tame_live s.table a.id).outbox }
    by false = record { sends = one status.not_supported; asked = refl }

all_admitted : (devices : List Announce) (s : HostSide) → Greets s (fold admits s devices)
all_admitted [] s = record { sends = λ all. all; asked = refl }
all_admitted (a ∷ devices) s = greets_then s (admits s a) _ (admitted s a) (all_admitted devices (admits s a))

all_forgot : (ids : List ℕ) (s : HostSide) → Greets s (fold forgets s ids)
all_forgot [] s = record { sends = λ all. all; asked = refl }
all_forgot (id ∷ ids) s = greets_then s (forgets s id) _ (record { sends = λ all. all; asked = (tame_remove s.table id).outbox }) (all_forgot ids (forgets s id))

pub heard_greets : (s : HostSide) (a : Result Act EndFault) → Greets s (host_heard s a)
heard_greets s (Err fault) = record { sends = λ all. all; asked = refl }
heard_greets s (Ok act.Nothing) = record { sends = λ all. all; asked = refl }
heard_greets s (Ok (act.Announced devices)) = all_admitted devices s
heard_greets s (Ok (act.Removed ids)) = all_forgot ids s
heard_greets s (Ok (act.Complete head bytes)) = record { sends = λ all. all; asked = (tame_complete s.table head bytes).outbox }
