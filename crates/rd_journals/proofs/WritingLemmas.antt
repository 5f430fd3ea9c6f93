-- What a client has to write after it heard a message: no completion that it hadn't before.
use Rattle.std.proofs.Common.{◌≡◌, ◌∙◌, refl, sym, ap, subst, inl, inr, ℕ, Bool, true, false, cond, List, [], ◌∷◌, ◌++◌, map, Some, None, Option, append-nil, append_assoc}
use Rattle.std.specs.Prelude.{Result, Err}
use Rattle.std.specs.Option.{option_to_list}
use Rattle.rd_base.specs.declared.packet.Packet.TheVariants as packet
use Rattle.rd_client.specs.Core as client
use Rattle.rd_client.specs.Core.{ClientCoreState, HostSays, Outgoing, client_hear, client_hear_made, client_opened, client_side, plain}
use Rattle.rd_client.specs.declared.heard.Heard.{Heard}
use Rattle.rd_core.specs.Core.{CoreState}
use Rattle.rd_core.specs.Hearing as hearing
use Rattle.rd_core.specs.Hearing.{Meaning, messages_of, nothing, opens, says, wrong}
use Rattle.rd_devices.specs.DeviceList.{list_bytes}
use Rattle.rd_devices.specs.Removal.{removal_bytes}
use Rattle.rd_devices.specs.declared.list.Announce.{Announce}
use Rattle.rd_hello.specs.Hello.{hello_bytes}
use Rattle.rd_hello.specs.Moves.{is_of}
use Rattle.rd_hello.specs.declared.client.ClientState.{ClientState}
use Rattle.rd_hello.specs.declared.end_fault.EndFault.{EndFault}
use Rattle.rd_hello.specs.declared.hello.Hello.{Hello}
use Rattle.rd_hello.specs.declared.hello.Hello.TheVariants as hello
use Rattle.rd_deeds.specs.Talk.{Has}
use Rattle.rd_station.proofs.Members.{has_append}
use Rattle.rd_deeds.proofs.Messages.{packet_is, written_packet}

-- it answers no request, and is no completion
abbrev pub IsOwn : Outgoing → Type 0
IsOwn o = (o.answers ≡ None) × (is_of packet.IoCompletion o.message ≡ false)

abbrev pub AreOwn : List Outgoing → Type 0
AreOwn os = (o : Outgoing) → Has o os → IsOwn o

hello_own : (x : Hello) → is_of packet.IoCompletion (hello_bytes x) ≡ false
hello_own (hello.Announce v) = packet_is packet.ServerAnnounce packet.IoCompletion _ (written_packet packet.ServerAnnounce _)
hello_own (hello.Confirm v) = packet_is packet.ClientIdConfirm packet.IoCompletion _ (written_packet packet.ClientIdConfirm _)
hello_own (hello.Name a b c) = packet_is packet.ClientName packet.IoCompletion _ (written_packet packet.ClientName _)
hello_own (hello.ServerCaps caps) = packet_is packet.ServerCapability packet.IoCompletion _ (written_packet packet.ServerCapability _)
hello_own (hello.ClientCaps caps) = packet_is packet.ClientCapability packet.IoCompletion _ (written_packet packet.ClientCapability _)
hello_own hello.LoggedOn = packet_is packet.UserLoggedOn packet.IoCompletion _ (written_packet packet.UserLoggedOn _)

pub list_own : (list : List Announce) → is_of packet.IoCompletion (list_bytes list) ≡ false
list_own list = packet_is packet.DeviceListAnnounce packet.IoCompletion _ (written_packet packet.DeviceListAnnounce _)

pub removal_own : (ids : List ℕ) → is_of packet.IoCompletion (removal_bytes ids) ≡ false
removal_own ids = packet_is packet.DeviceListRemove packet.IoCompletion _ (written_packet packet.DeviceListRemove _)

none_own : AreOwn []
none_own o has = absurd has

one_own : (m : List ℕ) → is_of packet.IoCompletion m ≡ false → AreOwn (plain m ∷ [])
one_own m own o (inl same) = subst IsOwn (sym same) (refl, own)
one_own m own o (inr none) = absurd none

hellos_own : (xs : List Hello) → AreOwn (map plain (map hello_bytes xs))
hellos_own [] o has = absurd has
hellos_own (x ∷ xs) o (inl same) = subst IsOwn (sym same) (refl, hello_own x)
hellos_own (x ∷ xs) o (inr there) = hellos_own xs o there

more_own : (xs ys : List Outgoing) → AreOwn xs → AreOwn ys → AreOwn (xs ++ ys)
more_own xs ys all others o has = elim (has_append o xs ys has) [ inl before ↦ all o before | inr later ↦ others o later ]

-- what was to be written, and own messages after it
abbrev pub AddsOwn : List Outgoing → List Outgoing → Type 0
AddsOwn old new = (more : List Outgoing) × (new ≡ old ++ more) × AreOwn more

adds_none : (old : List Outgoing) → AddsOwn old old
adds_none old = ([], sym (append-nil old), none_own)

pub adds_own : (old : List Outgoing) (m : List ℕ) → is_of packet.IoCompletion m ≡ false → AddsOwn old (old ++ plain m ∷ [])
adds_own old m own = (plain m ∷ [], refl, one_own m own)

opened_adds : (c : ClientCoreState) (after : CoreState ClientState Outgoing) → AddsOwn (c.core).outbox after.outbox → AddsOwn (c.core).outbox ((client_opened c after).core).outbox
opened_adds c after (more, same, own) = by (client.becomes_ready (c.core).shake after.shake)
  where
    next : ClientCoreState
    next = record c { core = after }

    list : List ℕ
    list = list_bytes (client.listed c)

    by : (b : Bool) → AddsOwn (c.core).outbox ((cond b (client.with_outgoing next (plain list)) next).core).outbox
    by true = (
      more ++ plain list ∷ [],
      ap (λ (os : List Outgoing). os ++ plain list ∷ []) same ∙ append_assoc (c.core).outbox more (plain list ∷ []),
      more_own more (plain list ∷ []) own (one_own list (list_own (client.listed c))),
    )
    by false = (more, same, own)

abbrev made : ClientCoreState → Meaning ClientState HostSays → ClientCoreState × Result Heard EndFault
made c s = client_hear_made c (hearing.hear_said client_side c.core s)

said_adds : (c : ClientCoreState) (s : Meaning ClientState HostSays) → AddsOwn (c.core).outbox (((made c s).0).core).outbox
said_adds c (wrong fault) = adds_none (c.core).outbox
said_adds c nothing = opened_adds c c.core (adds_none (c.core).outbox)
said_adds c (opens row) =
    opened_adds c (hearing.after_row client_side c.core row) (map plain (messages_of row), refl, hellos_own (option_to_list row.first ++ option_to_list row.second))
said_adds c (says (client.requests r)) = adds_none (c.core).outbox
said_adds c (says (client.replies r)) = adds_none (c.core).outbox
said_adds c (says (client.notices n)) = adds_none (c.core).outbox

deaf : (c : ClientCoreState) (m : List ℕ) (fault : EndFault) → (c.core).fault ≡ Some fault → client_hear c m ≡ (c, Err fault)
deaf c m fault e = rw e refl

listening : (c : ClientCoreState) (m : List ℕ) → (c.core).fault ≡ None → client_hear c m ≡ made c (hearing.said client_side (c.core).shake m)
listening c m e = rw e refl

pub hear_adds : (c : ClientCoreState) (m : List ℕ) → AddsOwn (c.core).outbox (((client_hear c m).0).core).outbox
hear_adds c m = by (c.core).fault refl
  where
    by : (f : Option EndFault) → (c.core).fault ≡ f → AddsOwn (c.core).outbox (((client_hear c m).0).core).outbox
    by (Some fault) e = subst (λ (r : ClientCoreState × Result Heard EndFault). AddsOwn (c.core).outbox ((r.0).core).outbox) (sym (deaf c m fault e)) (adds_none (c.core).outbox)
    by None e = subst (λ (r : ClientCoreState × Result Heard EndFault). AddsOwn (c.core).outbox ((r.0).core).outbox) (sym (listening c m e)) (said_adds c (hearing.said client_side (c.core).shake m))
