-- What always holds of a client is kept by each of its calls.
use Rattle.std.proofs.Common.{◌≡◌, refl, sym, ap, subst, ℕ, ◌+◌, ◌≤◌, Bool, true, false, List, [], ◌∷◌, length, Some, None, Option, arith, length-append, inl, inr}
use Rattle.std.specs.Prelude.{All, Result, Ok, Err, map, filter}
use Rattle.std.specs.List.{flat_map}
use Rattle.std.proofs.lemmas.List.Elements.{All-cons, All-nil}
use Rattle.std.proofs.lemmas.Bool.{cases_Bool}
use Rattle.rd_chunk.specs.Carrier.{IsMessage}
use Rattle.rd_core.specs.Core.{CoreState, Did, IsCoreKept, new_core, send}
use Rattle.rd_core.specs.Hearing as hearing
use Rattle.rd_core.specs.Hearing.{messages_of}
use Rattle.rd_core.proofs.KeptLemmas.{AreShort, kept_hear, kept_message, kept_new, kept_send}
use Rattle.rd_devices.specs.declared.list.Announce.{Announce}
use Rattle.rd_devices.specs.DeviceList.{announce_bytes, list_bytes}
use Rattle.rd_devices.specs.Removal.{removal_bytes}
use Rattle.rd_hello.specs.declared.client.ClientState.{ClientState}
use Rattle.rd_hello.specs.declared.client.ClientState.TheVariants.{Start, Named, Confirmed, Offered, Waiting, Ready}
use Rattle.rd_hello.specs.declared.end_fault.EndFault.{EndFault}
use Rattle.rd_hello.specs.declared.end_fault.EndFault.TheVariants.{Memory}
use Rattle.rd_hello.specs.declared.hello.Hello.{Hello}
use Rattle.rd_hello.specs.declared.hello.Hello.TheVariants.{Announce as Announced, Confirm, ServerCaps, LoggedOn}
use Rattle.rd_hello.specs.declared.hello.Version.{Version}
use Rattle.rd_hello.specs.ClientTable.{client_step}
use Rattle.rd_hello.specs.Hello.{hello_bytes}
use Rattle.rd_hello.specs.Own.{client_confirm, client_name, client_sets}
use Rattle.rd_hello.specs.Rows.{OrderRow}
use Rattle.rd_irp.specs.declared.completion.Body.TheVariants.{Fault}
use Rattle.rd_irp.specs.declared.completion.Head.{Head}
use Rattle.rd_irp.specs.declared.completion.Kind.{Kind}
use Rattle.rd_irp.specs.declared.completion.Kind.TheVariants as kind
use Rattle.rd_irp.specs.Fits.{kind_of}
use Rattle.rd_irp.specs.Written.{completion_bytes}
use Rattle.rd_client.specs.declared.heard.Heard.{Heard}
use Rattle.rd_client.specs.Core.{AreDevices, ClientCall, ClientCoreState, ClientDevice, ClientStep, HostSays, IsClientKept, Outgoing, announce_in, announces, becomes_ready, begins, client_hear, client_hear_made, client_opened, client_side, device_marked, direct, directs, hear_says, hears, is_device, is_present, listed, notices, plain, refreshes, replies, requests, sends, tell_added, tell_removed, tells_added, tells_removed, with_mark, with_outgoing}
use Rattle.rd_chunk.proofs.CarrierLemmas.{is_message}

bytes_of : Outgoing → List ℕ
bytes_of o = o.message

-- ---- what the client writes is short

-- the messages of a row fit, if there is one
abbrev ShortRow : Option (OrderRow ClientState) → Type 0
ShortRow None = Unit {0}
ShortRow (Some row) = All (λ (m : List ℕ). IsMessage m) (messages_of row)

no_message : All (λ (m : List ℕ). IsMessage m) []
no_message = All-nil (λ (m : List ℕ). IsMessage m)

confirm_short : (v : Version) → IsMessage (hello_bytes (client_confirm v))
confirm_short v = is_message 12 (hello_bytes (client_confirm v)) refl (omega arith) (omega arith)

name_short : IsMessage (hello_bytes client_name)
name_short = is_message 24 (hello_bytes client_name) refl (omega arith) (omega arith)

sets_short : IsMessage (hello_bytes client_sets)
sets_short = is_message 68 (hello_bytes client_sets) refl (omega arith) (omega arith)

row_short : (state : ClientState) (h : Hello) → ShortRow (client_step state h)
row_short Start (Announced v) =
    All-cons (λ (m : List ℕ). IsMessage m) (hello_bytes (client_confirm v)) (hello_bytes client_name ∷ []) (confirm_short v)
    (All-cons (λ (m : List ℕ). IsMessage m) (hello_bytes client_name) [] name_short no_message)
row_short Named (Confirm v) = no_message
row_short Named (ServerCaps caps) = no_message
row_short Confirmed (ServerCaps caps) = All-cons (λ (m : List ℕ). IsMessage m) (hello_bytes client_sets) [] sets_short no_message
row_short (Offered tells) (Confirm v) = All-cons (λ (m : List ℕ). IsMessage m) (hello_bytes client_sets) [] sets_short no_message
row_short Waiting LoggedOn = no_message
row_short Ready LoggedOn = no_message
row_short _ _ = tt

rows_short : AreShort (λ (o : Outgoing). o.message) client_side
rows_short state h row is = subst ShortRow is (row_short state h)

-- the bytes of some of the devices are no more than those of all
fewer_bytes : (p : ClientDevice → Bool) (ds : List ClientDevice)
    → length (flat_map announce_bytes (map announce_in (filter p ds))) ≤ length (flat_map announce_bytes (map announce_in ds))
fewer_bytes p [] = omega arith
fewer_bytes p (d ∷ ds) = go (p d) refl (fewer_bytes p ds)
  where
    go : (b : Bool) → p d ≡ b → length (flat_map announce_bytes (map announce_in (filter p ds))) ≤ length (flat_map announce_bytes (map announce_in ds))
        → length (flat_map announce_bytes (map announce_in (filter p (d ∷ ds)))) ≤ length (flat_map announce_bytes (map announce_in (d ∷ ds)))
    go true e less = rw e (omega (arith, less, length-append (announce_bytes d.announce) (flat_map announce_bytes (map announce_in (filter p ds))), length-append (announce_bytes d.announce) (flat_map announce_bytes (map announce_in ds))))
    go false e less = rw e (omega (arith, less, length-append (announce_bytes d.announce) (flat_map announce_bytes (map announce_in ds))))

list_length : (list : List Announce) → length (list_bytes list) ≡ 8 + length (flat_map announce_bytes list)
list_length list = omega arith

some_fit : (p : ClientDevice → Bool) (c : ClientCoreState) → AreDevices (announces c) → IsMessage (list_bytes (map announce_in (filter p c.devices)))
some_fit p c are =
    let some : length (list_bytes (map announce_in (filter p c.devices))) ≡ 8 + length (flat_map announce_bytes (map announce_in (filter p c.devices))) = list_length (map announce_in (filter p c.devices)) in
    let all : length (list_bytes (announces c)) ≡ 8 + length (flat_map announce_bytes (announces c)) = list_length (announces c) in
    (omega (arith, some), omega (arith, some, all, fewer_bytes p c.devices, are.fit.1))

pub fault_short : (k : Kind) (head : Head) → IsMessage (completion_bytes k head Fault)
fault_short kind.Create head = is_message 21 (completion_bytes kind.Create head Fault) refl (omega arith) (omega arith)
fault_short kind.Close head = is_message 20 (completion_bytes kind.Close head Fault) refl (omega arith) (omega arith)
fault_short kind.Count head = is_message 21 (completion_bytes kind.Count head Fault) refl (omega arith) (omega arith)
fault_short kind.Buffer head = is_message 20 (completion_bytes kind.Buffer head Fault) refl (omega arith) (omega arith)
fault_short kind.Lock head = is_message 21 (completion_bytes kind.Lock head Fault) refl (omega arith) (omega arith)

pub removal_short : (device : ℕ) → IsMessage (removal_bytes (device ∷ []))
removal_short device = is_message 12 (removal_bytes (device ∷ [])) refl (omega arith) (omega arith)

-- ---- the calls

-- a mark changes no announcement
marked_same : (device : ℕ) (removed : Bool) (d : ClientDevice) → (device_marked device removed d).announce ≡ d.announce
marked_same device removed d = elim (cases_Bool (is_device device d)) [
  | inl e ↦ rw e refl
  | inr e ↦ rw e refl
]

pub same_announces : (device : ℕ) (removed : Bool) (ds : List ClientDevice) → map announce_in (map (device_marked device removed) ds) ≡ map announce_in ds
same_announces device removed [] = refl
same_announces device removed (d ∷ ds) = cc (marked_same device removed d, same_announces device removed ds)

pub kept_written : (c : ClientCoreState) (o : Outgoing) → IsClientKept c → IsMessage o.message → IsClientKept (with_outgoing c o)
kept_written c o kept fits = record { core = kept_message (λ (x : Outgoing). x.message) c.core o kept.core fits; devices = kept.devices }

pub kept_marked : (c : ClientCoreState) (device : ℕ) (removed : Bool) → IsClientKept c → IsClientKept (with_mark c device removed)
kept_marked c device removed kept = record { core = kept.core; devices = subst AreDevices (sym (same_announces device removed c.devices)) kept.devices }

kept_opened : (c : ClientCoreState) (after : CoreState ClientState Outgoing) → IsClientKept (record c { core = after }) → IsClientKept (client_opened c after)
kept_opened c after kept = elim (cases_Bool (becomes_ready (c.core).shake after.shake)) [
  | inl e ↦ rw e (kept_written (record c { core = after }) (plain (list_bytes (listed c))) kept (some_fit is_present c kept.devices))
  | inr e ↦ rw e kept
]

kept_says : (c : ClientCoreState) (says : HostSays) → IsClientKept c → IsClientKept (hear_says c says).0
kept_says c (requests r) kept = record { core = kept.core; devices = kept.devices }
kept_says c (replies r) kept = kept
kept_says c (notices n) kept = kept

kept_made : (c : ClientCoreState) (came : CoreState ClientState Outgoing × Result (Option HostSays) EndFault)
    → IsClientKept (record c { core = came.0 }) → IsClientKept (client_hear_made c came).0
kept_made c (after, Err fault) kept = kept
kept_made c (after, Ok None) kept = kept_opened c after kept
kept_made c (after, Ok (Some says)) kept = kept_says (record c { core = after }) says kept

pub kept_heard : (c : ClientCoreState) (bytes : List ℕ) → IsClientKept c → IsClientKept (client_hear c bytes).0
kept_heard c bytes kept = kept_made c (hearing.hear client_side c.core bytes) (record {
  core = kept_hear client_side (λ (o : Outgoing). o.message) rows_short c.core bytes kept.core;
  devices = kept.devices;
})

kept_did : {E : Type 0} (done old new : ClientCoreState) (answer : Result (Unit {0}) E) → IsClientKept old → IsClientKept done → Did answer done old new → IsClientKept new
kept_did done old new (Ok u) kept gone did = subst IsClientKept (sym did) gone
kept_did done old new (Err cause) kept gone did = subst IsClientKept (sym did) kept

heard_kept : (old new : ClientCoreState) (message : List ℕ) (answer : Result Heard EndFault) → IsClientKept old
    → hearing.Hears client_side (λ (c : ClientCoreState). c.core) client_hear old message answer new → IsClientKept new
heard_kept old new message (Err Memory) kept step = subst IsClientKept (sym step.1) kept
heard_kept old new message answer kept step = subst IsClientKept (ap (λ (x : ClientCoreState × Result Heard EndFault). x.0) step) (kept_heard old message kept)

pub client_kept : (old new : ClientCoreState) (call : ClientCall) → IsClientKept old → ClientStep old call new → IsClientKept new
client_kept old new (begins channel) kept step = subst IsClientKept (sym step) (record { core = kept_new (λ (o : Outgoing). o.message) Start; devices = kept.devices })
client_kept old new (hears message answer) kept step = heard_kept old new message answer kept step.1
client_kept old new (directs job device status answer) kept step =
    kept_did (direct old job device status) old new answer kept
    (kept_written old _ kept (fault_short (kind_of job.op) (record { device = device; completion = job.completion; status = status }))) step.1
client_kept old new (refreshes device body) kept step = subst IsClientKept (sym step.1) (record { core = kept.core; devices = step.0.1 })
client_kept old new (tells_removed device answer) kept step =
    kept_did (tell_removed old device) old new answer kept (kept_written (with_mark old device true) _ (kept_marked old device true kept) (removal_short device)) step.1
client_kept old new (tells_added device answer) kept step =
    kept_did (tell_added old device) old new answer kept (kept_written (with_mark old device false) _ (kept_marked old device false kept) (some_fit (is_device device) old kept.devices)) step.1
client_kept old new (sends answer) kept step =
    subst IsClientKept (ap (λ (x : ClientCoreState × Option Outgoing). x.0) step) (record { core = kept_send (λ (o : Outgoing). o.message) old.core kept.core; devices = kept.devices })

-- ---- by the parts of a client

-- what always holds doesn't hang on the channel
pub kept_elsewhere : (c : ClientCoreState) (channel asked : ℕ) → IsClientKept c → IsClientKept (record c { channel = channel; asked = asked })
kept_elsewhere c channel asked kept = record { core = kept.core; devices = kept.devices }

pub kept_sent : (c : ClientCoreState) (new : CoreState ClientState Outgoing) (sent : Option Outgoing) → IsClientKept c → send c.core ≡ (new, sent) → IsClientKept (record c { core = new })
kept_sent c new sent kept step = record {
  core = subst (λ (e : CoreState ClientState Outgoing). IsCoreKept (λ (o : Outgoing). o.message) e) (ap (λ (x : CoreState ClientState Outgoing × Option Outgoing). x.0) step) (kept_send (λ (o : Outgoing). o.message) c.core kept.core);
  devices = kept.devices;
}

pub some_list_fits : (p : ClientDevice → Bool) (devices : List ClientDevice) → AreDevices (map announce_in devices) → IsMessage (list_bytes (map announce_in (filter p devices)))
some_list_fits p devices are = some_fit p (record { core = new_core Start; channel = 0; asked = 0; devices = devices }) are
