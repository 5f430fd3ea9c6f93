-- Few short announcements whose ids differ are the devices of a client, and they stay so where one gets other data.
use Rattle.std.proofs.Common.{◌≡◌, ◌∙◌, refl, sym, ap, subst, inl, inr, ℕ, ◌+◌, ◌*◌, ◌≤◌, true, false, List, [], ◌∷◌, ◌++◌, length, length-append, Option, Some, None, Result, Ok, Err, arith}
use Rattle.std.specs.Prelude.{map, nat_eq, IsTrue}
use Rattle.std.specs.Int.{to_le_bytes, w32}
use Rattle.std.specs.List.{AllByRecursion, IsDistinct, flat_map}
use Rattle.std.proofs.lemmas.Bool.{cases_Bool}
use Rattle.rd_chunk.specs.Carrier.{IsMessage}
use Rattle.rd_client.proofs.KeptLemmas.{same_announces}
use Rattle.rd_client.specs.Core.{AreDevices, ClientCall, ClientCoreState, ClientDevice, ClientStep, HostSays, MayRefresh, Outgoing, announce_in, announces, becomes_ready, begins, client_hear, client_hear_made, client_opened, client_side, direct, directs, has_device, hear_says, hears, is_device, new_client, notices, refresh, refreshed, refreshes, replies, requests, sends, tell_added, tell_removed, tells_added, tells_removed}
use Rattle.rd_client.specs.declared.heard.Heard.{Heard}
use Rattle.rd_core.specs.Core.{CoreState, Did}
use Rattle.rd_core.specs.Hearing as hearing
use Rattle.rd_devices.specs.declared.list.Announce.{Announce}
use Rattle.rd_devices.specs.DeviceList.{announce_bytes, list_bytes}
use Rattle.rd_hello.specs.declared.client.ClientState.{ClientState}
use Rattle.rd_hello.specs.declared.end_fault.EndFault.{EndFault}
use Rattle.rd_hello.specs.declared.end_fault.EndFault.TheVariants.{Memory}
use Rattle.rd_world.specs.Opening.{AreShort, FitsData, IsShort, KeepsData, ids_of}
use Rattle.rd_declared.specs.Printers.{max_printer_data}

announce_length : (a : Announce) → length (announce_bytes a) ≡ 12 + length a.dos + length a.body
announce_length a = omega (arith, length-append a.dos (to_le_bytes w32 (length a.body) ++ a.body))

all_bytes : (devices : List Announce) → AllByRecursion IsShort devices → length (flat_map announce_bytes devices) ≤ 17452 * length devices
all_bytes [] all = omega arith
all_bytes (a ∷ devices) all =
    let own : length (announce_bytes a) ≡ 12 + length a.dos + length a.body = announce_length a in
    let others : length (flat_map announce_bytes devices) ≤ 17452 * length devices = all_bytes devices all.1 in
    let first : IsShort a = all.0 in
    omega (arith, own, others, first.dos, first.body, length-append (announce_bytes a) (flat_map announce_bytes devices))

list_length : (list : List Announce) → length (list_bytes list) ≡ 8 + length (flat_map announce_bytes list)
list_length list = omega arith

list_fits : (devices : List Announce) → AreShort devices → IsMessage (list_bytes devices)
list_fits devices short =
    let size : length (list_bytes devices) ≡ 8 + length (flat_map announce_bytes devices) = list_length devices in
    let most : length (flat_map announce_bytes devices) ≤ 17452 * length devices = all_bytes devices short.each in
    (omega (arith, size), omega (arith, size, most, short.few))

-- Short announcements whose ids differ are a client's devices.
pub short_devices : (devices : List Announce) → AreShort devices → IsDistinct nat_eq (ids_of devices) → AreDevices devices
short_devices devices short apart = record { few = omega (arith, short.few); apart = apart; fit = list_fits devices short }

-- ---- one gets other data

refreshed_id : (device : ℕ) (body : List ℕ) (d : ClientDevice) → ((refreshed device body d).announce).id ≡ (d.announce).id
refreshed_id device body d = elim (cases_Bool (is_device device d)) [
  | inl e ↦ rw e refl
  | inr e ↦ rw e refl
]

refreshed_one : (device : ℕ) (body : List ℕ) (d : ClientDevice) → length body ≤ max_printer_data → IsShort d.announce → IsShort (refreshed device body d).announce
refreshed_one device body d few short = elim (cases_Bool (is_device device d)) [
  | inl e ↦ rw e (record { dos = short.dos; body = few })
  | inr e ↦ rw e short
]

refreshed_each : (device : ℕ) (body : List ℕ) (ds : List ClientDevice) → length body ≤ max_printer_data → AllByRecursion IsShort (map announce_in ds)
    → AllByRecursion IsShort (map announce_in (map (refreshed device body) ds))
refreshed_each device body [] few all = tt
refreshed_each device body (d ∷ ds) few all = (refreshed_one device body d few all.0, refreshed_each device body ds few all.1)

refreshed_ids : (device : ℕ) (body : List ℕ) (ds : List ClientDevice) → ids_of (map announce_in (map (refreshed device body) ds)) ≡ ids_of (map announce_in ds)
refreshed_ids device body [] = refl
refreshed_ids device body (d ∷ ds) = cc (refreshed_id device body d, refreshed_ids device body ds)

refreshed_count : (device : ℕ) (body : List ℕ) (ds : List ClientDevice) → length (map announce_in (map (refreshed device body) ds)) ≡ length (map announce_in ds)
refreshed_count device body [] = refl
refreshed_count device body (d ∷ ds) = let others = refreshed_count device body ds in omega (arith, others)

-- The announcements stay short where one gets data that is no longer than a printer's.
pub refresh_short : (c : ClientCoreState) (device : ℕ) (body : List ℕ) → length body ≤ max_printer_data → AreShort (announces c) → AreShort (announces (refresh c device body))
refresh_short c device body few short =
    let count : length (announces (refresh c device body)) ≡ length (announces c) = refreshed_count device body c.devices in
    record { few = omega (arith, count, short.few); each = refreshed_each device body c.devices few short.each }

-- The ids stay.
pub refresh_ids : (c : ClientCoreState) (device : ℕ) (body : List ℕ) → ids_of (announces (refresh c device body)) ≡ ids_of (announces c)
refresh_ids c device body = refreshed_ids device body c.devices

-- A device of the client may get such data.
pub may_refresh : (c : ClientCoreState) (device : ℕ) (body : List ℕ) → AreShort (announces c) → IsDistinct nat_eq (ids_of (announces c)) → length body ≤ max_printer_data
    → IsTrue (has_device c device) → MayRefresh c device body
may_refresh c device body short apart few has =
    (has, short_devices (announces (refresh c device body)) (refresh_short c device body few short) (subst (λ (ids : List ℕ). IsDistinct nat_eq ids) (sym (refresh_ids c device body)) apart))

-- ---- other calls

opened_same : (c : ClientCoreState) (after : CoreState ClientState Outgoing) → announces (client_opened c after) ≡ announces c
opened_same c after = elim (cases_Bool (becomes_ready (c.core).shake after.shake)) [
  | inl e ↦ rw e refl
  | inr e ↦ rw e refl
]

says_same : (c : ClientCoreState) (says : HostSays) → announces (hear_says c says).0 ≡ announces c
says_same c (requests r) = refl
says_same c (replies r) = refl
says_same c (notices n) = refl

made_same : (c : ClientCoreState) (came : CoreState ClientState Outgoing × Result (Option HostSays) EndFault) → announces (client_hear_made c came).0 ≡ announces c
made_same c (after, Err fault) = refl
made_same c (after, Ok None) = opened_same c after
made_same c (after, Ok (Some says)) = says_same (record c { core = after }) says

heard_same : (old new : ClientCoreState) (message : List ℕ) (answer : Result Heard EndFault)
    → hearing.Hears client_side (λ (c : ClientCoreState). c.core) client_hear old message answer new → announces new ≡ announces old
heard_same old new message (Err Memory) step = ap announces step.1
heard_same old new message answer step =
    sym (ap (λ (x : ClientCoreState × Result Heard EndFault). announces x.0) step) ∙ made_same old (hearing.hear client_side old.core message)

did_same : {E : Type 0} (done old new : ClientCoreState) (answer : Result (Unit {0}) E) → announces done ≡ announces old → Did answer done old new → announces new ≡ announces old
did_same done old new (Ok u) same did = ap announces did ∙ same
did_same done old new (Err cause) same did = ap announces did

-- A call that gives no device other data leaves the announcements as they are.
pub announces_same : (old new : ClientCoreState) (call : ClientCall) → KeepsData call → ClientStep old call new → announces new ≡ announces old
announces_same old new (begins channel) keeps step = ap announces step
announces_same old new (hears message answer) keeps step = heard_same old new message answer step.1
announces_same old new (directs job device status answer) keeps step = did_same (direct old job device status) old new answer refl step.1
announces_same old new (refreshes device body) keeps step = absurd keeps
announces_same old new (tells_removed device answer) keeps step = did_same (tell_removed old device) old new answer (same_announces device true old.devices) step.1
announces_same old new (tells_added device answer) keeps step = did_same (tell_added old device) old new answer (same_announces device false old.devices) step.1
announces_same old new (sends answer) keeps step = sym (ap (λ (x : ClientCoreState × Option Outgoing). announces x.0) step)

-- ---- the first channel

-- A new client announces the devices that it was made with.
pub announces_first : (devices : List Announce) → announces (new_client devices) ≡ devices
announces_first [] = refl
announces_first (a ∷ devices) = ap (λ (list : List Announce). a ∷ list) (announces_first devices)

-- ---- all calls

-- The announcements of a client stay short, where data that one gets is no longer than a printer's.
pub short_kept : (old new : ClientCoreState) (call : ClientCall) → FitsData call → ClientStep old call new → AreShort (announces old) → AreShort (announces new)
short_kept old new (refreshes device body) fits step short = subst (λ (c : ClientCoreState). AreShort (announces c)) (sym step.1) (refresh_short old device body fits short)
short_kept old new call fits step short = subst AreShort (sym (announces_same old new call tt step)) short

-- No call changes the ids.
pub ids_kept : (old new : ClientCoreState) (call : ClientCall) → ClientStep old call new → ids_of (announces new) ≡ ids_of (announces old)
ids_kept old new (refreshes device body) step = ap (λ (c : ClientCoreState). ids_of (announces c)) step.1 ∙ refresh_ids old device body
ids_kept old new call step = ap ids_of (announces_same old new call tt step)
