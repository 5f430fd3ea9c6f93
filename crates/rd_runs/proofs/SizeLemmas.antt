-- What either end has to send is of a message's size.
use Rattle.std.proofs.Common.{◌≡◌, ◌∙◌, refl, sym, ap, subst, ℕ, ◌+◌, ◌≤◌, arith, Bool, true, false, List, [], ◌∷◌, ◌++◌, length, fold, Some, None, Option, Result, Ok, Err, All, length-append, inl, inr}
use Rattle.std.specs.Prelude.{if◌then◌else◌, nat_le}
use Rattle.std.specs.Option.{IfSome, option_map_or}
use Rattle.std.proofs.lemmas.Bool.{cases_Bool}
use Rattle.std.proofs.lemmas.Bool.Decides.{nat_tests}
use Rattle.std.proofs.lemmas.List.Elements.{All-cons, All-head, All-nil, All-tail}
use Rattle.rd_base.specs.declared.status.Status.{Status}
use Rattle.rd_base.specs.Statuses.{not_supported}
use Rattle.rd_base.proofs.WrittenPathLemmas.{length-units}
use Rattle.rd_chunk.specs.Carrier.{IsMessage}
use Rattle.rd_chunk.proofs.CarrierLemmas.{is_message}
use Rattle.rd_client.specs.Core as client
use Rattle.rd_client.specs.Core.{AreDevices, ClientCoreState, ClientDevice, HostSays, IsClientKept, Outgoing, announces, becomes_ready, begins, client_begin, client_hear, client_hear_made, client_opened, client_side, has_device, is_device, listed, listed_one, notices, plain, refresh, replies, requests}
use Rattle.rd_client.proofs.KeptLemmas.{client_kept, fault_short, kept_heard, kept_marked, kept_written, removal_short, same_announces, some_list_fits}
use Rattle.rd_core.specs.Core.{CoreState, IsCoreKept}
use Rattle.rd_core.specs.Hearing as hearing
use Rattle.rd_core.specs.Hearing.{messages_of}
use Rattle.rd_core.proofs.KeptLemmas.{AreShort as RowsAreShort, kept_hear, kept_message}
use Rattle.rd_devices.specs.declared.list.Announce.{Announce}
use Rattle.rd_devices.specs.declared.printer.PrinterInfo.{PrinterInfo}
use Rattle.rd_devices.specs.DeviceList.{list_bytes}
use Rattle.rd_devices.specs.DeviceReply.{reply_bytes}
use Rattle.rd_devices.specs.PrinterInfo.{printer_bytes}
use Rattle.rd_drive.specs.declared.plan.Job.{Job}
use Rattle.rd_hello.specs.declared.client.ClientState.{ClientState}
use Rattle.rd_hello.specs.declared.end_fault.EndFault.{EndFault}
use Rattle.rd_hello.specs.declared.hello.Hello.{Hello}
use Rattle.rd_hello.specs.declared.hello.Hello.TheVariants.{Confirm, Name, ClientCaps, LoggedOn}
use Rattle.rd_hello.specs.declared.host.HostState.{HostState}
use Rattle.rd_hello.specs.declared.host.HostState.TheVariants.{Start, Confirmed, Offered}
use Rattle.rd_hello.specs.Hello.{hello_bytes}
use Rattle.rd_hello.specs.HostTable.{host_step}
use Rattle.rd_hello.specs.Own.{host_sets, tell_log_on}
use Rattle.rd_hello.specs.Rows.{OrderRow}
use Rattle.rd_host.specs.Core as host
use Rattle.rd_host.specs.Core.{HostCoreState, IsHostKept, as_it_is, host_hear, host_hear_made, host_side}
use Rattle.rd_host.specs.declared.act.Act.{Act}
use Rattle.rd_host.specs.declared.act.Act.TheVariants as act
use Rattle.rd_host.specs.Served.{is_served_type}
use Rattle.rd_irp.specs.Fits.{kind_of}
use Rattle.rd_pending.specs.declared.calls.LiveNo.{LiveNo}
use Rattle.rd_pending.specs.Table as table
use Rattle.rd_pending.specs.Table.{TableState}
use Rattle.rd_printer.specs.Cache.{CacheState, kept_for}
use Rattle.rd_declared.proofs.PrinterLemmas.{info_length}
use Rattle.rd_world.proofs.ShortLemmas.{may_refresh, refresh_short}
use Rattle.rd_world.proofs.ClientLemmas.{refresh_elsewhere}
use Rattle.rd_declared.specs.Devices.{PrinterNames, config_of, max_config, printer_data, zero_text}
use Rattle.rd_deeds.specs.Host.{HostSide, admits, forgets, hears, host_heard, live_code, lived}
use Rattle.rd_world.specs.Opening.{AreShort}
use Rattle.rd_declared.specs.Printers.{AreShortNames, max_printer_data}

-- ---- a host's end

abbrev ShortRow : Option (OrderRow HostState) → Type 0
ShortRow o = IfSome o (λ (row : OrderRow HostState). All (λ (m : List ℕ). IsMessage m) (messages_of row))

one_short : (m : List ℕ) → IsMessage m → All (λ (m : List ℕ). IsMessage m) (m ∷ [])
one_short m fits = All-cons (λ (m : List ℕ). IsMessage m) m [] fits (All-nil (λ (m : List ℕ). IsMessage m))

row_short : (state : HostState) (h : Hello) → ShortRow (host_step state h)
row_short Start (Confirm v) = All-nil (λ (m : List ℕ). IsMessage m)
row_short (Confirmed v) (Name unicode page bytes) =
    All-cons (λ (m : List ℕ). IsMessage m) (hello_bytes host_sets) (hello_bytes (Confirm v) ∷ []) (is_message 68 (hello_bytes host_sets) refl (omega arith) (omega arith))
    (one_short (hello_bytes (Confirm v)) (is_message 12 (hello_bytes (Confirm v)) refl (omega arith) (omega arith)))
row_short Offered (ClientCaps caps) = elim (cases_Bool (tell_log_on caps)) [
  | inl e ↦ rw e (one_short (hello_bytes LoggedOn) (is_message 4 (hello_bytes LoggedOn) refl (omega arith) (omega arith)))
  | inr e ↦ rw e (All-nil (λ (m : List ℕ). IsMessage m))
]
row_short _ _ = tt

rows_short : RowsAreShort as_it_is host_side
rows_short state h row is = subst ShortRow is (row_short state h)

made_kept : (h : HostCoreState) (r : CoreState HostState (List ℕ) × Result (Option Act) EndFault) → IsCoreKept as_it_is r.0 → IsHostKept (host_hear_made h r).0
made_kept h (after, Err fault) kept = kept
made_kept h (after, Ok None) kept = kept
made_kept h (after, Ok (Some says)) kept = kept

pub host_heard_kept : (h : HostCoreState) (m : List ℕ) → IsHostKept h → IsHostKept (host_hear h m).0
host_heard_kept h m kept = made_kept h (hearing.hear host_side h.core m) (kept_hear host_side as_it_is rows_short h.core m kept)

replied_kept : (h : HostCoreState) (device : ℕ) (code : Status) → IsHostKept h → IsHostKept (host.reply h device code)
replied_kept h device code kept =
    let bytes : List ℕ = reply_bytes (record { id = device; code = code }) in kept_message as_it_is h.core bytes kept (is_message 12 bytes refl (omega arith) (omega arith))

admitted_kept : (s : HostSide) (a : Announce) → IsHostKept s.core → IsHostKept (admits s a).core
admitted_kept s a kept = by (is_served_type a.kind)
  where
    live : (r : TableState × Result ℕ LiveNo) → IsHostKept (lived s a.id r).core
    live (after, life) = replied_kept s.core a.id (live_code life) kept

    by : (b : Bool) → IsHostKept (if b then lived s a.id (table.live s.table a.id) else record s { core = host.reply s.core a.id not_supported }).core
    by true = live (table.live s.table a.id)
    by false = replied_kept s.core a.id not_supported kept

all_admitted_kept : (devices : List Announce) (s : HostSide) → IsHostKept s.core → IsHostKept (fold admits s devices).core
all_admitted_kept [] s kept = kept
all_admitted_kept (a ∷ devices) s kept = all_admitted_kept devices (admits s a) (admitted_kept s a kept)

all_forgotten_kept : (ids : List ℕ) (s : HostSide) → IsHostKept s.core → IsHostKept (fold forgets s ids).core
all_forgotten_kept [] s kept = kept
all_forgotten_kept (id ∷ ids) s kept = all_forgotten_kept ids (forgets s id) kept

acted_kept : (s : HostSide) (r : Result Act EndFault) → IsHostKept s.core → IsHostKept (host_heard s r).core
acted_kept s (Err fault) kept = kept
acted_kept s (Ok act.Nothing) kept = kept
acted_kept s (Ok (act.Announced devices)) kept = all_admitted_kept devices s kept
acted_kept s (Ok (act.Removed ids)) kept = all_forgotten_kept ids s kept
acted_kept s (Ok (act.Complete head bytes)) kept = kept

pub side_heard_kept : (s : HostSide) (m : List ℕ) → IsHostKept s.core → IsHostKept (hears s m).core
side_heard_kept s m kept = let made = host_hear s.core m in acted_kept (record s { core = made.0 }) made.1 (host_heard_kept s.core m kept)

-- ---- a client's end

-- what it has to send fits, and its announcements are short
pub record ClientFits (c : ClientCoreState) : Type 0 where
  pub kept : IsClientKept c
  pub short : AreShort (announces c)

opened_same : (c : ClientCoreState) (after : CoreState ClientState Outgoing) → announces (client_opened c after) ≡ announces c
opened_same c after = by (becomes_ready (c.core).shake after.shake)
  where
    by : (b : Bool) → announces (if b then client.with_outgoing (record c { core = after }) (plain (list_bytes (listed c))) else record c { core = after }) ≡ announces c
    by true = refl
    by false = refl

made_same : (c : ClientCoreState) (r : CoreState ClientState Outgoing × Result (Option HostSays) EndFault) → announces (client_hear_made c r).0 ≡ announces c
made_same c (after, Err fault) = refl
made_same c (after, Ok None) = opened_same c after
made_same c (after, Ok (Some (requests r))) = refl
made_same c (after, Ok (Some (replies r))) = refl
made_same c (after, Ok (Some (notices n))) = refl

module _ (c : ClientCoreState) (f : ClientFits c) where
  pub heard_fits : (m : List ℕ) → ClientFits (client_hear c m).0
  heard_fits m = record { kept = kept_heard c m f.kept; short = subst AreShort (sym (made_same c (hearing.hear client_side c.core m))) f.short }

  pub direct_fits : (job : Job) (device : ℕ) (st : Status) → ClientFits (client.direct c job device st)
  direct_fits job device st =
      record { kept = kept_written c _ f.kept (fault_short (kind_of job.op) (record { device = device; completion = job.completion; status = st })); short = f.short }

  marked_short : (device : ℕ) (removed : Bool) → AreShort (announces (client.with_mark c device removed))
  marked_short device removed = subst AreShort (sym (same_announces device removed c.devices)) f.short

  pub removed_fits : (device : ℕ) → ClientFits (client.tell_removed c device)
  removed_fits device = record { kept = kept_written (client.with_mark c device true) _ (kept_marked c device true f.kept) (removal_short device); short = marked_short device true }

  pub added_fits : (device : ℕ) → ClientFits (client.tell_added c device)
  added_fits device = record {
    kept = kept_written (client.with_mark c device false) _ (kept_marked c device false f.kept) (some_list_fits (is_device device) c.devices f.kept.devices);
    short = marked_short device false;
  }

  pub begun_fits : (channel : ℕ) → ClientFits (client_begin c channel)
  begun_fits channel = record { kept = client_kept c (client_begin c channel) (begins channel) f.kept refl; short = f.short }

  pub refreshed_fits : (device : ℕ) (body : List ℕ) → length body ≤ max_printer_data → ClientFits (refresh c device body)
  refreshed_fits device body few = by (has_device c device) refl
    where
      by : (b : Bool) → has_device c device ≡ b → ClientFits (refresh c device body)
      by true has = record {
        kept = record { core = f.kept.core; devices = (may_refresh c device body f.short f.kept.devices.apart few has).1 };
        short = refresh_short c device body few f.short;
      }
      by false none = let same : refresh c device body ≡ c = refresh_elsewhere c device body none in subst ClientFits (sym same) f

  pub emptied_fits : ClientFits (record c { core = record c.core { outbox = [] } })
  emptied_fits = record {
    kept = record { core = record { fit = All-nil (λ (o : Outgoing). IsMessage o.message); wrong = f.kept.core.wrong }; devices = f.kept.devices };
    short = f.short;
  }

  pub sent_fits : (after : ClientCoreState) (o : Outgoing) → client.client_send c ≡ (after, Some o) → IsMessage o.message × ClientFits after
  sent_fits after o made = by (c.core).outbox refl
    where
      by : (os : List Outgoing) → (c.core).outbox ≡ os → IsMessage o.message × ClientFits after
      by [] is = let none : (client.client_send c).1 ≡ None = rw is refl in absurd (cc (none, ap (λ (r : ClientCoreState × Option Outgoing). r.1) made))
      by (first ∷ os) is =
          let now : ClientCoreState = record c { core = record c.core { outbox = os } } in
          let one : client.client_send c ≡ (now, Some first) = rw is refl in
          let all = subst (All (λ (o : Outgoing). IsMessage o.message)) is f.kept.core.fit in
          let same : first ≡ o = (let both : Some first ≡ Some o = ap (λ (r : ClientCoreState × Option Outgoing). r.1) (sym one ∙ made) in cc) in
          let left : now ≡ after = ap (λ (r : ClientCoreState × Option Outgoing). r.0) (sym one ∙ made) in (
            subst (λ (x : Outgoing). IsMessage x.message) same (All-head (λ (o : Outgoing). IsMessage o.message) first os all),
            subst ClientFits left (record {
              kept = record {
                core = record { fit = All-tail (λ (o : Outgoing). IsMessage o.message) first os all; wrong = f.kept.core.wrong };
                devices = f.kept.devices;
              };
              short = f.short;
            }),
          )

-- ---- the data of a printer

text_few : (units : List ℕ) → length units ≤ 255 → length (zero_text units) ≤ 512
text_few units few = omega (arith, few, length-units (units ++ 0 ∷ []), length-append units (0 ∷ []))

config_few : (cache : CacheState) (name : List ℕ) → length (config_of cache name) ≤ max_config
config_few cache name = by (kept_for cache (zero_text name))
  where
    by : (o : Option (List ℕ)) → length (option_map_or (λ (bytes : List ℕ). if nat_le (length bytes) max_config then bytes else []) o []) ≤ max_config
    by None = omega arith
    by (Some bytes) = when (nat_le (length bytes) max_config) refl
      where
        when : (b : Bool) → nat_le (length bytes) max_config ≡ b → length (if b then bytes else []) ≤ max_config
        when true few = grind (arith, nat_tests, few)
        when false many = omega arith

pub data_few : (cache : CacheState) (names : PrinterNames) → AreShortNames names → length (printer_data cache names) ≤ max_printer_data
data_few cache names short =
    let info : PrinterInfo =
    record { flags = 0; page = 0; pnp = []; driver = zero_text names.driver; name = zero_text names.printer; config = config_of cache names.printer } in
    let long : length (printer_bytes info) ≡ 24 + length info.pnp + length info.driver + length info.name + length info.config = info_length info in
    omega (arith, long, text_few names.driver short.driver, text_few names.printer short.printer, config_few cache names.printer)
