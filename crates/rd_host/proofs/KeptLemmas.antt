-- What always holds of a host is kept by each of its calls.
use Rattle.std.proofs.Common.{◌≡◌, refl, sym, ap, subst, ℕ, List, [], ◌∷◌, Some, None, Option, arith, inl, inr}
use Rattle.std.specs.Prelude.{All, Result, Ok, Err}
use Rattle.std.proofs.lemmas.List.Elements.{All-cons, All-nil}
use Rattle.std.proofs.lemmas.Bool.{cases_Bool}
use Rattle.rd_base.specs.declared.status.Status.{Status}
use Rattle.rd_chunk.specs.Carrier.{IsMessage}
use Rattle.rd_core.specs.Core.{CoreState, Did, IsCoreKept, send}
use Rattle.rd_core.specs.Hearing as hearing
use Rattle.rd_core.specs.Hearing.{messages_of}
use Rattle.rd_core.proofs.KeptLemmas.{AreShort, kept_hear, kept_message, kept_new, kept_send}
use Rattle.rd_devices.specs.DeviceReply.{reply_bytes}
use Rattle.rd_hello.specs.declared.capability.Cap.{Cap}
use Rattle.rd_hello.specs.declared.end_fault.EndFault.{EndFault}
use Rattle.rd_hello.specs.declared.end_fault.EndFault.TheVariants.{Memory}
use Rattle.rd_hello.specs.declared.hello.Hello.{Hello}
use Rattle.rd_hello.specs.declared.hello.Hello.TheVariants.{Confirm, Name, ClientCaps, LoggedOn}
use Rattle.rd_hello.specs.declared.hello.Version.{Version}
use Rattle.rd_hello.specs.declared.host.HostState.{HostState}
use Rattle.rd_hello.specs.declared.host.HostState.TheVariants.{Start, Confirmed, Offered}
use Rattle.rd_hello.specs.Hello.{hello_bytes}
use Rattle.rd_hello.specs.HostTable.{host_step}
use Rattle.rd_hello.specs.Own.{host_announce, host_sets, tell_log_on}
use Rattle.rd_hello.specs.Rows.{OrderRow}
use Rattle.rd_host.specs.declared.act.Act.{Act}
use Rattle.rd_host.specs.Core.{HostCall, HostCoreState, HostStep, IsHostKept, as_it_is, begins, hears, host_begin, host_hear, host_hear_made, host_side, replies, reply, sends, tell, tells}
use Rattle.rd_host.specs.Heard.{HostEndHears}
use Rattle.rd_chunk.proofs.CarrierLemmas.{is_message}

-- ---- what the host writes is short

-- the messages of a row fit, if there is one
abbrev ShortRow : Option (OrderRow HostState) → Type 0
ShortRow None = Unit {0}
ShortRow (Some row) = All (λ (m : List ℕ). IsMessage m) (messages_of row)

no_message : All (λ (m : List ℕ). IsMessage m) []
no_message = All-nil (λ (m : List ℕ). IsMessage m)

confirm_short : (v : Version) → IsMessage (hello_bytes (Confirm v))
confirm_short v = is_message 12 (hello_bytes (Confirm v)) refl (omega arith) (omega arith)

sets_short : IsMessage (hello_bytes host_sets)
sets_short = is_message 68 (hello_bytes host_sets) refl (omega arith) (omega arith)

log_on_short : IsMessage (hello_bytes LoggedOn)
log_on_short = is_message 4 (hello_bytes LoggedOn) refl (omega arith) (omega arith)

announce_short : (client : ℕ) → IsMessage (hello_bytes (host_announce client))
announce_short client = is_message 12 (hello_bytes (host_announce client)) refl (omega arith) (omega arith)

offered_short : (caps : List Cap) → ShortRow (host_step Offered (ClientCaps caps))
offered_short caps = elim (cases_Bool (tell_log_on caps)) [
  | inl e ↦ rw e (All-cons (λ (m : List ℕ). IsMessage m) (hello_bytes LoggedOn) [] log_on_short no_message)
  | inr e ↦ rw e no_message
]

row_short : (state : HostState) (h : Hello) → ShortRow (host_step state h)
row_short Start (Confirm v) = no_message
row_short (Confirmed v) (Name unicode page bytes) =
    All-cons (λ (m : List ℕ). IsMessage m) (hello_bytes host_sets) (hello_bytes (Confirm v) ∷ []) sets_short
    (All-cons (λ (m : List ℕ). IsMessage m) (hello_bytes (Confirm v)) [] (confirm_short v) no_message)
row_short Offered (ClientCaps caps) = offered_short caps
row_short _ _ = tt

rows_short : AreShort as_it_is host_side
rows_short state h row is = subst ShortRow is (row_short state h)

reply_short : (device : ℕ) (code : Status) → IsMessage (reply_bytes (record { id = device; code = code }))
reply_short device code = is_message 12 (reply_bytes (record { id = device; code = code })) refl (omega arith) (omega arith)

-- ---- the calls

kept_made : (h : HostCoreState) (came : CoreState HostState (List ℕ) × Result (Option Act) EndFault)
    → IsHostKept (record h { core = came.0 }) → IsHostKept (host_hear_made h came).0
kept_made h (after, Err fault) kept = kept
kept_made h (after, Ok None) kept = kept
kept_made h (after, Ok (Some says)) kept = kept

kept_heard : (h : HostCoreState) (bytes : List ℕ) → IsHostKept h → IsHostKept (host_hear h bytes).0
kept_heard h bytes kept = kept_made h (hearing.hear host_side h.core bytes) (kept_hear host_side as_it_is rows_short h.core bytes kept)

kept_did : {E : Type 0} (done old new : HostCoreState) (answer : Result (Unit {0}) E) → IsHostKept old → IsHostKept done → Did answer done old new → IsHostKept new
kept_did done old new (Ok u) kept gone did = subst IsHostKept (sym did) gone
kept_did done old new (Err cause) kept gone did = subst IsHostKept (sym did) kept

heard_kept : (old new : HostCoreState) (message : List ℕ) (answer : Result Act EndFault) → IsHostKept old
    → hearing.Hears host_side (λ (h : HostCoreState). h.core) host_hear old message answer new → IsHostKept new
heard_kept old new message (Err Memory) kept step = subst IsHostKept (sym step.1) kept
heard_kept old new message answer kept step = subst IsHostKept (ap (λ (x : HostCoreState × Result Act EndFault). x.0) step) (kept_heard old message kept)

pub host_kept : (old new : HostCoreState) (call : HostCall) → IsHostKept old → HostStep old call new → IsHostKept new
host_kept old new (begins answer) kept step =
    kept_did (host_begin old) old new answer kept (kept_message as_it_is _ (hello_bytes (host_announce old.client)) (kept_new as_it_is Start) (announce_short old.client)) step
host_kept old new (hears message answer) kept step = heard_kept old new message answer kept step
host_kept old new (replies device code answer) kept step =
    kept_did (reply old device code) old new answer kept (kept_message as_it_is old.core _ kept (reply_short device code)) step.1
host_kept old new (tells n answer) kept step = kept_did (tell old n) old new answer kept (kept_message as_it_is old.core _ kept step.0.fit) step.1
host_kept old new (sends answer) kept step =
    subst IsHostKept (ap (λ (x : HostCoreState × Option (List ℕ)). x.0) step) (kept_send as_it_is old.core kept)

-- ---- the end alone

pub end_heard_kept : (old new : CoreState HostState (List ℕ)) (message : List ℕ) (answer : Result Act EndFault) → IsCoreKept as_it_is old → HostEndHears old message answer new → IsCoreKept as_it_is new
end_heard_kept old new message answer kept step = host_kept (record { client = 0; core = old }) (record { client = 0; core = new }) (hears message answer) kept (step 0)

pub end_sent_kept : (old new : CoreState HostState (List ℕ)) (sent : Option (List ℕ)) → IsCoreKept as_it_is old → send old ≡ (new, sent) → IsCoreKept as_it_is new
end_sent_kept old new sent kept step = subst (IsCoreKept as_it_is) (ap (λ (x : CoreState HostState (List ℕ) × Option (List ℕ)). x.0) step) (kept_send as_it_is old kept)
