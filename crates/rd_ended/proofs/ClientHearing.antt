-- What a client hears brings its opening on, or leaves as it is what it has to send, but for completions.
use Rattle.std.proofs.Common.{◌≡◌, ◌⊎◌, ◌∙◌, refl, ap, inl, inr, ℕ, ◌+◌, ◌<◌, ◌≤◌, arith, Bool, true, false, List, [], ◌∷◌, ◌++◌, map, Some, None, Option, Result, Ok, Err, append-nil}
use Rattle.std.specs.Prelude.{if◌then◌else◌}
use Rattle.std.specs.Option.{IfSome}
use Rattle.rd_base.specs.Header.{any_header}
use Rattle.rd_base.specs.Layout.{met}
use Rattle.rd_base.specs.Position.{Position, at_start}
use Rattle.rd_base.specs.declared.bad.Bad.{Bad}
use Rattle.rd_base.specs.declared.packet.Packet.{Packet}
use Rattle.rd_base.specs.declared.packet.Packet.TheVariants as packet
use Rattle.rd_base.specs.declared.status.Status.{Status}
use Rattle.rd_client.specs.Core as client
use Rattle.rd_client.specs.Core.{ClientCoreState, HostSays, Outgoing, becomes_ready, client_hear, client_hear_made, client_opened, client_side, direct_bytes, hear_says, listed, notices, plain, replies, requests, with_outgoing}
use Rattle.rd_client.specs.Events.{waiting_messages}
use Rattle.rd_client.specs.declared.heard.Heard.{Heard}
use Rattle.rd_client.specs.declared.heard.Heard.TheVariants.{Nothing, Ask, Print}
use Rattle.rd_core.specs.Core.{CoreState}
use Rattle.rd_core.specs.Hearing.{Meaning, Side, after_row, by_row, from_header, from_hello, from_own, from_packet, hear_said, hear_unless, is_hello, is_read_in, messages_of, nothing, opens, said, says, wrong}
use Rattle.rd_devices.specs.DeviceList.{list_bytes}
use Rattle.rd_drive.specs.declared.plan.Job.{Job}
use Rattle.rd_hello.specs.ClientTable.{after_sets, client_number}
use Rattle.rd_hello.specs.Hello.{hello}
use Rattle.rd_hello.specs.Moves.{is_of}
use Rattle.rd_hello.specs.Rows.{OrderRow, writes_one}
use Rattle.rd_hello.specs.declared.client.ClientState.{ClientState}
use Rattle.rd_hello.specs.declared.client.ClientState.TheVariants as client_state
use Rattle.rd_hello.specs.declared.end_fault.EndFault.{EndFault}
use Rattle.rd_hello.specs.declared.hello.Hello.{Hello}
use Rattle.rd_hello.specs.declared.hello.Hello.TheVariants as greeting
use Rattle.rd_hello.specs.Own.{client_sets, tell_log_on}
use Rattle.rd_opening.proofs.OrdersMeeting.{IsHeardTo, IsPut}
use Rattle.rd_deeds.proofs.Messages.{packet_is, written_packet}
use Rattle.rd_ended.proofs.Remaining.{other_one, others, others_more}

-- ---- rows

-- what holds of each row of a state holds of what a message opens there
module _ {S M A : Type 0} (side : Side S M A) (Q : S → OrderRow S → Type 0) (rows : (state : S) (greets : Hello) → IfSome (side.row state greets) (Q state)) where
  abbrev Leads : S → Meaning S A → Type 0
  Leads state (opens row) = Q state row
  Leads state _ = Unit {0}

  said_leads : (state : S) (bytes : List ℕ) → Leads state (said side state bytes)
  said_leads state bytes = by_header (met any_header (at_start bytes))
    where
      row_leads : (o : Option (OrderRow S)) → IfSome o (Q state) → Leads state (by_row side o)
      row_leads None own = tt
      row_leads (Some row) own = own

      by_hello : (r : Result (Hello × Position) Bad) → Leads state (from_hello side state r)
      by_hello (Err bad) = tt
      by_hello (Ok read) = row_leads (side.row state read.0) (rows state read.0)

      by_own : (r : Result A Bad) → Leads state (from_own side r)
      by_own (Err bad) = tt
      by_own (Ok a) = tt

      by_packet : (p : Packet) (b : Bool) → Leads state (if b then from_hello side state (met hello (at_start bytes)) else from_own side (side.own p bytes))
      by_packet p true = by_hello (met hello (at_start bytes))
      by_packet p false = by_own (side.own p bytes)

      by_known : (p : Packet) (b : Bool) (fault : EndFault) → Leads state (if b then from_packet side state p bytes else wrong fault)
      by_known p true fault = by_packet p (is_hello p)
      by_known p false fault = tt

      by_header : (r : Result (Option Packet × Position) Bad) → Leads state (from_header side state bytes r)
      by_header (Err bad) = tt
      by_header (Ok (None, rest)) = tt
      by_header (Ok (Some p, rest)) = by_known p (is_read_in side state p) _

-- A row leads on, or writes nothing.
abbrev LeadsOn : ClientState → OrderRow ClientState → Type 0
LeadsOn state row = ((client_number state < client_number row.next) × (client_number row.next ≤ 5)) ⊎ ((row.next ≡ state) × (messages_of row ≡ []) × (becomes_ready state row.next ≡ false))

client_leads : (state : ClientState) (greets : Hello) → IfSome (client_side.row state greets) (LeadsOn state)
client_leads client_state.Start (greeting.Announce host) = inl (omega arith, omega arith)
client_leads client_state.Start _ = tt
client_leads client_state.Named (greeting.Confirm v) = inl (omega arith, omega arith)
client_leads client_state.Named (greeting.ServerCaps caps) = inl (omega arith, omega arith)
client_leads client_state.Named _ = tt
client_leads client_state.Confirmed (greeting.ServerCaps caps) = by (tell_log_on caps)
  where
    by : (b : Bool) → IfSome (writes_one client_sets (after_sets b)) (LeadsOn client_state.Confirmed)
    by true = inl (omega arith, omega arith)
    by false = inl (omega arith, omega arith)
client_leads client_state.Confirmed _ = tt
client_leads (client_state.Offered tells) (greeting.Confirm v) = by tells
  where
    by : (b : Bool) → IfSome (writes_one client_sets (after_sets b)) (LeadsOn (client_state.Offered tells))
    by true = inl (omega arith, omega arith)
    by false = inl (omega arith, omega arith)
client_leads (client_state.Offered tells) _ = tt
client_leads client_state.Waiting greeting.LoggedOn = inl (omega arith, omega arith)
client_leads client_state.Waiting _ = tt
client_leads client_state.Ready greeting.LoggedOn = inr (refl, refl, refl)
client_leads client_state.Ready _ = tt

-- ---- a client hears

becomes_itself : (s : ClientState) → becomes_ready s s ≡ false
becomes_itself client_state.Start = refl
becomes_itself client_state.Named = refl
becomes_itself client_state.Confirmed = refl
becomes_itself (client_state.Offered tells) = refl
becomes_itself client_state.Waiting = refl
becomes_itself client_state.Ready = refl

-- its opening went on, or it has to send what it had
abbrev pub HearsOn : ClientCoreState → ClientCoreState → Type 0
HearsOn c d =
    ((client_number (c.core).shake < client_number (d.core).shake) × (client_number (d.core).shake ≤ 5)) ⊎ (((d.core).shake ≡ (c.core).shake) × ((d.core).outbox ≡ (c.core).outbox))

opened_on : (c : ClientCoreState) (after : CoreState ClientState Outgoing)
    → ((client_number (c.core).shake < client_number after.shake) × (client_number after.shake ≤ 5)) ⊎ ((after.shake ≡ (c.core).shake) × (after.outbox ≡ (c.core).outbox) × (becomes_ready (c.core).shake after.shake ≡ false))
    → HearsOn c (client_opened c after)
opened_on c after (inl on) = by (becomes_ready (c.core).shake after.shake)
  where
    by : (b : Bool) → HearsOn c (if b then with_outgoing (record c { core = after }) (plain (list_bytes (listed c))) else record c { core = after })
    by true = inl on
    by false = inl on
opened_on c after (inr (shake, outbox, off)) = rw off (inr (shake, outbox))

said_on : (c : ClientCoreState) (m : Meaning ClientState HostSays) → Leads client_side LeadsOn client_leads (c.core).shake m → HearsOn c (client_hear_made c (hear_said client_side c.core m)).0
said_on c (wrong fault) leads = inr (refl, refl)
said_on c nothing leads = opened_on c c.core (inr (refl, refl, becomes_itself (c.core).shake))
said_on c (opens row) (inl on) = opened_on c (after_row client_side c.core row) (inl on)
said_on c (opens row) (inr (same, none, off)) =
    opened_on c (after_row client_side c.core row) (inr (same, ap (λ (ms : List (List ℕ)). (c.core).outbox ++ map plain ms) none ∙ append-nil (c.core).outbox, off))
said_on c (says (requests r)) leads = inr (refl, refl)
said_on c (says (replies r)) leads = inr (refl, refl)
said_on c (says (notices n)) leads = inr (refl, refl)

pub hears_on : (c : ClientCoreState) (m : List ℕ) → HearsOn c (client_hear c m).0
hears_on c m = by (c.core).fault
  where
    by : (o : Option EndFault) → HearsOn c (client_hear_made c (hear_unless client_side c.core m o)).0
    by (Some fault) = inr (refl, refl)
    by None = said_on c (said client_side (c.core).shake m) (said_leads client_side LeadsOn client_leads (c.core).shake m)

-- ---- what it does then

abbrev out : List Outgoing → List (List ℕ)
out os = map (λ (o : Outgoing). o.message) os

out_more : (os ps : List Outgoing) → out (os ++ ps) ≡ out os ++ out ps
out_more [] ps = refl
out_more (o ∷ os) ps = ap (λ (ms : List (List ℕ)). o.message ∷ ms) (out_more os ps)

direct_completes : (job : Job) (device : ℕ) (st : Status) → is_of packet.IoCompletion (direct_bytes job device st) ≡ true
direct_completes job device st = packet_is packet.IoCompletion packet.IoCompletion (direct_bytes job device st) (written_packet packet.IoCompletion _)

-- It has no more to send but completions, and its opening is where it was.
pub record DoesNoMore (c d : ClientCoreState) : Type 0 where
  pub shake : (d.core).shake ≡ (c.core).shake
  pub waiting : others (waiting_messages d) ≡ others (waiting_messages c)

no_more : (c d : ClientCoreState) → d ≡ c → DoesNoMore c d
no_more c d same = record { shake = ap (λ (x : ClientCoreState). (x.core).shake) same; waiting = ap (λ (x : ClientCoreState). others (waiting_messages x)) same }

pub put_no_more : (c d : ClientCoreState) (device : ℕ) (job : Job) → IsPut c device job d → DoesNoMore c d
put_no_more c d device job (inl same) = no_more c d same
put_no_more c d device job (inr (st, some, is)) =
    let last : ClientCoreState = client.direct c job device st in
    let parts : others (waiting_messages last) ≡ others (waiting_messages c) + others (direct_bytes job device st ∷ []) =
    ap others (out_more (c.core).outbox (_ ∷ [])) ∙ others_more (waiting_messages c) (direct_bytes job device st ∷ []) in
    let one : other_one (is_of packet.IoCompletion (direct_bytes job device st)) ≡ 0 = ap other_one (direct_completes job device st) in
    record {
      shake = ap (λ (x : ClientCoreState). (x.core).shake) is;
      waiting = ap (λ (x : ClientCoreState). others (waiting_messages x)) is ∙ (let all : others (waiting_messages last) ≡ others (waiting_messages c) = omega (arith, parts, one) in all);
    }

pub heard_no_more : (c d : ClientCoreState) (a : Result Heard EndFault) → IsHeardTo c a d → DoesNoMore c d
heard_no_more c d (Err fault) same = no_more c d same
heard_no_more c d (Ok Nothing) same = no_more c d same
heard_no_more c d (Ok (Ask device job)) put = put_no_more c d device job put
heard_no_more c d (Ok (Print n)) same = no_more c d same
