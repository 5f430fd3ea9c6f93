-- What a client read on the channel that is on tells of its front: the state of its opening, and the request that is under way or kept back.
use Rattle.std.proofs.Common.{◌≡◌, ◌⊎◌, ◌∙◌, refl, sym, ap, subst, inl, inr, ℕ, ◌||◌, Bool, true, false, List, [], ◌∷◌, ◌++◌, length, Option, Some, None, eq-eqb}
use Rattle.std.specs.Prelude.{Result, Ok, Err, cond, filter, if◌then◌else◌}
use Rattle.std.specs.declared.alloc.AllocError.{AllocError}
use Rattle.std.specs.List.{cons_option}
use Rattle.std.specs.Map.{lookup}
use Rattle.std.specs.Option.{option_and_then, option_map_or}
use Rattle.std.specs.Ordering.{nat_cmp}
use Rattle.std.specs.BTreeMap.{is_at}
use Rattle.std.proofs.lemmas.Bool.{true≢false}
use Rattle.rd_served_causes.specs.ActedActed.{state_heard, state_read}
use Rattle.rd_base.specs.declared.journal.Item.{Item}
use Rattle.rd_client.specs.Core as client
use Rattle.rd_client.specs.Core.{ClientCoreState, HostSays, Outgoing, client_hear, client_hear_made, client_opened, client_side, job_of, listed, plain, with_outgoing}
use Rattle.rd_client.specs.declared.heard.Heard.{Heard}
use Rattle.rd_client.specs.declared.heard.Heard.TheVariants.{Ask, Nothing, Print}
use Rattle.rd_core.specs.Core as core
use Rattle.rd_core.specs.Core.{CoreState}
use Rattle.rd_core.specs.Hearing as hearing
use Rattle.rd_core.specs.Hearing.{Meaning, said}
use Rattle.rd_desk.specs.declared.calls.DeskCall.{DeskCall}
use Rattle.rd_desk.specs.declared.calls.DeskCall.TheVariants as desk
use Rattle.rd_desk.specs.declared.calls.DeskReply.{DeskReply}
use Rattle.rd_desk.specs.declared.calls.DeskReply.TheVariants as replied
use Rattle.rd_devices.specs.DeviceList.{list_bytes}
use Rattle.rd_drive.specs.declared.plan.Job.{Job}
use Rattle.rd_front.specs.Front.{with_new_data}
use Rattle.rd_front.specs.State.{FrontState}
use Rattle.rd_hello.specs.declared.client.ClientState.{ClientState}
use Rattle.rd_hello.specs.declared.end_fault.EndFault.{EndFault}
use Rattle.rd_hello.specs.declared.end_fault.EndFault.TheVariants as fault
use Rattle.rd_irp.specs.declared.request.Request.{Request}
use Rattle.rd_served_causes.proofs.JournalsAskingLemmas as asking
use Rattle.rd_served_causes.proofs.JournalsAskingLemmas.{HeardAs}
use Rattle.rd_declared.specs.Devices.{PrinterNames, printer_data}
use Rattle.rd_deeds.specs.Talk.{Deed, client_read, client_reads, is_request, request_in}
use Rattle.rd_world.specs.World.{Kept}
use Rattle.rd_served_causes.proofs.ServedCauseLemmas.{IsTold, part_told}
use Rattle.rd_served_causes.proofs.ServedKeyLemmas.{IsKeyed, IsUnder, both_true, ended_is, none_of, part_keyed}
use Rattle.rd_served_causes.specs.ServedDeeds.{deeds_after, deeds_of}
use Rattle.rd_served_causes.specs.ServedHistories.{stopped_by}
use Rattle.rd_served_causes.specs.ServedParts.{AsksBy, FrontPart, IsOpenCall, PartGoes, PartsGo, asking_by, begins, calls, directs, ends, forgets, keeps, learns, misplaces, refreshes, sends, stops, tells_gone, tells_there, tries, unwritten, writes}
use Rattle.rd_served_causes.specs.ServedParts as part
use Rattle.rd_served_causes.specs.ServedServed.{Asking, Served, asks, idle}
use Rattle.rd_served_causes.specs.ServedRefusalsHeeding.{stopped_after}
use Rattle.rd_served_sessions.proofs.ChainLemmas.{part_unread}

-- ---- what a client makes of a message

abbrev shake_in : ClientCoreState → ClientState
shake_in c = (c.core).shake

abbrev fault_in : ClientCoreState → Option EndFault
fault_in c = (c.core).fault

-- A message that is heard leads the opening on as it says, and one that isn't is wrong.
abbrev pub SaysTo : ClientCoreState → List ℕ → ClientCoreState × Result Heard EndFault → Type 0
SaysTo c m (x, Ok heard) = state_heard (c.core).shake (said client_side (c.core).shake m) ≡ Some (x.core).shake
SaysTo c m (x, Err wrong) = said client_side (c.core).shake m ≡ hearing.wrong wrong

abbrev made : ClientCoreState → Meaning ClientState HostSays → ClientCoreState × Result Heard EndFault
made c s = client_hear_made c (hearing.hear_said client_side c.core s)

listening : (c : ClientCoreState) (m : List ℕ) → (c.core).fault ≡ None → client_hear c m ≡ made c (said client_side (c.core).shake m)
listening c m e = rw e refl

opened_shake : (c : ClientCoreState) (after : CoreState ClientState Outgoing) → ((client_opened c after).core).shake ≡ after.shake
opened_shake c after = by (client.becomes_ready (c.core).shake after.shake)
  where
    next : ClientCoreState
    next = record c { core = after }

    by : (b : Bool) → let d = if b then with_outgoing next (plain (list_bytes (listed c))) else next in (d.core).shake ≡ after.shake
    by true = refl
    by false = refl

pub says_to : (c : ClientCoreState) (m : List ℕ) → (c.core).fault ≡ None → SaysTo c m (client_hear c m)
says_to c m fine = subst (SaysTo c m) (sym (listening c m fine)) (by (said client_side (c.core).shake m) refl)
  where
    by : (s : Meaning ClientState HostSays) → said client_side (c.core).shake m ≡ s → SaysTo c m (made c s)
    by (hearing.wrong wrong) e = e
    by hearing.nothing e = ap (state_heard (c.core).shake) e ∙ ap Some (sym (opened_shake c c.core))
    by (hearing.opens row) e = ap (state_heard (c.core).shake) e ∙ ap Some (sym (opened_shake c (hearing.after_row client_side c.core row)))
    by (hearing.says (client.requests r)) e = ap (state_heard (c.core).shake) e
    by (hearing.says (client.replies r)) e = ap (state_heard (c.core).shake) e
    by (hearing.says (client.notices n)) e = ap (state_heard (c.core).shake) e

-- a request leaves the opening where it is
abbrev AskKeeps : ClientCoreState → ClientCoreState × Result Heard EndFault → Type 0
AskKeeps c (x, Ok (Ask device job)) = (x.core).shake ≡ (c.core).shake
AskKeeps c (x, Ok Nothing) = Unit {0}
AskKeeps c (x, Ok (Print n)) = Unit {0}
AskKeeps c (x, Err wrong) = Unit {0}

pub ask_keeps : (c d : ClientCoreState) (m : List ℕ) (device : ℕ) (job : Job) → client_hear c m ≡ (d, Ok (Ask device job)) → (d.core).shake ≡ (c.core).shake
ask_keeps c d m device job e = subst (AskKeeps c) e (subst (AskKeeps c) (sym (listening c m fine)) (by (said client_side (c.core).shake m)))
  where
    fine : (c.core).fault ≡ None
    fine = (subst (HeardAs c m) e (asking.hears c m)).4

    by : (s : Meaning ClientState HostSays) → AskKeeps c (made c s)
    by (hearing.wrong wrong) = tt
    by hearing.nothing = tt
    by (hearing.opens row) = tt
    by (hearing.says (client.requests r)) = refl
    by (hearing.says (client.replies r)) = tt
    by (hearing.says (client.notices n)) = tt

-- ---- what leaves the core's opening

-- the same opening, and no other fault
abbrev SameOpening : ClientCoreState → ClientCoreState → Type 0
SameOpening c d = (fault_in d ≡ fault_in c) × (shake_in d ≡ shake_in c)

did_same : (answer : Result (Unit {0}) AllocError) (done c d : ClientCoreState) → core.Did answer done c d → SameOpening c done → SameOpening c d
did_same (Ok u) done c d did same = (ap fault_in did ∙ same.0, ap shake_in did ∙ same.1)
did_same (Err error) done c d did same = (ap fault_in did, ap shake_in did)

sent_same : (c d : ClientCoreState) (o : Option Outgoing) → client.client_send c ≡ (d, o) → SameOpening c d
sent_same c d o is = by (c.core).outbox (ap (λ (r : ClientCoreState × Option Outgoing). r.0) is)
  where
    by : (os : List Outgoing) → (let r = core.send_from c.core os in record c { core = r.0 }) ≡ d → SameOpening c d
    by [] e = (ap fault_in (sym e), ap shake_in (sym e))
    by (x ∷ os) e = (ap fault_in (sym e), ap shake_in (sym e))

-- The front's channel stays as it is, and so does the core's opening.
pub record KeepsOpening (s t : FrontState) : Type 0 where
  pub on : t.on ≡ s.on
  pub channel : t.channel ≡ s.channel
  pub fault : ((t.client).core).fault ≡ ((s.client).core).fault
  pub shake : ((t.client).core).shake ≡ ((s.client).core).shake

keeping_same : (s t : FrontState) → t.on ≡ s.on → t.channel ≡ s.channel → t.client ≡ s.client → KeepsOpening s t
keeping_same s t on channel same = record { on = on; channel = channel; fault = ap fault_in same; shake = ap shake_in same }

keeping_client : (s t : FrontState) (unsent : ℕ) → t ≡ record s { client = t.client; unsent = unsent } → SameOpening s.client t.client → KeepsOpening s t
keeping_client s t unsent is same = record { on = ap (λ (x : FrontState). x.on) is; channel = ap (λ (x : FrontState). x.channel) is; fault = same.0; shake = same.1 }

keeping_refreshed : (s : FrontState) (device : ℕ) → KeepsOpening s (with_new_data s device)
keeping_refreshed s device = by (lookup (is_at (nat_cmp device)) s.printers)
  where
    by : (o : Option PrinterNames) → KeepsOpening s (option_map_or (λ (names : PrinterNames). record s { client = client.refresh s.client device (printer_data s.cache names) }) o s)
    by None = record { on = refl; channel = refl; fault = refl; shake = refl }
    by (Some names) = record { on = refl; channel = refl; fault = refl; shake = refl }

-- ---- parts that hear nothing, by which no channel begins or ends

abbrev pub IsCalmPart : FrontPart → Type 0
IsCalmPart (part.hears channel m answer) = ⊥
IsCalmPart (begins channel) = ⊥
IsCalmPart (ends over told) = ⊥
IsCalmPart _ = Unit {0}

pub part_keeping : (p q : Served) (x : FrontPart) → IsCalmPart x → PartGoes p x q → KeepsOpening p.front q.front
part_keeping p q tries calm goes = keeping_same p.front q.front (ap (λ (s : Served). (s.front).on) goes.4) (ap (λ (s : Served). (s.front).channel) goes.4) (ap (λ (s : Served). (s.front).client) goes.4)
part_keeping p q keeps calm goes = keeping_same p.front q.front (ap (λ (s : Served). (s.front).on) goes.3) (ap (λ (s : Served). (s.front).channel) goes.3) (ap (λ (s : Served). (s.front).client) goes.3)
part_keeping p q forgets calm goes = keeping_same p.front q.front (ap (λ (s : Served). (s.front).on) goes.4) (ap (λ (s : Served). (s.front).channel) goes.4) (ap (λ (s : Served). (s.front).client) goes.4)
part_keeping p q misplaces calm goes = keeping_same p.front q.front (ap (λ (s : Served). (s.front).on) goes.3) (ap (λ (s : Served). (s.front).channel) goes.3) (ap (λ (s : Served). (s.front).client) goes.3)
part_keeping p q (directs st answer) calm goes =
    keeping_client p.front q.front _ (goes.2).1 (did_same answer (client.direct (p.front).client (goes.0).job (goes.0).device st) (p.front).client (q.front).client ((goes.2).0).1 (refl, refl))
part_keeping p q (calls place id does back items) calm goes =
    keeping_same p.front q.front (ap (λ (s : FrontState). s.on) goes.front_is) (ap (λ (s : FrontState). s.channel) goes.front_is) (ap (λ (s : FrontState). s.client) goes.front_is)
part_keeping p q (tells_gone device answer) calm goes = keeping_client p.front q.front _ (goes.0).1 (did_same answer (client.tell_removed (p.front).client device) (p.front).client (q.front).client ((goes.0).0).1 (refl, refl))
part_keeping p q (tells_there device answer) calm goes = keeping_client p.front q.front _ (goes.0).1 (did_same answer (client.tell_added (p.front).client device) (p.front).client (q.front).client ((goes.0).0).1 (refl, refl))
part_keeping p q (sends channel o) calm goes = keeping_client p.front q.front _ (goes.1).1 (sent_same (p.front).client (q.front).client o (goes.1).0)
part_keeping p q (writes device c) calm goes = keeping_same p.front q.front (ap (λ (s : Served). (s.front).on) goes.1) (ap (λ (s : Served). (s.front).channel) goes.1) (ap (λ (s : Served). (s.front).client) goes.1)
part_keeping p q (unwritten device c) calm goes = keeping_same p.front q.front (ap (λ (s : Served). (s.front).on) goes.1) (ap (λ (s : Served). (s.front).channel) goes.1) (ap (λ (s : Served). (s.front).client) goes.1)
part_keeping p q (learns n answer) calm goes = keeping_same p.front q.front (ap (λ (s : Served). (s.front).on) goes.1) (ap (λ (s : Served). (s.front).channel) goes.1) (ap (λ (s : Served). (s.front).client) goes.1)
part_keeping p q (refreshes device) calm goes = subst (λ (s : Served). KeepsOpening p.front s.front) (sym goes) (keeping_refreshed p.front device)
part_keeping p q (part.hears channel m answer) calm goes = absurd calm
part_keeping p q (begins channel) calm goes = absurd calm
part_keeping p q (ends over told) calm goes = absurd calm

-- ---- the job that is under way or kept back

abbrev pub IsPending : Served → Kept → Type 0
IsPending p k = IsUnder p.asking k ⊎ ((p.front).kept ≡ Some k)

pending_same : (p q : Served) → q.asking ≡ p.asking → (q.front).kept ≡ (p.front).kept → (k : Kept) → IsPending q k → IsPending p k
pending_same p q asked kept k (inl under) = inl (subst (λ (a : Asking). IsUnder a k) asked under)
pending_same p q asked kept k (inr some) = inr (sym kept ∙ some)

pending_idle : (p q : Served) → q.asking ≡ idle → (q.front).kept ≡ (p.front).kept → (k : Kept) → IsPending q k → IsPending p k
pending_idle p q asked kept k (inl under) = absurd (subst (λ (a : Asking). IsUnder a k) asked under)
pending_idle p q asked kept k (inr some) = inr (sym kept ∙ some)

pending_called : (p q : Served) (place id : ℕ) (does : DeskCall) (back : DeskReply) → IsOpenCall does → AsksBy p place id does back q.asking → (q.front).kept ≡ (p.front).kept → (k : Kept) → IsPending q k → IsPending p k
pending_called p q place id does back own is kept k (inr some) = inr (sym kept ∙ some)
pending_called p q place id (desk.Put job) (replied.Put (Ok done)) own is kept k (inl under) = absurd (subst (λ (a : Asking). IsUnder a k) is.1 under)
pending_called p q place id (desk.Put job) (replied.Put (Err refusal)) own is kept k (inl under) = inl (subst (λ (a : Asking). IsUnder a k) (sym (is.0).asked) (subst (λ (a : Asking). IsUnder a k) is.1 under))
pending_called p q place id (desk.Put job) (replied.Unfit back) own is kept k (inl under) = absurd (subst (λ (a : Asking). IsUnder a k) is.1 under)
pending_called p q place id (desk.Put job) (replied.Announced answer) own is kept k (inl under) = absurd is.1
pending_called p q place id (desk.Put job) (replied.Worked w) own is kept k (inl under) = absurd is.1
pending_called p q place id (desk.Put job) (replied.Collected answer) own is kept k (inl under) = absurd is.1
pending_called p q place id (desk.Put job) (replied.Removed answer) own is kept k (inl under) = absurd is.1
pending_called p q place id (desk.Put job) replied.Dropped own is kept k (inl under) = absurd is.1
pending_called p q place id (desk.Put job) replied.Ended own is kept k (inl under) = absurd is.1
pending_called p q place id desk.Collect (replied.Collected (Some c)) own is kept k (inl under) = absurd (subst (λ (a : Asking). IsUnder a k) is.1 under)
pending_called p q place id desk.Collect (replied.Collected None) own is kept k (inl under) = inl (subst (λ (a : Asking). IsUnder a k) is under)
pending_called p q place id desk.Collect (replied.Announced answer) own is kept k (inl under) = inl (subst (λ (a : Asking). IsUnder a k) is under)
pending_called p q place id desk.Collect (replied.Put answer) own is kept k (inl under) = inl (subst (λ (a : Asking). IsUnder a k) is under)
pending_called p q place id desk.Collect (replied.Unfit job) own is kept k (inl under) = inl (subst (λ (a : Asking). IsUnder a k) is under)
pending_called p q place id desk.Collect (replied.Worked w) own is kept k (inl under) = inl (subst (λ (a : Asking). IsUnder a k) is under)
pending_called p q place id desk.Collect (replied.Removed answer) own is kept k (inl under) = inl (subst (λ (a : Asking). IsUnder a k) is under)
pending_called p q place id desk.Collect replied.Dropped own is kept k (inl under) = inl (subst (λ (a : Asking). IsUnder a k) is under)
pending_called p q place id desk.Collect replied.Ended own is kept k (inl under) = inl (subst (λ (a : Asking). IsUnder a k) is under)
pending_called p q place id desk.Announce back own is kept k (inl under) = inl (subst (λ (a : Asking). IsUnder a k) is under)
pending_called p q place id desk.Remove back own is kept k (inl under) = inl (subst (λ (a : Asking). IsUnder a k) is under)
pending_called p q place id (desk.Work runs) back own is kept k (inl under) = absurd own
pending_called p q place id desk.DropChannel back own is kept k (inl under) = absurd own
pending_called p q place id desk.End back own is kept k (inl under) = absurd own

refreshed_kept : (s : FrontState) (device : ℕ) → (with_new_data s device).kept ≡ s.kept
refreshed_kept s device = by (lookup (is_at (nat_cmp device)) s.printers)
  where
    by : (o : Option PrinterNames) → (option_map_or (λ (names : PrinterNames). record s { client = client.refresh s.client device (printer_data s.cache names) }) o s).kept ≡ s.kept
    by None = refl
    by (Some names) = refl

-- It was so before, where nothing was heard.
pending_before : (p q : Served) (x : FrontPart) → IsCalmPart x → PartGoes p x q → (k : Kept) → IsPending q k → IsPending p k
pending_before p q tries calm goes k (inl under) = inr (goes.1 ∙ ap Some (subst (λ (a : Asking). IsUnder a k) (ap (λ (s : Served). s.asking) goes.4) under))
pending_before p q tries calm goes k (inr some) = absurd (let none = ap (λ (s : Served). (s.front).kept) goes.4 in cc (none, some))
pending_before p q keeps calm goes k (inl under) = absurd (subst (λ (a : Asking). IsUnder a k) (ap (λ (s : Served). s.asking) goes.3) under)
pending_before p q keeps calm goes k (inr some) =
    let both : Some goes.0 ≡ Some k = sym (ap (λ (s : Served). (s.front).kept) goes.3) ∙ some in
    let same : goes.0 ≡ k = cc (both) in
    inl (subst (λ (a : Asking). IsUnder a k) (sym goes.2) same)
pending_before p q forgets calm goes k some = pending_idle p q (ap (λ (s : Served). s.asking) goes.4) (ap (λ (s : Served). (s.front).kept) goes.4) k some
pending_before p q misplaces calm goes k some = pending_idle p q (ap (λ (s : Served). s.asking) goes.3) (ap (λ (s : Served). (s.front).kept) goes.3) k some
pending_before p q (directs st answer) calm goes k some = pending_idle p q goes.3 (ap (λ (s : FrontState). s.kept) (goes.2).1) k some
pending_before p q (calls place id does back items) calm goes k some = pending_called p q place id does back goes.own goes.asking_is (ap (λ (s : FrontState). s.kept) goes.front_is) k some
pending_before p q (tells_gone device answer) calm goes k some = pending_same p q goes.1 (ap (λ (s : FrontState). s.kept) (goes.0).1) k some
pending_before p q (tells_there device answer) calm goes k some = pending_same p q goes.1 (ap (λ (s : FrontState). s.kept) (goes.0).1) k some
pending_before p q (sends channel o) calm goes k some = pending_same p q goes.2 (ap (λ (s : FrontState). s.kept) (goes.1).1) k some
pending_before p q (writes device c) calm goes k some = pending_idle p q (ap (λ (s : Served). s.asking) goes.1) (ap (λ (s : Served). (s.front).kept) goes.1) k some
pending_before p q (unwritten device c) calm goes k some = pending_idle p q (ap (λ (s : Served). s.asking) goes.1) (ap (λ (s : Served). (s.front).kept) goes.1) k some
pending_before p q (learns n answer) calm goes k some = pending_same p q (ap (λ (s : Served). s.asking) goes.1) (ap (λ (s : Served). (s.front).kept) goes.1) k some
pending_before p q (refreshes device) calm goes k some = pending_same p q (ap (λ (s : Served). s.asking) goes) (ap (λ (s : Served). (s.front).kept) goes ∙ refreshed_kept p.front device) k some
pending_before p q (part.hears channel m answer) calm goes k some = absurd calm
pending_before p q (begins channel) calm goes k some = absurd calm
pending_before p q (ends over told) calm goes k some = absurd calm

-- It is that of the message that was read last.
pub record IsLastRead (k : Kept) (channel : ℕ) (read : List (List ℕ)) : Type 0 where
  pub message : List ℕ
  pub older : List (List ℕ)
  pub read_are : read ≡ message ∷ older
  pub asks : is_request message ≡ true
  pub request : Request
  pub spells : request_in message ≡ Some request
  pub device_is : k.device ≡ request.device
  pub job_is : k.job ≡ job_of request channel (length (filter is_request older))

-- ---- what is known

abbrev pub fault_of : Served → Option EndFault
fault_of p = (((p.front).client).core).fault

abbrev pub shake_of : Served → ClientState
shake_of p = (((p.front).client).core).shake

abbrev pub reads_of : Served → List Deed → List (List ℕ)
reads_of p deeds = client_read (p.front).channel deeds

-- While a channel is on that no part stopped, nothing was wrong there; where nothing was, what was read led the opening where it is; and a job that is under way or kept back is that of the message that was read last, and nothing was wrong then.
pub record Follows (was : Bool) (p : Served) (deeds : List Deed) : Type 0 where
  pub sound : was ≡ false → (p.front).on ≡ true → fault_of p ≡ None
  pub state : (p.front).on ≡ true → fault_of p ≡ None → state_read (reads_of p deeds) ≡ Some (shake_of p)
  pub last : (k : Kept) → IsPending p k → IsLastRead k (p.front).channel (reads_of p deeds)
  pub clear : (k : Kept) → IsPending p k → fault_of p ≡ None

follows_calm : (was later : Bool) (p q : Served) (deeds more : List Deed) → (later ≡ false → was ≡ false) → KeepsOpening p.front q.front → ((c : ℕ) → client_read c more ≡ client_read c deeds) → ((k : Kept) → IsPending q k → IsPending p k) → Follows was p deeds → Follows later q more
follows_calm was later p q deeds more flag calm reads pending is = record {
  sound = λ none now. calm.fault ∙ is.sound (flag none) (sym calm.on ∙ now);
  state = λ now fine. ap state_read read ∙ is.state (sym calm.on ∙ now) (sym calm.fault ∙ fine) ∙ ap Some (sym calm.shake);
  last = λ k some. subst (λ (n : ℕ). IsLastRead k n (reads_of q more)) (sym calm.channel) (subst (IsLastRead k (p.front).channel) (sym read) (is.last k (pending k some)));
  clear = λ k some. calm.fault ∙ is.clear k (pending k some);
}
  where
    read : reads_of q more ≡ reads_of p deeds
    read = reads (q.front).channel ∙ ap (λ (c : ℕ). client_read c deeds) calm.channel

-- what was stopped stays so
either_false : (a b : Bool) → (a || b) ≡ false → b ≡ false
either_false true b is = absurd (cc (is))
either_false false b is = is

own_read : (c : ℕ) (m : List ℕ) (deeds : List Deed) → client_read c (client_reads c m ∷ deeds) ≡ m ∷ client_read c deeds
own_read c m deeds = ap (λ (b : Bool). cons_option (cond b (Some m) None) (client_read c deeds)) (eq-eqb c c refl)

-- a message is heard
module _ (was : Bool) (p q : Served) (m : List ℕ) (deeds : List Deed) (keyed : IsKeyed p) (told : IsTold p deeds) (on : (p.front).on ≡ true) (still : (q.front).on ≡ (p.front).on) (channel : (q.front).channel ≡ (p.front).channel) (kept : (q.front).kept ≡ None)
    (is : Follows was p deeds)
  where
    abbrev more : List Deed
    more = client_reads (p.front).channel m ∷ deeds

    read : reads_of q more ≡ m ∷ reads_of p deeds
    read = ap (λ (c : ℕ). client_read c more) channel ∙ own_read (p.front).channel m deeds

    none_pending : q.asking ≡ idle → (k : Kept) → IsPending q k → ⊥
    none_pending none k (inl under) = subst (λ (a : Asking). IsUnder a k) none under
    none_pending none k (inr some) = cc (kept, some)

    wrong_follows : (wrong : EndFault) → HeardAs (p.front).client m ((q.front).client, Err wrong) → q.asking ≡ idle → Follows true q more
    wrong_follows wrong (same, asked, some) none = record {
      sound = λ never. absurd (true≢false never);
      state = λ now fine. absurd (cc (fine, some));
      last = λ k pending. absurd (none_pending none k pending);
      clear = λ k pending. absurd (none_pending none k pending);
    }

    -- where nothing is wrong with it
    led : (h : Heard) → client_hear (p.front).client m ≡ ((q.front).client, Ok h) → fault_of p ≡ None → state_read (reads_of q more) ≡ Some (shake_of q)
    led h did fine =
        ap state_read read ∙ ap (λ (o : Option ClientState). option_and_then (λ state. state_heard state (said client_side state m)) o) (is.state on fine)
        ∙ subst (SaysTo (p.front).client m) did (says_to (p.front).client m fine)

    heard_follows : (h : Heard) → client_hear (p.front).client m ≡ ((q.front).client, Ok h) → fault_of q ≡ fault_of p → ((k : Kept) → IsPending q k → IsLastRead k (q.front).channel (reads_of q more) × (fault_of p ≡ None)) → Follows was q more
    heard_follows h did same last = record {
      sound = λ none now. same ∙ is.sound none on;
      state = λ now fine. led h did (sym same ∙ fine);
      last = λ k pending. (last k pending).0;
      clear = λ k pending. same ∙ (last k pending).1;
    }

    asked_last : (device : ℕ) (job : Job) → HeardAs (p.front).client m ((q.front).client, Ok (Ask device job)) → q.asking ≡ asks (record { device = device; job = job }) → (k : Kept) → IsPending q k → IsLastRead k (q.front).channel (reads_of q more) × (fault_of p ≡ None)
    asked_last device job (same, asked, one, fault_same, none, r, spelled, named, job_is) asked_is k (inr some) = absurd (cc (kept, some))
    asked_last device job (same, asked, one, fault_same, none, r, spelled, named, job_is) asked_is k (inl under) = (
      subst (λ (j : Kept). IsLastRead j (q.front).channel (reads_of q more)) (subst (λ (a : Asking). IsUnder a k) asked_is under) (record {
        message = m;
        older = reads_of p deeds;
        read_are = read;
        asks = one;
        request = r;
        spells = spelled;
        device_is = named;
        job_is = job_is ∙ (λ i. job_of r (number i) (sym (told.counted on none) i));
      }),
      none,
    )
      where
        number : ((p.front).client).channel ≡ (q.front).channel
        number = keyed.same on ∙ sym channel

pub hears_follows : (was : Bool) (p q : Served) (channel : ℕ) (m : List ℕ) (answer : Result Heard EndFault) (deeds : List Deed) → PartGoes p (part.hears channel m answer) q → IsKeyed p → IsTold p deeds → Follows was p deeds
    → Follows (stopped_by was (part.hears channel m answer)) q (deeds_of (part.hears channel m answer) ++ deeds)
hears_follows was p q channel m answer deeds goes keyed told is = by answer ((goes.3).0).1 goes.4
  where
    on : (p.front).on ≡ true
    on = (both_true (p.front).on _ goes.2).0

    still : (q.front).on ≡ (p.front).on
    still = ap (λ (s : FrontState). s.on) (goes.3).1

    number : (q.front).channel ≡ (p.front).channel
    number = ap (λ (s : FrontState). s.channel) (goes.3).1

    kept : (q.front).kept ≡ None
    kept = ap (λ (s : FrontState). s.kept) (goes.3).1 ∙ none_of (p.front).kept (both_true _ _ (both_true (p.front).on _ goes.2).1).0

    here : (later : Bool) → Follows later q (client_reads (p.front).channel m ∷ deeds) → Follows later q (client_reads channel m ∷ deeds)
    here later so = subst (λ (c : ℕ). Follows later q (client_reads c m ∷ deeds)) (sym goes.0) so

    heard : (a : Result Heard EndFault) → client_hear (p.front).client m ≡ ((q.front).client, a) → HeardAs (p.front).client m ((q.front).client, a)
    heard a e = subst (HeardAs (p.front).client m) e (asking.hears (p.front).client m)

    by : (a : Result Heard EndFault) → hearing.Hears client_side (λ (c : ClientCoreState). c.core) client_hear (p.front).client m a (q.front).client → q.asking ≡ asking_by a → Follows (stopped_by was (part.hears channel m a)) q (deeds_of (part.hears channel m a) ++ deeds)
    by (Err fault.Memory) did asked =
        follows_calm was was p q deeds deeds (λ none. none) (keeping_same p.front q.front still number did.1) (λ c. refl) (λ k some. elim some [ inl under ↦ absurd (subst (λ (a : Asking). IsUnder a k) asked under) | inr kept_so ↦ absurd (cc (kept, kept_so)) ]) is
    by (Err (fault.Order state packet)) did asked = here true (wrong_follows was p q m deeds keyed told on still number kept is (fault.Order state packet) (heard (Err (fault.Order state packet)) did) asked)
    by (Err (fault.Grammar bad)) did asked = here true (wrong_follows was p q m deeds keyed told on still number kept is (fault.Grammar bad) (heard (Err (fault.Grammar bad)) did) asked)
    by (Ok Nothing) did asked = here was (heard_follows was p q m deeds keyed told on still number kept is Nothing did (heard (Ok Nothing) did).3 (λ k pending. absurd (none_pending was p q m deeds keyed told on still number kept is asked k pending)))
    by (Ok (Print n)) did asked = here was (heard_follows was p q m deeds keyed told on still number kept is (Print n) did (heard (Ok (Print n)) did).3 (λ k pending. absurd (none_pending was p q m deeds keyed told on still number kept is asked k pending)))
    by (Ok (Ask device job)) did asked =
        here was (heard_follows was p q m deeds keyed told on still number kept is (Ask device job) did (heard (Ok (Ask device job)) did).3 (asked_last was p q m deeds keyed told on still number kept is device job (heard (Ok (Ask device job)) did) asked))

-- a channel begins
begins_follows : (was : Bool) (p q : Served) (channel : ℕ) (deeds : List Deed) → PartGoes p (begins channel) q → IsKeyed p → IsTold p deeds → Follows false q deeds
begins_follows was p q channel deeds goes keyed told = subst (λ (s : Served). Follows false s deeds) (sym goes.3) (record {
  sound = λ none now. refl;
  state = λ now fine. ap state_read (told.unread channel goes.2);
  last = λ k some. elim some [
    | inl under ↦ absurd (subst (λ (a : Asking). IsUnder a k) goes.0 under)
    | inr kept ↦ absurd (let now = (keyed.kept k kept).on in let off = goes.1 in cc (now, off))
  ];
  clear = λ k some. refl;
})

-- one ends
ends_follows : (was : Bool) (p q : Served) (over : Bool) (told : List (ℕ × List Item)) (deeds : List Deed) → PartGoes p (ends over told) q → Follows was q deeds
ends_follows was p q over told deeds goes =
    let is = ended_is over p.front (q.front).desks in
    let off : (q.front).on ≡ false = ap (λ (s : FrontState). s.on) goes.2 ∙ is.0 in
    let kept : (q.front).kept ≡ None = ap (λ (s : FrontState). s.kept) goes.2 ∙ is.3 in
    let none : (k : Kept) → IsPending q k → ⊥ = λ k some. elim some [ inl under ↦ subst (λ (a : Asking). IsUnder a k) goes.3 under | inr kept_so ↦ cc (kept, kept_so) ] in
    record {
      sound = λ fair now. absurd (cc (off, now));
      state = λ now fine. absurd (cc (off, now));
      last = λ k some. absurd (none k some);
      clear = λ k some. absurd (none k some);
    }

-- By each part it stays so.
pub part_follows : (was : Bool) (p q : Served) (x : FrontPart) (deeds : List Deed) → PartGoes p x q → IsKeyed p → IsTold p deeds → Follows was p deeds → Follows (stopped_by was x) q (deeds_of x ++ deeds)
part_follows was p q x deeds goes keyed told is = by x goes
  where
    calm : (y : FrontPart) (later : Bool) → IsCalmPart y → (later ≡ false → was ≡ false) → ((c : ℕ) → client_read c (deeds_of y ++ deeds) ≡ client_read c deeds) → PartGoes p y q → Follows later q (deeds_of y ++ deeds)
    calm y later quiet flag reads did = follows_calm was later p q deeds (deeds_of y ++ deeds) flag (part_keeping p q y quiet did) reads (pending_before p q y quiet did) is

    by : (y : FrontPart) → PartGoes p y q → Follows (stopped_by was y) q (deeds_of y ++ deeds)
    by (part.hears channel m answer) did = hears_follows was p q channel m answer deeds did keyed told is
    by (begins channel) did = begins_follows was p q channel deeds did keyed told
    by (ends over each) did = ends_follows was p q over each (deeds_of (ends over each) ++ deeds) did
    by tries did = calm tries was tt (λ none. none) (λ c. refl) did
    by keeps did = calm keeps was tt (λ none. none) (λ c. refl) did
    by forgets did = calm forgets true tt (λ none. absurd (cc (none))) (λ c. refl) did
    by misplaces did = calm misplaces true tt (λ none. absurd (cc (none))) (λ c. refl) did
    by (directs st (Ok done)) did = calm (directs st (Ok done)) was tt (λ none. none) (λ c. refl) did
    by (directs st (Err error)) did = calm (directs st (Err error)) true tt (λ none. absurd (cc (none))) (λ c. refl) did
    by (calls place id does back items) did = calm (calls place id does back items) (stopped_by was (calls place id does back items)) tt (either_false (stops (calls place id does back items)) was) (λ c. part_unread c (calls place id does back items) deeds refl) did
    by (tells_gone device answer) did = calm (tells_gone device answer) was tt (λ none. none) (λ c. part_unread c (tells_gone device answer) deeds refl) did
    by (tells_there device answer) did = calm (tells_there device answer) was tt (λ none. none) (λ c. part_unread c (tells_there device answer) deeds refl) did
    by (sends channel o) did = calm (sends channel o) was tt (λ none. none) (λ c. part_unread c (sends channel o) deeds refl) did
    by (writes device done) did = calm (writes device done) was tt (λ none. none) (λ c. refl) did
    by (unwritten device done) did = calm (unwritten device done) was tt (λ none. none) (λ c. refl) did
    by (learns n answer) did = calm (learns n answer) was tt (λ none. none) (λ c. refl) did
    by (refreshes device) did = calm (refreshes device) was tt (λ none. none) (λ c. refl) did

pub parts_follow : (ps : List FrontPart) (was : Bool) (p q : Served) (deeds : List Deed) → PartsGo p ps q → IsKeyed p → IsTold p deeds → Follows was p deeds → Follows (stopped_after was ps) q (deeds_after ps deeds)
parts_follow [] was p q deeds goes keyed told is = subst (λ (s : Served). Follows was s deeds) (sym goes) is
parts_follow (x ∷ ps) was p q deeds goes keyed told is =
    parts_follow ps (stopped_by was x) goes.0 q (deeds_of x ++ deeds) goes.2 (part_keyed p goes.0 x goes.1 keyed) (part_told p goes.0 x deeds goes.1 keyed told) (part_follows was p goes.0 x deeds goes.1 keyed told is)

-- before the first channel
pub new_follows : (p : Served) → (p.front).on ≡ false → p.asking ≡ idle → (p.front).kept ≡ None → Follows false p []
new_follows p off none kept = record {
  sound = λ fair now. absurd (cc (off, now));
  state = λ now fine. absurd (cc (off, now));
  last = λ k some. absurd (never k some);
  clear = λ k some. absurd (never k some);
}
  where
    never : (k : Kept) → IsPending p k → ⊥
    never k (inl under) = subst (λ (a : Asking). IsUnder a k) none under
    never k (inr some) = cc (kept, some)
