-- What passes without that a client tells anything of its devices.
use Rattle.std.proofs.Common.{◌≡◌, ◌⊎◌, ◌∙◌, refl, sym, ap, subst, inl, inr, ℕ, Bool, true, false, List, [], ◌∷◌, ◌++◌, length, map, reverse, drop, fold, Some, None, Option, Result, Ok, Err, append-nil, append_assoc}
use Rattle.std.specs.Prelude.{if◌then◌else◌, ◌==◌}
use Rattle.std.specs.List.{AllByRecursion}
use Rattle.std.specs.Option.{option_map_or, option_to_list}
use Rattle.rd_base.specs.declared.journal.Item.{Item}
use Rattle.rd_base.specs.declared.packet.Packet.{Packet}
use Rattle.rd_base.specs.declared.packet.Packet.TheVariants as packet
use Rattle.rd_base.specs.declared.status.Status.{Status}
use Rattle.rd_base.specs.Header.{packet_id}
use Rattle.rd_base.specs.Statuses as status
use Rattle.rd_client.specs.Core as client
use Rattle.rd_client.specs.Core.{ClientCoreState, ClientDevice, HostSays, Outgoing, client_hear, client_hear_made, client_opened, client_side, listed, plain}
use Rattle.rd_client.specs.Order.{is_client_ready}
use Rattle.rd_client.specs.declared.heard.Heard.{Heard}
use Rattle.rd_client.specs.declared.heard.Heard.TheVariants.{Nothing, Ask, Print}
use Rattle.rd_rest.proofs.ControlsReadyLemmas.{client_kept}
use Rattle.rd_rest.proofs.ControlsUnseen.{client_ready}
use Rattle.rd_core.specs.Core.{CoreState}
use Rattle.rd_core.specs.Hearing as hearing
use Rattle.rd_core.specs.Hearing.{Meaning, messages_of, nothing, opens, says, wrong}
use Rattle.rd_devices.specs.DeviceList.{list_bytes}
use Rattle.rd_devices.specs.declared.list.Announce.{Announce}
use Rattle.rd_drive.proofs.AllLemmas.{all_append}
use Rattle.rd_drive.specs.declared.plan.Job.{Job}
use Rattle.rd_hello.specs.Hello.{hello_bytes}
use Rattle.rd_hello.specs.Moves.{packet_in}
use Rattle.rd_hello.specs.declared.client.ClientState.{ClientState}
use Rattle.rd_hello.specs.declared.client.ClientState.TheVariants as state
use Rattle.rd_hello.specs.declared.end_fault.EndFault.{EndFault}
use Rattle.rd_hello.specs.declared.hello.Hello.{Hello}
use Rattle.rd_hello.specs.declared.hello.Hello.TheVariants as hello
use Rattle.rd_irp.specs.declared.completion.Body.{Body}
use Rattle.rd_irp.specs.declared.completion.Head.{Head}
use Rattle.rd_irp.specs.declared.completion.Kind.{Kind}
use Rattle.rd_irp.specs.Fits.{kind_of}
use Rattle.rd_irp.specs.Written.{completion_bytes}
use Rattle.rd_irp.specs.declared.completion.Body.TheVariants.{Fault}
use Rattle.rd_station.specs.Station as station
use Rattle.rd_station.specs.Station.{StationState}
use Rattle.rd_station.specs.declared.refusals.PutWhy.{PutWhy}
use Rattle.rd_station.specs.declared.refusals.PutWhy.TheVariants as why
use Rattle.rd_deeds.proofs.Messages.{packet_is, written_packet}
use Rattle.rd_world.specs.Acts.{is_telling}
use Rattle.rd_world.specs.Hearing.{announcing, client_hears, heard_by_client, put_at, put_by, putting, refused_put, with_client}
use Rattle.rd_deeds.specs.Talk.{Deed, client_reads, completes, host_reads, host_writes, stores, submits, takes, tells}
use Rattle.rd_world.specs.World.{WorldState, station_at, stored_beyond, with_deed, with_station}
use Rattle.rd_declared.specs.declared.device.SessionDevice.{SessionDevice}

-- ---- deeds by which no client tells anything, and nothing is due to be told

abbrev pub IsSilent : Deed → Type 0
IsSilent (stores device item) = Unit {0}
IsSilent (submits a named op) = Unit {0}
IsSilent (takes number) = Unit {0}
IsSilent (tells n) = Unit {0}
IsSilent (host_writes channel message) = Unit {0}
IsSilent (host_reads channel message) = Unit {0}
IsSilent (client_reads channel message) = Unit {0}
IsSilent (completes key message) = is_telling message ≡ false
IsSilent deed = ⊥

abbrev pub AreSilent : List Deed → Type 0
AreSilent deeds = AllByRecursion IsSilent deeds

pub silent_stores : (device : ℕ) (items : List Item) → AreSilent (map (stores device) items)
silent_stores device [] = tt
silent_stores device (item ∷ items) = (tt, silent_stores device items)

-- messages that tell nothing of devices
abbrev pub AreUntold : List Outgoing → Type 0
AreUntold os = AllByRecursion (λ (o : Outgoing). is_telling o.message ≡ false) os

of_other : (p : Packet) (m : List ℕ) → packet_in m ≡ Some p → (packet_id p == packet_id packet.DeviceListAnnounce) ≡ false → (packet_id p == packet_id packet.DeviceListRemove) ≡ false → is_telling m ≡ false
of_other p m is a b = rw (packet_is p packet.DeviceListAnnounce m is, packet_is p packet.DeviceListRemove m is, a, b) refl

pub hello_untold : (x : Hello) → is_telling (hello_bytes x) ≡ false
hello_untold (hello.Announce v) = of_other packet.ServerAnnounce _ (written_packet packet.ServerAnnounce _) refl refl
hello_untold (hello.Confirm v) = of_other packet.ClientIdConfirm _ (written_packet packet.ClientIdConfirm _) refl refl
hello_untold (hello.Name a b c) = of_other packet.ClientName _ (written_packet packet.ClientName _) refl refl
hello_untold (hello.ServerCaps caps) = of_other packet.ServerCapability _ (written_packet packet.ServerCapability _) refl refl
hello_untold (hello.ClientCaps caps) = of_other packet.ClientCapability _ (written_packet packet.ClientCapability _) refl refl
hello_untold hello.LoggedOn = of_other packet.UserLoggedOn _ (written_packet packet.UserLoggedOn _) refl refl

pub completion_untold : (kind : Kind) (head : Head) (body : Body) → is_telling (completion_bytes kind head body) ≡ false
completion_untold kind head body = of_other packet.IoCompletion (completion_bytes kind head body) (written_packet packet.IoCompletion _) refl refl

hellos_untold : (xs : List Hello) → AreUntold (map plain (map hello_bytes xs))
hellos_untold [] = tt
hellos_untold (x ∷ xs) = (hello_untold x, hellos_untold xs)

-- The second world is what is left of the first by something by which a client tells nothing of its devices.
pub record Unspoken (w v : WorldState) : Type 0 where
  pub more : List Deed
  pub silent : AreSilent more
  pub deeds : v.deeds ≡ more ++ w.deeds
  pub others : List Outgoing
  pub untold : AreUntold others
  pub outbox : ((v.client).core).outbox ≡ ((w.client).core).outbox ++ others
  pub ready : client_ready v ≡ client_ready w
  pub devices : (v.client).devices ≡ (w.client).devices
  pub channels : v.channels ≡ w.channels
  pub printers : v.printers ≡ w.printers

pub unspoken_none : (w : WorldState) → Unspoken w w
unspoken_none w = record { more = []; silent = tt; deeds = refl; others = []; untold = tt; outbox = sym (append-nil ((w.client).core).outbox); ready = refl; devices = refl; channels = refl; printers = refl }

-- by deeds alone
pub unspoken_deeds : {w v : WorldState} (more : List Deed) → AreSilent more → v.deeds ≡ more ++ w.deeds → v.client ≡ w.client → v.channels ≡ w.channels → v.printers ≡ w.printers → Unspoken w v
unspoken_deeds {w} {v} more silent deeds same channels printers = record {
  more = more;
  silent = silent;
  deeds = deeds;
  others = [];
  untold = tt;
  outbox = ap (λ (c : ClientCoreState). (c.core).outbox) same ∙ sym (append-nil ((w.client).core).outbox);
  ready = ap (λ (c : ClientCoreState). is_client_ready (c.core).shake) same;
  devices = ap (λ (c : ClientCoreState). c.devices) same;
  channels = channels;
  printers = printers;
}

pub unspoken_by : (w x y : WorldState) → Unspoken w x → Unspoken x y → Unspoken w y
unspoken_by w x y one two = record {
  more = two.more ++ one.more;
  silent = all_append IsSilent two.more one.more two.silent one.silent;
  deeds = two.deeds ∙ ap (λ (ds : List Deed). two.more ++ ds) one.deeds ∙ sym (append_assoc two.more one.more w.deeds);
  others = one.others ++ two.others;
  untold = all_append (λ (o : Outgoing). is_telling o.message ≡ false) one.others two.others one.untold two.untold;
  outbox = two.outbox ∙ ap (λ (os : List Outgoing). os ++ two.others) one.outbox ∙ append_assoc ((w.client).core).outbox one.others two.others;
  ready = two.ready ∙ one.ready;
  devices = two.devices ∙ one.devices;
  channels = two.channels ∙ one.channels;
  printers = two.printers ∙ one.printers;
}

pub option_unspoken : {X : Type 0} (w : WorldState) (f : X → WorldState) (o : Option X) → ((x : X) → Unspoken w (f x)) → Unspoken w (option_map_or f o w)
option_unspoken w f None each = unspoken_none w
option_unspoken w f (Some x) each = each x

-- ---- stations and jobs

pub stationed_unspoken : (w : WorldState) (device : ℕ) (s : StationState SessionDevice) → Unspoken w (with_station w device s)
stationed_unspoken w device s =
    let count : ℕ = option_map_or (λ (old : StationState SessionDevice). length old.journal) (station_at w device) 0 in
    unspoken_deeds (stored_beyond count device s) (silent_stores device (reverse (drop count s.journal))) refl refl refl refl

pub announced_unspoken : (w : WorldState) (device : ℕ) → Unspoken w (announcing w device)
announced_unspoken w device =
    option_unspoken w (λ (s : StationState SessionDevice). with_station w device (station.announce s).0) (station_at w device) (λ s. stationed_unspoken w device (station.announce s).0)

all_announced : (devices : List Announce) (w : WorldState) → Unspoken w (fold (λ x (a : Announce). announcing x a.id) w devices)
all_announced [] w = unspoken_none w
all_announced (a ∷ devices) w = unspoken_by w (announcing w a.id) _ (announced_unspoken w a.id) (all_announced devices (announcing w a.id))

direct_unspoken : (w : WorldState) (device : ℕ) (job : Job) (st : Status) → Unspoken w (with_client w (client.direct w.client job device st))
direct_unspoken w device job st = record {
  more = [];
  silent = tt;
  deeds = refl;
  others = record { message = client.direct_bytes job device st; answers = Some job.key } ∷ [];
  untold = (completion_untold (kind_of job.op) (record { device = device; completion = job.completion; status = st }) Fault, tt);
  outbox = refl;
  ready = refl;
  devices = refl;
  channels = refl;
  printers = refl;
}

kept_unspoken : (w v : WorldState) → v.deeds ≡ w.deeds → v.client ≡ w.client → v.channels ≡ w.channels → v.printers ≡ w.printers → Unspoken w v
kept_unspoken w v deeds same channels printers = unspoken_deeds [] tt deeds same channels printers

pub put_unspoken : (w : WorldState) (device : ℕ) (job : Job) → Unspoken w (putting w device job)
put_unspoken w device job = at (station_at w device)
  where
    refused : (cause : PutWhy) → Unspoken w (refused_put w device job cause)
    refused why.Gone = direct_unspoken w device job _
    refused (why.Full held) = kept_unspoken w _ refl refl refl refl
    refused (why.Worn count) = direct_unspoken w device job status.insufficient_resources
    refused (why.Duplicate key) = unspoken_none w
    refused why.Memory = unspoken_none w

    by : (r : StationState SessionDevice × Option PutWhy) → Unspoken w (put_by w device job r)
    by (s, None) = stationed_unspoken w device s
    by (s, Some cause) = refused cause

    at : (o : Option (StationState SessionDevice)) → Unspoken w (put_at w device job o)
    at None = direct_unspoken w device job status.no_such_device
    at (Some s) = by (station.put s job)

pub heard_unspoken : (shake : ClientState) (w : WorldState) (r : Result Heard EndFault) → Unspoken w (heard_by_client shake w r)
heard_unspoken shake w (Err fault) = unspoken_none w
heard_unspoken shake w (Ok Nothing) = by (client.becomes_ready shake ((w.client).core).shake)
  where
    by : (b : Bool) → Unspoken w (if b then fold (λ x (a : Announce). announcing x a.id) w (listed w.client) else w)
    by true = all_announced (listed w.client) w
    by false = unspoken_none w
heard_unspoken shake w (Ok (Ask device job)) = put_unspoken w device job
heard_unspoken shake w (Ok (Print n)) = kept_unspoken w _ refl refl refl refl

-- ---- a message is heard

-- A client after a message: it has messages of the opening to write, and is ready if it was; or it becomes ready, and has the list of its devices to write too.
pub record HearsTo (c d : ClientCoreState) : Type 0 where
  pub more : List Outgoing
  pub untold : AreUntold more
  pub devices : d.devices ≡ c.devices
  pub either : ((is_client_ready (d.core).shake ≡ is_client_ready (c.core).shake) × ((d.core).outbox ≡ (c.core).outbox ++ more))
      ⊎ ((is_client_ready (c.core).shake ≡ false) × (is_client_ready (d.core).shake ≡ true) × ((d.core).outbox ≡ ((c.core).outbox ++ more) ++ plain (list_bytes (listed c)) ∷ []))

abbrev made : ClientCoreState → Meaning ClientState HostSays → ClientCoreState × Result Heard EndFault
made c s = client_hear_made c (hearing.hear_said client_side c.core s)

stays_to : (c d : ClientCoreState) → (d.core).shake ≡ (c.core).shake → (d.core).outbox ≡ (c.core).outbox → d.devices ≡ c.devices → HearsTo c d
stays_to c d shake outbox devices =
    record { more = []; untold = tt; devices = devices; either = inl (ap is_client_ready shake, outbox ∙ sym (append-nil (c.core).outbox)) }

becoming : (a b : ClientState) → client.becomes_ready a b ≡ true → (is_client_ready a ≡ false) × (is_client_ready b ≡ true)
becoming state.Ready b e = absurd cc
becoming state.Start state.Ready e = (refl, refl)
becoming state.Named state.Ready e = (refl, refl)
becoming state.Confirmed state.Ready e = (refl, refl)
becoming (state.Offered told) state.Ready e = (refl, refl)
becoming state.Waiting state.Ready e = (refl, refl)
becoming a b e = absurd cc

staying : (a b : ClientState) → client.becomes_ready a b ≡ false → (is_client_ready a ≡ true → is_client_ready b ≡ true) → is_client_ready b ≡ is_client_ready a
staying state.Ready b e keeps = keeps refl
staying state.Start state.Ready e keeps = absurd cc
staying state.Named state.Ready e keeps = absurd cc
staying state.Confirmed state.Ready e keeps = absurd cc
staying (state.Offered told) state.Ready e keeps = absurd cc
staying state.Waiting state.Ready e keeps = absurd cc
staying a b e keeps = refl

opened_to : (c : ClientCoreState) (after : CoreState ClientState Outgoing) (more : List Outgoing) → AreUntold more → after.outbox ≡ (c.core).outbox ++ more
    → (is_client_ready (c.core).shake ≡ true → is_client_ready ((client_opened c after).core).shake ≡ true) → HearsTo c (client_opened c after)
opened_to c after more untold outbox keeps = by (client.becomes_ready (c.core).shake after.shake) refl keeps
  where
    next : ClientCoreState
    next = record c { core = after }

    by : (b : Bool) → client.becomes_ready (c.core).shake after.shake ≡ b
        → (is_client_ready (c.core).shake ≡ true → is_client_ready ((if b then client.with_outgoing next (plain (list_bytes (listed c))) else next).core).shake ≡ true)
        → HearsTo c (if b then client.with_outgoing next (plain (list_bytes (listed c))) else next)
    by true e keep = record {
      more = more;
      untold = untold;
      devices = refl;
      either = (let (was, is) = becoming (c.core).shake after.shake e in inr (was, is, ap (λ (os : List Outgoing). os ++ plain (list_bytes (listed c)) ∷ []) outbox));
    }
    by false e keep = record { more = more; untold = untold; devices = refl; either = inl (staying (c.core).shake after.shake e keep, outbox) }

said_to : (c : ClientCoreState) (s : Meaning ClientState HostSays) → (is_client_ready (c.core).shake ≡ true → is_client_ready (((made c s).0).core).shake ≡ true) → HearsTo c (made c s).0
said_to c (wrong fault) keeps = stays_to c _ refl refl refl
said_to c nothing keeps = opened_to c c.core [] tt (sym (append-nil (c.core).outbox)) keeps
said_to c (opens row) keeps = opened_to c (hearing.after_row client_side c.core row) (map plain (messages_of row)) (hellos_untold (option_to_list row.first ++ option_to_list row.second)) refl keeps
said_to c (says (client.requests r)) keeps = stays_to c _ refl refl refl
said_to c (says (client.replies r)) keeps = stays_to c _ refl refl refl
said_to c (says (client.notices n)) keeps = stays_to c _ refl refl refl

deaf : (c : ClientCoreState) (m : List ℕ) (fault : EndFault) → (c.core).fault ≡ Some fault → client_hear c m ≡ (c, Err fault)
deaf c m fault e = rw e refl

listening : (c : ClientCoreState) (m : List ℕ) → (c.core).fault ≡ None → client_hear c m ≡ made c (hearing.said client_side (c.core).shake m)
listening c m e = rw e refl

pub hears_to : (c : ClientCoreState) (m : List ℕ) → HearsTo c (client_hear c m).0
hears_to c m = by (c.core).fault refl
  where
    kept : is_client_ready (c.core).shake ≡ true → is_client_ready (((client_hear c m).0).core).shake ≡ true
    kept = (client_kept c m).ready

    by : (f : Option EndFault) → (c.core).fault ≡ f → HearsTo c (client_hear c m).0
    by (Some fault) e = subst (λ (r : ClientCoreState × Result Heard EndFault). HearsTo c r.0) (sym (deaf c m fault e)) (stays_to c c refl refl refl)
    by None e =
        subst (λ (r : ClientCoreState × Result Heard EndFault). HearsTo c r.0) (sym (listening c m e))
        (said_to c (hearing.said client_side (c.core).shake m)
        (subst (λ (r : ClientCoreState × Result Heard EndFault). is_client_ready (c.core).shake ≡ true → is_client_ready ((r.0).core).shake ≡ true) (listening c m e) kept))

-- what is left of a world after a client read a message, by the client after it
abbrev pub read_by : WorldState → List ℕ → ClientCoreState → WorldState
read_by w m c = with_deed (with_client w c) (client_reads w.channels m)

pub hears_unspoken : (w : WorldState) (m : List ℕ) → Unspoken (read_by w m (client_hear w.client m).0) (client_hears w m)
hears_unspoken w m = heard_unspoken ((w.client).core).shake (read_by w m (client_hear w.client m).0) (client_hear w.client m).1
