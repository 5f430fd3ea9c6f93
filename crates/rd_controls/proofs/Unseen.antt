-- What happens by itself begins and ends no channel, removes and adds no device, tells of no printer, and leaves an end that is ready so.
use Rattle.std.proofs.Common.{◌≡◌, ◌∙◌, refl, sym, ap, subst, ℕ, zero, suc, ◌==◌, Bool, true, false, List, [], ◌∷◌, ◌++◌, length, map, reverse, drop, fold, Some, None, Option, Result, Ok, Err, append_assoc, arith}
use Rattle.std.specs.Prelude.{filter_map, if◌then◌else◌, is_some}
use Rattle.std.specs.List.{cons_option}
use Rattle.std.specs.Option.{option_and_then, option_map_or}
use Rattle.rd_base.specs.Statuses.{not_supported}
use Rattle.rd_base.specs.declared.journal.Item.{Item}
use Rattle.rd_base.specs.declared.journal.Key.{Key}
use Rattle.rd_client.specs.Core as client
use Rattle.rd_client.specs.Core.{ClientCoreState, ClientDevice, Outgoing, client_hear, listed}
use Rattle.rd_client.specs.Order.{is_client_ready}
use Rattle.rd_client.specs.declared.heard.Heard.{Heard}
use Rattle.rd_client.specs.declared.heard.Heard.TheVariants.{Ask, Nothing, Print}
use Rattle.rd_core.specs.Core as core
use Rattle.rd_core.specs.Core.{CoreState}
use Rattle.rd_devices.specs.declared.list.Announce.{Announce}
use Rattle.rd_drive.specs.declared.plan.Job.{Job}
use Rattle.rd_hello.specs.declared.client.ClientState.{ClientState}
use Rattle.rd_hello.specs.declared.end_fault.EndFault.{EndFault}
use Rattle.rd_host.specs.Core as host
use Rattle.rd_core.specs.Hearing.{hear}
use Rattle.rd_hello.specs.declared.host.HostState.{HostState}
use Rattle.rd_host.specs.Core.{HostCoreState, host_hear, host_hear_made, host_side}
use Rattle.rd_host.specs.Order.{is_host_ready}
use Rattle.rd_host.specs.Served.{is_served_type}
use Rattle.rd_host.specs.declared.act.Act.{Act}
use Rattle.rd_host.specs.declared.act.Act.TheVariants as host_act
use Rattle.rd_irp.specs.declared.op.Op.{Op}
use Rattle.rd_pending.proofs.Neutral.{channel_kept}
use Rattle.rd_pending.specs.History as call
use Rattle.rd_pending.specs.Table as table
use Rattle.rd_pending.specs.Table.{TableState}
use Rattle.rd_pending.specs.declared.calls.LiveNo.{LiveNo}
use Rattle.rd_pending.specs.declared.calls.SubmitNo.{SubmitNo}
use Rattle.rd_pending.specs.declared.calls.TakeNo.{TakeNo}
use Rattle.rd_pending.specs.declared.calls.Taken.{Taken}
use Rattle.rd_pending.specs.declared.calls.Target.{Target}
use Rattle.rd_runs.specs.Moves.{event_weight}
use Rattle.rd_script.specs.declared.outcome.Outcome.{Outcome}
use Rattle.rd_station.specs.Station as station
use Rattle.rd_station.specs.Station.{StationState}
use Rattle.rd_station.specs.declared.answers.Completion.{Completion}
use Rattle.rd_station.specs.declared.answers.Given.{Given}
use Rattle.rd_station.specs.declared.answers.Given.TheVariants as given
use Rattle.rd_station.specs.declared.refusals.PutWhy.{PutWhy}
use Rattle.rd_station.specs.declared.refusals.PutWhy.TheVariants as why
use Rattle.rd_controls.proofs.ReadyLemmas.{client_kept, host_kept}
use Rattle.rd_world.specs.Acts.{act_by}
use Rattle.rd_world.specs.Control as control
use Rattle.rd_world.specs.Events as event
use Rattle.rd_world.specs.Events.{Event, act, applies_at, applies_held, asks, client_sends_first, collects_from, comes_of_asking, completion_message, deed_on, issues_next, takes_job_from, target_of, with_hand}
use Rattle.rd_world.specs.Hearing.{after_opening, all_take, announcing, client_handles, client_handles_all, client_handles_first, client_hears, ends_line, heard_by_client, host_handles, host_handles_first, host_hears, next_asked, put_at, put_by, putting, refused_put, takes_awaited, takes_from, takes_outcome, tries, tries_kept, with_client, with_outcome}
use Rattle.rd_deeds.specs.Host.{HostSide, admits, forgets, hears, host_heard, lived, next_message, sent_from, side_sends}
use Rattle.rd_deeds.specs.Talk.{Deed, EndsWith, client_reads, client_writes, completes, host_reads, host_writes, stores, submits, takes}
use Rattle.rd_world.specs.World.{ApplicationState, Asked, Kept, WayState, WorldState, application_at, client_sends, handling, having_read, host_sends, most_messages, station_at, stored_beyond, with_application, with_deed, with_station, with_table}
use Rattle.rd_declared.specs.declared.device.SessionDevice.{SessionDevice}
use Rattle.rd_pending.specs.declared.calls.Handle.{Handle}

-- a device's id, and whether it was removed and not added since
abbrev pub mark : ClientDevice → ℕ × Bool
mark d = ((d.announce).id, d.removed)

-- what control lines are seen by: the id that the host announces, the channel that is open, how many began, the lines that did nothing, the client's devices by their ids with
-- whether they are gone, and what was done by lines, the newest first
pub record Seen : Type 0 where
  pub number : ℕ
  pub channel : Option ℕ
  pub channels : ℕ
  pub idle : List ℕ
  pub marks : List (ℕ × Bool)
  pub acts : List control.Act

abbrev pub seen : WorldState → Seen
seen w = record { number = ((w.side).core).client; channel = ((w.side).table).channel; channels = w.channels; idle = w.idle; marks = map mark (w.client).devices; acts = filter_map act_by w.deeds }

abbrev pub client_ready : WorldState → Bool
client_ready w = is_client_ready ((w.client).core).shake

abbrev pub host_ready : WorldState → Bool
host_ready w = is_host_ready (((w.side).core).core).shake

-- The second world is what is left of the first by something of which nothing is seen.
pub record Unseen (w v : WorldState) : Type 0 where
  pub same : seen v ≡ seen w
  pub grows : EndsWith v.deeds w.deeds
  pub client : client_ready w ≡ true → client_ready v ≡ true
  pub host : host_ready w ≡ true → host_ready v ≡ true

pub unseen_none : (w : WorldState) → Unseen w w
unseen_none w = record { same = refl; grows = ([], refl); client = λ is. is; host = λ is. is }

-- by way of a third
pub unseen_by : (w x y : WorldState) → Unseen w x → Unseen x y → Unseen w y
unseen_by w x y first second =
    record {
      same = second.same ∙ first.same;
      grows = (second.grows.0 ++ first.grows.0, second.grows.1 ∙ ap (λ (ds : List Deed). second.grows.0 ++ ds) first.grows.1 ∙ sym (append_assoc second.grows.0 first.grows.0 w.deeds));
      client = λ is. second.client (first.client is);
      host = λ is. second.host (first.host is);
    }

pub option_unseen : {X : Type 0} (w : WorldState) (f : X → WorldState) (o : Option X) → ((x : X) → Unseen w (f x)) → Unseen w (option_map_or f o w)
option_unseen w f None each = unseen_none w
option_unseen w f (Some x) each = each x

-- ---- stations

stores_silent : (device : ℕ) (items : List Item) (deeds : List Deed) → filter_map act_by (map (stores device) items ++ deeds) ≡ filter_map act_by deeds
stores_silent device [] deeds = refl
stores_silent device (item ∷ items) deeds = stores_silent device items deeds

pub stationed : (w : WorldState) (device : ℕ) (s : StationState SessionDevice) → Unseen w (with_station w device s)
stationed w device s =
    let count : ℕ = option_map_or (λ (old : StationState SessionDevice). length old.journal) (station_at w device) 0 in
    record {
      same = ap (λ (acts : List control.Act). record (seen w) { acts = acts }) (stores_silent device (reverse (drop count s.journal)) w.deeds);
      grows = (stored_beyond count device s, refl);
      client = λ is. is;
      host = λ is. is;
    }

pub announced : (w : WorldState) (device : ℕ) → Unseen w (announcing w device)
announced w device = option_unseen w (λ (s : StationState SessionDevice). with_station w device (station.announce s).0) (station_at w device) (λ s. stationed w device (station.announce s).0)

all_announced : (devices : List Announce) (w : WorldState) → Unseen w (fold (λ x (a : Announce). announcing x a.id) w devices)
all_announced [] w = unseen_none w
all_announced (a ∷ devices) w = unseen_by w (announcing w a.id) _ (announced w a.id) (all_announced devices (announcing w a.id))

-- ---- the client hears

refused_unseen : (w : WorldState) (device : ℕ) (job : Job) (cause : PutWhy) → Unseen w (refused_put w device job cause)
refused_unseen w device job why.Gone = record { same = refl; grows = ([], refl); client = λ is. is; host = λ is. is }
refused_unseen w device job (why.Full held) = record { same = refl; grows = ([], refl); client = λ is. is; host = λ is. is }
refused_unseen w device job (why.Worn count) = record { same = refl; grows = ([], refl); client = λ is. is; host = λ is. is }
refused_unseen w device job (why.Duplicate key) = unseen_none w
refused_unseen w device job why.Memory = unseen_none w

put_unseen : (w : WorldState) (device : ℕ) (job : Job) → Unseen w (putting w device job)
put_unseen w device job = at (station_at w device)
  where
    by : (r : StationState SessionDevice × Option PutWhy) → Unseen w (put_by w device job r)
    by (s, None) = stationed w device s
    by (s, Some cause) = refused_unseen w device job cause

    at : (o : Option (StationState SessionDevice)) → Unseen w (put_at w device job o)
    at None = record { same = refl; grows = ([], refl); client = λ is. is; host = λ is. is }
    at (Some s) = by (station.put s job)

opening_unseen : (shake : ClientState) (w : WorldState) → Unseen w (after_opening shake w)
opening_unseen shake w = by (client.becomes_ready shake ((w.client).core).shake)
  where
    by : (b : Bool) → Unseen w (if b then fold (λ x (a : Announce). announcing x a.id) w (listed w.client) else w)
    by true = all_announced (listed w.client) w
    by false = unseen_none w

pub heard_unseen : (shake : ClientState) (w : WorldState) (r : Result Heard EndFault) → Unseen w (heard_by_client shake w r)
heard_unseen shake w (Err fault) = unseen_none w
heard_unseen shake w (Ok Nothing) = opening_unseen shake w
heard_unseen shake w (Ok (Ask device job)) = put_unseen w device job
heard_unseen shake w (Ok (Print n)) = record { same = refl; grows = ([], refl); client = λ is. is; host = λ is. is }

client_hears_unseen : (w : WorldState) (message : List ℕ) → Unseen w (client_hears w message)
client_hears_unseen w message =
    let heard = client_hear w.client message in
    let x : WorldState = with_deed (with_client w heard.0) (client_reads w.channels message) in
    let kept = client_kept w.client message in
    unseen_by w x _
    (record { same = ap (λ (ds : List ClientDevice). record (seen w) { marks = map mark ds }) kept.devices; grows = (client_reads w.channels message ∷ [], refl); client = kept.ready; host = λ is. is })
    (heard_unseen ((w.client).core).shake x heard.1)

pub client_handles_unseen : (most : ℕ) (w : WorldState) → Unseen w (client_handles most w)
client_handles_unseen zero w = unseen_none w
client_handles_unseen (suc most) w = by (is_some w.kept) (client_handles_unseen most)
  where
    first : ((x : WorldState) → Unseen x (client_handles most x)) → (r : WayState × Option (List ℕ)) → Unseen w (client_handles_first w r (client_handles most))
    first next (y, None) = record { same = refl; grows = ([], refl); client = λ is. is; host = λ is. is }
    first next (y, Some message) =
        let x : WorldState = record w { to_client = y } in
        unseen_by w (client_hears x message) _
        (let h = client_hears_unseen x message in record { same = h.same; grows = h.grows; client = h.client; host = h.host }) (next (client_hears x message))

    by : (b : Bool) → ((x : WorldState) → Unseen x (client_handles most x)) → Unseen w (if b then w else client_handles_first w (handling w.to_client) (client_handles most))
    by true next = unseen_none w
    by false next = first next (handling w.to_client)

pub client_handles_all_unseen : (w : WorldState) → Unseen w (client_handles_all w)
client_handles_all_unseen w = client_handles_unseen (most_messages w.to_client) w

pub tries_unseen : (w : WorldState) (device : ℕ) → Unseen w (tries_kept w device)
tries_unseen w device = by w.kept
  where
    by : (o : Option Kept) → Unseen w (tries w device o)
    by None = unseen_none w
    by (Some k) = when (k.device == device)
      where
        x : WorldState
        x = putting (record w { kept = None }) k.device k.job

        put : Unseen w x
        put = let p = put_unseen (record w { kept = None }) k.device k.job in record { same = p.same; grows = p.grows; client = p.client; host = p.host }

        when : (b : Bool) → Unseen w (if b then client_handles_all x else w)
        when true = unseen_by w x _ put (client_handles_all_unseen x)
        when false = unseen_none w

-- ---- the client sends, and its hands

deed_silent : (channel : ℕ) (o : Outgoing) → act_by (deed_on channel o) ≡ None
deed_silent channel o = by o.answers
  where
    by : (a : Option Key) → act_by (option_map_or (λ key. completes key o.message) a (client_writes channel o.message)) ≡ None
    by None = refl
    by (Some key) = refl

client_send_unseen : (w : WorldState) → Unseen w (event.client_sends_next w)
client_send_unseen w = by ((w.client).core).outbox
  where
    by : (l : List Outgoing) → Unseen w (client_sends_first w (let sent = core.send_from (w.client).core l in (record w.client { core = sent.0 }, sent.1)))
    by [] = unseen_none w
    by (o ∷ later) = record {
      same = ap (λ (a : Option control.Act). record (seen w) { acts = cons_option a (filter_map act_by w.deeds) }) (deed_silent w.channels o);
      grows = (deed_on w.channels o ∷ [], refl);
      client = λ is. is;
      host = λ is. is;
    }

collect_unseen : (w : WorldState) (device : ℕ) → Unseen w (event.collects w device)
collect_unseen w device = at (station_at w device)
  where
    by : (r : StationState SessionDevice × Option Completion) → Unseen w (collects_from w device r)
    by (s, None) = unseen_none w
    by (s, Some c) =
        let bytes : List ℕ = completion_message device c in
        let x : WorldState = with_station w device s in
        let y : WorldState = client_sends x (completes c.key bytes) bytes in
        unseen_by w x _ (stationed w device s) (unseen_by x y _ (record { same = refl; grows = (completes c.key bytes ∷ [], refl); client = λ is. is; host = λ is. is }) (tries_unseen y device))

    at : (o : Option (StationState SessionDevice)) → Unseen w (option_map_or (λ (s : StationState SessionDevice). collects_from w device (station.collect s)) o w)
    at None = unseen_none w
    at (Some s) = by (station.collect s)

handed : (w : WorldState) (hand : ℕ) (held : Option (ℕ × Job)) → Unseen w (with_hand w hand held)
handed w hand held = record { same = refl; grows = ([], refl); client = λ is. is; host = λ is. is }

take_unseen : (w : WorldState) (device hand : ℕ) → Unseen w (event.takes_job w device hand)
take_unseen w device hand = at (station_at w device)
  where
    by : (r : StationState SessionDevice × Given) → Unseen w (takes_job_from w device hand r)
    by (s, given.Job job) = unseen_by w (with_station w device s) _ (stationed w device s) (handed (with_station w device s) hand (Some (device, job)))
    by (s, given.Nothing) = unseen_none w
    by (s, given.Over) = unseen_none w

    at : (o : Option (StationState SessionDevice)) → Unseen w (option_map_or (λ (s : StationState SessionDevice). takes_job_from w device hand (station.take s)) o w)
    at None = unseen_none w
    at (Some s) = by (station.take s)

module _ (starves : Key → Bool) where
  apply_unseen : (w : WorldState) (hand : ℕ) → Unseen w (event.applies_job starves w hand)
  apply_unseen w hand = by (option_and_then (λ held. held) (event.hand_at w hand))
    where
      at : (device : ℕ) (job : Job) (o : Option (StationState SessionDevice)) → Unseen w (applies_at starves w hand device job o)
      at device job None = handed w hand None
      at device job (Some s) =
          let x : WorldState = with_station w device (station.apply s job w.moment (event.came_of starves w job s.device)).0 in
          unseen_by w x _ (stationed w device (station.apply s job w.moment (event.came_of starves w job s.device)).0) (handed x hand None)

      by : (o : Option (ℕ × Job)) → Unseen w (applies_held starves w hand o)
      by None = unseen_none w
      by (Some (device, job)) = at device job (station_at w device)

-- ---- the host

-- a side of which nothing is seen
record Beside (s t : HostSide) : Type 0 where
  number : (t.core).client ≡ (s.core).client
  channel : (t.table).channel ≡ (s.table).channel
  ready : is_host_ready ((s.core).core).shake ≡ true → is_host_ready ((t.core).core).shake ≡ true

beside_by : (s t u : HostSide) → Beside s t → Beside t u → Beside s u
beside_by s t u first second = record { number = second.number ∙ first.number; channel = second.channel ∙ first.channel; ready = λ is. second.ready (first.ready is) }

sided : (w : WorldState) (t : HostSide) → Beside w.side t → Unseen w (record w { side = t })
sided w t b = record { same = (λ i. record (seen w) { number = b.number i; channel = b.channel i }); grows = ([], refl); client = λ is. is; host = b.ready }

admits_beside : (s : HostSide) (a : Announce) → Beside s (admits s a)
admits_beside s a = by (is_served_type a.kind)
  where
    from : (r : TableState × Result ℕ LiveNo) → (r.0).channel ≡ (s.table).channel → Beside s (lived s a.id r)
    from (after, life) same = record { number = refl; channel = same; ready = λ is. is }

    by : (b : Bool) → Beside s (if b then lived s a.id (table.live s.table a.id) else record s { core = host.reply s.core a.id not_supported })
    by true = from (table.live s.table a.id) (channel_kept (call.lives a.id) tt s.table)
    by false = record { number = refl; channel = refl; ready = λ is. is }

all_admitted : (devices : List Announce) (s : HostSide) → Beside s (fold admits s devices)
all_admitted [] s = record { number = refl; channel = refl; ready = λ is. is }
all_admitted (a ∷ devices) s = beside_by s (admits s a) _ (admits_beside s a) (all_admitted devices (admits s a))

all_forgotten : (ids : List ℕ) (s : HostSide) → Beside s (fold forgets s ids)
all_forgotten [] s = record { number = refl; channel = refl; ready = λ is. is }
all_forgotten (id ∷ ids) s =
    beside_by s (forgets s id) _ (record { number = refl; channel = channel_kept (call.removes id) tt s.table; ready = λ is. is }) (all_forgotten ids (forgets s id))

host_heard_beside : (s : HostSide) (r : Result Act EndFault) → Beside s (host_heard s r)
host_heard_beside s (Err fault) = record { number = refl; channel = refl; ready = λ is. is }
host_heard_beside s (Ok host_act.Nothing) = record { number = refl; channel = refl; ready = λ is. is }
host_heard_beside s (Ok (host_act.Announced devices)) = all_admitted devices s
host_heard_beside s (Ok (host_act.Removed ids)) = all_forgotten ids s
host_heard_beside s (Ok (host_act.Complete head bytes)) = record { number = refl; channel = channel_kept (call.completes head bytes) tt s.table; ready = λ is. is }

heard_number : (h : HostCoreState) (r : CoreState HostState (List ℕ) × Result (Option Act) EndFault) → ((host_hear_made h r).0).client ≡ h.client
heard_number h (after, Err fault) = refl
heard_number h (after, Ok None) = refl
heard_number h (after, Ok (Some says)) = refl

hears_beside : (s : HostSide) (message : List ℕ) → Beside s (hears s message)
hears_beside s message =
    let made = host_hear s.core message in
    beside_by s (record s { core = made.0 }) _ (record { number = heard_number s.core (hear host_side s.core.core message); channel = refl; ready = host_kept s.core message }) (host_heard_beside (record s { core = made.0 }) made.1)

host_hears_unseen : (w : WorldState) (message : List ℕ) → Unseen w (host_hears w message)
host_hears_unseen w message = let b = sided w (hears w.side message) (hears_beside w.side message) in record { same = b.same; grows = (host_reads w.channels message ∷ [], refl); client = b.client; host = b.host }

pub host_handles_unseen : (most : ℕ) (w : WorldState) → Unseen w (host_handles most w)
host_handles_unseen zero w = unseen_none w
host_handles_unseen (suc most) w = by (host_handles_unseen most) (handling w.to_host)
  where
    by : ((x : WorldState) → Unseen x (host_handles most x)) → (r : WayState × Option (List ℕ)) → Unseen w (host_handles_first w r (host_handles most))
    by next (y, None) = record { same = refl; grows = ([], refl); client = λ is. is; host = λ is. is }
    by next (y, Some message) =
        let x : WorldState = record w { to_host = y } in
        unseen_by w (host_hears x message) _
        (let h = host_hears_unseen x message in record { same = h.same; grows = h.grows; client = h.client; host = h.host }) (next (host_hears x message))

sends_beside : (s : HostSide) → Beside s (side_sends s)
sends_beside s = by ((s.core).core).outbox refl
  where
    by : (l : List (List ℕ)) → ((s.core).core).outbox ≡ l → Beside s (sent_from s l)
    by [] is = record { number = refl; channel = channel_kept call.sends tt s.table; ready = λ own. own }
    by (message ∷ others) is =
        record { number = refl; channel = refl; ready = λ own. subst (λ (l : List (List ℕ)). is_host_ready ((core.send_from (s.core).core l).0).shake ≡ true) (sym is) own }

host_send_unseen : (w : WorldState) → Unseen w (event.host_sends_next w)
host_send_unseen w =
    option_unseen w (host_sends (record w { side = side_sends w.side })) (next_message w.side)
    (λ message. let b = sided w (side_sends w.side) (sends_beside w.side) in record { same = b.same; grows = (host_writes w.channels message ∷ [], refl); client = b.client; host = b.host })

-- ---- applications

line_unseen : (w : WorldState) (a : ℕ) (o : Outcome) (holds : Option Handle) → Unseen w (ends_line w a o holds)
line_unseen w a o holds =
    option_unseen w (λ asked. with_application w a (with_outcome (application_at w a) o holds asked)) (next_asked (application_at w a)) (λ asked. record { same = refl; grows = ([], refl); client = λ is. is; host = λ is. is })

tabled : (w : WorldState) (t : TableState) → t.channel ≡ ((w.side).table).channel → Unseen w (with_table w t)
tabled w t same = sided w (record w.side { table = t }) (record { number = refl; channel = same; ready = λ is. is })

outcome_unseen : (w : WorldState) (a : ℕ) → Unseen w (takes_outcome w a)
outcome_unseen w a = by (application_at w a).awaits
  where
    from : (number : ℕ) (r : TableState × Result Taken TakeNo) → (r.0).channel ≡ ((w.side).table).channel → Unseen w (takes_from w a number r)
    from number (t, Err cause) same = unseen_none w
    from number (t, Ok taken) same =
        let x : WorldState = with_deed (with_table w t) (takes number) in
        let b = tabled w t same in
        unseen_by w x _ (record { same = b.same; grows = (takes number ∷ [], refl); client = b.client; host = b.host }) (line_unseen x a _ _)

    by : (o : Option ℕ) → Unseen w (takes_awaited w a o)
    by None = unseen_none w
    by (Some number) = from number (table.take (w.side).table number) (channel_kept (call.takes number) tt (w.side).table)

outcomes_unseen : (applications : List ℕ) (w : WorldState) → Unseen w (fold takes_outcome w applications)
outcomes_unseen [] w = unseen_none w
outcomes_unseen (a ∷ applications) w = unseen_by w (takes_outcome w a) _ (outcome_unseen w a) (outcomes_unseen applications (takes_outcome w a))

pub all_take_unseen : (w : WorldState) → Unseen w (all_take w)
all_take_unseen w = outcomes_unseen (map (λ (e : ℕ × ApplicationState). e.0) w.applications) w

issue_unseen : (w : WorldState) (a : ℕ) → Unseen w (event.issues w a)
issue_unseen w a = by (next_asked (application_at w a))
  where
    from : (asked : Op) (named : Target) (r : TableState × Result ℕ SubmitNo) → (r.0).channel ≡ ((w.side).table).channel → Unseen w (comes_of_asking w a asked named r)
    from asked named (t, Ok number) same = let b = tabled w t same in record { same = b.same; grows = (submits a named asked ∷ [], refl); client = b.client; host = b.host }
    from asked named (t, Err cause) same = line_unseen w a _ None

    asks_unseen : (o : Op) (named : Option Target) → Unseen w (asks w a o named)
    asks_unseen o None = line_unseen w a _ None
    asks_unseen o (Some named) = from o named (table.submit (w.side).table a named o) (channel_kept (call.submits a named o) tt (w.side).table)

    by : (o : Option Asked) → Unseen w (issues_next w a o)
    by None = unseen_none w
    by (Some asked) = asks_unseen asked.op (target_of (application_at w a) asked)

-- ---- what happens by itself

pub event_unseen : (starves : Key → Bool) (w : WorldState) (e : Event) → event_weight e ≡ 0 → Unseen w (act starves w e)
event_unseen starves w (event.issue a) none = issue_unseen w a
event_unseen starves w event.host_send none = host_send_unseen w
event_unseen starves w (event.client_read n) none =
    let x : WorldState = record w { to_client = having_read n w.to_client } in
    unseen_by w x _ (record { same = refl; grows = ([], refl); client = λ is. is; host = λ is. is }) (client_handles_all_unseen x)
event_unseen starves w event.client_send none = client_send_unseen w
event_unseen starves w (event.collect device) none = collect_unseen w device
event_unseen starves w (event.host_read n) none =
    let x : WorldState = record w { to_host = having_read n w.to_host } in
    let y : WorldState = host_handles (most_messages x.to_host) x in
    unseen_by w x _ (record { same = refl; grows = ([], refl); client = λ is. is; host = λ is. is }) (unseen_by x y _ (host_handles_unseen (most_messages x.to_host) x) (all_take_unseen y))
event_unseen starves w (event.take_job device hand) none = take_unseen w device hand
event_unseen starves w (event.apply_job hand) none = apply_unseen starves w hand
event_unseen starves w e none = absurd (omega (arith, none))
