-- In each world that lines come to, what a client read and wrote on each channel is in order, and it stands somewhere on the open one.
use Rattle.std.proofs.Common.{◌≡◌, ◌∙◌, refl, sym, ap, subst, inl, inr, ℕ, ◌&&◌, ◌||◌, arith, Bool, true, false, List, [], ◌∷◌, ◌++◌, map, reverse, Some, None, Option, Result, Ok, Err, is_ok}
use Rattle.std.specs.Prelude.{if◌then◌else◌, IsSome}
use Rattle.std.specs.List.{AllByRecursion, list_any}
use Rattle.std.proofs.lemmas.List.{append-nil, reverse-append}
use Rattle.rd_client.proofs.OrderLemmas.{event_in_order}
use Rattle.rd_client.specs.Core as client
use Rattle.rd_client.specs.Core.{AreDevices, ClientCoreState, ClientDevice, HostSays, IsClientReady, MayTellAdded, MayTellRemoved, Outgoing, announces, becomes_ready, client_begin, client_hear, client_hear_made, client_opened, client_side, directs, hears, is_device, is_gone, has_device, listed, may_be_asked, notices, plain, refresh, refreshed, refreshes, replies, requests, sends, tells_added, tells_removed, with_outgoing}
use Rattle.rd_client.specs.declared.heard.Heard.{Heard}
use Rattle.rd_client.specs.declared.heard.Heard.TheVariants.{Nothing, Ask, Print}
use Rattle.rd_client.specs.Events.{AreWritable, ClientEvent, ClientEventStep, ClientStandsAt, MayComplete, calls, client_event_moves, completes as completes_event, untold, without_data}
use Rattle.rd_client.specs.Order.{ClientOrder, ClientStanding, client_at_first, client_part, stand_after}
use Rattle.rd_core.proofs.OrderLemmas.{stand_onward}
use Rattle.rd_core.specs.Core.{CoreState}
use Rattle.rd_core.specs.Hearing as hearing
use Rattle.rd_devices.specs.declared.list.Announce.{Announce}
use Rattle.rd_devices.specs.DeviceList.{list_bytes}
use Rattle.rd_drive.specs.declared.plan.Job.{Job}
use Rattle.rd_hello.specs.declared.client.ClientState.{ClientState}
use Rattle.rd_hello.specs.declared.client.ClientState.TheVariants as client_state
use Rattle.rd_hello.specs.declared.end_fault.EndFault.{EndFault}
use Rattle.rd_hello.specs.Moves.{Move, reads, writes}
use Rattle.rd_orders.proofs.Meeting.{IsHeardTo, IsPut}
use Rattle.rd_orders.proofs.PhaseLemmas.{AsksReady}

module _ (devices : List Announce) (gone : ℕ → Bool) where
  -- By these moves, the newest first, a client stands somewhere in the order of its messages.
  pub record ClientNow (moves : List Move) (c : ClientCoreState) : Type 0 where
    pub stand : ClientStanding
    pub is : stand_after devices gone client_at_first (reverse moves) ≡ Some stand
    pub at : ClientStandsAt devices gone stand c

  pub now_ordered : (moves : List Move) (c : ClientCoreState) → ClientNow moves c → ClientOrder devices gone (reverse moves)
  now_ordered moves c n = subst (λ (o : Option ClientStanding). IsSome o) (sym n.is) refl

  -- the moves of an event come after those before it
  one_event : (old new : ClientCoreState) (event : ClientEvent) (moves : List Move) → ClientEventStep old event new → ClientNow moves old → (t : ClientStanding)
      × (stand_after devices gone client_at_first (reverse moves ++ client_event_moves event) ≡ Some t) × ClientStandsAt devices gone t new
  one_event old new event moves step n =
      let next = event_in_order devices gone n.stand old new event n.at step in
      (next.0, stand_onward client_side (client_part devices gone) client_at_first n.stand (reverse moves) (client_event_moves event) n.is ∙ next.1, next.2)

  quiet_event : (old new : ClientCoreState) (event : ClientEvent) (moves : List Move) → client_event_moves event ≡ [] → ClientEventStep old event new → ClientNow moves old → ClientNow moves new
  quiet_event old new event moves none step n =
      let next = one_event old new event moves step n in
      record { stand = next.0; is = ap (stand_after devices gone client_at_first) (sym (append-nil (reverse moves)) ∙ ap (λ (ms : List Move). reverse moves ++ ms) (sym none)) ∙ next.1; at = next.2 }

  loud_event : (old new : ClientCoreState) (event : ClientEvent) (moves : List Move) (m : Move) → client_event_moves event ≡ m ∷ [] → ClientEventStep old event new → ClientNow moves old → ClientNow (m ∷ moves) new
  loud_event old new event moves m one step n =
      let next = one_event old new event moves step n in
      record { stand = next.0; is = ap (stand_after devices gone client_at_first) (reverse-append (m ∷ []) moves ∙ ap (λ (ms : List Move). reverse moves ++ ms) (sym one)) ∙ next.1; at = next.2 }

  -- ---- what a client does

  -- it hears a message, however many it heard before
  counted_stands : (s : ClientStanding) (c : ClientCoreState) (asked : ℕ) → ClientStandsAt devices gone s c → ClientStandsAt devices gone s (record c { asked = asked })
  counted_stands s c asked at = record { telling = at.telling; stand = at.stand; told = at.told; same = at.same; are = at.are; writable = at.writable }

  record Recounts (r q : ClientCoreState × Result Heard EndFault) : Type 0 where
    core : (q.0).core ≡ (r.0).core
    devices_are : (q.0).devices ≡ (r.0).devices
    ok : is_ok r.1 ≡ true → is_ok q.1 ≡ true

  recounted : (c : ClientCoreState) (m : List ℕ) → Recounts (client_hear c m) (client_hear (record c { asked = 0 }) m)
  recounted c m = by (hearing.hear client_side c.core m)
    where
      opened : (after : CoreState ClientState Outgoing) (b : Bool)
          → Recounts ((if b then with_outgoing (record c { core = after }) (plain (list_bytes (listed c))) else record c { core = after }), Ok Nothing)
          ((if b then with_outgoing (record c { core = after; asked = 0 }) (plain (list_bytes (listed c))) else record c { core = after; asked = 0 }), Ok Nothing)
      opened after true = record { core = refl; devices_are = refl; ok = λ is. refl }
      opened after false = record { core = refl; devices_are = refl; ok = λ is. refl }

      by : (r : CoreState ClientState Outgoing × Result (Option HostSays) EndFault) → Recounts (client_hear_made c r) (client_hear_made (record c { asked = 0 }) r)
      by (after, Err fault) = record { core = refl; devices_are = refl; ok = λ is. is }
      by (after, Ok None) = opened after (becomes_ready (c.core).shake after.shake)
      by (after, Ok (Some (requests r))) = record { core = refl; devices_are = refl; ok = λ is. refl }
      by (after, Ok (Some (replies r))) = record { core = refl; devices_are = refl; ok = λ is. refl }
      by (after, Ok (Some (notices n))) = record { core = refl; devices_are = refl; ok = λ is. refl }

  same_stands : (s : ClientStanding) (c d : ClientCoreState) → d.core ≡ c.core → d.devices ≡ c.devices → ClientStandsAt devices gone s c → ClientStandsAt devices gone s d
  same_stands s c d core own at =
      subst (λ (e : CoreState ClientState Outgoing). ClientStandsAt devices gone s (record d { core = e })) (sym core)
      (subst (λ (ds : List ClientDevice). ClientStandsAt devices gone s (record d { core = c.core; devices = ds })) (sym own)
      (record { telling = at.telling; stand = at.stand; told = at.told; same = at.same; are = at.are; writable = at.writable }))

  pub hears_now : (c : ClientCoreState) (m : List ℕ) (moves : List Move) → is_ok (client_hear c m).1 ≡ true → ClientNow moves c → ClientNow (reads m ∷ moves) (client_hear c m).0
  hears_now c m moves ok n =
      let zero : ClientCoreState = record c { asked = 0 } in
      let again = recounted c m in
      let before : ClientNow moves zero = record { stand = n.stand; is = n.is; at = counted_stands n.stand c 0 n.at } in
      let after : ClientNow (reads m ∷ moves) (client_hear zero m).0 = by before (client_hear zero m) refl (again.ok ok) in
      record { stand = after.stand; is = after.is; at = same_stands after.stand (client_hear zero m).0 (client_hear c m).0 (sym again.core) (sym again.devices_are) after.at }
    where
      by : ClientNow moves (record c { asked = 0 }) → (r : ClientCoreState × Result Heard EndFault) → client_hear (record c { asked = 0 }) m ≡ r → is_ok r.1 ≡ true → ClientNow (reads m ∷ moves) r.0
      by before (d, Err fault) is ok = absurd (cc ok)
      by before (d, Ok a) is ok = loud_event (record c { asked = 0 }) d (calls (hears m (Ok a))) moves (reads m) refl (tt, (omega arith, is)) before

  pub sends_now : (c after : ClientCoreState) (o : Outgoing) (moves : List Move) → client.client_send c ≡ (after, Some o) → ClientNow moves c → ClientNow (writes o.message ∷ moves) after
  sends_now c after o moves made n = loud_event c after (calls (sends (Some o))) moves (writes o.message) refl (tt, made) n

  pub completes_now : (c : ClientCoreState) (bytes : List ℕ) (moves : List Move) → MayComplete c bytes → ClientNow moves c → ClientNow (writes bytes ∷ moves) c
  completes_now c bytes moves may n = loud_event c c (completes_event bytes) moves (writes bytes) refl (may, refl) n

  -- a job is put at its station, or answered
  pub put_now : (c d : ClientCoreState) (device : ℕ) (job : Job) (moves : List Move) → (c.core).shake ≡ client_state.Ready → IsPut c device job d → ClientNow moves c → ClientNow moves d
  put_now c d device job moves ready (inl same) n = subst (ClientNow moves) (sym same) n
  put_now c d device job moves ready (inr (st, some, is)) n =
      quiet_event c d (calls (directs job device st (Ok tt))) moves refl (tt, ((ap may_be_asked ready, some), is)) n

  pub heard_now : (c d : ClientCoreState) (a : Result Heard EndFault) (moves : List Move) → AsksReady (c, a) → IsHeardTo c a d → ClientNow moves c → ClientNow moves d
  heard_now c d (Err fault) moves asks same n = subst (ClientNow moves) (sym same) n
  heard_now c d (Ok Nothing) moves asks same n = subst (ClientNow moves) (sym same) n
  heard_now c d (Ok (Ask device job)) moves ready put n = put_now c d device job moves ready put n
  heard_now c d (Ok (Print p)) moves asks same n = subst (ClientNow moves) (sym same) n

  pub removes_now : (c : ClientCoreState) (device : ℕ) (moves : List Move) → MayTellRemoved c device → ClientNow moves c → ClientNow moves (client.tell_removed c device)
  removes_now c device moves may n = quiet_event c (client.tell_removed c device) (calls (tells_removed device (Ok tt))) moves refl (tt, (may, refl)) n

  pub adds_now : (c : ClientCoreState) (device : ℕ) (moves : List Move) → MayTellAdded c device → ClientNow moves c → ClientNow moves (client.tell_added c device)
  adds_now c device moves may n = quiet_event c (client.tell_added c device) (calls (tells_added device (Ok tt))) moves refl (tt, (may, refl)) n

  pub refreshes_now : (c : ClientCoreState) (device : ℕ) (body : List ℕ) (moves : List Move) → client.MayRefresh c device body → ClientNow moves c → ClientNow moves (refresh c device body)
  refreshes_now c device body moves may n = quiet_event c (refresh c device body) (calls (refreshes device body)) moves refl (tt, (may, refl)) n

  -- a channel begins
  pub begins_now : (c : ClientCoreState) (channel : ℕ) → AllByRecursion (λ (d : ClientDevice). d.removed ≡ gone (d.announce).id) c.devices → map without_data (announces c) ≡ map without_data devices
      → AreDevices (announces c) → AreWritable devices → ClientNow [] (client_begin c channel)
  begins_now c channel marks same are writable = record {
    stand = client_at_first;
    is = refl;
    at = record {
      telling = untold;
      stand = record { shake = refl; own = []; waits = refl; written = refl };
      told = (refl, marks);
      same = same;
      are = are;
      writable = writable;
    };
  }

-- ---- what a device's data leaves

refreshed_any : (device e : ℕ) (body : List ℕ) (ds : List ClientDevice) → list_any (λ (d : ClientDevice). is_device device d && d.removed) (map (refreshed e body) ds) ≡ list_any (λ (d : ClientDevice). is_device device d && d.removed) ds
refreshed_any device e body [] = refl
refreshed_any device e body (d ∷ ds) = by (is_device e d) (refreshed_any device e body ds)
  where
    by : (b : Bool) → list_any (λ (d : ClientDevice). is_device device d && d.removed) (map (refreshed e body) ds) ≡ list_any (λ (d : ClientDevice). is_device device d && d.removed) ds
        → (let x = if b then record d { announce = record d.announce { body = body } } else d in (is_device device x && x.removed) || list_any (λ (d : ClientDevice). is_device device d && d.removed) (map (refreshed e body) ds))
        ≡ ((is_device device d && d.removed) || list_any (λ (d : ClientDevice). is_device device d && d.removed) ds)
    by true rest = ap (λ (b : Bool). (is_device device d && d.removed) || b) rest
    by false rest = ap (λ (b : Bool). (is_device device d && d.removed) || b) rest

pub refreshed_gone : (c : ClientCoreState) (device e : ℕ) (body : List ℕ) → is_gone (refresh c e body) device ≡ is_gone c device
refreshed_gone c device e body = refreshed_any device e body c.devices

pub gone_had : (c : ClientCoreState) (device : ℕ) → is_gone c device ≡ true → has_device c device ≡ true
gone_had c device gone = go c.devices gone
  where
    go : (ds : List ClientDevice) → list_any (λ (d : ClientDevice). is_device device d && d.removed) ds ≡ true → list_any (is_device device) ds ≡ true
    go [] e = absurd (cc e)
    go (d ∷ ds) e = by (is_device device d) d.removed e (go ds)
      where
        by : (a b : Bool) → ((a && b) || list_any (λ (d : ClientDevice). is_device device d && d.removed) ds) ≡ true → (list_any (λ (d : ClientDevice). is_device device d && d.removed) ds ≡ true → list_any (is_device device) ds ≡ true)
            → (a || list_any (is_device device) ds) ≡ true
        by true b e later = refl
        by false b e later = later e
