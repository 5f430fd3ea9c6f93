-- Where neither end of the open channel has something to send or to read, both are ready, and neither owes a message.
use Rattle.std.proofs.Common.{◌≡◌, ◌∙◌, refl, sym, ap, subst, ℕ, Bool, true, false, List, [], ◌∷◌, ◌++◌, map, reverse, Some, None, Option, append-nil}
use Rattle.std.specs.List.{AllByRecursion}
use Rattle.std.specs.Option.{option_map_or}
use Rattle.std.proofs.lemmas.List.{append_cancel_right, reverse-reverse}
use Rattle.rd_base.specs.declared.journal.Key.{Key}
use Rattle.rd_chunk.proofs.CarrierLemmas.{carrier_one}
use Rattle.rd_chunk.specs.Carrier.{IsMessage, carrier_of, carrier_stream}
use Rattle.rd_client.specs.Core.{Outgoing}
use Rattle.rd_client.specs.Events.{ClientStandsAt, IsTold, waiting_messages}
use Rattle.rd_devices.specs.declared.list.Announce.{Announce}
use Rattle.rd_hello.specs.Moves.{writes}
use Rattle.rd_host.specs.Events.{HostStandsAt}
use Rattle.rd_host.specs.Order as host
use Rattle.rd_client.specs.Order.{ClientStanding, client_part, is_client_ready}
use Rattle.rd_core.specs.Order.{written_after}
use Rattle.rd_hello.specs.declared.client.ClientState.{ClientState}
use Rattle.rd_hello.specs.declared.client.ClientState.TheVariants as client_state
use Rattle.rd_hello.specs.declared.host.HostState.{HostState}
use Rattle.rd_hello.specs.declared.host.HostState.TheVariants as host_state
use Rattle.rd_host.specs.Order.{HostStanding, Replying, is_host_ready}
use Rattle.rd_orders.proofs.RunsHandled.{handled}
use Rattle.rd_orders.proofs.RunsParts.{reached_behind}
use Rattle.rd_orders.proofs.RunsResting.{IsQuiet}
use Rattle.rd_orders.proofs.RunsTogether.{known}
use Rattle.rd_orders.proofs.RunsTrafficLemmas.{traffic}
use Rattle.rd_orders.proofs.RunsWayLemmas.{IsUnderWay}
use Rattle.rd_orders.specs.RunsMoves.{Reached}
use Rattle.rd_orders.specs.RunsPremises.{RunPremises}
use Rattle.rd_script.specs.declared.line.NumberedLine.{NumberedLine}
use Rattle.rd_world.proofs.WayStreamLemmas.{first_of_one}
use Rattle.rd_world.specs.Acts.{is_settled_client, is_settled_host}
use Rattle.rd_deeds.specs.Host.{HostSide, first_waiting, next_message}
use Rattle.rd_declared.specs.Declaring.{bare_lines, declared_devices}
use Rattle.rd_world.specs.Recording.{announced_of, client_stand, host_stand}
use Rattle.rd_deeds.specs.Talk.{client_read, client_wrote, host_read, host_wrote, is_removed, open_channel, until_begin}
use Rattle.rd_world.specs.World.{Kept, WayState, WorldState, first_message}
use Rattle.rd_orders.proofs.ClientOrdering.{behind_client_ordered}
use Rattle.rd_orders.proofs.HostOrdering.{behind_host_ordered}
use Rattle.rd_orders.proofs.Meeting.{behind_known, behind_meets, kept_ready}
use Rattle.rd_orders.proofs.MeetingLemmas.{MeetsAs}
use Rattle.rd_orders.proofs.PhaseLemmas.{Phase, no_parts, phase_ready}
use Rattle.rd_orders.specs.Orders.{DeclaresWritable}

-- ---- all was read

all_read : (wrote read : List (List ℕ)) (y : WayState) → IsUnderWay wrote read y → y.unhandled ≡ [] → y.pipe ≡ [] → first_message y.part ≡ None → read ≡ wrote
all_read wrote read y u unhandled pipe part = by u.waiting u.fit u.told (sym whole ∙ u.bytes)
  where
    whole : y.part ++ y.unhandled ++ y.pipe ≡ y.part
    whole = ap (λ (bs : List ℕ). y.part ++ bs ++ y.pipe) unhandled ∙ ap (λ (bs : List ℕ). y.part ++ [] ++ bs) pipe ∙ append-nil (y.part ++ []) ∙ append-nil y.part

    by : (waiting : List (List ℕ)) → AllByRecursion IsMessage waiting → wrote ≡ reverse waiting ++ read → y.part ≡ carrier_stream waiting → read ≡ wrote
    by [] fit told bytes = sym told
    by (x ∷ later) fit told bytes =
        let some : first_message y.part ≡ Some (x, carrier_stream later) = ap first_message bytes ∙ first_of_one x (carrier_of x) (carrier_stream later) (carrier_one x fit.0.0 fit.0.1) in
        absurd (cc (part, some))

-- then nothing is on its way
none_left : (way wrote read : List (List ℕ)) → wrote ≡ reverse way ++ read → read ≡ wrote → way ≡ []
none_left way wrote read told same =
    let none : reverse way ++ read ≡ [] ++ read = sym told ∙ sym same in
    sym (reverse-reverse way) ∙ ap reverse (append_cancel_right (reverse way) [] read none)

-- ---- nothing is to be sent

pub no_message : (s : HostSide) → next_message s ≡ None → (((s.core).core).outbox ≡ []) × ((s.table).outbox ≡ [])
no_message s none = by ((s.core).core).outbox (s.table).outbox none
  where
    by : (a b : List (List ℕ)) → first_waiting a b ≡ None → (a ≡ []) × (b ≡ [])
    by [] [] e = (refl, refl)
    by [] (m ∷ ms) e = absurd (cc e)
    by (m ∷ ms) b e = absurd (cc e)

-- a client on a silent channel is ready, unless something is on its way to it
quiet_phase : (c : ClientState) (h : HostState) (down : List (List ℕ)) → Phase c h down [] → (is_client_ready c ≡ false → down ≡ []) → (c ≡ client_state.Ready) × (h ≡ host_state.Ready)
quiet_phase client_state.Start host_state.Start down (is, none) empty = absurd (cc (sym is ∙ empty refl))
quiet_phase client_state.Named host_state.Start down (is, none) empty = absurd (cc none)
quiet_phase client_state.Named (host_state.Confirmed v) down (own, is, none) empty = absurd (cc none)
quiet_phase client_state.Named host_state.Offered down (is, none) empty = absurd (cc (sym is ∙ empty refl))
quiet_phase (client_state.Offered tells) host_state.Offered down (own, is, none) empty = absurd (cc (sym is ∙ empty refl))
quiet_phase client_state.Waiting host_state.Offered down (is, none) empty = absurd (cc none)
quiet_phase client_state.Waiting host_state.Ready down (later, is, all, none) empty = absurd (cc (sym is ∙ empty refl))
quiet_phase client_state.Ready host_state.Ready down p empty = (refl, refl)
quiet_phase c h down p empty = absurd p

module _ (lines : List NumberedLine) (starves : Key → Bool) (premises : RunPremises lines) (writable : DeclaresWritable lines) (w : WorldState) (r : Reached lines starves w)
    (is : open_channel w.deeds ≡ Some w.channels) (quiet : IsQuiet w) where
  pub heard_all : host_read w.channels w.deeds ≡ client_wrote w.channels w.deeds
  heard_all =
      let k = known lines starves premises w r in
      all_read (client_wrote w.channels w.deeds) (host_read w.channels w.deeds) w.to_host (k.carries.moving is).1 (handled lines starves w r).0 quiet.host_reads k.stands.host_part

  meets : MeetsAs w.client w.side (traffic w.channels w.deeds)
  meets = (behind_meets lines starves premises writable w (reached_behind lines starves w r)).now is

  client_heard_all : w.kept ≡ None → client_read w.channels w.deeds ≡ host_wrote w.channels w.deeds
  client_heard_all kept =
      let k = known lines starves premises w r in
      all_read (host_wrote w.channels w.deeds) (client_read w.channels w.deeds) w.to_client (k.carries.moving is).0 ((handled lines starves w r).1 kept) (quiet.client_reads kept) k.stands.client_part

  pub both_ready : (((w.client).core).shake ≡ client_state.Ready) × ((((w.side).core).core).shake ≡ host_state.Ready)
  both_ready = by w.kept refl
    where
      none : ((((w.side).core).core).outbox ≡ []) × (((w.side).table).outbox ≡ [])
      none = no_message w.side quiet.host_sends

      down_is : meets.down ++ (((w.side).core).core).outbox ++ ((w.side).table).outbox ≡ meets.down
      down_is = ap (λ (ms : List (List ℕ)). meets.down ++ (((w.side).core).core).outbox ++ ms) none.1 ∙ append-nil (meets.down ++ (((w.side).core).core).outbox) ∙ ap (λ (ms : List (List ℕ)). meets.down ++ ms) none.0 ∙ append-nil meets.down

      up_is : meets.up ++ waiting_messages w.client ≡ []
      up_is =
          ap (λ (os : List Outgoing). meets.up ++ map (λ (o : Outgoing). o.message) os) quiet.client_sends ∙ append-nil meets.up
          ∙ none_left meets.up (client_wrote w.channels w.deeds) (host_read w.channels w.deeds) meets.told_up heard_all

      phase : Phase ((w.client).core).shake (((w.side).core).core).shake meets.down []
      phase = subst (λ (ms : List (List ℕ)). Phase ((w.client).core).shake (((w.side).core).core).shake ms []) down_is
          (subst (Phase ((w.client).core).shake (((w.side).core).core).shake (meets.down ++ (((w.side).core).core).outbox ++ ((w.side).table).outbox)) up_is meets.phase)

      by : (o : Option Kept) → w.kept ≡ o → (((w.client).core).shake ≡ client_state.Ready) × ((((w.side).core).core).shake ≡ host_state.Ready)
      by None kept = quiet_phase ((w.client).core).shake (((w.side).core).core).shake meets.down phase (λ off. none_left meets.down (host_wrote w.channels w.deeds) (client_read w.channels w.deeds) meets.told_down (client_heard_all kept))
      by (Some k) kept =
          let behind = reached_behind lines starves w r in
          let ready = kept_ready lines starves premises (declared_devices (bare_lines lines)) (announced_of (declared_devices (bare_lines lines))) writable w (behind_known lines starves premises writable w behind)
          (behind_meets lines starves premises writable w behind) k kept in
          (ready, phase_ready (((w.side).core).core).shake meets.down [] (subst (λ (c : ClientState). Phase c (((w.side).core).core).shake meets.down []) ready phase))

  -- the client owes no message and no list
  pub client_settled : option_map_or is_settled_client (client_stand (declared_devices (bare_lines lines)) w.deeds w.channels) false ≡ true
  client_settled =
      let n = (behind_client_ordered lines starves premises writable w (reached_behind lines starves w r)).now is in
      ap (λ (o : Option ClientStanding). option_map_or is_settled_client o false) n.is ∙ by n.stand n.at
    where
      devices : List Announce
      devices = announced_of (declared_devices (bare_lines lines))

      gone : ℕ → Bool
      gone = λ d. is_removed d (until_begin w.channels w.deeds)

      by : (s : ClientStanding) → ClientStandsAt devices gone s w.client → is_settled_client s ≡ true
      by s at =
          let stand = at.stand in
          let waits : s.owed ++ stand.own ≡ [] = sym stand.waits ∙ ap (λ (os : List Outgoing). map (λ (o : Outgoing). o.message) os) quiet.client_sends in
          let (owed, own) = no_parts s.owed stand.own waits in
          let same : s.own ≡ at.telling =
          (let there : Some s.own ≡ Some at.telling = ap (λ (ms : List (List ℕ)). written_after (client_part devices gone) ((w.client).core).shake ms s.own) (sym own) ∙ stand.written in cc there) in
          let told = subst (λ (c : ClientState). IsTold devices gone (is_client_ready c) at.telling (w.client).devices) both_ready.0 at.told in
          rw (stand.shake ∙ both_ready.0, owed, ap (λ t. t.lists) same ∙ told.0) refl

  -- the host owes no message and no reply
  pub host_settled : option_map_or is_settled_host (host_stand w.deeds w.channels) false ≡ true
  host_settled =
      let n = (behind_host_ordered lines starves premises writable w (reached_behind lines starves w r)).now is in
      ap (λ (o : Option HostStanding). option_map_or is_settled_host o false) n.is ∙ by n.stand n.replying n.at n.lives.none_due
    where
      by : (s : HostStanding) (q : Replying) → HostStandsAt s q (w.side).core → q.due ≡ [] → is_settled_host s ≡ true
      by s q at none =
          let out : ((((w.side).core).core).outbox ≡ []) = (no_message w.side quiet.host_sends).0 in
          let there : Some s ≡ Some (record { shake = (((w.side).core).core).shake; owed = []; own = q }) =
          ap (λ (ms : List (List ℕ)). host.stand_after s (map writes ms)) (sym out) ∙ at.waiting in
          let same : s ≡ record { shake = (((w.side).core).core).shake; owed = []; own = q } = cc there in
          rw (ap (λ (x : HostStanding). x.shake) same ∙ both_ready.1, ap (λ (x : HostStanding). x.owed) same, ap (λ (x : HostStanding). (x.own).due) same ∙ none) refl
