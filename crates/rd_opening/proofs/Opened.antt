-- A channel opens by the rounds of its begin.
use Rattle.std.proofs.Common.{◌≡◌, ◌∙◌, refl, sym, ap, subst, ℕ, ◌+◌, ◌&&◌, arith, Bool, true, false, not, List, [], ◌∷◌, length, map, reverse, fold, Some, None, Option, is_some}
use Rattle.std.specs.Prelude.{filter, if◌then◌else◌}
use Rattle.std.specs.List.{AllByRecursion}
use Rattle.std.specs.Option.{IfSome}
use Rattle.std.proofs.lemmas.List.{reverse-append}
use Rattle.rd_base.specs.declared.journal.Key.{Key}
use Rattle.rd_client.specs.Core.{Outgoing}
use Rattle.rd_client.specs.Events.{waiting_messages}
use Rattle.rd_client.specs.Order.{is_client_ready}
use Rattle.rd_drive.proofs.AllLemmas.{all_append}
use Rattle.rd_hello.specs.Hello.{hello_bytes}
use Rattle.rd_hello.specs.Own.{host_announce}
use Rattle.rd_pending.specs.Table as table
use Rattle.rd_pending.specs.Table.{TableState}
use Rattle.rd_orders.proofs.RunsBelowLemmas.{channel_is}
use Rattle.rd_orders.proofs.RunsInsides.{all_refreshed_inside}
use Rattle.rd_orders.proofs.RunsParts.{reached_behind}
use Rattle.rd_orders.proofs.RunsResting.{IsQuiet}
use Rattle.rd_orders.proofs.RunsStanding.{is_off, shut_now}
use Rattle.rd_orders.proofs.RunsTogether.{known}
use Rattle.rd_orders.proofs.RunsTrafficLemmas.{Traffic, no_traffic, traffic}
use Rattle.rd_orders.specs.RunsMoves.{Reached, ReachedWithin, happens}
use Rattle.rd_orders.specs.RunsPremises.{RunPremises}
use Rattle.rd_script.specs.declared.line.NumberedLine.{NumberedLine}
use Rattle.rd_deeds.proofs.Written.{sound_side}
use Rattle.rd_world.specs.Acts.{HasOpened}
use Rattle.rd_declared.specs.Devices.{PrinterNames}
use Rattle.rd_world.specs.Events as event
use Rattle.rd_world.specs.Events.{act, client_has_message, host_has_message, is_channel_open, is_empty, is_enabled, refreshing}
use Rattle.rd_deeds.specs.Host.{HostSide, next_message}
use Rattle.rd_declared.specs.Declaring.{bare_lines, declared_devices}
use Rattle.rd_world.specs.Recording.{client_id}
use Rattle.rd_world.specs.Run.{Most, connects_on, is_quiet}
use Rattle.rd_deeds.specs.Talk.{client_wrote, host_wrote, is_request, notice_in, open_channel}
use Rattle.rd_world.specs.World.{WorldState}
use Rattle.rd_orders.proofs.Meeting.{behind_meets, inside_traffic}
use Rattle.rd_orders.proofs.PhaseLemmas.{IsGreeting, announces_greet}
use Rattle.rd_orders.specs.Orders.{DeclaresWritable}
use Rattle.rd_opening.proofs.Greeting.{IsOpening, opening_step}
use Rattle.rd_opening.proofs.QuietLemmas.{both_ready, client_settled, heard_all, host_settled}
use Rattle.rd_opening.proofs.Rounds.{rounds_reach}
use Rattle.rd_opening.proofs.TellingCounts.{counted, reversed_tellings, tellings}

-- ---- where rounds end

four : (a b c d : Bool) → (a && b && c && d) ≡ true → (a ≡ true) × (b ≡ true) × (c ≡ true) × (d ≡ true)
four true true true true e = (refl, refl, refl, refl)
four a b c d e = absurd (cc e)

pub quiet_is : (w : WorldState) → is_quiet w ≡ true → IsQuiet w
quiet_is w e =
    let (a, b, c, d) = four (not (host_has_message w)) (not (client_has_message w)) (is_empty (w.to_client).pipe) (is_empty (w.to_host).pipe) e in
    record {
      host_sends = none (next_message w.side) a;
      client_sends = nothing ((w.client).core).outbox b;
      host_reads = empty (w.to_host).pipe d;
      client_reads = λ kept. empty (w.to_client).pipe c;
    }
  where
    none : (o : Option (List ℕ)) → not (is_some o) ≡ true → o ≡ None
    none None on = refl
    none (Some m) on = absurd (cc on)

    nothing : (os : List Outgoing) → not (not (is_empty os)) ≡ true → os ≡ []
    nothing [] on = refl
    nothing (o ∷ os) on = absurd (cc on)

    empty : (bytes : List ℕ) → is_empty bytes ≡ true → bytes ≡ []
    empty [] on = refl
    empty (b ∷ bytes) on = absurd (cc on)

-- ---- lists

none_filtered : (p : List ℕ → Bool) (ms : List (List ℕ)) → AllByRecursion (λ (m : List ℕ). p m ≡ false) ms → filter p ms ≡ []
none_filtered p [] all = refl
none_filtered p (m ∷ ms) all = rw all.0 (none_filtered p ms all.1)

all_turned : {X : Type 0} (P : X → Type 0) (xs : List X) → AllByRecursion P xs → AllByRecursion P (reverse xs)
all_turned P [] all = tt
all_turned P (x ∷ xs) all = subst (AllByRecursion P) (sym (reverse-append (x ∷ []) xs)) (all_append P (reverse xs) (x ∷ []) (all_turned P xs all.1) (all.0, tt))

all_weaker : {X : Type 0} (P Q : X → Type 0) → ((x : X) → P x → Q x) → (xs : List X) → AllByRecursion P xs → AllByRecursion Q xs
all_weaker P Q less [] all = tt
all_weaker P Q less (x ∷ xs) all = (less x all.0, all_weaker P Q less xs all.1)

begun_outbox : (t : TableState) (channel : ℕ) → ((table.begin t channel).0).outbox ≡ t.outbox
begun_outbox t channel = by (is_some t.channel)
  where
    by : (b : Bool) → ((if◌then◌else◌ {A = TableState × Bool} b (t, false) (record t { channel = Some channel; below = channel + 1; asked = 0; begun = 0 }, true)).0).outbox ≡ t.outbox
    by true = refl
    by false = refl

module _ (lines : List NumberedLine) (starves : Key → Bool) (premises : RunPremises lines) (writable : DeclaresWritable lines) where
  -- a channel begins
  opening_first : (v : WorldState) → Reached lines starves v → is_enabled v event.connect ≡ true → IsOpening (act starves v event.connect)
  opening_first v r can =
      let k = known lines starves premises v r in
      let stand = k.stands in
      let off : open_channel v.deeds ≡ None = shut_now v stand (is_off (is_channel_open v) can) in
      let fresh : WorldState = fold refreshing v (map (λ (e : ℕ × PrinterNames). e.0) v.printers) in
      let inside = all_refreshed_inside (map (λ (e : ℕ × PrinterNames). e.0) v.printers) v in
      let none : traffic (v.channels + 1) fresh.deeds ≡ no_traffic = inside_traffic v fresh inside (v.channels + 1) ∙ k.carries.later (v.channels + 1) (omega arith) in
      let closed = (sound_side client_id v.deeds stand.host.may).slots.closed (channel_is client_id v.deeds stand.host.may ∙ off) in
      let asked : ((table.begin (v.side).table (v.channels + 1)).0).outbox ≡ [] = begun_outbox (v.side).table (v.channels + 1) ∙ ap (λ (x : HostSide). (x.table).outbox) (sym stand.host.is) ∙ closed.2 in
      let number = (behind_meets lines starves premises writable v (reached_behind lines starves v r)).number in
      record {
        is = refl;
        asked = asked;
        wrote = subst (λ (t : Traffic). AllByRecursion IsGreeting t.host_wrote) (sym none) tt;
        sends = (subst (λ (n : ℕ). IsGreeting (hello_bytes (host_announce n))) (sym number) announces_greet, tt);
        told = (let nothing : tellings (client_wrote (v.channels + 1) fresh.deeds) ≡ 0 = ap (λ (t : Traffic). tellings t.client_wrote) none in omega (arith, nothing));
      }

  -- it has opened where rounds end
  has_opened : (w : WorldState) → Reached lines starves w → IsOpening w → IsQuiet w → HasOpened (declared_devices (bare_lines lines)) w.deeds w.channels
  has_opened w r o quiet = record {
    client = client_settled lines starves premises writable w r o.is quiet;
    heard = heard_all lines starves premises writable w r o.is quiet;
    host = host_settled lines starves premises writable w r o.is quiet;
    no_request = none_filtered is_request (host_wrote w.channels w.deeds) (all_weaker IsGreeting (λ (m : List ℕ). is_request m ≡ false) (λ m g. g.0) (host_wrote w.channels w.deeds) o.wrote);
    no_notice = none_filtered (λ message. is_some (notice_in message)) (reverse (host_wrote w.channels w.deeds))
        (all_turned (λ (m : List ℕ). is_some (notice_in m) ≡ false) (host_wrote w.channels w.deeds) (all_weaker IsGreeting (λ (m : List ℕ). is_some (notice_in m) ≡ false) (λ m g. g.1) (host_wrote w.channels w.deeds) o.wrote));
    listed = (let turned : tellings (reverse (client_wrote w.channels w.deeds)) ≡ tellings (client_wrote w.channels w.deeds) = reversed_tellings (client_wrote w.channels w.deeds) in
        let none : tellings (waiting_messages w.client) ≡ 0 = ap (λ (os : List Outgoing). tellings (map (λ (x : Outgoing). x.message) os)) quiet.client_sends in
        let ready : counted (is_client_ready ((w.client).core).shake) ≡ 1 = ap (λ s. counted (is_client_ready s)) (both_ready lines starves premises writable w r o.is quiet).0 in
        omega (arith, turned, none, ready, o.told));
  }

  -- behind one line more
  begun_reached : (v : WorldState) → is_enabled v event.connect ≡ true → ReachedWithin (length lines + 1) lines starves v → Reached lines starves (act starves v event.connect)
  begun_reached v can r = record {
    moves = happens event.connect ∷ r.moves;
    pass = ((tt, subst (λ (x : WorldState). is_enabled x event.connect ≡ true) r.leads can), r.pass);
    few = omega (arith, r.few);
    leads = ap (λ (x : WorldState). act starves x event.connect) r.leads;
  }

  within_reached : (v : WorldState) → ReachedWithin (length lines + 1) lines starves v → Reached lines starves v
  within_reached v r = record { moves = r.moves; pass = r.pass; few = omega (arith, r.few); leads = r.leads }

  -- each channel opens by the rounds of its begin
  pub connected_opens : (most : Most) (v : WorldState) → is_enabled v event.connect ≡ true → ReachedWithin (length lines + 1) lines starves v
      → IfSome (connects_on starves most v) (λ w. HasOpened (declared_devices (bare_lines lines)) w.deeds w.channels)
  connected_opens most v can r =
      by (connects_on starves most v)
      (rounds_reach lines starves IsOpening (opening_step lines starves premises writable) most.rounds (act starves v event.connect) (begun_reached v can r) (opening_first v (within_reached v r) can))
    where
      by : (o : Option WorldState) → IfSome o (λ x. (Reached lines starves x × IsOpening x) × (is_quiet x ≡ true)) → IfSome o (λ w. HasOpened (declared_devices (bare_lines lines)) w.deeds w.channels)
      by None own = tt
      by (Some x) ((reached, opening), quiet) = has_opened x reached opening (quiet_is x quiet)
