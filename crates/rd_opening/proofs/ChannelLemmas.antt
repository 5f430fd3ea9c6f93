-- In each world that lines come to, the channel that began last is the one with the world's number, and all that began but the open one ended.
use Rattle.std.proofs.Common.{◌≡◌, ◌⊎◌, ◌∙◌, refl, sym, ap, inl, inr, ℕ, ◌+◌, ◌≤◌, ◌==◌, ◌||◌, arith, Bool, true, false, List, [], ◌∷◌, ◌++◌, map, fold, Some, None, Option}
use Rattle.std.specs.Option.{option_map_or}
use Rattle.std.proofs.lemmas.Bool.{cases_eq}
use Rattle.rd_base.specs.declared.journal.Key.{Key}
use Rattle.rd_client.specs.Core.{Outgoing}
use Rattle.rd_orders.proofs.RunsBeginningLemmas.{Unset, begins_as}
use Rattle.rd_orders.proofs.RunsInsides.{AreOwn, IsInside, Outside, added_inside, all_dropped_inside, all_refreshed_inside, applied_inside, hears_inside, put_inside, removed_inside, stationed}
use Rattle.rd_orders.proofs.RunsParts.{IsBehind, MayBe, Part, accepts, adds_one, applies_one, begins, by_parts, client_gets, client_hears_one, client_keeps_part, client_sends_one, collects_one, done, draws_one, ends, hands_out, host_gets, host_hears_one, host_keeps_part, host_sends_one, idle_one, queues_one, refuses, removes_one, takes_one, tells_one, tries_one}
use Rattle.rd_orders.proofs.RunsStanding.{is_off, open_inside, open_now, shut_now}
use Rattle.rd_orders.proofs.RunsTogether.{Knows, knows}
use Rattle.rd_orders.proofs.RunsTrafficLemmas.{same_number}
use Rattle.rd_orders.specs.RunsPremises.{RunPremises}
use Rattle.rd_script.specs.declared.line.NumberedLine.{NumberedLine}
use Rattle.rd_station.specs.Station.{StationState}
use Rattle.rd_declared.specs.declared.device.SessionDevice.{SessionDevice}
use Rattle.rd_declared.specs.Devices.{PrinterNames}
use Rattle.rd_world.specs.Events.{deed_on, dropping, is_channel_open, refreshing}
use Rattle.rd_world.specs.Lines.{last_begun}
use Rattle.rd_deeds.specs.Talk.{Deed, adds, client_reads, client_writes, completes, has_ended, open_channel, removes, stores}
use Rattle.rd_world.specs.World.{WorldState, with_deed, with_station}

-- Of the deeds this takes which channel is open, which began last, and which ended.
pub record ChannelsFor (opened : Option ℕ) (channels last : ℕ) (ended : ℕ → Bool) : Type 0 where
  pub last_is : last ≡ channels
  pub each : (x : ℕ) → 1 ≤ x → x ≤ channels → (opened ≡ Some x) ⊎ (ended x ≡ true)

abbrev pub ChannelsAre : WorldState → Type 0
ChannelsAre w = ChannelsFor (open_channel w.deeds) w.channels (last_begun w.deeds) (λ x. has_ended x w.deeds)

own_last : (more deeds : List Deed) → AreOwn more → last_begun (more ++ deeds) ≡ last_begun deeds
own_last [] deeds own = refl
own_last (stores device item ∷ more) deeds own = own_last more deeds own.1
own_last (removes device ∷ more) deeds own = own_last more deeds own.1
own_last (adds device ∷ more) deeds own = own_last more deeds own.1
own_last (deed ∷ more) deeds own = absurd own.0

own_ended : (x : ℕ) (more deeds : List Deed) → AreOwn more → has_ended x (more ++ deeds) ≡ has_ended x deeds
own_ended x [] deeds own = refl
own_ended x (stores device item ∷ more) deeds own = own_ended x more deeds own.1
own_ended x (removes device ∷ more) deeds own = own_ended x more deeds own.1
own_ended x (adds device ∷ more) deeds own = own_ended x more deeds own.1
own_ended x (deed ∷ more) deeds own = absurd own.0

pub inside_last : (w v : WorldState) → IsInside w v → last_begun v.deeds ≡ last_begun w.deeds
inside_last w v i = ap last_begun i.deeds ∙ own_last i.more w.deeds i.own

inside_ended : (w v : WorldState) → IsInside w v → (x : ℕ) → has_ended x v.deeds ≡ has_ended x w.deeds
inside_ended w v i x = ap (has_ended x) i.deeds ∙ own_ended x i.more w.deeds i.own

inside_channels : (w v : WorldState) → IsInside w v → ChannelsAre w → ChannelsAre v
inside_channels w v i o =
    let channels : v.channels ≡ w.channels = ap (λ (x : Outside). x.channels) i.same in
    record {
      last_is = inside_last w v i ∙ o.last_is ∙ sym channels;
      each = λ x first below. elim (o.each x first (omega (arith, below, channels))) [
        | inl is ↦ inl (open_inside w v i ∙ is)
        | inr ended ↦ inr (inside_ended w v i x ∙ ended)
      ];
    }

own_channels : (channel : ℕ) (deeds : List Deed) (o : Outgoing) → ChannelsFor (open_channel deeds) channel (last_begun deeds) (λ x. has_ended x deeds)
    → ChannelsFor (open_channel (deed_on channel o ∷ deeds)) channel (last_begun (deed_on channel o ∷ deeds)) (λ x. has_ended x (deed_on channel o ∷ deeds))
own_channels channel deeds o c = by o.answers
  where
    by : (a : Option Key) → ChannelsFor (open_channel (option_map_or (λ key. completes key o.message) a (client_writes channel o.message) ∷ deeds)) channel
        (last_begun (option_map_or (λ key. completes key o.message) a (client_writes channel o.message) ∷ deeds)) (λ x. has_ended x (option_map_or (λ key. completes key o.message) a (client_writes channel o.message) ∷ deeds))
    by None = c
    by (Some key) = c

module _ (lines : List NumberedLine) (starves : Key → Bool) (premises : RunPremises lines) where
  channels_step : (w : WorldState) (p : Part) → Knows w → MayBe lines starves w p → ChannelsAre w → ChannelsAre (done starves w p)
  channels_step w (accepts a asked named t number) k may o = o
  channels_step w (refuses a asked cause) k may o = o
  channels_step w (hands_out a number t taken None) k may o = o
  channels_step w (hands_out a number t taken (Some asked)) k may o = o
  channels_step w (host_sends_one message) k may o = o
  channels_step w (host_gets n) k may o = o
  channels_step w host_keeps_part k may o = o
  channels_step w (host_hears_one message rest) k may o = o
  channels_step w (tells_one n) k may o = o
  channels_step w begins k can o =
      let off : open_channel w.deeds ≡ None = shut_now w k.stands (is_off (is_channel_open w) can) in
      let fresh : WorldState = fold refreshing w (map (λ (e : ℕ × PrinterNames). e.0) w.printers) in
      let inside = all_refreshed_inside (map (λ (e : ℕ × PrinterNames). e.0) w.printers) w in
      record {
        last_is = refl;
        each = λ x first below. elim (cases_eq x (w.channels + 1)) [
          | inl same ↦ inl (ap Some (sym same))
          | inr other ↦ elim (o.each x first (omega (arith, below, other))) [
            | inl is ↦ absurd (cc (off, is))
            | inr ended ↦ inr (inside_ended w fresh inside x ∙ ended)
          ]
        ];
      }
  channels_step w ends k is o =
      let ids : List ℕ = map (λ (e : ℕ × StationState SessionDevice). e.0) w.stations in
      let cut : WorldState = fold dropping w ids in
      let inside = all_dropped_inside ids w in
      let before : ChannelsAre cut = inside_channels w cut inside o in
      let opened : open_channel cut.deeds ≡ Some cut.channels = open_inside w cut inside ∙ open_now w k.stands is ∙ ap Some (sym (ap (λ (x : Outside). x.channels) inside.same)) in
      record {
        last_is = before.last_is;
        each = λ x first below. elim (before.each x first below) [
          | inl on ↦ (let same : cut.channels ≡ x = cc (opened, on) in inr (ap (λ (b : Bool). b || has_ended x cut.deeds) (ap (λ (n : ℕ). cut.channels == n) (sym same) ∙ same_number cut.channels)))
          | inr ended ↦ inr (ap (λ (b : Bool). (cut.channels == x) || b) ended ∙ either (cut.channels == x))
        ];
      }
    where
      either : (b : Bool) → (b || true) ≡ true
      either true = refl
      either false = refl
  channels_step w (client_sends_one after out) k may o = own_channels w.channels w.deeds out o
  channels_step w (client_gets n) k may o = o
  channels_step w client_keeps_part k may o = o
  channels_step w (client_hears_one message rest) k may o =
      let x : WorldState = record w { to_client = record w.to_client { part = []; taken = _; unhandled = rest } } in
      inside_channels (with_deed x (client_reads w.channels message)) (done starves w (client_hears_one message rest)) (hears_inside x message) o
  channels_step w (tries_one kept) k may o = inside_channels (record w { kept = None }) (done starves w (tries_one kept)) (put_inside (record w { kept = None }) kept.device kept.job) o
  channels_step w (collects_one device st after c) k may o = inside_channels w (with_station w device after) (stationed w device after) o
  channels_step w (takes_one device hand st after job) k may o = inside_channels w (with_station w device after) (stationed w device after) o
  channels_step w (applies_one hand device job a) k may o = inside_channels w (done starves w (applies_one hand device job a)) (applied_inside starves w hand device job a) o
  channels_step w (removes_one device a) k may o = inside_channels w (done starves w (removes_one device a)) (removed_inside w device a) o
  channels_step w (adds_one device names a) k may o = inside_channels w (done starves w (adds_one device names a)) (added_inside w device names a) o
  channels_step w (queues_one a) k may o = o
  channels_step w (idle_one number) k may o = o
  channels_step w draws_one k may o = o

  pub behind_channels : (w : WorldState) → IsBehind lines starves w → ChannelsAre w
  behind_channels = by_parts lines starves ChannelsAre
      (begins_as lines (λ (u : Unset). ChannelsFor (open_channel u.deeds) u.channels (last_begun u.deeds) (λ x. has_ended x u.deeds)) (record { last_is = refl; each = λ x first below. absurd (omega (arith, first, below)) }))
      (λ w p before after may o. channels_step w p (knows lines starves premises w before) may o)
