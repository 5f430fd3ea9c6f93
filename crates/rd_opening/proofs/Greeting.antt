-- In the rounds after a channel's begin no request and no notice is written, and one list.
use Rattle.std.proofs.Common.{◌≡◌, ◌∙◌, refl, sym, ap, subst, ℕ, ◌+◌, arith, Bool, List, [], ◌∷◌, map, Some, None, Option, Result}
use Rattle.std.specs.List.{AllByRecursion}
use Rattle.std.specs.Option.{IfSome, option_map_or}
use Rattle.rd_base.specs.declared.journal.Key.{Key}
use Rattle.rd_client.specs.Core as client
use Rattle.rd_client.specs.Core.{ClientCoreState, Outgoing, client_hear}
use Rattle.rd_client.specs.Events.{waiting_messages}
use Rattle.rd_client.specs.Order.{is_client_ready}
use Rattle.rd_orders.proofs.ControlsReadyLemmas.{client_kept}
use Rattle.rd_drive.proofs.AllLemmas.{all_append}
use Rattle.rd_host.specs.Core.{host_hear}
use Rattle.rd_pending.proofs.Tame.{tame_take}
use Rattle.rd_pending.specs.declared.calls.Taken.{Taken}
use Rattle.rd_pending.specs.declared.calls.TakeNo.{TakeNo}
use Rattle.rd_pending.specs.Table.{TableState}
use Rattle.rd_orders.proofs.RunsInsides.{IsInside, Outside, hears_inside}
use Rattle.rd_orders.proofs.RunsKeysOn.{sent_on}
use Rattle.rd_orders.proofs.RunsParts.{IsBehind, MayBe, Part, client_gets, client_hears_one, client_keeps_part, client_sends_one, done, hands_out, host_gets, host_hears_one, host_keeps_part, host_sends_one}
use Rattle.rd_orders.proofs.RunsStanding.{open_inside}
use Rattle.rd_orders.proofs.RunsTogether.{knows}
use Rattle.rd_orders.proofs.RunsTrafficLemmas.{Traffic, client_reads_here, client_writes_here, completes_here, host_reads_here, host_writes_here, traffic}
use Rattle.rd_orders.proofs.RunsWayLemmas.{one_read}
use Rattle.rd_orders.specs.RunsPremises.{RunPremises}
use Rattle.rd_script.specs.declared.line.NumberedLine.{NumberedLine}
use Rattle.rd_world.specs.Events.{deed_on}
use Rattle.rd_world.specs.Hearing.{client_hears, with_client}
use Rattle.rd_deeds.specs.Host.{HostSide, hears, next_message, side_sends}
use Rattle.rd_deeds.specs.Talk.{Deed, client_reads, client_writes, client_wrote, completes, host_read, open_channel}
use Rattle.rd_world.specs.World.{Asked, WorldState, with_deed}
use Rattle.rd_orders.proofs.Meeting.{behind_meets, heard_client, inside_traffic}
use Rattle.rd_orders.proofs.MeetingLemmas.{host_reads_first}
use Rattle.rd_orders.proofs.PhaseLemmas.{IsGreeting}
use Rattle.rd_orders.specs.Orders.{DeclaresWritable}
use Rattle.rd_opening.proofs.Rounds.{IsOfRound}
use Rattle.rd_opening.proofs.TellingCounts.{counted, done_tellings, heard_greets, heard_tellings, one_telling, tellings}

-- A channel is open on which no request and no notice was written or is to be sent, and the client told of its devices once, as soon as it was ready.
pub record OpeningFor (c : ClientCoreState) (s : HostSide) (opened : Option ℕ) (channels : ℕ) (t : Traffic) : Type 0 where
  pub is : opened ≡ Some channels
  pub asked : (s.table).outbox ≡ []
  pub wrote : AllByRecursion IsGreeting t.host_wrote
  pub sends : AllByRecursion IsGreeting ((s.core).core).outbox
  pub told : tellings t.client_wrote + tellings (waiting_messages c) ≡ counted (is_client_ready (c.core).shake)

abbrev pub IsOpening : WorldState → Type 0
IsOpening w = OpeningFor w.client w.side (open_channel w.deeds) w.channels (traffic w.channels w.deeds)

inside_opening : (w v : WorldState) → IsInside w v → OpeningFor v.client w.side (open_channel w.deeds) w.channels (traffic w.channels w.deeds) → IsOpening v
inside_opening w v i o =
    subst (λ (x : Outside). OpeningFor v.client x.side (open_channel v.deeds) x.channels (traffic x.channels v.deeds)) (sym i.same)
    (subst (λ (p : Option ℕ). OpeningFor v.client w.side p w.channels (traffic w.channels v.deeds)) (sym (open_inside w v i))
    (subst (OpeningFor v.client w.side (open_channel w.deeds) w.channels) (sym (inside_traffic w v i w.channels)) o))

-- ---- messages that are sent

-- the first of what an end has to send
first_sent : (c : ClientCoreState) (s : HostSide) (opened : Option ℕ) (channels : ℕ) (t : Traffic) (m : List ℕ) → next_message s ≡ Some m → OpeningFor c s opened channels t
    → OpeningFor c (side_sends s) opened channels (record t { host_wrote = m ∷ t.host_wrote })
first_sent c s opened channels t m next o = own ((s.core).core).outbox refl o.sends
  where
    own : (out : List (List ℕ)) → ((s.core).core).outbox ≡ out → AllByRecursion IsGreeting out → OpeningFor c (side_sends s) opened channels (record t { host_wrote = m ∷ t.host_wrote })
    own [] none all = let nothing : next_message s ≡ None = rw (none, o.asked) refl in absurd (cc (nothing, next))
    own (x ∷ others) some all =
        let first : next_message s ≡ Some x = rw some refl in
        let same : x ≡ m = cc (first, next) in
        let after : side_sends s ≡ record s { core = record s.core { core = record (s.core).core { outbox = others } } } = rw some refl in
        subst (λ (r : HostSide). OpeningFor c r opened channels (record t { host_wrote = m ∷ t.host_wrote })) (sym after)
        (record { is = o.is; asked = o.asked; wrote = (subst IsGreeting same all.0, o.wrote); sends = all.1; told = o.told })

client_sent : (c after : ClientCoreState) (s : HostSide) (opened : Option ℕ) (channels : ℕ) (t : Traffic) (out : Outgoing) → client.client_send c ≡ (after, Some out) → OpeningFor c s opened channels t
    → OpeningFor after s opened channels (record t { client_wrote = out.message ∷ t.client_wrote })
client_sent c after s opened channels t out made o = by (c.core).outbox refl
  where
    by : (os : List Outgoing) → (c.core).outbox ≡ os → OpeningFor after s opened channels (record t { client_wrote = out.message ∷ t.client_wrote })
    by [] none = let nothing : (client.client_send c).1 ≡ None = rw none refl in absurd (cc (nothing, ap (λ (r : ClientCoreState × Option Outgoing). r.1) made))
    by (first ∷ os) some =
        let now : ClientCoreState = record c { core = record c.core { outbox = os } } in
        let one : client.client_send c ≡ (now, Some first) = rw some refl in
        let same : first ≡ out = (let both : Some first ≡ Some out = ap (λ (r : ClientCoreState × Option Outgoing). r.1) (sym one ∙ made) in cc) in
        let left : now ≡ after = ap (λ (r : ClientCoreState × Option Outgoing). r.0) (sym one ∙ made) in
        let before : tellings t.client_wrote + tellings (first.message ∷ map (λ (x : Outgoing). x.message) os) ≡ counted (is_client_ready (c.core).shake) =
        ap (λ (xs : List Outgoing). tellings t.client_wrote + tellings (map (λ (x : Outgoing). x.message) xs)) (sym some) ∙ o.told in
        let rest : tellings (first.message ∷ map (λ (x : Outgoing). x.message) os) ≡ tellings (first.message ∷ []) + tellings (map (λ (x : Outgoing). x.message) os) = one_telling first.message (map (λ (x : Outgoing). x.message) os) in
        let more : tellings (out.message ∷ t.client_wrote) ≡ tellings (out.message ∷ []) + tellings t.client_wrote = one_telling out.message t.client_wrote in
        let alike : tellings (first.message ∷ []) ≡ tellings (out.message ∷ []) = ap (λ (x : Outgoing). tellings (x.message ∷ [])) same in
        subst (λ (x : ClientCoreState). OpeningFor x s opened channels (record t { client_wrote = out.message ∷ t.client_wrote })) left
        (record { is = o.is; asked = o.asked; wrote = o.wrote; sends = o.sends; told = omega (arith, before, rest, more, alike) })

own_opening : (c : ClientCoreState) (s : HostSide) (channel : ℕ) (deeds : List Deed) (out : Outgoing) → IfSome out.answers (λ (key : Key). key.channel ≡ channel)
    → OpeningFor c s (open_channel deeds) channel (record (traffic channel deeds) { client_wrote = out.message ∷ client_wrote channel deeds })
    → OpeningFor c s (open_channel (deed_on channel out ∷ deeds)) channel (traffic channel (deed_on channel out ∷ deeds))
own_opening c s channel deeds out on o = by out.answers on
  where
    by : (a : Option Key) → IfSome a (λ (key : Key). key.channel ≡ channel)
        → OpeningFor c s (open_channel (option_map_or (λ key. completes key out.message) a (client_writes channel out.message) ∷ deeds)) channel (traffic channel (option_map_or (λ key. completes key out.message) a (client_writes channel out.message) ∷ deeds))
    by None on = subst (OpeningFor c s (open_channel deeds) channel) (sym (client_writes_here channel deeds out.message)) o
    by (Some key) on = subst (OpeningFor c s (open_channel deeds) channel) (sym (completes_here channel deeds out.message key on)) o

module _ (lines : List NumberedLine) (starves : Key → Bool) (premises : RunPremises lines) (writable : DeclaresWritable lines) where
  pub opening_step : (w : WorldState) (p : Part) → IsOfRound p → MayBe lines starves w p → IsBehind lines starves w → IsOpening w → IsOpening (done starves w p)
  opening_step w (hands_out a number t taken next) round (waits, is, made) b o = by next
    where
      same : t.outbox ≡ ((w.side).table).outbox
      same = ap (λ (r : TableState × Result Taken TakeNo). (r.0).outbox) (sym made) ∙ (tame_take (w.side).table number).outbox

      own : OpeningFor w.client (record w.side { table = t }) (open_channel w.deeds) w.channels (traffic w.channels w.deeds)
      own = record { is = o.is; asked = same ∙ o.asked; wrote = o.wrote; sends = o.sends; told = o.told }

      by : (e : Option Asked) → IsOpening (done starves w (hands_out a number t taken e))
      by None = own
      by (Some asked) = own
  opening_step w (host_sends_one message) round next b o =
      subst (OpeningFor w.client (side_sends w.side) (open_channel w.deeds) w.channels) (sym (host_writes_here w.channels w.deeds message))
      (first_sent w.client w.side (open_channel w.deeds) w.channels (traffic w.channels w.deeds) message next o)
  opening_step w (host_gets n) round may b o = o
  opening_step w host_keeps_part round may b o = o
  opening_step w (host_hears_one message rest) round found b o =
      let k = knows lines starves premises w b in
      let read = one_read (client_wrote w.channels w.deeds) (host_read w.channels w.deeds) w.to_host ((k.carries).moving o.is).1 message rest found in
      let m = (behind_meets lines starves premises writable w b).now o.is in
      let came = host_reads_first w.client w.side (traffic w.channels w.deeds) m message read.waiting read.told in
      let d : HostSide = record w.side { core = (host_hear (w.side).core message).0 } in
      let greets = heard_greets d (host_hear (w.side).core message).1 in
      subst (OpeningFor w.client (hears w.side message) (open_channel w.deeds) w.channels) (sym (host_reads_here w.channels w.deeds message)) (record {
        is = o.is;
        asked = greets.asked ∙ o.asked;
        wrote = o.wrote;
        sends = greets.sends (subst (AllByRecursion IsGreeting) (sym came.adds) (all_append IsGreeting (((w.side).core).core).outbox came.more o.sends came.plain));
        told = o.told;
      })
  opening_step w (client_sends_one after out) round made b o =
      let k = knows lines starves premises w b in
      own_opening after w.side w.channels w.deeds out ((sent_on w.channels w.client after out k.on.outbox made).0).0
      (client_sent w.client after w.side (open_channel w.deeds) w.channels (traffic w.channels w.deeds) out made o)
  opening_step w (client_gets n) round may b o = o
  opening_step w client_keeps_part round may b o = o
  opening_step w (client_hears_one message rest) round (kept, found) b o =
      let x : WorldState = record w { to_client = record w.to_client { part = []; taken = _; unhandled = rest } } in
      let heard = client_hear w.client message in
      let y : WorldState = with_deed (with_client x heard.0) (client_reads w.channels message) in
      let last : ClientCoreState = (client_hears x message).client in
      let left = done_tellings heard.0 last heard.1 (heard_client ((w.client).core).shake y heard.1) in
      let counts = heard_tellings w.client message (tellings (client_wrote w.channels w.deeds)) (client_kept w.client message).ready o.told in
      let ready : counted (is_client_ready ((heard.0).core).shake) ≡ counted (is_client_ready (last.core).shake) = ap (λ s. counted (is_client_ready s)) (sym left.1) in
      let same : tellings (waiting_messages last) ≡ tellings (waiting_messages heard.0) = left.0 in
      inside_opening (with_deed x (client_reads w.channels message)) (done starves w (client_hears_one message rest)) (hears_inside x message)
      (subst (OpeningFor last w.side (open_channel w.deeds) w.channels) (sym (client_reads_here w.channels w.deeds message))
      (record { is = o.is; asked = o.asked; wrote = o.wrote; sends = o.sends; told = omega (arith, counts, ready, same) }))
  opening_step w p round may b o = absurd round
