-- What a client told of its devices on a channel, and what waits to be told, is what its front was told to tell.
use Rattle.std.proofs.Common.{◌≡◌, ◌≢◌, ◌∙◌, refl, sym, ap, subst, inl, inr, ℕ, ◌<◌, ◌+◌, ◌==◌, Bool, true, false, List, [], ◌∷◌, ◌++◌, length, map, reverse, Option, Some, None, arith, append-nil, append_assoc, length-append}
use Rattle.std.specs.Prelude.{◌⊎◌, Result, Ok, Err, filter, if◌then◌else◌}
use Rattle.std.specs.List.{AllByRecursion}
use Rattle.std.specs.declared.alloc.AllocError.{AllocError}
use Rattle.std.proofs.lemmas.Bool.{cases_eq}
use Rattle.std.proofs.lemmas.List.{map-append}
use Rattle.std.proofs.lemmas.List.Elements.{filter-append}
use Rattle.rd_acted.proofs.QuietLemmas.{AreUntold, HearsTo, completion_untold, hears_to}
use Rattle.rd_acted.proofs.SayingLemmas.{completes_tell, say_both, say_fewer, say_more, wrote_more}
use Rattle.rd_acted.specs.Acted.{SayFirst}
use Rattle.rd_acted.specs.Waiting.{tellings_waiting}
use Rattle.rd_base.specs.declared.journal.Item.{Item}
use Rattle.rd_base.specs.declared.journal.Key.{Key}
use Rattle.rd_base.specs.declared.packet.Packet.TheVariants as packet
use Rattle.rd_client.specs.Core as client
use Rattle.rd_client.specs.Core.{ClientCoreState, ClientDevice, Outgoing, announces, client_hear, client_side, listed, listed_one, plain}
use Rattle.rd_client.specs.declared.heard.Heard.{Heard}
use Rattle.rd_client.specs.Events.{AreWritable, IsTold, without_data}
use Rattle.rd_client.specs.Order.{is_client_ready, is_own_device}
use Rattle.rd_client.proofs.TellingLemmas.{first_is, one_gone, own_are}
use Rattle.rd_core.specs.Core as core
use Rattle.rd_core.specs.Hearing as hearing
use Rattle.rd_devices.specs.declared.list.Announce.{Announce}
use Rattle.rd_devices.specs.DeviceList.{list_bytes}
use Rattle.rd_devices.specs.Removal.{removal_bytes}
use Rattle.rd_front.specs.State.{FrontState}
use Rattle.rd_front.specs.declared.calls.FrontCall.{FrontCall}
use Rattle.rd_front.specs.declared.calls.FrontReply.{FrontReply}
use Rattle.rd_hello.specs.declared.end_fault.EndFault.{EndFault}
use Rattle.rd_hello.specs.declared.end_fault.EndFault.TheVariants as fault
use Rattle.rd_irp.specs.declared.completion.Body.TheVariants.{Fault}
use Rattle.rd_irp.specs.Fits.{kind_of}
use Rattle.rd_turn.specs.declared.object.Entry.{Entry}
use Rattle.rd_deeds.proofs.Messages.{packet_is, written_packet}
use Rattle.rd_world.specs.Acts.{is_telling, tellings_on}
use Rattle.rd_world.specs.Control.{Act, added, begun, removed}
use Rattle.rd_world.specs.Events.{completion_message}
use Rattle.rd_deeds.specs.Talk.{Deed, client_reads, client_wrote, is_removed, on, removes, adds, stores}
use Rattle.rd_served.specs.Deeds.{AreOnChannel, EachOnChannel, PartsOnChannel, deeds_after, deeds_of, deeds_of_calls, sent_by, stored, stored_each}
use Rattle.rd_served.specs.Histories.{HistoryGoes}
use Rattle.rd_served.specs.Parts.{CallsAt, FrontPart, PartGoes, PartsGo, begins, calls, directs, ends, forgets, keeps, learns, misplaces, refreshes, sends, tells_gone, tells_there, tries, unwritten, writes}
use Rattle.rd_served.specs.Parts as part
use Rattle.rd_served.specs.Served.{Served}
use Rattle.rd_served.proofs.KeyLemmas.{both_true, ended_is, refreshed_calm, sent_calm}
use Rattle.rd_served.proofs.StandingLemmas.{IsKnownAt, part_known, parts_known, refreshed_more, sent_first, sent_none}
use Rattle.rd_served_order.specs.Orders.{BeginsWith, none_until, until_after, until_by, until_calls}
use Rattle.rd_served_order.specs.Tellings.{SaysAct, TellsReady, acts_on, part_acts, parts_acts}
use Rattle.rd_served_order.proofs.OrderLemmas.{Gone, IsOrdered, moved_else, moved_here, other_number, part_ordered, parts_ordered, same_number}
use Rattle.rd_served_order.proofs.OwnLemmas.{IsOwn, each_keeps, part_own, stored_keeps}

abbrev outbox_of : Served → List Outgoing
outbox_of p = (((p.front).client).core).outbox

abbrev pub ready_of : Served → Bool
ready_of p = is_client_ready (((p.front).client).core).shake

-- ---- what waits to be told

waiting_more : (os more : List Outgoing) → tellings_waiting (os ++ more) ≡ tellings_waiting os ++ tellings_waiting more
waiting_more os more = ap (filter is_telling) (map-append (λ (o : Outgoing). o.message) os more) ∙ filter-append is_telling (map (λ (o : Outgoing). o.message) os) (map (λ (o : Outgoing). o.message) more)

waiting_none : (os : List Outgoing) → AreUntold os → tellings_waiting os ≡ []
waiting_none [] all = refl
waiting_none (o ∷ os) all = rw (all.0) (waiting_none os all.1)

waiting_untold : (os more : List Outgoing) → AreUntold more → tellings_waiting (os ++ more) ≡ tellings_waiting os
waiting_untold os more all = waiting_more os more ∙ ap (λ (ms : List (List ℕ)). tellings_waiting os ++ ms) (waiting_none more all) ∙ append-nil (tellings_waiting os)

waiting_told : (os : List Outgoing) (m : List ℕ) → is_telling m ≡ true → tellings_waiting (os ++ plain m ∷ []) ≡ tellings_waiting os ++ m ∷ []
waiting_told os m told = waiting_more os (plain m ∷ []) ∙ ap (λ (b : Bool). tellings_waiting os ++ (if b then m ∷ [] else [])) told

pub waiting_first : (o : Outgoing) (rest : List Outgoing) → tellings_waiting (o ∷ rest) ≡ filter is_telling (o.message ∷ []) ++ tellings_waiting rest
waiting_first o rest = waiting_more (o ∷ []) rest

one_telling : (list : List Announce) → is_telling (list_bytes list) ≡ true
one_telling list = rw (packet_is packet.DeviceListAnnounce packet.DeviceListAnnounce (list_bytes list) (written_packet packet.DeviceListAnnounce _)) refl

removal_telling : (device : ℕ) → is_telling (removal_bytes (device ∷ [])) ≡ true
removal_telling device =
    rw (packet_is packet.DeviceListRemove packet.DeviceListAnnounce (removal_bytes (device ∷ [])) (written_packet packet.DeviceListRemove _), packet_is packet.DeviceListRemove packet.DeviceListRemove (removal_bytes (device ∷ [])) (written_packet packet.DeviceListRemove _)) refl

kept_tellings : (x e : ℕ) (item : Item) (deeds : List Deed) → tellings_on x (stores e item ∷ deeds) ≡ tellings_on x deeds
kept_tellings x e item deeds = refl

-- a message of its own is written on the channel, by whichever deed
pub own_tells : (c channel : ℕ) (m : List ℕ) (answers : Option Key) (deeds : List Deed) → AreOnChannel c (sent_by channel m answers) → tellings_on c (sent_by channel m answers ++ deeds) ≡ tellings_on c deeds ++ filter is_telling (m ∷ [])
own_tells c channel m None deeds here =
    wrote_more c (on c channel m) (client_wrote c deeds) ∙ ap (λ (ms : List (List ℕ)). tellings_on c deeds ++ filter is_telling ms) (moved_here c channel m [] here.0)
own_tells c channel m (Some key) deeds here =
    wrote_more c (on c key.channel m) (client_wrote c deeds) ∙ ap (λ (ms : List (List ℕ)). tellings_on c deeds ++ filter is_telling ms) (moved_here c key.channel m [] here.0)

other_tells : (c channel x : ℕ) (m : List ℕ) (answers : Option Key) (deeds : List Deed) → AreOnChannel c (sent_by channel m answers) → x ≢ c → tellings_on x (sent_by channel m answers ++ deeds) ≡ tellings_on x deeds
other_tells c channel x m None deeds here other =
    wrote_more x (on x channel m) (client_wrote x deeds) ∙ ap (λ (ms : List (List ℕ)). tellings_on x deeds ++ filter is_telling ms) (moved_else c channel x m [] here.0 other) ∙ append-nil (tellings_on x deeds)
other_tells c channel x m (Some key) deeds here other =
    wrote_more x (on x key.channel m) (client_wrote x deeds) ∙ ap (λ (ms : List (List ℕ)). tellings_on x deeds ++ filter is_telling ms) (moved_else c key.channel x m [] here.0 other) ∙ append-nil (tellings_on x deeds)

send_ready : (c d : ClientCoreState) (o : Option Outgoing) → client.client_send c ≡ (d, o) → is_client_ready (d.core).shake ≡ is_client_ready (c.core).shake
send_ready c d o made = ap is_client_ready (sent_calm c d o made).2

module _ (devices : List Announce) where
  -- What is told on each channel says what is to be told there first; and on the one that is on that and what waits say it all.
  pub record IsTelling (p : Served) (deeds : List Deed) (until : ℕ → List Deed) (acts : ℕ → List Act) : Type 0 where
    pub each : (x : ℕ) → SayFirst (SaysAct devices (Gone until x)) (tellings_on x deeds) (begun x ∷ acts x)
    pub above : (x : ℕ) → (p.front).channel < x → (tellings_on x deeds ≡ []) × (acts x ≡ [])
    pub now : (p.front).on ≡ true → TellsReady (ready_of p) devices (Gone until (p.front).channel) (p.front).channel (tellings_on (p.front).channel deeds ++ tellings_waiting (outbox_of p)) (acts (p.front).channel)

  says_first : (b : Bool) (gone : ℕ → Bool) (c : ℕ) (messages : List (List ℕ)) (acts : List Act) → TellsReady b devices gone c messages acts → SayFirst (SaysAct devices gone) messages (begun c ∷ acts)
  says_first true gone c messages acts is = is.0
  says_first false gone c messages acts is = subst (λ (ms : List (List ℕ)). SayFirst (SaysAct devices gone) ms (begun c ∷ acts)) (sym is.0) tt

  -- nothing is told
  quiet : (p q : Served) (deeds more : List Deed) (until : ℕ → List Deed) (acts : ℕ → List Act) → ((x : ℕ) → tellings_on x more ≡ tellings_on x deeds) → tellings_waiting (outbox_of q) ≡ tellings_waiting (outbox_of p)
      → (q.front).channel ≡ (p.front).channel → ((q.front).on ≡ true → (p.front).on ≡ true) → ready_of q ≡ ready_of p → IsTelling p deeds until acts → IsTelling q more until acts
  quiet p q deeds more until acts same waiting channel was ready is = record {
    each = λ x. subst (λ (ms : List (List ℕ)). SayFirst (SaysAct devices (Gone until x)) ms (begun x ∷ acts x)) (sym (same x)) (is.each x);
    above = λ x higher. let before = is.above x (subst (λ (n : ℕ). n < x) channel higher) in (same x ∙ before.0, before.1);
    now = λ now.
        subst (λ (n : ℕ). TellsReady (ready_of q) devices (Gone until n) n (tellings_on n more ++ tellings_waiting (outbox_of q)) (acts n)) (sym channel)
        (subst (λ (b : Bool). TellsReady b devices (Gone until (p.front).channel) (p.front).channel (tellings_on (p.front).channel more ++ tellings_waiting (outbox_of q)) (acts (p.front).channel)) (sym ready)
        (subst (λ (ms : List (List ℕ)). TellsReady (ready_of p) devices (Gone until (p.front).channel) (p.front).channel ms (acts (p.front).channel)) (λ i. sym (same (p.front).channel) i ++ sym waiting i) (is.now (was now))));
  }

  -- the client is the same
  light : (p q : Served) (deeds : List Deed) (until : ℕ → List Deed) (acts : ℕ → List Act) → (q.front).client ≡ (p.front).client → (q.front).channel ≡ (p.front).channel → (q.front).on ≡ (p.front).on → IsTelling p deeds until acts → IsTelling q deeds until acts
  light p q deeds until acts same channel on is =
      quiet p q deeds deeds until acts (λ x. refl) (ap (λ (c : ClientCoreState). tellings_waiting (c.core).outbox) same) channel (λ now. sym on ∙ now) (ap (λ (c : ClientCoreState). is_client_ready (c.core).shake) same) is

  -- no act is done by a part that tells nothing
  unacted : (q : Served) (deeds : List Deed) (until : ℕ → List Deed) (acts : ℕ → List Act) → IsTelling q deeds until acts → IsTelling q deeds until (λ x. acts x ++ [])
  unacted q deeds until acts is = subst (IsTelling q deeds until) (λ i x. sym (append-nil (acts x)) i) is

  -- ---- a message is heard

  -- the list that a client writes where it becomes ready
  first_says : (gone : ℕ → Bool) (channel : ℕ) (c : ClientCoreState) → map without_data (announces c) ≡ map without_data devices → AllByRecursion (λ (d : ClientDevice). d.removed ≡ gone (d.announce).id) c.devices
      → SaysAct devices gone (begun channel) (list_bytes (listed c))
  first_says gone channel c same marks = (listed c, first_is gone devices c.devices same marks, refl)

  heard : (p q : Served) (deeds more : List Deed) (until : ℕ → List Deed) (acts : ℕ → List Act) → ((x : ℕ) → tellings_on x more ≡ tellings_on x deeds) → (q.front).channel ≡ (p.front).channel → (q.front).on ≡ (p.front).on → (p.front).on ≡ true
      → IsOwn devices p deeds → IsOrdered devices p deeds until → HearsTo (p.front).client (q.front).client → IsTelling p deeds until acts → IsTelling q more until acts
  heard p q deeds more until acts same channel still on_before own ordered to is = by to.either
    where
      marked : ready_of p ≡ false → AllByRecursion (λ (d : ClientDevice). d.removed ≡ Gone until (p.front).channel (d.announce).id) ((p.front).client).devices
      marked unready =
          let n = ordered.now on_before in
          let told : IsTold devices (Gone until (p.front).channel) false ((n.now).at).telling ((p.front).client).devices =
          subst (λ (b : Bool). IsTold devices (Gone until (p.front).channel) b ((n.now).at).telling ((p.front).client).devices) unready ((n.now).at).told in
          told.1

      becomes : ready_of p ≡ false → ready_of q ≡ true → outbox_of q ≡ (outbox_of p ++ to.more) ++ plain (list_bytes (listed (p.front).client)) ∷ [] → IsTelling q more until acts
      becomes unready ready outbox =
          let before = subst (λ (b : Bool). TellsReady b devices (Gone until (p.front).channel) (p.front).channel (tellings_on (p.front).channel deeds ++ tellings_waiting (outbox_of p)) (acts (p.front).channel)) unready (is.now on_before) in
          let waits : tellings_waiting (outbox_of q) ≡ tellings_waiting (outbox_of p) ++ list_bytes (listed (p.front).client) ∷ [] =
          ap tellings_waiting outbox ∙ waiting_told (outbox_of p ++ to.more) (list_bytes (listed (p.front).client)) (one_telling (listed (p.front).client))
          ∙ ap (λ (ms : List (List ℕ)). ms ++ list_bytes (listed (p.front).client) ∷ []) (waiting_untold (outbox_of p) to.more to.untold) in
          let messages : tellings_on (p.front).channel more ++ tellings_waiting (outbox_of q) ≡ list_bytes (listed (p.front).client) ∷ [] =
          (λ i. same (p.front).channel i ++ waits i) ∙ sym (append_assoc (tellings_on (p.front).channel deeds) (tellings_waiting (outbox_of p)) (list_bytes (listed (p.front).client) ∷ []))
          ∙ ap (λ (ms : List (List ℕ)). ms ++ list_bytes (listed (p.front).client) ∷ []) before.0 in
          let says = first_says (Gone until (p.front).channel) (p.front).channel (p.front).client own.fine.same (marked unready) in
          let all : TellsReady true devices (Gone until (p.front).channel) (p.front).channel (tellings_on (p.front).channel more ++ tellings_waiting (outbox_of q)) (acts (p.front).channel) =
          subst (λ (ms : List (List ℕ)). TellsReady true devices (Gone until (p.front).channel) (p.front).channel ms (acts (p.front).channel)) (sym messages)
          (subst (λ (things : List Act). TellsReady true devices (Gone until (p.front).channel) (p.front).channel (list_bytes (listed (p.front).client) ∷ []) things) (sym before.1) ((says, tt), refl)) in
          record {
            each = λ x. subst (λ (ms : List (List ℕ)). SayFirst (SaysAct devices (Gone until x)) ms (begun x ∷ acts x)) (sym (same x)) (is.each x);
            above = λ x higher. let none = is.above x (subst (λ (n : ℕ). n < x) channel higher) in (same x ∙ none.0, none.1);
            now = λ now.
                subst (λ (n : ℕ). TellsReady (ready_of q) devices (Gone until n) n (tellings_on n more ++ tellings_waiting (outbox_of q)) (acts n)) (sym channel)
                (subst (λ (b : Bool). TellsReady b devices (Gone until (p.front).channel) (p.front).channel (tellings_on (p.front).channel more ++ tellings_waiting (outbox_of q)) (acts (p.front).channel)) (sym ready) all);
          }

      by : ((ready_of q ≡ ready_of p) × (outbox_of q ≡ outbox_of p ++ to.more)) ⊎ ((ready_of p ≡ false) × (ready_of q ≡ true) × (outbox_of q ≡ (outbox_of p ++ to.more) ++ plain (list_bytes (listed (p.front).client)) ∷ [])) → IsTelling q more until acts
      by (inl (ready, outbox)) = quiet p q deeds more until acts same (ap tellings_waiting outbox ∙ waiting_untold (outbox_of p) to.more to.untold) channel (λ now. on_before) ready is
      by (inr (unready, ready, outbox)) = becomes unready ready outbox

  -- ---- the core's first message is written

  moved : (p q : Served) (channel : ℕ) (o : Outgoing) (rest : List Outgoing) (deeds : List Deed) (until : ℕ → List Deed) (acts : ℕ → List Act) → AreOnChannel (p.front).channel (sent_by channel o.message o.answers) → outbox_of p ≡ o ∷ rest → outbox_of q ≡ rest
      → (q.front).channel ≡ (p.front).channel → (p.front).on ≡ true → ready_of q ≡ ready_of p → IsTelling p deeds until acts → IsTelling q (sent_by channel o.message o.answers ++ deeds) until acts
  moved p q channel o rest deeds until acts here first left same on_before ready is = record {
    each = λ x. elim (cases_eq x (p.front).channel) [
      | inl at ↦ subst (λ (n : ℕ). SayFirst (SaysAct devices (Gone until n)) (tellings_on n (sent_by channel o.message o.answers ++ deeds)) (begun n ∷ acts n)) (sym at)
          (say_fewer (SaysAct devices (Gone until (p.front).channel)) (tellings_on (p.front).channel (sent_by channel o.message o.answers ++ deeds)) (tellings_waiting (outbox_of q)) (begun (p.front).channel ∷ acts (p.front).channel) (says_first (ready_of p) (Gone until (p.front).channel) (p.front).channel _ (acts (p.front).channel) after))
      | inr other ↦ subst (λ (ms : List (List ℕ)). SayFirst (SaysAct devices (Gone until x)) ms (begun x ∷ acts x)) (sym (other_tells (p.front).channel channel x o.message o.answers deeds here other)) (is.each x)
    ];
    above = λ x higher.
        let low = subst (λ (n : ℕ). n < x) same higher in
        let before = is.above x low in
        (other_tells (p.front).channel channel x o.message o.answers deeds here (λ at. omega (arith, low, at)) ∙ before.0, before.1);
    now = λ now.
        subst (λ (n : ℕ). TellsReady (ready_of q) devices (Gone until n) n (tellings_on n (sent_by channel o.message o.answers ++ deeds) ++ tellings_waiting (outbox_of q)) (acts n)) (sym same)
        (subst (λ (b : Bool). TellsReady b devices (Gone until (p.front).channel) (p.front).channel (tellings_on (p.front).channel (sent_by channel o.message o.answers ++ deeds) ++ tellings_waiting (outbox_of q)) (acts (p.front).channel)) (sym ready) after);
  }
    where
      messages : tellings_on (p.front).channel (sent_by channel o.message o.answers ++ deeds) ++ tellings_waiting (outbox_of q) ≡ tellings_on (p.front).channel deeds ++ tellings_waiting (outbox_of p)
      messages =
          (λ i. own_tells (p.front).channel channel o.message o.answers deeds here i ++ ap tellings_waiting left i)
          ∙ append_assoc (tellings_on (p.front).channel deeds) (filter is_telling (o.message ∷ [])) (tellings_waiting rest)
          ∙ ap (λ (ms : List (List ℕ)). tellings_on (p.front).channel deeds ++ ms) (sym (ap tellings_waiting first ∙ waiting_first o rest))

      after : TellsReady (ready_of p) devices (Gone until (p.front).channel) (p.front).channel (tellings_on (p.front).channel (sent_by channel o.message o.answers ++ deeds) ++ tellings_waiting (outbox_of q)) (acts (p.front).channel)
      after = subst (λ (ms : List (List ℕ)). TellsReady (ready_of p) devices (Gone until (p.front).channel) (p.front).channel ms (acts (p.front).channel)) (sym messages) (is.now on_before)

  -- ---- a device is told of

  one_more : (p q : Served) (deeds more : List Deed) (until : ℕ → List Deed) (acts : ℕ → List Act) (m : List ℕ) (thing : Act) → ((x : ℕ) → tellings_on x more ≡ tellings_on x deeds) → outbox_of q ≡ outbox_of p ++ plain m ∷ [] → is_telling m ≡ true
      → SaysAct devices (Gone until (p.front).channel) thing m → (q.front).channel ≡ (p.front).channel → (p.front).on ≡ true → ready_of p ≡ true → ready_of q ≡ true → IsTelling p deeds until acts
      → IsTelling q more until (λ x. acts x ++ (if (p.front).channel == x then thing ∷ [] else []))
  one_more p q deeds more until acts m thing same outbox telling says channel on_before was ready is = record {
    each = λ x. subst (λ (ms : List (List ℕ)). SayFirst (SaysAct devices (Gone until x)) ms (begun x ∷ (acts x ++ (if (p.front).channel == x then thing ∷ [] else [])))) (sym (same x))
        (say_more (SaysAct devices (Gone until x)) (tellings_on x deeds) (begun x ∷ acts x) (if (p.front).channel == x then thing ∷ [] else []) (is.each x));
    above = λ x higher.
        let low = subst (λ (n : ℕ). n < x) channel higher in
        let before = is.above x low in
        (same x ∙ before.0, ap (λ (b : Bool). acts x ++ (if b then thing ∷ [] else [])) (other_number (p.front).channel x (λ at. omega (arith, low, at))) ∙ append-nil (acts x) ∙ before.1);
    now = λ now.
        subst (λ (n : ℕ). TellsReady (ready_of q) devices (Gone until n) n (tellings_on n more ++ tellings_waiting (outbox_of q)) (acts n ++ (if (p.front).channel == n then thing ∷ [] else []))) (sym channel)
        (subst (λ (b : Bool). TellsReady b devices (Gone until (p.front).channel) (p.front).channel (tellings_on (p.front).channel more ++ tellings_waiting (outbox_of q)) (acts (p.front).channel ++ (if (p.front).channel == (p.front).channel then thing ∷ [] else []))) (sym ready)
        (subst (λ (b : Bool). TellsReady true devices (Gone until (p.front).channel) (p.front).channel (tellings_on (p.front).channel more ++ tellings_waiting (outbox_of q)) (acts (p.front).channel ++ (if b then thing ∷ [] else []))) (sym (same_number (p.front).channel))
        (subst (λ (ms : List (List ℕ)). TellsReady true devices (Gone until (p.front).channel) (p.front).channel ms (acts (p.front).channel ++ thing ∷ [])) (sym messages) all)));
  }
    where
      before : TellsReady true devices (Gone until (p.front).channel) (p.front).channel (tellings_on (p.front).channel deeds ++ tellings_waiting (outbox_of p)) (acts (p.front).channel)
      before = subst (λ (b : Bool). TellsReady b devices (Gone until (p.front).channel) (p.front).channel (tellings_on (p.front).channel deeds ++ tellings_waiting (outbox_of p)) (acts (p.front).channel)) was (is.now on_before)

      messages : tellings_on (p.front).channel more ++ tellings_waiting (outbox_of q) ≡ (tellings_on (p.front).channel deeds ++ tellings_waiting (outbox_of p)) ++ m ∷ []
      messages =
          (λ i. same (p.front).channel i ++ (ap tellings_waiting outbox ∙ waiting_told (outbox_of p) m telling) i)
          ∙ sym (append_assoc (tellings_on (p.front).channel deeds) (tellings_waiting (outbox_of p)) (m ∷ []))

      all : TellsReady true devices (Gone until (p.front).channel) (p.front).channel ((tellings_on (p.front).channel deeds ++ tellings_waiting (outbox_of p)) ++ m ∷ []) (acts (p.front).channel ++ thing ∷ [])
      all = (
        say_both (SaysAct devices (Gone until (p.front).channel)) (tellings_on (p.front).channel deeds ++ tellings_waiting (outbox_of p)) (begun (p.front).channel ∷ acts (p.front).channel) m thing before.1 says before.0,
        length-append (tellings_on (p.front).channel deeds ++ tellings_waiting (outbox_of p)) (m ∷ []) ∙ ap (λ (n : ℕ). n + length (m ∷ [])) before.1 ∙ sym (length-append (begun (p.front).channel ∷ acts (p.front).channel) (thing ∷ [])),
      )

  added_says : (gone : ℕ → Bool) (c : ClientCoreState) (device : ℕ) → map without_data (announces c) ≡ map without_data devices → client.AreDevices (announces c) → client.is_gone c device ≡ true
      → SaysAct devices gone (added device) (list_bytes (listed_one c device))
  added_says gone c device same are is =
      let g = one_gone (λ (d : ClientDevice). is_own_device devices d.announce ≡ true) device c.devices are.apart (own_are devices c.devices same) is in
      ((g.one).announce, g.named, g.holds, ap (λ (ds : List ClientDevice). list_bytes (map client.announce_in ds)) g.alone)

  -- ---- each part

  pub part_telling : AreWritable devices → (p q : Served) (x : FrontPart) (deeds : List Deed) (until : ℕ → List Deed) (acts : ℕ → List Act) → PartGoes p x q → AreOnChannel (p.front).channel (deeds_of x) → IsKnownAt p deeds → IsOwn devices p deeds → IsOrdered devices p deeds until
      → IsTelling p deeds until acts → IsTelling q (deeds_of x ++ deeds) (until_by x deeds until) (λ y. acts y ++ part_acts y p x)
  part_telling writable p q (part.hears channel m answer) deeds until acts goes here known own ordered is = unacted q _ until acts (by answer ((goes.3).0).1)
    where
      on_before : (p.front).on ≡ true
      on_before = (both_true (p.front).on _ goes.2).0

      same_channel : (q.front).channel ≡ (p.front).channel
      same_channel = ap (λ (s : FrontState). s.channel) (goes.3).1

      still : (q.front).on ≡ (p.front).on
      still = ap (λ (s : FrontState). s.on) (goes.3).1

      read : (a : Result Heard EndFault) → client_hear (p.front).client m ≡ ((q.front).client, a) → IsTelling q (client_reads channel m ∷ deeds) until acts
      read a e =
          heard p q deeds (client_reads channel m ∷ deeds) until acts (λ x. refl) same_channel still on_before own ordered
          (subst (λ (r : ClientCoreState × Result Heard EndFault). HearsTo (p.front).client r.0) e (hears_to (p.front).client m)) is

      by : (a : Result Heard EndFault) → hearing.Hears client_side (λ (c : ClientCoreState). c.core) client_hear (p.front).client m a (q.front).client → IsTelling q (deeds_of (part.hears channel m a) ++ deeds) until acts
      by (Err fault.Memory) did = light p q deeds until acts did.1 same_channel still is
      by (Err (fault.Order state packet)) did = read _ did
      by (Err (fault.Grammar bad)) did = read _ did
      by (Ok h) did = read _ did
  part_telling writable p q tries deeds until acts goes here known own ordered is =
      unacted q deeds until acts (light p q deeds until acts (ap (λ (s : Served). (s.front).client) goes.4) (ap (λ (s : Served). (s.front).channel) goes.4) (ap (λ (s : Served). (s.front).on) goes.4) is)
  part_telling writable p q keeps deeds until acts goes here known own ordered is =
      unacted q deeds until acts (light p q deeds until acts (ap (λ (s : Served). (s.front).client) goes.3) (ap (λ (s : Served). (s.front).channel) goes.3) (ap (λ (s : Served). (s.front).on) goes.3) is)
  part_telling writable p q forgets deeds until acts goes here known own ordered is =
      unacted q deeds until acts (light p q deeds until acts (ap (λ (s : Served). (s.front).client) goes.4) (ap (λ (s : Served). (s.front).channel) goes.4) (ap (λ (s : Served). (s.front).on) goes.4) is)
  part_telling writable p q misplaces deeds until acts goes here known own ordered is =
      unacted q deeds until acts (light p q deeds until acts (ap (λ (s : Served). (s.front).client) goes.3) (ap (λ (s : Served). (s.front).channel) goes.3) (ap (λ (s : Served). (s.front).on) goes.3) is)
  part_telling writable p q (directs st answer) deeds until acts goes here known own ordered is =
      unacted q deeds until acts (quiet p q deeds deeds until acts (λ x. refl) (by answer ((goes.2).0).1) (ap (λ (s : FrontState). s.channel) (goes.2).1) (λ now. sym (ap (λ (s : FrontState). s.on) (goes.2).1) ∙ now)
      (ready answer ((goes.2).0).1) is)
    where
      by : (a : Result (Unit {0}) AllocError) → core.Did a (client.direct (p.front).client (goes.0).job (goes.0).device st) (p.front).client (q.front).client → tellings_waiting (outbox_of q) ≡ tellings_waiting (outbox_of p)
      by (Ok u) did =
          ap (λ (c : ClientCoreState). tellings_waiting (c.core).outbox) did
          ∙ waiting_untold (outbox_of p) (record { message = client.direct_bytes (goes.0).job (goes.0).device st; answers = Some (goes.0).job.key } ∷ []) (completion_untold (kind_of (goes.0).job.op) (record { device = (goes.0).device; completion = (goes.0).job.completion; status = st }) Fault, tt)
      by (Err error) did = ap (λ (c : ClientCoreState). tellings_waiting (c.core).outbox) did

      ready : (a : Result (Unit {0}) AllocError) → core.Did a (client.direct (p.front).client (goes.0).job (goes.0).device st) (p.front).client (q.front).client → ready_of q ≡ ready_of p
      ready (Ok u) did = ap (λ (c : ClientCoreState). is_client_ready (c.core).shake) did
      ready (Err error) did = ap (λ (c : ClientCoreState). is_client_ready (c.core).shake) did
  part_telling writable p q (calls place id does back items) deeds until acts goes here known own ordered is =
      unacted q (stored id items ++ deeds) until acts
      (quiet p q deeds (stored id items ++ deeds) until acts (λ x. stored_keeps (tellings_on x) (kept_tellings x) id (reverse items) deeds) (ap (λ (s : FrontState). tellings_waiting ((s.client).core).outbox) goes.front_is) (ap (λ (s : FrontState). s.channel) goes.front_is)
      (λ now. sym (ap (λ (s : FrontState). s.on) goes.front_is) ∙ now) (ap (λ (s : FrontState). is_client_ready ((s.client).core).shake) goes.front_is) is)
  part_telling writable p q (tells_gone device (Ok done)) deeds until acts goes here known own ordered is =
      let did = ((goes.0).0).1 in
      let ready : ready_of p ≡ true = ap is_client_ready ((goes.0).0).0.0 in
      one_more p q deeds (removes device ∷ deeds) until acts (removal_bytes (device ∷ [])) (removed device) (λ x. refl) (ap (λ (c : ClientCoreState). (c.core).outbox) did) (removal_telling device) refl (ap (λ (s : FrontState). s.channel) (goes.0).1) goes.3 ready
      (ap (λ (c : ClientCoreState). is_client_ready (c.core).shake) did ∙ ready) is
  part_telling writable p q (tells_gone device (Err error)) deeds until acts goes here known own ordered is =
      unacted q deeds until acts (light p q deeds until acts ((goes.0).0).1 (ap (λ (s : FrontState). s.channel) (goes.0).1) (ap (λ (s : FrontState). s.on) (goes.0).1) is)
  part_telling writable p q (tells_there device (Ok done)) deeds until acts goes here known own ordered is =
      let did = ((goes.0).0).1 in
      let ready : ready_of p ≡ true = ap is_client_ready ((goes.0).0).0.0 in
      one_more p q deeds (adds device ∷ deeds) until acts (list_bytes (listed_one (p.front).client device)) (added device) (λ x. refl) (ap (λ (c : ClientCoreState). (c.core).outbox) did) (one_telling (listed_one (p.front).client device))
      (added_says (Gone until (p.front).channel) (p.front).client device own.fine.same own.fine.fits.kept.devices ((goes.0).0).0.1) (ap (λ (s : FrontState). s.channel) (goes.0).1) goes.3 ready
      (ap (λ (c : ClientCoreState). is_client_ready (c.core).shake) did ∙ ready) is
  part_telling writable p q (tells_there device (Err error)) deeds until acts goes here known own ordered is =
      unacted q deeds until acts (light p q deeds until acts ((goes.0).0).1 (ap (λ (s : FrontState). s.channel) (goes.0).1) (ap (λ (s : FrontState). s.on) (goes.0).1) is)
  part_telling writable p q (sends channel None) deeds until acts goes here known own ordered is =
      unacted q deeds until acts (quiet p q deeds deeds until acts (λ x. refl) (ap tellings_waiting (sent_none (p.front).client (q.front).client (goes.1).0)) (ap (λ (s : FrontState). s.channel) (goes.1).1) (λ now. sym (ap (λ (s : FrontState). s.on) (goes.1).1) ∙ now)
      (send_ready (p.front).client (q.front).client None (goes.1).0) is)
  part_telling writable p q (sends channel (Some o)) deeds until acts goes here known own ordered is =
      let (rest, first, left) = sent_first (p.front).client (q.front).client o (goes.1).0 in
      unacted q (sent_by channel o.message o.answers ++ deeds) until acts
      (moved p q channel o rest deeds until acts here first left (ap (λ (s : FrontState). s.channel) (goes.1).1) (on_before (p.front).on refl first) (send_ready (p.front).client (q.front).client (Some o) (goes.1).0) is)
    where
      on_before : {rest : List Outgoing} (b : Bool) → (p.front).on ≡ b → outbox_of p ≡ o ∷ rest → (p.front).on ≡ true
      on_before true e first = e
      on_before false e first = let none = ordered.off e in absurd (cc (none, first))
  part_telling writable p q (writes device c) deeds until acts goes here known own ordered is =
      unacted q (deeds_of (writes device c) ++ deeds) until acts
      (quiet p q deeds (deeds_of (writes device c) ++ deeds) until acts (λ x. completes_tell x c.key (completion_message device c) deeds (completion_untold c.kind _ _)) (ap (λ (s : Served). tellings_waiting (outbox_of s)) goes.1)
      (ap (λ (s : Served). (s.front).channel) goes.1) (λ now. sym (ap (λ (s : Served). (s.front).on) goes.1) ∙ now) (ap ready_of goes.1) is)
  part_telling writable p q (unwritten device c) deeds until acts goes here known own ordered is =
      unacted q deeds until acts (light p q deeds until acts (ap (λ (s : Served). (s.front).client) goes.1) (ap (λ (s : Served). (s.front).channel) goes.1) (ap (λ (s : Served). (s.front).on) goes.1) is)
  part_telling writable p q (learns n answer) deeds until acts goes here known own ordered is =
      unacted q deeds until acts (light p q deeds until acts (ap (λ (s : Served). (s.front).client) goes.1) (ap (λ (s : Served). (s.front).channel) goes.1) (ap (λ (s : Served). (s.front).on) goes.1) is)
  part_telling writable p q (refreshes device) deeds until acts goes here known own ordered is =
      let more = refreshed_more p.front device in
      let calm = refreshed_calm p.front device in
      unacted q deeds until acts (quiet p q deeds deeds until acts (λ x. refl) (ap (λ (s : Served). tellings_waiting (outbox_of s)) goes ∙ ap (λ c. tellings_waiting c.outbox) more.1) (ap (λ (s : Served). (s.front).channel) goes ∙ calm.0.channel)
      (λ now. sym (ap (λ (s : Served). (s.front).on) goes ∙ calm.0.on) ∙ now) (ap ready_of goes ∙ ap (λ c. is_client_ready c.shake) more.1) is)
  part_telling writable p q (begins channel) deeds until acts goes here known own ordered is =
      unacted q deeds (until_by (begins channel) deeds until) acts (subst (λ (s : Served). IsTelling s deeds (until_by (begins channel) deeds until) acts) (sym goes.3) (record {
        each = λ x. elim (cases_eq x channel) [
          | inl same ↦ subst (λ (ms : List (List ℕ)). SayFirst (SaysAct devices (λ device. is_removed device (if channel == x then deeds else until x))) ms (begun x ∷ acts x)) (sym (is.above x (omega (arith, goes.2, same))).0) tt
          | inr other ↦ subst (λ (b : Bool). SayFirst (SaysAct devices (λ device. is_removed device (if b then deeds else until x))) (tellings_on x deeds) (begun x ∷ acts x)) (sym (other_number channel x other)) (is.each x)
        ];
        above = λ x higher. is.above x (omega (arith, goes.2, higher));
        now = λ now. let none = is.above channel goes.2 in (append-nil (tellings_on channel deeds) ∙ none.0, none.1);
      }))
  part_telling writable p q (ends over told) deeds until acts goes here known own ordered is =
      let state = ended_is over p.front (q.front).desks in
      let off : (q.front).on ≡ false = ap (λ (s : FrontState). s.on) goes.2 ∙ state.0 in
      let channel : (q.front).channel ≡ (p.front).channel = ap (λ (s : FrontState). s.channel) goes.2 ∙ state.1 in
      let same : (x : ℕ) → tellings_on x (stored_each told ++ deeds) ≡ tellings_on x deeds = λ x. each_keeps (tellings_on x) (kept_tellings x) told deeds in
      unacted q (stored_each told ++ deeds) until acts (record {
        each = λ x. subst (λ (ms : List (List ℕ)). SayFirst (SaysAct devices (Gone until x)) ms (begun x ∷ acts x)) (sym (same x)) (is.each x);
        above = λ x higher. let before = is.above x (subst (λ (n : ℕ). n < x) channel higher) in (same x ∙ before.0, before.1);
        now = λ now. absurd (cc (off, now));
      })

  grown_acts : (q : Served) (deeds : List Deed) (until : ℕ → List Deed) (acts more others : ℕ → List Act) → IsTelling q deeds until (λ x. (acts x ++ more x) ++ others x) → IsTelling q deeds until (λ x. acts x ++ (more x ++ others x))
  grown_acts q deeds until acts more others is = subst (IsTelling q deeds until) (λ i x. append_assoc (acts x) (more x) (others x) i) is

  parts_telling : AreWritable devices → (ps : List FrontPart) (p q : Served) (goes : PartsGo p ps q) (deeds : List Deed) (until : ℕ → List Deed) (acts : ℕ → List Act) → PartsOnChannel p ps q goes → IsKnownAt p deeds → IsOwn devices p deeds
      → IsOrdered devices p deeds until → IsTelling p deeds until acts → IsTelling q (deeds_after ps deeds) (until_after ps deeds until) (λ x. acts x ++ parts_acts x p ps q goes)
  parts_telling writable [] p q goes deeds until acts here known own ordered is = unacted q deeds until acts (subst (λ (s : Served). IsTelling s deeds until acts) (sym goes) is)
  parts_telling writable (x ∷ ps) p q goes deeds until acts here known own ordered is =
      grown_acts q (deeds_after ps (deeds_of x ++ deeds)) (until_after ps (deeds_of x ++ deeds) (until_by x deeds until)) acts (λ y. part_acts y p x) (λ y. parts_acts y goes.0 ps q goes.2)
      (parts_telling writable ps goes.0 q goes.2 (deeds_of x ++ deeds) (until_by x deeds until) (λ y. acts y ++ part_acts y p x) here.1 (part_known p goes.0 x deeds goes.1 known) (part_own devices p goes.0 x deeds goes.1 known.keyed own)
      (part_ordered devices writable p goes.0 x deeds until goes.1 here.0 known own ordered) (part_telling writable p goes.0 x deeds until acts goes.1 here.0 known own ordered is))

  pub history_telling : AreWritable devices → (entries : List (Entry FrontCall FrontReply)) (parts : List (List FrontPart)) (p q : Served) (goes : HistoryGoes p entries parts q) (deeds : List Deed) (until : ℕ → List Deed) (acts : ℕ → List Act)
      → EachOnChannel p entries parts q goes → IsKnownAt p deeds → IsOwn devices p deeds → IsOrdered devices p deeds until → IsTelling p deeds until acts
      → IsTelling q (deeds_of_calls parts deeds) (until_calls parts deeds until) (λ x. acts x ++ acts_on x p entries parts q goes)
  history_telling writable [] [] p q goes deeds until acts here known own ordered is = unacted q deeds until acts (subst (λ (s : Served). IsTelling s deeds until acts) (sym goes) is)
  history_telling writable [] (ps ∷ parts) p q goes deeds until acts here known own ordered is = absurd goes
  history_telling writable (e ∷ entries) [] p q goes deeds until acts here known own ordered is = absurd goes
  history_telling writable (e ∷ entries) (ps ∷ parts) p q goes deeds until acts here known own ordered is =
      let after = parts_ordered devices writable ps p goes.0 (goes.1).goes deeds until here.0 known own ordered in
      grown_acts q (deeds_of_calls parts (deeds_after ps deeds)) (until_calls parts (deeds_after ps deeds) (until_after ps deeds until)) acts (λ x. parts_acts x p ps goes.0 (goes.1).goes) (λ x. acts_on x goes.0 entries parts q goes.2)
      (history_telling writable entries parts goes.0 q goes.2 (deeds_after ps deeds) (until_after ps deeds until) (λ x. acts x ++ parts_acts x p ps goes.0 (goes.1).goes) here.1 (parts_known ps p goes.0 deeds (goes.1).goes known) after.0 after.1
      (parts_telling writable ps p goes.0 (goes.1).goes deeds until acts here.0 known own ordered is))

  pub begins_telling : (p : Served) → BeginsWith devices p → IsTelling p [] none_until (λ x. [])
  begins_telling p start = record {
    each = λ x. tt;
    above = λ x higher. (refl, refl);
    now = λ on. absurd (let off = start.new.new.off in cc (off, on));
  }
