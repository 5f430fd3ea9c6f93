-- In each world that lines come to, the requests that stand on a channel are those that were accepted there, in order, but for those that are still to be sent.
use Rattle.std.proofs.Common.{◌≡◌, ◌≢◌, ◌⊎◌, ◌∙◌, refl, sym, ap, subst, inl, inr, ℕ, ◌+◌, ◌<◌, ◌≤◌, ◌==◌, arith, Bool, true, false, List, [], ◌∷◌, ◌++◌, map, reverse, fold, Some, None, Option, Result, append_assoc, is_some}
use Rattle.std.specs.Prelude.{filter, if◌then◌else◌}
use Rattle.std.specs.Option.{option_map_or}
use Rattle.std.proofs.lemmas.Bool.{cases_eq}
use Rattle.std.proofs.lemmas.List.{reverse-append}
use Rattle.rd_base.specs.declared.journal.Key.{Key}
use Rattle.rd_client.specs.Core.{Outgoing}
use Rattle.rd_irp.specs.declared.op.Op.{Op}
use Rattle.rd_irp.specs.Written.{request_bytes}
use Rattle.rd_pending.proofs.Effects as effects
use Rattle.rd_pending.proofs.Tame.{tame_take}
use Rattle.rd_pending.specs.declared.calls.SubmitNo.{SubmitNo}
use Rattle.rd_pending.specs.declared.calls.Taken.{Taken}
use Rattle.rd_pending.specs.declared.calls.TakeNo.{TakeNo}
use Rattle.rd_pending.specs.declared.calls.Target.{Target}
use Rattle.rd_pending.specs.Table as table
use Rattle.rd_pending.specs.Table.{TableState, accept, device_in, file_in, next_id, submit_refusal}
use Rattle.rd_host.specs.Core.{host_hear}
use Rattle.rd_orders.proofs.RunsBeginningLemmas.{Unset, begins_as}
use Rattle.rd_orders.proofs.RunsBelowLemmas.{channel_is}
use Rattle.rd_orders.proofs.RunsHostLemmas.{host_channel, opens}
use Rattle.rd_orders.proofs.RunsInsides.{AreOwn, IsInside, Outside, added_inside, all_dropped_inside, all_refreshed_inside, applied_inside, hears_inside, put_inside, removed_inside, stationed}
use Rattle.rd_orders.proofs.RunsParts.{IsBehind, MayBe, Part, accepts, adds_one, applies_one, begins, by_parts, client_gets, client_hears_one, client_keeps_part, client_sends_one, collects_one, done, draws_one, ends, hands_out, host_gets, host_hears_one, host_keeps_part, host_sends_one, idle_one, queues_one, refuses, removes_one, takes_one, tells_one, tries_one}
use Rattle.rd_orders.proofs.RunsStanding.{is_off, needs_open, open_inside, shut_now}
use Rattle.rd_orders.proofs.RunsTogether.{Knows, knows}
use Rattle.rd_orders.proofs.RunsTrafficLemmas.{Traffic, host_writes_else, host_writes_here, other_number, same_number}
use Rattle.rd_orders.specs.RunsPremises.{RunPremises}
use Rattle.rd_script.specs.declared.line.NumberedLine.{NumberedLine}
use Rattle.rd_station.specs.Station.{StationState}
use Rattle.rd_deeds.proofs.Hearings.{AreQuiet, quiet}
use Rattle.rd_deeds.proofs.Messages.{request_is}
use Rattle.rd_deeds.proofs.Written.{sound_side}
use Rattle.rd_declared.specs.declared.device.SessionDevice.{SessionDevice}
use Rattle.rd_declared.specs.Devices.{PrinterNames}
use Rattle.rd_world.specs.Events.{deed_on, dropping, is_channel_open, refreshing}
use Rattle.rd_deeds.specs.Host.{HostSide, hears, next_message, side_sends}
use Rattle.rd_world.specs.Lines.{message_of, submitted}
use Rattle.rd_world.specs.Recording.{client_id}
use Rattle.rd_deeds.specs.Talk.{Deed, EndsWith, adds, client_reads, client_writes, completes, host_writes, host_wrote, is_request, open_channel, removes, stores, submits}
use Rattle.rd_world.specs.World.{Asked, WorldState, with_deed, with_station}
use Rattle.rd_orders.proofs.HostOrdering.{asked_request}
use Rattle.rd_orders.specs.Orders.{DeclaresWritable}
use Rattle.rd_opening.proofs.TellingCounts.{heard_greets}

-- the requests that were written on a channel
abbrev pub asked_on : ℕ → List Deed → List (List ℕ)
asked_on x deeds = filter is_request (host_wrote x deeds)

-- Of the deeds this takes what was accepted and what stands on each channel.
pub record SubmittedFor (opened : Option ℕ) (channels : ℕ) (outbox : List (List ℕ)) (accepted asked : ℕ → List (List ℕ)) : Type 0 where
  pub some : opened ≡ Some channels → 1 ≤ channels
  pub unbegun : (x : ℕ) → (x ≡ 0) ⊎ (channels < x) → (accepted x ≡ []) × (asked x ≡ [])
  pub stand : (x : ℕ) → EndsWith (accepted x) (asked x)
  pub now : opened ≡ Some channels → accepted channels ≡ reverse outbox ++ asked channels

abbrev pub AreSubmitted : WorldState → Type 0
AreSubmitted w = SubmittedFor (open_channel w.deeds) w.channels ((w.side).table).outbox (λ x. submitted x w.deeds) (λ x. asked_on x w.deeds)

-- ---- what a client does by itself

own_submitted : (x : ℕ) (more deeds : List Deed) → AreOwn more → submitted x (more ++ deeds) ≡ submitted x deeds
own_submitted x [] deeds own = refl
own_submitted x (stores device item ∷ more) deeds own = own_submitted x more deeds own.1
own_submitted x (removes device ∷ more) deeds own = own_submitted x more deeds own.1
own_submitted x (adds device ∷ more) deeds own = own_submitted x more deeds own.1
own_submitted x (deed ∷ more) deeds own = absurd own.0

own_asked : (x : ℕ) (more deeds : List Deed) → AreOwn more → asked_on x (more ++ deeds) ≡ asked_on x deeds
own_asked x [] deeds own = refl
own_asked x (stores device item ∷ more) deeds own = own_asked x more deeds own.1
own_asked x (removes device ∷ more) deeds own = own_asked x more deeds own.1
own_asked x (adds device ∷ more) deeds own = own_asked x more deeds own.1
own_asked x (deed ∷ more) deeds own = absurd own.0

inside_accepted : (w v : WorldState) → IsInside w v → (x : ℕ) → submitted x v.deeds ≡ submitted x w.deeds
inside_accepted w v i x = ap (submitted x) i.deeds ∙ own_submitted x i.more w.deeds i.own

inside_asked : (w v : WorldState) → IsInside w v → (x : ℕ) → asked_on x v.deeds ≡ asked_on x w.deeds
inside_asked w v i x = ap (asked_on x) i.deeds ∙ own_asked x i.more w.deeds i.own

-- the same of other lists that are the same
alike : {opened : Option ℕ} {channels : ℕ} {outbox : List (List ℕ)} {accepted asked others written : ℕ → List (List ℕ)} → others ≡ accepted → written ≡ asked → SubmittedFor opened channels outbox accepted asked
    → SubmittedFor opened channels outbox others written
alike {opened = opened} {channels = channels} {outbox = outbox} {accepted = accepted} {written = written} a b s =
    subst (λ (f : ℕ → List (List ℕ)). SubmittedFor opened channels outbox f written) (sym a) (subst (SubmittedFor opened channels outbox accepted) (sym b) s)

inside_submitted : (w v : WorldState) → IsInside w v → AreSubmitted w → AreSubmitted v
inside_submitted w v i s =
    subst (λ (o : Outside). SubmittedFor (open_channel v.deeds) o.channels ((o.side).table).outbox (λ x. submitted x v.deeds) (λ x. asked_on x v.deeds)) (sym i.same)
    (subst (λ (o : Option ℕ). SubmittedFor o w.channels ((w.side).table).outbox (λ x. submitted x v.deeds) (λ x. asked_on x v.deeds)) (sym (open_inside w v i))
    (alike (λ j x. inside_accepted w v i x j) (λ j x. inside_asked w v i x j) s))

own_deed : (outbox : List (List ℕ)) (channel : ℕ) (deeds : List Deed) (o : Outgoing) → SubmittedFor (open_channel deeds) channel outbox (λ x. submitted x deeds) (λ x. asked_on x deeds)
    → SubmittedFor (open_channel (deed_on channel o ∷ deeds)) channel outbox (λ x. submitted x (deed_on channel o ∷ deeds)) (λ x. asked_on x (deed_on channel o ∷ deeds))
own_deed outbox channel deeds o s = by o.answers
  where
    by : (a : Option Key) → SubmittedFor (open_channel (option_map_or (λ key. completes key o.message) a (client_writes channel o.message) ∷ deeds)) channel outbox
        (λ x. submitted x (option_map_or (λ key. completes key o.message) a (client_writes channel o.message) ∷ deeds)) (λ x. asked_on x (option_map_or (λ key. completes key o.message) a (client_writes channel o.message) ∷ deeds))
    by None = s
    by (Some key) = s

-- the table's messages are as they were
same_outbox : {opened : Option ℕ} {channels : ℕ} {outbox other : List (List ℕ)} {accepted asked : ℕ → List (List ℕ)} → other ≡ outbox → SubmittedFor opened channels outbox accepted asked
    → SubmittedFor opened channels other accepted asked
same_outbox {opened = opened} {channels = channels} {accepted = accepted} {asked = asked} is s = subst (λ (o : List (List ℕ)). SubmittedFor opened channels o accepted asked) (sym is) s

-- ---- the host's deeds

one_more : (m : List ℕ) (ms : List (List ℕ)) → is_request m ≡ true → filter is_request (m ∷ ms) ≡ m ∷ filter is_request ms
one_more m ms on = rw on refl

none_more : (m : List ℕ) (ms : List (List ℕ)) → is_request m ≡ false → filter is_request (m ∷ ms) ≡ filter is_request ms
none_more m ms off = rw off refl

wrote_else : (c : ℕ) (deeds : List Deed) (m : List ℕ) (x : ℕ) → x ≢ c → asked_on x (host_writes c m ∷ deeds) ≡ asked_on x deeds
wrote_else c deeds m x other = ap (λ (t : Traffic). filter is_request t.host_wrote) (host_writes_else c deeds m x other)

wrote_here : (c : ℕ) (deeds : List Deed) (m : List ℕ) → asked_on c (host_writes c m ∷ deeds) ≡ filter is_request (m ∷ host_wrote c deeds)
wrote_here c deeds m = ap (λ (t : Traffic). filter is_request t.host_wrote) (host_writes_here c deeds m)

accepted_here : (c a : ℕ) (named : Target) (o : Op) (deeds : List Deed) → open_channel deeds ≡ Some c → submitted c (submits a named o ∷ deeds) ≡ message_of deeds named o ∷ submitted c deeds
accepted_here c a named o deeds is =
    ap (λ (b : Bool). if b then message_of deeds named o ∷ submitted c deeds else submitted c deeds) (ap (λ (p : Option ℕ). option_map_or (λ channel. channel == c) p false) is ∙ same_number c)

accepted_else : (c a : ℕ) (named : Target) (o : Op) (deeds : List Deed) → open_channel deeds ≡ Some c → (x : ℕ) → x ≢ c → submitted x (submits a named o ∷ deeds) ≡ submitted x deeds
accepted_else c a named o deeds is x other =
    ap (λ (b : Bool). if b then message_of deeds named o ∷ submitted x deeds else submitted x deeds) (ap (λ (p : Option ℕ). option_map_or (λ channel. channel == x) p false) is ∙ other_number c x other)

-- the list of the open channel is longer by one on either side
goes_on : {opened : Option ℕ} {channels : ℕ} {outbox other : List (List ℕ)} {accepted asked others written : ℕ → List (List ℕ)} → opened ≡ Some channels
    → ((x : ℕ) → x ≢ channels → others x ≡ accepted x) → ((x : ℕ) → x ≢ channels → written x ≡ asked x) → others channels ≡ reverse other ++ written channels
    → SubmittedFor opened channels outbox accepted asked → SubmittedFor opened channels other others written
goes_on {channels = channels} {other = other} {accepted = accepted} {asked = asked} {others = others} {written = written} is a b own s = record {
  some = s.some;
  unbegun = λ x out. let apart : x ≢ channels = unlike x out in (a x apart ∙ (s.unbegun x out).0, b x apart ∙ (s.unbegun x out).1);
  stand = λ x. elim (cases_eq x channels) [
    | inl same ↦ subst (λ (n : ℕ). EndsWith (others n) (written n)) (sym same) (reverse other, own)
    | inr apart ↦ (let (more, parts) = s.stand x in (more, a x apart ∙ parts ∙ ap (λ (ms : List (List ℕ)). more ++ ms) (sym (b x apart))))
  ];
  now = λ opened. own;
}
  where
    unlike : (x : ℕ) → (x ≡ 0) ⊎ (channels < x) → x ≢ channels
    unlike x (inl zero) same = absurd (omega (arith, zero, same, s.some is))
    unlike x (inr above) same = absurd (omega (arith, above, same))

begun_outbox : (t : TableState) (channel : ℕ) → ((table.begin t channel).0).outbox ≡ t.outbox
begun_outbox t channel = by (is_some t.channel)
  where
    by : (b : Bool) → ((if◌then◌else◌ {A = TableState × Bool} b (t, false) (record t { channel = Some channel; below = channel + 1; asked = 0; begun = 0 }, true)).0).outbox ≡ t.outbox
    by true = refl
    by false = refl

module _ (lines : List NumberedLine) (starves : Key → Bool) (premises : RunPremises lines) (writable : DeclaresWritable lines) where
  -- a message of the host goes on its way
  sent_submitted : (w : WorldState) → Knows w → open_channel w.deeds ≡ Some w.channels → (m : List ℕ) → next_message w.side ≡ Some m → AreSubmitted w
      → SubmittedFor (open_channel w.deeds) w.channels ((side_sends w.side).table).outbox (λ x. submitted x w.deeds) (λ x. asked_on x (host_writes w.channels m ∷ w.deeds))
  sent_submitted w k is m next s = own (((w.side).core).core).outbox refl plain
    where
      plain : AreQuiet (((w.side).core).core).outbox
      plain = subst (λ (x : HostSide). AreQuiet ((x.core).core).outbox) k.stands.host.is (quiet client_id w.deeds)

      old : submitted w.channels w.deeds ≡ reverse ((w.side).table).outbox ++ asked_on w.channels w.deeds
      old = s.now is

      asks : (o : List (List ℕ)) → ((w.side).table).outbox ≡ o → (((w.side).core).core).outbox ≡ []
          → SubmittedFor (open_channel w.deeds) w.channels ((side_sends w.side).table).outbox (λ x. submitted x w.deeds) (λ x. asked_on x (host_writes w.channels m ∷ w.deeds))
      asks [] asked none = let nothing : next_message w.side ≡ None = rw (none, asked) refl in absurd (cc (nothing, next))
      asks (x ∷ others) asked none =
          let first : next_message w.side ≡ Some x = rw (none, asked) refl in
          let same : x ≡ m = cc (first, next) in
          let after : ((side_sends w.side).table).outbox ≡ others = rw (none, asked) refl in
          let (r, spelled) = asked_request lines starves premises writable w k is x others asked in
          let on : is_request m ≡ true = subst (λ (y : List ℕ). is_request y ≡ true) same (request_is x r spelled) in
          same_outbox after (goes_on is (λ x other. refl) (wrote_else w.channels w.deeds m)
          (old ∙ ap (λ (ms : List (List ℕ)). reverse ms ++ asked_on w.channels w.deeds) asked ∙ ap (λ (ms : List (List ℕ)). ms ++ asked_on w.channels w.deeds) (reverse-append (x ∷ []) others)
          ∙ append_assoc (reverse others) (x ∷ []) (asked_on w.channels w.deeds) ∙ ap (λ (y : List ℕ). reverse others ++ y ∷ asked_on w.channels w.deeds) same
          ∙ ap (λ (ms : List (List ℕ)). reverse others ++ ms) (sym (one_more m (host_wrote w.channels w.deeds) on) ∙ sym (wrote_here w.channels w.deeds m))) s)

      own : (o : List (List ℕ)) → (((w.side).core).core).outbox ≡ o → AreQuiet o
          → SubmittedFor (open_channel w.deeds) w.channels ((side_sends w.side).table).outbox (λ x. submitted x w.deeds) (λ x. asked_on x (host_writes w.channels m ∷ w.deeds))
      own [] none all = asks ((w.side).table).outbox refl none
      own (x ∷ others) some all =
          let first : next_message w.side ≡ Some x = rw some refl in
          let same : x ≡ m = cc (first, next) in
          let after : ((side_sends w.side).table).outbox ≡ ((w.side).table).outbox = rw some refl in
          let off : is_request m ≡ false = subst (λ (y : List ℕ). is_request y ≡ false) same all.0 in
          same_outbox after (goes_on is (λ x other. refl) (wrote_else w.channels w.deeds m)
          (old ∙ ap (λ (ms : List (List ℕ)). reverse ((w.side).table).outbox ++ ms) (sym (none_more m (host_wrote w.channels w.deeds) off) ∙ sym (wrote_here w.channels w.deeds m))) s)

  heard_outbox : (s : HostSide) (m : List ℕ) → ((hears s m).table).outbox ≡ (s.table).outbox
  heard_outbox s m = (heard_greets (record s { core = (host_hear s.core m).0 }) (host_hear s.core m).1).asked

  submitted_step : (w : WorldState) (p : Part) → Knows w → Knows (done starves w p) → MayBe lines starves w p → AreSubmitted w → AreSubmitted (done starves w p)
  submitted_step w (accepts a asked named t number) k l (reached, may, next, target, made) s =
      let (fits, range, unrefused) = l.stands.host.may.0 in
      let free : submit_refusal (w.side).table named ≡ None = subst (λ (x : HostSide). submit_refusal x.table named ≡ None) k.stands.host.is unrefused in
      let effect = effects.submits (w.side).table a named asked.op free in
      let is : t ≡ accept (w.side).table named asked.op = sym (ap (λ (r : TableState × Result ℕ SubmitNo). r.0) made) ∙ effect.new in
      let channel : open_channel w.deeds ≡ Some w.channels = opens w.side w.channels w.deeds k.stands.host (λ shut. let none : ((w.side).table).channel ≡ None = host_channel w.side w.channels w.deeds k.stands.host ∙ shut in cc (none, effect.is_open)) in
      let m : List ℕ = message_of w.deeds named asked.op in
      let own : m ≡ request_bytes (record { device = device_in named; file = file_in named; completion = next_id (w.side).table; op = asked.op }) =
      ap (λ (x : HostSide). request_bytes (record { device = device_in named; file = file_in named; completion = next_id x.table; op = asked.op })) k.stands.host.is in
      let out : t.outbox ≡ ((w.side).table).outbox ++ m ∷ [] = ap (λ (x : TableState). x.outbox) is ∙ ap (λ (y : List ℕ). ((w.side).table).outbox ++ y ∷ []) (sym own) in
      same_outbox out (goes_on channel (accepted_else w.channels a named asked.op w.deeds channel) (λ x other. refl)
      (accepted_here w.channels a named asked.op w.deeds channel ∙ ap (λ (ms : List (List ℕ)). m ∷ ms) (s.now channel)
      ∙ ap (λ (ms : List (List ℕ)). ms ++ asked_on w.channels w.deeds) (sym (reverse-append ((w.side).table).outbox (m ∷ [])))) s)
  submitted_step w (refuses a asked cause) k l may s = s
  submitted_step w (hands_out a number t taken next) k l (waits, is, made) s = by next
    where
      own : SubmittedFor (open_channel w.deeds) w.channels t.outbox (λ x. submitted x w.deeds) (λ x. asked_on x w.deeds)
      own = same_outbox (ap (λ (r : TableState × Result Taken TakeNo). (r.0).outbox) (sym made) ∙ (tame_take (w.side).table number).outbox) s

      by : (e : Option Asked) → AreSubmitted (done starves w (hands_out a number t taken e))
      by None = own
      by (Some asked) = own
  submitted_step w (host_sends_one message) k l next s = sent_submitted w k (needs_open lines starves w (host_sends_one message) next tt k.stands) message next s
  submitted_step w (host_gets n) k l may s = s
  submitted_step w host_keeps_part k l may s = s
  submitted_step w (host_hears_one message rest) k l may s = same_outbox (heard_outbox w.side message) s
  submitted_step w (tells_one n) k l may s = s
  submitted_step w begins k l can s =
      let off : open_channel w.deeds ≡ None = shut_now w k.stands (is_off (is_channel_open w) can) in
      let fresh : WorldState = fold refreshing w (map (λ (e : ℕ × PrinterNames). e.0) w.printers) in
      let inside = all_refreshed_inside (map (λ (e : ℕ × PrinterNames). e.0) w.printers) w in
      let closed = (sound_side client_id w.deeds k.stands.host.may).slots.closed (channel_is client_id w.deeds k.stands.host.may ∙ off) in
      let out : ((table.begin (w.side).table (w.channels + 1)).0).outbox ≡ [] = begun_outbox (w.side).table (w.channels + 1) ∙ ap (λ (x : HostSide). (x.table).outbox) (sym k.stands.host.is) ∙ closed.2 in
      let none = s.unbegun (w.channels + 1) (inr (omega arith)) in
      same_outbox out (record {
        some = λ opened. omega arith;
        unbegun = λ x out. let before = s.unbegun x (lower x out) in (inside_accepted w fresh inside x ∙ before.0, inside_asked w fresh inside x ∙ before.1);
        stand = λ x. let (more, parts) = s.stand x in (more, inside_accepted w fresh inside x ∙ parts ∙ ap (λ (ms : List (List ℕ)). more ++ ms) (sym (inside_asked w fresh inside x)));
        now = λ opened. inside_accepted w fresh inside (w.channels + 1) ∙ none.0 ∙ sym (inside_asked w fresh inside (w.channels + 1) ∙ none.1);
      })
    where
      lower : (x : ℕ) → (x ≡ 0) ⊎ (w.channels + 1 < x) → (x ≡ 0) ⊎ (w.channels < x)
      lower x (inl zero) = inl zero
      lower x (inr above) = inr (omega (arith, above))
  submitted_step w ends k l is s =
      let ids : List ℕ = map (λ (e : ℕ × StationState SessionDevice). e.0) w.stations in
      let before : AreSubmitted (fold dropping w ids) = inside_submitted w (fold dropping w ids) (all_dropped_inside ids w) s in
      record { some = λ opened. absurd (cc opened); unbegun = before.unbegun; stand = before.stand; now = λ opened. absurd (cc opened) }
  submitted_step w (client_sends_one after out) k l may s = own_deed ((w.side).table).outbox w.channels w.deeds out s
  submitted_step w (client_gets n) k l may s = s
  submitted_step w client_keeps_part k l may s = s
  submitted_step w (client_hears_one message rest) k l may s =
      let x : WorldState = record w { to_client = record w.to_client { part = []; taken = _; unhandled = rest } } in
      inside_submitted (with_deed x (client_reads w.channels message)) (done starves w (client_hears_one message rest)) (hears_inside x message) s
  submitted_step w (tries_one kept) k l may s = inside_submitted (record w { kept = None }) (done starves w (tries_one kept)) (put_inside (record w { kept = None }) kept.device kept.job) s
  submitted_step w (collects_one device st after c) k l may s = inside_submitted w (with_station w device after) (stationed w device after) s
  submitted_step w (takes_one device hand st after job) k l may s = inside_submitted w (with_station w device after) (stationed w device after) s
  submitted_step w (applies_one hand device job a) k l may s = inside_submitted w (done starves w (applies_one hand device job a)) (applied_inside starves w hand device job a) s
  submitted_step w (removes_one device a) k l may s = inside_submitted w (done starves w (removes_one device a)) (removed_inside w device a) s
  submitted_step w (adds_one device names a) k l may s = inside_submitted w (done starves w (adds_one device names a)) (added_inside w device names a) s
  submitted_step w (queues_one a) k l may s = s
  submitted_step w (idle_one number) k l may s = s
  submitted_step w draws_one k l may s = s

  pub behind_submitted : (w : WorldState) → IsBehind lines starves w → AreSubmitted w
  behind_submitted = by_parts lines starves AreSubmitted
      (begins_as lines (λ (u : Unset). SubmittedFor (open_channel u.deeds) u.channels ((u.side).table).outbox (λ x. submitted x u.deeds) (λ x. asked_on x u.deeds))
      (record { some = λ opened. absurd (cc opened); unbegun = λ x out. (refl, refl); stand = λ x. ([], refl); now = λ opened. absurd (cc opened) }))
      (λ w p before later may s. submitted_step w p (knows lines starves premises w before) (knows lines starves premises (done starves w p) later) may s)
