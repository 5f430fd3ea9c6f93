-- Each thing that happens by itself leaves less.
use Rattle.std.proofs.Common.{◌≡◌, ◌⊎◌, ◌∙◌, refl, sym, ap, subst, inl, inr, ℕ, zero, suc, ◌+◌, ◌-◌, ◌*◌, ◌<◌, ◌≤◌, ◌==◌, arith, Bool, true, false, cond, List, [], ◌∷◌, ◌++◌, length, map, take, drop, Some, None, Option, Result, Ok, Err, ne_eqb}
use Rattle.std.specs.Prelude.{find, if◌then◌else◌, is_none, nat_le, nat_lt, slice_get}
use Rattle.std.specs.List.{AllByRecursion, cons_option}
use Rattle.std.specs.Map.{lookup}
use Rattle.std.specs.Ordering.{nat_cmp}
use Rattle.std.specs.BTreeMap.{insert_entry, is_at}
use Rattle.std.specs.Option.{IfSome, option_map_or, unwrap_or}
use Rattle.std.proofs.lemmas.Bool.{cases_Bool}
use Rattle.std.proofs.lemmas.Bool.Decides.{nat_tests}
use Rattle.std.proofs.lemmas.List.{length-drop}
use Rattle.rd_base.specs.declared.journal.Key.{Key}
use Rattle.rd_base.specs.declared.packet.Packet.TheVariants as packet
use Rattle.rd_client.specs.Core as client
use Rattle.rd_client.specs.Core.{ClientCoreState, Outgoing}
use Rattle.rd_client.specs.Events.{waiting_messages}
use Rattle.rd_drive.specs.declared.plan.Job.{Job}
use Rattle.rd_hello.specs.ClientTable.{client_number}
use Rattle.rd_hello.specs.Moves.{is_of}
use Rattle.rd_drive.specs.Device.{is_parked}
use Rattle.rd_irp.specs.Fits.{kind_of}
use Rattle.rd_pending.proofs.MapLemmas.{inserted}
use Rattle.rd_pending.specs.declared.calls.SubmitNo.{SubmitNo}
use Rattle.rd_pending.specs.declared.calls.Target.{Target}
use Rattle.rd_pending.specs.Table as table
use Rattle.rd_pending.specs.Table.{TableState}
use Rattle.rd_told.proofs.RunsInsides.{IsInside, stationed}
use Rattle.rd_told.proofs.RunsKeysOn.{AnswersOn, sent_on}
use Rattle.rd_told.proofs.RunsReaching.{both}
use Rattle.rd_told.proofs.RunsTrafficLemmas.{Traffic, client_writes_here, completes_here, traffic}
use Rattle.rd_script.specs.declared.outcome.Outcome.{Outcome}
use Rattle.rd_script.specs.declared.outcome.Outcome.TheVariants as outcome
use Rattle.rd_script.specs.declared.outcome.Refusal.TheVariants as refusal
use Rattle.rd_station.specs.declared.answers.Applied.{Applied}
use Rattle.rd_station.specs.declared.answers.Applied.TheVariants as applied
use Rattle.rd_station.specs.declared.answers.Completion.{Completion}
use Rattle.rd_station.specs.declared.answers.Given.{Given}
use Rattle.rd_station.specs.declared.answers.Given.TheVariants as given
use Rattle.rd_station.specs.declared.held.InHand.{InHand}
use Rattle.rd_station.specs.Station as station
use Rattle.rd_station.specs.Station.{StationState, is_key}
use Rattle.rd_deeds.proofs.Messages.{packet_is, written_packet}
use Rattle.rd_world.proofs.RoundsLemmas.{client_count, client_sends_one, host_sends_one}
use Rattle.rd_declared.specs.declared.device.SessionDevice.{SessionDevice}
use Rattle.rd_world.specs.Events.{applies_at, asks, came_of, client_has_message, client_sends_first, client_sends_next, collects_from, comes_of_asking, completion_message, deed_on, hand_at, host_has_message, host_sends_next, is_hand_free, is_read, issues, issues_next, may_issue, refusal_of, target_of, with_hand}
use Rattle.rd_world.specs.Hearing.{client_handles_all, ends_line, host_handles, host_handles_all, next_asked, with_outcome}
use Rattle.rd_deeds.specs.Host.{HostSide, next_message, side_sends}
use Rattle.rd_world.specs.Run.{host_count}
use Rattle.rd_deeds.specs.Talk.{Deed, Has, client_writes, client_wrote, completes, host_read}
use Rattle.rd_world.specs.World.{ApplicationState, Asked, WayState, WorldState, application_at, client_sends, having_read, host_sends, most_messages, new_application, station_at, with_application, with_station}
use Rattle.rd_ended.proofs.ClientEvents.{Handles, client_handles_on, inside_unheard, tries_on}
use Rattle.rd_ended.proofs.HostEvents.{AppsTake, HostHears, all_taken, comes_out, host_handles_on, line_put_within}
use Rattle.rd_ended.proofs.Lessening.{Lessens}
use Rattle.rd_ended.proofs.Remaining.{back, completions_left, full_hands, hand_changed, handling_left, jobs_left, line_left, lines_left, of_station, other_one, others, others_more, put_at_each, ready_in, remaining, sum, sum_less, sum_same, to_open, unheard, unheard_by, waiting_in, waits, way_left}

-- ---- stations

-- a completion that is collected is the first that was ready
pub collected_one : (s after : StationState SessionDevice) (c : Completion) → station.collect s ≡ (after, Some c) → (waiting_in after ≡ waiting_in s) × (ready_in s ≡ suc (ready_in after))
collected_one s after c made = by s.ready refl
  where
    by : (cs : List Completion) → s.ready ≡ cs → (waiting_in after ≡ waiting_in s) × (ready_in s ≡ suc (ready_in after))
    by [] none = let nothing : (station.collect s).1 ≡ None = rw none refl in absurd (cc (nothing, ap (λ (r : StationState SessionDevice × Option Completion). r.1) made))
    by (x ∷ cs) some =
        let now : (station.collect s).0 ≡ after = ap (λ (r : StationState SessionDevice × Option Completion). r.0) made in
        let is : (station.collect_first s (x ∷ cs)).0 ≡ after = ap (λ (l : List Completion). (station.collect_first s l).0) (sym some) ∙ now in
        (ap waiting_in (sym is), ap length some ∙ ap suc (ap ready_in is))

-- a job that is taken was waiting
took_one : (s after : StationState SessionDevice) (job : Job) → station.take s ≡ (after, given.Job job) → waiting_in s ≡ suc (waiting_in after)
took_one s after job made = by s.ended refl s.waiting refl
  where
    by : (b : Bool) → s.ended ≡ b → (jobs : List Job) → s.waiting ≡ jobs → waiting_in s ≡ suc (waiting_in after)
    by true over jobs some = let nothing : (station.take s).1 ≡ given.Over = rw over refl in absurd (cc (nothing, ap (λ (r : StationState SessionDevice × Given). r.1) made))
    by false going [] none = let nothing : (station.take s).1 ≡ given.Nothing = rw (going, none) refl in absurd (cc (nothing, ap (λ (r : StationState SessionDevice × Given). r.1) made))
    by false going (x ∷ jobs) some =
        let one : station.take s ≡ (record s { waiting = jobs; taken = s.taken ++ record { key = x.key; completion = x.completion; removed = false } ∷ [] }, given.Job x) = rw (going, some) refl in
        let now : jobs ≡ after.waiting = ap (λ (r : StationState SessionDevice × Given). (r.0).waiting) (sym one ∙ made) in
        ap length some ∙ ap (λ (js : List Job). suc (length js)) now

-- a job that is run leaves what waits as it is
ran_waits : (starves : Key → Bool) (w : WorldState) (job : Job) (s : StationState SessionDevice) → waiting_in (station.apply s job w.moment (came_of starves w job s.device)).0 ≡ waiting_in s
ran_waits starves w job s = by (find (λ (t : InHand). is_key t.key job.key) s.taken)
  where
    by : (o : Option InHand) → waiting_in (station.apply_from s job w.moment (came_of starves w job s.device) o).0 ≡ waiting_in s
    by None = refl
    by (Some t) = hand t.removed
      where
        hand : (b : Bool) → waiting_in (cond {A = StationState SessionDevice × Applied} b (station.cancelled_in_hand s t (kind_of job.op), applied.Cancelled)
            (station.ran s t (kind_of job.op) w.moment (came_of starves w job s.device), cond (is_parked (came_of starves w job s.device).answer) applied.Parked applied.Ran)).0 ≡ waiting_in s
        hand true = refl
        hand false = refl

-- ---- events

module _ (applications devices : List ℕ) where
  abbrev Less : WorldState → WorldState → Type 0
  Less = Lessens (remaining applications devices)

  -- ---- applications

  -- a line of an application goes on
  line_less : (es : List (ℕ × ApplicationState)) (a : ℕ) (x : ApplicationState) → Has a applications → line_left x < line_left (unwrap_or (lookup (is_at (nat_cmp a)) es) new_application)
      → sum applications (λ b. line_left (unwrap_or (lookup (is_at (nat_cmp b)) (insert_entry nat_cmp es a x)) new_application)) < sum applications (λ b. line_left (unwrap_or (lookup (is_at (nat_cmp b)) es) new_application))
  line_less es a x has less =
      let own : line_left (unwrap_or (lookup (is_at (nat_cmp a)) (insert_entry nat_cmp es a x)) new_application) < line_left (unwrap_or (lookup (is_at (nat_cmp a)) es) new_application) =
      subst (λ (o : Option ApplicationState). line_left (unwrap_or o new_application) < line_left (unwrap_or (lookup (is_at (nat_cmp a)) es) new_application)) (sym (inserted a x es)) less in
      sum_less applications a (λ b. line_left (unwrap_or (lookup (is_at (nat_cmp b)) es) new_application)) (λ b. line_left (unwrap_or (lookup (is_at (nat_cmp b)) (insert_entry nat_cmp es a x)) new_application)) has own
      (line_put_within applications es a x (omega (arith, less)))

  none_waits : (o : Option ℕ) → is_none o ≡ true → waits o ≡ 0
  none_waits None e = refl
  none_waits (Some number) e = absurd (cc e)

  pub issue_less : (w : WorldState) (a : ℕ) (asked : Asked) → Has a applications → may_issue (application_at w a) ≡ true → next_asked (application_at w a) ≡ Some asked → Less w (issues w a)
  issue_less w a asked has may next = subst (λ (o : Option Asked). Less w (issues_next w a o)) (sym next) (target (target_of x asked))
    where
      x : ApplicationState
      x = application_at w a

      left : length x.outcomes < x.queued
      left = let l = both (nat_lt (length x.outcomes) x.queued) (is_none x.awaits) may in grind (arith, nat_tests, l.0)

      none : waits x.awaits ≡ 0
      none = let l = both (nat_lt (length x.outcomes) x.queued) (is_none x.awaits) may in none_waits x.awaits l.1

      refuses : (o : Outcome) → Less w (ends_line w a o None)
      refuses o =
          let out : line_left (with_outcome x o None asked) ≡ 2 * x.queued - (2 * length x.outcomes + 2) = comes_out x o None asked in
          let less : line_left (with_outcome x o None asked) < line_left x = omega (arith, out, left, none) in
          subst (λ (n : Option Asked). Less w (option_map_or (λ asked. with_application w a (with_outcome x o None asked)) n w)) (sym next)
          (inr (refl, inr (refl, inl (line_less w.applications a (with_outcome x o None asked) has less))))

      comes : (named : Target) (r : TableState × Result ℕ SubmitNo) → Less w (comes_of_asking w a asked.op named r)
      comes named (t, Ok number) =
          let less : line_left (record x { awaits = Some number }) < line_left x = omega (arith, left, none) in
          inr (refl, inr (refl, inl (line_less w.applications a (record x { awaits = Some number }) has less)))
      comes named (t, Err cause) = refuses (outcome.Refused (refusal_of cause))

      target : (o : Option Target) → Less w (asks w a asked.op o)
      target None = refuses (outcome.Refused refusal.NoHandle)
      target (Some named) = comes named (table.submit (w.side).table a named asked.op)

  -- ---- the host sends

  pub host_send_less : (w : WorldState) → host_has_message w ≡ true → Less w (host_sends_next w)
  host_send_less w some =
      let one : host_count w ≡ suc (host_count (host_sends_next w)) = host_sends_one w some in
      let same = others_same (next_message w.side) in
      inr (same.0, inr (same.1, inr (same.2, inl (omega (arith, one)))))
    where
      others_same : (o : Option (List ℕ)) → let v : WorldState = option_map_or (host_sends (record w { side = side_sends w.side })) o w in
          (to_open v ≡ to_open w) × (unheard v ≡ unheard w) × (lines_left applications v ≡ lines_left applications w)
      others_same None = (refl, refl, refl)
      others_same (Some message) = (refl, refl, refl)

  -- ---- the client reads

  read_some : (pipe : List ℕ) (n : ℕ) → is_read pipe n ≡ true → length (drop n pipe) < length pipe
  read_some pipe n can =
      let l = both (nat_lt 0 n) (nat_le n (length pipe)) can in
      let some : 0 < n = grind (arith, nat_tests, l.0) in
      let few : n ≤ length pipe = grind (arith, nat_tests, l.1) in
      let rest : length (drop n pipe) ≡ length pipe - n = length-drop n pipe in
      omega (arith, some, few, rest)

  pub client_read_less : (w : WorldState) (n : ℕ) → is_read (w.to_client).pipe n ≡ true → Less w (client_handles_all (record w { to_client = having_read n w.to_client }))
  client_read_less w n can =
      let x : WorldState = record w { to_client = having_read n w.to_client } in
      let v : WorldState = client_handles_all x in
      let h : Handles x v = client_handles_on (most_messages x.to_client) x in
      let way : way_left v ≡ length (drop n (w.to_client).pipe) = ap length h.way in
      let less : length (drop n (w.to_client).pipe) < length (w.to_client).pipe = read_some (w.to_client).pipe n can in
      elim h.goes [
        | inl nearer ↦ inl nearer
        | inr same ↦ inr (
          same.0,
          inr (
            same.1,
            inr (
              ap (λ (es : List (ℕ × ApplicationState)). sum applications (λ b. line_left (unwrap_or (lookup (is_at (nat_cmp b)) es) new_application))) h.applications,
              inr (ap (λ (s : HostSide). length ((s.core).core).outbox + length (s.table).outbox) h.side, inl (omega (arith, way, less))),
            ),
          ),
        )
      ]

  -- ---- the client sends

  pub client_send_less : (w : WorldState) → AllByRecursion (AnswersOn w.channels) ((w.client).core).outbox → others (host_read w.channels w.deeds) ≤ others (client_wrote w.channels w.deeds) → client_has_message w ≡ true → Less w (client_sends_next w)
  client_send_less w on carried some =
      let one : client_count w ≡ suc (client_count (client_sends_next w)) = client_sends_one w some in
      let same = all_same (client.client_send w.client) refl in
      inr (same.0, inr (same.1, inr (same.2, inr (same.3, inr (same.4, inr (same.5, inr (same.6, inr (same.7, inl (omega (arith, one))))))))))
    where
      t : Traffic
      t = traffic w.channels w.deeds

      wrote : (deeds : List Deed) (o : Outgoing) → IfSome o.answers (λ (key : Key). key.channel ≡ w.channels) → traffic w.channels (deed_on w.channels o ∷ w.deeds) ≡ record t { client_wrote = o.message ∷ t.client_wrote }
      wrote deeds o answers = by o.answers answers
        where
          by : (a : Option Key) → IfSome a (λ (key : Key). key.channel ≡ w.channels)
              → traffic w.channels (option_map_or (λ key. completes key o.message) a (client_writes w.channels o.message) ∷ w.deeds) ≡ record t { client_wrote = o.message ∷ t.client_wrote }
          by None on = client_writes_here w.channels w.deeds o.message
          by (Some key) on = completes_here w.channels w.deeds o.message key on

      -- what was to be sent was written
      moved : (c : ClientCoreState) (o : Outgoing) → client.client_send w.client ≡ (c, Some o) → ((c.core).shake ≡ ((w.client).core).shake) × (others (waiting_messages w.client) ≡ other_one (is_of packet.IoCompletion o.message) + others (waiting_messages c))
      moved c o made = by ((w.client).core).outbox refl
        where
          by : (os : List Outgoing) → ((w.client).core).outbox ≡ os → ((c.core).shake ≡ ((w.client).core).shake) × (others (waiting_messages w.client) ≡ other_one (is_of packet.IoCompletion o.message) + others (waiting_messages c))
          by [] is = let nothing : (client.client_send w.client).1 ≡ None = rw is refl in absurd (cc (nothing, ap (λ (r : ClientCoreState × Option Outgoing). r.1) made))
          by (first ∷ os) is =
              let now : ClientCoreState = record w.client { core = record (w.client).core { outbox = os } } in
              let one : client.client_send w.client ≡ (now, Some first) = rw is refl in
              let same : first ≡ o = (let both : Some first ≡ Some o = ap (λ (r : ClientCoreState × Option Outgoing). r.1) (sym one ∙ made) in cc) in
              let left : now ≡ c = ap (λ (r : ClientCoreState × Option Outgoing). r.0) (sym one ∙ made) in (
                ap (λ (x : ClientCoreState). (x.core).shake) (sym left),
                ap (λ (l : List Outgoing). others (map (λ (x : Outgoing). x.message) l)) is
                    ∙ ap (λ (x : Outgoing). other_one (is_of packet.IoCompletion x.message) + others (map (λ (x : Outgoing). x.message) os)) same
                    ∙ ap (λ (x : ClientCoreState). other_one (is_of packet.IoCompletion o.message) + others (waiting_messages x)) left,
              )

      all_same : (r : ClientCoreState × Option Outgoing) → client.client_send w.client ≡ r → let v : WorldState = client_sends_first w r in
          (to_open v ≡ to_open w) × (unheard v ≡ unheard w) × (lines_left applications v ≡ lines_left applications w) × (host_count v ≡ host_count w) × (way_left v ≡ way_left w)
          × (handling_left v ≡ handling_left w) × (jobs_left devices v ≡ jobs_left devices w) × (completions_left devices v ≡ completions_left devices w)
      all_same (c, None) made = (refl, refl, refl, refl, refl, refl, refl, refl)
      all_same (c, Some o) made = (
        ap (λ s. 5 - client_number s) (moved c o made).0,
        heard,
        refl,
        refl,
        refl,
        refl,
        refl,
        refl,
      )
        where
          v : WorldState
          v = client_sends_first w (c, Some o)

          heard : unheard v ≡ unheard w
          heard =
              let same : unheard v ≡ others (waiting_messages c) + ((other_one (is_of packet.IoCompletion o.message) + others t.client_wrote) - others t.host_read) = ap (unheard_by c) (wrote w.deeds o ((sent_on w.channels w.client c o on made).0).0) in
              let split : others (waiting_messages w.client) ≡ other_one (is_of packet.IoCompletion o.message) + others (waiting_messages c) = (moved c o made).1 in
              omega (arith, same, split, carried)

  -- ---- the host reads

  pub host_read_less : (w : WorldState) (n : ℕ) → is_read (w.to_host).pipe n ≡ true
      → (let v : WorldState = host_handles_all (record w { to_host = having_read n w.to_host }) in others (host_read v.channels v.deeds) ≤ others (client_wrote v.channels v.deeds))
      → Less w (host_handles_all (record w { to_host = having_read n w.to_host }))
  host_read_less w n can carried = by (others h.heard) refl
    where
      x : WorldState
      x = record w { to_host = having_read n w.to_host }

      y : WorldState
      y = host_handles (most_messages x.to_host) x

      h : HostHears x y
      h = host_handles_on (most_messages x.to_host) x

      v : WorldState
      v = host_handles_all x

      t : AppsTake applications y v
      t = all_taken applications (map (λ (e : ℕ × ApplicationState). e.0) y.applications) y

      channels : v.channels ≡ w.channels
      channels = t.channels ∙ h.channels

      same_client : v.client ≡ w.client
      same_client = t.client ∙ h.client

      wrote : client_wrote v.channels v.deeds ≡ client_wrote w.channels w.deeds
      wrote = ap (λ (c : ℕ). client_wrote c v.deeds) channels ∙ ap (λ (u : Traffic). u.client_wrote) (t.traffic w.channels) ∙ h.wrote

      read : host_read v.channels v.deeds ≡ h.heard ++ host_read w.channels w.deeds
      read = ap (λ (c : ℕ). host_read c v.deeds) channels ∙ ap (λ (u : Traffic). u.host_read) (t.traffic w.channels) ∙ h.read

      few : others h.heard + others (host_read w.channels w.deeds) ≤ others (client_wrote w.channels w.deeds)
      few =
          let more : others (host_read v.channels v.deeds) ≡ others h.heard + others (host_read w.channels w.deeds) = ap others read ∙ others_more h.heard (host_read w.channels w.deeds) in
          let all : others (client_wrote v.channels v.deeds) ≡ others (client_wrote w.channels w.deeds) = ap others wrote in
          omega (arith, more, all, carried)

      left : unheard v ≡ others (waiting_messages w.client) + (others (client_wrote w.channels w.deeds) - (others h.heard + others (host_read w.channels w.deeds)))
      left =
          let more : others (host_read v.channels v.deeds) ≡ others h.heard + others (host_read w.channels w.deeds) = ap others read ∙ others_more h.heard (host_read w.channels w.deeds) in
          let all : others (client_wrote v.channels v.deeds) ≡ others (client_wrote w.channels w.deeds) = ap others wrote in
          let waiting : others (waiting_messages v.client) ≡ others (waiting_messages w.client) = ap (λ (c : ClientCoreState). others (waiting_messages c)) same_client in
          omega (arith, more, all, waiting)

      nearer : to_open v ≡ to_open w
      nearer = ap (λ (c : ClientCoreState). 5 - client_number (c.core).shake) same_client

      lines : lines_left applications v ≤ lines_left applications w
      lines =
          let same : lines_left applications y ≡ lines_left applications w = ap (λ (es : List (ℕ × ApplicationState)). sum applications (λ b. line_left (unwrap_or (lookup (is_at (nat_cmp b)) es) new_application))) h.applications in
          omega (arith, same, t.lines)

      cases : (a b : ℕ) → a ≤ b → (a < b) ⊎ (a ≡ b)
      cases a b low = elim (cases_less a b) [ inl less ↦ inl less | inr most ↦ inr (omega (arith, most, low)) ]
        where
          cases_less : (a b : ℕ) → (a < b) ⊎ (b ≤ a)
          cases_less a b = elim (cases_Bool (nat_lt a b)) [ inl so ↦ inl (grind (arith, nat_tests, so)) | inr not_so ↦ inr (grind (arith, nat_tests, not_so)) ]

      by : (k : ℕ) → others h.heard ≡ k → Less w v
      by (suc k) some = inr (nearer, inl (omega (arith, some, few, left)))
      by zero none =
          let same : unheard v ≡ unheard w = omega (arith, none, left) in
          let count : host_count v ≡ host_count w = t.count ∙ h.quiet none in
          let down : v.to_client ≡ w.to_client = t.way ∙ h.way in
          let kept : v.kept ≡ w.kept = t.kept ∙ h.kept in
          let stations : v.stations ≡ w.stations = t.stations ∙ h.stations in
          let hands : v.hands ≡ w.hands = t.hands ∙ h.hands in
          let handling : handling_left v ≡ handling_left w = (λ i. 2 * (length (down i).part + length (down i).unhandled) + back (kept i)) in
          let jobs : jobs_left devices v ≡ jobs_left devices w = (λ i. 2 * sum devices (λ d. of_station waiting_in (lookup (is_at (nat_cmp d)) (stations i))) + full_hands (hands i)) in
          let ready : completions_left devices v ≡ completions_left devices w = ap (λ (es : List (ℕ × StationState SessionDevice)). sum devices (λ d. of_station ready_in (lookup (is_at (nat_cmp d)) es))) stations in
          let pipe : length (v.to_host).pipe ≡ length (drop n (w.to_host).pipe) = ap (λ (u : WayState). length u.pipe) t.back_way ∙ ap length h.pipe in
          let less : length (drop n (w.to_host).pipe) < length (w.to_host).pipe = read_some (w.to_host).pipe n can in
          inr (
            nearer,
            inr (
              same,
              elim (cases (lines_left applications v) (lines_left applications w) lines) [
                | inl fewer ↦ inl fewer
                | inr all ↦ inr (all, inr (count, inr (ap (λ (u : WayState). length u.pipe) down, inr (handling, inr (jobs, inr (ready, inr (ap (λ (c : ClientCoreState). length (c.core).outbox) same_client, inl (omega (arith, pipe, less)))))))))
              ],
            ),
          )

  -- ---- jobs

  -- what is left of stations where one steps
  station_step : (f : StationState SessionDevice → ℕ) (es : List (ℕ × StationState SessionDevice)) (device : ℕ) (s after : StationState SessionDevice) → lookup (is_at (nat_cmp device)) es ≡ Some s → f after ≡ f s
      → sum devices (λ d. of_station f (lookup (is_at (nat_cmp d)) (insert_entry nat_cmp es device after))) ≡ sum devices (λ d. of_station f (lookup (is_at (nat_cmp d)) es))
  station_step f es device s after there same =
      sum_same devices (λ d. of_station f (lookup (is_at (nat_cmp d)) es)) (λ d. of_station f (lookup (is_at (nat_cmp d)) (insert_entry nat_cmp es device after)))
      (put_at_each (λ (d : ℕ) (o : Option (StationState SessionDevice)). of_station f o ≡ of_station f (lookup (is_at (nat_cmp d)) es)) device after es (same ∙ sym (ap (of_station f) there)) (λ d. refl))

  station_less : (f : StationState SessionDevice → ℕ) (es : List (ℕ × StationState SessionDevice)) (device : ℕ) (s after : StationState SessionDevice) → Has device devices → lookup (is_at (nat_cmp device)) es ≡ Some s → f after < f s
      → sum devices (λ d. of_station f (lookup (is_at (nat_cmp d)) (insert_entry nat_cmp es device after))) < sum devices (λ d. of_station f (lookup (is_at (nat_cmp d)) es))
  station_less f es device s after has there less =
      let old : of_station f (lookup (is_at (nat_cmp device)) es) ≡ f s = ap (of_station f) there in
      let new : of_station f (lookup (is_at (nat_cmp device)) (insert_entry nat_cmp es device after)) ≡ f after = ap (of_station f) (inserted device after es) in
      sum_less devices device (λ d. of_station f (lookup (is_at (nat_cmp d)) es)) (λ d. of_station f (lookup (is_at (nat_cmp d)) (insert_entry nat_cmp es device after))) has (omega (arith, old, new, less))
      (put_at_each (λ (d : ℕ) (o : Option (StationState SessionDevice)). of_station f o ≤ of_station f (lookup (is_at (nat_cmp d)) es)) device after es (omega (arith, old, less)) (λ d. omega arith))

  -- a hand holds something else than it held
  hand_step : (hands : List (Option (ℕ × Job))) (hand : ℕ) (old new : Option (ℕ × Job)) → (if hand == 0 then None else slice_get hands (hand - 1)) ≡ Some old
      → full_hands (take (hand - 1) hands ++ new ∷ drop hand hands) + full_hands (old ∷ []) ≡ full_hands hands + full_hands (new ∷ [])
  hand_step hands zero old new there = absurd (cc there)
  hand_step hands (suc i) old new there =
      let place : suc i - 1 ≡ i = omega arith in
      let off : (suc i == 0) ≡ false = ne_eqb (suc i) 0 (λ (same : suc i ≡ 0). absurd (omega (arith, same))) in
      let at : slice_get hands (suc i - 1) ≡ Some old = rw off at there in
      let is : slice_get hands i ≡ Some old = ap (slice_get hands) (sym place) ∙ at in
      ap (λ (k : ℕ). full_hands (take k hands ++ new ∷ drop (suc i) hands) + full_hands (old ∷ [])) place ∙ hand_changed hands i old new is

  held_is : (w : WorldState) (hand : ℕ) → is_hand_free w hand ≡ true → hand_at w hand ≡ Some None
  held_is w hand free = by (hand_at w hand) free
    where
      by : (o : Option (Option (ℕ × Job))) → option_map_or is_none o false ≡ true → o ≡ Some None
      by None e = absurd (cc e)
      by (Some None) e = refl
      by (Some (Some held)) e = absurd (cc e)

  pub take_less : (w : WorldState) (device hand : ℕ) (s after : StationState SessionDevice) (job : Job) → Has device devices → is_hand_free w hand ≡ true → station_at w device ≡ Some s → station.take s ≡ (after, given.Job job)
      → Less w (with_hand (with_station w device after) hand (Some (device, job)))
  take_less w device hand s after job has free there made =
      let i : IsInside w (with_station w device after) = stationed w device after in
      let one : waiting_in s ≡ suc (waiting_in after) = took_one s after job made in
      let waiting = station_less waiting_in w.stations device s after has there (omega (arith, one)) in
      let hands = hand_step w.hands hand None (Some (device, job)) (held_is w hand free) in
      inr (refl, inr (inside_unheard w (with_station w device after) i, inr (refl, inr (refl, inr (refl, inr (refl, inl (omega (arith, waiting, hands))))))))

  pub apply_less : (starves : Key → Bool) (w : WorldState) (hand device : ℕ) (job : Job) (o : Option (StationState SessionDevice)) → hand_at w hand ≡ Some (Some (device, job)) → station_at w device ≡ o
      → Less w (applies_at starves w hand device job o)
  apply_less starves w hand device job None holds there =
      let hands = hand_step w.hands hand (Some (device, job)) None holds in
      inr (refl, inr (refl, inr (refl, inr (refl, inr (refl, inr (refl, inl (omega (arith, hands))))))))
  apply_less starves w hand device job (Some s) holds there =
      let after : StationState SessionDevice = (station.apply s job w.moment (came_of starves w job s.device)).0 in
      let i : IsInside w (with_station w device after) = stationed w device after in
      let waiting = station_step waiting_in w.stations device s after there (ran_waits starves w job s) in
      let hands = hand_step w.hands hand (Some (device, job)) None holds in
      inr (refl, inr (inside_unheard w (with_station w device after) i, inr (refl, inr (refl, inr (refl, inr (refl, inl (omega (arith, waiting, hands))))))))

  -- ---- a completion is collected

  collected_wrote : (c device : ℕ) (x : Completion) (deeds : List Deed) → others (client_wrote c (completes x.key (completion_message device x) ∷ deeds)) ≡ others (client_wrote c deeds)
  collected_wrote c device x deeds = by ((x.key).channel == c)
    where
      completion : is_of packet.IoCompletion (completion_message device x) ≡ true
      completion = packet_is packet.IoCompletion packet.IoCompletion (completion_message device x) (written_packet packet.IoCompletion _)

      by : (b : Bool) → others (cons_option (if b then Some (completion_message device x) else None) (client_wrote c deeds)) ≡ others (client_wrote c deeds)
      by true = let none : other_one (is_of packet.IoCompletion (completion_message device x)) ≡ 0 = ap other_one completion in omega (arith, none)
      by false = refl

  pub collect_less : (w : WorldState) (device : ℕ) (s after : StationState SessionDevice) (x : Completion) → Has device devices → station_at w device ≡ Some s → station.collect s ≡ (after, Some x)
      → Less w (collects_from w device (after, Some x))
  collect_less w device s after x has there made = elim (tries_on y device) [
    | inl same ↦ subst (Less w) (sym same) (inr (refl, inr (heard, inr (refl, inr (refl, inr (refl, inr (refl, inr (jobs, inl ready))))))))
    | inr (h, less) ↦ elim h.goes [
      | inl nearer ↦ inl nearer
      | inr same ↦ inr (
        same.0,
        inr (
          same.1 ∙ heard,
          inr (
            ap (λ (es : List (ℕ × ApplicationState)). sum applications (λ b. line_left (unwrap_or (lookup (is_at (nat_cmp b)) es) new_application))) h.applications,
            inr (ap (λ (s : HostSide). length ((s.core).core).outbox + length (s.table).outbox) h.side, inr (ap length h.way, inl less)),
          ),
        ),
      )
    ]
  ]
    where
      z : WorldState
      z = with_station w device after

      bytes : List ℕ
      bytes = completion_message device x

      y : WorldState
      y = client_sends z (completes x.key bytes) bytes

      heard : unheard y ≡ unheard w
      heard =
          let wrote : others (client_wrote w.channels y.deeds) ≡ others (client_wrote w.channels z.deeds) = collected_wrote w.channels device x z.deeds in
          ap (λ (n : ℕ). others (waiting_messages w.client) + (n - others (host_read w.channels z.deeds))) wrote ∙ inside_unheard w z (stationed w device after)

      one : (waiting_in after ≡ waiting_in s) × (ready_in s ≡ suc (ready_in after))
      one = collected_one s after x made

      jobs : jobs_left devices y ≡ jobs_left devices w
      jobs = ap (λ (n : ℕ). 2 * n + full_hands w.hands) (station_step waiting_in w.stations device s after there one.0)

      ready : completions_left devices y < completions_left devices w
      ready = let fewer : ready_in after < ready_in s = omega (arith, one.1) in station_less ready_in w.stations device s after has there fewer
