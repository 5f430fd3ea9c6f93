-- What each part keeps, but a channel's begin, each event keeps that begins none.
use Rattle.std.proofs.Common.{◌≡◌, refl, sym, subst, ℕ, zero, suc, ◌==◌, Bool, true, false, not, List, [], ◌∷◌, ◌++◌, map, fold, Some, None, Option, Result, Ok, Err}
use Rattle.std.specs.Prelude.{if◌then◌else◌, is_none, is_some}
use Rattle.std.specs.Map.{lookup}
use Rattle.std.specs.Ordering.{nat_cmp}
use Rattle.std.specs.BTreeMap.{is_at}
use Rattle.std.specs.Option.{option_and_then, option_map_or}
use Rattle.rd_base.specs.declared.journal.Key.{Key}
use Rattle.rd_client.specs.Core as client
use Rattle.rd_client.specs.Core.{ClientCoreState, Outgoing}
use Rattle.rd_drive.specs.declared.plan.Job.{Job}
use Rattle.rd_pending.specs.declared.calls.SubmitNo.{SubmitNo}
use Rattle.rd_pending.specs.declared.calls.Taken.{Taken}
use Rattle.rd_pending.specs.declared.calls.TakeNo.{TakeNo}
use Rattle.rd_pending.specs.declared.calls.Target.{Target}
use Rattle.rd_pending.specs.Table as table
use Rattle.rd_pending.specs.Table.{TableState}
use Rattle.rd_script.specs.declared.line.NumberedLine.{NumberedLine}
use Rattle.rd_script.specs.declared.outcome.Outcome.TheVariants as outcome
use Rattle.rd_script.specs.declared.outcome.Refusal.{Refusal}
use Rattle.rd_script.specs.declared.outcome.Refusal.TheVariants as refusal
use Rattle.rd_station.specs.declared.answers.Completion.{Completion}
use Rattle.rd_station.specs.declared.answers.Given.{Given}
use Rattle.rd_station.specs.declared.answers.Given.TheVariants as given
use Rattle.rd_station.specs.Station as station
use Rattle.rd_station.specs.Station.{StationState}
use Rattle.rd_orders.specs.RunsMoves.{IsOfLines, Reached}
use Rattle.rd_orders.proofs.RunsParts.{IsRefused, MayBe, Part, accepts, adds_one, announced_by, applies_one, begins, client_gets, client_hears_one, client_keeps_part, client_sends_one, collects_one, done, ends, hands_out, host_gets, host_hears_one, host_keeps_part, host_sends_one, refreshed_by, refuses, removes_one, takes_one, tells_one, told_added, tries_one}
use Rattle.rd_orders.proofs.RunsReaching.{both}
use Rattle.rd_declared.specs.declared.device.SessionDevice.{SessionDevice}
use Rattle.rd_declared.specs.Devices.{PrinterNames}
use Rattle.rd_world.specs.Events as event
use Rattle.rd_world.specs.Events.{Event, act, asks, client_has_message, collects_from, comes_of_asking, cutting, hand_at, has_completion, is_enabled, is_hand_free, is_read, issues, issues_next, job_waits, may_issue, refusal_of, takes_job_from, target_of}
use Rattle.rd_world.specs.Hearing.{client_handles, client_handles_all, client_handles_first, ends_line, host_handles, host_handles_first, next_asked, putting, takes_awaited, takes_from, takes_outcome, all_take, tries, tries_kept, with_outcome}
use Rattle.rd_deeds.specs.Host.{next_message, side_sends}
use Rattle.rd_world.specs.World.{ApplicationState, Asked, Kept, WorldState, application_at, first_message, handling_by, host_sends, most_messages, station_at, with_application}

-- a part that begins no channel
abbrev pub BeginsNone : Part → Type 0
BeginsNone begins = ⊥
BeginsNone p = Unit {0}

-- an event that begins none
abbrev pub KeepsChannels : Event → Type 0
KeepsChannels event.connect = ⊥
KeepsChannels e = Unit {0}

none_of : (o : Option Kept) → is_some o ≡ false → o ≡ None
none_of None e = refl
none_of (Some k) e = absurd (cc)

is_off : (b : Bool) → not b ≡ true → b ≡ false
is_off false e = refl
is_off true e = absurd (cc)

no_kept : (o : Option Kept) → is_none o ≡ true → o ≡ None
no_kept None e = refl
no_kept (Some k) e = absurd (cc)

module _ (lines : List NumberedLine) (starves : Key → Bool) (P : WorldState → Type 0)
    (keep : (w : WorldState) (p : Part) → BeginsNone p → MayBe lines starves w p → P w → P (done starves w p)) where
  -- ---- applications

  refused_keeps : (w : WorldState) (a : ℕ) (asked : Asked) (cause : Refusal) → may_issue (application_at w a) ≡ true → next_asked (application_at w a) ≡ Some asked
      → IsRefused w a asked cause (target_of (application_at w a) asked) → P w → P (ends_line w a (outcome.Refused cause) None)
  refused_keeps w a asked cause may next refused p =
      subst (λ (o : Option Asked). P (option_map_or (λ asked. with_application w a (with_outcome (application_at w a) (outcome.Refused cause) None asked)) o w)) (sym next)
      (keep w (refuses a asked cause) tt (may, next, refused) p)

  asked_keeps : (w : WorldState) (a : ℕ) (asked : Asked) → Reached lines starves w → may_issue (application_at w a) ≡ true → next_asked (application_at w a) ≡ Some asked → P w
      → (o : Option Target) → target_of (application_at w a) asked ≡ o → P (asks w a asked.op o)
  asked_keeps w a asked reached may next p None target = refused_keeps w a asked refusal.NoHandle may next (subst (IsRefused w a asked refusal.NoHandle) (sym target) refl) p
  asked_keeps w a asked reached may next p (Some named) target = by (table.submit (w.side).table a named asked.op) refl
    where
      by : (r : TableState × Result ℕ SubmitNo) → table.submit (w.side).table a named asked.op ≡ r → P (comes_of_asking w a asked.op named r)
      by (t, Ok number) made = keep w (accepts a asked named t number) tt (reached, may, next, target, made) p
      by (t, Err cause) made = refused_keeps w a asked (refusal_of cause) may next (subst (IsRefused w a asked (refusal_of cause)) (sym target) (t, cause, made, refl)) p

  issue_keeps : (w : WorldState) (a : ℕ) → Reached lines starves w → may_issue (application_at w a) ≡ true → P w → P (issues w a)
  issue_keeps w a reached may p = by (next_asked (application_at w a)) refl
    where
      by : (o : Option Asked) → next_asked (application_at w a) ≡ o → P (issues_next w a o)
      by None next = p
      by (Some asked) next = asked_keeps w a asked reached may next p (target_of (application_at w a) asked) refl

  outcome_keeps : (w : WorldState) (a : ℕ) → P w → P (takes_outcome w a)
  outcome_keeps w a p = by (application_at w a).awaits refl
    where
      from : (number : ℕ) → (application_at w a).awaits ≡ Some number → (r : TableState × Result Taken TakeNo) → table.take (w.side).table number ≡ r → P (takes_from w a number r)
      from number waits (t, Err cause) made = p
      from number waits (t, Ok taken) made = keep w (hands_out a number t taken (next_asked (application_at w a))) tt (waits, refl, made) p

      by : (o : Option ℕ) → (application_at w a).awaits ≡ o → P (takes_awaited w a o)
      by None waits = p
      by (Some number) waits = from number waits (table.take (w.side).table number) refl

  outcomes_keep : (applications : List ℕ) (w : WorldState) → P w → P (fold takes_outcome w applications)
  outcomes_keep [] w p = p
  outcomes_keep (a ∷ applications) w p = outcomes_keep applications (takes_outcome w a) (outcome_keeps w a p)

  all_take_keeps : (w : WorldState) → P w → P (all_take w)
  all_take_keeps w p = outcomes_keep (map (λ (e : ℕ × ApplicationState). e.0) w.applications) w p

  -- ---- what comes is handled

  client_handling_keeps : (most : ℕ) (w : WorldState) → P w → P (client_handles most w)
  client_handling_keeps zero w p = p
  client_handling_keeps (suc most) w p = by (is_some w.kept) refl (client_handling_keeps most)
    where
      first : w.kept ≡ None → ((x : WorldState) → P x → P (client_handles most x)) → (o : Option (List ℕ × List ℕ))
          → first_message ((w.to_client).part ++ (w.to_client).unhandled) ≡ o → P (client_handles_first w (handling_by w.to_client o) (client_handles most))
      first kept next None is = keep w client_keeps_part tt (kept, is) p
      first kept next (Some (message, rest)) is =
          next (done starves w (client_hears_one message rest)) (keep w (client_hears_one message rest) tt (kept, is) p)

      by : (b : Bool) → is_some w.kept ≡ b → ((x : WorldState) → P x → P (client_handles most x))
          → P (if b then w else client_handles_first w (handling_by w.to_client (first_message ((w.to_client).part ++ (w.to_client).unhandled))) (client_handles most))
      by true kept next = p
      by false kept next = first (none_of w.kept kept) next (first_message ((w.to_client).part ++ (w.to_client).unhandled)) refl

  client_all_keeps : (w : WorldState) → P w → P (client_handles_all w)
  client_all_keeps w p = client_handling_keeps (most_messages w.to_client) w p

  tries_keeps : (w : WorldState) (device : ℕ) → P w → P (tries_kept w device)
  tries_keeps w device p = by w.kept refl
    where
      by : (o : Option Kept) → w.kept ≡ o → P (tries w device o)
      by None kept = p
      by (Some k) kept = when (k.device == device)
        where
          when : (b : Bool) → P (if b then client_handles_all (putting (record w { kept = None }) k.device k.job) else w)
          when true = client_all_keeps (done starves w (tries_one k)) (keep w (tries_one k) tt kept p)
          when false = p

  host_handling_keeps : (most : ℕ) (w : WorldState) → P w → P (host_handles most w)
  host_handling_keeps zero w p = p
  host_handling_keeps (suc most) w p = by (first_message ((w.to_host).part ++ (w.to_host).unhandled)) refl (host_handling_keeps most)
    where
      by : (o : Option (List ℕ × List ℕ)) → first_message ((w.to_host).part ++ (w.to_host).unhandled) ≡ o → ((x : WorldState) → P x → P (host_handles most x))
          → P (host_handles_first w (handling_by w.to_host o) (host_handles most))
      by None is next = keep w host_keeps_part tt is p
      by (Some (message, rest)) is next = next (done starves w (host_hears_one message rest)) (keep w (host_hears_one message rest) tt is p)

  -- ---- events

  collect_keeps : (w : WorldState) (device : ℕ) → Reached lines starves w → is_enabled w (event.collect device) ≡ true → P w → P (event.collects w device)
  collect_keeps w device reached can p = by (station_at w device) refl
    where
      idle : client_has_message w ≡ false
      idle = is_off (client_has_message w) (both (not (client_has_message w)) (has_completion w device) can).0

      from : (s : StationState SessionDevice) → station_at w device ≡ Some s → (r : StationState SessionDevice × Option Completion) → station.collect s ≡ r
          → P (collects_from w device r)
      from s there (after, None) made = p
      from s there (after, Some c) made =
          tries_keeps (done starves w (collects_one device s after c)) device (keep w (collects_one device s after c) tt (reached, idle, there, made) p)

      by : (o : Option (StationState SessionDevice)) → station_at w device ≡ o → P (option_map_or (λ (s : StationState SessionDevice). collects_from w device (station.collect s)) o w)
      by None there = p
      by (Some s) there = from s there (station.collect s) refl

  take_keeps : (w : WorldState) (device hand : ℕ) → is_hand_free w hand ≡ true → P w → P (event.takes_job w device hand)
  take_keeps w device hand free p = by (station_at w device) refl
    where
      from : (s : StationState SessionDevice) → station_at w device ≡ Some s → (r : StationState SessionDevice × Given) → station.take s ≡ r
          → P (takes_job_from w device hand r)
      from s there (after, given.Job job) made = keep w (takes_one device hand s after job) tt (free, there, made) p
      from s there (after, given.Nothing) made = p
      from s there (after, given.Over) made = p

      by : (o : Option (StationState SessionDevice)) → station_at w device ≡ o
          → P (option_map_or (λ (s : StationState SessionDevice). takes_job_from w device hand (station.take s)) o w)
      by None there = p
      by (Some s) there = from s there (station.take s) refl

  apply_keeps : (w : WorldState) (hand : ℕ) → P w → P (event.applies_job starves w hand)
  apply_keeps w hand p = by (hand_at w hand) refl
    where
      by : (o : Option (Option (ℕ × Job))) → hand_at w hand ≡ o → P (event.applies_held starves w hand (option_and_then (λ held. held) o))
      by None holds = p
      by (Some None) holds = p
      by (Some (Some (device, job))) holds = keep w (applies_one hand device job (station_at w device)) tt (holds, refl) p

  host_send_keeps : (w : WorldState) → P w → P (event.host_sends_next w)
  host_send_keeps w p = by (next_message w.side) refl
    where
      by : (o : Option (List ℕ)) → next_message w.side ≡ o → P (option_map_or (host_sends (record w { side = side_sends w.side })) o w)
      by None next = p
      by (Some message) next = keep w (host_sends_one message) tt next p

  client_send_keeps : (w : WorldState) → P w → P (event.client_sends_next w)
  client_send_keeps w p = by (client.client_send w.client) refl
    where
      by : (r : ClientCoreState × Option Outgoing) → client.client_send w.client ≡ r → P (event.client_sends_first w r)
      by (c, None) made = p
      by (c, Some o) made = keep w (client_sends_one c o) tt made p

  -- each event that begins no channel
  pub event_parts_keep : (w : WorldState) (e : Event) → KeepsChannels e → Reached lines starves w → IsOfLines lines e → is_enabled w e ≡ true → P w → P (act starves w e)
  event_parts_keep w (event.issue a) keeps reached said can p = issue_keeps w a reached can p
  event_parts_keep w event.host_send keeps reached said can p = host_send_keeps w p
  event_parts_keep w (event.client_read k) keeps reached said can p =
      let (some, kept) = both (is_read (w.to_client).pipe k) (is_none w.kept) can in
      client_all_keeps (done starves w (client_gets k)) (keep w (client_gets k) tt (some, no_kept w.kept kept) p)
  event_parts_keep w event.client_send keeps reached said can p = client_send_keeps w p
  event_parts_keep w (event.collect device) keeps reached said can p = collect_keeps w device reached can p
  event_parts_keep w (event.host_read k) keeps reached said can p =
      let x : WorldState = done starves w (host_gets k) in
      all_take_keeps (host_handles (most_messages x.to_host) x) (host_handling_keeps (most_messages x.to_host) x (keep w (host_gets k) tt can p))
  event_parts_keep w (event.take_job device hand) keeps reached said can p = take_keeps w device hand (both (is_hand_free w hand) (job_waits w device) can).0 p
  event_parts_keep w (event.apply_job hand) keeps reached said can p = apply_keeps w hand p
  event_parts_keep w (event.remove device) keeps reached said can p =
      let part : Part = removes_one device (station_at w device) in tries_keeps (done starves w part) device (keep w part tt (can, refl) p)
  event_parts_keep w (event.add device) keeps reached said can p = adding (lookup (is_at (nat_cmp device)) w.printers) refl
    where
      adding : (names : Option PrinterNames) → lookup (is_at (nat_cmp device)) w.printers ≡ names
          → P (announced_by (told_added (refreshed_by w device names) device) device (station_at (refreshed_by w device names) device))
      adding None is = keep w (adds_one device None (station_at w device)) tt (can, is, refl) p
      adding (Some names) is = keep w (adds_one device (Some names) (station_at w device)) tt (can, is, refl) p
  event_parts_keep w event.drop_channel keeps reached said can p = all_take_keeps (cutting w) (keep w ends tt can p)
  event_parts_keep w event.connect keeps reached said can p = absurd keeps
  event_parts_keep w (event.tell notice) keeps reached said can p = keep w (tells_one notice) tt (said, can) p
