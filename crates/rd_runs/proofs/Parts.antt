-- What passes in a session, part by part: each move is a list of parts, and what comes of a part computes from what it carries.
use Rattle.std.proofs.Common.{◌≡◌, refl, sym, ap, subst, ℕ, zero, suc, ◌+◌, ◌≤◌, ◌==◌, Bool, true, false, not, List, [], ◌∷◌, ◌++◌, length, map, fold, arith, Some, None, Option, Result, Ok, Err}
use Rattle.std.specs.Prelude.{if◌then◌else◌, is_none, is_some}
use Rattle.std.specs.Map.{lookup}
use Rattle.std.specs.Ordering.{nat_cmp}
use Rattle.std.specs.BTreeMap.{is_at}
use Rattle.std.specs.Option.{option_and_then, option_map_or}
use Rattle.rd_base.specs.declared.journal.Key.{Key}
use Rattle.rd_client.specs.Core as client
use Rattle.rd_client.specs.Core.{ClientCoreState, Outgoing}
use Rattle.rd_drive.specs.declared.plan.Job.{Job}
use Rattle.rd_pending.specs.declared.calls.SubmitNo.{SubmitNo}
use Rattle.rd_pending.specs.declared.calls.Taken.{Taken}
use Rattle.rd_pending.specs.declared.calls.TakeNo.{TakeNo}
use Rattle.rd_pending.specs.declared.calls.Target.{Target}
use Rattle.rd_pending.specs.Table as table
use Rattle.rd_pending.specs.Table.{TableState}
use Rattle.rd_printer.specs.declared.notice.Notice.{Notice}
use Rattle.rd_script.specs.declared.line.NumberedLine.{NumberedLine}
use Rattle.rd_script.specs.declared.outcome.Outcome.TheVariants as outcome
use Rattle.rd_script.specs.declared.outcome.Refusal.{Refusal}
use Rattle.rd_script.specs.declared.outcome.Refusal.TheVariants as refusal
use Rattle.rd_station.specs.declared.answers.Completion.{Completion}
use Rattle.rd_station.specs.declared.answers.Given.{Given}
use Rattle.rd_station.specs.declared.answers.Given.TheVariants as given
use Rattle.rd_station.specs.Station as station
use Rattle.rd_station.specs.Station.{StationState}
use Rattle.rd_runs.specs.Moves.{IsOfLines, MayPass, RunMove, Reached, ReachedWithin, draws, event_weight, happens, idle, after_move, queues, weight}
use Rattle.rd_runs.proofs.Reaching.{both, by_counted_moves}
use Rattle.rd_declared.specs.declared.device.SessionDevice.{SessionDevice}
use Rattle.rd_declared.specs.Devices.{PrinterNames, device_cut, printer_data}
use Rattle.rd_world.specs.Events as event
use Rattle.rd_world.specs.Events.{Event, act, applies_at, asks, client_has_message, collects_from, comes_of_asking, completion_message, connects, cutting, deed_on, hand_at, has_completion, host_has_message, is_channel_open, is_enabled, is_hand_free, is_read, is_ready, issues, issues_next, job_waits, may_issue, refusal_of, target_of, takes_job_from, telling_of, with_hand}
use Rattle.rd_world.specs.Hearing.{client_handles, client_handles_all, client_handles_first, client_hears, ends_line, given_handle, host_handles, host_handles_first, host_hears, next_asked, putting, reported_outcome, takes_awaited, takes_from, takes_outcome, all_take, tries, tries_kept, with_client, with_outcome}
use Rattle.rd_deeds.specs.Host.{next_message, side_sends}
use Rattle.rd_world.specs.Run.{drawing, idles, queueing, world_of}
use Rattle.rd_deeds.specs.Talk.{EachAfter, adds, completes, removes, submits, takes}
use Rattle.rd_world.specs.World.{ApplicationState, Asked, Kept, WorldState, application_at, client_sends, first_message, handling_by, having_read, host_sends, most_messages, station_at, with_application, with_deed, with_station, with_table}

-- What passes at once. Of an application: a request is accepted, a line refused, an outcome taken. Of the host: it sends, gets bytes, keeps them as a part
-- of a message, hears a message; it tells of a printer, begins a channel and ends one. Of the client: it sends what is its own, gets bytes, keeps them, hears a
-- message, tries a job that was kept back, sends a completion; a job goes into a hand and is run; a device is removed and added. And what is no event.
pub data Part : Type 0 where
  accepts : ℕ → Asked → Target → TableState → ℕ → Part
  refuses : ℕ → Asked → Refusal → Part
  hands_out : ℕ → ℕ → TableState → Taken → Option Asked → Part
  host_sends_one : List ℕ → Part
  host_gets : ℕ → Part
  host_keeps_part : Part
  host_hears_one : List ℕ → List ℕ → Part
  tells_one : Notice → Part
  begins ends : Part
  client_sends_one : ClientCoreState → Outgoing → Part
  client_gets : ℕ → Part
  client_keeps_part : Part
  client_hears_one : List ℕ → List ℕ → Part
  tries_one : Kept → Part
  collects_one : ℕ → StationState SessionDevice → StationState SessionDevice → Completion → Part
  takes_one : ℕ → ℕ → StationState SessionDevice → StationState SessionDevice → Job → Part
  applies_one : ℕ → ℕ → Job → Option (StationState SessionDevice) → Part
  removes_one : ℕ → Option (StationState SessionDevice) → Part
  adds_one : ℕ → Option PrinterNames → Option (StationState SessionDevice) → Part
  queues_one idle_one : ℕ → Part
  draws_one : Part

-- ---- what comes of it

-- the data of a device's announcement, where it is a printer's
abbrev pub refreshed_by : WorldState → ℕ → Option PrinterNames → WorldState
refreshed_by w device names = option_map_or (λ (n : PrinterNames). with_client w (client.refresh w.client device (printer_data w.cache n))) names w

-- the host is told of a device that has this station
abbrev pub announced_by : WorldState → ℕ → Option (StationState SessionDevice) → WorldState
announced_by w device o = option_map_or (λ (s : StationState SessionDevice). with_station w device (station.announce s).0) o w

-- a device that has this station is cut off
abbrev pub cut_by : WorldState → ℕ → Option (StationState SessionDevice) → WorldState
cut_by w device o = option_map_or (λ (s : StationState SessionDevice). with_station w device (station.remove s (device_cut s.device).state).0) o w

abbrev pub told_removed : WorldState → ℕ → WorldState
told_removed w device = with_deed (with_client w (client.tell_removed w.client device)) (removes device)

abbrev pub told_added : WorldState → ℕ → WorldState
told_added w device = with_deed (with_client w (client.tell_added w.client device)) (adds device)

-- the outcome of a line that asked for this
abbrev pub ended_by : WorldState → ℕ → Taken → Option Asked → WorldState
ended_by w a taken next =
    option_map_or (λ asked. with_application w a (with_outcome (application_at w a) (reported_outcome taken.outcome) (given_handle taken) asked)) next w

module _ (starves : Key → Bool) where
  abbrev pub done : WorldState → Part → WorldState
  done w (accepts a asked named t number) =
      let application = application_at w a in
      with_application (with_deed (with_table w t) (submits a named asked.op)) a (record application { awaits = Some number })
  done w (refuses a asked cause) = with_application w a (with_outcome (application_at w a) (outcome.Refused cause) None asked)
  done w (hands_out a number t taken next) = ended_by (with_deed (with_table w t) (takes number)) a taken next
  done w (host_sends_one message) = host_sends (record w { side = side_sends w.side }) message
  done w (host_gets n) = record w { to_host = having_read n w.to_host }
  done w host_keeps_part = record w { to_host = (handling_by w.to_host None).0 }
  done w (host_hears_one message rest) = host_hears (record w { to_host = (handling_by w.to_host (Some (message, rest))).0 }) message
  done w (tells_one n) = telling_of w n
  done w begins = connects w
  done w ends = cutting w
  done w (client_sends_one c o) = client_sends (with_client w c) (deed_on w.channels o) o.message
  done w (client_gets n) = record w { to_client = having_read n w.to_client }
  done w client_keeps_part = record w { to_client = (handling_by w.to_client None).0 }
  done w (client_hears_one message rest) = client_hears (record w { to_client = (handling_by w.to_client (Some (message, rest))).0 }) message
  done w (tries_one k) = putting (record w { kept = None }) k.device k.job
  done w (collects_one device s after c) =
      let bytes = completion_message device c in client_sends (with_station w device after) (completes c.key bytes) bytes
  done w (takes_one device hand s after job) = with_hand (with_station w device after) hand (Some (device, job))
  done w (applies_one hand device job o) = applies_at starves w hand device job o
  done w (removes_one device o) = cut_by (told_removed w device) device o
  done w (adds_one device names o) = announced_by (told_added (refreshed_by w device names) device) device o
  done w (queues_one a) = queueing w a
  done w (idle_one number) = idles w number
  done w draws_one = drawing w

-- ---- when it may pass

-- why a line is refused
abbrev pub IsRefused : WorldState → ℕ → Asked → Refusal → Option Target → Type 0
IsRefused w a asked cause None = cause ≡ refusal.NoHandle
IsRefused w a asked cause (Some named) =
    (t : TableState) × (why : SubmitNo) × (table.submit (w.side).table a named asked.op ≡ (t, Err why)) × (cause ≡ refusal_of why)

-- A request is accepted, and a completion collected, in a world between two moves.
abbrev pub MayBe : List NumberedLine → (Key → Bool) → WorldState → Part → Type 0
MayBe lines starves w (accepts a asked named t number) =
    Reached lines starves w × (may_issue (application_at w a) ≡ true) × (next_asked (application_at w a) ≡ Some asked) × (target_of (application_at w a) asked ≡ Some named)
    × (table.submit (w.side).table a named asked.op ≡ (t, Ok number))
MayBe lines starves w (refuses a asked cause) =
    (may_issue (application_at w a) ≡ true) × (next_asked (application_at w a) ≡ Some asked) × IsRefused w a asked cause (target_of (application_at w a) asked)
MayBe lines starves w (hands_out a number t taken next) =
    ((application_at w a).awaits ≡ Some number) × (next_asked (application_at w a) ≡ next) × (table.take (w.side).table number ≡ (t, Ok taken))
MayBe lines starves w (host_sends_one message) = next_message w.side ≡ Some message
MayBe lines starves w (host_gets n) = is_read (w.to_host).pipe n ≡ true
MayBe lines starves w host_keeps_part = first_message ((w.to_host).part ++ (w.to_host).unhandled) ≡ None
MayBe lines starves w (host_hears_one message rest) = first_message ((w.to_host).part ++ (w.to_host).unhandled) ≡ Some (message, rest)
MayBe lines starves w (tells_one n) = IsOfLines lines (event.tell n) × (is_enabled w (event.tell n) ≡ true)
MayBe lines starves w begins = is_enabled w event.connect ≡ true
MayBe lines starves w ends = is_channel_open w ≡ true
MayBe lines starves w (client_sends_one c o) = client.client_send w.client ≡ (c, Some o)
MayBe lines starves w (client_gets n) = (is_read (w.to_client).pipe n ≡ true) × (w.kept ≡ None)
MayBe lines starves w client_keeps_part = (w.kept ≡ None) × (first_message ((w.to_client).part ++ (w.to_client).unhandled) ≡ None)
MayBe lines starves w (client_hears_one message rest) = (w.kept ≡ None) × (first_message ((w.to_client).part ++ (w.to_client).unhandled) ≡ Some (message, rest))
MayBe lines starves w (tries_one k) = w.kept ≡ Some k
MayBe lines starves w (collects_one device s after c) =
    Reached lines starves w × (client_has_message w ≡ false) × (station_at w device ≡ Some s) × (station.collect s ≡ (after, Some c))
MayBe lines starves w (takes_one device hand s after job) = (is_hand_free w hand ≡ true) × (station_at w device ≡ Some s) × (station.take s ≡ (after, given.Job job))
MayBe lines starves w (applies_one hand device job o) = (hand_at w hand ≡ Some (Some (device, job))) × (station_at w device ≡ o)
MayBe lines starves w (removes_one device o) = (is_enabled w (event.remove device) ≡ true) × (station_at w device ≡ o)
MayBe lines starves w (adds_one device names o) =
    (is_enabled w (event.add device) ≡ true) × (lookup (is_at (nat_cmp device)) w.printers ≡ names) × (station_at w device ≡ o)
MayBe lines starves w (queues_one a) = MayPass lines w (queues a)
MayBe lines starves w (idle_one number) = Unit {0}
MayBe lines starves w draws_one = Unit {0}

-- ---- moves by parts

-- how many of a script's lines it stands for, at most: what is no line's happens by itself
abbrev pub part_weight : Part → ℕ
part_weight (tells_one n) = 1
part_weight begins = 1
part_weight ends = 1
part_weight (removes_one device o) = 1
part_weight (adds_one device names o) = 1
part_weight (queues_one a) = 1
part_weight (idle_one number) = 1
part_weight p = 0

abbrev pub parts_weight : List Part → ℕ
parts_weight [] = 0
parts_weight (p ∷ before) = part_weight p + parts_weight before

none_of : (o : Option Kept) → is_some o ≡ false → o ≡ None
none_of None e = refl
none_of (Some k) e = absurd (cc)

is_off : (b : Bool) → not b ≡ true → b ≡ false
is_off false e = refl
is_off true e = absurd (cc)

-- whether an application's line is issued
abbrev pub is_issue : Part → Bool
is_issue (accepts a asked named t number) = true
is_issue (refuses a asked cause) = true
is_issue p = false

-- What is kept by each part of some kind, to which all belong that happen by themselves and issue no line.
module _ (lines : List NumberedLine) (starves : Key → Bool) (P : WorldState → Type 0) (Kind : Part → Type 0)
    (kinds : (p : Part) → part_weight p ≡ 0 → is_issue p ≡ false → Kind p)
    (keep : (w : WorldState) (p : Part) → Kind p → MayBe lines starves w p → P w → P (done starves w p)) where
  -- ---- applications

  refused_keeps : ((p : Part) → is_issue p ≡ true → Kind p) → (w : WorldState) (a : ℕ) (asked : Asked) (cause : Refusal) → may_issue (application_at w a) ≡ true → next_asked (application_at w a) ≡ Some asked
      → IsRefused w a asked cause (target_of (application_at w a) asked) → P w → P (ends_line w a (outcome.Refused cause) None)
  refused_keeps issues w a asked cause may next refused p =
      subst (λ (o : Option Asked). P (option_map_or (λ asked. with_application w a (with_outcome (application_at w a) (outcome.Refused cause) None asked)) o w)) (sym next)
      (keep w (refuses a asked cause) (issues (refuses a asked cause) refl) (may, next, refused) p)

  asked_keeps : ((p : Part) → is_issue p ≡ true → Kind p) → (w : WorldState) (a : ℕ) (asked : Asked) → Reached lines starves w → may_issue (application_at w a) ≡ true → next_asked (application_at w a) ≡ Some asked → P w
      → (o : Option Target) → target_of (application_at w a) asked ≡ o → P (asks w a asked.op o)
  asked_keeps issues w a asked reached may next p None target = refused_keeps issues w a asked refusal.NoHandle may next (subst (IsRefused w a asked refusal.NoHandle) (sym target) refl) p
  asked_keeps issues w a asked reached may next p (Some named) target = by (table.submit (w.side).table a named asked.op) refl
    where
      by : (r : TableState × Result ℕ SubmitNo) → table.submit (w.side).table a named asked.op ≡ r → P (comes_of_asking w a asked.op named r)
      by (t, Ok number) made = keep w (accepts a asked named t number) (issues (accepts a asked named t number) refl) (reached, may, next, target, made) p
      by (t, Err cause) made = refused_keeps issues w a asked (refusal_of cause) may next (subst (IsRefused w a asked (refusal_of cause)) (sym target) (t, cause, made, refl)) p

  issue_keeps : ((p : Part) → is_issue p ≡ true → Kind p) → (w : WorldState) (a : ℕ) → Reached lines starves w → may_issue (application_at w a) ≡ true → P w → P (issues w a)
  issue_keeps issues w a reached may p = by (next_asked (application_at w a)) refl
    where
      by : (o : Option Asked) → next_asked (application_at w a) ≡ o → P (issues_next w a o)
      by None next = p
      by (Some asked) next = asked_keeps issues w a asked reached may next p (target_of (application_at w a) asked) refl

  outcome_keeps : (w : WorldState) (a : ℕ) → P w → P (takes_outcome w a)
  outcome_keeps w a p = by (application_at w a).awaits refl
    where
      from : (number : ℕ) → (application_at w a).awaits ≡ Some number → (r : TableState × Result Taken TakeNo) → table.take (w.side).table number ≡ r → P (takes_from w a number r)
      from number waits (t, Err cause) made = p
      from number waits (t, Ok taken) made = keep w (hands_out a number t taken (next_asked (application_at w a))) (kinds (hands_out a number t taken (next_asked (application_at w a))) refl refl) (waits, refl, made) p

      by : (o : Option ℕ) → (application_at w a).awaits ≡ o → P (takes_awaited w a o)
      by None waits = p
      by (Some number) waits = from number waits (table.take (w.side).table number) refl

  outcomes_keep : (applications : List ℕ) (w : WorldState) → P w → P (fold takes_outcome w applications)
  outcomes_keep [] w p = p
  outcomes_keep (a ∷ applications) w p = outcomes_keep applications (takes_outcome w a) (outcome_keeps w a p)

  pub all_take_keeps : (w : WorldState) → P w → P (all_take w)
  all_take_keeps w p = outcomes_keep (map (λ (e : ℕ × ApplicationState). e.0) w.applications) w p

  -- ---- what comes is handled

  client_handling_keeps : (most : ℕ) (w : WorldState) → P w → P (client_handles most w)
  client_handling_keeps zero w p = p
  client_handling_keeps (suc most) w p = by (is_some w.kept) refl (client_handling_keeps most)
    where
      first : w.kept ≡ None → ((x : WorldState) → P x → P (client_handles most x)) → (o : Option (List ℕ × List ℕ))
          → first_message ((w.to_client).part ++ (w.to_client).unhandled) ≡ o → P (client_handles_first w (handling_by w.to_client o) (client_handles most))
      first kept next None is = keep w client_keeps_part (kinds client_keeps_part refl refl) (kept, is) p
      first kept next (Some (message, rest)) is =
          next (done starves w (client_hears_one message rest)) (keep w (client_hears_one message rest) (kinds (client_hears_one message rest) refl refl) (kept, is) p)

      by : (b : Bool) → is_some w.kept ≡ b → ((x : WorldState) → P x → P (client_handles most x))
          → P (if b then w else client_handles_first w (handling_by w.to_client (first_message ((w.to_client).part ++ (w.to_client).unhandled))) (client_handles most))
      by true kept next = p
      by false kept next = first (none_of w.kept kept) next (first_message ((w.to_client).part ++ (w.to_client).unhandled)) refl

  pub client_all_keeps : (w : WorldState) → P w → P (client_handles_all w)
  client_all_keeps w p = client_handling_keeps (most_messages w.to_client) w p

  pub tries_keeps : (w : WorldState) (device : ℕ) → P w → P (tries_kept w device)
  tries_keeps w device p = by w.kept refl
    where
      by : (o : Option Kept) → w.kept ≡ o → P (tries w device o)
      by None kept = p
      by (Some k) kept = when (k.device == device)
        where
          when : (b : Bool) → P (if b then client_handles_all (putting (record w { kept = None }) k.device k.job) else w)
          when true = client_all_keeps (done starves w (tries_one k)) (keep w (tries_one k) (kinds (tries_one k) refl refl) kept p)
          when false = p

  pub host_handling_keeps : (most : ℕ) (w : WorldState) → P w → P (host_handles most w)
  host_handling_keeps zero w p = p
  host_handling_keeps (suc most) w p = by (first_message ((w.to_host).part ++ (w.to_host).unhandled)) refl (host_handling_keeps most)
    where
      by : (o : Option (List ℕ × List ℕ)) → first_message ((w.to_host).part ++ (w.to_host).unhandled) ≡ o → ((x : WorldState) → P x → P (host_handles most x))
          → P (host_handles_first w (handling_by w.to_host o) (host_handles most))
      by None is next = keep w host_keeps_part (kinds host_keeps_part refl refl) is p
      by (Some (message, rest)) is next = next (done starves w (host_hears_one message rest)) (keep w (host_hears_one message rest) (kinds (host_hears_one message rest) refl refl) is p)

  -- ---- events

  collect_keeps : (w : WorldState) (device : ℕ) → Reached lines starves w → is_enabled w (event.collect device) ≡ true → P w → P (event.collects w device)
  collect_keeps w device reached can p = by (station_at w device) refl
    where
      idle : client_has_message w ≡ false
      idle = is_off (client_has_message w) (both (not (client_has_message w)) (has_completion w device) can).0

      from : (s : StationState SessionDevice) → station_at w device ≡ Some s → (r : StationState SessionDevice × Option Completion) → station.collect s ≡ r
          → P (collects_from w device r)
      from s there (after, None) made = p
      from s there (after, Some c) made =
          tries_keeps (done starves w (collects_one device s after c)) device (keep w (collects_one device s after c) (kinds (collects_one device s after c) refl refl) (reached, idle, there, made) p)

      by : (o : Option (StationState SessionDevice)) → station_at w device ≡ o → P (option_map_or (λ (s : StationState SessionDevice). collects_from w device (station.collect s)) o w)
      by None there = p
      by (Some s) there = from s there (station.collect s) refl

  take_keeps : (w : WorldState) (device hand : ℕ) → is_hand_free w hand ≡ true → P w → P (event.takes_job w device hand)
  take_keeps w device hand free p = by (station_at w device) refl
    where
      from : (s : StationState SessionDevice) → station_at w device ≡ Some s → (r : StationState SessionDevice × Given) → station.take s ≡ r
          → P (takes_job_from w device hand r)
      from s there (after, given.Job job) made = keep w (takes_one device hand s after job) (kinds (takes_one device hand s after job) refl refl) (free, there, made) p
      from s there (after, given.Nothing) made = p
      from s there (after, given.Over) made = p

      by : (o : Option (StationState SessionDevice)) → station_at w device ≡ o
          → P (option_map_or (λ (s : StationState SessionDevice). takes_job_from w device hand (station.take s)) o w)
      by None there = p
      by (Some s) there = from s there (station.take s) refl

  apply_keeps : (w : WorldState) (hand : ℕ) → P w → P (event.applies_job starves w hand)
  apply_keeps w hand p = by (hand_at w hand) refl
    where
      by : (o : Option (Option (ℕ × Job))) → hand_at w hand ≡ o → P (event.applies_held starves w hand (option_and_then (λ held. held) o))
      by None holds = p
      by (Some None) holds = p
      by (Some (Some (device, job))) holds = keep w (applies_one hand device job (station_at w device)) (kinds (applies_one hand device job (station_at w device)) refl refl) (holds, refl) p

  pub host_send_keeps : (w : WorldState) → P w → P (event.host_sends_next w)
  host_send_keeps w p = by (next_message w.side) refl
    where
      by : (o : Option (List ℕ)) → next_message w.side ≡ o → P (option_map_or (host_sends (record w { side = side_sends w.side })) o w)
      by None next = p
      by (Some message) next = keep w (host_sends_one message) (kinds (host_sends_one message) refl refl) next p

  pub client_send_keeps : (w : WorldState) → P w → P (event.client_sends_next w)
  client_send_keeps w p = by (client.client_send w.client) refl
    where
      by : (r : ClientCoreState × Option Outgoing) → client.client_send w.client ≡ r → P (event.client_sends_first w r)
      by (c, None) made = p
      by (c, Some o) made = keep w (client_sends_one c o) (kinds (client_sends_one c o) refl refl) made p

-- what each part keeps, counting the lines, each move keeps
module _ (lines : List NumberedLine) (starves : Key → Bool) (P : ℕ → WorldState → Type 0)
    (keep : (n : ℕ) (w : WorldState) (p : Part) → MayBe lines starves w p → P n w → P (part_weight p + n) (done starves w p)) where
  abbrev Free : Part → Type 0
  Free p = part_weight p ≡ 0

  -- a line that is issued is counted where it is queued
  all_free : (p : Part) → is_issue p ≡ true → Free p
  all_free (accepts a asked named t number) is = refl
  all_free (refuses a asked cause) is = refl
  all_free p is = absurd cc

  keep_free : (n : ℕ) (w : WorldState) (p : Part) → part_weight p ≡ 0 → MayBe lines starves w p → P n w → P n (done starves w p)
  keep_free n w p free may holds =
      let same : part_weight p + n ≡ n = omega (arith, free) in
      subst (λ (k : ℕ). P k (done starves w p)) same (keep n w p may holds)

  -- no line more
  none_more : (n : ℕ) (w : WorldState) → P n w → P (0 + n) w
  none_more n w p =
      let same : n ≡ 0 + n = omega arith in
      subst (λ (k : ℕ). P k w) same p

  pub event_keeps : (n : ℕ) (w : WorldState) (e : Event) → Reached lines starves w → IsOfLines lines e → is_enabled w e ≡ true → P n w → P (event_weight e + n) (act starves w e)
  event_keeps n w (event.issue a) reached said can p = none_more n _ (issue_keeps lines starves (P n) Free (λ p none no. none) (keep_free n) all_free w a reached can p)
  event_keeps n w event.host_send reached said can p = none_more n _ (host_send_keeps lines starves (P n) Free (λ p none no. none) (keep_free n) w p)
  event_keeps n w (event.client_read k) reached said can p =
      let (some, kept) = both (is_read (w.to_client).pipe k) (is_none w.kept) can in
      none_more n _ (client_all_keeps lines starves (P n) Free (λ p none no. none) (keep_free n) (done starves w (client_gets k)) (keep_free n w (client_gets k) refl (some, no_kept w.kept kept) p))
    where
      no_kept : (o : Option Kept) → is_none o ≡ true → o ≡ None
      no_kept None e = refl
      no_kept (Some k) e = absurd (cc)
  event_keeps n w event.client_send reached said can p = none_more n _ (client_send_keeps lines starves (P n) Free (λ p none no. none) (keep_free n) w p)
  event_keeps n w (event.collect device) reached said can p = none_more n _ (collect_keeps lines starves (P n) Free (λ p none no. none) (keep_free n) w device reached can p)
  event_keeps n w (event.host_read k) reached said can p =
      let x : WorldState = done starves w (host_gets k) in
      none_more n _
      (all_take_keeps lines starves (P n) Free (λ p none no. none) (keep_free n) (host_handles (most_messages x.to_host) x)
      (host_handling_keeps lines starves (P n) Free (λ p none no. none) (keep_free n) (most_messages x.to_host) x (keep_free n w (host_gets k) refl can p)))
  event_keeps n w (event.take_job device hand) reached said can p =
      none_more n _ (take_keeps lines starves (P n) Free (λ p none no. none) (keep_free n) w device hand (both (is_hand_free w hand) (job_waits w device) can).0 p)
  event_keeps n w (event.apply_job hand) reached said can p = none_more n _ (apply_keeps lines starves (P n) Free (λ p none no. none) (keep_free n) w hand p)
  event_keeps n w (event.remove device) reached said can p =
      let part : Part = removes_one device (station_at w device) in
      tries_keeps lines starves (P (1 + n)) Free (λ p none no. none) (keep_free (1 + n)) (done starves w part) device (keep n w part (can, refl) p)
  event_keeps n w (event.add device) reached said can p = adding (lookup (is_at (nat_cmp device)) w.printers) refl
    where
      adding : (names : Option PrinterNames) → lookup (is_at (nat_cmp device)) w.printers ≡ names
          → P (1 + n) (announced_by (told_added (refreshed_by w device names) device) device (station_at (refreshed_by w device names) device))
      adding None is = keep n w (adds_one device None (station_at w device)) (can, is, refl) p
      adding (Some names) is = keep n w (adds_one device (Some names) (station_at w device)) (can, is, refl) p
  event_keeps n w event.drop_channel reached said can p = all_take_keeps lines starves (P (1 + n)) Free (λ p none no. none) (keep_free (1 + n)) (cutting w) (keep n w ends can p)
  event_keeps n w event.connect reached said can p = keep n w begins can p
  event_keeps n w (event.tell notice) reached said can p = keep n w (tells_one notice) (said, can) p

  move_keeps : (n : ℕ) (w : WorldState) (m : RunMove) → Reached lines starves w → MayPass lines w m → P n w → P (weight m + n) (after_move starves w m)
  move_keeps n w (happens e) reached (said, can) p = event_keeps n w e reached said can p
  move_keeps n w (queues a) reached may p = keep n w (queues_one a) may p
  move_keeps n w (idle number) reached may p = keep n w (idle_one number) tt p
  move_keeps n w draws reached may p = keep n w draws_one tt p

-- ---- worlds that are reached by parts

module _ (lines : List NumberedLine) (starves : Key → Bool) where
  abbrev pub after_parts : List Part → WorldState
  after_parts [] = world_of lines
  after_parts (p ∷ before) = done starves (after_parts before) p

  -- a world that is behind parts, of which so many at most are lines'
  pub record IsBehindWithin (most : ℕ) (w : WorldState) : Type 0 where
    pub parts : List Part
    pub may : EachAfter (λ before p. MayBe lines starves (after_parts before) p) parts
    pub few : parts_weight parts ≤ most
    pub leads : w ≡ after_parts parts

  abbrev pub IsBehind : WorldState → Type 0
  IsBehind = IsBehindWithin (length lines + 2)

  pub one_part : (n : ℕ) (w : WorldState) (p : Part) → MayBe lines starves w p → IsBehindWithin n w → IsBehindWithin (part_weight p + n) (done starves w p)
  one_part n w p may b = record {
    parts = p ∷ b.parts;
    may = (subst (λ (x : WorldState). MayBe lines starves x p) b.leads may, b.may);
    few = omega (arith, b.few);
    leads = ap (λ (x : WorldState). done starves x p) b.leads;
  }

  -- each world that is reached behind so many lines is behind parts of as many
  pub within_behind : (n : ℕ) (w : WorldState) → n ≤ length lines + 2 → ReachedWithin n lines starves w → IsBehindWithin n w
  within_behind n w low r =
      let all : Reached lines starves w = record { moves = r.moves; pass = r.pass; few = omega (arith, r.few, low); leads = r.leads } in
      let b = by_counted_moves lines starves IsBehindWithin (record { parts = []; may = tt; few = omega arith; leads = refl })
      (λ k x m steps c. move_keeps lines starves IsBehindWithin one_part k x m steps.0 steps.2 c) w all in
      record { parts = b.parts; may = b.may; few = omega (arith, b.few, r.few); leads = b.leads }

  -- each world that is reached is behind parts
  pub reached_behind : (w : WorldState) → Reached lines starves w → IsBehind w
  reached_behind w r = within_behind (length lines + 2) w (omega arith) r

  -- What holds at the beginning, behind no line, and is kept by each part, of which a line's adds one, holds of each world that is behind parts. What was proved
  -- before of these may be used of the world before a part and of the one after it.
  pub by_counted_parts : (P : ℕ → WorldState → Type 0) → P 0 (world_of lines)
      → ((n : ℕ) (w : WorldState) (p : Part) → IsBehind w → IsBehind (done starves w p) → MayBe lines starves w p → P n w → P (part_weight p + n) (done starves w p))
      → (w : WorldState) (b : IsBehind w) → P (parts_weight b.parts) w
  by_counted_parts P first step w b = subst (P (parts_weight b.parts)) (sym b.leads) (go b.parts b.may b.few)
    where
      go : (parts : List Part) → EachAfter (λ before p. MayBe lines starves (after_parts before) p) parts → parts_weight parts ≤ length lines + 2
          → P (parts_weight parts) (after_parts parts)
      go [] may few = first
      go (p ∷ before) may few =
          let less : parts_weight before ≤ length lines + 2 = omega (arith, few) in
          step (parts_weight before) (after_parts before) p (record { parts = before; may = may.1; few = less; leads = refl })
          (record { parts = p ∷ before; may = may; few = few; leads = refl }) may.0 (go before may.1 less)

  -- the same of what counts no lines
  pub by_parts : (P : WorldState → Type 0) → P (world_of lines)
      → ((w : WorldState) (p : Part) → IsBehind w → IsBehind (done starves w p) → MayBe lines starves w p → P w → P (done starves w p)) → (w : WorldState) → IsBehind w → P w
  by_parts P first step w b = by_counted_parts (λ n. P) first (λ n. step) w b
