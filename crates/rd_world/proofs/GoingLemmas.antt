-- A session that goes on only makes its journals longer, keeps its devices, and adds to its recording.
use Rattle.std.proofs.Common.{◌≡◌, ℕ, zero, suc, length, sym, ◌∙◌, ap, subst, refl, ◌++◌, ◌∷◌, [], List, Bool, Some, None, Option, true, false, append-nil, append_assoc}
use Rattle.std.specs.Prelude.{if◌then◌else◌, slice_get, ◌&&◌}
use Rattle.std.specs.List.Sorted.{IsStrictlySortedBy}
use Rattle.std.specs.Map.{keys_of}
use Rattle.std.specs.Ordering.{nat_cmp}
use Rattle.std.specs.Option.{IfSome, option_and_then, option_map_or, unwrap_or}
use Rattle.std.proofs.lemmas.Option.{IfSome_then}
use Rattle.rd_base.specs.declared.journal.Key.{Key}
use Rattle.rd_script.specs.declared.line.Errand.{Errand}
use Rattle.rd_script.specs.declared.line.Errand.TheVariants as errand
use Rattle.rd_script.specs.declared.line.Line.{Line}
use Rattle.rd_script.specs.declared.line.Line.TheVariants as line
use Rattle.rd_script.specs.declared.line.NumberedLine.{NumberedLine}
use Rattle.rd_world.specs.Events as event
use Rattle.rd_world.specs.Events.{Event, act, is_channel_open, is_enabled}
use Rattle.rd_declared.specs.Marks.{AreLonger}
use Rattle.rd_world.specs.Recording.{recording_of_deeds}
use Rattle.rd_world.specs.Run as run
use Rattle.rd_world.specs.Run.{Most, NextStep, all_client_sends, all_host_sends, asked_by, by_event, choices, chosen, client_reads_all, connects_on, controls, does, drawing, drawn_count, ends_session, event_of, host_count, host_reads_all, idles, is_quiet, notice_of, picked, plays, plays_line, queueing, rounds, settled, settles_by, some_left, when_enabled, while_enabled}
use Rattle.rd_world.specs.Step.{recorded_by}
use Rattle.rd_world.specs.Wire.{RecordsOn}
use Rattle.rd_world.specs.World.{Asked, WorldState, journals_in}
use Rattle.rd_world.proofs.GrowingLemmas.{Grows, event_grows, grows_by, grows_not}
use Rattle.rd_world.proofs.RecordedLemmas.{event_recorded}

-- ---- worlds

-- the recording of the third goes on from that of the first
pub goes_on_then : (w x y : WorldState) → RecordsOn w x → RecordsOn x y → RecordsOn w y
goes_on_then w x y (more, first) (yet_more, second) =
    (more ++ yet_more, second ∙ ap (λ (bytes : List ℕ). bytes ++ yet_more) first ∙ append_assoc (recording_of_deeds w.deeds) more yet_more)

-- what was done tells as much
pub goes_on_same : (w x : WorldState) → recording_of_deeds x.deeds ≡ recording_of_deeds w.deeds → RecordsOn w x
goes_on_same w x same = ([], same ∙ sym (append-nil (recording_of_deeds w.deeds)))

-- The second world's journals only became longer, if the ids of the first rise, and its recording goes on from that of the first.
pub record Goes (w x : WorldState) : Type 0 where
  pub grows : Grows w x
  pub recording : RecordsOn w x

pub goes_longer : (w x : WorldState) → Goes w x → IsStrictlySortedBy nat_cmp (keys_of w.stations) → AreLonger (journals_in w) (journals_in x)
goes_longer w x goes = (goes.grows).longer

-- a world with the same stations, in which nothing more was done
goes_not : {w x : WorldState} → x.stations ≡ w.stations → x.deeds ≡ w.deeds → Goes w x
goes_not {w} {x} same quiet = record { grows = grows_not same; recording = goes_on_same w x (ap recording_of_deeds quiet) }

-- by way of a third
goes_by : {w y : WorldState} (x : WorldState) → Goes w x → Goes x y → Goes w y
goes_by {w} {y} x before after =
    record { grows = grows_by x before.grows after.grows; recording = goes_on_then w x y before.recording after.recording }

goes_option : {X : Type 0} (w : WorldState) (f : X → WorldState) (o : Option X) → ((x : X) → o ≡ Some x → Goes w (f x)) → Goes w (option_map_or f o w)
goes_option w f None goes = goes_not refl refl
goes_option w f (Some x) goes = goes x refl

pub event_goes : (starves : Key → Bool) (w : WorldState) (e : Event) → Goes w (act starves w e)
event_goes starves w e = record { grows = event_grows starves w e; recording = (recorded_by w e, event_recorded starves w e) }

-- ---- a session's run

module _ (starves : Key → Bool) where
  pub chosen_goes : (w : WorldState) (c : NextStep) → Goes w (chosen starves w c)
  chosen_goes w (run.event e) = event_goes starves w e
  chosen_goes w run.reads_client =
      let x : WorldState = drawing w in
      goes_by x (goes_not refl refl) (event_goes starves x (event.client_read (drawn_count x (x.to_client).pipe)))
  chosen_goes w run.reads_host =
      let x : WorldState = drawing w in
      goes_by x (goes_not refl refl) (event_goes starves x (event.host_read (drawn_count x (x.to_host).pipe)))

  pub while_enabled_goes : (most : ℕ) (e : Event) (w : WorldState) → Goes w (while_enabled starves most e w)
  while_enabled_goes zero e w = goes_not refl refl
  while_enabled_goes (suc most) e w = by (is_enabled w e) (while_enabled_goes most e)
    where
      by : (b : Bool) → ((x : WorldState) → Goes x (while_enabled starves most e x))
          → Goes w (if b then while_enabled starves most e (act starves w e) else w)
      by true grows = goes_by (act starves w e) (event_goes starves w e) (grows (act starves w e))
      by false grows = goes_not refl refl

  pub all_host_sends_goes : (w : WorldState) → Goes w (all_host_sends starves w)
  all_host_sends_goes w = while_enabled_goes (host_count w) event.host_send w

  pub all_client_sends_goes : (w : WorldState) → Goes w (all_client_sends starves w)
  all_client_sends_goes w = while_enabled_goes (length ((w.client).core).outbox) event.client_send w

  pub when_enabled_goes : (e : Event) (w : WorldState) → Goes w (when_enabled starves e w)
  when_enabled_goes e w = by (is_enabled w e)
    where
      by : (b : Bool) → Goes w (if b then act starves w e else w)
      by true = event_goes starves w e
      by false = goes_not refl refl

-- ---- where it comes to a world

-- what comes of a world goes on from it, if anything does
abbrev pub GoesTo : WorldState → Option WorldState → Type 0
GoesTo w o = IfSome o (Goes w)

pub gone_to : (w : WorldState) (o : Option WorldState) (x : WorldState) → GoesTo w o → o ≡ Some x → Goes w x
gone_to w o x grows is = subst (GoesTo w) is grows

gone_on : (w x : WorldState) (o : Option WorldState) → Goes w x → GoesTo x o → GoesTo w o
gone_on w x o before after = IfSome_then o after (λ (y : WorldState) grows. goes_by x before grows)

goes_then : (w : WorldState) (on : WorldState → Option WorldState) (o : Option WorldState) → ((x : WorldState) → GoesTo x (on x)) → GoesTo w o
    → GoesTo w (option_and_then on o)
goes_then w on None grows before = tt
goes_then w on (Some x) grows before = gone_on w x (on x) before (grows x)

module _ (starves : Key → Bool) where
  settles_by_goes : (w : WorldState) (cs : List NextStep) (on : WorldState → Option WorldState) → ((x : WorldState) → GoesTo x (on x))
      → GoesTo w (settles_by starves w cs on)
  settles_by_goes w [] on grows = goes_not refl refl
  settles_by_goes w (c ∷ cs) on grows =
      let x : WorldState = drawing w in
      let next : NextStep = unwrap_or (slice_get (c ∷ cs) (picked x.draws (length (c ∷ cs)))) c in
      let after : WorldState = chosen starves x next in
      gone_on w after (on after) (goes_by x (goes_not refl refl) (chosen_goes starves x next)) (grows after)

  pub settled_goes : (most : ℕ) (w : WorldState) → GoesTo w (settled starves most w)
  settled_goes zero w = tt
  settled_goes (suc most) w = settles_by_goes w (choices w) (settled starves most) (settled_goes most)

  pub rounds_go : (most : ℕ) (w : WorldState) → GoesTo w (rounds starves most w)
  rounds_go zero w = tt
  rounds_go (suc most) w = by (is_quiet w) (rounds_go most)
    where
      sent : WorldState
      sent = all_host_sends starves w

      answered : WorldState
      answered = all_client_sends starves sent

      read : WorldState
      read = client_reads_all starves answered

      heard_back : WorldState
      heard_back = host_reads_all starves read

      round_goes : Goes w heard_back
      round_goes =
          goes_by sent (all_host_sends_goes starves w)
          (goes_by answered (all_client_sends_goes starves sent)
          (goes_by read (when_enabled_goes starves (event.client_read (length (answered.to_client).pipe)) answered)
          (when_enabled_goes starves (event.host_read (length (read.to_host).pipe)) read)))

      by : (b : Bool) → ((x : WorldState) → GoesTo x (rounds starves most x)) → GoesTo w (if b then Some w else rounds starves most heard_back)
      by true grows = goes_not refl refl
      by false grows = gone_on w heard_back (rounds starves most heard_back) round_goes (grows heard_back)

module _ (starves : Key → Bool) (most : Most) where
  pub does_goes : (w : WorldState) (e : Errand) → Goes w (does starves most w e)
  does_goes w errand.Send = all_host_sends_goes starves w
  does_goes w errand.Answer = all_client_sends_goes starves w
  does_goes w e = event_goes starves w (event_of w e)

  pub by_event_goes : (w : WorldState) (number : ℕ) (e : Event) → Goes w (by_event starves most w number e)
  by_event_goes w number e = by (is_enabled w e)
    where
      by : (b : Bool) → Goes w (if b then act starves w e else idles w number)
      by true = event_goes starves w e
      by false = goes_not refl refl

  pub connects_on_goes : (w : WorldState) → GoesTo w (connects_on starves most w)
  connects_on_goes w =
      let begun : WorldState = act starves w event.connect in
      gone_on w begun (rounds starves most.rounds begun) (event_goes starves w event.connect) (rounds_go starves most.rounds begun)

  pub controls_goes : (w : WorldState) (number : ℕ) (l : Line) → GoesTo w (controls starves most w number l)
  unfolding controls
  controls_goes w number line.Settle = settled_goes starves most.draws w
  controls_goes w number (line.Remove device) = by_event_goes w number (event.remove device)
  controls_goes w number (line.Add device) = by_event_goes w number (event.add device)
  controls_goes w number line.Drop = by_event_goes w number event.drop_channel
  controls_goes w number line.Connect = by (is_enabled w event.connect)
    where
      by : (b : Bool) → GoesTo w (if b then connects_on starves most w else Some (idles w number))
      by true = connects_on_goes w
      by false = goes_not refl refl
  controls_goes w number (line.Do e) = by (is_enabled w (event_of w e))
    where
      by : (b : Bool) → Goes w (if b then does starves most w e else idles w number)
      by true = does_goes w e
      by false = goes_not refl refl
  controls_goes w number l =
      goes_option w (λ n. by_event starves most w number (event.tell n)) (notice_of l) (λ n is. by_event_goes w number (event.tell n))

  pub plays_line_goes : (w : WorldState) (l : NumberedLine) → GoesTo w (plays_line starves most w l)
  plays_line_goes w l = by (asked_by l.line)
    where
      by : (o : Option (ℕ × Asked)) → GoesTo w (option_map_or (λ (asked : ℕ × Asked). Some (queueing w asked.0)) o (controls starves most w l.number l.line))
      by None = controls_goes w l.number l.line
      by (Some asked) = goes_not refl refl

  pub plays_goes : (ls : List NumberedLine) (w : WorldState) → GoesTo w (plays starves most ls w)
  plays_goes [] w = goes_not refl refl
  plays_goes (l ∷ ls) w = goes_then w (plays starves most ls) (plays_line starves most w l) (plays_goes ls) (plays_line_goes w l)

  pub ends_session_goes : (w : WorldState) → GoesTo w (ends_session starves most w)
  ends_session_goes w = by (is_channel_open w && some_left w)
    where
      cut : WorldState
      cut = act starves w event.drop_channel

      by : (b : Bool) → GoesTo w (if b then settled starves most.draws cut else Some w)
      by true = gone_on w cut (settled starves most.draws cut) (event_goes starves w event.drop_channel) (settled_goes starves most.draws cut)
      by false = goes_not refl refl
