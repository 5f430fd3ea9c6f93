-- A session's lines, one after the other, and what comes before and after them.
use Rattle.std.proofs.Common.{◌≡◌, ◌≢◌, ◌<◌, ◌≤◌, ℕ, zero, suc, ◌+◌, List, [], ◌∷◌, ◌++◌, length, get_or, take, take-suc, Bool, true, false, Option, Some, None, refl, sym, ap, ◌∙◌, subst, arith}
use Rattle.std.specs.Prelude.{◌&&◌, fold, map}
use Rattle.std.specs.Option.{option_and_then, option_map, option_map_or}
use Rattle.rd_base.specs.declared.journal.Key.{Key}
use Rattle.rd_printer.specs.declared.notice.Notice.{Notice}
use Rattle.rd_script.specs.declared.line.Errand.{Errand}
use Rattle.rd_script.specs.declared.line.Errand.TheVariants as errand
use Rattle.rd_script.specs.declared.line.Line.{Line}
use Rattle.rd_script.specs.declared.line.Line.TheVariants as line
use Rattle.rd_script.specs.declared.line.NumberedLine.{NumberedLine}
use Rattle.rd_world.specs.Events.{Event, act, add, client_read, connect, drop_channel, drops, host_read, is_channel_open, is_enabled, remove, tell}
use Rattle.rd_declared.specs.Marks.{MarksAgree}
use Rattle.rd_declared.specs.Declaring.{declared_devices}
use Rattle.rd_world.specs.Run.{Most, WorldRun, applications_of, by_event, client_reads_all, connects_on, controls, does, ends_session, event_of, host_reads_all, idles, new_world, plays, plays_line, queueing, rounds, setting, settled, some_left, world_of}
use Rattle.rd_world.specs.Run as run
use Rattle.rd_world.specs.Stations.{AreStations}
use Rattle.rd_world.specs.World.{Asked, WorldState, journals_in, marks_of}
use Rattle.rd_world.proofs.FuelLemmas.{ComesTo, Steady, comes_then, connects_on_more, ends_session_more, kept_then, plays_line_more, plays_more, plays_one_more, settled_more}
use Rattle.rd_world.proofs.GoingLemmas.{ends_session_goes, plays_goes, plays_line_goes, settled_goes}
use Rattle.rd_world.proofs.KeysLemmas.{marks_agree}

-- ---- a line

module _ (starves : Key → Bool) (most : Most) where
  pub queued_line : (w x : WorldState) (l : NumberedLine) (a : ℕ) → Some a ≡ option_map (λ (e : ℕ × Asked). e.0) (run.asked_by l.line) → x ≡ queueing w a
      → plays_line starves most w l ≡ Some x
  queued_line w x l a asks is = by (run.asked_by l.line) asks
    where
      by : (o : Option (ℕ × Asked)) → Some a ≡ option_map (λ (e : ℕ × Asked). e.0) o
          → option_map_or (λ (asked : ℕ × Asked). Some (queueing w asked.0)) o (controls starves most w l.number l.line) ≡ Some x
      by None asks = absurd (cc asks)
      by (Some (b, asked)) asks =
          let same : a ≡ b = cc asks in
          sym (ap Some is ∙ ap (λ (n : ℕ). Some (queueing w n)) same)

  pub control_line : (w : WorldState) (l : NumberedLine) → None ≡ option_map (λ (e : ℕ × Asked). e.0) (run.asked_by l.line)
      → plays_line starves most w l ≡ controls starves most w l.number l.line
  control_line w l asks = by (run.asked_by l.line) asks
    where
      by : (o : Option (ℕ × Asked)) → None ≡ option_map (λ (e : ℕ × Asked). e.0) o
          → option_map_or (λ (asked : ℕ × Asked). Some (queueing w asked.0)) o (controls starves most w l.number l.line) ≡ controls starves most w l.number l.line
      by None asks = refl
      by (Some asked) asks = absurd (cc asks)

module _ (starves : Key → Bool) (most : Most) (w x : WorldState) (number : ℕ) where
  -- what a `do` line asks for is done, or nothing is
  pub did : (e : Errand) → is_enabled w (event_of w e) ≡ true → x ≡ does starves most w e → controls starves most w number (line.Do e) ≡ Some x
  unfolding controls
  did e can is = rw can (ap Some (sym is))

  pub did_nothing : (e : Errand) → is_enabled w (event_of w e) ≡ false → x ≡ idles w number → controls starves most w number (line.Do e) ≡ Some x
  unfolding controls
  did_nothing e can is = rw can (ap Some (sym is))

  pub did_event : (e : Errand) (v : Event) → event_of w e ≡ v → does starves most w e ≡ act starves w v → x ≡ by_event starves most w number v
      → controls starves most w number (line.Do e) ≡ Some x
  unfolding controls
  did_event e v event same is = rw (event, same) (ap Some (sym is))

  pub did_read : is_enabled w (client_read (length (w.to_client).pipe)) ≡ true → x ≡ client_reads_all starves w
      → controls starves most w number (line.Do errand.Read) ≡ Some x
  did_read can is = did errand.Read can (is ∙ rw can refl)

  pub did_back : is_enabled w (host_read (length (w.to_host).pipe)) ≡ true → x ≡ host_reads_all starves w
      → controls starves most w number (line.Do errand.Back) ≡ Some x
  did_back can is = did errand.Back can (is ∙ rw can refl)

  pub connected_not : is_enabled w connect ≡ false → x ≡ idles w number → controls starves most w number line.Connect ≡ Some x
  unfolding controls
  connected_not can is = rw can (ap Some (sym is))

-- so many rounds do, whatever the draws
pub begins_on : (w x : WorldState) → ((most : ℕ) × ((starves : Key → Bool) → rounds starves most (act starves w connect) ≡ Some x))
    → (most : Most) × ((starves : Key → Bool) → connects_on starves most w ≡ Some x)
begins_on w x (most, is) = (record { draws = 0; rounds = most }, is)

-- ---- control lines

-- what is told of a printer is an event
pub noticed : (starves : Key → Bool) (most : Most) (w x : WorldState) (number : ℕ) (n : Notice) (o : Option Notice) → o ≡ Some n
    → x ≡ by_event starves most w number (tell n) → x ≡ option_map_or (λ m. by_event starves most w number (tell m)) o w
noticed starves most w x number n o is told = told ∙ rw is refl

-- any other line may tell of a printer
other_line : (starves : Key → Bool) (most : Most) (w : WorldState) (number : ℕ) (l : Line) → l ≢ line.Settle → ((device : ℕ) → l ≢ line.Remove device)
    → ((device : ℕ) → l ≢ line.Add device) → l ≢ line.Drop → l ≢ line.Connect → ((e : Errand) → l ≢ line.Do e)
    → controls starves most w number l ≡ Some (option_map_or (λ n. by_event starves most w number (tell n)) (run.notice_of l) w)
unfolding controls
other_line starves most w number line.Settle a b c d e f = absurd (a refl)
other_line starves most w number (line.Remove device) a b c d e f = absurd (b device refl)
other_line starves most w number (line.Add device) a b c d e f = absurd (c device refl)
other_line starves most w number line.Drop a b c d e f = absurd (d refl)
other_line starves most w number line.Connect a b c d e f = absurd (e refl)
other_line starves most w number (line.Do errand) a b c d e f = absurd (f errand refl)
other_line starves most w number l a b c d e f = refl

-- so many steps come to what a line does, where runs find no memory as its journals say
abbrev pub DoesLine : ((Key → Bool) → Most → Option WorldState) → WorldState → Type 0
DoesLine f x = (most : Most) × ((starves : Key → Bool) → MarksAgree starves (journals_in x) → f starves most ≡ Some x)

module _ (w x : WorldState) (number : ℕ) (l : Line) where
  pub settles_line : l ≡ line.Settle → ((most : ℕ) × ((starves : Key → Bool) → MarksAgree starves (journals_in x) → settled starves most w ≡ Some x))
      → DoesLine (λ starves most. controls starves most w number l) x
  unfolding controls
  settles_line is (most, comes) = (
    record { draws = most; rounds = 0 },
    λ starves agrees. ap (controls starves (record { draws = most; rounds = 0 }) w number) is ∙ comes starves agrees,
  )

  pub event_line : (v : Event) → ((starves : Key → Bool) (most : Most) → controls starves most w number l ≡ Some (by_event starves most w number v))
      → ((starves : Key → Bool) (most : Most) → MarksAgree starves (journals_in x) → x ≡ by_event starves most w number v)
      → DoesLine (λ starves most. controls starves most w number l) x
  event_line v is comes =
      let some : Most = record { draws = 0; rounds = 0 } in
      (some, λ starves agrees. is starves some ∙ ap Some (sym (comes starves some agrees)))

  pub removes_line : (device : ℕ) → l ≡ line.Remove device
      → ((starves : Key → Bool) (most : Most) → MarksAgree starves (journals_in x) → x ≡ by_event starves most w number (remove device))
      → DoesLine (λ starves most. controls starves most w number l) x
  unfolding controls
  removes_line device is = event_line (remove device) (λ starves most. ap (controls starves most w number) is)

  pub adds_line : (device : ℕ) → l ≡ line.Add device
      → ((starves : Key → Bool) (most : Most) → MarksAgree starves (journals_in x) → x ≡ by_event starves most w number (add device))
      → DoesLine (λ starves most. controls starves most w number l) x
  unfolding controls
  adds_line device is = event_line (add device) (λ starves most. ap (controls starves most w number) is)

  pub drops_line : l ≡ line.Drop
      → ((starves : Key → Bool) (most : Most) → MarksAgree starves (journals_in x) → x ≡ by_event starves most w number drop_channel)
      → DoesLine (λ starves most. controls starves most w number l) x
  unfolding controls
  drops_line is = event_line drop_channel (λ starves most. ap (controls starves most w number) is)

  pub errand_line : (e : Errand) → l ≡ line.Do e
      → ((starves : Key → Bool) (most : Most) → MarksAgree starves (journals_in x) → controls starves most w number (line.Do e) ≡ Some x)
      → DoesLine (λ starves most. controls starves most w number l) x
  errand_line e is comes =
      let some : Most = record { draws = 0; rounds = 0 } in
      (some, λ starves agrees. ap (controls starves some w number) is ∙ comes starves some agrees)

  pub told_line : l ≢ line.Settle → ((device : ℕ) → l ≢ line.Remove device) → ((device : ℕ) → l ≢ line.Add device) → l ≢ line.Drop → l ≢ line.Connect
      → ((e : Errand) → l ≢ line.Do e)
      → ((starves : Key → Bool) (most : Most) → MarksAgree starves (journals_in x) → x ≡ option_map_or (λ n. by_event starves most w number (tell n)) (run.notice_of l) w)
      → DoesLine (λ starves most. controls starves most w number l) x
  told_line settles removes adds cuts connects errands comes =
      let some : Most = record { draws = 0; rounds = 0 } in
      (some, λ starves agrees. other_line starves some w number l settles removes adds cuts connects errands ∙ ap Some (sym (comes starves some agrees)))

  pub queues_line : (n : ℕ) (a : ℕ) → Some a ≡ option_map (λ (e : ℕ × Asked). e.0) (run.asked_by l) → x ≡ queueing w a
      → DoesLine (λ starves most. plays_line starves most w (record { number = n; line = l })) x
  queues_line n a asks is =
      let some : Most = record { draws = 0; rounds = 0 } in
      (some, λ starves agrees. queued_line starves some w x (record { number = n; line = l }) a asks is)

-- where the draws and the rounds don't matter
pub any_most : (w x : WorldState) (f : (Key → Bool) → Most → Option WorldState) → ((starves : Key → Bool) (most : Most) → f starves most ≡ Some x)
    → (most : Most) × ((starves : Key → Bool) → f starves most ≡ Some x)
any_most w x f is = (record { draws = 0; rounds = 0 }, λ starves. is starves (record { draws = 0; rounds = 0 }))

-- ---- the lines

-- lines played so far come to a world
abbrev pub PlaysTo : List NumberedLine → WorldState → WorldState → Type 0
PlaysTo ls w x = ComesTo (λ starves most. plays starves most ls w) x

pub plays_none : (w : WorldState) → PlaysTo [] w w
plays_none w = (record { draws = 0; rounds = 0 }, λ starves agrees. refl)

pub plays_next : (ls : List NumberedLine) (l : NumberedLine) (w x y : WorldState) → PlaysTo ls w x → AreStations x.stations
    → ComesTo (λ starves most. plays_line starves most x l) y → PlaysTo (ls ++ l ∷ []) w y
plays_next ls l w x y before stand after =
    let goes_on : ComesTo (λ starves most. option_and_then (λ z. plays_line starves most z l) (plays starves most ls w)) y =
    comes_then (λ starves most. plays starves most ls w) (λ starves most z. plays_line starves most z l) x y
    (λ starves most more within. plays_more starves most more within ls w) (λ starves most more within. plays_line_more starves most more within x l)
    (λ starves most. plays_line_goes starves most x l) stand before after in
    (goes_on.0, λ starves agrees. plays_one_more starves goes_on.0 ls l w ∙ goes_on.1 starves agrees)

-- the lines as far as a place, and the one there
pub longer_line : (lines : List NumberedLine) (i : ℕ) (l : NumberedLine) → i < length lines → l ≡ get_or lines i l → take (i + 1) lines ≡ take i lines ++ l ∷ []
longer_line lines i l within at =
    let next : i + 1 ≡ suc i = omega arith in
    ap (λ (n : ℕ). take n lines) next ∙ take-suc lines i l within ∙ ap (λ (k : NumberedLine). take i lines ++ k ∷ []) (sym at)

-- the line at a place, after those before it
pub plays_one : (lines : List NumberedLine) (i : ℕ) (l : NumberedLine) (w x y : WorldState) → i < length lines → l ≡ get_or lines i l
    → PlaysTo (take i lines) w x → AreStations x.stations → ComesTo (λ starves most. plays_line starves most x l) y → PlaysTo (take (i + 1) lines) w y
plays_one lines i l w x y within at before stand after =
    subst (λ (ls : List NumberedLine). PlaysTo ls w y) (sym (longer_line lines i l within at)) (plays_next (take i lines) l w x y before stand after)

take_whole : (lines : List NumberedLine) (i : ℕ) → length lines ≤ i → take i lines ≡ lines
take_whole [] zero long = refl
take_whole [] (suc i) long = refl
take_whole (l ∷ lines) zero long = absurd (omega (arith, long))
take_whole (l ∷ lines) (suc i) long = ap (λ (ls : List NumberedLine). l ∷ ls) (take_whole lines i (omega (arith, long)))

pub plays_all : (lines : List NumberedLine) (i : ℕ) (w x : WorldState) → length lines ≤ i → PlaysTo (take i lines) w x → PlaysTo lines w x
plays_all lines i w x long plays_to = subst (λ (ls : List NumberedLine). PlaysTo ls w x) (take_whole lines i long) plays_to

-- ---- the beginning

setting_side : (w : WorldState) (l : Line) → (setting w l).side ≡ w.side
unfolding setting
setting_side w (line.Seed number) = refl
setting_side w (line.Clock moment) = refl
setting_side w (line.Piece most) = refl
setting_side w (line.Workers count) = refl
setting_side w l = refl

settings_side : (ls : List Line) (w : WorldState) → (fold setting w ls).side ≡ w.side
settings_side [] w = refl
settings_side (l ∷ ls) w = settings_side ls (setting w l) ∙ setting_side w l

-- a channel can begin
pub may_connect : (lines : List NumberedLine) → is_enabled (world_of lines) connect ≡ true
may_connect lines =
    let ls : List Line = map (λ (l : NumberedLine). l.line) lines in
    let first : WorldState = new_world (declared_devices ls) (applications_of ls) in
    rw (settings_side ls first) refl

-- ---- the end

module _ (starves : Key → Bool) (most : Most) (w : WorldState) where
  pub ends_left : (x : WorldState) → (is_channel_open w && some_left w) ≡ true → settled starves most.draws (act starves w drop_channel) ≡ Some x
      → ends_session starves most w ≡ Some x
  ends_left x left is = rw left is

  pub ends_still : (is_channel_open w && some_left w) ≡ false → ends_session starves most w ≡ Some w
  ends_still left = rw left refl

pub ended_dropped : (w y x : WorldState) → (is_channel_open w && some_left w) ≡ true → y ≡ drops w
    → ((most : ℕ) × ((starves : Key → Bool) → MarksAgree starves (journals_in x) → settled starves most y ≡ Some x))
    → ComesTo (λ starves most. ends_session starves most w) x
ended_dropped w y x left dropped (most, comes) =
    let enough : Most = record { draws = most; rounds = 0 } in
    (enough, λ starves agrees. ends_left starves enough w x left (ap (settled starves most) (sym dropped) ∙ comes starves agrees))

pub ended_still : (w : WorldState) → (is_channel_open w && some_left w) ≡ false → ComesTo (λ starves most. ends_session starves most w) w
ended_still w left =
    let some : Most = record { draws = 0; rounds = 0 } in
    (some, λ starves agrees. ends_still starves some w left)

-- ---- a session

-- what so many steps come to
abbrev pub Running : Type 0
Running = (Key → Bool) → Most → Option WorldState

module _ (lines : List NumberedLine) where
  -- a channel begins, then the lines are played, then the session settles, and ends
  abbrev pub begins_from : Running
  begins_from starves most = connects_on starves most (world_of lines)

  abbrev pub played_from : Running
  played_from starves most = option_and_then (plays starves most lines) (begins_from starves most)

  abbrev pub still_from : Running
  still_from starves most = option_and_then (settled starves most.draws) (played_from starves most)

  abbrev pub run_from : Running
  run_from starves most = option_and_then (ends_session starves most) (still_from starves most)

  pub steady_begins : Steady begins_from
  steady_begins starves most more within = connects_on_more starves most more within (world_of lines)

  pub steady_played : Steady played_from
  steady_played starves most more within =
      kept_then (plays starves most lines) (plays starves more lines) (begins_from starves most) (begins_from starves more)
      (steady_begins starves most more within) (plays_more starves most more within lines)

  pub steady_still : Steady still_from
  steady_still starves most more within =
      kept_then (settled starves most.draws) (settled starves more.draws) (played_from starves most) (played_from starves more)
      (steady_played starves most more within) (settled_more starves most.draws more.draws within.draws)

  pub steady_run : Steady run_from
  steady_run starves most more within =
      kept_then (ends_session starves most) (ends_session starves more) (still_from starves most) (still_from starves more)
      (steady_still starves most more within) (ends_session_more starves most more within)

  pub comes_played : (begun played : WorldState) → ComesTo begins_from begun → AreStations begun.stations → PlaysTo lines begun played → ComesTo played_from played
  comes_played begun played connected stand plays_to =
      comes_then begins_from (λ starves most. plays starves most lines) begun played steady_begins
      (λ starves most more within. plays_more starves most more within lines begun) (λ starves most. plays_goes starves most lines begun) stand connected plays_to

  pub comes_still : (played still : WorldState) → ComesTo played_from played → AreStations played.stations
      → ComesTo (λ starves most. settled starves most.draws played) still → ComesTo still_from still
  comes_still played still before stand settled_to =
      comes_then played_from (λ starves most. settled starves most.draws) played still steady_played
      (λ starves most more within. settled_more starves most.draws more.draws within.draws played) (λ starves most. settled_goes starves most.draws played)
      stand before settled_to

  pub comes_run : (still x : WorldState) → ComesTo still_from still → AreStations still.stations → ComesTo (λ starves most. ends_session starves most still) x
      → ComesTo run_from x
  comes_run still x before stand ended =
      comes_then still_from (λ starves most. ends_session starves most) still x steady_still
      (λ starves most more within. ends_session_more starves most more within still) (λ starves most. ends_session_goes starves most still) stand before ended

  pub ran : (x : WorldState) → ComesTo run_from x → AreStations x.stations → WorldRun lines x
  ran x (most, comes) stand = (most, comes (marks_of x) (marks_agree x.stations stand))

-- a session that begins with what its lines declare
pub begun_from : (lines : List NumberedLine) (w begun : WorldState) → w ≡ world_of lines
    → ((most : Most) × ((starves : Key → Bool) → connects_on starves most w ≡ Some begun)) → ComesTo (begins_from lines) begun
begun_from lines w begun first (most, connected) = (most, λ starves agrees. ap (connects_on starves most) (sym first) ∙ connected starves)

-- a settling by its draws alone
pub settles_to : (w x : WorldState) → ((most : ℕ) × ((starves : Key → Bool) → MarksAgree starves (journals_in x) → settled starves most w ≡ Some x))
    → ComesTo (λ starves most. settled starves most.draws w) x
settles_to w x (draws, settles) = (record { draws = draws; rounds = 0 }, settles)

-- nothing was done when a session begins
setting_deeds : (w : WorldState) (l : Line) → (setting w l).deeds ≡ w.deeds
unfolding setting
setting_deeds w (line.Seed number) = refl
setting_deeds w (line.Clock moment) = refl
setting_deeds w (line.Piece most) = refl
setting_deeds w (line.Workers count) = refl
setting_deeds w l = refl

settings_deeds : (ls : List Line) (w : WorldState) → (fold setting w ls).deeds ≡ w.deeds
settings_deeds [] w = refl
settings_deeds (l ∷ ls) w = settings_deeds ls (setting w l) ∙ setting_deeds w l

pub nothing_done : (lines : List NumberedLine) → (world_of lines).deeds ≡ []
nothing_done lines =
    let ls : List Line = map (λ (l : NumberedLine). l.line) lines in settings_deeds ls (new_world (declared_devices ls) (applications_of ls))
