-- What a run writes to its wire, step by step, and where a write fails in its midst.
use Rattle.std.proofs.Common.{◌≡◌, ℕ, ◌+◌, List, [], ◌∷◌, ◌++◌, length, get_or, ◌<◌, take, drop, Bool, true, Option, Some, None, refl, sym, ap, ◌∙◌, subst, arith, append-nil, append_assoc}
use Rattle.std.proofs.Math.Seq.{take-append-add}
use Rattle.std.proofs.lemmas.List.{take-append-drop}
use Rattle.std.proofs.KnownBytes.{Appends-nil, Appends-trans}
use Rattle.std.specs.Io.KnownBytes.{Appends}
use Rattle.std.specs.Prelude.{◌&&◌, codes, Result, Ok, Err, IfErr, IsErrAnd}
use Rattle.std.specs.Option.{option_and_then, option_map}
use Rattle.rd_base.specs.declared.journal.Key.{Key}
use Rattle.rd_base.specs.Prefixes.{AppendsPrefix}
use Rattle.rd_script.specs.declared.line.Line.{Line}
use Rattle.rd_script.specs.declared.line.Line.TheVariants as line
use Rattle.rd_script.specs.declared.line.NumberedLine.{NumberedLine}
use Rattle.rd_world.specs.declared.event.StepNo.{StepNo}
use Rattle.rd_world.specs.Events.{drop_channel, drops, is_channel_open}
use Rattle.rd_declared.specs.Marks.{AreLonger, MarksAgree}
use Rattle.rd_world.specs.Recording.{recording_of_deeds}
use Rattle.rd_world.specs.Run.{Most, NextStep, asked_by, chosen, connects_on, controls, drawing, ends_session, plays, plays_line, settled, some_left, world_of}
use Rattle.rd_world.specs.Stations.{AreStations}
use Rattle.rd_world.specs.Step.{recorded_by, recorded_next}
use Rattle.rd_world.specs.Wire.{Breaks, CountsWire, RecordsOn, IsCut, IsCutRun, IsPassed, Records, StaysRecorded}
use Rattle.rd_world.specs.World.{Asked, WorldState, journals_in, marks_of}
use Rattle.rd_world.proofs.FuelLemmas.{ComesTo, Steady, both, first_within, second_within, plays_more, plays_one_more, settled_more}
use Rattle.rd_world.proofs.GoingLemmas.{GoesTo, connects_on_goes, ends_session_goes, goes_longer, goes_on_same, goes_on_then, gone_to, plays_goes, settled_goes}
use Rattle.rd_world.proofs.GrowingLemmas.{acted_longer, longer_self, longer_trans}
use Rattle.rd_world.proofs.KeysLemmas.{agrees_before, marks_agree}
use Rattle.rd_world.proofs.PlayingLemmas.{PlaysTo, Running, begins_from, control_line, longer_line, nothing_done, played_from, run_from, steady_begins, steady_played, steady_run, steady_still, still_from}
use Rattle.rd_world.proofs.RoundsLemmas.{event_stays, stays_same}
use Rattle.rd_world.proofs.SettlingLemmas.{draw_stays}

-- ---- what is written and what is gathered

-- nothing was written
pub records_stays : (held : Option (List ℕ)) (w x : WorldState) (old new : List ℕ) → StaysRecorded w old x new → Records held held w old x new
records_stays held w x old new (more, recorded, got) = record { more = more; written = []; recorded = recorded; parts = got; appended = Appends-nil held }

pub records_none : (held : Option (List ℕ)) (w : WorldState) (old : List ℕ) → Records held held w old w old
records_none held w old = records_stays held w w old old (stays_same w w old refl)

-- some of what was gathered was written
pub records_piece : (start held : Option (List ℕ)) (w : WorldState) (old new : List ℕ)
    → ((written : List ℕ) × (old ≡ written ++ new) × Appends start held written) → Records start held w old w new
records_piece start held w old new (written, parts, appended) = record {
  more = [];
  written = written;
  recorded = sym (append-nil (recording_of_deeds w.deeds));
  parts = sym parts ∙ sym (append-nil old);
  appended = appended;
}

pub records_then : (start held next : Option (List ℕ)) (w x y : WorldState) (old new last : List ℕ) → Records start held w old x new → Records held next x new y last
    → Records start next w old y last
records_then start held next w x y old new last before after = record {
  more = before.more ++ after.more;
  written = before.written ++ after.written;
  recorded = after.recorded ∙ ap (λ (bytes : List ℕ). bytes ++ after.more) before.recorded ∙ append_assoc (recording_of_deeds w.deeds) before.more after.more;
  parts = append_assoc before.written after.written last ∙ ap (λ (bytes : List ℕ). before.written ++ bytes) after.parts
      ∙ sym (append_assoc before.written new after.more) ∙ ap (λ (bytes : List ℕ). bytes ++ after.more) before.parts ∙ append_assoc old before.more after.more;
  appended = Appends-trans start held next before.written after.written before.appended after.appended;
}

-- a session from its beginning, of which nothing more is gathered
pub records_whole : (start held : Option (List ℕ)) (w x : WorldState) (old : List ℕ) → Records start held w old x [] → old ≡ recording_of_deeds w.deeds
    → Appends start held (recording_of_deeds x.deeds)
records_whole start held w x old records is =
    subst (λ (bytes : List ℕ). Appends start held bytes)
    (sym (append-nil records.written) ∙ records.parts ∙ ap (λ (bytes : List ℕ). bytes ++ records.more) is ∙ sym records.recorded) records.appended

-- a write failed after what was written
pub breaks_after : (start held next : Option (List ℕ)) (w x y : WorldState) (old new : List ℕ) → Records start held w old x new → Breaks held next x new y
    → Breaks start next w old y
breaks_after start held next w x y old new before fails =
    let (n, prefix) = fails.prefix in
    let all : before.written ++ (new ++ fails.more) ≡ old ++ (before.more ++ fails.more) =
    sym (append_assoc before.written new fails.more) ∙ ap (λ (bytes : List ℕ). bytes ++ fails.more) before.parts ∙ append_assoc old before.more fails.more in
    record {
      more = before.more ++ fails.more;
      recorded = fails.recorded ∙ ap (λ (bytes : List ℕ). bytes ++ fails.more) before.recorded ∙ append_assoc (recording_of_deeds w.deeds) before.more fails.more;
      prefix = subst (λ (bytes : List ℕ). AppendsPrefix start next bytes) all (
        length before.written + n,
        subst (λ (bytes : List ℕ). Appends start next bytes) (sym (take-append-add before.written (new ++ fails.more) n))
            (Appends-trans start held next before.written (take n (new ++ fails.more)) before.appended prefix),
      );
    }

-- a draw more
pub records_draw : (start held : Option (List ℕ)) (first w v y : WorldState) (s : NextStep) (old gathered new : List ℕ) → Records start held first old w gathered
    → v ≡ drawing w → y ≡ chosen (marks_of y) v s → new ≡ gathered ++ recorded_next v s → Records start held first old y new
records_draw start held first w v y s old gathered new before draw marked added =
    records_then start held held first w y old gathered new before
    (records_stays held w y gathered new (draw_stays (marks_of y) w v y s gathered new draw marked added))

-- at once
pub breaks_here : (start held : Option (List ℕ)) (w : WorldState) (old : List ℕ) → AppendsPrefix start held old → Breaks start held w old w
breaks_here start held w old prefix = record {
  more = [];
  recorded = sym (append-nil (recording_of_deeds w.deeds));
  prefix = subst (λ (bytes : List ℕ). AppendsPrefix start held bytes) (sym (append-nil old)) prefix;
}

-- by what was written before
pub breaks_before : (start held : Option (List ℕ)) (w x : WorldState) (old new : List ℕ) → Records start held w old x new → Breaks start held w old x
breaks_before start held w x old new records = record {
  more = records.more;
  recorded = records.recorded;
  prefix = subst (λ (bytes : List ℕ). AppendsPrefix start held bytes) records.parts (
    length records.written + 0,
    subst (λ (bytes : List ℕ). Appends start held bytes) (sym (take-append-add records.written new 0 ∙ append-nil records.written)) records.appended,
  );
}

-- of a session from its beginning on
pub breaks_whole : (start held : Option (List ℕ)) (w x : WorldState) (old : List ℕ) → Breaks start held w old x → old ≡ recording_of_deeds w.deeds
    → AppendsPrefix start held (recording_of_deeds x.deeds)
breaks_whole start held w x old breaks is =
    subst (λ (bytes : List ℕ). AppendsPrefix start held bytes) (ap (λ (bytes : List ℕ). bytes ++ breaks.more) is ∙ sym breaks.recorded) breaks.prefix

-- ---- what a session passes

-- where it comes to a world, it passes it
pub passed_here : (f : (Key → Bool) → Most → Option WorldState) (x : WorldState) → Steady f → ComesTo f x → IsPassed f x
passed_here f x steady (m, comes) starves most w agrees is =
    let last : f starves (both most m) ≡ Some w = steady starves most (both most m) (first_within most m) w is in
    let here : f starves (both most m) ≡ Some x = steady starves m (both most m) (second_within most m) x (comes starves agrees) in
    let same : Some w ≡ Some x = sym last ∙ here in
    let are : w ≡ x = cc same in
    goes_on_same x w (ap (λ (v : WorldState). recording_of_deeds v.deeds) are)

-- by way of a world
pub passed_then : (f : (Key → Bool) → Most → Option WorldState) (g : (Key → Bool) → Most → WorldState → Option WorldState) (w x : WorldState) → Steady f
    → ComesTo f w → AreLonger (journals_in w) (journals_in x) → IsPassed (λ starves most. g starves most w) x
    → IsPassed (λ starves most. option_and_then (g starves most) (f starves most)) x
passed_then f g w x steady (m, comes) longer passed starves most y agrees is = by (f starves most) refl is
  where
    by : (o : Option WorldState) → f starves most ≡ o → option_and_then (g starves most) o ≡ Some y → RecordsOn x y
    by None first then = absurd (cc then)
    by (Some v) first then =
        let later : f starves (both most m) ≡ Some v = steady starves most (both most m) (first_within most m) v first in
        let here : f starves (both most m) ≡ Some w =
        steady starves m (both most m) (second_within most m) w (comes starves (agrees_before starves (journals_in w) (journals_in x) longer agrees)) in
        let same : Some v ≡ Some w = sym later ∙ here in
        let are : v ≡ w = cc same in
        passed starves most y agrees (ap (g starves most) (sym are) ∙ then)

-- and what comes after goes on
pub passed_before : (f : (Key → Bool) → Most → Option WorldState) (g : (Key → Bool) → Most → WorldState → Option WorldState) (x : WorldState)
    → ((starves : Key → Bool) (most : Most) (w : WorldState) → GoesTo w (g starves most w)) → IsPassed f x
    → IsPassed (λ starves most. option_and_then (g starves most) (f starves most)) x
passed_before f g x goes passed starves most y agrees is = by (f starves most) refl is
  where
    by : (o : Option WorldState) → f starves most ≡ o → option_and_then (g starves most) o ≡ Some y → RecordsOn x y
    by None first then = absurd (cc then)
    by (Some v) first then =
        goes_on_then x v y (passed starves most v agrees first) (gone_to v (g starves most v) y (goes starves most v) then).recording

-- the same by another way
pub passed_same : (f g : (Key → Bool) → Most → Option WorldState) (x : WorldState) → ((starves : Key → Bool) (most : Most) → f starves most ≡ g starves most)
    → IsPassed g x → IsPassed f x
passed_same f g x same passed starves most w agrees is = passed starves most w agrees (sym (same starves most) ∙ is)

-- ---- a settling, a line, lines

-- so many draws lead to a world that is passed
pub passed_settled : (start x : WorldState) (k : ℕ)
    → ((most : ℕ) (starves : Key → Bool) → MarksAgree starves (journals_in x) → settled starves (k + most) start ≡ settled starves most x)
    → IsPassed (λ starves most. settled starves most.draws start) x
passed_settled start x k reached starves most w agrees is =
    let more : settled starves (k + most.draws) start ≡ Some w = settled_more starves most.draws (k + most.draws) (omega arith) start w is in
    (gone_to x (settled starves most.draws x) w (settled_goes starves most.draws x) (sym (reached most.draws starves agrees) ∙ more)).recording

-- a session of more lines is one of the first of them, and then of the others
pub plays_append : (starves : Key → Bool) (most : Most) (ks ls : List NumberedLine) (w : WorldState)
    → plays starves most (ks ++ ls) w ≡ option_and_then (plays starves most ls) (plays starves most ks w)
plays_append starves most [] ls w = refl
plays_append starves most (k ∷ ks) ls w = by (plays_line starves most w k) (plays_append starves most ks ls)
  where
    by : (o : Option WorldState) → ((x : WorldState) → plays starves most (ks ++ ls) x ≡ option_and_then (plays starves most ls) (plays starves most ks x))
        → option_and_then (plays starves most (ks ++ ls)) o ≡ option_and_then (plays starves most ls) (option_and_then (plays starves most ks) o)
    by None goes = refl
    by (Some x) goes = goes x

-- from lines on to all of them
passed_on : (lines : List NumberedLine) (i : ℕ) (start x : WorldState) → IsPassed (λ starves most. plays starves most (take i lines) start) x
    → IsPassed (λ starves most. plays starves most lines start) x
passed_on lines i start x passed =
    passed_same (λ starves most. plays starves most lines start)
    (λ starves most. option_and_then (plays starves most (drop i lines)) (plays starves most (take i lines) start)) x
    (λ starves most. ap (λ (ls : List NumberedLine). plays starves most ls start) (sym (take-append-drop i lines)) ∙ plays_append starves most (take i lines) (drop i lines) start)
    (passed_before (λ starves most. plays starves most (take i lines) start) (λ starves most. plays starves most (drop i lines)) x
    (λ starves most. plays_goes starves most (drop i lines)) passed)

steady_plays : (ls : List NumberedLine) (w : WorldState) → Steady (λ starves most. plays starves most ls w)
steady_plays ls w starves most more within = plays_more starves most more within ls w

-- in a line
pub passed_in_line : (lines : List NumberedLine) (i : ℕ) (l : NumberedLine) (start w x : WorldState) → i < length lines → l ≡ get_or lines i l
    → PlaysTo (take i lines) start w → AreLonger (journals_in w) (journals_in x) → IsPassed (λ starves most. plays_line starves most w l) x
    → IsPassed (λ starves most. plays starves most lines start) x
passed_in_line lines i l start w x within at before longer passed =
    let ks : List NumberedLine = take i lines in
    let in_line : IsPassed (λ starves most. plays starves most (ks ++ l ∷ []) start) x =
    passed_same (λ starves most. plays starves most (ks ++ l ∷ []) start)
    (λ starves most. option_and_then (λ y. plays_line starves most y l) (plays starves most ks start)) x (λ starves most. plays_one_more starves most ks l start)
    (passed_then (λ starves most. plays starves most ks start) (λ starves most y. plays_line starves most y l) w x (steady_plays ks start) before longer passed) in
    passed_on lines (i + 1) start x
    (subst (λ (ls : List NumberedLine). IsPassed (λ starves most. plays starves most ls start) x) (sym (longer_line lines i l within at)) in_line)

-- after a line
pub passed_after_line : (lines : List NumberedLine) (i : ℕ) (start x : WorldState) → PlaysTo (take i lines) start x
    → IsPassed (λ starves most. plays starves most lines start) x
passed_after_line lines i start x before =
    passed_on lines i start x (passed_here (λ starves most. plays starves most (take i lines) start) x (steady_plays (take i lines) start) before)

-- what comes to a world only makes journals longer
pub came_longer : (f : Running) (w x : WorldState) → ((starves : Key → Bool) (most : Most) → GoesTo w (f starves most)) → ComesTo f x → AreStations w.stations
    → AreStations x.stations → AreLonger (journals_in w) (journals_in x)
came_longer f w x goes (most, comes) stand_before stand =
    let here : f (marks_of x) most ≡ Some x = comes (marks_of x) (marks_agree x.stations stand) in
    goes_longer w x (gone_to w (f (marks_of x) most) x (goes (marks_of x) most) here) stand_before.rise

-- ---- an early end

pub cut_weaker : {T : Type 0} (P Q : Type 0) (r : Result T StepNo) → (P → Q) → IfErr r (λ cause. P) → IfErr r (λ cause. Q)
cut_weaker P Q (Ok done) weaker p = tt
cut_weaker P Q (Err cause) weaker p = weaker p

pub any_cut : {T : Type 0} (P : Type 0) (r : Result T StepNo) → P → IfErr r (λ cause. P)
any_cut P (Ok done) p = tt
any_cut P (Err cause) p = p

-- nothing was written since
pub cut_at_once : (held : Option (List ℕ)) (w : WorldState) (old : List ℕ) (f : Running) → ((starves : Key → Bool) (most : Most) → GoesTo w (f starves most)) → AreStations w.stations
    → IsCut held held w old f w
cut_at_once held w old f goes stand = record {
  breaks = breaks_here held held w old (0, Appends-nil held);
  longer = longer_self (journals_in w);
  marked = marks_agree w.stations stand;
  passed = λ starves most x agrees is. (gone_to w (f starves most) x (goes starves most) is).recording;
}

pub counts_err : {T : Type 0} (r : Result T StepNo) (s : StepNo) (old mid new : ℕ) → IsErrAnd r (λ e. e ≡ s) → mid ≡ old → CountsWire {T = T} (Err s) mid new
    → CountsWire r old new
counts_err (Ok done) s old mid new is same count = absurd is
counts_err {T} (Err e) s old mid new is same count =
    subst (λ (n : ℕ). CountsWire {T = T} (Err e) n new) same (subst (λ (t : StepNo). CountsWire {T = T} (Err t) mid new) (sym is) count)

module _ (start held : Option (List ℕ)) (w : WorldState) (old : List ℕ) (x : WorldState) where
  -- a settling
  pub cut_settling : (k : ℕ) → ((most : ℕ) (starves : Key → Bool) → MarksAgree starves (journals_in x) → settled starves (k + most) w ≡ settled starves most x)
      → AreLonger (journals_in w) (journals_in x) → AreStations x.stations → Breaks start held w old x
      → IsCut start held w old (λ starves most. settled starves most.draws w) x
  cut_settling k reached longer stand breaks =
      record { breaks = breaks; longer = longer; marked = marks_agree x.stations stand; passed = passed_settled w x k reached }

  -- a `settle` line
  pub cut_settle : (number : ℕ) (l : Line) → l ≡ line.Settle → IsCut start held w old (λ starves most. settled starves most.draws w) x
      → IsCut start held w old (λ starves most. controls starves most w number l) x
  unfolding controls
  cut_settle number l is cut = record {
    breaks = cut.breaks;
    longer = cut.longer;
    marked = cut.marked;
    passed = passed_same (λ starves most. controls starves most w number l) (λ starves most. settled starves most.draws w) x
        (λ starves most. ap (controls starves most w number) is) cut.passed;
  }

  -- a control line
  pub cut_control : (l : NumberedLine) → None ≡ option_map (λ (e : ℕ × Asked). e.0) (asked_by l.line)
      → IsCut start held w old (λ starves most. controls starves most w l.number l.line) x → IsCut start held w old (λ starves most. plays_line starves most w l) x
  cut_control l asks cut = record {
    breaks = cut.breaks;
    longer = cut.longer;
    marked = cut.marked;
    passed = passed_same (λ starves most. plays_line starves most w l) (λ starves most. controls starves most w l.number l.line) x
        (λ starves most. control_line starves most w l asks) cut.passed;
  }

pub dropped_records : (start held : Option (List ℕ)) (w y x : WorldState) (old new last : List ℕ) → y ≡ drops w → new ≡ old ++ recorded_by w drop_channel
    → Records start held y new x last → Records start held w old x last
dropped_records start held w y x old new last dropped added records =
    records_then start start held w y x old new last (records_stays start w y old new (event_stays (λ key. true) w y drop_channel old new dropped added)) records

-- the last settling, after a channel was dropped
pub cut_ending : (start held : Option (List ℕ)) (w y x : WorldState) (old new : List ℕ) → (is_channel_open w && some_left w) ≡ true → y ≡ drops w
    → new ≡ old ++ recorded_by w drop_channel → AreStations w.stations → IsCut start held y new (λ starves most. settled starves most.draws y) x
    → IsCut start held w old (λ starves most. ends_session starves most w) x
cut_ending start held w y x old new left dropped added stand cut =
    let stays : StaysRecorded w old y new = event_stays (λ key. true) w y drop_channel old new dropped added in
    let longer : AreLonger (journals_in w) (journals_in y) =
    subst (λ (v : WorldState). AreLonger (journals_in w) (journals_in v)) (sym dropped) (acted_longer (λ key. true) w drop_channel stand.rise) in
    record {
      breaks = breaks_after start start held w y x old new (records_stays start w y old new stays) cut.breaks;
      longer = longer_trans (journals_in w) (journals_in y) (journals_in x) longer cut.longer;
      marked = cut.marked;
      passed = passed_same (λ starves most. ends_session starves most w) (λ starves most. settled starves most.draws y) x
          (λ starves most. rw left (ap (settled starves most.draws) (sym dropped))) cut.passed;
    }

-- lines, in the midst of one
pub cut_line : (start held next : Option (List ℕ)) (lines : List NumberedLine) (i : ℕ) (l : NumberedLine) (first w x : WorldState) (old new : List ℕ) → i < length lines
    → l ≡ get_or lines i l → PlaysTo (take i lines) first w → AreStations first.stations → AreStations w.stations → Records start held first old w new
    → IsCut held next w new (λ starves most. plays_line starves most w l) x → IsCut start next first old (λ starves most. plays starves most lines first) x
cut_line start held next lines i l first w x old new within at before stand_first stand records cut =
    let longer : AreLonger (journals_in first) (journals_in w) =
    came_longer (λ starves most. plays starves most (take i lines) first) first w (λ starves most. plays_goes starves most (take i lines) first) before stand_first stand in
    record {
      breaks = breaks_after start held next first w x old new records cut.breaks;
      longer = longer_trans (journals_in first) (journals_in w) (journals_in x) longer cut.longer;
      marked = cut.marked;
      passed = passed_in_line lines i l first w x within at before cut.longer cut.passed;
    }

-- and after one
pub cut_between : (start held next : Option (List ℕ)) (lines : List NumberedLine) (i : ℕ) (first x : WorldState) (old new : List ℕ)
    → PlaysTo (take i lines) first x → AreStations first.stations → AreStations x.stations → Records start held first old x new → AppendsPrefix held next new
    → IsCut start next first old (λ starves most. plays starves most lines first) x
cut_between start held next lines i first x old new before stand_first stand records prefix = record {
  breaks = breaks_after start held next first x x old new records (breaks_here held next x new prefix);
  longer = came_longer (λ starves most. plays starves most (take i lines) first) first x (λ starves most. plays_goes starves most (take i lines) first) before stand_first stand;
  marked = marks_agree x.stations stand;
  passed = passed_after_line lines i first x before;
}

-- ---- a run

-- what a recorder holds when a session begins is its recording
pub at_first : (lines : List NumberedLine) (w : WorldState) (old : List ℕ) → w ≡ world_of lines → old ≡ codes "RDRREC01" → old ≡ recording_of_deeds w.deeds
at_first lines w old first empty = empty ∙ sym (ap (λ (v : WorldState). recording_of_deeds v.deeds) first ∙ ap recording_of_deeds (nothing_done lines))

module _ (start : Option (List ℕ)) (lines : List NumberedLine) (w : WorldState) (old : List ℕ) (first : old ≡ recording_of_deeds w.deeds) where
  -- in the midst of what comes after a world
  cut_after : (held next : Option (List ℕ)) (f : Running) (g : (Key → Bool) → Most → WorldState → Option WorldState) (x y : WorldState) (new : List ℕ) → Steady f
      → ComesTo f x → Records start held w old x new → IsCut held next x new (λ starves most. g starves most x) y
      → (IsPassed (λ starves most. option_and_then (g starves most) (f starves most)) y → IsPassed (run_from lines) y) → IsCutRun start next lines y
  cut_after held next f g x y new steady comes records cut on = record {
    prefix = breaks_whole start next w y old (breaks_after start held next w x y old new records cut.breaks) first;
    marked = cut.marked;
    passed = on (passed_then f g x y steady comes cut.longer cut.passed);
  }

  still_on : (y : WorldState) → IsPassed (still_from lines) y → IsPassed (run_from lines) y
  still_on y = passed_before (still_from lines) (λ starves most. ends_session starves most) y (λ starves most. ends_session_goes starves most)

  played_on : (y : WorldState) → IsPassed (played_from lines) y → IsPassed (run_from lines) y
  played_on y passed =
      still_on y (passed_before (played_from lines) (λ starves most. settled starves most.draws) y (λ starves most. settled_goes starves most.draws) passed)

  -- in the lines
  pub cut_in_lines : (held next : Option (List ℕ)) (begun y : WorldState) (new : List ℕ) → ComesTo (begins_from lines) begun → Records start held w old begun new
      → IsCut held next begun new (λ starves most. plays starves most lines begun) y → IsCutRun start next lines y
  cut_in_lines held next begun y new comes records cut =
      cut_after held next (begins_from lines) (λ starves most. plays starves most lines) begun y new (steady_begins lines) comes records cut (played_on y)

  -- in the last settling
  pub cut_in_settling : (held next : Option (List ℕ)) (played y : WorldState) (new : List ℕ) → ComesTo (played_from lines) played → Records start held w old played new
      → IsCut held next played new (λ starves most. settled starves most.draws played) y → IsCutRun start next lines y
  cut_in_settling held next played y new comes records cut =
      cut_after held next (played_from lines) (λ starves most. settled starves most.draws) played y new (steady_played lines) comes records cut (still_on y)

  -- in the end
  pub cut_in_ending : (held next : Option (List ℕ)) (still y : WorldState) (new : List ℕ) → ComesTo (still_from lines) still → Records start held w old still new
      → IsCut held next still new (λ starves most. ends_session starves most still) y → IsCutRun start next lines y
  cut_in_ending held next still y new comes records cut =
      cut_after held next (still_from lines) (λ starves most. ends_session starves most) still y new (steady_still lines) comes records cut (λ passed. passed)

  -- and after it
  pub cut_at_last : (held next : Option (List ℕ)) (x : WorldState) (new : List ℕ) → ComesTo (run_from lines) x → AreStations x.stations
      → Records start held w old x new → AppendsPrefix held next new → IsCutRun start next lines x
  cut_at_last held next x new comes stand records prefix = record {
    prefix = breaks_whole start next w x old (breaks_after start held next w x x old new records (breaks_here held next x new prefix)) first;
    marked = marks_agree x.stations stand;
    passed = passed_here (run_from lines) x (steady_run lines) comes;
  }

  -- all was written
  pub written_all : (held next : Option (List ℕ)) (x : WorldState) (new : List ℕ) → Records start held w old x new → Appends held next new
      → Appends start next (recording_of_deeds x.deeds)
  written_all held next x new records appended =
      records_whole start next w x old
      (records_then start held next w x x old new [] records (records_piece held next x new [] (new, sym (append-nil new), appended))) first

  -- at its very beginning
  pub cut_at_first : (stand : AreStations w.stations) → w ≡ world_of lines → IsCutRun start start lines w
  cut_at_first stand is = record {
    prefix = (0, Appends-nil start);
    marked = marks_agree w.stations stand;
    passed = played_on w (passed_before (begins_from lines) (λ starves most. plays starves most lines) w (λ starves most. plays_goes starves most lines)
        (λ starves most x agrees comes.
        (gone_to w (connects_on starves most w) x (connects_on_goes starves most w) (ap (connects_on starves most) is ∙ comes)).recording));
  }
