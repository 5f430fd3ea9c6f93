-- More steps give the same: what so many draws and rounds come to, more of them come to.
use Rattle.std.proofs.Common.{◌≡◌, ◌≤◌, ℕ, zero, suc, ◌+◌, List, [], ◌∷◌, ◌++◌, length, slice_get, Bool, true, false, Option, Some, None, refl, ap, ◌∙◌, arith}
use Rattle.std.specs.Prelude.{◌&&◌, if◌then◌else◌}
use Rattle.std.specs.Option.{option_and_then, option_map_or, unwrap_or}
use Rattle.rd_base.specs.declared.journal.Key.{Key}
use Rattle.rd_script.specs.declared.line.Errand.TheVariants as errand
use Rattle.rd_script.specs.declared.line.Line.{Line}
use Rattle.rd_script.specs.declared.line.Line.TheVariants as line
use Rattle.rd_script.specs.declared.line.NumberedLine.{NumberedLine}
use Rattle.rd_world.specs.Events.{act, connect, drop_channel, is_channel_open, is_enabled}
use Rattle.rd_declared.specs.Marks.{MarksAgree}
use Rattle.rd_world.specs.Run.{Most, NextStep, all_client_sends, all_host_sends, asked_by, choices, chosen, client_reads_all, connects_on, controls, drawing, ends_session, host_reads_all, idles, is_quiet, picked, plays, plays_line, queueing, rounds, settled, settles_by, some_left}
use Rattle.rd_world.specs.Stations.{AreStations}
use Rattle.rd_world.specs.World.{Asked, WorldState, journals_in}
use Rattle.rd_world.proofs.GoingLemmas.{GoesTo, gone_to, goes_longer}
use Rattle.rd_world.proofs.KeysLemmas.{agrees_before}

-- no more than these draws and rounds
pub record AreWithin (most more : Most) : Type 0 where
  pub draws : most.draws ≤ more.draws
  pub rounds : most.rounds ≤ more.rounds

-- the draws and rounds of two together
abbrev pub both : Most → Most → Most
both first second = record { draws = first.draws + second.draws; rounds = first.rounds + second.rounds }

pub first_within : (first second : Most) → AreWithin first (both first second)
first_within first second = record { draws = omega arith; rounds = omega arith }

pub second_within : (first second : Most) → AreWithin second (both first second)
second_within first second = record { draws = omega arith; rounds = omega arith }

-- what comes to a world still does by this way
abbrev pub IsKept : Option WorldState → Option WorldState → Type 0
IsKept before after = (x : WorldState) → before ≡ Some x → after ≡ Some x

pub kept_then : (f g : WorldState → Option WorldState) (before after : Option WorldState) → IsKept before after → ((w : WorldState) → IsKept (f w) (g w))
    → IsKept (option_and_then f before) (option_and_then g after)
kept_then f g None after kept goes x is = absurd (cc is)
kept_then f g (Some w) after kept goes x is = ap (option_and_then g) (kept w refl) ∙ goes w x is

module _ (starves : Key → Bool) where
  settles_by_more : (w : WorldState) (cs : List NextStep) (on more : WorldState → Option WorldState) → ((y : WorldState) → IsKept (on y) (more y))
      → IsKept (settles_by starves w cs on) (settles_by starves w cs more)
  settles_by_more w [] on more goes x is = is
  settles_by_more w (c ∷ cs) on more goes x is =
      let y : WorldState = drawing w in
      goes (chosen starves y (unwrap_or (slice_get (c ∷ cs) (picked y.draws (length (c ∷ cs)))) c)) x is

  pub settled_more : (most more : ℕ) → most ≤ more → (w : WorldState) → IsKept (settled starves most w) (settled starves more w)
  settled_more zero more few w x is = absurd (cc is)
  settled_more (suc most) zero few w x is = absurd (omega (arith, few))
  settled_more (suc most) (suc more) few w x is =
      settles_by_more w (choices w) (settled starves most) (settled starves more) (settled_more most more (omega (arith, few))) x is

  pub rounds_more : (most more : ℕ) → most ≤ more → (w : WorldState) → IsKept (rounds starves most w) (rounds starves more w)
  rounds_more zero more few w x is = absurd (cc is)
  rounds_more (suc most) zero few w x is = absurd (omega (arith, few))
  rounds_more (suc most) (suc more) few w x is = by (is_quiet w) is (rounds_more most more (omega (arith, few)))
    where
      after : WorldState
      after = host_reads_all starves (client_reads_all starves (all_client_sends starves (all_host_sends starves w)))

      by : (b : Bool) → (if b then Some w else rounds starves most after) ≡ Some x → ((y : WorldState) → IsKept (rounds starves most y) (rounds starves more y))
          → (if b then Some w else rounds starves more after) ≡ Some x
      by true is goes = is
      by false is goes = goes after x is

module _ (starves : Key → Bool) (most more : Most) (within : AreWithin most more) where
  pub connects_on_more : (w : WorldState) → IsKept (connects_on starves most w) (connects_on starves more w)
  connects_on_more w = rounds_more starves most.rounds more.rounds within.rounds (act starves w connect)

  pub controls_more : (w : WorldState) (number : ℕ) (l : Line) → IsKept (controls starves most w number l) (controls starves more w number l)
  unfolding controls
  controls_more w number line.Settle = settled_more starves most.draws more.draws within.draws w
  controls_more w number line.Connect = by (is_enabled w connect)
    where
      by : (b : Bool) → IsKept (if b then connects_on starves most w else Some (idles w number)) (if b then connects_on starves more w else Some (idles w number))
      by true = connects_on_more w
      by false = λ x is. is
  controls_more w number (line.Do errand.Send) = λ x is. is
  controls_more w number (line.Do errand.Answer) = λ x is. is
  controls_more w number (line.Do e) = λ x is. is
  controls_more w number l = λ x is. is

  pub plays_line_more : (w : WorldState) (l : NumberedLine) → IsKept (plays_line starves most w l) (plays_line starves more w l)
  plays_line_more w l = by (asked_by l.line)
    where
      by : (o : Option (ℕ × Asked))
          → IsKept (option_map_or (λ (asked : ℕ × Asked). Some (queueing w asked.0)) o (controls starves most w l.number l.line))
          (option_map_or (λ (asked : ℕ × Asked). Some (queueing w asked.0)) o (controls starves more w l.number l.line))
      by None = controls_more w l.number l.line
      by (Some asked) = λ x is. is

  pub plays_more : (ls : List NumberedLine) (w : WorldState) → IsKept (plays starves most ls w) (plays starves more ls w)
  plays_more [] w = λ x is. is
  plays_more (l ∷ ls) w =
      kept_then (plays starves most ls) (plays starves more ls) (plays_line starves most w l) (plays_line starves more w l) (plays_line_more w l) (plays_more ls)

  pub ends_session_more : (w : WorldState) → IsKept (ends_session starves most w) (ends_session starves more w)
  ends_session_more w = by (is_channel_open w && some_left w)
    where
      cut : WorldState
      cut = act starves w drop_channel

      by : (b : Bool) → IsKept (if b then settled starves most.draws cut else Some w) (if b then settled starves more.draws cut else Some w)
      by true = settled_more starves most.draws more.draws within.draws cut
      by false = λ x is. is

-- ---- one after the other

-- what so many steps come to, where the runs find no memory of which journals say so: more steps come to the same
abbrev pub Steady : ((Key → Bool) → Most → Option WorldState) → Type 0
Steady f = (starves : Key → Bool) (most more : Most) → AreWithin most more → IsKept (f starves most) (f starves more)

-- So many steps come to this world, where the runs find no memory of which its journals say so.
abbrev pub ComesTo : ((Key → Bool) → Most → Option WorldState) → WorldState → Type 0
ComesTo f x = (most : Most) × ((starves : Key → Bool) → MarksAgree starves (journals_in x) → f starves most ≡ Some x)

-- by way of a world whose ids rise
pub comes_then : (f : (Key → Bool) → Most → Option WorldState) (g : (Key → Bool) → Most → WorldState → Option WorldState) (w x : WorldState) → Steady f
    → Steady (λ starves most. g starves most w) → ((starves : Key → Bool) (most : Most) → GoesTo w (g starves most w)) → AreStations w.stations
    → ComesTo f w → ComesTo (λ starves most. g starves most w) x → ComesTo (λ starves most. option_and_then (g starves most) (f starves most)) x
comes_then f g w x first second goes stand (m, before) (n, after) = (
  both m n,
  λ starves agrees.
      let then_is : g starves n w ≡ Some x = after starves agrees in
      let longer = goes_longer w x (gone_to w (g starves n w) x (goes starves n) then_is) stand.rise in
      let first_is : f starves m ≡ Some w = before starves (agrees_before starves (journals_in w) (journals_in x) longer agrees) in
      ap (option_and_then (g starves (both m n))) (first starves m (both m n) (first_within m n) w first_is)
      ∙ second starves n (both m n) (second_within m n) x then_is,
)

module _ (starves : Key → Bool) (most : Most) where
  -- one line more
  pub plays_one_more : (ls : List NumberedLine) (l : NumberedLine) (w : WorldState)
      → plays starves most (ls ++ l ∷ []) w ≡ option_and_then (λ y. plays_line starves most y l) (plays starves most ls w)
  plays_one_more [] l w = by (plays_line starves most w l)
    where
      by : (o : Option WorldState) → option_and_then (plays starves most []) o ≡ o
      by None = refl
      by (Some y) = refl
  plays_one_more (k ∷ ls) l w = by (plays_line starves most w k) (plays_one_more ls l)
    where
      by : (o : Option WorldState)
          → ((y : WorldState) → plays starves most (ls ++ l ∷ []) y ≡ option_and_then (λ z. plays_line starves most z l) (plays starves most ls y))
          → option_and_then (plays starves most (ls ++ l ∷ [])) o ≡ option_and_then (λ y. plays_line starves most y l) (option_and_then (plays starves most ls) o)
      by None goes = refl
      by (Some y) goes = goes y
