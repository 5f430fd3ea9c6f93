-- Which keys came, what is ready at a station, and that what was read has room.
use Rattle.std.proofs.Common.{◌==◌, eq-eqb, eqb-true, Bool, List, [], ap, false, inl, inr, refl, subst, sym, true, ◌&&◌, ◌∷◌, ◌≡◌}
use Rattle.std.specs.Prelude.{◌||◌, None, Option, Some}
use Rattle.rd_station.specs.Station as station
use Rattle.rd_base.specs.declared.journal.Item.{Item}
use Rattle.rd_base.specs.declared.journal.Item.TheVariants.{Came, Cancelled, Cut, Ran, Sent}
use Rattle.rd_base.specs.declared.journal.Key.{Key}
use Rattle.rd_runs.proofs.Parts.{IsBehind}
use Rattle.rd_script.specs.declared.line.NumberedLine.{NumberedLine}
use Rattle.rd_station.specs.Station.{StationState, collect_first, held, new_station, put_refusal, put_unless}
use Rattle.rd_station.specs.declared.answers.Completion.{Completion}
use Rattle.rd_deeds.specs.Talk.{Has}
use Rattle.rd_world.specs.World.{WorldState}
use Rattle.rd_declared.specs.declared.device.SessionDevice.{SessionDevice}
use Rattle.rd_station.specs.Station.{is_key}
use Rattle.rd_runs.proofs.Together.{knows}
use Rattle.rd_runs.specs.Premises.{RunPremises}
use Rattle.rd_deeds.specs.Told.{came, came_as}
use Rattle.rd_deeds.proofs.Joined.{carried_now}
use Rattle.rd_world.specs.Recording.{client_id}
use Rattle.rd_journals.proofs.RoomLemmas.{read_roomy}
use Rattle.rd_journals.specs.Jobs.{AreFine, FitsCompletion}

abbrev Of : Type 0
Of = StationState SessionDevice

pub came_true : (k : Key) (j : List Item) → Has (Came k) j → came k.channel j k.index ≡ true
came_true k [] has = absurd has
came_true k (x ∷ j) (inl same) = by (came_as k.channel k.index x) (subst (λ (y : Item). came_as k.channel k.index y ≡ true) same own)
  where
    own : (k.channel == k.channel && k.index == k.index) ≡ true
    own = rw (eq-eqb k.channel k.channel refl, eq-eqb k.index k.index refl) refl

    by : (b : Bool) → b ≡ true → (b || came k.channel j k.index) ≡ true
    by true e = refl
    by false e = absurd (cc e)
came_true k (x ∷ j) (inr has) = by (came_as k.channel k.index x) (came_true k j has)
  where
    by : (b : Bool) → came k.channel j k.index ≡ true → (b || came k.channel j k.index) ≡ true
    by true e = refl
    by false e = e

came_has : (k : Key) (j : List Item) → came k.channel j k.index ≡ true → Has (Came k) j
came_has k [] e = absurd (cc e)
came_has k (Came l ∷ j) e = by (l.channel == k.channel) refl (l.index == k.index) refl e (came_has k j)
  where
    by : (a : Bool) → (l.channel == k.channel) ≡ a → (b : Bool) → (l.index == k.index) ≡ b → ((a && b) || came k.channel j k.index) ≡ true → (came k.channel j k.index ≡ true → Has (Came k) j) → Has (Came k) (Came l ∷ j)
    by true f true g e later = inl (λ i. Came (record { channel = sym (eqb-true l.channel k.channel f) i; index = sym (eqb-true l.index k.index g) i }))
    by true f false g e later = inr (later e)
    by false f b g e later = inr (later e)
came_has k (Ran l m s p ∷ j) e = inr (came_has k j e)
came_has k (Cancelled l ∷ j) e = inr (came_has k j e)
came_has k (Sent l ∷ j) e = inr (came_has k j e)
came_has k (Cut cause ∷ j) e = inr (came_has k j e)

pub never_came : (k : Key) (j : List Item) → (Has (Came k) j → ⊥) → came k.channel j k.index ≡ false
never_came k j none = by (came k.channel j k.index) refl
  where
    by : (b : Bool) → came k.channel j k.index ≡ b → b ≡ false
    by true e = absurd (none (came_has k j e))
    by false e = refl

pub was_ready : (s after : Of) (x : Completion) → station.collect s ≡ (after, Some x) → Has x s.ready
was_ready s after x = by s.ready
  where
    by : (cs : List Completion) → collect_first s cs ≡ (after, Some x) → Has x cs
    by [] same = let nothing : None ≡ Some x = ap (λ (r : Of × Option Completion). r.1) same in absurd (cc (nothing))
    by (y ∷ ys) same = let one : Some y ≡ Some x = ap (λ (r : Of × Option Completion). r.1) same in let equal : y ≡ x = cc in inl (sym equal)

pub fines : (lines : List NumberedLine) (starves : Key → Bool) (premises : RunPremises lines) (w : WorldState) → IsBehind lines starves w → AreFine FitsCompletion w.deeds
fines lines starves premises w behind = let k = knows lines starves premises w behind in read_roomy client_id w.deeds k.stands.host.may (carried_now w.deeds k.carries.each)
