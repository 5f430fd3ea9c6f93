-- The lines of every load are as statements on every run take them.
use Rattle.std.proofs.Common.{◌≡◌, ◌∙◌, refl, sym, subst, inl, inr, ℕ, ◌+◌, ◌*◌, ◌≤◌, arith, List, [], ◌∷◌, length, Option}
use Rattle.std.specs.Prelude.{IfSome, codes, map}
use Rattle.std.specs.List.{AllByRecursion}
use Rattle.std.proofs.lemmas.List.Elements.{All-from_recursion}
use Rattle.std.proofs.lemmas.Map.Keys.{IsStrictlyIncreasing-from_sorted}
use Rattle.rd_answered.specs.Refusing.{DeclaresInRoom}
use Rattle.rd_client.specs.Events.{AreWritable, IsWritableDevice}
use Rattle.rd_orders.proofs.ControlsNumbers.{numbers}
use Rattle.rd_orders.specs.ControlsControls.{NamesKnown}
use Rattle.rd_dirinfo.specs.declared.naming.Naming.TheVariants as naming
use Rattle.rd_drive.specs.Bounded.{IsBounded}
use Rattle.rd_drive.specs.DriveState.{empty_drive}
use Rattle.rd_loads.specs.AllPremises.{MeetPremises}
use Rattle.rd_loads.proofs.LoadedLemmas.{IsWithin, drives, each_numbered, load_devices, long_load, long_numbered, numbers_rise, within_lines}
use Rattle.rd_orders.specs.RangesRanges.{AreFreshDevices}
use Rattle.rd_answered.specs.RunsPremises.{AreBounded, AreSubmittable, DeviceFits, IsSubmittable}
use Rattle.rd_script.specs.declared.line.Line.{Line}
use Rattle.rd_script.specs.declared.line.NumberedLine.{NumberedLine}
use Rattle.rd_script.specs.Load.{load_lines, load_script, numbered}
use Rattle.rd_world.specs.Applications.{IsNumber}
use Rattle.rd_declared.specs.Devices.{Declared, declaring}
use Rattle.rd_declared.specs.Declaring.{AreDeclared, IsDeclarable, IsNotable, bare_lines, declared_devices}
use Rattle.rd_world.specs.Recording.{announced_of}
use Rattle.rd_world.specs.Run.{asked_by}
use Rattle.rd_deeds.specs.Talk.{Has}
use Rattle.rd_world.specs.World.{Asked}

-- ---- its drives

empty_bounded : (name : List ℕ) → length name ≤ 7 → IsBounded (empty_drive naming.Exact name)
empty_bounded name few = record { fitting = record { limited = refl; label = omega (arith, few); paths = (refl, tt) }; few = omega arith }

drives_bounded : AllByRecursion (λ (e : ℕ × Declared). DeviceFits (e.1).state) drives
unfolding declaring
drives_bounded = (empty_bounded (codes "LOAD") (omega arith), (empty_bounded (codes "LOADB") (omega arith), tt))

drives_fresh : AreFreshDevices drives
unfolding declaring
drives_fresh =
    (record { fit = empty_bounded (codes "LOAD") (omega arith); quiet = refl }, (record { fit = empty_bounded (codes "LOADB") (omega arith); quiet = refl }, tt))

drives_writable : AreWritable (announced_of drives)
unfolding declaring
drives_writable =
    All-from_recursion IsWritableDevice (announced_of drives) ((omega arith, omega arith, refl), ((omega arith, omega arith, refl), tt))

drives_few : length drives ≤ 32
unfolding declaring
drives_few = omega arith

-- ---- its lines

one_of : (P : NumberedLine → Type 0) (ls : List NumberedLine) (l : NumberedLine) → AllByRecursion P ls → Has l ls → P l
one_of P [] l all has = absurd has
one_of P (x ∷ ls) l all (inl same) = subst P (sym same) all.0
one_of P (x ∷ ls) l all (inr has) = one_of P ls l all.1 has

module _ (count : ℕ) (few : count ≤ 1000) where
  each : (Q : NumberedLine → Type 0) → ((n : ℕ) (l : Line) → IsWithin l → Q (record { number = n; line = l })) → AllByRecursion Q (numbered 1 (load_lines count))
  each Q own = each_numbered IsWithin Q 1 (load_lines count) own (within_lines count few)

  long : length (numbered 1 (load_lines count)) ≡ 8 * count + 12
  long = long_numbered 1 (load_lines count) ∙ long_load count

  fitting : AreSubmittable (numbered 1 (load_lines count))
  fitting l a asked has names =
      subst (λ (o : Option (ℕ × Asked)). IfSome o (λ (x : ℕ × Asked). IsSubmittable x.1)) names
      (one_of (λ (l : NumberedLine). IfSome (asked_by l.line) (λ (x : ℕ × Asked). IsSubmittable x.1)) (numbered 1 (load_lines count)) l (each _ (λ n l own. own.submittable)) has)

  declared : AreDeclared (numbered 1 (load_lines count))
  declared = record {
    each = each (λ (l : NumberedLine). IsDeclarable l.line) (λ n l own. own.declarable);
    few = subst (λ (es : List (ℕ × Declared)). length es ≤ 32) (sym (load_devices count few)) drives_few;
  }

  bounded : AreBounded (numbered 1 (load_lines count))
  bounded = subst (AllByRecursion (λ (e : ℕ × Declared). DeviceFits (e.1).state)) (sym (load_devices count few)) drives_bounded

  -- The lines of a load of so few blocks meet what every run takes of lines.
  pub loads_meet_all : MeetPremises (load_script count).lines
  loads_meet_all = record {
    run = record { fitting = fitting; declared = declared; bounded = bounded; notable = each (λ (l : NumberedLine). IsNotable l.line) (λ n l own. own.notable) };
    few = omega (arith, long, few);
    declared = each (λ (l : NumberedLine). DeclaresInRoom l.line) (λ n l own. own.writable);
    writable = subst (λ (es : List (ℕ × Declared)). AreWritable (announced_of es)) (sym (load_devices count few)) drives_writable;
    numbered = record {
      few = omega (arith, long, few);
      numbers = each (λ (l : NumberedLine). IfSome (asked_by l.line) (λ (x : ℕ × Asked). IsNumber x.0)) (λ n l own. own.numbered);
    };
    ordered = record {
      rise = IsStrictlyIncreasing-from_sorted (numbers (numbered 1 (load_lines count))) (numbers_rise 1 (load_lines count));
      known = each (λ (l : NumberedLine). NamesKnown (map (λ (d : ℕ × Declared). d.0) (declared_devices (bare_lines (numbered 1 (load_lines count))))) l.line) (λ n l own. own.known _);
    };
    fresh = subst AreFreshDevices (sym (load_devices count few)) drives_fresh;
  }
