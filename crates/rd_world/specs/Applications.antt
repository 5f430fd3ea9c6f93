-- What an application asks for by lines of a script, as its code keeps them, and the applications of a session by their numbers.
use Rattle.std.specs.Prelude.{◌≡◌, ℕ, ◌+◌, ◌<◌, ◌≤◌, Bool, List, [], ◌∷◌, ◌++◌, length, map, Option, Some, None, is_some, IfSome, IsSome, slice_get, take, Vec}
use Rattle.std.specs.List.{AllByRecursion}
use Rattle.std.specs.List.Sorted.{IsStrictlySortedBy}
use Rattle.std.specs.Map.{keys_of, lookup}
use Rattle.std.specs.Ordering.{nat_cmp}
use Rattle.std.specs.BTreeMap.{insert_entry, is_at}
use Rattle.std.specs.Option.{option_and_then, option_map, unwrap_or}
use Rattle.rd_script.specs.declared.line.Line.{Line}
use Rattle.rd_script.specs.declared.line.NumberedLine.{NumberedLine}
use Rattle.rd_irp.specs.declared.op.Op.TheVariants.{Close}
use Rattle.rd_script.specs.Rows.{max_applications}
use Rattle.rd_script.specs.Script.{max_lines}
use Rattle.rd_world.specs.Bits.{Marks}
use Rattle.rd_world.specs.Events.{may_issue}
use Rattle.rd_world.specs.Run.{applications_of, asked_by}
use Rattle.rd_world.specs.World.{ApplicationState, Asked, new_application}

-- what the line at a place asks for, if it asks for anything
abbrev pub asked_at : List NumberedLine → ℕ → Option Asked
asked_at lines place = option_map (λ (x : ℕ × Asked). x.1) (option_and_then (λ (l : NumberedLine). asked_by l.line) (slice_get lines place))

-- a line asks for this
abbrev pub AsksFor : Asked → Line → Type 0
AsksFor asked l = option_map (λ (x : ℕ × Asked). x.1) (asked_by l) ≡ Some asked

abbrev pub nothing_asked : Asked
nothing_asked = record { handle = []; device = None; op = Close }

-- what the lines at these places ask for
abbrev pub asked_lines : List NumberedLine → List ℕ → List Asked
asked_lines lines places = map (λ place. unwrap_or (asked_at lines place) nothing_asked) places

-- each of these places has a line that asks for something
abbrev pub AreAsking : List NumberedLine → List ℕ → Type 0
AreAsking lines places = (i place : ℕ) → slice_get places i ≡ Some place → IsSome (asked_at lines place)

-- ---- the applications of a session

-- a number that an application may have
abbrev pub IsNumber : ℕ → Type 0
IsNumber a = (0 < a) × (a ≤ max_applications)

-- the application with a number, which is a new one where none has it
abbrev pub application_in : List (ℕ × ApplicationState) → ℕ → ApplicationState
application_in applications a = unwrap_or (lookup (is_at (nat_cmp a)) applications) new_application

-- an application has this number
abbrev pub IsThere : List (ℕ × ApplicationState) → ℕ → Type 0
IsThere applications a = IsSome (lookup (is_at (nat_cmp a)) applications)

-- The numbers rise, and are such as applications may have.
pub record AreApplications (applications : List (ℕ × ApplicationState)) : Type 0 where
  pub rise : IsStrictlySortedBy nat_cmp (keys_of applications)
  pub numbers : AllByRecursion IsNumber (keys_of applications)

-- whether the application whose number less one is this place may issue its next line, and whether it awaits an outcome
abbrev pub issues_at : List (ℕ × ApplicationState) → ℕ → Bool
issues_at applications place = may_issue (application_in applications (place + 1))

abbrev pub awaits_at : List (ℕ × ApplicationState) → ℕ → Bool
awaits_at applications place = is_some (application_in applications (place + 1)).awaits

-- What a program keeps of applications: which of them may issue, and which await an outcome, in words of bits.
pub record KeepsApplications (applications : List (ℕ × ApplicationState)) (issuing awaiting : ℕ) : Type 0 where
  pub are : AreApplications applications
  pub issuing_marks : Marks issuing (issues_at applications) 64
  pub awaiting_marks : Marks awaiting (awaits_at applications) 64

-- A script's lines are not too many, and the application of each has a number that it may have.
pub record AreNumbered (lines : List NumberedLine) : Type 0 where
  pub few : length lines ≤ max_lines
  pub numbers : AllByRecursion (λ (l : NumberedLine). IfSome (asked_by l.line) (λ (x : ℕ × Asked). IsNumber x.0)) lines

module _ {A : Type 0} where
  -- where the lines of an application stand, as far as they were found
  abbrev pub places_in : List (ℕ × Vec ℕ A) → ℕ → List ℕ
  places_in found a = unwrap_or (option_map (λ (places : Vec ℕ A). places.items) (lookup (is_at (nat_cmp a)) found)) []

  -- A line more was found of an application.
  pub record FindsPlace (old new : List (ℕ × Vec ℕ A)) (a place : ℕ) : Type 0 where
    pub places : Vec ℕ A
    pub more : places.items ≡ places_in old a ++ place ∷ []
    pub put : new ≡ insert_entry nat_cmp old a places

  -- the applications whose lines stand at these places, to none of which their script has come
  abbrev pub standing_at : List NumberedLine → List (ℕ × Vec ℕ A) → List (ℕ × ApplicationState)
  standing_at lines found = map (λ (e : ℕ × Vec ℕ A). (e.0, record new_application { asks = asked_lines lines e.1.items })) found

  -- Where the lines of each application stand among the first so many.
  pub record ArePlaced (lines : List NumberedLine) (found : List (ℕ × Vec ℕ A)) (count : ℕ) : Type 0 where
    pub asking : AllByRecursion (λ (e : ℕ × Vec ℕ A). AreAsking lines e.1.items × (length e.1.items ≤ count)) found
    pub stand : standing_at lines found ≡ applications_of (map (λ (l : NumberedLine). l.line) (take count lines))
