-- How far the lines of an application have come, by what was done so far.
use Rattle.std.specs.Prelude.{◌≡◌, ℕ, List, [], ◌∷◌, ◌++◌, Option, None, Some, Ok, reverse}
use Rattle.std.proofs.Common.{suc}
use Rattle.rd_pending.specs.declared.calls.SubmitNo.{SubmitNo}
use Rattle.rd_pending.specs.declared.calls.Taken.{Taken}
use Rattle.rd_pending.specs.declared.calls.Target.{Target}
use Rattle.rd_pending.specs.Table as table
use Rattle.rd_pending.specs.Table.{submit_refusal}
use Rattle.rd_script.specs.declared.outcome.Outcome.{Outcome}
use Rattle.rd_script.specs.declared.outcome.Outcome.TheVariants as outcome
use Rattle.rd_script.specs.declared.outcome.Refusal.TheVariants as refusal
use Rattle.rd_declared.specs.Devices.{Declared}
use Rattle.rd_world.specs.Events.{refusal_of, target_of}
use Rattle.rd_world.specs.Hearing.{given_handle, holding_after, reported_outcome}
use Rattle.rd_deeds.specs.HostDeeds.{side_of}
use Rattle.rd_world.specs.Lines.{IsDue, SubmitsNothing, Waits}
use Rattle.rd_world.specs.Recording.{client_id}
use Rattle.rd_deeds.specs.Talk.{Deed, EndsWith, submits, takes}
use Rattle.rd_world.specs.World.{ApplicationState, new_application}

-- the outcome of a number was handed out
abbrev pub HandedAt : List Deed → ℕ → Taken → Type 0
HandedAt deeds number given = (later before : List Deed) × (deeds ≡ later ++ takes number ∷ before) × ((table.take (side_of client_id before).table number).1 ≡ Ok given)

-- Where an application stands after a line: what its handles hold, the number of the request that it asked for with what was handed out for it, if the line was
-- accepted, and from which point on it may issue the next one.
pub record Stage : Type 0 where
  pub holds : ApplicationState
  pub known : Option (ℕ × Taken)
  pub from : List Deed

abbrev pub first_stage : Stage
first_stage = record { holds = new_application; known = None; from = [] }

abbrev pub IsKnownAt : Option (ℕ × Taken) → List Deed → Type 0
IsKnownAt None deeds = Unit {0}
IsKnownAt (Some (number, given)) deeds = HandedAt deeds number given

-- how many requests were accepted before
abbrev pub accepted_before : List Deed → ℕ
accepted_before before = ((side_of client_id before).table).count

module _ (devices : List (ℕ × Declared)) (a : ℕ) (deeds : List Deed) where
  abbrev pub EndsRefused : Stage → Waits → Outcome → Stage → List Deed → Outcome → Type 0
  EndsRefused s x o t before why = (o ≡ why) × (t ≡ record { holds = holding_after s.holds x.asked None; known = None; from = before })

  abbrev pub EndsAccepted : Stage → Waits → Outcome → Stage → List Deed → Target → Type 0
  EndsAccepted s x o t before named =
      (given : Taken) × EndsWith deeds (submits a named (x.asked).op ∷ before) × HandedAt deeds (suc (accepted_before before)) given × (o ≡ reported_outcome given.outcome)
      × (t ≡ record { holds = holding_after s.holds x.asked (given_handle given); known = Some (suc (accepted_before before), given); from = submits a named (x.asked).op ∷ before })

  abbrev pub EndsAsked : Stage → Waits → Outcome → Stage → List Deed → Target → Option SubmitNo → Type 0
  EndsAsked s x o t before named (Some cause) = EndsRefused s x o t before (outcome.Refused (refusal_of cause))
  EndsAsked s x o t before named None = EndsAccepted s x o t before named

  abbrev pub EndsOf : Stage → Waits → Outcome → Stage → List Deed → Option Target → Type 0
  EndsOf s x o t before None = EndsRefused s x o t before (outcome.Refused refusal.NoHandle)
  EndsOf s x o t before (Some named) = EndsAsked s x o t before named (submit_refusal (side_of client_id before).table named)

  -- A line that was issued at a point ended so, which leads from one stage to the next.
  pub record IsEnded (s : Stage) (x : Waits) (o : Outcome) (t : Stage) : Type 0 where
    pub before : List Deed
    pub grown : EndsWith deeds before
    pub nothing : SubmitsNothing a before s.from
    pub known : IsKnownAt s.known before
    pub due : IsDue devices x.acts before
    pub ends : EndsOf s x o t before (target_of s.holds x.asked)

  -- lines that ended, the newest first
  abbrev pub Chain : List Waits → List Outcome → Stage → Type 0
  Chain [] [] s = s ≡ first_stage
  Chain [] (o ∷ os) s = ⊥
  Chain (x ∷ xs) [] s = ⊥
  Chain (x ∷ xs) (o ∷ os) s = (r : Stage) × Chain xs os r × IsEnded r x o s

  -- The next line's request was accepted under a number, whose outcome isn't handed out yet.
  pub record IsPending (s : Stage) (rest : List Waits) (number : ℕ) : Type 0 where
    pub next : Waits
    pub later : List Waits
    pub first : rest ≡ next ∷ later
    pub before : List Deed
    pub named : Target
    pub grown : EndsWith deeds (submits a named (next.asked).op ∷ before)
    pub nothing : SubmitsNothing a before s.from
    pub known : IsKnownAt s.known before
    pub due : IsDue devices next.acts before
    pub target : target_of s.holds next.asked ≡ Some named
    pub free : submit_refusal (side_of client_id before).table named ≡ None
    pub number_is : number ≡ suc (accepted_before before)
    pub since : SubmitsNothing a deeds (submits a named (next.asked).op ∷ before)

  -- what the application awaits
  abbrev pub StandsWith : Stage → List Waits → Option ℕ → Type 0
  StandsWith s rest None = SubmitsNothing a deeds s.from × IsKnownAt s.known deeds
  StandsWith s rest (Some number) = IsPending s rest number

  -- An application's lines ended so far, and the others are still to come.
  pub record IsTrailed (lines : List Waits) (x : ApplicationState) : Type 0 where
    pub ended : List Waits
    pub rest : List Waits
    pub whole : lines ≡ reverse ended ++ rest
    pub stage : Stage
    pub chain : Chain ended (reverse x.outcomes) stage
    pub handles : (stage.holds).handles ≡ x.handles
    pub stands : StandsWith stage rest x.awaits
