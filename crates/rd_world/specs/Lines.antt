-- How the lines of applications come out: where each is issued, and what came of it.
use Rattle.std.specs.Prelude.{◌≡◌, ℕ, suc, ◌≤◌, ◌==◌, Bool, false, if◌then◌else◌, List, [], ◌∷◌, ◌++◌, filter, filter_map, length, take, Option, Some, None, Ok, slice_get}
use Rattle.std.specs.List.{list_any, range_with_len, flat_map}
use Rattle.std.specs.Option.{option_and_then, option_map_or}
use Rattle.rd_irp.specs.declared.op.Op.{Op}
use Rattle.rd_irp.specs.Written.{request_bytes}
use Rattle.rd_pending.specs.declared.calls.Handle.{Handle}
use Rattle.rd_pending.specs.declared.calls.Outcome as table_outcome
use Rattle.rd_pending.specs.declared.calls.SubmitNo.{SubmitNo}
use Rattle.rd_pending.specs.declared.calls.Taken.{Taken}
use Rattle.rd_pending.specs.declared.calls.Target.{Target}
use Rattle.rd_pending.specs.History.{outcome_in}
use Rattle.rd_pending.specs.Outcomes.{Accepted}
use Rattle.rd_pending.specs.Table as table
use Rattle.rd_pending.specs.Table.{device_in, file_in, next_id, submit_refusal}
use Rattle.rd_script.specs.declared.line.NumberedLine.{NumberedLine}
use Rattle.rd_script.specs.declared.outcome.Outcome.{Outcome}
use Rattle.rd_script.specs.declared.outcome.Outcome.TheVariants as outcome
use Rattle.rd_script.specs.declared.outcome.Refusal.TheVariants as refusal
use Rattle.rd_script.specs.Report.{numbered_from}
use Rattle.rd_script.specs.Rows.{max_applications}
use Rattle.rd_world.specs.Acts.{Opens, act_by, first_control_of}
use Rattle.rd_world.specs.Control.{Control, controlled}
use Rattle.rd_declared.specs.Devices.{Declared}
use Rattle.rd_world.specs.Events.{refusal_of, target_of}
use Rattle.rd_world.specs.Hearing.{given_handle, holding_after, reported_outcome}
use Rattle.rd_deeds.specs.HostDeeds.{calls_of, side_of}
use Rattle.rd_deeds.specs.Joining.{accepted}
use Rattle.rd_world.specs.Recording.{client_id}
use Rattle.rd_world.specs.Run.{asked_by}
use Rattle.rd_deeds.specs.Talk.{Deed, EndsWith, client_wrote, has_ended, host_begins, host_read, host_wrote, is_open_at, is_request, on, submits, takes}
use Rattle.rd_world.specs.World.{ApplicationState, Asked, new_application}

-- ---- requests

-- what came of the request with so many accepted before it
abbrev pub outcome_at : List Deed → ℕ → Option table_outcome.Outcome
outcome_at deeds count = option_and_then (λ (a : Accepted). outcome_in (calls_of client_id deeds) (take count (accepted client_id deeds)) a) (slice_get (accepted client_id deeds) count)

-- whether an application's request is accepted by a deed
abbrev pub is_submission_of : ℕ → Deed → Bool
is_submission_of a (submits application named o) = application == a
is_submission_of a _ = false

-- the application has no request accepted between two points
abbrev pub SubmitsNothing : ℕ → List Deed → List Deed → Type 0
SubmitsNothing a later earlier = (between : List Deed) × (later ≡ between ++ earlier) × (list_any (is_submission_of a) between ≡ false)

-- what a handle is given by the outcome of a request with so many accepted before it
abbrev pub given_at : List Deed → ℕ → table_outcome.Outcome → Option Handle
given_at deeds count o =
    option_and_then (λ (a : Accepted). given_handle (record { device = a.device; life = a.life; outcome = o })) (slice_get (accepted client_id deeds) count)

-- The outcome of the request with a number was handed out: one of these deeds is that its number was taken, and this is what the host's table gave for it.
pub record IsHandedOut (number : ℕ) (came : table_outcome.Outcome) (deeds : List Deed) : Type 0 where
  pub later : List Deed
  pub before : List Deed
  pub taken : deeds ≡ later ++ takes number ∷ before
  pub given : Taken
  pub gives : (table.take (side_of client_id before).table number).1 ≡ Ok given
  pub came_is : given.outcome ≡ came

-- ---- where a line is issued

-- A line of an application: what it asks for, and how many acts the control lines before it come to.
pub record Waits : Type 0 where
  pub asked : Asked
  pub acts : ℕ

-- the channel that began last, 0 where none did
abbrev pub last_begun : List Deed → ℕ
last_begun [] = 0
last_begun (host_begins channel ∷ before) = channel
last_begun (deed ∷ before) = last_begun before

-- A line is issued at the earliest after what the control lines before it did, and after the opening of the channel that began last.
pub record IsDue (devices : List (ℕ × Declared)) (acts : ℕ) (before : List Deed) : Type 0 where
  pub acted : acts ≤ length (filter_map act_by before)
  pub opened : Opens devices before (last_begun before)

-- ---- how it ends

-- how what comes after goes on: with what the application's handles hold, with what it receives first, and from a point on
abbrev GoesOn : Type 1
GoesOn = ApplicationState → (List Deed → Type 0) → List Deed → Type 0

module _ (devices : List (ℕ × Declared)) (deeds : List Deed) (a : ℕ) where
  -- A line is refused.
  abbrev pub IsRefused : ApplicationState → Asked → Outcome → GoesOn → List Deed → Outcome → Type 0
  IsRefused holds x o goes_on before why = (o ≡ why) × goes_on (holding_after holds x None) (λ later. Unit {0}) before

  -- A line's request is accepted next, before which so many were accepted, and its outcome is what came of that. What comes after goes on once that was
  -- handed out for the request's number.
  abbrev pub IsAccepted : ApplicationState → Asked → Outcome → GoesOn → List Deed → Target → ℕ → Type 0
  IsAccepted holds x o goes_on before named count =
      (after : List Deed) × (deeds ≡ after ++ submits a named x.op ∷ before) × (came : table_outcome.Outcome) × (outcome_at deeds count ≡ Some came)
      × (o ≡ reported_outcome came) × goes_on (holding_after holds x (given_at deeds count came)) (IsHandedOut (suc count) came) (submits a named x.op ∷ before)

  -- what a line asks for of what it names, which the host's table refuses or not
  abbrev pub AskedEnds : ApplicationState → Asked → Outcome → GoesOn → List Deed → Target → Option SubmitNo → Type 0
  AskedEnds holds x o goes_on before named (Some cause) = IsRefused holds x o goes_on before (outcome.Refused (refusal_of cause))
  AskedEnds holds x o goes_on before named None = IsAccepted holds x o goes_on before named ((side_of client_id before).table).count

  -- A line that is issued at a point ends so: it is refused where its handle's name holds no handle, or where the host's table refuses it then.
  abbrev pub LineEnds : ApplicationState → Asked → Outcome → GoesOn → List Deed → Option Target → Type 0
  LineEnds holds x o goes_on before None = IsRefused holds x o goes_on before (outcome.Refused refusal.NoHandle)
  LineEnds holds x o goes_on before (Some named) = AskedEnds holds x o goes_on before named (submit_refusal (side_of client_id before).table named)

  -- The lines of an application end so, one after the other, from a point on. A line is issued where it is due, once the application has received the
  -- outcome of the line before; and at the end it has received that of the last one.
  abbrev pub LinesEnd : ApplicationState → List Waits → List Outcome → (List Deed → Type 0) → List Deed → Type 0
  LinesEnd holds [] [] HasReceived from = SubmitsNothing a deeds from × HasReceived deeds
  LinesEnd holds [] (o ∷ os) HasReceived from = ⊥
  LinesEnd holds (x ∷ xs) [] HasReceived from = ⊥
  LinesEnd holds (x ∷ xs) (o ∷ os) HasReceived from =
      (before : List Deed) × SubmitsNothing a before from × HasReceived before × IsDue devices x.acts before
      × LineEnds holds x.asked o (λ next received after. LinesEnd next xs os received after) before (target_of holds x.asked)

-- the lines of an application, after what control lines come to
abbrev pub waits_after : ℕ → Control → List NumberedLine → List Waits
waits_after a c [] = []
waits_after a c (l ∷ ls) =
    option_map_or (λ asked. record { asked = asked; acts = length c.acts } ∷ []) (option_and_then (λ (x : ℕ × Asked). on a x.0 x.1) (asked_by l.line)) []
    ++ waits_after a (controlled c l.number l.line) ls

-- the lines of an application in a script
abbrev pub waits_of : List (ℕ × Declared) → ℕ → List NumberedLine → List Waits
waits_of devices a lines = waits_after a (first_control_of devices) lines

-- ---- what is sent and heard

-- the message of a request that is accepted after deeds
abbrev pub message_of : List Deed → Target → Op → List ℕ
message_of before named o =
    request_bytes (record { device = device_in named; file = file_in named; completion = next_id (side_of client_id before).table; op = o })

-- the messages of the requests that were accepted on a channel, the newest first
abbrev pub submitted : ℕ → List Deed → List (List ℕ)
submitted c [] = []
submitted c (submits application named o ∷ before) = if is_open_at c before then message_of before named o ∷ submitted c before else submitted c before
submitted c (deed ∷ before) = submitted c before

-- Each line of an application has its one outcome, which was handed out where its request was accepted. The requests on a channel are those that were
-- accepted there, in order, all of them where it didn't end; and what the client wrote there is heard, all of it where it didn't end.
pub record HaveOutcomes (devices : List (ℕ × Declared)) (lines : List NumberedLine) (told : List ((ℕ × ℕ) × Outcome)) (deeds : List Deed) : Type 0 where
  pub outcomes : ℕ → List Outcome
  pub each : told ≡ flat_map (λ a. numbered_from a 1 (outcomes a)) (range_with_len 1 max_applications)
  pub lines_end : (a : ℕ) → LinesEnd devices deeds a new_application (waits_of devices a lines) (outcomes a) (λ later. Unit {0}) []
  pub requests : (c : ℕ) → EndsWith (submitted c deeds) (filter is_request (host_wrote c deeds))
  pub all_sent : (c : ℕ) → has_ended c deeds ≡ false → filter is_request (host_wrote c deeds) ≡ submitted c deeds
  pub all_heard : (c : ℕ) → has_ended c deeds ≡ false → host_read c deeds ≡ client_wrote c deeds
