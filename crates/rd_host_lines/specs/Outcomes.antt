-- What came of each line of a host's applications, along the one history of its table.
use Rattle.std.specs.Prelude.{◌≡◌, ◌≢◌, ℕ, List, [], ◌∷◌, ◌++◌, map, filter_map, slice_get, length, Option, Some, None, Result, Ok, Err, if◌then◌else◌, ◌==◌}
use Rattle.std.specs.List.{AllByRecursion, flat_map, range_with_len}
use Rattle.std.specs.Option.{option_and_then}
use Rattle.rd_issuer.specs.declared.issuer.Issuer.{Issuer}
use Rattle.rd_pending.specs.declared.calls.SubmitNo.{SubmitNo}
use Rattle.rd_pending.specs.declared.calls.SubmitNo.TheVariants as submit_no
use Rattle.rd_pending.specs.declared.calls.Taken.{Taken}
use Rattle.rd_pending.specs.declared.calls.Target.{Target}
use Rattle.rd_script.specs.declared.line.NumberedLine.{NumberedLine}
use Rattle.rd_script.specs.declared.outcome.Outcome.{Outcome}
use Rattle.rd_script.specs.declared.outcome.Outcome.TheVariants as outcome
use Rattle.rd_script.specs.declared.outcome.Refusal.TheVariants as refusal
use Rattle.rd_table.specs.declared.calls.PendingCall.{PendingCall}
use Rattle.rd_table.specs.declared.calls.PendingCall.TheVariants as call
use Rattle.rd_table.specs.declared.calls.PendingReply.TheVariants as reply
use Rattle.rd_turn.specs.History.{entry}
use Rattle.rd_world.specs.Events.{refusal_of, target_of}
use Rattle.rd_world.specs.Hearing.{given_handle, holding_after, reported_outcome}
use Rattle.rd_world.specs.Report.{outcomes_under}
use Rattle.rd_world.specs.Run.{asked_by}
use Rattle.rd_world.specs.World.{ApplicationState, Asked, new_application}
use Rattle.rd_host_session.specs.Hosted.{issuers_of}
use Rattle.rd_host_turns.specs.Turns.{TableEntry}

-- ---- requests of an application

-- a call that is no request of this application
abbrev pub IsNoRequestOf : ℕ → PendingCall → Type 0
IsNoRequestOf a (call.Submit application named op) = application ≢ a
IsNoRequestOf a _ = Unit {0}

-- None of these calls is a request of it.
abbrev pub AsksNothing : ℕ → List TableEntry → Type 0
AsksNothing a entries = AllByRecursion (λ (e : TableEntry). IsNoRequestOf a e.call) entries

-- ---- a line

-- what holds of what comes after: with what the application's handles hold (`handles`, all else is as at first), and with the rest of the history
abbrev AndThen : Type 1
AndThen = ApplicationState → List TableEntry → Type 0

module _ (a : ℕ) where
  -- A request was answered so; these calls came behind it. Where it was refused, its line was, for that cause. Where it was accepted under a number, one of them took for this number what became
  -- the outcome of the line; and between the two the application asked for nothing.
  abbrev pub AnswerCame : ApplicationState → Asked → Outcome → AndThen → Result ℕ SubmitNo → List TableEntry → Type 0
  AnswerCame holds x o goes_on (Err cause) after = (cause ≢ submit_no.Memory) × (o ≡ outcome.Refused (refusal_of cause)) × goes_on (holding_after holds x None) after
  AnswerCame holds x o goes_on (Ok number) after =
      (between : List TableEntry) × (by : ℕ) × (taken : Taken) × (rest : List TableEntry) × (after ≡ between ++ entry by (call.Take number) (reply.Taken (Ok taken)) ∷ rest) × AsksNothing a between
      × (o ≡ reported_outcome taken.outcome) × goes_on (holding_after holds x (given_handle taken)) rest

  -- What came of a line that names this, or nothing. Where its handle holds nothing the line was refused without a call. Else the next request of the application in these calls is that of the line.
  abbrev pub LineCame : ApplicationState → Asked → Outcome → AndThen → List TableEntry → Option Target → Type 0
  LineCame holds x o goes_on entries None = (o ≡ outcome.Refused refusal.NoHandle) × goes_on (holding_after holds x None) entries
  LineCame holds x o goes_on entries (Some named) =
      (between : List TableEntry) × (by : ℕ) × (answer : Result ℕ SubmitNo) × (after : List TableEntry) × (entries ≡ between ++ entry by (call.Submit a named x.op) (reply.Submitted answer) ∷ after)
      × AsksNothing a between × AnswerCame holds x o goes_on answer after

  -- What came of the lines of an application, one after the other, each by calls behind those of the line before. It asked for nothing else.
  abbrev pub LinesCame : ApplicationState → List Asked → List Outcome → List TableEntry → Type 0
  LinesCame holds [] [] entries = AsksNothing a entries
  LinesCame holds [] (o ∷ os) entries = ⊥
  LinesCame holds (x ∷ xs) [] entries = ⊥
  LinesCame holds (x ∷ xs) (o ∷ os) entries = LineCame holds x o (λ next rest. LinesCame next xs os rest) entries (target_of holds x)

-- ---- all lines

-- what a line asks for, where it is one of this application
abbrev pub line_under : ℕ → ℕ × Asked → Option Asked
line_under a x = if x.0 == a then Some x.1 else None

-- what the lines of an application ask for
abbrev pub asks_under : ℕ → List NumberedLine → List Asked
asks_under a lines = filter_map (λ (l : NumberedLine). option_and_then (line_under a) (asked_by l.line)) lines

-- The applications have the numbers of the script's. Each line of theirs has its one outcome, which came so along these calls; no other application asked for anything.
pub record AllCame (lines : List NumberedLine) (issuers : List Issuer) (entries : List TableEntry) : Type 0 where
  pub numbers : map (λ (i : Issuer). i.number) issuers ≡ map (λ (i : Issuer). i.number) (issuers_of lines)
  pub each : (place : ℕ) (i : Issuer) → slice_get issuers place ≡ Some i → LinesCame i.number new_application (asks_under i.number lines) (i.application).outcomes entries
  pub others : (a : ℕ) → ((place : ℕ) (i : Issuer) → slice_get issuers place ≡ Some i → i.number ≢ a) → AsksNothing a entries

-- ---- what is told

-- what is told of the lines of an application
abbrev pub issuer_told : Issuer → List ((ℕ × ℕ) × Outcome)
issuer_told i = outcomes_under (i.number, i.application)

-- the lines of an application of a script, each by the application's number and its own, from 1 on
abbrev pub lines_under : List NumberedLine → ℕ → List (ℕ × ℕ)
lines_under lines a = map (λ (n : ℕ). (a, n)) (range_with_len 1 (length (asks_under a lines)))

-- What is told is what came of the lines of these applications, one application after the other: each line of the script stands there once, by application and then by place.
pub record IsAllTold (lines : List NumberedLine) (issuers : List Issuer) (told : List ((ℕ × ℕ) × Outcome)) : Type 0 where
  pub listed : told ≡ flat_map issuer_told issuers
  pub each : map (λ (t : (ℕ × ℕ) × Outcome). t.0) told ≡ flat_map (lines_under lines) (map (λ (i : Issuer). i.number) (issuers_of lines))
