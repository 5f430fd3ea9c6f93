-- What an application of a host does on its thread: it issues its lines one after the other, and takes what comes of each. No public standard has one: these are this project's own rules.
use Rattle.std.specs.Prelude.{◌≡◌, ◌≢◌, ◌⊎◌, ℕ, Bool, true, false, List, [], ◌∷◌, ◌++◌, None, Some, Result, Ok, Err}
use Rattle.std.specs.List.{AllByRecursion}
use Rattle.rd_irp.specs.declared.op.Op.{Op}
use Rattle.rd_irp.specs.declared.op.Op.TheVariants.{Lock, Notify}
use Rattle.rd_pending.specs.declared.calls.SubmitNo.{SubmitNo}
use Rattle.rd_pending.specs.declared.calls.SubmitNo.TheVariants as submit_no
use Rattle.rd_pending.specs.declared.calls.TakeNo.{TakeNo}
use Rattle.rd_pending.specs.declared.calls.TakeNo.TheVariants as take_no
use Rattle.rd_pending.specs.declared.calls.Taken.{Taken}
use Rattle.rd_pending.specs.Table.{TableState}
use Rattle.rd_script.specs.declared.outcome.Outcome.TheVariants as outcome
use Rattle.rd_script.specs.declared.outcome.Refusal.TheVariants as refusal
use Rattle.rd_table.specs.declared.calls.PendingCall.{PendingCall}
use Rattle.rd_table.specs.declared.calls.PendingCall.TheVariants as call
use Rattle.rd_table.specs.declared.calls.PendingReply.{PendingReply}
use Rattle.rd_table.specs.declared.calls.PendingReply.TheVariants as reply
use Rattle.rd_turn.specs.declared.object.Entry.{Entry}
use Rattle.rd_turn.specs.History.{calls_of, entry}
use Rattle.rd_turn.specs.Pass.{IsSamePass, PassState}
use Rattle.rd_world.specs.Events.{may_issue, refusal_of, target_of}
use Rattle.rd_world.specs.Hearing.{given_handle, next_asked, reported_outcome, with_outcome}
use Rattle.rd_world.specs.World.{ApplicationState, Asked}

-- ---- one thing

-- A line whose handle holds nothing is refused; or the host's table is called, with this reply.
pub data Issue : Type 0 where
  holds_nothing : Issue
  at_table : PendingCall → PendingReply → Issue

-- the line that is issued next asks for this
abbrev pub ComesNext : ApplicationState → Asked → Type 0
ComesNext x asked = (may_issue x ≡ true) × (next_asked x ≡ Some asked)

-- A request that is accepted is awaited; and a line whose request isn't is refused, for its cause.
abbrev pub after_submit : ApplicationState → Asked → Result ℕ SubmitNo → ApplicationState
after_submit x asked (Ok number) = record x { awaits = Some number }
after_submit x asked (Err cause) = with_outcome x (outcome.Refused (refusal_of cause)) None asked

-- The outcome of a request is that of its line; without one the application awaits it still.
abbrev pub after_take : ApplicationState → Asked → Result Taken TakeNo → ApplicationState
after_take x asked (Ok taken) = with_outcome x (reported_outcome taken.outcome) (given_handle taken) asked
after_take x asked (Err cause) = x

-- The application of a number does one thing: it asks for what its next line says, of the device or the file that this names, or looks for the outcome that it awaits. Want of memory
-- is no answer to the one, and that the number isn't known is none to the other.
abbrev pub Does : ℕ → ApplicationState → Issue → ApplicationState → Type 0
Does a old holds_nothing new = (asked : Asked) × ComesNext old asked × (target_of old asked ≡ None) × (new ≡ with_outcome old (outcome.Refused refusal.NoHandle) None asked)
Does a old (at_table (call.Submit application named op) (reply.Submitted answer)) new =
    (asked : Asked) × ComesNext old asked × (application ≡ a) × (target_of old asked ≡ Some named) × (op ≡ asked.op) × (answer ≢ Err submit_no.Memory) × (new ≡ after_submit old asked answer)
Does a old (at_table (call.Take number) (reply.Taken answer)) new =
    (asked : Asked) × (next_asked old ≡ Some asked) × (old.awaits ≡ Some number) × (answer ≢ Err take_no.Unknown) × (new ≡ after_take old asked answer)
Does a old _ new = ⊥

-- ---- one after the other

abbrev pub DoesAll : ℕ → ApplicationState → List Issue → ApplicationState → Type 0
DoesAll a old [] new = new ≡ old
DoesAll a old (i ∷ issues) new = (next : ApplicationState) × Does a old i next × DoesAll a next issues new

-- the calls that the pass of this number makes by that
abbrev pub calls_of_issues : ℕ → List Issue → List (Entry PendingCall PendingReply)
calls_of_issues pass [] = []
calls_of_issues pass (holds_nothing ∷ issues) = calls_of_issues pass issues
calls_of_issues pass (at_table does back ∷ issues) = entry pass does back ∷ calls_of_issues pass issues

-- An application goes on by what it does, and the own calls of its pass by the calls of that.
pub record Issues (a pass : ℕ) (old new : ApplicationState) (before after : List (Entry PendingCall PendingReply)) : Type 0 where
  pub issues : List Issue
  pub does : DoesAll a old issues new
  pub calls : after ≡ before ++ calls_of_issues pass issues

-- a call by which an application asks for something, or looks for an outcome
abbrev pub IsAsking : Entry PendingCall PendingReply → Type 0
IsAsking e = by e.call
  where
    by : PendingCall → Type 0
    by (call.Submit application named op) = Unit {0}
    by (call.Take number) = Unit {0}
    by _ = ⊥

-- The own calls of a pass go on by such calls alone.
pub record OnlyAsks (before after : List (Entry PendingCall PendingReply)) : Type 0 where
  pub more : List (Entry PendingCall PendingReply)
  pub goes_on : after ≡ before ++ more
  pub asking : AllByRecursion IsAsking more

-- a pass of a table
abbrev pub TablePass : Type 0
TablePass = PassState TableState PendingCall PendingReply

-- An application goes on with its pass: by calls that ask and take alone; and where memory was found it does what these say.
pub record Goes (a : ℕ) (found : Bool) (old new : ApplicationState) (before after : TablePass) : Type 0 where
  pub same : IsSamePass before after
  pub asks : OnlyAsks (calls_of before.number before.seen) (calls_of before.number after.seen)
  pub issued : found ≡ true → Issues a before.number old new (calls_of before.number before.seen) (calls_of before.number after.seen)

-- ---- where it stops

-- Whether what is asked for may wait as long as it likes: a lock that waits for others, or the news of a folder.
abbrev pub is_patient : Op → Bool
is_patient (Lock operation wait ranges) = wait
is_patient (Notify tree filter) = true
is_patient _ = false

-- Each line that the script came to has its outcome.
abbrev pub HasAllOutcomes : ApplicationState → Type 0
HasAllOutcomes x = (may_issue x ≡ false) × (x.awaits ≡ None)

-- The next line without an outcome is patient, and its request was accepted. The last of these calls looked for its outcome, which wasn't there yet.
pub record WaitsAt (x : ApplicationState) (calls : List (Entry PendingCall PendingReply)) : Type 0 where
  pub asked : Asked
  pub next : next_asked x ≡ Some asked
  pub patient : is_patient asked.op ≡ true
  pub number : ℕ
  pub awaits : x.awaits ≡ Some number
  pub pass : ℕ
  pub before : List (Entry PendingCall PendingReply)
  pub looked : calls ≡ before ++ entry pass (call.Take number) (reply.Taken (Err take_no.NotYet)) ∷ []

-- Of an application whose pass made these calls: each line that the script came to has its outcome, or the next one without is waited for.
abbrev pub Rests : ApplicationState → List (Entry PendingCall PendingReply) → Type 0
Rests x calls = (may_issue x ≡ false) × ((x.awaits ≡ None) ⊎ WaitsAt x calls)
