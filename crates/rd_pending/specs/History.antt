-- A table's history: the calls that did something, the newest first. Outcomes are told by it; of a `Pending` there is one in proofs alone.
use Rattle.std.specs.Prelude.{◌≡◌, ℕ, suc, ◌==◌, ◌||◌, if◌then◌else◌, Bool, true, false, List, [], ◌∷◌, ◌++◌, length, Option, Some, None, is_some, IsOk, Ok}
use Rattle.std.specs.Option.{option_map_or, unwrap_or}
use Rattle.rd_irp.specs.declared.completion.Head.{Head}
use Rattle.rd_irp.specs.declared.op.Op.{Op}
use Rattle.rd_pending.specs.declared.calls.Outcome.{Outcome}
use Rattle.rd_pending.specs.declared.calls.Taken.{Taken}
use Rattle.rd_pending.specs.declared.calls.Target.{Target}
use Rattle.rd_pending.specs.Outcomes as tidings
use Rattle.rd_pending.specs.Outcomes.{Accepted, Agrees, Tidings, accepted_outcome}
use Rattle.rd_pending.specs.Table as table
use Rattle.rd_pending.specs.Table.{MayBegin, MaySubmit, TableCall, TableState, begin, complete, device_in, drop_channel, fate_at, file_in, life_of, live, live_refusal, new_table, next_id, remove, send, submit, submit_refusal, take}

pub data Call : Type 0 where
  begins lives removes takes : ℕ → Call
  submits : ℕ → Target → Op → Call
  completes : Head → List ℕ → Call
  sends drops : Call

abbrev pub called : TableState → Call → TableState
called t (begins c) = (begin t c).0
called t (lives device) = (live t device).0
called t (removes device) = (remove t device).0
called t (takes number) = (take t number).0
called t (submits application named o) = (submit t application named o).0
called t (completes head bytes) = (complete t head bytes).0
called t sends = (send t).0
called t drops = drop_channel t

-- the table after a history
abbrev pub after : List Call → TableState
after [] = new_table
after (call ∷ before) = called (after before) call

-- a call that does something
abbrev pub May : TableState → Call → Type 0
May t (begins c) = (t.channel ≡ None) × MayBegin t c
May t (lives device) = live_refusal t device ≡ None
May t (removes device) = (c : ℕ) × (t.channel ≡ Some c)
May t (takes number) = IsOk (take t number).1
May t (submits application named o) = MaySubmit named o × (submit_refusal t named ≡ None)
May t (completes head bytes) = (c : ℕ) × (t.channel ≡ Some c) × IsOk (complete t head bytes).1
May t sends = Unit {0}
May t drops = (c : ℕ) × (t.channel ≡ Some c)

abbrev pub Holds : List Call → Type 0
Holds [] = Unit {0}
Holds (call ∷ before) = May (after before) call × Holds before

-- the request that is accepted of an application, where the table is this
abbrev pub accepted_of : TableState → ℕ → Target → Op → Accepted
accepted_of t application named o = record {
  application = application;
  channel = unwrap_or t.channel 0;
  index = t.asked;
  device = device_in named;
  file = file_in named;
  life = unwrap_or (life_of t (device_in named)) 0;
  id = next_id t;
  op = o;
}

-- The call that a step is, where it does something.
abbrev pub done_by : TableState → TableCall → List Call
done_by t (table.begins channel true) = begins channel ∷ []
done_by t (table.lives device (Ok life)) = lives device ∷ []
done_by t (table.submits application named o (Ok number)) = submits application named o ∷ []
done_by t (table.sends (Some message)) = sends ∷ []
done_by t (table.completes head bytes (Ok completed)) = completes head bytes ∷ []
done_by t (table.removes device true) = removes device ∷ []
done_by t (table.takes number (Ok taken)) = takes number ∷ []
done_by t table.drops = if is_some t.channel then drops ∷ [] else []
done_by t (table.drops_sent true) = if is_some t.channel then drops ∷ [] else []
done_by t call = []

-- With what a step did a history goes on to the table after it.
pub record ContinuesTo (h : List Call) (call : TableCall) (new : TableState) : Type 0 where
  pub holds : Holds (done_by (after h) call ++ h)
  pub is : after (done_by (after h) call ++ h) ≡ new

-- A table that came to be by calls: it is a new one after a history.
pub record IsReachedTable (t : TableState) : Type 0 where
  pub history : List Call
  pub holds : Holds history
  pub is : after history ≡ t

-- the requests that were accepted, in order: the first has the number 1
abbrev pub accepted_in : List Call → List Accepted
accepted_in [] = []
accepted_in (submits application named o ∷ before) = accepted_in before ++ accepted_of (after before) application named o ∷ []
accepted_in (call ∷ before) = accepted_in before

-- what was heard by a call
abbrev pub heard_by : Call → List Tidings
heard_by (lives device) = tidings.begins device ∷ []
heard_by (removes device) = tidings.removes device ∷ []
heard_by (completes head bytes) = tidings.completes head bytes ∷ []
heard_by _ = []

abbrev pub is_open_on : TableState → ℕ → Bool
is_open_on t c = option_map_or (λ channel. channel == c) t.channel false

-- what was heard on a channel, the oldest first
abbrev pub heard_on : ℕ → List Call → List Tidings
heard_on c [] = []
heard_on c (call ∷ before) = heard_on c before ++ (if is_open_on (after before) c then heard_by call else [])

-- how many lives were given before a channel
abbrev pub lives_before : ℕ → List Call → ℕ
lives_before c [] = 0
lives_before c (begins channel ∷ before) = if channel == c then (after before).given else lives_before c before
lives_before c (call ∷ before) = lives_before c before

-- whether a channel ended
abbrev pub ended_on : ℕ → List Call → Bool
ended_on c [] = false
ended_on c (drops ∷ before) = is_open_on (after before) c || ended_on c before
ended_on c (call ∷ before) = ended_on c before

-- What came of a request that was accepted after these: by what was heard on its channel, how many lives were given before it, and whether it ended.
abbrev pub outcome_in : List Call → List Accepted → Accepted → Option Outcome
outcome_in h earlier a = accepted_outcome earlier a (lives_before a.channel h) (heard_on a.channel h) (ended_on a.channel h)

-- Of each request that was accepted the table has what came of it: nothing yet, an outcome, or one that was handed out.
abbrev pub AreOutcomes : List Call → Type 0
AreOutcomes h = (earlier : List Accepted) (a : Accepted) (later : List Accepted) → accepted_in h ≡ earlier ++ a ∷ later
    → Agrees (fate_at (after h) (suc (length earlier))) (outcome_in h earlier a)

-- what came of a request, whether it was handed out or not
pub record CameTo (h : List Call) (a : Accepted) (outcome : Outcome) : Type 0 where
  pub earlier : List Accepted
  pub later : List Accepted
  pub accepted : accepted_in h ≡ earlier ++ a ∷ later
  pub is : outcome_in h earlier a ≡ Some outcome

-- What is handed out for a number, after the calls before, is what came of its request in the whole history, with its device and life: so it stays.
abbrev pub HandsOut : List Call → List Call → Call → Type 0
HandsOut h before (takes number) = (given : Taken) → (take (after before) number).1 ≡ Ok given
    → (a : Accepted) × (came : CameTo h a given.outcome) × (number ≡ suc (length came.earlier)) × (given.device ≡ a.device) × (given.life ≡ a.life)
HandsOut h before _ = Unit {0}
