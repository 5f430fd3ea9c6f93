-- What a history of a table says of it, whichever passes made the calls: the calls that did something, by which requests are accepted and have their
-- outcomes, and what was handed out.
use Rattle.std.specs.Prelude.{◌≡◌, ℕ, suc, ◌+◌, Bool, true, false, List, [], ◌∷◌, ◌++◌, length, Contains, MatchOption, Some, Ok}
use Rattle.std.specs.List.{flat_map}
use Rattle.rd_irp.specs.declared.op.Op.{Op}
use Rattle.rd_pending.specs.declared.calls.Outcome.{Outcome}
use Rattle.rd_pending.specs.declared.calls.Taken.{Taken}
use Rattle.rd_pending.specs.declared.calls.Target.{Target}
use Rattle.rd_pending.specs.History.{Call, accepted_of, after, begins, done_by, drops, lives, outcome_in}
use Rattle.rd_pending.specs.Outcomes.{Accepted}
use Rattle.rd_pending.specs.Table.{TableCall, TableState, known, takes, untaken_at}
use Rattle.rd_turn.specs.declared.object.Entry.{Entry}
use Rattle.rd_turn.specs.History.{entry}
use Rattle.rd_table.specs.declared.calls.PendingCall.{PendingCall}
use Rattle.rd_table.specs.declared.calls.PendingCall.TheVariants as call
use Rattle.rd_table.specs.declared.calls.PendingReply.{PendingReply}
use Rattle.rd_table.specs.declared.calls.PendingReply.TheVariants as reply
use Rattle.rd_table.specs.Calls.{table_calls}

-- a history of a table that goes on with calls: those of them that did something, the newest first, and then the history
abbrev pub done_by_all : List Call → List TableCall → List Call
done_by_all h [] = h
done_by_all h (made ∷ calls) = done_by_all (done_by (after h) made ++ h) calls

-- the history of a table that was new before these entries
abbrev pub table_history : List (Entry PendingCall PendingReply) → List Call
table_history entries = done_by_all [] (table_calls entries)

-- how many lives were given since the last channel began
abbrev pub lives_begun : List Call → ℕ
lives_begun [] = 0
lives_begun (begins channel ∷ before) = 0
lives_begun (lives device ∷ before) = lives_begun before + 1
lives_begun (done ∷ before) = lives_begun before

-- whether the last channel that began is open still
abbrev pub on_channel : List Call → Bool
on_channel [] = false
on_channel (begins channel ∷ before) = true
on_channel (drops ∷ before) = false
on_channel (done ∷ before) = on_channel before

-- the number whose outcome a call hands out, with the outcome
abbrev pub handed_out_by : TableCall → List (ℕ × Taken)
handed_out_by (takes number (Ok taken)) = (number, taken) ∷ []
handed_out_by _ = []

-- what entries hand out, in their order
abbrev pub handed_in : List (Entry PendingCall PendingReply) → List (ℕ × Taken)
handed_in entries = flat_map handed_out_by (table_calls entries)

-- One of these entries accepts this request under this number: by this pass, as that was asked, after those before it.
pub record Accepts (entries : List (Entry PendingCall PendingReply)) (number : ℕ) (a : Accepted) : Type 0 where
  pub before : List (Entry PendingCall PendingReply)
  pub later : List (Entry PendingCall PendingReply)
  pub by : ℕ
  pub application : ℕ
  pub named : Target
  pub op : Op
  pub place : entries ≡ before ++ entry by (call.Submit application named op) (reply.Submitted (Ok number)) ∷ later
  pub request : a ≡ accepted_of (after (table_history before)) application named op

-- an outcome of a request, as it is handed out
abbrev pub taken_of : Accepted → Outcome → Taken
taken_of a outcome = record { device = a.device; life = a.life; outcome = outcome }

-- A request that was accepted after others has this outcome by what was heard on its channel, and by these entries it was handed out, or the table still
-- has it.
pub record HasOutcome (entries : List (Entry PendingCall PendingReply)) (t : TableState) (earlier : List Accepted) (a : Accepted) : Type 0 where
  pub outcome : Outcome
  pub came : outcome_in (table_history entries) earlier a ≡ Some outcome
  pub place : MatchOption (untaken_at t (suc (length earlier))) (Contains (handed_in entries) (suc (length earlier), taken_of a outcome))
      (λ u. u ≡ record { device = a.device; life = a.life; fate = known outcome })
