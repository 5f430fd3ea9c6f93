-- A table's reply to a call is one to that call.
use Rattle.std.proofs.Common.{◌≡◌, refl, subst, ℕ, Bool, List, [], ◌∷◌, ◌++◌, Option, Result}
use Rattle.rd_irp.specs.declared.completion.Head.{Head}
use Rattle.rd_pending.specs.declared.calls.CompleteNo.{CompleteNo}
use Rattle.rd_pending.specs.declared.calls.Completed.{Completed}
use Rattle.rd_pending.specs.declared.calls.LiveNo.{LiveNo}
use Rattle.rd_pending.specs.Table.{TableState}
use Rattle.rd_table.specs.declared.calls.PendingCall.{PendingCall}
use Rattle.rd_table.specs.declared.calls.PendingCall.TheVariants as table
use Rattle.rd_table.specs.declared.calls.PendingReply.{PendingReply}
use Rattle.rd_table.specs.declared.calls.PendingReply.TheVariants as replied
use Rattle.rd_table.specs.Calls.{PendingStep}
use Rattle.rd_turn.specs.History.{IsLegal, entry}
use Rattle.rd_turn.proofs.HistoryLemmas.{Leads-parted}
use Rattle.rd_host_front.specs.State.{FrontPassCalls, FrontPassState, PassCalls, PassOfTable, TurnOfTable}

-- a table that gives this reply to a call, and what is left of it
pub record IsReplied (does : PendingCall) (r : PendingReply) : Type 0 where
  pub before : TableState
  pub after : TableState
  pub step : PendingStep before does r after

-- what a pass has seen after a call ends with a reply that the table gives there
pub pass_replied : (turn : TurnOfTable) (old new : PassOfTable) (does : PendingCall) (r : PendingReply) → PassCalls turn old does r new → IsReplied does r
pass_replied turn old new does r calls =
    let added = calls.called.0 in
    let whole = subst (λ es. IsLegal PendingStep turn.opening es) calls.called.1 calls.legal in
    let parted = Leads-parted PendingStep turn.opening (old.seen ++ added) (entry old.number does r ∷ []) whole.0 whole.1 in
    record { before = parted.0; after = (parted.2).0; step = (parted.2).1 }

pub front_replied : (old new : FrontPassState) (does : PendingCall) (r : PendingReply) → FrontPassCalls old does r new → IsReplied does r
front_replied old new does r calls = pass_replied old.turn old.pass new.pass does r calls.calls

pub lives_reply : (device : ℕ) (r : PendingReply) → IsReplied (table.Live device) r → (answer : Result ℕ LiveNo) × (r ≡ replied.Lives answer)
lives_reply device (replied.Begun answer) is = absurd (is.step).0
lives_reply device (replied.Lives answer) is = (answer, refl)
lives_reply device (replied.Submitted answer) is = absurd (is.step).0
lives_reply device replied.Unfit is = absurd (is.step).0
lives_reply device (replied.Sent answer) is = absurd (is.step).0
lives_reply device (replied.Completed answer) is = absurd (is.step).0
lives_reply device (replied.Removed answer) is = absurd (is.step).0
lives_reply device replied.Dropped is = absurd (is.step).0
lives_reply device (replied.DroppedSent answer) is = absurd (is.step).0
lives_reply device (replied.Taken answer) is = absurd (is.step).0
lives_reply device (replied.Stands answer) is = absurd (is.step).0

pub completed_reply : (head : Head) (body : List ℕ) (r : PendingReply) → IsReplied (table.Complete head body) r → (answer : Result Completed CompleteNo) × (r ≡ replied.Completed answer)
completed_reply head body (replied.Begun answer) is = absurd (is.step).0
completed_reply head body (replied.Lives answer) is = absurd (is.step).0
completed_reply head body (replied.Submitted answer) is = absurd (is.step).0
completed_reply head body replied.Unfit is = absurd (is.step).0
completed_reply head body (replied.Sent answer) is = absurd (is.step).0
completed_reply head body (replied.Completed answer) is = (answer, refl)
completed_reply head body (replied.Removed answer) is = absurd (is.step).0
completed_reply head body replied.Dropped is = absurd (is.step).0
completed_reply head body (replied.DroppedSent answer) is = absurd (is.step).0
completed_reply head body (replied.Taken answer) is = absurd (is.step).0
completed_reply head body (replied.Stands answer) is = absurd (is.step).0

pub removed_reply : (device : ℕ) (r : PendingReply) → IsReplied (table.Remove device) r → (answer : Bool) × (r ≡ replied.Removed answer)
removed_reply device (replied.Begun answer) is = absurd (is.step).0
removed_reply device (replied.Lives answer) is = absurd (is.step).0
removed_reply device (replied.Submitted answer) is = absurd (is.step).0
removed_reply device replied.Unfit is = absurd (is.step).0
removed_reply device (replied.Sent answer) is = absurd (is.step).0
removed_reply device (replied.Completed answer) is = absurd (is.step).0
removed_reply device (replied.Removed answer) is = (answer, refl)
removed_reply device replied.Dropped is = absurd (is.step).0
removed_reply device (replied.DroppedSent answer) is = absurd (is.step).0
removed_reply device (replied.Taken answer) is = absurd (is.step).0
removed_reply device (replied.Stands answer) is = absurd (is.step).0

pub sent_reply : (r : PendingReply) → IsReplied table.Outbox r → (answer : Option (List ℕ)) × (r ≡ replied.Sent answer)
sent_reply (replied.Begun answer) is = absurd (is.step).0
sent_reply (replied.Lives answer) is = absurd (is.step).0
sent_reply (replied.Submitted answer) is = absurd (is.step).0
sent_reply replied.Unfit is = absurd (is.step).0
sent_reply (replied.Sent answer) is = (answer, refl)
sent_reply (replied.Completed answer) is = absurd (is.step).0
sent_reply (replied.Removed answer) is = absurd (is.step).0
sent_reply replied.Dropped is = absurd (is.step).0
sent_reply (replied.DroppedSent answer) is = absurd (is.step).0
sent_reply (replied.Taken answer) is = absurd (is.step).0
sent_reply (replied.Stands answer) is = absurd (is.step).0

pub dropped_reply : (r : PendingReply) → IsReplied table.DropChannel r → r ≡ replied.Dropped
dropped_reply (replied.Begun answer) is = absurd (is.step).0
dropped_reply (replied.Lives answer) is = absurd (is.step).0
dropped_reply (replied.Submitted answer) is = absurd (is.step).0
dropped_reply replied.Unfit is = absurd (is.step).0
dropped_reply (replied.Sent answer) is = absurd (is.step).0
dropped_reply (replied.Completed answer) is = absurd (is.step).0
dropped_reply (replied.Removed answer) is = absurd (is.step).0
dropped_reply replied.Dropped is = refl
dropped_reply (replied.DroppedSent answer) is = absurd (is.step).0
dropped_reply (replied.Taken answer) is = absurd (is.step).0
dropped_reply (replied.Stands answer) is = absurd (is.step).0

pub dropped_sent_reply : (r : PendingReply) → IsReplied table.DropSent r → (answer : Bool) × (r ≡ replied.DroppedSent answer)
dropped_sent_reply (replied.Begun answer) is = absurd (is.step).0
dropped_sent_reply (replied.Lives answer) is = absurd (is.step).0
dropped_sent_reply (replied.Submitted answer) is = absurd (is.step).0
dropped_sent_reply replied.Unfit is = absurd (is.step).0
dropped_sent_reply (replied.Sent answer) is = absurd (is.step).0
dropped_sent_reply (replied.Completed answer) is = absurd (is.step).0
dropped_sent_reply (replied.Removed answer) is = absurd (is.step).0
dropped_sent_reply replied.Dropped is = absurd (is.step).0
dropped_sent_reply (replied.DroppedSent answer) is = (answer, refl)
dropped_sent_reply (replied.Taken answer) is = absurd (is.step).0
dropped_sent_reply (replied.Stands answer) is = absurd (is.step).0
