-- A host's table as an object, which the threads of a host call one after the other. No public standard has one: these are this project's own rules.
use Rattle.std.specs.Prelude.{List, Option, Some, None, Ok, IsSomeAnd, filter_map}
use Rattle.rd_pending.specs.Known.{IsKnown}
use Rattle.rd_pending.specs.Table.{TableCall, TableState, TableStep, begins, begins_unfit, completes, drops, drops_sent, lives, removes, sends, stages, submits, submits_unfit, takes}
use Rattle.rd_turn.specs.declared.object.Entry.{Entry}
use Rattle.rd_table.specs.declared.calls.PendingCall.{PendingCall}
use Rattle.rd_table.specs.declared.calls.PendingCall.TheVariants as call
use Rattle.rd_table.specs.declared.calls.PendingReply.{PendingReply}
use Rattle.rd_table.specs.declared.calls.PendingReply.TheVariants as reply

-- the call of the table, with its answer, that a call and its reply tell, if the reply is one to the call
abbrev pub table_call : PendingCall → PendingReply → Option TableCall
table_call (call.Begin channel) (reply.Begun answer) = Some (begins channel answer)
table_call (call.Begin channel) reply.Unfit = Some (begins_unfit channel)
table_call (call.Live device) (reply.Lives answer) = Some (lives device answer)
table_call (call.Submit app named o) (reply.Submitted answer) = Some (submits app named o answer)
table_call (call.Submit app named o) reply.Unfit = Some (submits_unfit app named o)
table_call call.Outbox (reply.Sent answer) = Some (sends answer)
table_call (call.Complete head body) (reply.Completed answer) = Some (completes head body answer)
table_call (call.Remove device) (reply.Removed answer) = Some (removes device answer)
table_call call.DropChannel reply.Dropped = Some drops
table_call call.DropSent (reply.DroppedSent answer) = Some (drops_sent answer)
table_call (call.Take number) (reply.Taken answer) = Some (takes number answer)
table_call call.Stage (reply.Stands answer) = Some (stages answer)
table_call _ _ = None

-- the calls of the table that the entries of a history tell, in their order
abbrev pub table_calls : List (Entry PendingCall PendingReply) → List TableCall
table_calls entries = filter_map (λ (e : Entry PendingCall PendingReply). table_call e.call e.reply) entries

-- an outcome that is handed out is one that comes of a request: a body that completes it, or why there is none
abbrev pub HandsKnown : PendingReply → Type 0
HandsKnown (reply.Taken (Ok taken)) = IsKnown taken.outcome
HandsKnown _ = Unit {0}

-- The table before a call and after it: the reply is one to the call, and both are a step of the table.
abbrev pub PendingStep : TableState → PendingCall → PendingReply → TableState → Type 0
PendingStep old asked answer new = IsSomeAnd (table_call asked answer) (λ made. TableStep old made new) × HandsKnown answer
