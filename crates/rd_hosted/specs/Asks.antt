-- What applications ask between the other calls of a table: entries as calls that did something.
use Rattle.std.specs.Prelude.{List, [], ◌∷◌, ◌++◌, Ok}
use Rattle.rd_pending.specs.History as call
use Rattle.rd_pending.specs.History.{Call, after}
use Rattle.rd_pending.specs.Table.{TableState}
use Rattle.rd_table.specs.Histories.{table_history}
use Rattle.rd_host_turns.specs.Turns.{TableEntry}
use Rattle.rd_table.specs.declared.calls.PendingCall.{PendingCall}
use Rattle.rd_table.specs.declared.calls.PendingCall.TheVariants as ask
use Rattle.rd_table.specs.declared.calls.PendingReply.{PendingReply}
use Rattle.rd_table.specs.declared.calls.PendingReply.TheVariants as reply

-- what an entry asks that did something
abbrev pub asked_as : PendingCall → PendingReply → List Call
asked_as (ask.Submit application named o) (reply.Submitted (Ok number)) = call.submits application named o ∷ []
asked_as (ask.Take number) (reply.Taken (Ok taken)) = call.takes number ∷ []
asked_as _ _ = []

abbrev pub asks_among : List TableEntry → List Call
asks_among [] = []
asks_among (e ∷ entries) = asked_as e.call e.reply ++ asks_among entries

-- the table after a history
abbrev pub table_at : List TableEntry → TableState
table_at seen = after (table_history seen)
