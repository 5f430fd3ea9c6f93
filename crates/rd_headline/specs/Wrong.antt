-- Wrong runs, each of which one clause refuses: what the words of the headline are worth.
use Rattle.std.specs.Prelude.{ℕ, false, List, [], ◌∷◌, codes}
use Rattle.rd_base.specs.Statuses as status
use Rattle.rd_base.specs.declared.journal.Item.{Item}
use Rattle.rd_base.specs.declared.journal.Item.TheVariants.{Came, Ran, Sent}
use Rattle.rd_base.specs.declared.journal.Key.{Key}
use Rattle.rd_irp.specs.declared.completion.Body.TheVariants as body
use Rattle.rd_irp.specs.declared.completion.Head.{Head}
use Rattle.rd_irp.specs.declared.completion.Reply.{Reply}
use Rattle.rd_irp.specs.declared.op.Op.TheVariants as op
use Rattle.rd_irp.specs.declared.request.Request.{Request}
use Rattle.rd_pending.specs.Outcomes.{Accepted}
use Rattle.rd_pending.specs.Table.{known, new_table}
use Rattle.rd_pending.specs.declared.calls.Outcome.TheVariants.{Done}
use Rattle.rd_pending.specs.declared.calls.Target.TheVariants as target
use Rattle.rd_script.specs.declared.line.Line.TheVariants as line
use Rattle.rd_script.specs.declared.line.NumberedLine.{NumberedLine}
use Rattle.rd_deeds.specs.Host.{HostSide, new_side}
use Rattle.rd_world.specs.Recording.{client_id}
use Rattle.rd_deeds.specs.Talk.{Deed, host_begins, host_ends, submits}
use Rattle.rd_world.specs.Worked.{numbered}

-- the first two requests of a channel
abbrev pub first_key : Key
first_key = record { channel = 1; index = 0 }

abbrev pub second_key : Key
second_key = record { channel = 1; index = 1 }

-- a request runs, and runs again
abbrev pub ran_twice : List Item
ran_twice = Came first_key ∷ Ran first_key 0 false false ∷ Ran first_key 0 false false ∷ []

-- a completion is handed out, and nothing ran
abbrev pub sent_unrun : List Item
sent_unrun = Came first_key ∷ Sent first_key ∷ []

-- two replies
abbrev pub replied_done : Reply
replied_done = record { status = status.success; body = body.Closed }

abbrev pub replied_refused : Reply
replied_refused = record { status = status.no_such_device; body = body.Fault }

-- the second request has the first one's device and completion id: it was accepted after that was completed
abbrev pub earlier_accepted : Accepted
earlier_accepted = record { application = 1; channel = 1; index = 0; device = 1; file = 1; life = 1; id = 0; op = op.Close }

abbrev pub later_accepted : Accepted
later_accepted = record earlier_accepted { index = 1; file = 2 }

-- what a client reads of the first, where it should name the first file, and names the second
abbrev pub other_file : Request
other_file = record { device = 1; file = 2; completion = 0; op = op.Close }

-- a completion with both requests' device and completion id
abbrev pub head_of_both : Head
head_of_both = record { device = 1; completion = 0; status = status.success }

abbrev pub closed_bytes : List ℕ
closed_bytes = 0 ∷ 0 ∷ 0 ∷ 0 ∷ []

-- a request, and the end of its channel, by which it is lost; that isn't handed out
abbrev pub lost_untaken : List Deed
lost_untaken = host_ends 1 ∷ submits 1 (target.Device 1) op.Close ∷ host_begins 1 ∷ []

-- a request of which nothing was heard, on a channel that is open
abbrev pub unheard : List Deed
unheard = submits 1 (target.Device 1) op.Close ∷ host_begins 1 ∷ []

-- a host whose first request is done, which wasn't handed out yet
abbrev pub knows_first : HostSide
knows_first = record (new_side client_id) { table = record new_table { count = 1; untaken = (1, record { device = 1; life = 1; fate = known (Done replied_done) }) ∷ [] } }

-- a device is declared, and removed on the channel that begins before the lines
abbrev pub removing_lines : List NumberedLine
removing_lines = numbered 1 (line.Drive 1 (codes "ONE")) ∷ numbered 2 (line.Remove 1) ∷ []
