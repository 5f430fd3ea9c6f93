-- What calls of a front tell, with their replies.
use Rattle.std.specs.Prelude.{ℕ, Bool, true, false, List}
use Rattle.std.specs.List.{AllByRecursion}
use Rattle.rd_base.specs.Layout.{AreBytes}
use Rattle.rd_front.specs.declared.calls.FrontCall.{FrontCall}
use Rattle.rd_front.specs.declared.calls.FrontCall.TheVariants as call
use Rattle.rd_front.specs.declared.calls.FrontReply.{FrontReply}
use Rattle.rd_front.specs.declared.calls.FrontReply.TheVariants as reply
use Rattle.rd_front.specs.declared.calls.Rest.TheVariants as rest
use Rattle.rd_turn.specs.declared.object.Entry.{Entry}

-- a call of the front, with its reply
abbrev pub FrontEntry : Type 0
FrontEntry = Entry FrontCall FrontReply

-- after this reply nothing more is to be heard on the channel
abbrev pub hinders : FrontReply → Bool
hinders (reply.Wrong cause) = true
hinders (reply.Duplicate key) = true
hinders reply.Unfit = true
hinders reply.Memory = true
hinders _ = false

-- no memory was found for the completion that was collected last
abbrev pub RanOut : FrontReply → Type 0
RanOut (reply.Messages filled rest.Memory) = Unit {0}
RanOut _ = ⊥

-- a message that is to be heard consists of bytes
abbrev pub HearsBytes : FrontCall → Type 0
HearsBytes (call.Hear message) = AreBytes message
HearsBytes _ = Unit {0}

-- So does each that a front is called to hear.
abbrev pub HearBytes : List FrontEntry → Type 0
HearBytes entries = AllByRecursion (λ (e : FrontEntry). HearsBytes e.call) entries
