-- Where what a client did stands: by which call of its front each deed was done.
use Rattle.std.specs.Prelude.{◌≡◌, ℕ, suc, ◌==◌, true, if◌then◌else◌, List, [], ◌∷◌, ◌++◌, length, reverse, filter, filter_map}
use Rattle.rd_base.specs.declared.journal.Cause.TheVariants.{Removed}
use Rattle.rd_base.specs.declared.journal.Item.TheVariants.{Came, Cut}
use Rattle.rd_base.specs.declared.journal.Key.{Key}
use Rattle.rd_front.specs.Calls.{FrontEntry}
use Rattle.rd_front.specs.declared.calls.FrontCall.{FrontCall}
use Rattle.rd_front.specs.declared.calls.FrontCall.TheVariants as call
use Rattle.rd_front.specs.declared.calls.FrontReply.{FrontReply}
use Rattle.rd_front.specs.declared.calls.FrontReply.TheVariants as reply
use Rattle.rd_world.specs.Acts.{act_by}
use Rattle.rd_world.specs.Control.{removed}
use Rattle.rd_deeds.specs.Talk.{Deed, Has, client_read, client_wrote, is_request, stores}
use Rattle.rd_workers.specs.Logs.{given_by, messages_by}
use Rattle.rd_served_causes.specs.ServedHistories.{may_start}
use Rattle.rd_served_sessions.specs.Acts.{act_done}

-- how many requests were read on a channel
abbrev pub requests_read : ℕ → List Deed → ℕ
requests_read c deeds = length (filter is_request (client_read c deeds))

-- the channel that began last, after a call
abbrev pub begun_after : ℕ → FrontCall → FrontReply → ℕ
begun_after channel (call.Begin number) (reply.Done at full) = number
begun_after channel does back = channel

-- Where it is looked up how far the channel is, and the reply says that the client is ready, so many requests were read there before as it says.
abbrev pub LooksAt : ℕ → List Deed → FrontCall → FrontReply → Type 0
LooksAt channel before call.Look (reply.Stands true asked) = asked ≡ requests_read channel before
LooksAt channel before does back = Unit {0}

-- What was done by one call, the newest first, where this channel began last and all that is before was done already.
pub record IsDoneBy (channel : ℕ) (before : List Deed) (does : FrontCall) (back : FrontReply) (did : List Deed) : Type 0 where
  -- the message that it gave to be heard was read on that channel, unless it didn't fit or too much was to be written; nothing else was
  pub read : (c : ℕ) → client_read c did ≡ (if channel == c then given_by does back else [])
  -- the messages that its reply hands out were written, in order, on the channel that it asks for, and no others
  pub wrote : (c : ℕ) → reverse (client_wrote c did) ≡ messages_by c does back
  -- its device was removed or added, if that is done; no other was
  pub acts : filter_map act_by (reverse did) ≡ act_done does back
  -- a device was cut off as one that is gone only if it was removed by this call
  pub cuts : (device : ℕ) → Has (stores device (Cut Removed)) did → act_done does back ≡ removed device ∷ []
  -- a request came to a device only if the call may have a message heard or a job tried again; it is one of that channel
  pub comes : (device : ℕ) (key : Key) → Has (stores device (Came key)) did → (may_start does back ≡ true) × (key.channel ≡ channel)
  pub looks : LooksAt channel before does back

-- So it is of each call, in order.
abbrev pub AreDoneBy : ℕ → List Deed → List FrontEntry → List (List Deed) → Type 0
AreDoneBy channel before [] [] = Unit {0}
AreDoneBy channel before (e ∷ entries) (did ∷ later) = IsDoneBy channel before e.call e.reply did × AreDoneBy (begun_after channel e.call e.reply) (did ++ before) entries later
AreDoneBy channel before entries others = ⊥

-- all that calls did, the newest first
abbrev pub all_done_by : List (List Deed) → List Deed → List Deed
all_done_by [] before = before
all_done_by (did ∷ later) before = all_done_by later (did ++ before)

-- Deeds are those of these calls, in their order: no deed of one stands among those of another.
pub record ArePlaced (entries : List FrontEntry) (deeds : List Deed) : Type 0 where
  pub groups : List (List Deed)
  pub each : AreDoneBy 0 [] entries groups
  pub all : deeds ≡ all_done_by groups []

-- A request comes to a device only while it is the last that was read on its channel.
abbrev pub ComesLast : List Deed → Deed → Type 0
ComesLast before (stores device (Came key)) = requests_read key.channel before ≡ suc key.index
ComesLast before deed = Unit {0}
