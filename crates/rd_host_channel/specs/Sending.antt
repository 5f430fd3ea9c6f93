-- What the thread that writes a channel does: which messages it is handed by its calls of the front, and what stands of them in the half that it writes to.
use Rattle.std.specs.Prelude.{◌≡◌, ℕ, Bool, true, false, List, [], ◌∷◌, ◌++◌}
use Rattle.rd_carry.specs.Outgoing.{OutgoingState}
use Rattle.rd_host_front.specs.declared.calls.HostFrontReply.{HostFrontReply}
use Rattle.rd_host_front.specs.declared.calls.HostFrontReply.TheVariants as reply
use Rattle.rd_host_front.specs.declared.calls.Stop.{Stop}
use Rattle.rd_host_front.specs.declared.calls.Stop.TheVariants as stop
use Rattle.rd_host_channel.specs.Calls.{AllAskFor, HostEntry, HostPass, MakesCalls, messages_for}
use Rattle.rd_host_channel.specs.Putting.{PutsOn, PutsTo}
use Rattle.rd_host_channel.specs.declared.sending.Took.{Took}
use Rattle.rd_host_channel.specs.declared.sending.Took.TheVariants as took

-- whether there will be no messages any more
abbrev pub is_over : Took → Bool
is_over took.Over = true
is_over _ = false

abbrev pub is_over_by : Stop → Bool
is_over_by stop.Over = true
is_over_by _ = false

module _ {W : Type 0} where
  -- a reply says that the channel is over
  abbrev pub SaysOver : HostFrontReply W → Type 0
  SaysOver (reply.Messages filled stop.Over) = Unit {0}
  SaysOver _ = ⊥

  -- The reply to the last of these calls does.
  pub record EndsOver (calls : List (HostEntry W)) : Type 0 where
    pub before : List (HostEntry W)
    pub last : HostEntry W
    pub calls_are : calls ≡ before ++ last ∷ []
    pub says : SaysOver last.reply

module _ {F W : Type 0} where
  -- A pass made calls for messages of a channel, which were put to its half, but once no memory was found for one. If there will be no more, and memory was found for each, then the channel is over.
  pub record TakesMore (channel : ℕ) (ended was starved : Bool) (old new : HostPass F W) (from to : OutgoingState) : Type 0 where
    pub calls : List (HostEntry W)
    pub made : MakesCalls calls old new
    pub ask : AllAskFor channel calls
    pub puts : PutsOn was starved (messages_for channel calls) from to
    pub over : ended ≡ true → starved ≡ false → EndsOver calls

  -- It made calls for messages of a channel until that was over. They were put to its half, in order, all of them where memory was found for each, and nothing waits there.
  pub record Sends (channel : ℕ) (starved : Bool) (old new : HostPass F W) (from to : OutgoingState) : Type 0 where
    pub calls : List (HostEntry W)
    pub made : MakesCalls calls old new
    pub ask : AllAskFor channel calls
    pub puts : PutsTo starved (messages_for channel calls) from to
    pub over : starved ≡ false → EndsOver calls
    pub none : to.pending ≡ []
