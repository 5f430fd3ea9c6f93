-- What a host's front does in its calls: calls of its core, calls of the table by its pass, and how that is renewed.
use Rattle.std.specs.Prelude.{◌≡◌, false, ℕ, List, [], ◌∷◌, ◌++◌, map, Some, Result, Ok}
use mathlib.Core.List.{IsPrefix}
use Rattle.rd_hello.specs.declared.end_fault.EndFault.{EndFault}
use Rattle.rd_host.specs.declared.act.Act.{Act}
use Rattle.rd_host.specs.Core.{HostCall, HostStep, hears, sends}
use Rattle.rd_table.specs.declared.calls.PendingCall.{PendingCall}
use Rattle.rd_table.specs.declared.calls.PendingReply.{PendingReply}
use Rattle.rd_table.specs.declared.calls.PendingReply.TheVariants as replied
use Rattle.rd_turn.specs.declared.object.Entry.{Entry}
use Rattle.rd_turn.specs.History.{entry}
use Rattle.rd_room.specs.Room.{MessageRoom}
use Rattle.rd_host_front.specs.declared.calls.HostFrontReply.{HostFrontReply}
use Rattle.rd_host_front.specs.declared.calls.HostFrontReply.TheVariants as reply
use Rattle.rd_host_front.specs.declared.calls.Stop.{Stop}
use Rattle.rd_host_front.specs.Asked.{CallMade, asked_by_answer, is_wanting}
use Rattle.rd_host_front.specs.State.{FrontPassCalls, HostFrontState, PassOfTable, Renews, RenewsBy}

-- What a front does: a call of its core; nothing of its core is to be sent any more; a call of the table by its own pass; that is joined to pass 0 and split
-- anew; and the same, with a call by pass 0 in between.
pub data HostPart : Type 0 where
  core : HostCall → HostPart
  cleared : HostPart
  own : PendingCall → PendingReply → HostPart
  renewed : HostPart
  first : PendingCall → PendingReply → HostPart

-- the core and the front's pass before a part, and after it
abbrev pub HostPartGoes : HostFrontState → HostPart → HostFrontState → Type 0
HostPartGoes old (core does) new = HostStep old.core does new.core × (new.table ≡ old.table)
HostPartGoes old cleared new = (new.core ≡ record old.core { core = record (old.core).core { outbox = [] } }) × (new.table ≡ old.table)
HostPartGoes old (own does back) new = (new.core ≡ old.core) × FrontPassCalls old.table does back new.table
HostPartGoes old renewed new = (new.core ≡ old.core) × (given : PassOfTable) × (last : PassOfTable) × Renews given old.table last new.table
HostPartGoes old (first does back) new = (new.core ≡ old.core) × (given : PassOfTable) × (last : PassOfTable) × RenewsBy does back given old.table last new.table

-- the same of parts, one after the other
abbrev pub HostPartsGo : HostFrontState → List HostPart → HostFrontState → Type 0
HostPartsGo old [] new = (new.core ≡ old.core) × (new.table ≡ old.table)
HostPartsGo old (part ∷ parts) new = (next : HostFrontState) × HostPartGoes old part next × HostPartsGo next parts new

-- ---- what parts tell

-- the calls of the table that they are, with their replies
abbrev pub made_by_part : HostPart → List CallMade
made_by_part (own does back) = (does, back) ∷ []
made_by_part (first does back) = (does, back) ∷ []
made_by_part _ = []

abbrev pub made_by_parts : List HostPart → List CallMade
made_by_parts [] = []
made_by_parts (part ∷ parts) = made_by_part part ++ made_by_parts parts

-- the messages that they hand out
abbrev pub handed_by_part : HostPart → List (List ℕ)
handed_by_part (core (sends (Some message))) = message ∷ []
handed_by_part (own does (replied.Sent (Some message))) = message ∷ []
handed_by_part _ = []

abbrev pub handed_by_parts : List HostPart → List (List ℕ)
handed_by_parts [] = []
handed_by_parts (part ∷ parts) = handed_by_part part ++ handed_by_parts parts

-- the messages that are heard in them
abbrev pub heard_by_part : HostPart → List (List ℕ)
heard_by_part (core (hears message (Ok asks))) = message ∷ []
heard_by_part _ = []

abbrev pub heard_by_parts : List HostPart → List (List ℕ)
heard_by_parts [] = []
heard_by_parts (part ∷ parts) = heard_by_part part ++ heard_by_parts parts

-- A history goes on from one to the other, and in what is added these calls stand in this order, with others before, between and behind them.
abbrev pub StandIn : List (Entry PendingCall PendingReply) → List CallMade → List (Entry PendingCall PendingReply) → Type 0
StandIn before [] after = IsPrefix before after
StandIn before (c ∷ calls) after = (added : List (Entry PendingCall PendingReply)) × (by : ℕ) × StandIn ((before ++ added) ++ entry by c.0 c.1 ∷ []) calls after

-- The front goes on by parts: the turn of the table stays; what its pass had seen it has seen then, and with the parts' calls in their order.
pub record FrontGoesOn (old new : HostFrontState) : Type 0 where
  pub turn : (new.table).turn ≡ (old.table).turn
  pub parts : List HostPart
  pub goes : HostPartsGo old parts new
  pub stand : StandIn ((old.table).pass).seen (made_by_parts parts) ((new.table).pass).seen

-- A writer is given the messages that the parts of its call hand out, in order, and nothing is heard in them.
pub record HandsOut {W : Type 0} (old : HostFrontState) (room : MessageRoom) (back : HostFrontReply W) (new : HostFrontState) : Type 0 where
  pub filled : MessageRoom
  pub why : Stop
  pub is : back ≡ reply.Messages filled why
  pub places : filled.places ≡ room.places
  pub parts : List HostPart
  pub goes : HostPartsGo old parts new
  pub handed : handed_by_parts parts ≡ filled.messages
  pub heard : heard_by_parts parts ≡ []

-- A message is heard by the core. Of the table the front's pass makes the calls that it asks for, and no others: all of them in order, or the first ones where no
-- memory was found. Nothing else is heard, and nothing is handed out.
pub record AsksTable {W : Type 0} (old : HostFrontState) (message : List ℕ) (back : HostFrontReply W) (new : HostFrontState) : Type 0 where
  pub answer : Result Act EndFault
  pub parts : List HostPart
  pub goes : HostPartsGo old (core (hears message answer) ∷ parts) new
  pub asked : IsPrefix (map (λ (c : CallMade). c.0) (made_by_parts parts)) (asked_by_answer answer)
  pub all : is_wanting back ≡ false → map (λ (c : CallMade). c.0) (made_by_parts parts) ≡ asked_by_answer answer
  pub handed : handed_by_parts parts ≡ []
  pub heard : heard_by_parts parts ≡ []
