-- What a recording says, channel by channel: the requests of the host, and what its client says of devices and requests.
use Rattle.std.specs.Prelude.{ℕ, Bool, List, [], Option}
use Rattle.rd_irp.specs.declared.completion.Kind.{Kind}
use Rattle.rd_decode.specs.Awaited.{AwaitedOf, none_awaited}
use Rattle.rd_decode.specs.Entries.{UnderWay, nothing_under_way}

-- a request: the entry of the recording that ended it, counted from 1, and, where it has a completion, the place of that among what the client says
pub record HeardRequest : Type 0 where
  pub entry : ℕ
  pub device : ℕ
  pub kind : Kind
  pub message : List ℕ
  pub completion : Option ℕ

-- what the client says: that devices are there, or gone; or it completes the request with this index, or none
pub data ClientSaid : Type 0 where
  announces removes : List ℕ → ClientSaid
  completes : Option ℕ → List ℕ → ClientSaid

-- the same, with the entry that ended its message
pub record Saying : Type 0 where
  pub entry : ℕ
  pub said : ClientSaid

-- a channel, and whether it ended
pub record HeardChannel : Type 0 where
  pub requests : List HeardRequest
  pub sayings : List Saying
  pub ended : Bool

-- The channel that is open: what each side has under way, what was heard on it, and of each pair the indices of the requests whose completions are still to come.
pub record Open : Type 0 where
  pub host : UnderWay
  pub client : UnderWay
  pub requests : List HeardRequest
  pub sayings : List Saying
  pub awaited : AwaitedOf ℕ

-- a channel that begins
abbrev pub fresh_open : Open
fresh_open = record { host = nothing_under_way; client = nothing_under_way; requests = []; sayings = []; awaited = none_awaited }

-- the channel, once nothing more is heard on it
abbrev pub closed : Bool → Open → HeardChannel
closed ended o = record { requests = o.requests; sayings = o.sayings; ended = ended }
