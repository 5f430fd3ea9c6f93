-- What a client tells on its channels, by the journals of its devices.
use Rattle.std.specs.Prelude.{◌≡◌, ◌⊎◌, ℕ, ◌<◌, ◌≤◌, ◌==◌, ◌&&◌, not, if◌then◌else◌, Bool, true, false, List, [], ◌∷◌, ◌++◌, length, reverse, drop, filter, filter_map, Option, Some, None, All, Contains}
use Rattle.std.specs.List.{list_any}
use Rattle.std.specs.Option.{option_map_or}
use Rattle.rd_base.specs.declared.journal.Cause.{Cause}
use Rattle.rd_base.specs.declared.journal.Item.{Item}
use Rattle.rd_base.specs.declared.journal.Item.TheVariants.{Came, Cancelled, Sent, Cut}
use Rattle.rd_base.specs.declared.journal.Key.{Key}
use Rattle.rd_devices.specs.declared.list.Announce.{Announce}
use Rattle.rd_drive.specs.Outcome.{fault}
use Rattle.rd_drive.specs.Replies.{KeyedReply, cancellation}
use Rattle.rd_base.specs.Statuses.{insufficient_resources, no_such_device}
use Rattle.rd_irp.specs.declared.completion.Head.{Head}
use Rattle.rd_irp.specs.declared.completion.Reply.{Reply}
use Rattle.rd_irp.specs.declared.request.Request.{Request}
use Rattle.rd_irp.specs.Fits.{kind_of}
use Rattle.rd_irp.specs.Completion.{SpellsBody, SpellsHead}
use Rattle.rd_deeds.specs.Talk.{EachAfter, EndsWith, Deed, Has, announced_in, client_read, client_wrote, client_writes, completes, head_in, is_request, journal, on, removed_in, request_at, request_in, stores}

-- The replies that a device's journal gives, the oldest entry first: by the device's id.
abbrev pub Replies : Type 0
Replies = ℕ → List Item → List KeyedReply

-- ---- which completions there are

-- whether a message completes a request of a device
abbrev pub is_of_device : ℕ → List ℕ → Bool
is_of_device device message = option_map_or (λ (h : Head). h.device == device) (head_in message) false

-- the indices that the completions of a device answer on a channel
abbrev pub told_at : ℕ → ℕ → Deed → Option ℕ
told_at c device (completes key message) = if key.channel == c && is_of_device device message then Some key.index else None
told_at c device _ = None

abbrev pub told : ℕ → ℕ → List Deed → List ℕ
told c device deeds = filter_map (told_at c device) deeds

-- the indices on a channel that a journal sent, and whether the request with an index came
abbrev pub sent_at : ℕ → Item → Option ℕ
sent_at c (Sent key) = on c key.channel key.index
sent_at c _ = None

abbrev pub sent : ℕ → List Item → List ℕ
sent c items = filter_map (sent_at c) items

abbrev pub came_as : ℕ → ℕ → Item → Bool
came_as c index (Came key) = key.channel == c && key.index == index
came_as c index _ = false

abbrev pub came : ℕ → List Item → ℕ → Bool
came c items index = list_any (came_as c index) items

-- the indices of the requests to a device
abbrev pub requests_to : ℕ → List (List ℕ) → List ℕ
requests_to device [] = []
requests_to device (message ∷ older) =
    if is_request message && option_map_or (λ (r : Request). r.device == device) (request_in message) false
    then length (filter is_request older) ∷ requests_to device older
    else requests_to device older

-- the same without those that came
abbrev pub unserved : ℕ → ℕ → List Deed → List ℕ → List ℕ
unserved c device deeds indices = filter (λ index. not (came c (journal device deeds) index)) indices

-- ---- what each of them says

-- the message completes this request with this reply: it has the request's device and completion id, and a body of its layout
pub record CompletesWith (r : Request) (reply : Reply) (message : List ℕ) : Type 0 where
  pub head : SpellsHead (record { device = r.device; completion = r.completion; status = reply.status }) (length (drop 16 message)) message
  pub tail : ℕ
  pub body : SpellsBody (kind_of r.op) reply.status reply.body tail (drop 16 message)

-- what was last said of a device, on what a client wrote, is that it is gone, or nothing was said
abbrev pub is_said_gone : ℕ → List (List ℕ) → Bool
is_said_gone device [] = true
is_said_gone device (message ∷ older) =
    if list_any (λ id. id == device) (removed_in message) then true
    else (if list_any (λ (a : Announce). a.id == device) (announced_in message) then false
    else is_said_gone device older)

-- the device was removed, on the channel of the key, after the read of its request
abbrev pub RemovedSince : ℕ → Key → Request → List Deed → Type 0
RemovedSince device key r before =
    (late early : List Deed) × (message : List ℕ) × (before ≡ late ++ client_writes key.channel message ∷ early)
    × (list_any (λ id. id == device) (removed_in message) ≡ true) × (request_at (client_read key.channel early) key.index ≡ Some r)

-- The reply belongs to the key by what its journal says before the key was sent; where it does so by a cut alone, the device was removed since.
pub record IsReplied (replies : Replies) (device : ℕ) (key : Key) (r : Request) (reply : Reply) (before : List Deed) : Type 0 where
  pub earlier : List Item
  pub later : List Item
  pub stands : reverse (journal device before) ≡ earlier ++ Sent key ∷ later
  pub given : Contains (replies device earlier) (key, reply)
  pub cut : (first last : List Item) (cause : Cause) → earlier ≡ first ++ Cut cause ∷ last → ¬ (Contains (replies device first) (key, reply))
      → Contains (replies device (first ++ Cut cause ∷ [])) (key, reply) → RemovedSince device key r before

-- the most entries of a journal before which no request is refused for it
abbrev pub worn_entries : ℕ
worn_entries = 16776957

-- Why a request that never came is answered: the client said last that its device is gone, or said nothing of it; or else its journal is worn, and no
-- later request to it on the channel came.
abbrev pub IsDirect : ℕ → Key → Reply → List Deed → Type 0
IsDirect device key reply before =
    ((is_said_gone device (client_wrote key.channel before) ≡ true) × (reply ≡ fault no_such_device))
    ⊎ ((is_said_gone device (client_wrote key.channel before) ≡ false) × (reply ≡ fault insufficient_resources)
    × (worn_entries ≤ length (journal device before))
    × ((later : ℕ) → came key.channel (journal device before) later ≡ true → later < key.index))

-- the answer to a key, by what was done before
abbrev pub IsAnswerAt : Replies → ℕ → Key → Request → Reply → List Deed → Type 0
IsAnswerAt replies device key r reply before =
    IsReplied replies device key r reply before
    ⊎ ((Has (Cancelled key) (journal device before) × (reply ≡ cancellation) × RemovedSince device key r before)
    ⊎ ((came key.channel (journal device before) key.index ≡ false) × IsDirect device key reply before))

-- A completion stands after the read of its request, has its device, completion id and layout, and is its answer.
abbrev pub Answers : Replies → List Deed → Deed → Type 0
Answers replies before (completes key message) =
    (r : Request) × (reply : Reply) × (request_at (client_read key.channel before) key.index ≡ Some r) × CompletesWith r reply message
    × IsAnswerAt replies r.device key r reply before
Answers replies before _ = Unit {0}

-- whether a message completes a request of a device by saying that its journal is worn
abbrev pub says_worn : ℕ → List ℕ → Bool
says_worn device message = option_map_or (λ (h : Head). h.device == device && (h.status).0 == insufficient_resources.0) (head_in message) false

-- A request comes only where no request before it on its channel was answered, without its device, by saying that the device's journal is worn.
abbrev pub ComesUnworn : List Deed → Deed → Type 0
ComesUnworn before (stores device (Came key)) = (k : Key) (message : List ℕ) → Has (completes k message) before → k.channel ≡ key.channel
    → says_worn device message ≡ true → came k.channel (journal device before) k.index ≡ false → key.index < k.index
ComesUnworn before _ = Unit {0}

-- What a client tells: of each device on each channel the completions of the keys that came are those that its journal sent, in its order; the others
-- are answers to the requests that never came, in the order of reading, up to some; and each is the answer to its own request.
pub record AreAnswered (replies : Replies) (deeds : List Deed) : Type 0 where
  pub sent_in_order : (c device : ℕ) → filter (came c (journal device deeds)) (told c device deeds) ≡ sent c (journal device deeds)
  pub direct_in_order : (c device : ℕ) →
      EndsWith (unserved c device deeds (requests_to device (client_read c deeds))) (unserved c device deeds (told c device deeds))
  pub answers : EachAfter (Answers replies) deeds
  pub comes : EachAfter ComesUnworn deeds

-- the messages that were read up to the last request, without it
abbrev pub without_last : List (List ℕ) → List (List ℕ)
without_last [] = []
without_last (message ∷ older) = if is_request message then older else without_last older

-- what is still to be written on a channel
abbrev pub IsLeft : ℕ → Deed → Type 0
IsLeft c (completes key message) = key.channel ≡ c
IsLeft c (client_writes channel message) = channel ≡ c
IsLeft c _ = ⊥

-- Each request on a channel that never came, but for the last request of all, was answered, by what was written or by what was still to be written
-- when the channel ended; the latter has the newest first.
pub record IsHeeded (replies : Replies) (c : ℕ) (deeds : List Deed) (rest : List Deed) : Type 0 where
  pub left : All (IsLeft c) rest
  pub each : (device : ℕ) →
      EndsWith (unserved c device deeds (told c device (rest ++ deeds))) (unserved c device deeds (requests_to device (without_last (client_read c deeds))))
  pub answers : EachAfter (Answers replies) (rest ++ deeds)
