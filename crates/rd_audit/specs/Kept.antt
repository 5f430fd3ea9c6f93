-- How the code keeps what came of requests.
use Rattle.std.specs.Prelude.{◌≡◌, ℕ, zero, suc, ◌+◌, Bool, IsTrue, if◌then◌else◌, List, [], Option, Some, None, Result, Ok, Err, count_by, map, slice_get, slice_set, option_and_then, option_map, unwrap_or}
use Rattle.std.specs.Option.{option_map_or}
use Rattle.std.specs.Map.{lookup}
use Rattle.std.specs.Ordering.{nat_cmp}
use Rattle.std.specs.BTreeMap.{is_at}
use Rattle.rd_base.specs.declared.journal.Key.{Key}
use Rattle.rd_declared.specs.Devices.{device_parked}
use Rattle.rd_drive.specs.Device.{Parked}
use Rattle.rd_drive.specs.Replies.{KeyedReply}
use Rattle.rd_base.specs.declared.journal.Item.{Item}
use Rattle.rd_lawful.specs.Rules.{key_is}
use Rattle.rd_recorded.specs.Channels.{HeardChannel}
use Rattle.rd_audit.specs.declared.course.Course.{Course}
use Rattle.rd_audit.specs.declared.course.Given.TheVariants as given
use Rattle.rd_audit.specs.declared.journals.Replayed.{Replayed}
use Rattle.rd_audit.specs.declared.replay.Replay.{Replay}
use Rattle.rd_audit.specs.declared.verdict.Verdict.{Verdict}
use Rattle.rd_audit.specs.Replayed.{Account, DeviceSoFar, agrees, course_after, heard_at, is_said, last_reply, with_number, standing_after}

-- of lists of courses, one a channel, that of a key's request
abbrev pub course_kept_at : List (List Course) → Key → Option Course
course_kept_at courses key = option_and_then (λ (c : List Course). slice_get c key.index) (with_number courses key.channel)

-- there is a course for each request of the recording and no other, and it is that of its key
abbrev pub KeepsCourses : List HeardChannel → (Key → Course) → List (List Course) → Type 0
KeepsCourses channels courses kept = (key : Key) → course_kept_at kept key ≡ option_map (λ a. courses key) (heard_at channels key)

-- the place of a key's channel, and of its request among the channel's
abbrev pub places_by : ℕ → ℕ → Option (ℕ × ℕ)
places_by zero index = None
places_by (suc place) index = Some (place, index)

abbrev pub key_places : Key → Option (ℕ × ℕ)
key_places key = places_by key.channel key.index

-- the course at an index, where there is one, is another; and that at an index of a channel's
abbrev pub with_item : ℕ → Course → List Course → List Course
with_item index course c = option_map_or (λ (old : Course). slice_set c index course) (slice_get c index) c

abbrev pub with_course : ℕ → ℕ → Course → List (List Course) → List (List Course)
with_course channel index course courses = option_map_or (λ (c : List Course). slice_set courses channel (with_item index course c)) (slice_get courses channel) courses

-- the course of a key is changed, if one is kept, and no other
abbrev pub Changes : Key → (Course → Course) → (old new : List (List Course)) → Type 0
Changes key change old new = (k : Key) → course_kept_at new k ≡ option_map (λ c. if key_is key k then change c else c) (course_kept_at old k)

-- what is given to requests by replies of an entry: each by the last that belongs to it
abbrev pub replies_given : List HeardChannel → ℕ → Bool → List KeyedReply → (Key → Course) → Key → Course
replies_given channels item cut replies courses key =
    record { given = option_map_or (λ reply. given.Reply item (is_said channels key reply) cut) (last_reply key replies) (courses key).given; sent = (courses key).sent }

-- replies of an entry are given
abbrev pub GivesReplies : List HeardChannel → ℕ → Bool → List KeyedReply → (old new : List (List Course)) → Type 0
GivesReplies channels item cut replies old new =
    (courses : Key → Course) → KeepsCourses channels courses old → KeepsCourses channels (replies_given channels item cut replies courses) new

-- how many entries the journal of a device has
abbrev pub counted_in : Replayed → ℕ → ℕ
counted_in kept device = unwrap_or (lookup (is_at (nat_cmp device)) kept.counts.entries) 0

-- all that is kept of an account
pub record KeepsAccount (channels : List HeardChannel) (account : Account) (kept : Replayed) : Type 0 where
  pub courses : KeepsCourses channels account.courses kept.courses
  pub counts : (device : ℕ) → counted_in kept device ≡ account.counts device

-- what comes of journals is kept, or is the same verdict
abbrev pub ComesOutAs : List HeardChannel → Result Account Verdict → Result Replayed Verdict → Type 0
ComesOutAs channels (Err v) came = came ≡ Err v
ComesOutAs channels (Ok account) came = (kept : Replayed) × (came ≡ Ok kept) × KeepsAccount channels account kept

-- a device stands where its journal leads: its code has the same state, and the keys that it remembers as waiting are those of the requests that wait in it
pub record ReplaysAs (replay : Replay) (d : DeviceSoFar) : Type 0 where
  pub device : replay.id ≡ d.device
  pub state : replay.device ≡ d.state
  pub count : replay.count ≡ d.count
  pub heard : replay.heard ≡ d.heard
  pub waiting : (key : Key) → count_by (key_is key) replay.waiting.items ≡ count_by (key_is key) (map (λ (p : Parked). p.key) (device_parked d.state))
  pub quiet : replay.ends ≡ []

-- the entry that a device goes over now is counted already
abbrev pub IsTaking : Replay → DeviceSoFar → Type 0
IsTaking replay d = ReplaysAs replay (record d { count = d.count + 1 })

-- A device went over an entry: whether that agrees with it, and where it does, the device stands after it, and what came of the requests is kept.
pub record TakesItem (channels : List HeardChannel) (d : DeviceSoFar) (entry : Item) (new : Replay) (before after : List (List Course)) (fits : Bool) : Type 0 where
  pub agreed : fits ≡ agrees channels d entry
  pub stands : IsTrue fits → ReplaysAs new (standing_after channels d entry)
  pub keeps : IsTrue fits → (courses : Key → Course) → KeepsCourses channels courses before → KeepsCourses channels (λ key. course_after channels d entry key (courses key)) after
