-- What came of each request, by what the host heard on its channel; no slot is named.
use Rattle.std.specs.Prelude.{◌≡◌, ℕ, ◌+◌, ◌==◌, ◌&&◌, Bool, false, if◌then◌else◌, List, [], ◌∷◌, ◌++◌, length, filter, Option, Some, None, Result, Ok, Err}
use Rattle.std.specs.Map.{lookup, remove_entry}
use Rattle.std.specs.Ordering.{nat_cmp}
use Rattle.std.specs.BTreeMap.{insert_entry, is_at}
use Rattle.std.specs.Option.{option_map_or, option_or}
use Rattle.rd_base.specs.declared.bad.Bad.{Bad}
use Rattle.rd_base.specs.declared.journal.Cause.TheVariants.{Removed, Dropped}
use Rattle.rd_base.specs.Layout.{met}
use Rattle.rd_base.specs.Position.{at_start}
use Rattle.rd_irp.specs.declared.completion.Body.{Body}
use Rattle.rd_irp.specs.declared.completion.Head.{Head}
use Rattle.rd_irp.specs.declared.op.Op.{Op}
use Rattle.rd_irp.specs.Completion.{completion_body}
use Rattle.rd_irp.specs.Fits.{kind_of}
use Rattle.rd_pending.specs.declared.calls.Outcome.{Outcome}
use Rattle.rd_pending.specs.declared.calls.Outcome.TheVariants.{Done, Lost}
use Rattle.rd_pending.specs.Table.{Fate, awaited, known}

-- What a host heard on a channel and took: a device that began a life, one that is gone, or a completion by its head and the bytes after it.
pub data Tidings : Type 0 where
  begins : ℕ → Tidings
  removes : ℕ → Tidings
  completes : Head → List ℕ → Tidings

-- what was heard on a channel so far: the lives of the devices that are there, how many lives were given, and the heads of the completions
pub record Course : Type 0 where
  pub lives : List (ℕ × ℕ)
  pub given : ℕ
  pub heads : List Head

-- a channel begins, before which so many lives were given
abbrev pub course_from : ℕ → Course
course_from given = record { lives = []; given = given; heads = [] }

abbrev pub going_on : Course → Tidings → Course
going_on c (begins device) = record c { lives = insert_entry nat_cmp c.lives device (c.given + 1); given = c.given + 1 }
going_on c (removes device) = record c { lives = remove_entry (is_at (nat_cmp device)) c.lives }
going_on c (completes head bytes) = record c { heads = c.heads ++ head ∷ [] }

-- A request that was accepted: who asked, on which channel and as which request there, counted from 0, of which device in which life, of which file of
-- it, under which completion id, and the operation.
pub record Accepted : Type 0 where
  pub application : ℕ
  pub channel : ℕ
  pub index : ℕ
  pub device : ℕ
  pub file : ℕ
  pub life : ℕ
  pub id : ℕ
  pub op : Op

-- whether a head, and whether a request, has this device and completion id
abbrev pub head_has_pair : ℕ → ℕ → Head → Bool
head_has_pair device id head = head.device == device && head.completion == id

abbrev pub is_accepted_as : ℕ → ℕ → ℕ → Accepted → Bool
is_accepted_as channel device id a = a.channel == channel && (a.device == device && a.id == id)

-- whether this life of the device goes on
abbrev pub is_in_life : Course → Accepted → Bool
is_in_life c a = option_map_or (λ life. life == a.life) (lookup (is_at (nat_cmp a.device)) c.lives) false

-- the reply that a completion of the request spells
abbrev pub reply_in : Accepted → Head → List ℕ → Option Outcome
reply_in a head bytes = by (met (completion_body (kind_of a.op) head.status) (at_start bytes))
  where
    by : {R : Type 0} → Result (Body × R) Bad → Option Outcome
    by (Ok read) = Some (Done (record { status = head.status; body = read.0 }))
    by (Err bad) = None

-- What ends a request before which so many with its device and completion id were accepted on the channel: its own completion, or the removal that
-- ends the life of its device.
abbrev pub ended_by : Accepted → ℕ → Course → Tidings → Option Outcome
ended_by a before c (begins device) = None
ended_by a before c (removes device) = if device == a.device && is_in_life c a then Some (Lost Removed) else None
ended_by a before c (completes head bytes) =
    if head_has_pair a.device a.id head && length (filter (head_has_pair a.device a.id) c.heads) == before then reply_in a head bytes
    else None

-- the first of what was heard that ends it
abbrev pub ended_in : Accepted → ℕ → Course → List Tidings → Option Outcome
ended_in a before c [] = None
ended_in a before c (h ∷ heard) = option_or (ended_by a before c h) (ended_in a before (going_on c h) heard)

-- how many requests with a request's channel, device and completion id were accepted before it
abbrev pub pairs_before : List Accepted → Accepted → ℕ
pairs_before earlier a = length (filter (is_accepted_as a.channel a.device a.id) earlier)

-- What came of a request after others, by what was heard on its channel, before which so many lives were given, and by whether the channel ended.
abbrev pub accepted_outcome : List Accepted → Accepted → ℕ → List Tidings → Bool → Option Outcome
accepted_outcome earlier a given heard ended =
    option_or (ended_in a (pairs_before earlier a) (course_from given) heard) (if ended then Some (Lost Dropped) else None)

-- What there is of an outcome agrees with one, or with none. Of one that was handed out nothing is kept.
abbrev pub Agrees : Option Fate → Option Outcome → Type 0
Agrees (Some awaited) outcome = outcome ≡ None
Agrees (Some (known o)) outcome = outcome ≡ Some o
Agrees None outcome = (o : Outcome) × (outcome ≡ Some o)
