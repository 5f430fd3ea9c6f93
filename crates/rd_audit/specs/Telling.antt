-- What a channel tells of its devices, as far as it was gone over, and how the code keeps it.
use Rattle.std.specs.Prelude.{◌≡◌, ℕ, ◌+◌, ◌==◌, if◌then◌else◌, Bool, true, false, List, [], ◌∷◌, ◌++◌, Option, Some, None, option_and_then, option_map, slice_get, unwrap_or}
use Rattle.std.specs.Map.{lookup}
use Rattle.std.specs.Option.{option_map_or}
use Rattle.std.specs.Ordering.{nat_cmp}
use Rattle.std.specs.BTreeMap.{is_at}
use Rattle.rd_recorded.specs.Channels.{HeardChannel, HeardRequest, Saying}
use Rattle.rd_audit.specs.declared.completions.Completion.{Completion}
use Rattle.rd_audit.specs.declared.completions.Told.{Told as Kept}
use Rattle.rd_audit.specs.declared.completions.Telling.{Telling}
use Rattle.rd_audit.specs.declared.course.Course.{Course}
use Rattle.rd_audit.specs.declared.journals.Replayed.{Replayed}
use Rattle.rd_audit.specs.Completions.{came_to, handed_at, has_come, is_told_of, is_gone, last_of, never_came_to, refused_to, removed_at}
use Rattle.rd_audit.specs.Replayed.{Account}
use Rattle.rd_audit.specs.Said.{status_in}

-- What is told of a device: whether it is gone; the entry of its last removal, and that of its journal which handed out the last completion; the requests to it
-- that never came, and how many of them are completed; and the last that came.
pub record Told : Type 0 where
  pub gone : Bool
  pub removed : ℕ
  pub sent : ℕ
  pub unserved : List ℕ
  pub served : ℕ
  pub came : Option ℕ

-- of a device of which nothing is said, and to which no request goes
abbrev pub nothing_told : Told
nothing_told = record { gone = true; removed = 0; sent = 0; unserved = []; served = 0; came = None }

-- by the definitions, behind what was said before, the newest first
abbrev pub told_before : Account → (number : ℕ) → List HeardRequest → List Saying → (device : ℕ) → Told
told_before r number requests before device = record {
  gone = is_gone r number requests device before;
  removed = removed_at r number requests device before;
  sent = handed_at r number requests device before;
  unserved = never_came_to r number requests device;
  served = refused_to r number requests device before;
  came = last_of (came_to r number requests device);
}

-- as the code keeps it
abbrev pub told_kept : Kept → Told
told_kept t = record { gone = t.gone; removed = t.removed; sent = t.sent; unserved = (t.unserved).items; served = t.served; came = t.came }

abbrev pub told_in_map : List (ℕ × Kept) → ℕ → Told
told_in_map kept device = option_map_or told_kept (lookup (is_at (nat_cmp device)) kept) nothing_told

abbrev pub told_in : Telling → ℕ → Told
told_in t = told_in_map (t.devices).entries

-- all that is kept is what the definitions say
abbrev pub HasTold : Account → (number : ℕ) → List HeardRequest → List Saying → Telling → Type 0
HasTold r number requests before t = (device : ℕ) → told_in t device ≡ told_before r number requests before device

-- after a device was told of
abbrev pub with_told : ℕ → Told → (ℕ → Told) → ℕ → Told
with_told device told tellings d = if device == d then told else tellings d

-- after devices were announced, and after they were removed by a message that an entry ended
abbrev pub told_announced : List ℕ → Told → ℕ → Told
told_announced ids told device = if is_told_of device ids then record told { gone = false } else told

abbrev pub told_removed : List ℕ → (entry : ℕ) → Told → ℕ → Told
told_removed ids entry told device = if is_told_of device ids then record told { gone = true; removed = entry } else told

-- after a request to it with an index, of which this came
abbrev pub told_asked : ℕ → Course → Told → Told
told_asked index course told = if has_come course then record told { came = Some index } else record told { unserved = told.unserved ++ index ∷ [] }

-- of the channel at a place, what came of its requests is kept, and how many entries each journal has
pub record KeepsChannel (r : Account) (place : ℕ) (c : HeardChannel) (kept : Replayed) : Type 0 where
  pub courses : (index : ℕ) → option_and_then (λ k. slice_get k index) (slice_get kept.courses place)
      ≡ option_map (λ a. r.courses (record { channel = place + 1; index = index })) (slice_get c.requests index)
  pub counts : (device : ℕ) → unwrap_or (lookup (is_at (nat_cmp device)) kept.counts.entries) 0 ≡ r.counts device

-- a request of the channel at a place, and its completion by this message
pub record CompletesAt (r : Account) (place : ℕ) (c : HeardChannel) (a : HeardRequest) (completion : Completion) (message : List ℕ) (kept : Replayed) : Type 0 where
  pub keeps : KeepsChannel r place c kept
  pub asked : slice_get c.requests completion.index ≡ Some a
  pub status : (completion.status).0 ≡ status_in message
