-- A request that begins to wait, and those that wait on.
use Rattle.std.specs.Prelude.{◌≡◌, ◌≤◌, ◌∷◌, ◌++◌, Bool, true, List, [], map, vec_capacity, Result, Ok}
use Rattle.rd_base.specs.declared.status.Status.{Status}
use Rattle.rd_drive.specs.declared.waiting.Waiting as kept_waiting
use Rattle.rd_drive.specs.Answered.{parked_of}
use Rattle.rd_drive.specs.Device.{Parked}
use Rattle.rd_drive.specs.Store.{waiting_of}
use Rattle.rd_folder_drive.specs.declared.table.Table.{Table}
use Rattle.rd_folder_drive.specs.declared.table.Done.{Done}
use Rattle.rd_folder_drive.specs.declared.table.Done.TheVariants as done

-- The request waits after the others, and the room has not become less.
pub record IsParked (old new : Table) (waiting : kept_waiting.Waiting) (result : Done) : Type 0 where
  pub parked : result ≡ done.Parked
  pub same : new ≡ record old { waiting = new.waiting }
  pub items : (new.waiting).items ≡ (old.waiting).items ++ waiting ∷ []
  pub room : vec_capacity old.waiting ≤ vec_capacity new.waiting

-- the requests that wait, in the order in which they began to
abbrev pub parked_in : Table → List Parked
parked_in t = map parked_of (map waiting_of t.waiting.items)

-- Those wait that waited, and the operation isn't left waiting.
abbrev pub StaysWaiting : Table → Table → Result Done Status → Type 0
StaysWaiting old new (Ok done.Parked) = ⊥
StaysWaiting old new result = new.waiting ≡ old.waiting

-- An operation that is left waiting may wait, and does after the others; otherwise those wait that waited.
abbrev pub WaitsBy : Table → Table → Parked → Bool → Result Done Status → Type 0
WaitsBy old new last may (Ok done.Parked) = (may ≡ true) × (parked_in new ≡ parked_in old ++ last ∷ [])
WaitsBy old new last may result = new.waiting ≡ old.waiting
