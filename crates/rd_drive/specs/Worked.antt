-- A drive in use, for worked cases.
use Rattle.std.specs.Prelude.{ℕ, ◌+◌, false, List, [], ◌∷◌, map, codes, replicate, Some, None}
use Rattle.std.specs.List.{range_with_len}
use Rattle.rd_base.specs.declared.journal.Key.{Key}
use Rattle.rd_base.specs.declared.status.Status.{Status}
use Rattle.rd_irp.specs.declared.op.Op.{Op}
use Rattle.rd_irp.specs.declared.op.Op.TheVariants as op
use Rattle.rd_irp.specs.declared.op.Range.{Range}
use Rattle.rd_irp.specs.declared.completion.Body.{Body}
use Rattle.rd_dirinfo.specs.declared.naming.Naming.{Naming}
use Rattle.rd_dirinfo.specs.Patterns.{any_name}
use Rattle.rd_drive.specs.declared.step.Step.{Step}
use Rattle.rd_drive.specs.declared.step.Step.TheVariants as step
use Rattle.rd_drive.specs.declared.step.End.{End}
use Rattle.rd_drive.specs.DriveState.{DriveState, Notice, opening}
use Rattle.rd_drive.specs.Outcome.{done, fault}
use Rattle.rd_drive.specs.DriveStep.{drive_step}

-- the key of the request at a place
abbrev pub key : ℕ → Key
key n = record { channel = 1; index = n }

-- what comes of requests that follow each other, each a file id and an operation at a moment of its own: answers, and ends by their keys
abbrev pub played_from : ℕ → DriveState → List (ℕ × Op) → List (Step × List End)
played_from n s [] = []
played_from n s (ask ∷ asks) =
    let r = drive_step s (key n) ask.0 ask.1 (100 + n) in
    (r.answer, r.ends) ∷ played_from (n + 1) r.state asks

abbrev pub played : DriveState → List (ℕ × Op) → List (Step × List End)
played = played_from 0

-- the state after them
abbrev pub state_from : ℕ → DriveState → List (ℕ × Op) → DriveState
state_from n s [] = s
state_from n s (ask ∷ asks) = state_from (n + 1) (drive_step s (key n) ask.0 ask.1 (100 + n)).state asks

-- done, and no request that waited ended
abbrev pub ok : Body → Step × List End
ok body = (step.Reply (done body), [])

-- refused
abbrev pub no_but : Status → Step × List End
no_but status = (step.Reply (fault status), [])

-- done, and these ended
abbrev pub ok_with : Body → List End → Step × List End
ok_with body ends = (step.Reply (done body), ends)

-- it waits
abbrev pub parked : Step × List End
parked = (step.Parked, [])

-- the end of a request that waited, done or not
abbrev pub ended : ℕ → Body → End
ended n body = record { key = key n; reply = done body }

abbrev pub ended_with : ℕ → Status → End
ended_with n status = record { key = key n; reply = fault status }

-- a file `a` with the bytes of "hello", and a folder `d` with an empty file `x`
abbrev pub sample : Naming → DriveState
sample naming = opening naming (codes "DATA") ((codes "a" ∷ [], Some (codes "hello")) ∷ (codes "d" ∷ [], None) ∷ (codes "d" ∷ codes "x" ∷ [], Some []) ∷ [])

-- a Create of a path with this disposition and these options, for all access and shared by all
abbrev pub creates : ℕ → ℕ → List ℕ → ℕ × Op
creates disposition options path = (0, op.Create 0x1000_0000 0 0 7 disposition options path)

-- what is there is opened so
abbrev pub opens : List ℕ → ℕ × Op
opens = creates 1 0

-- some bytes of a file
abbrev pub bytes : ℕ → ℕ → Range
bytes offset length = record { offset = offset; length = length }

-- the drive with so many handles on its root, from the file id 1 on
abbrev pub with_handles : DriveState → ℕ → DriveState
with_handles s count = record s {
  handles = map (λ file. (file, record { path = []; access = 0; share = 0; delete_on_close = false; pattern = any_name; last = None })) (range_with_len 1 count);
  next = count + 1;
}

-- the drive with so many requests that wait for a change in the folder of a file id
abbrev pub with_waiting : DriveState → ℕ → ℕ → DriveState
with_waiting s file count = record s { waiting = map (λ n. record { key = key n; file = file; wish = Notice false 1 }) (range_with_len 0 count) }

-- the drive with so many shared locks of a file id on one byte
abbrev pub with_locks : DriveState → ℕ → ℕ → DriveState
with_locks s file count = record s { locks = replicate count (record { file = file; exclusive = false; range = bytes 0 1 }) }
