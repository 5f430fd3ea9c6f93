-- A table with other locks, and other requests that wait: it is sound still, and over the same nodes.
use Rattle.std.proofs.Common.{◌≡◌, ◌∙◌, sym, subst, ℕ, ◌≤◌, false, List, length, sum_by, Option, Some, None, Vec, Global, vec_capacity}
use Rattle.std.specs.List.{AllByRecursion}
use Rattle.std.specs.Option.{IfSome, IsSome}
use Rattle.rd_locks.specs.Locks.{LockList}
use Rattle.rd_drive.specs.declared.waiting.Waiting as kept_waiting
use Rattle.rd_drive.specs.DriveState.{Node}
use Rattle.rd_drive.specs.Settling.{is_closed_file}
use Rattle.rd_drive.specs.Store.{HasRoom, wish_ranges}
use Rattle.rd_folder_drive.specs.declared.handle.Handle as kept
use Rattle.rd_folder_drive.specs.declared.open.Open.{Open}
use Rattle.rd_folder_drive.specs.declared.table.Table.{Table}
use Rattle.rd_folder_drive.specs.Served.{IsOver, Seen}
use Rattle.rd_folder_drive.specs.Settling.{IsBeside}
use Rattle.rd_folder_drive.specs.Table.{HasNodes, IsHandle, IsOpened, IsSoundBut, kept_handle}
use Rattle.rd_folder_drive.proofs.LockLemmas.{IsHome}

-- a request that waits has its handle, if this wasn't closed, and room for what is told
abbrev pub IsWaiting : Option ℕ → Table → kept_waiting.Waiting → Type 0
IsWaiting closed t w = (is_closed_file closed w.file ≡ false → IsSome (kept_handle t w.file)) × HasRoom w.wish

module _ (t : Table) (locks : LockList) (waiting : Vec kept_waiting.Waiting Global) where
  abbrev pub beside : Table
  beside = record t { locks = locks; waiting = waiting }

  handle_beside : (file : ℕ) (h : kept.Handle) → IsHandle t file h → IsHandle beside file h
  handle_beside file h is = record { on = is.on; before = is.before; root = is.root }

  open_beside : (n : ℕ) (o : Open) → IsOpened t n o → IsOpened beside n o
  open_beside n o is = record { path = is.path; root = is.root; used = is.used; uses = is.uses; before = is.before }

  pub beside_sound : {closed : Option ℕ} → IsSoundBut closed t → (other : Option ℕ) → AllByRecursion (IsHome t) locks.locks → AllByRecursion (IsWaiting other t) waiting.items
      → locks.reserved ≡ sum_by (λ (w : kept_waiting.Waiting). wish_ranges w.wish) waiting.items → length waiting.items ≤ 64 → 64 ≤ vec_capacity waiting → IsSoundBut other beside
  beside_sound sound other homes waits reserved few room = record {
    label = sound.label;
    rising = sound.rising;
    handles = λ file h is. handle_beside file h (sound.handles file h is);
    opened = λ n o is. open_beside n o (sound.opened n o is);
    apart = sound.apart;
    locked = homes;
    waits = waits;
    reserved = reserved;
    few = (sound.few.0, few, room);
    ids = sound.ids;
  }

  pub beside_holds : (nodes : List Node) → HasNodes t nodes → HasNodes beside nodes
  beside_holds nodes holds = record { map = holds.map; there = holds.there }

-- other locks, and as many places reserved
pub locks_sound : {closed : Option ℕ} (t : Table) → IsSoundBut closed t → (locks : LockList) → locks.reserved ≡ t.locks.reserved → AllByRecursion (IsHome t) locks.locks → IsSoundBut closed (record t { locks = locks })
locks_sound {closed = closed} t sound locks same homes = beside_sound t locks t.waiting sound closed homes sound.waits (same ∙ sound.reserved) sound.few.1 sound.few.2

-- what is open is among the same nodes
pub holds_beside : (old new : Table) → IsBeside old new → (nodes : List Node) → HasNodes old nodes → HasNodes new nodes
holds_beside old new is nodes holds = subst (λ (t : Table). HasNodes t nodes) (sym is) (beside_holds old new.locks new.waiting nodes holds)

pub over_beside : (old new : Table) → IsBeside old new → (seen : Seen) → IsOver old seen → IsOver new seen
over_beside old new is seen over = by seen.told over
  where
    by : (told : Option (List Node)) → IfSome told (HasNodes old) → IfSome told (HasNodes new)
    by None none = tt
    by (Some nodes) holds = holds_beside old new is nodes holds
