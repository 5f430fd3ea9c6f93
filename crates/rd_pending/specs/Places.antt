-- Where a request goes, and which slot a completion is for.
use Rattle.std.specs.Prelude.{◌≡◌, ◌==◌, ◌<◌, if◌then◌else◌, Option, Some, None}
use Rattle.std.specs.Option.{option_and_then}
use Rattle.rd_irp.specs.declared.completion.Head.{Head}
use Rattle.rd_pending.specs.declared.calls.Target.{Target}
use Rattle.rd_pending.specs.declared.table.Place.{Place}
use Rattle.rd_pending.specs.Table.{Slot, TableState, device_in, life_of, max_slots, max_numbers, next_id, slot_for, submit_refusal}

-- A request is accepted, with this life of its device and this completion id.
pub record IsPlaceFor (t : TableState) (named : Target) (place : Place) : Type 0 where
  pub accepted : submit_refusal t named ≡ None
  pub life : life_of t (device_in named) ≡ Some place.life
  pub id : place.id ≡ next_id t
  pub low : place.id < max_slots
  pub unworn : t.count < max_numbers

-- the slot with a completion's id, if it is of the completion's device
abbrev pub slot_of_head : TableState → Head → Option Slot
slot_of_head t head = option_and_then (λ slot. if slot.device == head.device then Some slot else None) (slot_for t head.completion)
